-- What a new packet takes.
use Rattle.std.specs.Prelude.{ℕ, ◌/◌, Bool, false, ◌==◌, ◌||◌, if◌then◌else◌, nat_le, List, [], ◌∷◌}
use Rattle.com_refs_books.specs.Changes.{Books}
use Rattle.com_base.specs.declared.limits.TheConstants.{PUBLIC_REFERENCES}
use Rattle.com_base.specs.declared.value.MarshalMode.{MarshalMode}
use Rattle.com_base.specs.declared.value.MarshalMode.TheVariants as marshal
use Rattle.com_proxy.specs.declared.ProxyRow.{ProxyRow}
use Rattle.com_proxy.specs.Rows.{split_rows}
use Rattle.com_stub.specs.declared.counters.CounterRow.{CounterRow}
use Rattle.com_stub.specs.CounterRows.{changed_counter, more}

-- the references of a packet that an apartment makes whose proxy has n
unfoldable pub minted : (owned : Bool) → MarshalMode → ℕ → ℕ
minted owned marshal.Normal n = if owned then PUBLIC_REFERENCES else if nat_le 2 n then n / 2 else PUBLIC_REFERENCES
minted owned marshal.Strong n = 1
minted owned marshal.Weak n = 0

unfoldable pub minted_counters : (owned : Bool) → MarshalMode → (n o i : ℕ) → List CounterRow
    → List CounterRow
minted_counters owned marshal.Normal n o i rs =
    if owned then changed_counter (more PUBLIC_REFERENCES) o i rs else if nat_le 2 n then rs
    else changed_counter (more PUBLIC_REFERENCES) o i rs
minted_counters owned marshal.Strong n o i rs = changed_counter (more 1) o i rs
minted_counters owned marshal.Weak n o i rs = changed_counter (more 0) o i rs

unfoldable pub minted_rows : (owned : Bool) → MarshalMode → (a o i : ℕ) → List ProxyRow → List ProxyRow
minted_rows owned marshal.Normal a o i rs = if owned then rs else split_rows a o i rs
minted_rows owned _ a o i rs = rs

-- The books once an object was made, before anything holds it.
abbrev pub made_live : ℕ → Books → Books
made_live o b = record b { live = λ x. x == o || b.live x }

-- Whether an interface is one of the set.
abbrev pub among : ℕ → List ℕ → Bool
among i [] = false
among i (x ∷ set) = x == i || among i set
