-- Places that moves bring and take, and what an entry's losses do to the books.
use Rattle.std.specs.Prelude.{◌≡◌, ℕ, ◌+◌, ◌<◌, ◌≤◌, true, ◌==◌, ◌&&◌, List, [], ◌∷◌, length, slice_index_or}
use Rattle.com_base.specs.declared.value.RefValue.{RefValue}
use Rattle.com_refs_books.specs.Counting.{count_if}
use Rattle.com_refs_books.specs.Ends.{ends}
use Rattle.com_refs_holders.specs.Places.{Counts}
use Rattle.com_refs_holders.specs.Tables.{Tables, books_of, offers}
use Rattle.com_model.specs.Lists.{is_member}
use Rattle.com_reference_moves.specs.declared.moves.Move.{Move}
use Rattle.com_refs.specs.Counts.{holders_of}

-- How many of the moves are at an apartment and an object.
abbrev pub moves_at : List Move → (apartment object : ℕ) → ℕ
moves_at [] c x = 0
moves_at (m ∷ ms) c x = count_if (c == m.apartment && x == m.reference.object) + moves_at ms c x

-- Places, and moves beside them.
abbrev pub plus : (ℕ → ℕ → ℕ) → List Move → (apartment object : ℕ) → ℕ
plus places ms c x = places c x + moves_at ms c x

-- Each move is of an apartment with a number below this one.
abbrev pub AllBelow : ℕ → List Move → Type 0
AllBelow n [] = Unit {0}
AllBelow n (m ∷ ms) = (m.apartment < n) × AllBelow n ms

-- What is read behind the end of a list of moves: a reference to object 0, which is never made.
abbrev pub no_move : Move
no_move = record { apartment = 0; reference = record { object = 0; iface = 0 } }

-- Each reference is of an interface in its object's set.
abbrev pub AllOffered : Tables → List Move → Type 0
AllOffered t ms = (k : ℕ) → k < length ms
    → offers t (slice_index_or ms k no_move).reference.object (slice_index_or ms k no_move).reference.iface
    ≡ true

-- Each reference without a place is of an interface in its object's set.
abbrev pub AllKnown : Tables → List RefValue → Type 0
AllKnown t rs = (k : ℕ) → k < length rs
    → offers t (slice_index_or rs k no_move.reference).object (slice_index_or rs k no_move.reference).iface
    ≡ true

-- Places were lost: these are left, and the books are at their end for them.
pub record Ended (n : ℕ) (later : ℕ → ℕ → ℕ) (before after : Tables) : Type 0 where
  pub counts : Counts n later after
  pub books : books_of after ≡ ends n later (books_of before)

-- Each object that had a holder and has none any more was written down, and nothing that was is missing.
pub record Touches (t u : Tables) (before after : List ℕ) : Type 0 where
  pub kept : (o : ℕ) → is_member o before ≡ true → is_member o after ≡ true
  pub all : (o : ℕ) → 0 < holders_of t o → holders_of u o ≡ 0 → is_member o after ≡ true

-- No object has fewer holders than before.
abbrev pub HoldsMore : (t u : Tables) → Type 0
HoldsMore t u = (o : ℕ) → holders_of t o ≤ holders_of u o

-- What lost its last holder was written down, where places are counted.
abbrev pub TouchesCounted : (t u : Tables) → (before after : List ℕ) → Type 0
TouchesCounted t u xs ys = (n : ℕ) (places : ℕ → ℕ → ℕ) → Counts n places t → Touches t u xs ys

-- Each number is at least the first one given, and above those before it.
abbrev pub Climbs : (low : ℕ) → List ℕ → Type 0
Climbs low [] = Unit {0}
Climbs low (x ∷ xs) = (low ≤ x) × Climbs (x + 1) xs
