-- What a ledger's ties to a state give a core.
use Rattle.std.proofs.Common.{◌≡◌, ℕ, subst, sym}
use Rattle.std.specs.Prelude.{[], ◌∷◌}
use Rattle.com_refs_rows.specs.Books.{Held, books_held}
use Rattle.com_ledger.specs.Ties.{AllTouched, IsNew, Ties}
use Rattle.com_ledger.proofs.Tied.{first-tied, holders-tie}
use Rattle.com_model.specs.declared.deeds.Deed.{Deed}
use Rattle.com_model.specs.declared.scenario.Scenario.{Scenario}
use Rattle.com_model.specs.Formed.{Formed}
use Rattle.com_model.specs.State.{State, after, books_in, first_tables, objects_in}
use Rattle.com_objects.specs.Settled.{Rise}
use Rattle.com_core.specs.Beginning.{BeginsParts}
use Rattle.com_core.specs.Making.{BooksLater}
use Rattle.com_core.specs.Seen.{CoreView, IsFirst, IsWhole, core_state}
use Rattle.com_core.proofs.Entries.{new_stands}

-- A ledger that is tied to the state after an entry, and has written down what lost its last holder, has the books of that state.
pub books_later : (s : Scenario) (st : State) (l : ℕ) (d : Deed) (u : Held) → Ties s (after s st l d) u → AllTouched s st (after s st l d) u.touched
    → Rise 0 u.touched (objects_in (after s st l d)) → BooksLater s st l d u
books_later s st l d u t a r = record {
  books = t.books;
  holders_are = λ o p. holders-tie s (after s st l d) u o t;
  touches = record { rise = r; all = λ o low z. a o low z.held z.none };
}

-- A new core is that of the first state.
pub new_core : (s : Scenario) (c : CoreView) → c.scenario ≡ s → BeginsParts s c.parts c.fallen → c.clock ≡ 0 → c.entered ≡ 0 ∷ [] → IsNew c.held → Formed s
    → IsFirst s c
new_core s c e h z n k f =
    let t : Ties s (first_tables s) c.held = first-tied s c.held k in
    let all : (x : Scenario) → c.scenario ≡ x → Formed x → BeginsParts x c.parts c.fallen → books_held c.held ≡ books_in (first_tables x) → (core_state c ≡ first_tables x) × IsWhole c =
    λ x q g p b. subst (λ (y : Scenario). (core_state c ≡ first_tables y) × IsWhole c) q
    (new_stands c (subst Formed (sym q) g) (subst (λ (y : Scenario). BeginsParts y c.parts c.fallen) (sym q) p) z n (subst (λ (y : Scenario). books_held c.held ≡ books_in (first_tables y)) (sym q) b)) in
    let r : (core_state c ≡ first_tables s) × IsWhole c = all s e f h t.books in
    record { state = r.0; whole = r.1; ties = t }
