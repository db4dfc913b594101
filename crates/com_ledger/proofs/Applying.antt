-- An entry that was applied to a ledger which is tied to a state.
use Rattle.std.proofs.Common.{◌≡◌, sym, ap, ◌∙◌, subst, ℕ, Bool, ◌+◌, ◌<◌, ◌≤◌, List}
use Rattle.std.specs.Prelude.{Some}
use Rattle.com_classes.specs.Tables.{Tables as ClassTables}
use Rattle.com_refs_books.specs.Changes.{Books, entered_rows}
use Rattle.com_refs_books.specs.Ends.{ends}
use Rattle.com_refs_holders.specs.Places.{Counts}
use Rattle.com_refs_holders.specs.Tables.{owns_of}
use Rattle.com_model.specs.declared.deeds.Deed.{Deed}
use Rattle.com_model.specs.declared.deeds.Deed.TheVariants as deed
use Rattle.com_model.specs.declared.deeds.Entry.{Entry}
use Rattle.com_model.specs.declared.scenario.Scenario.{Scenario}
use Rattle.com_model.specs.Books.{kept, rows}
use Rattle.com_model.specs.Formed.{Formed}
use Rattle.com_model.specs.Lists.{number_or_zero}
use Rattle.com_model.specs.Objects.{makes}
use Rattle.com_model.specs.State.{State, StandsFor, after, next_of, next_sta_in, running_in, sight_of}
use Rattle.com_reference_moves.specs.declared.moves.Move.{Move}
use Rattle.com_reference_moves.specs.Steps.{movings_of}
use Rattle.com_reference_moves.specs.Tables.{moves_in}
use Rattle.com_laws_unchanged.specs.Ends.{connected}
use Rattle.com_refs.specs.Totals.{Totals}
use Rattle.com_state.specs.Parts.{named_at}
use Rattle.com_refs_rows.specs.Books.{Held, books_held}
use Rattle.com_refs_rows.specs.Entries.{Applied, Applies, Around, Carries, StandsAround, brings_to, entered, left_by, tally}
use Rattle.com_refs_rows.specs.Fits.{most_given}
use Rattle.com_refs_rows.specs.Owners.{Grown, OffersMore, owns_by}
use Rattle.com_ledger.specs.Ties.{AppliedAs, ObjectsGrow, ObjectsTie, Ties, books_by_rows, places_at}
use Rattle.com_ledger.proofs.Following.{objects-tie, stands-after, ties-after}
use Rattle.com_ledger.proofs.Within.{ends-applied, entered-below, running-below}

-- The apartment to which an entry's row brings places is below the number of the next one after it.
brings-below : (s : Scenario) (st : State) (h : List Entry) (l : ℕ) (d : Deed) (a : ℕ) → Formed s → StandsFor s st h → next_of s st l ≡ Some d → a ≡ number_or_zero (running_in s st l) → brings_to a d < next_sta_in (after s st l d)
brings-below s st h l (deed.Enter c o y t vs) a f p n run = entered-below s st h l c o y t vs f p n
brings-below s st h l d a f p n run = subst (λ (x : ℕ). x < next_sta_in (after s st l d)) (sym run) (running-below s st h l d f p n)

-- The rows beside the state are those by its calls and objects.
rows-around : (s : Scenario) (st : State) (l : ℕ) (d : Deed) (g : Around) (owned : ℕ → ℕ → Bool) (b : Books) → StandsAround s st l d g
    → entered s ((sight_of s st).act l) g owned d b ≡ books_by_rows s st l d owned b
rows-around s st l d g owned b a =
    λ i. connected d (named_at (a.objects i)) (kept b d (entered_rows owned b (rows s ((sight_of s st).act l) (left_by (a.calls i)) b (a.apartment i) d)))

objects-grow : (s : Scenario) (st : State) (l : ℕ) (d : Deed) (g : Around) (w u : Held) → StandsAround s st l d g → Grown g.classes (makes d) w.tables u.tables → ObjectsGrow s d w u
objects-grow s st l d g w u a grown = record {
  number = grown.number;
  owns = λ o c. grown.owns o c ∙ (λ i. owns_by (a.classes i) (makes d) o c (owns_of w.tables.objects o c));
}

-- What is said of an entry by what it was applied beside is what is said of it by the state.
applied-as : (s : Scenario) (st : State) (h : List Entry) (l : ℕ) (d : Deed) (g : Around) (gained lost : List Move) (w u : Held) → Formed s → StandsFor s st h → next_of s st l ≡ Some d
    → Ties s st w → StandsAround s st l d g → ((n : ℕ) (places : ℕ → ℕ → ℕ) → Counts n places u.tables → Totals n places u.tables)
    → Applied (λ owned. entered s ((sight_of s st).act l) g owned d (books_held w)) g d gained lost (tally w.tables w.calls) (tally u.tables u.calls)
    → AppliedAs s st l d gained lost w u
applied-as s st h l d g gained lost w u f p n t a totals x =
    let e : Entry = record { lane = l; deed = d } in
    let low : brings_to g.apartment d < next_sta_in (after s st l d) = brings-below s st h l d g.apartment f p n a.apartment in
    let objects : ObjectsTie s (after s st l d) u = objects-tie s st (after s st l d) h e w u p (stands-after s st h l d f p n) t.objects (objects-grow s st l d g w u a x.objects) in
    record {
      owned = x.owned;
      others = x.owns;
      made = λ m is. x.exact m.object (number_or_zero (running_in s st l)) ∙ objects.owns m.object (number_or_zero (running_in s st l));
      counts = λ gs ls unmade counts moved. x.counts (next_sta_in (after s st l d)) (places_at s st) (places_at s (after s st l d)) low gs ls unmade counts moved;
      books = λ gs ls unmade counts moved. x.books (next_sta_in (after s st l d)) (places_at s st) (places_at s (after s st l d)) low gs ls unmade counts moved
          ∙ ap (λ (b : Books). ends (next_sta_in (after s st l d)) (places_at s (after s st l d)) b) (rows-around s st l d g x.owned (books_held w) a);
      totals = totals;
    }

pub applied-ties : (s : Scenario) (st : State) (h : List Entry) (l : ℕ) (d : Deed) (g : Around) (gained lost : List Move) (w u : Held) → Formed s → StandsFor s st h → next_of s st l ≡ Some d
    → movings_of gained ≡ (moves_in s st (record { lane = l; deed = d })).gained → movings_of lost ≡ (moves_in s st (record { lane = l; deed = d })).lost
    → Ties s st w → StandsAround s st l d g → ((n : ℕ) (places : ℕ → ℕ → ℕ) → Counts n places u.tables → Totals n places u.tables)
    → OffersMore g.classes (makes d) w.tables u.tables → u.tables.issued ≤ w.tables.issued + most_given → Applies g d gained lost (tally w.tables w.calls) (tally u.tables u.calls) → Ties s (after s st l d) u
applied-ties s st h l d g gained lost w u f p n moved gone t a totals more given applies =
    let carries : Carries s ((sight_of s st).act l) (books_held w) d g.carried = subst (λ (b : Books). Carries s ((sight_of s st).act l) b d g.carried) (sym t.books) a.carried in
    let x : Applied (λ owned. entered s ((sight_of s st).act l) g owned d (books_held w)) g d gained lost (tally w.tables w.calls) (tally u.tables u.calls) = applies s ((sight_of s st).act l) carries in
    ties-after s st h l d w u f p n t (record {
      ended = ends-applied s st h l d gained lost w u f p n moved gone t (applied-as s st h l d g gained lost w u f p n t a totals x);
      objects = objects-grow s st l d g w u a x.objects;
      offers = subst (λ (k : ClassTables). OffersMore k (makes d) w.tables u.tables) a.classes more;
      calls = x.calls l;
      issued = given;
    })
