-- What the row brought, and all that comes to places, is held once.
use Rattle.std.proofs.Common.{◌≡◌, ℕ, zero, suc, length, take, get_or, get_or-take, refl, ◌<◌, ◌≤◌, List, [], ◌∷◌, ◌++◌, sym, ap, subst, ◌∙◌, arith}
use Rattle.com_refs_books.specs.Changes.{Books}
use Rattle.com_refs_books.specs.Ends.{ends}
use Rattle.com_refs_holders.specs.Places.{Counts}
use Rattle.com_refs_holders.specs.Tables.{Tables, books_of}
use Rattle.com_reference_moves.specs.declared.moves.Move.{Move}
use Rattle.com_refs.proofs.Ends.{ends_again}
use Rattle.com_refs_rows.specs.Books.{Exchanged}
use Rattle.com_refs_rows.specs.Moving.{moves_at, plus, AllBelow, Ended}
use Rattle.com_refs_rows.proofs.Gaining.{moves_append, below_right}
use Rattle.com_refs_rows.specs.Owners.{AsOwned}
use Rattle.com_refs_rows.proofs.Owning.{owned_then}
use Rattle.com_refs_rows.proofs.Placed.{same_counts}

pub whole_taken : (ms : List Move) (k : ℕ) → length ms ≤ k → take k ms ≡ ms
whole_taken [] zero h = refl
whole_taken [] (suc k) h = refl
whole_taken (m ∷ ms) zero h = absurd (omega (arith, h))
whole_taken (m ∷ ms) (suc k) h = ap (λ (l : List Move). m ∷ l) (whole_taken ms k (omega (arith, h)))

pub exchanged_kept : (brought rest gained : List Move) (t u : Tables) → brought ++ rest ≡ gained → AsOwned t u → books_of u ≡ books_of t
    → ((n : ℕ) (places : ℕ → ℕ → ℕ) → AllBelow n rest → Counts n places t → Counts n (plus places rest) u) → Exchanged brought gained t u
exchanged_kept brought rest gained t u e owned same grown = record {
  objects = owned;
  none = λ empty. same;
  counts = λ n places bs gs counts.
      same_counts n (plus (plus places brought) rest) (plus places gained) u (λ c x. omega (arith, moves_append brought rest c x, ap (λ (l : List Move). moves_at l c x) e))
      (grown n (plus places brought) (below_right n brought rest (subst (λ (l : List Move). AllBelow n l) (sym e) gs)) counts);
  books = λ n places later bs gs counts le. ap (λ (b : Books). ends n later b) same;
}

pub exchanged_again : (brought gained : List Move) (t v u : Tables) → (brought ≡ [] → ⊥) → AsOwned t v → AsOwned v u → books_of v ≡ books_of t
    → ((n : ℕ) (places : ℕ → ℕ → ℕ) → AllBelow n gained → Counts n places t → Counts n (plus places gained) v)
    → ((n : ℕ) (later : ℕ → ℕ → ℕ) → AllBelow n brought → Counts n (plus later brought) v → Ended n later v u) → Exchanged brought gained t u
exchanged_again brought gained t v u some first then same grown ends-all = record {
  objects = owned_then t v u first then;
  none = λ empty. absurd (some empty);
  counts = λ n places bs gs counts. (last n places bs gs counts).counts;
  books = λ n places later bs gs counts le.
      ap (λ (b : Books). ends n later b) ((last n places bs gs counts).books ∙ ap (λ (b : Books). ends n (plus places gained) b) same)
      ∙ ends_again n (plus places gained) later (books_of t) le;
}
  where
    last : (n : ℕ) (places : ℕ → ℕ → ℕ) → AllBelow n brought → AllBelow n gained → Counts n (plus places brought) t → Ended n (plus places gained) v u
    last n places bs gs counts =
        ends-all n (plus places gained) bs
        (same_counts n (plus (plus places brought) gained) (plus (plus places gained) brought) v (λ c x. omega arith) (grown n (plus places brought) gs counts))

-- What stands first in a list is the same at each place.
pub first_same : (brought gained : List Move) (k : ℕ) (d : Move) → k < length brought → take (length brought) gained ≡ brought → get_or gained k d ≡ get_or brought k d
first_same brought gained k d h e = sym (get_or-take (length brought) gained k d h) ∙ ap (λ (ms : List Move). get_or ms k d) e
