-- Between entries nothing is left to give back or to cut.
use mathlib.Core.Path.{fun_ext}
use Rattle.std.proofs.Common.{◌≡◌, ℕ, Bool, true, false, eqb, not, ◌&&◌, List, refl, ap, ◌∙◌, arith}
use Rattle.com_refs_books.specs.Changes.{Books, given_back, cut}
use Rattle.com_refs_books.specs.Ends.{stays, ends}
use Rattle.com_refs_holders.specs.Tables.{Tables, books_of}
use Rattle.com_refs.specs.Counts.{IsCounted}
use Rattle.com_refs.specs.Totals.{Totals}
use Rattle.com_refs.proofs.Settling.{cut_none, one-test}

pub ends_none : (t : Tables) (holds : List ℕ) (n : ℕ) (places : ℕ → ℕ → ℕ) → given_back n places (books_of t) ≡ books_of t → IsCounted t holds → Totals n places t → ends n places (books_of t) ≡ books_of t
unfolding ends
ends_none t holds n places g c totals =
    ap (λ (b : Books). cut (stays n places (books_of t)) b) g
    ∙ ap (λ (l : ℕ → Bool). cut l (books_of t)) (fun_ext (λ x. one-test ((books_of t).live x) _ (λ l. let held = c.tidy x l in omega (arith, held, totals.total x)) ∙ keeps ((books_of t).live x) (eqb x 0)))
    ∙ cut_none t 0
  where
    keeps : (l e : Bool) → l ≡ l && not (e && false)
    keeps true true = refl
    keeps true false = refl
    keeps false e = refl
