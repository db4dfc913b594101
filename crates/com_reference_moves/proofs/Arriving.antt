-- What arrives, by the slots and links after the step.
use Rattle.std.proofs.Common.{ap, ◌∙◌, sym, subst, append_assoc}
use Rattle.std.specs.Prelude.{◌≡◌, ℕ, suc, cond, ◌==◌, List, [], ◌∷◌, ◌++◌, Option, Some}
use Rattle.com_body.specs.declared.frame.Outcome.{Outcome}
use Rattle.com_model.specs.declared.deeds.Deed.{Deed}
use Rattle.com_model.specs.Frames.{Actor}
use Rattle.com_model.specs.Lists.{one_to}
use Rattle.com_model.specs.State.{SceneTables}
use Rattle.com_laws_places.specs.Moves.{Move as Moving, all_moved}
use Rattle.com_reference_moves.specs.Steps.{links_stepped, links_of_step}
use Rattle.com_reference_moves.proofs.Lists.{append_none}

abbrev pub links_one : (named : ℕ → ℕ) → SceneTables → Actor → Option Outcome → Deed → (apartment object : ℕ) → List Moving
links_one n t a r d x o = cond (n o == x) (all_moved (Some x) (links_stepped t a r d o)) []

links-append : (n : ℕ → ℕ) (t : SceneTables) (a : Actor) (r : Option Outcome) (d : Deed) (x : ℕ) (os : List ℕ) (o : ℕ) → links_of_step n t a r d x (os ++ o ∷ []) ≡ links_of_step n t a r d x os ++ links_one n t a r d x o
links-append n t a r d x [] o = append_none (links_one n t a r d x o)
links-append n t a r d x (k ∷ os) o = ap (λ (ms : List Moving). links_one n t a r d x k ++ ms) (links-append n t a r d x os o) ∙ sym (append_assoc (links_one n t a r d x k) (links_of_step n t a r d x os) (links_one n t a r d x o))

-- One object more.
pub links_more : (before : List Moving) (n : ℕ → ℕ) (t : SceneTables) (a : Actor) (r : Option Outcome) (d : Deed) (x : ℕ) (k j : ℕ) → j ≡ suc k → (before ++ links_of_step n t a r d x (one_to k)) ++ links_one n t a r d x j ≡ before ++ links_of_step n t a r d x (one_to j)
links_more before n t a r d x k j e =
    subst (λ (i : ℕ). (before ++ links_of_step n t a r d x (one_to k)) ++ links_one n t a r d x i ≡ before ++ links_of_step n t a r d x (one_to i)) (sym e)
    (append_assoc before (links_of_step n t a r d x (one_to k)) (links_one n t a r d x (suc k))
    ∙ ap (λ (ms : List Moving). before ++ ms) (sym (links-append n t a r d x (one_to k) (suc k))))
