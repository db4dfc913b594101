-- The statuses of a judgement and of a move.
use Rattle.std.proofs.Common.{ap, subst, sym, ◌∙◌, inl, inr}
use Rattle.std.specs.Prelude.{◌≡◌, ◌↔◌, refl, ℕ, Bool, true, false, List, Option, Some, None, drop}
use Rattle.com_model.specs.declared.scenario.Scenario.{Scenario}
use Rattle.com_model.specs.Formed.{Formed}
use Rattle.com_check.specs.declared.judged.Judged.{Judged}
use Rattle.com_check.specs.declared.judged.Judged.TheVariants as judged
use Rattle.com_check.specs.Agreeing.{IsOther}
use Rattle.com_commands.specs.declared.statuses.Status.{Status}
use Rattle.com_commands.specs.declared.statuses.Status.TheVariants as status
use Rattle.com_command_migrate.specs.declared.answers.Moved.{Moved}
use Rattle.com_command_migrate.specs.declared.inputs.Moving.{Moving}
use Rattle.com_command_migrate.specs.Answers.{IsMovedWith}
use Rattle.com_command_migrate.specs.Migrating.{IsMigrated}
use Rattle.com_command_migrate.specs.Migrating as migrating
use Rattle.com_command_check.specs.declared.questions.Question.{Question}
use Rattle.com_command_check.specs.Checking.{IsVerdict}
use Rattle.com_command_check.specs.Checking as checking
use Rattle.com_laws_check.specs.Exact.{IsWhole}
use Rattle.com_laws_check.proofs.Exact.{text-whole, judged-agrees}
use Rattle.com_laws_status.specs.Whole.{IsWholeTrace}

-- ---- check

two-statuses : status.Done ≡ status.Differs → ⊥
two-statuses e = cc

done-agrees : (j : Judged) → checking.status_of j ≡ status.Done → j ≡ judged.Agrees
done-agrees judged.Agrees e = refl
done-agrees (judged.Differs line found legal) e = absurd (two-statuses (sym e))

differs-other : (s : Scenario) (trace : List ℕ) (j : Judged) → IsWhole s trace ↔ (j ≡ judged.Agrees) → (IsWhole s trace → ⊥) → checking.status_of j ≡ status.Differs
differs-other s trace judged.Agrees b f = absurd (f (b.1 refl))
differs-other s trace (judged.Differs line found legal) b f = refl

pub checked-done : (q : Question) (s : Status) (text : List ℕ) → Formed q.scenario → IsVerdict q s text → (s ≡ status.Done) ↔ IsWhole q.scenario (drop q.from q.text)
checked-done q s text f v =
    let b : (v.verdict ≡ judged.Agrees) ↔ IsWhole q.scenario (drop q.from q.text) = judged-agrees q.scenario (drop q.from q.text) v.verdict f v.is in
    (λ e. b.0 (done-agrees v.verdict (sym v.status_is ∙ e)), λ w. v.status_is ∙ ap checking.status_of (b.1 w))

pub checked-differs : (q : Question) (s : Status) (text : List ℕ) → Formed q.scenario → IsVerdict q s text → (s ≡ status.Differs) ↔ (IsWhole q.scenario (drop q.from q.text) → ⊥)
checked-differs q s text f v =
    let b : (v.verdict ≡ judged.Agrees) ↔ IsWhole q.scenario (drop q.from q.text) = judged-agrees q.scenario (drop q.from q.text) v.verdict f v.is in
    (λ e w. two-statuses (sym (v.status_is ∙ ap checking.status_of (b.1 w)) ∙ e), λ g. v.status_is ∙ differs-other q.scenario (drop q.from q.text) v.verdict (b.1, b.0) g)

-- ---- migrate

not-other : (j : Judged) → IsOther j → j ≡ judged.Agrees → ⊥
not-other j p e = subst IsOther e p

-- What a moved trace says of whether it agrees.
pub moved-agrees : (s : Scenario) (t : Option (List ℕ)) (before : List ℕ) (m : Moved) → Formed s → IsMovedWith s t before m → (m.agrees ≡ true) ↔ IsWholeTrace s t
moved-agrees s None before m f p = (λ e. tt, λ w. p.0)
moved-agrees s (Some trace) before m f (inl p) = (λ e. text-whole s trace p.carried, λ w. p.agrees)
moved-agrees s (Some trace) before m f (inr p) = (λ e. absurd (both e p.agrees), λ w. absurd (not-other p.verdict p.differs ((judged-agrees s trace p.verdict f p.is).1 w)))
  where
    both : m.agrees ≡ true → m.agrees ≡ false → ⊥
    both e d = cc

status-done : (b : Bool) → migrating.status_of b ≡ status.Done → b ≡ true
status-done true e = refl
status-done false e = absurd (two-statuses (sym e))

status-differs : (b : Bool) → (b ≡ true → ⊥) → migrating.status_of b ≡ status.Differs
status-differs true f = absurd (f refl)
status-differs false f = refl

pub migrated-done : (m : Moving) (s : Status) (text : List ℕ) → Formed m.scenario → IsMigrated m s text → (s ≡ status.Done) ↔ IsWholeTrace m.scenario m.trace
migrated-done m s text f v =
    let b : (v.answer.agrees ≡ true) ↔ IsWholeTrace m.scenario m.trace = moved-agrees m.scenario m.trace _ v.answer f v.is in
    (λ e. b.0 (status-done v.answer.agrees (sym v.status_is ∙ e)), λ w. v.status_is ∙ ap migrating.status_of (b.1 w))

pub migrated-differs : (m : Moving) (s : Status) (text : List ℕ) → Formed m.scenario → IsMigrated m s text → (s ≡ status.Differs) ↔ (IsWholeTrace m.scenario m.trace → ⊥)
migrated-differs m s text f v =
    let b : (v.answer.agrees ≡ true) ↔ IsWholeTrace m.scenario m.trace = moved-agrees m.scenario m.trace _ v.answer f v.is in
    (λ e w. two-statuses (sym (v.status_is ∙ ap migrating.status_of (b.1 w)) ∙ e), λ g. v.status_is ∙ status-differs v.answer.agrees (λ e. g (b.0 e)))
