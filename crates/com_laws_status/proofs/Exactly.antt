-- The codes of `check` and `migrate` say exactly whether a trace is whole.
use Rattle.std.proofs.Common.{ap, subst, ◌∙◌, ◌⊎◌, inl, inr}
use Rattle.std.specs.Prelude.{◌≡◌, ◌↔◌, refl, ℕ, Bool, true, false, List, drop}
use Rattle.com_model.specs.declared.scenario.Scenario.{Scenario}
use Rattle.com_model.specs.Formed.{Formed}
use Rattle.com_check.specs.declared.judged.Judged.{Judged}
use Rattle.com_check.specs.declared.judged.Judged.TheVariants as judged
use Rattle.com_check.specs.Judging.{IsJudged}
use Rattle.com_commands.specs.declared.inputs.Input.{Input}
use Rattle.com_commands.specs.declared.inputs.Input.TheVariants as input
use Rattle.com_commands.specs.Inputs.{IsAnswer}
use Rattle.com_commands.specs.Responses.{IsWholeAnswer, Responds}
use Rattle.com_commands.specs.Statuses.{Sides, code_of}
use Rattle.com_commands.proofs.Answering.{responds_whole}
use Rattle.com_command_migrate.specs.declared.inputs.Moving.{Moving}
use Rattle.com_command_migrate.specs.Migrating.{IsMigrated, migrating}
use Rattle.com_command_migrate.specs.Migrating as moved
use Rattle.com_command_check.specs.declared.questions.Question.{Question}
use Rattle.com_command_check.specs.Checking.{IsVerdict, question_input}
use Rattle.com_command_check.specs.Checking as checking
use Rattle.com_laws_check.specs.Exact.{IsWhole}
use Rattle.com_laws_check.proofs.Exact.{text-whole, judged-agrees}
use Rattle.com_laws_status.specs.Whole.{IsWholeTrace}
use Rattle.com_laws_status.specs.Exactly.{IsUndisturbed, TellsExactly}
use Rattle.com_laws_status.proofs.Asked.{question-read, moving-read}
use Rattle.com_laws_status.proofs.Statuses.{moved-agrees}

-- ---- check

differs-not : (line : ℕ) (found legal : List ℕ) → judged.Differs line found legal ≡ judged.Agrees → ⊥
differs-not line found legal e = cc

by-verdict : (s : Scenario) (trace : List ℕ) (j : Judged) (code : ℕ) → Formed s → IsJudged s trace j → code ≡ code_of (checking.status_of j) → TellsExactly code (IsWhole s trace)
by-verdict s trace judged.Agrees code f p n = inl (n, text-whole s trace p)
by-verdict s trace (judged.Differs line found legal) code f p n =
    inr (inl (n, λ w. differs-not line found legal ((judged-agrees s trace (judged.Differs line found legal) f p).1 w)))

judged-whole : (code : ℕ) (sides : Sides) (bytes : List ℕ) (q : Question) → question_input bytes ≡ input.Reads q → IsWholeAnswer question_input IsVerdict code sides bytes
    → TellsExactly code (IsWhole q.scenario (drop q.from q.text))
judged-whole code sides bytes q e a =
    let v : IsVerdict q a.status a.whole.text = subst (λ (i : Input Question). IsAnswer IsVerdict i a.status a.whole.text) e a.whole.answer in
    by-verdict q.scenario (drop q.from q.text) v.verdict code (question-read bytes q e) v.is (a.number ∙ ap code_of v.status_is)

judged-or-memory : (code : ℕ) (sides : Sides) (bytes : List ℕ) (q : Question) → question_input bytes ≡ input.Reads q
    → IsWholeAnswer question_input IsVerdict code sides bytes ⊎ (code ≡ 9) → TellsExactly code (IsWhole q.scenario (drop q.from q.text))
judged-or-memory code sides bytes q e (inl a) = judged-whole code sides bytes q e a
judged-or-memory code sides bytes q e (inr n) = inr (inr n)

pub check-exact : (code : ℕ) (sides : Sides) (bytes : List ℕ) (q : Question) → Responds question_input IsVerdict code sides → IsUndisturbed sides bytes
    → question_input bytes ≡ input.Reads q → TellsExactly code (IsWhole q.scenario (drop q.from q.text))
check-exact code sides bytes q r u e =
    judged-or-memory code sides bytes q e (responds_whole question_input IsVerdict code sides bytes r u.told u.no_read_fault u.no_write_fault)

-- ---- migrate

false-not : false ≡ true → ⊥
false-not e = cc

by-answer : (b : Bool) (Whole : Type 0) (code : ℕ) → (b ≡ true) ↔ Whole → code ≡ code_of (moved.status_of b) → TellsExactly code Whole
by-answer true Whole code i n = inl (n, i.0 refl)
by-answer false Whole code i n = inr (inl (n, λ w. false-not (i.1 w)))

migrated-whole : (code : ℕ) (sides : Sides) (bytes : List ℕ) (m : Moving) → migrating bytes ≡ input.Reads m → IsWholeAnswer migrating IsMigrated code sides bytes
    → TellsExactly code (IsWholeTrace m.scenario m.trace)
migrated-whole code sides bytes m e a =
    let v : IsMigrated m a.status a.whole.text = subst (λ (i : Input Moving). IsAnswer IsMigrated i a.status a.whole.text) e a.whole.answer in
    by-answer v.answer.agrees (IsWholeTrace m.scenario m.trace) code (moved-agrees m.scenario m.trace _ v.answer (moving-read bytes m e) v.is) (a.number ∙ ap code_of v.status_is)

migrated-or-memory : (code : ℕ) (sides : Sides) (bytes : List ℕ) (m : Moving) → migrating bytes ≡ input.Reads m
    → IsWholeAnswer migrating IsMigrated code sides bytes ⊎ (code ≡ 9) → TellsExactly code (IsWholeTrace m.scenario m.trace)
migrated-or-memory code sides bytes m e (inl a) = migrated-whole code sides bytes m e a
migrated-or-memory code sides bytes m e (inr n) = inr (inr n)

pub migrate-exact : (code : ℕ) (sides : Sides) (bytes : List ℕ) (m : Moving) → Responds migrating IsMigrated code sides → IsUndisturbed sides bytes
    → migrating bytes ≡ input.Reads m → TellsExactly code (IsWholeTrace m.scenario m.trace)
migrate-exact code sides bytes m r u e =
    migrated-or-memory code sides bytes m e (responds_whole migrating IsMigrated code sides bytes r u.told u.no_read_fault u.no_write_fault)
