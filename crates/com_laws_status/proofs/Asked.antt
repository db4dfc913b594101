-- The scenario that an input asks of is formed.
use Rattle.std.proofs.Common.{ap, subst}
use Rattle.std.specs.Prelude.{◌≡◌, refl, ℕ, Bool, true, false, if◌then◌else◌, List, Option, Some, None, Result, Ok, Err, take, drop}
use Rattle.com_text.specs.Scanning.{lines_of}
use Rattle.com_read_operands.specs.declared.faults.Fault.{Fault}
use Rattle.com_model.specs.declared.scenario.Scenario.{Scenario}
use Rattle.com_model.specs.Formed.{Formed}
use Rattle.com_laws_scenario.specs.Holds.{Holds}
use Rattle.com_scenario.specs.declared.sizes.SecondVersion.{SecondVersion}
use Rattle.com_scenario.specs.Scenarios.{reading}
use Rattle.com_scenario.specs.Sizes.{is_too_long, second_version}
use Rattle.com_scenario.proofs.Forms.{reading_formed}
use Rattle.com_check.specs.declared.cut.Cut.{Cut}
use Rattle.com_check.specs.declared.cut.Cut.TheVariants as cuts
use Rattle.com_check.specs.Cuts.{cut_of}
use Rattle.com_commands.specs.declared.inputs.Input.TheVariants as input
use Rattle.com_commands.specs.Inputs.{input_of, read_as}
use Rattle.com_command_migrate.specs.declared.inputs.Moving.{Moving}
use Rattle.com_command_migrate.specs.Inputs.{moving_by, moving_of, within_version_1}
use Rattle.com_command_migrate.specs.Inputs as moving
use Rattle.com_command_migrate.specs.Migrating.{migrating}
use Rattle.com_command_check.specs.declared.questions.Question.{Question}
use Rattle.com_command_check.specs.Checking.{asked_by, is_long_trace, question_input, question_of, without_trace}
use Rattle.com_command_check.specs.Checking as checking

-- What an input reads, its text spells.
reads-text : {T : Type 0} → (long : Bool) (r : Result T Fault) (x : T) → (if long then input.TooLong else read_as r) ≡ input.Reads x → r ≡ Ok x
reads-text true r x e = cc
reads-text false (Err fault) x e = cc
reads-text false (Ok y) x e = cc

input-reads : {T : Type 0} → (long : List ℕ → Bool) (spells : List ℕ → Result T Fault) (bytes : List ℕ) (x : T) → input_of long spells bytes ≡ input.Reads x → spells bytes ≡ Ok x
unfolding input_of
input-reads long spells bytes x e = reads-text (long bytes) (spells bytes) x e

same-value : {T : Type 0} → (x y : T) → ◌≡◌ {A = Result T Fault} (Ok x) (Ok y) → x ≡ y
same-value x y e = cc

-- ---- check

nothing-asked : (line column : ℕ) (r : Result Scenario Fault) (q : Question) → without_trace line column r ≡ Ok q → ⊥
nothing-asked line column (Err fault) q e = cc
nothing-asked line column (Ok s) q e = cc

with-formed : (bytes : List ℕ) (from : ℕ) (r : Result Scenario Fault) (q : Question) → Holds Formed r → checking.with_trace bytes from r ≡ Ok q → Formed q.scenario
with-formed bytes from (Err fault) q f e = cc
with-formed bytes from (Ok s) q f e =
    let asked : Question = record { scenario = s; text = bytes; from = from } in
    subst Formed (ap (λ (x : Question). x.scenario) (same-value asked q e)) (f.of s refl)

asked-formed : (bytes : List ℕ) (c : Cut) (q : Question) → asked_by bytes c ≡ Ok q → Formed q.scenario
asked-formed bytes (cuts.Missing line column) q e = absurd (nothing-asked line column (reading bytes) q e)
asked-formed bytes (cuts.At until from) q e = with-formed bytes from (reading (take until bytes)) q (reading_formed (take until bytes)) e

question-formed : (bytes : List ℕ) (q : Question) → question_of bytes ≡ Ok q → Formed q.scenario
unfolding question_of
question-formed bytes q e = asked-formed bytes (cut_of 0 (lines_of bytes)) q e

pub question-read : (bytes : List ℕ) (q : Question) → question_input bytes ≡ input.Reads q → Formed q.scenario
question-read bytes q e = question-formed bytes q (input-reads is_long_trace question_of bytes q e)

-- ---- migrate

version-formed : (header : Option SecondVersion) (r : Result Scenario Fault) (s : Scenario) → Holds Formed r → within_version_1 header r ≡ Ok s → Formed s
version-formed None r s f e = f.of s e
version-formed (Some header) (Err fault) s f e = cc
version-formed (Some header) (Ok t) s f e = cc

holds-version : (header : Option SecondVersion) (text : List ℕ) → Holds Formed (within_version_1 header (reading text))
holds-version header text = record { of = λ s e. version-formed header (reading text) s (reading_formed text) e }

moved-formed : (r : Result Scenario Fault) (trace : Option (List ℕ)) (m : Moving) → Holds Formed r → moving.with_trace r trace ≡ Ok m → Formed m.scenario
moved-formed (Err fault) trace m f e = cc
moved-formed (Ok s) trace m f e =
    let read : Moving = record { scenario = s; trace = trace } in
    subst Formed (ap (λ (x : Moving). x.scenario) (same-value read m e)) (f.of s refl)

cut-formed : (bytes : List ℕ) (c : Cut) (m : Moving) → moving_by bytes c ≡ Ok m → Formed m.scenario
cut-formed bytes (cuts.Missing line column) m e =
    moved-formed (within_version_1 (second_version (lines_of bytes)) (reading bytes)) None m (holds-version (second_version (lines_of bytes)) bytes) e
cut-formed bytes (cuts.At until from) m e =
    moved-formed (within_version_1 (second_version (lines_of bytes)) (reading (take until bytes))) (Some (drop from bytes)) m
    (holds-version (second_version (lines_of bytes)) (take until bytes)) e

moving-formed : (bytes : List ℕ) (m : Moving) → moving_of bytes ≡ Ok m → Formed m.scenario
unfolding moving_of
moving-formed bytes m e = cut-formed bytes (cut_of 0 (lines_of bytes)) m e

pub moving-read : (bytes : List ℕ) (m : Moving) → migrating bytes ≡ input.Reads m → Formed m.scenario
moving-read bytes m e = moving-formed bytes m (input-reads is_too_long moving_of bytes m e)
