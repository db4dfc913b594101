-- What is written where a scenario is moved to version 2 of the language.
use Rattle.std.specs.Prelude.{◌≡◌, ◌++◌, ◌⊎◌, ℕ, List, Option, Some, None, true, false, codes}
use Rattle.com_model.specs.declared.scenario.Scenario.{Scenario}
use Rattle.com_model.specs.Ends.{ended_as, report, text}
use Rattle.com_model.specs.Rules.{legal}
use Rattle.com_print_scenario.specs.Printed.{printed}
use Rattle.com_check.specs.declared.judged.Judged.{Judged}
use Rattle.com_check.specs.Judging.{IsJudged, IsText, judged_text}
use Rattle.com_check.specs.Agreeing.{IsOther}
use Rattle.com_laws_versions.specs.Moved.{moved}
use Rattle.com_command_migrate.specs.declared.answers.Moved.{Moved}
use Rattle.com_command_migrate.specs.declared.inputs.Moving.{Moving}

-- The trace is the text and the report of a legal history that has ended. Behind a text there stand the line
-- `trace` and the text and the report of this history in version 2, where it is legal too and ends in the
-- same way.
pub record IsCarried (s : Scenario) (trace before : List ℕ) (answer : Moved) : Type 0 where
  pub carried : IsText s trace
  pub lawful : legal (moved s) carried.history
  pub ends : ended_as (moved s) carried.history ≡ ended_as s carried.history
  pub agrees : answer.agrees ≡ true
  pub written : answer.text ≡ (before ++ codes "trace\n")
      ++ (text (moved s) carried.history ++ report (moved s) carried.history)

-- The trace differs, and the answer is what is printed of that.
pub record IsRefused (s : Scenario) (trace : List ℕ) (answer : Moved) : Type 0 where
  pub verdict : Judged
  pub is : IsJudged s trace verdict
  pub differs : IsOther verdict
  pub agrees : answer.agrees ≡ false
  pub written : answer.text ≡ judged_text verdict

abbrev pub IsMovedBy : Scenario → (trace before : List ℕ) → Moved → Type 0
IsMovedBy s trace before answer = IsCarried s trace before answer ⊎ IsRefused s trace answer

-- What is answered behind a text: the text alone where there is no trace, and else what the trace makes of it.
abbrev pub IsMovedWith : Scenario → Option (List ℕ) → (before : List ℕ) → Moved → Type 0
IsMovedWith s None before answer = (answer.agrees ≡ true) × (answer.text ≡ before)
IsMovedWith s (Some trace) before answer = IsMovedBy s trace before answer

-- What is written for a scenario: its text in version 2, and behind it its trace, if it has one that agrees.
abbrev pub IsMoved : Moving → Moved → Type 0
IsMoved m answer = IsMovedWith m.scenario m.trace (printed (moved m.scenario)) answer
