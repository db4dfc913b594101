-- What the command `migrate` reads, and what answers it.
use Rattle.std.specs.Prelude.{◌≡◌, ℕ, List, Bool, true, false}
use Rattle.std.proofs.Common.{subst, sym}
use Rattle.com_model.specs.Formed.{Formed}
use Rattle.com_scenario.specs.Sizes.{is_too_long}
use Rattle.com_command_migrate.specs.declared.answers.Moved.{Moved}
use Rattle.com_command_migrate.specs.declared.inputs.Moving.{Moving}
use Rattle.com_command_migrate.specs.Answers.{IsMoved}
use Rattle.com_command_migrate.specs.Inputs.{IsShort, moving_of}
use Rattle.com_commands.specs.declared.inputs.Input.{Input}
use Rattle.com_commands.specs.declared.statuses.Status.{Status}
use Rattle.com_commands.specs.declared.statuses.Status.TheVariants as status
use Rattle.com_commands.specs.Inputs.{input_of}
use Rattle.com_commands.specs.Statuses.{Concludes}

-- What an input is: its length is judged first, as that of each scenario's text, and then its text.
abbrev pub migrating : List ℕ → Input Moving
migrating = input_of is_too_long moving_of

-- What was read is a formed scenario, and a trace that is no longer than a text of version 1.
pub record IsReady (m : Moving) : Type 0 where
  pub formed : Formed m.scenario
  pub short : IsShort m.trace

-- It was moved, or its trace differs.
abbrev pub status_of : Bool → Status
status_of true = status.Done
status_of false = status.Differs

-- The status of what was read, and the text that is written for it.
pub record IsMigrated (m : Moving) (s : Status) (text : List ℕ) : Type 0 where
  pub answer : Moved
  pub is : IsMoved m answer
  pub status_is : s ≡ status_of answer.agrees
  pub text_is : text ≡ answer.text

agrees_concludes : (b : Bool) → Concludes (status_of b)
agrees_concludes true = tt
agrees_concludes false = tt

-- These statuses are those of texts that were written whole.
pub migrated_concludes : (m : Moving) (s : Status) (text : List ℕ) → IsMigrated m s text → Concludes s
migrated_concludes m s text is =
    subst (λ (x : Status). Concludes x) (sym is.status_is) (agrees_concludes is.answer.agrees)
