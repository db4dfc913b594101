-- The traces that agree, in the words of histories.
use Rattle.std.specs.Prelude.{◌≡◌, ℕ, true, List, ◌++◌, is_some}
use Rattle.com_model.specs.declared.deeds.Entry.{Entry}
use Rattle.com_model.specs.declared.scenario.Scenario.{Scenario}
use Rattle.com_model.specs.Ends.{ended_as, report, text}
use Rattle.com_model.specs.Rules.{legal}
use Rattle.com_check.specs.Judging.{IsUpToEnd}

-- A trace is the text and the report of a legal history that has ended, but that the end of its last line may
-- lack.
pub record IsWhole (s : Scenario) (trace : List ℕ) : Type 0 where
  pub history : List Entry
  pub lawful : legal s history
  pub ends : is_some (ended_as s history) ≡ true
  pub is : IsUpToEnd trace (text s history ++ report s history)
