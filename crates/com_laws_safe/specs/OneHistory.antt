-- The one history of a scenario.
use Rattle.std.specs.Prelude.{◌≡◌, true, List, is_some}
use Rattle.com_model.specs.declared.deeds.Entry.{Entry}
use Rattle.com_model.specs.declared.scenario.Scenario.{Scenario}
use Rattle.com_model.specs.Ends.{ended_as, scheduled, text}
use Rattle.com_model.specs.Rules.{legal}
use Rattle.com_model.specs.Safe.{Safe}

-- It is the schedule's, legal, ended and safe, and no other legal history has its text.
pub record OneHistory (s : Scenario) (h : List Entry) : Type 0 where
  pub schedules : h ≡ scheduled s
  pub lawful : legal s h
  pub ends : is_some (ended_as s h) ≡ true
  pub safe : Safe s h
  pub alone : (g : List Entry) → legal s g → text s g ≡ text s h → g ≡ h
