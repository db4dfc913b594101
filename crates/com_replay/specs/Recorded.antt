-- The entries of the one history of a scenario.
use Rattle.std.specs.Prelude.{◌≡◌, List, Some, reverse}
use Rattle.com_model.specs.declared.counts.Ended.{Ended}
use Rattle.com_model.specs.declared.deeds.Entry.{Entry}
use Rattle.com_model.specs.declared.scenario.Scenario.{Scenario}
use Rattle.com_model.specs.Ends.{ended_as, scheduled}
use Rattle.com_model.specs.Rules.{legal}

-- The entries, in the order of making, are the one history of a scenario, which has ended so.
pub record IsRecorded (s : Scenario) (entries : List Entry) (ends : Ended) : Type 0 where
  pub history : reverse entries ≡ scheduled s
  pub lawful : legal s (reverse entries)
  pub ended_is : ended_as s (reverse entries) ≡ Some ends
