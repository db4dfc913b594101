-- A scenario in version 2 of the language, all else equal.
use Rattle.com_model.specs.declared.scenario.Scenario.{Scenario}

-- A scenario whose version is made 2, and nothing else of it is changed.
abbrev pub moved : Scenario → Scenario
moved s = record s { version = 2 }
