-- The scenario that a text with `source` lines spells, or its first fault.
use Rattle.std.specs.Prelude.{ℕ, List, Result, Ok, Err}
use Rattle.com_model.specs.declared.scenario.Scenario.{Scenario}
use Rattle.com_read_operands.specs.declared.faults.Fault.{Fault}
use Rattle.com_scenario.specs.Scenarios.{reading}
use Rattle.com_points.specs.Writing.{written}
use Rattle.com_points.specs.Placing.{placed}

abbrev pub in_place : List ℕ → Result Scenario Fault → Result Scenario Fault
in_place text (Ok s) = Ok s
in_place text (Err f) = Err (placed text f)

-- The text says what the text says in which each source line is written out in lines of the language, and a
-- fault of that one stands where the text itself has it.
unfoldable pub reading_points : List ℕ → Result Scenario Fault
reading_points text = in_place text (reading (written text))
