-- Scenario text: the scenario that a text spells, or its first fault.
use Rattle.std.specs.Prelude.{ℕ, List, ◌++◌, drop, Result, Ok}
use Rattle.com_base.specs.declared.built_ins.TheConstants.{BUILT_IN_COUNT}
use Rattle.com_classes.specs.Tables.{Tables}
use Rattle.com_classes.specs.BuiltIns.{built_in_interfaces}
use Rattle.com_classes.specs.declared.interfaces.Interface.{Interface}
use Rattle.com_classes.specs.declared.classes.Class.{Class}
use Rattle.com_model.specs.declared.scenario.Scenario.{Scenario}
use Rattle.com_text.specs.Scanning.{lines_of}
use Rattle.com_read_operands.specs.declared.faults.Fault.{Fault}
use Rattle.com_read_operands.specs.Reading.{◌>>=◌}
use Rattle.com_read_sections.specs.declared.outline.Outline.{Outline}
use Rattle.com_read_sections.specs.Outlines.{begun, read}

-- the tables of interfaces and classes: the built-in interfaces come first in both lists
abbrev pub tables_of : List Interface → List Class → Tables
tables_of interfaces classes =
    record { interfaces = built_in_interfaces ++ drop BUILT_IN_COUNT interfaces; classes = classes }

-- The scenario that the lines of a text declare, with the built-in interfaces before its own.
abbrev pub scenario_of : Outline → Scenario
scenario_of o = record {
  version = o.version;
  pool = o.pool;
  classes = tables_of o.interfaces o.classes;
  filters = o.filters;
  threads = o.threads;
  picks = o.picks;
}

-- The scenario that a text spells, or its first fault: the lines are read one after another, and a line's
-- words from left to right, so the first fault that is met is the first by position.
unfoldable pub reading : List ℕ → Result Scenario Fault
reading text = read (begun built_in_interfaces) (lines_of text) >>= λ o. Ok (scenario_of o)
