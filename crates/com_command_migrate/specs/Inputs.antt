-- What is moved to version 2 of the language: a scenario of version 1, and a trace behind it.
use Rattle.std.specs.Prelude.{◌≤◌, ℕ, List, Option, Some, None, Result, Ok, Err, length, nat_lt, drop, take}
use Rattle.std.specs.Prelude.{if◌then◌else◌}
use Rattle.com_base.specs.declared.limits.TheConstants.{TEXT_1_LIMIT}
use Rattle.com_text.specs.Scanning.{lines_of}
use Rattle.com_read_operands.specs.declared.faults.Fault.{Fault}
use Rattle.com_read_operands.specs.declared.faults.TheConstants.Fault.{HEADER}
use Rattle.com_model.specs.declared.scenario.Scenario.{Scenario}
use Rattle.com_scenario.specs.declared.sizes.SecondVersion.{SecondVersion}
use Rattle.com_scenario.specs.Scenarios.{reading}
use Rattle.com_scenario.specs.Sizes.{second_version}
use Rattle.com_check.specs.declared.cut.Cut.{Cut}
use Rattle.com_check.specs.declared.cut.Cut.TheVariants as cuts
use Rattle.com_check.specs.Cuts.{cut_of}
use Rattle.com_command_migrate.specs.declared.inputs.Moving.{Moving}

-- The fault of a header of version 2: HEADER, at the word `2`.
abbrev pub second_fault : SecondVersion → Fault
second_fault header = record { number = HEADER; line = header.line; column = header.column }

-- Where version 1 alone is read, a header of version 2 is at fault, if nothing above it is.
abbrev pub within_version_1 : Option SecondVersion → Result Scenario Fault → Result Scenario Fault
within_version_1 None read = read
within_version_1 (Some header) (Ok scenario) = Err (second_fault header)
within_version_1 (Some header) (Err fault) =
    Err (if nat_lt fault.line header.line then fault else second_fault header)

abbrev pub with_trace : Result Scenario Fault → Option (List ℕ) → Result Moving Fault
with_trace (Err fault) trace = Err fault
with_trace (Ok scenario) trace = Ok (record { scenario = scenario; trace = trace })

-- The first line `trace` parts the scenario's text from the trace. Without that line there is no trace.
abbrev pub moving_by : List ℕ → Cut → Result Moving Fault
moving_by bytes (cuts.Missing line column) =
    with_trace (within_version_1 (second_version (lines_of bytes)) (reading bytes)) None
moving_by bytes (cuts.At until from) =
    with_trace (within_version_1 (second_version (lines_of bytes)) (reading (take until bytes)))
    (Some (drop from bytes))

-- The scenario of version 1 and the trace that an input spells, or its first fault.
unfoldable pub moving_of : List ℕ → Result Moving Fault
moving_of bytes = moving_by bytes (cut_of 0 (lines_of bytes))

-- A trace is no longer than a text of version 1 may be.
abbrev pub IsShort : Option (List ℕ) → Type 0
IsShort None = Unit {0}
IsShort (Some trace) = length trace ≤ TEXT_1_LIMIT
