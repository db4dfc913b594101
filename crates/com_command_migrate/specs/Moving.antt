-- The trace of an agreed history in version 2 of the language.
use Rattle.std.specs.Prelude.{◌≡◌, ◌<◌, ◌++◌, ℕ, List, Some, length, reverse}
use Rattle.com_base.specs.declared.limits.TheConstants.{ENTRY_1_LIMIT}
use Rattle.com_model.specs.declared.scenario.Scenario.{Scenario}
use Rattle.com_model.specs.Ends.{ended_as, report, text}
use Rattle.com_model.specs.Rules.{legal}
use Rattle.com_model.specs.Text.{history_text, report_text}
use Rattle.com_command_migrate.specs.declared.writing.TheConstants.{VERSION}
use Rattle.com_check.specs.declared.agreement.traces.Agreed.{Agreed}
use Rattle.com_laws_versions.specs.Moved.{moved}

-- Its lines and its report.
abbrev pub trace_text : Agreed → List ℕ
trace_text a = history_text VERSION (reverse a.history) ++ report_text a.counts (length a.history) a.clock a.ended

-- It is legal for the scenario in version 2 and ends there in the same way; it has not as many entries as a
-- history of version 1 may have; and what is written is its text and its report in version 2.
pub record Moves (s : Scenario) (a : Agreed) : Type 0 where
  pub lawful : legal (moved s) (reverse a.history)
  pub ends : ended_as (moved s) (reverse a.history) ≡ Some a.ended
  pub few : length a.history < ENTRY_1_LIMIT
  pub written : trace_text a ≡ text (moved s) (reverse a.history) ++ report (moved s) (reverse a.history)
