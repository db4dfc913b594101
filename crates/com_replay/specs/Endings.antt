-- What is written and answered at the end of a history, by the tables of a runtime.
use Rattle.std.specs.Prelude.{ℕ, List}
use Rattle.com_model.specs.declared.counts.Ended.{Ended}
use Rattle.com_model.specs.declared.scenario.Scenario.{Scenario}
use Rattle.com_model.specs.State.{State}
use Rattle.com_model.specs.Text.{report_text}
use Rattle.com_replay.specs.declared.replayed.Replayed.{Replayed}
use Rattle.com_runtime.specs.Reports.{all_counts_in}

-- The report of a history that has ended so.
abbrev pub report_in : Scenario → State → Ended → List ℕ
report_in s st x = report_text (all_counts_in s st) st.entries st.clock x

-- The answer: how the history ended, how many entries it has, and where its clock stands.
abbrev pub replayed_in : State → Ended → Replayed
replayed_in st x = record { ended = x; entries = st.entries; clock = st.clock }
