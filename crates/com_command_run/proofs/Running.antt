-- What a run answers is what the command answers.
use Rattle.std.proofs.Common.{◌≡◌, ℕ, ◌≤◌, List, ◌++◌, length, sym, ap, ◌∙◌, subst, arith, Some, Option}
use Rattle.com_commands.specs.declared.statuses.Status.{Status}
use Rattle.com_commands.specs.declared.statuses.Status.TheVariants as status
use Rattle.com_commands.specs.declared.inputs.Input.TheVariants as input
use Rattle.com_commands.specs.Inputs.{input_of}
use Rattle.com_commands.specs.Responses.{Causes}
use Rattle.com_commands.specs.Statuses.{Concludes, Says, Sides, end_concludes, status_at}
use Rattle.com_commands.proofs.Answering.{said_causes, said_no_memory}
use Rattle.com_io.specs.Told.{IsAtEnd}
use Rattle.com_model.specs.declared.counts.Counts.{Counts}
use Rattle.com_model.specs.declared.counts.Ended.{Ended}
use Rattle.com_model.specs.declared.deeds.Entry.{Entry}
use Rattle.com_model.specs.declared.scenario.Scenario.{Scenario}
use Rattle.com_model.specs.Clock.{clock}
use Rattle.com_model.specs.Ends.{all_counts, ended_as, report_as, text}
use Rattle.com_model.specs.Formed.{Formed}
use Rattle.com_model.specs.Rules.{legal}
use Rattle.com_model.specs.Safe.{Safe}
use Rattle.com_model.specs.Tables.{lanes}
use Rattle.com_model.specs.Text.{history_text, report_text}
use Rattle.com_laws_safe.proofs.Whole.{legal-safe}
use Rattle.com_scenario.specs.Scenarios.{reading}
use Rattle.com_scenario.specs.Sizes.{is_too_long}
use Rattle.com_threads.specs.declared.run.Ran.{Ran}
use Rattle.com_threads.specs.Runs.{history_of}
use Rattle.com_command_run.specs.Runs.{IsRun}
use Rattle.com_command_run.proofs.Lines.{length_reversed}

run_concludes : (s : Scenario) (st : Status) (written : List ℕ) → IsRun s st written → Concludes st
run_concludes s st written r = subst (λ (x : Status). Concludes x) (sym r.status_is) (end_concludes r.ends)

-- What was said of a run answers the scenario.
pub run_causes : (s : Scenario) (result st : Status) (written slice : List ℕ) (sides : Sides)
    → ((bytes : List ℕ) → sides.left ≡ Some bytes → input_of is_too_long reading bytes ≡ input.Reads s) → IsAtEnd sides.left_after
    → IsRun s st written → slice ≡ written → Says result st slice sides.held sides.held_after sides.write_faults sides.write_faults_after
    → Causes (input_of is_too_long reading) IsRun result sides
run_causes s result st written slice sides which end is same said =
    said_causes (input_of is_too_long reading) IsRun s result st slice sides which end (run_concludes s)
    (subst (λ (text : List ℕ). IsRun s st text) (sym same) is) said

pub run_unwritten : (s : Scenario) (result st : Status) (written text : List ℕ) (held held_after : Option (List ℕ)) (faults faults_after : ℕ)
    → IsRun s st written → Says result st text held held_after faults faults_after → result ≡ status.Memory → held_after ≡ held
run_unwritten s result st written text held held_after faults faults_after is said wants =
    said_no_memory result st text held held_after faults faults_after (run_concludes s st written is) said wants

pub safe_run : (s : Scenario) (h : List Entry) → Formed s → legal s h → Safe s h
safe_run s h f q = legal-safe s h f q

is_run : (s : Scenario) (ran : Ran) (st : Status) (written : List ℕ) → legal s (history_of ran) → Safe s (history_of ran) → ended_as s (history_of ran) ≡ Some ran.ended
    → ran.counts ≡ all_counts s (history_of ran) → ran.clock ≡ clock (history_of ran) → st ≡ status_at ran.ended
    → written ≡ history_text s.version (history_of ran) ++ report_text ran.counts (length ran.history) ran.clock ran.ended → IsRun s st written
is_run s ran st written lawful safe ends counts time status is = record {
  history = history_of ran;
  lawful = lawful;
  safe = safe;
  ends = ran.ended;
  ended_is = ends;
  status_is = status;
  written_is = is ∙ ap (λ (r : List ℕ). text s (history_of ran) ++ r)
      (ap (λ (c : List Counts). report_text c (length ran.history) ran.clock ran.ended) counts
      ∙ ap (λ (n : ℕ). report_text (all_counts s (history_of ran)) n ran.clock ran.ended) (sym (length_reversed ran.history))
      ∙ ap (λ (t : ℕ). report_text (all_counts s (history_of ran)) (length (history_of ran)) t ran.ended) time
      ∙ ap (λ (x : Option Ended). report_as s (history_of ran) x) (sym ends));
}

-- What was written of a run, where the run was of the scenario as it is shared.
pub is_run_at : (s shared : Scenario) (ran : Ran) (st : Status) (written : List ℕ) → shared ≡ s → legal shared (history_of ran) → Safe shared (history_of ran)
    → ended_as shared (history_of ran) ≡ Some ran.ended → ran.counts ≡ all_counts shared (history_of ran) → ran.clock ≡ clock (history_of ran) → st ≡ status_at ran.ended
    → written ≡ history_text s.version (history_of ran) ++ report_text ran.counts (length ran.history) ran.clock ran.ended → IsRun s st written
is_run_at s shared ran st written same lawful safe ends counts time status is =
    is_run s ran st written (subst (λ (x : Scenario). legal x (history_of ran)) same lawful) (subst (λ (x : Scenario). Safe x (history_of ran)) same safe)
    (subst (λ (x : Scenario). ended_as x (history_of ran) ≡ Some ran.ended) same ends)
    (subst (λ (x : Scenario). ran.counts ≡ all_counts x (history_of ran)) same counts) time status is

-- A formed scenario has 25 lanes at most.
pub few_lanes : (s : Scenario) → Formed s → lanes s ≤ 25
few_lanes s f = let pool = f.pool in let threads = f.threads in omega arith
