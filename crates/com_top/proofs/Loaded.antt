-- What `load` answers.
use Rattle.std.proofs.Common.{◌≡◌, ℕ, List, length, refl, sym, ◌∙◌, ap, subst, Option, Result, Ok, Err}
use Rattle.com_gen.specs.Loads.{load_text}
use Rattle.com_laws_load.specs.LoadScenarios.{load_scenario}
use Rattle.com_laws_load.proofs.Reading.{read_again}
use Rattle.com_read_operands.specs.declared.faults.Fault.{Fault}
use Rattle.com_model.specs.declared.scenario.Scenario.{Scenario}
use Rattle.com_model.specs.Ends.{scheduled}
use Rattle.com_command_replay.specs.Histories.{Replayed}
use Rattle.com_command_replay.specs.Replays.{IsReplay}
use Rattle.com_scenario.specs.Scenarios.{reading}
use Rattle.com_commands.specs.declared.statuses.Status.{Status}
use Rattle.com_commands.specs.declared.statuses.Status.TheVariants as status
use Rattle.com_commands.specs.Responses.{Causes, FitsServed, GivesWhole}
use Rattle.com_commands.specs.Statuses.{Concludes, IsEnd, Says, end_concludes, sides_without_source, status_at}
use Rattle.com_commands.proofs.Answering.{alone_serves, said_answered, said_causes, said_no_memory}
use Rattle.com_top.specs.Loading.{IsLoaded, load_input, load_lines, loaded_served}

-- ---- the scenario of a number

read_is : (number : ℕ) (text : List ℕ) (r : Result Scenario Fault) → text ≡ load_text number → r ≡ reading text → r ≡ Ok (load_scenario number)
read_is number text r is read = read ∙ ap reading is ∙ read_again number

pub no_fault : (number : ℕ) (text slice : List ℕ) (f : Fault) → text ≡ load_text number → slice ≡ text → Err f ≡ reading slice → ⊥
no_fault number text slice f is same read =
    let no : Err f ≡ Ok (load_scenario number) = read_is number slice (Err f) (same ∙ is) read in cc

pub load_scenario_is : (number : ℕ) (text slice : List ℕ) (s : Scenario) → text ≡ load_text number → slice ≡ text → Ok s ≡ reading slice → s ≡ load_scenario number
load_scenario_is number text slice s is same read =
    let yes : Ok s ≡ Ok (load_scenario number) = read_is number slice (Ok s) (same ∙ is) read in cc

-- What a replay of the scenario of a number tells.
pub loaded_is : (number : ℕ) (scenario : Scenario) (r : Replayed) (s : Status) (lines : List ℕ)
    → scenario ≡ load_scenario number → IsReplay scenario r
    → lines ≡ load_lines number r.entries r.clock r.ended → s ≡ status_at r.ended → IsLoaded number s lines
loaded_is number scenario r s lines is replay written ends =
    let of_it : IsReplay (load_scenario number) r = subst (λ (x : Scenario). IsReplay x r) is replay in
    record {
      reads = read_again number;
      ends = r.ended;
      ended_is = of_it.ends;
      written = written ∙ ap (λ (n : ℕ). load_lines number n r.clock r.ended) of_it.length_is
          ∙ ap (λ (t : ℕ). load_lines number (length (scheduled (load_scenario number))) t r.ended) of_it.clock_is;
      status_is = ends;
    }

-- ---- what was said of it

loaded_concludes : (number : ℕ) (s : Status) (text : List ℕ) → IsLoaded number s text → Concludes s
loaded_concludes number s text is = subst (λ (x : Status). Concludes x) (sym is.status_is) (end_concludes is.ends)

pub loaded_causes : {K : Type 0} (held : K → Option (List ℕ)) (faults : K → ℕ) (sink sink_after : K) (number : ℕ) (result s : Status) (text slice : List ℕ)
    → IsLoaded number s text → slice ≡ text → Says result s slice (held sink) (held sink_after) (faults sink) (faults sink_after)
    → Causes (load_input number) IsLoaded result (sides_without_source held faults sink sink_after)
loaded_causes held faults sink sink_after number result s text slice is same said =
    said_causes (load_input number) IsLoaded number result s slice (sides_without_source held faults sink sink_after) (λ bytes e. refl) refl (loaded_concludes number)
    (subst (λ (t : List ℕ). IsLoaded number s t) (sym same) is) said

pub loaded_serves : {K : Type 0} (held : K → Option (List ℕ)) (faults : K → ℕ) (sink sink_after : K) (number : ℕ) (result s : Status) (text slice steps steps_after : List ℕ)
    → IsLoaded number s text → slice ≡ text → Says result s slice (held sink) (held sink_after) (faults sink) (faults sink_after)
    → steps_after ≡ loaded_served number steps
    → IsEnd result → GivesWhole (load_input number) (FitsServed IsLoaded loaded_served steps steps_after) result (sides_without_source held faults sink sink_after)
loaded_serves held faults sink sink_after number result s text slice steps steps_after is same said counted end =
    alone_serves IsLoaded loaded_served number result (sides_without_source held faults sink sink_after) steps steps_after
    (said_answered (IsLoaded number) result s slice (held sink) (held sink_after) (faults sink) (faults sink_after) (subst (λ (t : List ℕ). IsLoaded number s t) (sym same) is) said)
    (λ e. counted) end

pub loaded_unwritten : (number : ℕ) (result s : Status) (text slice : List ℕ) (held held_after : Option (List ℕ)) (faults faults_after : ℕ)
    → IsLoaded number s text → Says result s slice held held_after faults faults_after → result ≡ status.Memory → held_after ≡ held
loaded_unwritten number result s text slice held held_after faults faults_after is said wants =
    said_no_memory result s slice held held_after faults faults_after (loaded_concludes number s text is) said wants
