-- What a runtime answers, as functions of a history.
use Rattle.std.specs.Prelude.{◌≡◌, ℕ, List, length, if◌then◌else◌}
use Rattle.com_model.specs.declared.deeds.Entry.{Entry}
use Rattle.com_model.specs.declared.scenario.Scenario.{Scenario}
use Rattle.com_model.specs.Clock.{clock}
use Rattle.com_model.specs.Apartments.{over}
use Rattle.com_model.specs.Ends.{finished, stuck, counts_of, all_counts}
use Rattle.com_model.specs.Lists.{first}
use Rattle.com_model.specs.Objects.{objects}
use Rattle.com_model.specs.Openers.{is_body, openers}
use Rattle.com_model.specs.Rules.{can_step, no_lane_can}
use Rattle.com_model.specs.Sight.{sight}
use Rattle.com_model.specs.State.{State, objects_in}
use Rattle.com_runtime.specs.declared.jobs.Next.{Next}
use Rattle.com_runtime.specs.declared.runtime.Standing.{Standing}
use Rattle.com_runtime.specs.declared.runtime.Standing.TheVariants as standing
use Rattle.com_runtime.specs.Jobs.{next_by, next_in}
use Rattle.com_runtime.specs.Reports.{counts_in, all_counts_in}
use Rattle.com_runtime.specs.Standings.{can_step_in, standing_of}

-- How all stands after a history: finished, stuck, at a Tick where no lane can step, or else running.
abbrev pub standing_after : Scenario → List Entry → Standing
standing_after s h =
    if finished s h then standing.Finished
    else if stuck s h then standing.Stuck
    else if no_lane_can s (sight s h) then standing.Ticks
    else standing.Runs

-- What a lane does next after a history: its innermost body acts, or another entry of it exists, or it is
-- over, or it waits.
abbrev pub next_after : Scenario → List Entry → (lane : ℕ) → Next
next_after s h l = next_by (is_body (first (openers h l))) (can_step s (sight s h) l) (over h l)

pub record AnswersOf (s : Scenario) (st : State) (h : List Entry) : Type 0 where
  pub can : (l : ℕ) → can_step_in s st l ≡ can_step s (sight s h) l
  pub next : (l : ℕ) → next_in s st l ≡ next_after s h l
  pub stands : standing_of s st ≡ standing_after s h
  pub entries : st.entries ≡ length h
  pub time : st.clock ≡ clock h
  pub made : objects_in st ≡ objects h
  pub counts : (o : ℕ) → counts_in s st o ≡ counts_of s h o
  pub all_counts : all_counts_in s st ≡ all_counts s h
