-- What a lane does next, and what a worker has between two turns.
use Rattle.std.specs.Prelude.{◌≡◌, ◌<◌, ℕ, IfOk, IfSome, MatchOption, None}
use Rattle.com_runtime.specs.declared.jobs.Next.TheVariants as next
use Rattle.com_runtime.specs.Jobs.{next_in}
use Rattle.com_model.specs.declared.scenario.Scenario.{Scenario}
use Rattle.com_model.specs.Ends.{limit}
use Rattle.com_model.specs.State.{State}
use Rattle.com_servant.specs.Steps.{IsOfItsClass, job_step}
use Rattle.com_threads.specs.declared.desk.Turn.{Turn}
use Rattle.com_threads.specs.declared.desk.Turn.TheVariants.{Works, Goes, Waits, Over}
use Rattle.com_threads.specs.declared.desk.Work.{Work}

-- A body acts in the lane; or the lane makes an entry of its own next, and there is room for one.
abbrev pub IsNextOf : Scenario → State → (lane : ℕ) → Turn → Type 0
IsNextOf s st l Works = next_in s st l ≡ next.Body
IsNextOf s st l Goes = (next_in s st l ≡ next.Own) × (st.entries < limit s)
IsNextOf s st l Waits = Unit {0}
IsNextOf s st l Over = Unit {0}

-- Without a job there is no step. A job is of its class in the scenario, and the step beside it is that of
-- the job.
abbrev pub IsWork : Scenario → Work → Type 0
IsWork s w = MatchOption w.job (w.step ≡ None) (λ job. IsOfItsClass s.classes job
    × IfSome w.step (λ step. IfOk step (λ outcome. outcome ≡ job_step s.classes job)))
