-- The jobs of lanes: what a lane does next, which step of a body is to be computed for it, and when a job
-- that was taken may still be committed.
use Rattle.std.specs.Prelude.{◌≡◌, ℕ, Bool, true, false, Option, Some, None, slice_index_or}
use Rattle.com_body.specs.declared.frame.Cells.{Cells}
use Rattle.com_body.specs.declared.frame.Job.{Job}
use Rattle.com_body.specs.declared.frame.Native.{Native}
use Rattle.com_body.specs.declared.frame.Outcome.{Outcome}
use Rattle.com_body.specs.Frames.{FrameView}
use Rattle.com_body.specs.Operands.{new_cells}
use Rattle.com_model.specs.declared.keeps.Issue.{Issue}
use Rattle.com_model.specs.declared.keeps.Opener.{Opener}
use Rattle.com_model.specs.declared.keeps.Opener.TheVariants.{Enters}
use Rattle.com_model.specs.declared.scenario.Scenario.{Scenario}
use Rattle.com_model.specs.Lists.{first}
use Rattle.com_model.specs.Openers.{is_body}
use Rattle.com_model.specs.State.{State, openers_in, class_in, issue_in, scene_in}
use Rattle.com_servant.specs.Steps.{native_at}
use Rattle.com_runtime.specs.Standings.{can_step_in}
use Rattle.com_runtime.specs.declared.errors.CommitError.{CommitError}
use Rattle.com_runtime.specs.declared.errors.CommitError.TheVariants as error
use Rattle.com_runtime.specs.declared.jobs.Next.{Next}
use Rattle.com_runtime.specs.declared.jobs.Next.TheVariants as next

-- ---- what a lane does next

-- Body where the innermost opener is an Enter; Own where another next entry exists; Over where the lane has
-- an End; else Wait.
abbrev pub next_by : (enter can over : Bool) → Next
next_by true can over = next.Body
next_by false true over = next.Own
next_by false false true = next.Over
next_by false false false = next.Wait

-- What a lane does next in a state: the step of a body, another entry, or none as things stand; or it has ended.
unfoldable pub next_in : Scenario → State → (lane : ℕ) → Next
next_in s st l =
    next_by (is_body (first (openers_in st l))) (can_step_in s st l) (slice_index_or st.over l false)

-- ---- the job of a lane

-- The step of a body on an object: of the kind of the object's class, with the class's number; by the
-- interface and the method of the call; on the body's frame and the object's cells.
abbrev pub job_by : (class : ℕ) → Option Native → Option Issue → FrameView → Cells → Option Job
job_by n (Some k) (Some i) f c = Some (record {
  kind = k;
  class = n;
  iface = i.iface;
  method = i.method;
  frame = f;
  cells = c;
})
job_by n _ _ f c = None

-- That of the innermost body, where one is.
abbrev pub job_above : Scenario → State → Option Opener → Option Job
job_above s st (Some (Enters c o a)) =
    job_by (class_in st o) (native_at s.classes (class_in st o)) (issue_in st c)
    ((scene_in st).bodies c) ((scene_in st).cells o)
job_above s st _ = None

-- The step of the body that is innermost in a lane, as a state has it; None where no body is innermost.
unfoldable pub job_of : Scenario → State → (lane : ℕ) → Option Job
job_of s st l = job_above s st (first (openers_in st l))

-- The cells of the object whose body is innermost in a lane.
abbrev pub kept_above : State → Option Opener → Cells
kept_above st (Some (Enters c o a)) = (scene_in st).cells o
kept_above st _ = new_cells

-- The cells of the object whose body is innermost in a lane; those of a new object where none is.
unfoldable pub kept_in : State → (lane : ℕ) → Cells
kept_in st l = kept_above st (first (openers_in st l))

-- ---- when a job may be committed

-- A body acts in the lane, and with the cells of its object the job is that of the lane: its kind, class,
-- interface, method and frame are those of the innermost body.
pub record Fits (s : Scenario) (st : State) (l : ℕ) (job : Job) : Type 0 where
  pub body : next_in s st l ≡ next.Body
  pub same : job_of s st l ≡ Some (record job { cells = kept_in st l })

-- A job is refused as stale where the object's cells differ from the job's. Memory can be wanting only where
-- they are the same.
abbrev pub IsRefused : (kept : Cells) → Job → CommitError → Type 0
IsRefused kept job (error.Stale j found) = (found ≡ kept) × ¬ (job.cells ≡ kept)
IsRefused kept job (error.Memory j r) = job.cells ≡ kept

-- The job comes back, and with want of memory the outcome too.
abbrev pub IsGivenBack : Job → Outcome → CommitError → Type 0
IsGivenBack job r (error.Stale j found) = j ≡ job
IsGivenBack job r (error.Memory j x) = (j ≡ job) × (x ≡ r)
