-- The work of a body's next step, as the parts of a core have it.
use Rattle.std.specs.Prelude.{◌≡◌, ℕ, IsSome, Option, Some}
use Rattle.com_body.specs.declared.frame.Job.{Job}
use Rattle.com_model.specs.declared.keeps.Opener.TheVariants.{Enters}
use Rattle.com_model.specs.Lists.{first}
use Rattle.com_runtime.specs.Jobs.{job_by}
use Rattle.com_servant.specs.Steps.{native_at}
use Rattle.com_state.specs.Parts.{class_at, issue_at, openers_at}
use Rattle.com_state.specs.SceneParts.{body_at, cells_at}
use Rattle.com_view.specs.Seen.{Seen}

-- The job of the body of a call on an object.
abbrev pub work_seen : Seen → (call object : ℕ) → Option Job
work_seen w c o =
    job_by (class_at w.objects o) (native_at w.scenario.classes (class_at w.objects o))
    (issue_at w.calls.tables c) (body_at w.scene c) (cells_at w.scene o)

-- A job is that of the body, but for its cells.
abbrev pub IsWork : Seen → (call object : ℕ) → Job → Type 0
IsWork w c o job = work_seen w c o ≡ Some (record job { cells = cells_at w.scene o })

-- The call was issued, and the class of the object is declared, so that it has a kind.
pub record HasWork (w : Seen) (call object : ℕ) : Type 0 where
  pub issued : IsSome (issue_at w.calls.tables call)
  pub declared : IsSome (native_at w.scenario.classes (class_at w.objects object))

-- Each body that is innermost in its lane has work.
abbrev pub BodiesWork : Seen → Type 0
BodiesWork w = (lane call object apartment : ℕ)
    → first (openers_at w.lanes lane) ≡ Some (Enters call object apartment) → HasWork w call object
