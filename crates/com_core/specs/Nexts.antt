-- What a lane does next, and what its innermost opener says of jobs, as it is seen in the parts.
use Rattle.std.specs.Prelude.{Option, Some}
use Rattle.com_body.specs.declared.frame.Cells.{Cells}
use Rattle.com_body.specs.declared.frame.Job.{Job}
use Rattle.com_body.specs.Operands.{new_cells}
use Rattle.com_runtime.specs.declared.jobs.Next.{Next}
use Rattle.com_runtime.specs.declared.jobs.Next.TheVariants as next
use Rattle.com_view.specs.declared.next.Next.{Next as Seeing}
use Rattle.com_view.specs.declared.next.Next.TheVariants as seeing
use Rattle.com_model.specs.declared.keeps.Opener.{Opener}
use Rattle.com_model.specs.declared.keeps.Opener.TheVariants.{Enters}
use Rattle.com_model.specs.State.{SceneTables}
use Rattle.com_state.specs.SceneParts.{cells_at}
use Rattle.com_view.specs.Seen.{Seen}
use Rattle.com_turns.specs.Work.{IsWork}

-- In the words of the jobs.
abbrev pub next_as : Seeing → Next
next_as seeing.Body = next.Body
next_as seeing.Own = next.Own
next_as seeing.Wait = next.Wait
next_as seeing.Over = next.Over

-- A job is that of the body that is innermost, but for its cells.
abbrev pub FitsTop : Seen → Option Opener → Job → Type 0
FitsTop w (Some (Enters c o a)) job = IsWork w c o job
FitsTop w _ job = ⊥

-- The cells of the object whose body is innermost.
abbrev pub kept_top : SceneTables → Option Opener → Cells
kept_top t (Some (Enters c o a)) = cells_at t o
kept_top t _ = new_cells
