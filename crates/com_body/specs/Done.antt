-- What the code of one statement gives.
use Rattle.std.specs.Prelude.{◌≡◌, ℕ}
use Rattle.com_body.specs.declared.actions.Action.{Action}
use Rattle.com_body.specs.declared.steps.Done.{Done}
use Rattle.com_body.specs.declared.steps.Done.TheVariants as done
use Rattle.com_body.specs.declared.frame.Cells.{Cells}
use Rattle.com_body.specs.Frames.{FrameView}
use Rattle.com_body.specs.BodySteps.{Effect, Goes, Acts}

-- A local statement left the new frame and cells, and no action. Any other put its action in place, and left the frame
-- and the cells as they were.
abbrev pub DoneIs : Done → Effect → FrameView → FrameView → Cells → Cells → Action → Action → Type 0
DoneIs (done.Went n) effect old_frame new_frame old_cells new_cells old_action new_action =
    (effect ≡ Goes new_frame new_cells n) × (new_action ≡ old_action)
DoneIs done.Acted effect old_frame new_frame old_cells new_cells old_action new_action =
    (effect ≡ Acts new_action) × (new_frame ≡ old_frame) × (new_cells ≡ old_cells)

-- How many statements were passed over.
abbrev pub passed_over : Done → ℕ
passed_over (done.Went n) = n
passed_over done.Acted = 0
