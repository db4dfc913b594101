-- A body by itself: what it does while nothing else changes its frame or the cells of its object.
use Rattle.std.specs.Prelude.{ℕ, zero, suc, pos, List, Option, None, slice_set}
use Rattle.com_base.specs.declared.value.RefValue.{RefValue}
use Rattle.com_base.specs.declared.value.Value.TheVariants as value
use Rattle.com_body.specs.declared.statements.Stmt.{Stmt}
use Rattle.com_body.specs.declared.operands.Place.{Place}
use Rattle.com_body.specs.declared.operands.Place.TheVariants as place
use Rattle.com_body.specs.declared.actions.Action.{Action}
use Rattle.com_body.specs.declared.actions.Action.TheVariants as action
use Rattle.com_body.specs.declared.frame.Cells.{Cells}
use Rattle.com_body.specs.declared.frame.Outcome.{Outcome}
use Rattle.com_body.specs.Frames.{FrameView, with_register, with_slot}
use Rattle.com_body.specs.BodySteps.{body_step}

-- A copy and a release put a reference at a place of the frame or of the object, and answer S_OK in register
-- 15.
abbrev pub in_frame : Place → Option RefValue → FrameView → FrameView
in_frame (place.Slot k) held f = with_slot (with_register f 15 (value.Int (pos 0))) k held
in_frame (place.Link k) held f = with_register f 15 (value.Int (pos 0))

abbrev pub in_cells : Place → Option RefValue → Cells → Cells
in_cells (place.Slot k) held c = c
in_cells (place.Link k) held c = record c { links = slice_set c.links k held }

-- The first action that is no copy and no release, with the frame and the cells at it; so many of these may
-- come before it.
abbrev pub goes_on : (FrameView → Cells → Outcome) → Outcome → Action → Outcome
goes_on next r (action.Copy to held) = next (in_frame to held r.frame) (in_cells to held r.cells)
goes_on next r (action.Release from held) = next (in_frame from None r.frame) (in_cells from None r.cells)
goes_on next r other = r

abbrev pub alone : List Stmt → ℕ → FrameView → Cells → Outcome
alone body zero f c = body_step body f c
alone body (suc n) f c = goes_on (alone body n) (body_step body f c) (body_step body f c).action
