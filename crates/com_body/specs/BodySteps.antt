-- The body step: local statements one by one, until an action stands at the program counter.
use Rattle.std.specs.Prelude.{ℕ, zero, suc, ◌+◌, pos, List, [], ◌∷◌, if◌then◌else◌, int_lt, drop}
use Rattle.std.specs.Prelude.{slice_index_or, slice_set}
use Rattle.std.specs.Int.{w64, int_wrapping_add, int_wrapping_sub}
use Rattle.std.specs.Ordering.{int_eq}
use Rattle.com_base.specs.declared.hresult.TheConstants.HResult.{E_NOTIMPL}
use Rattle.com_base.specs.declared.value.Value.TheVariants as value
use Rattle.com_body.specs.declared.statements.Stmt.{Stmt}
use Rattle.com_body.specs.declared.statements.Stmt.TheVariants as stmt
use Rattle.com_body.specs.declared.operands.Code.TheVariants as code
use Rattle.com_body.specs.declared.operands.Given.TheVariants as given
use Rattle.com_body.specs.declared.actions.Action.{Action}
use Rattle.com_body.specs.declared.frame.Cells.{Cells}
use Rattle.com_body.specs.declared.frame.Outcome.{Outcome}
use Rattle.com_body.specs.Frames.{FrameView, with_register, moved}
use Rattle.com_body.specs.Operands.{number_in, register_of, slot_of, value_of, number_of, same_object, truth}
use Rattle.com_body.specs.Actions.{action_of, leave_ok}

-- What a statement does. A local one goes on with the frame and the cells that it leaves, and passes over so
-- many of the statements behind it. Any other is an action.
pub data Effect : Type 0 where
  Goes : FrameView → Cells → ℕ → Effect
  Acts : Action → Effect

-- Whole numbers of 64 bits wrap.
abbrev pub effect_of : FrameView → Cells → Stmt → Effect
effect_of f c (stmt.Set to from) = Goes (with_register f to (value_of f from)) c 0
effect_of f c (stmt.Add to from) =
    Goes (with_register f to (value.Int
    (int_wrapping_add w64 (number_in (register_of f to)) (number_of f from)))) c 0
effect_of f c (stmt.Sub to from) =
    Goes (with_register f to (value.Int
    (int_wrapping_sub w64 (number_in (register_of f to)) (number_of f from)))) c 0
effect_of f c (stmt.Less to left right) =
    Goes (with_register f to (truth (int_lt (number_of f left) (number_of f right)))) c 0
effect_of f c (stmt.Same to left right) =
    Goes (with_register f to (truth (same_object (slot_of f left) (slot_of f right)))) c 0
effect_of f c (stmt.Load to cell) =
    Goes (with_register f to (value.Int (slice_index_or c.numbers cell (pos 0)))) c 0
effect_of f c (stmt.Store cell from) =
    Goes f (record c { numbers = slice_set c.numbers cell (number_of f from) }) 0
effect_of f c (stmt.Skip count) = Goes f c count
effect_of f c (stmt.SkipZero register count) =
    Goes f c (if int_eq (number_in (register_of f register)) (pos 0) then count else 0)
effect_of f c other = Acts (action_of f c other)

-- The step on the statements that remain, of which the first n are to be passed over. The frame's program
-- counter is that of the first statement behind those. At the end it stays.
abbrev pub walk : List Stmt → ℕ → FrameView → Cells → Outcome
walk [] n f c = record { frame = f; cells = c; action = leave_ok }
walk (s ∷ rest) (suc n) f c = walk rest n f c
walk (s ∷ rest) zero f c =
    elim (effect_of f c s) [
      | Goes g d n ↦ walk rest n (moved g (n + 1)) d
      | Acts a ↦ record { frame = moved f 1; cells = c; action = a }
    ]

-- The body step from the frame's program counter. One past the end counts as the end.
abbrev pub body_step : List Stmt → FrameView → Cells → Outcome
body_step statements frame cells = walk (drop frame.place statements) 0 frame cells

-- The body of a method that was given none: `leave E_NOTIMPL`.
abbrev pub no_body : List Stmt
no_body = stmt.Leave (code.Literal E_NOTIMPL) given.Nothing ∷ []
