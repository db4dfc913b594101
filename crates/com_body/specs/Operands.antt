-- What operands stand for in a frame.
use Rattle.std.specs.Prelude.{ℕ, ◌%◌, ◌^◌, ℤ, pos, List, Bool, true, false, Option, Some, None, ◌==◌, map}
use Rattle.std.specs.Prelude.{replicate, if◌then◌else◌, slice_index_or}
use Rattle.std.specs.Int.{w64, cast_unsigned}
use Rattle.com_base.specs.declared.hresult.HResult.{HResult}
use Rattle.com_base.specs.declared.limits.TheConstants.{CELL_COUNT, LINK_COUNT}
use Rattle.com_base.specs.declared.value.RefValue.{RefValue}
use Rattle.com_base.specs.declared.value.Value.{Value}
use Rattle.com_base.specs.declared.value.Value.TheVariants as value
use Rattle.com_body.specs.declared.operands.Op.{Op}
use Rattle.com_body.specs.declared.operands.Op.TheVariants as op
use Rattle.com_body.specs.declared.operands.Place.{Place}
use Rattle.com_body.specs.declared.operands.Place.TheVariants as place
use Rattle.com_body.specs.declared.operands.Arg.{Arg}
use Rattle.com_body.specs.declared.operands.Arg.TheVariants as arg
use Rattle.com_body.specs.declared.operands.Code.{Code}
use Rattle.com_body.specs.declared.operands.Code.TheVariants as code
use Rattle.com_body.specs.declared.operands.Given.{Given}
use Rattle.com_body.specs.declared.operands.Given.TheVariants as given
use Rattle.com_body.specs.declared.frame.Cells.{Cells}
use Rattle.com_body.specs.Frames.{FrameView}

-- The cells of a new object.
abbrev pub new_cells : Cells
new_cells = record { numbers = replicate CELL_COUNT (pos 0); links = replicate LINK_COUNT None }

-- The number of a value: its Int, and 0 where it is no Int.
abbrev pub number_in : Value → ℤ
number_in (value.Int n) = n
number_in other = pos 0

-- The value in a register.
abbrev pub register_of : FrameView → ℕ → Value
register_of frame number = slice_index_or frame.registers number (value.Int (pos 0))

-- The reference in a slot, None for null.
abbrev pub slot_of : FrameView → ℕ → Option RefValue
slot_of frame number = slice_index_or frame.slots number None

-- The value of an operand: what its register holds, or the literal.
abbrev pub value_of : FrameView → Op → Value
value_of frame (op.Register number) = register_of frame number
value_of frame (op.Literal v) = v

-- The number of an operand.
abbrev pub number_of : FrameView → Op → ℤ
number_of frame operand = number_in (value_of frame operand)

-- The reference at a place: in a slot of the frame, or in a link of the object.
abbrev pub held_at : FrameView → Cells → Place → Option RefValue
held_at frame cells (place.Slot number) = slot_of frame number
held_at frame cells (place.Link number) = slice_index_or cells.links number None

-- The value of an argument.
abbrev pub argument_of : FrameView → Arg → Value
argument_of frame (arg.Op operand) = value_of frame operand
argument_of frame (arg.Slot number) = value.Ref (slot_of frame number)
argument_of frame arg.Null = value.Ref None

-- The values of arguments, in their order.
abbrev pub arguments_of : FrameView → List Arg → List Value
arguments_of frame args = map (argument_of frame) args

-- The HRESULT of a code: the literal, or the low 32 bits of a register's number.
abbrev pub answer_of : FrameView → Code → HResult
answer_of frame (code.Literal answer) = answer
answer_of frame (code.Register number) =
    record { 0 = cast_unsigned w64 (number_in (register_of frame number)) % 2 ^ 32 }

-- The value that a body gives when it leaves.
abbrev pub given_value : FrameView → Given → Option Value
given_value frame given.Nothing = None
given_value frame (given.Op operand) = Some (value_of frame operand)
given_value frame (given.Slot number) = Some (value.Ref (slot_of frame number))

-- Whether two slots name one object, or are both null.
abbrev pub same_object : Option RefValue → Option RefValue → Bool
same_object None None = true
same_object (Some left) (Some right) = left.object == right.object
same_object left right = false

-- The Int 1 for true and the Int 0 for false.
abbrev pub truth : Bool → Value
truth b = value.Int (if b then pos 1 else pos 0)
