-- Which lists of statements are bodies.
use Rattle.std.specs.Prelude.{◌≡◌, ℕ, ◌+◌, ◌<◌, ◌^◌, List, [], ◌∷◌, Option, Some, None, All, length, nat_lt}
use Rattle.std.specs.Prelude.{if◌then◌else◌}
use Rattle.com_base.specs.declared.limits.TheConstants.{BUFFER_COUNT, CELL_COUNT, LINK_COUNT}
use Rattle.com_base.specs.declared.limits.TheConstants.{REGISTER_COUNT, SLOT_COUNT}
use Rattle.com_body.specs.declared.statements.Stmt.{Stmt}
use Rattle.com_body.specs.declared.statements.Stmt.TheVariants as stmt
use Rattle.com_body.specs.declared.operands.Op.{Op}
use Rattle.com_body.specs.declared.operands.Op.TheVariants as op
use Rattle.com_body.specs.declared.operands.Place.{Place}
use Rattle.com_body.specs.declared.operands.Place.TheVariants as place
use Rattle.com_body.specs.declared.operands.Arg.{Arg}
use Rattle.com_body.specs.declared.operands.Arg.TheVariants as arg
use Rattle.com_body.specs.declared.operands.Code.{Code}
use Rattle.com_body.specs.declared.operands.Code.TheVariants as code
use Rattle.com_body.specs.declared.operands.Given.{Given}
use Rattle.com_body.specs.declared.operands.Given.TheVariants as given
use Rattle.com_body.specs.declared.operands.Destination.{Destination}
use Rattle.com_body.specs.declared.operands.Destination.TheVariants as destination
use Rattle.com_body.specs.declared.body.BodyFault.{BodyFault}
use Rattle.com_body.specs.declared.body.BodyFault.TheVariants as fault

-- Registers, slots, cells, links and packet buffers are numbered from 0 to below their count.
abbrev pub IsOp : Op → Type 0
IsOp (op.Register number) = number < REGISTER_COUNT
IsOp (op.Literal v) = Unit {0}

-- The slot or the link that a statement names as a place has a number below its count.
abbrev pub IsPlace : Place → Type 0
IsPlace (place.Slot number) = number < SLOT_COUNT
IsPlace (place.Link number) = number < LINK_COUNT

-- The register or slot of an argument has a number below its count. A literal and the null reference have none.
abbrev pub IsArg : Arg → Type 0
IsArg (arg.Op operand) = IsOp operand
IsArg (arg.Slot number) = number < SLOT_COUNT
IsArg arg.Null = Unit {0}

-- The register that an HRESULT is read from has a number below its count. A written HRESULT has none.
abbrev pub IsCode : Code → Type 0
IsCode (code.Literal answer) = Unit {0}
IsCode (code.Register number) = number < REGISTER_COUNT

-- The register or slot that a body's result is read from has a number below its count. No result and a literal
-- have none.
abbrev pub IsGiven : Given → Type 0
IsGiven given.Nothing = Unit {0}
IsGiven (given.Op operand) = IsOp operand
IsGiven (given.Slot number) = number < SLOT_COUNT

-- The register or slot that a call's result goes to has a number below its count. A result that is not kept
-- needs none.
abbrev pub IsDestination : Destination → Type 0
IsDestination destination.Nowhere = Unit {0}
IsDestination (destination.Register number) = number < REGISTER_COUNT
IsDestination (destination.Slot number) = number < SLOT_COUNT

-- Each number of a register, slot, cell, link or buffer in a statement is in its range.
abbrev pub IsInRange : Stmt → Type 0
IsInRange (stmt.Set to from) = (to < REGISTER_COUNT) × IsOp from
IsInRange (stmt.Add to from) = (to < REGISTER_COUNT) × IsOp from
IsInRange (stmt.Sub to from) = (to < REGISTER_COUNT) × IsOp from
IsInRange (stmt.Less to left right) = (to < REGISTER_COUNT) × IsOp left × IsOp right
IsInRange (stmt.Same to left right) = (to < REGISTER_COUNT) × (left < SLOT_COUNT) × (right < SLOT_COUNT)
IsInRange (stmt.Load to cell) = (to < REGISTER_COUNT) × (cell < CELL_COUNT)
IsInRange (stmt.Store cell from) = (cell < CELL_COUNT) × IsOp from
IsInRange (stmt.Skip count) = Unit {0}
IsInRange (stmt.SkipZero register count) = register < REGISTER_COUNT
IsInRange (stmt.Create slot class iface) = slot < SLOT_COUNT
IsInRange (stmt.Query to from iface) = (to < SLOT_COUNT) × (from < SLOT_COUNT)
IsInRange (stmt.Copy to from) = IsPlace to × IsPlace from
IsInRange (stmt.Release place) = IsPlace place
IsInRange (stmt.Call slot iface method args destination) =
    (slot < SLOT_COUNT) × All IsArg args × IsDestination destination
IsInRange (stmt.Marshal buffer slot mode) = (buffer < BUFFER_COUNT) × (slot < SLOT_COUNT)
IsInRange (stmt.Unmarshal slot buffer) = (slot < SLOT_COUNT) × (buffer < BUFFER_COUNT)
IsInRange (stmt.Drop buffer) = buffer < BUFFER_COUNT
IsInRange (stmt.Raw buffer bytes) = buffer < BUFFER_COUNT
IsInRange (stmt.Register to slot) = (to < REGISTER_COUNT) × (slot < SLOT_COUNT)
IsInRange (stmt.Get slot cookie) = (slot < SLOT_COUNT) × IsOp cookie
IsInRange (stmt.Revoke cookie) = IsOp cookie
IsInRange (stmt.Disconnect slot) = slot < SLOT_COUNT
IsInRange (stmt.Post lane word) = IsOp lane × IsOp word
IsInRange (stmt.Quit lane) = IsOp lane
IsInRange (stmt.Leave answer given) = IsCode answer × IsGiven given
IsInRange (stmt.Init mode) = Unit {0}
IsInRange stmt.Uninit = Unit {0}
IsInRange (stmt.SetFilter filter) = Unit {0}
IsInRange (stmt.Pump bound) = Unit {0}

-- How many statements a statement may pass over.
abbrev pub skip_of : Stmt → ℕ
skip_of (stmt.Skip count) = count
skip_of (stmt.SkipZero register count) = count
skip_of other = 0

-- The number of the first statement whose skip passes the end, where the first statement here has the number
-- k. A skip to exactly the end does not pass it.
abbrev pub first_past_end : List Stmt → ℕ → Option ℕ
first_past_end [] k = None
first_past_end (s ∷ rest) k = if nat_lt (length rest) (skip_of s) then Some k else first_past_end rest (k + 1)

-- Why a list of statements is no body of at most so many statements, if it is none. Length is judged first.
abbrev pub fault_of : List Stmt → ℕ → Option BodyFault
fault_of statements limit =
    if nat_lt limit (length statements) then Some fault.TooLong
    else elim (first_past_end statements 0) [ None ↦ None | Some k ↦ Some (fault.Jump k) ]

-- What holds of every body.
pub record IsBody (statements : List Stmt) : Type 0 where
  pub short : length statements < 2 ^ 32
  pub in_range : All IsInRange statements
  pub inside : first_past_end statements 0 ≡ None
