-- The statements of a body or a script so far.
use Rattle.std.specs.Prelude.{ℕ, List, [], ◌∷◌, ◌++◌, Option, Some, None, Result, Ok, Err, slice_get}
use Rattle.com_body.specs.declared.statements.Stmt.{Stmt}
use Rattle.com_body.specs.declared.body.BodyFault.{BodyFault}
use Rattle.com_body.specs.declared.body.BodyFault.TheVariants as faults
use Rattle.com_body.specs.Bodies.{fault_of}
use Rattle.com_read_operands.specs.declared.faults.Fault.{Fault}
use Rattle.com_read_operands.specs.declared.faults.TheConstants.Fault.{HEADER}

-- the statements, and for each its fault if it skips beyond the end
pub record CodeAt : Type 0 where
  pub statements : List Stmt
  pub spots : List Fault

-- a body or a script before its first statement
abbrev pub no_code : CodeAt
no_code = record { statements = []; spots = [] }

-- one more statement behind the others, and its fault if it skips beyond the end
abbrev pub code_more : CodeAt → Stmt → Fault → CodeAt
code_more code s f = record { statements = code.statements ++ s ∷ []; spots = code.spots ++ f ∷ [] }

-- the fault of a text without words, or with a lone `scenario` for its header
abbrev pub first_position : Fault
first_position = record { number = HEADER; line = 1; column = 1 }

-- each statement has its fault, so there is one for each number
abbrev pub spotted : Option Fault → Result (List Stmt) Fault
spotted None = Err first_position
spotted (Some f) = Err f

-- the statements, or what is wrong with them: a skip that passes the end has the fault that is kept for it, and too
-- many statements have the one at the text's first position
abbrev pub checked_by : CodeAt → Option BodyFault → Result (List Stmt) Fault
checked_by code None = Ok code.statements
checked_by code (Some (faults.Jump k)) = spotted (slice_get code.spots k)
checked_by code (Some faults.TooLong) = Err first_position

-- the statements at their end, or the first skip that passes it
abbrev pub checked : CodeAt → ℕ → Result (List Stmt) Fault
checked code limit = checked_by code (fault_of code.statements limit)
