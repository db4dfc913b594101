-- The statements, each with its operands in order.
use Rattle.std.specs.Prelude.{ℕ, ◌+◌, ◌*◌, List, length, Option, Some, None, Result, Ok, Err, not, nat_lt}
use Rattle.std.specs.Prelude.{if◌then◌else◌, codes}
use Rattle.std.specs.Str.{bytes_eq}
use Rattle.com_base.specs.declared.limits.TheConstants.{RAW_LIMIT}
use Rattle.com_body.specs.declared.statements.Stmt.{Stmt}
use Rattle.com_body.specs.declared.statements.Stmt.TheVariants as stmts
use Rattle.com_text.specs.Words.{WordAt}
use Rattle.com_read_operands.specs.declared.faults.Fault.{Fault}
use Rattle.com_read_operands.specs.declared.faults.TheConstants.Fault.{LIMIT, UNEXPECTED}
use Rattle.com_read_operands.specs.Reading.{◌>>=◌, fault_at, word_at, end_at, number_at}
use Rattle.com_read_operands.specs.Literals.{are_pairs, unhexed}
use Rattle.com_read_operands.specs.Naming.{name_at, declared_at, asked_at}
use Rattle.com_read_operands.specs.Operands.{register_at, slot_at, cell_at, buffer_at, place_at, op_at}
use Rattle.com_read_operands.specs.Operands.{code_at, given_at, mode_at, marshal_mode_at}
use Rattle.com_base.specs.declared.limits.TheConstants.{PUMP_LIMIT, SKIP_LIMIT}
use Rattle.com_read_statements.specs.declared.keywords.Program.{Program}
use Rattle.com_read_statements.specs.declared.keywords.LocalWord.{LocalWord}
use Rattle.com_read_statements.specs.declared.keywords.LocalWord.TheVariants as locals
use Rattle.com_read_statements.specs.declared.keywords.ObjectWord.{ObjectWord}
use Rattle.com_read_statements.specs.declared.keywords.ObjectWord.TheVariants as objects
use Rattle.com_read_statements.specs.declared.keywords.LaneWord.{LaneWord}
use Rattle.com_read_statements.specs.declared.keywords.LaneWord.TheVariants as lanes
use Rattle.com_read_statements.specs.declared.keywords.Keyword.{Keyword}
use Rattle.com_read_statements.specs.declared.keywords.Keyword.TheVariants as keywords
use Rattle.com_read_statements.specs.declared.names.Names.{Names}
use Rattle.com_read_statements.specs.Keywords.{has_cells, has_links}
use Rattle.com_read_statements.specs.Calls.{call_at}

-- the statements that change only the frame and the cells
unfoldable pub local_of : Program → LocalWord → List WordAt → Result Stmt Fault
local_of p locals.Set line = do
  to ← register_at line 1
  from ← op_at line 2
  done ← end_at line 3
  Ok (stmts.Set to from)
local_of p locals.Add line = do
  to ← register_at line 1
  from ← op_at line 2
  done ← end_at line 3
  Ok (stmts.Add to from)
local_of p locals.Sub line = do
  to ← register_at line 1
  from ← op_at line 2
  done ← end_at line 3
  Ok (stmts.Sub to from)
local_of p locals.Less line = do
  to ← register_at line 1
  left ← op_at line 2
  right ← op_at line 3
  done ← end_at line 4
  Ok (stmts.Less to left right)
local_of p locals.Same line = do
  to ← register_at line 1
  left ← slot_at line 2
  right ← slot_at line 3
  done ← end_at line 4
  Ok (stmts.Same to left right)
local_of p locals.Load line = do
  to ← register_at line 1
  cell ← cell_at (has_cells p) line 2
  done ← end_at line 3
  Ok (stmts.Load to cell)
local_of p locals.Store line = do
  cell ← cell_at (has_cells p) line 1
  from ← op_at line 2
  done ← end_at line 3
  Ok (stmts.Store cell from)
local_of p locals.Skip line = do
  count ← number_at 1 SKIP_LIMIT line 1
  done ← end_at line 2
  Ok (stmts.Skip count)
local_of p locals.SkipZero line = do
  register ← register_at line 1
  count ← number_at 1 SKIP_LIMIT line 2
  done ← end_at line 3
  Ok (stmts.SkipZero register count)

-- the bytes of a `raw`, and fault `UNEXPECTED` where the digits spell none
abbrev pub as_raw : WordAt → Option (List ℕ) → Result (List ℕ) Fault
as_raw w None = Err (fault_at UNEXPECTED w)
as_raw w (Some bytes) = Ok bytes

-- pairs of hexadecimal digits, at most `RAW_LIMIT`
unfoldable pub raw_at : List WordAt → ℕ → Result (List ℕ) Fault
raw_at line k = do
  w ← word_at line k
  if not (are_pairs w.bytes) then Err (fault_at UNEXPECTED w)
      else (if nat_lt (2 * RAW_LIMIT) (length w.bytes) then Err (fault_at LIMIT w)
      else as_raw w (unhexed w.bytes))

-- the actions on references and packets
unfoldable pub object_of : Program → Names → ObjectWord → List WordAt → Result Stmt Fault
object_of p names objects.Create line = do
  slot ← slot_at line 1
  class ← asked_at names.classes 1 line 2
  iface ← asked_at names.interfaces 0 line 3
  done ← end_at line 4
  Ok (stmts.Create slot class iface)
object_of p names objects.Query line = do
  to ← slot_at line 1
  from ← slot_at line 2
  iface ← asked_at names.interfaces 0 line 3
  done ← end_at line 4
  Ok (stmts.Query to from iface)
object_of p names objects.Copy line = do
  to ← place_at (has_links p) line 1
  from ← place_at (has_links p) line 2
  done ← end_at line 3
  Ok (stmts.Copy to from)
object_of p names objects.Release line = do
  place ← place_at (has_links p) line 1
  done ← end_at line 2
  Ok (stmts.Release place)
object_of p names objects.Call line = call_at names line
object_of p names objects.Marshal line = do
  buffer ← buffer_at line 1
  slot ← slot_at line 2
  mode ← marshal_mode_at line 3
  done ← end_at line 4
  Ok (stmts.Marshal buffer slot mode)
object_of p names objects.Unmarshal line = do
  slot ← slot_at line 1
  buffer ← buffer_at line 2
  done ← end_at line 3
  Ok (stmts.Unmarshal slot buffer)
object_of p names objects.Drop line = do
  buffer ← buffer_at line 1
  done ← end_at line 2
  Ok (stmts.Drop buffer)
object_of p names objects.Raw line = do
  buffer ← buffer_at line 1
  bytes ← raw_at line 2
  done ← end_at line 3
  Ok (stmts.Raw buffer bytes)
object_of p names objects.Disconnect line = do
  slot ← slot_at line 1
  done ← end_at line 2
  Ok (stmts.Disconnect slot)

-- a filter's number from 1, or none
unfoldable pub filter_at : List (List ℕ) → List WordAt → ℕ → Result (Option ℕ) Fault
filter_at filters line k = do
  w ← name_at line k
  if bytes_eq w.bytes (codes "none") then Ok None else (do
    n ← declared_at filters line k
    Ok (Some (n + 1)))

-- the actions on cookies, lanes and apartments
unfoldable pub lane_of : Names → LaneWord → List WordAt → Result Stmt Fault
lane_of names lanes.Register line = do
  to ← register_at line 1
  slot ← slot_at line 2
  done ← end_at line 3
  Ok (stmts.Register to slot)
lane_of names lanes.Get line = do
  slot ← slot_at line 1
  cookie ← op_at line 2
  done ← end_at line 3
  Ok (stmts.Get slot cookie)
lane_of names lanes.Revoke line = do
  cookie ← op_at line 1
  done ← end_at line 2
  Ok (stmts.Revoke cookie)
lane_of names lanes.Post line = do
  lane ← op_at line 1
  word ← op_at line 2
  done ← end_at line 3
  Ok (stmts.Post lane word)
lane_of names lanes.Quit line = do
  lane ← op_at line 1
  done ← end_at line 2
  Ok (stmts.Quit lane)
lane_of names lanes.Leave line = do
  answer ← code_at line 1
  given ← given_at line 2
  done ← end_at line 3
  Ok (stmts.Leave answer given)
lane_of names lanes.Init line = do
  mode ← mode_at line 1
  done ← end_at line 2
  Ok (stmts.Init mode)
lane_of names lanes.Uninit line = do
  done ← end_at line 1
  Ok stmts.Uninit
lane_of names lanes.SetFilter line = do
  filter ← filter_at names.filters line 1
  done ← end_at line 2
  Ok (stmts.SetFilter filter)
lane_of names lanes.Pump line = do
  bound ← number_at 0 PUMP_LIMIT line 1
  done ← end_at line 2
  Ok (stmts.Pump bound)

-- the statement that a line spells behind its keyword
unfoldable pub stmt_of : Program → Names → Keyword → List WordAt → Result Stmt Fault
stmt_of p names (keywords.Local w) line = local_of p w line
stmt_of p names (keywords.Object w) line = object_of p names w line
stmt_of p names (keywords.Lane w) line = lane_of names w line
