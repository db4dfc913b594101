-- The statement `call`: its method, its arguments and where its result goes.
use Rattle.std.specs.Prelude.{ℕ, ◌+◌, List, [], ◌∷◌, ◌++◌, length, take, drop, Option, Some, None, Result, Ok}
use Rattle.std.specs.Prelude.{Err, ◌==◌, if◌then◌else◌, option_map, slice_get, codes}
use Rattle.std.specs.Str.{bytes_eq}
use Rattle.com_base.specs.declared.value.Kind.{Kind}
use Rattle.com_base.specs.declared.value.Kind.TheVariants as kinds
use Rattle.com_body.specs.declared.operands.Arg.{Arg}
use Rattle.com_body.specs.declared.operands.Arg.TheVariants as args
use Rattle.com_body.specs.declared.operands.Destination.{Destination}
use Rattle.com_body.specs.declared.operands.Destination.TheVariants as destinations
use Rattle.com_body.specs.declared.statements.Stmt.{Stmt}
use Rattle.com_body.specs.declared.statements.Stmt.TheVariants as stmts
use Rattle.com_classes.specs.declared.interfaces.Interface.{Interface}
use Rattle.com_classes.specs.declared.interfaces.Method.{Method}
use Rattle.com_text.specs.Words.{WordAt}
use Rattle.com_read_operands.specs.declared.faults.Fault.{Fault}
use Rattle.com_read_operands.specs.declared.faults.TheConstants.Fault.{UNDECLARED, UNEXPECTED, UNFIT}
use Rattle.com_read_operands.specs.declared.operands.Operand.{Operand}
use Rattle.com_read_operands.specs.declared.operands.Operand.TheVariants as operands
use Rattle.com_read_operands.specs.Numbers.{number_of}
use Rattle.com_read_operands.specs.Reading.{◌>>=◌, fault_at, word_at, stands_at, end_at, within}
use Rattle.com_read_operands.specs.Naming.{is_name, number_of_name, of_16_bits}
use Rattle.com_read_operands.specs.Operands.{operand_of, unfit, slot_at, literal_of}
use Rattle.com_read_statements.specs.declared.calls.TheConstants.{LAST_METHOD}
use Rattle.com_read_statements.specs.declared.calls.MethodNumber.{MethodNumber}
use Rattle.com_read_statements.specs.declared.calls.Target.{Target}
use Rattle.com_read_statements.specs.declared.calls.Target.TheVariants as targets
use Rattle.com_read_statements.specs.declared.names.Names.{Names}

-- the index of the first dot
abbrev pub dot_of : List ℕ → Option ℕ
dot_of [] = None
dot_of (b ∷ bs) = if b == 46 then Some 0 else option_map (λ k. k + 1) (dot_of bs)

-- the first method of a name
abbrev pub method_position : List Method → List ℕ → Option ℕ
method_position [] name = None
method_position (m ∷ ms) name =
    if bytes_eq m.name name then Some 0 else option_map (λ k. k + 1) (method_position ms name)

-- the number of a method by its name, in the table of an interface that is there; none from 2^16 on
abbrev pub in_table : List ℕ → Option Interface → Option ℕ
in_table name None = None
in_table name (Some i) = of_16_bits (method_position i.methods name)

-- the number of the method that an interface's table has by a name
abbrev pub method_number : List Interface → ℕ → List ℕ → Option ℕ
method_number tables iface name = in_table name (slice_get tables iface)

-- the method with a number, from 0, in the table of an interface that is there
abbrev pub in_methods : ℕ → Option Interface → Option Method
in_methods method None = None
in_methods method (Some i) = slice_get i.methods method

-- the method with a number
abbrev pub method_of : List Interface → ℕ → ℕ → Option Method
method_of tables iface method = in_methods method (slice_get tables iface)

-- a method by number; where the interface is not declared, fault `UNDECLARED` at the word
abbrev pub numbered_by : ℕ → WordAt → Option ℕ → Result Target Fault
numbered_by method w None = Err (fault_at UNDECLARED w)
numbered_by method w (Some iface) = Ok (targets.Numbered (record { iface = iface; method = method }))

-- a method by its number, which is read before the interface's name
unfoldable pub numbered_of : Names → WordAt → List ℕ → List ℕ → Result Target Fault
numbered_of names w front digits = do
  method ← within 0 LAST_METHOD w (number_of digits)
  numbered_by method w (number_of_name names.interfaces front)

-- a method that the interface has; where it has none of the name, fault `UNDECLARED` at the word
abbrev pub named_in : WordAt → ℕ → Option ℕ → Result MethodNumber Fault
named_in w iface None = Err (fault_at UNDECLARED w)
named_in w iface (Some method) = Ok (record { iface = iface; method = method })

-- a method by name; where the interface or the method is not declared, fault `UNDECLARED` at the word
abbrev pub named_by : Names → WordAt → List ℕ → Option ℕ → Result MethodNumber Fault
named_by names w back None = Err (fault_at UNDECLARED w)
named_by names w back (Some iface) = named_in w iface (method_number names.tables iface back)

-- a method by its name
unfoldable pub named_of : Names → WordAt → List ℕ → List ℕ → Result MethodNumber Fault
named_of names w front back =
    if is_name back then named_by names w back (number_of_name names.interfaces front) else Err (fault_at UNEXPECTED w)

-- a method that was read by its name, as what a call names
abbrev pub as_target : Result MethodNumber Fault → Result Target Fault
as_target r = r >>= λ m. Ok (targets.Named m)

-- behind the dot of a call's method: `#` and a number, or else a name
abbrev pub behind_dot : Names → WordAt → List ℕ → List ℕ → Result Target Fault
behind_dot names w front [] = as_target (named_of names w front [])
behind_dot names w front (b ∷ bs) =
    if b == 35 then numbered_of names w front bs else as_target (named_of names w front (b ∷ bs))

-- a call's method, cut at its first dot; without one, or without a name before it, fault `UNEXPECTED`
abbrev pub dotted : Names → WordAt → Option ℕ → Result Target Fault
dotted names w None = Err (fault_at UNEXPECTED w)
dotted names w (Some dot) =
    if is_name (take dot w.bytes) then behind_dot names w (take dot w.bytes) (drop (dot + 1) w.bytes)
    else Err (fault_at UNEXPECTED w)

-- an interface's name, a dot, and a method's name or # and its number
unfoldable pub target_at : Names → List WordAt → ℕ → Result Target Fault
target_at names line k = do
  w ← word_at line k
  dotted names w (dot_of w.bytes)

-- a body's method, cut at its first dot: behind that stands its name, and no number is allowed
abbrev pub headed : Names → WordAt → Option ℕ → Result MethodNumber Fault
headed names w None = Err (fault_at UNEXPECTED w)
headed names w (Some dot) =
    if is_name (take dot w.bytes) then named_of names w (take dot w.bytes) (drop (dot + 1) w.bytes)
    else Err (fault_at UNEXPECTED w)

-- the method that a body is for: an interface's name, a dot and a method's name
unfoldable pub method_at : Names → List WordAt → ℕ → Result MethodNumber Fault
method_at names line k = do
  w ← word_at line k
  headed names w (dot_of w.bytes)

-- a slot or `null` for a parameter that takes an interface; no other operand fits
abbrev pub as_reference : WordAt → Operand → Result Arg Fault
as_reference w (operands.Slot n) = Ok (args.Slot n)
as_reference w operands.Null = Ok args.Null
as_reference w (operands.Wrong n) = Err (fault_at n w)
as_reference w _ = Err (fault_at UNFIT w)

-- a register or a literal for a parameter that takes no interface; `null` does not fit
abbrev pub as_value : WordAt → Operand → Result Arg Fault
as_value w operands.Null = Err (fault_at UNFIT w)
as_value w o = literal_of w o >>= λ op. Ok (args.Op op)

-- a reference where the parameter takes an interface, and else a value
abbrev pub as_argument : Kind → WordAt → Operand → Result Arg Fault
as_argument (kinds.Ref i) w o = as_reference w o
as_argument _ w o = as_value w o

-- a slot or null for an interface, else a register or a literal
unfoldable pub argument_at : Kind → List WordAt → ℕ → Result Arg Fault
argument_at kind line k = do
  w ← word_at line k
  as_argument kind w (operand_of w)

-- the arguments so far, and those for the parameters that are left, from an index on
abbrev pub arguments_on : List Arg → List Kind → List WordAt → ℕ → Result (List Arg) Fault
arguments_on done [] line k = Ok done
arguments_on done (p ∷ ps) line k =
    argument_at p line k >>= λ a. arguments_on (done ++ a ∷ []) ps line (k + 1)

-- a result that is a reference goes to a slot; every other operand may not stand there
abbrev pub in_slot : WordAt → Operand → Result Destination Fault
in_slot w (operands.Slot n) = Ok (destinations.Slot n)
in_slot w o = Err (fault_at (unfit o) w)

-- a result that is a value goes to a register; every other operand may not stand there
abbrev pub in_register : WordAt → Operand → Result Destination Fault
in_register w (operands.Register n) = Ok (destinations.Register n)
in_register w o = Err (fault_at (unfit o) w)

-- a result at a destination's word
unfoldable pub landing_of : Option Kind → WordAt → Operand → Result Destination Fault
landing_of None w o = Err (fault_at (unfit o) w)
landing_of (Some (kinds.Ref i)) w o = in_slot w o
landing_of (Some _) w o = in_register w o

-- nowhere, or behind -> a slot or a register
unfoldable pub destination_at : Option Kind → List WordAt → ℕ → Result Destination Fault
destination_at kind line k = do
  there ← stands_at line k
  if there then (do
    arrow ← word_at line k
    if bytes_eq arrow.bytes (codes "->") then (do
      w ← word_at line (k + 1)
      d ← landing_of kind w (operand_of w)
      done ← end_at line (k + 2)
      Ok d) else Err (fault_at UNEXPECTED arrow)) else Ok destinations.Nowhere

-- the call of a method by name
unfoldable pub call_of : ℕ → MethodNumber → Method → List WordAt → Result Stmt Fault
call_of slot number method line = do
  args ← arguments_on [] method.params line 3
  d ← destination_at method.result line (3 + length method.params)
  Ok (stmts.Call slot number.iface number.method args d)

-- a call by the method's parameters and result; without a method, fault `UNDECLARED` at its word
abbrev pub signed_call : ℕ → MethodNumber → Option Method → List WordAt → Result Stmt Fault
signed_call slot number None line = word_at line 2 >>= λ w. Err (fault_at UNDECLARED w)
signed_call slot number (Some m) line = call_of slot number m line

-- a call by name has the method's arguments and result; one by number has none, and the line ends there
abbrev pub call_by : Names → ℕ → List WordAt → Target → Result Stmt Fault
call_by names slot line (targets.Named m) = signed_call slot m (method_of names.tables m.iface m.method) line
call_by names slot line (targets.Numbered m) = do
  done ← end_at line 3
  Ok (stmts.Call slot m.iface m.method [] destinations.Nowhere)

-- a call: the slot, the method, the arguments for its parameters and where its result goes
unfoldable pub call_at : Names → List WordAt → Result Stmt Fault
call_at names line = do
  slot ← slot_at line 1
  t ← target_at names line 2
  call_by names slot line t
