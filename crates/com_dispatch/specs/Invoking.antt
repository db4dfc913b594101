-- The statement `invoke`: its words from left to right, and its first fault.
use Rattle.std.specs.Prelude.{ℕ, ◌+◌, ◌<◌, List, [], ◌∷◌, ◌++◌, drop, Result, Ok, Err}
use Rattle.std.specs.Prelude.{All, if◌then◌else◌, codes, Option, Some, None}
use Rattle.std.specs.Str.{bytes_eq}
use Rattle.com_base.specs.declared.value.Value.TheVariants as values
use Rattle.com_body.specs.declared.operands.Op.{Op}
use Rattle.com_body.specs.declared.operands.Op.TheVariants as ops
use Rattle.com_body.specs.declared.operands.Destination.{Destination}
use Rattle.com_body.specs.declared.operands.Destination.TheVariants as destinations
use Rattle.com_body.specs.Bodies.{IsDestination}
use Rattle.com_dispatch.specs.declared.members.DispArg.{DispArg}
use Rattle.com_dispatch.specs.declared.members.DispArg.TheVariants as given
use Rattle.com_dispatch.specs.declared.members.Member.{Member}
use Rattle.com_dispatch.specs.declared.members.Member.TheVariants as members
use Rattle.com_dispatch.specs.Ranges.{IsDispArg}
use Rattle.com_text.specs.Words.{WordAt}
use Rattle.com_read_operands.specs.declared.faults.Fault.{Fault}
use Rattle.com_read_operands.specs.declared.faults.TheConstants.Fault.{UNFIT}
use Rattle.com_read_operands.specs.declared.operands.Operand.{Operand}
use Rattle.com_read_operands.specs.declared.operands.Operand.TheVariants as operands
use Rattle.com_read_operands.specs.Numbers.{number_of}
use Rattle.com_read_operands.specs.Reading.{◌>>=◌, fault_at, word_at, stands_at, end_at, within}
use Rattle.com_read_operands.specs.Naming.{declared_at}
use Rattle.com_read_operands.specs.Operands.{operand_of, unfit, slot_at, literal_of}
use Rattle.com_dispatch.specs.declared.invoke.reading.TheConstants.{MEMBER_LIMIT}
use Rattle.com_dispatch.specs.declared.invoke.Invocation.{Invocation}

-- ---- the member

abbrev pub as_name : WordAt → Op → Result Member Fault
as_name w (ops.Literal (values.Text name)) = Ok (members.Name name)
as_name w _ = Err (fault_at UNFIT w)

-- a text literal, or a decimal number from 0 to `MEMBER_LIMIT`
abbrev pub as_member : WordAt → Operand → Result Member Fault
as_member w operands.Text = literal_of w operands.Text >>= λ o. as_name w o
as_member w (operands.Number n) = within 0 MEMBER_LIMIT w (number_of w.bytes) >>= λ m. Ok (members.Number m)
as_member w o = Err (fault_at (unfit o) w)

unfoldable pub member_at : List WordAt → ℕ → Result Member Fault
member_at line k = do
  w ← word_at line k
  as_member w (operand_of w)

-- ---- the arguments

-- registers are left out
abbrev pub as_literal : WordAt → Op → Result DispArg Fault
as_literal w (ops.Literal v) = Ok (given.Literal v)
as_literal w (ops.Register n) = Err (fault_at UNFIT w)

-- a slot, `null` or a literal
abbrev pub as_given : WordAt → Operand → Result DispArg Fault
as_given w (operands.Slot n) = Ok (given.Slot n)
as_given w operands.Null = Ok given.Null
as_given w o = literal_of w o >>= λ op. as_literal w op

-- the arguments, and the index behind them
pub record Arguments : Type 0 where
  pub args : List DispArg
  pub index : ℕ

-- an argument, or `->`, which is none
abbrev pub as_item : WordAt → Result (Option DispArg) Fault
as_item w =
    if bytes_eq w.bytes (codes "->") then Ok None else (as_given w (operand_of w) >>= λ a. Ok (Some a))

-- what stands at an index where the line may end too
unfoldable pub item_at : List WordAt → ℕ → Result (Option DispArg) Fault
item_at line k = do
  there ← stands_at line k
  w ← word_at line k
  as_item w

-- The arguments so far, and what is left of the line, from an index on: they end at `->` or with the line.
abbrev pub arguments_on : List DispArg → List WordAt → ℕ → List WordAt → Result Arguments Fault
arguments_on done line k [] = Ok (record { args = done; index = k })
arguments_on done line k (v ∷ vs) =
    item_at line k >>= λ o. elim o [
      | None ↦ Ok (record { args = done; index = k })
      | Some a ↦ arguments_on (done ++ a ∷ []) line (k + 1) vs
    ]

-- ---- the destination

abbrev pub landing_of : WordAt → Operand → Result Destination Fault
landing_of w (operands.Register n) = Ok (destinations.Register n)
landing_of w (operands.Slot n) = Ok (destinations.Slot n)
landing_of w o = Err (fault_at (unfit o) w)

-- nowhere, or behind `->` a register or a slot
unfoldable pub destination_at : List WordAt → ℕ → Result Destination Fault
destination_at line k = do
  there ← stands_at line k
  if there then (do
    w ← word_at line (k + 1)
    d ← landing_of w (operand_of w)
    done ← end_at line (k + 2)
    Ok d) else Ok destinations.Nowhere

-- ---- the whole

-- A slot, an interface that is declared above, a member, arguments, and where the result goes.
unfoldable pub invocation_at : List (List ℕ) → List WordAt → Result Invocation Fault
invocation_at interfaces line = do
  slot ← slot_at line 1
  iface ← declared_at interfaces line 2
  member ← member_at line 3
  rest ← arguments_on [] line 4 (drop 4 line)
  d ← destination_at line rest.index
  Ok (record { slot = slot; iface = iface; member = member; args = rest.args; destination = d })

-- its numbers of slots and registers are in their ranges
abbrev pub IsInvocation : Invocation → Type 0
IsInvocation i = (i.slot < 8) × All IsDispArg i.args × IsDestination i.destination
