-- The statement that an `invoke` stands for.
use Rattle.std.specs.Prelude.{List, Option, Some, None, Result, Ok, Err, All, map, slice_get, pos}
use Rattle.com_base.specs.declared.hresult.HResult.{HResult}
use Rattle.com_base.specs.declared.value.Value.TheVariants as values
use Rattle.com_body.specs.declared.operands.Op.TheVariants as ops
use Rattle.com_body.specs.declared.operands.Arg.{Arg}
use Rattle.com_body.specs.declared.operands.Arg.TheVariants as args
use Rattle.com_body.specs.declared.operands.Destination.{Destination}
use Rattle.com_body.specs.declared.operands.Destination.TheVariants as destinations
use Rattle.com_body.specs.declared.statements.Stmt.{Stmt}
use Rattle.com_body.specs.declared.statements.Stmt.TheVariants as stmts
use Rattle.com_classes.specs.declared.interfaces.Interface.{Interface}
use Rattle.com_base.specs.declared.limits.TheConstants.{ANSWER_REGISTER}
use Rattle.com_dispatch.specs.declared.members.Bound.{Bound}
use Rattle.com_dispatch.specs.declared.members.DispArg.{DispArg}
use Rattle.com_dispatch.specs.declared.members.DispArg.TheVariants as given
use Rattle.com_dispatch.specs.declared.members.Sort.{Sort}
use Rattle.com_dispatch.specs.declared.members.Sort.TheVariants as sorts
use Rattle.com_dispatch.specs.Binding.{bound_among, methods_of}
use Rattle.com_dispatch.specs.Ranges.{IsDispArg}
use Rattle.com_dispatch.specs.declared.invoke.BindOutcome.{BindOutcome}
use Rattle.com_dispatch.specs.declared.invoke.BindOutcome.TheVariants as outcomes
use Rattle.com_dispatch.specs.declared.invoke.Invocation.{Invocation}

abbrev pub sort_of : Destination → Option Sort
sort_of destinations.Nowhere = None
sort_of (destinations.Register n) = Some sorts.Register
sort_of (destinations.Slot n) = Some sorts.Slot

abbrev pub outcome_by : Result Bound HResult → BindOutcome
outcome_by (Ok b) = outcomes.Bound b
outcome_by (Err hr) = outcomes.Refused hr

-- what it is bound to among the interfaces that are declared above it, or its refusal
unfoldable pub outcome_of : List Interface → Invocation → BindOutcome
outcome_of tables i =
    outcome_by (bound_among (methods_of (slice_get tables i.iface)) i.member i.args (sort_of i.destination))

abbrev pub argument_of : DispArg → Arg
argument_of (given.Literal v) = args.Op (ops.Literal v)
argument_of (given.Slot n) = args.Slot n
argument_of given.Null = args.Null

-- A bound one stands for the call of its method; a refused one for the register `ANSWER_REGISTER` set to the
-- refusal's 32 bits, without a sign.
unfoldable pub statement_of : Invocation → BindOutcome → Stmt
statement_of i (outcomes.Bound b) = stmts.Call i.slot i.iface b.method (map argument_of b.args) i.destination
statement_of i (outcomes.Refused hr) = stmts.Set ANSWER_REGISTER (ops.Literal (values.Int (pos hr.0)))

-- its numbers of slots are in their ranges
abbrev pub IsOutcome : BindOutcome → Type 0
IsOutcome (outcomes.Bound b) = All IsDispArg b.args
IsOutcome (outcomes.Refused hr) = Unit {0}
