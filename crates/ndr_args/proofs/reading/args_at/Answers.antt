use Rattle.std.proofs.lemmas.Result.{err_from_is_err_and}
use Rattle.ndr_args.specs.Reading.{args_at}
use Rattle.ndr_args.proofs.Fronts.{args_go_on_at, args_end_at, args_done_at}
use Rattle.ndr_args.proofs.reading.args_at.Goals as goal

pub returns-in_err-value : goal.returns-in_err-value
returns-in_err-value c =
    let p = err_from_is_err_and c.from_residual-in_err-value.result c.from_residual-in_err-value.ensures.1 in
    rw (p.1, p.2) (args_end_at c.in_err-value.field-0.0 c.loop-kind.values.items c.args.kinds.now c.loop-kind.kind-index _ c.args.bytes.now c.loop-kind.position (args_at c.args.kinds.now c.args.bytes.now 0) c.loop-kind-test.true c.in_err-value.ensures.value c.loop-kind.invariant.1)

pub loop-kind-preserved : goal.loop-kind-preserved
loop-kind-preserved c = (
  c.in_ok-value.ensures.within,
  rw c.in_ok-push.ensures.items (args_go_on_at c.loop-kind.values.items c.args.kinds.now c.loop-kind.kind-index _ c.args.bytes.now c.loop-kind.position c.in_ok-value.value c.in_ok-value.end (args_at c.args.kinds.now c.args.bytes.now 0) c.loop-kind-test.true c.in_ok-value.ensures.value c.loop-kind.invariant.1),
)

pub returns : goal.returns
returns c = args_done_at c.loop-kind.values.items c.args.kinds.now c.loop-kind.kind-index c.args.bytes.now c.loop-kind.position (args_at c.args.kinds.now c.args.bytes.now 0) c.loop-kind-test.false c.loop-kind.invariant.1
