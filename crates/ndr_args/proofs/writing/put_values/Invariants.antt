use Rattle.std.proofs.Common.{drop}
use Rattle.ndr_args.proofs.Appending.{Roomy}
use Rattle.ndr_args.proofs.writing.put_values.Given as goal

abbrev pub invariant-loop-value : goal.invariant-loop-value
invariant-loop-value l = Roomy l.fn.out l.out l.referent (drop l.value-index l.values) l.values
