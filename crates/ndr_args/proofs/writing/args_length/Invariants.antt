use Rattle.std.proofs.Common.{drop}
use Rattle.ndr_args.proofs.Appending.{Measured}
use Rattle.ndr_args.proofs.writing.args_length.Given as goal

abbrev pub invariant-loop-value : goal.invariant-loop-value
invariant-loop-value l = Measured l.length l.referent (drop l.value-index l.values) l.values
