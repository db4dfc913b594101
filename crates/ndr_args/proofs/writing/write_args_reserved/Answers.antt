use Rattle.std.proofs.Common.{arith}
use Rattle.ndr_args.proofs.Streams.{all_can_send, as_many}
use Rattle.ndr_args.proofs.writing.write_args_reserved.Goals as goal

pub prove_eq-unreachable-requires : goal.prove_eq-unreachable-requires
prove_eq-unreachable-requires c = omega (arith, as_many c.args.kinds.now c.args.values.now c.requires.values)

pub put_values-requires-clause-each : goal.put_values-requires-clause-each
put_values-requires-clause-each c = all_can_send c.args.kinds.now c.args.values.now c.requires.values
