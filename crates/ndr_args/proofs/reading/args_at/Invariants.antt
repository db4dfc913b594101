use Rattle.std.proofs.Common.{◌≡◌, ◌≤◌, length, drop}
use Rattle.ndr_args.specs.Reading.{args_at}
use Rattle.ndr_args.proofs.Fronts.{with_front}
use Rattle.ndr_args.proofs.reading.args_at.Given as goal

abbrev pub invariant-loop-kind : goal.invariant-loop-kind
invariant-loop-kind l = (l.position ≤ length l.bytes) × (with_front l.values.items (args_at (drop l.kind-index l.kinds) l.bytes l.position) ≡ args_at l.kinds l.bytes 0)
