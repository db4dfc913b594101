use Rattle.std.proofs.Common.{◌≡◌, ◌+◌, ◌-◌, ◌≤◌, length}
use Rattle.ndr_args.specs.Reading.{zeros_at}
use Rattle.ndr_args.proofs.reading.zeros_at.Given as goal

abbrev pub invariant-loop-at : goal.invariant-loop-at
invariant-loop-at l = (l.at ≤ length l.bytes) × (zeros_at l.bytes (l.position + l.count - l.at) l.at ≡ zeros_at l.bytes l.count l.position)
