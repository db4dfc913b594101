use Rattle.std.proofs.Common.{arith}
use Rattle.com_refs.proofs.Steps.{empty_counted}
use Rattle.com_refs.proofs.Refs.new.Goals as goal

pub invariant_of-result : goal.invariant_of-result
invariant_of-result c = record {
  counts = rw c.new-2.ensures.items (empty_counted _ c.new.ensures.objects c.new.ensures.stubs);
  room = omega (arith, c.new.ensures.spare);
}
