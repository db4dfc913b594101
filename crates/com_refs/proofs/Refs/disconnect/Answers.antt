use Rattle.std.proofs.Common.{eqb, arith}
use Rattle.com_refs.proofs.Steps.{cut_counted}
use Rattle.com_refs.proofs.Refs.disconnect.Goals as goal

pub invariant_of-self : goal.invariant_of-self
invariant_of-self c = record {
  counts = cut_counted _ _ (λ x. eqb x c.args.object) _ c.disconnect.ensures.books c.disconnect.ensures.objects c.disconnect.ensures.proxies c.disconnect.ensures.issued c.self.invariant.counts;
  room = omega (arith, c.self.invariant.room, c.disconnect.ensures.spare);
}
