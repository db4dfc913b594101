use Rattle.std.proofs.Common.{sym, subst, arith}
use Rattle.com_refs_holders.specs.Tables.{Tables}
use Rattle.com_refs.specs.Counts.{IsCounted}
use Rattle.com_refs.proofs.Makings.{spare_counted}
use Rattle.com_refs.proofs.Refs.reserve.Goals as goal

pub invariant_of-self-2 : goal.invariant_of-self-2
invariant_of-self-2 c = record {
  counts = rw c.reserve.ensures.items (subst (λ (u : Tables). IsCounted u c.self.inside.holds.items) (sym c.reserve-2.ensures.same) (spare_counted c.self.inside.holders _ _ c.self.invariant.counts));
  room = omega (arith, c.self.invariant.room, c.reserve-2.ensures.most, c.in_ok-reserve.ensures.ok, c.in_ok-reserve.ensures.len, c.in_ok-reserve.ensures.capacity);
}
