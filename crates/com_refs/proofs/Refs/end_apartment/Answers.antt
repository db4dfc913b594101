use Rattle.std.proofs.Common.{arith}
use Rattle.com_refs_holders.specs.Tables.{is_owned, owners_of}
use Rattle.com_refs.proofs.Steps.{cut_counted}
use Rattle.com_refs.proofs.Refs.end_apartment.Goals as goal

pub invariant_of-self : goal.invariant_of-self
invariant_of-self c = record {
  counts = cut_counted _ _ (λ x. is_owned (owners_of c.self.inside.holders.objects) c.args.apartment x) _ c.end_apartment.ensures.books c.end_apartment.ensures.objects c.end_apartment.ensures.proxies c.end_apartment.ensures.issued c.self.invariant.counts;
  room = omega (arith, c.self.invariant.room, c.end_apartment.ensures.spare);
}
