use Rattle.std.proofs.Common.{refl, arith}
use Rattle.com_refs_holders.specs.Tables.{is_owned}
use Rattle.com_refs_holders.proofs.Cuts.{cut_by, cut_stands}
use Rattle.com_refs_holders.proofs.Owners.{owners_length}
use Rattle.com_refs_holders.proofs.Wholes.{whole_by}
use Rattle.com_refs_holders.proofs.Holders.end_apartment.Goals as goal

pub end_all-requires : goal.end_all-requires
end_all-requires c = let few = rw (← c.self.view_is) at c.requires.few in record { fits = rw c.self.invariant.keyed (owners_length _ c.self.invariant.stands few) }

pub invariant_of-self : goal.invariant_of-self
invariant_of-self c =
    whole_by _ _ _ _ _ _ _ _ _ _ _ _ _ 0 c.self.invariant refl (omega arith) (omega arith) (omega (arith, c.end_all.ensures.stub_room)) (omega arith) (omega arith) (omega arith)
    (cut_stands _ _ _ c.end_all.ensures.known refl c.end_all.ensures.counters refl refl refl refl
    (cut_by _ _ (λ x. is_owned c.self.inside.owners.keys c.args.apartment x) c.end_all.ensures.stubs c.end_all.ensures.counters refl refl refl) c.self.invariant.stands)

pub returns-clause-books : goal.returns-clause-books
returns-clause-books c = rw (← c.self.view_is, ← c.self.invariant.keyed)
    (cut_by _ _ (λ x. is_owned c.self.inside.owners.keys c.args.apartment x) c.end_all.ensures.stubs c.end_all.ensures.counters refl refl refl)
