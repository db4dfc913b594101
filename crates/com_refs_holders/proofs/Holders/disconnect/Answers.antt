use Rattle.std.proofs.Common.{refl, arith}
use Rattle.com_refs_holders.proofs.Cuts.{ended_cut, ended_stands}
use Rattle.com_refs_holders.proofs.Wholes.{whole_by}
use Rattle.com_refs_holders.proofs.Holders.disconnect.Goals as goal

pub invariant_of-self : goal.invariant_of-self
invariant_of-self c =
    whole_by _ _ _ _ _ _ _ _ _ _ _ _ _ 0 c.self.invariant refl (omega arith) (omega arith) (omega (arith, c.disconnect.ensures.spare)) (omega arith) (omega arith) (omega arith)
    (ended_stands _ _ c.args.object refl c.disconnect.ensures.stubs c.disconnect.ensures.counters refl refl refl refl c.self.invariant.stands)

pub returns-clause-books : goal.returns-clause-books
returns-clause-books c = rw (← c.self.view_is) (ended_cut _ _ c.args.object c.disconnect.ensures.stubs c.disconnect.ensures.counters refl refl refl)
