use Rattle.std.proofs.Common.{refl, arith}
use Rattle.com_apts.proofs.LaneLemmas.{kept-init}
use Rattle.com_apts.proofs.Apartments.init.Goals as goal

pub invariant_of-self-in_default : goal.invariant_of-self-in_default
invariant_of-self-in_default c =
    let requires = rw (← c.self.view_is) at c.requires in
    kept-init _ _ _ _ _ c.in_ok-home.home _ c.args.mode c.self.invariant
    (omega (arith, requires.thread.from_one, requires.thread.within)) requires.number c.in_ok-home.ensures.ended c.in_ok-home.ensures.home refl
