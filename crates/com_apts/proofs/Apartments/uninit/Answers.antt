use Rattle.std.proofs.Common.{◌-◌, sym, arith}
use Rattle.com_apts.proofs.LaneLemmas.{sta_within, ended_first_set}
use Rattle.com_apts.proofs.Apartments.uninit.Goals as goal

pub index_mut-requires-3 : goal.index_mut-requires-3
index_mut-requires-3 c =
    let thread = rw (← c.self.view_is) at c.requires.thread in
    let made = sta_within _ _ _ (c.args.lane - 1) c.in_ok-sta.sta c.index-seat.result.now c.self.invariant (omega (arith, thread.from_one, thread.within)) c.index-seat.ensures (sym c.in_ok-sta.ensures) in
    omega (arith, made, c.self.inside.ended.ok.0)

pub oldest_from-self-inside-requires : goal.oldest_from-self-inside-requires
oldest_from-self-inside-requires c =
    rw c.deref.ensures.value (omega (arith, c.self.invariant.oldest_is, ended_first_set c.self.inside.ended.items (c.in_ok-sta.sta - 3)))
