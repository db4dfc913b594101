use Rattle.std.proofs.Common.{arith, ◌+◌, ◌-◌, length, refl, ap, true}
use Rattle.com_lane_lists.specs.declared.stas.Sta.{Sta}
use Rattle.com_lane_lists.proofs.StasKept.{length_tab, kept_host, kept_ended, gone_first_set}
use Rattle.com_lane_lists.proofs.stas.Stas.end.Goals as goal

pub invariant_of-self : goal.invariant_of-self
invariant_of-self c =
    rw c.push_reserved.ensures.items (kept_host _ _ _ _ _ c.self.invariant c.if-apartment-lt-FIRST_STA.true)

pub index_mut-requires : goal.index_mut-requires
index_mut-requires c =
    let r = rw (← c.self.view_is) at c.requires.number in
    omega (arith, r, length_tab (length c.self.inside.rows.items) (λ i. i + 3), c.self.inside.rows.ok.0)

pub oldest_from-self-inside-requires : goal.oldest_from-self-inside-requires
oldest_from-self-inside-requires c =
    rw c.deref.ensures.value (omega (arith, c.self.invariant.oldest_is, gone_first_set c.self.inside.rows.items (c.args.apartment - 3) (record { maker = c.index_mut.result.now.maker; is_gone = true }) refl))

pub invariant_of-self-2 : goal.invariant_of-self-2
invariant_of-self-2 c =
    let r = rw (← c.self.view_is) at c.requires.number in
    rw (c.push_reserved.ensures.items, c.oldest_from-self-inside.ensures, c.deref.ensures.value)
    (kept_ended _ _ _ _ _ _ c.index_mut.result.now c.self.invariant c.if-apartment-lt-FIRST_STA.false
    (omega (arith, r, length_tab (length c.self.inside.rows.items) (λ i. i + 3)))
    (ap (λ (x : Sta). x.maker) c.index_mut.ensures.value) refl)
