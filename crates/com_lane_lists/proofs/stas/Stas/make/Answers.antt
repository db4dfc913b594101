use Rattle.std.proofs.Common.{arith, ◌+◌, length, ap}
use Rattle.com_lane_lists.specs.Rooms.{StaRows}
use Rattle.com_lane_lists.proofs.StasKept.{length_tab, kept_made, made_seen}
use Rattle.com_lane_lists.proofs.stas.Stas.make.Goals as goal

pub overflow_add-sta : goal.overflow_add-sta
overflow_add-sta c =
    let r = rw (← c.self.view_is) at c.requires.number in
    omega (arith, r, length_tab (length c.self.inside.rows.items) (λ i. i + 3), c.len.ensures, c.self.inside.rows.ok.0)

pub push_reserved-requires : goal.push_reserved-requires
push_reserved-requires c =
    let r = rw (← c.self.view_is) at c.requires.room in
    omega (arith, r, length_tab (length c.self.inside.rows.items) (λ i. i + 3), c.self.inside.rows.ok.0)

pub invariant_of-self : goal.invariant_of-self
invariant_of-self c =
    let r = rw (← c.self.view_is) at c.requires.number in
    rw (c.push_at.ensures, c.push_reserved.ensures.items)
    (kept_made _ _ _ _ _ _ c.self.invariant (omega (arith, r, length_tab (length c.self.inside.rows.items) (λ i. i + 3)))
    (omega (arith, c.len.ensures, c.self.inside.rows.ok.0)))

pub returns : goal.returns
returns c =
    made_seen _ _ _ _ _ _ _ _ (ap (λ (s : StaRows). s.tables) c.self.view_is) c.push_at.ensures c.push_reserved.ensures.items
    (omega (arith, c.len.ensures, c.self.inside.rows.ok.0))
