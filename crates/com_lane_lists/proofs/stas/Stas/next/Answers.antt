use Rattle.std.proofs.Common.{arith, length, ◌+◌}
use Rattle.com_lane_lists.proofs.StasKept.{length_tab}
use Rattle.com_lane_lists.proofs.stas.Stas.next.Goals as goal

pub overflow_add-result : goal.overflow_add-result
overflow_add-result c =
    let r = rw (← c.self.view_is) at c.requires in omega (arith, r, length_tab (length c.self.inside.rows.items) (λ i. i + 3))

pub returns : goal.returns
returns c = rw (← c.self.view_is) (omega (arith, length_tab (length c.self.inside.rows.items) (λ i. i + 3)))
