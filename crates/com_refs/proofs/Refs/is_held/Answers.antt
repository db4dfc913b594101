use Rattle.std.proofs.Common.{◌≡◌, ◌↔◌, ◌<◌, true, arith, subst}
use Rattle.com_refs_holders.specs.Tables.{Tables, direct_in}
use Rattle.com_refs.specs.Counts.{holders_of}
use Rattle.com_refs.proofs.Losses.{held_where_connected}
use Rattle.com_refs.proofs.Refs.is_held.Goals as goal

pub returns-else-direct-gt0 : goal.returns-else-direct-gt0
returns-else-direct-gt0 c =
    let t = c.self.inside.holders in
    let none : direct_in t c.args.object ≡ 0 = omega (arith, c.direct.ensures, c.if-direct-gt0.false) in
    subst (λ (u : Tables). (c.is_connected.result ≡ true) ↔ (0 < holders_of u c.args.object)) c.self.view_is
    (held_where_connected t c.self.inside.holds.items c.args.object c.is_connected.result c.self.invariant.counts none c.is_connected.ensures)
