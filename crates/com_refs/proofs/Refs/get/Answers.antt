use Rattle.std.proofs.Common.{◌≡◌, not, ap, ◌∙◌, arith, take, drop, length, ◌++◌}
use Rattle.std.proofs.lemmas.Grind.{common_steps}
use Rattle.com_refs_holders.specs.Tables.{owns_of}
use Rattle.com_refs.specs.Counts.{hold_more}
use Rattle.com_refs.proofs.Counteds.{more_length}
use Rattle.com_refs.proofs.Steps.{took}
use Rattle.com_refs.proofs.Refs.get.Goals as goal

pub invariant_of-self : goal.invariant_of-self
invariant_of-self c =
    let t = c.self.inside.holders in
    let made = c.stands.ensures.known.counters c.in-Ok.held.object c.in-Ok.held.iface (c.stands.ensures.known.cookies c.args.cookie c.in-Ok.held c.in-Ok.ensures.held) in
    let e : c.gain_hold.new.holds ≡ hold_more c.in-Ok.held.object (not (owns_of t.objects c.in-Ok.held.object c.args.apartment)) c.self.inside.holds.items = rw (c.owns-is_owned.ensures, c.in-Ok.ensures.places.owns, c.deref_mut.ensures.value) at c.gain_hold.ensures in
    let len : length c.gain_hold.new.holds ≡ length c.self.inside.holds.items = ap (λ xs. length xs) e ∙ more_length c.in-Ok.held.object (not (owns_of t.objects c.in-Ok.held.object c.args.apartment)) c.self.inside.holds.items in
    let whole : take c.self.inside.holds.len (c.gain_hold.new.holds ++ drop (length c.gain_hold.new.holds) c.self.inside.holds.items) ≡ c.gain_hold.new.holds = grind (arith, common_steps, len) in
    record {
      counts = rw (whole, e) (took t c.get.new.self c.self.inside.holds.items c.args.apartment c.in-Ok.held.object c.in-Ok.held.iface (owns_of t.objects c.in-Ok.held.object c.args.apartment) c.self.invariant.counts c.in-Ok.ensures.row c.in-Ok.ensures.places c.in-Ok.ensures.issued made.0 made.1);
      room = omega (arith, c.self.invariant.room, c.in-Ok.ensures.most);
    }
