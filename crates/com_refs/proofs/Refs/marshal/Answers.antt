use Rattle.std.proofs.Common.{◌≡◌, not, true, ap, ◌∙◌, arith, take, drop, length, ◌++◌}
use Rattle.std.proofs.lemmas.Grind.{common_steps}
use Rattle.com_stub.specs.StubRows.{is_connected}
use Rattle.com_refs_books.specs.Changes.{is_weak}
use Rattle.com_refs.specs.Counts.{hold_more}
use Rattle.com_refs.proofs.Counteds.{more_length}
use Rattle.com_refs.proofs.Steps.{marshalled}
use Rattle.com_refs.proofs.Refs.marshal.Goals as goal

pub invariant_of-self : goal.invariant_of-self
invariant_of-self c =
    let t = c.self.inside.holders in
    let known = rw (← c.self.view_is) at c.requires.known in
    let live : is_connected t.stubs c.args.held.object ≡ true = c.in-Ok.ensures.live in
    let made = c.stands.ensures.known.counters c.args.held.object c.args.held.iface known in
    let e : c.gain_hold.new.holds ≡ hold_more c.args.held.object (not (is_weak c.args.mode)) c.self.inside.holds.items = rw (c.holds_object.ensures, c.deref_mut.ensures.value) at c.gain_hold.ensures in
    let len : length c.gain_hold.new.holds ≡ length c.self.inside.holds.items = ap (λ xs. length xs) e ∙ more_length c.args.held.object (not (is_weak c.args.mode)) c.self.inside.holds.items in
    let whole : take c.self.inside.holds.len (c.gain_hold.new.holds ++ drop (length c.gain_hold.new.holds) c.self.inside.holds.items) ≡ c.gain_hold.new.holds = grind (arith, common_steps, len) in
    record {
      counts = rw (whole, e) (marshalled t c.marshal.new.self c.self.inside.holds.items c.args.mode c.args.apartment c.args.held.object c.args.held.iface c.self.invariant.counts live c.in-Ok.ensures.row c.in-Ok.ensures.places c.in-Ok.ensures.issued made.0 made.1);
      room = omega (arith, c.self.invariant.room, c.in-Ok.ensures.most);
    }
