use Rattle.std.proofs.Common.{◌≡◌, not, ap, ◌∙◌, arith, take, drop, length, ◌++◌}
use Rattle.std.proofs.lemmas.Grind.{common_steps}
use Rattle.com_refs_holders.specs.Tables.{owns_of}
use Rattle.com_refs.specs.Counts.{hold_more}
use Rattle.com_refs.proofs.Counteds.{more_length}
use Rattle.com_refs.proofs.Steps.{copied}
use Rattle.com_refs.proofs.Refs.copy.Goals as goal

pub gain_hold-requires : goal.gain_hold-requires
gain_hold-requires c =
    let few = rw (← c.self.view_is) at c.requires.few in
    rw c.deref_mut.ensures.value (record { fits = omega (arith, few, c.self.invariant.counts.small c.args.held.object) })

pub invariant_of-self : goal.invariant_of-self
invariant_of-self c =
    let o = c.args.held.object in
    let a = c.args.apartment in
    let t = c.self.inside.holders in
    let w = owns_of t.objects o a in
    let known = rw (← c.self.view_is) at c.requires.known in
    let made = c.stands.ensures.known.counters o c.args.held.iface known in
    let e : c.gain_hold.new.holds ≡ hold_more o (not w) c.self.inside.holds.items = rw (c.owns-is_owned.ensures, c.deref_mut.ensures.value) at c.gain_hold.ensures in
    let len : length c.gain_hold.new.holds ≡ length c.self.inside.holds.items = ap (λ xs. length xs) e ∙ more_length o (not w) c.self.inside.holds.items in
    let whole : take c.self.inside.holds.len (c.gain_hold.new.holds ++ drop (length c.gain_hold.new.holds) c.self.inside.holds.items) ≡ c.gain_hold.new.holds = grind (arith, common_steps, len) in
    record {
      counts = rw (whole, e) (copied t c.copy.new.self c.self.inside.holds.items a o w c.self.invariant.counts c.copy.ensures.places c.copy.ensures.books c.copy.ensures.issued made.0 made.1);
      room = omega (arith, c.self.invariant.room, c.copy.ensures.spare);
    }
