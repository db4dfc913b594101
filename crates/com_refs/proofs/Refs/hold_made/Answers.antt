use Rattle.std.proofs.Common.{◌≡◌, Bool, not, ◌+◌, ◌∷◌, [], refl, sym, ap, ◌∙◌, arith, take, drop, length, ◌++◌}
use Rattle.std.proofs.lemmas.Grind.{common_steps}
use Rattle.com_refs_holders.specs.Makes.{MadeWithPlace}
use Rattle.com_refs_holders.specs.Tables.{owns_of, object_in}
use Rattle.com_refs_holders.proofs.Enrolls.{direct_new}
use Rattle.com_refs.specs.Counts.{hold_more}
use Rattle.com_refs.proofs.Counteds.{more_length}
use Rattle.com_refs.proofs.Makings.{made_but, made_counted, made_whole, next_of_new}
use Rattle.com_refs.proofs.Refs.hold_made.Goals as goal

pub invariant_of-self : goal.invariant_of-self
invariant_of-self c =
    let t = c.self.inside.holders in
    let new : c.args.making.object ≡ length t.objects + 1 = next_of_new t.objects c.args.making.object (rw (← c.self.view_is) at c.requires.new) in
    let k : MadeWithPlace t c.make_object.new.self c.args.making.object c.args.making.owner c.args.making.agile c.args.set.now c.args.making.apartment c.args.making.iface = rw new c.make_object.ensures.made in
    let m = k.between in
    let hs = c.self.inside.holds.items in
    let w = owns_of m.objects c.args.making.object c.args.making.apartment in
    let len : length m.objects ≡ length t.objects + 1 = ap (λ os. length os) k.objects ∙ grind (arith, common_steps) in
    let but = made_but t m hs c.args.making.object c.self.invariant.counts c.stands.ensures.known new k.books k.proxies (λ x. ap (λ os. (object_in os x).direct) k.objects ∙ direct_new t.objects _ x refl) len (omega (arith, k.counted)) in
    let e : c.gain_hold.new.holds ≡ hold_more c.args.making.object (not w) (hs ++ 0 ∷ []) =
    (rw (c.owns-is_owned.ensures, c.deref_mut.ensures.value, c.push_reserved.ensures.items) at c.gain_hold.ensures) ∙ ap (λ (b : Bool). hold_more c.args.making.object (not b) (hs ++ 0 ∷ [])) (k.places.owns c.args.making.object c.args.making.apartment) in
    let more : length c.gain_hold.new.holds ≡ length c.push_reserved.new.self.items = ap (λ xs. length xs) e ∙ more_length c.args.making.object (not w) (hs ++ 0 ∷ []) ∙ ap (λ xs. length xs) (sym c.push_reserved.ensures.items) in
    let whole : take c.push_reserved.new.self.len (c.gain_hold.new.holds ++ drop (length c.gain_hold.new.holds) c.push_reserved.new.self.items) ≡ c.gain_hold.new.holds = grind (arith, common_steps, more) in
    record {
      counts = rw (whole, e) (made_counted m c.make_object.new.self (hs ++ 0 ∷ []) c.args.making.apartment c.args.making.object c.args.making.iface but k.row k.places k.issued (omega (arith, new)) (omega (arith, new, len)));
      room = omega (arith, c.self.invariant.room, c.make_object.ensures.spare, c.push_reserved.ensures.len, c.push_reserved.ensures.capacity);
    }

pub returns-clause-made : goal.returns-clause-made
returns-clause-made c =
    let t = c.self.inside.holders in
    let m = c.args.making in
    let new : m.object ≡ length t.objects + 1 = next_of_new t.objects m.object (rw (← c.self.view_is) at c.requires.new) in
    let k : MadeWithPlace t c.make_object.new.self m.object m.owner m.agile c.args.set.now m.apartment m.iface = rw new c.make_object.ensures.made in
    rw (← c.self.view_is) (made_whole t c.make_object.new.self m c.args.set.now new k)
