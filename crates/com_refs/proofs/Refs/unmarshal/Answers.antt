use Rattle.std.proofs.Common.{◌≡◌, Bool, not, cond, true, false, refl, sym, ap, ◌∙◌, arith, take, drop, length, ◌++◌, List, ℕ}
use Rattle.std.proofs.lemmas.Grind.{common_steps}
use Rattle.com_refs_holders.specs.Tables.{owns_of}
use Rattle.com_refs_holders.proofs.Cuts.{outstanding_held}
use Rattle.com_refs.specs.Counts.{hold_less, hold_more}
use Rattle.com_refs.proofs.Counteds.{less_length, more_length}
use Rattle.com_refs.proofs.Steps.{unmarshalled}
use Rattle.com_refs.proofs.Refs.unmarshal.Goals as goal

recounted : (o : ℕ) (normal owned : Bool) (hs : List ℕ) → length (cond normal (hold_less o owned hs) (hold_more o (not owned) hs)) ≡ length hs
recounted o true owned hs = less_length o owned hs
recounted o false owned hs = more_length o (not owned) hs

pub invariant_of-self : goal.invariant_of-self
invariant_of-self c =
    let t = c.self.inside.holders in
    let p = c.in-Ok.packet in
    let w = owns_of t.objects p.object c.args.apartment in
    let held = outstanding_held t c.args.number p c.in-Ok.ensures.packet in
    let made = c.stands.ensures.known.counters p.object p.iface (c.stands.ensures.known.packets c.args.number p held) in
    let own : c.owns-is_owned.result ≡ w = c.owns-is_owned.ensures ∙ c.in-Ok.ensures.places.owns p.object c.args.apartment in
    let e : c.recount.new.holds ≡ cond c.is_normal.result (hold_less p.object w c.self.inside.holds.items) (hold_more p.object (not w) c.self.inside.holds.items) = rw (own, c.deref_mut.ensures.value) at c.recount.ensures in
    let len : length c.recount.new.holds ≡ length c.self.inside.holds.items = ap (λ xs. length xs) e ∙ recounted p.object c.is_normal.result w c.self.inside.holds.items in
    let whole : take c.self.inside.holds.len (c.recount.new.holds ++ drop (length c.recount.new.holds) c.self.inside.holds.items) ≡ c.recount.new.holds = grind (arith, common_steps, len) in
    record {
      counts = rw (whole, e) (unmarshalled t c.unmarshal.new.self c.self.inside.holds.items c.args.apartment c.args.number p c.self.invariant.counts c.in-Ok.ensures.packet c.in-Ok.ensures.row c.in-Ok.ensures.issued made.0 made.1
          c.is_normal.result w (λ y. c.is_normal.ensures.0 y) (λ n m. let yes : true ≡ false = sym (c.is_normal.ensures.1 m) ∙ n in absurd (cc)) refl c.in-Ok.ensures.places);
      room = omega (arith, c.self.invariant.room, c.in-Ok.ensures.most);
    }
