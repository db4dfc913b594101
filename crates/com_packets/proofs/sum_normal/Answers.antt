use Rattle.std.proofs.Common.{◌≡◌, sym, arith, subst, ◌+◌, ◌*◌, ◌≤◌, ◌∙◌}
use Rattle.std.specs.Prelude.{None}
use Rattle.com_keyed.specs.Indices.{reach}
use Rattle.com_keyed.proofs.Summing.{sum_begins, sum_goes_on, sum_from}
use Rattle.com_keyed.proofs.Walking.{walk_begins, walk_goes_on, walk_inside, walk_at}
use Rattle.com_packets.specs.Sums.{normal_for, normal_of}
use Rattle.com_packets.specs.Table.{entry_at}
use Rattle.com_packets.proofs.Summed.{adds, nothing_added, held_entry}
use Rattle.com_packets.proofs.sum_normal.Goals as goal

pub loop-latest-init : goal.loop-latest-init
loop-latest-init c =
    let es = c.args.slots.now.entries in
    let keys = c.args.chains.now.keys in
    let o = c.args.object in
    let first = c.last-latest.ensures in
    record {
      walks = walk_begins keys o (λ p. Unit {0}) c.last-latest.result first;
      summed = sym (sum_begins (normal_for o) None es keys o c.requires.as_many (nothing_added es keys o c.requires.keyed) c.last-latest.result first);
      small = omega (arith, first.within, c.requires.fits, c.requires.as_many);
    }

pub loop-latest-preserved : goal.loop-latest-preserved
loop-latest-preserved c =
    let i = c.loop-latest.invariant in
    let es = c.args.slots.now.entries in
    let keys = c.args.chains.now.keys in
    let o = c.args.object in
    let p = c.in-Some.index in
    let inside = walk_inside keys o _ c.loop-latest.latest p i.walks c.in-Some.is in
    let keyed = walk_at keys o _ c.loop-latest.latest p i.walks c.in-Some.is in
    let so_far : c.loop-latest.sum ≡ sum_from (normal_for o) es (p + 1) = subst (λ v. c.loop-latest.sum ≡ sum_from (normal_for o) es (reach v)) c.in-Some.is i.summed in
    let small : c.loop-latest.sum + (p + 1) * 4294967295 ≤ 4294967295 * 4294967295 = subst (λ v. c.loop-latest.sum + reach v * 4294967295 ≤ 4294967295 * 4294967295) c.in-Some.is i.small in
    let on = sum_goes_on (normal_for o) None es keys o c.requires.as_many (nothing_added es keys o c.requires.keyed) p c.earlier-latest.result inside keyed c.earlier-latest.ensures in
    let here : normal_for o (entry_at es p) ≡ normal_of (entry_at es p) = adds es keys o p c.requires.keyed keyed in
    let row : c.normal_at.result ≡ normal_of (entry_at es p) = c.normal_at.ensures ∙ held_entry es p in
    record {
      walks = walk_goes_on keys o (λ p. Unit {0}) c.loop-latest.latest c.earlier-latest.result p i.walks c.in-Some.is tt c.earlier-latest.ensures;
      summed = omega (arith, so_far, on, here, row);
      small = omega (arith, small, c.earlier-latest.ensures.within);
    }
