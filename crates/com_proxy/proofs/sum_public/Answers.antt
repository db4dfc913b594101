use Rattle.std.proofs.Common.{◌≡◌, sym, arith, subst, ◌+◌}
use Rattle.com_keyed.specs.Indices.{reach}
use Rattle.com_keyed.proofs.Summing.{sum_begins, sum_goes_on, sum_from, sum_within}
use Rattle.com_keyed.proofs.Walking.{walk_begins, walk_goes_on, walk_inside, walk_at}
use Rattle.com_proxy.specs.Rows.{public_any, no_row, row_at}
use Rattle.com_proxy.proofs.Summed.{adds, nothing_added, as_many}
use Rattle.com_proxy.proofs.sum_public.Goals as goal

pub loop-latest-init : goal.loop-latest-init
loop-latest-init c =
    let rs = c.args.rows.now in
    let keys = c.args.objects.now.keys in
    let o = c.args.object in
    let first = c.last-latest.ensures in
    record {
      walks = walk_begins keys o (λ p. Unit {0}) c.last-latest.result first;
      summed = λ fits. sym (sum_begins (public_any o) (no_row 0 0 0) rs keys o (as_many rs keys c.requires.keyed) (nothing_added rs keys o c.requires.keyed) c.last-latest.result first);
    }

pub loop-latest-preserved : goal.loop-latest-preserved
loop-latest-preserved c =
    let i = c.loop-latest.invariant in
    let rs = c.args.rows.now in
    let keys = c.args.objects.now.keys in
    let o = c.args.object in
    let p = c.in-Some.index in
    let inside = walk_inside keys o _ c.loop-latest.latest p i.walks c.in-Some.is in
    let keyed = walk_at keys o _ c.loop-latest.latest p i.walks c.in-Some.is in
    let on = sum_goes_on (public_any o) (no_row 0 0 0) rs keys o (as_many rs keys c.requires.keyed) (nothing_added rs keys o c.requires.keyed) p c.earlier-latest.result inside keyed c.earlier-latest.ensures in
    let within = sum_within (public_any o) (no_row 0 0 0) rs keys o (as_many rs keys c.requires.keyed) (nothing_added rs keys o c.requires.keyed) (reach c.earlier-latest.result) in
    let here : public_any o (row_at rs p) ≡ (row_at rs p).public = adds rs keys o p c.requires.keyed (omega (arith, inside, as_many rs keys c.requires.keyed)) keyed in
    record {
      walks = walk_goes_on keys o (λ p. Unit {0}) c.loop-latest.latest c.earlier-latest.result p i.walks c.in-Some.is tt c.earlier-latest.ensures;
      summed = λ fits.
          let so_far : c.loop-latest.sum ≡ sum_from (public_any o) rs (p + 1) = subst (λ v. c.loop-latest.sum ≡ sum_from (public_any o) rs (reach v)) c.in-Some.is (i.summed fits) in
          omega (arith, so_far, on, here, within, fits);
    }
