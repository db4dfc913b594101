use Rattle.std.proofs.Common.{◌≡◌, arith, true}
use Rattle.std.specs.Prelude.{Some}
use Rattle.com_keyed.proofs.Walking.{walk_goes_on, walk_weaker, walk_inside}
use Rattle.com_proxy.specs.Rows.{proxy_key_of, key_of}
use Rattle.com_proxy.proofs.Rows.{row_inside}
use Rattle.com_proxy.proofs.Candidates.{Bounds, bounds_lower, bounds_here}
use Rattle.com_proxy.proofs.lowest.Goals as goal
use Rattle.com_proxy.proofs.lowest.Goals.{then-row-object+then-row-apartment+then-row-gt0+then-is_lower, else-row-object, else-row-object-via-then-row-object+then-row-apartment+then-row-gt0+else-is_lower, else-row-object-via-then-row-object+then-row-apartment+else-row-gt0, else-row-object-via-then-row-object+else-row-apartment, else-row-object-via-else-row-object}

pub loop-at-preserved : goal.loop-at-preserved
loop-at-preserved c =
    let a = c.args.apartment in
    let o = c.args.object in
    let rs = c.args.rows.now in
    let keys = c.args.proxies.now.keys in
    let k = proxy_key_of a o in
    let at = c.loop-at.at in
    let best = c.loop-at.lowest in
    let index = c.in-Some.index in
    let next = c.earlier-at.result in
    let i = c.loop-at.invariant in
    elim c.if-row-object.branch [
      | then-row-object+then-row-apartment+then-row-gt0+then-is_lower w ↦ rw w.lowest-is (record {
        walks = walk_goes_on keys k (Bounds a o rs (Some index)) at next index (walk_weaker keys k (Bounds a o rs best) at (Bounds a o rs (Some index)) i.walks (bounds_lower a o rs best index (w.is_lower.ensures.0 w.if-is_lower.true))) c.in-Some.is (λ eo ea some. omega arith) c.earlier-at.ensures;
        candidate = record { inside = row_inside key_of rs keys k c.requires.keyed index (walk_inside keys k _ at index i.walks c.in-Some.is); of_object = w.if-row-object.true; of_apartment = w.if-row-apartment.true; some = w.if-row-gt0.true };
      })
      | else-row-object w ↦
          let here : Bounds a o rs best index = elim w.else-row-object.branch [
            | else-row-object-via-then-row-object+then-row-apartment+then-row-gt0+else-is_lower v ↦ bounds_here a o rs best index (λ lower. let yes : v.is_lower.result ≡ true = v.is_lower.ensures.1 lower in cc)
            | else-row-object-via-then-row-object+then-row-apartment+else-row-gt0 v ↦ λ eo ea some. absurd (omega arith)
            | else-row-object-via-then-row-object+else-row-apartment v ↦ λ eo ea some. absurd (v.if-row-apartment.false ea)
            | else-row-object-via-else-row-object v ↦ λ eo ea some. absurd (v.if-row-object.false eo)
          ] in
          rw w.lowest-is (record { walks = walk_goes_on keys k (Bounds a o rs best) at next index i.walks c.in-Some.is here c.earlier-at.ensures; candidate = i.candidate })
    ]
