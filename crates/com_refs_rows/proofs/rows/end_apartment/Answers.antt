use Rattle.std.proofs.Common.{◌≡◌, ℕ, List, refl, sym, ap, subst, ◌∙◌, ◌+◌, arith}
use Rattle.com_refs_holders.specs.Tables.{Tables, offers}
use Rattle.com_refs_rows.specs.Books.{Cut}
use Rattle.com_refs_rows.specs.Moving.{Touches}
use Rattle.com_refs_rows.proofs.Ending.{ended_to, ended_first, ended_owned, ended_other, ended_last}
use Rattle.com_refs_rows.proofs.Unholding.{touches-same}
use Rattle.com_refs_rows.proofs.Unheld.{touches-then}
use Rattle.com_refs_rows.proofs.rows.end_apartment.Goals as goal
use Rattle.com_refs_rows.proofs.rows.end_apartment.Goals.{then-owner-apartment, else-owner-apartment}

-- What is written down of tables, by what they are.
as-written : (t u v : Tables) (xs ys zs : List ℕ) → u ≡ v → ys ≡ zs → Touches t v xs zs → Touches t u xs ys
as-written t u v xs ys zs e f p = subst (λ (w : Tables). Touches t w xs ys) (sym e) (subst (λ (l : List ℕ). Touches t v xs l) (sym f) p)

pub loop-place-init : goal.loop-place-init
loop-place-init c = record {
  cut = ended_first c.args.objects.now.tables c.args.apartment c.args.refs.now c.requires.apartment;
  touched = touches-same c.args.refs.now c.args.refs.now c.args.touched.now.items refl;
  offers = λ x j. refl;
  issued = refl;
  climbs = λ m. m;
  len = omega arith;
  capacity = omega arith;
}

pub loop-place-preserved : goal.loop-place-preserved
loop-place-preserved c =
    let os = c.args.objects.now.tables in
    let a = c.args.apartment in
    let k = c.loop-place.place in
    let t = c.args.refs.now in
    let xs = c.args.touched.now.items in
    record {
      cut = elim c.if-owner-apartment.branch [
        | then-owner-apartment w ↦
            subst (λ (v : Tables). Cut (ended_to os a (k + 1)) t v) (sym w.refs-is)
            (ended_owned os a k t c.loop-place.refs w.disconnect.new.refs (sym c.owner.ensures ∙ w.if-owner-apartment.true) c.loop-place.invariant.cut w.disconnect.ensures.cut)
        | else-owner-apartment w ↦
            subst (λ (v : Tables). Cut (ended_to os a (k + 1)) t v) (sym w.refs-is)
            (ended_other os a k t c.loop-place.refs (λ e. w.if-owner-apartment.false (c.owner.ensures ∙ e)) c.loop-place.invariant.cut)
      ];
      touched = elim c.if-owner-apartment.branch [
        | then-owner-apartment w ↦
            subst (λ (v : Tables). Touches t v xs c.if-owner-apartment.touched.items) (sym w.refs-is)
            (rw w.touched-is (touches-then t c.loop-place.refs w.disconnect.new.refs xs c.loop-place.touched.items w.disconnect.new.touched.items c.loop-place.invariant.touched w.disconnect.ensures.touched))
        | else-owner-apartment w ↦
            subst (λ (v : Tables). Touches t v xs c.if-owner-apartment.touched.items) (sym w.refs-is)
            (rw w.touched-is c.loop-place.invariant.touched)
      ];
      offers = λ x j. elim c.if-owner-apartment.branch [
        | then-owner-apartment w ↦ ap (λ (v : Tables). offers v x j) w.refs-is ∙ w.disconnect.ensures.offers x j ∙ c.loop-place.invariant.offers x j
        | else-owner-apartment w ↦ ap (λ (v : Tables). offers v x j) w.refs-is ∙ c.loop-place.invariant.offers x j
      ];
      issued = elim c.if-owner-apartment.branch [
        | then-owner-apartment w ↦ ap (λ (v : Tables). v.issued) w.refs-is ∙ w.disconnect.ensures.issued ∙ c.loop-place.invariant.issued
        | else-owner-apartment w ↦ ap (λ (v : Tables). v.issued) w.refs-is ∙ c.loop-place.invariant.issued
      ];
      climbs = λ m. elim c.if-owner-apartment.branch [
        | then-owner-apartment w ↦ rw w.touched-is (w.disconnect.ensures.climbs (c.loop-place.invariant.climbs m))
        | else-owner-apartment w ↦ rw w.touched-is (c.loop-place.invariant.climbs m)
      ];
      len = elim c.if-owner-apartment.branch [
        | then-owner-apartment w ↦ rw w.touched-is (omega (arith, w.disconnect.ensures.len, c.loop-place.invariant.len))
        | else-owner-apartment w ↦ rw w.touched-is (omega (arith, c.loop-place.invariant.len))
      ];
      capacity = elim c.if-owner-apartment.branch [
        | then-owner-apartment w ↦ rw w.touched-is (omega (arith, w.disconnect.ensures.capacity, c.loop-place.invariant.capacity))
        | else-owner-apartment w ↦ rw w.touched-is (omega (arith, c.loop-place.invariant.capacity))
      ];
    }

pub returns-clause-cut : goal.returns-clause-cut
returns-clause-cut c = ended_last c.args.objects.now.tables c.args.apartment c.loop-place.place c.args.refs.now c.loop-place.refs c.requires.apartment (omega (arith, c.len-place-end.ensures)) c.loop-place.invariant.cut

pub returns-clause-touched : goal.returns-clause-touched
returns-clause-touched c = c.loop-place.invariant.touched

pub returns-clause-climbs : goal.returns-clause-climbs
returns-clause-climbs c = c.loop-place.invariant.climbs
