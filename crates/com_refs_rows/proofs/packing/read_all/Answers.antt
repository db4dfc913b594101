use Rattle.std.proofs.Common.{◌≡◌, ℕ, refl, subst, ◌∙◌, arith}
use Rattle.com_refs_books.specs.Counting.{numbers_from}
use Rattle.com_refs_rows.specs.Books.{Gained}
use Rattle.com_refs_rows.proofs.Packed.{read_rows, read_none, read_next}
use Rattle.com_refs_rows.proofs.packing.read_all.Goals as goal

pub loop-place-init : goal.loop-place-init
loop-place-init c = record { rows = read_none c.args.apartment c.args.packets.first c.args.refs.now c.args.brought.now.items; more = λ o. omega arith; offers = λ x j. refl; issued = omega arith; spare = omega arith; len = omega arith; capacity = omega arith }

pub loop-place-preserved : goal.loop-place-preserved
loop-place-preserved c = record {
  rows = read_next c.args.apartment c.args.packets.first c.loop-place.place c.args.refs.now c.loop-place.refs c.unmarshal.new.refs _ _ _ c.loop-place.invariant.rows c.unmarshal.ensures.row;
  more = λ o. omega (arith, c.loop-place.invariant.more o, c.unmarshal.ensures.more o);
  offers = λ x j. c.unmarshal.ensures.offers x j ∙ c.loop-place.invariant.offers x j;
  issued = omega (arith, c.loop-place.invariant.issued, c.unmarshal.ensures.issued);
  spare = omega (arith, c.loop-place.invariant.spare, c.unmarshal.ensures.spare);
  len = omega (arith, c.loop-place.invariant.len, c.unmarshal.ensures.len);
  capacity = omega (arith, c.loop-place.invariant.capacity, c.unmarshal.ensures.capacity);
}

pub returns-clause-rows : goal.returns-clause-rows
returns-clause-rows c =
    let all : c.loop-place.place ≡ c.args.packets.count = omega arith in
    subst (λ (n : ℕ). Gained c.args.apartment (read_rows c.args.apartment (numbers_from c.args.packets.first n)) c.args.refs.now c.loop-place.refs c.args.brought.now.items c.loop-place.brought.items) all c.loop-place.invariant.rows

pub returns-clause-more : goal.returns-clause-more
returns-clause-more c = c.loop-place.invariant.more
