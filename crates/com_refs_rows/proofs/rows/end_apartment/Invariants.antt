use Rattle.std.proofs.Common.{◌≡◌, ℕ, nat_le, ◌&&◌, eqb, ◌+◌, ◌≤◌}
use Rattle.com_refs_holders.specs.Tables.{offers}
use Rattle.std.specs.Prelude.{vec_len, vec_capacity}
use Rattle.com_state.specs.Parts.{named_at}
use Rattle.com_refs_rows.specs.Books.{Cut}
use Rattle.com_refs_rows.specs.Moving.{Climbs, Touches}
use Rattle.com_refs_rows.proofs.rows.end_apartment.Given as goal

abbrev pub invariant-loop-place : goal.invariant-loop-place
invariant-loop-place l = record {
  cut : Cut (λ x. nat_le x l.place && eqb (named_at l.objects.tables x) l.apartment) l.initial.refs l.refs;
  touched : Touches l.initial.refs l.refs l.initial.touched.items l.touched.items;
  offers : (x j : ℕ) → offers l.refs x j ≡ offers l.initial.refs x j;
  issued : l.refs.issued ≡ l.initial.refs.issued;
  climbs : Climbs 0 l.initial.touched.items → Climbs 0 l.touched.items;
  len : vec_len l.touched ≤ vec_len l.initial.touched + l.place;
  capacity : vec_capacity l.initial.touched ≤ vec_capacity l.touched;
}
