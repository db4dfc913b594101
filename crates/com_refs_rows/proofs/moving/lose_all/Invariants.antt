use Rattle.std.proofs.Common.{◌≡◌, ℕ, ◌+◌, ◌≤◌}
use Rattle.com_refs_holders.specs.Tables.{offers}
use Rattle.std.specs.Prelude.{vec_len, vec_capacity}
use Rattle.com_refs_rows.specs.Moving.{Climbs}
use Rattle.com_refs_rows.specs.Owners.{AsOwned}
use Rattle.com_refs_rows.proofs.Unheld.{TouchedSome}
use Rattle.com_refs_rows.proofs.Placed.{EndedSome}
use Rattle.com_refs_rows.proofs.moving.lose_all.Given as goal

abbrev pub invariant-loop-moved : goal.invariant-loop-moved
invariant-loop-moved l = record {
  objects : AsOwned l.initial.refs l.refs;
  ended : EndedSome l.lost l.moved-index l.initial.refs l.refs;
  touched : TouchedSome l.lost l.initial.refs l.refs l.initial.touched.items l.touched.items;
  offers : (x j : ℕ) → offers l.refs x j ≡ offers l.initial.refs x j;
  issued : l.refs.issued ≡ l.initial.refs.issued;
  climbs : Climbs 0 l.initial.touched.items → Climbs 0 l.touched.items;
  len : vec_len l.touched ≤ vec_len l.initial.touched + l.moved-index;
  capacity : vec_capacity l.initial.touched ≤ vec_capacity l.touched;
}
