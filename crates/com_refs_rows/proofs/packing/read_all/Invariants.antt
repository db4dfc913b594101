use Rattle.std.proofs.Common.{ℕ, ◌≡◌, ◌≤◌, ◌+◌}
use Rattle.std.specs.Prelude.{vec_len, vec_capacity}
use Rattle.com_refs_books.specs.Counting.{numbers_from}
use Rattle.com_refs_holders.specs.Tables.{offers}
use Rattle.com_refs_rows.specs.Books.{Gained}
use Rattle.com_refs_rows.specs.Moving.{HoldsMore}
use Rattle.com_refs_rows.proofs.Packed.{read_rows}
use Rattle.com_refs_rows.proofs.packing.read_all.Given as goal

abbrev pub invariant-loop-place : goal.invariant-loop-place
invariant-loop-place l = record {
  rows : Gained l.apartment (read_rows l.apartment (numbers_from l.packets.first l.place)) l.initial.refs l.refs l.initial.brought.items l.brought.items;
  more : HoldsMore l.initial.refs l.refs;
  offers : (x j : ℕ) → offers l.refs x j ≡ offers l.initial.refs x j;
  issued : l.refs.issued ≤ l.initial.refs.issued + l.place;
  spare : l.initial.refs.spare ≤ l.refs.spare + l.place;
  len : vec_len l.brought ≤ vec_len l.initial.brought + l.place;
  capacity : vec_capacity l.initial.brought ≤ vec_capacity l.brought;
}
