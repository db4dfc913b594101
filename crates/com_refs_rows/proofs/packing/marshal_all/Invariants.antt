use Rattle.std.proofs.Common.{take, ℕ, ◌≡◌, ◌≤◌, ◌+◌}
use Rattle.com_refs_holders.specs.Tables.{offers}
use Rattle.com_refs_books.specs.Changes.{marshal_all}
use Rattle.com_refs_rows.specs.Books.{Marshalled}
use Rattle.com_refs_rows.specs.Moving.{HoldsMore}
use Rattle.com_refs_rows.proofs.packing.marshal_all.Given as goal

abbrev pub invariant-loop-held : goal.invariant-loop-held
invariant-loop-held l = record {
  rows : Marshalled (marshal_all l.apartment (take l.held-index l.carried)) l.initial.refs l.refs;
  more : HoldsMore l.initial.refs l.refs;
  offers : (x j : ℕ) → offers l.refs x j ≡ offers l.initial.refs x j;
  issued : l.refs.issued ≤ l.initial.refs.issued + l.held-index;
  spare : l.initial.refs.spare ≤ l.refs.spare + l.held-index;
}
