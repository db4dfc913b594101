use Rattle.std.proofs.Common.{◌≡◌, ℕ, ◌+◌, ◌≤◌}
use Rattle.com_refs_holders.specs.Tables.{books_of, offers}
use Rattle.com_refs.specs.Counts.{holders_of}
use Rattle.com_refs_rows.specs.Owners.{AsOwned}
use Rattle.com_refs_rows.proofs.Placed.{GainedSome}
use Rattle.com_refs_rows.proofs.moving.gain_all.Given as goal

abbrev pub invariant-loop-moved : goal.invariant-loop-moved
invariant-loop-moved l = record {
  books : books_of l.refs ≡ books_of l.initial.refs;
  objects : AsOwned l.initial.refs l.refs;
  some : GainedSome l.gained l.moved-index l.initial.refs l.refs;
  more : (o : ℕ) → holders_of l.initial.refs o ≤ holders_of l.refs o;
  offers : (x j : ℕ) → offers l.refs x j ≡ offers l.initial.refs x j;
  issued : l.refs.issued ≡ l.initial.refs.issued + l.moved-index;
  spare : l.initial.refs.spare ≤ l.refs.spare + l.moved-index;
}
