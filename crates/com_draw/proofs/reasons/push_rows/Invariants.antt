use Rattle.std.proofs.Common.{◌≡◌, ◌≤◌, ◌++◌, ◌+◌, length}
use Rattle.com_draw.specs.Reasons.{reason_rows}
use Rattle.com_draw.proofs.reasons.push_rows.Given as goal

abbrev pub invariant-waits : goal.invariant-waits
invariant-waits l = record {
  text : l.out ++ reason_rows l.row l.cycle l.board l.rest
      ≡ l.initial.out ++ reason_rows l.first l.cycle l.board l.waits;
  counted : l.row + length l.rest ≡ l.first + length l.waits;
  from_one : 1 ≤ l.row;
}

abbrev pub decreases-waits : goal.decreases-waits
decreases-waits l = length l.rest
