use Rattle.std.proofs.Common.{◌≡◌, ◌+◌, ◌≤◌, length, drop}
use Rattle.com_model.specs.Lists.{first}
use Rattle.com_model.specs.Openers.{openers}
use Rattle.com_waits.specs.Walks.{told}
use Rattle.com_waits.proofs.walks.top_of.Given as goal

abbrev pub invariant-entries : goal.invariant-entries
invariant-entries l = record {
  few : l.closed + length l.rest ≤ length l.history;
  top : first (drop l.closed (openers (told l.rest) l.lane)) ≡ first (openers (told l.history) l.lane);
}

abbrev pub decreases-entries : goal.decreases-entries
decreases-entries l = length l.rest
