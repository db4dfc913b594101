use Rattle.std.proofs.Common.{◌≡◌}
use Rattle.com_waits.specs.Walks.{seen_waits, told}
use Rattle.com_waits.proofs.walks.wait_rows.Given as goal

abbrev pub invariant-loop-before : goal.invariant-loop-before
invariant-loop-before l = l.rows.items ≡ seen_waits l.pool (told l.history) l.before
