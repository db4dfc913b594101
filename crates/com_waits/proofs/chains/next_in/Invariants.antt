use Rattle.std.proofs.Common.{◌≡◌, length}
use Rattle.com_waits.specs.Chains.{next_in}
use Rattle.com_waits.proofs.chains.next_in.Given as goal

abbrev pub invariant-rows : goal.invariant-rows
invariant-rows l = next_in l.rest l.lane ≡ next_in l.waits l.lane

abbrev pub decreases-rows : goal.decreases-rows
decreases-rows l = length l.rest
