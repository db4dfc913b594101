use Rattle.std.proofs.Common.{◌≡◌, length}
use Rattle.com_waits.specs.Chains.{first_in}
use Rattle.com_waits.proofs.chains.first_in.Given as goal

abbrev pub invariant-rows : goal.invariant-rows
invariant-rows l = first_in l.rest ≡ first_in l.waits

abbrev pub decreases-rows : goal.decreases-rows
decreases-rows l = length l.rest
