use Rattle.std.proofs.Common.{◌≡◌, ◌+◌, ◌-◌, ◌≤◌, [], length}
use Rattle.com_waits.specs.Chains.{entered, next_in}
use Rattle.com_waits.proofs.chains.cycle_from.Given as goal

abbrev pub invariant-steps : goal.invariant-steps
invariant-steps l = record {
  few : length l.chain.items ≤ length l.waits + 1;
  same : entered (next_in l.waits) (length l.waits + 1 - length l.chain.items) l.chain.items l.lane ≡ entered (next_in l.waits) (length l.waits + 1) [] l.fn.lane;
}

abbrev pub decreases-steps : goal.decreases-steps
decreases-steps l = length l.waits + 1 - length l.chain.items
