use Rattle.std.proofs.Common.{◌≡◌, length}
use Rattle.com_waits.proofs.explains.same_waits.Given as goal

abbrev pub invariant-waits : goal.invariant-waits
invariant-waits l = record {
  whole : l.left ≡ l.right → l.fn.left ≡ l.fn.right;
  parts : l.fn.left ≡ l.fn.right → l.left ≡ l.right;
}

abbrev pub decreases-waits : goal.decreases-waits
decreases-waits l = length l.left
