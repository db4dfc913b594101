use Rattle.std.proofs.Common.{◌≡◌, ◌++◌, length}
use Rattle.com_draw.specs.Ends.{reason_items}
use Rattle.com_draw.proofs.ends.push_reason_items.Given as goal

abbrev pub invariant-waits : goal.invariant-waits
invariant-waits l = l.out ++ reason_items l.rest ≡ l.initial.out ++ reason_items l.waits

abbrev pub decreases-waits : goal.decreases-waits
decreases-waits l = length l.rest
