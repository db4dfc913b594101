use Rattle.std.proofs.Common.{◌≡◌, ◌++◌, length}
use Rattle.com_waits.specs.Texts.{wait_lines}
use Rattle.com_waits.proofs.texts.push_waits.Given as goal

abbrev pub invariant-waits : goal.invariant-waits
invariant-waits l = l.out ++ wait_lines l.rest ≡ l.initial.out ++ wait_lines l.waits

abbrev pub decreases-waits : goal.decreases-waits
decreases-waits l = length l.rest
