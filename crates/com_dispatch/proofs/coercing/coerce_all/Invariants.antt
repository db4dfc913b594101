use Rattle.std.proofs.Common.{◌≡◌, [], drop}
use Rattle.com_dispatch.specs.Coercing.{coerced_on}
use Rattle.com_dispatch.proofs.coercing.coerce_all.Given as goal

abbrev pub invariant-loop-i : goal.invariant-loop-i
invariant-loop-i l = coerced_on l.passed.items (drop l.i l.params) (drop l.i l.args) ≡ coerced_on [] l.params l.args
