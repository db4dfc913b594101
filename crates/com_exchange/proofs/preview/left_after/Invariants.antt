use Rattle.std.proofs.Common.{◌≡◌, drop}
use Rattle.com_exchange.specs.Previews.{left_after}
use Rattle.com_exchange.proofs.preview.left_after.Given as goal

abbrev pub invariant-loop-other : goal.invariant-loop-other
invariant-loop-other l = left_after (drop l.other-index l.earlier) l.row l.held ≡ left_after l.earlier l.row l.row.held
