use Rattle.std.proofs.Common.{◌≡◌, length}
use Rattle.com_draw.specs.Reasons.{all_labelled}
use Rattle.com_draw.proofs.reasons.widen_all.Given as goal

abbrev pub invariant-waits : goal.invariant-waits
invariant-waits l = all_labelled l.rest l.board ≡ all_labelled l.waits l.initial.board

abbrev pub decreases-waits : goal.decreases-waits
decreases-waits l = length l.rest
