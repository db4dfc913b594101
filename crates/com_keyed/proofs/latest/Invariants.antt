use Rattle.std.proofs.Common.{length}
use Rattle.com_keyed.proofs.Linking.{Follows}
use Rattle.com_keyed.proofs.latest.Given as goal

abbrev pub invariant-loop-link : goal.invariant-loop-link
invariant-loop-link l = Follows l.keys (length l.heads) l.key l.fn.end l.link

abbrev pub decreases-loop-link : goal.decreases-loop-link
decreases-loop-link l = l.link
