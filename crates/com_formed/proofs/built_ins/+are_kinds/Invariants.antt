use Rattle.std.proofs.Common.{length}
use Rattle.com_formed.proofs.built_ins.+are_kinds.Given as goal

abbrev pub decreases-are_kinds : goal.decreases-are_kinds
decreases-are_kinds l = length l.kinds.now
