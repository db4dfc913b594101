use Rattle.std.proofs.Common.{length}
use Rattle.com_formed.proofs.interfaces.+are_methods_distinct.Given as goal

abbrev pub decreases-are_methods_distinct : goal.decreases-are_methods_distinct
decreases-are_methods_distinct l = length l.methods.now
