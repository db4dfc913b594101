use Rattle.std.proofs.Common.{length}
use Rattle.com_formed.proofs.classes.+are_bodies_distinct.Given as goal

abbrev pub decreases-are_bodies_distinct : goal.decreases-are_bodies_distinct
decreases-are_bodies_distinct l = length l.bodies.now
