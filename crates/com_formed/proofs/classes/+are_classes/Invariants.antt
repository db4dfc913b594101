use Rattle.std.proofs.Common.{◌-◌}
use Rattle.com_base.specs.declared.limits.TheConstants.{CLASS_LIMIT}
use Rattle.com_formed.proofs.classes.+are_classes.Given as goal

abbrev pub decreases-are_classes : goal.decreases-are_classes
decreases-are_classes l = CLASS_LIMIT - l.index
