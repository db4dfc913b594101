use Rattle.std.proofs.Common.{◌-◌}
use Rattle.com_base.specs.declared.limits.TheConstants.{CLASS_LIMIT}
use Rattle.com_formed.proofs.classes.+are_classes_distinct.Given as goal

abbrev pub decreases-are_classes_distinct : goal.decreases-are_classes_distinct
decreases-are_classes_distinct l = CLASS_LIMIT - l.index
