use Rattle.std.proofs.Common.{◌-◌}
use Rattle.com_base.specs.declared.limits.TheConstants.{CLASS_LIMIT}
use Rattle.com_formed.proofs.classes.+is_class_new.Given as goal

abbrev pub decreases-is_class_new : goal.decreases-is_class_new
decreases-is_class_new l = CLASS_LIMIT - l.index
