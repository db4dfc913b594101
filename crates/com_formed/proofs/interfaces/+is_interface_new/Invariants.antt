use Rattle.std.proofs.Common.{◌-◌}
use Rattle.com_base.specs.declared.limits.TheConstants.{INTERFACE_LIMIT}
use Rattle.com_formed.proofs.interfaces.+is_interface_new.Given as goal

abbrev pub decreases-is_interface_new : goal.decreases-is_interface_new
decreases-is_interface_new l = INTERFACE_LIMIT - l.number
