use Rattle.std.proofs.Common.{◌-◌}
use Rattle.com_base.specs.declared.limits.TheConstants.{INTERFACE_LIMIT}
use Rattle.com_formed.proofs.interfaces.+are_interfaces.Given as goal

abbrev pub decreases-are_interfaces : goal.decreases-are_interfaces
decreases-are_interfaces l = INTERFACE_LIMIT - l.number
