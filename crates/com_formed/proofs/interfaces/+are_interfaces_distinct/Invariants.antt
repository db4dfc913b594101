use Rattle.std.proofs.Common.{◌-◌}
use Rattle.com_base.specs.declared.limits.TheConstants.{INTERFACE_LIMIT}
use Rattle.com_formed.proofs.interfaces.+are_interfaces_distinct.Given as goal

abbrev pub decreases-are_interfaces_distinct : goal.decreases-are_interfaces_distinct
decreases-are_interfaces_distinct l = INTERFACE_LIMIT - l.number
