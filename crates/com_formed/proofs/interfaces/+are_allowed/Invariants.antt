use Rattle.std.proofs.Common.{◌-◌}
use Rattle.com_base.specs.declared.limits.TheConstants.{INTERFACE_LIMIT}
use Rattle.com_formed.proofs.interfaces.+are_allowed.Given as goal

abbrev pub decreases-are_allowed : goal.decreases-are_allowed
decreases-are_allowed l = INTERFACE_LIMIT - l.number
