use Rattle.std.proofs.Common.{◌≤◌, ◌-◌, vec_len}
use Rattle.com_deliveries.specs.Tables.{Upto}
use Rattle.com_deliveries.proofs.source_table.Given as goal

abbrev pub invariant-classes : goal.invariant-classes
invariant-classes l = (vec_len l.table ≤ 64) × Upto l.scenario l.table.items

abbrev pub decreases-classes : goal.decreases-classes
decreases-classes l = 64 - vec_len l.table
