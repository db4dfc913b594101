use Rattle.std.proofs.Common.{◌≡◌, ◌++◌, ◌≤◌, ◌-◌, drop, length}
use Rattle.com_print_scenario.proofs.names.tables.Given as goal

abbrev pub invariant-tables : goal.invariant-tables
invariant-tables l = record {
  copied : l.copies.items ++ drop l.number l.classes.interfaces ≡ l.classes.interfaces;
  count : l.number ≤ length l.classes.interfaces;
}

abbrev pub decreases-tables : goal.decreases-tables
decreases-tables l = length l.classes.interfaces - l.number
