use Rattle.std.proofs.Common.{◌≡◌, ◌++◌, drop}
use Rattle.com_read_sections.specs.Outlines.{names_of}
use Rattle.com_read_sections.proofs.outline.names_of.Given as goal

abbrev pub invariant-loop-table : goal.invariant-loop-table
invariant-loop-table l = l.names.items ++ names_of (drop l.table-index l.tables) ≡ names_of l.tables
