use Rattle.std.proofs.Common.{◌≡◌, ◌++◌, drop}
use Rattle.com_read_sections.specs.Outlines.{iids_of}
use Rattle.com_read_sections.proofs.outline.iids_of.Given as goal

abbrev pub invariant-loop-table : goal.invariant-loop-table
invariant-loop-table l = l.iids.items ++ iids_of (drop l.table-index l.tables) ≡ iids_of l.tables
