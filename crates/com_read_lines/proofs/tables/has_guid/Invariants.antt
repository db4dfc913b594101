use Rattle.std.proofs.Common.{◌≡◌, drop}
use Rattle.com_read_lines.specs.Tables.{has_guid}
use Rattle.com_read_lines.proofs.tables.has_guid.Given as goal

abbrev pub invariant-loop-declared : goal.invariant-loop-declared
invariant-loop-declared l = has_guid (drop l.declared-index l.guids) l.guid ≡ has_guid l.guids l.guid
