use Rattle.com_rules.proofs.Packing.{FieldsSoFar}
use Rattle.com_view.specs.Seen.{bare}
use Rattle.com_rules.proofs.making.number_fields.Given as goal

abbrev pub invariant-loop-row : goal.invariant-loop-row
invariant-loop-row l = FieldsSoFar l.view.scenario (bare l.view) l.made l.refs l.rows l.row-index l.fields.items
