use Rattle.com_view.specs.Seen.{bare}
use Rattle.com_rules.proofs.Packing.{fields_fit}
use Rattle.com_rules.proofs.making.number_fields.Goals as goal

pub append_field-requires : goal.append_field-requires
append_field-requires c =
    let w = c.args.view.now in
    fields_fit w.scenario (bare w) c.args.made c.args.refs.now c.args.rows.now c.loop-row.row-index c.loop-row.fields.items
    c.loop-row.invariant c.loop-row-test.true c.requires
