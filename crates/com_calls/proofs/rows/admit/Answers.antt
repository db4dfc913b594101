use Rattle.std.proofs.Common.{arith, sym, ap, ◌∙◌, slice_set, ◌-◌}
use Rattle.com_calls.specs.Rows.{RowView, admitting}
use Rattle.com_calls.proofs.Changed.{changed_at}
use Rattle.com_calls.proofs.Numbered.{call_of_row}
use Rattle.com_calls.proofs.rows.admit.Goals as goal

pub admit-requires : goal.admit-requires
admit-requires c = sym (call_of_row c.args.rows.now c.args.admission.call c.index-rows-call.result (omega arith) (omega arith) c.requires)

pub returns : goal.returns
returns c =
    ap (λ (r : RowView). slice_set c.args.rows.now (c.args.admission.call - 1) r) c.admit.ensures
    ∙ sym (changed_at (admitting c.args.admission) c.args.admission.call c.args.rows.now c.index-rows-call.result (omega arith) (omega arith))
