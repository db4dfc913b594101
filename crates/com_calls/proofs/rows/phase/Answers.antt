use Rattle.std.proofs.Common.{arith, sym, ap, ◌∙◌, slice_set, ◌-◌}
use Rattle.com_calls.specs.Rows.{RowView, phased}
use Rattle.com_calls.proofs.Changed.{changed_at}
use Rattle.com_calls.proofs.rows.phase.Goals as goal

pub returns : goal.returns
returns c =
    ap (λ (r : RowView). slice_set c.args.rows.now (c.args.call - 1) r) c.set_phase.ensures
    ∙ sym (changed_at (phased c.args.phase) c.args.call c.args.rows.now c.index-rows-call.result (omega arith) (omega arith))
