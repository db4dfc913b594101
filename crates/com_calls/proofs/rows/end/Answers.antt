use Rattle.std.proofs.Common.{arith, sym, ap, ◌∙◌, slice_set, ◌-◌}
use Rattle.com_calls.specs.Rows.{RowView, ending_by}
use Rattle.com_calls.proofs.Changed.{changed_at}
use Rattle.com_calls.proofs.rows.end.Goals as goal

pub returns : goal.returns
returns c =
    ap (λ (r : RowView). slice_set c.args.rows.now (c.args.call - 1) r) c.end.ensures
    ∙ sym (changed_at (ending_by c.args.ending) c.args.call c.args.rows.now c.index-rows-call.result (omega arith) (omega arith))
