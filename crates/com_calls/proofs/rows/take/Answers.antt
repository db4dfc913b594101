use Rattle.std.proofs.Common.{◌∙◌, ◌-◌, arith, sym, ap, [], slice_set}
use Rattle.com_calls.specs.Rows.{RowView, taken}
use Rattle.com_calls.proofs.Changed.{changed_at}
use Rattle.com_calls.proofs.RowReads.{read_place}
use Rattle.com_calls.proofs.rows.take.Goals as goal

pub returns-clause-rows : goal.returns-clause-rows
returns-clause-rows c =
    ap (λ (r : RowView). slice_set c.args.rows.now (c.args.call - 1) r) c.take.ensures.row
    ∙ sym (changed_at taken c.args.call c.args.rows.now c.index-rows-call.result (omega arith) (omega arith))

pub returns-clause-values : goal.returns-clause-values
returns-clause-values c =
    c.take.ensures.values
    ∙ sym (read_place (λ (r : RowView). r.unread) c.args.rows.now c.args.call c.index-rows-call.result [] (omega arith) (omega arith))
