use Rattle.std.proofs.Common.{◌≡◌, arith, sym, ap, ◌∙◌, slice_set, slice_index_or, ◌-◌, ℕ, Option}
use Rattle.com_calls.specs.Rows.{RowView, left_with, late_of, late_row}
use Rattle.com_calls.proofs.Leaves.{row_place}
use Rattle.com_calls.proofs.Changed.{changed_at}
use Rattle.com_calls.proofs.Numbered.{call_of_row}
use Rattle.com_calls.proofs.rows.leave.Goals as goal

pub returns-clause-rows : goal.returns-clause-rows
returns-clause-rows c =
    let rows = c.args.rows.now in
    let d : RowView = c.index-rows-call.result in
    let row : RowView = slice_index_or rows (c.args.call - 1) d in
    let is : row.issue.call ≡ c.args.call = call_of_row rows c.args.call d (omega arith) (omega arith) c.requires in
    ap (λ (r : RowView). slice_set rows (c.args.call - 1) r) c.leave.ensures.row
    ∙ ap (λ (n : ℕ). slice_set rows (c.args.call - 1) (left_with n c.args.answer.hr c.args.answer.value row)) is
    ∙ sym (changed_at (left_with c.args.call c.args.answer.hr c.args.answer.value) c.args.call rows d (omega arith) (omega arith))

pub returns-clause-late : goal.returns-clause-late
returns-clause-late c =
    let rows = c.args.rows.now in
    let d : RowView = c.index-rows-call.result in
    let row : RowView = slice_index_or rows (c.args.call - 1) d in
    let is : row.issue.call ≡ c.args.call = call_of_row rows c.args.call d (omega arith) (omega arith) c.requires in
    c.leave.ensures.late
    ∙ ap (λ (n : ℕ). late_of row.ending (record { call = n; hr = c.args.answer.hr; value = c.args.answer.value })) is
    ∙ sym (ap (λ (r : Option RowView). late_row r (record { call = c.args.call; hr = c.args.answer.hr; value = c.args.answer.value })) (row_place rows c.args.call d (omega arith) (omega arith)))
