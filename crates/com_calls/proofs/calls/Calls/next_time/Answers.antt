use Rattle.std.proofs.Common.{◌∙◌, ap, ap₂, vec_capacity, filter_map, List, ℕ}
use Rattle.com_model.specs.Lists.{least}
use Rattle.com_calls.specs.Rows.{RowView, row_at}
use Rattle.com_calls.specs.Inside.{row_wait}
use Rattle.com_calls.specs.Kept.{Kept}
use Rattle.com_calls.specs.Waits.{next_wait}
use Rattle.com_calls.proofs.Delays.{next-seen}
use Rattle.com_calls.proofs.calls.Calls.next_time.Goals as goal

pub returns : goal.returns
returns c =
    let s = c.self.inside in
    c.least_wait.ensures
    ∙ ap₂ (λ (xs : List RowView) (ds : List ℕ). least (filter_map (λ k. row_wait c.args.now (row_at xs k)) ds)) c.deref.ensures.value c.deref-2.ensures.value
    ∙ next-seen s.rows.items s.posted.calls s.waiting (vec_capacity s.delayed) s.room s.causes c.args.now s.delayed.items c.self.invariant.1
    ∙ ap (λ (b : Kept). next_wait b c.args.now) c.self.view_is
