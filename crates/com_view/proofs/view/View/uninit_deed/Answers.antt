use Rattle.std.proofs.Common.{sym, ap, ◌∙◌, slice_index_or}
use Rattle.com_view.specs.Seen.{Seen, sight_by}
use Rattle.com_view.proofs.view.View.uninit_deed.Goals as goal

pub returns : goal.returns
returns c = λ b.
    c.uninit_deed.ensures (sight_by c.args.self.now b) c.args.lane (sym c.home.ensures)
    (sym (c.count.ensures ∙ ap (λ (w : Seen). slice_index_or w.lanes.counts c.args.lane 0) c.self.view_is))
