use Rattle.std.proofs.Common.{◌∙◌, ap}
use Rattle.com_model.specs.Lists.{first}
use Rattle.com_calls.specs.Kept.{Kept, inbox_at}
use Rattle.com_calls.proofs.Inboxes.{first-seen}
use Rattle.com_calls.proofs.calls.Calls.first_posted.Goals as goal

pub returns : goal.returns
returns c =
    let s = c.self.inside in
    c.first.ensures ∙ first-seen s.rows.items s.posted.calls s.waiting s.rows.cap s.room s.causes c.self.invariant.0 c.args.apartment
    ∙ ap (λ (b : Kept). first (inbox_at b c.args.apartment)) c.self.view_is
