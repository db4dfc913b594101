use Rattle.std.proofs.Common.{◌+◌, ◌<◌, ◌^◌, subst}
use Rattle.com_model.specs.Waiting.{Mail}
use Rattle.com_lanes.proofs.Rows.{mail_at}
use Rattle.com_lanes.proofs.lanes.Lanes.post.Goals as goal

pub bring_at-requires-clause-posted : goal.bring_at-requires-clause-posted
bring_at-requires-clause-posted c =
    let r = rw (← c.self.view_is) at c.requires.room in
    λ l. subst (λ (m : Mail). m.posted + 1 < 2 ^ 64) (mail_at c.self.inside.mail.items l) (r.posted l)
