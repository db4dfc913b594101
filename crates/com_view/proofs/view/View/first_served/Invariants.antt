use Rattle.std.proofs.Common.{◌≡◌, filter, drop}
use Rattle.com_model.specs.Lists.{first}
use Rattle.com_state.specs.Parts.{named_at}
use Rattle.com_view.specs.Seen.{serves_seen}
use Rattle.com_view.proofs.view.View.first_served.Given as goal

abbrev pub invariant-loop-object : goal.invariant-loop-object
invariant-loop-object l =
    first (filter (λ o. serves_seen l.self l.lane (named_at l.self.objects o)) (drop l.object-index l.objects))
    ≡ first (filter (λ o. serves_seen l.self l.lane (named_at l.self.objects o)) l.objects)
