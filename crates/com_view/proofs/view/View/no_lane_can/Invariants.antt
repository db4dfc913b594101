use Rattle.std.proofs.Common.{◌≡◌, false}
use Rattle.com_refs_books.specs.Changes.{Books}
use Rattle.com_model.specs.Lists.{any_of, one_to}
use Rattle.com_model.specs.Rules.{can_step}
use Rattle.com_view.specs.Seen.{sight_by}
use Rattle.com_view.proofs.view.View.no_lane_can.Given as goal

abbrev pub invariant-loop-before : goal.invariant-loop-before
invariant-loop-before l = (b : Books) → any_of (can_step l.self.scenario (sight_by l.self b)) (one_to l.before) ≡ false
