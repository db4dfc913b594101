use Rattle.std.proofs.Common.{◌≡◌}
use Rattle.std.specs.List.{filter_map}
use Rattle.com_model.specs.Lists.{least, one_to}
use Rattle.com_model.specs.Rules.{time_of}
use Rattle.com_view.specs.Seen.{bare}
use Rattle.com_view.proofs.view.View.tick_time.Given as goal

abbrev pub invariant-loop-before : goal.invariant-loop-before
invariant-loop-before l = l.soonest ≡ least (filter_map (time_of (bare l.self)) (one_to l.before))
