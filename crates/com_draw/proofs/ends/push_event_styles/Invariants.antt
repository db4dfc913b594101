use Rattle.std.proofs.Common.{◌≡◌, ◌++◌, length}
use Rattle.com_draw.specs.Ends.{event_styles}
use Rattle.com_draw.proofs.ends.push_event_styles.Given as goal

abbrev pub invariant-events : goal.invariant-events
invariant-events l = l.out ++ event_styles l.rest ≡ l.initial.out ++ event_styles l.events

abbrev pub decreases-events : goal.decreases-events
decreases-events l = length l.rest
