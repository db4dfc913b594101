use Rattle.std.proofs.Common.{◌≡◌, ◌++◌, length}
use Rattle.com_command_points.specs.Events.{event_lines}
use Rattle.com_command_points.proofs.events.push_events.Given as goal

abbrev pub invariant-events : goal.invariant-events
invariant-events l = l.out ++ event_lines l.rest ≡ l.initial.out ++ event_lines l.events

abbrev pub decreases-events : goal.decreases-events
decreases-events l = length l.rest
