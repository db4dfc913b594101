use Rattle.std.proofs.Common.{◌≡◌, ◌++◌, length}
use Rattle.com_draw_stories.specs.Ends.{later_sinks}
use Rattle.com_draw_stories.proofs.ends.push_later_sinks.Given as goal

abbrev pub invariant-sinks : goal.invariant-sinks
invariant-sinks l = l.out ++ later_sinks l.rest ≡ l.initial.out ++ later_sinks l.sinks

abbrev pub decreases-sinks : goal.decreases-sinks
decreases-sinks l = length l.rest
