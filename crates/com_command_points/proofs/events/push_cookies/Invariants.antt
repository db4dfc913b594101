use Rattle.std.proofs.Common.{◌≡◌, ◌++◌, length}
use Rattle.com_command_points.specs.Events.{cookie_words}
use Rattle.com_command_points.proofs.events.push_cookies.Given as goal

abbrev pub invariant-cookies : goal.invariant-cookies
invariant-cookies l = l.out ++ cookie_words l.rest ≡ l.initial.out ++ cookie_words l.cookies

abbrev pub decreases-cookies : goal.decreases-cookies
decreases-cookies l = length l.rest
