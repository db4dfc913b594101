use Rattle.std.proofs.Common.{◌≡◌, ◌++◌, length}
use Rattle.com_deliveries.specs.Book.{events}
use Rattle.com_deliveries.proofs.tally.events_of.Given as goal

abbrev pub invariant-calls : goal.invariant-calls
invariant-calls l = l.deliveries.items ++ events l.objects l.rest ≡ events l.objects l.calls

abbrev pub decreases-calls : goal.decreases-calls
decreases-calls l = length l.rest
