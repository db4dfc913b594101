use Rattle.com_parts.proofs.Owned.{Owned}
use Rattle.com_parts.proofs.owners.fill_owners.Given as goal

abbrev pub invariant-loop-before : goal.invariant-loop-before
invariant-loop-before l = Owned l.objects.tables l.before l.owners.items
