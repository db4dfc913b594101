use Rattle.std.proofs.Common.{◌≡◌, drop}
use Rattle.com_deliveries.specs.Book.{empty, goes_on}
use Rattle.com_deliveries.proofs.tally_of.Given as goal

abbrev pub invariant-loop-entry : goal.invariant-loop-entry
invariant-loop-entry l = goes_on l.sources (drop l.entry-index l.history) l.tally ≡ goes_on l.sources l.history empty
