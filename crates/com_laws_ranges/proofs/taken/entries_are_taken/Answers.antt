use Rattle.com_laws_ranges.proofs.Takes.{taken, writes}
use Rattle.com_laws_ranges.proofs.taken.entries_are_taken.Goals as goal

pub returns-clause-fits : goal.returns-clause-fits
returns-clause-fits c = taken

pub returns-clause-writes : goal.returns-clause-writes
returns-clause-writes c = writes
