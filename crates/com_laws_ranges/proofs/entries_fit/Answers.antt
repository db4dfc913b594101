use Rattle.com_laws_ranges.proofs.Fitting.{entry-fits}
use Rattle.com_laws_ranges.proofs.Standing.{fits-parts}
use Rattle.com_laws_ranges.proofs.entries_fit.Goals as goal

pub returns-clause-parts : goal.returns-clause-parts
returns-clause-parts c = fits-parts

pub returns-clause-deed : goal.returns-clause-deed
returns-clause-deed c = entry-fits
