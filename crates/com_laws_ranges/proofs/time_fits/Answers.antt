use Rattle.com_laws_ranges.proofs.Times.{time-fits}
use Rattle.com_laws_ranges.proofs.time_fits.Goals as goal

pub returns : goal.returns
returns c = time-fits
