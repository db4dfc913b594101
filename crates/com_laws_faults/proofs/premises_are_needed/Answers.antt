use Rattle.com_laws_faults.proofs.Bites.{cut_fails, early_fails, skip_fails}
use Rattle.com_laws_faults.proofs.premises_are_needed.Goals as goal

pub returns : goal.returns
returns c = record { cut = cut_fails; early = early_fails; later = skip_fails }
