use Rattle.com_laws_safety.proofs.Severed.{legal-severed}
use Rattle.com_laws_safety.proofs.stays_severed.Goals as goal

pub returns : goal.returns
returns c = legal-severed
