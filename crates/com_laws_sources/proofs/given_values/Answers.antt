use Rattle.com_laws_sources.proofs.Fitting.{legal-given}
use Rattle.com_laws_sources.proofs.given_values.Goals as goal

pub returns : goal.returns
returns c = legal-given
