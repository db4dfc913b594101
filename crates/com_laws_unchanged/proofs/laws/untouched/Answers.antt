use Rattle.com_laws_unchanged.proofs.Endings.{stays-connected, none-else-falls}
use Rattle.com_laws_unchanged.proofs.laws.untouched.Goals as goal

pub returns-clause-connected : goal.returns-clause-connected
returns-clause-connected c = stays-connected

pub returns-clause-fallen : goal.returns-clause-fallen
returns-clause-fallen c = none-else-falls
