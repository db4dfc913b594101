use Rattle.com_laws_unchanged.proofs.Rests.{resting-stands}
use Rattle.com_laws_unchanged.proofs.laws.resting.Goals as goal

pub returns : goal.returns
returns c = resting-stands
