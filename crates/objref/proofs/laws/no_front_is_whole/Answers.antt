use Rattle.objref.proofs.Spelled.{ends_there}
use Rattle.objref.proofs.laws.no_front_is_whole.Goals as goal

pub returns : goal.returns
returns c = ends_there
