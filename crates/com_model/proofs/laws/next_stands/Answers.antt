use Rattle.com_model.proofs.Sights.{same-next}
use Rattle.com_model.proofs.laws.next_stands.Goals as goal

pub returns : goal.returns
returns c = same-next
