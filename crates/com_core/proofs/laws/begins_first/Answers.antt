use Rattle.com_core.proofs.Entries.{new_stands}
use Rattle.com_core.proofs.laws.begins_first.Goals as goal

pub returns : goal.returns
returns c = new_stands
