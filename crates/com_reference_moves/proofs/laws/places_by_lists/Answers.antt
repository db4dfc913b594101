use Rattle.com_reference_moves.proofs.Held.{places-lists}
use Rattle.com_reference_moves.proofs.laws.places_by_lists.Goals as goal

pub returns : goal.returns
returns c = places-lists
