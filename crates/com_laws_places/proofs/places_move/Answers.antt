use Rattle.com_laws_places.proofs.Laws.{legal-places}
use Rattle.com_laws_places.proofs.places_move.Goals as goal

pub returns : goal.returns
returns c = legal-places
