-- The moves of the worked history, computed.
use Rattle.std.specs.Prelude.{refl}
use Rattle.com_laws_places.specs.Worked.{WorkedMoves}

pub worked : WorkedMoves
worked = record {
  made_counter = refl;
  made_relay = refl;
  entered = refl;
  kept = refl;
  left = refl;
  fetched = refl;
  left_again = refl;
  ended = refl;
  relay_gone = refl;
  counter_gone = refl;
}
