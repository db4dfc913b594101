use Rattle.std.proofs.Common.{◌≡◌, ◌++◌, take}
use Rattle.com_laws_places.specs.Moves.{all_moved}
use Rattle.com_reference_moves.proofs.moves.Moves.lose_all.Given as goal

abbrev pub invariant-loop-place : goal.invariant-loop-place
invariant-loop-place l = l.self ≡ record l.fn.self { lost = l.fn.self.lost ++ all_moved l.apartment (take l.place-index l.places) }
