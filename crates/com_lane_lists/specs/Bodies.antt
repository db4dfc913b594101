-- What stands beside the openers of a lane.
use Rattle.std.specs.Prelude.{Bool, true, false, List, [], ◌∷◌}
use Rattle.com_model.specs.declared.keeps.Opener.{Opener}
use Rattle.com_model.specs.declared.keeps.Opener.TheVariants.{Pumps, Enters}
use Rattle.com_lane_lists.specs.declared.openers.Body.{Body}

-- The openers that are bodies.
abbrev pub bodies_of : List Opener → List Body
bodies_of [] = []
bodies_of (Enters c o a ∷ os) = record { call = c; object = o; apartment = a } ∷ bodies_of os
bodies_of (_ ∷ os) = bodies_of os

-- Whether a pump is all that is open in a lane, so that a body which has just left counts for its bound.
abbrev pub is_one_pump : List Opener → Bool
is_one_pump (Pumps bound ∷ []) = true
is_one_pump _ = false
