-- What the entries of one worked history take from places and bring to places: a thread's STA passes a
-- counter to a relay in the MTA, which keeps it in a link and calls it back.
use Rattle.std.specs.Prelude.{◌≡◌, ℕ, List, [], ◌∷◌}
use Rattle.com_model.specs.declared.deeds.Entry.{Entry}
use Rattle.com_model.specs.Cases.{callback, callback_2, callback_3, callback_5, callback_6, callback_7}
use Rattle.com_model.specs.Cases.{callback_11, callback_16, callback_18, callback_19, callback_20}
use Rattle.com_laws_places.specs.Moves.{Move, Moves, no_moves, entry_moves}

-- The moves of the newest entry.
abbrev last_moves : List Entry → Moves
last_moves [] = no_moves
last_moves (e ∷ h) = entry_moves callback h e

abbrev move : (apartment object iface : ℕ) → Move
move a o i = record { apartment = a; reference = record { object = o; iface = i } }

abbrev takes : List Move → Moves
takes ms = record { lost = ms; gained = [] }

abbrev brings : List Move → Moves
brings ms = record { lost = []; gained = ms }

-- The counter is made in the STA a3, and the relay in the MTA, a1, by a reference to it in a3. The counter
-- comes to a1 with the relay's first call, goes to its link too, and leaves its frame. The second call takes
-- it from the link to a slot, and leaves. The script's slots go with its home, and the relay's link with its
-- Final; the counter has no links.
pub record WorkedMoves : Type 0 where
  pub made_counter : last_moves callback_2 ≡ brings (move 3 1 1 ∷ [])
  pub made_relay : last_moves callback_3 ≡ brings (move 3 2 2 ∷ [])
  pub entered : last_moves callback_5 ≡ brings (move 1 1 1 ∷ [])
  pub kept : last_moves callback_6 ≡ brings (move 1 1 1 ∷ [])
  pub left : last_moves callback_7 ≡ takes (move 1 1 1 ∷ [])
  pub fetched : last_moves callback_11 ≡ brings (move 1 1 1 ∷ [])
  pub left_again : last_moves callback_16 ≡ takes (move 1 1 1 ∷ [])
  pub ended : last_moves callback_18 ≡ takes (move 3 1 1 ∷ move 3 2 2 ∷ [])
  pub relay_gone : last_moves callback_19 ≡ takes (move 1 1 1 ∷ [])
  pub counter_gone : last_moves callback_20 ≡ no_moves
