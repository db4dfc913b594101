-- The word that an outgoing call was last asked about, told of the whole history.
use Rattle.std.specs.Prelude.{ℕ, Bool, true, false, ◌==◌, ◌&&◌, List, [], ◌∷◌, Option, Some, None}
use Rattle.com_model.specs.declared.deeds.Deed.{Deed}
use Rattle.com_model.specs.declared.deeds.Deed.TheVariants as deed
use Rattle.com_model.specs.declared.deeds.Entry.{Entry}
use Rattle.com_model.specs.Waiting.{Word, not_asked, mail}

-- Whether the entry is a Pending of the lane for the call.
abbrev pub asks_for : (own : Bool) → Deed → ℕ → Bool
asks_for own (deed.Pending d w n) c = own && d == c
asks_for own _ c = false

-- The number of the word, where there was one; else what the call was asked about before.
abbrev pub number_or : ℕ → Option Word → ℕ
number_or k None = k
number_or k (Some w) = w.number

abbrev pub asked_then : (asks : Bool) → List Word → ℕ → ℕ
asked_then true ws k = number_or k (not_asked k ws)
asked_then false ws k = k

-- The number of the word that a lane's Pending for the call asked about last, and 0 where there was none yet.
abbrev pub last_asked : List Entry → (lane call : ℕ) → ℕ
last_asked [] l c = 0
last_asked (e ∷ h) l c = asked_then (asks_for (e.lane == l) e.deed c) (mail h l).words (last_asked h l c)
