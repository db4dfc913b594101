-- Entries of other lanes.
use Rattle.std.specs.Prelude.{◌≡◌, ℕ, List, [], ◌∷◌}
use Rattle.com_model.specs.declared.deeds.Entry.{Entry}

-- None of these entries is of the lane.
abbrev pub AreOfOthers : (lane : ℕ) → List Entry → Type 0
AreOfOthers l [] = Unit {0}
AreOfOthers l (e ∷ more) = (¬ (e.lane ≡ l)) × AreOfOthers l more
