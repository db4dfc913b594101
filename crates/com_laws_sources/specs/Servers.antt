-- The lane in which the bodies of an STA stand.
use Rattle.std.specs.Prelude.{◌≡◌, ℕ, true, List, [], ◌∷◌, ◌⊎◌}
use Rattle.com_model.specs.declared.deeds.Entry.{Entry}
use Rattle.com_model.specs.declared.keeps.Opener.{Opener}
use Rattle.com_model.specs.declared.keeps.Opener.TheVariants.{Enters}
use Rattle.com_model.specs.Openers.{openers}
use Rattle.com_model.specs.Apartments.{is_sta}

-- An opener stands among these.
abbrev pub Stands : Opener → List Opener → Type 0
Stands o [] = ⊥
Stands o (x ∷ xs) = (x ≡ o) ⊎ Stands o xs

-- All bodies that are open in an STA stand in one lane.
abbrev pub OneLane : List Entry → Type 0
OneLane h =
    (l m c o d x a : ℕ) → is_sta a ≡ true → Stands (Enters c o a) (openers h l)
    → Stands (Enters d x a) (openers h m) → l ≡ m
