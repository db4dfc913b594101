-- Lists of which one spells the other.
use Rattle.std.specs.Prelude.{List, [], ◌∷◌, ◌++◌}

-- As many of one list as of another, each of which spells the one at its place, below what stands above that.
abbrev pub InOrder : {X Y : Type 0} → (List Y → X → Y → Type 0) → List Y → List X → List Y → Type 0
InOrder R above [] [] = Unit {0}
InOrder R above (x ∷ xs) (y ∷ ys) = R above x y × InOrder R (above ++ y ∷ []) xs ys
InOrder R above [] (y ∷ ys) = ⊥
InOrder R above (x ∷ xs) [] = ⊥
