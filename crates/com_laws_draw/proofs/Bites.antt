-- The laws fail of broken lists of rows and of boxes.
use Rattle.std.proofs.Common.{◌≡◌, ℕ, List, [], ◌∷◌, ◌<◌, ◌≤◌, ◌⊎◌, inl, inr, true, false, refl, ap, arith, length, get_or}
use Rattle.com_model.specs.declared.deeds.Entry.{Entry}
use Rattle.com_model.specs.declared.scenario.Scenario.{Scenario}
use Rattle.com_draw_words.specs.declared.boxes.Foot.TheVariants as foot
use Rattle.com_draw.specs.declared.beside.Beside.{Beside}
use Rattle.com_laws_draw.specs.Boxes.{AllNest, LieWell, above, around, below, box_at, elsewhere, inside, is_down}
use Rattle.com_laws_draw.specs.Lanes.{StandsIn}
use Rattle.com_laws_draw.specs.Rows.{HasEntries, IsCounted, Row}

pub row_is_lost : (s : Scenario) (d e : Entry) (r : Row) (t : List ℕ) → HasEntries s (e ∷ d ∷ []) (r ∷ []) t → ⊥
row_is_lost s d e r t p = let k : 1 ≡ 2 = ap (λ (ns : List ℕ). length ns) p.numbers in absurd (omega (arith, k))

pub row_is_twice : (s : Scenario) (d e : Entry) (r : Row) (t : List ℕ) → HasEntries s (e ∷ d ∷ []) (r ∷ r ∷ []) t → ⊥
row_is_twice s d e r t p =
    let one : r.number ≡ 1 = ap (λ (ns : List ℕ). get_or ns 0 0) p.numbers in
    let two : r.number ≡ 2 = ap (λ (ns : List ℕ). get_or ns 1 0) p.numbers in
    absurd (omega (arith, one, two))

pub entry_is_uncounted : (s : Scenario) (e : Entry) (x : Beside) (w t : List ℕ) → IsCounted s (e ∷ []) x [] w t → ⊥
entry_is_uncounted s e x w t p = let k : 0 ≡ 1 = p.all in absurd (omega (arith, k))

ends_across : (8 < 5) ⊎ ((is_down foot.Inner ≡ true) × (8 ≤ 5)) → ⊥
ends_across (inl h) = absurd (omega (arith, h))
ends_across (inr w) = let k : 8 ≤ 5 = w.1 in absurd (omega (arith, k))

two_cross : LieWell (box_at 1 0 5) (box_at 2 3 8) → ⊥
two_cross (elsewhere n) = n refl
two_cross (above h) = absurd (omega (arith, h))
two_cross (below h) = absurd (omega (arith, h))
two_cross (inside i) = let k : 2 < 1 = i.deeper in absurd (omega (arith, k))
two_cross (around i) = ends_across i.ends

two_of_a_level : LieWell (box_at 1 0 5) (box_at 1 2 3) → ⊥
two_of_a_level (elsewhere n) = n refl
two_of_a_level (above h) = absurd (omega (arith, h))
two_of_a_level (below h) = absurd (omega (arith, h))
two_of_a_level (inside i) = let k : 1 < 1 = i.deeper in absurd (omega (arith, k))
two_of_a_level (around i) = let k : 1 < 1 = i.deeper in absurd (omega (arith, k))

pub boxes_cross : AllNest (box_at 1 0 5 ∷ box_at 2 3 8 ∷ []) → ⊥
boxes_cross p = two_cross p.0.0

pub level_is_shared : AllNest (box_at 1 0 5 ∷ box_at 1 2 3 ∷ []) → ⊥
level_is_shared p = two_of_a_level p.0.0

pub lane_is_wrong : (h : List Entry) → StandsIn h 2 (box_at 1 0 5) → ⊥
lane_is_wrong h p = let k : 1 ≡ 2 = p.lane in absurd (omega (arith, k))

wrong : false ≡ true → ⊥
wrong e = cc

pub body_is_strange : StandsIn [] 1 (box_at 1 0 5) → ⊥
body_is_strange p = wrong p.run
