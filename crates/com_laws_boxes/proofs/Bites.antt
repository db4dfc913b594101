-- The laws fail of wrong lists of boxes, and of a page that lacks one.
use Rattle.std.proofs.Common.{◌≡◌, ℕ, List, [], ◌∷◌, ◌++◌, ◌+◌, ◌-◌, ◌<◌, ◌≤◌, ◌⊎◌, inl, inr, Bool, true, false, refl, ap, ◌∙◌, arith, length, length-append, if◌then◌else◌}
use Rattle.std.specs.Prelude.{codes}
use Rattle.com_model.specs.declared.deeds.Deed.{Deed}
use Rattle.com_draw_words.specs.declared.boxes.DrawnBox.{DrawnBox}
use Rattle.com_draw_words.specs.declared.boxes.Foot.TheVariants as foot
use Rattle.com_draw_words.specs.Boxes.{box_class, box_element, box_inner, box_size, box_text, is_drawn, kind_text, foot_text, up_text}
use Rattle.com_draw_words.specs.Escapes.{word_and_number}
use Rattle.com_laws_draw.specs.Boxes.{AllNest, Each, LieWell, Placed, above, around, below, box_at, elsewhere, inside, is_down}
use Rattle.com_laws_boxes.specs.Boxes.{StandsWhereRun, ground_at, in_lane}
use Rattle.com_laws_boxes.specs.Pieces.{Piece, box, text_of}
use Rattle.com_laws_boxes.proofs.Texts.{text_append}

ends_across : (8 < 5) ⊎ ((is_down foot.Inner ≡ true) × (8 ≤ 5)) → ⊥
ends_across (inl h) = absurd (omega (arith, h))
ends_across (inr w) = let k : 8 ≤ 5 = w.1 in absurd (omega (arith, k))

two_cross : LieWell (box_at 1 0 5) (box_at 2 3 8) → ⊥
two_cross (elsewhere n) = n refl
two_cross (above h) = absurd (omega (arith, h))
two_cross (below h) = absurd (omega (arith, h))
two_cross (inside i) = let k : 2 < 1 = i.deeper in absurd (omega (arith, k))
two_cross (around i) = ends_across i.ends

ground_cut : LieWell (ground_at 0 5) (box_at 1 3 8) → ⊥
ground_cut (elsewhere n) = n refl
ground_cut (above h) = absurd (omega (arith, h))
ground_cut (below h) = absurd (omega (arith, h))
ground_cut (inside i) = let k : 1 < 0 = i.deeper in absurd (omega (arith, k))
ground_cut (around i) = ends_across i.ends

pub boxes_cross : AllNest (in_lane 1 (box_at 1 0 5 ∷ box_at 2 3 8 ∷ [])) → ⊥
boxes_cross p = two_cross p.0.0

pub ground_ends_inside : AllNest (in_lane 1 (ground_at 0 5 ∷ box_at 1 3 8 ∷ [])) → ⊥
ground_ends_inside p = ground_cut p.0.0

wrong : false ≡ true → ⊥
wrong e = cc

pub body_is_elsewhere : (d : Deed) → Each (StandsWhereRun (record { lane = 2; deed = d } ∷ [])) (box_at 1 0 5 ∷ []) → ⊥
body_is_elsewhere d p = wrong p.0

-- ---- a box that is lost

grows : (a b : List ℕ) → 0 < length a → 0 < length (a ++ b)
grows a b h = let k : length (a ++ b) ≡ length a + length b = length-append a b in omega (arith, h, k)

abbrev kinds : DrawnBox → List ℕ
kinds b = codes "<i class=\"" ++ kind_text b.kind

abbrev hues : DrawnBox → List ℕ
hues b = kinds b ++ word_and_number (codes " k") b.hue

abbrev lanes : DrawnBox → List ℕ
lanes b = hues b ++ word_and_number (codes " l") b.lane

abbrev size : DrawnBox → List ℕ
size b = box_size b.level (b.row - b.top + 1)

some_class : (b : DrawnBox) → 0 < length (box_class b)
some_class b =
    let ten : length (codes "<i class=\"") ≡ 10 = refl in
    grows (lanes b ++ up_text b.is_up) (foot_text b.foot)
    (grows (lanes b) (up_text b.is_up)
    (grows (hues b) (word_and_number (codes " l") b.lane)
    (grows (kinds b) (word_and_number (codes " k") b.hue)
    (grows (codes "<i class=\"") (kind_text b.kind) (omega (arith, ten))))))

some_bytes : (b : DrawnBox) → 0 < length (box_element b)
some_bytes b =
    grows ((box_class b ++ size b) ++ box_inner b.text) (codes "</i>")
    (grows (box_class b ++ size b) (box_inner b.text) (grows (box_class b) (size b) (some_class b)))

drawn_bytes : (b : DrawnBox) → is_drawn b ≡ true → 0 < length (box_text b)
drawn_bytes b e =
    let same : length (box_text b) ≡ length (box_element b) = ap (λ (t : Bool). length (if t then box_element b else [])) e in
    let some : 0 < length (box_element b) = some_bytes b in
    omega (arith, same, some)

long : (ps qs : List Piece) → length (text_of (ps ++ qs)) ≡ length (text_of ps) + length (text_of qs)
long ps qs = ap (λ (t : List ℕ). length t) (text_append ps qs) ∙ length-append (text_of ps) (text_of qs)

pub box_is_lost : (ps qs : List Piece) (x : Placed) → is_drawn x.box ≡ true → text_of (ps ++ qs) ≡ text_of (ps ++ box x ∷ qs) → ⊥
box_is_lost ps qs x e same =
    let without : length (text_of (ps ++ qs)) ≡ length (text_of ps) + length (text_of qs) = long ps qs in
    let with_it : length (text_of (ps ++ box x ∷ qs)) ≡ length (text_of ps) + length (box_text x.box ++ text_of qs) = long ps (box x ∷ qs) in
    let more : length (box_text x.box ++ text_of qs) ≡ length (box_text x.box) + length (text_of qs) =
    length-append (box_text x.box) (text_of qs) in
    let some : 0 < length (box_text x.box) = drawn_bytes x.box e in
    let as_long : length (text_of (ps ++ qs)) ≡ length (text_of (ps ++ box x ∷ qs)) = ap (λ (t : List ℕ). length t) same in
    absurd (omega (arith, without, with_it, more, some, as_long))
