-- The scanner's slices of the text are the words of the definition.
use Rattle.std.proofs.Common.{◌≡◌, ℕ, ◌+◌, ◌-◌, ◌<◌, ◌≤◌, List, [], ◌∷◌, ◌++◌, length, get_or, take, drop, refl, ap, ◌∙◌, arith}
use Rattle.std.specs.Prelude.{slice_range, slice_index}
use Rattle.std.proofs.lemmas.List.{take_more, get_or-drop, length-drop}
use Rattle.com_text.specs.declared.scan.Class.{Class}
use Rattle.com_text.specs.declared.scan.Within.{Within}
use Rattle.com_text.specs.declared.scan.Within.TheVariants as within
use Rattle.com_text.specs.Scanning.{Scanning, turn, strayed, moved, after}

-- one byte more of a slice
pub range_more : (text : List ℕ) (from at : ℕ) → from ≤ at → at < length text → slice_range text from (at + 1) ≡ slice_range text from at ++ slice_index text at ∷ []
range_more text from at le lt =
    let e : (at + 1) - from ≡ (at - from) + 1 = omega arith in
    let h : at - from < length (drop from text) = omega (arith, length-drop from text) in
    let k : from + (at - from) ≡ at = omega arith in
    let g : get_or (drop from text) (at - from) 0 ≡ get_or text at 0 = get_or-drop from text (at - from) 0 ∙ ap (λ n. get_or text n 0) k in
    ap (λ n. take n (drop from text)) e ∙ take_more (drop from text) (at - from) 0 h ∙ ap (λ b. take (at - from) (drop from text) ++ b ∷ []) g

-- a byte that ends no word
pub keeps : (s : Scanning) (b : ℕ) (c : Class) → (turn s.stands c s.bytes ≡ within.Nothing → ⊥)
    → after s b c ≡ record { line = s.line; column = s.column + 1; at = s.at + 1; first = s.first; start = s.start; stands = turn s.stands c s.bytes; stray = strayed s.stray c s.column; bytes = s.bytes ++ b ∷ [] }
keeps s b c no_cut = more (turn s.stands c s.bytes) no_cut
  where
    more : (w : Within) → (w ≡ within.Nothing → ⊥) → moved s b c w ≡ record { line = s.line; column = s.column + 1; at = s.at + 1; first = s.first; start = s.start; stands = w; stray = strayed s.stray c s.column; bytes = s.bytes ++ b ∷ [] }
    more within.Nothing h = absurd (h refl)
    more within.Plain h = refl
    more within.Text h = refl
    more within.Bytes h = refl
    more within.Remark h = refl
