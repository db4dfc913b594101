-- Texts in pieces.
use Rattle.std.proofs.Common.{◌≡◌, ℕ, List, [], ◌∷◌, ◌++◌, length, take, drop, refl, ap, sym, ◌∙◌, append_assoc, append-nil, arith}
use Rattle.std.proofs.lemmas.List.{take-append-drop}
use Rattle.std.specs.Prelude.{slice_index, ◌/◌, ◌%◌, codes}
use Rattle.std.specs.List.{flat_map}
use Rattle.com_base.specs.declared.value.Value.{Value}
use Rattle.com_model.specs.Text.{value_text, later_value_text}
use Rattle.hex.specs.Hex.{encode_with, encode_lower, lower_digits}

encode_with_both : (t a b : List ℕ) → encode_with t (a ++ b) ≡ encode_with t a ++ encode_with t b
unfolding encode_with
encode_with_both t [] b = refl
encode_with_both t (x ∷ a) b =
    ap (λ rest. slice_index t (x / 16) ∷ slice_index t (x % 16) ∷ rest) (encode_with_both t a b)

-- the digits of a front behind a text, and then those of the rest
pub digits_in_two : (text longer bytes : List ℕ) (n : ℕ) → longer ≡ text ++ encode_lower (take n bytes)
    → longer ++ encode_lower (drop n bytes) ≡ text ++ encode_lower bytes
digits_in_two text longer bytes n h =
    ap (λ t. t ++ encode_lower (drop n bytes)) h
    ∙ append_assoc text (encode_lower (take n bytes)) (encode_lower (drop n bytes))
    ∙ ap (λ t. text ++ t) (sym (encode_with_both lower_digits (take n bytes) (drop n bytes)))
    ∙ ap (λ t. text ++ encode_lower t) (take-append-drop n bytes)

-- no bytes have no digits
pub digits_of_none : (text : List ℕ) → text ++ encode_lower [] ≡ text
unfolding encode_with
digits_of_none text = append-nil text

-- where nothing is left, the text is whole
pub digits_all : (longer rest whole : List ℕ) → length rest ≡ 0 → longer ++ encode_lower rest ≡ whole → longer ≡ whole
unfolding encode_with
digits_all longer [] whole none h = sym (append-nil longer) ∙ h
digits_all longer (x ∷ rest) whole none h = absurd (omega arith)

-- the pieces of a list's first value, and then those of its rest
pub values_in_two : (text longer : List ℕ) (v : Value) (rest : List Value) → longer ≡ (text ++ codes ",") ++ value_text v
    → longer ++ flat_map later_value_text rest ≡ text ++ flat_map later_value_text (v ∷ rest)
values_in_two text longer v rest h =
    ap (λ t. t ++ flat_map later_value_text rest) (h ∙ append_assoc text (codes ",") (value_text v))
    ∙ append_assoc text (later_value_text v) (flat_map later_value_text rest)
