-- The line of an entry names its lane.
use Rattle.std.proofs.Common.{◌≡◌, ℕ, suc, ◌+◌, ◌-◌, ◌*◌, ◌/◌, ◌%◌, ◌^◌, ◌<◌, ◌≤◌, refl, sym, ◌∙◌, ap, append_assoc, length-append, arith, List, [], ◌∷◌, ◌++◌, length, take, drop, get_or, Bool, true, false, not, cond, Option, Some, None}
use Rattle.std.proofs.Math.Seq.{drop-append_seam}
use Rattle.std.proofs.lemmas.Fmt.{decimal_by_steps}
use Rattle.std.proofs.lemmas.Grind.{common_steps}
use Rattle.std.proofs.lemmas.List.Recursion.{is_position_or_len}
use Rattle.std.proofs.lemmas.Nat.{div-add-mod'}
use Rattle.std.specs.Char.{is_ascii_digit}
use Rattle.std.specs.List.{position, position_or_len}
use Rattle.std.specs.Prelude.{codes, decimal, if◌then◌else◌, nat_lt, ◌==◌}
use Rattle.std.specs.Str.{bytes_eq}
use Rattle.com_model.specs.declared.deeds.Deed.{Deed}
use Rattle.com_model.specs.declared.deeds.Deed.TheVariants as deed
use Rattle.com_model.specs.declared.deeds.Entry.{Entry}
use Rattle.com_model.specs.Lists.{without_first}
use Rattle.com_model.specs.Text.{deed_line}
use Rattle.com_check.specs.Fronts.{front_length, lane_of, named, number_of, some_digits, value_behind, value_of}
use Rattle.com_check.specs.Judging.{entry_line}

-- ---- digits

abbrev Digits : List ℕ → Type 0
Digits [] = Unit {0}
Digits (d ∷ ds) = (is_ascii_digit d ≡ true) × Digits ds

digits_both : (xs ys : List ℕ) → Digits xs → Digits ys → Digits (xs ++ ys)
digits_both [] ys p q = q
digits_both (x ∷ xs) ys p q = (p.0, digits_both xs ys p.1 q)

a_digit : (d : ℕ) → d < 10 → is_ascii_digit (48 + d) ≡ true
a_digit d h = grind (arith, common_steps, h)

value_more : (n : ℕ) (ds : List ℕ) (d : ℕ) → value_behind n (ds ++ d ∷ []) ≡ value_behind n ds * 10 + (d - 48)
value_more n [] d = refl
value_more n (x ∷ ds) d = value_more (n * 10 + (x - 48)) ds d

-- Digits that spell a number, one at least.
record Spells (n : ℕ) (ds : List ℕ) : Type 0 where
  digits : Digits ds
  some : 1 ≤ length ds
  value : value_of ds ≡ n

spells_one : (n : ℕ) → n < 10 → Spells n ((48 + n) ∷ [])
spells_one n h = record { digits = (a_digit n h, tt); some = omega arith; value = omega arith }

below_ten : (n : ℕ) → n % 10 < 10
below_ten n = omega arith

whole_again : (n q r v : ℕ) → q * 10 + r ≡ n → v ≡ q → v * 10 + (48 + r - 48) ≡ n
whole_again n q r v h e = omega (arith, h, e)

spells_more : (n : ℕ) (ds : List ℕ) → 10 ≤ n → Spells (n / 10) ds → Spells n (ds ++ (48 + n % 10) ∷ [])
spells_more n ds h p = record {
  digits = digits_both ds ((48 + n % 10) ∷ []) p.digits (a_digit (n % 10) (below_ten n), tt);
  some = let k : 1 ≤ length ds = p.some in omega (arith, k, length-append ds ((48 + n % 10) ∷ []));
  value = value_more 0 ds (48 + n % 10) ∙ whole_again n (n / 10) (n % 10) (value_of ds) (div-add-mod' n 10) p.value;
}

spells : (n : ℕ) → n < 2 ^ 64 → Spells n (decimal n)
spells = decimal_by_steps Spells spells_one spells_more

-- ---- the front of a line

abbrev other : ℕ → Bool
other b = not (is_ascii_digit b)

abbrev first_other : List ℕ → ℕ
first_other [] = 0
first_other (x ∷ xs) = cond (other x) 0 (1 + first_other xs)

one_more : (a b : ℕ) → a ≡ b → 1 + a ≡ suc b
one_more a b e = omega (arith, e)

past_digits : (ds r : List ℕ) (c : ℕ) → Digits ds → is_ascii_digit c ≡ false → first_other (ds ++ c ∷ r) ≡ length ds
past_digits [] r c p e = ap (λ (b : Bool). cond (not b) 0 (1 + first_other r)) e
past_digits (d ∷ ds) r c p e =
    ap (λ (b : Bool). cond (not b) 0 (1 + first_other (ds ++ c ∷ r))) p.0 ∙ one_more (first_other (ds ++ c ∷ r)) (length ds) (past_digits ds r c p.1 e)

is_place : (text : List ℕ) → first_other text ≡ position_or_len other text
is_place text = is_position_or_len first_other other refl (λ x xs. refl) text

within : (ds r : List ℕ) (c : ℕ) → nat_lt (length ds) (length (ds ++ c ∷ r)) ≡ true
within ds r c = grind (arith, common_steps, length-append ds (c ∷ r))

front_at : (ds r : List ℕ) (c : ℕ) → Digits ds → is_ascii_digit c ≡ false → position other (ds ++ c ∷ r) ≡ Some (length ds)
front_at ds r c p e =
    let place : position_or_len other (ds ++ c ∷ r) ≡ length ds = sym (is_place (ds ++ c ∷ r)) ∙ past_digits ds r c p e in
    ap (λ (n : ℕ). cond (nat_lt n (length (ds ++ c ∷ r))) (Some n) None) place
    ∙ ap (λ (b : Bool). cond b (Some (length ds)) None) (within ds r c)

not_zero : (n : ℕ) → 1 ≤ n → (n == 0) ≡ false
not_zero n h = grind (arith, common_steps, h)

front_is : (ds r : List ℕ) (c : ℕ) → Digits ds → 1 ≤ length ds → is_ascii_digit c ≡ false → front_length (ds ++ c ∷ r) ≡ Some (length ds)
front_is ds r c p some e =
    ap some_digits (front_at ds r c p e) ∙ ap (λ (b : Bool). if b then None else Some (length ds)) (not_zero (length ds) some)

at_end : (ds r : List ℕ) (c : ℕ) → get_or (ds ++ c ∷ r) (length ds) 0 ≡ c
at_end [] r c = refl
at_end (d ∷ ds) r c = at_end ds r c

front_taken : (front back : List ℕ) → take (length front) (front ++ back) ≡ front
front_taken [] back = refl
front_taken (b ∷ bs) back = ap (λ (t : List ℕ). b ∷ t) (front_taken bs back)

number_is : (es r : List ℕ) → Digits es → 1 ≤ length es → number_of (es ++ 32 ∷ r) (front_length (es ++ 32 ∷ r)) ≡ Some (value_of es)
number_is es r p some =
    ap (number_of (es ++ 32 ∷ r)) (front_is es r 32 p some refl)
    ∙ ap (λ (c : ℕ). if c == 32 then Some (value_of (take (length es) (es ++ 32 ∷ r))) else None) (at_end es r 32)
    ∙ ap (λ (t : List ℕ). Some (value_of t)) (front_taken es (32 ∷ r))

abbrev lane_behind : List ℕ → Option ℕ
lane_behind x = if bytes_eq (take 2 x) (codes " L") then number_of (drop 2 x) (front_length (drop 2 x)) else None

named_by : (ds es r : List ℕ) → Digits ds → Digits es → 1 ≤ length ds → 1 ≤ length es
    → named (ds ++ 32 ∷ 76 ∷ (es ++ 32 ∷ r)) ≡ Some (value_of es)
named_by ds es r p q some more =
    ap (lane_of (ds ++ 32 ∷ 76 ∷ (es ++ 32 ∷ r))) (front_is ds (76 ∷ (es ++ 32 ∷ r)) 32 p some refl)
    ∙ ap lane_behind (drop-append_seam ds (32 ∷ 76 ∷ (es ++ 32 ∷ r)))
    ∙ number_is es r q more

-- ---- the line of an entry

fronted : (v : ℕ) (front : List ℕ) (d : Deed) → deed_line v front d ≡ front ++ deed_line v [] d
fronted v front deed.End = refl
fronted v front deed.EndPump = refl
fronted v front _ = simp append_assoc

spaced : (v : ℕ) (d : Deed) → deed_line v [] d ≡ 32 ∷ without_first (deed_line v [] d)
spaced v deed.End = refl
spaced v _ = refl

pub line_is : (v n : ℕ) (e : Entry) → entry_line v n e ≡ decimal n ++ 32 ∷ 76 ∷ (decimal e.lane ++ 32 ∷ without_first (deed_line v [] e.deed))
unfolding entry_line
line_is v n e =
    let front : List ℕ = decimal n ++ codes " L" ++ decimal e.lane in
    fronted v front e.deed ∙ ap (λ (y : List ℕ). front ++ y) (spaced v e.deed)
    ∙ regroup (decimal n) (codes " L") (decimal e.lane) (32 ∷ without_first (deed_line v [] e.deed))
  where
    regroup : (a b c r : List ℕ) → ((a ++ b) ++ c) ++ r ≡ a ++ (b ++ (c ++ r))
    regroup a b c r = simp append_assoc

pub line_names : (v n : ℕ) (e : Entry) → n < 2 ^ 64 → e.lane < 2 ^ 64 → named (entry_line v n e) ≡ Some e.lane
line_names v n e p q =
    let place : Spells n (decimal n) = spells n p in
    let lane : Spells e.lane (decimal e.lane) = spells e.lane q in
    ap named (line_is v n e)
    ∙ named_by (decimal n) (decimal e.lane) (without_first (deed_line v [] e.deed)) place.digits lane.digits place.some lane.some
    ∙ ap (λ (k : ℕ). Some k) lane.value
