-- Numbers in decimal digits are read again.
use Rattle.std.proofs.Common.{◌≡◌, ℕ, suc, ◌+◌, ◌-◌, ◌*◌, ◌/◌, ◌%◌, ◌^◌, ◌<◌, ◌≤◌, ◌==◌, List, [], ◌∷◌, ◌++◌, Option, Some, None, Bool, true, false, ◌&&◌, nat_lt, if◌then◌else◌, refl, sym, ap, ◌∙◌, arith, decimal, inl, inr, pos, negsuc, ℤ}
use Rattle.std.specs.List.{list_all}
use Rattle.std.specs.Fmt.{signed_decimal}
use Rattle.std.proofs.lemmas.Fmt.{decimal_digit, decimal_step, decimal_by_steps}
use Rattle.std.proofs.lemmas.Bool.{cases_lt}
use Rattle.std.proofs.lemmas.Bool.Decides.{nat_tests}
use Rattle.com_read_operands.specs.Numbers.{is_digit, digits_on, number_of, signed_of, negative, positive}
use Rattle.com_read_operands.specs.Operands.{small_of}
use Rattle.com_print.specs.Ranges.{IsWhole}

pub digit_byte : (d : ℕ) → d < 10 → is_digit (48 + d) ≡ true
digit_byte d lt = grind (arith, nat_tests)

no_more : (n : ℕ) → n < 2 ^ 64 → nat_lt 18446744073709551615 n ≡ false
no_more n lt = grind (arith, nat_tests)

-- what is known of the digits of a number
pub record AreDigits (n : ℕ) (ds : List ℕ) : Type 0 where
  pub first : ℕ
  pub rest : List ℕ
  pub is : ds ≡ first ∷ rest
  pub digit : is_digit first ≡ true
  pub value : digits_on 0 ds ≡ Some n
  pub all : list_all is_digit ds ≡ true

one_digit : (a d : ℕ) → d < 10 → 10 * a + d < 2 ^ 64 → digits_on a ((48 + d) ∷ []) ≡ Some (10 * a + d)
one_digit a d lt fits =
    let e : 48 + d - 48 ≡ d = omega arith in
    rw (digit_byte d lt, e, no_more (10 * a + d) fits) refl

-- one digit more behind others
digit_behind : (b : Bool) (a : ℕ) (more other : Option ℕ) (n : ℕ) → (if b then more else None) ≡ Some n → b ≡ true
digit_behind true a more other n h = refl
digit_behind false a more other n h = absurd cc

not_more : (b : Bool) (more : Option ℕ) (n : ℕ) → (if b then None else more) ≡ Some n → b ≡ false
not_more true more n h = absurd cc
not_more false more n h = refl

pub digits_behind : (a : ℕ) (ds : List ℕ) (n d : ℕ) → digits_on a ds ≡ Some n → d < 10 → 10 * n + d < 2 ^ 64
    → digits_on a (ds ++ (48 + d) ∷ []) ≡ Some (10 * n + d)
digits_behind a [] n d h lt fits =
    let e : a ≡ n = cc in
    rw e (one_digit n d lt fits)
digits_behind a (b ∷ bs) n d h lt fits =
    let t = digit_behind (is_digit b) a (if nat_lt 18446744073709551615 (10 * a + (b - 48)) then None else digits_on (10 * a + (b - 48)) bs) None n h in
    let h2 : (if nat_lt 18446744073709551615 (10 * a + (b - 48)) then None else digits_on (10 * a + (b - 48)) bs) ≡ Some n = rw t at h in
    let u = not_more (nat_lt 18446744073709551615 (10 * a + (b - 48))) (digits_on (10 * a + (b - 48)) bs) n h2 in
    let h3 : digits_on (10 * a + (b - 48)) bs ≡ Some n = rw u at h2 in
    rw (t, u) (digits_behind (10 * a + (b - 48)) bs n d h3 lt fits)

all_behind : (ds : List ℕ) (d : ℕ) → list_all is_digit ds ≡ true → d < 10 → list_all is_digit (ds ++ (48 + d) ∷ []) ≡ true
all_behind [] d h lt = rw (digit_byte d lt) refl
all_behind (b ∷ bs) d h lt = both (is_digit b) (list_all is_digit bs) _ h (λ g. all_behind bs d g lt)
  where
    both : (x y z : Bool) → (x && y) ≡ true → (y ≡ true → z ≡ true) → (x && z) ≡ true
    both true true z g f = f refl
    both true false z g f = absurd cc
    both false y z g f = absurd cc

abbrev AreDigitsBelow : ℕ → List ℕ → Type 0
AreDigitsBelow n ds = n < 2 ^ 64 → AreDigits n ds

one : (n : ℕ) → n < 10 → AreDigitsBelow n ((48 + n) ∷ [])
one n lt fits = record {
  first = 48 + n;
  rest = [];
  is = refl;
  digit = digit_byte n lt;
  value = one_digit 0 n lt (omega arith) ∙ ap Some (omega arith);
  all = rw (digit_byte n lt) refl;
}

more : (n : ℕ) (ds : List ℕ) → 10 ≤ n → AreDigitsBelow (n / 10) ds → AreDigitsBelow n (ds ++ (48 + n % 10) ∷ [])
more n ds ge below fits =
    let h = below (omega arith) in
    let e : 10 * (n / 10) + n % 10 ≡ n = omega arith in
    let lt : n % 10 < 10 = omega arith in
    let v = digits_behind 0 ds (n / 10) (n % 10) h.value lt (omega arith) in
    record {
      first = h.first;
      rest = h.rest ++ (48 + n % 10) ∷ [];
      is = ap (λ (l : List ℕ). l ++ (48 + n % 10) ∷ []) h.is;
      digit = h.digit;
      value = v ∙ ap Some e;
      all = all_behind ds (n % 10) h.all lt;
    }

-- the decimal digits of a number of 64 bits
pub decimal_digits : (n : ℕ) → n < 2 ^ 64 → AreDigits n (decimal n)
decimal_digits n lt = decimal_by_steps AreDigitsBelow one more n lt lt

abbrev begun : ℕ → List ℕ → Option ℕ
begun first rest = number_of (first ∷ rest)

pub number_again : (n : ℕ) → n < 2 ^ 64 → number_of (decimal n) ≡ Some n
unfolding number_of
number_again n lt =
    let h = decimal_digits n lt in
    ap number_of h.is ∙ ap (digits_on 0) (sym h.is) ∙ h.value

-- ---- small numbers

two_digits : (n : ℕ) → 10 ≤ n → n < 100 → decimal n ≡ (48 + n / 10) ∷ (48 + n % 10) ∷ []
two_digits n ge lt =
    decimal_step n ge (omega arith) ∙ ap (λ (l : List ℕ). l ++ (48 + n % 10) ∷ []) (decimal_digit (n / 10) (omega arith))

pub small_again : (n : ℕ) → n < 100 → small_of (decimal n) ≡ Some n
unfolding small_of
small_again n lt = elim (cases_lt n 10) [
  | inl less ↦
      let e : 48 + n - 48 ≡ n = omega arith in
      rw (decimal_digit n less, digit_byte n less, e) refl
  | inr more ↦
      let a = digit_byte (n / 10) (omega arith) in
      let b = digit_byte (n % 10) (omega arith) in
      let z : ((48 + n / 10) == 48) ≡ false = grind (arith, nat_tests) in
      let e : 10 * (48 + n / 10 - 48) + (48 + n % 10 - 48) ≡ n = omega arith in
      rw (two_digits n more lt, a, z, b, e) refl
]

-- ---- signed numbers

no_sign : (b : ℕ) → is_digit b ≡ true → (b == 45) ≡ false
no_sign b h = grind (arith, nat_tests)

positive_again : (n : ℕ) → n < 2 ^ 63 → positive n ≡ Some (pos n)
positive_again n lt = let t : nat_lt n 9223372036854775808 ≡ true = grind (arith, nat_tests) in rw t refl

negative_again : (n : ℕ) → n < 2 ^ 63 → negative (suc n) ≡ Some (negsuc n)
negative_again n lt =
    let z : (suc n == 0) ≡ false = grind (arith, nat_tests) in
    let t : nat_lt 9223372036854775808 (suc n) ≡ false = grind (arith, nat_tests) in
    let e : suc n - 1 ≡ n = omega arith in
    rw (z, t, e) refl

pub signed_again : (z : ℤ) → IsWhole z → signed_of (signed_decimal z) ≡ Some z
unfolding signed_of
signed_again (pos n) lt =
    let wide : n < 2 ^ 64 = omega arith in
    let h = decimal_digits n wide in
    let e : number_of (h.first ∷ h.rest) ≡ Some n = ap number_of (sym h.is) ∙ number_again n wide in
    rw (h.is, no_sign h.first h.digit, e) (positive_again n lt)
signed_again (negsuc n) lt =
    let wide : suc n < 2 ^ 64 = omega arith in
    rw (number_again (suc n) wide) (negative_again n lt)
