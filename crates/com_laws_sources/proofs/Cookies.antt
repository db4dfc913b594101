-- Whether a number is a cookie, in the range of 64 bits.
use Rattle.std.proofs.Common.{sym, ◌∙◌, arith}
use Rattle.std.proofs.lemmas.Bool.Decides.{Decides-int_eq}
use Rattle.std.proofs.lemmas.Int.{wrapping_sub_is, int_wrap_fits, fits_signed_from_abs, ints}
use Rattle.std.specs.Prelude.{◌≡◌, ◌↔◌, ℕ, ◌<◌, ◌^◌, pos, ◌-ℤ◌, true, FitsSigned}
use Rattle.std.specs.Int.{w64, int_wrapping_sub}
use Rattle.com_laws_sources.specs.Sinks.{is_cookie}

difference : (n c : ℕ) → n < 2 ^ 63 → c < 2 ^ 63 → int_wrapping_sub w64 (pos n) (pos c) ≡ pos n -ℤ pos c
difference n c p q =
    let f : FitsSigned w64 (pos n) = fits_signed_from_abs w64 (pos n) p in
    let g : FitsSigned w64 (pos c) = fits_signed_from_abs w64 (pos c) q in
    let fits : FitsSigned w64 (pos n -ℤ pos c) = omega (arith, ints, p, q) in
    wrapping_sub_is w64 (pos n) (pos c) f g ∙ int_wrap_fits w64 (pos n -ℤ pos c) fits

none-left : (n c : ℕ) → pos n -ℤ pos c ≡ pos 0 → n ≡ c
none-left n c e = omega (arith, ints, e)

same-left : (n c : ℕ) → n ≡ c → pos n -ℤ pos c ≡ pos 0
same-left n c e = omega (arith, ints, e)

pub cookie-is : (n c : ℕ) → n < 2 ^ 63 → c < 2 ^ 63 → (is_cookie (pos n) c ≡ true) ↔ (n ≡ c)
cookie-is n c p q = (
  λ t. none-left n c (sym (difference n c p q) ∙ (Decides-int_eq (int_wrapping_sub w64 (pos n) (pos c)) (pos 0)).0 t),
  λ e. (Decides-int_eq (int_wrapping_sub w64 (pos n) (pos c)) (pos 0)).1 (difference n c p q ∙ same-left n c e),
)
