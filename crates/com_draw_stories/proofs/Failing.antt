-- What the answer of com_base says of an HRESULT: whether it tells a failure.
use Rattle.std.proofs.Common.{◌≡◌, ℕ, ◌^◌, ◌≤◌, Bool, true, false, sym, ◌∙◌, arith}
use Rattle.std.proofs.lemmas.Bool.{false_from_ne_true}
use Rattle.std.proofs.lemmas.Grind.{common_steps}
use Rattle.std.specs.Prelude.{IsTrue, nat_le}
use Rattle.com_base.specs.declared.hresult.HResult.{HResult}
use Rattle.com_model.specs.Answers.{is_failure}

low : (k n : ℕ) → k ≤ n → nat_le k n ≡ true
low k n p = grind (arith, p)

high : (k n : ℕ) → nat_le k n ≡ true → k ≤ n
high k n e = grind (arith, common_steps, e)

both : false ≡ true → ⊥
both e = cc

pub told_failure : (hr : HResult) (b : Bool) → (IsTrue b → 2 ^ 31 ≤ hr.0) × (2 ^ 31 ≤ hr.0 → IsTrue b) → b ≡ true → is_failure hr ≡ true
told_failure hr b told is = low (2 ^ 31) hr.0 (told.0 is)

pub told_success : (hr : HResult) (b : Bool) → (IsTrue b → 2 ^ 31 ≤ hr.0) × (2 ^ 31 ≤ hr.0 → IsTrue b) → b ≡ false → is_failure hr ≡ false
told_success hr b told is =
    false_from_ne_true (is_failure hr) (λ fails. both (sym is ∙ told.1 (high (2 ^ 31) hr.0 fails)))
