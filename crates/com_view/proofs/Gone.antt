-- A result whose packet was given up.
use Rattle.std.proofs.Common.{◌≡◌, ℕ, true, false, Option, Some, None, refl}
use Rattle.com_model.specs.Endings.{is_leave}
use Rattle.com_model.specs.Rules.{result_gone}
use Rattle.com_model.specs.Sight.{Sight}
use Rattle.com_view.specs.Given.{gone_in}

pub result_left : (v : Sight) (c : ℕ) (p : Option ℕ) → is_leave (v.ending c) ≡ true → result_gone v c p ≡ gone_in v.books p
result_left v c None e = refl
result_left v c (Some p) e = rw e refl

pub result_not_left : (v : Sight) (c : ℕ) (p : Option ℕ) → is_leave (v.ending c) ≡ false → result_gone v c p ≡ false
result_not_left v c None e = refl
result_not_left v c (Some p) e = rw e refl
