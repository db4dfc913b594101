-- Which way a step or a test went.
use Rattle.std.proofs.Common.{◌≡◌, Bool, true, false, cond, ◌⊎◌, inl, inr, Result, Ok, Err, refl}
use Rattle.com_wire.specs.Steps.{◌>>=◌}

abbrev pub done : {F A : Type 0} → A → Result A F
done x = Ok x

abbrev pub failed : {F A : Type 0} → F → Result A F
failed e = Err e

pub ok_is : {F A : Type 0} (x y : A) → done {F = F} x ≡ done y → x ≡ y
ok_is x y e = cc

pub err_is_not_ok : {F A : Type 0} (d : F) (y : A) → failed {A = A} d ≡ done y → ⊥
err_is_not_ok d y e = cc

-- the value of a step that did not fail
pub bind_ok : {F A B : Type 0} (r : Result A F) (f : A → Result B F) (y : B) → (r >>= f) ≡ Ok y → (x : A) × (r ≡ Ok x) × (f x ≡ Ok y)
bind_ok (Ok x) f y e = (x, refl, e)
bind_ok (Err d) f y e = absurd cc

-- a test that did not fail, which asked for a fault or for none
pub guard_ok : {F A : Type 0} (b : Bool) (d : F) (r : Result A F) (y : A) → cond b (Err d) r ≡ Ok y → (b ≡ false) × (r ≡ Ok y)
guard_ok true d r y e = absurd cc
guard_ok false d r y e = (refl, e)

pub guard_then : {F A : Type 0} (b : Bool) (r : Result A F) (d : F) (y : A) → cond b r (Err d) ≡ Ok y → (b ≡ true) × (r ≡ Ok y)
guard_then true r d y e = (refl, e)
guard_then false r d y e = absurd cc

-- a branch that was taken
pub chosen : {A : Type 0} (b : Bool) (x y z : A) → cond b x y ≡ z → ((b ≡ true) × (x ≡ z)) ⊎ ((b ≡ false) × (y ≡ z))
chosen true x y z e = inl (refl, e)
chosen false x y z e = inr (refl, e)
