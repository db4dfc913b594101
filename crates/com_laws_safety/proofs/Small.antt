-- Small facts of tests and options.
use Rattle.std.proofs.Common.{arith}
use Rattle.std.proofs.lemmas.Grind.{common_steps}
use Rattle.std.specs.Prelude.{◌≡◌, refl, ℕ, Bool, true, false, cond, not, ◌==◌, ◌||◌, ◌&&◌, Option, Some, None, is_none}

pub not-both : (b : Bool) → b ≡ true → b ≡ false → ⊥
not-both b p q = cc

pub differ : (b : Bool) → (b ≡ true → ⊥) → b ≡ false
differ true p = absurd (p refl)
differ false p = refl

pub not-true : (p : Bool) → not p ≡ true → p ≡ false
not-true true e = cc
not-true false e = refl

pub and-left : (p q : Bool) → (p && q) ≡ true → p ≡ true
and-left true q e = refl
and-left false q e = cc

pub and-right : (p q : Bool) → (p && q) ≡ true → q ≡ true
and-right true q e = e
and-right false q e = cc

pub and-both : (p q : Bool) → p ≡ true → q ≡ true → (p && q) ≡ true
and-both true q p e = e
and-both false q p e = cc

pub or-left : (p q : Bool) → p ≡ true → (p || q) ≡ true
or-left true q e = refl
or-left false q e = cc

pub or-right : (p q : Bool) → q ≡ true → (p || q) ≡ true
or-right true q e = refl
or-right false q e = e

pub or-second : (p q : Bool) → p ≡ false → (p || q) ≡ true → q ≡ true
or-second true q e p = cc
or-second false q e p = p

pub neither : (p q : Bool) → (p || q) ≡ false → (p ≡ false) × (q ≡ false)
neither true q e = cc
neither false q e = (refl, e)

pub not-either : (p q : Bool) → p ≡ false → q ≡ false → (p || q) ≡ false
not-either true q e f = cc
not-either false q e f = f

pub cond-when : {X : Type 0} (P : X → Type 0) (b : Bool) (x y : X) → (b ≡ true → P x) → (b ≡ false → P y) → P (cond b x y)
cond-when P true x y p q = p refl
cond-when P false x y p q = q refl

pub none-of : {X : Type 0} (o : Option X) → is_none o ≡ true → o ≡ None
none-of None e = refl
none-of (Some x) e = cc

pub same-number : (c : ℕ) → (c == c) ≡ true
same-number c = grind (arith, common_steps)

pub some-number : (x y : ℕ) → Some x ≡ Some y → x ≡ y
some-number x y e = cc
