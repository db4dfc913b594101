-- What holds of one reading after another.
use Rattle.std.proofs.Common.{◌≡◌, Bool, true, false, cond, Result, Ok, Err, refl, subst}
use Rattle.com_read_operands.specs.declared.faults.Fault.{Fault}
use Rattle.com_read_operands.specs.Reading.{◌>>=◌}
use Rattle.com_laws_scenario.specs.Holds.{Holds}

pub done : {A : Type 0} {P : A → Type 0} (x : A) → P x → Holds P (Ok x)
done {A} {P} x h = record { of = λ y e. let f : x ≡ y = cc in subst P f h }

pub fails : {A : Type 0} {P : A → Type 0} (e : Fault) → Holds {A = A} P (Err e)
fails {A} {P} e = record { of = λ y h. absurd (cc) }

pub anything : {A : Type 0} (r : Result A Fault) → Holds (λ x. Unit {0}) r
anything r = record { of = λ x e. tt }

pub bind : {A B : Type 0} {P : A → Type 0} {Q : B → Type 0} (r : Result A Fault) (f : A → Result B Fault) → Holds P r → ((x : A) → P x → Holds Q (f x)) → Holds Q (r >>= f)
bind (Ok x) f h k = k x (h.of x refl)
bind (Err e) f h k = fails e

pub weaker : {A : Type 0} {P Q : A → Type 0} (r : Result A Fault) → Holds P r → ((x : A) → P x → Q x) → Holds Q r
weaker r h k = record { of = λ x e. k x (h.of x e) }

pub either : {A : Type 0} {P : A → Type 0} (b : Bool) (r s : Result A Fault) → (b ≡ true → Holds P r) → (b ≡ false → Holds P s) → Holds P (cond b r s)
either true r s h k = h refl
either false r s h k = k refl
