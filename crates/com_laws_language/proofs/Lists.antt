-- Lists that grow, and readings one after another.
use Rattle.std.proofs.Common.{◌≡◌, ℕ, ◌+◌, ◌≤◌, Bool, true, false, List, [], ◌∷◌, ◌++◌, length, flat_map, Result, Ok, Err, refl, sym, ap, ◌∙◌, subst, arith, append-nil, append_assoc, length-append, cond, bytes_eq}
use Rattle.std.proofs.lemmas.Slice.Eq.{bytes_eq-Decides}
use Rattle.com_read_operands.specs.declared.faults.Fault.{Fault}
use Rattle.com_read_operands.specs.Reading.{◌>>=◌}
use Rattle.com_laws_language.specs.Orders.{InOrder}

-- ---- lists

pub flat_append : {X Y : Type 0} (f : X → List Y) (xs ys : List X) → flat_map f (xs ++ ys) ≡ flat_map f xs ++ flat_map f ys
flat_append f [] ys = refl
flat_append f (x ∷ xs) ys = ap (λ (v : List _). f x ++ v) (flat_append f xs ys) ∙ sym (append_assoc (f x) (flat_map f xs) (flat_map f ys))

pub flat_push : {X Y : Type 0} (f : X → List Y) (xs : List X) (x : X) → flat_map f (xs ++ x ∷ []) ≡ flat_map f xs ++ f x
flat_push f xs x = flat_append f xs (x ∷ []) ∙ ap (λ (v : List _). flat_map f xs ++ v) (append-nil (f x))

pub few_push : {X Y : Type 0} (f : X → List Y) (xs : List X) (x : X) (n : ℕ) → length (flat_map f xs) + length (f x) ≤ n → length (flat_map f (xs ++ x ∷ [])) ≤ n
few_push f xs x n h = omega (arith, h, ap length (flat_push f xs x), length-append (flat_map f xs) (f x))

pub few_before : {X Y : Type 0} (f : X → List Y) (xs : List X) (x : X) (ys : List X) (n : ℕ) → length (flat_map f (xs ++ x ∷ ys)) ≤ n → length (flat_map f xs) + length (f x) ≤ n
few_before f xs x ys n h = omega (arith, h, ap length (flat_append f xs (x ∷ ys)), length-append (flat_map f xs) (f x ++ flat_map f ys), length-append (f x) (flat_map f ys))

-- one more at the end of both
pub order_push : {X Y : Type 0} (R : List Y → X → Y → Type 0) (above : List Y) (xs : List X) (ys : List Y) (x : X) (y : Y) → InOrder R above xs ys → R (above ++ ys) x y → InOrder R above (xs ++ x ∷ []) (ys ++ y ∷ [])
order_push R above [] [] x y h r = (subst (λ (a : List _). R a x y) (append-nil above) r, tt)
order_push R above (a ∷ xs) (b ∷ ys) x y h r = (h.0, order_push R (above ++ b ∷ []) xs ys x y h.1 (subst (λ (c : List _). R c x y) (sym (append_assoc above (b ∷ []) ys)) r))
order_push R above [] (b ∷ ys) x y h r = absurd h
order_push R above (a ∷ xs) [] x y h r = absurd h

-- ---- readings

pub ok_same : {A : Type 0} (x y : A) → ◌≡◌ {A = Result A Fault} (Ok x) (Ok y) → x ≡ y
ok_same x y e = cc

pub bound : {A B : Type 0} (r : Result A Fault) (f : A → Result B Fault) (y : B) → (r >>= f) ≡ Ok y → (x : A) × (r ≡ Ok x) × (f x ≡ Ok y)
bound (Ok x) f y e = (x, refl, e)
bound (Err g) f y e = absurd cc

pub binds : {A B : Type 0} (r : Result A Fault) (f : A → Result B Fault) (x : A) (s : Result B Fault) → r ≡ Ok x → f x ≡ s → (r >>= f) ≡ s
binds r f x s e h = ap (λ (t : Result _ Fault). t >>= f) e ∙ h

-- a test that has to fail, and one that chooses
pub unless : {A : Type 0} (b : Bool) (g : Fault) (s : Result A Fault) (y : A) → cond b (Err g) s ≡ Ok y → (b ≡ false) × (s ≡ Ok y)
unless true g s y e = absurd cc
unless false g s y e = (refl, e)

pub never : {A : Type 0} (P : Type 0) (g : Fault) (y : A) → ◌≡◌ {A = Result A Fault} (Err g) (Ok y) → P
never P g y e = absurd cc

-- the same bytes
pub same_bytes : (xs ys : List ℕ) → bytes_eq xs ys ≡ true → xs ≡ ys
same_bytes xs ys e = (bytes_eq-Decides xs ys).0 e

pub bytes_same : (xs ys : List ℕ) → xs ≡ ys → bytes_eq xs ys ≡ true
bytes_same xs ys e = (bytes_eq-Decides xs ys).1 e
