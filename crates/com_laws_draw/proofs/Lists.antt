-- Lists whose elements all have something, and the last element of a list.
use Rattle.std.proofs.Common.{◌≡◌, ℕ, zero, suc, Bool, true, false, if◌then◌else◌, List, [], ◌∷◌, ◌++◌, ◌+◌, length, length-append, take}
use Rattle.std.proofs.Common.{refl, ap, ◌⊎◌, inl, inr}
use Rattle.std.specs.Prelude.{Option, None, Some, slice_get}
use Rattle.com_laws_draw.specs.Boxes.{Each}

pub each_weaker : {X : Type 0} (P Q : X → Type 0) → ((x : X) → P x → Q x) → (xs : List X) → Each P xs → Each Q xs
each_weaker P Q f [] h = tt
each_weaker P Q f (x ∷ xs) h = (f x h.0, each_weaker P Q f xs h.1)

pub each_both : {X : Type 0} (P Q R : X → Type 0) → ((x : X) → P x → Q x → R x) → (xs : List X) → Each P xs → Each Q xs → Each R xs
each_both P Q R f [] h g = tt
each_both P Q R f (x ∷ xs) h g = (f x h.0 g.0, each_both P Q R f xs h.1 g.1)

pub each_append : {X : Type 0} (P : X → Type 0) (xs ys : List X) → Each P xs → Each P ys → Each P (xs ++ ys)
each_append P [] ys h g = g
each_append P (x ∷ xs) ys h g = (h.0, each_append P xs ys h.1 g)

pub each_front : {X : Type 0} (P : X → Type 0) (xs ys : List X) → Each P (xs ++ ys) → Each P xs
each_front P [] ys h = tt
each_front P (x ∷ xs) ys h = (h.0, each_front P xs ys h.1)

pub each_behind : {X : Type 0} (P : X → Type 0) (xs ys : List X) → Each P (xs ++ ys) → Each P ys
each_behind P [] ys h = h
each_behind P (x ∷ xs) ys h = each_behind P xs ys h.1

pub each_take : {X : Type 0} (P : X → Type 0) (n : ℕ) (xs : List X) → Each P xs → Each P (take n xs)
each_take P zero xs h = tt
each_take P (suc n) [] h = tt
each_take P (suc n) (x ∷ xs) h = (h.0, each_take P n xs h.1)

pub each_if : {X : Type 0} (P : X → Type 0) (t : Bool) (xs ys : List X) → Each P xs → Each P ys → Each P (if t then xs else ys)
each_if P true xs ys h g = h
each_if P false xs ys h g = g

-- the element at a place, where there is one
abbrev pub OnSome : {X : Type 0} → (X → Type 0) → Option X → Type 0
OnSome P None = Unit {0}
OnSome P (Some x) = P x

pub each_at : {X : Type 0} (P : X → Type 0) (xs : List X) (i : ℕ) → Each P xs → OnSome P (slice_get xs i)
each_at P [] zero h = tt
each_at P [] (suc i) h = tt
each_at P (x ∷ xs) zero h = h.0
each_at P (x ∷ xs) (suc i) h = each_at P xs i h.1

-- a list is empty, or has a last element
abbrev pub Ended : {X : Type 0} → List X → Type 0
Ended {X} xs = (xs ≡ []) ⊎ ((front : List X) × (x : X) × (xs ≡ front ++ x ∷ []))

pub ended : {X : Type 0} (xs : List X) → Ended xs
ended [] = inl refl
ended (x ∷ xs) =
    elim (ended xs) as (λ v. Ended (x ∷ xs)) [
      | inl e ↦ inr ([], x, ap (λ r. x ∷ r) e)
      | inr w ↦ inr (x ∷ w.0, w.1, ap (λ r. x ∷ r) w.2)
    ]

pub last_length : {X : Type 0} (front : List X) (x : X) → length (front ++ x ∷ []) ≡ length front + 1
last_length front x = length-append front (x ∷ [])

pub last_of : {X : Type 0} (front : List X) (x : X) → slice_get (front ++ x ∷ []) (length front) ≡ Some x
last_of [] x = refl
last_of (y ∷ front) x = last_of front x

pub front_of : {X : Type 0} (front : List X) (x : X) → take (length front) (front ++ x ∷ []) ≡ front
front_of [] x = refl
front_of (y ∷ front) x = ap (λ r. y ∷ r) (front_of front x)
