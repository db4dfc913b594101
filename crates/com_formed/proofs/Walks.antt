-- Walks over a table by number.
use Rattle.std.proofs.Common.{◌≡◌, ℕ, zero, suc, ◌+◌, ◌-◌, ◌<◌, ◌≤◌, List, [], ◌∷◌, drop, Some, None, refl, sym, ap, ◌∙◌, subst, arith, length, slice_get, get_or, Bool, true, false, true≢false, ◌==◌, if◌then◌else◌, All}
use Rattle.std.specs.Bool.{Decides}
use Rattle.std.proofs.lemmas.Bool.Decides.{nat_tests}
use Rattle.std.proofs.lemmas.List.Elements.{All-cons, All-nil}
use Rattle.com_classes.specs.Tables.{Tables}
use Rattle.com_classes.specs.Lookups.{class_at}
use Rattle.com_model.specs.Formed.{EachFrom, Distinct}

-- the elements from one that is there on
pub next_of : {X : Type 0} (xs : List X) (n : ℕ) (x : X) → Some x ≡ slice_get xs n → drop n xs ≡ x ∷ drop (n + 1) xs
next_of [] n x h = absurd cc
next_of (y ∷ ys) zero x h = let e : x ≡ y = cc in ap (λ z. z ∷ ys) (sym e)
next_of (y ∷ ys) (suc n) x h =
    let e : suc n + 1 ≡ suc (n + 1) = omega arith in
    next_of ys n x h ∙ ap (λ k. x ∷ drop k (y ∷ ys)) (sym e)

pub there : {X : Type 0} (xs : List X) (n : ℕ) (x : X) → Some x ≡ slice_get xs n → n < length xs
there [] n x h = absurd cc
there (y ∷ ys) zero x h = omega arith
there (y ∷ ys) (suc n) x h = let lt = there ys n x h in omega arith

pub past : {X : Type 0} (xs : List X) (n : ℕ) → None ≡ slice_get xs n → length xs ≤ n
past [] n h = omega arith
past (y ∷ ys) zero h = absurd cc
past (y ∷ ys) (suc n) h = let le = past ys n h in omega arith

-- no elements are left where none is there
pub none_left : {X : Type 0} (xs : List X) (n : ℕ) → None ≡ slice_get xs n → drop n xs ≡ []
none_left [] zero h = refl
none_left [] (suc n) h = refl
none_left (y ∷ ys) zero h = absurd cc
none_left (y ∷ ys) (suc n) h = none_left ys n h

-- ---- what a test of one, and a test of those behind it, decide of all from a number on

pub each_then : {X : Type 0} (P : ℕ → X → Type 0) (xs : List X) (n m : ℕ) (x : X) (one rest : Bool) → Some x ≡ slice_get xs n → one ≡ true
    → Decides one (P m x) → Decides rest (EachFrom P (m + 1) (drop (n + 1) xs)) → Decides rest (EachFrom P m (drop n xs))
each_then P xs n m x one rest h holds d e =
    let next = next_of xs n x h in
    (λ t. subst (λ v. EachFrom P m v) (sym next) (d.0 holds, e.0 t), λ f. e.1 (subst (λ v. EachFrom P m v) next f).1)

pub each_else : {X : Type 0} (P : ℕ → X → Type 0) (xs : List X) (n m : ℕ) (x : X) (one : Bool) → Some x ≡ slice_get xs n → one ≡ false
    → Decides one (P m x) → Decides one (EachFrom P m (drop n xs))
each_else P xs n m x one h fails d =
    (λ t. absurd (true≢false (sym t ∙ fails)), λ f. d.1 (subst (λ v. EachFrom P m v) (next_of xs n x h) f).0)

pub each_past : {X : Type 0} (P : ℕ → X → Type 0) (xs : List X) (n m : ℕ) → None ≡ slice_get xs n → EachFrom P m (drop n xs)
each_past P xs n m h = subst (λ v. EachFrom P m v) (sym (none_left xs n h)) tt

pub distinct_then : {X : Type 0} (same : X → X → Bool) (xs : List X) (n : ℕ) (x : X) (one rest : Bool) → Some x ≡ slice_get xs n → one ≡ true
    → Decides one (All (λ y. same x y ≡ false) (drop (n + 1) xs)) → Decides rest (Distinct same (drop (n + 1) xs))
    → Decides rest (Distinct same (drop n xs))
distinct_then same xs n x one rest h holds d e =
    let next = next_of xs n x h in
    (λ t. subst (λ v. Distinct same v) (sym next) (d.0 holds, e.0 t), λ f. e.1 (subst (λ v. Distinct same v) next f).1)

pub distinct_else : {X : Type 0} (same : X → X → Bool) (xs : List X) (n : ℕ) (x : X) (one : Bool) → Some x ≡ slice_get xs n → one ≡ false
    → Decides one (All (λ y. same x y ≡ false) (drop (n + 1) xs)) → Decides one (Distinct same (drop n xs))
distinct_else same xs n x one h fails d =
    (λ t. absurd (true≢false (sym t ∙ fails)), λ f. d.1 (subst (λ v. Distinct same v) (next_of xs n x h) f).0)

pub distinct_past : {X : Type 0} (same : X → X → Bool) (xs : List X) (n : ℕ) → None ≡ slice_get xs n → Decides true (Distinct same (drop n xs))
distinct_past same xs n h = (λ t. subst (λ v. Distinct same v) (sym (none_left xs n h)) tt, λ f. refl)

all_head : {X : Type 0} (P : X → Type 0) (x : X) (xs : List X) → All P (x ∷ xs) → P x
all_head P x xs f = f 0 x (omega arith)

all_tail : {X : Type 0} (P : X → Type 0) (x : X) (xs : List X) → All P (x ∷ xs) → All P xs
all_tail P x xs f = λ k d lt. f (suc k) d (omega arith)

pub all_then : {X : Type 0} (P : X → Type 0) (xs : List X) (n : ℕ) (x : X) (one rest : Bool) → Some x ≡ slice_get xs n → one ≡ true
    → Decides one (P x) → Decides rest (All P (drop (n + 1) xs)) → Decides rest (All P (drop n xs))
all_then P xs n x one rest h holds d e =
    let next = next_of xs n x h in (
      λ t. subst (λ v. All P v) (sym next) (All-cons P x (drop (n + 1) xs) (d.0 holds) (e.0 t)),
      λ f. e.1 (all_tail P x (drop (n + 1) xs) (subst (λ v. All P v) next f)),
    )

pub all_else : {X : Type 0} (P : X → Type 0) (xs : List X) (n : ℕ) (x : X) (one : Bool) → Some x ≡ slice_get xs n → one ≡ false
    → Decides one (P x) → Decides one (All P (drop n xs))
all_else P xs n x one h fails d = (
  λ t. absurd (true≢false (sym t ∙ fails)),
  λ f. d.1 (all_head P x (drop (n + 1) xs) (subst (λ v. All P v) (next_of xs n x h) f)),
)

pub all_past : {X : Type 0} (P : X → Type 0) (xs : List X) (n : ℕ) → None ≡ slice_get xs n → All P (drop n xs)
all_past P xs n h = subst (λ v. All P v) (sym (none_left xs n h)) (All-nil P)

-- items of a bounded type
pub each_below : (xs : List ℕ) (m : ℕ) → ((i : ℕ) → get_or xs i 0 < m) → All (λ x. x < m) xs
each_below [] m h = All-nil (λ x. x < m)
each_below (x ∷ xs) m h = All-cons (λ x. x < m) x xs (h 0) (each_below xs m (λ i. h (suc i)))

-- ---- classes count from 1

pub class_place : (t : Tables) (n : ℕ) → class_at t (n + 1) ≡ slice_get t.classes n
class_place t n =
    let f : (n + 1 == 0) ≡ false = grind (arith, nat_tests) in
    let e : n + 1 - 1 ≡ n = omega arith in
    ap (λ (b : Bool). if b then None else slice_get t.classes (n + 1 - 1)) f ∙ ap (slice_get t.classes) e
