-- Open calls, the outermost first and the innermost first.
use Rattle.std.proofs.Common.{◌≡◌, ℕ, ◌+◌, ◌-◌, ◌<◌, ◌==◌, ◌||◌, Bool, if◌then◌else◌, List, [], ◌∷◌, length, map, reverse, get_or, refl, ap, sym, ◌∙◌, arith}
use Rattle.std.specs.List.{list_any}
use Rattle.std.proofs.lemmas.List.{length-reverse, get_or-reverse}
use Rattle.std.proofs.lemmas.List.Sorted.{IsPermutation-reverse, list_any-IsPermutation}
use Rattle.com_cause.specs.CallType.{call_type}
use Rattle.com_model.specs.Clock.{waited}
use Rattle.com_view.specs.Opened.{type_among}

any_map : (f : ℕ → ℕ) (k : ℕ) (cs : List ℕ) → list_any (λ c. c == k) (map f cs) ≡ list_any (λ d. f d == k) cs
any_map f k [] = refl
any_map f k (c ∷ cs) = ap (λ (b : Bool). (f c == k) || b) (any_map f k cs)

any_reversed : (p : ℕ → Bool) (cs : List ℕ) → list_any p cs ≡ list_any p (reverse cs)
any_reversed p cs = list_any-IsPermutation p cs (reverse cs) (IsPermutation-reverse cs)

type_cons : (f : ℕ → ℕ) (k : ℕ) (ys : List ℕ) → 0 < length ys → type_among f ys k ≡ (if list_any (λ d. f d == k) ys then 2 else 4)
type_cons f k [] p = absurd (omega arith)
type_cons f k (y ∷ ys) p = refl

pub type_reversed : (f : ℕ → ℕ) (k : ℕ) (cs : List ℕ) → type_among f (reverse cs) k ≡ call_type (map f cs) k
type_reversed f k [] = refl
type_reversed f k (c ∷ cs) =
    type_cons f k (reverse (c ∷ cs)) (omega (arith, length-reverse (c ∷ cs)))
    ∙ ap (λ (b : Bool). if b then 2 else 4) (sym (any_map f k (c ∷ cs) ∙ any_reversed (λ d. f d == k) (c ∷ cs)))

pub waited_none : (at : ℕ → ℕ) (now : ℕ) (cs : List ℕ) → length (reverse cs) ≡ 0 → waited at now cs ≡ 0
waited_none at now [] e = refl
waited_none at now (c ∷ cs) e = absurd (omega (arith, length-reverse (c ∷ cs)))

pub waited_last : (at : ℕ → ℕ) (now : ℕ) (cs : List ℕ) (k : ℕ) → k + 1 ≡ length (reverse cs) → waited at now cs ≡ now - at (get_or (reverse cs) k 0)
waited_last at now [] k e = absurd (omega arith)
waited_last at now (c ∷ cs) k e =
    let few : k < length (c ∷ cs) = omega (arith, length-reverse (c ∷ cs)) in
    let none : length (c ∷ cs) - 1 - k ≡ 0 = omega (arith, length-reverse (c ∷ cs)) in
    ap (λ (x : ℕ). now - at x) (sym (get_or-reverse (c ∷ cs) k 0 few ∙ ap (λ (j : ℕ). get_or (c ∷ cs) j 0) none))
