-- The end of an STA takes the links of its objects.
use Rattle.std.proofs.Common.{subst, ap, eqb-true, arith}
use Rattle.std.specs.Prelude.{◌≡◌, refl, ℕ, zero, suc, ◌+◌, Bool, true, false, cond, ◌==◌, List, [], ◌∷◌, ◌++◌, Option, Some, None, replicate}
use Rattle.com_refs_books.specs.Counting.{sum_below}
use Rattle.com_model.specs.declared.scenario.Scenario.{Scenario}
use Rattle.com_model.specs.Lists.{one_to}
use Rattle.com_model.specs.Frames.{Scene, cut_links}
use Rattle.com_model.specs.Places.{Ground, Test, in_slots}
use Rattle.com_laws_places.specs.Moves.{Move, all_moved, links_moved, ended_moves, counted}
use Rattle.com_laws_places.proofs.Frames.{slots_in}
use Rattle.com_laws_places.proofs.Counted.{counted-both, counted-slots}
use Rattle.com_laws_places.proofs.Writes.{Moved, third-part}

-- The links of an object in an apartment, before and after the end of an STA.
abbrev links_before : Ground → Scene → ℕ → Test → ℕ → ℕ
links_before g w a t k = cond (g.named k == a) (in_slots t (w.cells k).links) 0

abbrev links_after : Ground → Scene → ℕ → ℕ → Test → ℕ → ℕ
links_after g w x a t k = cond (g.named k == a) (in_slots t (cond (g.named k == x) (record (w.cells k) { links = replicate 4 None }) (w.cells k)).links) 0

abbrev links_of : Ground → Scene → ℕ → ℕ → List Move
links_of g w x k = cond (g.named k == x) (all_moved (Some x) (w.cells k).links) []

either-way : (q : Bool) (n : ℕ) → n ≡ 0 → cond q n 0 ≡ 0
either-way true n p = p
either-way false n p = refl

one-cut : (g : Ground) (w : Scene) (x a : ℕ) (t : Test) (k : ℕ) → links_after g w x a t k + counted (links_of g w x k) a t ≡ links_before g w a t k
one-cut g w x a t k = by-test (g.named k == x) refl
  where
    by-test : (q : Bool) → (g.named k == x) ≡ q → cond (g.named k == a) (in_slots t (cond q (record (w.cells k) { links = replicate 4 None }) (w.cells k)).links) 0 + counted (cond q (all_moved (Some x) (w.cells k).links) []) a t ≡ cond (g.named k == a) (in_slots t (w.cells k).links) 0
    by-test true e =
        let none : cond (g.named k == a) (in_slots t (replicate 4 None)) 0 ≡ 0 = either-way (g.named k == a) (in_slots t (replicate 4 None)) refl in
        let many : counted (all_moved (Some x) (w.cells k).links) a t ≡ slots_in x a t (w.cells k).links = counted-slots x (w.cells k).links a t in
        let same : slots_in (g.named k) a t (w.cells k).links ≡ slots_in x a t (w.cells k).links = ap (λ (n : ℕ). slots_in n a t (w.cells k).links) (eqb-true (g.named k) x e) in
        omega (arith, none, many, same)
    by-test false e = omega arith

links-append : (g : Ground) (w : Scene) (x a : ℕ) (t : Test) (xs : List ℕ) (k : ℕ) → counted (links_moved g w x (xs ++ k ∷ [])) a t ≡ counted (links_moved g w x xs) a t + counted (links_of g w x k) a t
links-append g w x a t [] k =
    let both : counted (links_of g w x k ++ []) a t ≡ counted (links_of g w x k) a t + counted [] a t = counted-both (links_of g w x k) [] a t in
    omega (arith, both)
links-append g w x a t (y ∷ ys) k =
    let rest : counted (links_moved g w x (ys ++ k ∷ [])) a t ≡ counted (links_moved g w x ys) a t + counted (links_of g w x k) a t = links-append g w x a t ys k in
    omega (arith, rest, counted-both (links_of g w x y) (links_moved g w x (ys ++ k ∷ [])) a t, counted-both (links_of g w x y) (links_moved g w x ys) a t)

all-cut : (g : Ground) (w : Scene) (x a : ℕ) (t : Test) → ((g.named 0 == x) ≡ false) → (n : ℕ) → sum_below (suc n) (links_after g w x a t) + counted (links_moved g w x (one_to n)) a t ≡ sum_below (suc n) (links_before g w a t)
all-cut g w x a t p zero =
    let same : links_after g w x a t 0 ≡ links_before g w a t 0 = ap (λ (q : Bool). cond (g.named 0 == a) (in_slots t (cond q (record (w.cells 0) { links = replicate 4 None }) (w.cells 0)).links) 0) p in
    omega (arith, same)
all-cut g w x a t p (suc n) =
    let rest : sum_below (suc n) (links_after g w x a t) + counted (links_moved g w x (one_to n)) a t ≡ sum_below (suc n) (links_before g w a t) = all-cut g w x a t p n in
    let here : links_after g w x a t (suc n) + counted (links_of g w x (suc n)) a t ≡ links_before g w a t (suc n) = one-cut g w x a t (suc n) in
    omega (arith, rest, here, links-append g w x a t (one_to n) (suc n))

with-nothing : (x y l : ℕ) → x + l ≡ y → x + l ≡ y + 0
with-nothing x y l p = omega (arith, p)

cut-sums : (g : Ground) (w : Scene) (x a : ℕ) (t : Test) → ((g.named 0 == x) ≡ false) → sum_below (g.objects + 1) (links_after g w x a t) + counted (links_moved g w x (one_to g.objects)) a t ≡ sum_below (g.objects + 1) (links_before g w a t)
cut-sums g w x a t p =
    let next : suc g.objects ≡ g.objects + 1 = omega arith in
    subst (λ (n : ℕ). sum_below n (links_after g w x a t) + counted (links_moved g w x (one_to g.objects)) a t ≡ sum_below n (links_before g w a t)) next (all-cut g w x a t p g.objects)

abbrev pub NotFirst : Ground → Option ℕ → Type 0
NotFirst g None = Unit {0}
NotFirst g (Some x) = (g.named 0 == x) ≡ false

pub cut-move : (s : Scenario) (g : Ground) (x : Option ℕ) (w : Scene) → NotFirst g x → Moved s g w (cut_links g.named x w) (ended_moves g w x)
cut-move s g None w p = λ a t. refl
cut-move s g (Some x) w p = λ a t. third-part _ _ _ _ _ _ _ (with-nothing _ _ _ (cut-sums g w x a t p))
