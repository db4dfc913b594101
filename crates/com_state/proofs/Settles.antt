-- A state that stands for a history is settled.
use Rattle.std.proofs.Common.{◌≡◌, refl, sym, ◌∙◌, ap, ap₂, subst, arith, ℕ, zero, suc, ◌+◌, ◌≤◌, Bool, true, false, not, cond, ◌==◌, ◌&&◌, ◌||◌, nat_le, List, [], ◌∷◌, ◌++◌, filter, eqb-true}
use Rattle.std.proofs.lemmas.Bool.Decides.{nat_tests}
use Rattle.com_model.specs.declared.deeds.Entry.{Entry}
use Rattle.com_model.specs.declared.scenario.Scenario.{Scenario}
use Rattle.com_model.specs.Lists.{is_member, one_to}
use Rattle.com_model.specs.Objects.{objects, finaled}
use Rattle.com_model.specs.Openers.{openers}
use Rattle.com_model.specs.Frames.{Scene, scene}
use Rattle.com_model.specs.Places.{Ground, ground, places, all_places}
use Rattle.com_refs_books.specs.Changes.{Books, held_outside}
use Rattle.com_model.specs.Books.{books, holders_in}
use Rattle.com_model.specs.Dying.{fallen, fallen_more, is_dying, is_dying_by, is_entered}
use Rattle.com_model.specs.State.{State, StandsFor, ground_in, scene_in, books_in, dies_in}
use Rattle.com_model.proofs.Sights.{same-ground, same-scene, same-books}
use Rattle.com_state.specs.Resting.{Rested, Settled}
use Rattle.com_state.proofs.AtRest.{rests}

abbrev RestsAt : Scenario → Ground → Scene → Books → Type 0
RestsAt s g w b = Rested (places s g w) (λ o. all_places s g w o + held_outside b o) b

filter-append : (f : ℕ → Bool) (xs ys : List ℕ) → filter f (xs ++ ys) ≡ filter f xs ++ filter f ys
filter-append f [] ys = refl
filter-append f (x ∷ xs) ys = elim (f x) as (λ b. cond b (x ∷ filter f (xs ++ ys)) (filter f (xs ++ ys)) ≡ cond b (x ∷ filter f xs) (filter f xs) ++ filter f ys) [
  | true ↦ ap (λ (zs : List ℕ). x ∷ zs) (filter-append f xs ys)
  | false ↦ filter-append f xs ys
]

filter-twice : (f g : ℕ → Bool) (xs : List ℕ) → ((x : ℕ) → g x ≡ true → f x ≡ true) → filter f (filter g xs) ≡ filter g xs
filter-twice f g [] p = refl
filter-twice f g (x ∷ xs) p = elim (g x) as (λ t. g x ≡ t → filter f (cond t (x ∷ filter g xs) (filter g xs)) ≡ cond t (x ∷ filter g xs) (filter g xs)) [
  | true ↦ λ e. rw (p x e) (ap (λ (ys : List ℕ). x ∷ ys) (filter-twice f g xs p))
  | false ↦ λ e. filter-twice f g xs p
] refl

and-first : (x y : Bool) → (x && y) ≡ true → x ≡ true
and-first true y e = refl
and-first false y e = e

fallen-all : (f : ℕ → Bool) (n : ℕ) (before : List ℕ) → filter f (fallen_more f n before) ≡ fallen_more f n before
fallen-all f n before =
    filter-append f (filter f before) (filter (λ o. f o && not (is_member o before)) (one_to n))
    ∙ ap₂ (λ (xs ys : List ℕ). xs ++ ys) (filter-twice f f before (λ x e. e)) (filter-twice f (λ o. f o && not (is_member o before)) (one_to n) (λ x e. and-first (f x) (not (is_member x before)) e))

fallen-dies : (s : Scenario) (h : List Entry) → filter (is_dying s h) (fallen s h) ≡ fallen s h
fallen-dies s [] = refl
fallen-dies s (e ∷ h) = fallen-all (is_dying s (e ∷ h)) (objects (e ∷ h)) (fallen s h)

member-append : (o : ℕ) (xs ys : List ℕ) → is_member o (xs ++ ys) ≡ (is_member o xs || is_member o ys)
member-append o [] ys = refl
member-append o (x ∷ xs) ys = elim (o == x) as (λ t. (t || is_member o (xs ++ ys)) ≡ ((t || is_member o xs) || is_member o ys)) [
  | true ↦ refl
  | false ↦ member-append o xs ys
]

member-filter : (f : ℕ → Bool) (o : ℕ) (xs : List ℕ) → f o ≡ true → is_member o (filter f xs) ≡ is_member o xs
member-filter f o [] e = refl
member-filter f o (x ∷ xs) e = elim (f x) as (λ t. f x ≡ t → is_member o (cond t (x ∷ filter f xs) (filter f xs)) ≡ (o == x || is_member o xs)) [
  | true ↦ λ q. ap (λ (b : Bool). o == x || b) (member-filter f o xs e)
  | false ↦ λ q. member-filter f o xs e ∙ sym (ap (λ (b : Bool). b || is_member o xs) (unlike q))
] refl
  where
    unlike : f x ≡ false → (o == x) ≡ false
    unlike q = elim (o == x) as (λ t. o == x ≡ t → t ≡ false) [
      | true ↦ λ z. sym (sym (ap f (eqb-true o x z)) ∙ e) ∙ q
      | false ↦ λ z. refl
    ] refl

member-one-to : (n o : ℕ) → 1 ≤ o → o ≤ n → is_member o (one_to n) ≡ true
member-one-to zero o low high = absurd (omega (arith, low, high))
member-one-to (suc n) o low high = member-append o (one_to n) (suc n ∷ []) ∙ elim (o == suc n) as (λ t. o == suc n ≡ t → (is_member o (one_to n) || (t || false)) ≡ true) [
  | true ↦ λ e. or-true (is_member o (one_to n))
  | false ↦ λ e. ap (λ (b : Bool). b || false) (member-one-to n o low (grind (arith, nat_tests, e)))
] refl
  where
    or-true : (b : Bool) → (b || true) ≡ true
    or-true true = refl
    or-true false = refl

old-or-new : (m : Bool) (f one : Bool) → f ≡ true → one ≡ true → m ≡ false → (one && (f && not m)) ≡ true
old-or-new m f one p q r = rw (p, q, r) refl

is-fallen : (f : ℕ → Bool) (n : ℕ) (before : List ℕ) (o : ℕ) → f o ≡ true → 1 ≤ o → o ≤ n → is_member o (fallen_more f n before) ≡ true
is-fallen f n before o e low high =
    member-append o (filter f before) (filter (λ x. f x && not (is_member x before)) (one_to n))
    ∙ elim (is_member o before) as (λ t. is_member o before ≡ t → (is_member o (filter f before) || is_member o (filter (λ x. f x && not (is_member x before)) (one_to n))) ≡ true) [
      | true ↦ λ q. ap (λ (b : Bool). b || is_member o (filter (λ x. f x && not (is_member x before)) (one_to n))) (member-filter f o before e ∙ q)
      | false ↦ λ q.
          ap₂ (λ (a b : Bool). a || b) (member-filter f o before e ∙ q)
          (member-filter (λ x. f x && not (is_member x before)) o (one_to n) (old-or-new (is_member o before) (f o) true e refl q) ∙ member-one-to n o low high)
    ] refl

dying-range : (n : ℕ) (f : ℕ → Bool) (h : ℕ → ℕ) (g : ℕ → Bool) (o : ℕ) → is_dying_by n f h g o ≡ true → (1 ≤ o) × (o ≤ n)
dying-range n f h g o e = let a : (nat_le 1 o && nat_le o n) ≡ true = and-first (nat_le 1 o && nat_le o n) (not (f o) && (h o == 0 && not (g o))) e in (grind (arith, nat_tests, a), grind (arith, nat_tests, a))

dies-fallen : (s : Scenario) (h : List Entry) (o : ℕ) → is_dying s h o ≡ true → is_member o (fallen s h) ≡ true
dies-fallen s [] o e = let r : (1 ≤ o) × (o ≤ 0) = dying-range 0 (finaled []) (holders_in s (ground s []) (scene s []) (books s [])) (is_entered s (openers [])) o e in absurd (let a : 1 ≤ o = r.0 in let b : o ≤ 0 = r.1 in omega (arith, a, b))
dies-fallen s (e ∷ h) o p =
    let r : (1 ≤ o) × (o ≤ objects (e ∷ h)) = dying-range (objects (e ∷ h)) (finaled (e ∷ h)) (holders_in s (ground s (e ∷ h)) (scene s (e ∷ h)) (books s (e ∷ h))) (is_entered s (openers (e ∷ h))) o p in
    is-fallen (is_dying s (e ∷ h)) (objects (e ∷ h)) (fallen s h) o p r.0 r.1

same-dies : (s : Scenario) (st : State) (h : List Entry) → StandsFor s st h → dies_in s st ≡ is_dying s h
same-dies s st h p =
    let g : ground_in s st ≡ ground s h = same-ground s st h p.lanes p.apartments p.objects p.calls in
    let w : scene_in st ≡ scene s h = same-scene (scene_in st) (scene s h) p.scene in
    let b : books_in st ≡ books s h = same-books (books_in st) (books s h) p.books in
    λ i o. is_dying_by (p.objects.number i) (λ x. p.objects.finaled x i) (holders_in s (g i) (w i) (b i)) (is_entered s (g i).openers) o

pub settled-stands : (s : Scenario) (st : State) (h : List Entry) → StandsFor s st h → Settled s st
settled-stands s st h p =
    let g : ground_in s st ≡ ground s h = same-ground s st h p.lanes p.apartments p.objects p.calls in
    let w : scene_in st ≡ scene s h = same-scene (scene_in st) (scene s h) p.scene in
    let b : books_in st ≡ books s h = same-books (books_in st) (books s h) p.books in
    let d : dies_in s st ≡ is_dying s h = same-dies s st h p in
    record {
      scene = p.rows.0;
      books = p.rows.1;
      rested = subst (λ (x : Ground). RestsAt s x (scene_in st) (books_in st)) (sym g) (subst (λ (x : Scene). RestsAt s (ground s h) x (books_in st)) (sym w) (subst (λ (x : Books). RestsAt s (ground s h) (scene s h) x) (sym b) (rests s h)));
      dying = ap₂ (λ (f : ℕ → Bool) (xs : List ℕ). filter f xs) d p.fallen ∙ fallen-dies s h ∙ sym p.fallen;
      fell = λ o e. ap (is_member o) p.fallen ∙ dies-fallen s h o (ap (λ (f : ℕ → Bool). f o) (sym d) ∙ e);
    }
