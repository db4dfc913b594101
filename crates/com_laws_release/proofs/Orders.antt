-- The dying objects stand in the order in which each first was dying.
use Rattle.std.proofs.Common.{subst, sym, ap, ap₂, ◌∙◌, ◌⊎◌, inl, inr, eqb-true}
use Rattle.std.specs.Prelude.{◌≡◌, refl, ℕ, Bool, true, false, not, cond, ◌==◌, ◌&&◌, ◌||◌, List, [], ◌∷◌, ◌++◌, filter}
use Rattle.com_model.specs.declared.deeds.Deed.{Deed}
use Rattle.com_model.specs.declared.deeds.Deed.TheVariants as deed
use Rattle.com_model.specs.declared.deeds.Entry.{Entry}
use Rattle.com_model.specs.declared.scenario.Scenario.{Scenario}
use Rattle.com_model.specs.Lists.{is_member, is_number, one_to}
use Rattle.com_model.specs.Objects.{objects, finals, finaled}
use Rattle.com_model.specs.Dying.{is_dying, fallen}
use Rattle.com_model.specs.Rules.{legal}
use Rattle.com_model.specs.Safe.{EachEntry}
use Rattle.com_model.specs.Formed.{Formed}
use Rattle.com_laws_safety.proofs.Small.{not-both, differ, and-left, or-left, or-right, same-number}
use Rattle.com_laws_release.specs.Falling.{StaysDying, first_fallen}
use Rattle.com_laws_release.proofs.Stays.{dead-stays}
use Rattle.com_laws_release.proofs.Dyings.{Dies, dies, dying-dead, dead-dying}

-- ---- what is dying stays so until its Final

off-or : (p q : Bool) → p ≡ false → q ≡ false → (p || q) ≡ false
off-or true q e p = cc
off-or false q e p = p

still-dying : (s : Scenario) (h : List Entry) (l : ℕ) (d : Deed) (o : ℕ) → Formed s → legal s (record { lane = l; deed = d } ∷ h) → is_dying s h o ≡ true → is_number o (finals d) ≡ false → is_dying s (record { lane = l; deed = d } ∷ h) o ≡ true
still-dying s h l d o f q p n =
    let e : Entry = record { lane = l; deed = d } in
    let z : Dies s h o = dies s h o p in
    dead-dying s (e ∷ h) o (dead-stays s h e o f q (dying-dead s h o f q.0 p)) z.first (off-or (is_number o (finals d)) (finaled h o) n z.not_finaled)

final-of : (d : Deed) (o : ℕ) → is_number o (finals d) ≡ true → d ≡ deed.Final o
final-of (deed.Final x) o e = ap (λ (k : ℕ). deed.Final k) (sym (eqb-true o x e))
final-of _ o e = cc

stays-dying : (s : Scenario) (h : List Entry) (l : ℕ) (d : Deed) → Formed s → legal s (record { lane = l; deed = d } ∷ h) → StaysDying s h l d
stays-dying s h l d f q o p =
    elim (is_number o (finals d)) as (λ t. is_number o (finals d) ≡ t → (is_dying s (record { lane = l; deed = d } ∷ h) o ≡ true) ⊎ (d ≡ deed.Final o)) [
      | true ↦ λ e. inr (final-of d o e)
      | false ↦ λ e. inl (still-dying s h l d o f q p e)
    ] refl

pub legal-dying : (s : Scenario) (h : List Entry) → Formed s → legal s h → EachEntry (StaysDying s) h
legal-dying s [] f q = tt
legal-dying s (e ∷ h) f q = (legal-dying s h f q.0, stays-dying s h e.lane e.deed f q)

-- ---- what fell and is dying was dying ever since

cond-off : {X : Type 0} (b : Bool) (x y : X) → b ≡ false → cond b x y ≡ y
cond-off b x y e = ap (λ (t : Bool). cond t x y) e

-- After an entry what fell before is dying only if it was dying before.
was-dying : (s : Scenario) (h : List Entry) (e : Entry) (o : ℕ) → ((is_dying s h o ≡ true) ⊎ (finaled h o ≡ true)) → is_dying s (e ∷ h) o ≡ true → is_dying s h o ≡ true
was-dying s h e o (inl p) d = p
was-dying s h e o (inr p) d = absurd (not-both (is_number o (finals e.deed) || finaled h o) (or-right (is_number o (finals e.deed)) (finaled h o) p) (dies s (e ∷ h) o d).not_finaled)

abbrev Fell : Scenario → List Entry → ℕ → Type 0
Fell s h o = (is_dying s h o ≡ true) ⊎ (finaled h o ≡ true)

fell-later : (s : Scenario) (h : List Entry) (e : Entry) (o : ℕ) → Formed s → legal s (e ∷ h) → Fell s h o → Fell s (e ∷ h) o
fell-later s h e o f q (inr p) = inr (or-right (is_number o (finals e.deed)) (finaled h o) p)
fell-later s h e o f q (inl p) =
    elim (is_number o (finals e.deed)) as (λ t. is_number o (finals e.deed) ≡ t → Fell s (e ∷ h) o) [
      | true ↦ λ z. inr (ap (λ (b : Bool). b || finaled h o) z)
      | false ↦ λ z. inl (still-dying s h e.lane e.deed o f q p z)
    ] refl

data InEither (o : ℕ) (xs ys : List ℕ) : Type 0 where
  in_first : is_member o xs ≡ true → InEither o xs ys
  in_second : is_member o ys ≡ true → InEither o xs ys

member-append : (o : ℕ) (xs ys : List ℕ) → is_member o (xs ++ ys) ≡ true → InEither o xs ys
member-append o [] ys e = in_second e
member-append o (x ∷ xs) ys e =
    elim (o == x) as (λ t. (o == x) ≡ t → (t || is_member o (xs ++ ys)) ≡ true → InEither o (x ∷ xs) ys) [
      | true ↦ λ z p. in_first (ap (λ (b : Bool). b || is_member o xs) z)
      | false ↦ λ z p. elim (member-append o xs ys p) as (λ _. InEither o (x ∷ xs) ys) [
        | in_first m ↦ in_first (or-right (o == x) (is_member o xs) m)
        | in_second m ↦ in_second m
      ]
    ] refl e

member-filter : (test : ℕ → Bool) (o : ℕ) (xs : List ℕ) → is_member o (filter test xs) ≡ true → test o ≡ true
member-filter test o [] e = cc
member-filter test o (x ∷ xs) e =
    elim (test x) as (λ t. test x ≡ t → is_member o (cond t (x ∷ filter test xs) (filter test xs)) ≡ true → test o ≡ true) [
      | true ↦ λ z p. elim (o == x) as (λ b. (o == x) ≡ b → (b || is_member o (filter test xs)) ≡ true → test o ≡ true) [
        | true ↦ λ y u. subst (λ (k : ℕ). test k ≡ true) (sym (eqb-true o x y)) z
        | false ↦ λ y u. member-filter test o xs u
      ] refl p
      | false ↦ λ z p. member-filter test o xs p
    ] refl e

all-fell : (s : Scenario) (h : List Entry) (o : ℕ) → Formed s → legal s h → is_member o (first_fallen s h) ≡ true → Fell s h o
all-fell s [] o f q m = cc
all-fell s (e ∷ h) o f q m =
    elim (member-append o (first_fallen s h) (filter (λ k. is_dying s (e ∷ h) k && not (is_member k (first_fallen s h))) (one_to (objects (e ∷ h)))) m) as (λ _. Fell s (e ∷ h) o) [
      | in_first p ↦ fell-later s h e o f q (all-fell s h o f q.0 p)
      | in_second p ↦ inl (and-left (is_dying s (e ∷ h) o) _ (member-filter (λ k. is_dying s (e ∷ h) k && not (is_member k (first_fallen s h))) o (one_to (objects (e ∷ h))) p))
    ]

-- ---- lists

filter-append : (test : ℕ → Bool) (xs ys : List ℕ) → filter test (xs ++ ys) ≡ filter test xs ++ filter test ys
filter-append test [] ys = refl
filter-append test (x ∷ xs) ys =
    elim (test x) as (λ t. cond t (x ∷ filter test (xs ++ ys)) (filter test (xs ++ ys)) ≡ cond t (x ∷ filter test xs) (filter test xs) ++ filter test ys) [
      | true ↦ ap (λ (zs : List ℕ). x ∷ zs) (filter-append test xs ys)
      | false ↦ filter-append test xs ys
    ]

-- Two filters, of which the second lets through no more than the first among these.
filter-twice : (p r : ℕ → Bool) (xs : List ℕ) → ((o : ℕ) → is_member o xs ≡ true → r o ≡ true → p o ≡ true) → filter r (filter p xs) ≡ filter r xs
filter-twice p r [] g = refl
filter-twice p r (x ∷ xs) g =
    let ih : filter r (filter p xs) ≡ filter r xs = filter-twice p r xs (λ o m. g o (or-right (o == x) (is_member o xs) m)) in
    elim (p x) as (λ t. p x ≡ t → filter r (cond t (x ∷ filter p xs) (filter p xs)) ≡ cond (r x) (x ∷ filter r xs) (filter r xs)) [
      | true ↦ λ z. ap (λ (ys : List ℕ). cond (r x) (x ∷ ys) ys) ih
      | false ↦ λ z. ih ∙ sym (cond-off (r x) (x ∷ filter r xs) (filter r xs) (differ (r x) (λ y. not-both (p x) (g x (or-left (x == x) (is_member x xs) (same-number x)) y) z)))
    ] refl

-- A filter that lets through all that another did.
filter-all : (p r : ℕ → Bool) (xs : List ℕ) → ((o : ℕ) → p o ≡ true → r o ≡ true) → filter r (filter p xs) ≡ filter p xs
filter-all p r [] g = refl
filter-all p r (x ∷ xs) g =
    let ih : filter r (filter p xs) ≡ filter p xs = filter-all p r xs g in
    elim (p x) as (λ t. p x ≡ t → filter r (cond t (x ∷ filter p xs) (filter p xs)) ≡ cond t (x ∷ filter p xs) (filter p xs)) [
      | true ↦ λ z. ap₂ (λ (b : Bool) (ys : List ℕ). cond b (x ∷ ys) ys) (g x z) ih
      | false ↦ λ z. ih
    ] refl

filter-same : (p r : ℕ → Bool) (xs : List ℕ) → ((o : ℕ) → p o ≡ r o) → filter p xs ≡ filter r xs
filter-same p r [] g = refl
filter-same p r (x ∷ xs) g = ap₂ (λ (b : Bool) (ys : List ℕ). cond b (x ∷ ys) ys) (g x) (filter-same p r xs g)

member-of : (test : ℕ → Bool) (o : ℕ) (xs : List ℕ) → test o ≡ true → is_member o xs ≡ true → is_member o (filter test xs) ≡ true
member-of test o [] e m = cc
member-of test o (x ∷ xs) e m =
    elim (o == x) as (λ b. (o == x) ≡ b → (b || is_member o xs) ≡ true → is_member o (cond (test x) (x ∷ filter test xs) (filter test xs)) ≡ true) [
      | true ↦ λ z p. subst (λ (t : Bool). is_member o (cond t (x ∷ filter test xs) (filter test xs)) ≡ true) (sym (subst (λ (k : ℕ). test k ≡ true) (eqb-true o x z) e)) (ap (λ (b : Bool). b || is_member o (filter test xs)) z)
      | false ↦ λ z p. elim (test x) as (λ t. is_member o (cond t (x ∷ filter test xs) (filter test xs)) ≡ true) [
        | true ↦ or-right (o == x) (is_member o (filter test xs)) (member-of test o xs e p)
        | false ↦ member-of test o xs e p
      ]
    ] refl m

member-was : (test : ℕ → Bool) (o : ℕ) (xs : List ℕ) → is_member o (filter test xs) ≡ true → is_member o xs ≡ true
member-was test o [] e = cc
member-was test o (x ∷ xs) e =
    elim (test x) as (λ t. is_member o (cond t (x ∷ filter test xs) (filter test xs)) ≡ true → (o == x || is_member o xs) ≡ true) [
      | true ↦ λ p. elim (o == x) as (λ b. (b || is_member o (filter test xs)) ≡ true → (b || is_member o xs) ≡ true) [ true ↦ λ u. refl | false ↦ λ u. member-was test o xs u ] p
      | false ↦ λ p. or-right (o == x) (is_member o xs) (member-was test o xs p)
    ] e

-- ---- the order

same-new : (d m n : Bool) → (n ≡ true → m ≡ true) → (m ≡ true → d ≡ true → n ≡ true) → (d && not n) ≡ (d && not m)
same-new false m n f g = refl
same-new true true true f g = refl
same-new true false false f g = refl
same-new true true false f g = let z : false ≡ true = g refl refl in cc
same-new true false true f g = let z : false ≡ true = f refl in cc

fallen-step : (s : Scenario) (h : List Entry) (e : Entry) → Formed s → legal s (e ∷ h) → fallen s h ≡ filter (is_dying s h) (first_fallen s h) → fallen s (e ∷ h) ≡ filter (is_dying s (e ∷ h)) (first_fallen s (e ∷ h))
fallen-step s h e f q ih =
    let now : ℕ → Bool = is_dying s (e ∷ h) in
    let fell : List ℕ = first_fallen s h in
    let new : List ℕ = filter (λ o. now o && not (is_member o fell)) (one_to (objects (e ∷ h))) in
    let old : filter now (fallen s h) ≡ filter now fell =
    ap (filter now) ih ∙ filter-twice (is_dying s h) now fell (λ o m p. was-dying s h e o (all-fell s h o f q.0 m) p) in
    let young : filter (λ o. now o && not (is_member o (fallen s h))) (one_to (objects (e ∷ h))) ≡ new =
    filter-same (λ o. now o && not (is_member o (fallen s h))) (λ o. now o && not (is_member o fell)) (one_to (objects (e ∷ h)))
    (λ o. same-new (now o) (is_member o fell) (is_member o (fallen s h))
    (λ m. member-was (is_dying s h) o fell (subst (λ (xs : List ℕ). is_member o xs ≡ true) ih m))
    (λ m p. subst (λ (xs : List ℕ). is_member o xs ≡ true) (sym ih) (member-of (is_dying s h) o fell (was-dying s h e o (all-fell s h o f q.0 m) p) m))) in
    ap₂ (λ (xs ys : List ℕ). xs ++ ys) old (young ∙ sym (filter-all (λ o. now o && not (is_member o fell)) now (one_to (objects (e ∷ h))) (λ o p. and-left (now o) _ p)))
    ∙ sym (filter-append now fell new)

pub legal-fallen : (s : Scenario) (h : List Entry) → Formed s → legal s h → fallen s h ≡ filter (is_dying s h) (first_fallen s h)
legal-fallen s [] f q = refl
legal-fallen s (e ∷ h) f q = fallen-step s h e f q (legal-fallen s h f q.0)
