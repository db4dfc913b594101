-- How many bodies of each object run after an entry.
use Rattle.std.proofs.Common.{arith, ap, sym, subst, ◌∙◌, inl, eqb-true, length-append, length-set}
use Rattle.std.proofs.lemmas.Bool.{false_from_ne_true, eqb-false}
use Rattle.std.proofs.lemmas.Grind.{common_steps}
use Rattle.std.proofs.lemmas.List.{get_or-set_same, get_or-set_other}
use Rattle.std.specs.Prelude.{◌≡◌, refl, ℕ, zero, suc, ◌+◌, ◌-◌, ◌<◌, ◌≤◌, Bool, true, false, cond, not, ◌==◌, ◌||◌, List, [], ◌∷◌, ◌++◌, length, Option, Some, None, is_some, option_map, slice_index_or, slice_set}
use Rattle.com_refs_books.specs.Counting.{count_if, sum_below}
use Rattle.com_refs_books.proofs.Sums.{sum-same, sum-changed}
use Rattle.com_model.specs.declared.deeds.Deed.{Deed}
use Rattle.com_model.specs.declared.deeds.Deed.TheVariants as deed
use Rattle.com_model.specs.declared.deeds.Entry.{Entry}
use Rattle.com_model.specs.declared.keeps.Opener.{Opener}
use Rattle.com_model.specs.declared.keeps.Opener.TheVariants.{Pumps, Waits, Enters}
use Rattle.com_model.specs.declared.scenario.Scenario.{Scenario}
use Rattle.com_model.specs.Dying.{is_entered}
use Rattle.com_model.specs.Formed.{Formed}
use Rattle.com_model.specs.Frames.{Actor, Body, Script, Nobody, actor, unless_final, acting}
use Rattle.com_model.specs.Lists.{any_of, one_to}
use Rattle.com_model.specs.Objects.{makes, objects}
use Rattle.com_model.specs.Openers.{Effect, Opens, Closes, Keeps, effect, effect_on, opened, openers, runs, fits, Leaves}
use Rattle.com_model.specs.Rules.{next, no_lane_can, tick_time}
use Rattle.com_model.specs.Sight.{sight}
use Rattle.com_model.specs.State.{State, StandsFor, openers_in, objects_in, next_of, after, grown, issue_in, class_in, scene_in}
use Rattle.com_model.specs.Tables.{lanes, lane_sort}
use Rattle.com_model.proofs.Lanes.{lane-within}
use Rattle.com_model.proofs.Sights.{same-next}
use Rattle.com_model.proofs.Stacks.{next-fits}
use Rattle.com_laws_balance.proofs.Bases.{open-made}
use Rattle.com_laws_balance.proofs.Counts.{Among}
use Rattle.com_laws_safety.proofs.Small.{same-number}
use Rattle.com_runtime.proofs.Runs.{stands-later}
use Rattle.com_state.specs.After.{acting_in}
use Rattle.com_ledger.specs.Bodies.{bodies_among, bodies_over, CountsBodies, left_object, without_body, entered_after}

-- ---- whether a body runs, by how many do

any-last : (test : ℕ → Bool) (xs : List ℕ) (y : ℕ) → any_of test (xs ++ y ∷ []) ≡ (any_of test xs || test y)
any-last test [] y = elim (test y) as (λ b. (b || false) ≡ b) [ true ↦ refl | false ↦ refl ]
any-last test (x ∷ xs) y = elim (test x) as (λ b. (b || any_of test (xs ++ y ∷ [])) ≡ ((b || any_of test xs) || test y)) [
  | true ↦ refl
  | false ↦ any-last test xs y
]

some-more : (a b : ℕ) → (not (a == 0) || not (b == 0)) ≡ not (a + b == 0)
some-more a b = grind (arith, common_steps)

runs-counted : (x : ℕ) (os : List Opener) → runs x os ≡ not (bodies_among x os == 0)
runs-counted x [] = refl
runs-counted x (Pumps n ∷ os) = runs-counted x os
runs-counted x (Waits c ∷ os) = runs-counted x os
runs-counted x (Enters c o a ∷ os) =
    let n : ℕ = bodies_among x os in
    let rest : runs x os ≡ not (n == 0) = runs-counted x os in
    elim (o == x) as (λ b. cond b true (runs x os) ≡ not (count_if b + n == 0)) [
      | true ↦ grind (arith, common_steps)
      | false ↦ grind (arith, common_steps, rest)
    ]

counted-below : (n x : ℕ) (os : ℕ → List Opener) → any_of (λ l. runs x (os l)) (one_to n) ≡ not (sum_below n (λ k. bodies_among x (os (suc k))) == 0)
counted-below zero x os = refl
counted-below (suc n) x os =
    let f : ℕ → ℕ = λ k. bodies_among x (os (suc k)) in
    any-last (λ l. runs x (os l)) (one_to n) (suc n)
    ∙ ap (λ (b : Bool). b || runs x (os (suc n))) (counted-below n x os)
    ∙ ap (λ (b : Bool). not (sum_below n f == 0) || b) (runs-counted x (os (suc n)))
    ∙ some-more (sum_below n f) (f n)

pub entered_counted : (s : Scenario) (os : ℕ → List Opener) (x : ℕ) → is_entered s os x ≡ not (bodies_over s os x == 0)
entered_counted s os x = counted-below (lanes s) x os

-- ---- one lane

sum-part : (n k : ℕ) (f : ℕ → ℕ) → k < n → f k ≤ sum_below n f
sum-part zero k f p = absurd (omega (arith, p))
sum-part (suc n) k f p =
    elim (k == n) as (λ b. (k == n) ≡ b → f k ≤ sum_below n f + f n) [
      | true ↦ λ e. let same : f k ≡ f n = ap f (eqb-true k n e) in omega (arith, same)
      | false ↦ λ e. let other : (k ≡ n → ⊥) = eqb-false k n e in
          let less : k < n = grind (arith, other, p) in
          let rest : f k ≤ sum_below n f = sum-part n k f less in omega (arith, rest)
    ] refl

lane-part : (s : Scenario) (os : ℕ → List Opener) (l x : ℕ) → 1 ≤ l → l ≤ lanes s → bodies_among x (os l) ≤ bodies_over s os x
lane-part s os zero x p q = absurd (omega (arith, p))
lane-part s os (suc k) x p q = sum-part (lanes s) k (λ j. bodies_among x (os (suc j))) (omega (arith, q))

over-changed : (s : Scenario) (os us : ℕ → List Opener) (l x : ℕ) → 1 ≤ l → l ≤ lanes s → ((j : ℕ) → (j ≡ l → ⊥) → us j ≡ os j)
    → bodies_over s us x + bodies_among x (os l) ≡ bodies_over s os x + bodies_among x (us l)
over-changed s os us zero x p q r = absurd (omega (arith, p))
over-changed s os us (suc k) x p q r =
    sum-changed (lanes s) k (λ j. bodies_among x (os (suc j))) (λ j. bodies_among x (us (suc j))) (omega (arith, q))
    (λ j n. ap (λ (ys : List Opener). bodies_among x ys) (sym (r (suc j) (λ e. n (omega (arith, e))))))

over-same : (s : Scenario) (os us : ℕ → List Opener) (x : ℕ) → ((k : ℕ) → us (suc k) ≡ os (suc k)) → bodies_over s us x ≡ bodies_over s os x
over-same s os us x r =
    sum-same (lanes s) (λ k. bodies_among x (us (suc k))) (λ k. bodies_among x (os (suc k))) (λ k p. ap (λ (ys : List Opener). bodies_among x ys) (r k))

-- ---- one row

row-more : (o x : ℕ) (xs : List ℕ) → o < length xs → slice_index_or (slice_set xs o (slice_index_or xs o 0 + 1)) x 0 ≡ slice_index_or xs x 0 + count_if (o == x)
row-more o x xs p =
    elim (o == x) as (λ b. (o == x) ≡ b → slice_index_or (slice_set xs o (slice_index_or xs o 0 + 1)) x 0 ≡ slice_index_or xs x 0 + count_if b) [
      | true ↦ λ e. subst (λ (y : ℕ). slice_index_or (slice_set xs o (slice_index_or xs o 0 + 1)) y 0 ≡ slice_index_or xs y 0 + 1) (eqb-true o x e) (get_or-set_same xs o (slice_index_or xs o 0 + 1) 0 p)
      | false ↦ λ e. let other : (x ≡ o → ⊥) = λ z. eqb-false o x e (sym z) in
          let same : slice_index_or (slice_set xs o (slice_index_or xs o 0 + 1)) x 0 ≡ slice_index_or xs x 0 = get_or-set_other xs o x (slice_index_or xs o 0 + 1) 0 other in
          omega (arith, same)
    ] refl

-- A row beyond the list reads 0.
row-there : (o : ℕ) (xs : List ℕ) → 1 ≤ slice_index_or xs o 0 → o < length xs
row-there o [] p = absurd (omega (arith, p))
row-there zero (x ∷ xs) p = omega arith
row-there (suc o) (x ∷ xs) p = let q : o < length xs = row-there o xs p in omega (arith, q)

row-less : (o x : ℕ) (xs : List ℕ) → 1 ≤ slice_index_or xs o 0 → slice_index_or (slice_set xs o (slice_index_or xs o 0 - 1)) x 0 + count_if (o == x) ≡ slice_index_or xs x 0
row-less o x xs p =
    elim (o == x) as (λ b. (o == x) ≡ b → slice_index_or (slice_set xs o (slice_index_or xs o 0 - 1)) x 0 + count_if b ≡ slice_index_or xs x 0) [
      | true ↦ λ e.
          let one : slice_index_or (slice_set xs o (slice_index_or xs o 0 - 1)) o 0 ≡ slice_index_or xs o 0 - 1 = get_or-set_same xs o (slice_index_or xs o 0 - 1) 0 (row-there o xs p) in
          subst (λ (y : ℕ). slice_index_or (slice_set xs o (slice_index_or xs o 0 - 1)) y 0 + 1 ≡ slice_index_or xs y 0) (eqb-true o x e) (omega (arith, one, p))
      | false ↦ λ e. let other : (x ≡ o → ⊥) = λ z. eqb-false o x e (sym z) in
          let same : slice_index_or (slice_set xs o (slice_index_or xs o 0 - 1)) x 0 ≡ slice_index_or xs x 0 = get_or-set_other xs o x (slice_index_or xs o 0 - 1) 0 other in
          omega (arith, same)
    ] refl

row-new : (x : ℕ) (xs : List ℕ) → slice_index_or (xs ++ 0 ∷ []) x 0 ≡ slice_index_or xs x 0
row-new zero [] = refl
row-new (suc x) [] = refl
row-new zero (y ∷ ys) = refl
row-new (suc x) (y ∷ ys) = row-new x ys

-- ---- one entry

-- What the counts after an entry rest on: who acts where a body is innermost, that a body which ends was counted, and that the
-- object of an Enter has a row.
record Rests (a : Actor) (d : Deed) (os : List Opener) (xs : List ℕ) : Type 0 where
  acts : (c k o b : ℕ) (rest : List Opener) → effect d ≡ Closes (Leaves c) → os ≡ Enters k o b ∷ rest → a ≡ Body k o
  counted : (x : ℕ) → bodies_among x os ≤ slice_index_or xs x 0
  there : (c o b : ℕ) → effect d ≡ Opens (Enters c o b) → o < length xs

one-of : (o : ℕ) → count_if (o == o) ≡ 1
one-of o = ap count_if (same-number o)

left-row : (o x n : ℕ) (xs : List ℕ) → 1 ≤ slice_index_or xs o 0 → slice_index_or (slice_set xs o (slice_index_or xs o 0 - 1)) x 0 + (count_if (o == x) + n) ≡ slice_index_or xs x 0 + n
left-row o x n xs p = let e : slice_index_or (slice_set xs o (slice_index_or xs o 0 - 1)) x 0 + count_if (o == x) ≡ slice_index_or xs x 0 = row-less o x xs p in omega (arith, e)

row-after : (d : Deed) (a : Actor) (os : List Opener) (xs : List ℕ) (x : ℕ) → fits (effect d) os → Rests a d os xs
    → slice_index_or (entered_after d a xs) x 0 + bodies_among x os ≡ slice_index_or xs x 0 + bodies_among x (opened (effect d) os)
row-after (deed.Made (Some o) (Some b) k i hr) a os xs x f r = ap (λ (n : ℕ). n + bodies_among x os) (row-new x xs)
row-after (deed.Enter c o b k vs) a os xs x f r =
    let e : slice_index_or (slice_set xs o (slice_index_or xs o 0 + 1)) x 0 ≡ slice_index_or xs x 0 + count_if (o == x) = row-more o x xs (r.there c o b refl) in
    omega (arith, e)
row-after (deed.Leave c hr v bytes) a [] xs x f r = absurd f
row-after (deed.Leave c hr v bytes) a (Pumps n ∷ os) xs x f r = absurd f
row-after (deed.Leave c hr v bytes) a (Waits n ∷ os) xs x f r = absurd f
row-after (deed.Leave c hr v bytes) a (Enters k o b ∷ os) xs x f r =
    let most : count_if (o == o) + bodies_among o os ≤ slice_index_or xs o 0 = r.counted o in
    let one : count_if (o == o) ≡ 1 = one-of o in
    subst (λ (y : Actor). slice_index_or (without_body (left_object (deed.Leave c hr v bytes) y) xs) x 0 + bodies_among x (Enters k o b ∷ os) ≡ slice_index_or xs x 0 + bodies_among x os)
    (sym (r.acts c k o b os refl refl)) (left-row o x (bodies_among x os) xs (omega (arith, most, one)))
row-after deed.EndPump a [] xs x f r = absurd f
row-after deed.EndPump a (Pumps n ∷ os) xs x f r = refl
row-after deed.EndPump a (Waits n ∷ os) xs x f r = absurd f
row-after deed.EndPump a (Enters k o b ∷ os) xs x f r = absurd f
row-after (deed.Back c hr v) a [] xs x f r = absurd f
row-after (deed.Back c hr v) a (Pumps n ∷ os) xs x f r = absurd f
row-after (deed.Back c hr v) a (Waits n ∷ os) xs x f r = refl
row-after (deed.Back c hr v) a (Enters k o b ∷ os) xs x f r = absurd f
row-after _ a os xs x f r = refl

rows-after : (d : Deed) (a : Actor) (xs : List ℕ) → length (entered_after d a xs) ≡ length xs + count_if (is_some (makes d))
rows-after (deed.Made (Some o) (Some b) k i hr) a xs = length-append xs (0 ∷ [])
rows-after (deed.Enter c o b k vs) a xs = let e : length (slice_set xs o (slice_index_or xs o 0 + 1)) ≡ length xs = length-set xs o (slice_index_or xs o 0 + 1) in omega (arith, e)
rows-after (deed.Leave c hr v bytes) (Body k o) xs = let e : length (slice_set xs o (slice_index_or xs o 0 - 1)) ≡ length xs = length-set xs o (slice_index_or xs o 0 - 1) in omega (arith, e)
rows-after (deed.Leave c hr v bytes) (Script l) xs = omega arith
rows-after (deed.Leave c hr v bytes) Nobody xs = omega arith
rows-after _ a xs = omega arith

grown-one : {X : Type 0} (b : Bool) (x : X) (xs : List X) → length (grown b x xs) ≡ length xs + count_if b
grown-one true x xs = length-append xs (x ∷ [])
grown-one false x xs = omega arith

-- ---- the clock's lane

pub record IsTick (d : Deed) : Type 0 where
  pub time : ℕ
  pub is : d ≡ deed.Tick time

ticks-only : (b : Bool) (x : Option ℕ) (d : Deed) → cond b (option_map (λ t. deed.Tick t) x) None ≡ Some d → IsTick d
ticks-only true (Some t) d e = record { time = t; is = cc }
ticks-only true None d e = cc
ticks-only false x d e = cc

pub clock_ticks : (s : Scenario) (h : List Entry) (d : Deed) → next s h 0 ≡ Some d → IsTick d
clock_ticks s h d e = ticks-only (no_lane_can s (sight s h)) (tick_time (sight s h)) d e

-- ---- the state after the entry

-- What an entry of a lane makes of the openers.
record Opening (s : Scenario) (st su : State) (l : ℕ) (d : Deed) : Type 0 where
  own : openers_in su l ≡ opened (effect d) (openers_in st l)
  other : (j : ℕ) → (j ≡ l → ⊥) → openers_in su j ≡ openers_in st j

own-effect : (l : ℕ) (d : Deed) (os : List Opener) → opened (effect_on l (record { lane = l; deed = d })) os ≡ opened (effect d) os
own-effect l d os = ap (λ (b : Bool). opened (cond b (effect d) Keeps) os) (same-number l)

other-effect : (l j : ℕ) (d : Deed) (os : List Opener) → (j ≡ l → ⊥) → opened (effect_on j (record { lane = l; deed = d })) os ≡ os
other-effect l j d os n = ap (λ (b : Bool). opened (cond b (effect d) Keeps) os) (false_from_ne_true (l == j) (λ e. n (sym (eqb-true l j e))))

opening : (s : Scenario) (st su : State) (h : List Entry) (l : ℕ) (d : Deed) → StandsFor s st h → StandsFor s su (record { lane = l; deed = d } ∷ h) → Opening s st su l d
opening s st su h l d p q = record {
  own = q.lanes.openers l ∙ own-effect l d (openers h l) ∙ ap (λ (os : List Opener). opened (effect d) os) (sym (p.lanes.openers l));
  other = λ j n. q.lanes.openers j ∙ other-effect l j d (openers h j) n ∙ sym (p.lanes.openers j);
}

-- A body that leaves is the one that acts.
leaves-act : (d : Deed) (c : ℕ) (a : Actor) → effect d ≡ Closes (Leaves c) → unless_final d a ≡ a
leaves-act (deed.Final o) c a e = cc
leaves-act _ c a e = refl

pub body_acts : (s : Scenario) (st : State) (l : ℕ) (d : Deed) (c k o b : ℕ) (rest : List Opener) → effect d ≡ Closes (Leaves c)
    → openers_in st l ≡ Enters k o b ∷ rest → acting_in s st (record { lane = l; deed = d }) ≡ Body k o
body_acts s st l d c k o b rest e p =
    ap (λ (os : List Opener). acting s (class_in st) (issue_in st) (scene_in st) (actor (lane_sort s l) l os) d) p ∙ leaves-act d c (Body k o) e

opens-among : (c o b : ℕ) (os us : List Opener) → us ≡ Enters c o b ∷ os → Among (Enters c o b) us
opens-among c o b os us e = subst (λ (ys : List Opener). Among (Enters c o b) ys) (sym e) (inl refl)

-- An Enter is of an object that was made.
enters-made : (s : Scenario) (st su : State) (h : List Entry) (l : ℕ) (d : Deed) (c o b : ℕ) → Formed s → StandsFor s st h
    → StandsFor s su (record { lane = l; deed = d } ∷ h) → effect d ≡ Opens (Enters c o b) → o ≤ objects_in su
enters-made s st su h l d c o b f p q e =
    let us : openers (record { lane = l; deed = d } ∷ h) l ≡ Enters c o b ∷ openers h l =
    own-effect l d (openers h l) ∙ ap (λ (x : Effect). opened x (openers h l)) e in
    let made : o ≤ objects (record { lane = l; deed = d } ∷ h) =
    open-made s (record { lane = l; deed = d } ∷ h) f q.lawful l c o b (opens-among c o b (openers h l) _ us) in
    let same : objects_in su ≡ objects (record { lane = l; deed = d } ∷ h) = q.objects.number in
    omega (arith, made, same)

enter-makes : (d : Deed) (c o b : ℕ) → effect d ≡ Opens (Enters c o b) → count_if (is_some (makes d)) ≡ 0
enter-makes (deed.Made p q k i hr) c o b e = cc
enter-makes _ c o b e = refl

pub top_made : (s : Scenario) (st : State) (h : List Entry) (l : ℕ) → Formed s → StandsFor s st h → (k o b : ℕ) (rest : List Opener) → openers_in st l ≡ Enters k o b ∷ rest → o ≤ objects_in st
top_made s st h l f p k o b rest e =
    let made : o ≤ objects h = open-made s h f p.lawful l k o b (opens-among k o b rest (openers h l) (sym (p.lanes.openers l) ∙ e)) in
    let same : objects_in st ≡ objects h = p.objects.number in
    omega (arith, made, same)

pub entry_fits : (s : Scenario) (st : State) (h : List Entry) (l : ℕ) (d : Deed) → StandsFor s st h → next_of s st l ≡ Some d → fits (effect d) (openers_in st l)
entry_fits s st h l d p e =
    subst (λ (os : List Opener). fits (effect d) os) (sym (p.lanes.openers l)) (next-fits s h l d (sym (same-next s st h l p) ∙ e))

pub objects_grow : (s : Scenario) (st : State) (l : ℕ) (d : Deed) → objects_in (after s st l d) ≡ objects_in st + count_if (is_some (makes d))
objects_grow s st l d = grown-one (is_some (makes d)) (makes d) st.makings

-- ---- all rows

record Counted (s : Scenario) (st su : State) (d : Deed) (a : Actor) (xs : List ℕ) : Type 0 where
  each : (x : ℕ) → slice_index_or (entered_after d a xs) x 0 ≡ bodies_over s (openers_in su) x

in-lane : (s : Scenario) (st su : State) (l : ℕ) (d : Deed) (a : Actor) (xs : List ℕ) → 1 ≤ l → l ≤ lanes s → Opening s st su l d
    → fits (effect d) (openers_in st l) → Rests a d (openers_in st l) xs → CountsBodies s st xs → Counted s st su d a xs
in-lane s st su l d a xs low high o f r k = record {
  each = λ x.
      let row : slice_index_or (entered_after d a xs) x 0 + bodies_among x (openers_in st l) ≡ slice_index_or xs x 0 + bodies_among x (opened (effect d) (openers_in st l)) = row-after d a (openers_in st l) xs x f r in
      let sum : bodies_over s (openers_in su) x + bodies_among x (openers_in st l) ≡ bodies_over s (openers_in st) x + bodies_among x (openers_in su l) = over-changed s (openers_in st) (openers_in su) l x low high o.other in
      let own : bodies_among x (openers_in su l) ≡ bodies_among x (opened (effect d) (openers_in st l)) = ap (λ (ys : List Opener). bodies_among x ys) o.own in
      let was : slice_index_or xs x 0 ≡ bodies_over s (openers_in st) x = k.each x in
      omega (arith, row, sum, own, was);
}

at-clock : (s : Scenario) (st su : State) (d : Deed) (a : Actor) (xs : List ℕ) → Opening s st su 0 d → IsTick d → CountsBodies s st xs → Counted s st su d a xs
at-clock s st su d a xs o t k = record {
  each = λ x.
      ap (λ (y : Deed). slice_index_or (entered_after y a xs) x 0) t.is ∙ k.each x
      ∙ sym (over-same s (openers_in st) (openers_in su) x (λ j. o.other (suc j) (λ e. absurd (omega (arith, e)))));
}

counted-at : (s : Scenario) (st su : State) (h : List Entry) (l : ℕ) (d : Deed) (xs : List ℕ) → Formed s → StandsFor s st h
    → StandsFor s su (record { lane = l; deed = d } ∷ h) → objects_in su ≡ objects_in st + count_if (is_some (makes d)) → CountsBodies s st xs
    → Counted s st su d (acting_in s st (record { lane = l; deed = d })) xs
counted-at s st su h zero d xs f p q n k =
    at-clock s st su d (acting_in s st (record { lane = 0; deed = d })) xs (opening s st su h 0 d p q) (clock_ticks s h d q.lawful.1) k
counted-at s st su h (suc j) d xs f p q n k =
    let high : suc j ≤ lanes s = lane-within s h (suc j) d q.lawful.1 in
    let low : 1 ≤ suc j = omega arith in
    let same : openers_in st (suc j) ≡ openers h (suc j) = p.lanes.openers (suc j) in
    in-lane s st su (suc j) d (acting_in s st (record { lane = suc j; deed = d })) xs low high (opening s st su h (suc j) d p q)
    (subst (λ (os : List Opener). fits (effect d) os) (sym same) (next-fits s h (suc j) d q.lawful.1))
    (record {
      acts = body_acts s st (suc j) d;
      counted = λ x. let part : bodies_among x (openers_in st (suc j)) ≤ bodies_over s (openers_in st) x = lane-part s (openers_in st) (suc j) x low high in
          let was : slice_index_or xs x 0 ≡ bodies_over s (openers_in st) x = k.each x in omega (arith, part, was);
      there = λ c o b e. let made : o ≤ objects_in su = enters-made s st su h (suc j) d c o b f p q e in
          let none : count_if (is_some (makes d)) ≡ 0 = enter-makes d c o b e in
          let rows : length xs ≡ objects_in st + 1 = k.rows in omega (arith, made, none, n, rows);
    }) k

-- The counts after a lane's next entry count the bodies that run then.
pub bodies_counted : (s : Scenario) (st : State) (h : List Entry) (l : ℕ) (d : Deed) (xs : List ℕ) → Formed s → StandsFor s st h → next_of s st l ≡ Some d
    → CountsBodies s st xs → CountsBodies s (after s st l d) (entered_after d (acting_in s st (record { lane = l; deed = d })) xs)
bodies_counted s st h l d xs f p e k =
    let q : StandsFor s (after s st l d) (record { lane = l; deed = d } ∷ h) = stands-later s st h l d f (p.lawful, sym (same-next s st h l p) ∙ e) p in
    let n : objects_in (after s st l d) ≡ objects_in st + count_if (is_some (makes d)) = objects_grow s st l d in
    let rows : length (entered_after d (acting_in s st (record { lane = l; deed = d })) xs) ≡ length xs + count_if (is_some (makes d)) = rows-after d (acting_in s st (record { lane = l; deed = d })) xs in
    let was : length xs ≡ objects_in st + 1 = k.rows in
    record {
      rows = omega (arith, n, rows, was);
      each = (counted-at s st (after s st l d) h l d xs f p q n k).each;
    }
