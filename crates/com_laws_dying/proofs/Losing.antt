-- Which objects fall by an entry: what is dying stays so, and what falls lost its last holder or its body.
use Rattle.std.proofs.Common.{subst, sym, ap, ◌∙◌, arith, inl, inr, eqb-true}
use Rattle.std.proofs.lemmas.Grind.{common_steps}
use Rattle.std.specs.Prelude.{◌≡◌, refl, ℕ, ◌<◌, ◌≤◌, Bool, true, false, cond, not, ◌==◌, ◌&&◌, ◌||◌, nat_le, List, [], ◌∷◌, ◌⊎◌, Option, Some, filter}
use Rattle.com_model.specs.declared.deeds.Deed.{Deed}
use Rattle.com_model.specs.declared.deeds.Deed.TheVariants as deed
use Rattle.com_model.specs.declared.deeds.Entry.{Entry}
use Rattle.com_model.specs.declared.keeps.Opener.{Opener}
use Rattle.com_model.specs.declared.keeps.Opener.TheVariants.{Pumps, Waits, Enters}
use Rattle.com_model.specs.declared.scenario.Scenario.{Scenario}
use Rattle.com_model.specs.Formed.{Formed}
use Rattle.com_model.specs.Lists.{first, is_member, is_number, any_of, one_to}
use Rattle.com_model.specs.Tables.{lanes}
use Rattle.com_model.specs.Openers.{Effect, Opens, Closes, Keeps, Closer, EndsPump, Backs, Leaves, effect, effect_on, opened, openers, runs, matches, fits}
use Rattle.com_model.specs.Objects.{finals, finaled}
use Rattle.com_model.specs.Places.{ground}
use Rattle.com_model.specs.Frames.{scene}
use Rattle.com_model.specs.Books.{books, holders_in}
use Rattle.com_model.specs.Dying.{is_entered, is_dying_by, is_dying, fallen_more}
use Rattle.com_model.specs.Rules.{next}
use Rattle.com_model.specs.State.{State, StandsFor, next_of, openers_in, objects_in, ground_in, scene_in, books_in, dies_in, after}
use Rattle.com_model.proofs.Sights.{same-ground, same-scene, same-books, same-next}
use Rattle.com_model.proofs.Stacks.{next-fits}
use Rattle.com_objects.specs.Settled.{DieBut, Rise}
use Rattle.com_objects.proofs.Settling.{settled}
use Rattle.com_laws_release.proofs.Dyings.{dies}
use Rattle.com_laws_release.proofs.Orders.{legal-dying}
use Rattle.com_laws_safety.proofs.Small.{not-both, differ, not-true, and-left, and-right, and-both, or-left, or-right, or-second, neither, same-number}
use Rattle.com_runtime.proofs.Runs.{stands-later}
use Rattle.com_state.specs.Resting.{Settled}
use Rattle.com_state.proofs.Settles.{settled-stands}
use Rattle.com_laws_dying.specs.Falling.{holders_of, LosesLast, LeavesBody, MayFall, Candidates, falling, StayBut, Picked, fallen_by}

-- ---- the list of the dying

passes-test : (test : ℕ → Bool) (o : ℕ) (xs : List ℕ) → is_member o (filter test xs) ≡ true → test o ≡ true
passes-test test o [] e = cc
passes-test test o (x ∷ xs) e =
    elim (test x) as (λ t. test x ≡ t → is_member o (cond t (x ∷ filter test xs) (filter test xs)) ≡ true → test o ≡ true) [
      | true ↦ λ z p. elim (o == x) as (λ b. (o == x) ≡ b → (b || is_member o (filter test xs)) ≡ true → test o ≡ true) [
        | true ↦ λ y u. subst (λ (k : ℕ). test k ≡ true) (sym (eqb-true o x y)) z
        | false ↦ λ y u. passes-test test o xs u
      ] refl p
      | false ↦ λ z p. passes-test test o xs p
    ] refl e

was-member : (test : ℕ → Bool) (o : ℕ) (xs : List ℕ) → is_member o (filter test xs) ≡ true → is_member o xs ≡ true
was-member test o [] e = cc
was-member test o (x ∷ xs) e =
    elim (test x) as (λ t. is_member o (cond t (x ∷ filter test xs) (filter test xs)) ≡ true → (o == x || is_member o xs) ≡ true) [
      | true ↦ λ p. elim (o == x) as (λ b. (b || is_member o (filter test xs)) ≡ true → (b || is_member o xs) ≡ true) [
        | true ↦ λ u. refl
        | false ↦ λ u. was-member test o xs u
      ] p
      | false ↦ λ p. or-right (o == x) (is_member o xs) (was-member test o xs p)
    ] e

stays-member : (test : ℕ → Bool) (o : ℕ) (xs : List ℕ) → test o ≡ true → is_member o xs ≡ true → is_member o (filter test xs) ≡ true
stays-member test o [] e m = cc
stays-member test o (x ∷ xs) e m =
    elim (o == x) as (λ b. (o == x) ≡ b → (b || is_member o xs) ≡ true → is_member o (cond (test x) (x ∷ filter test xs) (filter test xs)) ≡ true) [
      | true ↦ λ z p. subst (λ (t : Bool). is_member o (cond t (x ∷ filter test xs) (filter test xs)) ≡ true) (sym (subst (λ (k : ℕ). test k ≡ true) (eqb-true o x z) e)) (or-left (o == x) (is_member o (filter test xs)) z)
      | false ↦ λ z p. elim (test x) as (λ t. is_member o (cond t (x ∷ filter test xs) (filter test xs)) ≡ true) [
        | true ↦ or-right (o == x) (is_member o (filter test xs)) (stays-member test o xs e p)
        | false ↦ stays-member test o xs e p
      ]
    ] refl m

same-truth : (p q : Bool) → (p ≡ true → q ≡ true) → (q ≡ true → p ≡ true) → p ≡ q
same-truth true true f g = refl
same-truth true false f g = sym (f refl)
same-truth false true f g = g refl
same-truth false false f g = refl

members-by : (s : Scenario) (st : State) (o : ℕ) → Settled s st → is_member o st.fallen ≡ dies_in s st o
members-by s st o p =
    same-truth (is_member o st.fallen) (dies_in s st o)
    (λ m. passes-test (dies_in s st) o st.fallen (subst (λ (xs : List ℕ). is_member o xs ≡ true) (sym p.dying) m))
    (p.fell o)

pub members : (s : Scenario) (st : State) (h : List Entry) (o : ℕ) → StandsFor s st h → is_member o st.fallen ≡ dies_in s st o
members s st h o p = members-by s st o (settled-stands s st h p)

-- ---- from tables to histories

same-dies : (s : Scenario) (st : State) (h : List Entry) (o : ℕ) → StandsFor s st h → dies_in s st o ≡ is_dying s h o
same-dies s st h o p =
    let g : ground_in s st ≡ ground s h = same-ground s st h p.lanes p.apartments p.objects p.calls in
    let w : scene_in st ≡ scene s h = same-scene (scene_in st) (scene s h) p.scene in
    let b : books_in st ≡ books s h = same-books (books_in st) (books s h) p.books in
    λ i. is_dying_by (p.objects.number i) (λ x. p.objects.finaled x i) (holders_in s (g i) (w i) (b i)) (is_entered s (g i).openers) o

-- A state, the next entry of a lane, and the state after it.
record Step (s : Scenario) (st su : State) (h : List Entry) (l : ℕ) (d : Deed) : Type 0 where
  formed : Formed s
  before : StandsFor s st h
  next_is : next s h l ≡ Some d
  after_is : StandsFor s su (record { lane = l; deed = d } ∷ h)

step-of : (s : Scenario) (st : State) (h : List Entry) (l : ℕ) (d : Deed) → Formed s → StandsFor s st h → next_of s st l ≡ Some d → Step s st (after s st l d) h l d
step-of s st h l d f p q =
    let n : next s h l ≡ Some d = sym (same-next s st h l p) ∙ q in
    record { formed = f; before = p; next_is = n; after_is = stands-later s st h l d f (p.lawful, n) p }

-- ---- what is dying stays so

not-final : (d : Deed) (o : ℕ) → d ≡ deed.Final o → is_number o (finals d) ≡ false → ⊥
not-final d o e n = not-both (o == o) (same-number o) (subst (λ (x : Deed). is_number o (finals x) ≡ false) e n)

one-stays : (s : Scenario) (st su : State) (h : List Entry) (l : ℕ) (d : Deed) (o : ℕ) → Step s st su h l d → dies_in s st o ≡ true → dies_in s su o ≡ not (is_number o (finals d))
one-stays s st su h l d o k p =
    let e : Entry = record { lane = l; deed = d } in
    let was : is_dying s h o ≡ true = sym (same-dies s st h o k.before) ∙ p in
    elim (is_number o (finals d)) as (λ t. is_number o (finals d) ≡ t → dies_in s su o ≡ not t) [
      | true ↦ λ z. same-dies s su (e ∷ h) o k.after_is ∙ differ (is_dying s (e ∷ h) o) (λ y. not-both (is_number o (finals d) || finaled h o) (or-left (is_number o (finals d)) (finaled h o) z) (dies s (e ∷ h) o y).not_finaled)
      | false ↦ λ z. elim ((legal-dying s (e ∷ h) k.formed k.after_is.lawful).1 o was) as (λ _. dies_in s su o ≡ true) [
        | inl y ↦ same-dies s su (e ∷ h) o k.after_is ∙ y
        | inr y ↦ absurd (not-final d o y z)
      ]
    ] refl

each-stays : (dying : ℕ → Bool) (gone : Option ℕ) (xs : List ℕ) → ((o : ℕ) → is_member o xs ≡ true → dying o ≡ not (is_number o gone)) → DieBut dying gone xs
each-stays dying gone [] p = tt
each-stays dying gone (x ∷ xs) p = (p x (or-left (x == x) (is_member x xs) (same-number x)), each-stays dying gone xs (λ o m. p o (or-right (o == x) (is_member o xs) m)))

stay-but : (s : Scenario) (st su : State) (h : List Entry) (l : ℕ) (d : Deed) → Step s st su h l d → DieBut (dies_in s su) (finals d) st.fallen
stay-but s st su h l d k = each-stays (dies_in s su) (finals d) st.fallen (λ o m. one-stays s st su h l d o k (sym (members s st h o k.before) ∙ m))

pub stay : (s : Scenario) (st : State) (h : List Entry) (l : ℕ) (d : Deed) → Formed s → StandsFor s st h → next_of s st l ≡ Some d → StayBut s st l d
stay s st h l d f p q = stay-but s st (after s st l d) h l d (step-of s st h l d f p q)

-- ---- whose body left

record OneLeft (test later : ℕ → Bool) : Type 0 where
  lane : ℕ
  was : test lane ≡ true
  is_not : later lane ≡ false

one-left : (test later : ℕ → Bool) (xs : List ℕ) → any_of test xs ≡ true → any_of later xs ≡ false → OneLeft test later
one-left test later [] p q = cc
one-left test later (x ∷ xs) p q =
    let n : (later x ≡ false) × (any_of later xs ≡ false) = neither (later x) (any_of later xs) q in
    elim (test x) as (λ t. test x ≡ t → OneLeft test later) [
      | true ↦ λ z. record { lane = x; was = z; is_not = n.0 }
      | false ↦ λ z. one-left test later xs (or-second (test x) (any_of test xs) z p) n.1
    ] refl

-- The opener on top, which was closed.
record Closed (o : ℕ) (x : Effect) (os : List Opener) : Type 0 where
  call : ℕ
  apartment : ℕ
  closes : x ≡ Closes (Leaves call)
  top : first os ≡ Some (Enters call o apartment)

on-top : (o c y a : ℕ) (k : Closer) (os : List Opener) → matches k (Enters c y a) → cond (y == o) true (runs o os) ≡ true → runs o os ≡ false → Closed o (Closes k) (Enters c y a ∷ os)
on-top o c y a (Leaves d) os m p q =
    elim (y == o) as (λ t. (y == o) ≡ t → cond t true (runs o os) ≡ true → Closed o (Closes (Leaves d)) (Enters c y a ∷ os)) [
      | true ↦ λ z u. record { call = c; apartment = a; closes = ap (λ (j : ℕ). Closes (Leaves j)) m; top = ap (λ (j : ℕ). Some (Enters c j a)) (eqb-true y o z) }
      | false ↦ λ z u. absurd (not-both (runs o os) u q)
    ] refl p
on-top o c y a EndsPump os m p q = absurd m
on-top o c y a (Backs d) os m p q = absurd m

opens-more : (o : ℕ) (x : Opener) (os : List Opener) → runs o os ≡ true → runs o (x ∷ os) ≡ false → ⊥
opens-more o (Pumps n) os p q = not-both (runs o os) p q
opens-more o (Waits c) os p q = not-both (runs o os) p q
opens-more o (Enters c y a) os p q = by-test (y == o) q
  where
    by-test : (t : Bool) → cond t true (runs o os) ≡ false → ⊥
    by-test true u = cc
    by-test false u = not-both (runs o os) p u

closed-by : (o : ℕ) (x : Effect) (os : List Opener) → fits x os → runs o os ≡ true → runs o (opened x os) ≡ false → Closed o x os
closed-by o (Opens x) os m p q = absurd (opens-more o x os p q)
closed-by o Keeps os m p q = absurd (not-both (runs o os) p q)
closed-by o (Closes k) [] m p q = absurd m
closed-by o (Closes k) (Pumps n ∷ os) m p q = absurd (not-both (runs o os) p q)
closed-by o (Closes k) (Waits c ∷ os) m p q = absurd (not-both (runs o os) p q)
closed-by o (Closes k) (Enters c y a ∷ os) m p q = on-top o c y a k os m p q

-- The lane is that of the entry.
own-lane : (o l j : ℕ) (d : Deed) (os : List Opener) → runs o os ≡ true → runs o (opened (effect_on j (record { lane = l; deed = d })) os) ≡ false → (l == j) ≡ true
own-lane o l j d os p q = by-test (l == j) q
  where
    by-test : (t : Bool) → runs o (opened (cond t (effect d) Keeps) os) ≡ false → t ≡ true
    by-test true u = refl
    by-test false u = absurd (not-both (runs o os) p u)

lane-left : (s : Scenario) (st su : State) (h : List Entry) (l j : ℕ) (d : Deed) (o : ℕ) → Step s st su h l d → l ≡ j → runs o (openers_in st j) ≡ true → runs o (openers_in su j) ≡ false → LeavesBody st l d o
lane-left s st su h l j d o k e p q =
    let same : openers_in st l ≡ openers h l = k.before.lanes.openers l in
    let own : openers_in su l ≡ opened (effect_on l (record { lane = l; deed = d })) (openers h l) = k.after_is.lanes.openers l in
    let z : Closed o (effect d) (openers h l) =
    closed-by o (effect d) (openers h l) (next-fits s h l d k.next_is)
    (subst (λ (os : List Opener). runs o os ≡ true) same (subst (λ (i : ℕ). runs o (openers_in st i) ≡ true) (sym e) p))
    (subst (λ (t : Bool). runs o (opened (cond t (effect d) Keeps) (openers h l)) ≡ false) (same-number l) (subst (λ (os : List Opener). runs o os ≡ false) own (subst (λ (i : ℕ). runs o (openers_in su i) ≡ false) (sym e) q))) in
    record { call = z.call; apartment = z.apartment; leaves = z.closes; top = ap (λ (os : List Opener). first os) same ∙ z.top }

body-left : (s : Scenario) (st su : State) (h : List Entry) (l : ℕ) (d : Deed) (o : ℕ) → Step s st su h l d → is_entered s (openers_in st) o ≡ true → is_entered s (openers_in su) o ≡ false → LeavesBody st l d o
body-left s st su h l d o k p q =
    let z : OneLeft (λ j. runs o (openers_in st j)) (λ j. runs o (openers_in su j)) = one-left (λ j. runs o (openers_in st j)) (λ j. runs o (openers_in su j)) (one_to (lanes s)) p q in
    let was : runs o (openers h z.lane) ≡ true = subst (λ (os : List Opener). runs o os ≡ true) (k.before.lanes.openers z.lane) z.was in
    let is : runs o (opened (effect_on z.lane (record { lane = l; deed = d })) (openers h z.lane)) ≡ false = subst (λ (os : List Opener). runs o os ≡ false) (k.after_is.lanes.openers z.lane) z.is_not in
    lane-left s st su h l z.lane d o k (eqb-true l z.lane (own-lane o l z.lane d (openers h z.lane) was is)) z.was z.is_not

-- ---- what falls

-- What is said of an object that is dying.
record Dead (s : Scenario) (st : State) (o : ℕ) : Type 0 where
  low : nat_le 1 o ≡ true
  open_not : is_member o st.finaled ≡ false
  none : (holders_of s st o == 0) ≡ true
  idle : is_entered s (openers_in st) o ≡ false

parts-of : (s : Scenario) (st : State) (o : ℕ) → dies_in s st o ≡ true → Dead s st o
parts-of s st o d =
    let range : Bool = nat_le 1 o && nat_le o (objects_in st) in
    let rest : Bool = (holders_of s st o == 0) && not (is_entered s (openers_in st) o) in
    let r : (not (is_member o st.finaled) && rest) ≡ true = and-right range (not (is_member o st.finaled) && rest) d in
    let n : rest ≡ true = and-right (not (is_member o st.finaled)) rest r in
    record {
      low = and-left (nat_le 1 o) (nat_le o (objects_in st)) (and-left range (not (is_member o st.finaled) && rest) d);
      open_not = not-true (is_member o st.finaled) (and-left (not (is_member o st.finaled)) rest r);
      none = and-left (holders_of s st o == 0) (not (is_entered s (openers_in st) o)) n;
      idle = not-true (is_entered s (openers_in st) o) (and-right (holders_of s st o == 0) (not (is_entered s (openers_in st) o)) n);
    }

off-is : (b : Bool) → b ≡ false → not b ≡ true
off-is true e = cc
off-is false e = refl

all-parts : (s : Scenario) (st : State) (o : ℕ) → nat_le 1 o ≡ true → nat_le o (objects_in st) ≡ true → is_member o st.finaled ≡ false → (holders_of s st o == 0) ≡ true → is_entered s (openers_in st) o ≡ false → dies_in s st o ≡ true
all-parts s st o a b c d e =
    and-both (nat_le 1 o && nat_le o (objects_in st)) _ (and-both (nat_le 1 o) (nat_le o (objects_in st)) a b)
    (and-both (not (is_member o st.finaled)) _ (off-is (is_member o st.finaled) c)
    (and-both (holders_of s st o == 0) (not (is_entered s (openers_in st) o)) d (off-is (is_entered s (openers_in st) o) e)))

not-finaled : (s : Scenario) (st su : State) (h : List Entry) (l : ℕ) (d : Deed) (o : ℕ) → Step s st su h l d → is_member o su.finaled ≡ false → is_member o st.finaled ≡ false
not-finaled s st su h l d o k p =
    k.before.objects.finaled o ∙ (neither (is_number o (finals d)) (finaled h o) (sym (k.after_is.objects.finaled o) ∙ p)).1

abbrev Falls_by : Scenario → (st su : State) → ℕ → Deed → ℕ → Type 0
Falls_by s st su l d o = LosesLast s st su o ⊎ (LeavesBody st l d o ⊎ (objects_in st < o))

above : (o n : ℕ) → nat_le o n ≡ false → n < o
above o n e = grind (arith, common_steps, e)

falls-by : (s : Scenario) (st su : State) (h : List Entry) (l : ℕ) (d : Deed) (o : ℕ) → Step s st su h l d → dies_in s su o ≡ true → is_member o st.fallen ≡ false → Falls_by s st su l d o
falls-by s st su h l d o k p q =
    let z : Dead s su o = parts-of s su o p in
    elim (nat_le o (objects_in st)) as (λ t. nat_le o (objects_in st) ≡ t → Falls_by s st su l d o) [
      | false ↦ λ n. inr (inr (above o (objects_in st) n))
      | true ↦ λ n. elim (holders_of s st o == 0) as (λ t. (holders_of s st o == 0) ≡ t → Falls_by s st su l d o) [
        | false ↦ λ w. inl (record { held = w; none = z.none })
        | true ↦ λ w. elim (is_entered s (openers_in st) o) as (λ t. is_entered s (openers_in st) o ≡ t → Falls_by s st su l d o) [
          | true ↦ λ r. inr (inl (body-left s st su h l d o k r z.idle))
          | false ↦ λ r. absurd (not-both (is_member o st.fallen) (members s st h o k.before ∙ all-parts s st o z.low n (not-finaled s st su h l d o k z.open_not) w r) q)
        ] refl
      ] refl
    ] refl

pub fresh : (s : Scenario) (st : State) (h : List Entry) (l : ℕ) (d : Deed) (o : ℕ) → Formed s → StandsFor s st h → next_of s st l ≡ Some d → dies_in s (after s st l d) o ≡ true → is_member o st.fallen ≡ false → MayFall s st l d o
fresh s st h l d o f p q = falls-by s st (after s st l d) h l d o (step-of s st h l d f p q)

-- ---- of candidates

rise-from : (a b : ℕ) (xs : List ℕ) (m : ℕ) → a ≤ b → Rise b xs m → Rise a xs m
rise-from a b [] m p r = let q : b ≤ m = r in omega (arith, p, q)
rise-from a b (x ∷ xs) m p r = let q : b < x = r.0 in (omega (arith, p, q), r.1)

rise-some : (test : ℕ → Bool) (a : ℕ) (xs : List ℕ) (m : ℕ) → Rise a xs m → Rise a (filter test xs) m
rise-some test a [] m r = r
rise-some test a (x ∷ xs) m r =
    let q : a < x = r.0 in
    let rest : Rise x (filter test xs) m = rise-some test x xs m r.1 in
    elim (test x) as (λ t. Rise a (cond t (x ∷ filter test xs) (filter test xs)) m) [
      | true ↦ (q, rest)
      | false ↦ rise-from a x (filter test xs) m (omega (arith, q)) rest
    ]

member-falls : (dying : ℕ → Bool) (o : ℕ) (cs before : List ℕ) → (is_member o before ≡ true → is_member o cs ≡ false) → (dying o ≡ true → is_member o before ≡ false → is_member o cs ≡ true) → is_member o (filter dying cs) ≡ (dying o && not (is_member o before))
member-falls dying o cs before p q =
    same-truth (is_member o (filter dying cs)) (dying o && not (is_member o before))
    (λ m. and-both (dying o) (not (is_member o before)) (passes-test dying o cs m) (off-is (is_member o before) (differ (is_member o before) (λ b. not-both (is_member o cs) (was-member dying o cs m) (p b)))))
    (λ e. let d : dying o ≡ true = and-left (dying o) (not (is_member o before)) e in
    stays-member dying o cs d (q d (not-true (is_member o before) (and-right (dying o) (not (is_member o before)) e))))

pub picked : (s : Scenario) (st : State) (h : List Entry) (l : ℕ) (d : Deed) (cs : List ℕ) → Formed s → StandsFor s st h → next_of s st l ≡ Some d → Candidates s st l d cs → Picked s st l d cs
picked s st h l d cs f p q c = record {
  rise = rise-some (dies_in s (after s st l d)) 0 cs (objects_in (after s st l d)) c.rise;
  each = λ o a b. member-falls (dies_in s (after s st l d)) o cs st.fallen
      (λ m. differ (is_member o cs) (λ i. not-both (dies_in s st o) (sym (members s st h o p) ∙ m) (c.alive o i)))
      (λ w n. c.all o b (fresh s st h l d o f p q w n));
}

fallen-next : (s : Scenario) (st su : State) (h : List Entry) (l : ℕ) (d : Deed) → Step s st su h l d → su.fallen ≡ fallen_more (dies_in s su) (objects_in su) st.fallen
fallen-next s st su h l d k =
    let e : Entry = record { lane = l; deed = d } in
    k.after_is.fallen ∙ (λ i. fallen_more (λ o. sym (same-dies s su (e ∷ h) o k.after_is) i) (sym k.after_is.objects.number i) (sym k.before.fallen i))

pub fallen-after : (s : Scenario) (st : State) (h : List Entry) (l : ℕ) (d : Deed) (cs : List ℕ) → Formed s → StandsFor s st h → next_of s st l ≡ Some d → Candidates s st l d cs → (after s st l d).fallen ≡ fallen_by s st l d cs
fallen-after s st h l d cs f p q c =
    fallen-next s st (after s st l d) h l d (step-of s st h l d f p q)
    ∙ sym (settled (finals d) st.fallen (falling s st l d cs) (dies_in s (after s st l d)) (objects_in (after s st l d)) (stay s st h l d f p q) (picked s st h l d cs f p q c))
