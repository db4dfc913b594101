-- Direct calls: while one is not admitted it is the top, and the references that it sends stand in slots of the frame below; once
-- it is admitted, it is in the apartment of that frame.
use Rattle.std.proofs.Common.{subst, sym, ap, ◌∙◌, ◌⊎◌, inl, inr, eqb-true, arith}
use Rattle.std.proofs.lemmas.Bool.{false_from_ne_true}
use Rattle.std.proofs.lemmas.Grind.{common_steps}
use Rattle.std.specs.Prelude.{◌≡◌, refl, ℕ, ◌+◌, ◌≤◌, ◌<◌, Bool, true, false, cond, ◌==◌, List, [], ◌∷◌, length, Option, Some, None, is_none}
use Rattle.com_base.specs.declared.value.Value.{Value}
use Rattle.com_body.specs.declared.frame.Outcome.{Outcome}
use Rattle.com_model.specs.declared.deeds.Deed.{Deed}
use Rattle.com_model.specs.declared.deeds.Deed.TheVariants as deed
use Rattle.com_model.specs.declared.deeds.Entry.{Entry}
use Rattle.com_model.specs.declared.deeds.Route.{Route}
use Rattle.com_model.specs.declared.scenario.Scenario.{Scenario}
use Rattle.com_refs_books.specs.Counting.{count_if}
use Rattle.com_model.specs.Lists.{first}
use Rattle.com_model.specs.Tables.{lane_sort}
use Rattle.com_model.specs.Openers.{Effect, Opens, Closes, Keeps, effect, effect_on, opened, openers, top_call}
use Rattle.com_model.specs.declared.keeps.Opener.{Opener}
use Rattle.com_model.specs.declared.keeps.Opener.TheVariants.{Pumps, Waits, Enters}
use Rattle.com_model.specs.Apartments.{Remains, home_effect, ends_sta}
use Rattle.com_model.specs.Objects.{named, class_of}
use Rattle.com_model.specs.Calls.{issues, issue_or, issue, calls, admits, admission_or, admitted, lane_of}
use Rattle.com_model.specs.declared.keeps.Admission.{Admission}
use Rattle.com_model.specs.Frames.{scene, Actor, Body, Script, Nobody, actor, actor_in, outcome, acting, acted, arrived}
use Rattle.com_model.specs.Issue.{own_values, values_or, sent}
use Rattle.com_model.specs.Rules.{next, legal}
use Rattle.com_model.specs.Formed.{Formed}
use Rattle.com_model.proofs.Comes.{next-comes}
use Rattle.com_model.proofs.Onces.{call_named, Names, InRange, named-in-range}
use Rattle.com_model.proofs.Stacks.{leave-own}
use Rattle.com_laws_balance.proofs.Moves.{OutBy, acting-is, outcome-by}
use Rattle.com_laws_balance.proofs.Counts.{Among}
use Rattle.com_laws_balance.proofs.Stacks.{admission_in, open-admitted}
use Rattle.com_laws_balance.proofs.Results.{out-number, same-issue}
use Rattle.com_laws_balance.proofs.Tops.{next-tops}
use Rattle.com_laws_balance.proofs.Homes.{among-any}
use Rattle.com_laws_balance.proofs.Bases.{S0, B0, K0, I_of, L_of, actor-is, Acting, acting-base, remains-by, top-among}
use Rattle.com_laws_balance.proofs.Steps.{base-before, legal-base, opens-own, waits-number, same-number}
use Rattle.com_laws_balance.proofs.Arguments.{slots_of, Apart, StillBy, acted-slots, OtherThan, arrived-slots, cut-slots}

-- ---- openers that wait

-- The call waits above these openers.
abbrev pub Over : ℕ → List Opener → List Opener → Type 0
Over c os [] = ⊥
Over c os (x ∷ xs) = ((x ≡ Waits c) × (xs ≡ os)) ⊎ Over c os xs

pub over-after : (c : ℕ) (os : List Opener) (e : Effect) (xs : List Opener) → Over c os (opened e xs) → Over c os xs ⊎ ((e ≡ Opens (Waits c)) × (xs ≡ os))
over-after c os (Opens x) xs (inl p) = inr (ap Opens p.0, p.1)
over-after c os (Opens x) xs (inr p) = inl p
over-after c os (Closes k) [] p = inl p
over-after c os (Closes k) (x ∷ xs) p = inl (inr p)
over-after c os Keeps xs p = inl p

pub over-among : (c : ℕ) (os xs : List Opener) → Over c os xs → Among (Waits c) xs
over-among c os [] m = absurd m
over-among c os (x ∷ xs) (inl p) = inl p.0
over-among c os (x ∷ xs) (inr p) = inr (over-among c os xs p)

pub over-below : (c : ℕ) (os xs : List Opener) (o : Opener) → Over c os xs → Among o os → Among o xs
over-below c os [] o m k = absurd m
over-below c os (x ∷ xs) o (inl p) k = inr (subst (λ (ys : List Opener). Among o ys) (sym p.1) k)
over-below c os (x ∷ xs) o (inr p) k = inr (over-below c os xs o p k)

longer : (x : Opener) (xs : List Opener) → length xs < length (x ∷ xs)
longer x xs = grind (arith, common_steps)

pub over-short : (c : ℕ) (os xs : List Opener) → Over c os xs → length os < length xs
over-short c os [] m = absurd m
over-short c os (x ∷ xs) (inl p) = subst (λ (ys : List Opener). length ys < length (x ∷ xs)) p.1 (longer x xs)
over-short c os (x ∷ xs) (inr p) = let k : length os < length xs = over-short c os xs p in let m : length xs < length (x ∷ xs) = longer x xs in omega (arith, k, m)

pub openers-own : (h : List Entry) (e : Entry) → openers (e ∷ h) e.lane ≡ opened (effect e.deed) (openers h e.lane)
openers-own h e = ap (λ (t : Bool). opened (cond t (effect e.deed) Keeps) (openers h e.lane)) (same-number e.lane)

pub openers-other : (h : List Entry) (e : Entry) (l : ℕ) → (e.lane == l) ≡ false → openers (e ∷ h) l ≡ openers h l
openers-other h e l z = ap (λ (t : Bool). opened (cond t (effect e.deed) Keeps) (openers h l)) z

-- ---- what was issued stays

pub issue-stays : (s : Scenario) (h : List Entry) (e : Entry) (c : ℕ) → legal s (e ∷ h) → c ≤ calls h → issue (e ∷ h) c ≡ issue h c
issue-stays s h e c q p = same-issue s h e.lane e.deed c (λ k o i m t cause bytes d u.
    let n : k ≡ calls h + 1 = out-number s h e.lane e.deed (next-comes s h e.lane e.deed q.1) k o i m t cause bytes d in omega (arith, n, u, p))

sent-same : (s : Scenario) (h : List Entry) (l c : ℕ) (d : Deed) → ((k : ℕ) (o : Option ℕ) (i m : ℕ) (r : Route) (cause : ℕ) (bytes : Option (List ℕ)) → d ≡ deed.Out k o i m r cause bytes → k ≡ c → ⊥) → values_or s h (issues l d) c (sent s h c) ≡ sent s h c
sent-same s h l c (deed.Out k o i m r cause bytes) f = ap (λ (b : Bool). own_values s h (record { call = k; lane = l; object = o; iface = i; method = m; route = r; cause = cause }) b (sent s h c)) (false_from_ne_true (k == c) (λ t. f k o i m r cause bytes refl (eqb-true k c t)))
sent-same s h l c _ f = refl

pub sent-stays : (s : Scenario) (h : List Entry) (e : Entry) (c : ℕ) → legal s (e ∷ h) → c ≤ calls h → sent s (e ∷ h) c ≡ sent s h c
sent-stays s h e c q p = sent-same s h e.lane c e.deed (λ k o i m t cause bytes d u.
    let n : k ≡ calls h + 1 = out-number s h e.lane e.deed (next-comes s h e.lane e.deed q.1) k o i m t cause bytes d in omega (arith, n, u, p))

pub admission-past : (x : Option Admission) (l c : ℕ) (d : Deed) → ((k o a : ℕ) (t : Option ℕ) (vs : List Value) → d ≡ deed.Enter k o a t vs → k ≡ c → ⊥) → x ≡ None → admission_or (admits l d) c x ≡ None
admission-past x l c (deed.Enter k o a t vs) f e = ap (λ (b : Bool). cond b (Some (admission_in k l a)) x) (false_from_ne_true (k == c) (λ z. f k o a t vs refl (eqb-true k c z))) ∙ e
admission-past x l c _ f e = e

-- A call that was not issued was not admitted.
pub admitted-past : (s : Scenario) (h : List Entry) (c : ℕ) → legal s h → calls h + 1 ≤ c → admitted h c ≡ None
admitted-past s [] c q p = refl
admitted-past s (e ∷ h) c q p =
    let m : calls h ≤ calls (e ∷ h) = omega arith in
    admission-past (admitted h c) e.lane c e.deed (λ k o a t vs d z.
    let r : InRange (calls (e ∷ h)) k = subst (λ (x : Deed). Names (InRange (calls (e ∷ h))) (call_named x)) d (named-in-range s h e q) in
    let u : k ≤ calls (e ∷ h) = r.1 in omega (arith, u, z, p)) (admitted-past s h c q.0 (omega (arith, p, m)))

out-lane : (h : List Entry) (l c : ℕ) (d : Deed) → effect d ≡ Opens (Waits c) → (calls h + count_if true ≡ count_if true + calls h) → lane_of (issue_or (issues l d) c (issue h c)) ≡ l
out-lane h l c (deed.Out k o i m t cause bytes) e n =
    subst (λ (j : ℕ). lane_of (cond (k == j) (Some (record { call = k; lane = l; object = o; iface = i; method = m; route = t; cause = cause })) (issue h j)) ≡ l) (same-call e)
    (subst (λ (b : Bool). lane_of (cond b (Some (record { call = k; lane = l; object = o; iface = i; method = m; route = t; cause = cause })) (issue h k)) ≡ l) (sym (same-number k)) refl)
  where
    same-call : Opens (Waits k) ≡ Opens (Waits c) → k ≡ c
    same-call e = cc
out-lane h l c (deed.Enter k x y t vs) e n = cc
out-lane h l c (deed.Pump m) e n = cc
out-lane h l c deed.EndPump e n = cc
out-lane h l c (deed.Back k hr v) e n = cc
out-lane h l c (deed.Leave k hr v bytes) e n = cc
out-lane h l c _ e n = cc

out-counts : (h : List Entry) (e : Entry) (c : ℕ) → effect e.deed ≡ Opens (Waits c) → calls h + 1 ≤ calls (e ∷ h)
out-counts h e c p = by-deed e.lane e.deed p
  where
    by-deed : (l : ℕ) (d : Deed) → effect d ≡ Opens (Waits c) → calls h + 1 ≤ calls (record { lane = l; deed = d } ∷ h)
    by-deed l (deed.Out k o i m t cause bytes) p = omega arith
    by-deed l (deed.Enter k x y t vs) p = cc
    by-deed l (deed.Pump m) p = cc
    by-deed l deed.EndPump p = cc
    by-deed l (deed.Back k hr v) p = cc
    by-deed l (deed.Leave k hr v bytes) p = cc
    by-deed l _ p = cc

-- A call that waits in a lane was issued by it.
pub waits-issued : (s : Scenario) (h : List Entry) (l c : ℕ) → legal s h → Among (Waits c) (openers h l) → (c ≤ calls h) × (lane_of (issue h c) ≡ l)
waits-issued s [] l c q m = absurd m
waits-issued s (e ∷ h) l c q m =
    elim (among-any (Waits c) (effect_on l e) (openers h l) m) as (λ _. (c ≤ calls (e ∷ h)) × (lane_of (issue (e ∷ h) c) ≡ l)) [
      | inl p ↦ let r : (c ≤ calls h) × (lane_of (issue h c) ≡ l) = waits-issued s h l c q.0 p in
          let low : c ≤ calls h = r.0 in
          let m : calls h ≤ calls (e ∷ h) = omega arith in
          (omega (arith, low, m), ap lane_of (issue-stays s h e c q low) ∙ r.1)
      | inr p ↦ let z : (e.lane ≡ l) × (effect e.deed ≡ Opens (Waits c)) = opens-own l e (Waits c) p in
          let n : c ≡ calls h + 1 = waits-number s h e.lane c e.deed q.1 z.1 in
          let k : calls h + 1 ≤ calls (e ∷ h) = out-counts h e c z.1 in
          (omega (arith, n, k), out-lane h e.lane c e.deed z.1 (omega arith) ∙ z.0)
    ]

-- ---- slots that stay at an entry

pub out-base : (s : Scenario) (h : List Entry) (e : Entry) → Formed s → legal s (e ∷ h) → OutBy s (S0 s h) (B0 (e ∷ h)) (I_of (acting s (class_of h) (issue h) (scene s h) (actor_in s h e.lane) e.deed)) (L_of s h (acting s (class_of h) (issue h) (scene s h) (actor_in s h e.lane) e.deed)) (acting s (class_of h) (issue h) (scene s h) (actor_in s h e.lane) e.deed) (scene s h) (outcome s (class_of h) (issue h) (scene s h) (acting s (class_of h) (issue h) (scene s h) (actor_in s h e.lane) e.deed))
unfolding Acting
out-base s h e f q =
    let u : Actor = acting s (class_of h) (issue h) (scene s h) (actor_in s h e.lane) e.deed in
    let a : Acting s h e u = acting-base s h e f q in
    outcome-by s (S0 s h) (B0 (e ∷ h)) (K0 s (e ∷ h)) (I_of u) (L_of s h u) (class_of h) (issue h) u (scene s h) a.0 a.1 (base-before s h e f q (legal-base s h f q.0))

pub still-slots : (s : Scenario) (h : List Entry) (e : Entry) (x : Actor) → Formed s → legal s (e ∷ h) → StillBy x (acting s (class_of h) (issue h) (scene s h) (actor_in s h e.lane) e.deed) (outcome s (class_of h) (issue h) (scene s h) (acting s (class_of h) (issue h) (scene s h) (actor_in s h e.lane) e.deed)) e.deed → OtherThan x (actor_in s (e ∷ h) e.lane) e.lane e.deed → slots_of x (scene s (e ∷ h)) ≡ slots_of x (scene s h)
still-slots s h e x f q n o =
    let u : Actor = acting s (class_of h) (issue h) (scene s h) (actor_in s h e.lane) e.deed in
    let r : Option Outcome = outcome s (class_of h) (issue h) (scene s h) u in
    cut-slots x (named h) (ends_sta e.deed) (arrived (actor_in s (e ∷ h) e.lane) e.lane e.deed (acted u r e.deed (scene s h)))
    ∙ arrived-slots x (actor_in s (e ∷ h) e.lane) e.lane e.deed (acted u r e.deed (scene s h)) o
    ∙ acted-slots s (S0 s h) (B0 (e ∷ h)) (I_of u) (L_of s h u) x u r e.deed (scene s h) (out-base s h e f q) n

still-apart : (x u : Actor) (r : Option Outcome) (d : Deed) → Apart x u → StillBy x u r d
still-apart x u None d p = tt
still-apart x u (Some y) d p = inl p

apart-nobody : (x : Actor) → Apart x Nobody
apart-nobody (Body c o) = tt
apart-nobody (Script l) = tt
apart-nobody Nobody = tt

nobody-apart : (x : Actor) → Apart Nobody x
nobody-apart (Body c o) = tt
nobody-apart (Script l) = tt
nobody-apart Nobody = tt

lane_at : Option Admission → ℕ
lane_at None = 0
lane_at (Some y) = y.lane

other-call : (h : List Entry) (c d l j a b : ℕ) → admitted h c ≡ Some (admission_in c l a) → admitted h d ≡ Some (admission_in d j b) → (l ≡ j → ⊥) → c ≡ d → ⊥
unfolding lane_at
other-call h c d l j a b p q n e = n (sym (ap lane_at p) ∙ ap (λ (k : ℕ). lane_at (admitted h k)) e ∙ ap lane_at q)

-- Who stands in one lane is not who stands in another.
apart-lanes : (s : Scenario) (h : List Entry) (l j : ℕ) (os xs : List Opener) → legal s h → (l ≡ j → ⊥) → ((o : Opener) → Among o os → Among o (openers h l)) → ((o : Opener) → Among o xs → Among o (openers h j)) → Apart (actor (lane_sort s l) l os) (actor (lane_sort s j) j xs)
apart-lanes s h l j os xs q n f g =
    actor-is (λ x. Apart x (actor (lane_sort s j) j xs)) (lane_sort s l) l os
    (λ c o a rest p. actor-is (λ y. Apart (Body c o) y) (lane_sort s j) j xs
    (λ d u b more r. other-call h c d l j a b (open-admitted s h q l c o a (f (Enters c o a) (top-among c o a os rest p))) (open-admitted s h q j d u b (g (Enters d u b) (top-among d u b xs more r))) n)
    (λ r. tt) tt)
    (λ p. actor-is (λ y. Apart (Script l) y) (lane_sort s j) j xs (λ d u b more r. tt) (λ r. n) tt)
    (nobody-apart (actor (lane_sort s j) j xs))

some-not-none : (x : Option Admission) (y : Admission) → x ≡ Some y → is_none x ≡ true → ⊥
some-not-none None y e p = cc
some-not-none (Some z) y e p = cc

-- Who stands in a lane has not just been entered, and is no script of another lane.
apart-entered : (s : Scenario) (h : List Entry) (l k v : ℕ) (os : List Opener) → legal s h → ((o : Opener) → Among o os → Among o (openers h l)) → is_none (admitted h k) ≡ true → Apart (actor (lane_sort s l) l os) (Body k v)
apart-entered s h l k v os q f n =
    actor-is (λ x. Apart x (Body k v)) (lane_sort s l) l os
    (λ c o a rest p e. some-not-none (admitted h k) (admission_in c l a) (ap (admitted h) (sym e) ∙ open-admitted s h q l c o a (f (Enters c o a) (top-among c o a os rest p))) n)
    (λ p. tt) tt

-- A call that leaves is the top of its lane.
record TopOpen (os : List Opener) (k : ℕ) : Type 0 where
  object : ℕ
  apartment : ℕ
  among : Among (Enters k object apartment) os

top-open : (os : List Opener) (k : ℕ) → top_call (first os) ≡ Some k → TopOpen os k
top-open [] k e = cc
top-open (Pumps n ∷ os) k e = cc
top-open (Waits c ∷ os) k e = cc
top-open (Enters c o a ∷ os) k e = record { object = o; apartment = a; among = inl (ap (λ (j : ℕ). Enters j o a) (same e)) }
  where
    same : Some c ≡ Some k → c ≡ k
    same e = cc

-- Who stands in a lane is not who leaves in another.
apart-left : (s : Scenario) (h : List Entry) (l j k v : ℕ) (os : List Opener) → legal s h → (l ≡ j → ⊥) → ((o : Opener) → Among o os → Among o (openers h l)) → TopOpen (openers h j) k → Apart (actor (lane_sort s l) l os) (Body k v)
apart-left s h l j k v os q n f t =
    actor-is (λ x. Apart x (Body k v)) (lane_sort s l) l os
    (λ c o a rest p. other-call h c k l j a t.apartment (open-admitted s h q l c o a (f (Enters c o a) (top-among c o a os rest p))) (open-admitted s h q j k t.object t.apartment t.among) n)
    (λ p. tt) tt

apart-script : (s : Scenario) (l j : ℕ) (os : List Opener) → (l ≡ j → ⊥) → Apart (actor (lane_sort s l) l os) (Script j)
apart-script s l j os n = actor-is (λ x. Apart x (Script j)) (lane_sort s l) l os (λ c o a rest p. tt) (λ p. n) tt

other-than : (s : Scenario) (h : List Entry) (e : Entry) (x b : Actor) (d : Deed) → legal s (e ∷ h) → e.deed ≡ d → ((k v : ℕ) → is_none (admitted h k) ≡ true → Apart x (Body k v)) → ((k v : ℕ) → TopOpen (openers h e.lane) k → Apart x (Body k v)) → Apart x b → Apart x (Script e.lane) → OtherThan x b e.lane d
other-than s h e x b (deed.Leave c hr v bytes) q z f g p r = g c 0 (top-open (openers h e.lane) c (leave-own s h e.lane c hr v bytes (subst (λ (y : Deed). next s h e.lane ≡ Some y) z q.1)))
other-than s h e x b (deed.Enter c o a t vs) q z f g p r = f c o (next-comes s h e.lane (deed.Enter c o a t vs) (subst (λ (y : Deed). next s h e.lane ≡ Some y) z q.1)).0
other-than s h e x b (deed.Back c hr v) q z f g p r = p
other-than s h e x b deed.EndPump q z f g p r = p
other-than s h e x b (deed.Uninit a n) q z f g p r = r
other-than s h e x b _ q z f g p r = tt

-- An entry of one lane keeps the slots of who stands in another.
pub other-slots : (s : Scenario) (h : List Entry) (e : Entry) (l : ℕ) (os : List Opener) → Formed s → legal s (e ∷ h) → (e.lane == l) ≡ false → ((o : Opener) → Among o os → Among o (openers h l)) → slots_of (actor (lane_sort s l) l os) (scene s (e ∷ h)) ≡ slots_of (actor (lane_sort s l) l os) (scene s h)
other-slots s h e l os f q z g =
    let x : Actor = actor (lane_sort s l) l os in
    let n : (l ≡ e.lane → ⊥) = λ p. not-both (e.lane == l) z (subst (λ (k : ℕ). (e.lane == k) ≡ true) (sym p) (same-number e.lane)) in
    still-slots s h e x f q
    (still-apart x _ _ e.deed (acting-is (λ a. Apart x a) s (class_of h) (issue h) (scene s h) (actor_in s h e.lane) e.deed (apart-lanes s h l e.lane os (openers h e.lane) q.0 n g (λ o m. m)) (apart-nobody x)))
    (other-than s h e x (actor_in s (e ∷ h) e.lane) e.deed q refl (λ k v. apart-entered s h l k v os q.0 g) (λ k v. apart-left s h l e.lane k v os q.0 n g)
    (apart-lanes s (e ∷ h) l e.lane os (openers (e ∷ h) e.lane) q n (λ o m. subst (λ (ys : List Opener). Among o ys) (sym (openers-other h e l z)) (g o m)) (λ o m. m))
    (apart-script s l e.lane os n))
  where
    not-both : (b : Bool) → b ≡ false → b ≡ true → ⊥
    not-both b p q = cc

other-keeps : (x b : Actor) (l : ℕ) (d : Deed) → effect d ≡ Keeps → home_effect d ≡ Remains → OtherThan x b l d
other-keeps x b l (deed.Enter c o a t vs) e r = cc
other-keeps x b l (deed.Leave c hr v bytes) e r = cc
other-keeps x b l (deed.Back c hr v) e r = cc
other-keeps x b l deed.EndPump e r = cc
other-keeps x b l (deed.Uninit a n) e r = cc
other-keeps x b l _ e r = tt

-- An entry that keeps the openers of its lane, while a call waits on top, keeps the slots of who stands below.
pub own-slots-stay : (s : Scenario) (h : List Entry) (e : Entry) (c : ℕ) (os : List Opener) → Formed s → legal s (e ∷ h) → openers h e.lane ≡ Waits c ∷ os → effect e.deed ≡ Keeps → (x : Actor) → slots_of x (scene s (e ∷ h)) ≡ slots_of x (scene s h)
own-slots-stay s h e c os f q p k x =
    still-slots s h e x f q
    (still-apart x _ _ e.deed (subst (λ (ys : List Opener). Apart x (acting s (class_of h) (issue h) (scene s h) (actor (lane_sort s e.lane) e.lane ys) e.deed)) (sym p) (acting-is (λ a. Apart x a) s (class_of h) (issue h) (scene s h) Nobody e.deed (apart-nobody x) (apart-nobody x))))
    (other-keeps x (actor_in s (e ∷ h) e.lane) e.lane e.deed k (remains-by s h f q.0 (legal-base s h f q.0) e.lane e.deed (next-tops s h e q) (λ n. not-none (subst (λ (ys : List Opener). first ys ≡ None) p n))))
  where
    not-none : Some (Waits c) ≡ None → ⊥
    not-none e = cc
