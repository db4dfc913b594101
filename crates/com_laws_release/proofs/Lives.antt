-- What a call waits for, is connected as long as the call can be entered by another route than direct.
use Rattle.std.proofs.Common.{subst, sym, ap, ◌∙◌, inl, inr, eqb-true, arith}
use Rattle.std.proofs.lemmas.Bool.{false_from_ne_true}
use Rattle.std.proofs.lemmas.Grind.{common_steps}
use Rattle.std.specs.Prelude.{◌≡◌, refl, ℕ, zero, suc, ◌+◌, ◌≤◌, ◌<◌, Bool, true, false, not, cond, ◌==◌, ◌&&◌, ◌||◌, List, [], ◌∷◌, Option, Some, None, is_some, is_none}
use Rattle.com_base.specs.declared.value.RefValue.{RefValue}
use Rattle.com_body.specs.declared.actions.Action.{Action}
use Rattle.com_model.specs.declared.deeds.Deed.{Deed}
use Rattle.com_model.specs.declared.deeds.Deed.TheVariants as deed
use Rattle.com_model.specs.declared.deeds.Entry.{Entry}
use Rattle.com_model.specs.declared.deeds.Route.{Route}
use Rattle.com_model.specs.declared.deeds.Route.TheVariants as route
use Rattle.com_model.specs.declared.scenario.Scenario.{Scenario}
use Rattle.com_refs_books.specs.Counting.{sum_below}
use Rattle.com_model.specs.Lists.{or_else, where_true, number_or_zero, is_number}
use Rattle.com_model.specs.Tables.{LaneSort, Thread, Host, Pool, NoLane, lane_sort}
use Rattle.com_model.specs.Openers.{Effect, Opens, Closes, Keeps, Closer, EndsPump, Backs, Leaves, matches, fits, effect, opened, openers}
use Rattle.com_model.specs.declared.keeps.Opener.{Opener}
use Rattle.com_model.specs.declared.keeps.Opener.TheVariants.{Pumps, Waits, Enters}
use Rattle.com_model.specs.Apartments.{running, home, home_by_sort, thread_home, next_sta, ends_sta}
use Rattle.com_model.specs.Objects.{objects, makes, named, disconnects}
use Rattle.com_model.specs.Calls.{issues, issue_or, issue, calls, admits, admission_or, admitted, target, object_of, lane_of, route_of, is_marshalled}
use Rattle.com_model.specs.declared.keeps.Issue.{Issue}
use Rattle.com_model.specs.declared.keeps.Admission.{Admission}
use Rattle.com_model.specs.Frames.{Scene, scene, act}
use Rattle.com_model.specs.Endings.{cuts_object, cuts_sta, end_effect, ends, filtered, can_be_cut, ending, is_leave}
use Rattle.com_model.specs.declared.keeps.Ending.{Ending}
use Rattle.com_model.specs.declared.keeps.Ending.TheVariants.{ByDisconnection}
use Rattle.com_model.specs.Places.{Ground, ground, places, all_places, to_object, entered_in}
use Rattle.com_refs_books.specs.Changes.{Books, entered_rows, held_outside}
use Rattle.com_model.specs.Books.{rows, kept, made_by, most, books}
use Rattle.com_model.specs.Sight.{sight}
use Rattle.com_model.specs.Rules.{legal}
use Rattle.com_model.specs.Formed.{Formed}
use Rattle.com_model.proofs.Fines.{GoodHome, FineBy}
use Rattle.com_model.proofs.Scenes.{faces, GoodOpeners}
use Rattle.com_model.proofs.Kept.{legal-kept}
use Rattle.com_model.proofs.Stacks.{next-fits}
use Rattle.com_laws_balance.proofs.Holds.{rows-live}
use Rattle.com_laws_balance.proofs.Counts.{Among, PlaceOf, of_script, of_body, of_link, of_result, place-counts}
use Rattle.com_laws_balance.proofs.Lows.{more-stas}
use Rattle.com_laws_balance.proofs.Makings.{fine-next, same-named}
use Rattle.com_laws_balance.proofs.Says.{Says, next-says}
use Rattle.com_laws_balance.proofs.Tops.{issue-past}
use Rattle.com_laws_balance.proofs.Homes.{admitted-none}
use Rattle.com_laws_balance.proofs.Steps.{made-or-new, same-number}
use Rattle.com_laws_balance.proofs.Directs.{Over, over-below, openers-own, openers-other, issue-stays}
use Rattle.com_laws_balance.proofs.Pending.{apartment_of}
use Rattle.com_laws_release.proofs.Asked.{next-asked}
use Rattle.com_laws_release.proofs.Arrived.{slot-place}
use Rattle.com_laws_release.proofs.Targets.{TargetAt, legal-target}

-- ---- the apartment of a place is one

sorted-low : (a : ℕ) (sort : LaneSort) (x : Option ℕ) → 3 ≤ a → GoodHome a x → GoodHome a (home_by_sort sort x)
sorted-low a Thread x p q = q
sorted-low a Host x p q = omega (arith, p)
sorted-low a Pool x p q = omega (arith, p)
sorted-low a NoLane x p q = tt

number-low : (a n : ℕ) (x : Option ℕ) → GoodHome n x → is_number a x ≡ true → a < n
number-low a n None p e = cc
number-low a n (Some b) p e = subst (λ (k : ℕ). k < n) (sym (eqb-true a b e)) p

among-low : (n c k : ℕ) (os : List Opener) (j x a : ℕ) → GoodOpeners n c k os → Among (Enters j x a) os → a < k
among-low n c k [] j x a g m = absurd m
among-low n c k (Enters i o b ∷ os) j x a g (inl e) = subst (λ (y : ℕ). y < k) (same e) g.0.2
  where
    same : Enters i o b ≡ Enters j x a → b ≡ a
    same e = cc
among-low n c k (Enters i o b ∷ os) j x a g (inr m) = among-low n c k os j x a g.1 m
among-low n c k (Pumps i ∷ os) j x a g (inl e) = cc
among-low n c k (Pumps i ∷ os) j x a g (inr m) = among-low n c k os j x a g m
among-low n c k (Waits i ∷ os) j x a g (inl e) = cc
among-low n c k (Waits i ∷ os) j x a g (inr m) = among-low n c k os j x a g m

-- The apartment in which a call was admitted.
abbrev LowAdmission : ℕ → Option Admission → Type 0
LowAdmission n None = Unit {0}
LowAdmission n (Some y) = y.apartment < n

more-low : (n m : ℕ) (x : Option Admission) → n ≤ m → LowAdmission n x → LowAdmission m x
more-low n m None p q = tt
more-low n m (Some y) p q = omega (arith, p, q)

admits-low : (n m y k l c : ℕ) (d : Deed) (x : Option Admission) → y ≤ k → FineBy n m y d → LowAdmission k x → LowAdmission k (admission_or (admits l d) c x)
admits-low n m y k l c (deed.Enter j o b t vs) x p f g = by-test (j == c)
  where
    by-test : (t : Bool) → LowAdmission k (cond t (Some (record { call = j; lane = l; apartment = b })) x)
    by-test true = let z : b < y = f.1 in omega (arith, z, p)
    by-test false = g
admits-low n m y k l c _ x p f g = g

admission-low : (s : Scenario) (h : List Entry) (c : ℕ) → Formed s → legal s h → LowAdmission (next_sta h) (admitted h c)
admission-low s [] c f q = tt
admission-low s (e ∷ h) c f q =
    let p : next_sta h ≤ next_sta (e ∷ h) = more-stas _ _ in
    admits-low (objects h) (faces s) (next_sta h) (next_sta (e ∷ h)) e.lane c e.deed (admitted h c) p (fine-next s h e f q)
    (more-low (next_sta h) (next_sta (e ∷ h)) (admitted h c) p (admission-low s h c f q.0))

entered-low : (a n : ℕ) (x : Option Admission) → LowAdmission n x → entered_in a x ≡ true → a < n
entered-low a n None g e = cc
entered-low a n (Some y) g e = subst (λ (k : ℕ). k < n) (eqb-true y.apartment a e) g

pub place-low : (s : Scenario) (h : List Entry) (a : ℕ) (r : RefValue) → Formed s → legal s h → PlaceOf s (ground s h) (scene s h) a r → a < next_sta h
place-low s h a r f q (of_script l k low n e) = number-low a (next_sta h) (home s h l) (sorted-low (next_sta h) (lane_sort s l) (thread_home h l) (omega arith) ((legal-kept s h f q).homes l)) n
place-low s h a r f q (of_body l c x k low m e) = among-low _ _ _ (openers h l) c x a ((legal-kept s h f q).opens l) m
place-low s h a r f q (of_link x k low n e) = subst (λ (y : ℕ). y < next_sta h) n ((legal-kept s h f q).named x)
place-low s h a r f q (of_result c low d m n e) = entered-low a (next_sta h) (admitted h c) (admission-low s h c f q) m

-- ---- a place counts among all

term-sum : (n k : ℕ) (g : ℕ → ℕ) → k < n → 1 ≤ g k → 1 ≤ sum_below n g
term-sum zero k g h p = absurd (omega (arith, h))
term-sum (suc n) k g h p =
    elim (k == n) as (λ t. (k == n) ≡ t → 1 ≤ sum_below (suc n) g) [
      | true ↦ λ e. let q : 1 ≤ g n = subst (λ (j : ℕ). 1 ≤ g j) (eqb-true k n e) p in omega (arith, q)
      | false ↦ λ e. let q : 1 ≤ sum_below n g = term-sum n k g (grind (arith, common_steps, e, h)) p in omega (arith, q)
    ] refl

pub object-placed : (s : Scenario) (g : Ground) (w : Scene) (a o : ℕ) (r : RefValue) → r.object ≡ o → PlaceOf s g w a r → 1 ≤ places s g w a o
object-placed s g w a o r e p = place-counts s g w a (to_object o) r p (subst (λ (k : ℕ). (r.object == k) ≡ true) e (same-number r.object))

placed-all : (s : Scenario) (g : Ground) (w : Scene) (a o : ℕ) (r : RefValue) → r.object ≡ o → a < g.apartments → PlaceOf s g w a r → 1 ≤ all_places s g w o
placed-all s g w a o r e low p = term-sum g.apartments a (λ b. places s g w b o) low (object-placed s g w a o r e p)

-- ---- what stays connected

kept-live : (before after : Books) (d : Deed) (o : ℕ) → (kept before d after).live o ≡ after.live o
kept-live x b (deed.Out c u j m r cause bytes) o = refl
kept-live x b (deed.Leave c hr v bytes) o = refl
kept-live x b _ o = refl

most-live : (s : Scenario) (g : Ground) (w : Scene) (x : Option Action) (left : ℕ → Bool) (z : ℕ) (d : Deed) (b : Books) (o : ℕ) → (most s g w x left z d b).live o ≡ b.live o
most-live s g w x left z d b o = kept-live b (entered_rows g.owns b (rows s x left b z d)) d o ∙ rows-live g.owns b (rows s x left b z d) o

all-true : (m l d n z : Bool) → l ≡ true → d ≡ false → n ≡ false → z ≡ false → ((m || l) && (not d && (not n && not z))) ≡ true
all-true true l false false false p q r t = refl
all-true false true false false false p q r t = refl
all-true false false d n z p q r t = cc
all-true m l true n z p q r t = cc
all-true m l d true z p q r t = cc
all-true m l d n true p q r t = cc

held-some : (n k : ℕ) → 1 ≤ n → (n + k == 0) ≡ false
held-some n k p = false_from_ne_true (n + k == 0) (λ e. let z : n + k ≡ 0 = eqb-true (n + k) 0 e in omega (arith, z, p))

still-live : (s : Scenario) (h : List Entry) (e : Entry) (o : ℕ) → (books s h).live o ≡ true → is_number o (disconnects e.deed) ≡ false → is_number (named (e ∷ h) o) (ends_sta e.deed) ≡ false → 1 ≤ all_places s (ground s (e ∷ h)) (scene s (e ∷ h)) o → (books s (e ∷ h)).live o ≡ true
still-live s h e o p d n z =
    let b : Books = most s (ground s (e ∷ h)) (scene s (e ∷ h)) (act s h e.lane) (λ c. is_leave (ending s h c)) (number_or_zero (running s h e.lane)) e.deed (books s h) in
    all-true (made_by (makes e.deed) o) (b.live o) (is_number o (disconnects e.deed)) (is_number (named (e ∷ h) o) (ends_sta e.deed)) (all_places s (ground s (e ∷ h)) (scene s (e ∷ h)) o + held_outside b o == 0)
    (most-live s (ground s (e ∷ h)) (scene s (e ∷ h)) (act s h e.lane) (λ c. is_leave (ending s h c)) (number_or_zero (running s h e.lane)) e.deed (books s h) o ∙ p) d n
    (held-some (all_places s (ground s (e ∷ h)) (scene s (e ∷ h)) o) (held_outside b o) z)

-- ---- a call without answer waits

kept-waits : (c : ℕ) (x : Effect) (os : List Opener) → fits x os → (x ≡ Closes (Backs c) → ⊥) → Among (Waits c) os → Among (Waits c) (opened x os)
kept-waits c (Opens o) os f n m = inr m
kept-waits c Keeps os f n m = m
kept-waits c (Closes k) [] f n m = m
kept-waits c (Closes k) (y ∷ os) f n (inr m) = m
kept-waits c (Closes k) (y ∷ os) f n (inl e) = absurd (closes k (subst (matches k) e f) n)
  where
    closes : (k : Closer) → matches k (Waits c) → (Closes k ≡ Closes (Backs c) → ⊥) → ⊥
    closes EndsPump p n = p
    closes (Leaves j) p n = p
    closes (Backs j) p n = n (ap (λ (i : ℕ). Closes (Backs i)) p)

back-ended : (s : Scenario) (h : List Entry) (l c : ℕ) (d : Deed) → Says s (sight s h) l d → effect d ≡ Closes (Backs c) → is_some (ending s h c) ≡ true
back-ended s h l c (deed.Back k hr v) z e = subst (λ (j : ℕ). is_some (ending s h j) ≡ true) (same e) z.0
  where
    same : Closes (Backs k) ≡ Closes (Backs c) → k ≡ c
    same e = cc
back-ended s h l c (deed.Out k o i m r cause bytes) z e = cc
back-ended s h l c (deed.Enter k o a t vs) z e = cc
back-ended s h l c (deed.Pump n) z e = cc
back-ended s h l c deed.EndPump z e = cc
back-ended s h l c (deed.Leave k hr v bytes) z e = cc
back-ended s h l c _ z e = cc

none-some : (x : Option Ending) → x ≡ None → is_some x ≡ true → ⊥
none-some None e p = cc
none-some (Some y) e p = cc

both-none : (x y : Option Ending) → or_else x y ≡ None → (x ≡ None) × (y ≡ None)
both-none None y e = (refl, e)
both-none (Some z) y e = cc

waits-own : (s : Scenario) (h : List Entry) (e : Entry) (l c : ℕ) → legal s (e ∷ h) → ending s h c ≡ None → Among (Waits c) (openers h l) → Among (Waits c) (openers (e ∷ h) l)
waits-own s h e l c q n m =
    elim (e.lane == l) as (λ t. (e.lane == l) ≡ t → Among (Waits c) (openers (e ∷ h) l)) [
      | true ↦ λ z. subst (λ (j : ℕ). Among (Waits c) (openers h j) → Among (Waits c) (openers (e ∷ h) j)) (eqb-true e.lane l z)
          (λ u. subst (λ (os : List Opener). Among (Waits c) os) (sym (openers-own h e))
          (kept-waits c (effect e.deed) (openers h e.lane) (next-fits s h e.lane e.deed q.1) (λ y. none-some (ending s h c) n (back-ended s h e.lane c e.deed (next-says s h e.lane e.deed q.1) y)) u)) m
      | false ↦ λ z. subst (λ (os : List Opener). Among (Waits c) os) (sym (openers-other h e l z)) m
    ] refl

issued-waits : (h : List Entry) (l c : ℕ) (d : Deed) → issue h c ≡ None → is_some (issue_or (issues l d) c (issue h c)) ≡ true → Among (Waits c) (openers (record { lane = l; deed = d } ∷ h) (lane_of (issue_or (issues l d) c (issue h c))))
issued-waits h l c (deed.Out k o i m r cause bytes) n p =
    elim (k == c) as (λ t. (k == c) ≡ t → is_some (cond t (Some (record { call = k; lane = l; object = o; iface = i; method = m; route = r; cause = cause })) (issue h c)) ≡ true → Among (Waits c) (openers (record { lane = l; deed = deed.Out k o i m r cause bytes } ∷ h) (lane_of (cond t (Some (record { call = k; lane = l; object = o; iface = i; method = m; route = r; cause = cause })) (issue h c))))) [
      | true ↦ λ e z. subst (λ (os : List Opener). Among (Waits c) os) (sym (openers-own h (record { lane = l; deed = deed.Out k o i m r cause bytes }))) (inl (ap (λ (j : ℕ). Waits j) (eqb-true k c e)))
      | false ↦ λ e z. absurd (not-some (issue h c) n z)
    ] refl p
  where
    not-some : (x : Option Issue) → x ≡ None → is_some x ≡ true → ⊥
    not-some None e p = cc
    not-some (Some y) e p = cc
issued-waits h l c d n p = absurd (not-some (issue h c) n (others d p))
  where
    not-some : (x : Option Issue) → x ≡ None → is_some x ≡ true → ⊥
    not-some None e p = cc
    not-some (Some y) e p = cc

    others : (d : Deed) → is_some (issue h c) ≡ true → is_some (issue h c) ≡ true
    others d p = p

-- A call that was issued and has no answer waits in its lane.
pub legal-waits : (s : Scenario) (h : List Entry) (c : ℕ) → legal s h → is_some (issue h c) ≡ true → ending s h c ≡ None → Among (Waits c) (openers h (lane_of (issue h c)))
legal-waits s [] c q i n = cc
legal-waits s (e ∷ h) c q i n =
    elim (made-or-new (calls h) c) as (λ _. Among (Waits c) (openers (e ∷ h) (lane_of (issue (e ∷ h) c)))) [
      | inl low ↦
          let same : issue (e ∷ h) c ≡ issue h c = issue-stays s h e c q low in
          let z : ending s h c ≡ None = (both-none (ending s h c) _ n).0 in
          subst (λ (x : Option Issue). Among (Waits c) (openers (e ∷ h) (lane_of x))) (sym same)
          (waits-own s h e (lane_of (issue h c)) c q z (legal-waits s h c q.0 (subst (λ (x : Option Issue). is_some x ≡ true) same i) z))
      | inr past ↦ issued-waits h e.lane c e.deed (issue-past s h c q.0 past) i
    ]

-- ---- a call that is not answered was not cut

cut-other : (n o : ℕ) (t : Bool) → t ≡ true → where_true (t && n == o) ByDisconnection ≡ None → (o == n) ≡ false
cut-other n o true p e = false_from_ne_true (o == n) (λ z. same-none (subst (λ (k : ℕ). where_true (n == k) ByDisconnection ≡ None) (eqb-true o n z) e))
  where
    same-none : where_true (n == n) ByDisconnection ≡ None → ⊥
    same-none e = not-none (subst (λ (b : Bool). where_true b ByDisconnection ≡ None) (same-number n) e)
      where
        not-none : Some ByDisconnection ≡ None → ⊥
        not-none e = cc
cut-other n o false p e = cc

not-cut : (f : ℕ → Bool) (d : Deed) (c o a : ℕ) (t : Bool) → t ≡ true → ends (end_effect f d) c o a t ≡ None → (is_number o (disconnects d) ≡ false) × (is_number a (ends_sta d) ≡ false)
not-cut f (deed.Disconnect u hr) c o a t p e = (by-object (disconnects (deed.Disconnect u hr)) e, refl)
  where
    by-object : (x : Option ℕ) → ends (cuts_object x) c o a t ≡ None → is_number o x ≡ false
    by-object None e = refl
    by-object (Some n) e = cut-other n o t p e
not-cut f (deed.Uninit u k) c o a t p e = (refl, by-sta (ends_sta (deed.Uninit u k)) e)
  where
    by-sta : (x : Option ℕ) → ends (cuts_sta x) c o a t ≡ None → is_number a x ≡ false
    by-sta None e = refl
    by-sta (Some n) e = cut-other n a t p e
not-cut f _ c o a t p e = (refl, refl)

-- ---- what waits for admission by another route than direct

pub record Beneath (c : ℕ) (os : List Opener) : Type 0 where
  pub rest : List Opener
  pub is : Over c rest os

pub among-over : (c : ℕ) (os : List Opener) → Among (Waits c) os → Beneath c os
among-over c [] m = absurd m
among-over c (x ∷ os) (inl e) = record { rest = os; is = inl (e, refl) }
among-over c (x ∷ os) (inr m) = let k : Beneath c os = among-over c os m in record { rest = k.rest; is = inr k.is }

not-refused : (r : Route) → is_marshalled r ≡ true → r ≡ route.Refused → ⊥
not-refused route.Refused m e = cc
not-refused route.Direct m e = cc
not-refused route.Switch m e = cc
not-refused route.Post m e = cc

marshalled-some : (i : Option Issue) → is_marshalled (route_of i) ≡ true → is_some i ≡ true
marshalled-some None m = cc
marshalled-some (Some y) m = refl

-- The target of a call that waits without answer is at a place.
target-placed : (s : Scenario) (h : List Entry) (c : ℕ) → Formed s → legal s h → is_marshalled (route_of (issue h c)) ≡ true → ending s h c ≡ None → 1 ≤ all_places s (ground s h) (scene s h) (target h c)
target-placed s h c f q m n =
    let l : ℕ = lane_of (issue h c) in
    let k : Beneath c (openers h l) = among-over c (openers h l) (legal-waits s h c q (marshalled-some (issue h c) m) n) in
    by-target l k.rest k.is (legal-target s h l c k.rest f q k.is)
  where
    by-target : (l : ℕ) (os : List Opener) → Over c os (openers h l) → TargetAt s h l c os → 1 ≤ all_places s (ground s h) (scene s h) (target h c)
    by-target l os k (inl e) = absurd (not-refused (route_of (issue h c)) m e)
    by-target l os k (inr t) =
        let p : PlaceOf s (ground s h) (scene s h) (apartment_of os (home s h l)) t.reference = slot-place s h l os t.reference f q (λ o y. over-below c os (openers h l) o k y) t.at in
        placed-all s (ground s h) (scene s h) (apartment_of os (home s h l)) (target h c) t.reference t.is (place-low s h (apartment_of os (home s h l)) t.reference f q p) p

both-true : (p q : Bool) → p ≡ true → q ≡ true → (p && q) ≡ true
both-true true q e f = f
both-true false q e f = cc

none-none : (x : Option Admission) → x ≡ None → is_none x ≡ true
none-none None e = refl
none-none (Some y) e = cc

live-old : (s : Scenario) (h : List Entry) (e : Entry) (c : ℕ) → Formed s → legal s (e ∷ h) → c ≤ calls h → is_marshalled (route_of (issue (e ∷ h) c)) ≡ true → ending s (e ∷ h) c ≡ None → admitted h c ≡ None → (books s h).live (target h c) ≡ true → (books s (e ∷ h)).live (target (e ∷ h) c) ≡ true
live-old s h e c f q low m n a p =
    let same : issue (e ∷ h) c ≡ issue h c = issue-stays s h e c q low in
    let u : is_marshalled (route_of (issue h c)) ≡ true = subst (λ (x : Option Issue). is_marshalled (route_of x) ≡ true) same m in
    let z : (is_number (target h c) (disconnects e.deed) ≡ false) × (is_number (named h (target h c)) (ends_sta e.deed) ≡ false) =
    not-cut (filtered s h) e.deed c (target h c) (named h (target h c)) (can_be_cut (issue h c) (admitted h c)) (both-true (is_marshalled (route_of (issue h c))) (is_none (admitted h c)) u (none-none (admitted h c) a)) (both-none (ending s h c) _ n).1 in
    subst (λ (k : ℕ). (books s (e ∷ h)).live k ≡ true) (sym (ap object_of same))
    (still-live s h e (target h c) p z.0 (subst (λ (k : ℕ). is_number k (ends_sta e.deed) ≡ false) (sym (same-named s h e (target h c) f q ((legal-kept s h f q.0).targets c))) z.1)
    (subst (λ (k : ℕ). 1 ≤ all_places s (ground s (e ∷ h)) (scene s (e ∷ h)) k) (ap object_of same) (target-placed s (e ∷ h) c f q m n)))

live-new : (s : Scenario) (h : List Entry) (l c : ℕ) (d : Deed) → Formed s → legal s (record { lane = l; deed = d } ∷ h) → issue h c ≡ None → is_marshalled (route_of (issue_or (issues l d) c (issue h c))) ≡ true → ending s (record { lane = l; deed = d } ∷ h) c ≡ None → (books s (record { lane = l; deed = d } ∷ h)).live (object_of (issue_or (issues l d) c (issue h c))) ≡ true
live-new s h l c (deed.Out k o i m r cause bytes) f q i0 mark n =
    elim (k == c) as (λ t. (k == c) ≡ t → is_marshalled (route_of (cond t (Some (record { call = k; lane = l; object = o; iface = i; method = m; route = r; cause = cause })) (issue h c))) ≡ true → 1 ≤ all_places s (ground s (record { lane = l; deed = deed.Out k o i m r cause bytes } ∷ h)) (scene s (record { lane = l; deed = deed.Out k o i m r cause bytes } ∷ h)) (object_of (cond t (Some (record { call = k; lane = l; object = o; iface = i; method = m; route = r; cause = cause })) (issue h c))) → (books s (record { lane = l; deed = deed.Out k o i m r cause bytes } ∷ h)).live (object_of (cond t (Some (record { call = k; lane = l; object = o; iface = i; method = m; route = r; cause = cause })) (issue h c))) ≡ true) [
      | true ↦ λ e z p. still-live s h (record { lane = l; deed = deed.Out k o i m r cause bytes }) (number_or_zero o) (next-asked s h l (deed.Out k o i m r cause bytes) q.1 z) refl refl p
      | false ↦ λ e z p. absurd (not-some (issue h c) i0 (marshalled-some (issue h c) z))
    ] refl mark (target-placed s (record { lane = l; deed = deed.Out k o i m r cause bytes } ∷ h) c f q mark n)
  where
    not-some : (x : Option Issue) → x ≡ None → is_some x ≡ true → ⊥
    not-some None e p = cc
    not-some (Some y) e p = cc
live-new s h l c d f q i0 mark n = absurd (not-some (issue h c) i0 (others d mark))
  where
    not-some : (x : Option Issue) → x ≡ None → is_some x ≡ true → ⊥
    not-some None e p = cc
    not-some (Some y) e p = cc

    others : (d : Deed) → is_marshalled (route_of (issue h c)) ≡ true → is_some (issue h c) ≡ true
    others d z = marshalled-some (issue h c) z

-- The target of a call that is switched or posted is connected until the call is entered or gets an answer.
pub legal-live : (s : Scenario) (h : List Entry) (c : ℕ) → Formed s → legal s h → is_marshalled (route_of (issue h c)) ≡ true → ending s h c ≡ None → admitted h c ≡ None → (books s h).live (target h c) ≡ true
legal-live s [] c f q m n a = cc
legal-live s (e ∷ h) c f q m n a =
    elim (made-or-new (calls h) c) as (λ _. (books s (e ∷ h)).live (target (e ∷ h) c) ≡ true) [
      | inl low ↦
          let b : admitted h c ≡ None = admitted-none (admits e.lane e.deed) c (admitted h c) a in
          live-old s h e c f q low m n b
          (legal-live s h c f q.0 (subst (λ (x : Option Issue). is_marshalled (route_of x) ≡ true) (issue-stays s h e c q low) m) (both-none (ending s h c) _ n).0 b)
      | inr past ↦ live-new s h e.lane c e.deed f q (issue-past s h c q.0 past) m n
    ]
