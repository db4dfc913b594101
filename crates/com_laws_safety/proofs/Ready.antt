-- An open Enter of a lane names its home or the neutral apartment, and a call that waits there was issued by the lane, on the way
-- that its route says.
use Rattle.std.proofs.Common.{subst, sym, ap, eqb-true, ◌∙◌, inl, inr, arith}
use Rattle.std.specs.Prelude.{◌≡◌, refl, ℕ, ◌+◌, ◌≤◌, Bool, true, false, cond, not, ◌==◌, ◌||◌, ◌&&◌, nat_le, length, List, [], ◌∷◌, Option, Some, None, is_none, ◌⊎◌}
use Rattle.com_model.specs.declared.deeds.Deed.{Deed}
use Rattle.com_model.specs.declared.deeds.Deed.TheVariants as deed
use Rattle.com_model.specs.declared.deeds.Entry.{Entry}
use Rattle.com_model.specs.declared.deeds.Route.{Route}
use Rattle.com_model.specs.declared.deeds.Route.TheVariants as route
use Rattle.com_model.specs.declared.scenario.Scenario.{Scenario}
use Rattle.com_model.specs.Answers.{RPC_E_OUT_OF_RESOURCES, RPC_E_SERVER_CANTUNMARSHAL_DATA}
use Rattle.com_model.specs.Lists.{or_else, first, without_first, number_or_zero, is_number, where_true}
use Rattle.com_model.specs.Tables.{LaneSort, lane_sort, is_agile_class}
use Rattle.com_model.specs.Openers.{Keeps, effect, opened, openers, entered_apartment}
use Rattle.com_model.specs.declared.keeps.Opener.{Opener}
use Rattle.com_model.specs.declared.keeps.Opener.TheVariants.{Pumps, Waits, Enters}
use Rattle.com_model.specs.Apartments.{neutral, mta, is_sta, thread_home, home_by_sort, home, running, serves}
use Rattle.com_model.specs.Objects.{asked_number, makes, made_or, making, objects, named, agile, owner}
use Rattle.com_model.specs.declared.keeps.Making.{Making}
use Rattle.com_model.specs.Calls.{issue, calls, target, object_of, lane_of, route_of, is_post}
use Rattle.com_model.specs.declared.keeps.Issue.{Issue}
use Rattle.com_model.specs.Endings.{Answer, ending}
use Rattle.com_model.specs.declared.keeps.Ending.{Ending}
use Rattle.com_model.specs.declared.keeps.Ending.TheVariants.{AtIssue}
use Rattle.com_model.specs.Waiting.{postings}
use Rattle.com_model.specs.Deeds.{uninitialised}
use Rattle.com_model.specs.Formed.{Formed}
use Rattle.com_model.specs.Sight.{Sight, sight}
use Rattle.com_model.specs.Rules.{posted_to_sta, call_sort, verdict_on, is_handled_in, arguments_gone, admission, packet_left, answered, after_script, legal}
use Rattle.com_model.specs.Safe.{Either, InApartment, Apartment, InServing, Stacked, OneStack}
use Rattle.com_model.proofs.Given.{cond-of}
use Rattle.com_model.proofs.Comes.{Comes, sort_of, next-comes}
use Rattle.com_model.proofs.Stacks.{legal-nested}
use Rattle.com_laws_safety.proofs.Small.{not-both, differ, or-right, or-second, neither, not-either, cond-when, same-number}
use Rattle.com_laws_safety.proofs.Sources.{IsRest, Source, by_body, by_script, by_end, by_final, by_own, by_answer, by_inbox, by_retry, by_again, by_rest, next-source}
use Rattle.com_laws_safety.proofs.Acted.{ActionSort, action_sort, OfAction, deed-acted}
use Rattle.com_laws_safety.proofs.Waits.{First, first-in, Taken, in_pool, in_sta, next-taken, Own, own-enters}
use Rattle.com_laws_safety.proofs.Caused.{each-next, each-prefix}
use Rattle.com_laws_safety.proofs.OnTop.{made-on-top, legal-on-top}
use Rattle.com_laws_safety.proofs.Posted.{NewOut, next-new, other-call, issue-kept}
use Rattle.com_model.proofs.Kept.{legal-kept}
use Rattle.com_laws_safety.proofs.Facts.{near, RouteFact, Fact, source-fact}
use Rattle.com_laws_safety.proofs.Served.{named-of, class-in, home-served, home-stays, agile-neutral}

-- ---- an object that was made keeps what its Made says

abbrev NewMade : ℕ → Deed → Type 0
NewMade n (deed.Made (Some o) (Some a) k i hr) = o ≡ n + 1
NewMade n _ = Unit {0}

new-made : (s : Scenario) (h : List Entry) (l : ℕ) (d : Deed) → Comes s (sight s h) (postings h) (openers h l) (sort_of d) → NewMade (objects h) d
new-made s h l (deed.Made (Some o) (Some a) k i hr) p = p
new-made s h l (deed.Made (Some o) None k i hr) p = tt
new-made s h l (deed.Made None a k i hr) p = tt
new-made s h l _ p = tt

making-kept : (h : List Entry) (o : ℕ) (d : Deed) → NewMade (objects h) d → o ≤ objects h → made_or (makes d) o (making h o) ≡ making h o
making-kept h o (deed.Made (Some k) (Some a) c i hr) e p = ap (λ (b : Bool). cond b (Some (record { object = k; apartment = a; class = asked_number c })) (making h o)) (other-call k o (objects h) e p)
making-kept h o (deed.Made (Some k) None c i hr) e p = refl
making-kept h o (deed.Made None a c i hr) e p = refl
making-kept h o _ e p = refl

-- ---- a call that waits

abbrev Way : Route → (agile : Bool) → (named : ℕ) → (home : Option ℕ) → Option Ending → (below : ℕ) → Type 0
Way route.Direct g n home x u = (g || u == n) ≡ true
Way route.Switch g n home x u = near home n ≡ true
Way route.Post g n home x u = Unit {0}
Way route.Refused g n home x u = is_none x ≡ false

record Ready (s : Scenario) (h : List Entry) (home : Option ℕ) (l c u : ℕ) : Type 0 where
  issued : c ≤ calls h
  lane : lane_of (issue h c) ≡ l
  way : Way (route_of (issue h c)) (agile s h (target h c)) (named h (target h c)) home (ending s h c) u

abbrev AllReady : Scenario → List Entry → Option ℕ → ℕ → List Opener → Type 0
AllReady s h home l [] = Unit {0}
AllReady s h home l (Pumps n ∷ os) = AllReady s h home l os
AllReady s h home l (Waits c ∷ os) = Ready s h home l c (number_or_zero (or_else (entered_apartment os) home)) × AllReady s h home l os
AllReady s h home l (Enters c o a ∷ os) = (near home a ≡ true) × AllReady s h home l os

home-near : (home : Option ℕ) → near home (number_or_zero home) ≡ true
home-near None = refl
home-near (Some x) = or-right (x == neutral) (x == x) (same-number x)

running-near : (s : Scenario) (h : List Entry) (home : Option ℕ) (l : ℕ) (os : List Opener) → AllReady s h home l os → near home (number_or_zero (or_else (entered_apartment os) home)) ≡ true
running-near s h home l [] p = home-near home
running-near s h home l (Pumps n ∷ os) p = running-near s h home l os p
running-near s h home l (Waits c ∷ os) p = running-near s h home l os p.1
running-near s h home l (Enters c o a ∷ os) p = p.0

way-more : (r : Route) (g : Bool) (n : ℕ) (home : Option ℕ) (x y : Option Ending) (u : ℕ) → Way r g n home x u → Way r g n home (or_else x y) u
way-more route.Direct g n home x y u p = p
way-more route.Switch g n home x y u p = p
way-more route.Post g n home x y u p = p
way-more route.Refused g n home None y u p = cc
way-more route.Refused g n home (Some x) y u p = p

ready-kept : (s : Scenario) (h : List Entry) (e : Entry) (home : Option ℕ) (l c u : ℕ) → NewOut (calls h) e.deed → NewMade (objects h) e.deed → target h c ≤ objects h → Ready s h home l c u → Ready s (e ∷ h) home l c u
ready-kept s h e home l c u n m t r =
    let i : issue (e ∷ h) c ≡ issue h c = issue-kept h e.lane c e.deed n r.issued in
    let k : making (e ∷ h) (target h c) ≡ making h (target h c) = making-kept h (target h c) e.deed m t in
    record {
      issued = let p : c ≤ calls h = r.issued in omega (arith, p);
      lane = subst (λ (x : Option Issue). lane_of x ≡ l) (sym i) r.lane;
      way = subst (λ (x : Option Issue). Way (route_of x) (agile s (e ∷ h) (object_of x)) (named (e ∷ h) (object_of x)) home (ending s (e ∷ h) c) u) (sym i)
          (subst (λ (y : Option Making). Way (route_of (issue h c)) (is_agile_class s (class-in y)) (named-of y) home (ending s (e ∷ h) c) u) (sym k)
          (way-more (route_of (issue h c)) (agile s h (target h c)) (named h (target h c)) home (ending s h c) _ u r.way));
    }

all-kept : (s : Scenario) (h : List Entry) (e : Entry) (home : Option ℕ) (l : ℕ) (os : List Opener) → NewOut (calls h) e.deed → NewMade (objects h) e.deed → ((c : ℕ) → target h c ≤ objects h) → AllReady s h home l os → AllReady s (e ∷ h) home l os
all-kept s h e home l [] n m t p = tt
all-kept s h e home l (Pumps k ∷ os) n m t p = all-kept s h e home l os n m t p
all-kept s h e home l (Waits c ∷ os) n m t p = (ready-kept s h e home l c _ n m (t c) p.0, all-kept s h e home l os n m t p.1)
all-kept s h e home l (Enters c o a ∷ os) n m t p = (p.0, all-kept s h e home l os n m t p.1)

all-rest : (s : Scenario) (h : List Entry) (home : Option ℕ) (l : ℕ) (os : List Opener) → AllReady s h home l os → AllReady s h home l (without_first os)
all-rest s h home l [] p = tt
all-rest s h home l (Pumps k ∷ os) p = p
all-rest s h home l (Waits c ∷ os) p = p.1
all-rest s h home l (Enters c o a ∷ os) p = p.1

-- ---- a new Out

fixed : (x : Option Ending) (b : Bool) → b ≡ true → is_none (or_else x (where_true b AtIssue)) ≡ false
fixed None true e = refl
fixed None false e = cc
fixed (Some x) b e = refl

out-way : (s : Scenario) (h : List Entry) (l c i m k : ℕ) (o : Option ℕ) (r : Route) (bytes : Option (List ℕ)) → RouteFact (sight s h) l (number_or_zero o) r → Way r (agile s h (number_or_zero o)) (named h (number_or_zero o)) (home s h l) (ending s (record { lane = l; deed = deed.Out c o i m r k bytes } ∷ h) c) (number_or_zero (running s h l))
out-way s h l c i m k o route.Direct bytes p = p
out-way s h l c i m k o route.Switch bytes p = p
out-way s h l c i m k o route.Post bytes p = tt
out-way s h l c i m k o route.Refused bytes p = fixed (ending s h c) (c == c) (same-number c)

new-ready : (s : Scenario) (h : List Entry) (l c i m k : ℕ) (o : Option ℕ) (r : Route) (bytes : Option (List ℕ)) → c ≡ calls h + 1 → RouteFact (sight s h) l (number_or_zero o) r → Ready s (record { lane = l; deed = deed.Out c o i m r k bytes } ∷ h) (home s h l) l c (number_or_zero (running s h l))
new-ready s h l c i m k o r bytes n f =
    let e : Entry = record { lane = l; deed = deed.Out c o i m r k bytes } in
    let w : Issue = record { call = c; lane = l; object = o; iface = i; method = m; route = r; cause = k } in
    let q : issue (e ∷ h) c ≡ Some w = ap (λ (b : Bool). cond b (Some w) (issue h c)) (same-number c) in
    record {
      issued = omega (arith, n);
      lane = ap lane_of q;
      way = subst (λ (x : Option Issue). Way (route_of x) (agile s h (object_of x)) (named h (object_of x)) (home s h l) (ending s (e ∷ h) c) (number_or_zero (running s h l))) (sym q) (out-way s h l c i m k o r bytes f);
    }

-- ---- an Enter

home-of : (n : ℕ) (home : Option ℕ) → (n == neutral) ≡ false → near home n ≡ true → home ≡ Some n
home-of n home z p = of-number home (or-second (n == neutral) (is_number n home) z p)
  where
    of-number : (x : Option ℕ) → is_number n x ≡ true → x ≡ Some n
    of-number None p = cc
    of-number (Some x) p = ap (λ (y : ℕ). Some y) (sym (eqb-true n x p))

not-neutral : (a : ℕ) → is_sta a ≡ true → (a == neutral) ≡ false
not-neutral a t = differ (a == neutral) (λ e. not-both (is_sta a) t (ap is_sta (eqb-true a neutral e)))

either-by : (b : Bool) (A B : Type 0) → (b ≡ true → A) → (b ≡ false → B) → Either b A B
either-by true A B p q = p refl
either-by false A B p q = q refl

direct-near : (g : Bool) (u n : ℕ) (home : Option ℕ) → (g || u == n) ≡ true → g ≡ false → near home u ≡ true → near home n ≡ true
direct-near true u n home p z q = cc
direct-near false u n home p z q = subst (λ (x : ℕ). near home x ≡ true) (eqb-true u n p) q

way-near : (r : Route) (g : Bool) (n : ℕ) (home : Option ℕ) (x : Option Ending) (u : ℕ) → Way r g n home x u → g ≡ false → is_post r ≡ false → x ≡ None → near home u ≡ true → near home n ≡ true
way-near route.Direct g n home x u p z q e f = direct-near g u n home p z f
way-near route.Switch g n home x u p z q e f = p
way-near route.Post g n home x u p z q e f = cc
way-near route.Refused g n home x u p z q e f = absurd (not-both (is_none x) (ap is_none e) p)

abbrev InPlace : Scenario → List Entry → ℕ → Deed → Type 0
InPlace s h l (deed.Enter c o a t vs) = InApartment s h l (deed.Enter c o a t vs) × (near (home s h l) a ≡ true)
InPlace s h l _ = Unit {0}

abbrev EnterIn : Scenario → List Entry → ℕ → ℕ → Type 0
EnterIn s h l c =
    Either (agile s h (target h c) || named h (target h c) == neutral) (l ≡ lane_of (issue h c)) (home s h l ≡ Some (named h (target h c)))
    × (near (home s h l) (owner s h (target h c) l) ≡ true)

admission-in-place : (s : Scenario) (h : List Entry) (l c : ℕ) → EnterIn s h l c → InPlace s h l (admission s (sight s h) l c)
admission-in-place s h l c p =
    let v : Sight = sight s h in
    cond-of (InPlace s h l) (nat_le 256 (length (v.openers l))) (deed.Refuse c RPC_E_OUT_OF_RESOURCES) _ tt
    (cond-of (InPlace s h l) (posted_to_sta v c && not (is_handled_in s v l c)) (deed.Verdict c (call_sort v l c) (verdict_on s v l c)) _ tt
    (cond-of (InPlace s h l) (arguments_gone v c) (deed.Refuse c RPC_E_SERVER_CANTUNMARSHAL_DATA) (deed.Enter c (object_of (v.issue c)) (v.owner (object_of (v.issue c)) l) (where_true (posted_to_sta v c) (call_sort v l c)) (v.unread c)) tt ((refl, p.0), p.1)))

top-waits : (c : ℕ) (os : List Opener) → first os ≡ Some (Waits c) → os ≡ Waits c ∷ without_first os
top-waits c [] e = cc
top-waits c (o ∷ os) e = ap (λ (x : Opener). x ∷ os) (same o (Waits c) e)
  where
    same : (x y : Opener) → Some x ≡ Some y → x ≡ y
    same x y e = cc

own-in : (s : Scenario) (h : List Entry) (l c u : ℕ) → Ready s h (home s h l) l c u → near (home s h l) u ≡ true → near (home s h l) (number_or_zero (running s h l)) ≡ true → Own (sight s h) c → EnterIn s h l c
own-in s h l c u r p q w =
    let n : agile s h (target h c) ≡ false → near (home s h l) (named h (target h c)) ≡ true = λ z. way-near (route_of (issue h c)) (agile s h (target h c)) (named h (target h c)) (home s h l) (ending s h c) u r.way z w.not_posted w.not_answered p in (
      either-by (agile s h (target h c) || named h (target h c) == neutral) _ _ (λ z. sym r.lane)
          (λ z. let y : (agile s h (target h c) ≡ false) × ((named h (target h c) == neutral) ≡ false) = neither (agile s h (target h c)) (named h (target h c) == neutral) z in home-of (named h (target h c)) (home s h l) y.1 (n y.0)),
      cond-when (λ (a : ℕ). near (home s h l) a ≡ true) (agile s h (target h c)) (number_or_zero (running s h l)) (named h (target h c)) (λ z. q) n,
    )

top-in : (s : Scenario) (h : List Entry) (l c : ℕ) → AllReady s h (home s h l) l (openers h l) → first (openers h l) ≡ Some (Waits c) → Own (sight s h) c → EnterIn s h l c
top-in s h l c p e w =
    let os : List Opener = without_first (openers h l) in
    let r : AllReady s h (home s h l) l (Waits c ∷ os) = subst (AllReady s h (home s h l) l) (top-waits c (openers h l) e) p in
    own-in s h l c (number_or_zero (or_else (entered_apartment os) (home s h l))) r.0 (running-near s h (home s h l) l os r.1) (running-near s h (home s h l) l (openers h l) p) w

inbox-in : (s : Scenario) (h : List Entry) (l a c : ℕ) → legal s h → home s h l ≡ Some a → (a == neutral) ≡ false → First s h a c → EnterIn s h l c
inbox-in s h l a c p e z f =
    let n : (named h (target h c) == neutral) ≡ false = subst (λ (x : ℕ). (x == neutral) ≡ false) (sym f.named) z in
    let g : agile s h (target h c) ≡ false = differ (agile s h (target h c)) (λ q. not-both (named h (target h c) == neutral) (ap (λ (x : ℕ). x == neutral) (agile-neutral s h (target h c) p q)) n) in
    let i : home s h l ≡ Some (named h (target h c)) = e ∙ ap (λ (x : ℕ). Some x) (sym f.named) in (
      either-by (agile s h (target h c) || named h (target h c) == neutral) _ _
          (λ q. absurd (not-both _ q (not-either (agile s h (target h c)) (named h (target h c) == neutral) g n))) (λ q. i),
      cond-when (λ (x : ℕ). near (home s h l) x ≡ true) (agile s h (target h c)) (number_or_zero (running s h l)) (named h (target h c))
          (λ q. absurd (not-both (agile s h (target h c)) q g)) (λ q. subst (λ (x : Option ℕ). near x (named h (target h c)) ≡ true) (sym i) (home-near (Some (named h (target h c))))),
    )

taken-in : (s : Scenario) (h : List Entry) (l c : ℕ) → legal s h → Taken (sight s h) l (lane_sort s l) c → EnterIn s h l c
taken-in s h l c p (in_pool t e q) = inbox-in s h l mta c p (ap (λ (x : LaneSort). home_by_sort x (thread_home h l)) t) refl (first-in s h mta c q)
taken-in s h l c p (in_sta a e t o q) = inbox-in s h l a c p e (not-neutral a t) (first-in s h a c q)

acted-in-place : (s : Scenario) (h : List Entry) (l : ℕ) (t : ActionSort) (d : Deed) → OfAction t d → InPlace s h l d
acted-in-place s h l t (deed.Enter c o a x vs) p = absurd p
acted-in-place s h l t _ p = tt

rest-in-place : (s : Scenario) (h : List Entry) (l : ℕ) (d : Deed) → IsRest d → InPlace s h l d
rest-in-place s h l (deed.Enter c o a t vs) p = absurd p
rest-in-place s h l _ p = tt

answered-in-place : (s : Scenario) (h : List Entry) (l c : ℕ) (x : Answer) (p : Option ℕ) → InPlace s h l (answered (sight s h) c x p)
answered-in-place s h l c x (Some p) = tt
answered-in-place s h l c x None = tt

ended-in-place : (s : Scenario) (h : List Entry) (l : ℕ) → InPlace s h l (after_script (sight s h) l)
ended-in-place s h l = cond-of (InPlace s h l) ((sight s h).count l == 0) deed.End (uninitialised (sight s h) l) tt tt

source-in-place : (s : Scenario) (h : List Entry) (l : ℕ) (d : Deed) → legal s h → AllReady s h (home s h l) l (openers h l) → Source s (sight s h) l d → InPlace s h l d
source-in-place s h l d p r (by_body c o a os x q t e) = acted-in-place s h l (action_sort x) d (subst (OfAction (action_sort x)) e (deed-acted s (sight s h) l x))
source-in-place s h l d p r (by_script x q t u e) = acted-in-place s h l (action_sort x) d (subst (OfAction (action_sort x)) e (deed-acted s (sight s h) l x))
source-in-place s h l d p r (by_end q t e) = subst (InPlace s h l) e (ended-in-place s h l)
source-in-place s h l d p r (by_final o q e) = subst (InPlace s h l) e tt
source-in-place s h l d p r (by_own c q t e) = subst (InPlace s h l) e (admission-in-place s h l c (top-in s h l c r q (own-enters (sight s h) c t)))
source-in-place s h l d p r (by_answer c x q t e) = subst (InPlace s h l) e (answered-in-place s h l c x (packet_left (sight s h) c))
source-in-place s h l d p r (by_inbox c q t e) = subst (InPlace s h l) e (admission-in-place s h l c (taken-in s h l c p (next-taken (sight s h) l (lane_sort s l) c t)))
source-in-place s h l d p r (by_retry c n x q e) = subst (InPlace s h l) e tt
source-in-place s h l d p r (by_again c t q e) = subst (InPlace s h l) e tt
source-in-place s h l d p r (by_rest q) = rest-in-place s h l d q

-- ---- one entry

abbrev Opening : Scenario → List Entry → ℕ → Deed → Type 0
Opening s h l (deed.Out c o i m r k bytes) = (c ≡ calls h + 1) × RouteFact (sight s h) l (number_or_zero o) r
Opening s h l (deed.Enter c o a t vs) = near (home s h l) a ≡ true
Opening s h l _ = Unit {0}

opening : (s : Scenario) (h : List Entry) (l : ℕ) (d : Deed) → NewOut (calls h) d → Fact s (sight s h) l d → InPlace s h l d → Opening s h l d
opening s h l (deed.Out c o i m r k bytes) n f p = (n, f)
opening s h l (deed.Enter c o a t vs) n f p = p.1
opening s h l _ n f p = tt

own-ready : (s : Scenario) (h : List Entry) (l : ℕ) (d : Deed) → Opening s h l d → AllReady s (record { lane = l; deed = d } ∷ h) (home s h l) l (openers h l) → AllReady s (record { lane = l; deed = d } ∷ h) (home s h l) l (opened (effect d) (openers h l))
own-ready s h l (deed.Out c o i m r k bytes) p q = (new-ready s h l c i m k o r bytes p.0 p.1, q)
own-ready s h l (deed.Enter c o a t vs) p q = (p, q)
own-ready s h l (deed.Pump n) p q = q
own-ready s h l deed.EndPump p q = all-rest s _ (home s h l) l (openers h l) q
own-ready s h l (deed.Back c hr v) p q = all-rest s _ (home s h l) l (openers h l) q
own-ready s h l (deed.Leave c hr v bytes) p q = all-rest s _ (home s h l) l (openers h l) q
own-ready s h l _ p q = q

step-ready : (s : Scenario) (h : List Entry) (e : Entry) (l : ℕ) (b : Bool) → (e.lane == l) ≡ b → Opening s h e.lane e.deed → ((m : ℕ) → AllReady s (e ∷ h) (home s h m) m (openers h m)) → AllReady s (e ∷ h) (home s h l) l (opened (cond b (effect e.deed) Keeps) (openers h l))
step-ready s h e l true q p r = subst (λ (x : ℕ). AllReady s (e ∷ h) (home s h x) x (opened (effect e.deed) (openers h x))) (eqb-true e.lane l q) (own-ready s h e.lane e.deed p (r e.lane))
step-ready s h e l false q p r = r l

home-ready : (s : Scenario) (h : List Entry) (e : Entry) (l : ℕ) → (openers (e ∷ h) l ≡ []) ⊎ (home s (e ∷ h) l ≡ home s h l) → AllReady s (e ∷ h) (home s h l) l (openers (e ∷ h) l) → AllReady s (e ∷ h) (home s (e ∷ h) l) l (openers (e ∷ h) l)
home-ready s h e l (inl z) p = subst (AllReady s (e ∷ h) (home s (e ∷ h) l) l) (sym z) tt
home-ready s h e l (inr z) p = subst (λ (x : Option ℕ). AllReady s (e ∷ h) x l (openers (e ∷ h) l)) (sym z) p

legal-ready : (s : Scenario) (h : List Entry) (l : ℕ) → Formed s → legal s h → AllReady s h (home s h l) l (openers h l)
legal-ready s [] l f p = tt
legal-ready s (e ∷ h) l f p =
    let z : Source s (sight s h) e.lane e.deed = next-source s h e.lane e.deed p.1 in
    let n : NewOut (calls h) e.deed = next-new s h e.lane e.deed p.1 in
    let m : NewMade (objects h) e.deed = new-made s h e.lane e.deed (next-comes s h e.lane e.deed p.1) in
    home-ready s h e l (home-stays s h e l (made-on-top s f h e.lane e.deed z))
    (step-ready s h e l (e.lane == l) refl
    (opening s h e.lane e.deed n (source-fact s (sight s h) e.lane e.deed z) (source-in-place s h e.lane e.deed p.0 (legal-ready s h e.lane f p.0) z))
    (λ k. all-kept s h e (home s h k) k (openers h k) n m (legal-kept s h f p.0).targets (legal-ready s h k f p.0)))

-- ---- the laws

place-apartment : (s : Scenario) (h : List Entry) (l : ℕ) (d : Deed) → InPlace s h l d → InApartment s h l d
place-apartment s h l (deed.Enter c o a t vs) p = p.0
place-apartment s h l _ p = tt

pub legal-apartment : (s : Scenario) (h : List Entry) → Formed s → legal s h → Apartment s h
legal-apartment s h f = each-next s (InApartment s) (λ h l d p z. place-apartment s h l d (source-in-place s h l d p (legal-ready s h l f p) z)) h

serving : (s : Scenario) (h : List Entry) (home : Option ℕ) (l : ℕ) (os : List Opener) → ((a : ℕ) → home ≡ Some a → is_sta a ≡ true → serves s h l a ≡ true) → AllReady s h home l os → InServing s h l os
serving s h home l [] f p = tt
serving s h home l (Pumps n ∷ os) f p = serving s h home l os f p
serving s h home l (Waits c ∷ os) f p = serving s h home l os f p.1
serving s h home l (Enters c o a ∷ os) f p = (λ t. f a (home-of a home (not-neutral a t) p.0) t, serving s h home l os f p.1)

stacked : (s : Scenario) (h : List Entry) → Formed s → legal s h → Stacked s h
stacked s h f p = λ l. (legal-nested s h l p, serving s h (home s h l) l (openers h l) (λ a e t. home-served s h l a f p e t) (legal-ready s h l f p))

pub legal-one-stack : (s : Scenario) (h : List Entry) → Formed s → legal s h → OneStack s h
legal-one-stack s h f p = (each-prefix s (Stacked s) (λ h p. stacked s h f p) h p, legal-on-top s h f p)
