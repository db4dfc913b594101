-- Who is admitted above what.
use Rattle.std.proofs.Common.{subst, sym, ap}
use Rattle.std.specs.Prelude.{◌≡◌, refl, ℕ, Bool, true, false, not, ◌==◌, ◌&&◌, nat_le, length, List, [], ◌∷◌, Option, Some, None, option_map, option_and_then}
use Rattle.com_model.specs.declared.deeds.Deed.{Deed}
use Rattle.com_model.specs.declared.deeds.Deed.TheVariants as deed
use Rattle.com_model.specs.declared.deeds.Entry.{Entry}
use Rattle.com_model.specs.declared.deeds.Route.{Route}
use Rattle.com_model.specs.declared.deeds.Route.TheVariants as route
use Rattle.com_model.specs.declared.scenario.Scenario.{Scenario}
use Rattle.com_model.specs.Answers.{RPC_E_OUT_OF_RESOURCES, RPC_E_SERVER_CANTUNMARSHAL_DATA}
use Rattle.com_model.specs.Lists.{first, where_true}
use Rattle.com_model.specs.Tables.{LaneSort, Thread, Host, Pool, NoLane, lane_sort}
use Rattle.com_model.specs.Openers.{openers}
use Rattle.com_model.specs.declared.keeps.Opener.{Opener}
use Rattle.com_model.specs.declared.keeps.Opener.TheVariants.{Pumps, Waits, Enters}
use Rattle.com_model.specs.Apartments.{mta, is_sta}
use Rattle.com_model.specs.Objects.{named}
use Rattle.com_model.specs.Calls.{issue, target, object_of, route_of, is_post}
use Rattle.com_model.specs.Endings.{Answer, ending}
use Rattle.com_model.specs.Deeds.{uninitialised}
use Rattle.com_model.specs.Sight.{Sight, sight}
use Rattle.com_model.specs.Rules.{waiting_call, posted_to_sta, call_sort, verdict_on, is_handled_in, arguments_gone, admission, due_of, packet_left, answered, rule_answer, is_open_to_calls, after_script, legal}
use Rattle.com_model.specs.Safe.{CanAdmit, FirstOf, EntersBy, Reenters, Reentry}
use Rattle.com_model.proofs.Given.{cond-of}
use Rattle.com_laws_safety.proofs.Small.{not-both, not-true, and-left, and-right, cond-when}
use Rattle.com_laws_safety.proofs.Sources.{IsRest, Source, by_body, by_script, by_end, by_final, by_own, by_answer, by_inbox, by_retry, by_again, by_rest}
use Rattle.com_laws_safety.proofs.Acted.{ActionSort, action_sort, OfAction, deed-acted}
use Rattle.com_laws_safety.proofs.Waits.{First, first-in, Taken, in_pool, in_sta, next-taken, Own, own-enters}
use Rattle.com_laws_safety.proofs.Posted.{Known, first-posted}
use Rattle.com_laws_safety.proofs.Caused.{each-next}

-- ---- where no answer is due, the Out on top has none

none-mapped : {X Y : Type 0} (f : X → Y) (o : Option X) → option_map f o ≡ None → o ≡ None
none-mapped f None e = refl
none-mapped f (Some x) e = cc

unanswered : (s : Scenario) (h : List Entry) (l c : ℕ) → rule_answer (sight s h) l ≡ None → first (openers h l) ≡ Some (Waits c) → ending s h c ≡ None
unanswered s h l c e p =
    none-mapped _ (ending s h c) (none-mapped _ (due_of (sight s h) c)
    (subst (λ (o : Option Opener). option_and_then (λ d. option_map (λ x. answered (sight s h) d x (packet_left (sight s h) d)) (due_of (sight s h) d)) (waiting_call o) ≡ None) p e))

can-admit : (s : Scenario) (h : List Entry) (l : ℕ) (sort : LaneSort) (os : List Opener) → lane_sort s l ≡ sort → is_open_to_calls (sight s h) sort (first os) ≡ true → ((c : ℕ) → first os ≡ Some (Waits c) → ending s h c ≡ None) → CanAdmit s h l os
can-admit s h l Host [] t e f = t
can-admit s h l Thread [] t e f = cc
can-admit s h l Pool [] t e f = cc
can-admit s h l NoLane [] t e f = cc
can-admit s h l sort (Pumps n ∷ os) t e f = tt
can-admit s h l sort (Waits c ∷ os) t e f = (e, f c refl)
can-admit s h l sort (Enters c o a ∷ os) t e f = absurd (not-both false e refl)

-- ---- how a call is entered

own-way : (s : Scenario) (h : List Entry) (l c : ℕ) (t : Option ℕ) (r : Route) (sta : Bool) → is_post r ≡ false → first (openers h l) ≡ Some (Waits c) → t ≡ None → EntersBy s h l c t r sta
own-way s h l c t route.Direct sta p q e = (q, e)
own-way s h l c t route.Switch sta p q e = (q, e)
own-way s h l c t route.Refused sta p q e = (q, e)
own-way s h l c t route.Post sta p q e = cc

pool-way : (s : Scenario) (h : List Entry) (l c : ℕ) (t : Option ℕ) (r : Route) (sta : Bool) → is_post r ≡ true → sta ≡ false → FirstOf s h mta c → lane_sort s l ≡ Pool → openers h l ≡ [] → t ≡ None → EntersBy s h l c t r sta
pool-way s h l c t route.Post false p q f g i e = (f, g, i, e)
pool-way s h l c t route.Post true p q f g i e = cc
pool-way s h l c t route.Direct sta p q f g i e = cc
pool-way s h l c t route.Switch sta p q f g i e = cc
pool-way s h l c t route.Refused sta p q f g i e = cc

sta-way : (s : Scenario) (h : List Entry) (l c : ℕ) (t : Option ℕ) (r : Route) (sta : Bool) → is_post r ≡ true → sta ≡ true → FirstOf s h (named h (target h c)) c → CanAdmit s h l (openers h l) → t ≡ Some (call_sort (sight s h) l c) → is_handled_in s (sight s h) l c ≡ true → EntersBy s h l c t r sta
sta-way s h l c t route.Post true p q f g e i = (f, g, e, i)
sta-way s h l c t route.Post false p q f g e i = cc
sta-way s h l c t route.Direct sta p q f g e i = cc
sta-way s h l c t route.Switch sta p q f g e i = cc
sta-way s h l c t route.Refused sta p q f g e i = cc

-- ---- the rules

acted-reenters : (s : Scenario) (h : List Entry) (l : ℕ) (b : ActionSort) (d : Deed) → OfAction b d → Reenters s h l d
acted-reenters s h l b (deed.Enter c o a t vs) p = absurd p
acted-reenters s h l b (deed.Verdict c t v) p = absurd p
acted-reenters s h l b _ p = tt

rest-reenters : (s : Scenario) (h : List Entry) (l : ℕ) (d : Deed) → IsRest d → Reenters s h l d
rest-reenters s h l (deed.Enter c o a t vs) p = absurd p
rest-reenters s h l (deed.Verdict c t v) p = absurd p
rest-reenters s h l _ p = tt

answered-reenters : (s : Scenario) (h : List Entry) (l c : ℕ) (x : Answer) (p : Option ℕ) → Reenters s h l (answered (sight s h) c x p)
answered-reenters s h l c x (Some p) = tt
answered-reenters s h l c x None = tt

ended-reenters : (s : Scenario) (h : List Entry) (l : ℕ) → Reenters s h l (after_script (sight s h) l)
ended-reenters s h l = cond-of (Reenters s h l) ((sight s h).count l == 0) deed.End (uninitialised (sight s h) l) tt tt

-- An admission, by what is known where a Verdict and where an Enter is its entry.
admission-reenters : (s : Scenario) (h : List Entry) (l c : ℕ) → (posted_to_sta (sight s h) c ≡ true → is_handled_in s (sight s h) l c ≡ false → Reenters s h l (deed.Verdict c (call_sort (sight s h) l c) (verdict_on s (sight s h) l c))) → ((posted_to_sta (sight s h) c && not (is_handled_in s (sight s h) l c)) ≡ false → EntersBy s h l c (where_true (posted_to_sta (sight s h) c) (call_sort (sight s h) l c)) (route_of (issue h c)) (is_sta (named h (target h c)))) → Reenters s h l (admission s (sight s h) l c)
admission-reenters s h l c f g =
    let v : Sight = sight s h in
    cond-of (Reenters s h l) (nat_le 256 (length (v.openers l))) (deed.Refuse c RPC_E_OUT_OF_RESOURCES) _ tt
    (cond-when (Reenters s h l) (posted_to_sta v c && not (is_handled_in s v l c)) (deed.Verdict c (call_sort v l c) (verdict_on s v l c)) _
    (λ e. f (and-left (posted_to_sta v c) _ e) (not-true (is_handled_in s v l c) (and-right (posted_to_sta v c) _ e)))
    (λ e. cond-of (Reenters s h l) (arguments_gone v c) (deed.Refuse c RPC_E_SERVER_CANTUNMARSHAL_DATA) (deed.Enter c (object_of (v.issue c)) (v.owner (object_of (v.issue c)) l) (where_true (posted_to_sta v c) (call_sort v l c)) (v.unread c)) tt (g e)))

both-off : (p q : Bool) (n : ℕ) → p ≡ false → where_true (p && q) n ≡ None
both-off true q n e = cc
both-off false q n e = refl

second-off : (p q : Bool) (n : ℕ) → q ≡ false → where_true (p && q) n ≡ None
second-off true q n e = ap (λ (b : Bool). where_true b n) e
second-off false q n e = refl

both-on : (p q : Bool) (n : ℕ) → p ≡ true → q ≡ true → where_true (p && q) n ≡ Some n
both-on true q n e f = ap (λ (b : Bool). where_true b n) f
both-on false q n e f = cc

handled-from : (p q b : Bool) → p ≡ true → q ≡ true → ((p && q) && not b) ≡ false → b ≡ true
handled-from true true true p q e = refl
handled-from true true false p q e = cc
handled-from true false b p q e = cc
handled-from false q b p r e = cc

own-reenters : (s : Scenario) (h : List Entry) (l c : ℕ) → first (openers h l) ≡ Some (Waits c) → Own (sight s h) c → Reenters s h l (admission s (sight s h) l c)
own-reenters s h l c p w =
    admission-reenters s h l c
    (λ z y. absurd (not-both _ (and-left (is_post (route_of (issue h c))) _ z) w.not_posted))
    (λ z. own-way s h l c _ (route_of (issue h c)) (is_sta (named h (target h c))) w.not_posted p (both-off (is_post (route_of (issue h c))) (is_sta (named h (target h c))) _ w.not_posted))

pool-reenters : (s : Scenario) (h : List Entry) (l c : ℕ) → lane_sort s l ≡ Pool → openers h l ≡ [] → First s h mta c → Known h c → Reenters s h l (admission s (sight s h) l c)
pool-reenters s h l c t e f k =
    let n : is_sta (named h (target h c)) ≡ false = ap is_sta f.named in
    admission-reenters s h l c
    (λ z y. absurd (not-both _ (and-right (is_post (route_of (issue h c))) _ z) n))
    (λ z. pool-way s h l c _ (route_of (issue h c)) (is_sta (named h (target h c))) k.post n f.stands t e (second-off (is_post (route_of (issue h c))) (is_sta (named h (target h c))) _ n))

sta-reenters : (s : Scenario) (h : List Entry) (l a c : ℕ) → is_sta a ≡ true → First s h a c → CanAdmit s h l (openers h l) → Known h c → Reenters s h l (admission s (sight s h) l c)
sta-reenters s h l a c b f g k =
    let n : is_sta (named h (target h c)) ≡ true = subst (λ (x : ℕ). is_sta x ≡ true) (sym f.named) b in
    let i : FirstOf s h (named h (target h c)) c = subst (λ (x : ℕ). FirstOf s h x c) (sym f.named) f.stands in
    admission-reenters s h l c
    (λ z y. (i, g, refl, refl, y))
    (λ z. sta-way s h l c _ (route_of (issue h c)) (is_sta (named h (target h c))) k.post n i g (both-on (is_post (route_of (issue h c))) (is_sta (named h (target h c))) _ k.post n) (handled-from (is_post (route_of (issue h c))) (is_sta (named h (target h c))) _ k.post n z))

taken-reenters : (s : Scenario) (h : List Entry) (l c : ℕ) → legal s h → rule_answer (sight s h) l ≡ None → Taken (sight s h) l (lane_sort s l) c → Reenters s h l (admission s (sight s h) l c)
taken-reenters s h l c p q (in_pool t e r) = let f : First s h mta c = first-in s h mta c r in pool-reenters s h l c t e f (first-posted s h mta c p f)
taken-reenters s h l c p q (in_sta a t b o r) =
    let f : First s h a c = first-in s h a c r in
    sta-reenters s h l a c b f (can-admit s h l (lane_sort s l) (openers h l) refl o (λ d z. unanswered s h l d q z)) (first-posted s h a c p f)

reenters : (s : Scenario) (h : List Entry) (l : ℕ) (d : Deed) → legal s h → Source s (sight s h) l d → Reenters s h l d
reenters s h l d z (by_body c o a os x p q e) = acted-reenters s h l (action_sort x) d (subst (OfAction (action_sort x)) e (deed-acted s (sight s h) l x))
reenters s h l d z (by_script x p t q e) = acted-reenters s h l (action_sort x) d (subst (OfAction (action_sort x)) e (deed-acted s (sight s h) l x))
reenters s h l d z (by_end p t e) = subst (Reenters s h l) e (ended-reenters s h l)
reenters s h l d z (by_final o p e) = subst (Reenters s h l) e tt
reenters s h l d z (by_own c p q e) = subst (Reenters s h l) e (own-reenters s h l c p (own-enters (sight s h) c q))
reenters s h l d z (by_answer c x p q e) = subst (Reenters s h l) e (answered-reenters s h l c x (packet_left (sight s h) c))
reenters s h l d z (by_inbox c p q e) = subst (Reenters s h l) e (taken-reenters s h l c z p (next-taken (sight s h) l (lane_sort s l) c q))
reenters s h l d z (by_retry c n x q e) = subst (Reenters s h l) e tt
reenters s h l d z (by_again c t q e) = subst (Reenters s h l) e tt
reenters s h l d z (by_rest p) = rest-reenters s h l d p

pub legal-reentry : (s : Scenario) (h : List Entry) → legal s h → Reentry s h
legal-reentry s = each-next s (Reenters s) (λ h l d p z. reenters s h l d p z)
