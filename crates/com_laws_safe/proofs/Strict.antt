-- Whom an Enter enters, who drops a packet, and where calls are turned away.
use Rattle.std.proofs.Common.{subst, sym, ap, inl, inr}
use Rattle.std.specs.Prelude.{◌≡◌, refl, ℕ, Bool, true, false, not, cond, ◌==◌, ◌&&◌, ◌||◌, nat_le, length, List, [], ◌∷◌, Option, Some, None, is_some, is_none, option_map}
use Rattle.com_base.specs.declared.hresult.HResult.{HResult}
use Rattle.com_base.specs.declared.value.Value.{Value}
use Rattle.com_body.specs.declared.actions.Action.{Action}
use Rattle.com_model.specs.declared.deeds.Deed.{Deed}
use Rattle.com_model.specs.declared.deeds.Deed.TheVariants as deed
use Rattle.com_model.specs.declared.deeds.Entry.{Entry}
use Rattle.com_model.specs.declared.deeds.Route.{Route}
use Rattle.com_model.specs.declared.deeds.Route.TheVariants as route
use Rattle.com_model.specs.declared.scenario.Scenario.{Scenario}
use Rattle.com_model.specs.Answers.{RPC_E_OUT_OF_RESOURCES, RPC_E_SERVER_CANTUNMARSHAL_DATA}
use Rattle.com_model.specs.Lists.{first, first_that, is_member, where_true}
use Rattle.com_model.specs.Tables.{LaneSort, Pool, lane_sort}
use Rattle.com_model.specs.Openers.{openers}
use Rattle.com_model.specs.declared.keeps.Opener.TheVariants.{Waits}
use Rattle.com_model.specs.Apartments.{mta, made_in, serves, serves_by_sort}
use Rattle.com_model.specs.Objects.{named}
use Rattle.com_model.specs.Calls.{issue, calls, admitted, target, object_of, route_of}
use Rattle.com_model.specs.Frames.{act}
use Rattle.com_model.specs.Endings.{Answer, answer_of, ending}
use Rattle.com_model.specs.declared.keeps.Ending.{Ending}
use Rattle.com_refs_books.specs.Changes.{packet}
use Rattle.com_model.specs.Books.{books}
use Rattle.com_model.specs.Issue.{at_issue}
use Rattle.com_model.specs.Deeds.{deed_of, uninitialised}
use Rattle.com_model.specs.Sight.{Sight, sight}
use Rattle.com_model.specs.Rules.{posted_to_sta, call_sort, verdict_on, is_handled_in, arguments_gone, admission, due_of, is_gone, packet_left, answered, legal}
use Rattle.com_model.specs.Safe.{EachEntry, BodyOrScript, MadeOnTop, is_refused_route}
use Rattle.com_model.specs.Formed.{Formed}
use Rattle.com_model.proofs.Given.{cond-of}
use Rattle.com_model.proofs.Onces.{named-in-range}
use Rattle.com_laws_balance.proofs.Says.{Says, next-says}
use Rattle.com_laws_balance.proofs.Answered.{issued-some, refused-ends}
use Rattle.com_laws_safety.proofs.Small.{none-of, same-number}
use Rattle.com_laws_safety.proofs.Sources.{IsRest, Source, by_body, by_script, by_end, by_final, by_own, by_answer, by_inbox, by_retry, by_again, by_rest, next-source}
use Rattle.com_laws_safety.proofs.Acted.{ActionSort, action_sort, OfAction, deed-acted}
use Rattle.com_laws_safety.proofs.Waits.{first-in, Taken, in_pool, in_sta, next-taken}
use Rattle.com_laws_safety.proofs.Caused.{each-next, own-reply}
use Rattle.com_laws_safety.proofs.Served.{home-served}
use Rattle.com_laws_release.proofs.Arrived.{no-more}
use Rattle.com_laws_safe.specs.Stricter.{EntersTarget, ByRule, DropsOwn, InPlace, TurnsAway}

-- ---- whom an Enter enters

none-some : (x : Option Ending) → x ≡ None → is_some x ≡ true → ⊥
none-some None e p = cc
none-some (Some y) e p = cc

not-refused : (r : Route) → (r ≡ route.Refused → ⊥) → is_refused_route r ≡ false
not-refused route.Refused f = absurd (f refl)
not-refused route.Direct f = refl
not-refused route.Switch f = refl
not-refused route.Post f = refl

enters : (s : Scenario) (h : List Entry) (l c o a : ℕ) (t : Option ℕ) (vs : List Value) → legal s (record { lane = l; deed = deed.Enter c o a t vs } ∷ h) → EntersTarget s h l (deed.Enter c o a t vs)
enters s h l c o a t vs q =
    let d : Deed = deed.Enter c o a t vs in
    let z : Says s (sight s h) l d = next-says s h l d q.1 in
    let n : ending s h c ≡ None = (own-reply s h l d (next-source s h l d q.1)).1 in
    let some : is_some (issue h c) ≡ true = issued-some s h c q.0 (named-in-range s h (record { lane = l; deed = d }) q).0 (no-more (calls h) c (named-in-range s h (record { lane = l; deed = d }) q).1) in
    (z.0, not-refused (route_of (issue h c)) (λ r. none-some (ending s h c) n ((refused-ends s h c q.0 r).1 some)))

entry-enters : (s : Scenario) (h : List Entry) (l : ℕ) (d : Deed) → legal s (record { lane = l; deed = d } ∷ h) → EntersTarget s h l d
entry-enters s h l (deed.Enter c o a t vs) q = enters s h l c o a t vs q
entry-enters s h l _ q = tt

pub legal-targets : (s : Scenario) (h : List Entry) → legal s h → EachEntry (EntersTarget s) h
legal-targets s [] q = tt
legal-targets s (e ∷ h) q = (legal-targets s h q.0, entry-enters s h e.lane e.deed q)

-- ---- who drops a packet

statement-drops : (s : Scenario) (h : List Entry) (l : ℕ) (d : Deed) → MadeOnTop BodyOrScript (openers h l) → option_map (deed_of s (sight s h) l) (act s h l) ≡ Some d → DropsOwn s h l d
statement-drops s h l (deed.DropPacket (Some p) hr) t e = inl (record { on_top = t; next_action = e })
statement-drops s h l (deed.DropPacket None hr) t e = tt
statement-drops s h l _ t e = tt

first-member : (test : ℕ → Bool) (xs : List ℕ) (p : ℕ) → first_that test xs ≡ Some p → (is_member p xs ≡ true) × (test p ≡ true)
first-member test [] p e = cc
first-member test (x ∷ xs) p e =
    elim (test x) as (λ t. test x ≡ t → cond t (Some x) (first_that test xs) ≡ Some p → ((p == x || is_member p xs) ≡ true) × (test p ≡ true)) [
      | true ↦ λ z u. let same : x ≡ p = some-same x p u in (here x p same, subst (λ (k : ℕ). test k ≡ true) same z)
      | false ↦ λ z u. let r : (is_member p xs ≡ true) × (test p ≡ true) = first-member test xs p u in (later (p == x) (is_member p xs) r.0, r.1)
    ] refl e
  where
    some-same : (x p : ℕ) → Some x ≡ Some p → x ≡ p
    some-same x p u = cc

    here : (x p : ℕ) → x ≡ p → (p == x || is_member p xs) ≡ true
    here x p same = ap (λ (b : Bool). b || is_member p xs) (subst (λ (k : ℕ). (p == k) ≡ true) (sym same) (same-number p))

    later : (b m : Bool) → m ≡ true → (b || m) ≡ true
    later true m e = refl
    later false m e = e

not-gone : (b : Bool) → not (not b) ≡ true → b ≡ true
not-gone true e = refl
not-gone false e = cc

due-some : (hr : HResult) (x : Option Ending) (y : Answer) → option_map (answer_of hr) x ≡ Some y → is_some x ≡ true
due-some hr None y e = cc
due-some hr (Some z) y e = refl

left-drops : (s : Scenario) (h : List Entry) (l c p : ℕ) (a : Bool) → first (openers h l) ≡ Some (Waits c) → is_some (ending s h c) ≡ true → is_none (admitted h c) ≡ a → cond a (first_that (λ k. not (is_gone (sight s h) k)) ((books s h).arguments c)) None ≡ Some p → ByRule s h l p
left-drops s h l c p true t n a e =
    let r : (is_member p ((books s h).arguments c) ≡ true) × (not (is_gone (sight s h) p) ≡ true) = first-member (λ k. not (is_gone (sight s h) k)) ((books s h).arguments c) p e in
    record { call = c; on_top = t; answered = n; not_entered = none-of (admitted h c) a; argument = r.0; outstanding = not-gone (packet (books s h) p).outstanding r.1 }
left-drops s h l c p false t n a e = cc

answer-drops : (s : Scenario) (h : List Entry) (l c : ℕ) (x : Answer) (p : Option ℕ) → first (openers h l) ≡ Some (Waits c) → due_of (sight s h) c ≡ Some x → packet_left (sight s h) c ≡ p → DropsOwn s h l (answered (sight s h) c x p)
answer-drops s h l c x (Some p) t e q = inr (left-drops s h l c p (is_none (admitted h c)) t (due-some (at_issue s h c) (ending s h c) x e) refl q)
answer-drops s h l c x None t e q = tt

admission-drops : (s : Scenario) (h : List Entry) (l c : ℕ) → DropsOwn s h l (admission s (sight s h) l c)
admission-drops s h l c =
    let v : Sight = sight s h in
    cond-of (DropsOwn s h l) (nat_le 256 (length (v.openers l))) (deed.Refuse c RPC_E_OUT_OF_RESOURCES) _ tt
    (cond-of (DropsOwn s h l) (posted_to_sta v c && not (is_handled_in s v l c)) (deed.Verdict c (call_sort v l c) (verdict_on s v l c)) _ tt
    (cond-of (DropsOwn s h l) (arguments_gone v c) (deed.Refuse c RPC_E_SERVER_CANTUNMARSHAL_DATA) (deed.Enter c (object_of (v.issue c)) (v.owner (object_of (v.issue c)) l) (where_true (posted_to_sta v c) (call_sort v l c)) (v.unread c)) tt tt))

rest-drops : (s : Scenario) (h : List Entry) (l : ℕ) (d : Deed) → IsRest d → DropsOwn s h l d
rest-drops s h l (deed.DropPacket p hr) q = absurd q
rest-drops s h l _ q = tt

acts-as : (s : Scenario) (h : List Entry) (l : ℕ) (x : Action) (d : Deed) → act s h l ≡ Some x → deed_of s (sight s h) l x ≡ d → option_map (deed_of s (sight s h) l) (act s h l) ≡ Some d
acts-as s h l x d p e = subst (λ (y : Deed). option_map (deed_of s (sight s h) l) (act s h l) ≡ Some y) e (ap (option_map (deed_of s (sight s h) l)) p)

drops : (s : Scenario) (h : List Entry) (l : ℕ) (d : Deed) → Source s (sight s h) l d → DropsOwn s h l d
drops s h l d (by_body c o a os x p q e) = statement-drops s h l d (subst (MadeOnTop BodyOrScript) (sym p) tt) (acts-as s h l x d q e)
drops s h l d (by_script x p t q e) = statement-drops s h l d (subst (MadeOnTop BodyOrScript) (sym p) tt) (acts-as s h l x d q e)
drops s h l d (by_end p t e) = subst (DropsOwn s h l) e (cond-of (DropsOwn s h l) ((sight s h).count l == 0) deed.End (uninitialised (sight s h) l) tt tt)
drops s h l d (by_final o p e) = subst (DropsOwn s h l) e tt
drops s h l d (by_own c p q e) = subst (DropsOwn s h l) e (admission-drops s h l c)
drops s h l d (by_answer c x p q e) = subst (DropsOwn s h l) e (answer-drops s h l c x (packet_left (sight s h) c) p q refl)
drops s h l d (by_inbox c p q e) = subst (DropsOwn s h l) e (admission-drops s h l c)
drops s h l d (by_retry c n x q e) = subst (DropsOwn s h l) e tt
drops s h l d (by_again c t q e) = subst (DropsOwn s h l) e tt
drops s h l d (by_rest p) = rest-drops s h l d p

pub legal-drops : (s : Scenario) (h : List Entry) → legal s h → EachEntry (DropsOwn s) h
legal-drops s = each-next s (DropsOwn s) (λ h l d p z. drops s h l d z)

-- ---- where calls are turned away

acted-away : (s : Scenario) (h : List Entry) (l : ℕ) (b : ActionSort) (d : Deed) → OfAction b d → TurnsAway s h l d
acted-away s h l b (deed.Verdict c t v) p = absurd p
acted-away s h l b (deed.Refuse c hr) p = absurd p
acted-away s h l b _ p = tt

rest-away : (s : Scenario) (h : List Entry) (l : ℕ) (d : Deed) → IsRest d → TurnsAway s h l d
rest-away s h l (deed.Verdict c t v) p = absurd p
rest-away s h l (deed.Refuse c hr) p = absurd p
rest-away s h l _ p = tt

answered-away : (s : Scenario) (h : List Entry) (l c : ℕ) (x : Answer) (p : Option ℕ) → TurnsAway s h l (answered (sight s h) c x p)
answered-away s h l c x (Some p) = tt
answered-away s h l c x None = tt

admission-away : (s : Scenario) (h : List Entry) (l c : ℕ) → InPlace s h l c → TurnsAway s h l (admission s (sight s h) l c)
admission-away s h l c w =
    let v : Sight = sight s h in
    cond-of (TurnsAway s h l) (nat_le 256 (length (v.openers l))) (deed.Refuse c RPC_E_OUT_OF_RESOURCES) _ w
    (cond-of (TurnsAway s h l) (posted_to_sta v c && not (is_handled_in s v l c)) (deed.Verdict c (call_sort v l c) (verdict_on s v l c)) _ w
    (cond-of (TurnsAway s h l) (arguments_gone v c) (deed.Refuse c RPC_E_SERVER_CANTUNMARSHAL_DATA) (deed.Enter c (object_of (v.issue c)) (v.owner (object_of (v.issue c)) l) (where_true (posted_to_sta v c) (call_sort v l c)) (v.unread c)) w tt))

pool-serves : (sort : LaneSort) (made : Bool) (a : ℕ) → sort ≡ Pool → a ≡ mta → serves_by_sort sort made a ≡ true
pool-serves sort made a p e =
    subst (λ (x : LaneSort). serves_by_sort x made a ≡ true) (sym p) (subst (λ (k : ℕ). serves_by_sort Pool made k ≡ true) (sym e) refl)

taken-place : (s : Scenario) (h : List Entry) (l c : ℕ) → Formed s → legal s h → Taken (sight s h) l (lane_sort s l) c → InPlace s h l c
taken-place s h l c f q (in_pool p e n) = inr (pool-serves (lane_sort s l) (made_in h l (named h (target h c))) (named h (target h c)) p (first-in s h mta c n).named)
taken-place s h l c f q (in_sta a p b o n) = inr (subst (λ (k : ℕ). serves s h l k ≡ true) (sym (first-in s h a c n).named) (home-served s h l a f q p b))

away : (s : Scenario) (h : List Entry) (l : ℕ) (d : Deed) → Formed s → legal s h → Source s (sight s h) l d → TurnsAway s h l d
away s h l d f z (by_body c o a os x p q e) = acted-away s h l (action_sort x) d (subst (OfAction (action_sort x)) e (deed-acted s (sight s h) l x))
away s h l d f z (by_script x p t q e) = acted-away s h l (action_sort x) d (subst (OfAction (action_sort x)) e (deed-acted s (sight s h) l x))
away s h l d f z (by_end p t e) = subst (TurnsAway s h l) e (cond-of (TurnsAway s h l) ((sight s h).count l == 0) deed.End (uninitialised (sight s h) l) tt tt)
away s h l d f z (by_final o p e) = subst (TurnsAway s h l) e tt
away s h l d f z (by_own c p q e) = subst (TurnsAway s h l) e (admission-away s h l c (inl p))
away s h l d f z (by_answer c x p q e) = subst (TurnsAway s h l) e (answered-away s h l c x (packet_left (sight s h) c))
away s h l d f z (by_inbox c p q e) = subst (TurnsAway s h l) e (admission-away s h l c (taken-place s h l c f z (next-taken (sight s h) l (lane_sort s l) c q)))
away s h l d f z (by_retry c n x q e) = subst (TurnsAway s h l) e tt
away s h l d f z (by_again c t q e) = subst (TurnsAway s h l) e tt
away s h l d f z (by_rest p) = rest-away s h l d p

pub legal-away : (s : Scenario) (h : List Entry) → Formed s → legal s h → EachEntry (TurnsAway s) h
legal-away s h f q = each-next s (TurnsAway s) (λ h l d p z. away s h l d f p z) h q
