-- A call that was ever posted is of route post.
use Rattle.std.proofs.Common.{subst, sym, ap, eqb-true, arith}
use Rattle.std.specs.Prelude.{◌≡◌, refl, ℕ, ℤ, pos, negsuc, ◌+◌, ◌≤◌, Bool, true, false, cond, not, ◌==◌, ◌&&◌, nat_le, nat_lt, length, List, [], ◌∷◌, Option, Some, None}
use Rattle.com_model.specs.declared.deeds.Deed.{Deed}
use Rattle.com_model.specs.declared.deeds.Deed.TheVariants as deed
use Rattle.com_model.specs.declared.deeds.Entry.{Entry}
use Rattle.com_model.specs.declared.deeds.Route.TheVariants as route
use Rattle.com_model.specs.declared.scenario.Scenario.{Scenario}
use Rattle.com_model.specs.Answers.{RPC_E_OUT_OF_RESOURCES, RPC_E_SERVER_CANTUNMARSHAL_DATA}
use Rattle.com_model.specs.Lists.{where_true}
use Rattle.com_model.specs.Tables.{lane_sort}
use Rattle.com_model.specs.Openers.{openers}
use Rattle.com_model.specs.Calls.{issues, issue_or, issue, calls, object_of, route_of, is_post}
use Rattle.com_model.specs.declared.keeps.Issue.{Issue}
use Rattle.com_model.specs.Clock.{clock}
use Rattle.com_model.specs.Endings.{Answer}
use Rattle.com_model.specs.Waiting.{PostEffect, Posts, Judges, Delays, GivesUp, PostsNone, retries, post_effect, phase_after, phase, is_queued, postings}
use Rattle.com_model.specs.declared.keeps.Phase.{Phase}
use Rattle.com_model.specs.declared.keeps.Phase.TheVariants.{Unposted, Queued, Judged, Delayed, GivenUp}
use Rattle.com_model.specs.Deeds.{uninitialised}
use Rattle.com_model.specs.Sight.{Sight, sight}
use Rattle.com_model.specs.Rules.{posted_to_sta, call_sort, verdict_on, is_handled_in, arguments_gone, admission, packet_left, answered, after_script, next, legal}
use Rattle.com_model.proofs.Given.{cond-of}
use Rattle.com_model.proofs.Comes.{Comes, sort_of, next-comes}
use Rattle.com_laws_safety.proofs.Small.{not-both, differ, and-left, cond-when, same-number}
use Rattle.com_laws_safety.proofs.Sources.{IsRest, Source, by_body, by_script, by_end, by_final, by_own, by_answer, by_inbox, by_retry, by_again, by_rest, next-source}
use Rattle.com_laws_safety.proofs.Acted.{ActionSort, action_sort, OfAction, deed-acted}
use Rattle.com_laws_safety.proofs.Waits.{First, taken-first, next-taken, own-enters}

-- ---- small facts

-- ---- a call that was issued keeps what its Out says

abbrev pub NewOut : ℕ → Deed → Type 0
NewOut n (deed.Out c o i m r k bytes) = c ≡ n + 1
NewOut n _ = Unit {0}

new-out : (s : Scenario) (h : List Entry) (l : ℕ) (d : Deed) → Comes s (sight s h) (postings h) (openers h l) (sort_of d) → NewOut (calls h) d
new-out s h l (deed.Out c o i m r k bytes) p = p
new-out s h l _ p = tt

pub next-new : (s : Scenario) (h : List Entry) (l : ℕ) (d : Deed) → next s h l ≡ Some d → NewOut (calls h) d
next-new s h l d e = new-out s h l d (next-comes s h l d e)

pub other-call : (k c n : ℕ) → k ≡ n + 1 → c ≤ n → (k == c) ≡ false
other-call k c n e p = differ (k == c) (λ q. let y : k ≡ c = eqb-true k c q in omega (arith, y, e, p))

pub issue-kept : (h : List Entry) (l c : ℕ) (d : Deed) → NewOut (calls h) d → c ≤ calls h → issue_or (issues l d) c (issue h c) ≡ issue h c
issue-kept h l c (deed.Out k o i m r cause bytes) e p = ap (λ (b : Bool). cond b (Some (record { call = k; lane = l; object = o; iface = i; method = m; route = r; cause = cause })) (issue h c)) (other-call k c (calls h) e p)
issue-kept h l c _ e p = refl

-- ---- the calls that a deed posts or judges

pub record Known (h : List Entry) (c : ℕ) : Type 0 where
  pub post : is_post (route_of (issue h c)) ≡ true
  pub issued : c ≤ calls h

abbrev pub At : (ℕ → Type 0) → ℕ → Phase → Type 0
At P c Unposted = Unit {0}
At P c Queued = P c
At P c (Judged v) = P c
At P c (Delayed t) = P c
At P c GivenUp = P c

abbrev Post : (ℕ → Type 0) → PostEffect → Type 0
Post P (Posts c) = P c
Post P (Judges c v) = P c
Post P (Delays c ms) = P c
Post P (GivesUp c) = P c
Post P PostsNone = Unit {0}

more-known : (h : List Entry) (l c : ℕ) (d : Deed) → NewOut (calls h) d → Known h c → Known (record { lane = l; deed = d } ∷ h) c
more-known h l c d n k = record {
  post = subst (λ (i : Option Issue). is_post (route_of i) ≡ true) (sym (issue-kept h l c d n k.issued)) k.post;
  issued = let p : c ≤ calls h = k.issued in omega (arith, p);
}

at-more : (P Q : ℕ → Type 0) (c : ℕ) (p : Phase) → (P c → Q c) → At P c p → At Q c p
at-more P Q c Unposted f x = tt
at-more P Q c Queued f x = f x
at-more P Q c (Judged v) f x = f x
at-more P Q c (Delayed t) f x = f x
at-more P Q c GivenUp f x = f x

at-call : (P : ℕ → Type 0) (d c : ℕ) (x p : Phase) → P d → (P c → At P c x) → At P c p → At P c (cond (d == c) x p)
at-call P d c x p f g q = cond-when (At P c) (d == c) x p (λ e. g (subst P (eqb-true d c e) f)) (λ e. q)

phase-at : (P : ℕ → Type 0) (x : PostEffect) (t c : ℕ) (p : Phase) → Post P x → At P c p → At P c (phase_after x t c p)
phase-at P (Posts d) t c p f q = at-call P d c Queued p f (λ y. y) q
phase-at P (Judges d v) t c p f q = at-call P d c (Judged v) p f (λ y. y) q
phase-at P (Delays d ms) t c p f q = at-call P d c (Delayed (t + ms)) p f (λ y. y) q
phase-at P (GivesUp d) t c p f q = at-call P d c GivenUp p f (λ y. y) q
phase-at P PostsNone t c p f q = q

pub queued-known : (P : ℕ → Type 0) (c : ℕ) (p : Phase) → is_queued p ≡ true → At P c p → P c
queued-known P c Queued e x = x
queued-known P c Unposted e x = cc
queued-known P c (Judged v) e x = cc
queued-known P c (Delayed t) e x = cc
queued-known P c GivenUp e x = cc

-- ---- by the rules

abbrev Later : List Entry → ℕ → Deed → ℕ → Type 0
Later h l d c = Known (record { lane = l; deed = d } ∷ h) c

own-issue : (i : Issue) (b : Bool) (x : Option Issue) → b ≡ true → is_post i.route ≡ true → is_post (route_of (cond b (Some i) x)) ≡ true
own-issue i true x e p = p
own-issue i false x e p = cc

acted-post : (h : List Entry) (l : ℕ) (b : ActionSort) (d : Deed) → OfAction b d → NewOut (calls h) d → Post (Later h l d) (post_effect d)
acted-post h l b (deed.Out c o i m route.Post k bytes) p n = record {
  post = own-issue (record { call = c; lane = l; object = o; iface = i; method = m; route = route.Post; cause = k }) (c == c) (issue h c) (same-number c) refl;
  issued = omega (arith, n);
}
acted-post h l b (deed.Out c o i m route.Direct k bytes) p n = tt
acted-post h l b (deed.Out c o i m route.Switch k bytes) p n = tt
acted-post h l b (deed.Out c o i m route.Refused k bytes) p n = tt
acted-post h l b (deed.Again c) p n = absurd p
acted-post h l b (deed.Retry c x) p n = absurd p
acted-post h l b (deed.Verdict c t v) p n = absurd p
acted-post h l b _ p n = tt

rest-post : (P : ℕ → Type 0) (d : Deed) → IsRest d → Post P (post_effect d)
rest-post P deed.EndPump p = tt
rest-post P (deed.Word w) p = tt
rest-post P (deed.Pending c w n) p = tt
rest-post P (deed.Tick t) p = tt
rest-post P _ p = absurd p

answered-post : (P : ℕ → Type 0) (v : Sight) (c : ℕ) (x : Answer) (p : Option ℕ) → Post P (post_effect (answered v c x p))
answered-post P v c x (Some p) = tt
answered-post P v c x None = tt

retried-post : (P : ℕ → Type 0) (c : ℕ) (n : ℤ) → P c → Post P (retries c n)
retried-post P c (negsuc n) p = p
retried-post P c (pos n) p = cond-of-effect (nat_lt n 100)
  where
    cond-of-effect : (b : Bool) → Post P (cond b (Posts c) (Delays c n))
    cond-of-effect true = p
    cond-of-effect false = p

admission-post : (P : ℕ → Type 0) (s : Scenario) (v : Sight) (l c : ℕ) → (is_post (route_of (v.issue c)) ≡ true → P c) → Post P (post_effect (admission s v l c))
admission-post P s v l c f =
    let Q : Deed → Type 0 = λ d. Post P (post_effect d) in
    cond-of Q (nat_le 256 (length (v.openers l))) (deed.Refuse c RPC_E_OUT_OF_RESOURCES) _ tt
    (cond-when Q (posted_to_sta v c && not (is_handled_in s v l c)) (deed.Verdict c (call_sort v l c) (verdict_on s v l c)) _ (λ e. f (and-left (is_post (route_of (v.issue c))) _ (and-left (posted_to_sta v c) _ e)))
    (λ e. cond-of Q (arguments_gone v c) (deed.Refuse c RPC_E_SERVER_CANTUNMARSHAL_DATA) (deed.Enter c (object_of (v.issue c)) (v.owner (object_of (v.issue c)) l) (where_true (posted_to_sta v c) (call_sort v l c)) (v.unread c)) tt tt))

ended-post : (P : ℕ → Type 0) (v : Sight) (l : ℕ) → Post P (post_effect (after_script v l))
ended-post P v l = cond-of (λ d. Post P (post_effect d)) (v.count l == 0) deed.End (uninitialised v l) tt tt

source-post : (s : Scenario) (h : List Entry) (l : ℕ) (d : Deed) → NewOut (calls h) d → ((c : ℕ) → At (Known h) c (phase h c)) → Source s (sight s h) l d → Post (Later h l d) (post_effect d)
source-post s h l d n k (by_body c o a os x p q e) = acted-post h l (action_sort x) d (subst (OfAction (action_sort x)) e (deed-acted s (sight s h) l x)) n
source-post s h l d n k (by_script x p t q e) = acted-post h l (action_sort x) d (subst (OfAction (action_sort x)) e (deed-acted s (sight s h) l x)) n
source-post s h l d n k (by_end p t e) = subst (λ (y : Deed). Post (Later h l d) (post_effect y)) e (ended-post (Later h l d) (sight s h) l)
source-post s h l d n k (by_final o p e) = subst (λ (y : Deed). Post (Later h l d) (post_effect y)) e tt
source-post s h l d n k (by_own c p q e) =
    subst (λ (y : Deed). Post (Later h l d) (post_effect y)) e
    (admission-post (Later h l d) s (sight s h) l c (λ z. absurd (not-both _ z (own-enters (sight s h) c q).not_posted)))
source-post s h l d n k (by_answer c x p q e) = subst (λ (y : Deed). Post (Later h l d) (post_effect y)) e (answered-post (Later h l d) (sight s h) c x (packet_left (sight s h) c))
source-post s h l d n k (by_inbox c p q e) =
    subst (λ (y : Deed). Post (Later h l d) (post_effect y)) e
    (admission-post (Later h l d) s (sight s h) l c (λ z. more-known h l c d n (queued-known (Known h) c (phase h c) (taken-first s h l (lane_sort s l) c (next-taken (sight s h) l (lane_sort s l) c q)).1.queued (k c))))
source-post s h l d n k (by_retry c x y p e) =
    subst (λ (y : Deed). Post (Later h l d) (post_effect y)) e
    (retried-post (Later h l d) c x (more-known h l c d n (subst (λ (z : Phase). At (Known h) c z) p (k c))))
source-post s h l d n k (by_again c t p e) =
    subst (λ (y : Deed). Post (Later h l d) (post_effect y)) e
    (more-known h l c d n (subst (λ (z : Phase). At (Known h) c z) p (k c)))
source-post s h l d n k (by_rest p) = rest-post (Later h l d) d p

-- ---- the invariant

pub legal-posted : (s : Scenario) (h : List Entry) → legal s h → (c : ℕ) → At (Known h) c (phase h c)
legal-posted s [] p c = tt
legal-posted s (e ∷ h) p c =
    let n : NewOut (calls h) e.deed = next-new s h e.lane e.deed p.1 in
    phase-at (Known (e ∷ h)) (post_effect e.deed) (clock h) c (phase h c)
    (source-post s h e.lane e.deed n (legal-posted s h p.0) (next-source s h e.lane e.deed p.1))
    (at-more (Known h) (Known (e ∷ h)) c (phase h c) (λ k. more-known h e.lane c e.deed n k) (legal-posted s h p.0 c))

-- The first call of an inbox was posted.
pub first-posted : (s : Scenario) (h : List Entry) (a c : ℕ) → legal s h → First s h a c → Known h c
first-posted s h a c p f = queued-known (Known h) c (phase h c) f.queued (legal-posted s h p c)
