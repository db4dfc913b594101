-- Each lane of a stuck history in which something is open has a reason; and where one waits for another, the pool is exhausted.
use Rattle.std.proofs.Common.{subst, sym, ap, ◌∙◌, inl, eqb-true, arith}
use Rattle.std.proofs.lemmas.Grind.{common_steps}
use Rattle.std.specs.Prelude.{◌≡◌, refl, ℕ, zero, suc, ◌+◌, ◌≤◌, ◌<◌, Bool, true, false, cond, ◌==◌, ◌&&◌, nat_le, List, [], ◌∷◌, Option, Some, None, is_some, option_and_then}
use Rattle.com_model.specs.declared.deeds.Entry.{Entry}
use Rattle.com_model.specs.declared.deeds.Route.{Route}
use Rattle.com_model.specs.declared.deeds.Route.TheVariants as route
use Rattle.com_model.specs.declared.keeps.Admission.{Admission}
use Rattle.com_model.specs.declared.keeps.Opener.{Opener}
use Rattle.com_model.specs.declared.keeps.Opener.TheVariants.{Pumps, Waits, Enters}
use Rattle.com_model.specs.declared.scenario.Scenario.{Scenario}
use Rattle.com_model.specs.Lists.{first, is_member, where_true}
use Rattle.com_model.specs.Tables.{LaneSort, Thread, Host, Pool, NoLane, host_lane, lane_sort, lanes, threads}
use Rattle.com_model.specs.Openers.{openers}
use Rattle.com_model.specs.Apartments.{ended, home, home_by_sort, host_sta, is_sta, mta, neutral, next_sta, over, thread_home}
use Rattle.com_model.specs.Objects.{named}
use Rattle.com_model.specs.Calls.{admitted, calls, is_marshalled, is_post, issue, route_of, target}
use Rattle.com_model.specs.Waiting.{inbox}
use Rattle.com_model.specs.Formed.{Formed}
use Rattle.com_model.specs.Sight.{sight}
use Rattle.com_model.specs.Rules.{admission, admits_next, admits_sta, is_open_to_calls, is_script_turn, legal, scripted, top}
use Rattle.com_model.specs.Ends.{stuck}
use Rattle.com_model.proofs.Kept.{legal-kept}
use Rattle.com_laws_safety.proofs.Small.{not-both, same-number}
use Rattle.com_laws_balance.proofs.Counts.{Among}
use Rattle.com_laws_balance.proofs.Bases.{first-among}
use Rattle.com_laws_balance.proofs.Directs.{waits-issued}
use Rattle.com_laws_release.proofs.Lives.{legal-live}
use Rattle.com_waits.specs.declared.reasons.Why.{Why}
use Rattle.com_waits.specs.declared.reasons.Why.TheVariants as reason
use Rattle.com_waits.specs.Reasons.{pool_lane, why, why_at, why_at_call}
use Rattle.com_waits.specs.Chains.{lane_named}
use Rattle.com_waits.specs.Laws.{CallsExhaust, HasReasons, IsOpen, is_at_pool, is_pool, leads}
use Rattle.com_waits.proofs.Stills.{stuck-still, NoRule, AtTop, at_none, at_pump, at_call, at-top}
use Rattle.com_waits.proofs.Tops.{Later, is-posted, map-none, not-answered, step-later, top-stands, where-none}
use Rattle.com_waits.proofs.Queued.{in-inbox}
use Rattle.com_waits.proofs.Seen.{pool-exhausts}
use Rattle.com_waits.proofs.Lasting.{HomeOf, live-lasting, sta-home}
use Rattle.com_waits.proofs.Over.{legal-neutral, legal-over}

-- ---- the lane of an STA admits the first call of its inbox

no-member : (c : ℕ) (xs : List ℕ) → first xs ≡ None → is_member c xs ≡ true → ⊥
no-member c [] e m = cc
no-member c (x ∷ xs) e m = cc

open-none : (p q : Bool) (x : Option ℕ) → p ≡ true → q ≡ true → cond (p && q) x None ≡ None → x ≡ None
open-none true true x e f z = z
open-none true false x e f z = cc
open-none false q x e f z = cc

admits-none : (s : Scenario) (h : List Entry) (l a : ℕ) (sort : LaneSort) → (sort ≡ Pool → ⊥) → home s h l ≡ Some a → is_sta a ≡ true → is_open_to_calls (sight s h) sort (top (sight s h) l) ≡ true → admits_next (sight s h) l sort ≡ None → first (inbox s h a) ≡ None
admits-none s h l a Pool n e t o z = absurd (n refl)
admits-none s h l a Thread n e t o z = open-none (is_sta a) (is_open_to_calls (sight s h) Thread (top (sight s h) l)) (first (inbox s h a)) t o (subst (λ (x : Option ℕ). admits_sta (sight s h) l Thread x ≡ None) e z)
admits-none s h l a Host n e t o z = open-none (is_sta a) (is_open_to_calls (sight s h) Host (top (sight s h) l)) (first (inbox s h a)) t o (subst (λ (x : Option ℕ). admits_sta (sight s h) l Host x ≡ None) e z)
admits-none s h l a NoLane n e t o z = open-none (is_sta a) (is_open_to_calls (sight s h) NoLane (top (sight s h) l)) (first (inbox s h a)) t o (subst (λ (x : Option ℕ). admits_sta (sight s h) l NoLane x ≡ None) e z)

rule-none : (s : Scenario) (h : List Entry) (l a : ℕ) → (lane_sort s l ≡ Pool → ⊥) → home s h l ≡ Some a → is_sta a ≡ true → is_open_to_calls (sight s h) (lane_sort s l) (top (sight s h) l) ≡ true → NoRule s (sight s h) l → first (inbox s h a) ≡ None
rule-none s h l a n e t o r = admits-none s h l a (lane_sort s l) n e t o (map-none (admission s (sight s h) l) (admits_next (sight s h) l (lane_sort s l)) r.inbox)

-- A pump and a posted call that waits are open to calls.
open-at-pump : (s : Scenario) (h : List Entry) (l n : ℕ) (os : List Opener) → openers h l ≡ Pumps n ∷ os → is_open_to_calls (sight s h) (lane_sort s l) (top (sight s h) l) ≡ true
open-at-pump s h l n os e = ap (λ (ys : List Opener). is_open_to_calls (sight s h) (lane_sort s l) (first ys)) e

open-at-call : (s : Scenario) (h : List Entry) (l c : ℕ) (os : List Opener) → Formed s → legal s h → openers h l ≡ Waits c ∷ os → NoRule s (sight s h) l → is_open_to_calls (sight s h) (lane_sort s l) (top (sight s h) l) ≡ true
open-at-call s h l c os f p e r = ap (λ (ys : List Opener). is_open_to_calls (sight s h) (lane_sort s l) (first ys)) e ∙ is-posted s h l c os f p e r

not-pool : (x : LaneSort) → x ≡ Thread → x ≡ Pool → ⊥
not-pool x e p = different (sym e ∙ p)
  where
    different : Thread ≡ Pool → ⊥
    different e = cc

host-not-pool : (x : LaneSort) → x ≡ Host → x ≡ Pool → ⊥
host-not-pool x e p = different (sym e ∙ p)
  where
    different : Host ≡ Pool → ⊥
    different e = cc

-- The lane of a thread whose home is an STA.
script-over : (b : Bool) → is_script_turn Thread None b ≡ false → b ≡ true
script-over true e = refl
script-over false e = cc

none-and-home : (a : ℕ) (x : Option ℕ) → x ≡ None → x ≡ Some a → ⊥
none-and-home a None e p = cc
none-and-home a (Some b) e p = cc

thread-quiet : (s : Scenario) (h : List Entry) (l a : ℕ) → Formed s → legal s h → lane_sort s l ≡ Thread → thread_home h l ≡ Some a → is_sta a ≡ true → AtTop s h l → first (inbox s h a) ≡ None
thread-quiet s h l a f p t e z (at_none q r) =
    let w : is_script_turn Thread None (over h l) ≡ false = subst (λ (ys : List Opener). is_script_turn Thread (first ys) (over h l) ≡ false) q
    (subst (λ (x : LaneSort). is_script_turn x (first (openers h l)) (over h l) ≡ false) t (where-none (is_script_turn (lane_sort s l) (top (sight s h) l) (over h l)) (scripted s (sight s h) l ((sight s h).act l)) r.script)) in
    absurd (none-and-home a (thread_home h l) (legal-over s h l f p (script-over (over h l) w)) e)
thread-quiet s h l a f p t e z (at_pump n os q r) = rule-none s h l a (not-pool (lane_sort s l) t) (ap (λ (x : LaneSort). home_by_sort x (thread_home h l)) t ∙ e) z (open-at-pump s h l n os q) r
thread-quiet s h l a f p t e z (at_call c os q r) = rule-none s h l a (not-pool (lane_sort s l) t) (ap (λ (x : LaneSort). home_by_sort x (thread_home h l)) t ∙ e) z (open-at-call s h l c os f p q r) r

-- The host's lane.
host-quiet : (s : Scenario) (h : List Entry) (l : ℕ) → Formed s → legal s h → lane_sort s l ≡ Host → AtTop s h l → first (inbox s h host_sta) ≡ None
host-quiet s h l f p t (at_none q r) =
    rule-none s h l host_sta (host-not-pool (lane_sort s l) t) (ap (λ (x : LaneSort). home_by_sort x (thread_home h l)) t) refl
    (ap (λ (x : LaneSort). is_open_to_calls (sight s h) x (first (openers h l))) t ∙ ap (λ (ys : List Opener). is_open_to_calls (sight s h) Host (first ys)) q) r
host-quiet s h l f p t (at_pump n os q r) = rule-none s h l host_sta (host-not-pool (lane_sort s l) t) (ap (λ (x : LaneSort). home_by_sort x (thread_home h l)) t) refl (open-at-pump s h l n os q) r
host-quiet s h l f p t (at_call c os q r) = rule-none s h l host_sta (host-not-pool (lane_sort s l) t) (ap (λ (x : LaneSort). home_by_sort x (thread_home h l)) t) refl (open-at-call s h l c os f p q r) r

host-by : (a b c e : Bool) → a ≡ false → b ≡ false → c ≡ true → cond a NoLane (cond b Thread (cond c Host (cond e Pool NoLane))) ≡ Host
host-by false false true e p q r = refl
host-by true b c e p q r = cc
host-by false true c e p q r = cc
host-by false false false e p q r = cc

host-sort : (s : Scenario) → lane_sort s (host_lane s) ≡ Host
host-sort s = host-by (host_lane s == 0) (nat_le (host_lane s) (threads s)) (host_lane s == host_lane s) (nat_le (host_lane s) (lanes s)) (not-zero (threads s)) (above (threads s)) (same-number (host_lane s))
  where
    not-zero : (n : ℕ) → (n + 1 == 0) ≡ false
    not-zero n = grind (arith, common_steps)

    above : (n : ℕ) → nat_le (n + 1) n ≡ false
    above n = grind (arith, common_steps)

thread-sort : (a b c e : Bool) → cond a NoLane (cond b Thread (cond c Host (cond e Pool NoLane))) ≡ Thread → (a ≡ false) × (b ≡ true)
thread-sort true b c e z = cc
thread-sort false true c e z = (refl, refl)
thread-sort false false true e z = cc
thread-sort false false false true z = cc
thread-sort false false false false z = cc

thread-range : (s : Scenario) (l : ℕ) → lane_sort s l ≡ Thread → (1 ≤ l) × (l ≤ lanes s)
thread-range s l z =
    let r : ((l == 0) ≡ false) × (nat_le l (threads s) ≡ true) = thread-sort (l == 0) (nat_le l (threads s)) (l == host_lane s) (nat_le l (lanes s)) z in
    let k : l ≤ threads s = grind (arith, common_steps, r.1) in
    (grind (arith, common_steps, r.0), omega (arith, k))

-- In a stuck history no call stands in the inbox of an STA that has not ended.
sta-empty : (s : Scenario) (h : List Entry) (a c : ℕ) → Formed s → legal s h → stuck s h ≡ true → 2 ≤ a → a < next_sta h → ended h a ≡ false → is_member c (inbox s h a) ≡ true → ⊥
sta-empty s h a c f p t low high n m = by-host (a == 2) refl
  where
    by-host : (b : Bool) → (a == 2) ≡ b → ⊥
    by-host true z =
        let k : first (inbox s h host_sta) ≡ None = host-quiet s h (host_lane s) f p (host-sort s) (at-top s h (host_lane s) (stuck-still s h t) (omega arith) (omega arith)) in
        no-member c (inbox s h host_sta) k (subst (λ (b : ℕ). is_member c (inbox s h b) ≡ true) (eqb-true a 2 z) m)
    by-host false z =
        let three : 3 ≤ a = grind (arith, common_steps, z, low) in
        let k : HomeOf s h a = sta-home s h a f p three high n in
        let r : (1 ≤ k.lane) × (k.lane ≤ lanes s) = thread-range s k.lane k.thread in
        let sta : is_sta a ≡ true = grind (arith, common_steps, low) in
        no-member c (inbox s h a) (thread-quiet s h k.lane a f p k.thread k.is sta (at-top s h k.lane (stuck-still s h t) r.0 r.1)) m

-- ---- each lane has a reason

marshalled : (r : Route) → is_post r ≡ true → is_marshalled r ≡ true
marshalled route.Post e = refl
marshalled route.Direct e = cc
marshalled route.Switch e = cc
marshalled route.Refused e = cc

-- A call on top that was not entered stands in the inbox of the multithreaded apartment.
pub in-pool : (s : Scenario) (h : List Entry) (l c : ℕ) (os : List Opener) → Formed s → legal s h → stuck s h ≡ true → openers h l ≡ Waits c ∷ os → NoRule s (sight s h) l → admitted h c ≡ None → is_member c (inbox s h mta) ≡ true
in-pool s h l c os f p t e r n = by-apartment (named h (target h c)) refl
  where
    post : is_post (route_of (issue h c)) ≡ true
    post = is-posted s h l c os f p e r

    queued : is_member c (inbox s h (named h (target h c))) ≡ true
    queued = in-inbox s h l c os f p (stuck-still s h t) e r n

    lasting : ended h (named h (target h c)) ≡ false
    lasting = live-lasting s h (target h c) f p (legal-live s h c f p (marshalled (route_of (issue h c)) post) (not-answered s h l c os e r) n)

    by-apartment : (a : ℕ) → named h (target h c) ≡ a → is_member c (inbox s h mta) ≡ true
    by-apartment zero z = absurd (not-both (named h (target h c) == neutral) (ap (λ (x : ℕ). x == neutral) z) (legal-neutral s h c f p post))
    by-apartment (suc zero) z = subst (λ (x : ℕ). is_member c (inbox s h x) ≡ true) z queued
    by-apartment (suc (suc a)) z = absurd (sta-empty s h (named h (target h c)) c f p t (let k : named h (target h c) ≡ suc (suc a) = z in omega (arith, k)) ((legal-kept s h f p).named (target h c)) lasting queued)

reason-at : (s : Scenario) (h : List Entry) (c : ℕ) (x : Option Admission) → (x ≡ None → is_member c (inbox s h mta) ≡ true) → is_some (why_at_call s h c x) ≡ true
reason-at s h c (Some a) f = refl
reason-at s h c None f = ap (λ (b : Bool). is_some (where_true b (reason.Pool c (pool_lane s)))) (f refl)

no-open : {A : Type 0} (h : List Entry) (l : ℕ) → openers h l ≡ [] → IsOpen h l → A
no-open h l e z = absurd (nothing (sym (ap (λ (ys : List Opener). is_some (first ys)) e) ∙ z))
  where
    nothing : false ≡ true → ⊥
    nothing e = cc

pub has-reasons : (s : Scenario) (h : List Entry) → Formed s → legal s h → stuck s h ≡ true → HasReasons s h
has-reasons s h f p t = λ l z. by-openers l (openers h l) refl z
  where
    by-top : (l : ℕ) → AtTop s h l → IsOpen h l → is_some (why s h l) ≡ true
    by-top l (at_none e r) z = no-open h l e z
    by-top l (at_pump n os e r) z = ap (λ (ys : List Opener). is_some (why_at s h (first ys))) e
    by-top l (at_call c os e r) z = ap (λ (ys : List Opener). is_some (why_at s h (first ys))) e ∙ reason-at s h c (admitted h c) (in-pool s h l c os f p t e r)

    by-openers : (l : ℕ) (os : List Opener) → openers h l ≡ os → IsOpen h l → is_some (why s h l) ≡ true
    by-openers l [] e z = no-open h l e z
    by-openers l (o ∷ os) e z = by-top l (top-stands s h l o p t (subst (λ (ys : List Opener). Among o ys) (sym e) (inl refl))) z

-- ---- a chain comes to the pool

call-open : (h : List Entry) (l c : ℕ) → first (openers h l) ≡ Some (Waits c) → IsOpen h l
call-open h l c e = ap (λ (x : Option Opener). is_some x) e

-- A lane that waits for a call waits for the pool, or for a lane.
data Next (s : Scenario) (h : List Entry) (l : ℕ) : Type 0 where
  to_pool : is_at_pool s h l ≡ true → Next s h l
  to_lane : (m : ℕ) → leads s h l ≡ Some m → is_at_pool s h l ≡ false → Next s h l

next-of : (s : Scenario) (h : List Entry) (l c : ℕ) (x : Option Admission) → first (openers h l) ≡ Some (Waits c) → admitted h c ≡ x → is_some (why_at_call s h c x) ≡ true → Next s h l
next-of s h l c (Some a) e q z =
    let w : why s h l ≡ Some (reason.Body c a.lane) = ap (why_at s h) e ∙ ap (λ (y : Option Admission). why_at_call s h c y) q in
    to_lane a.lane (ap (λ (y : Option Why). option_and_then lane_named y) w) (ap is_pool w)
next-of s h l c None e q z =
    let w : why s h l ≡ where_true (is_member c (inbox s h mta)) (reason.Pool c (pool_lane s)) = ap (why_at s h) e ∙ ap (λ (y : Option Admission). why_at_call s h c y) q in
    to_pool (ap is_pool w ∙ by-test (is_member c (inbox s h mta)) z)
  where
    by-test : (b : Bool) → is_some (where_true b (reason.Pool c (pool_lane s))) ≡ true → is_pool (where_true b (reason.Pool c (pool_lane s))) ≡ true
    by-test true z = refl
    by-test false z = cc

next-at : (s : Scenario) (h : List Entry) (l c : ℕ) → Formed s → legal s h → stuck s h ≡ true → first (openers h l) ≡ Some (Waits c) → Next s h l
next-at s h l c f p t e =
    next-of s h l c (admitted h c) e refl
    (subst (λ (x : Option Opener). is_some (why_at s h x) ≡ true) e (has-reasons s h f p t l (call-open h l c e)))

record AtPool (s : Scenario) (h : List Entry) : Type 0 where
  lane : ℕ
  is : is_at_pool s h lane ≡ true

reach-on : (s : Scenario) (h : List Entry) (k l c : ℕ) → Formed s → legal s h → stuck s h ≡ true → first (openers h l) ≡ Some (Waits c) → calls h < c + suc k → Next s h l → ((m d : ℕ) → first (openers h m) ≡ Some (Waits d) → calls h < d + k → AtPool s h) → AtPool s h
reach-on s h k l c f p t e q (to_pool z) ih = record { lane = l; is = z }
reach-on s h k l c f p t e q (to_lane m z n) ih = let w : Later h m c = step-later s h l m c f p t z n e in let u : c < w.call = w.above in ih m w.call w.at (omega (arith, q, u))

reach : (s : Scenario) (h : List Entry) (k l c : ℕ) → Formed s → legal s h → stuck s h ≡ true → first (openers h l) ≡ Some (Waits c) → calls h < c + k → AtPool s h
reach s h zero l c f p t e q = let k : c ≤ calls h = (waits-issued s h l c p (first-among (openers h l) (Waits c) e)).0 in absurd (omega (arith, k, q))
reach s h (suc k) l c f p t e q = reach-on s h k l c f p t e q (next-at s h l c f p t e) (λ m d z w. reach s h k m d f p t z w)

top-call : (s : Scenario) (h : List Entry) (x : Option Opener) (m : ℕ) → option_and_then lane_named (why_at s h x) ≡ Some m → (c : ℕ) × (x ≡ Some (Waits c))
top-call s h None m e = cc
top-call s h (Some (Pumps n)) m e = cc
top-call s h (Some (Enters c o a)) m e = cc
top-call s h (Some (Waits c)) m e = (c, refl)

pub calls-exhaust : (s : Scenario) (h : List Entry) → Formed s → legal s h → stuck s h ≡ true → CallsExhaust s h
calls-exhaust s h f p t = λ l m e.
    let w : (c : ℕ) × (first (openers h l) ≡ Some (Waits c)) = top-call s h (first (openers h l)) m e in
    let k : AtPool s h = reach s h (calls h + 1) l w.0 f p t w.1 (omega arith) in
    pool-exhausts s h p t k.lane k.is
