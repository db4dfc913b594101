-- How far the clock can have come: each wait that a filter asks for is of fewer than 2^31 milliseconds.
use Rattle.std.proofs.Common.{subst, sym, ◌∙◌, arith}
use Rattle.std.proofs.lemmas.List.Elements.{All-nil}
use Rattle.std.specs.Prelude.{◌≡◌, refl, ℕ, ℤ, zero, suc, pos, negsuc, ◌+◌, ◌*◌, ◌<◌, ◌≤◌, ◌^◌, min, Bool, true, false, cond, not, ◌==◌, ◌&&◌, nat_le, nat_lt, List, [], ◌∷◌, length, filter_map, Option, Some, None, is_some, All, unwrap_or, option_map}
use Rattle.std.specs.List.{cons_option}
use Rattle.com_base.specs.declared.limits.TheConstants.{LAST_MS}
use Rattle.com_base.specs.declared.hresult.HResult.{HResult}
use Rattle.com_base.specs.declared.value.RefValue.{RefValue}
use Rattle.com_base.specs.declared.value.Value.{Value}
use Rattle.com_base.specs.declared.value.Mode.{Mode}
use Rattle.com_body.specs.declared.actions.Action.{Action}
use Rattle.com_body.specs.declared.actions.Action.TheVariants as action
use Rattle.com_filter.specs.declared.Verdict.{Verdict}
use Rattle.com_filter.specs.declared.Rule.{Rule}
use Rattle.com_filter.specs.declared.Rule.TheVariants as rule
use Rattle.com_filter.specs.Answers.{is_for_verdict, retry_by, retry_answer}
use Rattle.com_model.specs.declared.deeds.Deed.{Deed}
use Rattle.com_model.specs.declared.deeds.Deed.TheVariants as deed
use Rattle.com_model.specs.declared.deeds.Entry.{Entry}
use Rattle.com_model.specs.declared.deeds.Route.TheVariants as route
use Rattle.com_calls.specs.Steps.{delay_of}
use Rattle.com_model.specs.State.{State, StandsFor, next_of}
use Rattle.com_model.proofs.Sights.{same-next}
use Rattle.com_laws_ranges.proofs.Standing.{limited}
use Rattle.com_model.specs.declared.keeps.Opener.{Opener}
use Rattle.com_model.specs.declared.keeps.Opener.TheVariants.{Pumps, Waits, Enters}
use Rattle.com_model.specs.declared.keeps.Phase.{Phase}
use Rattle.com_model.specs.declared.keeps.Phase.TheVariants.{Unposted, Queued, Judged, Delayed, GivenUp}
use Rattle.com_model.specs.declared.keeps.Word.{Word}
use Rattle.com_model.specs.declared.scenario.Scenario.{Scenario}
use Rattle.com_model.specs.Answers.{RPC_E_OUT_OF_RESOURCES, RPC_E_SERVER_CANTUNMARSHAL_DATA}
use Rattle.com_model.specs.Lists.{where_true, first, least, lesser, one_to}
use Rattle.com_model.specs.Tables.{LaneSort, Thread, Host, Pool, NoLane, lane_sort, filter_rules}
use Rattle.com_model.specs.Openers.{running_call}
use Rattle.com_model.specs.Calls.{object_of, route_of, is_post}
use Rattle.com_model.specs.Clock.{ticked, clock, rules_of}
use Rattle.com_model.specs.Ends.{limit}
use Rattle.com_model.specs.Endings.{Answer}
use Rattle.com_model.specs.Issue.{call_refusal}
use Rattle.com_model.specs.Waiting.{PostEffect, Posts, Judges, Delays, GivesUp, PostsNone, retries, post_effect, phase_after, phase, mark_of, not_asked, bound_reached}
use Rattle.com_model.specs.Formed.{IsRule, IsRetryAnswer, IsFilter, Formed}
use Rattle.com_model.specs.Sight.{Sight, sight}
use Rattle.com_model.specs.Deeds.{hold_refusal, named_by, deed_of, initialised, called, uninitialised, in_sta}
use Rattle.com_model.specs.Rules.{waiting_call, admission, posted_to_sta, is_handled_in, call_sort, verdict_on, arguments_gone, top, due_of, packet_left, answered, enters_itself, admits_next, since_out, retried, posted_again, asked_on, takes_word, pumped, scripted, is_script_turn, rule_final, rule_own, rule_answer, rule_bound, rule_inbox, rule_retry, rule_again, rule_pending, rule_word, rule_script, ruled, stepped, time_waited, time_of, no_lane_can, tick_time, next_by, next, legal}
use Rattle.com_model.proofs.Given.{Given, given-or, given-where, given-map, given-then, cond-of}
use Rattle.com_model.proofs.Comes.{given-found}
use Rattle.com_model.proofs.Goods.{all-or}
use Rattle.com_laws_balance.proofs.Carries.{all-head, all-tail}
use Rattle.com_laws_ranges.proofs.Homes.{NoHome, created-none, marshalled-none, registered-none, unmarshalled-none, dropped-none, got-none, revoked-none, left_by-none}

-- ---- what a filter answers

small-rule : (r : Rule) (v : Verdict) (n : ℕ) (x : ℤ) → IsRule r → IsRetryAnswer x → IsRetryAnswer (unwrap_or (retry_by r v n) x)
small-rule (rule.Retry w ms y) v n x p q = by-test (is_for_verdict w v && nat_le ms n)
  where
    by-test : (t : Bool) → IsRetryAnswer (unwrap_or (cond t (Some y) None) x)
    by-test true = p.2
    by-test false = q
small-rule _ v n x p q = q

small-answer : (rs : List Rule) (v : Verdict) (n : ℕ) → All IsRule rs → IsRetryAnswer (retry_answer rs v n)
small-answer [] v n p = refl
small-answer (r ∷ rs) v n p = small-rule r v n (retry_answer rs v n) (all-head IsRule r rs p) (small-answer rs v n (all-tail IsRule r rs p))

few-none : IsFilter []
few-none = (All-nil IsRule, omega arith)

table-small : (s : Scenario) (f : ℕ) → Formed s → All IsRule (filter_rules s f)
table-small s zero z = All-nil IsRule
table-small s (suc f) z = (all-or IsFilter s.filters f [] few-none z.filters.0).0

rules-small : (s : Scenario) (f : Option ℕ) → Formed s → All IsRule (rules_of s f)
rules-small s None z = All-nil IsRule
rules-small s (Some f) z = table-small s f z

-- ---- what a Retry and a Tick say

abbrev RetrySays : ℤ → Type 0
RetrySays (pos n) = n ≤ LAST_MS
RetrySays (negsuc n) = Unit {0}

abbrev TimesSay : Sight → Deed → Type 0
TimesSay v (deed.Retry c n) = RetrySays n
TimesSay v (deed.Tick t) = tick_time v ≡ Some t
TimesSay v _ = Unit {0}

retry-says : (n : ℤ) → IsRetryAnswer n → RetrySays n
retry-says (pos n) p = p
retry-says (negsuc n) p = tt

times-none : (v : Sight) (d : Deed) → NoHome d → TimesSay v d
times-none v (deed.Retry c n) p = absurd p
times-none v (deed.Tick t) p = absurd p
times-none v _ p = tt

init-times : (v : Sight) (m : Mode) (a : Option ℕ) → TimesSay v (initialised v m a)
init-times v m None = tt
init-times v m (Some a) = tt

called-times : (s : Scenario) (v : Sight) (l : ℕ) (held : Option RefValue) (i m : ℕ) (args : List Value) (hr : Option HResult) → TimesSay v (called s v l held i m args hr)
called-times s v l held i m args (Some hr) = tt
called-times s v l held i m args None = tt

action-times : (s : Scenario) (v : Sight) (l : ℕ) (a : Action) → TimesSay v (deed_of s v l a)
action-times s v l (action.Create slot k i) = times-none v _ (created-none s v l k i (v.home l))
action-times s v l (action.Query to held i) = tt
action-times s v l (action.Copy to held) = tt
action-times s v l (action.Release from held) = tt
action-times s v l (action.Call held i m args to) = called-times s v l held i m args (call_refusal s (v.home l) (v.running l) v.owns v.books.live held i m)
action-times s v l (action.Marshal b held m) = times-none v _ (marshalled-none s v l m held (hold_refusal v (v.home l) held))
action-times s v l (action.Unmarshal slot b) = times-none v _ (unmarshalled-none v l (named_by s v (v.home l) (v.buffers b)))
action-times s v l (action.Drop b) = times-none v _ (dropped-none (named_by s v (v.home l) (v.buffers b)))
action-times s v l (action.Raw b bytes) = tt
action-times s v l (action.Register to held) = times-none v _ (registered-none v held (hold_refusal v (v.home l) held))
action-times s v l (action.Get slot g) = times-none v _ (got-none v l g (v.home l))
action-times s v l (action.Revoke g) = times-none v _ (revoked-none v g (v.home l))
action-times s v l (action.Disconnect held) = tt
action-times s v l (action.Post m w) = tt
action-times s v l (action.Quit m) = tt
action-times s v l (action.Leave hr x) = times-none v _ (left_by-none s v l hr x (running_call (v.openers l)))
action-times s v l (action.Init m) = init-times v m (v.home l)
action-times s v l action.Uninit = tt
action-times s v l (action.SetFilter f) = tt
action-times s v l (action.Pump n) = tt

admission-times : (s : Scenario) (v : Sight) (l c : ℕ) → TimesSay v (admission s v l c)
admission-times s v l c =
    cond-of (TimesSay v) (nat_le 256 (length (v.openers l))) (deed.Refuse c RPC_E_OUT_OF_RESOURCES) _ tt
    (cond-of (TimesSay v) (posted_to_sta v c && not (is_handled_in s v l c)) (deed.Verdict c (call_sort v l c) (verdict_on s v l c)) _ tt
    (cond-of (TimesSay v) (arguments_gone v c) (deed.Refuse c RPC_E_SERVER_CANTUNMARSHAL_DATA) (deed.Enter c (object_of (v.issue c)) (v.owner (object_of (v.issue c)) l) (where_true (posted_to_sta v c) (call_sort v l c)) (v.unread c)) tt tt))

answered-times : (v : Sight) (c : ℕ) (x : Answer) (p : Option ℕ) → TimesSay v (answered v c x p)
answered-times v c x (Some p) = tt
answered-times v c x None = tt

retried-times : (s : Scenario) (v : Sight) (l c : ℕ) (p : Phase) → Formed s → Given (TimesSay v) (retried s v l c p)
retried-times s v l c Unposted f = tt
retried-times s v l c Queued f = tt
retried-times s v l c (Judged x) f = retry-says _ (small-answer (rules_of s (v.filter l)) x (since_out v c) (rules-small s (v.filter l) f))
retried-times s v l c (Delayed t) f = tt
retried-times s v l c GivenUp f = tt

again-times : (v : Sight) (c : ℕ) (p : Phase) → Given (TimesSay v) (posted_again v c p)
again-times v c Unposted = tt
again-times v c Queued = tt
again-times v c (Judged x) = tt
again-times v c (Delayed t) = given-where (TimesSay v) (nat_le t v.clock) (deed.Again c) tt
again-times v c GivenUp = tt

asked-times : (s : Scenario) (v : Sight) (l c : ℕ) (w : Option Word) → Given (TimesSay v) (asked_on s v l c w)
asked-times s v l c None = tt
asked-times s v l c (Some w) = given-where (TimesSay v) (in_sta (v.home l) && is_post (route_of (v.issue c))) (deed.Pending c w.word _) tt

taken-times : (v : Sight) (w : Option Word) (q : Bool) → Given (TimesSay v) (takes_word w q)
taken-times v (Some w) q = tt
taken-times v None q = given-where (TimesSay v) q deed.EndPump tt

word-times : (v : Sight) (l : ℕ) (o : Option Opener) → Given (TimesSay v) (pumped v l o)
word-times v l None = tt
word-times v l (Some (Pumps n)) = taken-times v (first (v.mail l).words) (v.quit l)
word-times v l (Some (Waits c)) = tt
word-times v l (Some (Enters c o a)) = tt

script-times : (s : Scenario) (v : Sight) (l : ℕ) (x : Option Action) → TimesSay v (scripted s v l x)
script-times s v l (Some a) = action-times s v l a
script-times s v l None = cond-of (TimesSay v) (v.count l == 0) deed.End (uninitialised v l) tt tt

ruled-times : (s : Scenario) (v : Sight) (l : ℕ) → Formed s → Given (TimesSay v) (ruled s v l)
ruled-times s v l f =
    let P : Deed → Type 0 = TimesSay v in
    let own : Option ℕ = waiting_call (top v l) in
    given-or P (rule_final v l) _ (given-map P (λ o. deed.Final o) (first (v.dying l)) (λ o. tt))
    (given-or P (rule_own s v l) _ (given-then P (λ c. where_true (enters_itself v c) (admission s v l c)) own (λ c. given-where P (enters_itself v c) (admission s v l c) (admission-times s v l c)))
    (given-or P (rule_answer v l) _ (given-then P (λ c. option_map (λ x. answered v c x (packet_left v c)) (due_of v c)) own (λ c. given-map P (λ x. answered v c x (packet_left v c)) (due_of v c) (λ x. answered-times v c x (packet_left v c))))
    (given-or P (rule_bound v l) _ (given-where P (bound_reached (v.openers l) (v.served l)) deed.EndPump tt)
    (given-or P (rule_inbox s v l) _ (given-map P (admission s v l) (admits_next v l (lane_sort s l)) (λ c. admission-times s v l c))
    (given-or P (rule_retry s v l) _ (given-then P (λ c. retried s v l c (v.phase c)) own (λ c. retried-times s v l c (v.phase c) f))
    (given-or P (rule_again v l) _ (given-then P (λ c. posted_again v c (v.phase c)) own (λ c. again-times v c (v.phase c)))
    (given-or P (rule_pending s v l) _ (given-then P (λ c. asked_on s v l c (not_asked (mark_of (v.mail l).marks c) (v.mail l).words)) own (λ c. asked-times s v l c (not_asked (mark_of (v.mail l).marks c) (v.mail l).words)))
    (given-or P (rule_word v l) (rule_script s v l) (word-times v l (top v l))
    (given-where P (is_script_turn (lane_sort s l) (top v l) (v.over l)) (scripted s v l (v.act l)) (script-times s v l (v.act l)))))))))))

stepped-times : (s : Scenario) (v : Sight) (l : ℕ) (o : Option Opener) → Formed s → Given (TimesSay v) (stepped s v l o)
stepped-times s v l None f = ruled-times s v l f
stepped-times s v l (Some (Pumps n)) f = ruled-times s v l f
stepped-times s v l (Some (Waits c)) f = ruled-times s v l f
stepped-times s v l (Some (Enters c o a)) f = given-map (TimesSay v) (deed_of s v l) (v.act l) (λ x. action-times s v l x)

ticks-times : (v : Sight) (b d : Bool) → Given (TimesSay v) (cond b (cond d (option_map (λ n. deed.Tick n) (tick_time v)) None) None)
ticks-times v true true = given-found (TimesSay v) (λ n. deed.Tick n) (tick_time v) (λ n e. e)
ticks-times v true false = tt
ticks-times v false d = tt

by-times : (s : Scenario) (v : Sight) (sort : LaneSort) (l : ℕ) → Formed s → Given (TimesSay v) (next_by s v sort l)
by-times s v Thread l f = stepped-times s v l (top v l) f
by-times s v Host l f = stepped-times s v l (top v l) f
by-times s v Pool l f = stepped-times s v l (top v l) f
by-times s v NoLane l f = ticks-times v (l == 0) (no_lane_can s v)

times-say : (s : Scenario) (h : List Entry) (l : ℕ) (d : Deed) → Formed s → next s h l ≡ Some d → TimesSay (sight s h) d
times-say s h l d f e = subst (λ (x : Option Deed). Given (TimesSay (sight s h)) x) e (by-times s (sight s h) (lane_sort s l) l f)

-- ---- the clock

-- One longest wait an entry.
abbrev longest : List Entry → ℕ
longest [] = 0
longest (e ∷ h) = longest h + LAST_MS

longest-many : (h : List Entry) → longest h ≡ 2147483647 * length h
longest-many [] = omega arith
longest-many (e ∷ h) = let p : longest h ≡ 2147483647 * length h = longest-many h in omega (arith, p)

abbrev Within : ℕ → Phase → Type 0
Within n (Delayed t) = t ≤ n
Within n _ = Unit {0}

record Timed (h : List Entry) (n : ℕ) : Type 0 where
  now : clock h ≤ n
  waits : (c : ℕ) → Within n (phase h c)

abbrev AllWithin : ℕ → List ℕ → Type 0
AllWithin n [] = Unit {0}
AllWithin n (x ∷ xs) = (x ≤ n) × AllWithin n xs

lesser-within : (n x t : ℕ) (o : Option ℕ) → x ≤ n → ((y : ℕ) → o ≡ Some y → y ≤ n) → lesser x o ≡ Some t → t ≤ n
lesser-within n x t None p q e = let same : t ≡ x = cc in omega (arith, same, p)
lesser-within n x t (Some y) p q e = let same : t ≡ min x y = cc in let z : y ≤ n = q y refl in omega (arith, same, p, z)

least-within : (n : ℕ) (xs : List ℕ) (t : ℕ) → AllWithin n xs → least xs ≡ Some t → t ≤ n
least-within n [] t p e = cc
least-within n (x ∷ xs) t p e = lesser-within n x t (least xs) p.0 (λ y q. least-within n xs y p.1 q) e

one-within : (n : ℕ) (o : Option ℕ) (xs : List ℕ) → ((t : ℕ) → o ≡ Some t → t ≤ n) → AllWithin n xs → AllWithin n (cons_option o xs)
one-within n None xs p q = q
one-within n (Some t) xs p q = (p t refl, q)

mapped-within : (n : ℕ) (f : ℕ → Option ℕ) (xs : List ℕ) → ((c t : ℕ) → f c ≡ Some t → t ≤ n) → AllWithin n (filter_map f xs)
mapped-within n f [] p = tt
mapped-within n f (c ∷ cs) p = one-within n (f c) (filter_map f cs) (p c) (mapped-within n f cs p)

waited-within : (v : Sight) (n t : ℕ) (p : Phase) (b : Bool) → Within n p → time_waited v p b ≡ Some t → t ≤ n
waited-within v n t (Delayed x) false p e = by-test (nat_lt v.clock x) e
  where
    by-test : (q : Bool) → where_true q x ≡ Some t → t ≤ n
    by-test true z = let same : t ≡ x = cc in let h : x ≤ n = p in omega (arith, same, h)
    by-test false z = cc
waited-within v n t (Delayed x) true p e = cc
waited-within v n t Unposted b p e = cc
waited-within v n t Queued b p e = cc
waited-within v n t (Judged x) b p e = cc
waited-within v n t GivenUp b p e = cc

tick-within : (s : Scenario) (h : List Entry) (n t : ℕ) → Timed h n → tick_time (sight s h) ≡ Some t → t ≤ n
tick-within s h n t p e =
    let v : Sight = sight s h in
    least-within n (filter_map (time_of v) (one_to v.calls)) t (mapped-within n (time_of v) (one_to v.calls) (λ c x z. waited-within v n x (phase h c) (is_some (v.ending c)) (p.waits c) z)) e

ticked-within : (s : Scenario) (h : List Entry) (n : ℕ) (d : Deed) → Timed h n → TimesSay (sight s h) d → ticked d (clock h) ≤ n
ticked-within s h n (deed.Tick t) p e = tick-within s h n t p e
ticked-within s h n _ p e = p.now

later-within : (n m : ℕ) (p : Phase) → n ≤ m → Within n p → Within m p
later-within n m (Delayed t) h q = let z : t ≤ n = q in omega (arith, h, z)
later-within n m Unposted h q = tt
later-within n m Queued h q = tt
later-within n m (Judged x) h q = tt
later-within n m GivenUp h q = tt

abbrev ShortEffect : PostEffect → Type 0
ShortEffect (Delays c ms) = ms ≤ LAST_MS
ShortEffect _ = Unit {0}

retry-short : (c : ℕ) (n : ℤ) → RetrySays n → ShortEffect (retries c n)
retry-short c (negsuc n) p = tt
retry-short c (pos n) p = by-test (nat_lt n 100)
  where
    by-test : (t : Bool) → ShortEffect (cond t (Posts c) (Delays c n))
    by-test true = tt
    by-test false = p

effect-short : (v : Sight) (d : Deed) → TimesSay v d → ShortEffect (post_effect d)
effect-short v (deed.Retry c n) p = retry-short c n p
effect-short v (deed.Out c o i m route.Direct k bytes) p = tt
effect-short v (deed.Out c o i m route.Switch k bytes) p = tt
effect-short v (deed.Out c o i m route.Post k bytes) p = tt
effect-short v (deed.Out c o i m route.Refused k bytes) p = tt
effect-short v _ p = tt

either-within : (m : ℕ) (b : Bool) (x y : Phase) → Within m x → Within m y → Within m (cond b x y)
either-within m true x y p q = p
either-within m false x y p q = q

phase-within : (x : PostEffect) (t c n : ℕ) (p : Phase) → ShortEffect x → t ≤ n → Within n p → Within (n + LAST_MS) (phase_after x t c p)
phase-within (Posts d) t c n p f h q = either-within (n + LAST_MS) (d == c) Queued p tt (later-within n (n + LAST_MS) p (omega arith) q)
phase-within (Judges d y) t c n p f h q = either-within (n + LAST_MS) (d == c) (Judged y) p tt (later-within n (n + LAST_MS) p (omega arith) q)
phase-within (Delays d ms) t c n p f h q =
    let short : ms ≤ LAST_MS = f in
    either-within (n + LAST_MS) (d == c) (Delayed (t + ms)) p (omega (arith, h, short)) (later-within n (n + LAST_MS) p (omega arith) q)
phase-within (GivesUp d) t c n p f h q = either-within (n + LAST_MS) (d == c) GivenUp p tt (later-within n (n + LAST_MS) p (omega arith) q)
phase-within PostsNone t c n p f h q = later-within n (n + LAST_MS) p (omega arith) q

timed : (s : Scenario) (h : List Entry) → Formed s → legal s h → Timed h (longest h)
timed s [] f q = record { now = omega arith; waits = λ c. tt }
timed s (e ∷ h) f q =
    let p : Timed h (longest h) = timed s h f q.0 in
    let t : TimesSay (sight s h) e.deed = times-say s h e.lane e.deed f q.1 in
    let z : ticked e.deed (clock h) ≤ longest h = ticked-within s h (longest h) e.deed p t in
    record {
      now = omega (arith, z);
      waits = λ c. phase-within (post_effect e.deed) (clock h) c (longest h) (phase h c) (effect-short (sight s h) e.deed t) p.now (p.waits c);
    }

delay-short : (v : Sight) (d : Deed) → TimesSay v d → delay_of d ≤ LAST_MS
delay-short v (deed.Retry c (pos n)) p = p
delay-short v (deed.Retry c (negsuc n)) p = omega arith
delay-short v _ p = omega arith

fits-time : (t c k n : ℕ) → t ≡ c → c ≤ 2147483647 * n → n ≤ 1000000 → k ≤ 2147483647 → t + k < 2 ^ 64
fits-time t c k n e p q r = omega (arith, e, p, q, r)

pub time-fits : (s : Scenario) (st : State) (h : List Entry) (l : ℕ) (d : Deed) → Formed s → StandsFor s st h → st.entries ≤ limit s → next_of s st l ≡ Some d → st.clock + delay_of d < 2 ^ 64
time-fits s st h l d f p r q =
    let n : next s h l ≡ Some d = sym (same-next s st h l p) ∙ q in
    let c : clock h ≤ longest h = (timed s h f p.lawful).now in
    let m : longest h ≡ 2147483647 * length h = longest-many h in
    let k : limit s ≤ 1000000 = limited s in
    let e : st.entries ≡ length h = p.entries in
    fits-time st.clock (clock h) (delay_of d) (length h) p.clock (omega (arith, c, m)) (omega (arith, e, r, k)) (delay-short (sight s h) d (times-say s h l d f n))
