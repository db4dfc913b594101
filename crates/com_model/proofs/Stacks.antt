-- Every closer of a legal history closes the innermost opener of its lane.
use Rattle.std.proofs.Common.{subst, sym, ap, eqb-true}
use Rattle.std.specs.Prelude.{◌≡◌, refl, ℕ, ℤ, zero, suc, Bool, true, false, cond, ◌==◌, ◌&&◌, not, nat_le, length, List, [], ◌∷◌, Option, Some, None, option_map, Result, Ok, Err}
use Rattle.com_base.specs.declared.hresult.HResult.{HResult}
use Rattle.com_base.specs.declared.value.RefValue.{RefValue}
use Rattle.com_base.specs.declared.value.Value.{Value}
use Rattle.com_base.specs.declared.value.Mode.{Mode}
use Rattle.com_base.specs.declared.value.MarshalMode.{MarshalMode}
use Rattle.com_base.specs.declared.value.MarshalMode.TheVariants as marshal
use Rattle.com_model.specs.Answers.{S_OK, E_INVALIDARG, CO_E_OBJNOTCONNECTED, RPC_E_OUT_OF_RESOURCES, RPC_E_SERVER_CANTUNMARSHAL_DATA}
use Rattle.com_body.specs.declared.operands.Asked.{Asked}
use Rattle.com_body.specs.declared.actions.Action.{Action}
use Rattle.com_body.specs.declared.actions.Action.TheVariants as action
use Rattle.com_body.specs.declared.frame.Outcome.{Outcome}
use Rattle.com_classes.specs.declared.factory.Placed.{Placed}
use Rattle.com_classes.specs.Lookups.{class_at}
use Rattle.com_model.specs.declared.deeds.Deed.{Deed}
use Rattle.com_model.specs.declared.deeds.Deed.TheVariants as deed
use Rattle.com_model.specs.declared.deeds.Entry.{Entry}
use Rattle.com_model.specs.declared.scenario.Scenario.{Scenario}
use Rattle.com_model.specs.Lists.{where_true, first}
use Rattle.com_model.specs.Issue.{call_refusal}
use Rattle.com_body.specs.BodySteps.{body_step}
use Rattle.com_body.specs.Operands.{new_cells}
use Rattle.com_model.specs.Objects.{class_of}
use Rattle.com_model.specs.Tables.{script, class_number, interface_number, LaneSort, Thread, Host, Pool, NoLane, lane_sort}
use Rattle.com_model.specs.Openers.{Opener, Pumps, Waits, Enters, Closes, Keeps, Backs, Leaves, top_call, effect, fits, nested, openers, running_call}
use Rattle.com_model.specs.Calls.{Issue, issue, object_of, is_post, route_of}
use Rattle.com_model.specs.Frames.{Scene, Actor, Body, Script, Nobody, scene, outcome, action_of, act_by, actor, actor_in, is_leave, reference}
use Rattle.com_model.specs.Endings.{Answer}
use Rattle.com_model.specs.Waiting.{Phase, Unposted, Queued, Judged, Delayed, GivenUp, Word, mark_of, not_asked, bound_reached}
use Rattle.com_refs_books.specs.declared.keeps.Cookie.{Cookie}
use Rattle.com_refs_books.specs.Changes.{cookie}
use Rattle.com_model.specs.Sight.{Sight, sight}
use Rattle.com_model.specs.Deeds.{hold_refusal, named_by, deed_of, created, created_of, initialised, marshalled, registered, Named, NamesPacket, Refuses, unmarshalled, dropped, got, got_by, got_with, cookie_number, gained_refs, owned_by, made_as, creator, placing, revoked, uninitialised, in_sta, called, left_by, left_as}
use Rattle.com_model.specs.Rules.{posted_to_sta, is_handled_in, call_sort, verdict_on, arguments_gone, enters_itself, packet_left, due_of, admits_next, no_lane_can, tick_time, legal, next, next_by, stepped, ruled, admission, rule_final, rule_own, rule_answer, rule_bound, rule_inbox, rule_retry, rule_again, rule_pending, rule_word, rule_script, answered, retried, posted_again, asked_on, pumped, takes_word, scripted, is_script_turn, ticks}
use Rattle.com_model.proofs.Given.{Given, given-or, given-where, given-map, cond-of, own-given}

abbrev Fits : List Opener → Deed → Type 0
Fits os d = fits (effect d) os

-- ---- what is no closer fits everywhere

abbrev Quiet : Deed → Type 0
Quiet d = (os : List Opener) → Fits os d

quiet-if : (b : Bool) (x y : Deed) → Quiet x → Quiet y → Quiet (cond b x y)
quiet-if b x y p q = cond-of Quiet b x y p q

quiet-made_as : (s : Scenario) (v : Sight) (k i : Asked) (r : Result Placed HResult) → Quiet (made_as s v k i r)
quiet-made_as s v k i (Ok p) = λ os. tt
quiet-made_as s v k i (Err hr) = λ os. tt

quiet-created_of : (s : Scenario) (v : Sight) (l a : ℕ) (k i : Asked) (c j : Option ℕ) → Quiet (created_of s v l a k i c j)
quiet-created_of s v l a k i None j = λ os. tt
quiet-created_of s v l a k i (Some c) j = quiet-made_as s v k i (placing (creator v l a) c j (class_at s.classes c))

quiet-created : (s : Scenario) (v : Sight) (l : ℕ) (k i : Asked) (a : Option ℕ) → Quiet (created s v l k i a)
quiet-created s v l k i None = λ os. tt
quiet-created s v l k i (Some a) = quiet-created_of s v l a k i (class_number s k) (interface_number s i)

quiet-initialised : (v : Sight) (m : Mode) (a : Option ℕ) → Quiet (initialised v m a)
quiet-initialised v m None = λ os. tt
quiet-initialised v m (Some a) = λ os. tt

quiet-marshalled : (s : Scenario) (v : Sight) (l : ℕ) (m : MarshalMode) (held : Option RefValue) (hr : Option HResult) → Quiet (marshalled s v l m held hr)
quiet-marshalled s v l m held (Some hr) = λ os. tt
quiet-marshalled s v l m None None = λ os. tt
quiet-marshalled s v l m (Some r) None = λ os. tt

quiet-registered : (v : Sight) (held : Option RefValue) (hr : Option HResult) → Quiet (registered v held hr)
quiet-registered v held (Some hr) = λ os. tt
quiet-registered v held None = λ os. tt

quiet-unmarshalled : (v : Sight) (l : ℕ) (n : Named) → Quiet (unmarshalled v l n)
quiet-unmarshalled v l (NamesPacket p) = λ os. tt
quiet-unmarshalled v l (Refuses hr) = λ os. tt

quiet-dropped : (n : Named) → Quiet (dropped n)
quiet-dropped (NamesPacket p) = λ os. tt
quiet-dropped (Refuses hr) = λ os. tt

quiet-got_with : (v : Sight) (l : ℕ) (g : ℤ) (k : Cookie) (b : Bool) → Quiet (cond b (deed.Get g (Some (reference k.object k.iface)) (gained_refs marshal.Strong (owned_by v l k.object) 0) S_OK) (deed.Get g None 0 CO_E_OBJNOTCONNECTED))
quiet-got_with v l g k true = λ os. tt
quiet-got_with v l g k false = λ os. tt

quiet-got_by : (v : Sight) (l : ℕ) (g : ℤ) (k : Cookie) → Quiet (got_by v l g k)
quiet-got_by v l g k = quiet-if k.is_revoked (deed.Get g None 0 E_INVALIDARG) (got_with v l g k) (λ os. tt) (quiet-got_with v l g k (v.books.live k.object))

quiet-got : (v : Sight) (l : ℕ) (g : ℤ) (a : Option ℕ) → Quiet (got v l g a)
quiet-got v l g None = λ os. tt
quiet-got v l g (Some a) = quiet-got_by v l g (cookie v.books (cookie_number g))

quiet-revoked : (v : Sight) (g : ℤ) (a : Option ℕ) → Quiet (revoked v g a)
quiet-revoked v g None = λ os. tt
quiet-revoked v g (Some a) = λ os. tt

quiet-called : (s : Scenario) (v : Sight) (l : ℕ) (held : Option RefValue) (i m : ℕ) (args : List Value) (hr : Option HResult) → Quiet (called s v l held i m args hr)
quiet-called s v l held i m args (Some hr) = λ os. tt
quiet-called s v l held i m args None = λ os. tt

quiet-deed : (s : Scenario) (v : Sight) (l : ℕ) (a : Action) → is_leave a ≡ false → Quiet (deed_of s v l a)
quiet-deed s v l (action.Create slot k i) h = quiet-created s v l k i (v.home l)
quiet-deed s v l (action.Query to held i) h = λ os. tt
quiet-deed s v l (action.Copy to held) h = λ os. tt
quiet-deed s v l (action.Release from held) h = λ os. tt
quiet-deed s v l (action.Call held i m args to) h = quiet-called s v l held i m args (call_refusal s (v.home l) (v.running l) v.owns v.books.live held i m)
quiet-deed s v l (action.Marshal b held m) h = quiet-marshalled s v l m held (hold_refusal v (v.home l) held)
quiet-deed s v l (action.Unmarshal slot b) h = quiet-unmarshalled v l (named_by s v (v.home l) (v.buffers b))
quiet-deed s v l (action.Drop b) h = quiet-dropped (named_by s v (v.home l) (v.buffers b))
quiet-deed s v l (action.Raw b bytes) h = λ os. tt
quiet-deed s v l (action.Register to held) h = quiet-registered v held (hold_refusal v (v.home l) held)
quiet-deed s v l (action.Get slot g) h = quiet-got v l g (v.home l)
quiet-deed s v l (action.Revoke g) h = quiet-revoked v g (v.home l)
quiet-deed s v l (action.Disconnect held) h = λ os. tt
quiet-deed s v l (action.Post m w) h = λ os. tt
quiet-deed s v l (action.Quit m) h = λ os. tt
quiet-deed s v l (action.Leave hr x) h = cc
quiet-deed s v l (action.Init m) h = quiet-initialised v m (v.home l)
quiet-deed s v l action.Uninit h = λ os. tt
quiet-deed s v l (action.SetFilter f) h = λ os. tt
quiet-deed s v l (action.Pump n) h = λ os. tt

-- ---- a body's Leave closes its own Enter

leave-as-fits : (s : Scenario) (v : Sight) (l d c o a : ℕ) (os : List Opener) (i : Option Issue) (hr : HResult) (x : Option Value) → d ≡ c → Fits (Enters c o a ∷ os) (left_as s v l d i hr x)
leave-as-fits s v l d c o a os None hr x e = e
leave-as-fits s v l d c o a os (Some i) hr x e = e

leave-fits : (s : Scenario) (v : Sight) (l c o a : ℕ) (os : List Opener) (hr : HResult) (x : Option Value) (r : Option ℕ) → r ≡ Some c → Fits (Enters c o a ∷ os) (left_by s v l hr x r)
leave-fits s v l c o a os hr x None e = cc
leave-fits s v l c o a os hr x (Some d) e = leave-as-fits s v l d c o a os (v.issue d) hr x cc

body-fits : (s : Scenario) (v : Sight) (l c o a : ℕ) (os : List Opener) → running_call (v.openers l) ≡ Some c → (x : Action) (b : Bool) → is_leave x ≡ b → Fits (Enters c o a ∷ os) (deed_of s v l x)
body-fits s v l c o a os e x false q = quiet-deed s v l x q (Enters c o a ∷ os)
body-fits s v l c o a os e (action.Leave hr y) true q = leave-fits s v l c o a os hr y (running_call (v.openers l)) e
body-fits s v l c o a os e _ true q = cc

-- ---- the rules

quiet-admission : (s : Scenario) (v : Sight) (l c : ℕ) → Quiet (admission s v l c)
quiet-admission s v l c =
    quiet-if (nat_le 256 (length (v.openers l))) (deed.Refuse c RPC_E_OUT_OF_RESOURCES) _ (λ os. tt)
    (quiet-if (posted_to_sta v c && not (is_handled_in s v l c)) (deed.Verdict c (call_sort v l c) (verdict_on s v l c)) _ (λ os. tt)
    (quiet-if (arguments_gone v c) (deed.Refuse c RPC_E_SERVER_CANTUNMARSHAL_DATA) (deed.Enter c (object_of (v.issue c)) (v.owner (object_of (v.issue c)) l) (where_true (posted_to_sta v c) (call_sort v l c)) (v.unread c)) (λ os. tt) (λ os. tt)))

final-fits : (v : Sight) (l : ℕ) (os : List Opener) → Given (Fits os) (rule_final v l)
final-fits v l os = given-map (Fits os) (λ o. deed.Final o) (first (v.dying l)) (λ o. tt)

own-fits : (s : Scenario) (v : Sight) (l : ℕ) → Given (Fits (v.openers l)) (rule_own s v l)
own-fits s v l =
    own-given Fits (λ c. where_true (enters_itself v c) (admission s v l c))
    (λ c os. given-where (Fits (Waits c ∷ os)) (enters_itself v c) (admission s v l c) (quiet-admission s v l c (Waits c ∷ os)))
    (v.openers l)

answered-fits : (v : Sight) (c : ℕ) (os : List Opener) (x : Answer) (p : Option ℕ) → Fits (Waits c ∷ os) (answered v c x p)
answered-fits v c os x (Some p) = tt
answered-fits v c os x None = refl

answer-fits : (v : Sight) (l : ℕ) → Given (Fits (v.openers l)) (rule_answer v l)
answer-fits v l =
    own-given Fits (λ c. option_map (λ x. answered v c x (packet_left v c)) (due_of v c))
    (λ c os. given-map (Fits (Waits c ∷ os)) (λ x. answered v c x (packet_left v c)) (due_of v c) (λ x. answered-fits v c os x (packet_left v c)))
    (v.openers l)

bound-fits : (os : List Opener) (n : ℕ) → Given (Fits os) (where_true (bound_reached os n) deed.EndPump)
bound-fits [] n = tt
bound-fits (Pumps zero ∷ os) n = tt
bound-fits (Pumps (suc k) ∷ os) n = given-where (Fits (Pumps (suc k) ∷ os)) (nat_le (suc k) n) deed.EndPump tt
bound-fits (Waits c ∷ os) n = tt
bound-fits (Enters c o a ∷ os) n = tt

inbox-fits : (s : Scenario) (v : Sight) (l : ℕ) (os : List Opener) → Given (Fits os) (rule_inbox s v l)
inbox-fits s v l os = given-map (Fits os) (admission s v l) (admits_next v l (lane_sort s l)) (λ c. quiet-admission s v l c os)

retried-fits : (s : Scenario) (v : Sight) (l c : ℕ) (os : List Opener) (p : Phase) → Given (Fits os) (retried s v l c p)
retried-fits s v l c os Unposted = tt
retried-fits s v l c os Queued = tt
retried-fits s v l c os (Judged x) = tt
retried-fits s v l c os (Delayed t) = tt
retried-fits s v l c os GivenUp = tt

retry-fits : (s : Scenario) (v : Sight) (l : ℕ) → Given (Fits (v.openers l)) (rule_retry s v l)
retry-fits s v l = own-given Fits (λ c. retried s v l c (v.phase c)) (λ c os. retried-fits s v l c (Waits c ∷ os) (v.phase c)) (v.openers l)

again-c : (v : Sight) (c : ℕ) (os : List Opener) (p : Phase) → Given (Fits os) (posted_again v c p)
again-c v c os Unposted = tt
again-c v c os Queued = tt
again-c v c os (Judged x) = tt
again-c v c os (Delayed t) = given-where (Fits os) (nat_le t v.clock) (deed.Again c) tt
again-c v c os GivenUp = tt

again-fits : (v : Sight) (l : ℕ) → Given (Fits (v.openers l)) (rule_again v l)
again-fits v l = own-given Fits (λ c. posted_again v c (v.phase c)) (λ c os. again-c v c (Waits c ∷ os) (v.phase c)) (v.openers l)

asked-fits : (s : Scenario) (v : Sight) (l c : ℕ) (os : List Opener) (w : Option Word) → Given (Fits os) (asked_on s v l c w)
asked-fits s v l c os None = tt
asked-fits s v l c os (Some w) = given-where (Fits os) (in_sta (v.home l) && is_post (route_of (v.issue c))) (deed.Pending c w.word _) tt

pending-fits : (s : Scenario) (v : Sight) (l : ℕ) → Given (Fits (v.openers l)) (rule_pending s v l)
pending-fits s v l =
    own-given Fits (λ c. asked_on s v l c (not_asked (mark_of (v.mail l).marks c) (v.mail l).words))
    (λ c os. asked-fits s v l c (Waits c ∷ os) (not_asked (mark_of (v.mail l).marks c) (v.mail l).words)) (v.openers l)

word-taken : (n : ℕ) (os : List Opener) (w : Option Word) (q : Bool) → Given (Fits (Pumps n ∷ os)) (takes_word w q)
word-taken n os (Some w) q = tt
word-taken n os None q = given-where (Fits (Pumps n ∷ os)) q deed.EndPump tt

word-fits : (v : Sight) (l : ℕ) (os : List Opener) → Given (Fits os) (pumped v l (first os))
word-fits v l [] = tt
word-fits v l (Pumps n ∷ os) = word-taken n os (first (v.mail l).words) (v.quit l)
word-fits v l (Waits c ∷ os) = tt
word-fits v l (Enters c o a ∷ os) = tt

-- A script that acts does not leave.
abbrev ActsOn : Sight → ℕ → Type 0
ActsOn v l = v.openers l ≡ [] → (a : Action) → v.act l ≡ Some a → is_leave a ≡ false

quiet-scripted : (s : Scenario) (v : Sight) (l : ℕ) (x : Option Action) → ((a : Action) → x ≡ Some a → is_leave a ≡ false) → Quiet (scripted s v l x)
quiet-scripted s v l None p = quiet-if (v.count l == 0) deed.End (uninitialised v l) (λ os. tt) (λ os. tt)
quiet-scripted s v l (Some a) p = quiet-deed s v l a (p a refl)

script-turn : (sort : LaneSort) (over : Bool) (d : Deed) (os : List Opener) → (os ≡ [] → Quiet d) → Given (Fits os) (where_true (is_script_turn sort (first os) over) d)
script-turn Thread over d [] p = given-where (Fits []) (not over) d (p refl [])
script-turn Thread over d (o ∷ os) p = tt
script-turn Host over d os p = tt
script-turn Pool over d os p = tt
script-turn NoLane over d os p = tt

script-fits : (s : Scenario) (v : Sight) (l : ℕ) → ActsOn v l → Given (Fits (v.openers l)) (rule_script s v l)
script-fits s v l acts = script-turn (lane_sort s l) (v.over l) (scripted s v l (v.act l)) (v.openers l) (λ e. quiet-scripted s v l (v.act l) (acts e))

ruled-fits : (s : Scenario) (v : Sight) (l : ℕ) → ActsOn v l → Given (Fits (v.openers l)) (ruled s v l)
ruled-fits s v l acts =
    given-or (Fits (v.openers l)) (rule_final v l) _ (final-fits v l (v.openers l))
    (given-or (Fits (v.openers l)) (rule_own s v l) _ (own-fits s v l)
    (given-or (Fits (v.openers l)) (rule_answer v l) _ (answer-fits v l)
    (given-or (Fits (v.openers l)) (rule_bound v l) _ (bound-fits (v.openers l) (v.served l))
    (given-or (Fits (v.openers l)) (rule_inbox s v l) _ (inbox-fits s v l (v.openers l))
    (given-or (Fits (v.openers l)) (rule_retry s v l) _ (retry-fits s v l)
    (given-or (Fits (v.openers l)) (rule_again v l) _ (again-fits v l)
    (given-or (Fits (v.openers l)) (rule_pending s v l) _ (pending-fits s v l)
    (given-or (Fits (v.openers l)) (rule_word v l) (rule_script s v l) (word-fits v l (v.openers l)) (script-fits s v l acts)))))))))

stepped-fits : (s : Scenario) (v : Sight) (l : ℕ) (os : List Opener) → ActsOn v l → v.openers l ≡ os → Given (Fits os) (stepped s v l (first os))
stepped-fits s v l [] acts e = subst (λ (x : List Opener). Given (Fits x) (ruled s v l)) e (ruled-fits s v l acts)
stepped-fits s v l (Pumps n ∷ os) acts e = subst (λ (x : List Opener). Given (Fits x) (ruled s v l)) e (ruled-fits s v l acts)
stepped-fits s v l (Waits c ∷ os) acts e = subst (λ (x : List Opener). Given (Fits x) (ruled s v l)) e (ruled-fits s v l acts)
stepped-fits s v l (Enters c o a ∷ os) acts e =
    given-map (Fits (Enters c o a ∷ os)) (deed_of s v l) (v.act l) (λ x. body-fits s v l c o a os (ap running_call e) x (is_leave x) refl)

ticks-fits : (os : List Opener) (b : Bool) (t : Option ℕ) → Given (Fits os) (cond b (option_map (λ n. deed.Tick n) t) None)
ticks-fits os true None = tt
ticks-fits os true (Some n) = tt
ticks-fits os false t = tt

clock-fits : (os : List Opener) (b : Bool) (x : Option Deed) → Given (Fits os) x → Given (Fits os) (cond b x None)
clock-fits os true x p = p
clock-fits os false x p = tt

next-by-fits : (s : Scenario) (v : Sight) (sort : LaneSort) (l : ℕ) → ActsOn v l → Given (Fits (v.openers l)) (next_by s v sort l)
next-by-fits s v Thread l acts = stepped-fits s v l (v.openers l) acts refl
next-by-fits s v Host l acts = stepped-fits s v l (v.openers l) acts refl
next-by-fits s v Pool l acts = stepped-fits s v l (v.openers l) acts refl
next-by-fits s v NoLane l acts =
    clock-fits (v.openers l) (l == 0) (ticks s v) (ticks-fits (v.openers l) (no_lane_can s v) (tick_time v))

-- ---- what a script does

abbrev IsScript : Actor → Type 0
IsScript (Body c o) = ⊥
IsScript (Script l) = Unit {0}
IsScript Nobody = Unit {0}

some-same : (x y : Action) → Some x ≡ Some y → x ≡ y
some-same x y e = cc

script-acts : (s : Scenario) (k : ℕ → ℕ) (i : ℕ → Option Issue) (w : Scene) (l : ℕ) (r : Outcome) (b : Bool) → is_leave r.action ≡ b → (a : Action) → action_of (outcome s k i w (cond b Nobody (Script l))) ≡ Some a → outcome s k i w (Script l) ≡ Some r → is_leave a ≡ false
script-acts s k i w l r true q a p e = cc
script-acts s k i w l r false q a p e = subst (λ (x : Action). is_leave x ≡ false) (some-same r.action a (subst (λ (x : Option Outcome). action_of x ≡ Some a) e p)) q

actor-acts : (s : Scenario) (k : ℕ → ℕ) (i : ℕ → Option Issue) (w : Scene) (x : Actor) → IsScript x → (a : Action) → act_by s k i w x ≡ Some a → is_leave a ≡ false
actor-acts s k i w (Body c o) q a p = absurd q
actor-acts s k i w (Script l) q a p = script-acts s k i w l (body_step (script s l) (w.scripts l) new_cells) (is_leave (body_step (script s l) (w.scripts l) new_cells).action) refl a p refl
actor-acts s k i w Nobody q a p = cc

actor-script : (sort : LaneSort) (l : ℕ) (os : List Opener) → os ≡ [] → IsScript (actor sort l os)
actor-script Thread l os e = subst (λ (x : List Opener). IsScript (actor Thread l x)) (sym e) tt
actor-script Host l os e = subst (λ (x : List Opener). IsScript (actor Host l x)) (sym e) tt
actor-script Pool l os e = subst (λ (x : List Opener). IsScript (actor Pool l x)) (sym e) tt
actor-script NoLane l os e = subst (λ (x : List Opener). IsScript (actor NoLane l x)) (sym e) tt

sight-acts : (s : Scenario) (h : List Entry) (l : ℕ) → ActsOn (sight s h) l
sight-acts s h l e a p = actor-acts s (class_of h) (issue h) (scene s h) (actor_in s h l) (actor-script (lane_sort s l) l (openers h l) e) a p

-- ---- the law

pub next-fits : (s : Scenario) (h : List Entry) (l : ℕ) (d : Deed) → next s h l ≡ Some d → fits (effect d) (openers h l)
next-fits s h l d e = subst (λ (x : Option Deed). Given (Fits (openers h l)) x) e (next-by-fits s (sight s h) (lane_sort s l) l (sight-acts s h l))

entry-fits : (s : Scenario) (h : List Entry) (l : ℕ) (e : Entry) (b : Bool) → (e.lane == l) ≡ b → next s h e.lane ≡ Some e.deed → fits (cond b (effect e.deed) Keeps) (openers h l)
entry-fits s h l e false q p = tt
entry-fits s h l e true q p = next-fits s h l e.deed (subst (λ (m : ℕ). next s h m ≡ Some e.deed) (eqb-true e.lane l q) p)

pub legal-nested : (s : Scenario) (h : List Entry) (l : ℕ) → legal s h → nested h l
legal-nested s [] l p = tt
legal-nested s (e ∷ h) l p = (legal-nested s h l p.0, entry-fits s h l e (e.lane == l) refl p.1)

-- A Back closes the Out of its own call, and a Leave the Enter of its own.
closes-out : (c : ℕ) (os : List Opener) → fits (Closes (Backs c)) os → first os ≡ Some (Waits c)
closes-out c [] p = absurd p
closes-out c (Pumps n ∷ os) p = absurd p
closes-out c (Waits d ∷ os) p = ap (λ (x : ℕ). Some (Waits x)) (sym p)
closes-out c (Enters d o a ∷ os) p = absurd p

closes-enter : (c : ℕ) (os : List Opener) → fits (Closes (Leaves c)) os → top_call (first os) ≡ Some c
closes-enter c [] p = absurd p
closes-enter c (Pumps n ∷ os) p = absurd p
closes-enter c (Waits d ∷ os) p = absurd p
closes-enter c (Enters d o a ∷ os) p = ap (λ (x : ℕ). Some x) (sym p)

pub back-own : (s : Scenario) (h : List Entry) (l c : ℕ) (hr : HResult) (v : Option Value) → next s h l ≡ Some (deed.Back c hr v) → first (openers h l) ≡ Some (Waits c)
back-own s h l c hr v e = closes-out c (openers h l) (next-fits s h l (deed.Back c hr v) e)

pub leave-own : (s : Scenario) (h : List Entry) (l c : ℕ) (hr : HResult) (v : Option Value) (b : Option (List ℕ)) → next s h l ≡ Some (deed.Leave c hr v b) → top_call (first (openers h l)) ≡ Some c
leave-own s h l c hr v b e = closes-enter c (openers h l) (next-fits s h l (deed.Leave c hr v b) e)
