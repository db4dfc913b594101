-- What stands on top of a lane at the entries that the rules give.
use Rattle.std.proofs.Common.{subst, sym, ap, ◌∙◌, ◌⊎◌, inl, inr, eqb-true, arith}
use Rattle.std.proofs.lemmas.Bool.{and_parts}
use Rattle.std.specs.Prelude.{◌≡◌, refl, ℕ, ℤ, ◌+◌, ◌≤◌, pos, negsuc, Bool, true, false, cond, not, ◌==◌, ◌&&◌, nat_le, nat_lt, List, [], ◌∷◌, length, Option, Some, None, is_none, option_map, option_and_then, Result, Ok, Err}
use Rattle.com_base.specs.declared.hresult.HResult.{HResult}
use Rattle.com_base.specs.declared.value.RefValue.{RefValue}
use Rattle.com_base.specs.declared.value.Value.{Value}
use Rattle.com_base.specs.declared.value.Mode.{Mode}
use Rattle.com_base.specs.declared.value.MarshalMode.{MarshalMode}
use Rattle.com_base.specs.declared.value.MarshalMode.TheVariants as marshal
use Rattle.com_body.specs.declared.operands.Asked.{Asked}
use Rattle.com_body.specs.declared.actions.Action.{Action}
use Rattle.com_body.specs.declared.actions.Action.TheVariants as action
use Rattle.com_classes.specs.declared.factory.Placed.{Placed}
use Rattle.com_classes.specs.Lookups.{class_at}
use Rattle.com_filter.specs.declared.Verdict.{Verdict}
use Rattle.com_model.specs.declared.deeds.Deed.{Deed}
use Rattle.com_model.specs.declared.deeds.Deed.TheVariants as deed
use Rattle.com_model.specs.declared.deeds.Entry.{Entry}
use Rattle.com_model.specs.declared.deeds.Route.{Route}
use Rattle.com_model.specs.declared.deeds.Route.TheVariants as route
use Rattle.com_model.specs.declared.scenario.Scenario.{Scenario}
use Rattle.com_model.specs.Answers.{S_OK, E_INVALIDARG, CO_E_OBJNOTCONNECTED, RPC_E_OUT_OF_RESOURCES, RPC_E_SERVER_CANTUNMARSHAL_DATA}
use Rattle.com_model.specs.Lists.{where_true, first}
use Rattle.com_model.specs.Tables.{class_number, interface_number, LaneSort, Thread, Host, Pool, NoLane, lane_sort}
use Rattle.com_model.specs.Openers.{running_call}
use Rattle.com_model.specs.declared.keeps.Opener.{Opener}
use Rattle.com_model.specs.declared.keeps.Opener.TheVariants.{Pumps, Waits, Enters}
use Rattle.com_model.specs.Apartments.{mta, is_sta}
use Rattle.com_model.specs.Calls.{issues, issue_or, issue, calls, route_of, object_of, is_post}
use Rattle.com_model.specs.declared.keeps.Issue.{Issue}
use Rattle.com_model.specs.Endings.{Answer}
use Rattle.com_model.specs.Waiting.{Posts, Delays, post_effect, phase_after, phase, is_queued, waits_in, inbox, postings, bound_reached, mark_of, not_asked}
use Rattle.com_model.specs.declared.keeps.Phase.{Phase}
use Rattle.com_model.specs.declared.keeps.Word.{Word}
use Rattle.com_model.specs.declared.keeps.Phase.TheVariants.{Unposted, Queued, Judged, Delayed, GivenUp}
use Rattle.com_model.specs.Clock.{clock}
use Rattle.com_model.specs.Sight.{Sight, sight}
use Rattle.com_model.specs.Frames.{reference}
use Rattle.com_refs_books.specs.Changes.{cookie}
use Rattle.com_refs_books.specs.declared.keeps.Cookie.{Cookie}
use Rattle.com_model.specs.Issue.{call_refusal}
use Rattle.com_model.specs.Deeds.{deed_of, initialised, uninitialised, creator, placing, made_as, created_of, created, owned_by, hold_refusal, marshalled, registered, Named, NamesPacket, Refuses, named_by, gained_refs, unmarshalled, dropped, cookie_number, got_with, got, revoked, called, left_as, left_by}
use Rattle.com_model.specs.Rules.{waiting_call, posted_to_sta, call_sort, verdict_on, is_handled_in, arguments_gone, admission, rule_final, rule_own, enters_itself, own_call, due_of, packet_left, answered, rule_answer, rule_bound, is_open_to_calls, admits_sta, admits_next, rule_inbox, retried, rule_retry, posted_again, rule_again, asked_on, rule_pending, takes_word, pumped, rule_word, scripted, is_script_turn, rule_script, ruled, stepped, top, tick_time, no_lane_can, next_by, next, legal}
use Rattle.com_model.proofs.Given.{Given, given-or, given-where, given-map, given-then}
use Rattle.com_model.proofs.Comes.{given-found, first-filter, next-comes}
use Rattle.com_model.proofs.Fines.{cond-is}
use Rattle.com_model.proofs.Onces.{call_named, Names, InRange, named-in-range}
use Rattle.com_laws_balance.proofs.Results.{out-number, same-issue}

abbrev pub IsPosted : Phase → Type 0
IsPosted Unposted = ⊥
IsPosted _ = Unit {0}

abbrev pub PostAt : Sight → ℕ → Type 0
PostAt v c = is_post (route_of (v.issue c)) ≡ true

-- A call that waits on top, if any, is posted.
abbrev pub OpenTop : Sight → ℕ → Type 0
OpenTop v l = (c : ℕ) → top v l ≡ Some (Waits c) → PostAt v c

abbrev pub RuleDeed : Sight → ℕ → Deed → Type 0
RuleDeed v l (deed.Enter c o a t vs) = ((top v l ≡ Some (Waits c)) × (is_post (route_of (v.issue c)) ≡ false) × (is_none (v.ending c) ≡ true)) ⊎ (PostAt v c × OpenTop v l)
RuleDeed v l (deed.Verdict c t x) = PostAt v c
RuleDeed v l (deed.Retry c n) = IsPosted (v.phase c)
RuleDeed v l (deed.Again c) = IsPosted (v.phase c)
RuleDeed v l (deed.Init m a hr) = ⊥
RuleDeed v l (deed.Uninit a n) = ⊥
RuleDeed v l (deed.Out c o i m r k bytes) = ⊥
RuleDeed v l (deed.Pump n) = ⊥
RuleDeed v l _ = Unit {0}

-- A deed that an action makes; one that begins or ends a home where H holds.
abbrev pub IsAct : Type 0 → Deed → Type 0
IsAct H (deed.Enter c o a t vs) = ⊥
IsAct H (deed.Verdict c t x) = ⊥
IsAct H (deed.Retry c n) = ⊥
IsAct H (deed.Again c) = ⊥
IsAct H (deed.Init m a hr) = H
IsAct H (deed.Uninit a n) = H
IsAct H _ = Unit {0}

abbrev pub HomeAct : Action → Type 0
HomeAct (action.Init m) = Unit {0}
HomeAct action.Uninit = Unit {0}
HomeAct _ = ⊥

-- A deed of a script, or of the body on top.
pub data Acts (v : Sight) (l : ℕ) (d : Deed) : Type 0 where
  no_top : top v l ≡ None → IsAct (Unit {0}) d → Acts v l d
  by_body : (c o a : ℕ) → top v l ≡ Some (Enters c o a) → (x : Action) → v.act l ≡ Some x → IsAct (HomeAct x) d → Acts v l d

-- A deed of a body or a script, or of a rule.
abbrev pub Tops : Sight → ℕ → Deed → Type 0
Tops v l d = Acts v l d ⊎ RuleDeed v l d

-- ---- actions

made-act : (H : Type 0) (s : Scenario) (v : Sight) (k i : Asked) (r : Result Placed HResult) → IsAct H (made_as s v k i r)
made-act H s v k i (Ok p) = tt
made-act H s v k i (Err hr) = tt

created_of-act : (H : Type 0) (s : Scenario) (v : Sight) (l a : ℕ) (k i : Asked) (c : Option ℕ) → IsAct H (created_of s v l a k i c (interface_number s i))
created_of-act H s v l a k i None = tt
created_of-act H s v l a k i (Some c) = made-act H s v k i (placing (creator v l a) c (interface_number s i) (class_at s.classes c))

created-act : (H : Type 0) (s : Scenario) (v : Sight) (l : ℕ) (k i : Asked) (home : Option ℕ) → IsAct H (created s v l k i home)
created-act H s v l k i None = tt
created-act H s v l k i (Some a) = created_of-act H s v l a k i (class_number s k)

called-act : (H : Type 0) (s : Scenario) (v : Sight) (l : ℕ) (held : Option RefValue) (i x : ℕ) (args : List Value) (hr : Option HResult) → IsAct H (called s v l held i x args hr)
called-act H s v l held i x args (Some hr) = tt
called-act H s v l held i x args None = tt

marshalled-act : (H : Type 0) (s : Scenario) (v : Sight) (l : ℕ) (x : MarshalMode) (held : Option RefValue) (hr : Option HResult) → IsAct H (marshalled s v l x held hr)
marshalled-act H s v l x held (Some hr) = tt
marshalled-act H s v l x None None = tt
marshalled-act H s v l x (Some r) None = tt

registered-act : (H : Type 0) (v : Sight) (held : Option RefValue) (hr : Option HResult) → IsAct H (registered v held hr)
registered-act H v held (Some hr) = tt
registered-act H v held None = tt

unmarshalled-act : (H : Type 0) (v : Sight) (l : ℕ) (n : Named) → IsAct H (unmarshalled v l n)
unmarshalled-act H v l (NamesPacket p) = tt
unmarshalled-act H v l (Refuses hr) = tt

dropped-act : (H : Type 0) (n : Named) → IsAct H (dropped n)
dropped-act H (NamesPacket p) = tt
dropped-act H (Refuses hr) = tt

got-act : (H : Type 0) (v : Sight) (l : ℕ) (x : ℤ) (home : Option ℕ) → IsAct H (got v l x home)
got-act H v l x None = tt
got-act H v l x (Some b) =
    let k : Cookie = cookie v.books (cookie_number x) in
    cond-is (IsAct H) k.is_revoked (deed.Get x None 0 E_INVALIDARG) (got_with v l x k) tt
    (cond-is (IsAct H) (v.books.live k.object) (deed.Get x (Some (reference k.object k.iface)) (gained_refs marshal.Strong (owned_by v l k.object) 0) S_OK) (deed.Get x None 0 CO_E_OBJNOTCONNECTED) tt tt)

revoked-act : (H : Type 0) (v : Sight) (x : ℤ) (home : Option ℕ) → IsAct H (revoked v x home)
revoked-act H v x None = tt
revoked-act H v x (Some b) = tt

left-act : (H : Type 0) (s : Scenario) (v : Sight) (l c : ℕ) (i : Option Issue) (hr : HResult) (x : Option Value) → IsAct H (left_as s v l c i hr x)
left-act H s v l c None hr x = tt
left-act H s v l c (Some i) hr x = tt

left-by-act : (H : Type 0) (s : Scenario) (v : Sight) (l : ℕ) (hr : HResult) (x : Option Value) (c : Option ℕ) → IsAct H (left_by s v l hr x c)
left-by-act H s v l hr x None = tt
left-by-act H s v l hr x (Some c) = left-act H s v l c (v.issue c) hr x

initialised-act : (v : Sight) (x : Mode) (home : Option ℕ) → IsAct (Unit {0}) (initialised v x home)
initialised-act v x None = tt
initialised-act v x (Some a) = tt

deed-act : (s : Scenario) (v : Sight) (l : ℕ) (a : Action) → IsAct (HomeAct a) (deed_of s v l a)
deed-act s v l (action.Create slot k i) = created-act ⊥ s v l k i (v.home l)
deed-act s v l (action.Query to held i) = tt
deed-act s v l (action.Copy to held) = tt
deed-act s v l (action.Release from held) = tt
deed-act s v l (action.Call held i x args to) = called-act ⊥ s v l held i x args (call_refusal s (v.home l) (v.running l) v.owns v.books.live held i x)
deed-act s v l (action.Marshal b held x) = marshalled-act ⊥ s v l x held (hold_refusal v (v.home l) held)
deed-act s v l (action.Unmarshal slot b) = unmarshalled-act ⊥ v l (named_by s v (v.home l) (v.buffers b))
deed-act s v l (action.Drop b) = dropped-act ⊥ (named_by s v (v.home l) (v.buffers b))
deed-act s v l (action.Raw b bytes) = tt
deed-act s v l (action.Register to held) = registered-act ⊥ v held (hold_refusal v (v.home l) held)
deed-act s v l (action.Get slot x) = got-act ⊥ v l x (v.home l)
deed-act s v l (action.Revoke x) = revoked-act ⊥ v x (v.home l)
deed-act s v l (action.Disconnect held) = tt
deed-act s v l (action.Post m w) = tt
deed-act s v l (action.Quit m) = tt
deed-act s v l (action.Leave hr x) = left-by-act ⊥ s v l hr x (running_call (v.openers l))
deed-act s v l (action.Init x) = initialised-act v x (v.home l)
deed-act s v l action.Uninit = tt
deed-act s v l (action.SetFilter f) = tt
deed-act s v l (action.Pump k) = tt

scripted-act : (s : Scenario) (v : Sight) (l : ℕ) (x : Option Action) → IsAct (Unit {0}) (scripted s v l x)
scripted-act s v l None = cond-is (IsAct (Unit {0})) (v.count l == 0) deed.End (uninitialised v l) tt tt
scripted-act s v l (Some a) = act-any a (deed_of s v l a) (deed-act s v l a)
  where
    act-any : (a : Action) (d : Deed) → IsAct (HomeAct a) d → IsAct (Unit {0}) d
    act-any a (deed.Init m x hr) p = tt
    act-any a (deed.Uninit x n) p = tt
    act-any a (deed.Enter c o y t vs) p = p
    act-any a (deed.Verdict c y x) p = p
    act-any a (deed.Retry c n) p = p
    act-any a (deed.Again c) p = p
    act-any a _ p = tt

-- ---- rules with what they test

then-given : {X : Type 0} (P : Deed → Type 0) (f : X → Option Deed) (o : Option X) → ((x : X) → o ≡ Some x → Given P (f x)) → Given P (option_and_then f o)
then-given P f None p = tt
then-given P f (Some x) p = p x refl

where-given : (P : Deed → Type 0) (b : Bool) (d : Deed) → (b ≡ true → P d) → Given P (where_true b d)
where-given P true d p = p refl
where-given P false d p = tt

cond-test : (P : Deed → Type 0) (b : Bool) (x y : Deed) → (b ≡ true → P x) → P y → P (cond b x y)
cond-test P true x y p q = p refl
cond-test P false x y p q = q

waiting-top : (o : Option Opener) (c : ℕ) → waiting_call o ≡ Some c → o ≡ Some (Waits c)
waiting-top None c e = cc
waiting-top (Some (Waits d)) c e = ap (λ (n : ℕ). Some (Waits n)) (same d c e)
  where
    same : (d c : ℕ) → Some d ≡ Some c → d ≡ c
    same d c e = cc
waiting-top (Some (Pumps n)) c e = cc
waiting-top (Some (Enters d o a)) c e = cc

not-true : (b : Bool) → not b ≡ true → b ≡ false
not-true true e = cc
not-true false e = refl

admission-tops : (s : Scenario) (v : Sight) (l c : ℕ) → ((top v l ≡ Some (Waits c)) × (is_post (route_of (v.issue c)) ≡ false) × (is_none (v.ending c) ≡ true)) ⊎ (PostAt v c × OpenTop v l) → Tops v l (admission s v l c)
admission-tops s v l c p =
    cond-is (Tops v l) (nat_le 256 (length (v.openers l))) (deed.Refuse c RPC_E_OUT_OF_RESOURCES) _ (inr tt)
    (cond-test (Tops v l) (posted_to_sta v c && not (is_handled_in s v l c)) (deed.Verdict c (call_sort v l c) (verdict_on s v l c)) _ (λ e. inr ((and_parts _ _ (and_parts (posted_to_sta v c) _ e).0).0))
    (cond-is (Tops v l) (arguments_gone v c) (deed.Refuse c RPC_E_SERVER_CANTUNMARSHAL_DATA) (deed.Enter c (object_of (v.issue c)) (v.owner (object_of (v.issue c)) l) (where_true (posted_to_sta v c) (call_sort v l c)) (v.unread c)) (inr tt) (inr p)))

answered-tops : (v : Sight) (l c : ℕ) (x : Answer) (p : Option ℕ) → Tops v l (answered v c x p)
answered-tops v l c x (Some p) = inr tt
answered-tops v l c x None = inr tt

open-top : (v : Sight) (sort : LaneSort) (o : Option Opener) → is_open_to_calls v sort o ≡ true → (c : ℕ) → o ≡ Some (Waits c) → PostAt v c
open-top v sort (Some (Waits d)) e c q = subst (λ (n : ℕ). PostAt v n) (same d c q) e
  where
    same : (d c : ℕ) → Some (Waits d) ≡ Some (Waits c) → d ≡ c
    same d c e = cc
open-top v sort (Some (Pumps n)) e c q = cc
open-top v sort (Some (Enters d o a)) e c q = cc
open-top v sort None e c q = cc

sta-admits : (v : Sight) (l : ℕ) (sort : LaneSort) (home : Option ℕ) (c : ℕ) → ((a c : ℕ) → first (v.inbox a) ≡ Some c → PostAt v c) → admits_sta v l sort home ≡ Some c → PostAt v c × OpenTop v l
sta-admits v l sort None c f e = cc
sta-admits v l sort (Some a) c f e =
    elim (is_sta a && is_open_to_calls v sort (top v l)) as (λ t. (is_sta a && is_open_to_calls v sort (top v l)) ≡ t → cond t (first (v.inbox a)) None ≡ Some c → PostAt v c × OpenTop v l) [
      | true ↦ λ p q. (f a c q, λ d z. open-top v sort (top v l) (and_parts (is_sta a) (is_open_to_calls v sort (top v l)) p).1 d z)
      | false ↦ λ p q. cc
    ] refl e

none-top : (v : Sight) (l : ℕ) (o : Option Opener) → is_none o ≡ true → (c : ℕ) → o ≡ Some (Waits c) → PostAt v c
none-top v l None e c q = cc
none-top v l (Some x) e c q = cc

next-admits : (v : Sight) (l : ℕ) (sort : LaneSort) (c : ℕ) → ((a c : ℕ) → first (v.inbox a) ≡ Some c → PostAt v c) → admits_next v l sort ≡ Some c → PostAt v c × OpenTop v l
next-admits v l Pool c f e =
    elim (is_none (top v l)) as (λ t. is_none (top v l) ≡ t → cond t (first (v.inbox mta)) None ≡ Some c → PostAt v c × OpenTop v l) [
      | true ↦ λ p q. (f mta c q, λ d z. none-top v l (top v l) p d z)
      | false ↦ λ p q. cc
    ] refl e
next-admits v l Thread c f e = sta-admits v l Thread (v.home l) c f e
next-admits v l Host c f e = sta-admits v l Host (v.home l) c f e
next-admits v l NoLane c f e = sta-admits v l NoLane (v.home l) c f e

retried-tops : (s : Scenario) (v : Sight) (l c : ℕ) (p : Phase) → v.phase c ≡ p → Given (Tops v l) (retried s v l c p)
retried-tops s v l c Unposted e = tt
retried-tops s v l c Queued e = tt
retried-tops s v l c (Judged x) e = inr (subst IsPosted (sym e) tt)
retried-tops s v l c (Delayed t) e = tt
retried-tops s v l c GivenUp e = tt

again-tops : (v : Sight) (l c : ℕ) (p : Phase) → v.phase c ≡ p → Given (Tops v l) (posted_again v c p)
again-tops v l c Unposted e = tt
again-tops v l c Queued e = tt
again-tops v l c (Judged x) e = tt
again-tops v l c (Delayed t) e = given-where (Tops v l) (nat_le t v.clock) (deed.Again c) (inr (subst IsPosted (sym e) tt))
again-tops v l c GivenUp e = tt

asked-tops : (s : Scenario) (v : Sight) (l c : ℕ) (w : Option Word) → Given (Tops v l) (asked_on s v l c w)
asked-tops s v l c None = tt
asked-tops s v l c (Some w) = given-where (Tops v l) _ (deed.Pending c w.word _) (inr tt)

taken-tops : (v : Sight) (l : ℕ) (w : Option Word) (q : Bool) → Given (Tops v l) (takes_word w q)
taken-tops v l (Some w) q = inr tt
taken-tops v l None q = given-where (Tops v l) q deed.EndPump (inr tt)

word-tops : (v : Sight) (l : ℕ) (o : Option Opener) → Given (Tops v l) (pumped v l o)
word-tops v l None = tt
word-tops v l (Some (Pumps n)) = taken-tops v l (first (v.mail l).words) (v.quit l)
word-tops v l (Some (Waits c)) = tt
word-tops v l (Some (Enters c o b)) = tt

script-top : (v : Sight) (l : ℕ) (sort : LaneSort) (o : Option Opener) (t : Bool) → top v l ≡ o → is_script_turn sort o t ≡ true → top v l ≡ None
script-top v l Thread None t e p = e
script-top v l Thread (Some x) t e p = cc
script-top v l Host o t e p = cc
script-top v l Pool o t e p = cc
script-top v l NoLane o t e p = cc

ruled-tops : (s : Scenario) (v : Sight) (l : ℕ) → ((a c : ℕ) → first (v.inbox a) ≡ Some c → PostAt v c) → Given (Tops v l) (ruled s v l)
ruled-tops s v l f =
    let P : Deed → Type 0 = Tops v l in
    given-or P (rule_final v l) _ (given-map P (λ o. deed.Final o) (first (v.dying l)) (λ o. inr tt))
    (given-or P (rule_own s v l) _ (then-given P (λ c. where_true (enters_itself v c) (admission s v l c)) (own_call v l) (λ c e. where-given P (enters_itself v c) (admission s v l c) (λ p. admission-tops s v l c (inl (waiting-top (top v l) c e, not-true _ (and_parts (not (is_post (route_of (v.issue c)))) _ p).0, (and_parts (is_none (v.admitted c)) _ (and_parts (not (is_post (route_of (v.issue c)))) _ p).1).1)))))
    (given-or P (rule_answer v l) _ (given-then P (λ c. option_map (λ x. answered v c x (packet_left v c)) (due_of v c)) (own_call v l) (λ c. given-map P (λ x. answered v c x (packet_left v c)) (due_of v c) (λ x. answered-tops v l c x (packet_left v c))))
    (given-or P (rule_bound v l) _ (given-where P (bound_reached (v.openers l) (v.served l)) deed.EndPump (inr tt))
    (given-or P (rule_inbox s v l) _ (given-found P (admission s v l) (admits_next v l (lane_sort s l)) (λ c e. admission-tops s v l c (inr (next-admits v l (lane_sort s l) c f e))))
    (given-or P (rule_retry s v l) _ (given-then P (λ c. retried s v l c (v.phase c)) (own_call v l) (λ c. retried-tops s v l c (v.phase c) refl))
    (given-or P (rule_again v l) _ (given-then P (λ c. posted_again v c (v.phase c)) (own_call v l) (λ c. again-tops v l c (v.phase c) refl))
    (given-or P (rule_pending s v l) _ (given-then P (λ c. asked_on s v l c (not_asked (mark_of (v.mail l).marks c) (v.mail l).words)) (own_call v l) (λ c. asked-tops s v l c (not_asked (mark_of (v.mail l).marks c) (v.mail l).words)))
    (given-or P (rule_word v l) (rule_script s v l) (word-tops v l (top v l))
    (where-given P (is_script_turn (lane_sort s l) (top v l) (v.over l)) (scripted s v l (v.act l)) (λ e. inl (no_top (script-top v l (lane_sort s l) (top v l) (v.over l) refl e) (scripted-act s v l (v.act l)))))))))))))

stepped-tops : (s : Scenario) (v : Sight) (l : ℕ) (o : Option Opener) → top v l ≡ o → ((a c : ℕ) → first (v.inbox a) ≡ Some c → PostAt v c) → Given (Tops v l) (stepped s v l o)
stepped-tops s v l None e f = ruled-tops s v l f
stepped-tops s v l (Some (Pumps n)) e f = ruled-tops s v l f
stepped-tops s v l (Some (Waits c)) e f = ruled-tops s v l f
stepped-tops s v l (Some (Enters c o a)) e f = given-found (Tops v l) (deed_of s v l) (v.act l) (λ x y. inl (by_body c o a e x y (deed-act s v l x)))

ticks-tops : (v : Sight) (l : ℕ) (b d : Bool) (t : Option ℕ) → Given (Tops v l) (cond b (cond d (option_map (λ n. deed.Tick n) t) None) None)
ticks-tops v l true true None = tt
ticks-tops v l true true (Some n) = inr tt
ticks-tops v l true false t = tt
ticks-tops v l false d t = tt

by-tops : (s : Scenario) (v : Sight) (sort : LaneSort) (l : ℕ) → ((a c : ℕ) → first (v.inbox a) ≡ Some c → PostAt v c) → Given (Tops v l) (next_by s v sort l)
by-tops s v Thread l f = stepped-tops s v l (top v l) refl f
by-tops s v Host l f = stepped-tops s v l (top v l) refl f
by-tops s v Pool l f = stepped-tops s v l (top v l) refl f
by-tops s v NoLane l f = ticks-tops v l (l == 0) (no_lane_can s v) (tick_time v)

-- ---- only posted calls have a phase

queued-posted : (p : Phase) → is_queued p ≡ true → IsPosted p
queued-posted Unposted e = cc
queued-posted Queued e = tt
queued-posted (Judged v) e = cc
queued-posted (Delayed t) e = cc
queued-posted GivenUp e = cc

inbox-post : (s : Scenario) (h : List Entry) → ((c : ℕ) → IsPosted (phase h c) → is_post (route_of (issue h c)) ≡ true) → (a c : ℕ) → first (inbox s h a) ≡ Some c → is_post (route_of (issue h c)) ≡ true
inbox-post s h f a c e =
    let w : waits_in s h a c ≡ true = (first-filter (waits_in s h a) (postings h) c e).0 in
    f c (queued-posted (phase h c) (and_parts (is_queued (phase h c)) _ (and_parts _ _ w).1).0)

tops-of : (s : Scenario) (h : List Entry) (l : ℕ) (d : Deed) → ((c : ℕ) → IsPosted (phase h c) → is_post (route_of (issue h c)) ≡ true) → next s h l ≡ Some d → Tops (sight s h) l d
tops-of s h l d f e = subst (λ (x : Option Deed). Given (Tops (sight s h) l) x) e (by-tops s (sight s h) (lane_sort s l) l (inbox-post s h f))

posted-if : (d c : ℕ) (x p : Phase) (r : Bool) → (d ≡ c → r ≡ true) → (IsPosted p → r ≡ true) → IsPosted (cond (d == c) x p) → r ≡ true
posted-if d c x p r f g =
    elim (d == c) as (λ t. (d == c) ≡ t → IsPosted (cond t x p) → r ≡ true) [ true ↦ λ e q. f (eqb-true d c e) | false ↦ λ e q. g q ] refl

not-unissued : (s : Scenario) (h : List Entry) (l : ℕ) (d : Deed) (c : ℕ) (p : Phase) → (IsPosted p → is_post (route_of (issue h c)) ≡ true) → (calls h + 1 ≤ c → IsPosted p → ⊥) → ((k : ℕ) (o : Option ℕ) (i m : ℕ) (r : Route) (cause : ℕ) (bytes : Option (List ℕ)) → d ≡ deed.Out k o i m r cause bytes → k ≡ calls h + 1) → IsPosted p → is_post (route_of (issue_or (issues l d) c (issue h c))) ≡ true
not-unissued s h l (deed.Out k o i m r cause bytes) c p f g n q =
    elim (k == c) as (λ t. (k == c) ≡ t → is_post (route_of (cond t (Some (record { call = k; lane = l; object = o; iface = i; method = m; route = r; cause = cause })) (issue h c))) ≡ true) [
      | true ↦ λ e. absurd (g (let z : k ≡ calls h + 1 = n k o i m r cause bytes refl in let y : k ≡ c = eqb-true k c e in omega (arith, z, y)) q)
      | false ↦ λ e. f q
    ] refl
not-unissued s h l d c p f g n q = f q

-- A call that was not issued has no issue.
pub issue-past : (s : Scenario) (h : List Entry) (c : ℕ) → legal s h → calls h + 1 ≤ c → issue h c ≡ None
issue-past s [] c q p = refl
issue-past s (e ∷ h) c q p =
    let m : calls h ≤ calls (e ∷ h) = omega arith in
    same-issue s h e.lane e.deed c (λ k o i y r cause bytes d z.
    let r : InRange (calls (e ∷ h)) k = subst (λ (x : Deed). Names (InRange (calls (e ∷ h))) (call_named x)) d (named-in-range s h e q) in
    let u : k ≤ calls (e ∷ h) = r.1 in omega (arith, u, z, p))
    ∙ issue-past s h c q.0 (omega (arith, p, m))

no-issue-post : (i : Option Issue) → i ≡ None → is_post (route_of i) ≡ true → ⊥
no-issue-post None e p = cc
no-issue-post (Some x) e p = cc

not-again : (v : Sight) (l c : ℕ) → Acts v l (deed.Again c) → ⊥
not-again v l c (no_top e p) = p
not-again v l c (by_body k o a e x y p) = p

not-retry : (v : Sight) (l c : ℕ) (n : ℤ) → Acts v l (deed.Retry c n) → ⊥
not-retry v l c n (no_top e p) = p
not-retry v l c n (by_body k o a e x y p) = p

not-verdict : (v : Sight) (l c t : ℕ) (n : Verdict) → Acts v l (deed.Verdict c t n) → ⊥
not-verdict v l c t n (no_top e p) = p
not-verdict v l c t n (by_body k o a e x y p) = p

pub not-enter : (v : Sight) (l c o a : ℕ) (t : Option ℕ) (vs : List Value) → Acts v l (deed.Enter c o a t vs) → ⊥
not-enter v l c o a t vs (no_top e p) = p
not-enter v l c o a t vs (by_body k u b e x y p) = p

phase-step : (s : Scenario) (h : List Entry) (l now : ℕ) (d : Deed) (c : ℕ) → Tops (sight s h) l d → ((j : ℕ) → IsPosted (phase h j) → is_post (route_of (issue h j)) ≡ true) → (calls h + 1 ≤ c → issue h c ≡ None) → ((k : ℕ) (o : Option ℕ) (i m : ℕ) (r : Route) (cause : ℕ) (bytes : Option (List ℕ)) → d ≡ deed.Out k o i m r cause bytes → k ≡ calls h + 1) → IsPosted (phase_after (post_effect d) now c (phase h c)) → is_post (route_of (issue_or (issues l d) c (issue h c))) ≡ true
phase-step s h l now (deed.Out k o i m route.Post cause bytes) c t f g n q =
    elim (k == c) as (λ b. (k == c) ≡ b → IsPosted (cond b Queued (phase h c)) → is_post (route_of (cond b (Some (record { call = k; lane = l; object = o; iface = i; method = m; route = route.Post; cause = cause })) (issue h c))) ≡ true) [ true ↦ λ e q. refl | false ↦ λ e q. f c q ] refl q
phase-step s h l now (deed.Out k o i m route.Direct cause bytes) c t f g n q = not-unissued s h l (deed.Out k o i m route.Direct cause bytes) c (phase h c) (f c) (λ p r. no-issue-post (issue h c) (g p) (f c r)) n q
phase-step s h l now (deed.Out k o i m route.Switch cause bytes) c t f g n q = not-unissued s h l (deed.Out k o i m route.Switch cause bytes) c (phase h c) (f c) (λ p r. no-issue-post (issue h c) (g p) (f c r)) n q
phase-step s h l now (deed.Out k o i m route.Refused cause bytes) c t f g n q = not-unissued s h l (deed.Out k o i m route.Refused cause bytes) c (phase h c) (f c) (λ p r. no-issue-post (issue h c) (g p) (f c r)) n q
phase-step s h l now (deed.Again k) c (inl t) f g n q = absurd (not-again (sight s h) l k t)
phase-step s h l now (deed.Again k) c (inr t) f g n q = posted-if k c Queued (phase h c) (is_post (route_of (issue h c))) (λ e. subst (λ (j : ℕ). is_post (route_of (issue h j)) ≡ true) e (f k t)) (f c) q
phase-step s h l now (deed.Retry k x) c (inl t) f g n q = absurd (not-retry (sight s h) l k x t)
phase-step s h l now (deed.Retry k (negsuc x)) c (inr t) f g n q = posted-if k c GivenUp (phase h c) (is_post (route_of (issue h c))) (λ e. subst (λ (j : ℕ). is_post (route_of (issue h j)) ≡ true) e (f k t)) (f c) q
phase-step s h l now (deed.Retry k (pos x)) c (inr t) f g n q = by-test (nat_lt x 100) q
  where
    own : k ≡ c → is_post (route_of (issue h c)) ≡ true
    own e = subst (λ (j : ℕ). is_post (route_of (issue h j)) ≡ true) e (f k t)

    by-test : (b : Bool) → IsPosted (phase_after (cond b (Posts k) (Delays k x)) now c (phase h c)) → is_post (route_of (issue h c)) ≡ true
    by-test true q = posted-if k c Queued (phase h c) (is_post (route_of (issue h c))) own (f c) q
    by-test false q = posted-if k c (Delayed (now + x)) (phase h c) (is_post (route_of (issue h c))) own (f c) q
phase-step s h l now (deed.Verdict k y x) c (inl t) f g n q = absurd (not-verdict (sight s h) l k y x t)
phase-step s h l now (deed.Verdict k y x) c (inr t) f g n q = posted-if k c (Judged x) (phase h c) (is_post (route_of (issue h c))) (λ e. subst (λ (j : ℕ). is_post (route_of (issue h j)) ≡ true) e t) (f c) q
phase-step s h l now _ c t f g n q = f c q

pub phase-post : (s : Scenario) (h : List Entry) → legal s h → (c : ℕ) → IsPosted (phase h c) → is_post (route_of (issue h c)) ≡ true
phase-post s [] q c p = absurd p
phase-post s (e ∷ h) q c p =
    phase-step s h e.lane (clock h) e.deed c (tops-of s h e.lane e.deed (phase-post s h q.0) q.1) (phase-post s h q.0) (issue-past s h c q.0) (out-number s h e.lane e.deed (next-comes s h e.lane e.deed q.1)) p

pub next-tops : (s : Scenario) (h : List Entry) (e : Entry) → legal s (e ∷ h) → Tops (sight s h) e.lane e.deed
next-tops s h e q = tops-of s h e.lane e.deed (phase-post s h q.0) q.1
