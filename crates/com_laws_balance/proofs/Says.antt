-- What the rules say of the entry that they give: whether its lane has a home, and where its references come from.
use Rattle.std.proofs.Common.{subst, sym, ap, ◌∙◌, ◌⊎◌, inl, inr}
use Rattle.std.proofs.lemmas.Bool.{and_parts}
use Rattle.std.specs.Prelude.{◌≡◌, refl, ℕ, ℤ, Bool, true, false, cond, not, ◌==◌, ◌&&◌, nat_le, List, [], ◌∷◌, length, Option, Some, None, is_some, Result, Ok, Err, option_map}
use Rattle.com_base.specs.declared.standard.StdFields.{StdFields}
use Rattle.com_body.specs.declared.operands.Destination.{Destination}
use Rattle.objref.specs.declared.decoding.RefFault.{RefFault}
use Rattle.objref.specs.Grammar.{Reference, standard, handler, custom}
use Rattle.objref.specs.Reading.{objref_of}
use Rattle.com_classes.specs.Lookups.{class_at, method_at}
use Rattle.com_model.specs.declared.deeds.Route.{Route}
use Rattle.com_model.specs.declared.deeds.Route.TheVariants as route
use Rattle.com_model.specs.Lists.{where_true, first, first_that, one_to}
use Rattle.com_model.specs.Tables.{parameters, class_number, interface_number, result_kind, LaneSort, Thread, Host, Pool, NoLane, lane_sort}
use Rattle.com_model.specs.Openers.{running_call}
use Rattle.com_model.specs.declared.keeps.Opener.{Opener}
use Rattle.com_model.specs.declared.keeps.Opener.TheVariants.{Pumps, Waits, Enters}
use Rattle.com_model.specs.Calls.{object_of, route_of, is_marshalled}
use Rattle.com_model.specs.declared.keeps.Issue.{Issue}
use Rattle.com_model.specs.Values.{sent_values, sent_result}
use Rattle.com_model.specs.Endings.{answer_of, without_value}
use Rattle.com_model.specs.declared.keeps.Ending.{Ending}
use Rattle.com_model.specs.declared.keeps.Ending.TheVariants.{AtIssue, AtAdmission, ByVerdict, ByRetry, ByCancel, ByDisconnection, ByLeave}
use Rattle.com_refs_books.specs.Changes.{packet, cookie}
use Rattle.com_refs_books.specs.declared.keeps.Cookie.{Cookie}
use Rattle.com_model.specs.Answers.{S_OK, E_INVALIDARG, CO_E_OBJNOTCONNECTED, RPC_E_OUT_OF_RESOURCES, RPC_E_SERVER_CANTUNMARSHAL_DATA, RPC_E_CLIENT_CANTUNMARSHAL_DATA, is_S_OK}
use Rattle.com_model.specs.Deeds.{deed_of, initialised, uninitialised, creator, placing, made_as, created_of, created, owned_by, query_answer, queried, hold_refusal, marshalled, registered, is_named, named_packet, Named, NamesPacket, Refuses, named_or, named_in, named_by, gained_refs, unmarshalled, dropped, cookie_number, got_with, got, revoked, route_to, next_cause, out_bytes, called, reply_for, left_as, left_by}
use Rattle.com_model.specs.Rules.{posted_to_sta, call_sort, verdict_on, is_handled_in, arguments_gone, admission, rule_final, rule_own, enters_itself, own_call, due_of, result_gone, back_with, packet_left, answered, rule_answer, rule_bound, admits_next, rule_inbox, retried, rule_retry, posted_again, rule_again, asked_on, rule_pending, takes_word, pumped, rule_word, scripted, is_script_turn, rule_script, ruled, stepped, top, tick_time, no_lane_can, next_by, next}
use Rattle.com_model.proofs.Comes.{given-found}
use Rattle.com_model.proofs.Fines.{cond-is}
use Rattle.com_base.specs.declared.hresult.HResult.{HResult}
use Rattle.com_base.specs.declared.value.RefValue.{RefValue}
use Rattle.com_base.specs.declared.value.Value.{Value}
use Rattle.com_base.specs.declared.value.Mode.{Mode}
use Rattle.com_base.specs.declared.value.MarshalMode.{MarshalMode}
use Rattle.com_base.specs.declared.value.MarshalMode.TheVariants as marshal
use Rattle.com_body.specs.declared.operands.Asked.{Asked}
use Rattle.com_body.specs.declared.actions.Action.{Action}
use Rattle.com_body.specs.declared.actions.Action.TheVariants as action
use Rattle.com_classes.specs.declared.factory.Placed.{Placed}
use Rattle.com_model.specs.declared.deeds.Deed.{Deed}
use Rattle.com_model.specs.declared.deeds.Deed.TheVariants as deed
use Rattle.com_model.specs.declared.deeds.Entry.{Entry}
use Rattle.com_model.specs.declared.scenario.Scenario.{Scenario}
use Rattle.com_model.specs.Frames.{reference}
use Rattle.com_model.specs.Waiting.{bound_reached, mark_of, not_asked}
use Rattle.com_model.specs.declared.keeps.Phase.{Phase}
use Rattle.com_model.specs.declared.keeps.Word.{Word}
use Rattle.com_model.specs.declared.keeps.Phase.TheVariants.{Unposted, Queued, Judged, Delayed, GivenUp}
use Rattle.com_model.specs.Issue.{call_refusal}
use Rattle.com_model.specs.Sight.{Sight, sight}
use Rattle.com_model.proofs.Given.{Given, given-or, given-where, given-map, given-then}

-- ---- what an entry says

abbrev pub Homed : Sight → ℕ → Type 0
Homed v l = v.home l ≡ None → ⊥

abbrev pub iface_of : Option Issue → ℕ
iface_of None = 0
iface_of (Some i) = i.iface

abbrev pub method_of : Option Issue → ℕ
method_of None = 0
method_of (Some i) = i.method

-- What is known of the result and the call of a Leave.
pub record LeaveSays (s : Scenario) (v : Sight) (l c : ℕ) (hr : HResult) (x : Option Value) (bytes : Option (List ℕ)) : Type 0 where
  pub given : Option Value
  pub acts : v.act l ≡ Some (action.Leave hr given)
  pub sent : (x ≡ None) ⊎ (x ≡ sent_result (is_marshalled (route_of (v.issue c))) v.books.live hr (result_kind (method_at s.classes (iface_of (v.issue c)) (method_of (v.issue c)))) given)
  pub replied : (x ≡ None) ⊎ (is_some bytes ≡ (is_marshalled (route_of (v.issue c)) && not (v.returned c)))

-- What is known of the issue of a call.
pub record OutSays (s : Scenario) (v : Sight) (l i m : ℕ) (o : Option ℕ) (r : Route) (bytes : Option (List ℕ)) : Type 0 where
  pub held : Option RefValue
  pub args : List Value
  pub to : Destination
  pub acts : v.act l ≡ Some (action.Call held i m args to)
  pub object : o ≡ option_map (λ (x : RefValue). x.object) held
  pub homed : (r ≡ route.Refused) ⊎ (Homed v l × (r ≡ route_to v l held))
  pub marked : is_some bytes ≡ is_marshalled r

abbrev pub Says : Scenario → Sight → ℕ → Deed → Type 0
Says s v l (deed.Made (Some o) (Some a) k i hr) = Homed v l
Says s v l (deed.Made (Some o) None k i hr) = ⊥
Says s v l (deed.Query (Some o) i hr) = is_S_OK hr ≡ true → Homed v l
Says s v l (deed.Unmarshal (Some p) held refs hr) = Homed v l × ((packet v.books p).outstanding ≡ true) × (held ≡ Some (reference (packet v.books p).object (packet v.books p).iface))
Says s v l (deed.Unmarshal None held refs hr) = held ≡ None
Says s v l (deed.Get g (Some r) refs hr) = Homed v l × (v.books.live r.object ≡ true)
Says s v l (deed.Out c o i m r k bytes) = OutSays s v l i m o r bytes
Says s v l (deed.Enter c o y t vs) = (o ≡ object_of (v.issue c)) × (y ≡ v.owner o l) × (vs ≡ v.unread c) × (arguments_gone v c ≡ false)
Says s v l (deed.Leave c hr x bytes) = LeaveSays s v l c hr x bytes
Says s v l (deed.Back c hr x) = (is_some (v.ending c) ≡ true) × ((x ≡ None) ⊎ ((v.ending c ≡ Some (ByLeave hr x)) × (result_gone v c (v.books.result c) ≡ false)))
Says s v l (deed.Init m a hr) = (v.home l ≡ None) ⊎ (v.home l ≡ Some a)
Says s v l (deed.Uninit home n) = home ≡ v.home l
Says s v l _ = Unit {0}

some-not-none : {X : Type 0} (x : X) → Some x ≡ None → ⊥
some-not-none x e = cc

homed-by : (v : Sight) (l a : ℕ) → v.home l ≡ Some a → Homed v l
homed-by v l a e f = some-not-none a (sym e ∙ f)

-- ---- actions

made-says : (s : Scenario) (v : Sight) (l : ℕ) (k i : Asked) (r : Result Placed HResult) → Homed v l → Says s v l (made_as s v k i r)
made-says s v l k i (Ok p) g = g
made-says s v l k i (Err hr) g = tt

created_of-says : (s : Scenario) (v : Sight) (l a : ℕ) (k i : Asked) (c : Option ℕ) → Homed v l → Says s v l (created_of s v l a k i c (interface_number s i))
created_of-says s v l a k i None h = tt
created_of-says s v l a k i (Some c) h = made-says s v l k i (placing (creator v l a) c (interface_number s i) (class_at s.classes c)) h

created-says : (s : Scenario) (v : Sight) (l : ℕ) (k i : Asked) (home : Option ℕ) → v.home l ≡ home → Says s v l (created s v l k i home)
created-says s v l k i None e = tt
created-says s v l k i (Some a) e = created_of-says s v l a k i (class_number s k) (homed-by v l a e)

query-homed : (s : Scenario) (v : Sight) (l : ℕ) (home : Option ℕ) (r : RefValue) (j : Option ℕ) → v.home l ≡ home → is_S_OK (query_answer s v l home (Some r) j) ≡ true → Homed v l
query-homed s v l None r j e p = cc
query-homed s v l (Some a) r j e p = homed-by v l a e

queried-says : (s : Scenario) (v : Sight) (l : ℕ) (held : Option RefValue) (i : Asked) → Says s v l (queried s v l held i)
queried-says s v l None i = tt
queried-says s v l (Some r) i = λ p. query-homed s v l (v.home l) r (interface_number s i) refl p

refusal-homed : (s : Scenario) (v : Sight) (l : ℕ) (home : Option ℕ) (held : Option RefValue) (i x : ℕ) → v.home l ≡ home → call_refusal s home (v.running l) v.owns v.books.live held i x ≡ None → Homed v l
refusal-homed s v l None held i x e p = cc
refusal-homed s v l (Some a) held i x e p = homed-by v l a e

out-marked : (s : Scenario) (v : Sight) (l : ℕ) (r : Route) (k : ℕ) (vs : List Value) → is_some (out_bytes s v l r k vs) ≡ is_marshalled r
out-marked s v l route.Direct k vs = refl
out-marked s v l route.Refused k vs = refl
out-marked s v l route.Switch k vs = refl
out-marked s v l route.Post k vs = refl

called-says : (s : Scenario) (v : Sight) (l : ℕ) (held : Option RefValue) (i x : ℕ) (args : List Value) (to : Destination) (hr : Option HResult) → v.act l ≡ Some (action.Call held i x args to) → call_refusal s (v.home l) (v.running l) v.owns v.books.live held i x ≡ hr → Says s v l (called s v l held i x args hr)
called-says s v l held i x args to (Some hr) e p = record { held = held; args = args; to = to; acts = e; object = refl; homed = inl refl; marked = out-marked s v l route.Refused (next_cause v l) (sent_values true v.books.live (parameters (method_at s.classes i x)) args) }
called-says s v l held i x args to None e p = record { held = held; args = args; to = to; acts = e; object = refl; homed = inr (refusal-homed s v l (v.home l) held i x refl p, refl); marked = out-marked s v l (route_to v l held) (next_cause v l) (sent_values true v.books.live (parameters (method_at s.classes i x)) args) }

marshalled-says : (s : Scenario) (v : Sight) (l : ℕ) (x : MarshalMode) (held : Option RefValue) (hr : Option HResult) → Says s v l (marshalled s v l x held hr)
marshalled-says s v l x held (Some hr) = tt
marshalled-says s v l x None None = tt
marshalled-says s v l x (Some r) None = tt

registered-says : (s : Scenario) (v : Sight) (l : ℕ) (held : Option RefValue) (hr : Option HResult) → Says s v l (registered v held hr)
registered-says s v l held (Some hr) = tt
registered-says s v l held None = tt

abbrev NamedSays : Sight → ℕ → Named → Type 0
NamedSays v l (NamesPacket p) = Homed v l × ((packet v.books p).outstanding ≡ true)
NamedSays v l (Refuses hr) = Unit {0}

first-that : (test : ℕ → Bool) (xs : List ℕ) (p : ℕ) → first_that test xs ≡ Some p → test p ≡ true
first-that test [] p e = cc
first-that test (x ∷ xs) p e =
    elim (test x) as (λ t. test x ≡ t → cond t (Some x) (first_that test xs) ≡ Some p → test p ≡ true) [
      | true ↦ λ z q. subst (λ (n : ℕ). test n ≡ true) (same x p q) z
      | false ↦ λ z q. first-that test xs p q
    ] refl e
  where
    same : (x p : ℕ) → Some x ≡ Some p → x ≡ p
    same x p q = cc

named-or-says : (s : Scenario) (v : Sight) (l : ℕ) (f : StdFields) (o : Option ℕ) → Homed v l → named_packet s v f ≡ o → NamedSays v l (named_or o)
named-or-says s v l f None h e = tt
named-or-says s v l f (Some p) h e = (h, (and_parts (packet v.books p).outstanding _ (first-that (is_named s v f) (one_to (length v.books.packets)) p e)).0)

named-in-says : (s : Scenario) (v : Sight) (l : ℕ) (x : Result Reference RefFault) → Homed v l → NamedSays v l (named_in s v x)
named-in-says s v l (Err y) h = tt
named-in-says s v l (Ok (standard f flags strings)) h = named-or-says s v l f (named_packet s v f) h refl
named-in-says s v l (Ok (handler f flags g strings)) h = tt
named-in-says s v l (Ok (custom g k x y bytes)) h = tt

named-by-says : (s : Scenario) (v : Sight) (l : ℕ) (home : Option ℕ) (bytes : List ℕ) → v.home l ≡ home → NamedSays v l (named_by s v home bytes)
named-by-says s v l None bytes e = tt
named-by-says s v l (Some a) bytes e = named-in-says s v l (objref_of bytes) (homed-by v l a e)

unmarshalled-says : (s : Scenario) (v : Sight) (l : ℕ) (n : Named) → NamedSays v l n → Says s v l (unmarshalled v l n)
unmarshalled-says s v l (NamesPacket p) g = (g.0, g.1, refl)
unmarshalled-says s v l (Refuses hr) g = refl

dropped-says : (s : Scenario) (v : Sight) (l : ℕ) (n : Named) → Says s v l (dropped n)
dropped-says s v l (NamesPacket p) = tt
dropped-says s v l (Refuses hr) = tt

got-live : (s : Scenario) (v : Sight) (l : ℕ) (x : ℤ) (k : Cookie) (t : Bool) → Homed v l → v.books.live k.object ≡ t → Says s v l (cond t (deed.Get x (Some (reference k.object k.iface)) (gained_refs marshal.Strong (owned_by v l k.object) 0) S_OK) (deed.Get x None 0 CO_E_OBJNOTCONNECTED))
got-live s v l x k true h e = (h, e)
got-live s v l x k false h e = tt

got-says : (s : Scenario) (v : Sight) (l : ℕ) (x : ℤ) (home : Option ℕ) → v.home l ≡ home → Says s v l (got v l x home)
got-says s v l x None e = tt
got-says s v l x (Some b) e =
    let k : Cookie = cookie v.books (cookie_number x) in
    cond-is (Says s v l) k.is_revoked (deed.Get x None 0 E_INVALIDARG) (got_with v l x k) tt (got-live s v l x k (v.books.live k.object) (homed-by v l b e) refl)

revoked-says : (s : Scenario) (v : Sight) (l : ℕ) (x : ℤ) (home : Option ℕ) → Says s v l (revoked v x home)
revoked-says s v l x None = tt
revoked-says s v l x (Some b) = tt

reply-some : (s : Scenario) (v : Sight) (l : ℕ) (b : Bool) (hr : HResult) (x : Option Value) → is_some (reply_for s v l b hr x) ≡ b
reply-some s v l true hr x = refl
reply-some s v l false hr x = refl

left-says : (s : Scenario) (v : Sight) (l c : ℕ) (i : Option Issue) (hr : HResult) (x : Option Value) → v.act l ≡ Some (action.Leave hr x) → v.issue c ≡ i → Says s v l (left_as s v l c i hr x)
left-says s v l c None hr x e p = record { given = x; acts = e; sent = inl refl; replied = inl refl }
left-says s v l c (Some i) hr x e p =
    let k : is_marshalled (route_of (v.issue c)) ≡ is_marshalled i.route = ap (λ (j : Option Issue). is_marshalled (route_of j)) p in
    (record { given = x; acts = e; sent = inr (ap (λ (j : Option Issue). sent_result (is_marshalled (route_of j)) v.books.live hr (result_kind (method_at s.classes (iface_of j) (method_of j))) x) (sym p)); replied = inr (reply-some s v l (is_marshalled i.route && not (v.returned c)) hr _ ∙ ap (λ (b : Bool). b && not (v.returned c)) (sym k)) })

left-by-says : (s : Scenario) (v : Sight) (l : ℕ) (hr : HResult) (x : Option Value) (c : Option ℕ) → v.act l ≡ Some (action.Leave hr x) → Says s v l (left_by s v l hr x c)
left-by-says s v l hr x None e = record { given = x; acts = e; sent = inl refl; replied = inl refl }
left-by-says s v l hr x (Some c) e = left-says s v l c (v.issue c) hr x e refl

initialised-says : (s : Scenario) (v : Sight) (l : ℕ) (x : Mode) (home : Option ℕ) → v.home l ≡ home → Says s v l (initialised v x home)
initialised-says s v l x None e = inl e
initialised-says s v l x (Some a) e = inr e

deed-says : (s : Scenario) (v : Sight) (l : ℕ) (a : Action) → v.act l ≡ Some a → Says s v l (deed_of s v l a)
deed-says s v l (action.Create slot k i) e = created-says s v l k i (v.home l) refl
deed-says s v l (action.Query to held i) e = queried-says s v l held i
deed-says s v l (action.Copy to held) e = tt
deed-says s v l (action.Release from held) e = tt
deed-says s v l (action.Call held i x args to) e = called-says s v l held i x args to (call_refusal s (v.home l) (v.running l) v.owns v.books.live held i x) e refl
deed-says s v l (action.Marshal b held x) e = marshalled-says s v l x held (hold_refusal v (v.home l) held)
deed-says s v l (action.Unmarshal slot b) e = unmarshalled-says s v l (named_by s v (v.home l) (v.buffers b)) (named-by-says s v l (v.home l) (v.buffers b) refl)
deed-says s v l (action.Drop b) e = dropped-says s v l (named_by s v (v.home l) (v.buffers b))
deed-says s v l (action.Raw b bytes) e = tt
deed-says s v l (action.Register to held) e = registered-says s v l held (hold_refusal v (v.home l) held)
deed-says s v l (action.Get slot x) e = got-says s v l x (v.home l) refl
deed-says s v l (action.Revoke x) e = revoked-says s v l x (v.home l)
deed-says s v l (action.Disconnect held) e = tt
deed-says s v l (action.Post m w) e = tt
deed-says s v l (action.Quit m) e = tt
deed-says s v l (action.Leave hr x) e = left-by-says s v l hr x (running_call (v.openers l)) e
deed-says s v l (action.Init x) e = initialised-says s v l x (v.home l) refl
deed-says s v l action.Uninit e = refl
deed-says s v l (action.SetFilter f) e = tt
deed-says s v l (action.Pump k) e = tt

-- ---- the rules

entered-says : (s : Scenario) (v : Sight) (l c : ℕ) (t : Bool) → arguments_gone v c ≡ t → Says s v l (cond t (deed.Refuse c RPC_E_SERVER_CANTUNMARSHAL_DATA) (deed.Enter c (object_of (v.issue c)) (v.owner (object_of (v.issue c)) l) (where_true (posted_to_sta v c) (call_sort v l c)) (v.unread c)))
entered-says s v l c true e = tt
entered-says s v l c false e = (refl, refl, refl, e)

admission-says : (s : Scenario) (v : Sight) (l c : ℕ) → Says s v l (admission s v l c)
admission-says s v l c =
    cond-is (Says s v l) (nat_le 256 (length (v.openers l))) (deed.Refuse c RPC_E_OUT_OF_RESOURCES) _ tt
    (cond-is (Says s v l) (posted_to_sta v c && not (is_handled_in s v l c)) (deed.Verdict c (call_sort v l c) (verdict_on s v l c)) _ tt (entered-says s v l c (arguments_gone v c) refl))

answer-says : (hr : HResult) (e : Ending) → ((answer_of hr e).value ≡ None) ⊎ (e ≡ ByLeave (answer_of hr e).hr (answer_of hr e).value)
answer-says hr AtIssue = inl refl
answer-says hr (AtAdmission x) = inl refl
answer-says hr (ByVerdict v) = inl refl
answer-says hr ByRetry = inl refl
answer-says hr ByCancel = inl refl
answer-says hr ByDisconnection = inl refl
answer-says hr (ByLeave x v) = inr refl

back-says : (s : Scenario) (v : Sight) (l c : ℕ) (e : Ending) (t : Bool) → v.ending c ≡ Some e → result_gone v c (v.books.result c) ≡ t → Says s v l (back_with c (cond t (without_value RPC_E_CLIENT_CANTUNMARSHAL_DATA) (answer_of (v.at_issue c) e)))
back-says s v l c e true p q = (ap (λ (x : Option Ending). is_some x) p, inl refl)
back-says s v l c e false p q =
    elim (answer-says (v.at_issue c) e) as (λ _. Says s v l (back_with c (answer_of (v.at_issue c) e))) [ inl r ↦ (ap (λ (x : Option Ending). is_some x) p, inl r) | inr r ↦ (ap (λ (x : Option Ending). is_some x) p, inr (p ∙ ap Some r, q)) ]

answered-says : (s : Scenario) (v : Sight) (l c : ℕ) (e : Ending) (p : Option ℕ) → v.ending c ≡ Some e → Says s v l (answered v c (answer_of (v.at_issue c) e) p)
answered-says s v l c e (Some p) q = tt
answered-says s v l c e None q = back-says s v l c e (result_gone v c (v.books.result c)) q refl

due-says : (s : Scenario) (v : Sight) (l c : ℕ) (e : Option Ending) → v.ending c ≡ e → Given (Says s v l) (option_map (λ x. answered v c x (packet_left v c)) (option_map (answer_of (v.at_issue c)) e))
due-says s v l c None q = tt
due-says s v l c (Some e) q = answered-says s v l c e (packet_left v c) q

retried-says : (s : Scenario) (v : Sight) (l c : ℕ) (p : Phase) → Given (Says s v l) (retried s v l c p)
retried-says s v l c Unposted = tt
retried-says s v l c Queued = tt
retried-says s v l c (Judged x) = tt
retried-says s v l c (Delayed t) = tt
retried-says s v l c GivenUp = tt

again-says : (s : Scenario) (v : Sight) (l c : ℕ) (p : Phase) → Given (Says s v l) (posted_again v c p)
again-says s v l c Unposted = tt
again-says s v l c Queued = tt
again-says s v l c (Judged x) = tt
again-says s v l c (Delayed t) = given-where (Says s v l) (nat_le t v.clock) (deed.Again c) tt
again-says s v l c GivenUp = tt

asked-says : (s : Scenario) (v : Sight) (l c : ℕ) (w : Option Word) → Given (Says s v l) (asked_on s v l c w)
asked-says s v l c None = tt
asked-says s v l c (Some w) = given-where (Says s v l) _ (deed.Pending c w.word _) tt

taken-says : (s : Scenario) (v : Sight) (l : ℕ) (w : Option Word) (q : Bool) → Given (Says s v l) (takes_word w q)
taken-says s v l (Some w) q = tt
taken-says s v l None q = given-where (Says s v l) q deed.EndPump tt

word-says : (s : Scenario) (v : Sight) (l : ℕ) (o : Option Opener) → Given (Says s v l) (pumped v l o)
word-says s v l None = tt
word-says s v l (Some (Pumps n)) = taken-says s v l (first (v.mail l).words) (v.quit l)
word-says s v l (Some (Waits c)) = tt
word-says s v l (Some (Enters c o b)) = tt

scripted-says : (s : Scenario) (v : Sight) (l : ℕ) (x : Option Action) → v.act l ≡ x → Says s v l (scripted s v l x)
scripted-says s v l None e = cond-is (Says s v l) (v.count l == 0) deed.End (uninitialised v l) tt refl
scripted-says s v l (Some a) e = deed-says s v l a e

ruled-says : (s : Scenario) (v : Sight) (l : ℕ) → Given (Says s v l) (ruled s v l)
ruled-says s v l =
    let P : Deed → Type 0 = Says s v l in
    given-or P (rule_final v l) _ (given-map P (λ o. deed.Final o) (first (v.dying l)) (λ o. tt))
    (given-or P (rule_own s v l) _ (given-then P (λ c. where_true (enters_itself v c) (admission s v l c)) (own_call v l) (λ c. given-where P (enters_itself v c) (admission s v l c) (admission-says s v l c)))
    (given-or P (rule_answer v l) _ (given-then P (λ c. option_map (λ x. answered v c x (packet_left v c)) (due_of v c)) (own_call v l) (λ c. due-says s v l c (v.ending c) refl))
    (given-or P (rule_bound v l) _ (given-where P (bound_reached (v.openers l) (v.served l)) deed.EndPump tt)
    (given-or P (rule_inbox s v l) _ (given-map P (admission s v l) (admits_next v l (lane_sort s l)) (λ c. admission-says s v l c))
    (given-or P (rule_retry s v l) _ (given-then P (λ c. retried s v l c (v.phase c)) (own_call v l) (λ c. retried-says s v l c (v.phase c)))
    (given-or P (rule_again v l) _ (given-then P (λ c. posted_again v c (v.phase c)) (own_call v l) (λ c. again-says s v l c (v.phase c)))
    (given-or P (rule_pending s v l) _ (given-then P (λ c. asked_on s v l c (not_asked (mark_of (v.mail l).marks c) (v.mail l).words)) (own_call v l) (λ c. asked-says s v l c (not_asked (mark_of (v.mail l).marks c) (v.mail l).words)))
    (given-or P (rule_word v l) (rule_script s v l) (word-says s v l (top v l))
    (given-where P (is_script_turn (lane_sort s l) (top v l) (v.over l)) (scripted s v l (v.act l)) (scripted-says s v l (v.act l) refl))))))))))

stepped-says : (s : Scenario) (v : Sight) (l : ℕ) (o : Option Opener) → Given (Says s v l) (stepped s v l o)
stepped-says s v l None = ruled-says s v l
stepped-says s v l (Some (Pumps n)) = ruled-says s v l
stepped-says s v l (Some (Waits c)) = ruled-says s v l
stepped-says s v l (Some (Enters c o a)) = given-found (Says s v l) (deed_of s v l) (v.act l) (λ x e. deed-says s v l x e)

ticks-says : (s : Scenario) (v : Sight) (l : ℕ) (b d : Bool) (t : Option ℕ) → Given (Says s v l) (cond b (cond d (option_map (λ n. deed.Tick n) t) None) None)
ticks-says s v l true true None = tt
ticks-says s v l true true (Some n) = tt
ticks-says s v l true false t = tt
ticks-says s v l false d t = tt

by-says : (s : Scenario) (v : Sight) (sort : LaneSort) (l : ℕ) → Given (Says s v l) (next_by s v sort l)
by-says s v Thread l = stepped-says s v l (top v l)
by-says s v Host l = stepped-says s v l (top v l)
by-says s v Pool l = stepped-says s v l (top v l)
by-says s v NoLane l = ticks-says s v l (l == 0) (no_lane_can s v) (tick_time v)

pub next-says : (s : Scenario) (h : List Entry) (l : ℕ) (d : Deed) → next s h l ≡ Some d → Says s (sight s h) l d
next-says s h l d e = subst (λ (x : Option Deed). Given (Says s (sight s h) l) x) e (by-says s (sight s h) (lane_sort s l) l)
