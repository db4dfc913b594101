-- A quiet deed or an Out that the rules give writes no slot and no link, names the lane's home where it names one, and ends a pump that is
-- the lane's top.
use Rattle.std.proofs.Common.{◌≡◌, refl, sym, ◌∙◌, ap, subst, ℕ, ℤ, zero, suc, Bool, true, false, cond, not, ◌==◌, ◌&&◌, nat_le, List, [], ◌∷◌}
use Rattle.std.specs.Prelude.{Option, Some, None, option_map, option_and_then, Result, Ok, Err, length}
use Rattle.com_base.specs.declared.hresult.HResult.{HResult}
use Rattle.com_base.specs.declared.value.RefValue.{RefValue}
use Rattle.com_base.specs.declared.value.Value.{Value}
use Rattle.com_base.specs.declared.value.Mode.{Mode}
use Rattle.com_base.specs.declared.value.MarshalMode.{MarshalMode}
use Rattle.com_base.specs.declared.value.MarshalMode.TheVariants as marshal
use Rattle.com_body.specs.declared.operands.Asked.{Asked}
use Rattle.com_body.specs.declared.actions.Action.{Action}
use Rattle.com_body.specs.declared.actions.Action.TheVariants as action
use Rattle.com_refs_books.specs.declared.keeps.Cookie.{Cookie}
use Rattle.com_refs_books.specs.Changes.{cookie}
use Rattle.com_classes.specs.declared.factory.Placed.{Placed}
use Rattle.com_classes.specs.Lookups.{class_at}
use Rattle.com_model.specs.declared.deeds.Deed.{Deed}
use Rattle.com_model.specs.declared.deeds.Deed.TheVariants as deed
use Rattle.com_model.specs.declared.keeps.Issue.{Issue}
use Rattle.com_model.specs.declared.scenario.Scenario.{Scenario}
use Rattle.com_model.specs.Answers.{S_OK, E_INVALIDARG, CO_E_OBJNOTCONNECTED, RPC_E_OUT_OF_RESOURCES, RPC_E_SERVER_CANTUNMARSHAL_DATA}
use Rattle.com_model.specs.Lists.{where_true, first}
use Rattle.com_model.specs.Issue.{call_refusal}
use Rattle.com_model.specs.Tables.{class_number, interface_number, LaneSort, Thread, Host, Pool, NoLane, lane_sort}
use Rattle.com_model.specs.declared.keeps.Opener.{Opener}
use Rattle.com_model.specs.declared.keeps.Opener.TheVariants.{Pumps, Waits, Enters}
use Rattle.com_model.specs.declared.keeps.Phase.{Phase}
use Rattle.com_model.specs.declared.keeps.Phase.TheVariants.{Unposted, Queued, Judged, Delayed, GivenUp}
use Rattle.com_model.specs.declared.keeps.Word.{Word}
use Rattle.com_model.specs.Openers.{running_call}
use Rattle.com_model.specs.Apartments.{is_sta}
use Rattle.com_model.specs.Calls.{object_of, is_post, route_of}
use Rattle.com_model.specs.Endings.{Answer}
use Rattle.com_model.specs.Frames.{Write, ToRegister, ToSlot, ToLink, ToBuffer, writes, reference}
use Rattle.com_model.specs.Waiting.{mark_of, not_asked, bound_reached}
use Rattle.com_model.specs.Sight.{Sight}
use Rattle.com_model.specs.Deeds.{hold_refusal, named_by, deed_of, created, created_of, initialised, marshalled, registered, Named, NamesPacket, Refuses, unmarshalled, dropped, got, got_with, cookie_number, gained_refs, owned_by, made_as, creator, placing, revoked, uninitialised, in_sta, called, left_by, left_as}
use Rattle.com_model.specs.Rules.{posted_to_sta, is_handled_in, call_sort, verdict_on, arguments_gone, enters_itself, packet_left, due_of, admits_next, no_lane_can, tick_time, next_by, stepped, ruled, own_call, admission, rule_final, rule_own, rule_answer, rule_bound, rule_inbox, rule_retry, rule_again, rule_pending, rule_word, rule_script, answered, retried, posted_again, asked_on, pumped, takes_word, scripted, is_script_turn, admits_sta, is_open_to_calls, waiting_call, top}
use Rattle.com_model.proofs.Given.{Given, given-or, given-where, given-map, given-then, cond-of}
use Rattle.com_state.specs.Resting.{is_quiet}

-- The quiet deeds, and an Out.
abbrev pub is_still : Deed → Bool
is_still (deed.Out c o i m r k bytes) = true
is_still d = is_quiet d

pub quiet-stills : (d : Deed) → is_quiet d ≡ true → is_still d ≡ true
quiet-stills (deed.Out c o i m r k bytes) q = refl
quiet-stills _ q = q

-- ---- what is said of a deed

abbrev pub IsPlain : List Write → Type 0
IsPlain [] = Unit {0}
IsPlain (ToRegister r v ∷ xs) = IsPlain xs
IsPlain (ToBuffer b bytes ∷ xs) = IsPlain xs
IsPlain (ToSlot k held ∷ xs) = ⊥
IsPlain (ToLink k held ∷ xs) = ⊥

abbrev pub PlainStep : Option Action → Deed → Type 0
PlainStep None d = Unit {0}
PlainStep (Some a) d = IsPlain (writes a d)

pub data Sort : Type 0 where
  Inits : ℕ → Sort
  Uninits : Option ℕ → Sort
  EndsPump : Sort
  Others : Sort

abbrev pub sort_of : Deed → Sort
sort_of (deed.Init m a hr) = Inits a
sort_of (deed.Uninit a n) = Uninits a
sort_of deed.EndPump = EndsPump
sort_of _ = Others

abbrev pub StartsPump : List Opener → Type 0
StartsPump (Pumps n ∷ os) = Unit {0}
StartsPump _ = ⊥

abbrev pub Fits : (home : Option ℕ) → List Opener → Sort → Type 0
Fits h os (Inits a) = h ≡ Some a
Fits h os (Uninits a) = h ≡ a
Fits h os EndsPump = StartsPump os
Fits h os Others = Unit {0}

pub record Apt (act : Option Action) (home : Option ℕ) (os : List Opener) (d : Deed) : Type 0 where
  pub plain : PlainStep act d
  pub fits : Fits home os (sort_of d)

clash : false ≡ true → ⊥
clash e = cc

-- ---- the deed of an action

abbrev Loud : Deed → Type 0
Loud d = is_still d ≡ false

abbrev Other : Deed → Type 0
Other d = sort_of d ≡ Others

loud : (P : Type 0) (d : Deed) → Loud d → is_still d ≡ true → P
loud P d e q = absurd (clash (sym e ∙ q))

created-loud : (s : Scenario) (v : Sight) (l : ℕ) (k i : Asked) (a : Option ℕ) → Loud (created s v l k i a)
created-loud s v l k i None = refl
created-loud s v l k i (Some a) = by-class (class_number s k) (interface_number s i)
  where
    by-place : (r : Result Placed HResult) → Loud (made_as s v k i r)
    by-place (Ok p) = refl
    by-place (Err hr) = refl

    by-class : (c j : Option ℕ) → Loud (created_of s v l a k i c j)
    by-class None j = refl
    by-class (Some c) j = by-place (placing (creator v l a) c j (class_at s.classes c))

unmarshalled-loud : (v : Sight) (l : ℕ) (n : Named) → Loud (unmarshalled v l n)
unmarshalled-loud v l (NamesPacket p) = refl
unmarshalled-loud v l (Refuses hr) = refl

got-loud : (v : Sight) (l : ℕ) (g : ℤ) (a : Option ℕ) → Loud (got v l g a)
got-loud v l g None = refl
got-loud v l g (Some a) = cond-of Loud k.is_revoked (deed.Get g None 0 E_INVALIDARG) (got_with v l g k) refl (cond-of Loud (v.books.live k.object) (deed.Get g (Some (reference k.object k.iface)) (gained_refs marshal.Strong (owned_by v l k.object) 0) S_OK) (deed.Get g None 0 CO_E_OBJNOTCONNECTED) refl refl)
  where
    k : Cookie
    k = cookie v.books (cookie_number g)

called-other : (s : Scenario) (v : Sight) (l : ℕ) (held : Option RefValue) (i m : ℕ) (args : List Value) (hr : Option HResult) → Other (called s v l held i m args hr)
called-other s v l held i m args (Some hr) = refl
called-other s v l held i m args None = refl

left-loud : (s : Scenario) (v : Sight) (l : ℕ) (hr : HResult) (x : Option Value) (r : Option ℕ) → Loud (left_by s v l hr x r)
left-loud s v l hr x None = refl
left-loud s v l hr x (Some c) = by-issue (v.issue c)
  where
    by-issue : (i : Option Issue) → Loud (left_as s v l c i hr x)
    by-issue None = refl
    by-issue (Some i) = refl

marshalled-other : (s : Scenario) (v : Sight) (l : ℕ) (m : MarshalMode) (held : Option RefValue) (hr : Option HResult) → Other (marshalled s v l m held hr)
marshalled-other s v l m held (Some hr) = refl
marshalled-other s v l m None None = refl
marshalled-other s v l m (Some r) None = refl

marshalled-plain : (s : Scenario) (v : Sight) (l b : ℕ) (m : MarshalMode) (held : Option RefValue) (hr : Option HResult) → IsPlain (writes (action.Marshal b held m) (marshalled s v l m held hr))
marshalled-plain s v l b m held (Some hr) = tt
marshalled-plain s v l b m None None = tt
marshalled-plain s v l b m (Some r) None = tt

registered-other : (v : Sight) (held : Option RefValue) (hr : Option HResult) → Other (registered v held hr)
registered-other v held (Some hr) = refl
registered-other v held None = refl

dropped-other : (n : Named) → Other (dropped n)
dropped-other (NamesPacket p) = refl
dropped-other (Refuses hr) = refl

revoked-other : (v : Sight) (g : ℤ) (a : Option ℕ) → Other (revoked v g a)
revoked-other v g None = refl
revoked-other v g (Some a) = refl

deed-plain : (s : Scenario) (v : Sight) (l : ℕ) (a : Action) → is_still (deed_of s v l a) ≡ true → IsPlain (writes a (deed_of s v l a))
deed-plain s v l (action.Create slot k i) q = loud _ (created s v l k i (v.home l)) (created-loud s v l k i (v.home l)) q
deed-plain s v l (action.Query to held i) q = absurd (clash q)
deed-plain s v l (action.Copy to held) q = absurd (clash q)
deed-plain s v l (action.Release from held) q = absurd (clash q)
deed-plain s v l (action.Call held i m args to) q = tt
deed-plain s v l (action.Marshal b held m) q = marshalled-plain s v l b m held (hold_refusal v (v.home l) held)
deed-plain s v l (action.Unmarshal slot b) q = loud _ (unmarshalled v l (named_by s v (v.home l) (v.buffers b))) (unmarshalled-loud v l (named_by s v (v.home l) (v.buffers b))) q
deed-plain s v l (action.Drop b) q = tt
deed-plain s v l (action.Raw b bytes) q = tt
deed-plain s v l (action.Register to held) q = tt
deed-plain s v l (action.Get slot g) q = loud _ (got v l g (v.home l)) (got-loud v l g (v.home l)) q
deed-plain s v l (action.Revoke g) q = tt
deed-plain s v l (action.Disconnect held) q = tt
deed-plain s v l (action.Post m w) q = tt
deed-plain s v l (action.Quit m) q = tt
deed-plain s v l (action.Leave hr x) q = tt
deed-plain s v l (action.Init m) q = tt
deed-plain s v l action.Uninit q = tt
deed-plain s v l (action.SetFilter f) q = tt
deed-plain s v l (action.Pump n) q = tt

other-fits : (h : Option ℕ) (os : List Opener) (d : Deed) → Other d → Fits h os (sort_of d)
other-fits h os d e = subst (λ (x : Sort). Fits h os x) (sym e) tt

init-fits : (v : Sight) (m : Mode) (h : Option ℕ) (os : List Opener) → is_still (initialised v m h) ≡ true → Fits h os (sort_of (initialised v m h))
init-fits v m None os q = absurd (clash q)
init-fits v m (Some a) os q = refl

deed-fits : (s : Scenario) (v : Sight) (l : ℕ) (os : List Opener) (a : Action) → is_still (deed_of s v l a) ≡ true → Fits (v.home l) os (sort_of (deed_of s v l a))
deed-fits s v l os (action.Create slot k i) q = loud _ (created s v l k i (v.home l)) (created-loud s v l k i (v.home l)) q
deed-fits s v l os (action.Query to held i) q = tt
deed-fits s v l os (action.Copy to held) q = tt
deed-fits s v l os (action.Release from held) q = tt
deed-fits s v l os (action.Call held i m args to) q = other-fits (v.home l) os (called s v l held i m args (call_refusal s (v.home l) (v.running l) v.owns v.books.live held i m)) (called-other s v l held i m args (call_refusal s (v.home l) (v.running l) v.owns v.books.live held i m))
deed-fits s v l os (action.Marshal b held m) q = other-fits (v.home l) os _ (marshalled-other s v l m held (hold_refusal v (v.home l) held))
deed-fits s v l os (action.Unmarshal slot b) q = loud _ (unmarshalled v l (named_by s v (v.home l) (v.buffers b))) (unmarshalled-loud v l (named_by s v (v.home l) (v.buffers b))) q
deed-fits s v l os (action.Drop b) q = other-fits (v.home l) os _ (dropped-other (named_by s v (v.home l) (v.buffers b)))
deed-fits s v l os (action.Raw b bytes) q = tt
deed-fits s v l os (action.Register to held) q = other-fits (v.home l) os _ (registered-other v held (hold_refusal v (v.home l) held))
deed-fits s v l os (action.Get slot g) q = loud _ (got v l g (v.home l)) (got-loud v l g (v.home l)) q
deed-fits s v l os (action.Revoke g) q = other-fits (v.home l) os _ (revoked-other v g (v.home l))
deed-fits s v l os (action.Disconnect held) q = tt
deed-fits s v l os (action.Post m w) q = tt
deed-fits s v l os (action.Quit m) q = tt
deed-fits s v l os (action.Leave hr x) q = loud _ (left_by s v l hr x (running_call (v.openers l))) (left-loud s v l hr x (running_call (v.openers l))) q
deed-fits s v l os (action.Init m) q = init-fits v m (v.home l) os q
deed-fits s v l os action.Uninit q = refl
deed-fits s v l os (action.SetFilter f) q = tt
deed-fits s v l os (action.Pump n) q = tt

-- ---- the rules

abbrev QuietApt : Option Action → Option ℕ → List Opener → Deed → Type 0
QuietApt act h os d = is_still d ≡ true → Apt act h os d

deed-apt : (s : Scenario) (v : Sight) (l : ℕ) (os : List Opener) (a : Action) → v.act l ≡ Some a → QuietApt (v.act l) (v.home l) os (deed_of s v l a)
deed-apt s v l os a e q = record {
  plain = subst (λ (x : Option Action). PlainStep x (deed_of s v l a)) (sym e) (deed-plain s v l a q);
  fits = deed-fits s v l os a q;
}

-- Where nobody acts.
idle-apt : (act : Option Action) (h : Option ℕ) (os : List Opener) (d : Deed) → act ≡ None → Fits h os (sort_of d) → QuietApt act h os d
idle-apt act h os d e f q = record {
  plain = subst (λ (x : Option Action). PlainStep x d) (sym e) tt;
  fits = f;
}

admission-apt : (s : Scenario) (v : Sight) (l c : ℕ) (act : Option Action) (h : Option ℕ) (os : List Opener) → act ≡ None → QuietApt act h os (admission s v l c)
admission-apt s v l c act h os e =
    cond-of (QuietApt act h os) (nat_le 256 (length (v.openers l))) (deed.Refuse c RPC_E_OUT_OF_RESOURCES) _ (idle-apt act h os _ e tt)
    (cond-of (QuietApt act h os) (posted_to_sta v c && not (is_handled_in s v l c)) (deed.Verdict c (call_sort v l c) (verdict_on s v l c)) _ (idle-apt act h os _ e tt)
    (cond-of (QuietApt act h os) (arguments_gone v c) (deed.Refuse c RPC_E_SERVER_CANTUNMARSHAL_DATA) (deed.Enter c (object_of (v.issue c)) (v.owner (object_of (v.issue c)) l) (where_true (posted_to_sta v c) (call_sort v l c)) (v.unread c)) (idle-apt act h os _ e tt) (λ q. absurd (clash q))))

answered-apt : (v : Sight) (c : ℕ) (x : Answer) (p : Option ℕ) (act : Option Action) (h : Option ℕ) (os : List Opener) → QuietApt act h os (answered v c x p)
answered-apt v c x (Some p) act h os q = absurd (clash q)
answered-apt v c x None act h os q = absurd (clash q)

bound-apt : (os : List Opener) (n : ℕ) (act : Option Action) (h : Option ℕ) → act ≡ None → Given (QuietApt act h os) (where_true (bound_reached os n) deed.EndPump)
bound-apt [] n act h e = tt
bound-apt (Pumps zero ∷ os) n act h e = tt
bound-apt (Pumps (suc k) ∷ os) n act h e = given-where (QuietApt act h (Pumps (suc k) ∷ os)) (nat_le (suc k) n) deed.EndPump (idle-apt act h (Pumps (suc k) ∷ os) deed.EndPump e tt)
bound-apt (Waits c ∷ os) n act h e = tt
bound-apt (Enters c o a ∷ os) n act h e = tt

retried-apt : (s : Scenario) (v : Sight) (l c : ℕ) (p : Phase) (act : Option Action) (h : Option ℕ) (os : List Opener) → act ≡ None → Given (QuietApt act h os) (retried s v l c p)
retried-apt s v l c Unposted act h os e = tt
retried-apt s v l c Queued act h os e = tt
retried-apt s v l c (Judged x) act h os e = idle-apt act h os _ e tt
retried-apt s v l c (Delayed t) act h os e = tt
retried-apt s v l c GivenUp act h os e = tt

again-apt : (v : Sight) (c : ℕ) (p : Phase) (act : Option Action) (h : Option ℕ) (os : List Opener) → act ≡ None → Given (QuietApt act h os) (posted_again v c p)
again-apt v c Unposted act h os e = tt
again-apt v c Queued act h os e = tt
again-apt v c (Judged x) act h os e = tt
again-apt v c (Delayed t) act h os e = given-where (QuietApt act h os) (nat_le t v.clock) (deed.Again c) (idle-apt act h os _ e tt)
again-apt v c GivenUp act h os e = tt

asked-apt : (s : Scenario) (v : Sight) (l c : ℕ) (w : Option Word) (act : Option Action) (h : Option ℕ) (os : List Opener) → act ≡ None → Given (QuietApt act h os) (asked_on s v l c w)
asked-apt s v l c None act h os e = tt
asked-apt s v l c (Some w) act h os e = given-where (QuietApt act h os) (in_sta (v.home l) && is_post (route_of (v.issue c))) (deed.Pending c w.word _) (idle-apt act h os _ e tt)

word-apt : (v : Sight) (l : ℕ) (xs : List Opener) (act : Option Action) (h : Option ℕ) → act ≡ None → Given (QuietApt act h xs) (pumped v l (first xs))
word-apt v l [] act h e = tt
word-apt v l (Pumps n ∷ xs) act h e = by-word (first (v.mail l).words) (v.quit l)
  where
    by-word : (w : Option Word) (k : Bool) → Given (QuietApt act h (Pumps n ∷ xs)) (takes_word w k)
    by-word (Some w) k = idle-apt act h (Pumps n ∷ xs) _ e tt
    by-word None k = given-where (QuietApt act h (Pumps n ∷ xs)) k deed.EndPump (idle-apt act h (Pumps n ∷ xs) deed.EndPump e tt)
word-apt v l (Waits c ∷ xs) act h e = tt
word-apt v l (Enters c o a ∷ xs) act h e = tt

scripted-apt : (s : Scenario) (v : Sight) (l : ℕ) (os : List Opener) (x : Option Action) → v.act l ≡ x → QuietApt (v.act l) (v.home l) os (scripted s v l x)
scripted-apt s v l os None e = cond-of (QuietApt (v.act l) (v.home l) os) (v.count l == 0) deed.End (uninitialised v l) (idle-apt (v.act l) (v.home l) os deed.End e tt) (idle-apt (v.act l) (v.home l) os (uninitialised v l) e refl)
scripted-apt s v l os (Some a) e = deed-apt s v l os a e

script-apt : (s : Scenario) (v : Sight) (l : ℕ) → Given (QuietApt (v.act l) (v.home l) (v.openers l)) (rule_script s v l)
script-apt s v l = given-where (QuietApt (v.act l) (v.home l) (v.openers l)) (is_script_turn (lane_sort s l) (top v l) (v.over l)) (scripted s v l (v.act l)) (scripted-apt s v l (v.openers l) (v.act l) refl)

final-apt : (v : Sight) (l : ℕ) (act : Option Action) (h : Option ℕ) (os : List Opener) → Given (QuietApt act h os) (rule_final v l)
final-apt v l act h os = given-map (QuietApt act h os) (λ o. deed.Final o) (first (v.dying l)) (λ o q. absurd (clash q))

-- Where nobody acts, each rule gives such a deed.
idle-ruled : (s : Scenario) (v : Sight) (l : ℕ) → v.act l ≡ None → Given (QuietApt (v.act l) (v.home l) (v.openers l)) (ruled s v l)
idle-ruled s v l e =
    let act : Option Action = v.act l in
    let h : Option ℕ = v.home l in
    let os : List Opener = v.openers l in
    let P : Deed → Type 0 = QuietApt act h os in
    given-or P (rule_final v l) _ (final-apt v l act h os)
    (given-or P (rule_own s v l) _ (given-then P (λ c. where_true (enters_itself v c) (admission s v l c)) (own_call v l) (λ c. given-where P (enters_itself v c) (admission s v l c) (admission-apt s v l c act h os e)))
    (given-or P (rule_answer v l) _ (given-then P (λ c. option_map (λ x. answered v c x (packet_left v c)) (due_of v c)) (own_call v l) (λ c. given-map P (λ x. answered v c x (packet_left v c)) (due_of v c) (λ x. answered-apt v c x (packet_left v c) act h os)))
    (given-or P (rule_bound v l) _ (bound-apt os (v.served l) act h e)
    (given-or P (rule_inbox s v l) _ (given-map P (admission s v l) (admits_next v l (lane_sort s l)) (λ c. admission-apt s v l c act h os e))
    (given-or P (rule_retry s v l) _ (given-then P (λ c. retried s v l c (v.phase c)) (own_call v l) (λ c. retried-apt s v l c (v.phase c) act h os e))
    (given-or P (rule_again v l) _ (given-then P (λ c. posted_again v c (v.phase c)) (own_call v l) (λ c. again-apt v c (v.phase c) act h os e))
    (given-or P (rule_pending s v l) _ (given-then P (λ c. asked_on s v l c (not_asked (mark_of (v.mail l).marks c) (v.mail l).words)) (own_call v l) (λ c. asked-apt s v l c (not_asked (mark_of (v.mail l).marks c) (v.mail l).words) act h os e))
    (given-or P (rule_word v l) (rule_script s v l) (word-apt v l os act h e)
    (script-apt s v l)))))))))

given-none : (P : Deed → Type 0) (x : Option Deed) → x ≡ None → Given P x
given-none P x e = subst (λ (y : Option Deed). Given P y) (sym e) tt

-- A script without opener: no rule but the first and the last gives a deed.
thread-inbox : (v : Sight) (l : ℕ) (h : Option ℕ) → top v l ≡ None → admits_sta v l Thread h ≡ None
thread-inbox v l None e = refl
thread-inbox v l (Some a) e = ap (λ (t : Option Opener). cond (is_sta a && is_open_to_calls v Thread t) (first (v.inbox a)) None) e ∙ none-open (is_sta a)
  where
    none-open : (b : Bool) → cond (b && false) (first (v.inbox a)) None ≡ None
    none-open true = refl
    none-open false = refl

thread-ruled : (s : Scenario) (v : Sight) (l : ℕ) → lane_sort s l ≡ Thread → v.openers l ≡ [] → Given (QuietApt (v.act l) (v.home l) (v.openers l)) (ruled s v l)
thread-ruled s v l t e =
    let P : Deed → Type 0 = QuietApt (v.act l) (v.home l) (v.openers l) in
    let own : own_call v l ≡ None = ap (λ (os : List Opener). waiting_call (first os)) e in
    given-or P (rule_final v l) _ (final-apt v l (v.act l) (v.home l) (v.openers l))
    (given-or P (rule_own s v l) _ (given-none P (rule_own s v l) (ap (λ (c : Option ℕ). option_and_then (λ c. where_true (enters_itself v c) (admission s v l c)) c) own))
    (given-or P (rule_answer v l) _ (given-none P (rule_answer v l) (ap (λ (c : Option ℕ). option_and_then (λ c. option_map (λ x. answered v c x (packet_left v c)) (due_of v c)) c) own))
    (given-or P (rule_bound v l) _ (given-none P (rule_bound v l) (ap (λ (os : List Opener). where_true (bound_reached os (v.served l)) deed.EndPump) e))
    (given-or P (rule_inbox s v l) _ (given-none P (rule_inbox s v l) (ap (λ (x : LaneSort). option_map (admission s v l) (admits_next v l x)) t ∙ ap (λ (c : Option ℕ). option_map (admission s v l) c) (thread-inbox v l (v.home l) (ap (λ (os : List Opener). first os) e))))
    (given-or P (rule_retry s v l) _ (given-none P (rule_retry s v l) (ap (λ (c : Option ℕ). option_and_then (λ c. retried s v l c (v.phase c)) c) own))
    (given-or P (rule_again v l) _ (given-none P (rule_again v l) (ap (λ (c : Option ℕ). option_and_then (λ c. posted_again v c (v.phase c)) c) own))
    (given-or P (rule_pending s v l) _ (given-none P (rule_pending s v l) (ap (λ (c : Option ℕ). option_and_then (λ c. asked_on s v l c (not_asked (mark_of (v.mail l).marks c) (v.mail l).words)) c) own))
    (given-or P (rule_word v l) (rule_script s v l) (given-none P (rule_word v l) (ap (λ (os : List Opener). pumped v l (first os)) e))
    (script-apt s v l)))))))))

-- ---- the next entry of a lane

-- Nobody acts, but in a lane whose top is an Enter, and in a thread's lane without opener.
abbrev pub Idle : LaneSort → List Opener → Option Action → Type 0
Idle sort (Enters c o a ∷ os) x = Unit {0}
Idle sort (Waits c ∷ os) x = x ≡ None
Idle sort (Pumps n ∷ os) x = x ≡ None
Idle Thread [] x = Unit {0}
Idle Host [] x = x ≡ None
Idle Pool [] x = x ≡ None
Idle NoLane [] x = x ≡ None

body-apt : (s : Scenario) (v : Sight) (l : ℕ) (x : Option Action) → v.act l ≡ x → Given (QuietApt (v.act l) (v.home l) (v.openers l)) (option_map (deed_of s v l) x)
body-apt s v l None e = tt
body-apt s v l (Some a) e = deed-apt s v l (v.openers l) a e

stepped-apt : (s : Scenario) (v : Sight) (l : ℕ) (sort : LaneSort) (os : List Opener) → lane_sort s l ≡ sort → v.openers l ≡ os → Idle sort os (v.act l) → Given (QuietApt (v.act l) (v.home l) (v.openers l)) (stepped s v l (first os))
stepped-apt s v l sort (Enters c o a ∷ os) t e i = body-apt s v l (v.act l) refl
stepped-apt s v l sort (Waits c ∷ os) t e i = idle-ruled s v l i
stepped-apt s v l sort (Pumps n ∷ os) t e i = idle-ruled s v l i
stepped-apt s v l Thread [] t e i = thread-ruled s v l t e
stepped-apt s v l Host [] t e i = idle-ruled s v l i
stepped-apt s v l Pool [] t e i = idle-ruled s v l i
stepped-apt s v l NoLane [] t e i = idle-ruled s v l i

ticks-apt : (b d : Bool) (t : Option ℕ) (act : Option Action) (h : Option ℕ) (os : List Opener) → act ≡ None → Given (QuietApt act h os) (cond b (cond d (option_map (λ n. deed.Tick n) t) None) None)
ticks-apt true true None act h os e = tt
ticks-apt true true (Some n) act h os e = idle-apt act h os (deed.Tick n) e tt
ticks-apt true false t act h os e = tt
ticks-apt false d t act h os e = tt

pub next-apt : (s : Scenario) (v : Sight) (l : ℕ) (sort : LaneSort) → lane_sort s l ≡ sort → Idle sort (v.openers l) (v.act l) → (sort ≡ NoLane → v.openers l ≡ []) → Given (QuietApt (v.act l) (v.home l) (v.openers l)) (next_by s v sort l)
next-apt s v l Thread t i z = stepped-apt s v l Thread (v.openers l) t refl i
next-apt s v l Host t i z = stepped-apt s v l Host (v.openers l) t refl i
next-apt s v l Pool t i z = stepped-apt s v l Pool (v.openers l) t refl i
next-apt s v l NoLane t i z = ticks-apt (l == 0) (no_lane_can s v) (tick_time v) (v.act l) (v.home l) (v.openers l) (subst (λ (os : List Opener). Idle NoLane os (v.act l)) (z refl) i)
