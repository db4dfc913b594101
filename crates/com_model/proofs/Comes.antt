-- Where the numbers of calls in the entries of a legal history come from.
use Rattle.std.proofs.Common.{subst, sym, arith}
use Rattle.std.proofs.lemmas.Grind.{common_steps}
use Rattle.std.specs.Prelude.{◌≡◌, refl, ℕ, ℤ, Bool, true, false, cond, ◌==◌, ◌&&◌, not, nat_le, length, ◌||◌, ◌+◌, List, [], ◌∷◌, Option, Some, None, option_map, Result, Ok, Err, filter, is_none}
use Rattle.com_base.specs.declared.hresult.HResult.{HResult}
use Rattle.com_base.specs.declared.value.RefValue.{RefValue}
use Rattle.com_base.specs.declared.value.Value.{Value}
use Rattle.com_base.specs.declared.value.Mode.{Mode}
use Rattle.com_base.specs.declared.value.MarshalMode.{MarshalMode}
use Rattle.com_base.specs.declared.value.MarshalMode.TheVariants as marshal
use Rattle.com_model.specs.Answers.{S_OK, E_INVALIDARG, CO_E_OBJNOTCONNECTED, RPC_E_OUT_OF_RESOURCES, RPC_E_SERVER_CANTUNMARSHAL_DATA}
use Rattle.com_body.specs.declared.operands.Asked.{Asked}
use Rattle.com_body.specs.declared.actions.Action.{Action}
use Rattle.com_body.specs.declared.actions.Action.TheVariants as action
use Rattle.com_classes.specs.declared.factory.Placed.{Placed}
use Rattle.com_classes.specs.Lookups.{class_at}
use Rattle.com_model.specs.declared.deeds.Deed.{Deed}
use Rattle.com_model.specs.declared.deeds.Deed.TheVariants as deed
use Rattle.com_model.specs.declared.deeds.Entry.{Entry}
use Rattle.com_model.specs.declared.scenario.Scenario.{Scenario}
use Rattle.com_model.specs.Lists.{where_true, first, is_member}
use Rattle.com_model.specs.Issue.{call_refusal}
use Rattle.com_model.specs.Tables.{class_number, interface_number, LaneSort, Thread, Host, Pool, NoLane, lane_sort}
use Rattle.com_model.specs.Openers.{Opener, Pumps, Waits, Enters, openers, running_call}
use Rattle.com_model.specs.Calls.{Issue, object_of, is_post, route_of, admitted, target}
use Rattle.com_model.specs.Frames.{reference}
use Rattle.com_model.specs.Endings.{Answer, ending}
use Rattle.com_model.specs.Waiting.{Phase, Unposted, Queued, Judged, Delayed, GivenUp, Word, mark_of, not_asked, bound_reached, is_queued, phase, postings, waits_in}
use Rattle.com_refs_books.specs.declared.keeps.Cookie.{Cookie}
use Rattle.com_refs_books.specs.Changes.{cookie}
use Rattle.com_model.specs.Sight.{Sight, sight}
use Rattle.com_model.specs.Deeds.{hold_refusal, named_by, deed_of, created, created_of, initialised, marshalled, registered, Named, NamesPacket, Refuses, unmarshalled, dropped, got, got_by, got_with, cookie_number, gained_refs, owned_by, made_as, creator, placing, revoked, uninitialised, in_sta, called, left_by, left_as, word_answer}
use Rattle.com_model.specs.Rules.{posted_to_sta, is_handled_in, call_sort, verdict_on, arguments_gone, enters_itself, packet_left, due_of, admits_next, no_lane_can, tick_time, next, next_by, stepped, ruled, admission, rule_final, rule_own, rule_answer, rule_bound, rule_inbox, rule_retry, rule_again, rule_pending, rule_word, rule_script, answered, retried, posted_again, asked_on, pumped, takes_word, scripted, is_script_turn, admits_sta, is_open_to_calls, top}
use Rattle.com_model.proofs.Given.{Given, given-or, given-where, given-map, cond-of, own-given}
use Rattle.com_model.specs.Apartments.{mta, is_sta}
use Rattle.com_model.specs.Objects.{named}

-- The deeds that issue a call, enter it, ask or post its waiting caller, or refuse it at its admission; those that make an
-- object; and those that send a word or a quit.
pub data Sort : Type 0 where
  OutOf : ℕ → Sort
  EnterOf : ℕ → Sort
  PostOf : ℕ → Sort
  JudgeOf : ℕ → Sort
  MadeOf : ℕ → Sort
  SendOf : ℤ → HResult → Sort
  NoSort : Sort

abbrev pub sort_of : Deed → Sort
sort_of (deed.Out c o i m r k bytes) = OutOf c
sort_of (deed.Enter c o a t vs) = EnterOf c
sort_of (deed.Again c) = PostOf c
sort_of (deed.Retry c n) = PostOf c
sort_of (deed.Pending c w n) = PostOf c
sort_of (deed.Verdict c t v) = JudgeOf c
sort_of (deed.Refuse c hr) = JudgeOf c
sort_of (deed.Made (Some o) (Some a) k i hr) = MadeOf o
sort_of (deed.Post m w hr) = SendOf m hr
sort_of (deed.Quit m hr) = SendOf m hr
sort_of _ = NoSort

-- A call is entered by the lane that waits for it, or from a list of posted calls.
pub data Reaches (ps : List ℕ) (os : List Opener) (c : ℕ) : Type 0 where
  by_top : first os ≡ Some (Waits c) → Reaches ps os c
  by_post : is_member c ps ≡ true → Reaches ps os c

abbrev pub Comes : Scenario → Sight → List ℕ → List Opener → Sort → Type 0
Comes s v ps os (OutOf c) = c ≡ v.calls + 1
Comes s v ps os (EnterOf c) = (is_none (v.admitted c) ≡ true) × Reaches ps os c
Comes s v ps os (PostOf c) = first os ≡ Some (Waits c)
Comes s v ps os (JudgeOf c) = Reaches ps os c
Comes s v ps os (MadeOf o) = o ≡ v.objects + 1
Comes s v ps os (SendOf m hr) = hr ≡ word_answer s v m
Comes s v ps os NoSort = Unit {0}

abbrev Comes_of : Scenario → Sight → List ℕ → List Opener → Deed → Type 0
Comes_of s v ps os d = Comes s v ps os (sort_of d)

abbrev Plain : Deed → Type 0
Plain d = sort_of d ≡ NoSort

plain-if : (b : Bool) (x y : Deed) → Plain x → Plain y → Plain (cond b x y)
plain-if b x y p q = cond-of Plain b x y p q

made-comes : (s : Scenario) (v : Sight) (ps : List ℕ) (os : List Opener) (k i : Asked) (r : Result Placed HResult) → Comes_of s v ps os (made_as s v k i r)
made-comes s v ps os k i (Ok p) = refl
made-comes s v ps os k i (Err hr) = tt

created_of-comes : (s : Scenario) (v : Sight) (ps : List ℕ) (os : List Opener) (l a : ℕ) (k i : Asked) (c j : Option ℕ) → Comes_of s v ps os (created_of s v l a k i c j)
created_of-comes s v ps os l a k i None j = tt
created_of-comes s v ps os l a k i (Some c) j = made-comes s v ps os k i (placing (creator v l a) c j (class_at s.classes c))

created-comes : (s : Scenario) (v : Sight) (ps : List ℕ) (os : List Opener) (l : ℕ) (k i : Asked) (a : Option ℕ) → Comes_of s v ps os (created s v l k i a)
created-comes s v ps os l k i None = tt
created-comes s v ps os l k i (Some a) = created_of-comes s v ps os l a k i (class_number s k) (interface_number s i)

plain-initialised : (v : Sight) (m : Mode) (a : Option ℕ) → Plain (initialised v m a)
plain-initialised v m None = refl
plain-initialised v m (Some a) = refl

plain-marshalled : (s : Scenario) (v : Sight) (l : ℕ) (m : MarshalMode) (held : Option RefValue) (hr : Option HResult) → Plain (marshalled s v l m held hr)
plain-marshalled s v l m held (Some hr) = refl
plain-marshalled s v l m None None = refl
plain-marshalled s v l m (Some r) None = refl

plain-registered : (v : Sight) (held : Option RefValue) (hr : Option HResult) → Plain (registered v held hr)
plain-registered v held (Some hr) = refl
plain-registered v held None = refl

plain-unmarshalled : (v : Sight) (l : ℕ) (n : Named) → Plain (unmarshalled v l n)
plain-unmarshalled v l (NamesPacket p) = refl
plain-unmarshalled v l (Refuses hr) = refl

plain-dropped : (n : Named) → Plain (dropped n)
plain-dropped (NamesPacket p) = refl
plain-dropped (Refuses hr) = refl

plain-got_with : (v : Sight) (l : ℕ) (g : ℤ) (k : Cookie) (b : Bool) → Plain (cond b (deed.Get g (Some (reference k.object k.iface)) (gained_refs marshal.Strong (owned_by v l k.object) 0) S_OK) (deed.Get g None 0 CO_E_OBJNOTCONNECTED))
plain-got_with v l g k true = refl
plain-got_with v l g k false = refl

plain-got_by : (v : Sight) (l : ℕ) (g : ℤ) (k : Cookie) → Plain (got_by v l g k)
plain-got_by v l g k = plain-if k.is_revoked (deed.Get g None 0 E_INVALIDARG) (got_with v l g k) (refl) (plain-got_with v l g k (v.books.live k.object))

plain-got : (v : Sight) (l : ℕ) (g : ℤ) (a : Option ℕ) → Plain (got v l g a)
plain-got v l g None = refl
plain-got v l g (Some a) = plain-got_by v l g (cookie v.books (cookie_number g))

plain-revoked : (v : Sight) (g : ℤ) (a : Option ℕ) → Plain (revoked v g a)
plain-revoked v g None = refl
plain-revoked v g (Some a) = refl

plain-comes : (s : Scenario) (v : Sight) (ps : List ℕ) (os : List Opener) (d : Deed) → Plain d → Comes_of s v ps os d
plain-comes s v ps os d e = subst (λ (x : Sort). Comes s v ps os x) (sym e) tt

called-comes : (s : Scenario) (v : Sight) (ps : List ℕ) (os : List Opener) (l : ℕ) (held : Option RefValue) (i m : ℕ) (args : List Value) (hr : Option HResult) → Comes_of s v ps os (called s v l held i m args hr)
called-comes s v ps os l held i m args (Some hr) = refl
called-comes s v ps os l held i m args None = refl

left-plain : (s : Scenario) (v : Sight) (l d : ℕ) (i : Option Issue) (hr : HResult) (x : Option Value) → Plain (left_as s v l d i hr x)
left-plain s v l d None hr x = refl
left-plain s v l d (Some i) hr x = refl

left-by-plain : (s : Scenario) (v : Sight) (l : ℕ) (hr : HResult) (x : Option Value) (r : Option ℕ) → Plain (left_by s v l hr x r)
left-by-plain s v l hr x None = refl
left-by-plain s v l hr x (Some c) = left-plain s v l c (v.issue c) hr x

deed-comes : (s : Scenario) (v : Sight) (ps : List ℕ) (os : List Opener) (l : ℕ) (a : Action) → Comes_of s v ps os (deed_of s v l a)
deed-comes s v ps os l (action.Create slot k i) = created-comes s v ps os l k i (v.home l)
deed-comes s v ps os l (action.Query to held i) = tt
deed-comes s v ps os l (action.Copy to held) = tt
deed-comes s v ps os l (action.Release from held) = tt
deed-comes s v ps os l (action.Call held i m args to) = called-comes s v ps os l held i m args (call_refusal s (v.home l) (v.running l) v.owns v.books.live held i m)
deed-comes s v ps os l (action.Marshal b held m) = plain-comes s v ps os _ (plain-marshalled s v l m held (hold_refusal v (v.home l) held))
deed-comes s v ps os l (action.Unmarshal slot b) = plain-comes s v ps os _ (plain-unmarshalled v l (named_by s v (v.home l) (v.buffers b)))
deed-comes s v ps os l (action.Drop b) = plain-comes s v ps os _ (plain-dropped (named_by s v (v.home l) (v.buffers b)))
deed-comes s v ps os l (action.Raw b bytes) = tt
deed-comes s v ps os l (action.Register to held) = plain-comes s v ps os _ (plain-registered v held (hold_refusal v (v.home l) held))
deed-comes s v ps os l (action.Get slot g) = plain-comes s v ps os _ (plain-got v l g (v.home l))
deed-comes s v ps os l (action.Revoke g) = plain-comes s v ps os _ (plain-revoked v g (v.home l))
deed-comes s v ps os l (action.Disconnect held) = tt
deed-comes s v ps os l (action.Post m w) = refl
deed-comes s v ps os l (action.Quit m) = refl
deed-comes s v ps os l (action.Leave hr x) = plain-comes s v ps os _ (left-by-plain s v l hr x (running_call (v.openers l)))
deed-comes s v ps os l (action.Init m) = plain-comes s v ps os _ (plain-initialised v m (v.home l))
deed-comes s v ps os l action.Uninit = tt
deed-comes s v ps os l (action.SetFilter f) = tt
deed-comes s v ps os l (action.Pump n) = tt

-- ---- the rules

admission-comes : (s : Scenario) (v : Sight) (ps : List ℕ) (os : List Opener) (l c : ℕ) → is_none (v.admitted c) ≡ true → Reaches ps os c → Comes_of s v ps os (admission s v l c)
admission-comes s v ps os l c n r =
    cond-of (Comes_of s v ps os) (nat_le 256 (length (v.openers l))) (deed.Refuse c RPC_E_OUT_OF_RESOURCES) _ r
    (cond-of (Comes_of s v ps os) (posted_to_sta v c && not (is_handled_in s v l c)) (deed.Verdict c (call_sort v l c) (verdict_on s v l c)) _ r
    (cond-of (Comes_of s v ps os) (arguments_gone v c) (deed.Refuse c RPC_E_SERVER_CANTUNMARSHAL_DATA) (deed.Enter c (object_of (v.issue c)) (v.owner (object_of (v.issue c)) l) (where_true (posted_to_sta v c) (call_sort v l c)) (v.unread c)) r (n, r)))

given-when : (P : Deed → Type 0) (b : Bool) (d : Deed) → (b ≡ true → P d) → Given P (where_true b d)
given-when P true d p = p refl
given-when P false d p = tt

pub given-found : {X : Type 0} (P : Deed → Type 0) (f : X → Deed) (o : Option X) → ((x : X) → o ≡ Some x → P (f x)) → Given P (option_map f o)
given-found P f None p = tt
given-found P f (Some x) p = p x refl

and-mid : (p q r : Bool) → (p && (q && r)) ≡ true → q ≡ true
and-mid true true r e = refl
and-mid true false r e = e
and-mid false q r e = cc

and-third : (p q r t : Bool) → (p && (q && (r && t))) ≡ true → r ≡ true
and-third true q r t e = and-mid q r t e
and-third false q r t e = cc

own-comes : (s : Scenario) (v : Sight) (ps : List ℕ) (l : ℕ) → Given (Comes_of s v ps (v.openers l)) (rule_own s v l)
own-comes s v ps l =
    own-given (Comes_of s v ps) (λ c. where_true (enters_itself v c) (admission s v l c))
    (λ c os. given-when (Comes_of s v ps (Waits c ∷ os)) (enters_itself v c) (admission s v l c)
    (λ e. admission-comes s v ps (Waits c ∷ os) l c (and-mid _ (is_none (v.admitted c)) _ e) (by_top refl)))
    (v.openers l)

answered-plain : (v : Sight) (c : ℕ) (x : Answer) (p : Option ℕ) → Plain (answered v c x p)
answered-plain v c x (Some p) = refl
answered-plain v c x None = refl

answer-comes : (s : Scenario) (v : Sight) (ps : List ℕ) (l : ℕ) → Given (Comes_of s v ps (v.openers l)) (rule_answer v l)
answer-comes s v ps l =
    own-given (Comes_of s v ps) (λ c. option_map (λ x. answered v c x (packet_left v c)) (due_of v c))
    (λ c os. given-map (Comes_of s v ps (Waits c ∷ os)) (λ x. answered v c x (packet_left v c)) (due_of v c) (λ x. plain-comes s v ps (Waits c ∷ os) (answered v c x (packet_left v c)) (answered-plain v c x (packet_left v c))))
    (v.openers l)

-- What is said of the inboxes.
abbrev pub Inboxes : Sight → List ℕ → Type 0
Inboxes v ps = (a c : ℕ) → first (v.inbox a) ≡ Some c → (is_none (v.admitted c) ≡ true) × (is_member c ps ≡ true)

cond-some : (b : Bool) (x : Option ℕ) (c : ℕ) → cond b x None ≡ Some c → x ≡ Some c
cond-some true x c e = e
cond-some false x c e = cc

abbrev Joins : Sight → List ℕ → ℕ → Type 0
Joins v ps c = (is_none (v.admitted c) ≡ true) × (is_member c ps ≡ true)

admits-sta-joins : (v : Sight) (ps : List ℕ) (l : ℕ) (sort : LaneSort) (home : Option ℕ) (c : ℕ) → Inboxes v ps → admits_sta v l sort home ≡ Some c → Joins v ps c
admits-sta-joins v ps l sort None c ok e = cc
admits-sta-joins v ps l sort (Some a) c ok e = ok a c (cond-some (is_sta a && is_open_to_calls v sort (top v l)) (first (v.inbox a)) c e)

admits-joins : (v : Sight) (ps : List ℕ) (l : ℕ) (sort : LaneSort) (c : ℕ) → Inboxes v ps → admits_next v l sort ≡ Some c → Joins v ps c
admits-joins v ps l Thread c ok e = admits-sta-joins v ps l Thread (v.home l) c ok e
admits-joins v ps l Host c ok e = admits-sta-joins v ps l Host (v.home l) c ok e
admits-joins v ps l Pool c ok e = ok mta c (cond-some (is_none (top v l)) (first (v.inbox mta)) c e)
admits-joins v ps l NoLane c ok e = admits-sta-joins v ps l NoLane (v.home l) c ok e

inbox-comes : (s : Scenario) (v : Sight) (ps : List ℕ) (l : ℕ) (os : List Opener) → Inboxes v ps → Given (Comes_of s v ps os) (rule_inbox s v l)
inbox-comes s v ps l os ok =
    given-found (Comes_of s v ps os) (admission s v l) (admits_next v l (lane_sort s l))
    (λ c e. admission-comes s v ps os l c (admits-joins v ps l (lane_sort s l) c ok e).0 (by_post (admits-joins v ps l (lane_sort s l) c ok e).1))

retried-comes : (s : Scenario) (v : Sight) (ps : List ℕ) (l c : ℕ) (os : List Opener) (p : Phase) → Given (Comes_of s v ps (Waits c ∷ os)) (retried s v l c p)
retried-comes s v ps l c os Unposted = tt
retried-comes s v ps l c os Queued = tt
retried-comes s v ps l c os (Judged x) = refl
retried-comes s v ps l c os (Delayed t) = tt
retried-comes s v ps l c os GivenUp = tt

again-c : (s : Scenario) (v : Sight) (ps : List ℕ) (c : ℕ) (os : List Opener) (p : Phase) → Given (Comes_of s v ps (Waits c ∷ os)) (posted_again v c p)
again-c s v ps c os Unposted = tt
again-c s v ps c os Queued = tt
again-c s v ps c os (Judged x) = tt
again-c s v ps c os (Delayed t) = given-where (Comes_of s v ps (Waits c ∷ os)) (nat_le t v.clock) (deed.Again c) refl
again-c s v ps c os GivenUp = tt

asked-comes : (s : Scenario) (v : Sight) (ps : List ℕ) (l c : ℕ) (os : List Opener) (w : Option Word) → Given (Comes_of s v ps (Waits c ∷ os)) (asked_on s v l c w)
asked-comes s v ps l c os None = tt
asked-comes s v ps l c os (Some w) = given-where (Comes_of s v ps (Waits c ∷ os)) (in_sta (v.home l) && is_post (route_of (v.issue c))) (deed.Pending c w.word _) refl

word-taken : (s : Scenario) (v : Sight) (ps : List ℕ) (os : List Opener) (w : Option Word) (q : Bool) → Given (Comes_of s v ps os) (takes_word w q)
word-taken s v ps os (Some w) q = tt
word-taken s v ps os None q = given-where (Comes_of s v ps os) q deed.EndPump tt

word-comes : (s : Scenario) (v : Sight) (ps : List ℕ) (l : ℕ) (os xs : List Opener) → Given (Comes_of s v ps os) (pumped v l (first xs))
word-comes s v ps l os [] = tt
word-comes s v ps l os (Pumps n ∷ xs) = word-taken s v ps os (first (v.mail l).words) (v.quit l)
word-comes s v ps l os (Waits c ∷ xs) = tt
word-comes s v ps l os (Enters c o a ∷ xs) = tt

scripted-comes : (s : Scenario) (v : Sight) (ps : List ℕ) (os : List Opener) (l : ℕ) (x : Option Action) → Comes_of s v ps os (scripted s v l x)
scripted-comes s v ps os l None = cond-of (Comes_of s v ps os) (v.count l == 0) deed.End (uninitialised v l) tt tt
scripted-comes s v ps os l (Some a) = deed-comes s v ps os l a

ruled-comes : (s : Scenario) (v : Sight) (ps : List ℕ) (l : ℕ) → Inboxes v ps → Given (Comes_of s v ps (v.openers l)) (ruled s v l)
ruled-comes s v ps l ok =
    let P : Deed → Type 0 = Comes_of s v ps (v.openers l) in
    given-or P (rule_final v l) _ (given-map P (λ o. deed.Final o) (first (v.dying l)) (λ o. tt))
    (given-or P (rule_own s v l) _ (own-comes s v ps l)
    (given-or P (rule_answer v l) _ (answer-comes s v ps l)
    (given-or P (rule_bound v l) _ (given-where P (bound_reached (v.openers l) (v.served l)) deed.EndPump tt)
    (given-or P (rule_inbox s v l) _ (inbox-comes s v ps l (v.openers l) ok)
    (given-or P (rule_retry s v l) _ (own-given (Comes_of s v ps) (λ c. retried s v l c (v.phase c)) (λ c os. retried-comes s v ps l c os (v.phase c)) (v.openers l))
    (given-or P (rule_again v l) _ (own-given (Comes_of s v ps) (λ c. posted_again v c (v.phase c)) (λ c os. again-c s v ps c os (v.phase c)) (v.openers l))
    (given-or P (rule_pending s v l) _ (own-given (Comes_of s v ps) (λ c. asked_on s v l c (not_asked (mark_of (v.mail l).marks c) (v.mail l).words)) (λ c os. asked-comes s v ps l c os (not_asked (mark_of (v.mail l).marks c) (v.mail l).words)) (v.openers l))
    (given-or P (rule_word v l) (rule_script s v l) (word-comes s v ps l (v.openers l) (v.openers l))
    (given-where P (is_script_turn (lane_sort s l) (top v l) (v.over l)) (scripted s v l (v.act l)) (scripted-comes s v ps (v.openers l) l (v.act l)))))))))))

stepped-comes : (s : Scenario) (v : Sight) (ps : List ℕ) (l : ℕ) (os : List Opener) → Inboxes v ps → Given (Comes_of s v ps (v.openers l)) (stepped s v l (first os))
stepped-comes s v ps l [] ok = ruled-comes s v ps l ok
stepped-comes s v ps l (Pumps n ∷ os) ok = ruled-comes s v ps l ok
stepped-comes s v ps l (Waits c ∷ os) ok = ruled-comes s v ps l ok
stepped-comes s v ps l (Enters c o a ∷ os) ok = given-map (Comes_of s v ps (v.openers l)) (deed_of s v l) (v.act l) (λ x. deed-comes s v ps (v.openers l) l x)

ticks-comes : (s : Scenario) (v : Sight) (ps : List ℕ) (os : List Opener) (b d : Bool) (t : Option ℕ) → Given (Comes_of s v ps os) (cond b (cond d (option_map (λ n. deed.Tick n) t) None) None)
ticks-comes s v ps os true true None = tt
ticks-comes s v ps os true true (Some n) = tt
ticks-comes s v ps os true false t = tt
ticks-comes s v ps os false d t = tt

by-comes : (s : Scenario) (v : Sight) (ps : List ℕ) (sort : LaneSort) (l : ℕ) → Inboxes v ps → Given (Comes_of s v ps (v.openers l)) (next_by s v sort l)
by-comes s v ps Thread l ok = stepped-comes s v ps l (v.openers l) ok
by-comes s v ps Host l ok = stepped-comes s v ps l (v.openers l) ok
by-comes s v ps Pool l ok = stepped-comes s v ps l (v.openers l) ok
by-comes s v ps NoLane l ok = ticks-comes s v ps (v.openers l) (l == 0) (no_lane_can s v) (tick_time v)

-- ---- inboxes have posted calls without Enter

some-number : (x c : ℕ) → Some x ≡ Some c → x ≡ c
some-number x c e = cc

own-member : (c : ℕ) (xs : List ℕ) → is_member c (c ∷ xs) ≡ true
own-member c xs = grind (arith, common_steps)

or-true : (p q : Bool) → q ≡ true → (p || q) ≡ true
or-true true q e = refl
or-true false q e = e

first-passes : (test : ℕ → Bool) (x : ℕ) (xs : List ℕ) (c : ℕ) (b : Bool) → test x ≡ b → first (cond b (x ∷ filter test xs) (filter test xs)) ≡ Some c → ((first (filter test xs) ≡ Some c) → (test c ≡ true) × (is_member c xs ≡ true)) → (test c ≡ true) × (is_member c (x ∷ xs) ≡ true)
first-passes test x xs c true q e ih = let z : x ≡ c = some-number x c e in (subst (λ (y : ℕ). test y ≡ true) z q, subst (λ (y : ℕ). is_member c (y ∷ xs) ≡ true) (sym z) (own-member c xs))
first-passes test x xs c false q e ih = ((ih e).0, or-true (c == x) (is_member c xs) (ih e).1)

pub first-filter : (test : ℕ → Bool) (xs : List ℕ) (c : ℕ) → first (filter test xs) ≡ Some c → (test c ≡ true) × (is_member c xs ≡ true)
first-filter test [] c e = cc
first-filter test (x ∷ xs) c e = first-passes test x xs c (test x) refl e (λ q. first-filter test xs c q)

sight-inboxes : (s : Scenario) (h : List Entry) → Inboxes (sight s h) (postings h)
sight-inboxes s h a c e =
    let p : (waits_in s h a c ≡ true) × (is_member c (postings h) ≡ true) = first-filter (waits_in s h a) (postings h) c e in
    (and-third (named h (target h c) == a) (is_queued (phase h c)) (is_none (admitted h c)) (is_none (ending s h c)) p.0, p.1)

pub next-comes : (s : Scenario) (h : List Entry) (l : ℕ) (d : Deed) → next s h l ≡ Some d → Comes s (sight s h) (postings h) (openers h l) (sort_of d)
next-comes s h l d e = subst (λ (x : Option Deed). Given (Comes_of s (sight s h) (postings h) (openers h l)) x) e (by-comes s (sight s h) (postings h) (lane_sort s l) l (sight-inboxes s h))
