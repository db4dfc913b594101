-- What the next entry of a lane names and carries passes a test, where what the rules look at does.
use Rattle.std.proofs.Common.{subst, sym}
use Rattle.std.specs.Prelude.{◌≡◌, refl, ℕ, ℤ, Bool, true, false, cond, not, ◌&&◌, ◌==◌, nat_le, List, [], ◌∷◌, length, Option, Some, None, All, Result, Ok, Err, option_map}
use Rattle.com_base.specs.declared.hresult.HResult.{HResult}
use Rattle.com_base.specs.declared.value.RefValue.{RefValue}
use Rattle.com_base.specs.declared.value.Value.{Value}
use Rattle.com_base.specs.declared.value.Mode.{Mode}
use Rattle.com_base.specs.declared.value.MarshalMode.{MarshalMode}
use Rattle.com_base.specs.declared.value.MarshalMode.TheVariants as marshal
use Rattle.com_body.specs.declared.operands.Asked.{Asked}
use Rattle.com_body.specs.declared.operands.Asked.TheVariants as asked
use Rattle.com_body.specs.declared.actions.Action.{Action}
use Rattle.com_body.specs.declared.actions.Action.TheVariants as action
use Rattle.com_classes.specs.declared.classes.Class.{Class}
use Rattle.com_classes.specs.declared.factory.Creator.{Creator}
use Rattle.com_classes.specs.Activation.{owner_for, is_agile}
use Rattle.com_classes.specs.Lookups.{class_at, class_has, has_interface}
use Rattle.objref.specs.declared.decoding.RefFault.{RefFault}
use Rattle.objref.specs.Grammar.{Reference, standard}
use Rattle.objref.specs.Reading.{objref_of}
use Rattle.com_model.specs.declared.deeds.Deed.{Deed}
use Rattle.com_model.specs.declared.deeds.Deed.TheVariants as deed
use Rattle.com_model.specs.declared.deeds.Entry.{Entry}
use Rattle.com_model.specs.declared.scenario.Scenario.{Scenario}
use Rattle.com_model.specs.Answers.{S_OK, E_INVALIDARG, E_NOINTERFACE, CO_E_OBJNOTCONNECTED, RPC_E_DISCONNECTED, RPC_E_OUT_OF_RESOURCES, RPC_E_SERVER_CANTUNMARSHAL_DATA, RPC_E_CLIENT_CANTUNMARSHAL_DATA, is_S_OK}
use Rattle.com_model.specs.Lists.{one_to, first_that, where_true}
use Rattle.com_model.specs.Tables.{class_number, interface_number, shown}
use Rattle.com_model.specs.Openers.{running_call}
use Rattle.com_model.specs.Calls.{object_of}
use Rattle.com_model.specs.declared.keeps.Issue.{Issue}
use Rattle.com_model.specs.Frames.{reference}
use Rattle.com_model.specs.Endings.{Answer, answer_of, without_value}
use Rattle.com_model.specs.declared.keeps.Ending.{Ending}
use Rattle.com_model.specs.declared.keeps.Ending.TheVariants.{AtIssue, AtAdmission, ByVerdict, ByRetry, ByCancel, ByDisconnection, ByLeave}
use Rattle.com_refs_books.specs.declared.keeps.Cookie.{Cookie}
use Rattle.com_refs_books.specs.Changes.{packet, cookie}
use Rattle.com_model.specs.Issue.{call_refusal}
use Rattle.com_model.specs.Sight.{Sight, sight}
use Rattle.com_model.specs.Deeds.{deed_of, initialised, uninitialised, creator, placing, made_as, created_of, created, owned_by, offers, query_answer, queried, hold_refusal, marshalled, registered, is_named, named_packet, Named, NamesPacket, Refuses, named_or, named_in, named_by, gained_refs, unmarshalled, dropped, cookie_number, got_with, got, revoked, called, left_as, left_by}
use Rattle.com_model.specs.Rules.{posted_to_sta, call_sort, verdict_on, is_handled_in, arguments_gone, admission, result_gone, packet_left, answered, next}
use Rattle.com_model.proofs.Fines.{cond-is}
use Rattle.com_laws_safety.proofs.Sources.{IsRest, Source, by_body, by_script, by_end, by_final, by_own, by_answer, by_inbox, by_retry, by_again, by_rest, next-source}
use Rattle.com_laws_values.specs.Held.{HeldBy, ValueBy, ResultBy, CookieBy, EndingBy, NamesBy}
use Rattle.com_laws_values.proofs.Walks.{ActionBy}
use Rattle.com_laws_values.proofs.Packets.{TablesBy, packet-by, cookie-by, result-by}

-- What the rules look at: actions, what calls sent and their answers, packets and cookies; and a reference by another interface
-- that the object's class has passes the test too.
pub record SeesBy (s : Scenario) (R : RefValue → Type 0) (v : Sight) : Type 0 where
  pub acts : (l : ℕ) (a : Action) → v.act l ≡ Some a → ActionBy R a
  pub unread : (c : ℕ) → All (ValueBy R) (v.unread c)
  pub answers : (c : ℕ) → EndingBy R (v.ending c)
  pub tables : TablesBy R v.books
  pub asks : (r : RefValue) (i : ℕ) → R r → has_interface s.classes (v.class r.object) i ≡ true → R (reference r.object i)

-- ---- creation

abbrev has_in : Option Class → ℕ → Bool
has_in o i = elim o [ None ↦ false | Some c ↦ class_has c i ]

made-has : (s : Scenario) (c i : ℕ) (k : Class) → class_at s.classes c ≡ Some k → class_has k i ≡ true → has_interface s.classes c i ≡ true
made-has s c i k e p = subst (λ (o : Option Class). has_in o i ≡ true) (sym e) p

placed-names : (s : Scenario) (R : RefValue → Type 0) (v : Sight) (a b : Asked) (c i : ℕ) (x : Creator) (k : Class) (t : Bool) → class_at s.classes c ≡ Some k → class_has k i ≡ t → NamesBy s R (made_as s v a b (cond t (Ok (record { class = c; iface = i; owner = owner_for k.model x; agile = is_agile k.model })) (Err (record { 0 = 0x80004002 }))))
placed-names s R v a b c i x k true e p = made-has s c i k e p
placed-names s R v a b c i x k false e p = tt

placing-names : (s : Scenario) (R : RefValue → Type 0) (v : Sight) (a b : Asked) (c : ℕ) (j : Option ℕ) (x : Creator) (o : Option Class) → class_at s.classes c ≡ o → NamesBy s R (made_as s v a b (placing x c j o))
placing-names s R v a b c j x None e = tt
placing-names s R v a b c None x (Some k) e = tt
placing-names s R v a b c (Some i) x (Some k) e = placed-names s R v a b c i x k (class_has k i) e refl

created_of-names : (s : Scenario) (R : RefValue → Type 0) (v : Sight) (l a : ℕ) (k i : Asked) (c j : Option ℕ) → NamesBy s R (created_of s v l a k i c j)
created_of-names s R v l a k i None j = tt
created_of-names s R v l a k i (Some c) j = placing-names s R v k i c j (creator v l a) (class_at s.classes c) refl

created-names : (s : Scenario) (R : RefValue → Type 0) (v : Sight) (l : ℕ) (k i : Asked) (home : Option ℕ) → NamesBy s R (created s v l k i home)
created-names s R v l k i None = tt
created-names s R v l k i (Some a) = created_of-names s R v l a k i (class_number s k) (interface_number s i)

-- ---- queries

pub offered : (b t : Bool) → is_S_OK (cond b RPC_E_DISCONNECTED (cond t S_OK E_NOINTERFACE)) ≡ true → t ≡ true
offered true t e = cc
offered false true e = refl
offered false false e = cc

query-offers : (s : Scenario) (v : Sight) (l : ℕ) (home : Option ℕ) (r : RefValue) (j : Option ℕ) → is_S_OK (query_answer s v l home (Some r) j) ≡ true → offers s (v.class r.object) j ≡ true
query-offers s v l None r j e = cc
query-offers s v l (Some a) r j e = offered (not (owned_by v l r.object) && not (v.books.live r.object)) (offers s (v.class r.object) j) e

false-true : false ≡ true → ⊥
false-true e = cc

asked-names : (s : Scenario) (R : RefValue → Type 0) (v : Sight) (o : ℕ) (i : Asked) (j : Option ℕ) (k : ℕ) (hr : HResult) → ((n : ℕ) → has_interface s.classes k n ≡ true → R (reference o n)) → (is_S_OK hr ≡ true → offers s k j ≡ true) → NamesBy s R (deed.Query (Some o) (shown j i) hr)
asked-names s R v o i (Some n) k hr f p = λ e. f n (p e)
asked-names s R v o (asked.Number n) None k hr f p = λ e. absurd (false-true (p e))
asked-names s R v o (asked.Guid g) None k hr f p = tt

queried-names : (s : Scenario) (R : RefValue → Type 0) (v : Sight) (l : ℕ) (held : Option RefValue) (i : Asked) → SeesBy s R v → HeldBy R held → NamesBy s R (queried s v l held i)
queried-names s R v l None i g p = tt
queried-names s R v l (Some r) i g p = asked-names s R v r.object i (interface_number s i) (v.class r.object) _ (λ n q. g.asks r n p q) (query-offers s v l (v.home l) r (interface_number s i))

-- ---- other actions

initialised-names : (s : Scenario) (R : RefValue → Type 0) (v : Sight) (m : Mode) (home : Option ℕ) → NamesBy s R (initialised v m home)
initialised-names s R v m None = tt
initialised-names s R v m (Some a) = tt

called-names : (s : Scenario) (R : RefValue → Type 0) (v : Sight) (l : ℕ) (held : Option RefValue) (i x : ℕ) (args : List Value) (hr : Option HResult) → NamesBy s R (called s v l held i x args hr)
called-names s R v l held i x args (Some hr) = tt
called-names s R v l held i x args None = tt

marshalled-names : (s : Scenario) (R : RefValue → Type 0) (v : Sight) (l : ℕ) (x : MarshalMode) (held : Option RefValue) (hr : Option HResult) → HeldBy R held → NamesBy s R (marshalled s v l x held hr)
marshalled-names s R v l x held (Some hr) p = p
marshalled-names s R v l x None None p = tt
marshalled-names s R v l x (Some r) None p = p

registered-names : (s : Scenario) (R : RefValue → Type 0) (v : Sight) (held : Option RefValue) (hr : Option HResult) → HeldBy R held → NamesBy s R (registered v held hr)
registered-names s R v held (Some hr) p = p
registered-names s R v held None p = p

-- A packet that is named is outstanding.
abbrev Outstanding : Sight → Named → Type 0
Outstanding v (NamesPacket p) = (packet v.books p).outstanding ≡ true
Outstanding v (Refuses hr) = Unit {0}

first-test : (test : ℕ → Bool) (xs : List ℕ) (p : ℕ) → first_that test xs ≡ Some p → test p ≡ true
first-test test [] p e = cc
first-test test (x ∷ xs) p e = by-test (test x) refl e (first-test test xs p)
  where
    same : (x p : ℕ) → Some x ≡ Some p → x ≡ p
    same x p u = cc

    by-test : (t : Bool) → test x ≡ t → cond t (Some x) (first_that test xs) ≡ Some p → (first_that test xs ≡ Some p → test p ≡ true) → test p ≡ true
    by-test true z u f = subst (λ (k : ℕ). test k ≡ true) (same x p u) z
    by-test false z u f = f u

and-first : (p q : Bool) → (p && q) ≡ true → p ≡ true
and-first true q e = refl
and-first false q e = cc

found-outstanding : (s : Scenario) (v : Sight) (test : ℕ → Bool) (xs : List ℕ) (o : Option ℕ) → ((p : ℕ) → test p ≡ true → (packet v.books p).outstanding ≡ true) → first_that test xs ≡ o → Outstanding v (named_or o)
found-outstanding s v test xs None f e = tt
found-outstanding s v test xs (Some p) f e = f p (first-test test xs p e)

named-outstanding : (s : Scenario) (v : Sight) (r : Result Reference RefFault) → Outstanding v (named_in s v r)
named-outstanding s v (Err x) = tt
named-outstanding s v (Ok (standard f flags strings)) = found-outstanding s v (is_named s v f) (one_to (length v.books.packets)) (named_packet s v f) (λ p e. and-first (packet v.books p).outstanding _ e) refl
named-outstanding s v (Ok _) = tt

by-outstanding : (s : Scenario) (v : Sight) (home : Option ℕ) (bytes : List ℕ) → Outstanding v (named_by s v home bytes)
by-outstanding s v None bytes = tt
by-outstanding s v (Some a) bytes = named-outstanding s v (objref_of bytes)

unmarshalled-names : (s : Scenario) (R : RefValue → Type 0) (v : Sight) (l : ℕ) (n : Named) → SeesBy s R v → Outstanding v n → NamesBy s R (unmarshalled v l n)
unmarshalled-names s R v l (NamesPacket p) g o = packet-by R v.books p g.tables o
unmarshalled-names s R v l (Refuses hr) g o = tt

dropped-names : (s : Scenario) (R : RefValue → Type 0) (n : Named) → NamesBy s R (dropped n)
dropped-names s R (NamesPacket p) = tt
dropped-names s R (Refuses hr) = tt

got-with-names : (s : Scenario) (R : RefValue → Type 0) (v : Sight) (l : ℕ) (x : ℤ) (k : Cookie) (b : Bool) → R (reference k.object k.iface) → NamesBy s R (cond b (deed.Get x (Some (reference k.object k.iface)) (gained_refs marshal.Strong (owned_by v l k.object) 0) S_OK) (deed.Get x None 0 CO_E_OBJNOTCONNECTED))
got-with-names s R v l x k true p = p
got-with-names s R v l x k false p = tt

got-by-names : (s : Scenario) (R : RefValue → Type 0) (v : Sight) (l : ℕ) (x : ℤ) (k : Cookie) (b : Bool) → k.is_revoked ≡ b → CookieBy R k → NamesBy s R (cond b (deed.Get x None 0 E_INVALIDARG) (got_with v l x k))
got-by-names s R v l x k true e p = tt
got-by-names s R v l x k false e p = got-with-names s R v l x k (v.books.live k.object) (p e)

got-names : (s : Scenario) (R : RefValue → Type 0) (v : Sight) (l : ℕ) (x : ℤ) (home : Option ℕ) → SeesBy s R v → NamesBy s R (got v l x home)
got-names s R v l x None g = tt
got-names s R v l x (Some a) g = got-by-names s R v l x (cookie v.books (cookie_number x)) (cookie v.books (cookie_number x)).is_revoked refl (cookie-by R v.books (cookie_number x) g.tables)

revoked-names : (s : Scenario) (R : RefValue → Type 0) (v : Sight) (x : ℤ) (home : Option ℕ) → NamesBy s R (revoked v x home)
revoked-names s R v x None = tt
revoked-names s R v x (Some a) = tt

left-names : (s : Scenario) (R : RefValue → Type 0) (v : Sight) (l c : ℕ) (i : Option Issue) (hr : HResult) (x : Option Value) → ResultBy R x → NamesBy s R (left_as s v l c i hr x)
left-names s R v l c None hr x p = tt
left-names s R v l c (Some i) hr x p = result-by R _ v.books.live hr _ x p

left-by-names : (s : Scenario) (R : RefValue → Type 0) (v : Sight) (l : ℕ) (hr : HResult) (x : Option Value) (c : Option ℕ) → ResultBy R x → NamesBy s R (left_by s v l hr x c)
left-by-names s R v l hr x None p = tt
left-by-names s R v l hr x (Some c) p = left-names s R v l c (v.issue c) hr x p

deed-names : (s : Scenario) (R : RefValue → Type 0) (v : Sight) (l : ℕ) (a : Action) → SeesBy s R v → ActionBy R a → NamesBy s R (deed_of s v l a)
deed-names s R v l (action.Create slot k i) g p = created-names s R v l k i (v.home l)
deed-names s R v l (action.Query to held i) g p = queried-names s R v l held i g p
deed-names s R v l (action.Copy to held) g p = p
deed-names s R v l (action.Release from held) g p = p
deed-names s R v l (action.Call held i x args to) g p = called-names s R v l held i x args (call_refusal s (v.home l) (v.running l) v.owns v.books.live held i x)
deed-names s R v l (action.Marshal b held x) g p = marshalled-names s R v l x held (hold_refusal v (v.home l) held) p
deed-names s R v l (action.Unmarshal slot b) g p = unmarshalled-names s R v l (named_by s v (v.home l) (v.buffers b)) g (by-outstanding s v (v.home l) (v.buffers b))
deed-names s R v l (action.Drop b) g p = dropped-names s R (named_by s v (v.home l) (v.buffers b))
deed-names s R v l (action.Raw b bytes) g p = tt
deed-names s R v l (action.Register to held) g p = registered-names s R v held (hold_refusal v (v.home l) held) p
deed-names s R v l (action.Get slot x) g p = got-names s R v l x (v.home l) g
deed-names s R v l (action.Revoke x) g p = revoked-names s R v x (v.home l)
deed-names s R v l (action.Disconnect held) g p = tt
deed-names s R v l (action.Post m w) g p = tt
deed-names s R v l (action.Quit m) g p = tt
deed-names s R v l (action.Leave hr x) g p = left-by-names s R v l hr x (running_call (v.openers l)) p
deed-names s R v l (action.Init m) g p = initialised-names s R v m (v.home l)
deed-names s R v l action.Uninit g p = tt
deed-names s R v l (action.SetFilter f) g p = tt
deed-names s R v l (action.Pump k) g p = tt

-- ---- the rules

admission-names : (s : Scenario) (R : RefValue → Type 0) (v : Sight) (l c : ℕ) → SeesBy s R v → NamesBy s R (admission s v l c)
admission-names s R v l c g =
    cond-is (NamesBy s R) (nat_le 256 (length (v.openers l))) (deed.Refuse c RPC_E_OUT_OF_RESOURCES) _ tt
    (cond-is (NamesBy s R) (posted_to_sta v c && not (is_handled_in s v l c)) (deed.Verdict c (call_sort v l c) (verdict_on s v l c)) _ tt
    (cond-is (NamesBy s R) (arguments_gone v c) (deed.Refuse c RPC_E_SERVER_CANTUNMARSHAL_DATA) (deed.Enter c (object_of (v.issue c)) (v.owner (object_of (v.issue c)) l) (where_true (posted_to_sta v c) (call_sort v l c)) (v.unread c)) tt (g.unread c)))

answer-by : (R : RefValue → Type 0) (hr : HResult) (e : Ending) → EndingBy R (Some e) → ResultBy R (answer_of hr e).value
answer-by R hr AtIssue p = tt
answer-by R hr (AtAdmission x) p = tt
answer-by R hr (ByVerdict v) p = tt
answer-by R hr ByRetry p = tt
answer-by R hr ByCancel p = tt
answer-by R hr ByDisconnection p = tt
answer-by R hr (ByLeave x v) p = p

due-by : (R : RefValue → Type 0) (hr : HResult) (o : Option Ending) (x : Answer) → EndingBy R o → option_map (answer_of hr) o ≡ Some x → ResultBy R x.value
due-by R hr None x p e = absurd (none-some x e)
  where
    none-some : (x : Answer) → None ≡ Some x → ⊥
    none-some x e = cc
due-by R hr (Some y) x p e = subst (λ (z : Answer). ResultBy R z.value) (same (answer_of hr y) x e) (answer-by R hr y p)
  where
    same : (a b : Answer) → Some a ≡ Some b → a ≡ b
    same a b e = cc

answered-names : (s : Scenario) (R : RefValue → Type 0) (v : Sight) (c : ℕ) (x : Answer) (p : Option ℕ) → ResultBy R x.value → NamesBy s R (answered v c x p)
answered-names s R v c x (Some p) q = tt
answered-names s R v c x None q = cond-is (λ (y : Answer). ResultBy R y.value) (result_gone v c (v.books.result c)) (without_value RPC_E_CLIENT_CANTUNMARSHAL_DATA) x tt q

rest-names : (s : Scenario) (R : RefValue → Type 0) (d : Deed) → IsRest d → NamesBy s R d
rest-names s R deed.EndPump p = tt
rest-names s R (deed.Word w) p = tt
rest-names s R (deed.Pending c w n) p = tt
rest-names s R (deed.Tick t) p = tt
rest-names s R _ p = absurd p

source-names : (s : Scenario) (R : RefValue → Type 0) (v : Sight) (l : ℕ) (d : Deed) → SeesBy s R v → Source s v l d → NamesBy s R d
source-names s R v l d g (by_body c o a os x p q e) = subst (NamesBy s R) e (deed-names s R v l x g (g.acts l x q))
source-names s R v l d g (by_script x p t q e) = subst (NamesBy s R) e (deed-names s R v l x g (g.acts l x q))
source-names s R v l d g (by_end p t e) = subst (NamesBy s R) e (cond-is (NamesBy s R) (v.count l == 0) deed.End (uninitialised v l) tt tt)
source-names s R v l d g (by_final o p e) = subst (NamesBy s R) e tt
source-names s R v l d g (by_own c p q e) = subst (NamesBy s R) e (admission-names s R v l c g)
source-names s R v l d g (by_answer c x p q e) = subst (NamesBy s R) e (answered-names s R v c x (packet_left v c) (due-by R (v.at_issue c) (v.ending c) x (g.answers c) q))
source-names s R v l d g (by_inbox c n q e) = subst (NamesBy s R) e (admission-names s R v l c g)
source-names s R v l d g (by_retry c n x q e) = subst (NamesBy s R) e tt
source-names s R v l d g (by_again c t q e) = subst (NamesBy s R) e tt
source-names s R v l d g (by_rest p) = rest-names s R d p

pub next-names : (s : Scenario) (R : RefValue → Type 0) (h : List Entry) (l : ℕ) (d : Deed) → SeesBy s R (sight s h) → next s h l ≡ Some d → NamesBy s R d
next-names s R h l d g e = source-names s R (sight s h) l d g (next-source s h l d e)
