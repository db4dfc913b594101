-- A query's entry is that of the query that whoever acts makes.
use Rattle.std.proofs.Common.{subst}
use Rattle.std.specs.Prelude.{◌≡◌, refl, ℕ, ℤ, Bool, true, false, cond, not, ◌&&◌, ◌==◌, nat_le, length, List, Option, Some, None, Result, Ok, Err}
use Rattle.com_base.specs.declared.hresult.HResult.{HResult}
use Rattle.com_base.specs.declared.value.RefValue.{RefValue}
use Rattle.com_base.specs.declared.value.Value.{Value}
use Rattle.com_base.specs.declared.value.Mode.{Mode}
use Rattle.com_base.specs.declared.value.MarshalMode.{MarshalMode}
use Rattle.com_base.specs.declared.value.MarshalMode.TheVariants as marshal
use Rattle.com_body.specs.declared.operands.Asked.{Asked}
use Rattle.com_body.specs.declared.actions.Action.{Action}
use Rattle.com_body.specs.declared.actions.Action.TheVariants as action
use Rattle.com_classes.specs.declared.factory.Placed.{Placed}
use Rattle.com_classes.specs.Lookups.{class_at}
use Rattle.com_model.specs.declared.deeds.Deed.{Deed}
use Rattle.com_model.specs.declared.deeds.Deed.TheVariants as deed
use Rattle.com_model.specs.declared.scenario.Scenario.{Scenario}
use Rattle.com_model.specs.Answers.{S_OK, E_INVALIDARG, CO_E_OBJNOTCONNECTED, RPC_E_OUT_OF_RESOURCES, RPC_E_SERVER_CANTUNMARSHAL_DATA}
use Rattle.com_model.specs.Lists.{where_true}
use Rattle.com_model.specs.Tables.{class_number, interface_number}
use Rattle.com_model.specs.Openers.{running_call}
use Rattle.com_model.specs.Calls.{object_of}
use Rattle.com_model.specs.declared.keeps.Issue.{Issue}
use Rattle.com_model.specs.Frames.{reference}
use Rattle.com_model.specs.Endings.{Answer}
use Rattle.com_refs_books.specs.declared.keeps.Cookie.{Cookie}
use Rattle.com_refs_books.specs.Changes.{cookie}
use Rattle.com_model.specs.Issue.{call_refusal}
use Rattle.com_model.specs.Sight.{Sight}
use Rattle.com_model.specs.Deeds.{hold_refusal, named_by, deed_of, queried, created, created_of, initialised, uninitialised, marshalled, registered, Named, NamesPacket, Refuses, unmarshalled, dropped, got, got_by, got_with, cookie_number, gained_refs, owned_by, made_as, creator, placing, revoked, called, left_by, left_as}
use Rattle.com_model.specs.Rules.{posted_to_sta, call_sort, verdict_on, is_handled_in, arguments_gone, admission, packet_left, answered}
use Rattle.com_model.proofs.Given.{cond-of}
use Rattle.com_laws_safety.proofs.Sources.{IsRest, Source, by_body, by_script, by_end, by_final, by_own, by_answer, by_inbox, by_retry, by_again, by_rest}

abbrev pub NoQuery : Deed → Type 0
NoQuery (deed.Query o i hr) = ⊥
NoQuery _ = Unit {0}

made-none : (s : Scenario) (v : Sight) (k i : Asked) (r : Result Placed HResult) → NoQuery (made_as s v k i r)
made-none s v k i (Ok p) = tt
made-none s v k i (Err hr) = tt

created_of-none : (s : Scenario) (v : Sight) (l a : ℕ) (k i : Asked) (c j : Option ℕ) → NoQuery (created_of s v l a k i c j)
created_of-none s v l a k i None j = tt
created_of-none s v l a k i (Some c) j = made-none s v k i (placing (creator v l a) c j (class_at s.classes c))

created-none : (s : Scenario) (v : Sight) (l : ℕ) (k i : Asked) (a : Option ℕ) → NoQuery (created s v l k i a)
created-none s v l k i None = tt
created-none s v l k i (Some a) = created_of-none s v l a k i (class_number s k) (interface_number s i)

initialised-none : (v : Sight) (m : Mode) (a : Option ℕ) → NoQuery (initialised v m a)
initialised-none v m None = tt
initialised-none v m (Some a) = tt

marshalled-none : (s : Scenario) (v : Sight) (l : ℕ) (m : MarshalMode) (held : Option RefValue) (hr : Option HResult) → NoQuery (marshalled s v l m held hr)
marshalled-none s v l m held (Some hr) = tt
marshalled-none s v l m None None = tt
marshalled-none s v l m (Some r) None = tt

registered-none : (v : Sight) (held : Option RefValue) (hr : Option HResult) → NoQuery (registered v held hr)
registered-none v held (Some hr) = tt
registered-none v held None = tt

unmarshalled-none : (v : Sight) (l : ℕ) (n : Named) → NoQuery (unmarshalled v l n)
unmarshalled-none v l (NamesPacket p) = tt
unmarshalled-none v l (Refuses hr) = tt

dropped-none : (n : Named) → NoQuery (dropped n)
dropped-none (NamesPacket p) = tt
dropped-none (Refuses hr) = tt

got_with-none : (v : Sight) (l : ℕ) (g : ℤ) (k : Cookie) (b : Bool) → NoQuery (cond b (deed.Get g (Some (reference k.object k.iface)) (gained_refs marshal.Strong (owned_by v l k.object) 0) S_OK) (deed.Get g None 0 CO_E_OBJNOTCONNECTED))
got_with-none v l g k true = tt
got_with-none v l g k false = tt

got_by-none : (v : Sight) (l : ℕ) (g : ℤ) (k : Cookie) → NoQuery (got_by v l g k)
got_by-none v l g k = cond-of NoQuery k.is_revoked (deed.Get g None 0 E_INVALIDARG) (got_with v l g k) tt (got_with-none v l g k (v.books.live k.object))

got-none : (v : Sight) (l : ℕ) (g : ℤ) (a : Option ℕ) → NoQuery (got v l g a)
got-none v l g None = tt
got-none v l g (Some a) = got_by-none v l g (cookie v.books (cookie_number g))

revoked-none : (v : Sight) (g : ℤ) (a : Option ℕ) → NoQuery (revoked v g a)
revoked-none v g None = tt
revoked-none v g (Some a) = tt

called-none : (s : Scenario) (v : Sight) (l : ℕ) (held : Option RefValue) (i m : ℕ) (args : List Value) (hr : Option HResult) → NoQuery (called s v l held i m args hr)
called-none s v l held i m args (Some hr) = tt
called-none s v l held i m args None = tt

left-none : (s : Scenario) (v : Sight) (l c : ℕ) (i : Option Issue) (hr : HResult) (x : Option Value) → NoQuery (left_as s v l c i hr x)
left-none s v l c None hr x = tt
left-none s v l c (Some i) hr x = tt

left_by-none : (s : Scenario) (v : Sight) (l : ℕ) (hr : HResult) (x : Option Value) (r : Option ℕ) → NoQuery (left_by s v l hr x r)
left_by-none s v l hr x None = tt
left_by-none s v l hr x (Some c) = left-none s v l c (v.issue c) hr x

-- What holds of each query's entry, and of all entries that are no query's, holds of every action's.
pub deed-queries : (P : Deed → Type 0) (s : Scenario) (v : Sight) (l : ℕ) (a : Action) → ((d : Deed) → NoQuery d → P d) → ((to : ℕ) (held : Option RefValue) (i : Asked) → a ≡ action.Query to held i → P (queried s v l held i)) → P (deed_of s v l a)
deed-queries P s v l (action.Query to held i) f g = g to held i refl
deed-queries P s v l (action.Create slot k i) f g = f _ (created-none s v l k i (v.home l))
deed-queries P s v l (action.Copy to held) f g = f _ tt
deed-queries P s v l (action.Release from held) f g = f _ tt
deed-queries P s v l (action.Call held i m args to) f g = f _ (called-none s v l held i m args (call_refusal s (v.home l) (v.running l) v.owns v.books.live held i m))
deed-queries P s v l (action.Marshal b held m) f g = f _ (marshalled-none s v l m held (hold_refusal v (v.home l) held))
deed-queries P s v l (action.Unmarshal slot b) f g = f _ (unmarshalled-none v l (named_by s v (v.home l) (v.buffers b)))
deed-queries P s v l (action.Drop b) f g = f _ (dropped-none (named_by s v (v.home l) (v.buffers b)))
deed-queries P s v l (action.Raw b bytes) f g = f _ tt
deed-queries P s v l (action.Register to held) f g = f _ (registered-none v held (hold_refusal v (v.home l) held))
deed-queries P s v l (action.Get slot x) f g = f _ (got-none v l x (v.home l))
deed-queries P s v l (action.Revoke x) f g = f _ (revoked-none v x (v.home l))
deed-queries P s v l (action.Disconnect held) f g = f _ tt
deed-queries P s v l (action.Post m w) f g = f _ tt
deed-queries P s v l (action.Quit m) f g = f _ tt
deed-queries P s v l (action.Leave hr x) f g = f _ (left_by-none s v l hr x (running_call (v.openers l)))
deed-queries P s v l (action.Init m) f g = f _ (initialised-none v m (v.home l))
deed-queries P s v l action.Uninit f g = f _ tt
deed-queries P s v l (action.SetFilter x) f g = f _ tt
deed-queries P s v l (action.Pump n) f g = f _ tt

-- ---- the rules make no query

admission-none : (s : Scenario) (v : Sight) (l c : ℕ) → NoQuery (admission s v l c)
admission-none s v l c =
    cond-of NoQuery (nat_le 256 (length (v.openers l))) (deed.Refuse c RPC_E_OUT_OF_RESOURCES) _ tt
    (cond-of NoQuery (posted_to_sta v c && not (is_handled_in s v l c)) (deed.Verdict c (call_sort v l c) (verdict_on s v l c)) _ tt
    (cond-of NoQuery (arguments_gone v c) (deed.Refuse c RPC_E_SERVER_CANTUNMARSHAL_DATA) (deed.Enter c (object_of (v.issue c)) (v.owner (object_of (v.issue c)) l) (where_true (posted_to_sta v c) (call_sort v l c)) (v.unread c)) tt tt))

answered-none : (v : Sight) (c : ℕ) (x : Answer) (p : Option ℕ) → NoQuery (answered v c x p)
answered-none v c x (Some p) = tt
answered-none v c x None = tt

rest-none : (d : Deed) → IsRest d → NoQuery d
rest-none (deed.Query o i hr) p = p
rest-none _ p = tt

pub source-queries : (P : Deed → Type 0) (s : Scenario) (v : Sight) (l : ℕ) (d : Deed) → ((d : Deed) → NoQuery d → P d) → ((to : ℕ) (held : Option RefValue) (i : Asked) → v.act l ≡ Some (action.Query to held i) → P (queried s v l held i)) → Source s v l d → P d
source-queries P s v l d f g (by_body c o a os x p q e) = subst P e (deed-queries P s v l x f (λ to held i u. g to held i (subst (λ (y : Action). v.act l ≡ Some y) u q)))
source-queries P s v l d f g (by_script x p t q e) = subst P e (deed-queries P s v l x f (λ to held i u. g to held i (subst (λ (y : Action). v.act l ≡ Some y) u q)))
source-queries P s v l d f g (by_end p t e) = subst P e (f _ (cond-of NoQuery (v.count l == 0) deed.End (uninitialised v l) tt tt))
source-queries P s v l d f g (by_final o p e) = subst P e (f _ tt)
source-queries P s v l d f g (by_own c p q e) = subst P e (f _ (admission-none s v l c))
source-queries P s v l d f g (by_answer c x p q e) = subst P e (f _ (answered-none v c x (packet_left v c)))
source-queries P s v l d f g (by_inbox c n q e) = subst P e (f _ (admission-none s v l c))
source-queries P s v l d f g (by_retry c n x q e) = subst P e (f _ tt)
source-queries P s v l d f g (by_again c t q e) = subst P e (f _ tt)
source-queries P s v l d f g (by_rest p) = f d (rest-none d p)
