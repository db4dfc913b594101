-- The reference of a Query entry is the one that its action asks; and the target of a call that is marshalled is connected.
use Rattle.std.proofs.Common.{subst}
use Rattle.std.specs.Prelude.{◌≡◌, refl, ℕ, ℤ, Bool, true, false, cond, not, ◌==◌, ◌&&◌, ◌||◌, List, Option, Some, None, is_none, Result, Ok, Err}
use Rattle.com_base.specs.declared.hresult.HResult.{HResult}
use Rattle.com_base.specs.declared.value.RefValue.{RefValue}
use Rattle.com_base.specs.declared.value.Value.{Value}
use Rattle.com_base.specs.declared.value.Mode.{Mode}
use Rattle.com_base.specs.declared.value.MarshalMode.{MarshalMode}
use Rattle.com_base.specs.declared.value.MarshalMode.TheVariants as marshal
use Rattle.com_body.specs.declared.operands.Asked.{Asked}
use Rattle.com_body.specs.declared.actions.Action.{Action}
use Rattle.com_body.specs.declared.actions.Action.TheVariants as action
use Rattle.com_classes.specs.declared.factory.Placed.{Placed}
use Rattle.com_classes.specs.Lookups.{class_at, method_at}
use Rattle.com_model.specs.declared.deeds.Deed.{Deed}
use Rattle.com_model.specs.declared.deeds.Deed.TheVariants as deed
use Rattle.com_model.specs.declared.scenario.Scenario.{Scenario}
use Rattle.com_model.specs.Answers.{S_OK, E_INVALIDARG, CO_E_OBJNOTCONNECTED}
use Rattle.com_model.specs.Tables.{class_number, interface_number}
use Rattle.com_model.specs.Openers.{running_call}
use Rattle.com_model.specs.declared.keeps.Issue.{Issue}
use Rattle.com_model.specs.Frames.{reference}
use Rattle.com_refs_books.specs.Changes.{cookie}
use Rattle.com_refs_books.specs.declared.keeps.Cookie.{Cookie}
use Rattle.com_model.specs.Issue.{call_refusal}
use Rattle.com_model.specs.Sight.{Sight, sight}
use Rattle.com_model.specs.Deeds.{hold_refusal, named_by, deed_of, created, created_of, initialised, marshalled, registered, Named, NamesPacket, Refuses, unmarshalled, dropped, got, got_by, got_with, cookie_number, gained_refs, owned_by, made_as, creator, placing, revoked, route_to, called, left_by, left_as, object_in, uninitialised}
use Rattle.com_model.proofs.Given.{cond-of}
use Rattle.com_model.specs.declared.deeds.Entry.{Entry}
use Rattle.com_model.specs.declared.deeds.Route.TheVariants as route
use Rattle.com_model.specs.Answers.{E_NOINTERFACE, RPC_E_INVALIDMETHOD, RPC_E_DISCONNECTED}
use Rattle.com_model.specs.Lists.{number_or_zero, is_number}
use Rattle.com_model.specs.Apartments.{neutral, home, running}
use Rattle.com_model.specs.Objects.{named, owns}
use Rattle.com_model.specs.Calls.{is_marshalled}
use Rattle.com_model.specs.Books.{books}
use Rattle.com_model.specs.Frames.{act}
use Rattle.com_model.specs.Rules.{packet_left, after_script, next}
use Rattle.com_laws_safety.proofs.Sources.{Source, by_body, by_script, by_end, by_final, by_own, by_answer, by_inbox, by_retry, by_again, by_rest, next-source}
use Rattle.com_laws_safety.proofs.Facts.{IsRuled, admission-ruled, answered-ruled, rest-ruled}

-- An action that asks a reference for an interface.
pub record Asks (s : Scenario) (h : List Entry) (l : ℕ) (o : Option ℕ) : Type 0 where
  pub to : ℕ
  pub held : Option RefValue
  pub iface : Asked
  pub acts : act s h l ≡ Some (action.Query to held iface)
  pub object : o ≡ object_in held

abbrev pub AskedOf : Scenario → List Entry → ℕ → Deed → Type 0
AskedOf s h l (deed.Query o i hr) = Asks s h l o
AskedOf s h l (deed.Out c o i m r k bytes) = is_marshalled r ≡ true → (books s h).live (number_or_zero o) ≡ true
AskedOf s h l _ = Unit {0}

abbrev NotAsk : Deed → Type 0
NotAsk (deed.Query o i hr) = ⊥
NotAsk (deed.Out c o i m r k bytes) = ⊥
NotAsk _ = Unit {0}

asked-of : (s : Scenario) (h : List Entry) (l : ℕ) (d : Deed) → NotAsk d → AskedOf s h l d
asked-of s h l (deed.Query o i hr) p = absurd p
asked-of s h l (deed.Out c o i m r k bytes) p = absurd p
asked-of s h l _ p = tt

made-not-ask : (s : Scenario) (v : Sight) (k i : Asked) (r : Result Placed HResult) → NotAsk (made_as s v k i r)
made-not-ask s v k i (Ok p) = tt
made-not-ask s v k i (Err hr) = tt

created_of-not-ask : (s : Scenario) (v : Sight) (l a : ℕ) (k i : Asked) (c j : Option ℕ) → NotAsk (created_of s v l a k i c j)
created_of-not-ask s v l a k i None j = tt
created_of-not-ask s v l a k i (Some c) j = made-not-ask s v k i (placing (creator v l a) c j (class_at s.classes c))

created-not-ask : (s : Scenario) (v : Sight) (l : ℕ) (k i : Asked) (a : Option ℕ) → NotAsk (created s v l k i a)
created-not-ask s v l k i None = tt
created-not-ask s v l k i (Some a) = created_of-not-ask s v l a k i (class_number s k) (interface_number s i)

initialised-not-ask : (v : Sight) (m : Mode) (a : Option ℕ) → NotAsk (initialised v m a)
initialised-not-ask v m None = tt
initialised-not-ask v m (Some a) = tt

marshalled-not-ask : (s : Scenario) (v : Sight) (l : ℕ) (m : MarshalMode) (held : Option RefValue) (hr : Option HResult) → NotAsk (marshalled s v l m held hr)
marshalled-not-ask s v l m held (Some hr) = tt
marshalled-not-ask s v l m None None = tt
marshalled-not-ask s v l m (Some r) None = tt

registered-not-ask : (v : Sight) (held : Option RefValue) (hr : Option HResult) → NotAsk (registered v held hr)
registered-not-ask v held (Some hr) = tt
registered-not-ask v held None = tt

unmarshalled-not-ask : (v : Sight) (l : ℕ) (n : Named) → NotAsk (unmarshalled v l n)
unmarshalled-not-ask v l (NamesPacket p) = tt
unmarshalled-not-ask v l (Refuses hr) = tt

dropped-not-ask : (n : Named) → NotAsk (dropped n)
dropped-not-ask (NamesPacket p) = tt
dropped-not-ask (Refuses hr) = tt

got_with-not-ask : (v : Sight) (l : ℕ) (g : ℤ) (k : Cookie) (b : Bool) → NotAsk (cond b (deed.Get g (Some (reference k.object k.iface)) (gained_refs marshal.Strong (owned_by v l k.object) 0) S_OK) (deed.Get g None 0 CO_E_OBJNOTCONNECTED))
got_with-not-ask v l g k true = tt
got_with-not-ask v l g k false = tt

got_by-not-ask : (v : Sight) (l : ℕ) (g : ℤ) (k : Cookie) → NotAsk (got_by v l g k)
got_by-not-ask v l g k = cond-of (NotAsk) k.is_revoked (deed.Get g None 0 E_INVALIDARG) (got_with v l g k) tt (got_with-not-ask v l g k (v.books.live k.object))

got-not-ask : (v : Sight) (l : ℕ) (g : ℤ) (a : Option ℕ) → NotAsk (got v l g a)
got-not-ask v l g None = tt
got-not-ask v l g (Some a) = got_by-not-ask v l g (cookie v.books (cookie_number g))

revoked-not-ask : (v : Sight) (g : ℤ) (a : Option ℕ) → NotAsk (revoked v g a)
revoked-not-ask v g None = tt
revoked-not-ask v g (Some a) = tt

route-live : (o n : Bool) → (a : Bool) → is_marshalled (cond o route.Direct (cond a route.Switch route.Post)) ≡ true → (not o && not n) ≡ false → n ≡ true
route-live true n a m p = cc
route-live false true a m p = refl
route-live false false a m p = cc

refusal-live : (x y z : Bool) (a b c : HResult) → cond x (Some a) (cond y (Some b) (cond z (Some c) None)) ≡ None → z ≡ false
refusal-live true y z a b c e = cc
refusal-live false true z a b c e = cc
refusal-live false false true a b c e = cc
refusal-live false false false a b c e = refl

held-live : (s : Scenario) (h : List Entry) (l : ℕ) (x : Option ℕ) (r : RefValue) (i m : ℕ) → call_refusal s x (running s h l) (owns s h) (books s h).live (Some r) i m ≡ None → is_marshalled (route_to (sight s h) l (Some r)) ≡ true → (books s h).live r.object ≡ true
held-live s h l None r i m e p = cc
held-live s h l (Some a) r i m e p =
    let o : Bool = owns s h r.object (number_or_zero (running s h l)) in
    route-live o ((books s h).live r.object) (named h r.object == neutral || is_number (named h r.object) (home s h l)) p
    (refusal-live (not (r.iface == i)) (is_none (method_at s.classes i m)) (not o && not ((books s h).live r.object)) E_NOINTERFACE RPC_E_INVALIDMETHOD RPC_E_DISCONNECTED e)

called-asked : (s : Scenario) (h : List Entry) (l : ℕ) (held : Option RefValue) (i m : ℕ) (args : List Value) (hr : Option HResult) → call_refusal s (home s h l) (running s h l) (owns s h) (books s h).live held i m ≡ hr → AskedOf s h l (called s (sight s h) l held i m args hr)
called-asked s h l held i m args (Some hr) e = λ p. cc
called-asked s h l None i m args None e = λ p. cc
called-asked s h l (Some r) i m args None e = λ p. held-live s h l (home s h l) r i m e p

left-not-ask : (s : Scenario) (v : Sight) (l c : ℕ) (i : Option Issue) (hr : HResult) (x : Option Value) → NotAsk (left_as s v l c i hr x)
left-not-ask s v l c None hr x = tt
left-not-ask s v l c (Some i) hr x = tt

left_by-not-ask : (s : Scenario) (v : Sight) (l : ℕ) (hr : HResult) (x : Option Value) (r : Option ℕ) → NotAsk (left_by s v l hr x r)
left_by-not-ask s v l hr x None = tt
left_by-not-ask s v l hr x (Some c) = left-not-ask s v l c (v.issue c) hr x

deed-asked : (s : Scenario) (h : List Entry) (l : ℕ) (a : Action) → act s h l ≡ Some a → AskedOf s h l (deed_of s (sight s h) l a)
deed-asked s h l (action.Create slot k i) e = asked-of s h l _ (created-not-ask s (sight s h) l k i ((sight s h).home l))
deed-asked s h l (action.Query to held i) e = record { to = to; held = held; iface = i; acts = e; object = refl }
deed-asked s h l (action.Copy to held) e = tt
deed-asked s h l (action.Release from held) e = tt
deed-asked s h l (action.Call held i m args to) e = called-asked s h l held i m args (call_refusal s (home s h l) (running s h l) (owns s h) (books s h).live held i m) refl
deed-asked s h l (action.Marshal b held m) e = asked-of s h l _ (marshalled-not-ask s (sight s h) l m held (hold_refusal (sight s h) ((sight s h).home l) held))
deed-asked s h l (action.Unmarshal slot b) e = asked-of s h l _ (unmarshalled-not-ask (sight s h) l (named_by s (sight s h) ((sight s h).home l) ((sight s h).buffers b)))
deed-asked s h l (action.Drop b) e = asked-of s h l _ (dropped-not-ask (named_by s (sight s h) ((sight s h).home l) ((sight s h).buffers b)))
deed-asked s h l (action.Raw b bytes) e = tt
deed-asked s h l (action.Register to held) e = asked-of s h l _ (registered-not-ask (sight s h) held (hold_refusal (sight s h) ((sight s h).home l) held))
deed-asked s h l (action.Get slot g) e = asked-of s h l _ (got-not-ask (sight s h) l g ((sight s h).home l))
deed-asked s h l (action.Revoke g) e = asked-of s h l _ (revoked-not-ask (sight s h) g ((sight s h).home l))
deed-asked s h l (action.Disconnect held) e = tt
deed-asked s h l (action.Post m w) e = tt
deed-asked s h l (action.Quit m) e = tt
deed-asked s h l (action.Leave hr x) e = asked-of s h l _ (left_by-not-ask s (sight s h) l hr x (running_call ((sight s h).openers l)))
deed-asked s h l (action.Init m) e = asked-of s h l _ (initialised-not-ask (sight s h) m ((sight s h).home l))
deed-asked s h l action.Uninit e = tt
deed-asked s h l (action.SetFilter f) e = tt
deed-asked s h l (action.Pump n) e = tt

-- ---- by the rules

ruled-asked : (s : Scenario) (h : List Entry) (l : ℕ) (d : Deed) → IsRuled d → AskedOf s h l d
ruled-asked s h l (deed.Query o i hr) p = absurd p
ruled-asked s h l (deed.Out c o i m r k bytes) p = absurd p
ruled-asked s h l _ p = tt

ended-asked : (s : Scenario) (h : List Entry) (l : ℕ) → AskedOf s h l (after_script (sight s h) l)
ended-asked s h l = cond-of (AskedOf s h l) ((sight s h).count l == 0) deed.End (uninitialised (sight s h) l) tt tt

source-asked : (s : Scenario) (h : List Entry) (l : ℕ) (d : Deed) → Source s (sight s h) l d → AskedOf s h l d
source-asked s h l d (by_body c o a os x p q e) = subst (AskedOf s h l) e (deed-asked s h l x q)
source-asked s h l d (by_script x p t q e) = subst (AskedOf s h l) e (deed-asked s h l x q)
source-asked s h l d (by_end p t e) = subst (AskedOf s h l) e (ended-asked s h l)
source-asked s h l d (by_final o p e) = subst (AskedOf s h l) e tt
source-asked s h l d (by_own c p q e) = ruled-asked s h l d (subst IsRuled e (admission-ruled s (sight s h) l c))
source-asked s h l d (by_answer c x p q e) = ruled-asked s h l d (subst IsRuled e (answered-ruled (sight s h) c x (packet_left (sight s h) c)))
source-asked s h l d (by_inbox c p q e) = ruled-asked s h l d (subst IsRuled e (admission-ruled s (sight s h) l c))
source-asked s h l d (by_retry c n x q e) = subst (AskedOf s h l) e tt
source-asked s h l d (by_again c t q e) = subst (AskedOf s h l) e tt
source-asked s h l d (by_rest p) = ruled-asked s h l d (rest-ruled d p)

pub next-asked : (s : Scenario) (h : List Entry) (l : ℕ) (d : Deed) → next s h l ≡ Some d → AskedOf s h l d
next-asked s h l d e = source-asked s h l d (next-source s h l d e)
