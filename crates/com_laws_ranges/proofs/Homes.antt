-- What an Init, an Uninit and an Out say: the next STA, one initialisation less, and the next call.
use Rattle.std.proofs.Common.{subst}
use Rattle.std.specs.Prelude.{◌≡◌, refl, ℕ, ℤ, ◌+◌, ◌-◌, Bool, true, false, cond, ◌==◌, List, Option, Some, None, Result, Ok, Err}
use Rattle.com_base.specs.declared.hresult.HResult.{HResult}
use Rattle.com_base.specs.declared.value.RefValue.{RefValue}
use Rattle.com_base.specs.declared.value.Value.{Value}
use Rattle.com_base.specs.declared.value.Mode.{Mode}
use Rattle.com_base.specs.declared.value.Mode.TheVariants as mode
use Rattle.com_base.specs.declared.value.MarshalMode.{MarshalMode}
use Rattle.com_base.specs.declared.value.MarshalMode.TheVariants as marshal
use Rattle.com_body.specs.declared.operands.Asked.{Asked}
use Rattle.com_body.specs.declared.actions.Action.{Action}
use Rattle.com_body.specs.declared.actions.Action.TheVariants as action
use Rattle.com_refs_books.specs.Changes.{cookie}
use Rattle.com_refs_books.specs.declared.keeps.Cookie.{Cookie}
use Rattle.com_classes.specs.declared.factory.Placed.{Placed}
use Rattle.com_classes.specs.Lookups.{class_at}
use Rattle.com_lanes.specs.Changes.{IsNumber}
use Rattle.com_model.specs.declared.deeds.Deed.{Deed}
use Rattle.com_model.specs.declared.deeds.Deed.TheVariants as deed
use Rattle.com_model.specs.declared.deeds.Entry.{Entry}
use Rattle.com_model.specs.declared.keeps.Issue.{Issue}
use Rattle.com_model.specs.declared.scenario.Scenario.{Scenario}
use Rattle.com_model.specs.Answers.{S_OK, S_FALSE, RPC_E_CHANGED_MODE, E_INVALIDARG, CO_E_OBJNOTCONNECTED}
use Rattle.com_model.specs.Tables.{class_number, interface_number, shown}
use Rattle.com_model.specs.Openers.{running_call}
use Rattle.com_model.specs.Apartments.{makes_sta}
use Rattle.com_model.specs.Frames.{reference}
use Rattle.com_model.specs.Issue.{call_refusal}
use Rattle.com_model.specs.Sight.{Sight, sight}
use Rattle.com_model.specs.Deeds.{has_mode, hold_refusal, named_by, deed_of, created, created_of, initialised, marshalled, registered, Named, NamesPacket, Refuses, unmarshalled, dropped, got, got_by, got_with, cookie_number, gained_refs, owned_by, made_as, creator, placing, revoked, called, left_by, left_as, uninitialised}
use Rattle.com_model.specs.Rules.{packet_left, after_script, next}
use Rattle.com_model.proofs.Given.{cond-of}
use Rattle.com_laws_safety.proofs.Sources.{Source, by_body, by_script, by_end, by_final, by_own, by_answer, by_inbox, by_retry, by_again, by_rest, next-source}
use Rattle.com_laws_safety.proofs.Facts.{IsRuled, admission-ruled, answered-ruled, rest-ruled}

-- An action that asks a reference for the interface that the entry shows.
pub record AsksFor (s : Scenario) (v : Sight) (l : ℕ) (i : Asked) : Type 0 where
  pub to : ℕ
  pub held : Option RefValue
  pub iface : Asked
  pub acts : v.act l ≡ Some (action.Query to held iface)
  pub is : i ≡ shown (interface_number s iface) iface

abbrev pub HomesSay : Scenario → Sight → ℕ → Deed → Type 0
HomesSay s v l (deed.Init m a hr) = IsNumber v.next_sta (makes_sta (deed.Init m a hr))
HomesSay s v l (deed.Uninit home k) = k ≡ v.count l - 1
HomesSay s v l (deed.Out c o i m r k bytes) = c ≡ v.calls + 1
HomesSay s v l (deed.Query o i hr) = AsksFor s v l i
HomesSay s v l _ = Unit {0}

abbrev pub NoHome : Deed → Type 0
NoHome (deed.Init m a hr) = ⊥
NoHome (deed.Uninit home k) = ⊥
NoHome (deed.Out c o i m r k bytes) = ⊥
NoHome (deed.Query o i hr) = ⊥
NoHome (deed.Retry c n) = ⊥
NoHome (deed.Tick t) = ⊥
NoHome _ = Unit {0}

says-none : (s : Scenario) (v : Sight) (l : ℕ) (d : Deed) → NoHome d → HomesSay s v l d
says-none s v l (deed.Init m a hr) p = absurd p
says-none s v l (deed.Uninit home k) p = absurd p
says-none s v l (deed.Out c o i m r k bytes) p = absurd p
says-none s v l (deed.Query o i hr) p = absurd p
says-none s v l _ p = tt

-- ---- actions

made-none : (s : Scenario) (v : Sight) (k i : Asked) (r : Result Placed HResult) → NoHome (made_as s v k i r)
made-none s v k i (Ok p) = tt
made-none s v k i (Err hr) = tt

created_of-none : (s : Scenario) (v : Sight) (l a : ℕ) (k i : Asked) (c j : Option ℕ) → NoHome (created_of s v l a k i c j)
created_of-none s v l a k i None j = tt
created_of-none s v l a k i (Some c) j = made-none s v k i (placing (creator v l a) c j (class_at s.classes c))

pub created-none : (s : Scenario) (v : Sight) (l : ℕ) (k i : Asked) (a : Option ℕ) → NoHome (created s v l k i a)
created-none s v l k i None = tt
created-none s v l k i (Some a) = created_of-none s v l a k i (class_number s k) (interface_number s i)

pub marshalled-none : (s : Scenario) (v : Sight) (l : ℕ) (m : MarshalMode) (held : Option RefValue) (hr : Option HResult) → NoHome (marshalled s v l m held hr)
marshalled-none s v l m held (Some hr) = tt
marshalled-none s v l m None None = tt
marshalled-none s v l m (Some r) None = tt

pub registered-none : (v : Sight) (held : Option RefValue) (hr : Option HResult) → NoHome (registered v held hr)
registered-none v held (Some hr) = tt
registered-none v held None = tt

pub unmarshalled-none : (v : Sight) (l : ℕ) (n : Named) → NoHome (unmarshalled v l n)
unmarshalled-none v l (NamesPacket p) = tt
unmarshalled-none v l (Refuses hr) = tt

pub dropped-none : (n : Named) → NoHome (dropped n)
dropped-none (NamesPacket p) = tt
dropped-none (Refuses hr) = tt

got_with-none : (v : Sight) (l : ℕ) (g : ℤ) (k : Cookie) (b : Bool) → NoHome (cond b (deed.Get g (Some (reference k.object k.iface)) (gained_refs marshal.Strong (owned_by v l k.object) 0) S_OK) (deed.Get g None 0 CO_E_OBJNOTCONNECTED))
got_with-none v l g k true = tt
got_with-none v l g k false = tt

got_by-none : (v : Sight) (l : ℕ) (g : ℤ) (k : Cookie) → NoHome (got_by v l g k)
got_by-none v l g k = cond-of NoHome k.is_revoked (deed.Get g None 0 E_INVALIDARG) (got_with v l g k) tt (got_with-none v l g k (v.books.live k.object))

pub got-none : (v : Sight) (l : ℕ) (g : ℤ) (a : Option ℕ) → NoHome (got v l g a)
got-none v l g None = tt
got-none v l g (Some a) = got_by-none v l g (cookie v.books (cookie_number g))

pub revoked-none : (v : Sight) (g : ℤ) (a : Option ℕ) → NoHome (revoked v g a)
revoked-none v g None = tt
revoked-none v g (Some a) = tt

called-says : (s : Scenario) (v : Sight) (l : ℕ) (held : Option RefValue) (i m : ℕ) (args : List Value) (hr : Option HResult) → HomesSay s v l (called s v l held i m args hr)
called-says s v l held i m args (Some hr) = refl
called-says s v l held i m args None = refl

left-none : (s : Scenario) (v : Sight) (l c : ℕ) (i : Option Issue) (hr : HResult) (x : Option Value) → NoHome (left_as s v l c i hr x)
left-none s v l c None hr x = tt
left-none s v l c (Some i) hr x = tt

pub left_by-none : (s : Scenario) (v : Sight) (l : ℕ) (hr : HResult) (x : Option Value) (r : Option ℕ) → NoHome (left_by s v l hr x r)
left_by-none s v l hr x None = tt
left_by-none s v l hr x (Some c) = left-none s v l c (v.issue c) hr x

again-none : (n a : ℕ) (b : Bool) → IsNumber n (makes_sta (deed.Init mode.Sta a (cond b S_FALSE RPC_E_CHANGED_MODE)))
again-none n a true = tt
again-none n a false = tt

initialised-says : (s : Scenario) (v : Sight) (l : ℕ) (m : Mode) (a : Option ℕ) → HomesSay s v l (initialised v m a)
initialised-says s v l mode.Sta None = refl
initialised-says s v l mode.Mta None = tt
initialised-says s v l mode.Sta (Some a) = again-none v.next_sta a (has_mode mode.Sta a)
initialised-says s v l mode.Mta (Some a) = tt

action-says : (s : Scenario) (v : Sight) (l : ℕ) (a : Action) → v.act l ≡ Some a → HomesSay s v l (deed_of s v l a)
action-says s v l (action.Create slot k i) q = says-none s v l _ (created-none s v l k i (v.home l))
action-says s v l (action.Query to held i) q = record { to = to; held = held; iface = i; acts = q; is = refl }
action-says s v l (action.Copy to held) q = tt
action-says s v l (action.Release from held) q = tt
action-says s v l (action.Call held i m args to) q = called-says s v l held i m args (call_refusal s (v.home l) (v.running l) v.owns v.books.live held i m)
action-says s v l (action.Marshal b held m) q = says-none s v l _ (marshalled-none s v l m held (hold_refusal v (v.home l) held))
action-says s v l (action.Unmarshal slot b) q = says-none s v l _ (unmarshalled-none v l (named_by s v (v.home l) (v.buffers b)))
action-says s v l (action.Drop b) q = says-none s v l _ (dropped-none (named_by s v (v.home l) (v.buffers b)))
action-says s v l (action.Raw b bytes) q = tt
action-says s v l (action.Register to held) q = says-none s v l _ (registered-none v held (hold_refusal v (v.home l) held))
action-says s v l (action.Get slot g) q = says-none s v l _ (got-none v l g (v.home l))
action-says s v l (action.Revoke g) q = says-none s v l _ (revoked-none v g (v.home l))
action-says s v l (action.Disconnect held) q = tt
action-says s v l (action.Post m w) q = tt
action-says s v l (action.Quit m) q = tt
action-says s v l (action.Leave hr x) q = says-none s v l _ (left_by-none s v l hr x (running_call (v.openers l)))
action-says s v l (action.Init m) q = initialised-says s v l m (v.home l)
action-says s v l action.Uninit q = refl
action-says s v l (action.SetFilter f) q = tt
action-says s v l (action.Pump n) q = tt

-- ---- by the rules

ruled-says : (s : Scenario) (v : Sight) (l : ℕ) (d : Deed) → IsRuled d → HomesSay s v l d
ruled-says s v l (deed.Init m a hr) p = absurd p
ruled-says s v l (deed.Uninit home k) p = absurd p
ruled-says s v l (deed.Out c o i m r k bytes) p = absurd p
ruled-says s v l (deed.Query o i hr) p = absurd p
ruled-says s v l _ p = tt

ended-says : (s : Scenario) (v : Sight) (l : ℕ) → HomesSay s v l (after_script v l)
ended-says s v l = cond-of (HomesSay s v l) (v.count l == 0) deed.End (uninitialised v l) tt refl

source-says : (s : Scenario) (v : Sight) (l : ℕ) (d : Deed) → Source s v l d → HomesSay s v l d
source-says s v l d (by_body c o a os x p q e) = subst (HomesSay s v l) e (action-says s v l x q)
source-says s v l d (by_script x p t q e) = subst (HomesSay s v l) e (action-says s v l x q)
source-says s v l d (by_end p t e) = subst (HomesSay s v l) e (ended-says s v l)
source-says s v l d (by_final o p e) = subst (HomesSay s v l) e tt
source-says s v l d (by_own c p q e) = ruled-says s v l d (subst IsRuled e (admission-ruled s v l c))
source-says s v l d (by_answer c x p q e) = ruled-says s v l d (subst IsRuled e (answered-ruled v c x (packet_left v c)))
source-says s v l d (by_inbox c p q e) = ruled-says s v l d (subst IsRuled e (admission-ruled s v l c))
source-says s v l d (by_retry c n x q e) = subst (HomesSay s v l) e tt
source-says s v l d (by_again c t q e) = subst (HomesSay s v l) e tt
source-says s v l d (by_rest p) = ruled-says s v l d (rest-ruled d p)

pub homes-say : (s : Scenario) (h : List Entry) (l : ℕ) (d : Deed) → next s h l ≡ Some d → HomesSay s (sight s h) l d
homes-say s h l d e = source-says s (sight s h) l d (next-source s h l d e)
