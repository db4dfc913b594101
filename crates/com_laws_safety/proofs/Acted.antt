-- What the entry of an action can be.
use Rattle.std.specs.Prelude.{◌≡◌, refl, ℕ, ℤ, Bool, true, false, cond, List, Option, Some, None, Result, Ok, Err}
use Rattle.com_base.specs.declared.hresult.HResult.{HResult}
use Rattle.com_base.specs.declared.value.RefValue.{RefValue}
use Rattle.com_base.specs.declared.value.Value.{Value}
use Rattle.com_base.specs.declared.value.Mode.{Mode}
use Rattle.com_base.specs.declared.value.MarshalMode.{MarshalMode}
use Rattle.com_base.specs.declared.value.MarshalMode.TheVariants as marshal
use Rattle.com_body.specs.declared.operands.Asked.{Asked}
use Rattle.com_body.specs.declared.actions.Action.{Action}
use Rattle.com_body.specs.declared.actions.Action.TheVariants as action
use Rattle.com_classes.specs.declared.factory.Placed.{Placed}
use Rattle.com_classes.specs.Lookups.{class_at}
use Rattle.com_model.specs.declared.deeds.Deed.{Deed}
use Rattle.com_model.specs.declared.deeds.Deed.TheVariants as deed
use Rattle.com_model.specs.declared.scenario.Scenario.{Scenario}
use Rattle.com_model.specs.Answers.{S_OK, E_INVALIDARG, CO_E_OBJNOTCONNECTED}
use Rattle.com_model.specs.Tables.{class_number, interface_number}
use Rattle.com_model.specs.Openers.{running_call}
use Rattle.com_model.specs.declared.keeps.Issue.{Issue}
use Rattle.com_model.specs.Frames.{reference}
use Rattle.com_refs_books.specs.Changes.{cookie}
use Rattle.com_refs_books.specs.declared.keeps.Cookie.{Cookie}
use Rattle.com_model.specs.Issue.{call_refusal}
use Rattle.com_model.specs.Sight.{Sight}
use Rattle.com_model.specs.Deeds.{hold_refusal, named_by, deed_of, created, created_of, initialised, marshalled, registered, Named, NamesPacket, Refuses, unmarshalled, dropped, got, got_by, got_with, cookie_number, gained_refs, owned_by, made_as, creator, placing, revoked, called, left_by, left_as}
use Rattle.com_model.proofs.Given.{cond-of}

-- The sorts of actions: those on the lane's apartment and pumps, which scripts alone have; calls; those that make an object; and
-- all others.
pub data ActionSort : Type 0 where
  Initial : ActionSort
  Uninitial : ActionSort
  OfScript : ActionSort
  Calling : ActionSort
  Making : ActionSort
  Common : ActionSort

abbrev pub action_sort : Action → ActionSort
action_sort (action.Init m) = Initial
action_sort action.Uninit = Uninitial
action_sort (action.SetFilter f) = OfScript
action_sort (action.Pump n) = OfScript
action_sort (action.Call held i m args to) = Calling
action_sort (action.Create slot k i) = Making
action_sort _ = Common

abbrev pub is_of_script : ActionSort → Bool
is_of_script Initial = true
is_of_script Uninitial = true
is_of_script OfScript = true
is_of_script _ = false

abbrev pub is_scripts : Action → Bool
is_scripts a = is_of_script (action_sort a)

-- No action's entry is one that a rule alone makes; and one of these sorts is of such an action.
abbrev pub OfAction : ActionSort → Deed → Type 0
OfAction b (deed.Init m a hr) = b ≡ Initial
OfAction b (deed.Uninit a n) = b ≡ Uninitial
OfAction b (deed.SetFilter f hr) = b ≡ OfScript
OfAction b (deed.Pump n) = b ≡ OfScript
OfAction b (deed.Out c o i m r k bytes) = b ≡ Calling
OfAction b (deed.Made o a k i hr) = b ≡ Making
OfAction b deed.EndPump = ⊥
OfAction b (deed.Word w) = ⊥
OfAction b (deed.Verdict c t v) = ⊥
OfAction b (deed.Refuse c hr) = ⊥
OfAction b (deed.Enter c o a t vs) = ⊥
OfAction b (deed.Retry c n) = ⊥
OfAction b (deed.Again c) = ⊥
OfAction b (deed.Back c hr v) = ⊥
OfAction b (deed.Pending c w n) = ⊥
OfAction b (deed.Final o) = ⊥
OfAction b (deed.Tick t) = ⊥
OfAction b deed.End = ⊥
OfAction b _ = Unit {0}

made-acted : (s : Scenario) (v : Sight) (k i : Asked) (r : Result Placed HResult) → OfAction Making (made_as s v k i r)
made-acted s v k i (Ok p) = refl
made-acted s v k i (Err hr) = refl

created_of-acted : (s : Scenario) (v : Sight) (l a : ℕ) (k i : Asked) (c j : Option ℕ) → OfAction Making (created_of s v l a k i c j)
created_of-acted s v l a k i None j = refl
created_of-acted s v l a k i (Some c) j = made-acted s v k i (placing (creator v l a) c j (class_at s.classes c))

created-acted : (s : Scenario) (v : Sight) (l : ℕ) (k i : Asked) (a : Option ℕ) → OfAction Making (created s v l k i a)
created-acted s v l k i None = refl
created-acted s v l k i (Some a) = created_of-acted s v l a k i (class_number s k) (interface_number s i)

initialised-acted : (v : Sight) (m : Mode) (a : Option ℕ) → OfAction Initial (initialised v m a)
initialised-acted v m None = refl
initialised-acted v m (Some a) = refl

marshalled-acted : (s : Scenario) (v : Sight) (l : ℕ) (m : MarshalMode) (held : Option RefValue) (hr : Option HResult) → OfAction Common (marshalled s v l m held hr)
marshalled-acted s v l m held (Some hr) = tt
marshalled-acted s v l m None None = tt
marshalled-acted s v l m (Some r) None = tt

registered-acted : (v : Sight) (held : Option RefValue) (hr : Option HResult) → OfAction Common (registered v held hr)
registered-acted v held (Some hr) = tt
registered-acted v held None = tt

unmarshalled-acted : (v : Sight) (l : ℕ) (n : Named) → OfAction Common (unmarshalled v l n)
unmarshalled-acted v l (NamesPacket p) = tt
unmarshalled-acted v l (Refuses hr) = tt

dropped-acted : (n : Named) → OfAction Common (dropped n)
dropped-acted (NamesPacket p) = tt
dropped-acted (Refuses hr) = tt

got_with-acted : (v : Sight) (l : ℕ) (g : ℤ) (k : Cookie) (b : Bool) → OfAction Common (cond b (deed.Get g (Some (reference k.object k.iface)) (gained_refs marshal.Strong (owned_by v l k.object) 0) S_OK) (deed.Get g None 0 CO_E_OBJNOTCONNECTED))
got_with-acted v l g k true = tt
got_with-acted v l g k false = tt

got_by-acted : (v : Sight) (l : ℕ) (g : ℤ) (k : Cookie) → OfAction Common (got_by v l g k)
got_by-acted v l g k = cond-of (OfAction Common) k.is_revoked (deed.Get g None 0 E_INVALIDARG) (got_with v l g k) tt (got_with-acted v l g k (v.books.live k.object))

got-acted : (v : Sight) (l : ℕ) (g : ℤ) (a : Option ℕ) → OfAction Common (got v l g a)
got-acted v l g None = tt
got-acted v l g (Some a) = got_by-acted v l g (cookie v.books (cookie_number g))

revoked-acted : (v : Sight) (g : ℤ) (a : Option ℕ) → OfAction Common (revoked v g a)
revoked-acted v g None = tt
revoked-acted v g (Some a) = tt

called-acted : (s : Scenario) (v : Sight) (l : ℕ) (held : Option RefValue) (i m : ℕ) (args : List Value) (hr : Option HResult) → OfAction Calling (called s v l held i m args hr)
called-acted s v l held i m args (Some hr) = refl
called-acted s v l held i m args None = refl

left-acted : (s : Scenario) (v : Sight) (l c : ℕ) (i : Option Issue) (hr : HResult) (x : Option Value) → OfAction Common (left_as s v l c i hr x)
left-acted s v l c None hr x = tt
left-acted s v l c (Some i) hr x = tt

left_by-acted : (s : Scenario) (v : Sight) (l : ℕ) (hr : HResult) (x : Option Value) (r : Option ℕ) → OfAction Common (left_by s v l hr x r)
left_by-acted s v l hr x None = tt
left_by-acted s v l hr x (Some c) = left-acted s v l c (v.issue c) hr x

pub deed-acted : (s : Scenario) (v : Sight) (l : ℕ) (a : Action) → OfAction (action_sort a) (deed_of s v l a)
deed-acted s v l (action.Create slot k i) = created-acted s v l k i (v.home l)
deed-acted s v l (action.Query to held i) = tt
deed-acted s v l (action.Copy to held) = tt
deed-acted s v l (action.Release from held) = tt
deed-acted s v l (action.Call held i m args to) = called-acted s v l held i m args (call_refusal s (v.home l) (v.running l) v.owns v.books.live held i m)
deed-acted s v l (action.Marshal b held m) = marshalled-acted s v l m held (hold_refusal v (v.home l) held)
deed-acted s v l (action.Unmarshal slot b) = unmarshalled-acted v l (named_by s v (v.home l) (v.buffers b))
deed-acted s v l (action.Drop b) = dropped-acted (named_by s v (v.home l) (v.buffers b))
deed-acted s v l (action.Raw b bytes) = tt
deed-acted s v l (action.Register to held) = registered-acted v held (hold_refusal v (v.home l) held)
deed-acted s v l (action.Get slot g) = got-acted v l g (v.home l)
deed-acted s v l (action.Revoke g) = revoked-acted v g (v.home l)
deed-acted s v l (action.Disconnect held) = tt
deed-acted s v l (action.Post m w) = tt
deed-acted s v l (action.Quit m) = tt
deed-acted s v l (action.Leave hr x) = left_by-acted s v l hr x (running_call (v.openers l))
deed-acted s v l (action.Init m) = initialised-acted v m (v.home l)
deed-acted s v l action.Uninit = refl
deed-acted s v l (action.SetFilter f) = refl
deed-acted s v l (action.Pump n) = refl
