-- While a call waits, its target stands in a slot of the frame below it.
use Rattle.std.proofs.Common.{subst, sym, ap, ◌∙◌, ◌⊎◌, inl, inr}
use Rattle.std.specs.Prelude.{◌≡◌, ℕ, Bool, cond, List, [], ◌∷◌, Option, Some, None, option_map}
use Rattle.com_base.specs.declared.value.RefValue.{RefValue}
use Rattle.com_base.specs.declared.value.Value.{Value}
use Rattle.com_body.specs.declared.operands.Destination.{Destination}
use Rattle.com_body.specs.declared.actions.Action.{Action}
use Rattle.com_body.specs.declared.actions.Action.TheVariants as action
use Rattle.com_body.specs.declared.frame.Outcome.{Outcome}
use Rattle.com_model.specs.declared.deeds.Deed.{Deed}
use Rattle.com_model.specs.declared.deeds.Deed.TheVariants as deed
use Rattle.com_model.specs.declared.deeds.Entry.{Entry}
use Rattle.com_model.specs.declared.deeds.Route.{Route}
use Rattle.com_model.specs.declared.deeds.Route.TheVariants as route
use Rattle.com_model.specs.declared.scenario.Scenario.{Scenario}
use Rattle.com_model.specs.Lists.{number_or_zero}
use Rattle.com_model.specs.Tables.{lane_sort}
use Rattle.com_model.specs.Openers.{Opens, effect, effect_on, openers}
use Rattle.com_model.specs.declared.keeps.Opener.{Opener}
use Rattle.com_model.specs.declared.keeps.Opener.TheVariants.{Waits}
use Rattle.com_model.specs.Calls.{issue, target, object_of, route_of}
use Rattle.com_model.specs.declared.keeps.Issue.{Issue}
use Rattle.com_model.specs.Frames.{scene, Actor, actor, actor_in, action_of, writes}
use Rattle.com_model.specs.Deeds.{route_to}
use Rattle.com_model.specs.Sight.{sight}
use Rattle.com_model.specs.Rules.{legal}
use Rattle.com_model.specs.Formed.{Formed}
use Rattle.com_laws_balance.proofs.Carries.{HeldBy}
use Rattle.com_laws_balance.proofs.Says.{OutSays, next-says}
use Rattle.com_laws_balance.proofs.Steps.{ActionOf, action-from, opens-own, same-number}
use Rattle.com_laws_balance.proofs.Arguments.{InSlots, slots_of, StillBy}
use Rattle.com_laws_balance.proofs.Directs.{Over, over-after, over-among, issue-stays, waits-issued, still-slots}
use Rattle.com_laws_release.proofs.Calling.{target-in}
use Rattle.com_laws_balance.proofs.Below.{below-stays}

-- A reference to the object in a slot of who stands above these openers.
pub record InFrame (s : Scenario) (h : List Entry) (l o : ℕ) (os : List Opener) : Type 0 where
  pub reference : RefValue
  pub is : reference.object ≡ o
  pub at : InSlots (slots_of (actor (lane_sort s l) l os) (scene s h)) reference

abbrev pub TargetAt : Scenario → List Entry → (lane call : ℕ) → List Opener → Type 0
TargetAt s h l c os = (route_of (issue h c) ≡ route.Refused) ⊎ InFrame s h l (target h c) os

target-kept : (s : Scenario) (h : List Entry) (e : Entry) (l c : ℕ) (os : List Opener) → Formed s → legal s (e ∷ h) → Over c os (openers h l) → Over c os (openers (e ∷ h) l) → TargetAt s h l c os → TargetAt s (e ∷ h) l c os
target-kept s h e l c os f q m n t =
    let same : issue (e ∷ h) c ≡ issue h c = issue-stays s h e c q (waits-issued s h l c q.0 (over-among c os (openers h l) m)).0 in
    elim t as (λ _. TargetAt s (e ∷ h) l c os) [
      | inl r ↦ inl (ap route_of same ∙ r)
      | inr r ↦ inr (record {
        reference = r.reference;
        is = r.is ∙ sym (ap object_of same);
        at = subst (λ (xs : List (Option RefValue)). InSlots xs r.reference) (sym (below-stays s h e l c os f q m n)) r.at;
      })
    ]

still-call : (x u : Actor) (r : Option Outcome) (held : Option RefValue) (i m : ℕ) (args : List Value) (to : Destination) (d : Deed) → action_of r ≡ Some (action.Call held i m args to) → StillBy x u r d
still-call x u r held i m args to d e =
    let z : ActionOf r (action.Call held i m args to) = action-from r (action.Call held i m args to) e in
    subst (λ (y : Option Outcome). StillBy x u y d) (sym z.is) (inr (ap (λ (y : Action). writes y d) z.action))

-- The reference of a call that has a route.
called-on : (s : Scenario) (h : List Entry) (l : ℕ) (t : Route) (o : Option ℕ) (held : Option RefValue) (P : RefValue → Type 0) → t ≡ route_to (sight s h) l held → o ≡ option_map (λ (x : RefValue). x.object) held → HeldBy P held → (t ≡ route.Refused) ⊎ ((r : RefValue) × (r.object ≡ number_or_zero o) × P r)
called-on s h l t o None P e p g = inl e
called-on s h l t o (Some r) P e p g = inr (r, ap number_or_zero (sym p), g)

target-out : (s : Scenario) (h : List Entry) (l k : ℕ) (u : Option ℕ) (i m : ℕ) (t : Route) (cause : ℕ) (bytes : Option (List ℕ)) (os : List Opener) → Formed s → legal s (record { lane = l; deed = deed.Out k u i m t cause bytes } ∷ h) → openers h l ≡ os → TargetAt s (record { lane = l; deed = deed.Out k u i m t cause bytes } ∷ h) l k os
target-out s h l k u i m t cause bytes os f q p =
    let d : Deed = deed.Out k u i m t cause bytes in
    let e : Entry = record { lane = l; deed = d } in
    let y : Issue = record { call = k; lane = l; object = u; iface = i; method = m; route = t; cause = cause } in
    let own : issue (e ∷ h) k ≡ Some y = ap (λ (b : Bool). cond b (Some y) (issue h k)) (same-number k) in
    let says : OutSays s (sight s h) l i m u t bytes = next-says s h l d q.1 in
    let a : Actor = actor_in s h l in
    let here : slots_of a (scene s h) ≡ slots_of (actor (lane_sort s l) l os) (scene s (e ∷ h)) =
    sym (still-slots s h e a f q (still-call a _ _ says.held i m says.args says.to d says.acts) tt) ∙ ap (λ (ys : List Opener). slots_of (actor (lane_sort s l) l ys) (scene s (e ∷ h))) p in
    elim says.homed as (λ _. TargetAt s (e ∷ h) l k os) [
      | inl r ↦ inl (ap route_of own ∙ r)
      | inr r ↦ elim (called-on s h l t u says.held (InSlots (slots_of a (scene s h))) r.1 says.object (target-in s h l says.held i m says.args says.to f q.0 says.acts)) as (λ _. TargetAt s (e ∷ h) l k os) [
        | inl z ↦ inl (ap route_of own ∙ z)
        | inr z ↦ inr (record { reference = z.0; is = z.1 ∙ sym (ap object_of own); at = subst (λ (xs : List (Option RefValue)). InSlots xs z.0) here z.2 })
      ]
    ]

target-new : (s : Scenario) (h : List Entry) (l c : ℕ) (d : Deed) (os : List Opener) → Formed s → legal s (record { lane = l; deed = d } ∷ h) → openers h l ≡ os → effect d ≡ Opens (Waits c) → TargetAt s (record { lane = l; deed = d } ∷ h) l c os
target-new s h l c (deed.Out k u i m t cause bytes) os f q p e =
    subst (λ (j : ℕ). TargetAt s (record { lane = l; deed = deed.Out k u i m t cause bytes } ∷ h) l j os) (same-call e) (target-out s h l k u i m t cause bytes os f q p)
  where
    same-call : Opens (Waits k) ≡ Opens (Waits c) → k ≡ c
    same-call e = cc
target-new s h l c (deed.Enter k x y t vs) os f q p e = cc
target-new s h l c (deed.Pump m) os f q p e = cc
target-new s h l c deed.EndPump os f q p e = cc
target-new s h l c (deed.Back k hr v) os f q p e = cc
target-new s h l c (deed.Leave k hr v bytes) os f q p e = cc
target-new s h l c _ os f q p e = cc

pub legal-target : (s : Scenario) (h : List Entry) (l c : ℕ) (os : List Opener) → Formed s → legal s h → Over c os (openers h l) → TargetAt s h l c os
legal-target s [] l c os f q m = absurd m
legal-target s (e ∷ h) l c os f q m =
    elim (over-after c os (effect_on l e) (openers h l) m) as (λ _. TargetAt s (e ∷ h) l c os) [
      | inl p ↦ target-kept s h e l c os f q p m (legal-target s h l c os f q.0 p)
      | inr p ↦ let y : (e.lane ≡ l) × (effect e.deed ≡ Opens (Waits c)) = opens-own l e (Waits c) p.0 in
          subst (λ (j : ℕ). openers h j ≡ os → TargetAt s (e ∷ h) j c os) y.0 (λ n. target-new s h e.lane c e.deed os f q n y.1) p.1
    ]
