-- A lane is tried in what the core keeps.
use Rattle.std.proofs.Common.{◌≡◌, ◌≤◌, ◌<◌, IfOk, OnErr, ap, refl, subst}
use Rattle.std.specs.Arc.{arc_value}
use Rattle.std.specs.Prelude.{Bool, true, false}
use Rattle.com_model.specs.declared.scenario.Scenario.{Scenario}
use Rattle.com_model.specs.Ends.{limit}
use Rattle.com_model.specs.Tables.{lanes}
use Rattle.com_runtime.specs.Standings.{can_step_in}
use Rattle.com_core.specs.Seen.{CoreValue, CoreView, Steps, TriesTo, core_of, core_state, kept_of}
use Rattle.com_core.proofs.Kept.{as_held, same_core, ties_held, whole_held}
use Rattle.com_core.proofs.Shown.{as_shown}
use Rattle.com_core.proofs.Tried.{kept_tried, rests_tried, steps_tried, tried_core}
use Rattle.com_core.proofs.runtime.Core.try_lane.Goals as goal

pub step-requires-clause-core : goal.step-requires-clause-core
step-requires-clause-core g c = whole_held c.deref.result.now (arc_value c.self.inside.scenario) c.self.inside.running c.deref.ensures c.self.invariant.4

pub step-requires-clause-ties : goal.step-requires-clause-ties
step-requires-clause-ties g c = ties_held c.deref.result.now (arc_value c.self.inside.scenario) c.self.inside.running c.deref.ensures c.self.invariant.4

pub step-requires-clause-room : goal.step-requires-clause-room
step-requires-clause-room g c = as_held (λ s st. st.entries < limit s) c.deref.result.now (arc_value c.self.inside.scenario) c.self.inside.running _ c.deref.ensures (ap (λ (v : CoreValue). v.core) c.self.view_is) c.requires.room

pub step-requires-clause-below : goal.step-requires-clause-below
step-requires-clause-below g c = as_held (λ s st. c.args.lane ≤ lanes s) c.deref.result.now (arc_value c.self.inside.scenario) c.self.inside.running _ c.deref.ensures (ap (λ (v : CoreValue). v.core) c.self.view_is) c.requires.below

pub returns-clause-can : goal.returns-clause-can
returns-clause-can g c =
    let s = arc_value c.self.inside.scenario in
    let r = c.self.inside.running in
    as_shown (λ k st. IfOk c.step.result (λ (b : Bool). b ≡ can_step_in k st c.args.lane)) s r _ (ap (λ (v : CoreValue). v.core) c.self.view_is)
    (subst (λ (k : Scenario). IfOk c.step.result (λ (b : Bool). b ≡ can_step_in k (core_state (kept_of k r)) c.args.lane)) c.deref.ensures c.step.ensures.can)

pub returns-clause-next : goal.returns-clause-next
returns-clause-next g c =
    let s = arc_value c.self.inside.scenario in
    let r = c.self.inside.running in
    let u = c.step.new.self in
    let e = c.step.new.entry in
    let l = c.args.lane in
    let tries : IfOk c.step.result (λ (b : Bool). TriesTo s l b r u e) = subst (λ (k : Scenario). IfOk c.step.result (λ (b : Bool). TriesTo k l b r u e)) c.deref.ensures c.step.ensures.next in
    subst (λ (w : CoreView). IfOk c.step.result (λ (b : Bool). b ≡ true → Steps l w (core_of s u) e)) (ap (λ (v : CoreValue). v.core) c.self.view_is) (steps_tried c.step.result l s r u e tries)

pub returns-clause-rest : goal.returns-clause-rest
returns-clause-rest g c =
    let s = arc_value c.self.inside.scenario in
    let r = c.self.inside.running in
    let u = c.step.new.self in
    let e = c.step.new.entry in
    let l = c.args.lane in
    let tries : IfOk c.step.result (λ (b : Bool). TriesTo s l b r u e) = subst (λ (k : Scenario). IfOk c.step.result (λ (b : Bool). TriesTo k l b r u e)) c.deref.ensures c.step.ensures.next in
    subst (λ (w : CoreView). IfOk c.step.result (λ (b : Bool). b ≡ false → core_of s u ≡ w)) (ap (λ (v : CoreValue). v.core) c.self.view_is) (rests_tried c.step.result l s r u e tries)

pub returns-clause-tried : goal.returns-clause-tried
returns-clause-tried g c =
    let s = arc_value c.self.inside.scenario in
    let r = c.self.inside.running in
    let u = c.step.new.self in
    let e = c.step.new.entry in
    let l = c.args.lane in
    let tries : IfOk c.step.result (λ (b : Bool). TriesTo s l b r u e) = subst (λ (k : Scenario). IfOk c.step.result (λ (b : Bool). TriesTo k l b r u e)) c.deref.ensures c.step.ensures.next in
    let can : IfOk c.step.result (λ (b : Bool). b ≡ can_step_in s (core_state (core_of s r)) l) =
    as_shown (λ k st. IfOk c.step.result (λ (b : Bool). b ≡ can_step_in k st l)) s r (core_of s r) refl
    (subst (λ (k : Scenario). IfOk c.step.result (λ (b : Bool). b ≡ can_step_in k (core_state (kept_of k r)) l)) c.deref.ensures c.step.ensures.can) in
    tried_core c.step.result l c.deref.result.now s r u c.args.self.now.core e _ _ c.deref.ensures (ap (λ (v : CoreValue). v.core) c.self.view_is) c.self.invariant.4 c.requires.above tries can c.step.ensures.served

pub returns-clause-err : goal.returns-clause-err
returns-clause-err g c =
    let s = arc_value c.self.inside.scenario in
    let r = c.self.inside.running in
    let u = c.step.new.self in
    subst (λ (w : CoreView). OnErr c.step.result (core_of s u ≡ w)) (ap (λ (v : CoreValue). v.core) c.self.view_is) (same_core c.step.result s r u c.step.ensures.err)

pub invariant_of-self : goal.invariant_of-self
invariant_of-self g c =
    let s = arc_value c.self.inside.scenario in
    let r = c.self.inside.running in
    let u = c.step.new.self in
    let e = c.step.new.entry in
    let l = c.args.lane in
    let tries : IfOk c.step.result (λ (b : Bool). TriesTo s l b r u e) = subst (λ (k : Scenario). IfOk c.step.result (λ (b : Bool). TriesTo k l b r u e)) c.deref.ensures c.step.ensures.next in
    (c.step.ensures.sound, c.step.ensures.few, c.self.invariant.2, c.self.invariant.3, kept_tried c.step.result l s r u e c.self.invariant.4 tries c.step.ensures.err)
