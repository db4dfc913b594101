-- The entry of a lane in which no body acts is that of what the core keeps.
use Rattle.std.proofs.Common.{◌≡◌, ◌≤◌, ◌<◌, OnErr, OnOk, ap, subst}
use Rattle.std.specs.Arc.{arc_value}
use Rattle.com_model.specs.Ends.{limit}
use Rattle.com_model.specs.Tables.{lanes}
use Rattle.com_runtime.specs.Turns.{IsNext}
use Rattle.com_runtime.specs.declared.jobs.Next.TheVariants as next
use Rattle.com_runtime.specs.Jobs.{next_in}
use Rattle.com_core.specs.Seen.{CoreValue, CoreView, Steps, TurnsTo, core_of, core_state}
use Rattle.com_core.proofs.Kept.{as_held, kept_after, next_after, same_core, steps_after, ties_held, turned_by, whole_held}
use Rattle.com_core.proofs.Worked.{own_can, own_read}
use Rattle.com_core.proofs.runtime.Core.advance_lane.Goals as goal

pub advance-requires-clause-core : goal.advance-requires-clause-core
advance-requires-clause-core c = whole_held c.deref.result.now (arc_value c.self.inside.scenario) c.self.inside.running c.deref.ensures c.self.invariant.4

pub advance-requires-clause-ties : goal.advance-requires-clause-ties
advance-requires-clause-ties c = ties_held c.deref.result.now (arc_value c.self.inside.scenario) c.self.inside.running c.deref.ensures c.self.invariant.4

pub advance-requires-clause-room : goal.advance-requires-clause-room
advance-requires-clause-room c = as_held (λ s st. st.entries < limit s) c.deref.result.now (arc_value c.self.inside.scenario) c.self.inside.running _ c.deref.ensures (ap (λ (v : CoreValue). v.core) c.self.view_is) c.requires.room

pub advance-requires-clause-below : goal.advance-requires-clause-below
advance-requires-clause-below c = as_held (λ s st. c.args.lane ≤ lanes s) c.deref.result.now (arc_value c.self.inside.scenario) c.self.inside.running _ c.deref.ensures (ap (λ (v : CoreValue). v.core) c.self.view_is) c.requires.below

pub advance-requires-clause-can : goal.advance-requires-clause-can
advance-requires-clause-can c =
    let own = as_held (λ s st. next_in s st c.args.lane ≡ next.Own) c.deref.result.now (arc_value c.self.inside.scenario) c.self.inside.running _ c.deref.ensures (ap (λ (v : CoreValue). v.core) c.self.view_is) c.requires.own in
    own_can c.deref.result.now c.self.inside.running c.args.lane own

pub advance-requires-clause-body : goal.advance-requires-clause-body
advance-requires-clause-body c =
    let own = as_held (λ s st. next_in s st c.args.lane ≡ next.Own) c.deref.result.now (arc_value c.self.inside.scenario) c.self.inside.running _ c.deref.ensures (ap (λ (v : CoreValue). v.core) c.self.view_is) c.requires.own in
    own_read c.deref.result.now c.self.inside.running c.args.lane own

pub returns-clause-next : goal.returns-clause-next
returns-clause-next c =
    let s = arc_value c.self.inside.scenario in
    let r = c.self.inside.running in
    let u = c.advance.new.self in
    let e = c.advance.new.entry in
    let turns : OnOk c.advance.result (TurnsTo s c.args.lane r u e) = turned_by c.advance.result c.args.lane c.deref.result.now s r u e c.deref.ensures c.advance.ensures.next in
    subst (λ (w : CoreView). OnOk c.advance.result (Steps c.args.lane w (core_of s u) e)) (ap (λ (v : CoreValue). v.core) c.self.view_is) (steps_after c.advance.result c.args.lane s r u e turns)

pub returns-clause-follows : goal.returns-clause-follows
returns-clause-follows c =
    let s = arc_value c.self.inside.scenario in
    let r = c.self.inside.running in
    let u = c.advance.new.self in
    let e = c.advance.new.entry in
    let turns : OnOk c.advance.result (TurnsTo s c.args.lane r u e) = turned_by c.advance.result c.args.lane c.deref.result.now s r u e c.deref.ensures c.advance.ensures.next in
    subst (λ (w : CoreView). OnOk c.advance.result (IsNext w.scenario (core_state w) c.args.lane e (core_state (core_of s u)))) (ap (λ (v : CoreValue). v.core) c.self.view_is) (next_after c.advance.result c.args.lane s r u e c.self.invariant.4 turns)

pub returns-clause-err : goal.returns-clause-err
returns-clause-err c =
    let s = arc_value c.self.inside.scenario in
    let r = c.self.inside.running in
    let u = c.advance.new.self in
    subst (λ (w : CoreView). OnErr c.advance.result (core_of s u ≡ w)) (ap (λ (v : CoreValue). v.core) c.self.view_is) (same_core c.advance.result s r u c.advance.ensures.err)

pub invariant_of-self : goal.invariant_of-self
invariant_of-self c =
    let s = arc_value c.self.inside.scenario in
    let r = c.self.inside.running in
    let u = c.advance.new.self in
    let e = c.advance.new.entry in
    let turns : OnOk c.advance.result (TurnsTo s c.args.lane r u e) = turned_by c.advance.result c.args.lane c.deref.result.now s r u e c.deref.ensures c.advance.ensures.next in
    (c.advance.ensures.sound, c.advance.ensures.few, c.self.invariant.2, c.self.invariant.3, kept_after c.advance.result c.args.lane s r u e c.self.invariant.4 turns c.advance.ensures.err)
