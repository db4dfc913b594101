-- The clock's entry of a core is that of what it keeps.
use Rattle.std.proofs.Common.{◌≡◌, ◌<◌, OnErr, OnOk, ap, subst}
use Rattle.std.specs.Arc.{arc_value}
use Rattle.com_model.specs.Ends.{limit}
use Rattle.com_runtime.specs.declared.runtime.Standing.TheVariants as standing
use Rattle.com_runtime.specs.Standings.{standing_of}
use Rattle.com_runtime.specs.Turns.{IsNext}
use Rattle.com_core.specs.Seen.{CoreValue, CoreView, Steps, TurnsTo, core_of, core_state}
use Rattle.com_core.proofs.Kept.{as_held, kept_after, next_after, same_core, steps_after, ties_held, turned_by, whole_held}
use Rattle.com_core.proofs.runtime.Core.let_tick.Goals as goal

pub tick-requires-clause-core : goal.tick-requires-clause-core
tick-requires-clause-core c = whole_held c.deref.result.now (arc_value c.self.inside.scenario) c.self.inside.running c.deref.ensures c.self.invariant.4

pub tick-requires-clause-ties : goal.tick-requires-clause-ties
tick-requires-clause-ties c = ties_held c.deref.result.now (arc_value c.self.inside.scenario) c.self.inside.running c.deref.ensures c.self.invariant.4

pub tick-requires-clause-room : goal.tick-requires-clause-room
tick-requires-clause-room c = as_held (λ s st. st.entries < limit s) c.deref.result.now (arc_value c.self.inside.scenario) c.self.inside.running _ c.deref.ensures (ap (λ (v : CoreValue). v.core) c.self.view_is) c.requires.room

pub tick-requires-clause-due : goal.tick-requires-clause-due
tick-requires-clause-due c = as_held (λ s st. standing_of s st ≡ standing.Ticks) c.deref.result.now (arc_value c.self.inside.scenario) c.self.inside.running _ c.deref.ensures (ap (λ (v : CoreValue). v.core) c.self.view_is) c.requires.due

pub returns-clause-next : goal.returns-clause-next
returns-clause-next c =
    let s = arc_value c.self.inside.scenario in
    let r = c.self.inside.running in
    let u = c.tick.new.self in
    let e = c.tick.new.entry in
    let turns : OnOk c.tick.result (TurnsTo s 0 r u e) = turned_by c.tick.result 0 c.deref.result.now s r u e c.deref.ensures c.tick.ensures.next in
    subst (λ (w : CoreView). OnOk c.tick.result (Steps 0 w (core_of s u) e)) (ap (λ (v : CoreValue). v.core) c.self.view_is) (steps_after c.tick.result 0 s r u e turns)

pub returns-clause-follows : goal.returns-clause-follows
returns-clause-follows c =
    let s = arc_value c.self.inside.scenario in
    let r = c.self.inside.running in
    let u = c.tick.new.self in
    let e = c.tick.new.entry in
    let turns : OnOk c.tick.result (TurnsTo s 0 r u e) = turned_by c.tick.result 0 c.deref.result.now s r u e c.deref.ensures c.tick.ensures.next in
    subst (λ (w : CoreView). OnOk c.tick.result (IsNext w.scenario (core_state w) 0 e (core_state (core_of s u)))) (ap (λ (v : CoreValue). v.core) c.self.view_is) (next_after c.tick.result 0 s r u e c.self.invariant.4 turns)

pub returns-clause-err : goal.returns-clause-err
returns-clause-err c =
    let s = arc_value c.self.inside.scenario in
    let r = c.self.inside.running in
    let u = c.tick.new.self in
    subst (λ (w : CoreView). OnErr c.tick.result (core_of s u ≡ w)) (ap (λ (v : CoreValue). v.core) c.self.view_is) (same_core c.tick.result s r u c.tick.ensures.err)

pub invariant_of-self : goal.invariant_of-self
invariant_of-self c =
    let s = arc_value c.self.inside.scenario in
    let r = c.self.inside.running in
    let u = c.tick.new.self in
    let e = c.tick.new.entry in
    let turns : OnOk c.tick.result (TurnsTo s 0 r u e) = turned_by c.tick.result 0 c.deref.result.now s r u e c.deref.ensures c.tick.ensures.next in
    (c.tick.ensures.sound, c.tick.ensures.few, c.self.invariant.2, c.self.invariant.3, kept_after c.tick.result 0 s r u e c.self.invariant.4 turns c.tick.ensures.err)
