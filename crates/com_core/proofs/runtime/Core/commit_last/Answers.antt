-- A commit of a core is that of what it keeps.
use Rattle.std.proofs.Common.{◌≡◌, ◌≤◌, ◌<◌, OnErr, OnOk, ap, subst, sym}
use Rattle.std.specs.Arc.{arc_value}
use Rattle.std.specs.Prelude.{IfErr}
use Rattle.com_model.specs.declared.scenario.Scenario.{Scenario}
use Rattle.com_model.specs.Ends.{limit}
use Rattle.com_model.specs.Tables.{lanes}
use Rattle.com_runtime.specs.Turns.{IsNext}
use Rattle.com_runtime.specs.Jobs.{Fits, IsRefused, kept_in}
use Rattle.com_servant.specs.Steps.{job_step}
use Rattle.com_model.specs.State.{State}
use Rattle.com_core.specs.Seen.{CoreValue, CoreView, Steps, TurnsTo, core_of, core_state, kept_of}
use Rattle.com_core.proofs.Kept.{as_held, kept_after, next_after, same_core, steps_after, ties_held, turned_by, whole_held}
use Rattle.com_core.proofs.Shown.{as_kept, as_shown, state_shown}
use Rattle.com_core.proofs.runtime.Core.commit_last.Goals as goal

pub commit-requires-clause-core : goal.commit-requires-clause-core
commit-requires-clause-core c = whole_held c.deref.result.now (arc_value c.self.inside.scenario) c.self.inside.running c.deref.ensures c.self.invariant.4

pub commit-requires-clause-ties : goal.commit-requires-clause-ties
commit-requires-clause-ties c = ties_held c.deref.result.now (arc_value c.self.inside.scenario) c.self.inside.running c.deref.ensures c.self.invariant.4

pub commit-requires-clause-room : goal.commit-requires-clause-room
commit-requires-clause-room c = as_held (λ s st. st.entries < limit s) c.deref.result.now (arc_value c.self.inside.scenario) c.self.inside.running _ c.deref.ensures (ap (λ (v : CoreValue). v.core) c.self.view_is) c.requires.room

pub commit-requires-clause-below : goal.commit-requires-clause-below
commit-requires-clause-below c = as_held (λ s st. c.args.lane ≤ lanes s) c.deref.result.now (arc_value c.self.inside.scenario) c.self.inside.running _ c.deref.ensures (ap (λ (v : CoreValue). v.core) c.self.view_is) c.requires.below

pub commit-requires-clause-fits : goal.commit-requires-clause-fits
commit-requires-clause-fits c =
    let r = c.self.inside.running in
    let l = c.args.lane in
    subst (λ (s : Scenario). Fits s (core_state (kept_of s r)) l c.args.job) (sym c.deref.ensures)
    (as_kept (λ s st. Fits s st l c.args.job) (arc_value c.self.inside.scenario) r _ (ap (λ (v : CoreValue). v.core) c.self.view_is) c.requires.fits)

pub commit-requires-clause-outcome : goal.commit-requires-clause-outcome
commit-requires-clause-outcome c =
    subst (λ (s : Scenario). c.args.outcome ≡ job_step s.classes c.args.job) (sym c.deref.ensures)
    (subst (λ (w : CoreView). c.args.outcome ≡ job_step w.scenario.classes c.args.job) (sym (ap (λ (v : CoreValue). v.core) c.self.view_is)) c.requires.outcome)

pub returns-clause-fresh : goal.returns-clause-fresh
returns-clause-fresh c =
    let r = c.self.inside.running in
    let l = c.args.lane in
    as_shown (λ s st. OnOk c.commit.result (c.args.job.cells ≡ kept_in st l)) (arc_value c.self.inside.scenario) r _ (ap (λ (v : CoreValue). v.core) c.self.view_is)
    (subst (λ (s : Scenario). OnOk c.commit.result (c.args.job.cells ≡ kept_in (core_state (kept_of s r)) l)) c.deref.ensures c.commit.ensures.fresh)

pub returns-clause-refused : goal.returns-clause-refused
returns-clause-refused c =
    let r = c.self.inside.running in
    let l = c.args.lane in
    let u = c.commit.new.self in
    let s = arc_value c.self.inside.scenario in
    let refused : IfErr c.commit.result (IsRefused (kept_in (core_state (kept_of s r)) l) c.args.job) =
    subst (λ (s : Scenario). IfErr c.commit.result (IsRefused (kept_in (core_state (kept_of s r)) l) c.args.job)) c.deref.ensures c.commit.ensures.refused in
    subst (λ (w : CoreView). IfErr c.commit.result (IsRefused (kept_in (core_state w) l) c.args.job)) (ap (λ (v : CoreValue). v.core) c.self.view_is)
    (subst (λ (st : State). IfErr c.commit.result (IsRefused (kept_in st l) c.args.job)) (sym (state_shown (kept_of s r))) refused)

pub returns-clause-next : goal.returns-clause-next
returns-clause-next c =
    let s = arc_value c.self.inside.scenario in
    let r = c.self.inside.running in
    let u = c.commit.new.self in
    let e = c.commit.new.entry in
    let turns : OnOk c.commit.result (TurnsTo s c.args.lane r u e) = turned_by c.commit.result c.args.lane c.deref.result.now s r u e c.deref.ensures c.commit.ensures.next in
    subst (λ (w : CoreView). OnOk c.commit.result (Steps c.args.lane w (core_of s u) e)) (ap (λ (v : CoreValue). v.core) c.self.view_is) (steps_after c.commit.result c.args.lane s r u e turns)

pub returns-clause-follows : goal.returns-clause-follows
returns-clause-follows c =
    let s = arc_value c.self.inside.scenario in
    let r = c.self.inside.running in
    let u = c.commit.new.self in
    let e = c.commit.new.entry in
    let turns : OnOk c.commit.result (TurnsTo s c.args.lane r u e) = turned_by c.commit.result c.args.lane c.deref.result.now s r u e c.deref.ensures c.commit.ensures.next in
    subst (λ (w : CoreView). OnOk c.commit.result (IsNext w.scenario (core_state w) c.args.lane e (core_state (core_of s u)))) (ap (λ (v : CoreValue). v.core) c.self.view_is) (next_after c.commit.result c.args.lane s r u e c.self.invariant.4 turns)

pub returns-clause-err : goal.returns-clause-err
returns-clause-err c =
    let s = arc_value c.self.inside.scenario in
    let r = c.self.inside.running in
    let u = c.commit.new.self in
    subst (λ (w : CoreView). OnErr c.commit.result (core_of s u ≡ w)) (ap (λ (v : CoreValue). v.core) c.self.view_is) (same_core c.commit.result s r u c.commit.ensures.err)

pub invariant_of-self : goal.invariant_of-self
invariant_of-self c =
    let s = arc_value c.self.inside.scenario in
    let r = c.self.inside.running in
    let u = c.commit.new.self in
    let e = c.commit.new.entry in
    let turns : OnOk c.commit.result (TurnsTo s c.args.lane r u e) = turned_by c.commit.result c.args.lane c.deref.result.now s r u e c.deref.ensures c.commit.ensures.next in
    (c.commit.ensures.sound, c.commit.ensures.few, c.self.invariant.2, c.self.invariant.3, kept_after c.commit.result c.args.lane s r u e c.self.invariant.4 turns c.commit.ensures.err)
