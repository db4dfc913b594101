-- The job that is read from the parts is that of the core's state.
use Rattle.std.proofs.Common.{◌≡◌, IfOk, ap, subst}
use Rattle.std.specs.Prelude.{Some}
use Rattle.com_body.specs.declared.frame.Job.{Job}
use Rattle.com_model.specs.declared.scenario.Scenario.{Scenario}
use Rattle.com_servant.specs.Steps.{IsOfItsClass}
use Rattle.com_runtime.specs.declared.jobs.Next.TheVariants as next
use Rattle.com_runtime.specs.Jobs.{job_of, next_in}
use Rattle.std.specs.Arc.{arc_value}
use Rattle.com_core.specs.Seen.{CoreValue, CoreView, core_state, kept_of}
use Rattle.com_core.proofs.Kept.{whole_held}
use Rattle.com_core.proofs.Shown.{as_kept, as_shown}
use Rattle.com_core.proofs.Worked.{body_read}
use Rattle.com_core.proofs.runtime.Core.job.Goals as goal

pub job-requires-clause-core : goal.job-requires-clause-core
job-requires-clause-core c = whole_held c.deref.result.now (arc_value c.self.inside.scenario) c.self.inside.running c.deref.ensures c.self.invariant.4

pub job-requires-clause-body : goal.job-requires-clause-body
job-requires-clause-body c =
    let s = arc_value c.self.inside.scenario in
    body_read s c.self.inside.running c.args.lane
    (as_kept (λ s st. next_in s st c.args.lane ≡ next.Body) s c.self.inside.running _ (ap (λ (v : CoreValue). v.core) c.self.view_is) c.requires.body)

pub returns-clause-job : goal.returns-clause-job
returns-clause-job c =
    let r = c.self.inside.running in
    let l = c.args.lane in
    as_shown (λ s st. IfOk c.job.result (λ (x : Job). job_of s st l ≡ Some x)) (arc_value c.self.inside.scenario) r _ (ap (λ (v : CoreValue). v.core) c.self.view_is)
    (subst (λ (s : Scenario). IfOk c.job.result (λ (x : Job). job_of s (core_state (kept_of s r)) l ≡ Some x)) c.deref.ensures c.job.ensures.job)

pub returns-clause-class : goal.returns-clause-class
returns-clause-class c =
    subst (λ (w : CoreView). IfOk c.job.result (λ (x : Job). IsOfItsClass w.scenario.classes x)) (ap (λ (v : CoreValue). v.core) c.self.view_is)
    (subst (λ (s : Scenario). IfOk c.job.result (λ (x : Job). IsOfItsClass s.classes x)) c.deref.ensures c.job.ensures.class)
