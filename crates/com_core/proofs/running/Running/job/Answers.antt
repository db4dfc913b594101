-- The job that is read from the parts is that of their state.
use Rattle.std.proofs.Common.{◌≡◌, Some, ap, subst, sym, ◌∙◌}
use Rattle.std.proofs.lemmas.Result.{IfOk-weaker}
use Rattle.com_body.specs.declared.frame.Job.{Job}
use Rattle.com_model.specs.declared.keeps.Opener.{Opener}
use Rattle.com_model.specs.declared.keeps.Opener.TheVariants.{Enters}
use Rattle.com_model.specs.Lists.{first}
use Rattle.com_state.specs.Parts.{openers_at}
use Rattle.com_view.specs.Seen.{Seen}
use Rattle.com_refs_rows.specs.Books.{books_held}
use Rattle.com_runtime.specs.Jobs.{job_of}
use Rattle.com_turns.specs.Work.{HasWork, work_seen}
use Rattle.com_core.specs.Seen.{kept_of, core_state}
use Rattle.com_core.specs.Stands.{seen_by, state_read}
use Rattle.com_core.proofs.OpenWork.{works_seen}
use Rattle.com_core.proofs.Worked.{job_read}
use Rattle.com_core.proofs.running.Running.job.Goals as goal

pub returns-clause-job : goal.returns-clause-job
returns-clause-job c =
    let s = c.args.scenario.now in
    let r = c.args.self.now in
    let l = c.args.lane in
    let x = c.in-Some-Enters in
    let w : c.view-view.result ≡ seen_by s r.parts r.fallen.objects r.clock = c.view-view.ensures.value in
    let top : Some (Enters x.call x.object x.field-0-2) ≡ first (openers_at r.parts.lanes l) =
    sym (ap (λ (o : Opener). Some o) x.field-0-is) ∙ sym x.is ∙ c.top.ensures ∙ ap (λ (v : Seen). first (openers_at v.lanes l)) (c.view.view_is ∙ w) in
    IfOk-weaker c.work_of.result _ (λ (j : Job). job_of s (core_state (kept_of s r)) l ≡ Some j)
    (λ j e. job_read s r l x.call x.object x.field-0-2 (Some j) top (subst (λ (v : Seen). work_seen v x.call x.object ≡ Some j) w e)) c.work_of.ensures.job

pub work_of-requires-clause-work : goal.work_of-requires-clause-work
work_of-requires-clause-work c =
    let s = c.args.scenario.now in
    let r = c.args.self.now in
    let b = books_held r.ledger in
    let l = c.args.lane in
    let x = c.in-Some-Enters in
    let w : c.view-view.result ≡ seen_by s r.parts r.fallen.objects r.clock = c.view-view.ensures.value in
    let top : Some (Enters x.call x.object x.field-0-2) ≡ first (openers_at r.parts.lanes l) =
    sym (ap (λ (o : Opener). Some o) x.field-0-is) ∙ sym x.is ∙ c.top.ensures ∙ ap (λ (v : Seen). first (openers_at v.lanes l)) (c.view.view_is ∙ w) in
    subst (λ (v : Seen). HasWork v x.call x.object) (sym w)
    (works_seen s (state_read s r.parts b r.fallen.objects r.clock) r.parts b r.fallen.objects r.clock c.requires.core.reached c.requires.core.stands l x.call x.object x.field-0-2 (sym top))
