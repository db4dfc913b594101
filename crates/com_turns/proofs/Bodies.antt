-- The step of a body by its servant, and that of a script.
use Rattle.std.proofs.Common.{◌≡◌, ℕ, zero, suc, ◌-◌, List, Option, Some, slice_get, slice_index, slice_set, [], None, refl, ap, sym, subst, ◌∙◌, arith}
use Rattle.std.proofs.lemmas.Option.{get_or_from_slice_get}
use Rattle.com_body.specs.declared.frame.Cells.{Cells}
use Rattle.com_body.specs.declared.frame.Job.{Job}
use Rattle.com_body.specs.declared.frame.Native.{Native}
use Rattle.com_body.specs.declared.statements.Stmt.{Stmt}
use Rattle.com_body.specs.BodySteps.{body_step}
use Rattle.com_body.specs.Frames.{FrameView}
use Rattle.com_body.specs.Operands.{new_cells}
use Rattle.com_model.specs.declared.keeps.Issue.{Issue}
use Rattle.com_model.specs.declared.scenario.Scenario.{Scenario}
use Rattle.com_model.specs.Frames.{issued_body}
use Rattle.com_model.specs.Tables.{script}
use Rattle.com_servant.specs.Rows.{index_of, one_more, one_served}
use Rattle.com_runtime.specs.Jobs.{job_by}
use Rattle.com_servant.specs.Steps.{job_step, native_at}
use Rattle.com_state.specs.Parts.{class_at, issue_at}
use Rattle.com_state.specs.SceneParts.{body_at, cells_at, script_at}
use Rattle.com_view.specs.Seen.{Seen}
use Rattle.com_turns.specs.Turns.{body_seen, script_seen}
use Rattle.com_turns.specs.Work.{work_seen}

-- A job that is the work of a body has its kind, and its step is that of the body.
by-kind : (n : ℕ) (k : Option Native) (i : Option Issue) (f : FrameView) (c : Cells) (job : Job) → job_by n k i f c ≡ Some job → k ≡ Some job.kind
by-kind n None i f c job e = absurd cc
by-kind n (Some k) None f c job e = absurd cc
by-kind n (Some k) (Some i) f c job e = cc

pub job_kind : (w : Seen) (c o : ℕ) (job : Job) → work_seen w c o ≡ Some job → native_at w.scenario.classes (class_at w.objects o) ≡ Some job.kind
job_kind w c o job e = by-kind (class_at w.objects o) (native_at w.scenario.classes (class_at w.objects o)) (issue_at w.calls.tables c) (body_at w.scene c) (cells_at w.scene o) job e

by-step : (s : Scenario) (n : ℕ) (k : Option Native) (i : Option Issue) (f : FrameView) (c : Cells) (job : Job) → job_by n k i f c ≡ Some job → job_step s.classes job ≡ issued_body s n i f c
by-step s n None i f c job e = absurd cc
by-step s n (Some k) None f c job e = absurd cc
by-step s n (Some k) (Some i) f c job e =
    let P : Job → Type 0 = λ j. job_step s.classes j ≡ issued_body s n (Some i) f c in
    let same : record { kind = k; class = n; iface = i.iface; method = i.method; frame = f; cells = c } ≡ job = cc in
    subst P same refl

pub job_steps : (w : Seen) (c o : ℕ) (job : Job) → work_seen w c o ≡ Some job → job_step w.scenario.classes job ≡ body_seen w c o
job_steps w c o job e = by-step w.scenario (class_at w.objects o) (native_at w.scenario.classes (class_at w.objects o)) (issue_at w.calls.tables c) (body_at w.scene c) (cells_at w.scene o) job e

pub served_one : (k : Option Native) (n : Native) (steps : List ℕ) → k ≡ Some n
    → slice_set steps (index_of n) (one_more (slice_index steps (index_of n))) ≡ one_served k steps
served_one k n steps e = ap (λ (x : Option Native). one_served x steps) (sym e)

pub script_is : (s : Scenario) (l : ℕ) (body : List Stmt) → (l ≡ 0 → ⊥) → slice_get s.threads (l - 1) ≡ Some body → script s l ≡ body
script_is s zero body n e = absurd (n refl)
script_is s (suc l) body n e =
    let k : suc l - 1 ≡ l = omega arith in
    get_or_from_slice_get s.threads l body [] (ap (λ (i : ℕ). slice_get s.threads i) (sym k) ∙ e)

pub script_step : (w : Seen) (l : ℕ) (body : List Stmt) → script w.scenario l ≡ body → body_step body (script_at w.scene l) new_cells ≡ script_seen w l
script_step w l body e = ap (λ (ss : List Stmt). body_step ss (script_at w.scene l) new_cells) (sym e)
