-- Jobs that are read from the parts are those of the state.
use Rattle.std.proofs.Common.{◌≡◌, ℕ, refl, sym, ap, subst, ◌∙◌}
use Rattle.std.specs.Prelude.{◌↔◌, Bool, true, false, IsTrue, Option, Some, None, slice_index_or}
use Rattle.com_body.specs.declared.frame.Cells.{Cells}
use Rattle.com_body.specs.declared.frame.Job.{Job}
use Rattle.com_body.specs.declared.frame.Native.{Native}
use Rattle.com_body.specs.declared.frame.Outcome.{Outcome}
use Rattle.com_body.specs.Frames.{FrameView}
use Rattle.com_model.specs.declared.keeps.Issue.{Issue}
use Rattle.com_model.specs.declared.keeps.Opener.{Opener}
use Rattle.com_model.specs.declared.keeps.Opener.TheVariants.{Pumps, Waits, Enters}
use Rattle.com_model.specs.declared.scenario.Scenario.{Scenario}
use Rattle.com_model.specs.Lists.{first}
use Rattle.com_model.specs.Openers.{is_body}
use Rattle.com_scene.specs.Kept.{HasSlots}
use Rattle.com_servant.specs.Steps.{job_step, native_at}
use Rattle.com_state.specs.Parts.{class_at, issue_at, openers_at}
use Rattle.com_state.specs.SceneParts.{body_at, cells_at}
use Rattle.com_runtime.specs.Standings.{can_step_in}
use Rattle.com_runtime.specs.declared.jobs.Next.TheVariants as next
use Rattle.com_runtime.specs.Jobs.{Fits, job_above, job_by, job_of, kept_above, kept_in, next_by, next_in}
use Rattle.com_runtime.proofs.Taken.{fitting-job}
use Rattle.com_turns.specs.Turns.{body_seen}
use Rattle.com_turns.proofs.Bodies.{job_steps}
use Rattle.com_turns.proofs.Whole.{job_whole}
use Rattle.com_view.specs.Seen.{Seen}
use Rattle.com_turns.specs.Work.{IsWork, work_seen}
use Rattle.com_core.specs.declared.running.Running.{Running}
use Rattle.com_core.specs.Nexts.{FitsTop, kept_top}
use Rattle.com_core.specs.Seen.{core_state, kept_of}
use Rattle.com_core.specs.Stands.{seen_by}

-- The innermost opener of a lane, by the parts as by the state.
pub job_read : (s : Scenario) (r : Running) (l c o a : ℕ) (x : Option Job) → Some (Enters c o a) ≡ first (openers_at r.parts.lanes l)
    → work_seen (seen_by s r.parts r.fallen.objects r.clock) c o ≡ x → job_of s (core_state (kept_of s r)) l ≡ x
unfolding job_of
job_read s r l c o a x e w = sym (ap (λ (t : Option Opener). job_above s (core_state (kept_of s r)) t) e) ∙ w

pub kept_read : (s : Scenario) (r : Running) (l c o a : ℕ) → Some (Enters c o a) ≡ first (openers_at r.parts.lanes l)
    → cells_at r.parts.scene o ≡ kept_in (core_state (kept_of s r)) l
unfolding kept_in
kept_read s r l c o a e = ap (λ (t : Option Opener). kept_above (core_state (kept_of s r)) t) e

kept-tops : (s : Scenario) (r : Running) (t : Option Opener) → kept_top r.parts.scene t ≡ kept_above (core_state (kept_of s r)) t
kept-tops s r None = refl
kept-tops s r (Some (Pumps n)) = refl
kept-tops s r (Some (Waits c)) = refl
kept-tops s r (Some (Enters c o a)) = refl

pub kept_same : (s : Scenario) (r : Running) (l : ℕ) → kept_top r.parts.scene (first (openers_at r.parts.lanes l)) ≡ kept_in (core_state (kept_of s r)) l
unfolding kept_in
kept_same s r l = kept-tops s r (first (openers_at r.parts.lanes l))

-- ---- the innermost opener

data Top (t : Option Opener) : Type 0 where
  top : (c o a : ℕ) → Some (Enters c o a) ≡ t → Top t

enter-top : (t : Option Opener) → is_body t ≡ true → Top t
enter-top None e = absurd cc
enter-top (Some (Pumps n)) e = absurd cc
enter-top (Some (Waits c)) e = absurd cc
enter-top (Some (Enters c o a)) e = top c o a refl

body-enters : (b can over : Bool) → next_by b can over ≡ next.Body → b ≡ true
body-enters true can over e = refl
body-enters false true over e = absurd cc
body-enters false false true e = absurd cc
body-enters false false false e = absurd cc

own-enters : (b can over : Bool) → next_by b can over ≡ next.Own → b ≡ false
own-enters true can over e = absurd cc
own-enters false can over e = refl

own-goes : (b can over : Bool) → next_by b can over ≡ next.Own → can ≡ true
own-goes true can over e = absurd cc
own-goes false true over e = refl
own-goes false false true e = absurd cc
own-goes false false false e = absurd cc

body-top : (s : Scenario) (r : Running) (l : ℕ) → next_in s (core_state (kept_of s r)) l ≡ next.Body → Top (first (openers_at r.parts.lanes l))
unfolding next_in
body-top s r l e =
    enter-top (first (openers_at r.parts.lanes l))
    (body-enters (is_body (first (openers_at r.parts.lanes l))) (can_step_in s (core_state (kept_of s r)) l) (slice_index_or (core_state (kept_of s r)).over l false) e)

-- Where a body's entry is next, a body is innermost.
pub body_read : (s : Scenario) (r : Running) (l : ℕ) → next_in s (core_state (kept_of s r)) l ≡ next.Body → is_body (first (openers_at r.parts.lanes l)) ≡ true
unfolding next_in
body_read s r l e =
    body-enters (is_body (first (openers_at r.parts.lanes l))) (can_step_in s (core_state (kept_of s r)) l)
    (slice_index_or (core_state (kept_of s r)).over l false) e

-- Where another entry than a body's is next, no body is innermost.
pub own_read : (s : Scenario) (r : Running) (l : ℕ) → next_in s (core_state (kept_of s r)) l ≡ next.Own → is_body (first (openers_at r.parts.lanes l)) ≡ false
unfolding next_in
own_read s r l e =
    own-enters (is_body (first (openers_at r.parts.lanes l))) (can_step_in s (core_state (kept_of s r)) l)
    (slice_index_or (core_state (kept_of s r)).over l false) e

-- Such a lane can step.
pub own_can : (s : Scenario) (r : Running) (l : ℕ) → next_in s (core_state (kept_of s r)) l ≡ next.Own → can_step_in s (core_state (kept_of s r)) l ≡ true
unfolding next_in
own_can s r l e =
    own-goes (is_body (first (openers_at r.parts.lanes l))) (can_step_in s (core_state (kept_of s r)) l)
    (slice_index_or (core_state (kept_of s r)).over l false) e

-- Where a body is innermost, no other opener is.
pub no_other : (t : Option Opener) → ((c o a : ℕ) → t ≡ Some (Enters c o a) → ⊥) → is_body t ≡ true → ⊥
no_other None n e = cc
no_other (Some (Pumps k)) n e = cc
no_other (Some (Waits c)) n e = cc
no_other (Some (Enters c o a)) n e = n c o a refl

-- ---- a job that fits

next-enter : (s : Scenario) (r : Running) (l c o a : ℕ) → Some (Enters c o a) ≡ first (openers_at r.parts.lanes l) → next_in s (core_state (kept_of s r)) l ≡ next.Body
unfolding next_in
next-enter s r l c o a e =
    ap (λ (t : Option Opener). next_by (is_body t) (can_step_in s (core_state (kept_of s r)) l) (slice_index_or (core_state (kept_of s r)).over l false)) (sym e)

pub work_fits : (s : Scenario) (r : Running) (l c o a : ℕ) (job : Job) → Some (Enters c o a) ≡ first (openers_at r.parts.lanes l)
    → IsWork (seen_by s r.parts r.fallen.objects r.clock) c o job → Fits s (core_state (kept_of s r)) l job
work_fits s r l c o a job e w = record {
  body = next-enter s r l c o a e;
  same = job_read s r l c o a _ e w ∙ ap (λ (k : Cells). Some (record job { cells = k })) (kept_read s r l c o a e);
}

pub fits_work : (s : Scenario) (r : Running) (l c o a : ℕ) (job : Job) → Some (Enters c o a) ≡ first (openers_at r.parts.lanes l)
    → Fits s (core_state (kept_of s r)) l job → IsWork (seen_by s r.parts r.fallen.objects r.clock) c o job
fits_work s r l c o a job e f =
    sym (job_read s r l c o a _ e refl) ∙ f.same ∙ ap (λ (k : Cells). Some (record job { cells = k })) (sym (kept_read s r l c o a e))

top-fits : (s : Scenario) (r : Running) (l : ℕ) (job : Job) (t : Option Opener) → t ≡ first (openers_at r.parts.lanes l) → FitsTop (seen_by s r.parts r.fallen.objects r.clock) t job
    → Fits s (core_state (kept_of s r)) l job
top-fits s r l job None e f = absurd f
top-fits s r l job (Some (Pumps n)) e f = absurd f
top-fits s r l job (Some (Waits c)) e f = absurd f
top-fits s r l job (Some (Enters c o a)) e f = work_fits s r l c o a job e f

fits-at : (s : Scenario) (r : Running) (l : ℕ) (job : Job) → Fits s (core_state (kept_of s r)) l job → Top (first (openers_at r.parts.lanes l))
    → FitsTop (seen_by s r.parts r.fallen.objects r.clock) (first (openers_at r.parts.lanes l)) job
fits-at s r l job f (top c o a e) =
    subst (λ (t : Option Opener). FitsTop (seen_by s r.parts r.fallen.objects r.clock) t job) e (fits_work s r l c o a job e f)

-- A job is that of the innermost body where it fits the lane.
pub fits_tops : (s : Scenario) (r : Running) (l : ℕ) (job : Job) (b : Bool) → (IsTrue b ↔ FitsTop (seen_by s r.parts r.fallen.objects r.clock) (first (openers_at r.parts.lanes l)) job)
    → (IsTrue b ↔ Fits s (core_state (kept_of s r)) l job)
fits_tops s r l job b p =
    (λ t. top-fits s r l job (first (openers_at r.parts.lanes l)) refl (p.0 t), λ f. p.1 (fits-at s r l job f (body-top s r l f.body)))

-- ---- the step of a job that fits and has the object's cells

by-frame : (n : ℕ) (k : Option Native) (i : Option Issue) (f : FrameView) (c : Cells) (job : Job) → job_by n k i f c ≡ Some job → job.frame ≡ f
by-frame n None i f c job e = absurd cc
by-frame n (Some k) None f c job e = absurd cc
by-frame n (Some k) (Some i) f c job e = cc

fresh-work : (s : Scenario) (r : Running) (l c o a : ℕ) (job : Job) → Some (Enters c o a) ≡ first (openers_at r.parts.lanes l) → Fits s (core_state (kept_of s r)) l job
    → job.cells ≡ kept_in (core_state (kept_of s r)) l → work_seen (seen_by s r.parts r.fallen.objects r.clock) c o ≡ Some job
fresh-work s r l c o a job e f k = sym (job_read s r l c o a _ e refl) ∙ fitting-job s (core_state (kept_of s r)) l job f k

pub given_step : (s : Scenario) (r : Running) (l : ℕ) (job : Job) (x : Outcome) → Fits s (core_state (kept_of s r)) l job → job.cells ≡ kept_in (core_state (kept_of s r)) l → x ≡ job_step s.classes job
    → (c o a : ℕ) → first (openers_at r.parts.lanes l) ≡ Some (Enters c o a) → x ≡ body_seen (seen_by s r.parts r.fallen.objects r.clock) c o
given_step s r l job x f k e c o a t =
    e ∙ job_steps (seen_by s r.parts r.fallen.objects r.clock) c o job (fresh-work s r l c o a job (sym t) f k)

frame-slots : (s : Scenario) (r : Running) (l : ℕ) (job : Job) → ((c : ℕ) → HasSlots (body_at r.parts.scene c)) → Fits s (core_state (kept_of s r)) l job → job.cells ≡ kept_in (core_state (kept_of s r)) l
    → Top (first (openers_at r.parts.lanes l)) → HasSlots job.frame
frame-slots s r l job p f k (top c o a e) =
    let w : Seen = seen_by s r.parts r.fallen.objects r.clock in
    subst HasSlots (sym (by-frame (class_at w.objects o) (native_at s.classes (class_at w.objects o)) (issue_at w.calls.tables c) (body_at w.scene c) (cells_at w.scene o) job (fresh-work s r l c o a job e f k))) (p c)

pub given_whole : (s : Scenario) (r : Running) (l : ℕ) (job : Job) (x : Outcome) → ((c : ℕ) → HasSlots (body_at r.parts.scene c)) → Fits s (core_state (kept_of s r)) l job
    → job.cells ≡ kept_in (core_state (kept_of s r)) l → x ≡ job_step s.classes job → HasSlots x.frame
given_whole s r l job x p f k e =
    subst (λ (y : Outcome). HasSlots y.frame) (sym e) (job_whole s.classes job (frame-slots s r l job p f k (body-top s r l f.body)))

-- A test that fails tells that what it decides is not so.
pub unlike : {P : Type 0} (b : Bool) → (IsTrue b ↔ P) → b ≡ false → P → ⊥
unlike true h e p = absurd cc
unlike false h e p = absurd (not-true (h.1 p))
  where
    not-true : false ≡ true → ⊥
    not-true e = cc
