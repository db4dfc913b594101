-- What a job that was taken tells, and what one that fits tells.
use Rattle.std.proofs.Common.{ap, sym, subst, ◌∙◌}
use Rattle.std.specs.Prelude.{◌≡◌, refl, ℕ, Bool, true, false, List, [], ◌∷◌, Option, Some, None, slice_index_or}
use Rattle.com_body.specs.declared.frame.Cells.{Cells}
use Rattle.com_body.specs.declared.frame.Job.{Job}
use Rattle.com_body.specs.declared.frame.Native.{Native}
use Rattle.com_body.specs.Frames.{FrameView}
use Rattle.com_model.specs.declared.deeds.Entry.{Entry}
use Rattle.com_model.specs.declared.keeps.Issue.{Issue}
use Rattle.com_model.specs.declared.keeps.Opener.{Opener}
use Rattle.com_model.specs.declared.keeps.Opener.TheVariants.{Pumps, Waits, Enters}
use Rattle.com_model.specs.declared.scenario.Scenario.{Scenario}
use Rattle.com_model.specs.Formed.{Formed}
use Rattle.com_model.specs.Frames.{actor, issued_body, outcome}
use Rattle.com_model.specs.Lists.{first}
use Rattle.com_model.specs.Rules.{legal, next}
use Rattle.com_model.specs.State.{State, StandsFor, actor_of, class_in, issue_in, openers_in, scene_in}
use Rattle.com_model.specs.Tables.{LaneSort, lane_sort}
use Rattle.com_model.proofs.Sights.{same-next}
use Rattle.com_model.specs.Openers.{is_body}
use Rattle.com_runtime.proofs.Runs.{stands-later}
use Rattle.com_servant.specs.Steps.{IsOfItsClass, job_step, native_at}
use Rattle.com_runtime.specs.Standings.{can_step_in}
use Rattle.com_runtime.specs.Turns.{IsNext}
use Rattle.com_runtime.specs.declared.jobs.Next.TheVariants as next
use Rattle.com_runtime.specs.Jobs.{next_by, next_in, job_by, job_above, job_of, kept_above, kept_in, Fits}

-- ---- the job of a body

inj : (i j : Job) → Some i ≡ Some j → i ≡ j
inj i j e = cc

-- With other cells it is the same job with those.
pub by-moved : (n : ℕ) (k : Option Native) (i : Option Issue) (f : FrameView) (c d : Cells) (job : Job) → job_by n k i f c ≡ Some job → job_by n k i f d ≡ Some (record job { cells = d })
by-moved n None i f c d job e = cc
by-moved n (Some k) None f c d job e = cc
by-moved n (Some k) (Some i) f c d job e =
    let P : Job → Type 0 = λ j. job_by n (Some k) (Some i) f d ≡ Some (record j { cells = d }) in
    subst P (inj _ job e) refl

by-cells : (n : ℕ) (k : Option Native) (i : Option Issue) (f : FrameView) (c : Cells) (job : Job) → job_by n k i f c ≡ Some job → job.cells ≡ c
by-cells n None i f c job e = cc
by-cells n (Some k) None f c job e = cc
by-cells n (Some k) (Some i) f c job e =
    let P : Job → Type 0 = λ j. j.cells ≡ c in
    subst P (inj _ job e) refl

by-class : (s : Scenario) (n : ℕ) (k : Option Native) (i : Option Issue) (f : FrameView) (c : Cells) (job : Job) → native_at s.classes n ≡ k → job_by n k i f c ≡ Some job → IsOfItsClass s.classes job
by-class s n None i f c job q e = cc
by-class s n (Some k) None f c job q e = cc
by-class s n (Some k) (Some i) f c job q e =
    let P : Job → Type 0 = λ j. native_at s.classes j.class ≡ Some j.kind in
    subst P (inj _ job e) q

by-step : (s : Scenario) (n : ℕ) (k : Option Native) (i : Option Issue) (f : FrameView) (c : Cells) (job : Job) → job_by n k i f c ≡ Some job → Some (issued_body s n i f c) ≡ Some (job_step s.classes job)
by-step s n None i f c job e = cc
by-step s n (Some k) None f c job e = cc
by-step s n (Some k) (Some i) f c job e =
    let P : Job → Type 0 = λ j. Some (issued_body s n (Some i) f c) ≡ Some (job_step s.classes j) in
    subst P (inj _ job e) refl

-- ---- the job of the innermost opener

above-enter : (s : Scenario) (st : State) (t : Option Opener) (job : Job) → job_above s st t ≡ Some job → is_body t ≡ true
above-enter s st None job e = cc
above-enter s st (Some (Pumps n)) job e = cc
above-enter s st (Some (Waits c)) job e = cc
above-enter s st (Some (Enters c o a)) job e = refl

above-same : (s : Scenario) (st : State) (t : Option Opener) (job : Job) → job_above s st t ≡ Some job → job_above s st t ≡ Some (record job { cells = kept_above st t })
above-same s st None job e = cc
above-same s st (Some (Pumps n)) job e = cc
above-same s st (Some (Waits c)) job e = cc
above-same s st (Some (Enters c o a)) job e = by-moved (class_in st o) (native_at s.classes (class_in st o)) (issue_in st c) ((scene_in st).bodies c) ((scene_in st).cells o) ((scene_in st).cells o) job e

above-cells : (s : Scenario) (st : State) (t : Option Opener) (job : Job) → job_above s st t ≡ Some job → job.cells ≡ kept_above st t
above-cells s st None job e = cc
above-cells s st (Some (Pumps n)) job e = cc
above-cells s st (Some (Waits c)) job e = cc
above-cells s st (Some (Enters c o a)) job e = by-cells (class_in st o) (native_at s.classes (class_in st o)) (issue_in st c) ((scene_in st).bodies c) ((scene_in st).cells o) job e

above-class : (s : Scenario) (st : State) (t : Option Opener) (job : Job) → job_above s st t ≡ Some job → IsOfItsClass s.classes job
above-class s st None job e = cc
above-class s st (Some (Pumps n)) job e = cc
above-class s st (Some (Waits c)) job e = cc
above-class s st (Some (Enters c o a)) job e = by-class s (class_in st o) (native_at s.classes (class_in st o)) (issue_in st c) ((scene_in st).bodies c) ((scene_in st).cells o) job refl e

above-step : (s : Scenario) (st : State) (sort : LaneSort) (l : ℕ) (os : List Opener) (job : Job) → job_above s st (first os) ≡ Some job → outcome s (class_in st) (issue_in st) (scene_in st) (actor sort l os) ≡ Some (job_step s.classes job)
above-step s st sort l [] job e = cc
above-step s st sort l (Pumps n ∷ os) job e = cc
above-step s st sort l (Waits c ∷ os) job e = cc
above-step s st sort l (Enters c o a ∷ os) job e = by-step s (class_in st o) (native_at s.classes (class_in st o)) (issue_in st c) ((scene_in st).bodies c) ((scene_in st).cells o) job e

-- ---- the job of a lane

next-body : (b can over : Bool) → b ≡ true → next_by b can over ≡ next.Body
next-body true can over e = refl
next-body false can over e = cc

pub taken-fits : (s : Scenario) (st : State) (l : ℕ) (job : Job) → job_of s st l ≡ Some job → Fits s st l job
unfolding job_of next_in kept_in
taken-fits s st l job e = record {
  body = next-body (is_body (first (openers_in st l))) (can_step_in s st l) (slice_index_or st.over l false) (above-enter s st (first (openers_in st l)) job e);
  same = above-same s st (first (openers_in st l)) job e;
}

pub taken-fresh : (s : Scenario) (st : State) (l : ℕ) (job : Job) → job_of s st l ≡ Some job → job.cells ≡ kept_in st l
unfolding job_of kept_in
taken-fresh s st l job e = above-cells s st (first (openers_in st l)) job e

pub taken-class : (s : Scenario) (st : State) (l : ℕ) (job : Job) → job_of s st l ≡ Some job → IsOfItsClass s.classes job
unfolding job_of
taken-class s st l job e = above-class s st (first (openers_in st l)) job e

pub fitting-job : (s : Scenario) (st : State) (l : ℕ) (job : Job) → Fits s st l job → job.cells ≡ kept_in st l → job_of s st l ≡ Some job
fitting-job s st l job p e =
    let P : Cells → Type 0 = λ c. job_of s st l ≡ Some (record job { cells = c }) in
    subst P (sym e) p.same

pub job-steps : (s : Scenario) (st : State) (l : ℕ) (job : Job) → job_of s st l ≡ Some job → outcome s (class_in st) (issue_in st) (scene_in st) (actor_of s st l) ≡ Some (job_step s.classes job)
unfolding job_of
job-steps s st l job e = above-step s st (lane_sort s l) l (openers_in st l) job e

-- ---- the history goes on

pub legal-next : (s : Scenario) (st new : State) (h : List Entry) (l : ℕ) (e : Entry) → StandsFor s st h → IsNext s st l e new → legal s (e ∷ h)
legal-next s st new h l e p n =
    let at : next s h l ≡ Some e.deed = sym (same-next s st h l p) ∙ n.deed in
    (p.lawful, ap (λ (k : ℕ). next s h k) n.by ∙ at)

pub stands-next : (s : Scenario) (st new : State) (h : List Entry) (l : ℕ) (e : Entry) → Formed s → StandsFor s st h → IsNext s st l e new → StandsFor s new (e ∷ h)
stands-next s st new h l e f p n =
    let own : StandsFor s new (record { lane = l; deed = e.deed } ∷ h) =
    subst (λ (x : State). StandsFor s x (record { lane = l; deed = e.deed } ∷ h)) (sym n.becomes)
    (stands-later s st h l e.deed f (p.lawful, sym (same-next s st h l p) ∙ n.deed) p) in
    subst (λ (k : ℕ). StandsFor s new (record { lane = k; deed = e.deed } ∷ h)) (sym n.by) own
