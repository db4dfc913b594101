-- What entries of other lanes leave of the body that is innermost in a lane.
use Rattle.std.proofs.Common.{refl, sym, ap, subst, ◌∙◌, eqb-true}
use Rattle.std.proofs.lemmas.Bool.{false_from_ne_true}
use Rattle.std.specs.Prelude.{◌≡◌, ℕ, true, false, ◌==◌, List, [], ◌∷◌, ◌++◌, Option, Some, option_map, slice_index_or}
use Rattle.com_body.specs.declared.frame.Cells.{Cells}
use Rattle.com_body.specs.declared.frame.Job.{Job}
use Rattle.com_body.specs.Frames.{FrameView}
use Rattle.com_model.specs.declared.deeds.Entry.{Entry}
use Rattle.com_model.specs.declared.keeps.Issue.{Issue}
use Rattle.com_model.specs.declared.keeps.Making.{Making}
use Rattle.com_model.specs.declared.keeps.Opener.{Opener}
use Rattle.com_model.specs.declared.keeps.Opener.TheVariants.{Pumps, Waits, Enters}
use Rattle.com_model.specs.declared.scenario.Scenario.{Scenario}
use Rattle.com_model.specs.Apartments.{is_sta}
use Rattle.com_model.specs.Calls.{issue}
use Rattle.com_model.specs.Formed.{Formed}
use Rattle.com_model.specs.Frames.{scene}
use Rattle.com_model.specs.Lists.{first, number_or_zero}
use Rattle.com_model.specs.Objects.{agile, named, class_of}
use Rattle.com_model.specs.Openers.{openers, is_body}
use Rattle.com_model.specs.Rules.{legal}
use Rattle.com_model.specs.State.{State, StandsFor, class_in, issue_in, openers_in, scene_in}
use Rattle.com_model.specs.Tables.{is_agile_class}
use Rattle.com_laws_balance.proofs.Answered.{TopEnter, leave-top}
use Rattle.com_laws_balance.proofs.Bases.{top-among}
use Rattle.com_laws_balance.proofs.Counts.{Among}
use Rattle.com_laws_balance.proofs.Directs.{openers-other}
use Rattle.com_laws_sources.proofs.Framed.{frames-stay}
use Rattle.com_laws_sources.proofs.Runs.{Same, fresh, named-in, no-begin, one-call, other-frame, other-scene, stays-same}
use Rattle.com_servant.specs.Steps.{native_at}
use Rattle.com_runtime.specs.Standings.{can_step_in}
use Rattle.com_runtime.specs.declared.jobs.Next.TheVariants as next
use Rattle.com_runtime.specs.Jobs.{next_by, next_in, job_by, job_above, job_of, kept_above, kept_in, Fits}
use Rattle.com_runtime.proofs.Taken.{by-moved, taken-fresh}
use Rattle.com_laws_jobs.specs.Fresh.{AreOfOthers}

-- ---- one entry of another lane

frame-stays : (s : Scenario) (h : List Entry) (e : Entry) (l c o a : ℕ) → legal s (e ∷ h) → (l ≡ e.lane → ⊥) → Among (Enters c o a) (openers h l) → Among (Enters c o a) (openers (e ∷ h) l)
    → (scene s (e ∷ h)).bodies c ≡ (scene s h).bodies c
frame-stays s h e l c o a q away m k =
    frames-stay s h e c (other-frame s h l e.lane c o a q.0 m away) (other-frame s (e ∷ h) l e.lane c o a q k away)
    (no-begin c e.deed (λ j x b t vs d z. fresh s h e l c o a j x b t vs q m d z)
    (λ j hr v bytes d z. let t : TopEnter (openers h e.lane) j = leave-top s h e.lane j e.deed hr v bytes q.1 d in
    away (one-call s h l e.lane c o a t.object t.apartment q.0 m (subst (λ (y : ℕ). Among (Enters y t.object t.apartment) (openers h e.lane)) z (top-among j t.object t.apartment (openers h e.lane) t.rest t.is)))))

-- ---- entries of other lanes

-- The lane's openers, the call's issue, the object's class and the body's frame are as they were.
record Unmoved (s : Scenario) (h g : List Entry) (l c o : ℕ) : Type 0 where
  openers_are : openers g l ≡ openers h l
  issued : issue g c ≡ issue h c
  class : class_of g o ≡ class_of h o
  frame : (scene s g).bodies c ≡ (scene s h).bodies c

away-from : (l k : ℕ) → (k ≡ l → ⊥) → l ≡ k → ⊥
away-from l k n e = n (sym e)

unmoved : (s : Scenario) (h more : List Entry) (l c o a : ℕ) (os : List Opener) → Formed s → legal s (more ++ h) → AreOfOthers l more → openers h l ≡ Enters c o a ∷ os → Unmoved s h (more ++ h) l c o
unmoved s h [] l c o a os f q n top = record { openers_are = refl; issued = refl; class = refl; frame = refl }
unmoved s h (e ∷ more) l c o a os f q n top =
    let g : List Entry = more ++ h in
    let z : Unmoved s h g l c o = unmoved s h more l c o a os f q.0 n.1 top in
    let same : openers (e ∷ g) l ≡ openers g l = openers-other g e l (false_from_ne_true (e.lane == l) (λ t. n.0 (eqb-true e.lane l t))) in
    let m : Among (Enters c o a) (openers g l) = top-among c o a (openers g l) os (z.openers_are ∙ top) in
    let k : Among (Enters c o a) (openers (e ∷ g) l) = top-among c o a (openers (e ∷ g) l) os (same ∙ z.openers_are ∙ top) in
    let w : Same s g e c o = stays-same s g e l c o a f q m in
    record {
      openers_are = same ∙ z.openers_are;
      issued = w.issued ∙ z.issued;
      class = w.class ∙ z.class;
      frame = frame-stays s g e l c o a q (away-from l e.lane n.0) m k ∙ z.frame;
    }

unmoved-cells : (s : Scenario) (h more : List Entry) (l c o a : ℕ) (os : List Opener) → Formed s → legal s (more ++ h) → AreOfOthers l more → openers h l ≡ Enters c o a ∷ os → is_sta a ≡ true → agile s h o ≡ false
    → (scene s (more ++ h)).cells o ≡ (scene s h).cells o
unmoved-cells s h [] l c o a os f q n top sta free = refl
unmoved-cells s h (e ∷ more) l c o a os f q n top sta free =
    let g : List Entry = more ++ h in
    let z : Unmoved s h g l c o = unmoved s h more l c o a os f q.0 n.1 top in
    let same : openers (e ∷ g) l ≡ openers g l = openers-other g e l (false_from_ne_true (e.lane == l) (λ t. n.0 (eqb-true e.lane l t))) in
    let m : Among (Enters c o a) (openers g l) = top-among c o a (openers g l) os (z.openers_are ∙ top) in
    let k : Among (Enters c o a) (openers (e ∷ g) l) = top-among c o a (openers (e ∷ g) l) os (same ∙ z.openers_are ∙ top) in
    let free-then : agile s g o ≡ false = ap (is_agile_class s) z.class ∙ free in
    (other-scene s g e l c o a f q (away-from l e.lane n.0) m k sta free-then).1 ∙ unmoved-cells s h more l c o a os f q.0 n.1 top sta free

-- ---- the states

class-stands : (s : Scenario) (st : State) (h : List Entry) (o : ℕ) → StandsFor s st h → class_in st o ≡ class_of h o
class-stands s st h o p = ap (λ (x : Option Making). number_or_zero (option_map (λ (m : Making). m.class) x)) (p.objects.makings o)

-- Two states with the call, its class and its frame in common.
record Moved (st su : State) (c o : ℕ) : Type 0 where
  issued : issue_in su c ≡ issue_in st c
  class : class_in su o ≡ class_in st o
  frame : (scene_in su).bodies c ≡ (scene_in st).bodies c

moved : (s : Scenario) (st su : State) (h g : List Entry) (l c o : ℕ) → StandsFor s st h → StandsFor s su g → Unmoved s h g l c o → Moved st su c o
moved s st su h g l c o p r z = record {
  issued = r.calls.issues c ∙ z.issued ∙ sym (p.calls.issues c);
  class = class-stands s su g o r ∙ z.class ∙ sym (class-stands s st h o p);
  frame = r.scene.bodies c ∙ z.frame ∙ sym (p.scene.bodies c);
}

fits-moved : (s : Scenario) (st su : State) (l c o a : ℕ) (os : List Opener) (job : Job) → openers_in st l ≡ Enters c o a ∷ os → openers_in su l ≡ Enters c o a ∷ os → Moved st su c o → job_of s st l ≡ Some job → Fits s su l job
unfolding job_of kept_in next_in
fits-moved s st su l c o a os job p r w e =
    let d : Cells = (scene_in su).cells o in
    let own : job_by (class_in st o) (native_at s.classes (class_in st o)) (issue_in st c) ((scene_in st).bodies c) ((scene_in st).cells o) ≡ Some job =
    subst (λ (xs : List Opener). job_above s st (first xs) ≡ Some job) p e in
    let then : job_by (class_in su o) (native_at s.classes (class_in su o)) (issue_in su c) ((scene_in su).bodies c) d ≡ Some (record job { cells = d }) =
    ap (λ (n : ℕ). job_by n (native_at s.classes n) (issue_in su c) ((scene_in su).bodies c) d) w.class
    ∙ ap (λ (i : Option Issue). job_by (class_in st o) (native_at s.classes (class_in st o)) i ((scene_in su).bodies c) d) w.issued
    ∙ ap (λ (f : FrameView). job_by (class_in st o) (native_at s.classes (class_in st o)) (issue_in st c) f d) w.frame
    ∙ by-moved (class_in st o) (native_at s.classes (class_in st o)) (issue_in st c) ((scene_in st).bodies c) ((scene_in st).cells o) d job own in
    record {
      body = subst (λ (xs : List Opener). next_by (is_body (first xs)) (can_step_in s su l) (slice_index_or su.over l false) ≡ next.Body) (sym r) refl;
      same = subst (λ (xs : List Opener). job_above s su (first xs) ≡ Some (record job { cells = kept_above su (first xs) })) (sym r) then;
    }

-- A job is taken where an Enter is innermost.
data Top (os : List Opener) : Type 0 where
  top : (c o a : ℕ) (rest : List Opener) → os ≡ Enters c o a ∷ rest → Top os

top-of : (s : Scenario) (st : State) (os : List Opener) (job : Job) → job_above s st (first os) ≡ Some job → Top os
top-of s st [] job e = absurd cc
top-of s st (Pumps n ∷ os) job e = absurd cc
top-of s st (Waits c ∷ os) job e = absurd cc
top-of s st (Enters c o a ∷ os) job e = top c o a os refl

taken-top : (s : Scenario) (st : State) (h : List Entry) (l : ℕ) (job : Job) → StandsFor s st h → job_of s st l ≡ Some job → Top (openers h l)
unfolding job_of
taken-top s st h l job p e = top-of s st (openers h l) job (subst (λ (xs : List Opener). job_above s st (first xs) ≡ Some job) (p.lanes.openers l) e)

fits-by : (s : Scenario) (st su : State) (h more : List Entry) (l : ℕ) (job : Job) → Formed s → StandsFor s st h → StandsFor s su (more ++ h) → AreOfOthers l more → job_of s st l ≡ Some job → Top (openers h l) → Fits s su l job
fits-by s st su h more l job f p r n e (top c o a os t) =
    let z : Unmoved s h (more ++ h) l c o = unmoved s h more l c o a os f r.lawful n t in
    fits-moved s st su l c o a os job (p.lanes.openers l ∙ t) (r.lanes.openers l ∙ z.openers_are ∙ t) (moved s st su h (more ++ h) l c o p r z) e

pub still-fits : (s : Scenario) (st su : State) (h more : List Entry) (l : ℕ) (job : Job) → Formed s → StandsFor s st h → StandsFor s su (more ++ h) → AreOfOthers l more → job_of s st l ≡ Some job → Fits s su l job
still-fits s st su h more l job f p r n e = fits-by s st su h more l job f p r n e (taken-top s st h l job p e)

-- ---- the cells

kept-at : (st : State) (l c o a : ℕ) (os : List Opener) → openers_in st l ≡ Enters c o a ∷ os → kept_in st l ≡ (scene_in st).cells o
unfolding kept_in
kept-at st l c o a os p = ap (λ (xs : List Opener). kept_above st (first xs)) p

same-top : (c o a d x b : ℕ) → Some (Enters d x b) ≡ Some (Enters c o a) → x ≡ o
same-top c o a d x b e = cc

fresh-by : (s : Scenario) (st su : State) (h more : List Entry) (l c o a : ℕ) (job : Job) → Formed s → StandsFor s st h → StandsFor s su (more ++ h) → AreOfOthers l more → job_of s st l ≡ Some job
    → first (openers h l) ≡ Some (Enters c o a) → agile s h o ≡ false → is_sta (named h o) ≡ true → Top (openers h l) → job.cells ≡ kept_in su l
fresh-by s st su h more l c o a job f p r n e i free sta (top d x b os t) =
    let on : x ≡ o = same-top c o a d x b (sym (ap (λ (xs : List Opener). first xs) t) ∙ i) in
    let free-x : agile s h x ≡ false = subst (λ (y : ℕ). agile s h y ≡ false) (sym on) free in
    let place : b ≡ named h x = named-in s h l d x b f p.lawful free-x (top-among d x b (openers h l) os t) in
    let sta-b : is_sta b ≡ true = ap is_sta place ∙ subst (λ (y : ℕ). is_sta (named h y) ≡ true) (sym on) sta in
    let z : Unmoved s h (more ++ h) l d x = unmoved s h more l d x b os f r.lawful n t in
    taken-fresh s st l job e
    ∙ kept-at st l d x b os (p.lanes.openers l ∙ t)
    ∙ (p.scene.cells x ∙ sym (unmoved-cells s h more l d x b os f r.lawful n t sta-b free-x) ∙ sym (r.scene.cells x))
    ∙ sym (kept-at su l d x b os (r.lanes.openers l ∙ z.openers_are ∙ t))

pub still-fresh : (s : Scenario) (st su : State) (h more : List Entry) (l c o a : ℕ) (job : Job) → Formed s → StandsFor s st h → StandsFor s su (more ++ h) → AreOfOthers l more → job_of s st l ≡ Some job
    → first (openers h l) ≡ Some (Enters c o a) → agile s h o ≡ false → is_sta (named h o) ≡ true → job.cells ≡ kept_in su l
still-fresh s st su h more l c o a job f p r n e i free sta = fresh-by s st su h more l c o a job f p r n e i free sta (taken-top s st h l job p e)
