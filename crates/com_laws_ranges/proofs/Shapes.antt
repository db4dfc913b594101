-- Every entry leaves the frame of each body with 16 registers and 8 slots.
use Rattle.std.proofs.Common.{sym, subst, ◌∙◌, arith}
use Rattle.std.proofs.lemmas.List.{length-append, length-replicate, length-set}
use Rattle.std.specs.Prelude.{◌≡◌, ℕ, zero, suc, ◌+◌, ◌-◌, ◌≤◌, ◌==◌, List, [], ◌∷◌, ◌++◌, length, Option, Some, None, fold, replicate, drop}
use Rattle.com_base.specs.declared.value.RefValue.{RefValue}
use Rattle.com_base.specs.declared.value.Value.{Value}
use Rattle.com_base.specs.declared.value.Value.TheVariants as value
use Rattle.com_body.specs.declared.statements.Stmt.{Stmt}
use Rattle.com_body.specs.declared.statements.Stmt.TheVariants as stmt
use Rattle.com_body.specs.declared.actions.Action.{Action}
use Rattle.com_body.specs.declared.actions.Action.TheVariants as action
use Rattle.com_body.specs.declared.frame.Cells.{Cells}
use Rattle.com_body.specs.declared.frame.Job.{Job}
use Rattle.com_body.specs.declared.frame.Native.{Native}
use Rattle.com_body.specs.declared.frame.Outcome.{Outcome}
use Rattle.com_body.specs.Frames.{FrameView, entered, plain_values, references, no_number, with_register, with_slot, moved}
use Rattle.com_body.specs.BodySteps.{walk, body_step}
use Rattle.com_classes.specs.Lookups.{body_of}
use Rattle.com_model.specs.declared.deeds.Deed.{Deed}
use Rattle.com_model.specs.declared.deeds.Deed.TheVariants as deed
use Rattle.com_model.specs.declared.deeds.Entry.{Entry}
use Rattle.com_model.specs.declared.keeps.Issue.{Issue}
use Rattle.com_model.specs.declared.keeps.Opener.{Opener}
use Rattle.com_model.specs.declared.keeps.Opener.TheVariants.{Pumps, Waits, Enters}
use Rattle.com_model.specs.declared.scenario.Scenario.{Scenario}
use Rattle.com_model.specs.Answers.{S_OK}
use Rattle.com_model.specs.Apartments.{ends_sta}
use Rattle.com_model.specs.Calls.{issue}
use Rattle.com_model.specs.Formed.{Formed}
use Rattle.com_model.specs.Frames.{Scene, Actor, Body, Script, Nobody, Write, ToRegister, ToSlot, ToLink, ToBuffer, issued_body, outcome, writes, to_answer, to_destination, written, with_frame, wants, acted, arrived, cut_links, acting, scene_after, actor_in, scene}
use Rattle.com_model.specs.Lists.{first, put}
use Rattle.com_model.specs.Objects.{class_of, named}
use Rattle.com_model.specs.Rules.{legal}
use Rattle.com_model.specs.State.{State, StandsFor, first_tables, after, class_in, issue_in, openers_in, scene_in}
use Rattle.com_model.proofs.Fines.{cond-is}
use Rattle.com_model.proofs.Sights.{same-next}
use Rattle.com_model.proofs.Whole.{first-stands}
use Rattle.com_laws_ranges.proofs.Fitting.{entry-fits}
use Rattle.com_runtime.proofs.Runs.{stands-later}
use Rattle.com_scene.specs.Ranges.{FitsDeed}
use Rattle.com_runtime.specs.Standings.{Reached}
use Rattle.com_runtime.specs.Jobs.{job_above, job_by, job_of}
use Rattle.com_laws_ranges.specs.Shapes.{HasShape}
use Rattle.com_servant.specs.Steps.{native_at}

-- ---- one frame

register-shape : (f : FrameView) (r : ℕ) (v : Value) → HasShape f → HasShape (with_register f r v)
register-shape f r v h = record { registers = length-set f.registers r v ∙ h.registers; slots = h.slots }

slot-shape : (f : FrameView) (k : ℕ) (held : Option RefValue) → HasShape f → HasShape (with_slot f k held)
slot-shape f k held h = record { registers = h.registers; slots = length-set f.slots k held ∙ h.slots }

moved-shape : (f : FrameView) (n : ℕ) → HasShape f → HasShape (moved f n)
moved-shape f n h = record { registers = h.registers; slots = h.slots }

set-shape : (f : FrameView) (r : ℕ) (v : Value) → HasShape f → HasShape (moved (with_register f r v) 1)
set-shape f r v h = moved-shape (with_register f r v) 1 (register-shape f r v h)

walk-shape : (ss : List Stmt) (n : ℕ) (f : FrameView) (c : Cells) → HasShape f → HasShape (walk ss n f c).frame
walk-shape [] n f c h = h
walk-shape (s ∷ rest) (suc n) f c h = walk-shape rest n f c h
walk-shape (stmt.Set to from ∷ rest) zero f c h = walk-shape rest 0 _ c (set-shape f to _ h)
walk-shape (stmt.Add to from ∷ rest) zero f c h = walk-shape rest 0 _ c (set-shape f to _ h)
walk-shape (stmt.Sub to from ∷ rest) zero f c h = walk-shape rest 0 _ c (set-shape f to _ h)
walk-shape (stmt.Less to left right ∷ rest) zero f c h = walk-shape rest 0 _ c (set-shape f to _ h)
walk-shape (stmt.Same to left right ∷ rest) zero f c h = walk-shape rest 0 _ c (set-shape f to _ h)
walk-shape (stmt.Load to cell ∷ rest) zero f c h = walk-shape rest 0 _ c (set-shape f to _ h)
walk-shape (stmt.Store cell from ∷ rest) zero f c h = walk-shape rest 0 _ _ (moved-shape f 1 h)
walk-shape (stmt.Skip count ∷ rest) zero f c h = walk-shape rest count _ c (moved-shape f (count + 1) h)
walk-shape (stmt.SkipZero register count ∷ rest) zero f c h = walk-shape rest _ _ c (moved-shape f _ h)
walk-shape (s ∷ rest) zero f c h = moved-shape f 1 h

step-shape : (b : List Stmt) (f : FrameView) (c : Cells) → HasShape f → HasShape (body_step b f c).frame
step-shape b f c h = walk-shape (drop f.place b) 0 f c h

issued-shape : (s : Scenario) (k : ℕ) (i : Option Issue) (f : FrameView) (c : Cells) → HasShape f → HasShape (issued_body s k i f c).frame
issued-shape s k None f c h = step-shape [] f c h
issued-shape s k (Some i) f c h = step-shape (body_of s.classes k i.iface i.method) f c h

-- ---- a frame at Enter

references-few : (vs : List Value) → length (references vs) ≤ length vs
references-few [] = omega arith
references-few (value.Ref held ∷ vs) = let e : length (references vs) ≤ length vs = references-few vs in omega (arith, e)
references-few (_ ∷ vs) = let e : length (references vs) ≤ length vs = references-few vs in omega (arith, e)

plain-few : (vs : List Value) → length (plain_values vs) ≤ length vs
plain-few [] = omega arith
plain-few (value.Ref held ∷ vs) = let e : length (plain_values vs) ≤ length vs = plain-few vs in omega (arith, e)
plain-few (_ ∷ vs) = let e : length (plain_values vs) ≤ length vs = plain-few vs in omega (arith, e)

filled : {X : Type 0} (xs : List X) (x : X) (n : ℕ) → length xs ≤ n → length (xs ++ replicate (n - length xs) x) ≡ n
filled xs x n p =
    let both : length (xs ++ replicate (n - length xs) x) ≡ length xs + length (replicate (n - length xs) x) = length-append xs (replicate (n - length xs) x) in
    let more : length (replicate (n - length xs) x) ≡ n - length xs = length-replicate (n - length xs) x in
    omega (arith, both, more, p)

entered-shape : (vs : List Value) → length vs ≤ 4 → HasShape (entered vs)
entered-shape vs p =
    let few : length (plain_values vs) ≤ length vs = plain-few vs in
    let held : length (references vs) ≤ length vs = references-few vs in
    record { registers = filled (plain_values vs) no_number 16 (omega (arith, few, p)); slots = filled (references vs) None 8 (omega (arith, held, p)) }

none-shape : HasShape (entered [])
none-shape = entered-shape [] (omega arith)

-- ---- the frames of all bodies

abbrev Shaped : Scene → Type 0
Shaped w = (c : ℕ) → HasShape (w.bodies c)

put-all : (k : ℕ) (x : FrameView) (f : ℕ → FrameView) → HasShape x → ((j : ℕ) → HasShape (f j)) → (j : ℕ) → HasShape (put k x f j)
put-all k x f p q j = cond-is HasShape (j == k) x (f j) p (q j)

written-shaped : (a : Actor) (w : Scene) (x : Write) → Shaped w → Shaped (written a w x)
written-shaped (Body c o) w (ToRegister r v) p = put-all c _ w.bodies (register-shape (w.bodies c) r v (p c)) p
written-shaped (Body c o) w (ToSlot k held) p = put-all c _ w.bodies (slot-shape (w.bodies c) k held (p c)) p
written-shaped (Body c o) w (ToLink k held) p = p
written-shaped (Body c o) w (ToBuffer b bytes) p = p
written-shaped (Script l) w (ToRegister r v) p = p
written-shaped (Script l) w (ToSlot k held) p = p
written-shaped (Script l) w (ToLink k held) p = p
written-shaped (Script l) w (ToBuffer b bytes) p = p
written-shaped Nobody w x p = p

all-written : (a : Actor) (w : Scene) (xs : List Write) → Shaped w → Shaped (fold (written a) w xs)
all-written a w [] p = p
all-written a w (x ∷ xs) p = all-written a (written a w x) xs (written-shaped a w x p)

wanted-shaped : (x : Action) (d : Deed) (w : Scene) → Shaped w → Shaped (wants x d w)
wanted-shaped (action.Call held i m args to) (deed.Out c o j n r k bytes) w p = p
wanted-shaped _ _ w p = p

-- The step of a body, where one acts, has such a frame.
abbrev StepShaped : Actor → Option Outcome → Type 0
StepShaped (Body c o) (Some r) = HasShape r.frame
StepShaped _ _ = Unit {0}

framed-shaped : (a : Actor) (r : Outcome) (w : Scene) → StepShaped a (Some r) → Shaped w → Shaped (with_frame a r w)
framed-shaped (Body c o) r w h p = put-all c r.frame w.bodies h p
framed-shaped (Script l) r w h p = p
framed-shaped Nobody r w h p = p

acted-shaped : (a : Actor) (r : Option Outcome) (d : Deed) (w : Scene) → StepShaped a r → Shaped w → Shaped (acted a r d w)
acted-shaped a None d w h p = p
acted-shaped a (Some r) d w h p =
    wanted-shaped r.action d _ (all-written a (with_frame a r w) (writes r.action d) (framed-shaped a r w h p))

outcome-shaped : (s : Scenario) (k : ℕ → ℕ) (i : ℕ → Option Issue) (w : Scene) (a : Actor) → Shaped w → StepShaped a (outcome s k i w a)
outcome-shaped s k i w (Body c o) p = issued-shape s (k o) (i c) (w.bodies c) (w.cells o) (p c)
outcome-shaped s k i w (Script l) p = tt
outcome-shaped s k i w Nobody p = tt

arrived-shaped : (b : Actor) (l : ℕ) (d : Deed) (w : Scene) → FitsDeed d → Shaped w → Shaped (arrived b l d w)
arrived-shaped b l (deed.Leave c hr v bytes) w q p = put-all c (entered []) w.bodies none-shape p
arrived-shaped b l (deed.Enter c o a t vs) w q p = put-all c (entered vs) w.bodies (entered-shape vs q) p
arrived-shaped b l (deed.Back c hr v) w q p = all-written b w (to_answer hr ∷ to_destination (w.destinations c) v) p
arrived-shaped b l deed.EndPump w q p = written-shaped b w (to_answer S_OK) p
arrived-shaped b l (deed.Uninit a zero) w q p = p
arrived-shaped b l (deed.Final o) w q p = p
arrived-shaped b l _ w q p = p

cut-shaped : (n : ℕ → ℕ) (a : Option ℕ) (w : Scene) → Shaped w → Shaped (cut_links n a w)
cut-shaped n None w p = p
cut-shaped n (Some a) w p = p

after-shaped : (s : Scenario) (k n : ℕ → ℕ) (i : ℕ → Option Issue) (a b : Actor) (l : ℕ) (d : Deed) (w : Scene) → FitsDeed d → Shaped w → Shaped (scene_after s k n i a b l d w)
after-shaped s k n i a b l d w q p =
    let who : Actor = acting s k i w a d in
    cut-shaped n (ends_sta d) _ (arrived-shaped b l d _ q (acted-shaped who (outcome s k i w who) d w (outcome-shaped s k i w who p) p))

-- ---- every legal history

tables_of : Scenario → List Entry → State
tables_of s [] = first_tables s
tables_of s (e ∷ h) = after s (tables_of s h) e.lane e.deed

tables-stand : (s : Scenario) (h : List Entry) → Formed s → legal s h → StandsFor s (tables_of s h) h
unfolding tables_of
tables-stand s [] f q = first-stands s
tables-stand s (e ∷ h) f q = stands-later s (tables_of s h) h e.lane e.deed f q (tables-stand s h f q.0)

legal-fits : (s : Scenario) (h : List Entry) (e : Entry) → Formed s → legal s (e ∷ h) → FitsDeed e.deed
legal-fits s h e f q =
    let p : StandsFor s (tables_of s h) h = tables-stand s h f q.0 in
    entry-fits s (tables_of s h) h e.lane e.deed f p (same-next s (tables_of s h) h e.lane p ∙ q.1)

shaped : (s : Scenario) (h : List Entry) → Formed s → legal s h → Shaped (scene s h)
shaped s [] f q = λ c. none-shape
shaped s (e ∷ h) f q =
    after-shaped s (class_of h) (named h) (issue h) (actor_in s h e.lane) (actor_in s (e ∷ h) e.lane) e.lane e.deed (scene s h) (legal-fits s h e f q) (shaped s h f q.0)

pub reached-shape : (s : Scenario) (st : State) (c : ℕ) → Reached s st → HasShape ((scene_in st).bodies c)
unfolding Reached
reached-shape s st c r =
    let p : StandsFor s st r.1.0 = r.1.1 in
    subst HasShape (sym (p.scene.bodies c)) (shaped s r.1.0 r.0 p.lawful c)

-- ---- jobs

by-shape : (n : ℕ) (k : Option Native) (i : Option Issue) (f : FrameView) (c : Cells) (job : Job) → job_by n k i f c ≡ Some job → HasShape f → HasShape job.frame
by-shape n None i f c job e h = absurd cc
by-shape n (Some k) None f c job e h = absurd cc
by-shape n (Some k) (Some i) f c job e h =
    let same : f ≡ job.frame = cc in
    subst HasShape same h

above-shape : (s : Scenario) (st : State) (t : Option Opener) (job : Job) → ((c : ℕ) → HasShape ((scene_in st).bodies c)) → job_above s st t ≡ Some job → HasShape job.frame
above-shape s st None job p e = absurd cc
above-shape s st (Some (Pumps n)) job p e = absurd cc
above-shape s st (Some (Waits c)) job p e = absurd cc
above-shape s st (Some (Enters c o a)) job p e =
    by-shape (class_in st o) (native_at s.classes (class_in st o)) (issue_in st c) ((scene_in st).bodies c) ((scene_in st).cells o) job e (p c)

pub job-shape : (s : Scenario) (st : State) (l : ℕ) (job : Job) → Reached s st → job_of s st l ≡ Some job → HasShape job.frame
unfolding job_of
job-shape s st l job r e = above-shape s st (first (openers_in st l)) job (λ c. reached-shape s st c r) e
