-- A step leaves the slots as they are, and its action's numbers are in range, as those of the body's
-- statements are.
use Rattle.std.proofs.Common.{◌≡◌, ℕ, zero, suc, List, [], ◌∷◌, Option, Some, None, All, refl, sym, ◌∙◌, ap, subst, drop, length, IfOk, Result, Ok, Err}
use Rattle.std.proofs.lemmas.List.Elements.{All-head, All-tail, All-drop}
use Rattle.std.specs.declared.alloc.AllocError.{AllocError}
use Rattle.com_body.specs.declared.statements.Stmt.{Stmt}
use Rattle.com_body.specs.declared.statements.Stmt.TheVariants as stmt
use Rattle.com_body.specs.declared.frame.Cells.{Cells}
use Rattle.com_body.specs.declared.frame.Outcome.{Outcome}
use Rattle.com_body.specs.Bodies.{IsInRange, IsBody}
use Rattle.com_body.specs.Frames.{FrameView}
use Rattle.com_body.specs.BodySteps.{walk, body_step}
use Rattle.com_model.specs.declared.keeps.Issue.{Issue}
use Rattle.com_model.specs.declared.scenario.Scenario.{Scenario}
use Rattle.com_model.specs.Frames.{Actor as Acting, Body, Script, Nobody, issued_body, outcome}
use Rattle.com_model.specs.State.{SceneTables, scene_read}
use Rattle.com_state.specs.SceneParts.{body_at, cells_at}
use Rattle.com_scene.specs.Kept.{FitsActor, IsStep}
use Rattle.com_scene.specs.Ranges.{WritesInRange}
use Rattle.com_turns.specs.Acting.{issued_statements, statements_of, step_of}

walk_slots : (ss : List Stmt) (n : ℕ) (f : FrameView) (c : Cells) → (walk ss n f c).frame.slots ≡ f.slots
walk_slots [] n f c = refl
walk_slots (s ∷ rest) (suc n) f c = walk_slots rest n f c
walk_slots (stmt.Set to from ∷ rest) zero f c = walk_slots rest 0 _ c
walk_slots (stmt.Add to from ∷ rest) zero f c = walk_slots rest 0 _ c
walk_slots (stmt.Sub to from ∷ rest) zero f c = walk_slots rest 0 _ c
walk_slots (stmt.Less to left right ∷ rest) zero f c = walk_slots rest 0 _ c
walk_slots (stmt.Same to left right ∷ rest) zero f c = walk_slots rest 0 _ c
walk_slots (stmt.Load to cell ∷ rest) zero f c = walk_slots rest 0 _ c
walk_slots (stmt.Store cell from ∷ rest) zero f c = walk_slots rest 0 _ _
walk_slots (stmt.Skip count ∷ rest) zero f c = walk_slots rest count _ c
walk_slots (stmt.SkipZero register count ∷ rest) zero f c = walk_slots rest _ _ c
walk_slots (s ∷ rest) zero f c = refl

-- The slots after a step.
pub step_slots : (b : List Stmt) (f : FrameView) (c : Cells) → (body_step b f c).frame.slots ≡ f.slots
step_slots b f c = walk_slots (drop f.place b) 0 f c

walk_in_range : (ss : List Stmt) (n : ℕ) (f : FrameView) (c : Cells) → All IsInRange ss → WritesInRange (walk ss n f c).action
walk_in_range [] n f c h = tt
walk_in_range (s ∷ rest) (suc n) f c h = walk_in_range rest n f c (All-tail IsInRange s rest h)
walk_in_range (stmt.Set to from ∷ rest) zero f c h = walk_in_range rest 0 _ c (All-tail IsInRange (stmt.Set to from) rest h)
walk_in_range (stmt.Add to from ∷ rest) zero f c h = walk_in_range rest 0 _ c (All-tail IsInRange (stmt.Add to from) rest h)
walk_in_range (stmt.Sub to from ∷ rest) zero f c h = walk_in_range rest 0 _ c (All-tail IsInRange (stmt.Sub to from) rest h)
walk_in_range (stmt.Less to left right ∷ rest) zero f c h = walk_in_range rest 0 _ c (All-tail IsInRange (stmt.Less to left right) rest h)
walk_in_range (stmt.Same to left right ∷ rest) zero f c h = walk_in_range rest 0 _ c (All-tail IsInRange (stmt.Same to left right) rest h)
walk_in_range (stmt.Load to cell ∷ rest) zero f c h = walk_in_range rest 0 _ c (All-tail IsInRange (stmt.Load to cell) rest h)
walk_in_range (stmt.Store cell from ∷ rest) zero f c h = walk_in_range rest 0 _ _ (All-tail IsInRange (stmt.Store cell from) rest h)
walk_in_range (stmt.Skip count ∷ rest) zero f c h = walk_in_range rest count _ c (All-tail IsInRange (stmt.Skip count) rest h)
walk_in_range (stmt.SkipZero register count ∷ rest) zero f c h = walk_in_range rest _ _ c (All-tail IsInRange (stmt.SkipZero register count) rest h)
walk_in_range (stmt.Create slot class iface ∷ rest) zero f c h = All-head IsInRange (stmt.Create slot class iface) rest h
walk_in_range (stmt.Query to from iface ∷ rest) zero f c h = (All-head IsInRange (stmt.Query to from iface) rest h).0
walk_in_range (stmt.Copy to from ∷ rest) zero f c h = (All-head IsInRange (stmt.Copy to from) rest h).0
walk_in_range (stmt.Release place ∷ rest) zero f c h = All-head IsInRange (stmt.Release place) rest h
walk_in_range (stmt.Call slot iface method args to ∷ rest) zero f c h = (All-head IsInRange (stmt.Call slot iface method args to) rest h).2
walk_in_range (stmt.Unmarshal slot buffer ∷ rest) zero f c h = (All-head IsInRange (stmt.Unmarshal slot buffer) rest h).0
walk_in_range (stmt.Register to slot ∷ rest) zero f c h = (All-head IsInRange (stmt.Register to slot) rest h).0
walk_in_range (stmt.Get slot cookie ∷ rest) zero f c h = (All-head IsInRange (stmt.Get slot cookie) rest h).0
walk_in_range (s ∷ rest) zero f c h = tt

-- The action of a step of a body.
pub step_in_range : (b : List Stmt) (f : FrameView) (c : Cells) → IsBody b → WritesInRange (body_step b f c).action
step_in_range b f c h = walk_in_range (drop f.place b) 0 f c (All-drop IsInRange f.place b h.in_range)

pub is_step : (a : Acting) (b : List Stmt) (f : FrameView) (c : Cells) → IsBody b → FitsActor a f → IsStep a (Some (body_step b f c))
is_step (Body c o) b f k h s = (tt, step_in_range b f k h)
is_step (Script l) b f k h s = (ap (λ (xs : _). length xs) (step_slots b f k) ∙ s, step_in_range b f k h)
is_step Nobody b f k h s = (tt, step_in_range b f k h)

pub step_is : (x : Result Outcome AllocError) (a : Acting) (b : List Stmt) (f : FrameView) (c : Cells) → IsBody b → FitsActor a f →
    IfOk x (λ r. r ≡ body_step b f c) → IfOk x (λ r. IsStep a (Some r))
step_is (Ok r) a b f c h s e = subst (λ (q : Outcome). IsStep a (Some q)) (sym e) (is_step a b f c h s)
step_is (Err r) a b f c h s e = tt

by_issue : (s : Scenario) (k : ℕ) (i : Option Issue) (f : FrameView) (c : Cells) → body_step (issued_statements s k i) f c ≡ issued_body s k i f c
by_issue s k None f c = refl
by_issue s k (Some i) f c = refl

-- The steps of the definitions.
pub steps_are : (s : Scenario) (k : ℕ → ℕ) (i : ℕ → Option Issue) (t : SceneTables) (a : Acting) → step_of (statements_of s k i a) t a ≡ outcome s k i (scene_read t) a
steps_are s k i t (Body c o) = ap (λ (r : Outcome). Some r) (by_issue s (k o) (i c) (body_at t c) (cells_at t o))
steps_are s k i t (Script l) = refl
steps_are s k i t Nobody = refl
