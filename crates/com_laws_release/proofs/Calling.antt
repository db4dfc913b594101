-- The target of a call stands in a slot of who calls.
use Rattle.std.proofs.Common.{subst, sym, ◌∙◌}
use Rattle.std.proofs.lemmas.List.Elements.{All-drop, All-nil}
use Rattle.std.specs.Prelude.{◌≡◌, refl, ℕ, zero, suc, ◌+◌, List, [], ◌∷◌, drop, Option, Some, None, All, slice_index_or}
use Rattle.com_base.specs.declared.value.RefValue.{RefValue}
use Rattle.com_base.specs.declared.value.Value.{Value}
use Rattle.com_body.specs.declared.operands.Destination.{Destination}
use Rattle.com_body.specs.declared.statements.Stmt.{Stmt}
use Rattle.com_body.specs.declared.statements.Stmt.TheVariants as stmt
use Rattle.com_body.specs.declared.actions.Action.{Action}
use Rattle.com_body.specs.declared.actions.Action.TheVariants as action
use Rattle.com_body.specs.declared.frame.Cells.{Cells}
use Rattle.com_body.specs.declared.frame.Outcome.{Outcome}
use Rattle.com_body.specs.Frames.{FrameView, moved}
use Rattle.com_body.specs.BodySteps.{Effect, Goes, Acts, effect_of, walk, body_step}
use Rattle.com_body.specs.Operands.{new_cells}
use Rattle.com_classes.specs.Lookups.{body_of}
use Rattle.com_model.specs.declared.deeds.Entry.{Entry}
use Rattle.com_model.specs.declared.scenario.Scenario.{Scenario}
use Rattle.com_model.specs.Tables.{script}
use Rattle.com_model.specs.Objects.{class_of}
use Rattle.com_model.specs.Calls.{issue}
use Rattle.com_model.specs.declared.keeps.Issue.{Issue}
use Rattle.com_model.specs.Frames.{Scene, scene, Actor, Body, Script, Nobody, actor_in, issued_body, outcome, unless_over, action_of, act}
use Rattle.com_model.specs.Rules.{legal}
use Rattle.com_model.specs.Formed.{Formed}
use Rattle.com_model.proofs.Goods.{IsPlain, all-or}
use Rattle.com_laws_balance.proofs.Carries.{HeldBy, Orderly, EffectBy, effect-by, all-tail, all-head}
use Rattle.com_laws_balance.proofs.Moves.{OrderlyActor}
use Rattle.com_laws_balance.proofs.Bases.{Base, I_of, L_of, actor-orderly}
use Rattle.com_laws_balance.proofs.Steps.{legal-base, ActionOf, action-from}
use Rattle.com_laws_balance.proofs.Arguments.{InSlots, own-slots, slots_of, PlainScene, acts-own}

abbrev pub HeldCall : (RefValue → Type 0) → Action → Type 0
HeldCall P (action.Call held i m args to) = HeldBy P held
HeldCall P _ = Unit {0}

abbrev HeldActs : (RefValue → Type 0) → Effect → Type 0
HeldActs P (Goes g d k) = Unit {0}
HeldActs P (Acts a) = HeldCall P a

acts-held : (P : RefValue → Type 0) (f : FrameView) (c : Cells) (x : Stmt) → All (HeldBy P) f.slots → HeldActs P (effect_of f c x)
acts-held P f c (stmt.Call slot i m args to) g = all-or (HeldBy P) f.slots slot None tt g
acts-held P f c _ g = tt

abbrev Walks : (RefValue → Type 0) → FrameView → List Stmt → Type 0
Walks P f xs = (k : ℕ) (g : FrameView) (d : Cells) → All IsPlain g.registers → g.slots ≡ f.slots → HeldCall P (walk xs k g d).action

any-held : (xs : List (Option RefValue)) → All (HeldBy (λ r. Unit {0})) xs
any-held xs = λ k d h. by-value (slice_index_or xs k d)
  where
    by-value : (x : Option RefValue) → HeldBy (λ r. Unit {0}) x
    by-value None = tt
    by-value (Some r) = tt

stepped-held : (s : Scenario) (I L : Type 0) (P : RefValue → Type 0) (xs : List Stmt) (f g : FrameView) (d : Cells) (e : Effect) → g.slots ≡ f.slots → Walks P f xs → EffectBy s I L (λ r. Unit {0}) g d e → HeldActs P e → HeldCall P (elim e as (λ _. Outcome) [ Goes u x k ↦ walk xs k (moved u (k + 1)) x | Acts a ↦ record { frame = moved g 1; cells = d; action = a } ]).action
stepped-held s I L P xs f g d (Goes u x k) m w p q = w k (moved u (k + 1)) x p.0 (p.1 ∙ m)
stepped-held s I L P xs f g d (Acts a) m w p q = q

walk-held : (s : Scenario) (I L : Type 0) (P : RefValue → Type 0) (f : FrameView) (xs : List Stmt) → All (HeldBy P) f.slots → All (Orderly s I L) xs → Walks P f xs
walk-held s I L P f [] fb p k g d r m = tt
walk-held s I L P f (x ∷ xs) fb p (suc k) g d r m = walk-held s I L P f xs fb (all-tail (Orderly s I L) x xs p) k g d r m
walk-held s I L P f (x ∷ xs) fb p zero g d r m =
    stepped-held s I L P xs f g d (effect_of g d x) m (walk-held s I L P f xs fb (all-tail (Orderly s I L) x xs p))
    (effect-by s I L (λ r. Unit {0}) g d x (record { registers = r; slots = any-held g.slots }) (any-held d.links) (all-head (Orderly s I L) x xs p))
    (acts-held P g d x (subst (λ (ys : List (Option RefValue)). All (HeldBy P) ys) (sym m) fb))

step-held : (s : Scenario) (I L : Type 0) (xs : List Stmt) (f : FrameView) (c : Cells) → All (Orderly s I L) xs → All IsPlain f.registers → HeldCall (InSlots f.slots) (body_step xs f c).action
step-held s I L xs f c p g = walk-held s I L (InSlots f.slots) f (drop f.place xs) (own-slots f.slots) (All-drop (Orderly s I L) f.place xs p) 0 f c g refl

-- ---- whoever calls

abbrev pub HeldOut : Actor → Scene → Option Outcome → Type 0
HeldOut a w None = Unit {0}
HeldOut a w (Some r) = HeldCall (InSlots (slots_of a w)) r.action

body-held : (s : Scenario) (I L : Type 0) (k : ℕ) (i : Option Issue) (f : FrameView) (c : Cells) → ((j m : ℕ) → All (Orderly s I L) (body_of s.classes k j m)) → All IsPlain f.registers → HeldCall (InSlots f.slots) (issued_body s k i f c).action
body-held s I L k None f c o g = step-held s I L [] f c (All-nil (Orderly s I L)) g
body-held s I L k (Some x) f c o g = step-held s I L (body_of s.classes k x.iface x.method) f c (o x.iface x.method) g

held-out : (s : Scenario) (I L : Type 0) (k : ℕ → ℕ) (i : ℕ → Option Issue) (a : Actor) (w : Scene) → OrderlyActor s k i I L a → PlainScene w → HeldOut a w (outcome s k i w a)
held-out s I L k i (Body c o) w p g = body-held s I L (k o) (i c) (w.bodies c) (w.cells o) p (g.bodies c)
held-out s I L k i (Script l) w p g = step-held s I L (script s l) (w.scripts l) new_cells p (g.scripts l)
held-out s I L k i Nobody w p g = tt

call-of : (a : Actor) (w : Scene) (r : Option Outcome) (held : Option RefValue) (i m : ℕ) (args : List Value) (to : Destination) → action_of r ≡ Some (action.Call held i m args to) → HeldOut a w r → HeldBy (InSlots (slots_of a w)) held
call-of a w r held i m args to e g =
    let z : ActionOf r (action.Call held i m args to) = action-from r (action.Call held i m args to) e in
    subst (HeldCall (InSlots (slots_of a w))) z.action (subst (HeldOut a w) z.is g)

plain-scene : (s : Scenario) (h : List Entry) → Base s h → PlainScene (scene s h)
plain-scene s h b = record { scripts = λ l. (b.frames.scripts l).registers; bodies = λ c. (b.frames.bodies c).registers }

-- The target of a lane's call stands in a slot of who acts there.
pub target-in : (s : Scenario) (h : List Entry) (l : ℕ) (held : Option RefValue) (i m : ℕ) (args : List Value) (to : Destination) → Formed s → legal s h → act s h l ≡ Some (action.Call held i m args to) → HeldBy (InSlots (slots_of (actor_in s h l) (scene s h))) held
target-in s h l held i m args to f q e =
    let a : Actor = actor_in s h l in
    let own : unless_over a (outcome s (class_of h) (issue h) (scene s h) a) ≡ a = acts-own s (class_of h) (issue h) (scene s h) a (action.Call held i m args to) e in
    call-of a (scene s h) (outcome s (class_of h) (issue h) (scene s h) a) held i m args to
    (subst (λ (x : Actor). action_of (outcome s (class_of h) (issue h) (scene s h) x) ≡ Some (action.Call held i m args to)) own e)
    (held-out s (I_of a) (L_of s h a) (class_of h) (issue h) a (scene s h) (actor-orderly s h f a) (plain-scene s h (legal-base s h f q)))
