-- The references among the arguments of a call stand in slots of the frame that calls; and an entry keeps the slots of each
-- script and body but of those that act.
use Rattle.std.proofs.Common.{subst, sym, ap, ◌∙◌, ◌⊎◌, inl, inr, eqb-true, arith}
use Rattle.std.proofs.lemmas.Bool.{false_from_ne_true}
use Rattle.std.proofs.lemmas.List.Elements.{All-map, All-drop, All-nil}
use Rattle.std.proofs.lemmas.Grind.{common_steps}
use Rattle.std.specs.Prelude.{◌≡◌, refl, ℕ, zero, suc, ◌+◌, ◌<◌, Bool, true, false, cond, ◌==◌, List, [], ◌∷◌, length, drop, Option, Some, None, All, fold, slice_index_or}
use Rattle.com_base.specs.declared.value.RefValue.{RefValue}
use Rattle.com_body.specs.declared.statements.Stmt.{Stmt}
use Rattle.com_body.specs.declared.statements.Stmt.TheVariants as stmt
use Rattle.com_body.specs.declared.actions.Action.{Action}
use Rattle.com_body.specs.declared.actions.Action.TheVariants as action
use Rattle.com_body.specs.declared.frame.Cells.{Cells}
use Rattle.com_body.specs.declared.frame.Outcome.{Outcome}
use Rattle.com_body.specs.Frames.{FrameView, moved, entered}
use Rattle.com_body.specs.Operands.{argument_of, new_cells}
use Rattle.com_body.specs.BodySteps.{Effect, Goes, Acts, effect_of, walk, body_step}
use Rattle.com_classes.specs.Lookups.{body_of}
use Rattle.com_model.specs.declared.deeds.Deed.{Deed}
use Rattle.com_model.specs.declared.deeds.Deed.TheVariants as deed
use Rattle.com_model.specs.declared.scenario.Scenario.{Scenario}
use Rattle.com_model.specs.Answers.{S_OK}
use Rattle.com_model.specs.Lists.{put}
use Rattle.com_model.specs.Tables.{script}
use Rattle.com_model.specs.declared.keeps.Issue.{Issue}
use Rattle.com_model.specs.Frames.{Scene, Actor, Body, Script, Nobody, issued_body, outcome, is_leave, unless_over, Write, ToRegister, ToSlot, ToLink, ToBuffer, writes, written, with_frame, wants, acted, arrived, cut_links, to_answer, to_destination, action_of}
use Rattle.com_model.proofs.Goods.{IsPlain, CleanArg, all-of}
use Rattle.com_laws_balance.proofs.Carries.{HeldBy, ValueBy, Orderly, FrameBy, EffectBy, effect-by, argument-by, all-tail, all-head}
use Rattle.com_laws_balance.proofs.Moves.{OutBy, OrderlyActor}

-- A reference in one of the slots.
pub record InSlots (xs : List (Option RefValue)) (r : RefValue) : Type 0 where
  pub index : ℕ
  pub is : slice_index_or xs index None ≡ Some r

any-default : {X : Type 0} (xs : List X) (k : ℕ) (d e : X) → k < length xs → slice_index_or xs k d ≡ slice_index_or xs k e
any-default [] k d e p = absurd (omega (arith, p))
any-default (x ∷ xs) zero d e p = refl
any-default (x ∷ xs) (suc k) d e p = any-default xs k d e (grind (arith, common_steps, p))

pub own-slots : (xs : List (Option RefValue)) → All (HeldBy (InSlots xs)) xs
own-slots xs = λ k d h. subst (HeldBy (InSlots xs)) (sym (any-default xs k d None h)) (by-value (slice_index_or xs k None) k refl)
  where
    by-value : (x : Option RefValue) (k : ℕ) → slice_index_or xs k None ≡ x → HeldBy (InSlots xs) x
    by-value None k e = tt
    by-value (Some r) k e = record { index = k; is = e }

abbrev pub CallBy : (RefValue → Type 0) → Action → Type 0
CallBy P (action.Call held i m args to) = All (ValueBy P) args
CallBy P _ = Unit {0}

abbrev ActsBy : (RefValue → Type 0) → Effect → Type 0
ActsBy P (Goes g d k) = Unit {0}
ActsBy P (Acts a) = CallBy P a

acts-by : (s : Scenario) (I L : Type 0) (P : RefValue → Type 0) (f : FrameView) (c : Cells) (x : Stmt) → FrameBy P f → Orderly s I L x → ActsBy P (effect_of f c x)
acts-by s I L P f c (stmt.Call slot i m args to) g p = All-map (ValueBy P) (argument_of f) args (all-of CleanArg (λ a. ValueBy P (argument_of f a)) (λ a q. argument-by P f a g q) args p.0)
acts-by s I L P f c _ g p = tt

abbrev Walks : (RefValue → Type 0) → FrameView → List Stmt → Type 0
Walks P f xs = (k : ℕ) (g : FrameView) (d : Cells) → All IsPlain g.registers → g.slots ≡ f.slots → CallBy P (walk xs k g d).action

any-held : (xs : List (Option RefValue)) → All (HeldBy (λ r. Unit {0})) xs
any-held xs = λ k d h. by-value (slice_index_or xs k d)
  where
    by-value : (x : Option RefValue) → HeldBy (λ r. Unit {0}) x
    by-value None = tt
    by-value (Some r) = tt

stepped-call : (s : Scenario) (I L : Type 0) (P : RefValue → Type 0) (xs : List Stmt) (f g : FrameView) (d : Cells) (e : Effect) → g.slots ≡ f.slots → Walks P f xs → EffectBy s I L (λ r. Unit {0}) g d e → ActsBy P e → CallBy P (elim e as (λ _. Outcome) [ Goes u x k ↦ walk xs k (moved u (k + 1)) x | Acts a ↦ record { frame = moved g 1; cells = d; action = a } ]).action
stepped-call s I L P xs f g d (Goes u x k) m w p q = w k (moved u (k + 1)) x p.0 (p.1 ∙ m)
stepped-call s I L P xs f g d (Acts a) m w p q = q

walk-call : (s : Scenario) (I L : Type 0) (P : RefValue → Type 0) (f : FrameView) (xs : List Stmt) → All (HeldBy P) f.slots → All (Orderly s I L) xs → Walks P f xs
walk-call s I L P f [] fb p k g d r m = tt
walk-call s I L P f (x ∷ xs) fb p (suc k) g d r m = walk-call s I L P f xs fb (all-tail (Orderly s I L) x xs p) k g d r m
walk-call s I L P f (x ∷ xs) fb p zero g d r m =
    stepped-call s I L P xs f g d (effect_of g d x) m (walk-call s I L P f xs fb (all-tail (Orderly s I L) x xs p))
    (effect-by s I L (λ r. Unit {0}) g d x (record { registers = r; slots = any-held g.slots }) (any-held d.links) (all-head (Orderly s I L) x xs p))
    (acts-by s I L P g d x (record { registers = r; slots = subst (λ (ys : List (Option RefValue)). All (HeldBy P) ys) (sym m) fb }) (all-head (Orderly s I L) x xs p))

step-call : (s : Scenario) (I L : Type 0) (xs : List Stmt) (f : FrameView) (c : Cells) → All (Orderly s I L) xs → All IsPlain f.registers → CallBy (InSlots f.slots) (body_step xs f c).action
step-call s I L xs f c p g = walk-call s I L (InSlots f.slots) f (drop f.place xs) (own-slots f.slots) (All-drop (Orderly s I L) f.place xs p) 0 f c g refl

-- ---- whoever calls

abbrev pub slots_of : Actor → Scene → List (Option RefValue)
slots_of (Body c o) w = (w.bodies c).slots
slots_of (Script l) w = (w.scripts l).slots
slots_of Nobody w = []

abbrev pub CallOut : Actor → Scene → Option Outcome → Type 0
CallOut a w None = Unit {0}
CallOut a w (Some r) = CallBy (InSlots (slots_of a w)) r.action

body-call : (s : Scenario) (I L : Type 0) (k : ℕ) (i : Option Issue) (f : FrameView) (c : Cells) → ((j m : ℕ) → All (Orderly s I L) (body_of s.classes k j m)) → All IsPlain f.registers → CallBy (InSlots f.slots) (issued_body s k i f c).action
body-call s I L k None f c o g = step-call s I L [] f c (All-nil (Orderly s I L)) g
body-call s I L k (Some x) f c o g = step-call s I L (body_of s.classes k x.iface x.method) f c (o x.iface x.method) g

pub record PlainScene (w : Scene) : Type 0 where
  pub scripts : (l : ℕ) → All IsPlain (w.scripts l).registers
  pub bodies : (c : ℕ) → All IsPlain (w.bodies c).registers

pub call-out : (s : Scenario) (I L : Type 0) (k : ℕ → ℕ) (i : ℕ → Option Issue) (a : Actor) (w : Scene) → OrderlyActor s k i I L a → PlainScene w → CallOut a w (outcome s k i w a)
call-out s I L k i (Body c o) w p g = body-call s I L (k o) (i c) (w.bodies c) (w.cells o) p (g.bodies c)
call-out s I L k i (Script l) w p g = step-call s I L (script s l) (w.scripts l) new_cells p (g.scripts l)
call-out s I L k i Nobody w p g = tt

over-own : (s : Scenario) (k : ℕ → ℕ) (i : ℕ → Option Issue) (w : Scene) (a : Actor) (r : Option Outcome) (x : Action) → action_of (outcome s k i w (unless_over a r)) ≡ Some x → unless_over a r ≡ a
over-own s k i w (Body c o) r x e = refl
over-own s k i w (Script l) None x e = refl
over-own s k i w (Script l) (Some r) x e = by-test (is_leave r.action) e
  where
    by-test : (t : Bool) → action_of (outcome s k i w (cond t Nobody (Script l))) ≡ Some x → cond t Nobody (Script l) ≡ Script l
    by-test true e = cc
    by-test false e = refl
over-own s k i w Nobody r x e = refl

-- Where an actor has an action, it is the actor itself that acts.
pub acts-own : (s : Scenario) (k : ℕ → ℕ) (i : ℕ → Option Issue) (w : Scene) (a : Actor) (x : Action) → action_of (outcome s k i w (unless_over a (outcome s k i w a))) ≡ Some x → unless_over a (outcome s k i w a) ≡ a
acts-own s k i w a x e = over-own s k i w a (outcome s k i w a) x e

-- ---- slots that stay

abbrev pub Apart : Actor → Actor → Type 0
Apart (Body c o) (Body d u) = c ≡ d → ⊥
Apart (Script l) (Script m) = l ≡ m → ⊥
Apart _ _ = Unit {0}

pub put-other : {X : Type 0} (k j : ℕ) (x : X) (f : ℕ → X) → (j ≡ k → ⊥) → put k x f j ≡ f j
put-other k j x f n = ap (λ (t : Bool). cond t x (f j)) (false_from_ne_true (j == k) (λ t. n (eqb-true j k t)))

written-slots : (x a : Actor) (w : Scene) (y : Write) → Apart x a → slots_of x (written a w y) ≡ slots_of x w
written-slots (Body c o) (Body d u) w (ToRegister r v) n = ap (λ (f : FrameView). f.slots) (put-other d c _ w.bodies n)
written-slots (Body c o) (Body d u) w (ToSlot k held) n = ap (λ (f : FrameView). f.slots) (put-other d c _ w.bodies n)
written-slots (Body c o) (Body d u) w (ToLink k held) n = refl
written-slots (Body c o) (Body d u) w (ToBuffer b bytes) n = refl
written-slots (Body c o) (Script m) w (ToRegister r v) n = refl
written-slots (Body c o) (Script m) w (ToSlot k held) n = refl
written-slots (Body c o) (Script m) w (ToLink k held) n = refl
written-slots (Body c o) (Script m) w (ToBuffer b bytes) n = refl
written-slots (Script l) (Body d u) w (ToRegister r v) n = refl
written-slots (Script l) (Body d u) w (ToSlot k held) n = refl
written-slots (Script l) (Body d u) w (ToLink k held) n = refl
written-slots (Script l) (Body d u) w (ToBuffer b bytes) n = refl
written-slots (Script l) (Script m) w (ToRegister r v) n = ap (λ (f : FrameView). f.slots) (put-other m l _ w.scripts n)
written-slots (Script l) (Script m) w (ToSlot k held) n = ap (λ (f : FrameView). f.slots) (put-other m l _ w.scripts n)
written-slots (Script l) (Script m) w (ToLink k held) n = refl
written-slots (Script l) (Script m) w (ToBuffer b bytes) n = refl
written-slots x Nobody w y n = refl
written-slots Nobody (Body d u) w y n = refl
written-slots Nobody (Script m) w y n = refl

all-written-slots : (x a : Actor) (w : Scene) (ys : List Write) → Apart x a ⊎ (ys ≡ []) → slots_of x (fold (written a) w ys) ≡ slots_of x w
all-written-slots x a w [] n = refl
all-written-slots x a w (y ∷ ys) (inl n) = all-written-slots x a (written a w y) ys (inl n) ∙ written-slots x a w y n
all-written-slots x a w (y ∷ ys) (inr n) = cc

put-slots : (k j : ℕ) (x : FrameView) (f : ℕ → FrameView) → x.slots ≡ (f k).slots → (put k x f j).slots ≡ (f j).slots
put-slots k j x f e =
    elim (j == k) as (λ t. (j == k) ≡ t → (cond t x (f j)).slots ≡ (f j).slots) [
      | true ↦ λ z. subst (λ (n : ℕ). x.slots ≡ (f n).slots) (sym (eqb-true j k z)) e
      | false ↦ λ z. refl
    ] refl

framed-slots : (s : Scenario) (S B : ℕ → RefValue → Type 0) (I L : Type 0) (x a : Actor) (r : Outcome) (w : Scene) → OutBy s S B I L a w (Some r) → slots_of x (with_frame a r w) ≡ slots_of x w
framed-slots s S B I L (Body c o) (Body d u) r w p = put-slots d c r.frame w.bodies p.slots
framed-slots s S B I L (Body c o) (Script m) r w p = refl
framed-slots s S B I L (Script l) (Script m) r w p = put-slots m l r.frame w.scripts p.slots
framed-slots s S B I L (Script l) (Body d u) r w p = refl
framed-slots s S B I L Nobody a r w p = refl
framed-slots s S B I L x Nobody r w p = absurd p

wants-slots : (x : Actor) (y : Action) (d : Deed) (w : Scene) → slots_of x (wants y d w) ≡ slots_of x w
wants-slots (Body c o) (action.Call held i m args to) (deed.Out k u j n r z bytes) w = refl
wants-slots (Script l) (action.Call held i m args to) (deed.Out k u j n r z bytes) w = refl
wants-slots Nobody y d w = refl
wants-slots x (action.Call held i m args to) d w = refl
wants-slots x y d w = refl

-- Who acts either writes nothing or is another.
abbrev pub StillBy : Actor → Actor → Option Outcome → Deed → Type 0
StillBy x a None d = Unit {0}
StillBy x a (Some r) d = Apart x a ⊎ (writes r.action d ≡ [])

pub acted-slots : (s : Scenario) (S B : ℕ → RefValue → Type 0) (I L : Type 0) (x a : Actor) (r : Option Outcome) (d : Deed) (w : Scene) → OutBy s S B I L a w r → StillBy x a r d → slots_of x (acted a r d w) ≡ slots_of x w
acted-slots s S B I L x a None d w p n = refl
acted-slots s S B I L x a (Some r) d w p n =
    wants-slots x r.action d (fold (written a) (with_frame a r w) (writes r.action d)) ∙ all-written-slots x a (with_frame a r w) (writes r.action d) n ∙ framed-slots s S B I L x a r w p

-- What arrives is for another.
abbrev pub OtherThan : Actor → Actor → ℕ → Deed → Type 0
OtherThan x b l (deed.Enter c o a t vs) = Apart x (Body c o)
OtherThan x b l (deed.Leave c hr v bytes) = Apart x (Body c 0)
OtherThan x b l (deed.Back c hr v) = Apart x b
OtherThan x b l deed.EndPump = Apart x b
OtherThan x b l (deed.Uninit a n) = Apart x (Script l)
OtherThan x b l _ = Unit {0}

entered-slots : (x : Actor) (c o : ℕ) (f : FrameView) (w : Scene) → Apart x (Body c o) → slots_of x (record w { bodies = put c f w.bodies }) ≡ slots_of x w
entered-slots (Body d u) c o f w n = ap (λ (g : FrameView). g.slots) (put-other c d f w.bodies n)
entered-slots (Script l) c o f w n = refl
entered-slots Nobody c o f w n = refl

script-slots : (x : Actor) (l : ℕ) (f : FrameView) (w : Scene) → Apart x (Script l) → slots_of x (record w { scripts = put l f w.scripts }) ≡ slots_of x w
script-slots (Body d u) l f w n = refl
script-slots (Script m) l f w n = ap (λ (g : FrameView). g.slots) (put-other l m f w.scripts n)
script-slots Nobody l f w n = refl

cells-slots : (x : Actor) (f : ℕ → Cells) (w : Scene) → slots_of x (record w { cells = f }) ≡ slots_of x w
cells-slots (Body d u) f w = refl
cells-slots (Script m) f w = refl
cells-slots Nobody f w = refl

pub arrived-slots : (x b : Actor) (l : ℕ) (d : Deed) (w : Scene) → OtherThan x b l d → slots_of x (arrived b l d w) ≡ slots_of x w
arrived-slots x b l (deed.Enter c o a t vs) w n = entered-slots x c o (entered vs) w n
arrived-slots x b l (deed.Leave c hr v bytes) w n = entered-slots x c 0 (entered []) w n
arrived-slots x b l (deed.Back c hr v) w n = all-written-slots x b w (to_answer hr ∷ to_destination (w.destinations c) v) (inl n)
arrived-slots x b l deed.EndPump w n = written-slots x b w (to_answer S_OK) n
arrived-slots x b l (deed.Uninit a zero) w n = script-slots x l _ w n
arrived-slots x b l (deed.Uninit a (suc m)) w n = refl
arrived-slots x b l (deed.Final o) w n = cells-slots x _ w
arrived-slots x b l _ w n = refl

pub cut-slots : (x : Actor) (n : ℕ → ℕ) (y : Option ℕ) (w : Scene) → slots_of x (cut_links n y w) ≡ slots_of x w
cut-slots x n None w = refl
cut-slots x n (Some a) w = cells-slots x _ w
