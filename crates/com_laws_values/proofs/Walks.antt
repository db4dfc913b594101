-- References that pass a test and texts of characters. A body step keeps them so, and its action has none but such, where the
-- statements have no reference as a literal and only such texts.
use Rattle.std.proofs.Common.{arith}
use Rattle.std.proofs.lemmas.List.Elements.{All-set, All-map, All-drop, All-append, All-replicate, All-cons, All-nil}
use Rattle.std.proofs.lemmas.Grind.{common_steps}
use Rattle.std.specs.Prelude.{ℕ, zero, suc, ◌+◌, ◌≤◌, pos, List, [], ◌∷◌, length, drop, Option, Some, None, All}
use Rattle.com_base.specs.declared.limits.TheConstants.{LITERAL_LIMIT}
use Rattle.com_base.specs.declared.value.RefValue.{RefValue}
use Rattle.com_base.specs.declared.value.Value.{Value}
use Rattle.com_base.specs.declared.value.Value.TheVariants as value
use Rattle.com_body.specs.declared.operands.Op.{Op}
use Rattle.com_body.specs.declared.operands.Op.TheVariants as op
use Rattle.com_body.specs.declared.operands.Place.{Place}
use Rattle.com_body.specs.declared.operands.Place.TheVariants as place
use Rattle.com_body.specs.declared.operands.Arg.{Arg}
use Rattle.com_body.specs.declared.operands.Arg.TheVariants as arg
use Rattle.com_body.specs.declared.operands.Given.{Given}
use Rattle.com_body.specs.declared.operands.Given.TheVariants as given
use Rattle.com_body.specs.declared.statements.Stmt.{Stmt}
use Rattle.com_body.specs.declared.statements.Stmt.TheVariants as stmt
use Rattle.com_body.specs.declared.actions.Action.{Action}
use Rattle.com_body.specs.declared.actions.Action.TheVariants as action
use Rattle.com_body.specs.declared.frame.Cells.{Cells}
use Rattle.com_body.specs.declared.frame.Outcome.{Outcome}
use Rattle.com_body.specs.Frames.{FrameView, with_register, moved, entered, plain_values, references, no_number}
use Rattle.com_body.specs.Operands.{slot_of, value_of, held_at, argument_of, given_value}
use Rattle.com_body.specs.BodySteps.{Effect, Goes, Acts, effect_of, walk, body_step}
use Rattle.com_model.proofs.Goods.{all-of, all-or}
use Rattle.com_laws_values.specs.Held.{IsCharacters, HeldBy, ValueBy, ResultBy, FrameBy}

abbrev pub LinksBy : (R : RefValue → Type 0) → Cells → Type 0
LinksBy R c = All (HeldBy R) c.links

abbrev pub ActionBy : (R : RefValue → Type 0) → Action → Type 0
ActionBy R (action.Query to held i) = HeldBy R held
ActionBy R (action.Copy to held) = HeldBy R held
ActionBy R (action.Release from held) = HeldBy R held
ActionBy R (action.Call held i method args to) = HeldBy R held × All (ValueBy R) args
ActionBy R (action.Marshal b held mode) = HeldBy R held
ActionBy R (action.Register to held) = HeldBy R held
ActionBy R (action.Disconnect held) = HeldBy R held
ActionBy R (action.Leave hr v) = ResultBy R v
ActionBy R _ = Unit {0}

pub record OutcomeBy (R : RefValue → Type 0) (r : Outcome) : Type 0 where
  pub frame : FrameBy R r.frame
  pub cells : LinksBy R r.cells
  pub action : ActionBy R r.action

-- What passes one test passes another that follows from it.
pub more-held : (P Q : RefValue → Type 0) → ((r : RefValue) → P r → Q r) → (x : Option RefValue) → HeldBy P x → HeldBy Q x
more-held P Q f None p = tt
more-held P Q f (Some r) p = f r p

pub more-value : (P Q : RefValue → Type 0) → ((r : RefValue) → P r → Q r) → (v : Value) → ValueBy P v → ValueBy Q v
more-value P Q f (value.Ref held) p = more-held P Q f held p
more-value P Q f (value.Int x) p = tt
more-value P Q f (value.Bool x) p = tt
more-value P Q f (value.Text x) p = p
more-value P Q f (value.Bytes x) p = p
more-value P Q f (value.Guid x) p = tt

pub more-result : (P Q : RefValue → Type 0) → ((r : RefValue) → P r → Q r) → (v : Option Value) → ResultBy P v → ResultBy Q v
more-result P Q f None p = tt
more-result P Q f (Some v) p = more-value P Q f v p

pub more-frame : (P Q : RefValue → Type 0) → ((r : RefValue) → P r → Q r) → (f : FrameView) → FrameBy P f → FrameBy Q f
more-frame P Q g f p = record { registers = all-of (ValueBy P) (ValueBy Q) (more-value P Q g) f.registers p.registers; slots = all-of (HeldBy P) (HeldBy Q) (more-held P Q g) f.slots p.slots }

pub more-links : (P Q : RefValue → Type 0) → ((r : RefValue) → P r → Q r) → (c : Cells) → LinksBy P c → LinksBy Q c
more-links P Q g c p = all-of (HeldBy P) (HeldBy Q) (more-held P Q g) c.links p

pub more-action : (P Q : RefValue → Type 0) → ((r : RefValue) → P r → Q r) → (x : Action) → ActionBy P x → ActionBy Q x
more-action P Q f (action.Query to held i) p = more-held P Q f held p
more-action P Q f (action.Copy to held) p = more-held P Q f held p
more-action P Q f (action.Release from held) p = more-held P Q f held p
more-action P Q f (action.Call held i y args to) p = (more-held P Q f held p.0, all-of (ValueBy P) (ValueBy Q) (more-value P Q f) args p.1)
more-action P Q f (action.Marshal b held y) p = more-held P Q f held p
more-action P Q f (action.Register to held) p = more-held P Q f held p
more-action P Q f (action.Disconnect held) p = more-held P Q f held p
more-action P Q f (action.Leave hr v) p = more-result P Q f v p
more-action P Q f _ p = tt

-- ---- statements without references as literals, and with texts of characters

abbrev pub IsPlain : Value → Type 0
IsPlain (value.Ref held) = ⊥
IsPlain (value.Text t) = IsCharacters t × (length t ≤ LITERAL_LIMIT)
IsPlain (value.Bytes t) = length t ≤ LITERAL_LIMIT
IsPlain _ = Unit {0}

abbrev pub CleanOp : Op → Type 0
CleanOp (op.Register r) = Unit {0}
CleanOp (op.Literal v) = IsPlain v

abbrev pub CleanArg : Arg → Type 0
CleanArg (arg.Op o) = CleanOp o
CleanArg _ = Unit {0}

abbrev pub CleanGiven : Given → Type 0
CleanGiven (given.Op o) = CleanOp o
CleanGiven _ = Unit {0}

abbrev pub Clean : Stmt → Type 0
Clean (stmt.Set to from) = CleanOp from
Clean (stmt.Call slot i m args to) = All CleanArg args
Clean (stmt.Leave code v) = CleanGiven v
Clean _ = Unit {0}

-- ---- operands

plain-by : (R : RefValue → Type 0) (v : Value) → IsPlain v → ValueBy R v
plain-by R (value.Ref held) p = absurd p
plain-by R (value.Int x) p = tt
plain-by R (value.Bool x) p = tt
plain-by R (value.Text x) p = p
plain-by R (value.Bytes x) p = p
plain-by R (value.Guid x) p = tt

value-by : (R : RefValue → Type 0) (f : FrameView) (o : Op) → FrameBy R f → CleanOp o → ValueBy R (value_of f o)
value-by R f (op.Register r) g p = all-or (ValueBy R) f.registers r (value.Int (pos 0)) tt g.registers
value-by R f (op.Literal v) g p = plain-by R v p

slot-by : (R : RefValue → Type 0) (f : FrameView) (k : ℕ) → FrameBy R f → HeldBy R (slot_of f k)
slot-by R f k g = all-or (HeldBy R) f.slots k None tt g.slots

place-by : (R : RefValue → Type 0) (f : FrameView) (c : Cells) (x : Place) → FrameBy R f → LinksBy R c → HeldBy R (held_at f c x)
place-by R f c (place.Slot k) g e = slot-by R f k g
place-by R f c (place.Link k) g e = all-or (HeldBy R) c.links k None tt e

argument-by : (R : RefValue → Type 0) (f : FrameView) (a : Arg) → FrameBy R f → CleanArg a → ValueBy R (argument_of f a)
argument-by R f (arg.Op o) g p = value-by R f o g p
argument-by R f (arg.Slot k) g p = slot-by R f k g
argument-by R f arg.Null g p = tt

given-by : (R : RefValue → Type 0) (f : FrameView) (x : Given) → FrameBy R f → CleanGiven x → ResultBy R (given_value f x)
given-by R f given.Nothing g p = tt
given-by R f (given.Op o) g p = value-by R f o g p
given-by R f (given.Slot k) g p = slot-by R f k g

-- ---- one statement

abbrev EffectBy : (R : RefValue → Type 0) → Effect → Type 0
EffectBy R (Goes f c k) = FrameBy R f × LinksBy R c
EffectBy R (Acts a) = ActionBy R a

pub register-by : (R : RefValue → Type 0) (f : FrameView) (r : ℕ) (v : Value) → FrameBy R f → ValueBy R v → FrameBy R (with_register f r v)
register-by R f r v g p = record { registers = All-set (ValueBy R) f.registers r v p g.registers; slots = g.slots }

effect-by : (R : RefValue → Type 0) (f : FrameView) (c : Cells) (s : Stmt) → FrameBy R f → LinksBy R c → Clean s → EffectBy R (effect_of f c s)
effect-by R f c (stmt.Set to from) g e p = (register-by R f to (value_of f from) g (value-by R f from g p), e)
effect-by R f c (stmt.Add to from) g e p = (register-by R f to _ g tt, e)
effect-by R f c (stmt.Sub to from) g e p = (register-by R f to _ g tt, e)
effect-by R f c (stmt.Less to left right) g e p = (register-by R f to _ g tt, e)
effect-by R f c (stmt.Same to left right) g e p = (register-by R f to _ g tt, e)
effect-by R f c (stmt.Load to cell) g e p = (register-by R f to _ g tt, e)
effect-by R f c (stmt.Store cell from) g e p = (g, e)
effect-by R f c (stmt.Skip k) g e p = (g, e)
effect-by R f c (stmt.SkipZero r k) g e p = (g, e)
effect-by R f c (stmt.Create slot k i) g e p = tt
effect-by R f c (stmt.Query to from i) g e p = slot-by R f from g
effect-by R f c (stmt.Copy to from) g e p = place-by R f c from g e
effect-by R f c (stmt.Release from) g e p = place-by R f c from g e
effect-by R f c (stmt.Call slot i method args to) g e p = (slot-by R f slot g, All-map (ValueBy R) (argument_of f) args (all-of CleanArg (λ a. ValueBy R (argument_of f a)) (λ a q. argument-by R f a g q) args p))
effect-by R f c (stmt.Marshal b slot mode) g e p = slot-by R f slot g
effect-by R f c (stmt.Unmarshal slot b) g e p = tt
effect-by R f c (stmt.Drop b) g e p = tt
effect-by R f c (stmt.Raw b bytes) g e p = tt
effect-by R f c (stmt.Register to slot) g e p = slot-by R f slot g
effect-by R f c (stmt.Get slot cookie) g e p = tt
effect-by R f c (stmt.Revoke cookie) g e p = tt
effect-by R f c (stmt.Disconnect slot) g e p = slot-by R f slot g
effect-by R f c (stmt.Post lane word) g e p = tt
effect-by R f c (stmt.Quit lane) g e p = tt
effect-by R f c (stmt.Leave code v) g e p = given-by R f v g p
effect-by R f c (stmt.Init mode) g e p = tt
effect-by R f c stmt.Uninit g e p = tt
effect-by R f c (stmt.SetFilter x) g e p = tt
effect-by R f c (stmt.Pump k) g e p = tt

-- ---- a body step

moved-by : (R : RefValue → Type 0) (f : FrameView) (k : ℕ) → FrameBy R f → FrameBy R (moved f k)
moved-by R f k g = record { registers = g.registers; slots = g.slots }

pub all-head : {X : Type 0} (P : X → Type 0) (x : X) (xs : List X) → All P (x ∷ xs) → P x
all-head P x xs p = p 0 x (grind (arith, common_steps))

pub all-tail : {X : Type 0} (P : X → Type 0) (x : X) (xs : List X) → All P (x ∷ xs) → All P xs
all-tail P x xs p = λ k d h. p (suc k) d (grind (arith, common_steps, h))

abbrev Walks : (R : RefValue → Type 0) → List Stmt → Type 0
Walks R xs = (k : ℕ) (f : FrameView) (c : Cells) → FrameBy R f → LinksBy R c → OutcomeBy R (walk xs k f c)

stepped-by : (R : RefValue → Type 0) (xs : List Stmt) (f : FrameView) (c : Cells) (e : Effect) → FrameBy R f → LinksBy R c → Walks R xs → EffectBy R e → OutcomeBy R (elim e [ Goes g d k ↦ walk xs k (moved g (k + 1)) d | Acts a ↦ record { frame = moved f 1; cells = c; action = a } ])
stepped-by R xs f c (Goes g d k) gf gc w p = w k (moved g (k + 1)) d (moved-by R g (k + 1) p.0) p.1
stepped-by R xs f c (Acts a) gf gc w p = record { frame = moved-by R f 1 gf; cells = gc; action = p }

walk-by : (R : RefValue → Type 0) (xs : List Stmt) → All Clean xs → Walks R xs
walk-by R [] p k f c g e = record { frame = g; cells = e; action = tt }
walk-by R (s ∷ xs) p (suc k) f c g e = walk-by R xs (all-tail Clean s xs p) k f c g e
walk-by R (s ∷ xs) p zero f c g e = stepped-by R xs f c (effect_of f c s) g e (walk-by R xs (all-tail Clean s xs p)) (effect-by R f c s g e (all-head Clean s xs p))

pub step-by : (R : RefValue → Type 0) (xs : List Stmt) (f : FrameView) (c : Cells) → All Clean xs → FrameBy R f → LinksBy R c → OutcomeBy R (body_step xs f c)
step-by R xs f c p g e = walk-by R (drop f.place xs) (All-drop Clean f.place xs p) 0 f c g e

-- ---- a frame at its beginning

plain-all : (R : RefValue → Type 0) (vs : List Value) → All (ValueBy R) vs → All (ValueBy R) (plain_values vs)
plain-all R [] p = p
plain-all R (value.Ref held ∷ vs) p = plain-all R vs (all-tail (ValueBy R) (value.Ref held) vs p)
plain-all R (value.Int x ∷ vs) p = All-cons (ValueBy R) (value.Int x) (plain_values vs) tt (plain-all R vs (all-tail (ValueBy R) (value.Int x) vs p))
plain-all R (value.Bool x ∷ vs) p = All-cons (ValueBy R) (value.Bool x) (plain_values vs) tt (plain-all R vs (all-tail (ValueBy R) (value.Bool x) vs p))
plain-all R (value.Text x ∷ vs) p = All-cons (ValueBy R) (value.Text x) (plain_values vs) (all-head (ValueBy R) (value.Text x) vs p) (plain-all R vs (all-tail (ValueBy R) (value.Text x) vs p))
plain-all R (value.Bytes x ∷ vs) p = All-cons (ValueBy R) (value.Bytes x) (plain_values vs) (all-head (ValueBy R) (value.Bytes x) vs p) (plain-all R vs (all-tail (ValueBy R) (value.Bytes x) vs p))
plain-all R (value.Guid x ∷ vs) p = All-cons (ValueBy R) (value.Guid x) (plain_values vs) tt (plain-all R vs (all-tail (ValueBy R) (value.Guid x) vs p))

references-all : (R : RefValue → Type 0) (vs : List Value) → All (ValueBy R) vs → All (HeldBy R) (references vs)
references-all R [] p = All-nil (HeldBy R)
references-all R (value.Ref held ∷ vs) p = All-cons (HeldBy R) held (references vs) (all-head (ValueBy R) (value.Ref held) vs p) (references-all R vs (all-tail (ValueBy R) (value.Ref held) vs p))
references-all R (value.Int x ∷ vs) p = references-all R vs (all-tail (ValueBy R) (value.Int x) vs p)
references-all R (value.Bool x ∷ vs) p = references-all R vs (all-tail (ValueBy R) (value.Bool x) vs p)
references-all R (value.Text x ∷ vs) p = references-all R vs (all-tail (ValueBy R) (value.Text x) vs p)
references-all R (value.Bytes x ∷ vs) p = references-all R vs (all-tail (ValueBy R) (value.Bytes x) vs p)
references-all R (value.Guid x ∷ vs) p = references-all R vs (all-tail (ValueBy R) (value.Guid x) vs p)

pub entered-by : (R : RefValue → Type 0) (vs : List Value) → All (ValueBy R) vs → FrameBy R (entered vs)
entered-by R vs p = record {
  registers = All-append (ValueBy R) (plain_values vs) _ (plain-all R vs p) (All-replicate (ValueBy R) _ no_number tt);
  slots = All-append (HeldBy R) (references vs) _ (references-all R vs p) (All-replicate (HeldBy R) _ None tt);
}
