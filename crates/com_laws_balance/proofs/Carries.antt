-- References that pass a test, in frames, links and values. A body step keeps slots and links, and its action has but references
-- of the slots and links, where registers hold none.
use Rattle.std.proofs.Common.{subst, sym, ◌∙◌, arith}
use Rattle.std.proofs.lemmas.List.Elements.{All-set, All-map, All-drop, All-append, All-replicate, All-cons, All-nil}
use Rattle.std.proofs.lemmas.Grind.{common_steps}
use Rattle.std.specs.Prelude.{◌≡◌, refl, ℕ, zero, suc, ◌+◌, pos, List, [], ◌∷◌, drop, Option, Some, None, All}
use Rattle.com_base.specs.declared.value.RefValue.{RefValue}
use Rattle.com_base.specs.declared.value.Kind.{Kind}
use Rattle.com_base.specs.declared.value.Kind.TheVariants as kind
use Rattle.com_base.specs.declared.value.Value.{Value}
use Rattle.com_base.specs.declared.value.Value.TheVariants as value
use Rattle.com_body.specs.declared.operands.Op.{Op}
use Rattle.com_body.specs.declared.operands.Op.TheVariants as op
use Rattle.com_body.specs.declared.operands.Place.{Place}
use Rattle.com_body.specs.declared.operands.Place.TheVariants as place
use Rattle.com_body.specs.declared.operands.Arg.{Arg}
use Rattle.com_body.specs.declared.operands.Arg.TheVariants as arg
use Rattle.com_body.specs.declared.operands.Given.{Given}
use Rattle.com_body.specs.declared.operands.Given.TheVariants as given
use Rattle.com_body.specs.declared.operands.Destination.{Destination}
use Rattle.com_body.specs.declared.operands.Destination.TheVariants as destination
use Rattle.com_body.specs.declared.statements.Stmt.{Stmt}
use Rattle.com_body.specs.declared.statements.Stmt.TheVariants as stmt
use Rattle.com_body.specs.declared.actions.Action.{Action}
use Rattle.com_body.specs.declared.actions.Action.TheVariants as action
use Rattle.com_body.specs.declared.frame.Cells.{Cells}
use Rattle.com_body.specs.declared.frame.Outcome.{Outcome}
use Rattle.com_body.specs.Frames.{FrameView, with_register, moved, entered, plain_values, references, no_number}
use Rattle.com_body.specs.Operands.{slot_of, value_of, held_at, argument_of, given_value}
use Rattle.com_body.specs.BodySteps.{Effect, Goes, Acts, effect_of, walk, body_step}
use Rattle.com_classes.specs.Lookups.{method_at}
use Rattle.com_model.specs.declared.scenario.Scenario.{Scenario}
use Rattle.com_model.specs.Tables.{result_kind}
use Rattle.com_model.proofs.Goods.{IsPlain, CleanOp, CleanArg, CleanGiven, all-of, all-or}

abbrev pub HeldBy : (RefValue → Type 0) → Option RefValue → Type 0
HeldBy P None = Unit {0}
HeldBy P (Some r) = P r

abbrev pub ValueBy : (RefValue → Type 0) → Value → Type 0
ValueBy P (value.Ref held) = HeldBy P held
ValueBy P _ = Unit {0}

abbrev pub ResultBy : (RefValue → Type 0) → Option Value → Type 0
ResultBy P None = Unit {0}
ResultBy P (Some v) = ValueBy P v

-- Where links may be written, L holds; where a home may begin and end, I.
abbrev pub PlaceBy : Type 0 → Place → Type 0
PlaceBy L (place.Slot k) = Unit {0}
PlaceBy L (place.Link k) = L

-- A register takes no reference.
abbrev pub PlainKind : Option Kind → Type 0
PlainKind (Some (kind.Ref i)) = ⊥
PlainKind _ = Unit {0}

abbrev pub FitsTo : Option Kind → Destination → Type 0
FitsTo k (destination.Register n) = PlainKind k
FitsTo k _ = Unit {0}

abbrev pub Orderly : Scenario → Type 0 → Type 0 → Stmt → Type 0
Orderly s I L (stmt.Set to from) = CleanOp from
Orderly s I L (stmt.Copy to from) = PlaceBy L to
Orderly s I L (stmt.Call slot i m args to) = All CleanArg args × FitsTo (result_kind (method_at s.classes i m)) to
Orderly s I L (stmt.Leave code v) = CleanGiven v
Orderly s I L (stmt.Init mode) = I
Orderly s I L stmt.Uninit = I
Orderly s I L _ = Unit {0}

abbrev pub ActionBy : Scenario → Type 0 → Type 0 → (RefValue → Type 0) → Action → Type 0
ActionBy s I L P (action.Query to held i) = HeldBy P held
ActionBy s I L P (action.Copy to held) = HeldBy P held × PlaceBy L to
ActionBy s I L P (action.Call held i m args to) = All (ValueBy P) args × FitsTo (result_kind (method_at s.classes i m)) to
ActionBy s I L P (action.Leave hr v) = ResultBy P v
ActionBy s I L P (action.Init mode) = I
ActionBy s I L P action.Uninit = I
ActionBy s I L P _ = Unit {0}

pub record FrameBy (P : RefValue → Type 0) (f : FrameView) : Type 0 where
  pub registers : All IsPlain f.registers
  pub slots : All (HeldBy P) f.slots

pub record OutcomeBy (s : Scenario) (I L : Type 0) (P : RefValue → Type 0) (f : FrameView) (c : Cells) (r : Outcome) : Type 0 where
  pub registers : All IsPlain r.frame.registers
  pub slots : r.frame.slots ≡ f.slots
  pub links : r.cells.links ≡ c.links
  pub action : ActionBy s I L P r.action

-- ---- operands

plain-by : (P : RefValue → Type 0) (v : Value) → IsPlain v → ValueBy P v
plain-by P (value.Ref held) p = absurd p
plain-by P (value.Int x) p = tt
plain-by P (value.Bool x) p = tt
plain-by P (value.Text x) p = tt
plain-by P (value.Bytes x) p = tt
plain-by P (value.Guid x) p = tt

value-plain : (f : FrameView) (o : Op) → All IsPlain f.registers → CleanOp o → IsPlain (value_of f o)
value-plain f (op.Register r) g p = all-or IsPlain f.registers r (value.Int (pos 0)) tt g
value-plain f (op.Literal v) g p = p

slot-by : (P : RefValue → Type 0) (f : FrameView) (k : ℕ) → FrameBy P f → HeldBy P (slot_of f k)
slot-by P f k g = all-or (HeldBy P) f.slots k None tt g.slots

place-by : (P : RefValue → Type 0) (f : FrameView) (c : Cells) (x : Place) → FrameBy P f → All (HeldBy P) c.links → HeldBy P (held_at f c x)
place-by P f c (place.Slot k) g e = slot-by P f k g
place-by P f c (place.Link k) g e = all-or (HeldBy P) c.links k None tt e

pub argument-by : (P : RefValue → Type 0) (f : FrameView) (a : Arg) → FrameBy P f → CleanArg a → ValueBy P (argument_of f a)
argument-by P f (arg.Op o) g p = plain-by P (value_of f o) (value-plain f o g.registers p)
argument-by P f (arg.Slot k) g p = slot-by P f k g
argument-by P f arg.Null g p = tt

given-by : (P : RefValue → Type 0) (f : FrameView) (x : Given) → FrameBy P f → CleanGiven x → ResultBy P (given_value f x)
given-by P f given.Nothing g p = tt
given-by P f (given.Op o) g p = plain-by P (value_of f o) (value-plain f o g.registers p)
given-by P f (given.Slot k) g p = slot-by P f k g

-- ---- one statement

abbrev pub EffectBy : Scenario → Type 0 → Type 0 → (RefValue → Type 0) → FrameView → Cells → Effect → Type 0
EffectBy s I L P f c (Goes g d k) = All IsPlain g.registers × (g.slots ≡ f.slots) × (d.links ≡ c.links)
EffectBy s I L P f c (Acts a) = ActionBy s I L P a

register-plain : (f : FrameView) (r : ℕ) (v : Value) → All IsPlain f.registers → IsPlain v → All IsPlain (with_register f r v).registers
register-plain f r v g p = All-set IsPlain f.registers r v p g

pub effect-by : (s : Scenario) (I L : Type 0) (P : RefValue → Type 0) (f : FrameView) (c : Cells) (x : Stmt) → FrameBy P f → All (HeldBy P) c.links → Orderly s I L x → EffectBy s I L P f c (effect_of f c x)
effect-by s I L P f c (stmt.Set to from) g e p = (register-plain f to (value_of f from) g.registers (value-plain f from g.registers p), refl, refl)
effect-by s I L P f c (stmt.Add to from) g e p = (register-plain f to _ g.registers tt, refl, refl)
effect-by s I L P f c (stmt.Sub to from) g e p = (register-plain f to _ g.registers tt, refl, refl)
effect-by s I L P f c (stmt.Less to left right) g e p = (register-plain f to _ g.registers tt, refl, refl)
effect-by s I L P f c (stmt.Same to left right) g e p = (register-plain f to _ g.registers tt, refl, refl)
effect-by s I L P f c (stmt.Load to cell) g e p = (register-plain f to _ g.registers tt, refl, refl)
effect-by s I L P f c (stmt.Store cell from) g e p = (g.registers, refl, refl)
effect-by s I L P f c (stmt.Skip k) g e p = (g.registers, refl, refl)
effect-by s I L P f c (stmt.SkipZero r k) g e p = (g.registers, refl, refl)
effect-by s I L P f c (stmt.Create slot k i) g e p = tt
effect-by s I L P f c (stmt.Query to from i) g e p = slot-by P f from g
effect-by s I L P f c (stmt.Copy to from) g e p = (place-by P f c from g e, p)
effect-by s I L P f c (stmt.Release from) g e p = tt
effect-by s I L P f c (stmt.Call slot i method args to) g e p = (All-map (ValueBy P) (argument_of f) args (all-of CleanArg (λ a. ValueBy P (argument_of f a)) (λ a q. argument-by P f a g q) args p.0), p.1)
effect-by s I L P f c (stmt.Marshal b slot mode) g e p = tt
effect-by s I L P f c (stmt.Unmarshal slot b) g e p = tt
effect-by s I L P f c (stmt.Drop b) g e p = tt
effect-by s I L P f c (stmt.Raw b bytes) g e p = tt
effect-by s I L P f c (stmt.Register to slot) g e p = tt
effect-by s I L P f c (stmt.Get slot cookie) g e p = tt
effect-by s I L P f c (stmt.Revoke cookie) g e p = tt
effect-by s I L P f c (stmt.Disconnect slot) g e p = tt
effect-by s I L P f c (stmt.Post lane word) g e p = tt
effect-by s I L P f c (stmt.Quit lane) g e p = tt
effect-by s I L P f c (stmt.Leave code v) g e p = given-by P f v g p
effect-by s I L P f c (stmt.Init mode) g e p = p
effect-by s I L P f c stmt.Uninit g e p = p
effect-by s I L P f c (stmt.SetFilter x) g e p = tt
effect-by s I L P f c (stmt.Pump k) g e p = tt

-- ---- a body step

pub all-head : {X : Type 0} (P : X → Type 0) (x : X) (xs : List X) → All P (x ∷ xs) → P x
all-head P x xs p = p 0 x (grind (arith, common_steps))

pub all-tail : {X : Type 0} (P : X → Type 0) (x : X) (xs : List X) → All P (x ∷ xs) → All P xs
all-tail P x xs p = λ k d h. p (suc k) d (grind (arith, common_steps, h))

same-all : {X : Type 0} (P : X → Type 0) (xs ys : List X) → ys ≡ xs → All P xs → All P ys
same-all P xs ys e p = subst (λ (zs : List _). All P zs) (sym e) p

abbrev Walks : Scenario → Type 0 → Type 0 → (RefValue → Type 0) → FrameView → Cells → List Stmt → Type 0
Walks s I L P f c xs = (k : ℕ) (g : FrameView) (d : Cells) → All IsPlain g.registers → g.slots ≡ f.slots → d.links ≡ c.links → OutcomeBy s I L P f c (walk xs k g d)

stepped-by : (s : Scenario) (I L : Type 0) (P : RefValue → Type 0) (xs : List Stmt) (f g : FrameView) (c d : Cells) (e : Effect) → All IsPlain g.registers → g.slots ≡ f.slots → d.links ≡ c.links → Walks s I L P f c xs → EffectBy s I L P g d e → OutcomeBy s I L P f c (elim e [ Goes u x k ↦ walk xs k (moved u (k + 1)) x | Acts a ↦ record { frame = moved g 1; cells = d; action = a } ])
stepped-by s I L P xs f g c d (Goes u x k) r m n w p = w k (moved u (k + 1)) x p.0 (p.1 ∙ m) (p.2 ∙ n)
stepped-by s I L P xs f g c d (Acts a) r m n w p = record { registers = r; slots = m; links = n; action = p }

walk-by : (s : Scenario) (I L : Type 0) (P : RefValue → Type 0) (f : FrameView) (c : Cells) (xs : List Stmt) → FrameBy P f → All (HeldBy P) c.links → All (Orderly s I L) xs → Walks s I L P f c xs
walk-by s I L P f c [] fb lb p k g d r m n = record { registers = r; slots = m; links = n; action = tt }
walk-by s I L P f c (x ∷ xs) fb lb p (suc k) g d r m n = walk-by s I L P f c xs fb lb (all-tail (Orderly s I L) x xs p) k g d r m n
walk-by s I L P f c (x ∷ xs) fb lb p zero g d r m n =
    stepped-by s I L P xs f g c d (effect_of g d x) r m n (walk-by s I L P f c xs fb lb (all-tail (Orderly s I L) x xs p))
    (effect-by s I L P g d x (record { registers = r; slots = same-all (HeldBy P) f.slots g.slots m fb.slots }) (same-all (HeldBy P) c.links d.links n lb) (all-head (Orderly s I L) x xs p))

pub step-by : (s : Scenario) (I L : Type 0) (P : RefValue → Type 0) (xs : List Stmt) (f : FrameView) (c : Cells) → All (Orderly s I L) xs → FrameBy P f → All (HeldBy P) c.links → OutcomeBy s I L P f c (body_step xs f c)
step-by s I L P xs f c p g e = walk-by s I L P f c (drop f.place xs) g e (All-drop (Orderly s I L) f.place xs p) 0 f c g.registers refl refl

-- ---- a frame at its beginning

plain-all : (vs : List Value) → All IsPlain (plain_values vs)
plain-all [] = All-nil IsPlain
plain-all (value.Ref held ∷ vs) = plain-all vs
plain-all (value.Int x ∷ vs) = All-cons IsPlain (value.Int x) (plain_values vs) tt (plain-all vs)
plain-all (value.Bool x ∷ vs) = All-cons IsPlain (value.Bool x) (plain_values vs) tt (plain-all vs)
plain-all (value.Text x ∷ vs) = All-cons IsPlain (value.Text x) (plain_values vs) tt (plain-all vs)
plain-all (value.Bytes x ∷ vs) = All-cons IsPlain (value.Bytes x) (plain_values vs) tt (plain-all vs)
plain-all (value.Guid x ∷ vs) = All-cons IsPlain (value.Guid x) (plain_values vs) tt (plain-all vs)

references-all : (P : RefValue → Type 0) (vs : List Value) → All (ValueBy P) vs → All (HeldBy P) (references vs)
references-all P [] p = All-nil (HeldBy P)
references-all P (value.Ref held ∷ vs) p = All-cons (HeldBy P) held (references vs) (all-head (ValueBy P) (value.Ref held) vs p) (references-all P vs (all-tail (ValueBy P) (value.Ref held) vs p))
references-all P (value.Int x ∷ vs) p = references-all P vs (all-tail (ValueBy P) (value.Int x) vs p)
references-all P (value.Bool x ∷ vs) p = references-all P vs (all-tail (ValueBy P) (value.Bool x) vs p)
references-all P (value.Text x ∷ vs) p = references-all P vs (all-tail (ValueBy P) (value.Text x) vs p)
references-all P (value.Bytes x ∷ vs) p = references-all P vs (all-tail (ValueBy P) (value.Bytes x) vs p)
references-all P (value.Guid x ∷ vs) p = references-all P vs (all-tail (ValueBy P) (value.Guid x) vs p)

pub entered-by : (P : RefValue → Type 0) (vs : List Value) → All (ValueBy P) vs → FrameBy P (entered vs)
entered-by P vs p = record {
  registers = All-append IsPlain (plain_values vs) _ (plain-all vs) (All-replicate IsPlain _ no_number tt);
  slots = All-append (HeldBy P) (references vs) _ (references-all P vs p) (All-replicate (HeldBy P) _ None tt);
}
