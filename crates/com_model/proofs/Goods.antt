-- References that name what is there: objects that were made, by declared interfaces. A body step keeps them so, and its action
-- has none but such references, where the statements have no reference as a literal and name buffers below 64.
use Rattle.std.proofs.Common.{subst, sym, arith}
use Rattle.std.proofs.lemmas.Bool.{ltb-true, ltb-false}
use Rattle.std.proofs.lemmas.List.{get_or_past}
use Rattle.std.proofs.lemmas.List.Elements.{All-set, All-map, All-drop, All-append, All-replicate, All-cons, All-nil}
use Rattle.std.proofs.lemmas.Grind.{common_steps}
use Rattle.std.specs.Prelude.{◌≡◌, refl, ℕ, zero, suc, ◌+◌, ◌≤◌, ◌<◌, Bool, true, false, pos, List, [], ◌∷◌, length, drop, Option, Some, None, All, slice_index_or, nat_lt}
use Rattle.com_base.specs.declared.value.RefValue.{RefValue}
use Rattle.com_base.specs.declared.value.Value.{Value}
use Rattle.com_base.specs.declared.value.Value.TheVariants as value
use Rattle.com_body.specs.declared.operands.Op.{Op}
use Rattle.com_body.specs.declared.operands.Op.TheVariants as op
use Rattle.com_body.specs.declared.operands.Place.{Place}
use Rattle.com_body.specs.declared.operands.Place.TheVariants as place
use Rattle.com_body.specs.declared.operands.Arg.{Arg}
use Rattle.com_body.specs.declared.operands.Arg.TheVariants as arg
use Rattle.com_body.specs.declared.operands.Given.{Given}
use Rattle.com_body.specs.declared.operands.Given.TheVariants as given
use Rattle.com_body.specs.declared.statements.Stmt.{Stmt}
use Rattle.com_body.specs.declared.statements.Stmt.TheVariants as stmt
use Rattle.com_body.specs.declared.actions.Action.{Action}
use Rattle.com_body.specs.declared.actions.Action.TheVariants as action
use Rattle.com_body.specs.declared.frame.Cells.{Cells}
use Rattle.com_body.specs.declared.frame.Outcome.{Outcome}
use Rattle.com_body.specs.Frames.{FrameView, with_register, moved, entered, plain_values, references, no_number}
use Rattle.com_body.specs.Operands.{slot_of, value_of, held_at, argument_of, given_value}
use Rattle.com_body.specs.BodySteps.{Effect, Goes, Acts, effect_of, walk, body_step}

-- Of the first n objects, by one of the first m interfaces.
abbrev pub GoodRef : (n m : ℕ) → RefValue → Type 0
GoodRef n m r = (r.object ≤ n) × (r.iface < m)

abbrev pub GoodHeld : (n m : ℕ) → Option RefValue → Type 0
GoodHeld n m None = Unit {0}
GoodHeld n m (Some r) = GoodRef n m r

abbrev pub GoodValue : (n m : ℕ) → Value → Type 0
GoodValue n m (value.Ref held) = GoodHeld n m held
GoodValue n m _ = Unit {0}

abbrev pub GoodResult : (n m : ℕ) → Option Value → Type 0
GoodResult n m None = Unit {0}
GoodResult n m (Some v) = GoodValue n m v

pub record GoodFrame (n m : ℕ) (f : FrameView) : Type 0 where
  pub registers : All (GoodValue n m) f.registers
  pub slots : All (GoodHeld n m) f.slots

abbrev pub GoodCells : (n m : ℕ) → Cells → Type 0
GoodCells n m c = All (GoodHeld n m) c.links

abbrev pub GoodAction : (n m : ℕ) → Action → Type 0
GoodAction n m (action.Query to held i) = GoodHeld n m held
GoodAction n m (action.Copy to held) = GoodHeld n m held
GoodAction n m (action.Release from held) = GoodHeld n m held
GoodAction n m (action.Call held i method args to) = GoodHeld n m held × All (GoodValue n m) args
GoodAction n m (action.Marshal b held mode) = (b < 64) × GoodHeld n m held
GoodAction n m (action.Raw b bytes) = b < 64
GoodAction n m (action.Register to held) = GoodHeld n m held
GoodAction n m (action.Disconnect held) = GoodHeld n m held
GoodAction n m (action.Leave hr v) = GoodResult n m v
GoodAction n m _ = Unit {0}

pub record GoodOutcome (n m : ℕ) (r : Outcome) : Type 0 where
  pub frame : GoodFrame n m r.frame
  pub cells : GoodCells n m r.cells
  pub action : GoodAction n m r.action

-- What stays good when more objects are made.
pub more-ref : (n k m : ℕ) → n ≤ k → (r : RefValue) → GoodRef n m r → GoodRef k m r
more-ref n k m h r p = let a : r.object ≤ n = p.0 in (omega (arith, h, a), p.1)

pub more-held : (n k m : ℕ) → n ≤ k → (x : Option RefValue) → GoodHeld n m x → GoodHeld k m x
more-held n k m h None p = tt
more-held n k m h (Some r) p = more-ref n k m h r p

pub more-value : (n k m : ℕ) → n ≤ k → (v : Value) → GoodValue n m v → GoodValue k m v
more-value n k m h (value.Ref held) p = more-held n k m h held p
more-value n k m h (value.Int x) p = tt
more-value n k m h (value.Bool x) p = tt
more-value n k m h (value.Text x) p = tt
more-value n k m h (value.Bytes x) p = tt
more-value n k m h (value.Guid x) p = tt

pub more-result : (n k m : ℕ) → n ≤ k → (v : Option Value) → GoodResult n m v → GoodResult k m v
more-result n k m h None p = tt
more-result n k m h (Some v) p = more-value n k m h v p

pub all-of : {X : Type 0} (P Q : X → Type 0) → ((x : X) → P x → Q x) → (xs : List X) → All P xs → All Q xs
all-of P Q f xs p = λ k d h. f (slice_index_or xs k d) (p k d h)

pub more-frame : (n k m : ℕ) → n ≤ k → (f : FrameView) → GoodFrame n m f → GoodFrame k m f
more-frame n k m h f p = record { registers = all-of (GoodValue n m) (GoodValue k m) (more-value n k m h) f.registers p.registers; slots = all-of (GoodHeld n m) (GoodHeld k m) (more-held n k m h) f.slots p.slots }

pub more-cells : (n k m : ℕ) → n ≤ k → (c : Cells) → GoodCells n m c → GoodCells k m c
more-cells n k m h c p = all-of (GoodHeld n m) (GoodHeld k m) (more-held n k m h) c.links p

-- ---- statements without references as literals

abbrev pub IsPlain : Value → Type 0
IsPlain (value.Ref held) = ⊥
IsPlain _ = Unit {0}

abbrev pub CleanOp : Op → Type 0
CleanOp (op.Register r) = Unit {0}
CleanOp (op.Literal v) = IsPlain v

abbrev pub CleanArg : Arg → Type 0
CleanArg (arg.Op o) = CleanOp o
CleanArg _ = Unit {0}

abbrev pub CleanGiven : Given → Type 0
CleanGiven (given.Op o) = CleanOp o
CleanGiven _ = Unit {0}

abbrev pub Clean : Stmt → Type 0
Clean (stmt.Set to from) = CleanOp from
Clean (stmt.Call slot i m args to) = All CleanArg args
Clean (stmt.Marshal b slot mode) = b < 64
Clean (stmt.Raw b bytes) = b < 64
Clean (stmt.Leave code v) = CleanGiven v
Clean _ = Unit {0}

-- ---- operands

pub all-or : {X : Type 0} (P : X → Type 0) (xs : List X) (k : ℕ) (d : X) → P d → All P xs → P (slice_index_or xs k d)
all-or P xs k d p q = by-size (nat_lt k (length xs)) refl
  where
    by-size : (t : Bool) → nat_lt k (length xs) ≡ t → P (slice_index_or xs k d)
    by-size true h = q k d (ltb-true k (length xs) h)
    by-size false h = subst P (sym (get_or_past xs k d (ltb-false k (length xs) h))) p

plain-good : (n m : ℕ) (v : Value) → IsPlain v → GoodValue n m v
plain-good n m (value.Ref held) p = absurd p
plain-good n m (value.Int x) p = tt
plain-good n m (value.Bool x) p = tt
plain-good n m (value.Text x) p = tt
plain-good n m (value.Bytes x) p = tt
plain-good n m (value.Guid x) p = tt

value-good : (n m : ℕ) (f : FrameView) (o : Op) → GoodFrame n m f → CleanOp o → GoodValue n m (value_of f o)
value-good n m f (op.Register r) g p = all-or (GoodValue n m) f.registers r (value.Int (pos 0)) tt g.registers
value-good n m f (op.Literal v) g p = plain-good n m v p

slot-good : (n m : ℕ) (f : FrameView) (k : ℕ) → GoodFrame n m f → GoodHeld n m (slot_of f k)
slot-good n m f k g = all-or (GoodHeld n m) f.slots k None tt g.slots

place-good : (n m : ℕ) (f : FrameView) (c : Cells) (x : Place) → GoodFrame n m f → GoodCells n m c → GoodHeld n m (held_at f c x)
place-good n m f c (place.Slot k) g e = slot-good n m f k g
place-good n m f c (place.Link k) g e = all-or (GoodHeld n m) c.links k None tt e

argument-good : (n m : ℕ) (f : FrameView) (a : Arg) → GoodFrame n m f → CleanArg a → GoodValue n m (argument_of f a)
argument-good n m f (arg.Op o) g p = value-good n m f o g p
argument-good n m f (arg.Slot k) g p = slot-good n m f k g
argument-good n m f arg.Null g p = tt

given-good : (n m : ℕ) (f : FrameView) (x : Given) → GoodFrame n m f → CleanGiven x → GoodResult n m (given_value f x)
given-good n m f given.Nothing g p = tt
given-good n m f (given.Op o) g p = value-good n m f o g p
given-good n m f (given.Slot k) g p = slot-good n m f k g

-- ---- one statement

abbrev GoodEffect : (n m : ℕ) → Effect → Type 0
GoodEffect n m (Goes f c k) = GoodFrame n m f × GoodCells n m c
GoodEffect n m (Acts a) = GoodAction n m a

pub register-good : (n m : ℕ) (f : FrameView) (r : ℕ) (v : Value) → GoodFrame n m f → GoodValue n m v → GoodFrame n m (with_register f r v)
register-good n m f r v g p = record { registers = All-set (GoodValue n m) f.registers r v p g.registers; slots = g.slots }

effect-good : (n m : ℕ) (f : FrameView) (c : Cells) (s : Stmt) → GoodFrame n m f → GoodCells n m c → Clean s → GoodEffect n m (effect_of f c s)
effect-good n m f c (stmt.Set to from) g e p = (register-good n m f to (value_of f from) g (value-good n m f from g p), e)
effect-good n m f c (stmt.Add to from) g e p = (register-good n m f to _ g tt, e)
effect-good n m f c (stmt.Sub to from) g e p = (register-good n m f to _ g tt, e)
effect-good n m f c (stmt.Less to left right) g e p = (register-good n m f to _ g tt, e)
effect-good n m f c (stmt.Same to left right) g e p = (register-good n m f to _ g tt, e)
effect-good n m f c (stmt.Load to cell) g e p = (register-good n m f to _ g tt, e)
effect-good n m f c (stmt.Store cell from) g e p = (g, e)
effect-good n m f c (stmt.Skip k) g e p = (g, e)
effect-good n m f c (stmt.SkipZero r k) g e p = (g, e)
effect-good n m f c (stmt.Create slot k i) g e p = tt
effect-good n m f c (stmt.Query to from i) g e p = slot-good n m f from g
effect-good n m f c (stmt.Copy to from) g e p = place-good n m f c from g e
effect-good n m f c (stmt.Release from) g e p = place-good n m f c from g e
effect-good n m f c (stmt.Call slot i method args to) g e p = (slot-good n m f slot g, All-map (GoodValue n m) (argument_of f) args (all-of CleanArg (λ a. GoodValue n m (argument_of f a)) (λ a q. argument-good n m f a g q) args p))
effect-good n m f c (stmt.Marshal b slot mode) g e p = (p, slot-good n m f slot g)
effect-good n m f c (stmt.Unmarshal slot b) g e p = tt
effect-good n m f c (stmt.Drop b) g e p = tt
effect-good n m f c (stmt.Raw b bytes) g e p = p
effect-good n m f c (stmt.Register to slot) g e p = slot-good n m f slot g
effect-good n m f c (stmt.Get slot cookie) g e p = tt
effect-good n m f c (stmt.Revoke cookie) g e p = tt
effect-good n m f c (stmt.Disconnect slot) g e p = slot-good n m f slot g
effect-good n m f c (stmt.Post lane word) g e p = tt
effect-good n m f c (stmt.Quit lane) g e p = tt
effect-good n m f c (stmt.Leave code v) g e p = given-good n m f v g p
effect-good n m f c (stmt.Init mode) g e p = tt
effect-good n m f c stmt.Uninit g e p = tt
effect-good n m f c (stmt.SetFilter x) g e p = tt
effect-good n m f c (stmt.Pump k) g e p = tt

-- ---- a body step

moved-good : (n m : ℕ) (f : FrameView) (k : ℕ) → GoodFrame n m f → GoodFrame n m (moved f k)
moved-good n m f k g = record { registers = g.registers; slots = g.slots }

all-head : {X : Type 0} (P : X → Type 0) (x : X) (xs : List X) → All P (x ∷ xs) → P x
all-head P x xs p = p 0 x (grind (arith, common_steps))

all-tail : {X : Type 0} (P : X → Type 0) (x : X) (xs : List X) → All P (x ∷ xs) → All P xs
all-tail P x xs p = λ k d h. p (suc k) d (grind (arith, common_steps, h))

abbrev Walks : (n m : ℕ) → List Stmt → Type 0
Walks n m xs = (k : ℕ) (f : FrameView) (c : Cells) → GoodFrame n m f → GoodCells n m c → GoodOutcome n m (walk xs k f c)

stepped-good : (n m : ℕ) (xs : List Stmt) (f : FrameView) (c : Cells) (e : Effect) → GoodFrame n m f → GoodCells n m c → Walks n m xs → GoodEffect n m e → GoodOutcome n m (elim e [ Goes g d k ↦ walk xs k (moved g (k + 1)) d | Acts a ↦ record { frame = moved f 1; cells = c; action = a } ])
stepped-good n m xs f c (Goes g d k) gf gc w p = w k (moved g (k + 1)) d (moved-good n m g (k + 1) p.0) p.1
stepped-good n m xs f c (Acts a) gf gc w p = record { frame = moved-good n m f 1 gf; cells = gc; action = p }

walk-good : (n m : ℕ) (xs : List Stmt) → All Clean xs → Walks n m xs
walk-good n m [] p k f c g e = record { frame = g; cells = e; action = tt }
walk-good n m (s ∷ xs) p (suc k) f c g e = walk-good n m xs (all-tail Clean s xs p) k f c g e
walk-good n m (s ∷ xs) p zero f c g e = stepped-good n m xs f c (effect_of f c s) g e (walk-good n m xs (all-tail Clean s xs p)) (effect-good n m f c s g e (all-head Clean s xs p))

pub step-good : (n m : ℕ) (xs : List Stmt) (f : FrameView) (c : Cells) → All Clean xs → GoodFrame n m f → GoodCells n m c → GoodOutcome n m (body_step xs f c)
step-good n m xs f c p g e = walk-good n m (drop f.place xs) (All-drop Clean f.place xs p) 0 f c g e

-- ---- a frame at its beginning

plain-all : (n m : ℕ) (vs : List Value) → All (GoodValue n m) vs → All (GoodValue n m) (plain_values vs)
plain-all n m [] p = p
plain-all n m (value.Ref held ∷ vs) p = plain-all n m vs (all-tail (GoodValue n m) (value.Ref held) vs p)
plain-all n m (value.Int x ∷ vs) p = All-cons (GoodValue n m) (value.Int x) (plain_values vs) tt (plain-all n m vs (all-tail (GoodValue n m) (value.Int x) vs p))
plain-all n m (value.Bool x ∷ vs) p = All-cons (GoodValue n m) (value.Bool x) (plain_values vs) tt (plain-all n m vs (all-tail (GoodValue n m) (value.Bool x) vs p))
plain-all n m (value.Text x ∷ vs) p = All-cons (GoodValue n m) (value.Text x) (plain_values vs) tt (plain-all n m vs (all-tail (GoodValue n m) (value.Text x) vs p))
plain-all n m (value.Bytes x ∷ vs) p = All-cons (GoodValue n m) (value.Bytes x) (plain_values vs) tt (plain-all n m vs (all-tail (GoodValue n m) (value.Bytes x) vs p))
plain-all n m (value.Guid x ∷ vs) p = All-cons (GoodValue n m) (value.Guid x) (plain_values vs) tt (plain-all n m vs (all-tail (GoodValue n m) (value.Guid x) vs p))

references-all : (n m : ℕ) (vs : List Value) → All (GoodValue n m) vs → All (GoodHeld n m) (references vs)
references-all n m [] p = All-nil (GoodHeld n m)
references-all n m (value.Ref held ∷ vs) p = All-cons (GoodHeld n m) held (references vs) (all-head (GoodValue n m) (value.Ref held) vs p) (references-all n m vs (all-tail (GoodValue n m) (value.Ref held) vs p))
references-all n m (value.Int x ∷ vs) p = references-all n m vs (all-tail (GoodValue n m) (value.Int x) vs p)
references-all n m (value.Bool x ∷ vs) p = references-all n m vs (all-tail (GoodValue n m) (value.Bool x) vs p)
references-all n m (value.Text x ∷ vs) p = references-all n m vs (all-tail (GoodValue n m) (value.Text x) vs p)
references-all n m (value.Bytes x ∷ vs) p = references-all n m vs (all-tail (GoodValue n m) (value.Bytes x) vs p)
references-all n m (value.Guid x ∷ vs) p = references-all n m vs (all-tail (GoodValue n m) (value.Guid x) vs p)

pub entered-good : (n m : ℕ) (vs : List Value) → All (GoodValue n m) vs → GoodFrame n m (entered vs)
entered-good n m vs p = record {
  registers = All-append (GoodValue n m) (plain_values vs) _ (plain-all n m vs p) (All-replicate (GoodValue n m) _ no_number tt);
  slots = All-append (GoodHeld n m) (references vs) _ (references-all n m vs p) (All-replicate (GoodHeld n m) _ None tt);
}
