-- Values whose numbers are in the ranges of their types and whose texts are short: a body step keeps them so, where its literals are.
use Rattle.std.proofs.Common.{arith}
use Rattle.std.proofs.lemmas.Int.{wrapping_add_is, wrapping_sub_is, SFits-int_wrap, fits_signed_from_abs}
use Rattle.std.proofs.Common.{subst, sym}
use Rattle.std.proofs.lemmas.List.Elements.{All-set, All-map, All-drop, All-append, All-replicate, All-cons}
use Rattle.std.specs.Int.{w64, int_wrapping_add, int_wrapping_sub}
use Rattle.std.specs.Int.RustNames.{FitsSigned}
use Rattle.std.specs.Str.{IsUtf8}
use Rattle.std.specs.Prelude.{ℕ, zero, suc, ◌+◌, ◌^◌, ◌<◌, ◌≤◌, Bool, true, false, ℤ, pos, List, [], ◌∷◌, length, drop, Option, Some, None, All}
use Rattle.com_base.specs.declared.hresult.HResult.{HResult}
use Rattle.com_base.specs.declared.value.Value.{Value}
use Rattle.com_base.specs.declared.value.Value.TheVariants as value
use Rattle.com_base.specs.Guids.{IsGuid}
use Rattle.com_body.specs.declared.operands.Op.{Op}
use Rattle.com_body.specs.declared.operands.Op.TheVariants as op
use Rattle.com_body.specs.declared.operands.Arg.{Arg}
use Rattle.com_body.specs.declared.operands.Arg.TheVariants as arg
use Rattle.com_body.specs.declared.operands.Code.{Code}
use Rattle.com_body.specs.declared.operands.Code.TheVariants as code
use Rattle.com_body.specs.declared.operands.Given.{Given}
use Rattle.com_body.specs.declared.operands.Given.TheVariants as given
use Rattle.com_body.specs.declared.statements.Stmt.{Stmt}
use Rattle.com_body.specs.declared.statements.Stmt.TheVariants as stmt
use Rattle.com_body.specs.declared.actions.Action.{Action}
use Rattle.com_body.specs.declared.actions.Action.TheVariants as action
use Rattle.com_body.specs.declared.frame.Cells.{Cells}
use Rattle.com_body.specs.declared.frame.Outcome.{Outcome}
use Rattle.com_body.specs.Frames.{FrameView, with_register, moved, entered, plain_values, no_number}
use Rattle.com_body.specs.Operands.{number_in, value_of, number_of, argument_of, answer_of, given_value, truth}
use Rattle.com_body.specs.BodySteps.{Effect, Goes, Acts, effect_of, walk, body_step}
use Rattle.com_model.proofs.Goods.{all-of, all-or}
use Rattle.com_laws_balance.proofs.Carries.{all-head, all-tail}

-- What a message can carry.
abbrev pub CanCarry : Value → Type 0
CanCarry (value.Int n) = FitsSigned w64 n
CanCarry (value.Text t) = IsUtf8 t × (length t ≤ 65536)
CanCarry (value.Bytes t) = length t ≤ 65536
CanCarry (value.Guid g) = IsGuid g
CanCarry _ = Unit {0}

abbrev pub ResultCan : Option Value → Type 0
ResultCan None = Unit {0}
ResultCan (Some v) = CanCarry v

-- An HRESULT of 32 bits.
abbrev pub IsShort : HResult → Type 0
IsShort hr = hr.0 < 2 ^ 32

abbrev pub FrameCan : FrameView → Type 0
FrameCan f = All CanCarry f.registers

abbrev pub CellsFit : Cells → Type 0
CellsFit c = All (FitsSigned w64) c.numbers

abbrev pub ActionCan : Action → Type 0
ActionCan (action.Call held i method args to) = All CanCarry args
ActionCan (action.Leave hr v) = IsShort hr × ResultCan v
ActionCan _ = Unit {0}

pub record OutcomeCan (r : Outcome) : Type 0 where
  pub frame : FrameCan r.frame
  pub cells : CellsFit r.cells
  pub action : ActionCan r.action

-- ---- literals

abbrev pub CleanOp : Op → Type 0
CleanOp (op.Register r) = Unit {0}
CleanOp (op.Literal v) = CanCarry v

abbrev pub CleanArg : Arg → Type 0
CleanArg (arg.Op o) = CleanOp o
CleanArg _ = Unit {0}

abbrev pub CleanGiven : Given → Type 0
CleanGiven (given.Op o) = CleanOp o
CleanGiven _ = Unit {0}

abbrev pub CleanCode : Code → Type 0
CleanCode (code.Literal hr) = IsShort hr
CleanCode (code.Register r) = Unit {0}

abbrev pub Clean : Stmt → Type 0
Clean (stmt.Set to from) = CleanOp from
Clean (stmt.Add to from) = CleanOp from
Clean (stmt.Sub to from) = CleanOp from
Clean (stmt.Store cell from) = CleanOp from
Clean (stmt.Call slot i m args to) = All CleanArg args
Clean (stmt.Leave hr v) = CleanCode hr × CleanGiven v
Clean _ = Unit {0}

-- ---- numbers

small-fits : (n : ℕ) → n < 2 ^ 63 → FitsSigned w64 (pos n)
small-fits n h = fits_signed_from_abs w64 (pos n) h

pub short-can : (hr : HResult) → IsShort hr → CanCarry (value.Int (pos hr.0))
short-can hr h = small-fits hr.0 (omega (arith, h))

pub small-can : (n : ℕ) → n < 2 ^ 63 → CanCarry (value.Int (pos n))
small-can n h = small-fits n h

number-fits : (v : Value) → CanCarry v → FitsSigned w64 (number_in v)
number-fits (value.Int n) p = p
number-fits (value.Bool b) p = small-fits 0 (omega arith)
number-fits (value.Text t) p = small-fits 0 (omega arith)
number-fits (value.Bytes t) p = small-fits 0 (omega arith)
number-fits (value.Guid g) p = small-fits 0 (omega arith)
number-fits (value.Ref held) p = small-fits 0 (omega arith)

sum-fits : (a b : ℤ) → FitsSigned w64 a → FitsSigned w64 b → FitsSigned w64 (int_wrapping_add w64 a b)
sum-fits a b f g = subst (FitsSigned w64) (sym (wrapping_add_is w64 a b f g)) (SFits-int_wrap w64 _)

difference-fits : (a b : ℤ) → FitsSigned w64 a → FitsSigned w64 b → FitsSigned w64 (int_wrapping_sub w64 a b)
difference-fits a b f g = subst (FitsSigned w64) (sym (wrapping_sub_is w64 a b f g)) (SFits-int_wrap w64 _)

truth-can : (b : Bool) → CanCarry (truth b)
truth-can true = small-fits 1 (omega arith)
truth-can false = small-fits 0 (omega arith)

zero-can : CanCarry no_number
zero-can = small-fits 0 (omega arith)

-- ---- operands

value-can : (f : FrameView) (o : Op) → FrameCan f → CleanOp o → CanCarry (value_of f o)
value-can f (op.Register r) g p = all-or CanCarry f.registers r (value.Int (pos 0)) zero-can g
value-can f (op.Literal v) g p = p

number-can : (f : FrameView) (o : Op) → FrameCan f → CleanOp o → FitsSigned w64 (number_of f o)
number-can f o g p = number-fits (value_of f o) (value-can f o g p)

argument-can : (f : FrameView) (a : Arg) → FrameCan f → CleanArg a → CanCarry (argument_of f a)
argument-can f (arg.Op o) g p = value-can f o g p
argument-can f (arg.Slot k) g p = tt
argument-can f arg.Null g p = tt

given-can : (f : FrameView) (x : Given) → FrameCan f → CleanGiven x → ResultCan (given_value f x)
given-can f given.Nothing g p = tt
given-can f (given.Op o) g p = value-can f o g p
given-can f (given.Slot k) g p = tt

code-short : (f : FrameView) (x : Code) → CleanCode x → IsShort (answer_of f x)
code-short f (code.Literal hr) p = p
code-short f (code.Register r) p = omega arith

-- ---- one statement

abbrev EffectCan : Effect → Type 0
EffectCan (Goes f c k) = FrameCan f × CellsFit c
EffectCan (Acts a) = ActionCan a

pub register-can : (f : FrameView) (r : ℕ) (v : Value) → FrameCan f → CanCarry v → FrameCan (with_register f r v)
register-can f r v g p = All-set CanCarry f.registers r v p g

effect-can : (f : FrameView) (c : Cells) (s : Stmt) → FrameCan f → CellsFit c → Clean s → EffectCan (effect_of f c s)
effect-can f c (stmt.Set to from) g e p = (register-can f to (value_of f from) g (value-can f from g p), e)
effect-can f c (stmt.Add to from) g e p = (register-can f to _ g (sum-fits _ _ (number-can f (op.Register to) g tt) (number-can f from g p)), e)
effect-can f c (stmt.Sub to from) g e p = (register-can f to _ g (difference-fits _ _ (number-can f (op.Register to) g tt) (number-can f from g p)), e)
effect-can f c (stmt.Less to left right) g e p = (register-can f to _ g (truth-can _), e)
effect-can f c (stmt.Same to left right) g e p = (register-can f to _ g (truth-can _), e)
effect-can f c (stmt.Load to cell) g e p = (register-can f to _ g (all-or (FitsSigned w64) c.numbers cell (pos 0) (small-fits 0 (omega arith)) e), e)
effect-can f c (stmt.Store cell from) g e p = (g, All-set (FitsSigned w64) c.numbers cell _ (number-can f from g p) e)
effect-can f c (stmt.Skip k) g e p = (g, e)
effect-can f c (stmt.SkipZero r k) g e p = (g, e)
effect-can f c (stmt.Call slot i method args to) g e p = All-map CanCarry (argument_of f) args (all-of CleanArg (λ a. CanCarry (argument_of f a)) (λ a q. argument-can f a g q) args p)
effect-can f c (stmt.Leave hr v) g e p = (code-short f hr p.0, given-can f v g p.1)
effect-can f c (stmt.Create slot k i) g e p = tt
effect-can f c (stmt.Query to from i) g e p = tt
effect-can f c (stmt.Copy to from) g e p = tt
effect-can f c (stmt.Release from) g e p = tt
effect-can f c (stmt.Marshal b slot mode) g e p = tt
effect-can f c (stmt.Unmarshal slot b) g e p = tt
effect-can f c (stmt.Drop b) g e p = tt
effect-can f c (stmt.Raw b bytes) g e p = tt
effect-can f c (stmt.Register to slot) g e p = tt
effect-can f c (stmt.Get slot cookie) g e p = tt
effect-can f c (stmt.Revoke cookie) g e p = tt
effect-can f c (stmt.Disconnect slot) g e p = tt
effect-can f c (stmt.Post lane word) g e p = tt
effect-can f c (stmt.Quit lane) g e p = tt
effect-can f c (stmt.Init mode) g e p = tt
effect-can f c stmt.Uninit g e p = tt
effect-can f c (stmt.SetFilter x) g e p = tt
effect-can f c (stmt.Pump k) g e p = tt

-- ---- a body step

abbrev Walks : List Stmt → Type 0
Walks xs = (k : ℕ) (f : FrameView) (c : Cells) → FrameCan f → CellsFit c → OutcomeCan (walk xs k f c)

stepped-can : (xs : List Stmt) (f : FrameView) (c : Cells) (e : Effect) → FrameCan f → CellsFit c → Walks xs → EffectCan e → OutcomeCan (elim e [ Goes g d k ↦ walk xs k (moved g (k + 1)) d | Acts a ↦ record { frame = moved f 1; cells = c; action = a } ])
stepped-can xs f c (Goes g d k) gf gc w p = w k (moved g (k + 1)) d p.0 p.1
stepped-can xs f c (Acts a) gf gc w p = record { frame = gf; cells = gc; action = p }

ok-can : ActionCan (action.Leave (record { 0 = 0 }) None)
ok-can = (omega arith, tt)

walk-can : (xs : List Stmt) → All Clean xs → Walks xs
walk-can [] p k f c g e = record { frame = g; cells = e; action = ok-can }
walk-can (s ∷ xs) p (suc k) f c g e = walk-can xs (all-tail Clean s xs p) k f c g e
walk-can (s ∷ xs) p zero f c g e = stepped-can xs f c (effect_of f c s) g e (walk-can xs (all-tail Clean s xs p)) (effect-can f c s g e (all-head Clean s xs p))

pub step-can : (xs : List Stmt) (f : FrameView) (c : Cells) → All Clean xs → FrameCan f → CellsFit c → OutcomeCan (body_step xs f c)
step-can xs f c p g e = walk-can (drop f.place xs) (All-drop Clean f.place xs p) 0 f c g e

-- ---- a frame at its beginning

plain-can : (vs : List Value) → All CanCarry vs → All CanCarry (plain_values vs)
plain-can [] p = p
plain-can (value.Ref held ∷ vs) p = plain-can vs (all-tail CanCarry (value.Ref held) vs p)
plain-can (value.Int x ∷ vs) p = All-cons CanCarry (value.Int x) (plain_values vs) (all-head CanCarry (value.Int x) vs p) (plain-can vs (all-tail CanCarry (value.Int x) vs p))
plain-can (value.Bool x ∷ vs) p = All-cons CanCarry (value.Bool x) (plain_values vs) tt (plain-can vs (all-tail CanCarry (value.Bool x) vs p))
plain-can (value.Text x ∷ vs) p = All-cons CanCarry (value.Text x) (plain_values vs) (all-head CanCarry (value.Text x) vs p) (plain-can vs (all-tail CanCarry (value.Text x) vs p))
plain-can (value.Bytes x ∷ vs) p = All-cons CanCarry (value.Bytes x) (plain_values vs) (all-head CanCarry (value.Bytes x) vs p) (plain-can vs (all-tail CanCarry (value.Bytes x) vs p))
plain-can (value.Guid x ∷ vs) p = All-cons CanCarry (value.Guid x) (plain_values vs) (all-head CanCarry (value.Guid x) vs p) (plain-can vs (all-tail CanCarry (value.Guid x) vs p))

pub entered-can : (vs : List Value) → All CanCarry vs → FrameCan (entered vs)
entered-can vs p = All-append CanCarry (plain_values vs) _ (plain-can vs p) (All-replicate CanCarry _ no_number zero-can)
