-- The statements of a formed scenario have no reference as a literal, and only texts of characters.
use Rattle.std.proofs.Common.{subst, sym, inl, inr, arith}
use Rattle.std.proofs.lemmas.List.Elements.{All-cons, All-nil}
use Rattle.std.proofs.lemmas.Grind.{common_steps}
use Rattle.std.specs.Prelude.{◌≡◌, ℕ, zero, suc, ◌+◌, Bool, true, false, cond, ◌&&◌, ◌==◌, List, [], ◌∷◌, Option, Some, None, All, ◌⊎◌, option_map, option_and_then, unwrap_or, find, slice_get, slice_index_or}
use Rattle.com_base.specs.declared.value.Kind.{Kind}
use Rattle.com_base.specs.declared.value.Kind.TheVariants as kind
use Rattle.com_base.specs.declared.value.Value.{Value}
use Rattle.com_base.specs.declared.value.Value.TheVariants as value
use Rattle.com_body.specs.declared.operands.Op.{Op}
use Rattle.com_body.specs.declared.operands.Op.TheVariants as op
use Rattle.com_body.specs.declared.operands.Arg.{Arg}
use Rattle.com_body.specs.declared.operands.Arg.TheVariants as arg
use Rattle.com_body.specs.declared.operands.Given.{Given}
use Rattle.com_body.specs.declared.operands.Given.TheVariants as given
use Rattle.com_body.specs.declared.operands.Destination.{Destination}
use Rattle.com_body.specs.declared.statements.Stmt.{Stmt}
use Rattle.com_body.specs.declared.statements.Stmt.TheVariants as stmt
use Rattle.com_body.specs.declared.frame.Native.{Native}
use Rattle.com_body.specs.declared.frame.Native.TheVariants as native
use Rattle.com_body.specs.BodySteps.{no_body}
use Rattle.com_classes.specs.declared.interfaces.Method.{Method}
use Rattle.com_classes.specs.declared.classes.Class.{Class}
use Rattle.com_classes.specs.declared.classes.MethodBody.{MethodBody}
use Rattle.com_classes.specs.BuiltIns.{counter_bodies, relay_bodies, latch_bodies}
use Rattle.com_classes.specs.Lookups.{class_at, method_at, class_body, kind_body, body_of}
use Rattle.com_model.specs.declared.scenario.Scenario.{Scenario}
use Rattle.com_model.specs.Tables.{script}
use Rattle.com_model.specs.Formed.{IsLiteral, IsOperand, IsGivenValue, FitsKind, FitKinds, FitsMethod, IsStatement, Context, FormedBody, in_script, in_class, IsBody, IsClass, EachFrom, Formed}
use Rattle.com_model.proofs.Goods.{all-of, all-or}
use Rattle.com_laws_values.proofs.Walks.{IsPlain, CleanOp, CleanArg, CleanGiven, Clean}

literal-plain : (v : Value) → IsLiteral v → IsPlain v
literal-plain (value.Ref held) p = p
literal-plain (value.Int x) p = tt
literal-plain (value.Bool x) p = tt
literal-plain (value.Text x) p = p
literal-plain (value.Bytes x) p = p
literal-plain (value.Guid x) p = tt

operand-clean : (o : Op) → IsOperand o → CleanOp o
operand-clean (op.Register r) p = tt
operand-clean (op.Literal v) p = literal-plain v p

kind-clean : (k : Kind) (a : Arg) → FitsKind k a → CleanArg a
kind-clean k (arg.Slot n) p = tt
kind-clean k arg.Null p = tt
kind-clean (kind.Ref i) (arg.Op o) p = absurd p
kind-clean kind.Int (arg.Op o) p = operand-clean o p
kind-clean kind.Bool (arg.Op o) p = operand-clean o p
kind-clean kind.Text (arg.Op o) p = operand-clean o p
kind-clean kind.Bytes (arg.Op o) p = operand-clean o p
kind-clean kind.Guid (arg.Op o) p = operand-clean o p

kinds-clean : (ks : List Kind) (xs : List Arg) → FitKinds ks xs → All CleanArg xs
kinds-clean [] [] p = All-nil CleanArg
kinds-clean [] (a ∷ xs) p = absurd p
kinds-clean (k ∷ ks) [] p = absurd p
kinds-clean (k ∷ ks) (a ∷ xs) p = All-cons CleanArg a xs (kind-clean k a p.0) (kinds-clean ks xs p.1)

method-clean : (m : Option Method) (xs : List Arg) (to : Destination) → FitsMethod m xs to → All CleanArg xs
method-clean None xs to p = absurd p
method-clean (Some m) xs to p = kinds-clean m.params xs p.0

arguments-clean : (m : Option Method) (xs : List Arg) (to to' : Destination) → ((xs ≡ []) × (to ≡ to')) ⊎ FitsMethod m xs to → All CleanArg xs
arguments-clean m xs to to' (inl p) = subst (All CleanArg) (sym p.0) (All-nil CleanArg)
arguments-clean m xs to to' (inr p) = method-clean m xs to p

given-clean : (x : Given) → IsGivenValue x → CleanGiven x
given-clean given.Nothing p = tt
given-clean (given.Op o) p = operand-clean o p
given-clean (given.Slot n) p = tt

statement-clean : (s : Scenario) (x : Context) (t : Stmt) → IsStatement s x t → Clean t
statement-clean s x (stmt.Set to from) p = operand-clean from p
statement-clean s x (stmt.Call slot i m args to) p = arguments-clean (method_at s.classes i m) args to _ p.1
statement-clean s x (stmt.Leave code v) p = given-clean v p.1
statement-clean s x _ p = tt

formed-clean : (s : Scenario) (x : Context) (n : ℕ) (b : List Stmt) → FormedBody s x n b → All Clean b
formed-clean s x n b p = λ k d h. statement-clean s x (slice_index_or b k d) (p.statements k d h)

pub script-clean : (s : Scenario) → Formed s → (l : ℕ) → All Clean (script s l)
script-clean s f zero = All-nil Clean
script-clean s f (suc l) = all-or (All Clean) s.threads l [] (All-nil Clean) (all-of (FormedBody s (in_script s) 2000) (All Clean) (formed-clean s (in_script s) 2000) s.threads f.threads.0)

-- ---- bodies

abbrev GoodBody : Option (List Stmt) → Type 0
GoodBody None = Unit {0}
GoodBody (Some b) = All Clean b

abbrev Each : List Stmt → Type 0
Each [] = Unit {0}
Each (t ∷ ts) = Clean t × Each ts

each-clean : (ts : List Stmt) → Each ts → All Clean ts
each-clean [] p = All-nil Clean
each-clean (t ∷ ts) p = All-cons Clean t ts p.0 (each-clean ts p.1)

abbrev EachBody : List (List Stmt) → Type 0
EachBody [] = Unit {0}
EachBody (b ∷ bs) = Each b × EachBody bs

got-clean : (bs : List (List Stmt)) (m : ℕ) → EachBody bs → GoodBody (slice_get bs m)
got-clean [] m p = tt
got-clean (b ∷ bs) zero p = each-clean b p.0
got-clean (b ∷ bs) (suc m) p = got-clean bs m p.1

only-clean : (t : Bool) (o : Option (List Stmt)) → GoodBody o → GoodBody (cond t o None)
only-clean true o p = p
only-clean false o p = tt

found-clean : (s : Scenario) (x : Context) (test : MethodBody → Bool) (bs : List MethodBody) → All (IsBody s x) bs → GoodBody (option_map (λ (b : MethodBody). b.body) (find test bs))
found-clean s x test [] p = tt
found-clean s x test (b ∷ bs) p = by-test (test b) (formed-clean s x 200 b.body (p 0 b (grind (arith, common_steps))).0) (found-clean s x test bs (λ k d h. p (suc k) d (grind (arith, common_steps, h))))
  where
    by-test : (t : Bool) → All Clean b.body → GoodBody (option_map (λ (b : MethodBody). b.body) (find test bs)) → GoodBody (option_map (λ (b : MethodBody). b.body) (cond t (Some b) (find test bs)))
    by-test true q r = q
    by-test false q r = r

native-clean : (s : Scenario) (x : Context) (n : Native) (bs : List MethodBody) (i m : ℕ) → All (IsBody s x) bs → GoodBody (kind_body n bs i m)
native-clean s x native.Bodies bs i m p = found-clean s x (λ b. b.iface == i && b.method == m) bs p
native-clean s x native.Counter bs i m p = only-clean (i == 1) (slice_get counter_bodies m) (got-clean counter_bodies m ((tt, (tt, (tt, (tt, tt)))), ((tt, (tt, tt)), tt)))
native-clean s x native.Relay bs i m p = only-clean (i == 2) (slice_get relay_bodies m) (got-clean relay_bodies m ((tt, (tt, tt)), ((tt, (All-cons CleanArg _ [] tt (All-nil CleanArg), (tt, tt))), tt)))
native-clean s x native.Latch bs i m p = only-clean (i == 3) (slice_get latch_bodies m) (got-clean latch_bodies m ((tt, (tt, tt)), ((tt, (tt, (tt, (tt, (tt, tt))))), tt)))

abbrev KnownClass : Scenario → Option Class → Type 0
KnownClass s None = Unit {0}
KnownClass s (Some k) = (n : ℕ) × IsClass s n k

known-class : (s : Scenario) (n : ℕ) (ks : List Class) (k : ℕ) → EachFrom (IsClass s) n ks → KnownClass s (slice_get ks k)
known-class s n [] k p = tt
known-class s n (c ∷ ks) zero p = (n, p.0)
known-class s n (c ∷ ks) (suc k) p = known-class s (n + 1) ks k p.1

class-known : (s : Scenario) (f : Formed s) (t : Bool) (k : ℕ) → KnownClass s (cond t None (slice_get s.classes.classes k))
class-known s f true k = tt
class-known s f false k = known-class s 1 s.classes.classes k f.classes.each

class-clean : (s : Scenario) (o : Option Class) (i m : ℕ) → KnownClass s o → GoodBody (option_and_then (λ c. class_body c i m) o)
class-clean s None i m p = tt
class-clean s (Some k) i m p = native-clean s (in_class p.0 k) k.native k.bodies i m p.1.3

unwrap-clean : (o : Option (List Stmt)) → GoodBody o → All Clean (unwrap_or o no_body)
unwrap-clean None p = each-clean no_body (tt, tt)
unwrap-clean (Some b) p = p

pub body-clean : (s : Scenario) → Formed s → (k i m : ℕ) → All Clean (body_of s.classes k i m)
body-clean s f k i m = unwrap-clean _ (class-clean s (class_at s.classes k) i m (class-known s f (k == 0) _))
