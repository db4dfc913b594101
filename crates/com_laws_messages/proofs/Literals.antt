-- The literals of a formed scenario whose numbers fit their types can be carried by messages, and its IIDs are GUIDs.
use Rattle.std.proofs.Common.{subst, sym, ◌⊎◌, inl, inr, arith}
use Rattle.std.proofs.lemmas.List.Elements.{All-cons, All-nil}
use Rattle.std.proofs.lemmas.Grind.{common_steps}
use Rattle.std.proofs.lemmas.Str.{IsUtf8-from_ascii}
use Rattle.std.specs.Int.{w64}
use Rattle.std.specs.Int.RustNames.{FitsSigned}
use Rattle.std.specs.Str.{IsUtf8}
use Rattle.std.specs.Prelude.{◌≡◌, refl, ℕ, zero, suc, ◌+◌, ◌^◌, ◌<◌, ◌≤◌, ℤ, pos, negsuc, Bool, true, false, cond, ◌&&◌, ◌==◌, List, [], ◌∷◌, length, take, drop, Option, Some, None, All, option_map, option_and_then, unwrap_or, find, slice_get, slice_index_or}
use Rattle.com_base.specs.declared.guid.Guid.{Guid}
use Rattle.com_base.specs.declared.value.Kind.{Kind}
use Rattle.com_base.specs.declared.value.Kind.TheVariants as kind
use Rattle.com_base.specs.declared.value.Value.{Value}
use Rattle.com_base.specs.declared.value.Value.TheVariants as value
use Rattle.com_base.specs.Guids.{IsBytes, IsGuid}
use Rattle.com_body.specs.declared.operands.Op.{Op}
use Rattle.com_body.specs.declared.operands.Op.TheVariants as op
use Rattle.com_body.specs.declared.operands.Arg.{Arg}
use Rattle.com_body.specs.declared.operands.Arg.TheVariants as arg
use Rattle.com_body.specs.declared.operands.Code.{Code}
use Rattle.com_body.specs.declared.operands.Code.TheVariants as code
use Rattle.com_body.specs.declared.operands.Given.{Given}
use Rattle.com_body.specs.declared.operands.Given.TheVariants as given
use Rattle.com_body.specs.declared.operands.Destination.{Destination}
use Rattle.com_body.specs.declared.statements.Stmt.{Stmt}
use Rattle.com_body.specs.declared.statements.Stmt.TheVariants as stmt
use Rattle.com_body.specs.declared.frame.Native.{Native}
use Rattle.com_body.specs.declared.frame.Native.TheVariants as native
use Rattle.com_body.specs.BodySteps.{no_body}
use Rattle.com_classes.specs.declared.interfaces.Interface.{Interface}
use Rattle.com_classes.specs.declared.interfaces.Method.{Method}
use Rattle.com_classes.specs.declared.classes.Class.{Class}
use Rattle.com_classes.specs.declared.classes.MethodBody.{MethodBody}
use Rattle.com_classes.specs.BuiltIns.{icounter, counter_bodies, relay_bodies, latch_bodies, built_in_interfaces}
use Rattle.com_classes.specs.Lookups.{interface_at, class_at, method_at, class_body, kind_body, body_of}
use Rattle.com_model.specs.declared.scenario.Scenario.{Scenario}
use Rattle.com_model.specs.Tables.{script}
use Rattle.com_model.specs.Deeds.{iid_of}
use Rattle.com_model.specs.Formed.{is_text_byte, within, IsLiteral, IsOperand, IsGivenValue, FitsKind, FitKinds, FitsMethod, IsStatement, Context, FormedBody, in_script, in_class, IsBody, IsClass, EachFrom, Formed}
use Rattle.com_model.proofs.Goods.{all-of, all-or}
use Rattle.com_laws_balance.proofs.Carries.{all-head, all-tail}
use Rattle.com_print.specs.Ranges.{AreBytes, IsWhole, FitsValue, FitsOp, FitsArg, FitsGiven, FitsCode, Fits, IsGuid as IsPrinted}
use Rattle.com_print_scenario.specs.Ranges.{FitsProgram, FitsBodies, FitsAs, FitsClass, FitsInterface, FitsTypes}
use Rattle.com_laws_messages.proofs.Walking.{CanCarry, IsShort, CleanOp, CleanArg, CleanGiven, CleanCode, Clean, small-can}
use Rattle.com_laws_messages.proofs.Answering.{zero-guid}
use Rattle.com_laws_messages.proofs.Carrying.{CleanScenario}

-- ---- literals

whole-fits : (n : ℤ) → IsWhole n → FitsSigned w64 n
whole-fits (pos n) h = record { sfits = h }
whole-fits (negsuc n) h = record { sfits = h }

between : (low high c : ℕ) → within low high c ≡ true → c ≤ high
between low high c e = grind (arith, common_steps, e)

byte-low : (c : ℕ) → is_text_byte c ≡ true → c < 128
byte-low c e = grind (arith, common_steps, e)

text-utf8 : (t : List ℕ) → All (λ c. is_text_byte c ≡ true) t → IsUtf8 t
text-utf8 t p = IsUtf8-from_ascii t (λ i. all-or (λ c. c < 128) t i 0 (omega arith) (all-of (λ c. is_text_byte c ≡ true) (λ c. c < 128) byte-low t p))

bytes-of : (xs : List ℕ) → AreBytes xs → IsBytes xs
bytes-of xs p i = all-or (λ b. b < 256) xs i 0 (omega arith) p

guid-of : (g : Guid) → IsPrinted g → IsGuid g
guid-of g p = record { data1 = p.data1; data2 = p.data2; data3 = p.data3; eight = p.eight; bytes = bytes-of g.data4 p.data4 }

literal-can : (v : Value) → IsLiteral v → FitsValue v → CanCarry v
literal-can (value.Ref held) p q = tt
literal-can (value.Int n) p q = whole-fits n q
literal-can (value.Bool x) p q = tt
literal-can (value.Text t) p q = let n : length t ≤ 256 = p.1 in (text-utf8 t p.0, omega (arith, n))
literal-can (value.Bytes t) p q = let n : length t ≤ 256 = p in omega (arith, n)
literal-can (value.Guid g) p q = guid-of g q

-- ---- statements

op-clean : (o : Op) → IsOperand o → FitsOp o → CleanOp o
op-clean (op.Register r) p q = tt
op-clean (op.Literal v) p q = literal-can v p q

kind-clean : (k : Kind) (a : Arg) → FitsKind k a → FitsArg a → CleanArg a
kind-clean k (arg.Slot n) p q = tt
kind-clean k arg.Null p q = tt
kind-clean (kind.Ref i) (arg.Op o) p q = absurd p
kind-clean kind.Int (arg.Op o) p q = op-clean o p q
kind-clean kind.Bool (arg.Op o) p q = op-clean o p q
kind-clean kind.Text (arg.Op o) p q = op-clean o p q
kind-clean kind.Bytes (arg.Op o) p q = op-clean o p q
kind-clean kind.Guid (arg.Op o) p q = op-clean o p q

kinds-clean : (ks : List Kind) (xs : List Arg) → FitKinds ks xs → All FitsArg xs → All CleanArg xs
kinds-clean [] [] p q = All-nil CleanArg
kinds-clean [] (a ∷ xs) p q = absurd p
kinds-clean (k ∷ ks) [] p q = absurd p
kinds-clean (k ∷ ks) (a ∷ xs) p q = All-cons CleanArg a xs (kind-clean k a p.0 (all-head FitsArg a xs q)) (kinds-clean ks xs p.1 (all-tail FitsArg a xs q))

method-clean : (m : Option Method) (xs : List Arg) (to : Destination) → FitsMethod m xs to → All FitsArg xs → All CleanArg xs
method-clean None xs to p q = absurd p
method-clean (Some m) xs to p q = kinds-clean m.params xs p.0 q

arguments-clean : (m : Option Method) (xs : List Arg) (to to' : Destination) → ((xs ≡ []) × (to ≡ to')) ⊎ FitsMethod m xs to → All FitsArg xs → All CleanArg xs
arguments-clean m xs to to' (inl p) q = subst (All CleanArg) (sym p.0) (All-nil CleanArg)
arguments-clean m xs to to' (inr p) q = method-clean m xs to p q

given-clean : (x : Given) → IsGivenValue x → FitsGiven x → CleanGiven x
given-clean given.Nothing p q = tt
given-clean (given.Op o) p q = op-clean o p q
given-clean (given.Slot n) p q = tt

code-clean : (x : Code) → FitsCode x → CleanCode x
code-clean (code.Literal hr) q = q
code-clean (code.Register r) q = tt

statement-clean : (s : Scenario) (x : Context) (t : Stmt) → IsStatement s x t → Fits t → Clean t
statement-clean s x (stmt.Set to from) p q = op-clean from p q
statement-clean s x (stmt.Add to from) p q = op-clean from p q
statement-clean s x (stmt.Sub to from) p q = op-clean from p q
statement-clean s x (stmt.Store cell from) p q = op-clean from p.1 q
statement-clean s x (stmt.Call slot i m args to) p q = arguments-clean (method_at s.classes i m) args to _ p.1 q.1
statement-clean s x (stmt.Leave hr v) p q = (code-clean hr q.0, given-clean v p.1 q.1)
statement-clean s x _ p q = tt

program-clean : (s : Scenario) (x : Context) (n : ℕ) (b : List Stmt) → FormedBody s x n b → FitsProgram b → All Clean b
program-clean s x n b p q = λ k d h. statement-clean s x (slice_index_or b k d) (p.statements k d h) (q k d h)

script-clean : (s : Scenario) → Formed s → FitsTypes s → (l : ℕ) → All Clean (script s l)
script-clean s f t zero = All-nil Clean
script-clean s f t (suc l) = all-or (All Clean) s.threads l [] (All-nil Clean) (λ k d h. program-clean s (in_script s) 2000 (slice_index_or s.threads k d) (f.threads.0 k d h) (t.threads k d h))

-- ---- bodies

abbrev GoodBody : Option (List Stmt) → Type 0
GoodBody None = Unit {0}
GoodBody (Some b) = All Clean b

abbrev Each : List Stmt → Type 0
Each [] = Unit {0}
Each (t ∷ ts) = Clean t × Each ts

each-clean : (ts : List Stmt) → Each ts → All Clean ts
each-clean [] p = All-nil Clean
each-clean (t ∷ ts) p = All-cons Clean t ts p.0 (each-clean ts p.1)

abbrev EachBody : List (List Stmt) → Type 0
EachBody [] = Unit {0}
EachBody (b ∷ bs) = Each b × EachBody bs

got-clean : (bs : List (List Stmt)) (m : ℕ) → EachBody bs → GoodBody (slice_get bs m)
got-clean [] m p = tt
got-clean (b ∷ bs) zero p = each-clean b p.0
got-clean (b ∷ bs) (suc m) p = got-clean bs m p.1

only-clean : (t : Bool) (o : Option (List Stmt)) → GoodBody o → GoodBody (cond t o None)
only-clean true o p = p
only-clean false o p = tt

found-clean : (s : Scenario) (x : Context) (test : MethodBody → Bool) (bs : List MethodBody) → All (IsBody s x) bs → FitsBodies bs → GoodBody (option_map (λ (b : MethodBody). b.body) (find test bs))
found-clean s x test [] p q = tt
found-clean s x test (b ∷ bs) p q =
    by-test (test b) (program-clean s x 200 b.body (all-head (IsBody s x) b bs p).0 (all-head (λ (y : MethodBody). FitsProgram y.body) b bs q))
    (found-clean s x test bs (all-tail (IsBody s x) b bs p) (all-tail (λ (y : MethodBody). FitsProgram y.body) b bs q))
  where
    by-test : (t : Bool) → All Clean b.body → GoodBody (option_map (λ (b : MethodBody). b.body) (find test bs)) → GoodBody (option_map (λ (b : MethodBody). b.body) (cond t (Some b) (find test bs)))
    by-test true u r = u
    by-test false u r = r

ok-clean : IsShort (record { 0 = 0 })
ok-clean = omega arith

native-clean : (s : Scenario) (x : Context) (n : Native) (bs : List MethodBody) (i m : ℕ) → All (IsBody s x) bs → FitsAs n bs → GoodBody (kind_body n bs i m)
native-clean s x native.Bodies bs i m p q = found-clean s x (λ b. b.iface == i && b.method == m) bs p q
native-clean s x native.Counter bs i m p q = only-clean (i == 1) (slice_get counter_bodies m) (got-clean counter_bodies m ((tt, (tt, (tt, ((ok-clean, tt), tt)))), ((tt, ((ok-clean, tt), tt)), tt)))
native-clean s x native.Relay bs i m p q = only-clean (i == 2) (slice_get relay_bodies m) (got-clean relay_bodies m ((tt, ((ok-clean, tt), tt)), ((tt, (All-cons CleanArg _ [] tt (All-nil CleanArg), ((tt, tt), tt))), tt)))
native-clean s x native.Latch bs i m p q = only-clean (i == 3) (slice_get latch_bodies m) (got-clean latch_bodies m ((small-can 1 (omega arith), ((ok-clean, tt), tt)), ((tt, (tt, (tt, (tt, ((ok-clean, tt), tt))))), tt)))

abbrev KnownClass : Scenario → Option Class → Type 0
KnownClass s None = Unit {0}
KnownClass s (Some k) = ((n : ℕ) × IsClass s n k) × FitsClass k

known-class : (s : Scenario) (n : ℕ) (ks : List Class) (k : ℕ) → EachFrom (IsClass s) n ks → All FitsClass ks → KnownClass s (slice_get ks k)
known-class s n [] k p q = tt
known-class s n (c ∷ ks) zero p q = ((n, p.0), all-head FitsClass c ks q)
known-class s n (c ∷ ks) (suc k) p q = known-class s (n + 1) ks k p.1 (all-tail FitsClass c ks q)

class-known : (s : Scenario) → Formed s → FitsTypes s → (t : Bool) (k : ℕ) → KnownClass s (cond t None (slice_get s.classes.classes k))
class-known s f u true k = tt
class-known s f u false k = known-class s 1 s.classes.classes k f.classes.each u.classes

class-clean : (s : Scenario) (o : Option Class) (i m : ℕ) → KnownClass s o → GoodBody (option_and_then (λ c. class_body c i m) o)
class-clean s None i m p = tt
class-clean s (Some k) i m p = native-clean s (in_class p.0.0 k) k.native k.bodies i m p.0.1.3 p.1.1

unwrap-clean : (o : Option (List Stmt)) → GoodBody o → All Clean (unwrap_or o no_body)
unwrap-clean None p = each-clean no_body ((omega arith, tt), tt)
unwrap-clean (Some b) p = p

body-clean : (s : Scenario) → Formed s → FitsTypes s → (k i m : ℕ) → All Clean (body_of s.classes k i m)
body-clean s f t k i m = unwrap-clean _ (class-clean s (class_at s.classes k) i m (class-known s f t (k == 0) _))

pub scenario-clean : (s : Scenario) → Formed s → FitsTypes s → CleanScenario s
scenario-clean s f t = record { scripts = script-clean s f t; bodies = body-clean s f t }

-- ---- IIDs

abbrev GuidIn : Option Interface → Type 0
GuidIn o = IsGuid (iid_of o)

abbrev EachGuid : List Interface → Type 0
EachGuid [] = Unit {0}
EachGuid (x ∷ xs) = IsGuid x.iid × EachGuid xs

guid-in : (xs : List Interface) (i : ℕ) → EachGuid xs → GuidIn (slice_get xs i)
guid-in [] i p = zero-guid
guid-in (x ∷ xs) zero p = p.0
guid-in (x ∷ xs) (suc i) p = guid-in xs i p.1

both-guid : (n : ℕ) (xs : List Interface) → EachGuid (take n xs) → EachGuid (drop n xs) → EachGuid xs
both-guid zero xs p q = q
both-guid (suc n) [] p q = tt
both-guid (suc n) (x ∷ xs) p q = (p.0, both-guid n xs p.1 q)

all-guid : (xs : List Interface) → All FitsInterface xs → EachGuid xs
all-guid [] p = tt
all-guid (x ∷ xs) p = (guid-of x.iid (all-head FitsInterface x xs p), all-guid xs (all-tail FitsInterface x xs p))

abbrev EachByte : List ℕ → Type 0
EachByte [] = Unit {0}
EachByte (x ∷ xs) = (x < 256) × EachByte xs

each-byte : (xs : List ℕ) → EachByte xs → AreBytes xs
each-byte [] p = All-nil (λ x. x < 256)
each-byte (x ∷ xs) p = All-cons (λ x. x < 256) x xs p.0 (each-byte xs p.1)

eight-bytes : (a b : ℕ) → a < 256 → b < 256 → AreBytes (a ∷ 0 ∷ 0 ∷ 0 ∷ 0 ∷ 0 ∷ 0 ∷ b ∷ [])
eight-bytes a b p q =
    each-byte (a ∷ 0 ∷ 0 ∷ 0 ∷ 0 ∷ 0 ∷ 0 ∷ b ∷ [])
    (p, (omega arith, (omega arith, (omega arith, (omega arith, (omega arith, (omega arith, (q, tt))))))))

built-guid : (x y a b : ℕ) → x < 2 ^ 32 → y < 2 ^ 16 → a < 256 → b < 256 → IsGuid (record { data1 = x; data2 = 0; data3 = y; data4 = a ∷ 0 ∷ 0 ∷ 0 ∷ 0 ∷ 0 ∷ 0 ∷ b ∷ [] })
built-guid x y a b p q r t = record { data1 = p; data2 = omega arith; data3 = q; eight = refl; bytes = bytes-of (a ∷ 0 ∷ 0 ∷ 0 ∷ 0 ∷ 0 ∷ 0 ∷ b ∷ []) (eight-bytes a b r t) }

built-guids : EachGuid built_in_interfaces
built-guids = (
  built-guid 0 0 0xC0 0x46 (omega arith) (omega arith) (omega arith) (omega arith),
  (
    built-guid 0x5C0B0001 0x4000 0x80 1 (omega arith) (omega arith) (omega arith) (omega arith),
    (
      built-guid 0x5C0B0002 0x4000 0x80 1 (omega arith) (omega arith) (omega arith) (omega arith),
      (built-guid 0x5C0B0003 0x4000 0x80 1 (omega arith) (omega arith) (omega arith) (omega arith), tt),
    ),
  ),
)

pub iids-fit : (s : Scenario) → Formed s → FitsTypes s → (i : ℕ) → IsGuid (iid_of (interface_at s.classes i))
iids-fit s f t i =
    guid-in s.classes.interfaces i
    (both-guid 4 s.classes.interfaces (subst EachGuid (sym f.interfaces.built) built-guids) (all-guid (drop 4 s.classes.interfaces) t.interfaces))

pub counter-guid : IsGuid icounter.iid
counter-guid = built-guid 0x5C0B0001 0x4000 0x80 1 (omega arith) (omega arith) (omega arith) (omega arith)
