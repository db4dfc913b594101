-- In a formed scenario each action writes to a slot or a link that there is.
use Rattle.std.proofs.lemmas.List.Elements.{All-cons, All-drop, All-nil}
use Rattle.std.proofs.Common.{arith}
use Rattle.std.specs.Prelude.{ℕ, zero, suc, ◌+◌, ◌<◌, Bool, true, false, cond, ◌==◌, ◌&&◌, List, [], ◌∷◌, drop, Option, Some, None, All, option_map, option_and_then, unwrap_or, find, slice_get, slice_index_or}
use Rattle.com_body.specs.declared.operands.Destination.{Destination}
use Rattle.com_body.specs.declared.operands.Destination.TheVariants as destination
use Rattle.com_body.specs.declared.statements.Stmt.{Stmt}
use Rattle.com_body.specs.declared.statements.Stmt.TheVariants as stmt
use Rattle.com_body.specs.declared.actions.Action.{Action}
use Rattle.com_body.specs.declared.actions.Action.TheVariants as action
use Rattle.com_body.specs.declared.frame.Cells.{Cells}
use Rattle.com_body.specs.declared.frame.Outcome.{Outcome}
use Rattle.com_body.specs.declared.frame.Native.{Native}
use Rattle.com_body.specs.declared.frame.Native.TheVariants as native
use Rattle.com_body.specs.Bodies.{IsPlace, IsDestination, IsInRange}
use Rattle.com_body.specs.Frames.{FrameView, moved}
use Rattle.com_body.specs.BodySteps.{Effect, Goes, Acts, effect_of, walk, body_step, no_body}
use Rattle.com_body.specs.Operands.{new_cells}
use Rattle.com_classes.specs.declared.classes.Class.{Class}
use Rattle.com_classes.specs.declared.classes.MethodBody.{MethodBody}
use Rattle.com_classes.specs.BuiltIns.{counter_bodies, relay_bodies, latch_bodies}
use Rattle.com_classes.specs.Lookups.{class_at, class_body, kind_body, body_of}
use Rattle.com_model.specs.declared.scenario.Scenario.{Scenario}
use Rattle.com_model.specs.declared.keeps.Issue.{Issue}
use Rattle.com_model.specs.Tables.{script}
use Rattle.com_model.specs.Frames.{Scene, Actor, Body, Script, Nobody, issued_body, outcome}
use Rattle.com_model.specs.Formed.{Context, FormedBody, in_script, in_class, IsBody, IsClass, EachFrom, Formed}
use Rattle.com_model.proofs.Goods.{all-of, all-or}
use Rattle.com_laws_balance.proofs.Carries.{all-head, all-tail}

-- A call's result goes to a slot that there is, where it goes to a slot.
abbrev pub FitsTarget : Destination → Type 0
FitsTarget (destination.Slot n) = n < 8
FitsTarget _ = Unit {0}

abbrev Fits : Stmt → Type 0
Fits (stmt.Create slot k i) = slot < 8
Fits (stmt.Query to from i) = to < 8
Fits (stmt.Copy to from) = IsPlace to
Fits (stmt.Release from) = IsPlace from
Fits (stmt.Call slot i m args to) = FitsTarget to
Fits (stmt.Unmarshal slot b) = slot < 8
Fits (stmt.Get slot g) = slot < 8
Fits _ = Unit {0}

abbrev pub FitsAction : Action → Type 0
FitsAction (action.Create slot k i) = slot < 8
FitsAction (action.Query to held i) = to < 8
FitsAction (action.Copy to held) = IsPlace to
FitsAction (action.Release from held) = IsPlace from
FitsAction (action.Call held i m args to) = FitsTarget to
FitsAction (action.Unmarshal slot b) = slot < 8
FitsAction (action.Get slot g) = slot < 8
FitsAction _ = Unit {0}

target-fits : (to : Destination) → IsDestination to → FitsTarget to
target-fits (destination.Slot n) p = p
target-fits (destination.Register n) p = tt
target-fits destination.Nowhere p = tt

range-fits : (x : Stmt) → IsInRange x → Fits x
range-fits (stmt.Create slot k i) p = p
range-fits (stmt.Query to from i) p = p.0
range-fits (stmt.Copy to from) p = p.0
range-fits (stmt.Release from) p = p
range-fits (stmt.Call slot i m args to) p = target-fits to p.2
range-fits (stmt.Unmarshal slot b) p = p.0
range-fits (stmt.Get slot g) p = p.0
range-fits _ p = tt

-- ---- a body step

abbrev FitsEffect : Effect → Type 0
FitsEffect (Goes f c k) = Unit {0}
FitsEffect (Acts a) = FitsAction a

effect-fits : (f : FrameView) (c : Cells) (x : Stmt) → Fits x → FitsEffect (effect_of f c x)
effect-fits f c (stmt.Create slot k i) p = p
effect-fits f c (stmt.Query to from i) p = p
effect-fits f c (stmt.Copy to from) p = p
effect-fits f c (stmt.Release from) p = p
effect-fits f c (stmt.Call slot i m args to) p = p
effect-fits f c (stmt.Unmarshal slot b) p = p
effect-fits f c (stmt.Get slot g) p = p
effect-fits f c _ p = tt

stepped-fits : (xs : List Stmt) (f : FrameView) (c : Cells) (e : Effect) → ((k : ℕ) (g : FrameView) (d : Cells) → FitsAction (walk xs k g d).action) → FitsEffect e → FitsAction (elim e as (λ _. Outcome) [ Goes g d k ↦ walk xs k (moved g (k + 1)) d | Acts a ↦ record { frame = moved f 1; cells = c; action = a } ]).action
stepped-fits xs f c (Goes g d k) w p = w k (moved g (k + 1)) d
stepped-fits xs f c (Acts a) w p = p

walk-fits : (xs : List Stmt) → All Fits xs → (k : ℕ) (f : FrameView) (c : Cells) → FitsAction (walk xs k f c).action
walk-fits [] p k f c = tt
walk-fits (x ∷ xs) p (suc k) f c = walk-fits xs (all-tail Fits x xs p) k f c
walk-fits (x ∷ xs) p zero f c = stepped-fits xs f c (effect_of f c x) (walk-fits xs (all-tail Fits x xs p)) (effect-fits f c x (all-head Fits x xs p))

step-fits : (xs : List Stmt) (f : FrameView) (c : Cells) → All Fits xs → FitsAction (body_step xs f c).action
step-fits xs f c p = walk-fits (drop f.place xs) (All-drop Fits f.place xs p) 0 f c

-- ---- scripts and bodies

formed-fits : (s : Scenario) (x : Context) (n : ℕ) (b : List Stmt) → FormedBody s x n b → All Fits b
formed-fits s x n b p = λ k d h. range-fits (slice_index_or b k d) (p.ranges k d h)

script-fits : (s : Scenario) → Formed s → (l : ℕ) → All Fits (script s l)
script-fits s f zero = All-nil Fits
script-fits s f (suc l) = all-or (All Fits) s.threads l [] (All-nil Fits) (all-of (FormedBody s (in_script s) 2000) (All Fits) (formed-fits s (in_script s) 2000) s.threads f.threads.0)

abbrev FitBody : Option (List Stmt) → Type 0
FitBody None = Unit {0}
FitBody (Some b) = All Fits b

abbrev Each : List Stmt → Type 0
Each [] = Unit {0}
Each (t ∷ ts) = Fits t × Each ts

each-fits : (ts : List Stmt) → Each ts → All Fits ts
each-fits [] p = All-nil Fits
each-fits (t ∷ ts) p = All-cons Fits t ts p.0 (each-fits ts p.1)

abbrev EachBody : List (List Stmt) → Type 0
EachBody [] = Unit {0}
EachBody (b ∷ bs) = Each b × EachBody bs

got-fits : (bs : List (List Stmt)) (m : ℕ) → EachBody bs → FitBody (slice_get bs m)
got-fits [] m p = tt
got-fits (b ∷ bs) zero p = each-fits b p.0
got-fits (b ∷ bs) (suc m) p = got-fits bs m p.1

only-fits : (t : Bool) (o : Option (List Stmt)) → FitBody o → FitBody (cond t o None)
only-fits true o p = p
only-fits false o p = tt

found-fits : (s : Scenario) (x : Context) (test : MethodBody → Bool) (bs : List MethodBody) → All (IsBody s x) bs → FitBody (option_map (λ (b : MethodBody). b.body) (find test bs))
found-fits s x test [] p = tt
found-fits s x test (b ∷ bs) p = by-test (test b) (formed-fits s x 200 b.body (all-head (IsBody s x) b bs p).0) (found-fits s x test bs (all-tail (IsBody s x) b bs p))
  where
    by-test : (t : Bool) → All Fits b.body → FitBody (option_map (λ (b : MethodBody). b.body) (find test bs)) → FitBody (option_map (λ (b : MethodBody). b.body) (cond t (Some b) (find test bs)))
    by-test true q r = q
    by-test false q r = r

native-fits : (s : Scenario) (x : Context) (i m : ℕ) (n : Native) (bs : List MethodBody) → All (IsBody s x) bs → FitBody (kind_body n bs i m)
native-fits s x i m native.Bodies bs p = found-fits s x (λ b. b.iface == i && b.method == m) bs p
native-fits s x i m native.Counter bs p = only-fits (i == 1) (slice_get counter_bodies m) (got-fits counter_bodies m ((tt, (tt, (tt, (tt, tt)))), ((tt, (tt, tt)), tt)))
native-fits s x i m native.Relay bs p = only-fits (i == 2) (slice_get relay_bodies m) (got-fits relay_bodies m ((omega arith, (tt, tt)), ((omega arith, (tt, (tt, tt))), tt)))
native-fits s x i m native.Latch bs p = only-fits (i == 3) (slice_get latch_bodies m) (got-fits latch_bodies m ((tt, (tt, tt)), ((tt, (tt, (tt, (tt, (tt, tt))))), tt)))

abbrev KnownClass : Scenario → Option Class → Type 0
KnownClass s None = Unit {0}
KnownClass s (Some k) = (n : ℕ) × IsClass s n k

known-class : (s : Scenario) (n : ℕ) (ks : List Class) (k : ℕ) → EachFrom (IsClass s) n ks → KnownClass s (slice_get ks k)
known-class s n [] k p = tt
known-class s n (c ∷ ks) zero p = (n, p.0)
known-class s n (c ∷ ks) (suc k) p = known-class s (n + 1) ks k p.1

class-known : (s : Scenario) (f : Formed s) (t : Bool) (k : ℕ) → KnownClass s (cond t None (slice_get s.classes.classes k))
class-known s f true k = tt
class-known s f false k = known-class s 1 s.classes.classes k f.classes.each

class-fits : (s : Scenario) (o : Option Class) (i m : ℕ) → KnownClass s o → FitBody (option_and_then (λ c. class_body c i m) o)
class-fits s None i m p = tt
class-fits s (Some k) i m p = native-fits s (in_class p.0 k) i m k.native k.bodies p.1.3

unwrap-fits : (o : Option (List Stmt)) → FitBody o → All Fits (unwrap_or o no_body)
unwrap-fits None p = each-fits no_body (tt, tt)
unwrap-fits (Some b) p = p

body-fits : (s : Scenario) → Formed s → (k i m : ℕ) → All Fits (body_of s.classes k i m)
body-fits s f k i m = unwrap-fits (option_and_then (λ c. class_body c i m) (class_at s.classes k)) (class-fits s (class_at s.classes k) i m (class-known s f _ _))

-- ---- whoever acts

abbrev pub FitsOut : Option Outcome → Type 0
FitsOut None = Unit {0}
FitsOut (Some r) = FitsAction r.action

issued-fits : (s : Scenario) → Formed s → (k : ℕ) (i : Option Issue) (f : FrameView) (c : Cells) → FitsAction (issued_body s k i f c).action
issued-fits s z k None f c = step-fits [] f c (All-nil Fits)
issued-fits s z k (Some i) f c = step-fits (body_of s.classes k i.iface i.method) f c (body-fits s z k i.iface i.method)

pub outcome-fits : (s : Scenario) → Formed s → (k : ℕ → ℕ) (i : ℕ → Option Issue) (w : Scene) (a : Actor) → FitsOut (outcome s k i w a)
outcome-fits s f k i w (Body c o) = issued-fits s f (k o) (i c) (w.bodies c) (w.cells o)
outcome-fits s f k i w (Script l) = step-fits (script s l) (w.scripts l) new_cells (script-fits s f l)
outcome-fits s f k i w Nobody = tt
