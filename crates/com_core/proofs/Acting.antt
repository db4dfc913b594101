-- In a formed scenario the numbers of each action fit: an interface that is asked for is declared, and the bytes that a buffer gets are few.
use Rattle.std.proofs.lemmas.List.Elements.{All-cons, All-drop, All-nil}
use Rattle.std.specs.Prelude.{ℕ, zero, suc, ◌+◌, ◌≤◌, Bool, true, false, cond, ◌==◌, ◌&&◌, List, [], ◌∷◌, length, drop, Option, Some, None, All, option_map, option_and_then, unwrap_or, find, slice_get, slice_index_or}
use Rattle.com_body.specs.declared.statements.Stmt.{Stmt}
use Rattle.com_body.specs.declared.statements.Stmt.TheVariants as stmt
use Rattle.com_body.specs.declared.actions.Action.{Action}
use Rattle.com_body.specs.declared.actions.Action.TheVariants as action
use Rattle.com_body.specs.declared.frame.Cells.{Cells}
use Rattle.com_body.specs.declared.frame.Outcome.{Outcome}
use Rattle.com_body.specs.declared.frame.Native.{Native}
use Rattle.com_body.specs.declared.frame.Native.TheVariants as native
use Rattle.com_body.specs.Frames.{FrameView, moved}
use Rattle.com_body.specs.BodySteps.{Effect, Goes, Acts, effect_of, walk, body_step, no_body}
use Rattle.com_body.specs.Operands.{new_cells}
use Rattle.com_classes.specs.declared.classes.Class.{Class}
use Rattle.com_classes.specs.declared.classes.MethodBody.{MethodBody}
use Rattle.com_classes.specs.BuiltIns.{counter_bodies, relay_bodies, latch_bodies}
use Rattle.com_classes.specs.Lookups.{class_at, class_body, kind_body, body_of}
use Rattle.com_model.specs.declared.scenario.Scenario.{Scenario}
use Rattle.com_model.specs.declared.keeps.Issue.{Issue}
use Rattle.com_model.specs.Tables.{script}
use Rattle.com_model.specs.Frames.{Scene, Actor, Body, Script, Nobody, issued_body, outcome}
use Rattle.com_model.specs.Formed.{Context, FormedBody, in_script, in_class, IsBody, IsClass, EachFrom, IsStatement, Formed}
use Rattle.com_model.proofs.Goods.{all-of, all-or}
use Rattle.com_laws_balance.proofs.Carries.{all-head, all-tail}

abbrev pub FewBytes : Action → Type 0
FewBytes (action.Raw b bytes) = length bytes ≤ 4096
FewBytes _ = Unit {0}

abbrev FewEffect : Effect → Type 0
FewEffect (Goes f c k) = Unit {0}
FewEffect (Acts a) = FewBytes a

-- Whatever the frame and the cells are.
abbrev Few : Stmt → Type 0
Few x = (f : FrameView) (c : Cells) → FewEffect (effect_of f c x)

statement-few : (s : Scenario) (x : Context) (t : Stmt) → IsStatement s x t → Few t
statement-few s x (stmt.Raw b bytes) q = λ f c. q.1
statement-few s x _ q = λ f c. tt

-- ---- a body step

stepped-fits : (s : Scenario) (xs : List Stmt) (f : FrameView) (c : Cells) (e : Effect) → ((k : ℕ) (g : FrameView) (d : Cells) → FewBytes (walk xs k g d).action) → FewEffect e → FewBytes (elim e as (λ _. Outcome) [ Goes g d k ↦ walk xs k (moved g (k + 1)) d | Acts a ↦ record { frame = moved f 1; cells = c; action = a } ]).action
stepped-fits s xs f c (Goes g d k) w p = w k (moved g (k + 1)) d
stepped-fits s xs f c (Acts a) w p = p

walk-fits : (s : Scenario) (xs : List Stmt) → All Few xs → (k : ℕ) (f : FrameView) (c : Cells) → FewBytes (walk xs k f c).action
walk-fits s [] p k f c = tt
walk-fits s (x ∷ xs) p (suc k) f c = walk-fits s xs (all-tail Few x xs p) k f c
walk-fits s (x ∷ xs) p zero f c = stepped-fits s xs f c (effect_of f c x) (walk-fits s xs (all-tail Few x xs p)) (all-head Few x xs p f c)

step-fits : (s : Scenario) (xs : List Stmt) (f : FrameView) (c : Cells) → All Few xs → FewBytes (body_step xs f c).action
step-fits s xs f c p = walk-fits s (drop f.place xs) (All-drop Few f.place xs p) 0 f c

-- ---- scripts and bodies

formed-fits : (s : Scenario) (x : Context) (n : ℕ) (b : List Stmt) → FormedBody s x n b → All Few b
formed-fits s x n b p = λ k d h. statement-few s x (slice_index_or b k d) (p.statements k d h)

script-fits : (s : Scenario) → Formed s → (l : ℕ) → All Few (script s l)
script-fits s f zero = All-nil Few
script-fits s f (suc l) = all-or (All Few) s.threads l [] (All-nil Few) (all-of (FormedBody s (in_script s) 2000) (All Few) (formed-fits s (in_script s) 2000) s.threads f.threads.0)

abbrev FitBody : Scenario → Option (List Stmt) → Type 0
FitBody s None = Unit {0}
FitBody s (Some b) = All Few b

abbrev Each : Scenario → List Stmt → Type 0
Each s [] = Unit {0}
Each s (t ∷ ts) = Few t × Each s ts

each-fits : (s : Scenario) (ts : List Stmt) → Each s ts → All Few ts
each-fits s [] p = All-nil Few
each-fits s (t ∷ ts) p = All-cons Few t ts p.0 (each-fits s ts p.1)

abbrev EachBody : Scenario → List (List Stmt) → Type 0
EachBody s [] = Unit {0}
EachBody s (b ∷ bs) = Each s b × EachBody s bs

got-fits : (s : Scenario) (bs : List (List Stmt)) (m : ℕ) → EachBody s bs → FitBody s (slice_get bs m)
got-fits s [] m p = tt
got-fits s (b ∷ bs) zero p = each-fits s b p.0
got-fits s (b ∷ bs) (suc m) p = got-fits s bs m p.1

only-fits : (s : Scenario) (t : Bool) (o : Option (List Stmt)) → FitBody s o → FitBody s (cond t o None)
only-fits s true o p = p
only-fits s false o p = tt

found-fits : (s : Scenario) (x : Context) (test : MethodBody → Bool) (bs : List MethodBody) → All (IsBody s x) bs → FitBody s (option_map (λ (b : MethodBody). b.body) (find test bs))
found-fits s x test [] p = tt
found-fits s x test (b ∷ bs) p = by-test (test b) (formed-fits s x 200 b.body (all-head (IsBody s x) b bs p).0) (found-fits s x test bs (all-tail (IsBody s x) b bs p))
  where
    by-test : (t : Bool) → All Few b.body → FitBody s (option_map (λ (b : MethodBody). b.body) (find test bs)) → FitBody s (option_map (λ (b : MethodBody). b.body) (cond t (Some b) (find test bs)))
    by-test true q r = q
    by-test false q r = r

native-fits : (s : Scenario) (x : Context) (i m : ℕ) (n : Native) (bs : List MethodBody) → All (IsBody s x) bs → FitBody s (kind_body n bs i m)
native-fits s x i m native.Bodies bs p = found-fits s x (λ b. b.iface == i && b.method == m) bs p
native-fits s x i m native.Counter bs p = only-fits s (i == 1) (slice_get counter_bodies m) (got-fits s counter_bodies m ((λ f c. tt, (λ f c. tt, (λ f c. tt, (λ f c. tt, tt)))), ((λ f c. tt, (λ f c. tt, tt)), tt)))
native-fits s x i m native.Relay bs p = only-fits s (i == 2) (slice_get relay_bodies m) (got-fits s relay_bodies m ((λ f c. tt, (λ f c. tt, tt)), ((λ f c. tt, (λ f c. tt, (λ f c. tt, tt))), tt)))
native-fits s x i m native.Latch bs p = only-fits s (i == 3) (slice_get latch_bodies m) (got-fits s latch_bodies m ((λ f c. tt, (λ f c. tt, tt)), ((λ f c. tt, (λ f c. tt, (λ f c. tt, (λ f c. tt, (λ f c. tt, tt))))), tt)))

abbrev KnownClass : Scenario → Option Class → Type 0
KnownClass s None = Unit {0}
KnownClass s (Some k) = (n : ℕ) × IsClass s n k

known-class : (s : Scenario) (n : ℕ) (ks : List Class) (k : ℕ) → EachFrom (IsClass s) n ks → KnownClass s (slice_get ks k)
known-class s n [] k p = tt
known-class s n (c ∷ ks) zero p = (n, p.0)
known-class s n (c ∷ ks) (suc k) p = known-class s (n + 1) ks k p.1

class-known : (s : Scenario) (f : Formed s) (t : Bool) (k : ℕ) → KnownClass s (cond t None (slice_get s.classes.classes k))
class-known s f true k = tt
class-known s f false k = known-class s 1 s.classes.classes k f.classes.each

class-fits : (s : Scenario) (o : Option Class) (i m : ℕ) → KnownClass s o → FitBody s (option_and_then (λ c. class_body c i m) o)
class-fits s None i m p = tt
class-fits s (Some k) i m p = native-fits s (in_class p.0 k) i m k.native k.bodies p.1.3

unwrap-fits : (s : Scenario) (o : Option (List Stmt)) → FitBody s o → All Few (unwrap_or o no_body)
unwrap-fits s None p = each-fits s no_body (λ f c. tt, tt)
unwrap-fits s (Some b) p = p

body-fits : (s : Scenario) → Formed s → (k i m : ℕ) → All Few (body_of s.classes k i m)
body-fits s f k i m = unwrap-fits s (option_and_then (λ c. class_body c i m) (class_at s.classes k)) (class-fits s (class_at s.classes k) i m (class-known s f _ _))

-- ---- whoever acts

abbrev pub FewOut : Option Outcome → Type 0
FewOut None = Unit {0}
FewOut (Some r) = FewBytes r.action

issued-fits : (s : Scenario) → Formed s → (k : ℕ) (i : Option Issue) (f : FrameView) (c : Cells) → FewBytes (issued_body s k i f c).action
issued-fits s z k None f c = step-fits s [] f c (All-nil Few)
issued-fits s z k (Some i) f c = step-fits s (body_of s.classes k i.iface i.method) f c (body-fits s z k i.iface i.method)

pub outcome-few : (s : Scenario) → Formed s → (k : ℕ → ℕ) (i : ℕ → Option Issue) (w : Scene) (a : Actor) → FewOut (outcome s k i w a)
outcome-few s f k i w (Body c o) = issued-fits s f (k o) (i c) (w.bodies c) (w.cells o)
outcome-few s f k i w (Script l) = step-fits s (script s l) (w.scripts l) new_cells (script-fits s f l)
outcome-few s f k i w Nobody = tt
