-- The bodies of a formed scenario have none of the statements of scripts alone.
use Rattle.std.proofs.Common.{subst, arith}
use Rattle.std.proofs.lemmas.List.Elements.{All-cons, All-nil, All-drop}
use Rattle.std.proofs.lemmas.Grind.{common_steps}
use Rattle.std.specs.Prelude.{◌≡◌, refl, ℕ, zero, suc, ◌+◌, Bool, true, false, cond, ◌&&◌, ◌==◌, List, [], ◌∷◌, Option, Some, None, All, option_map, option_and_then, unwrap_or, find, drop, slice_get, slice_index_or}
use Rattle.com_body.specs.declared.statements.Stmt.{Stmt}
use Rattle.com_body.specs.declared.statements.Stmt.TheVariants as stmt
use Rattle.com_body.specs.declared.actions.Action.{Action}
use Rattle.com_body.specs.declared.frame.Cells.{Cells}
use Rattle.com_body.specs.declared.frame.Outcome.{Outcome}
use Rattle.com_body.specs.declared.frame.Native.{Native}
use Rattle.com_body.specs.declared.frame.Native.TheVariants as native
use Rattle.com_body.specs.Frames.{FrameView, moved}
use Rattle.com_body.specs.BodySteps.{Effect, Goes, Acts, effect_of, walk, body_step, no_body}
use Rattle.com_classes.specs.declared.classes.Class.{Class}
use Rattle.com_classes.specs.declared.classes.MethodBody.{MethodBody}
use Rattle.com_classes.specs.BuiltIns.{counter_bodies, relay_bodies, latch_bodies}
use Rattle.com_classes.specs.Lookups.{class_at, class_body, kind_body, body_of}
use Rattle.com_model.specs.declared.deeds.Entry.{Entry}
use Rattle.com_model.specs.declared.scenario.Scenario.{Scenario}
use Rattle.com_model.specs.Tables.{lane_sort}
use Rattle.com_model.specs.Openers.{openers}
use Rattle.com_model.specs.declared.keeps.Opener.{Opener}
use Rattle.com_model.specs.declared.keeps.Opener.TheVariants.{Enters}
use Rattle.com_model.specs.Objects.{class_of}
use Rattle.com_model.specs.Calls.{issue}
use Rattle.com_model.specs.declared.keeps.Issue.{Issue}
use Rattle.com_model.specs.Frames.{Scene, Body, issued_body, scene, actor, act_by, act}
use Rattle.com_model.specs.Formed.{IsStatement, Context, FormedBody, in_class, IsBody, IsClass, EachFrom, Formed}
use Rattle.com_laws_safety.proofs.Small.{not-both}
use Rattle.com_laws_safety.proofs.Acted.{is_scripts}

abbrev Plain : Stmt → Type 0
Plain (stmt.Init m) = ⊥
Plain stmt.Uninit = ⊥
Plain (stmt.SetFilter f) = ⊥
Plain (stmt.Pump n) = ⊥
Plain _ = Unit {0}

statement-plain : (s : Scenario) (x : Context) (t : Stmt) → x.body ≡ true → IsStatement s x t → Plain t
statement-plain s x (stmt.Init m) e p = not-both x.body e p
statement-plain s x stmt.Uninit e p = not-both x.body e p
statement-plain s x (stmt.SetFilter f) e p = not-both x.body e p.0
statement-plain s x (stmt.Pump n) e p = not-both x.body e p.0
statement-plain s x _ e p = tt

formed-plain : (s : Scenario) (x : Context) (n : ℕ) (b : List Stmt) → x.body ≡ true → FormedBody s x n b → All Plain b
formed-plain s x n b e p = λ k d h. statement-plain s x (slice_index_or b k d) e (p.statements k d h)

-- ---- a step of such a body

abbrev PlainEffect : Effect → Type 0
PlainEffect (Goes f c n) = Unit {0}
PlainEffect (Acts a) = is_scripts a ≡ false

effect-plain : (f : FrameView) (c : Cells) (t : Stmt) → Plain t → PlainEffect (effect_of f c t)
effect-plain f c (stmt.Set to from) p = tt
effect-plain f c (stmt.Add to from) p = tt
effect-plain f c (stmt.Sub to from) p = tt
effect-plain f c (stmt.Less to left right) p = tt
effect-plain f c (stmt.Same to left right) p = tt
effect-plain f c (stmt.Load to cell) p = tt
effect-plain f c (stmt.Store cell from) p = tt
effect-plain f c (stmt.Skip k) p = tt
effect-plain f c (stmt.SkipZero r k) p = tt
effect-plain f c (stmt.Init m) p = absurd p
effect-plain f c stmt.Uninit p = absurd p
effect-plain f c (stmt.SetFilter x) p = absurd p
effect-plain f c (stmt.Pump k) p = absurd p
effect-plain f c _ p = refl

abbrev Walks : List Stmt → Type 0
Walks xs = (k : ℕ) (f : FrameView) (c : Cells) → is_scripts (walk xs k f c).action ≡ false

stepped-plain : (xs : List Stmt) (f : FrameView) (c : Cells) (e : Effect) → Walks xs → PlainEffect e → is_scripts (elim e as (λ x. Outcome) [ Goes g d k ↦ walk xs k (moved g (k + 1)) d | Acts a ↦ record { frame = moved f 1; cells = c; action = a } ]).action ≡ false
stepped-plain xs f c (Goes g d k) w p = w k (moved g (k + 1)) d
stepped-plain xs f c (Acts a) w p = p

all-head : {X : Type 0} (P : X → Type 0) (x : X) (xs : List X) → All P (x ∷ xs) → P x
all-head P x xs p = p 0 x (grind (arith, common_steps))

all-tail : {X : Type 0} (P : X → Type 0) (x : X) (xs : List X) → All P (x ∷ xs) → All P xs
all-tail P x xs p = λ k d h. p (suc k) d (grind (arith, common_steps, h))

walk-plain : (xs : List Stmt) → All Plain xs → Walks xs
walk-plain [] p k f c = refl
walk-plain (s ∷ xs) p (suc k) f c = walk-plain xs (all-tail Plain s xs p) k f c
walk-plain (s ∷ xs) p zero f c = stepped-plain xs f c (effect_of f c s) (walk-plain xs (all-tail Plain s xs p)) (effect-plain f c s (all-head Plain s xs p))

step-plain : (xs : List Stmt) (f : FrameView) (c : Cells) → All Plain xs → is_scripts (body_step xs f c).action ≡ false
step-plain xs f c p = walk-plain (drop f.place xs) (All-drop Plain f.place xs p) 0 f c

-- ---- the bodies that run

abbrev PlainBody : Option (List Stmt) → Type 0
PlainBody None = Unit {0}
PlainBody (Some b) = All Plain b

abbrev Each : List Stmt → Type 0
Each [] = Unit {0}
Each (t ∷ ts) = Plain t × Each ts

each-plain : (ts : List Stmt) → Each ts → All Plain ts
each-plain [] p = All-nil Plain
each-plain (t ∷ ts) p = All-cons Plain t ts p.0 (each-plain ts p.1)

abbrev EachBody : List (List Stmt) → Type 0
EachBody [] = Unit {0}
EachBody (b ∷ bs) = Each b × EachBody bs

got-plain : (bs : List (List Stmt)) (m : ℕ) → EachBody bs → PlainBody (slice_get bs m)
got-plain [] m p = tt
got-plain (b ∷ bs) zero p = each-plain b p.0
got-plain (b ∷ bs) (suc m) p = got-plain bs m p.1

only-plain : (t : Bool) (o : Option (List Stmt)) → PlainBody o → PlainBody (cond t o None)
only-plain true o p = p
only-plain false o p = tt

found-plain : (s : Scenario) (x : Context) (test : MethodBody → Bool) (bs : List MethodBody) → x.body ≡ true → All (IsBody s x) bs → PlainBody (option_map (λ (b : MethodBody). b.body) (find test bs))
found-plain s x test [] e p = tt
found-plain s x test (b ∷ bs) e p = by-test (test b) (formed-plain s x 200 b.body e (p 0 b (grind (arith, common_steps))).0) (found-plain s x test bs e (λ k d h. p (suc k) d (grind (arith, common_steps, h))))
  where
    by-test : (t : Bool) → All Plain b.body → PlainBody (option_map (λ (b : MethodBody). b.body) (find test bs)) → PlainBody (option_map (λ (b : MethodBody). b.body) (cond t (Some b) (find test bs)))
    by-test true q r = q
    by-test false q r = r

native-plain : (s : Scenario) (x : Context) (n : Native) (bs : List MethodBody) (i m : ℕ) → x.body ≡ true → All (IsBody s x) bs → PlainBody (kind_body n bs i m)
native-plain s x native.Bodies bs i m e p = found-plain s x (λ b. b.iface == i && b.method == m) bs e p
native-plain s x native.Counter bs i m e p = only-plain (i == 1) (slice_get counter_bodies m) (got-plain counter_bodies m ((tt, (tt, (tt, (tt, tt)))), ((tt, (tt, tt)), tt)))
native-plain s x native.Relay bs i m e p = only-plain (i == 2) (slice_get relay_bodies m) (got-plain relay_bodies m ((tt, (tt, tt)), ((tt, (tt, (tt, tt))), tt)))
native-plain s x native.Latch bs i m e p = only-plain (i == 3) (slice_get latch_bodies m) (got-plain latch_bodies m ((tt, (tt, tt)), ((tt, (tt, (tt, (tt, (tt, tt))))), tt)))

abbrev KnownClass : Scenario → Option Class → Type 0
KnownClass s None = Unit {0}
KnownClass s (Some k) = (n : ℕ) × IsClass s n k

known-class : (s : Scenario) (n : ℕ) (ks : List Class) (k : ℕ) → EachFrom (IsClass s) n ks → KnownClass s (slice_get ks k)
known-class s n [] k p = tt
known-class s n (c ∷ ks) zero p = (n, p.0)
known-class s n (c ∷ ks) (suc k) p = known-class s (n + 1) ks k p.1

class-known : (s : Scenario) (f : Formed s) (t : Bool) (k : ℕ) → KnownClass s (cond t None (slice_get s.classes.classes k))
class-known s f true k = tt
class-known s f false k = known-class s 1 s.classes.classes k f.classes.each

class-plain : (s : Scenario) (o : Option Class) (i m : ℕ) → KnownClass s o → PlainBody (option_and_then (λ c. class_body c i m) o)
class-plain s None i m p = tt
class-plain s (Some k) i m p = native-plain s (in_class p.0 k) k.native k.bodies i m refl p.1.3

unwrap-plain : (o : Option (List Stmt)) → PlainBody o → All Plain (unwrap_or o no_body)
unwrap-plain None p = each-plain no_body (tt, tt)
unwrap-plain (Some b) p = p

body-plain : (s : Scenario) → Formed s → (k i m : ℕ) → All Plain (body_of s.classes k i m)
body-plain s f k i m = unwrap-plain _ (class-plain s (class_at s.classes k) i m (class-known s f (k == 0) _))

issued-plain : (s : Scenario) → Formed s → (k : ℕ) (i : Option Issue) (f : FrameView) (c : Cells) → is_scripts (issued_body s k i f c).action ≡ false
issued-plain s x k None f c = step-plain [] f c (All-nil Plain)
issued-plain s x k (Some i) f c = step-plain (body_of s.classes k i.iface i.method) f c (body-plain s x k i.iface i.method)

body-acts : (s : Scenario) → Formed s → (k : ℕ → ℕ) (i : ℕ → Option Issue) (w : Scene) (c o : ℕ) (x : Action) → act_by s k i w (Body c o) ≡ Some x → is_scripts x ≡ false
body-acts s f k i w c o x e = subst (λ (y : Action). is_scripts y ≡ false) (same _ x e) (issued-plain s f (k o) (i c) (w.bodies c) (w.cells o))
  where
    same : (x y : Action) → Some x ≡ Some y → x ≡ y
    same x y e = cc

-- An action of a body is none of scripts alone.
pub not-scripts : (s : Scenario) (h : List Entry) (l c o a : ℕ) (os : List Opener) (x : Action) → Formed s → openers h l ≡ Enters c o a ∷ os → act s h l ≡ Some x → is_scripts x ≡ false
not-scripts s h l c o a os x f e p =
    body-acts s f (class_of h) (issue h) (scene s h) c o x
    (subst (λ (y : List Opener). act_by s (class_of h) (issue h) (scene s h) (actor (lane_sort s l) l y) ≡ Some x) e p)
