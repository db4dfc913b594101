-- A class that was looked through is a source.
use Rattle.std.proofs.Common.{refl, sym, ap, ◌∙◌, eqb-true, arith}
use Rattle.std.proofs.lemmas.Bool.{false_from_ne_true}
use Rattle.std.specs.Prelude.{◌≡◌, ℕ, zero, suc, Bool, true, false, not, cond, ◌||◌, ◌&&◌, ◌==◌, nat_lt, List, [], ◌∷◌, Option, Some, None, find, option_and_then}
use Rattle.std.specs.Option.{option_map}
use Rattle.com_body.specs.declared.frame.Native.{Native}
use Rattle.com_body.specs.declared.frame.Native.TheVariants as native
use Rattle.com_body.specs.declared.statements.Stmt.{Stmt}
use Rattle.com_classes.specs.declared.classes.Class.{Class}
use Rattle.com_classes.specs.declared.classes.MethodBody.{MethodBody}
use Rattle.com_classes.specs.declared.interfaces.Interface.{Interface}
use Rattle.com_classes.specs.Lookups.{class_at, interface_at, class_body, kind_body, body_at}
use Rattle.com_model.specs.declared.scenario.Scenario.{Scenario}
use Rattle.com_laws_sources.specs.Bodies.{advise_body, unadvise_body, fire_body}
use Rattle.com_laws_sources.specs.Sources.{IsPoint, IsSource, IsStaModel, point_body}
use Rattle.com_points.specs.SourceHeads.{are_own_bodies}

abbrev pub at : (j m : ℕ) → MethodBody → Bool
at j m b = b.iface == j && b.method == m

-- What the test of the first body says.
tests : (x y rest : Bool) → cond (not x || y) false rest ≡ true → (x ≡ true) × (y ≡ false) × (rest ≡ true)
tests true true rest h = absurd (cc)
tests true false rest h = (refl, refl, h)
tests false true rest h = absurd (cc)
tests false false rest h = absurd (cc)

-- No body is one of another method.
none_at : (i j m : ℕ) (bodies : List MethodBody) → are_own_bodies i bodies ≡ true
    → ((b : MethodBody) → b.iface ≡ i → nat_lt 2 b.method ≡ false → at j m b ≡ false) → find (at j m) bodies ≡ None
none_at i j m [] h f = refl
none_at i j m (b ∷ bs) h f =
    let t = tests (b.iface == i) (nat_lt 2 b.method) (are_own_bodies i bs) h in
    ap (λ (c : Bool). cond c (Some b) (find (at j m) bs)) (f b (eqb-true b.iface i t.0) t.1) ∙ none_at i j m bs t.2 f

no_and : (a b : Bool) → a ≡ false → (a && b) ≡ false
no_and true b h = absurd (cc)
no_and false b h = refl

and_no : (a b : Bool) → b ≡ false → (a && b) ≡ false
and_no true b h = h
and_no false b h = refl

pub same_itself : (n : ℕ) → (n == n) ≡ true
same_itself n = grind arith

other_interface : (i j m : ℕ) → (j == i) ≡ false → (b : MethodBody) → b.iface ≡ i → nat_lt 2 b.method ≡ false → at j m b ≡ false
other_interface i j m h b e l = no_and (b.iface == j) (b.method == m) (false_from_ne_true (b.iface == j) (λ t.
    let same : j ≡ i = sym (eqb-true b.iface j t) ∙ e in
    let w : (j == i) ≡ true = ap (λ (k : ℕ). j == k) (sym same) ∙ same_itself j in
    not-both w h))
  where
    not-both : {x : Bool} → x ≡ true → x ≡ false → ⊥
    not-both p q = cc

few : (k n : ℕ) → nat_lt 2 k ≡ false → k ≡ suc (suc (suc n)) → ⊥
few k n h e = grind (arith, h, e)

other_method : (i n : ℕ) (b : MethodBody) → b.iface ≡ i → nat_lt 2 b.method ≡ false → at i (suc (suc (suc n))) b ≡ false
other_method i n b e l = and_no (b.iface == i) (b.method == suc (suc (suc n))) (false_from_ne_true (b.method == suc (suc (suc n))) (λ t.
    few b.method n l (eqb-true b.method (suc (suc (suc n))) t)))

-- The body of a class of bodies where its list has none.
missing : (k : Class) (j m : ℕ) → k.native ≡ native.Bodies → find (at j m) k.bodies ≡ None → class_body k j m ≡ None
missing k j m n e =
    ap (λ (v : Native). kind_body v k.bodies j m) n ∙ ap (λ (o : Option MethodBody). option_map (λ b. b.body) o) e

given : (s : Scenario) (class i m : ℕ) (k : Class) (b : List Stmt) → class_at s.classes class ≡ Some k
    → body_at s.classes class i m ≡ Some b → class_body k i m ≡ Some b
given s class i m k b e h = sym (ap (λ (o : Option Class). option_and_then (λ c. class_body c i m) o) e) ∙ h

own : (s : Scenario) (class i : ℕ) (k : Class) → class_at s.classes class ≡ Some k → k.native ≡ native.Bodies → are_own_bodies i k.bodies ≡ true
    → body_at s.classes class i 0 ≡ Some advise_body → body_at s.classes class i 1 ≡ Some unadvise_body → body_at s.classes class i 2 ≡ Some fire_body
    → (m : ℕ) → class_body k i m ≡ point_body m
own s class i k e n o a u f zero = given s class i 0 k advise_body e a
own s class i k e n o a u f (suc zero) = given s class i 1 k unadvise_body e u
own s class i k e n o a u f (suc (suc zero)) = given s class i 2 k fire_body e f
own s class i k e n o a u f (suc (suc (suc m))) =
    missing k i (suc (suc (suc m))) n (none_at i i (suc (suc (suc m))) k.bodies o (other_method i m))

bodies_by : (i j m : ℕ) (k : Class) → k.native ≡ native.Bodies → are_own_bodies i k.bodies ≡ true → ((m : ℕ) → class_body k i m ≡ point_body m)
    → (t : Bool) → (j == i) ≡ t → class_body k j m ≡ cond t (point_body m) None
bodies_by i j m k n o g true e = ap (λ (x : ℕ). class_body k x m) (eqb-true j i e) ∙ g m
bodies_by i j m k n o g false e = missing k j m n (none_at i j m k.bodies o (other_interface i j m e))

pub found : (s : Scenario) (class i : ℕ) (k : Class) (p : Interface) → class_at s.classes class ≡ Some k → interface_at s.classes i ≡ Some p
    → k.interfaces ≡ i ∷ [] → IsStaModel k.model → k.native ≡ native.Bodies → IsPoint p → are_own_bodies i k.bodies ≡ true
    → body_at s.classes class i 0 ≡ Some advise_body → body_at s.classes class i 1 ≡ Some unadvise_body → body_at s.classes class i 2 ≡ Some fire_body
    → IsSource s class i
found s class i k p e d is model n point o a u f = record {
  declaration = k;
  there = e;
  source = record {
    model = model;
    native = n;
    interfaces = is;
    point = p;
    declared = d;
    is_point = point;
    bodies = λ j m. bodies_by i j m k n o (own s class i k e n o a u f) (j == i) refl;
  };
}
