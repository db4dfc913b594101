-- A class that is a source has all that is looked at.
use Rattle.std.proofs.Common.{refl, sym, ap, subst, ◌∙◌, inl, inr}
use Rattle.std.specs.Prelude.{◌≡◌, ℕ, zero, suc, Bool, true, false, not, cond, ◌||◌, ◌&&◌, ◌==◌, nat_lt, List, [], ◌∷◌, Option, Some, None, find, option_and_then, is_some, ◌⊎◌, IsTrue}
use Rattle.std.specs.Option.{option_map}
use Rattle.com_body.specs.declared.frame.Native.{Native}
use Rattle.com_body.specs.declared.frame.Native.TheVariants as native
use Rattle.com_body.specs.declared.statements.Stmt.{Stmt}
use Rattle.com_classes.specs.declared.classes.Class.{Class}
use Rattle.com_classes.specs.declared.classes.MethodBody.{MethodBody}
use Rattle.com_classes.specs.declared.interfaces.Interface.{Interface}
use Rattle.com_classes.specs.Lookups.{class_at, interface_at, class_body, kind_body, body_at}
use Rattle.com_model.specs.declared.scenario.Scenario.{Scenario}
use Rattle.com_laws_sources.specs.Sources.{IsPoint, IsSource, IsSourceClass, point_body, source_body}
use Rattle.com_points.specs.SourceHeads.{are_own_bodies, Looks}
use Rattle.com_points.proofs.Found.{at, same_itself}

none-some : {X : Type 0} {o : Option X} {x : X} → o ≡ None → o ≡ Some x → ⊥
none-some p q = cc

pub no_class : (s : Scenario) (class i : ℕ) → class_at s.classes class ≡ None → IsSource s class i → ⊥
no_class s class i e p = none-some e p.there

same-class : {x y : Class} → Some x ≡ Some y → x ≡ y
same-class e = cc

-- The class that was looked up is the source's.
own-class : (s : Scenario) (class i : ℕ) (k : Class) → class_at s.classes class ≡ Some k → IsSource s class i → IsSourceClass s k i
own-class s class i k e p = subst (λ (c : Class). IsSourceClass s c i) (same-class (sym p.there ∙ e)) p.source

pub no_only : (s : Scenario) (class i : ℕ) (k : Class) → class_at s.classes class ≡ Some k → ((j : ℕ) → k.interfaces ≡ j ∷ [] → ⊥) → IsSource s class i → ⊥
no_only s class i k e f p = f i (own-class s class i k e p).interfaces

same-one : {i j : ℕ} → i ∷ [] ≡ j ∷ [] → i ≡ j
same-one e = cc

pub no_interface : (s : Scenario) (class i j : ℕ) (k : Class) → class_at s.classes class ≡ Some k → k.interfaces ≡ j ∷ [] → interface_at s.classes j ≡ None → IsSource s class i → ⊥
no_interface s class i j k e is n p =
    let q : IsSourceClass s k i = own-class s class i k e p in
    none-some n (subst (λ (x : ℕ). interface_at s.classes x ≡ Some q.point) (same-one (sym q.interfaces ∙ is)) q.declared)

-- ---- the bodies

abbrev Among : MethodBody → List MethodBody → Type 0
Among b [] = ⊥
Among b (x ∷ xs) = (x ≡ b) ⊎ Among b xs

both : (a b : Bool) → a ≡ true → b ≡ true → (a && b) ≡ true
both true true p q = refl
both true false p q = cc
both false b p q = cc

at-itself : (b : MethodBody) → at b.iface b.method b ≡ true
at-itself b = both (b.iface == b.iface) (b.method == b.method) (same_itself b.iface) (same_itself b.method)

found-here : (j m : ℕ) (x : MethodBody) (xs : List MethodBody) (t : Bool) → is_some (find (at j m) xs) ≡ true → is_some (cond t (Some x) (find (at j m) xs)) ≡ true
found-here j m x xs true h = refl
found-here j m x xs false h = h

found-among : (b : MethodBody) (bodies : List MethodBody) → Among b bodies → is_some (find (at b.iface b.method) bodies) ≡ true
found-among b [] m = absurd m
found-among b (x ∷ xs) (inl e) =
    ap (λ (t : Bool). is_some (cond t (Some x) (find (at b.iface b.method) xs))) (subst (λ (y : MethodBody). at b.iface b.method y ≡ true) (sym e) (at-itself b))
found-among b (x ∷ xs) (inr m) = found-here b.iface b.method x xs (at b.iface b.method x) (found-among b xs m)

given-some : (o : Option MethodBody) (y : Option (List Stmt)) → is_some o ≡ true → option_map (λ b. b.body) o ≡ y → y ≡ None → ⊥
given-some None y h e n = cc
given-some (Some b) y h e n = none-some n (sym e)

-- A method with a body is one of the source's three.
own-three : (i j m : ℕ) → (source_body i j m ≡ None → ⊥) → ((j == i) ≡ true) × (nat_lt 2 m ≡ false)
own-three i j m f =
    elim (j == i) as (λ t. (j == i) ≡ t → (cond t (point_body m) None ≡ None → ⊥) → (t ≡ true) × (nat_lt 2 m ≡ false)) [
      | true ↦ λ e g. (refl, low m g)
      | false ↦ λ e g. absurd (g refl)
    ] refl f
  where
    low : (m : ℕ) → (point_body m ≡ None → ⊥) → nat_lt 2 m ≡ false
    low zero g = refl
    low (suc zero) g = refl
    low (suc (suc zero)) g = refl
    low (suc (suc (suc m))) g = absurd (g refl)

all-own : (i : ℕ) (bodies : List MethodBody) → ((b : MethodBody) → Among b bodies → ((b.iface == i) ≡ true) × (nat_lt 2 b.method ≡ false)) → are_own_bodies i bodies ≡ true
all-own i [] f = refl
all-own i (b ∷ bs) f =
    let z : ((b.iface == i) ≡ true) × (nat_lt 2 b.method ≡ false) = f b (inl refl) in
    ap (λ (t : Bool). cond (not t || nat_lt 2 b.method) false (are_own_bodies i bs)) z.0
    ∙ ap (λ (t : Bool). cond t false (are_own_bodies i bs)) z.1
    ∙ all-own i bs (λ c m. f c (inr m))

own-bodies : (s : Scenario) (k : Class) (i : ℕ) → IsSourceClass s k i → are_own_bodies i k.bodies ≡ true
own-bodies s k i q = all-own i k.bodies (λ b m. own-three i b.iface b.method
    (given-some (find (at b.iface b.method) k.bodies) (source_body i b.iface b.method) (found-among b k.bodies m)
    (sym (ap (λ (v : Native). kind_body v k.bodies b.iface b.method) q.native) ∙ q.bodies b.iface b.method)))

body-of : (s : Scenario) (class i m : ℕ) (k : Class) → class_at s.classes class ≡ Some k → IsSourceClass s k i → body_at s.classes class i m ≡ point_body m
body-of s class i m k e q =
    ap (λ (o : Option Class). option_and_then (λ c. class_body c i m) o) e ∙ q.bodies i m
    ∙ ap (λ (t : Bool). cond t (point_body m) None) (same_itself i)

same-point : {x y : Interface} → Some x ≡ Some y → x ≡ y
same-point e = cc

looks-own : (s : Scenario) (class i : ℕ) (k : Class) (p : Interface) → class_at s.classes class ≡ Some k → interface_at s.classes i ≡ Some p → IsSourceClass s k i → Looks s.classes class k i p
looks-own s class i k p e d q = (
  q.model,
  q.native,
  subst (λ (x : Interface). IsPoint x) (same-point (sym q.declared ∙ d)) q.is_point,
  own-bodies s k i q,
  body-of s class i 0 k e q,
  body-of s class i 1 k e q,
  body-of s class i 2 k e q,
)

pub no_looks : (s : Scenario) (class i j : ℕ) (k : Class) (p : Interface) → class_at s.classes class ≡ Some k → k.interfaces ≡ j ∷ [] → interface_at s.classes j ≡ Some p
    → (Looks s.classes class k j p → ⊥) → IsSource s class i → ⊥
no_looks s class i j k p e is d f q =
    let z : IsSourceClass s k i = own-class s class i k e q in
    f (looks-own s class j k p e d (subst (λ (x : ℕ). IsSourceClass s k x) (same-one (sym z.interfaces ∙ is)) z))

pub not_both : (b : Bool) → IsTrue b → b ≡ false → ⊥
not_both b p q = cc
