-- The statements of a formed scenario: none of an agile class writes a link, and no register takes a reference from a call.
use Rattle.std.proofs.Common.{subst, sym, ap, inl, inr, arith}
use Rattle.std.proofs.lemmas.List.Elements.{All-cons, All-nil}
use Rattle.std.proofs.lemmas.Grind.{common_steps}
use Rattle.std.specs.Prelude.{◌≡◌, refl, ℕ, zero, suc, ◌+◌, Bool, true, false, cond, not, ◌&&◌, ◌==◌, List, [], ◌∷◌, Option, Some, None, All, ◌⊎◌, option_map, option_and_then, unwrap_or, find, slice_get, slice_index_or, take}
use Rattle.com_base.specs.declared.value.Kind.{Kind}
use Rattle.com_base.specs.declared.value.Kind.TheVariants as kind
use Rattle.com_body.specs.declared.operands.Place.{Place}
use Rattle.com_body.specs.declared.operands.Place.TheVariants as place
use Rattle.com_body.specs.declared.operands.Arg.{Arg}
use Rattle.com_body.specs.declared.operands.Destination.{Destination}
use Rattle.com_body.specs.declared.operands.Destination.TheVariants as destination
use Rattle.com_body.specs.declared.statements.Stmt.{Stmt}
use Rattle.com_body.specs.declared.statements.Stmt.TheVariants as stmt
use Rattle.com_body.specs.declared.frame.Native.{Native}
use Rattle.com_body.specs.declared.frame.Native.TheVariants as native
use Rattle.com_body.specs.BodySteps.{no_body}
use Rattle.com_classes.specs.declared.interfaces.Interface.{Interface}
use Rattle.com_classes.specs.declared.interfaces.Method.{Method}
use Rattle.com_classes.specs.declared.classes.Class.{Class}
use Rattle.com_classes.specs.declared.classes.MethodBody.{MethodBody}
use Rattle.com_classes.specs.Activation.{is_agile}
use Rattle.com_classes.specs.BuiltIns.{iunknown, built_in_interfaces, counter_bodies, relay_bodies, latch_bodies}
use Rattle.com_classes.specs.Lookups.{class_at, method_at, class_body, kind_body, body_of}
use Rattle.com_model.specs.declared.scenario.Scenario.{Scenario}
use Rattle.com_model.specs.Tables.{script, result_kind, has_agile_model, is_agile_class}
use Rattle.com_model.specs.Formed.{FitsResult, FitsMethod, IsStatement, IsPlaceIn, Context, FormedBody, in_script, in_class, IsBody, IsClass, IsNative, EachFrom, Formed}
use Rattle.com_model.proofs.Goods.{Clean, all-of, all-or}
use Rattle.com_model.proofs.Cleans.{script-clean, body-clean}
use Rattle.com_laws_balance.proofs.Carries.{PlaceBy, PlainKind, FitsTo, Orderly}

-- What a statement does with links and with a call's result.
abbrev Tidy : Scenario → Type 0 → Type 0 → Stmt → Type 0
Tidy s I L (stmt.Copy to from) = PlaceBy L to
Tidy s I L (stmt.Call slot i m args to) = FitsTo (result_kind (method_at s.classes i m)) to
Tidy s I L (stmt.Init m) = I
Tidy s I L stmt.Uninit = I
Tidy s I L _ = Unit {0}

clean-tidy : (s : Scenario) (I L : Type 0) (t : Stmt) → Clean t → Tidy s I L t → Orderly s I L t
clean-tidy s I L (stmt.Set to from) p q = p
clean-tidy s I L (stmt.Copy to from) p q = q
clean-tidy s I L (stmt.Call slot i m args to) p q = (p, q)
clean-tidy s I L (stmt.Leave code v) p q = p
clean-tidy s I L (stmt.Init m) p q = q
clean-tidy s I L stmt.Uninit p q = q
clean-tidy s I L _ p q = tt

all-orderly : (s : Scenario) (I L : Type 0) (ts : List Stmt) → All Clean ts → All (Tidy s I L) ts → All (Orderly s I L) ts
all-orderly s I L ts p q = λ k d h. clean-tidy s I L (slice_index_or ts k d) (p k d h) (q k d h)

place-tidy : (x : Context) (L : Type 0) → (x.links ≡ true → L) → (to : Place) → IsPlaceIn x to → PlaceBy L to
place-tidy x L f (place.Slot k) p = tt
place-tidy x L f (place.Link k) p = f p

result-fits : (k : Option Kind) (to : Destination) → FitsResult k to → FitsTo k to
result-fits k destination.Nowhere p = tt
result-fits None (destination.Register n) p = absurd p
result-fits None (destination.Slot n) p = absurd p
result-fits (Some (kind.Ref i)) (destination.Register n) p = p
result-fits (Some (kind.Ref i)) (destination.Slot n) p = tt
result-fits (Some kind.Int) (destination.Register n) p = tt
result-fits (Some kind.Bool) (destination.Register n) p = tt
result-fits (Some kind.Text) (destination.Register n) p = tt
result-fits (Some kind.Bytes) (destination.Register n) p = tt
result-fits (Some kind.Guid) (destination.Register n) p = tt
result-fits (Some k) (destination.Slot n) p = tt

method-fits : (m : Option Method) (args : List Arg) (to : Destination) → FitsMethod m args to → FitsTo (result_kind m) to
method-fits None args to p = absurd p
method-fits (Some m) args to p = result-fits m.result to p.1

call-fits : (m : Option Method) (args : List Arg) (to : Destination) → ((args ≡ []) × (to ≡ destination.Nowhere)) ⊎ FitsMethod m args to → FitsTo (result_kind m) to
call-fits m args to (inl p) = subst (FitsTo (result_kind m)) (sym p.1) tt
call-fits m args to (inr p) = method-fits m args to p

statement-tidy : (s : Scenario) (x : Context) (I L : Type 0) → (x.body ≡ false → I) → (x.links ≡ true → L) → (t : Stmt) → IsStatement s x t → Tidy s I L t
statement-tidy s x I L j f (stmt.Copy to from) p = place-tidy x L f to p.0
statement-tidy s x I L j f (stmt.Call slot i m args to) p = call-fits (method_at s.classes i m) args to p.1
statement-tidy s x I L j f (stmt.Init m) p = j p
statement-tidy s x I L j f stmt.Uninit p = j p
statement-tidy s x I L j f _ p = tt

formed-tidy : (s : Scenario) (x : Context) (I L : Type 0) → (x.body ≡ false → I) → (x.links ≡ true → L) → (n : ℕ) (b : List Stmt) → FormedBody s x n b → All (Tidy s I L) b
formed-tidy s x I L j f n b p = λ k d h. statement-tidy s x I L j f (slice_index_or b k d) (p.statements k d h)

script-tidy : (s : Scenario) → Formed s → (l : ℕ) → All (Tidy s (Unit {0}) ⊥) (script s l)
script-tidy s f zero = All-nil (Tidy s (Unit {0}) ⊥)
script-tidy s f (suc l) = all-or (All (Tidy s (Unit {0}) ⊥)) s.threads l [] (All-nil (Tidy s (Unit {0}) ⊥)) (all-of (FormedBody s (in_script s) 2000) (All (Tidy s (Unit {0}) ⊥)) (formed-tidy s (in_script s) (Unit {0}) ⊥ (λ e. tt) (λ e. cc) 2000) s.threads f.threads.0)

pub script-orderly : (s : Scenario) → Formed s → (l : ℕ) → All (Orderly s (Unit {0}) ⊥) (script s l)
script-orderly s f l = all-orderly s (Unit {0}) ⊥ (script s l) (script-clean s f l) (script-tidy s f l)

-- ---- bodies

abbrev TidyBody : Scenario → Type 0 → Type 0 → Option (List Stmt) → Type 0
TidyBody s I L None = Unit {0}
TidyBody s I L (Some b) = All (Tidy s I L) b

abbrev Each : Scenario → Type 0 → Type 0 → List Stmt → Type 0
Each s I L [] = Unit {0}
Each s I L (t ∷ ts) = Tidy s I L t × Each s I L ts

each-tidy : (s : Scenario) (I L : Type 0) (ts : List Stmt) → Each s I L ts → All (Tidy s I L) ts
each-tidy s I L [] p = All-nil (Tidy s I L)
each-tidy s I L (t ∷ ts) p = All-cons (Tidy s I L) t ts p.0 (each-tidy s I L ts p.1)

abbrev EachBody : Scenario → Type 0 → Type 0 → List (List Stmt) → Type 0
EachBody s I L [] = Unit {0}
EachBody s I L (b ∷ bs) = Each s I L b × EachBody s I L bs

got-tidy : (s : Scenario) (I L : Type 0) (bs : List (List Stmt)) (m : ℕ) → EachBody s I L bs → TidyBody s I L (slice_get bs m)
got-tidy s I L [] m p = tt
got-tidy s I L (b ∷ bs) zero p = each-tidy s I L b p.0
got-tidy s I L (b ∷ bs) (suc m) p = got-tidy s I L bs m p.1

only-tidy : (s : Scenario) (I L : Type 0) (t : Bool) (o : Option (List Stmt)) → TidyBody s I L o → TidyBody s I L (cond t o None)
only-tidy s I L true o p = p
only-tidy s I L false o p = tt

found-tidy : (s : Scenario) (x : Context) (I L : Type 0) → (x.body ≡ false → I) → (x.links ≡ true → L) → (test : MethodBody → Bool) (bs : List MethodBody) → All (IsBody s x) bs → TidyBody s I L (option_map (λ (b : MethodBody). b.body) (find test bs))
found-tidy s x I L j f test [] p = tt
found-tidy s x I L j f test (b ∷ bs) p = by-test (test b) (formed-tidy s x I L j f 200 b.body (p 0 b (grind (arith, common_steps))).0) (found-tidy s x I L j f test bs (λ k d h. p (suc k) d (grind (arith, common_steps, h))))
  where
    by-test : (t : Bool) → All (Tidy s I L) b.body → TidyBody s I L (option_map (λ (b : MethodBody). b.body) (find test bs)) → TidyBody s I L (option_map (λ (b : MethodBody). b.body) (cond t (Some b) (find test bs)))
    by-test true q r = q
    by-test false q r = r

second : List Interface → Interface
second [] = iunknown
second (x ∷ []) = iunknown
second (x ∷ y ∷ ys) = y

counter-plain : (xs : List Interface) → take 4 xs ≡ built_in_interfaces → PlainKind (result_kind (option_and_then (λ i. slice_get i.methods 0) (slice_get xs 1)))
unfolding second
counter-plain [] e = cc
counter-plain (x ∷ []) e = cc
counter-plain (x ∷ y ∷ ys) e = subst (λ (i : Interface). PlainKind (result_kind (slice_get i.methods 0))) (sym (ap second e)) tt

native-tidy : (s : Scenario) (f : Formed s) (x : Context) (I L : Type 0) → (x.body ≡ false → I) → (x.links ≡ true → L) → (k : Class) (i m : ℕ) → IsNative k.native k → (n : Native) → k.native ≡ n → (is_agile k.model ≡ false → L) → (bs : List MethodBody) → All (IsBody s x) bs → TidyBody s I L (kind_body n bs i m)
native-tidy s f x I L j g k i m z native.Bodies e r bs p = found-tidy s x I L j g (λ b. b.iface == i && b.method == m) bs p
native-tidy s f x I L j g k i m z native.Counter e r bs p = only-tidy s I L (i == 1) (slice_get counter_bodies m) (got-tidy s I L counter_bodies m ((tt, (tt, (tt, (tt, tt)))), ((tt, (tt, tt)), tt)))
native-tidy s f x I L j g k i m z native.Relay e r bs p =
    let y : IsNative native.Relay k = subst (λ (n : Native). IsNative n k) e z in
    only-tidy s I L (i == 2) (slice_get relay_bodies m) (got-tidy s I L relay_bodies m ((r y.2, (tt, tt)), ((tt, (counter-plain s.classes.interfaces f.interfaces.built, (tt, tt))), tt)))
native-tidy s f x I L j g k i m z native.Latch e r bs p = only-tidy s I L (i == 3) (slice_get latch_bodies m) (got-tidy s I L latch_bodies m ((tt, (tt, tt)), ((tt, (tt, (tt, (tt, (tt, tt))))), tt)))

abbrev KnownClass : Scenario → Option Class → Type 0
KnownClass s None = Unit {0}
KnownClass s (Some k) = (n : ℕ) × IsClass s n k

known-class : (s : Scenario) (n : ℕ) (ks : List Class) (k : ℕ) → EachFrom (IsClass s) n ks → KnownClass s (slice_get ks k)
known-class s n [] k p = tt
known-class s n (c ∷ ks) zero p = (n, p.0)
known-class s n (c ∷ ks) (suc k) p = known-class s (n + 1) ks k p.1

class-known : (s : Scenario) (f : Formed s) (t : Bool) (k : ℕ) → KnownClass s (cond t None (slice_get s.classes.classes k))
class-known s f true k = tt
class-known s f false k = known-class s 1 s.classes.classes k f.classes.each

not-true : (b : Bool) → not b ≡ true → b ≡ false
not-true true e = cc
not-true false e = refl

class-tidy : (s : Scenario) (f : Formed s) (o : Option Class) (i m : ℕ) → KnownClass s o → TidyBody s ⊥ (has_agile_model o ≡ false) (option_and_then (λ c. class_body c i m) o)
class-tidy s f None i m p = tt
class-tidy s f (Some k) i m p = native-tidy s f (in_class p.0 k) ⊥ (is_agile k.model ≡ false) (λ e. cc) (not-true (is_agile k.model)) k i m p.1.1 k.native refl (λ e. e) k.bodies p.1.3

unwrap-tidy : (s : Scenario) (I L : Type 0) (o : Option (List Stmt)) → TidyBody s I L o → All (Tidy s I L) (unwrap_or o no_body)
unwrap-tidy s I L None p = each-tidy s I L no_body (tt, tt)
unwrap-tidy s I L (Some b) p = p

pub body-orderly : (s : Scenario) → Formed s → (k i m : ℕ) → All (Orderly s ⊥ (is_agile_class s k ≡ false)) (body_of s.classes k i m)
body-orderly s f k i m = all-orderly s ⊥ (is_agile_class s k ≡ false) (body_of s.classes k i m) (body-clean s f k i m) (unwrap-tidy s ⊥ (is_agile_class s k ≡ false) _ (class-tidy s f (class_at s.classes k) i m (class-known s f (k == 0) _)))
