-- What is formed stays formed where more is declared.
use Rattle.std.proofs.Common.{◌≡◌, ℕ, zero, suc, ◌+◌, ◌≤◌, ◌<◌, inl, inr, Bool, false, List, [], ◌∷◌, ◌++◌, length, Option, Some, None, All, refl, sym, ap, subst, ◌∙◌, arith, slice_get, option_and_then}
use Rattle.std.proofs.lemmas.List.Elements.{All-nil, All-cons, All-head, All-tail, All-weaker}
use Rattle.com_body.specs.declared.operands.Arg.{Arg}
use Rattle.com_body.specs.declared.operands.Asked.{Asked}
use Rattle.com_body.specs.declared.operands.Asked.TheVariants as asked
use Rattle.com_body.specs.declared.operands.Destination.{Destination}
use Rattle.com_body.specs.declared.operands.Place.{Place}
use Rattle.com_body.specs.declared.operands.Place.TheVariants as place
use Rattle.com_body.specs.declared.statements.Stmt.{Stmt}
use Rattle.com_body.specs.declared.statements.Stmt.TheVariants as stmt
use Rattle.com_classes.specs.declared.interfaces.Interface.{Interface}
use Rattle.com_classes.specs.declared.interfaces.Method.{Method}
use Rattle.com_classes.specs.declared.classes.Class.{Class}
use Rattle.com_classes.specs.declared.classes.MethodBody.{MethodBody}
use Rattle.com_model.specs.declared.scenario.Scenario.{Scenario}
use Rattle.com_classes.specs.Lookups.{method_at}
use Rattle.com_model.specs.Formed.{EachFrom, Distinct, Context, IsClassNamed, IsInterfaceNamed, IsPlaceIn, IsCall, IsFilterNamed, IsStatement, FormedBody, FitsMethod, in_class, methods_of, IsBody, IsClass}
use Rattle.com_laws_scenario.specs.Declared.{Fits}

-- ---- one more at the end of a list

pub each_push : {X : Type 0} (P : ℕ → X → Type 0) (n : ℕ) (xs : List X) (x : X) → EachFrom P n xs → P (n + length xs) x → EachFrom P n (xs ++ x ∷ [])
each_push P n [] x h p = let e : n + 0 ≡ n = omega arith in (subst (λ (k : ℕ). P k x) e p, tt)
each_push P n (y ∷ ys) x h p = let e : n + suc (length ys) ≡ (n + 1) + length ys = omega arith in (h.0, each_push P (n + 1) ys x h.1 (subst (λ (k : ℕ). P k x) e p))

all_split : {X : Type 0} (P : X → Type 0) (x : X) (xs : List X) → All P (x ∷ xs) → P x × All P xs
all_split P x xs h = (All-head P x xs h, All-tail P x xs h)

all_push : {X : Type 0} (P : X → Type 0) (xs : List X) (x : X) → All P xs → P x → All P (xs ++ x ∷ [])
all_push P [] x h p = All-cons P x [] p (All-nil P)
all_push P (y ∷ ys) x h p = All-cons P y (ys ++ x ∷ []) (All-head P y ys h) (all_push P ys x (All-tail P y ys h) p)

pub distinct_push : {X : Type 0} (same : X → X → Bool) (xs : List X) (x : X) → Distinct same xs → All (λ y. same y x ≡ false) xs → Distinct same (xs ++ x ∷ [])
distinct_push same [] x h p = (All-nil (λ y. same x y ≡ false), tt)
distinct_push same (y ∷ ys) x h p =
    (all_push (λ z. same y z ≡ false) ys x h.0 (All-head (λ z. same z x ≡ false) y ys p), distinct_push same ys x h.1 (All-tail (λ z. same z x ≡ false) y ys p))

pub get_push : {X : Type 0} (xs : List X) (x : X) (i : ℕ) (y : X) → slice_get xs i ≡ Some y → slice_get (xs ++ x ∷ []) i ≡ Some y
get_push [] x i y h = absurd cc
get_push (z ∷ zs) x zero y h = h
get_push (z ∷ zs) x (suc i) y h = get_push zs x i y h

-- ---- scenarios that declare more

-- the interfaces stand where they stood, and there are as many filters or more
pub record Grows (s t : Scenario) : Type 0 where
  pub stands : (i : ℕ) (x : Interface) → slice_get s.classes.interfaces i ≡ Some x → slice_get t.classes.interfaces i ≡ Some x
  pub interfaces : length s.classes.interfaces ≤ length t.classes.interfaces
  pub filters : length s.filters ≤ length t.filters

-- a place of the same kind, where as many classes may be named or more
pub record Widens (x y : Context) : Type 0 where
  pub body : y.body ≡ x.body
  pub links : y.links ≡ x.links
  pub classes : x.classes ≤ y.classes

pub same_place : (x : Context) → Widens x x
same_place x = record { body = refl; links = refl; classes = omega arith }

class_grows : (x y : Context) (a : Asked) → Widens x y → IsClassNamed x a → IsClassNamed y a
class_grows x y (asked.Number c) w h = let k = w.classes in (h.0, omega (arith, h.1, k))
class_grows x y (asked.Guid g) w h = tt

interface_grows : (s t : Scenario) (a : Asked) → Grows s t → IsInterfaceNamed s a → IsInterfaceNamed t a
interface_grows s t (asked.Number i) g h = let k = g.interfaces in omega arith
interface_grows s t (asked.Guid u) g h = tt

place_grows : (x y : Context) (a : Place) → Widens x y → IsPlaceIn x a → IsPlaceIn y a
place_grows x y (place.Slot n) w h = tt
place_grows x y (place.Link n) w h = w.links ∙ h

filter_grows : (s t : Scenario) (f : Option ℕ) → Grows s t → IsFilterNamed s f → IsFilterNamed t f
filter_grows s t None g h = tt
filter_grows s t (Some f) g h = let k = g.filters in (h.0, omega (arith, h.1, k))

-- an interface that is there, with what is read of it
read_grows : {B : Type 0} (f : Interface → Option B) (o p : Option Interface) (b : B) → ((x : Interface) → o ≡ Some x → p ≡ Some x) → option_and_then f o ≡ Some b → option_and_then f p ≡ Some b
read_grows f None p b h e = absurd cc
read_grows f (Some x) p b h e = ap (option_and_then f) (h x refl) ∙ e

fits_grows : (o p : Option Method) (args : List Arg) (to : Destination) → ((m : Method) → o ≡ Some m → p ≡ Some m) → FitsMethod o args to → FitsMethod p args to
fits_grows None p args to h k = absurd k
fits_grows (Some m) p args to h k = subst (λ (q : Option Method). FitsMethod q args to) (sym (h m refl)) k

call_grows : (s t : Scenario) (i m : ℕ) (args : List Arg) (to : Destination) → Grows s t → IsCall s i m args to → IsCall t i m args to
call_grows s t i m args to g h = (
  let k = g.interfaces in let l = h.0 in omega arith,
  elim h.1 [
    | inl none ↦ inl none
    | inr fits ↦ inr (fits_grows (method_at s.classes i m) (method_at t.classes i m) args to (λ k e. read_grows (λ (x : Interface). slice_get x.methods m) (slice_get s.classes.interfaces i) (slice_get t.classes.interfaces i) k (g.stands i) e) fits)
  ],
)

pub statement_grows : (s t : Scenario) (x y : Context) (a : Stmt) → Grows s t → Widens x y → IsStatement s x a → IsStatement t y a
statement_grows s t x y (stmt.Load to cell) g w h = w.body ∙ h
statement_grows s t x y (stmt.Store cell from) g w h = (w.body ∙ h.0, h.1)
statement_grows s t x y (stmt.Create slot k i) g w h = (class_grows x y k w h.0, interface_grows s t i g h.1)
statement_grows s t x y (stmt.Query to from i) g w h = interface_grows s t i g h
statement_grows s t x y (stmt.Copy to from) g w h = (place_grows x y to w h.0, place_grows x y from w h.1)
statement_grows s t x y (stmt.Release from) g w h = place_grows x y from w h
statement_grows s t x y (stmt.Call slot i m args to) g w h = call_grows s t i m args to g h
statement_grows s t x y (stmt.Leave code v) g w h = (w.body ∙ h.0, h.1)
statement_grows s t x y (stmt.Init m) g w h = w.body ∙ h
statement_grows s t x y stmt.Uninit g w h = w.body ∙ h
statement_grows s t x y (stmt.SetFilter f) g w h = (w.body ∙ h.0, filter_grows s t f g h.1)
statement_grows s t x y (stmt.Pump n) g w h = (w.body ∙ h.0, h.1)
statement_grows s t x y a g w h = h

pub fit_grows : (s t : Scenario) (x y : Context) (a : Stmt) → Grows s t → Widens x y → Fits s x a → Fits t y a
fit_grows s t x y a g w h = record { in_range = h.in_range; stated = statement_grows s t x y a g w h.stated }

pub body_grows : (s t : Scenario) (x y : Context) (limit : ℕ) (b : List Stmt) → Grows s t → Widens x y → FormedBody s x limit b → FormedBody t y limit b
body_grows s t x y limit b g w h = record {
  ranges = h.ranges;
  statements = All-weaker (IsStatement s x) (IsStatement t y) (λ a k. statement_grows s t x y a g w k) b h.statements;
  whole = h.whole;
}

-- a method that is there stays there
pub method_stays : (o p : Option Interface) (m : ℕ) → ((x : Interface) → o ≡ Some x → p ≡ Some x) → m < length (methods_of o) → m < length (methods_of p)
method_stays None p m h k = absurd (omega arith)
method_stays (Some x) p m h k = subst (λ (q : Option Interface). m < length (methods_of q)) (sym (h x refl)) k

method_body_grows : (s t : Scenario) (x : Context) (b : MethodBody) → Grows s t → IsBody s x b → IsBody t x b
method_body_grows s t x b g h =
    (body_grows s t x x 200 b.body g (same_place x) h.0, method_stays (slice_get s.classes.interfaces b.iface) (slice_get t.classes.interfaces b.iface) b.method (g.stands b.iface) h.1)

pub class_stays : (s t : Scenario) (n : ℕ) (k : Class) → Grows s t → IsClass s n k → IsClass t n k
class_stays s t n k g h = (
  h.0,
  h.1,
  All-weaker (λ i. i < length s.classes.interfaces) (λ i. i < length t.classes.interfaces) (λ i l. let m = g.interfaces in omega arith) k.interfaces h.2,
  All-weaker (IsBody s (in_class n k)) (IsBody t (in_class n k)) (λ b l. method_body_grows s t (in_class n k) b g l) k.bodies h.3,
  h.4,
)

pub classes_stay : (s t : Scenario) (n : ℕ) (ks : List Class) → Grows s t → EachFrom (IsClass s) n ks → EachFrom (IsClass t) n ks
classes_stay s t n [] g h = tt
classes_stay s t n (k ∷ ks) g h = (class_stays s t n k g h.0, classes_stay s t (n + 1) ks g h.1)
