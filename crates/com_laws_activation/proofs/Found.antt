-- What stands in a table without repeated GUIDs is found by its own.
use Rattle.std.proofs.Common.{subst, sym, ap, ◌∙◌, arith, get_or}
use Rattle.std.proofs.lemmas.Bool.{false_from_ne_true}
use Rattle.std.proofs.lemmas.Bool.Decides.{Decides-and, Decides-eqb, Decides-like}
use Rattle.std.proofs.lemmas.Slice.Eq.{bytes_eq-Decides}
use Rattle.std.specs.Bool.{Decides}
use Rattle.std.proofs.lemmas.List.Sums.{position_or_len_is}
use Rattle.std.proofs.lemmas.Option.{slice_get_within, get_or_from_slice_get}
use Rattle.std.proofs.lemmas.Grind.{common_steps}
use Rattle.std.specs.Prelude.{◌≡◌, refl, ℕ, zero, suc, ◌+◌, ◌-◌, ◌<◌, Bool, true, false, cond, ◌==◌, ◌||◌, List, [], ◌∷◌, Option, Some, None, All, length, option_map, position, slice_get, nat_lt}
use Rattle.std.specs.List.{position_or_len}
use Rattle.std.specs.Str.{bytes_eq}
use Rattle.com_base.specs.declared.guid.Guid.{Guid}
use Rattle.com_classes.specs.declared.classes.Class.{Class}
use Rattle.com_classes.specs.declared.interfaces.Interface.{Interface}
use Rattle.com_classes.specs.Lookups.{same_guid}
use Rattle.com_model.specs.declared.scenario.Scenario.{Scenario}
use Rattle.com_model.specs.Formed.{Distinct, same_class, same_interface, Formed}
use Rattle.com_laws_activation.specs.Activations.{ClassesFound, InterfacesFound}

-- ---- GUIDs

abbrev guid_of : ℕ → ℕ → ℕ → List ℕ → Guid
guid_of a b c d = record { data1 = a; data2 = b; data3 = c; data4 = d }

guid-is : (g h : Guid) → g.data1 ≡ h.data1 → g.data2 ≡ h.data2 → g.data3 ≡ h.data3 → g.data4 ≡ h.data4 → g ≡ h
guid-is g h e1 e2 e3 e4 =
    ap (λ x. guid_of x g.data2 g.data3 g.data4) e1 ∙ ap (λ x. guid_of h.data1 x g.data3 g.data4) e2
    ∙ ap (λ x. guid_of h.data1 h.data2 x g.data4) e3 ∙ ap (λ x. guid_of h.data1 h.data2 h.data3 x) e4

guids-same : (g h : Guid) → Decides (same_guid g h) (g ≡ h)
guids-same g h =
    Decides-like (same_guid g h)
    (λ e. guid-is g h e.0.0.0 e.0.0.1 e.0.1 e.1)
    (λ e. (((ap (λ (x : Guid). x.data1) e, ap (λ (x : Guid). x.data2) e), ap (λ (x : Guid). x.data3) e), ap (λ (x : Guid). x.data4) e))
    (Decides-and _ _ (Decides-and _ _ (Decides-and _ _ (Decides-eqb g.data1 h.data1) (Decides-eqb g.data2 h.data2)) (Decides-eqb g.data3 h.data3)) (bytes_eq-Decides g.data4 h.data4))

own-guid : (g : Guid) → same_guid g g ≡ true
own-guid g = (guids-same g g).1 refl

not-both : (b : Bool) → b ≡ true → b ≡ false → ⊥
not-both b p q = cc

-- Two that are not the same are not the same the other way round.
turned-guid : (g h : Guid) → same_guid g h ≡ false → same_guid h g ≡ false
turned-guid g h e = false_from_ne_true (same_guid h g) (λ t. not-both (same_guid g h) ((guids-same g h).1 (sym ((guids-same h g).0 t))) e)

-- ---- the first place of an entry

or-off : (p q : Bool) → (p || q) ≡ false → q ≡ false
or-off true q e = cc
or-off false q e = e

all-head : {X : Type 0} (P : X → Type 0) (x : X) (xs : List X) → All P (x ∷ xs) → P x
all-head P x xs p = p 0 x (grind (arith, common_steps))

-- Each later entry has another GUID.
apart-later : {X : Type 0} (same : X → X → Bool) (xs : List X) (i : ℕ) (x : X) → Distinct same xs → slice_get xs i ≡ Some x → (k : ℕ) → k < i → same (get_or xs k x) x ≡ false
apart-later same [] i x p e k h = cc
apart-later same (y ∷ ys) zero x p e k h = absurd (omega (arith, h))
apart-later same (y ∷ ys) (suc i) x p e zero h = subst (λ z. same y z ≡ false) (get_or_from_slice_get ys i x x e) (p.0 i x (slice_get_within ys i x e))
apart-later same (y ∷ ys) (suc i) x p e (suc k) h = apart-later same ys i x p.1 e k (omega (arith, h))

below : (i n : ℕ) → i < n → nat_lt i n ≡ true
below i n h = grind (arith, common_steps, h)

position-is : {X : Type 0} (test : X → Bool) (xs : List X) (i : ℕ) (x : X) → slice_get xs i ≡ Some x → test x ≡ true → ((k : ℕ) → k < i → test (get_or xs k x) ≡ false) → position test xs ≡ Some i
position-is test xs i x e t f =
    let h : i < length xs = slice_get_within xs i x e in
    let z : position_or_len test xs ≡ i = position_or_len_is test xs i x (omega (arith, h)) f (λ m. subst (λ y. test y ≡ true) (sym (get_or_from_slice_get xs i x x e)) t) in
    subst (λ (n : ℕ). cond (nat_lt n (length xs)) (Some n) None ≡ Some i) (sym z) (ap (λ (b : Bool). cond b (Some i) None) (below i (length xs) h))

-- ---- tables

none-some : (k : Class) → None ≡ Some k → ⊥
none-some k e = cc

true-false : true ≡ false → ⊥
true-false e = cc

class-place : (c : ℕ) (ks : List Class) (k : Class) (b : Bool) → (c == 0) ≡ b → cond b None (slice_get ks (c - 1)) ≡ Some k → (n : ℕ) × (c ≡ n + 1) × (slice_get ks n ≡ Some k)
class-place c ks k true e p = absurd (none-some k p)
class-place zero ks k false e p = absurd (true-false e)
class-place (suc n) ks k false e p = let z : suc n - 1 ≡ n = omega arith in (n, omega arith, subst (λ (m : ℕ). slice_get ks m ≡ Some k) z p)

pub classes-found : (s : Scenario) → Formed s → ClassesFound s
classes-found s f c k e =
    let z : (n : ℕ) × (c ≡ n + 1) × (slice_get s.classes.classes n ≡ Some k) = class-place c s.classes.classes k (c == 0) refl e in
    let at : position (λ (j : Class). same_guid k.clsid j.clsid) s.classes.classes ≡ Some z.0 = position-is (λ (j : Class). same_guid k.clsid j.clsid) s.classes.classes z.0 k z.2 (own-guid k.clsid) (λ i h. turned-guid _ k.clsid (or-off (bytes_eq (get_or s.classes.classes i k).name k.name) _ (apart-later same_class s.classes.classes z.0 k f.classes.distinct z.2 i h))) in
    ap (option_map (λ before. before + 1)) at ∙ ap Some (sym z.1)

pub interfaces-found : (s : Scenario) → Formed s → InterfacesFound s
interfaces-found s f i x e =
    position-is (λ (j : Interface). same_guid x.iid j.iid) s.classes.interfaces i x e (own-guid x.iid) (λ k h. turned-guid _ x.iid (or-off (bytes_eq (get_or s.classes.interfaces k x).name x.name) _ (apart-later same_interface s.classes.interfaces i x f.interfaces.distinct e k h)))
