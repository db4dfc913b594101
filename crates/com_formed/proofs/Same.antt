-- Parts that are the same make the same whole.
use Rattle.std.proofs.Common.{◌≡◌, ℕ, List, [], ◌∷◌, take, Option, Some, ap, ◌∙◌, slice_get}
use Rattle.std.specs.Bool.{Decides}
use Rattle.std.proofs.lemmas.Bool.Decides.{Decides-and, Decides-eqb, Decides-like}
use Rattle.std.proofs.lemmas.Slice.Eq.{bytes_eq-Decides}
use Rattle.com_base.specs.declared.built_ins.TheConstants.{BUILT_IN_COUNT}
use Rattle.com_base.specs.declared.guid.Guid.{Guid}
use Rattle.com_base.specs.declared.value.Kind.{Kind}
use Rattle.com_classes.specs.declared.interfaces.Interface.{Interface}
use Rattle.com_classes.specs.declared.interfaces.Method.{Method}
use Rattle.com_classes.specs.Lookups.{same_guid}
use Rattle.com_formed.specs.Methods.{method_of}

abbrev guid_of : ℕ → ℕ → ℕ → List ℕ → Guid
guid_of a b c d = record { data1 = a; data2 = b; data3 = c; data4 = d }

guid_is : (g h : Guid) → g.data1 ≡ h.data1 → g.data2 ≡ h.data2 → g.data3 ≡ h.data3 → g.data4 ≡ h.data4 → g ≡ h
guid_is g h e1 e2 e3 e4 =
    ap (λ x. guid_of x g.data2 g.data3 g.data4) e1 ∙ ap (λ x. guid_of h.data1 x g.data3 g.data4) e2
    ∙ ap (λ x. guid_of h.data1 h.data2 x g.data4) e3 ∙ ap (λ x. guid_of h.data1 h.data2 h.data3 x) e4

pub guids_same : (g h : Guid) → Decides (same_guid g h) (g ≡ h)
guids_same g h =
    Decides-like (same_guid g h)
    (λ e. guid_is g h e.0.0.0 e.0.0.1 e.0.1 e.1)
    (λ e. (((ap (λ (x : Guid). x.data1) e, ap (λ (x : Guid). x.data2) e), ap (λ (x : Guid). x.data3) e), ap (λ (x : Guid). x.data4) e))
    (Decides-and _ _ (Decides-and _ _ (Decides-and _ _ (Decides-eqb g.data1 h.data1) (Decides-eqb g.data2 h.data2)) (Decides-eqb g.data3 h.data3)) (bytes_eq-Decides g.data4 h.data4))

pub method_is : (m : Method) (n : List ℕ) (ps : List Kind) (k : Option Kind) → m.name ≡ n → m.params ≡ ps → m.result ≡ k → m ≡ method_of n ps k
method_is m n ps k e1 e2 e3 =
    ap (λ x. method_of x m.params m.result) e1 ∙ ap (λ x. method_of n x m.result) e2 ∙ ap (λ x. method_of n ps x) e3

abbrev pub interface_of : List ℕ → Guid → List Method → Interface
interface_of n g ms = record { name = n; iid = g; methods = ms }

pub interface_is : (i : Interface) (n : List ℕ) (g : Guid) (ms : List Method) → i.name ≡ n → i.iid ≡ g → i.methods ≡ ms → i ≡ interface_of n g ms
interface_is i n g ms e1 e2 e3 =
    ap (λ x. interface_of x i.iid i.methods) e1 ∙ ap (λ x. interface_of n x i.methods) e2 ∙ ap (λ x. interface_of n g x) e3

-- ---- the first four of a list

pub four_at : {X : Type 0} (xs : List X) (a b c d : X) → Some a ≡ slice_get xs 0 → Some b ≡ slice_get xs 1 → Some c ≡ slice_get xs 2
    → Some d ≡ slice_get xs 3 → take BUILT_IN_COUNT xs ≡ a ∷ b ∷ c ∷ d ∷ []
four_at [] a b c d e0 e1 e2 e3 = absurd cc
four_at (w ∷ []) a b c d e0 e1 e2 e3 = absurd cc
four_at (w ∷ x ∷ []) a b c d e0 e1 e2 e3 = absurd cc
four_at (w ∷ x ∷ y ∷ []) a b c d e0 e1 e2 e3 = absurd cc
four_at (w ∷ x ∷ y ∷ z ∷ zs) a b c d e0 e1 e2 e3 = cc

-- what stands at the indices of a list that begins with four
pub record Four {X : Type 0} (xs : List X) (a b c d : X) : Type 0 where
  pub first : slice_get xs 0 ≡ Some a
  pub second : slice_get xs 1 ≡ Some b
  pub third : slice_get xs 2 ≡ Some c
  pub fourth : slice_get xs 3 ≡ Some d

pub four_there : {X : Type 0} (xs : List X) (a b c d : X) → take BUILT_IN_COUNT xs ≡ a ∷ b ∷ c ∷ d ∷ [] → Four xs a b c d
four_there [] a b c d e = absurd cc
four_there (w ∷ []) a b c d e = absurd cc
four_there (w ∷ x ∷ []) a b c d e = absurd cc
four_there (w ∷ x ∷ y ∷ []) a b c d e = absurd cc
four_there (w ∷ x ∷ y ∷ z ∷ zs) a b c d e = record { first = cc; second = cc; third = cc; fourth = cc }
