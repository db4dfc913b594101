-- The table of sources, class by class.
use Rattle.std.proofs.Common.{refl, ap, sym, subst, ◌∙◌, inl, inr, arith}
use Rattle.std.proofs.lemmas.Option.{slice_get_past}
use Rattle.std.specs.Prelude.{◌≡◌, ℕ, zero, suc, ◌+◌, ◌≤◌, ◌<◌, ◌^◌, ◌⊎◌, List, [], ◌∷◌, ◌++◌, length, reverse, Option, Some, None, IfSome, IfNone}
use Rattle.std.proofs.lemmas.List.{reverse-append}
use Rattle.com_classes.specs.declared.classes.Class.{Class}
use Rattle.com_deliveries.specs.Book.{Book, flat, source_at, told, goes_on, empty, deliveries_in}
use Rattle.com_deliveries.specs.declared.Delivery.{Delivery}
use Rattle.com_deliveries.specs.Delivered.{AreDeliveries}
use Rattle.com_deliveries.specs.Tables.{AreSources, Says, Upto}
use Rattle.com_deliveries.proofs.Lawful.{told-deliveries}
use Rattle.com_deliveries.proofs.RowReads.{row-is, row-new, row-old}
use Rattle.com_laws_balance.proofs.Steps.{made-or-new}
use Rattle.com_model.specs.declared.deeds.Entry.{Entry}
use Rattle.com_model.specs.declared.scenario.Scenario.{Scenario}
use Rattle.com_model.specs.Formed.{Formed}
use Rattle.com_model.specs.Rules.{legal}
use Rattle.com_laws_sources.specs.Sources.{IsSource}

zero-none : (s : Scenario) (i : ℕ) → IsSource s 0 i → ⊥
zero-none s i p = nothing p.there
  where
    nothing : None ≡ Some p.declaration → ⊥
    nothing e = cc

same-class : {x y : Class} → Some x ≡ Some y → x ≡ y
same-class e = cc

same-one : {i j : ℕ} → i ∷ [] ≡ j ∷ [] → i ≡ j
same-one e = cc

-- A class is a source by one interface alone.
one-interface : (s : Scenario) (k i j : ℕ) → IsSource s k i → IsSource s k j → i ≡ j
one-interface s k i j p q =
    let e : p.declaration ≡ q.declaration = same-class (sym p.there ∙ q.there) in
    same-one (sym p.source.interfaces ∙ ap (λ (c : Class). c.interfaces) e ∙ q.source.interfaces)

says-of : (s : Scenario) (x : Option ℕ) (k : ℕ) → IfSome x (λ i. IsSource s k i) → IfNone x ((i : ℕ) → IsSource s k i → ⊥) → Says s x k
says-of s (Some j) k p n i = (λ e. subst (λ (y : ℕ). IsSource s k y) (same e) p, λ q. ap (λ (y : ℕ). Some y) (one-interface s k j i p q))
  where
    same : Some j ≡ Some i → j ≡ i
    same e = cc
says-of s None k p n i = (λ e. absurd (none e), λ q. absurd (n i q))
  where
    none : None ≡ Some i → ⊥
    none e = cc

pub upto_none : (s : Scenario) → Upto s []
unfolding Upto
upto_none s zero h i = (λ e. absurd (none e), λ q. absurd (zero-none s i q))
  where
    none : None ≡ Some i → ⊥
    none e = cc
upto_none s (suc k) h i = absurd (omega (arith, h))

pub upto_next : (s : Scenario) (table new : List (Option ℕ)) (x : Option ℕ) (k : ℕ) → k ≡ length table + 1 → Upto s table → IfSome x (λ i. IsSource s k i) → IfNone x ((i : ℕ) → IsSource s k i → ⊥)
    → new ≡ table ++ (x ∷ []) → Upto s new
unfolding Upto
upto_next s table new x k e f p n w = subst (λ (t : List (Option ℕ)). Upto s t) (sym w) (λ j h. by-case j h (made-or-new (length table) j))
  where
    long : (xs : List (Option ℕ)) → length (xs ++ (x ∷ [])) ≡ length xs + 1
    long [] = refl
    long (y ∷ ys) = let z : length (ys ++ (x ∷ [])) ≡ length ys + 1 = long ys in omega (arith, z)

    apart : (j m : ℕ) → j ≤ m → j ≡ m + 1 → ⊥
    apart j m h e = omega (arith, h, e)

    at-end : (j m c : ℕ) → m + 1 ≤ j → j ≤ c → c ≡ m + 1 → j ≡ m + 1
    at-end j m c a b e = omega (arith, a, b, e)

    by-case : (j : ℕ) → j ≤ length (table ++ (x ∷ [])) → (j ≤ length table) ⊎ (length table + 1 ≤ j) → Says s (source_at (table ++ (x ∷ [])) j) j
    by-case j h (inl a) = subst (λ (y : Option (Option ℕ)). Says s (flat y) j) (sym (row-old table x j (apart j (length table) a))) (f j a)
    by-case j h (inr a) =
        let z : j ≡ length table + 1 = at-end j (length table) (length (table ++ (x ∷ []))) a h (long table) in
        subst (λ (y : Option (Option ℕ)). Says s (flat y) j) (sym (row-new table x j z)) (subst (λ (y : ℕ). Says s x y) (e ∙ sym z) (says-of s x k p n))

past-class : (s : Scenario) (k i : ℕ) → Formed s → 65 ≤ k → IsSource s k i → ⊥
past-class s zero i f h p = omega (arith, h)
past-class s (suc k) i f h p = none (sym (row-is s.classes.classes k ∙ slice_get_past s.classes.classes k (far f.classes.few)) ∙ p.there)
  where
    none : None ≡ Some p.declaration → ⊥
    none e = cc

    far : length s.classes.classes ≤ 64 → length s.classes.classes ≤ k
    far l = omega (arith, l, h)

pub all_sources : (s : Scenario) (table : List (Option ℕ)) → Upto s table → length table ≡ 64 → Formed s → AreSources s table
unfolding Upto AreSources
all_sources s table f e w k i = by-case (made-or-new 64 k)
  where
    none : None ≡ Some i → ⊥
    none e = cc

    past : (k : ℕ) → 65 ≤ k → source_at table k ≡ None
    past zero h = refl
    past (suc k) h = ap flat (row-is table k ∙ slice_get_past table k (omega (arith, e, h)))

    by-case : (k ≤ 64) ⊎ (64 + 1 ≤ k) → (source_at table k ≡ Some i → IsSource s k i) × (IsSource s k i → source_at table k ≡ Some i)
    by-case (inl h) = f k (subst (λ (n : ℕ). k ≤ n) (sym e) h) i
    by-case (inr h) = (λ q. absurd (none (sym (past k h) ∙ q)), λ q. absurd (past-class s k i w h q))

-- ---- the pass over the entries in the order of their making

goes-on : (table : List (Option ℕ)) (es h : List Entry) → goes_on table es (told table h) ≡ told table (reverse es ++ h)
goes-on table [] h = refl
goes-on table (e ∷ es) h = goes-on table es (e ∷ h) ∙ ap (told table) (sym (moved e es h))
  where
    assoc : (xs ys zs : List Entry) → (xs ++ ys) ++ zs ≡ xs ++ (ys ++ zs)
    assoc [] ys zs = refl
    assoc (x ∷ xs) ys zs = ap (λ (us : List Entry). x ∷ us) (assoc xs ys zs)

    moved : (e : Entry) (es h : List Entry) → reverse (e ∷ es) ++ h ≡ reverse es ++ (e ∷ h)
    moved e es h = ap (λ (us : List Entry). us ++ h) (reverse-append (e ∷ []) es) ∙ assoc (reverse es) (e ∷ []) h

ends : (xs : List Entry) → xs ++ [] ≡ xs
ends [] = refl
ends (x ∷ xs) = ap (λ (us : List Entry). x ∷ us) (ends xs)

pub passed : (table : List (Option ℕ)) (es : List Entry) → goes_on table es empty ≡ told table (reverse es)
passed table es = goes-on table es [] ∙ ap (told table) (ends (reverse es))

pub pass_delivers : (s : Scenario) (table : List (Option ℕ)) (es : List Entry) → AreSources s table → Formed s → legal s (reverse es) → length (reverse es) < 2 ^ 63 → AreDeliveries s (reverse es) (deliveries_in (goes_on table es empty))
pass_delivers s table es src f q n =
    subst (λ (b : Book). AreDeliveries s (reverse es) (deliveries_in b)) (sym (passed table es)) (told-deliveries s table (reverse es) src f q n)

pub delivered_by : (s : Scenario) (table : List (Option ℕ)) (es : List Entry) (tally : Book) (ds : List Delivery) → tally ≡ goes_on table es empty → ds ≡ deliveries_in tally
    → AreSources s table → Formed s → legal s (reverse es) → length (reverse es) < 2 ^ 63 → AreDeliveries s (reverse es) ds
delivered_by s table es tally ds p e src f q n =
    subst (λ (xs : List Delivery). AreDeliveries s (reverse es) xs) (sym (e ∙ ap deliveries_in p)) (pass_delivers s table es src f q n)

pub delivered_of : (s : Scenario) (table rows : List (Option ℕ)) (es : List Entry) (ds : List Delivery) → rows ≡ table → (Formed s → AreSources s table)
    → ((x : Scenario) → AreSources x rows → Formed x → legal x (reverse es) → length (reverse es) < 2 ^ 63 → AreDeliveries x (reverse es) ds)
    → Formed s → legal s (reverse es) → length (reverse es) < 2 ^ 63 → AreDeliveries s (reverse es) ds
delivered_of s table rows es ds e src g f q n = g s (subst (λ (t : List (Option ℕ)). AreSources s t) (sym e) (src f)) f q n
