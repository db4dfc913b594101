-- The objects of a source live in an STA.
use Rattle.std.proofs.Common.{refl, sym, ap, subst, ◌∙◌, inl, inr, ◌⊎◌, eqb-true, arith}
use Rattle.std.proofs.lemmas.Bool.{le-leb}
use Rattle.std.specs.Prelude.{◌≡◌, ℕ, ◌+◌, ◌≤◌, Bool, true, false, cond, not, ◌==◌, ◌||◌, nat_le, List, [], ◌∷◌, ◌++◌, length, filter, Option, Some, None, option_map, Ok, Err}
use Rattle.com_body.specs.declared.operands.Asked.{Asked}
use Rattle.com_body.specs.declared.actions.Action.{Action}
use Rattle.com_body.specs.declared.actions.Action.TheVariants as action
use Rattle.com_classes.specs.declared.classes.Class.{Class}
use Rattle.com_classes.specs.declared.classes.ThreadingModel.{ThreadingModel}
use Rattle.com_classes.specs.declared.factory.Creator.{Creator}
use Rattle.com_classes.specs.Activation.{apartment_of, owner_for, is_agile}
use Rattle.com_classes.specs.Lookups.{class_at, class_has}
use Rattle.com_model.specs.declared.deeds.Deed.{Deed}
use Rattle.com_model.specs.declared.deeds.Deed.TheVariants as deed
use Rattle.com_model.specs.declared.deeds.Entry.{Entry}
use Rattle.com_model.specs.declared.scenario.Scenario.{Scenario}
use Rattle.com_model.specs.Lists.{first, is_member, number_or_zero}
use Rattle.com_model.specs.Tables.{class_number, interface_number}
use Rattle.com_model.specs.Apartments.{is_sta, makes_sta, with_last, stas, ended, or_host, main_sta}
use Rattle.com_model.specs.declared.keeps.Making.{Making as Made}
use Rattle.com_model.specs.Objects.{makes, made_or, making, named, class_of, asked_number}
use Rattle.com_model.specs.Deeds.{deed_of, created, created_of, creator, placing, made_as, uninitialised}
use Rattle.com_model.specs.Rules.{legal, packet_left}
use Rattle.com_model.specs.Sight.{Sight, sight}
use Rattle.com_model.proofs.Comes.{first-filter}
use Rattle.com_model.proofs.Given.{cond-of}
use Rattle.com_laws_safety.proofs.Acted.{ActionSort, Making, action_sort, OfAction, deed-acted}
use Rattle.com_laws_safety.proofs.Facts.{IsRuled, admission-ruled, answered-ruled, rest-ruled}
use Rattle.com_laws_safety.proofs.Sources.{Source, by_body, by_script, by_end, by_final, by_own, by_answer, by_inbox, by_retry, by_again, by_rest, next-source}
use Rattle.com_laws_sources.specs.Sources.{IsStaModel, IsSource}
use Rattle.com_laws_sources.proofs.Servers.{entry-new}

-- ---- the main STA

member-last : (a : ℕ) (xs : List ℕ) (x : Option ℕ) → is_member a (with_last xs x) ≡ true → (is_member a xs ≡ true) ⊎ (x ≡ Some a)
member-last a xs None m = inl m
member-last a [] (Some y) m = here (a == y) refl m
  where
    here : (t : Bool) → (a == y) ≡ t → (t || false) ≡ true → (false ≡ true) ⊎ (Some y ≡ Some a)
    here true e m = inr (ap (λ (k : ℕ). Some k) (sym (eqb-true a y e)))
    here false e m = cc
member-last a (z ∷ zs) (Some y) m = here (a == z) refl m (λ u. member-last a zs (Some y) u)
  where
    later : (is_member a zs ≡ true) ⊎ (Some y ≡ Some a) → (a == z) ≡ false → (is_member a (z ∷ zs) ≡ true) ⊎ (Some y ≡ Some a)
    later (inl u) e = inl (ap (λ (t : Bool). t || is_member a zs) e ∙ u)
    later (inr u) e = inr u

    here : (t : Bool) → (a == z) ≡ t → (t || is_member a (zs ++ (y ∷ []))) ≡ true → (is_member a (zs ++ (y ∷ [])) ≡ true → (is_member a zs ≡ true) ⊎ (Some y ≡ Some a)) → (is_member a (z ∷ zs) ≡ true) ⊎ (Some y ≡ Some a)
    here true e m f = inl (ap (λ (t : Bool). t || is_member a zs) e)
    here false e m f = later (f m) e

stas-high : (s : Scenario) (h : List Entry) (a : ℕ) → legal s h → is_member a (stas h) ≡ true → 3 ≤ a
stas-high s [] a q m = cc
stas-high s (e ∷ h) a q m =
    elim (member-last a (stas h) (makes_sta e.deed) m) as (λ _. 3 ≤ a) [
      | inl u ↦ stas-high s h a q.0 u
      | inr u ↦ let n : a ≡ length (stas h) + 3 = entry-new s h e a q u in omega (arith, n)
    ]

sta-from : (a : ℕ) → 2 ≤ a → is_sta a ≡ true
sta-from a p = le-leb 2 a p

main-is-sta : (s : Scenario) (h : List Entry) → legal s h → is_sta (main_sta h) ≡ true
main-is-sta s h q = by-first (first (filter (λ a. not (ended h a)) (stas h))) refl
  where
    by-first : (x : Option ℕ) → first (filter (λ a. not (ended h a)) (stas h)) ≡ x → is_sta (or_host x) ≡ true
    by-first None e = refl
    by-first (Some a) e = let k : 3 ≤ a = stas-high s h a q (first-filter (λ a. not (ended h a)) (stas h) a e).1 in sta-from a (omega (arith, k))

-- ---- where an object of a source is made

abbrev MadeSta : Scenario → Deed → Type 0
MadeSta s (deed.Made (Some o) (Some a) k i hr) = (t : Class) → class_at s.classes (asked_number k) ≡ Some t → IsStaModel t.model → is_sta a ≡ true
MadeSta s _ = Unit {0}

owner-sta : (m : ThreadingModel) (x : Creator) → is_sta x.main_sta ≡ true → IsStaModel m → is_sta (owner_for m x) ≡ true
owner-sta m x k (inl e) = subst (λ (y : ThreadingModel). is_sta (owner_for y x) ≡ true) (sym e) k
owner-sta m x k (inr e) = subst (λ (y : ThreadingModel). is_sta (owner_for y x) ≡ true) (sym e) (here (nat_le 2 (apartment_of x)) refl)
  where
    here : (b : Bool) → nat_le 2 (apartment_of x) ≡ b → is_sta (cond b (apartment_of x) 2) ≡ true
    here true e = e
    here false e = refl

same-class-of : (x y : Class) → Some x ≡ Some y → x ≡ y
same-class-of x y e = cc

placed-sta : (s : Scenario) (v : Sight) (k i : Asked) (x : Creator) (c j : ℕ) (t : Class) (b : Bool) → is_sta x.main_sta ≡ true → class_at s.classes c ≡ Some t
    → MadeSta s (made_as s v k i (cond b (Ok (record { class = c; iface = j; owner = owner_for t.model x; agile = is_agile t.model })) (Err (record { 0 = 0x80004002 }))))
placed-sta s v k i x c j t true m e = λ u p w. owner-sta t.model x m (subst (λ (y : Class). IsStaModel y.model) (same-class-of u t (sym p ∙ e)) w)
placed-sta s v k i x c j t false m e = tt

made-sta : (s : Scenario) (v : Sight) (k i : Asked) (x : Creator) (c : ℕ) (j : Option ℕ) (t : Option Class) → is_sta x.main_sta ≡ true → class_at s.classes c ≡ t → MadeSta s (made_as s v k i (placing x c j t))
made-sta s v k i x c j None m e = tt
made-sta s v k i x c None (Some t) m e = tt
made-sta s v k i x c (Some j) (Some t) m e = placed-sta s v k i x c j t (class_has t j) m e

created_of-sta : (s : Scenario) (v : Sight) (l a : ℕ) (k i : Asked) (c j : Option ℕ) → is_sta v.main_sta ≡ true → MadeSta s (created_of s v l a k i c j)
created_of-sta s v l a k i None j m = tt
created_of-sta s v l a k i (Some c) j m = made-sta s v k i (creator v l a) c j (class_at s.classes c) m refl

created-sta : (s : Scenario) (v : Sight) (l : ℕ) (k i : Asked) (a : Option ℕ) → is_sta v.main_sta ≡ true → MadeSta s (created s v l k i a)
created-sta s v l k i None m = tt
created-sta s v l k i (Some a) m = created_of-sta s v l a k i (class_number s k) (interface_number s i) m

not-made : (s : Scenario) (b : ActionSort) (d : Deed) → OfAction b d → (b ≡ Making → ⊥) → MadeSta s d
not-made s b (deed.Made o a k i hr) p n = absurd (n p)
not-made s b _ p n = tt

act-sta : (s : Scenario) (v : Sight) (l : ℕ) (x : Action) → is_sta v.main_sta ≡ true → MadeSta s (deed_of s v l x)
act-sta s v l (action.Create slot k i) m = created-sta s v l k i (v.home l) m
act-sta s v l x m = not-made s (action_sort x) (deed_of s v l x) (deed-acted s v l x) (λ e. cc)

ruled-sta : (s : Scenario) (d : Deed) → IsRuled d → MadeSta s d
ruled-sta s (deed.Made o a k i hr) p = absurd p
ruled-sta s _ p = tt

source-sta : (s : Scenario) (v : Sight) (l : ℕ) (d : Deed) → is_sta v.main_sta ≡ true → Source s v l d → MadeSta s d
source-sta s v l d m (by_body c o a os x p q e) = subst (MadeSta s) e (act-sta s v l x m)
source-sta s v l d m (by_script x p t q e) = subst (MadeSta s) e (act-sta s v l x m)
source-sta s v l d m (by_end p t e) = subst (MadeSta s) e (cond-of (MadeSta s) (v.count l == 0) deed.End (uninitialised v l) tt tt)
source-sta s v l d m (by_final o p e) = subst (MadeSta s) e tt
source-sta s v l d m (by_own c p q e) = ruled-sta s d (subst IsRuled e (admission-ruled s v l c))
source-sta s v l d m (by_answer c x p q e) = ruled-sta s d (subst IsRuled e (answered-ruled v c x (packet_left v c)))
source-sta s v l d m (by_inbox c p q e) = ruled-sta s d (subst IsRuled e (admission-ruled s v l c))
source-sta s v l d m (by_retry c n x q e) = subst (MadeSta s) e tt
source-sta s v l d m (by_again c t q e) = subst (MadeSta s) e tt
source-sta s v l d m (by_rest p) = ruled-sta s d (rest-ruled d p)

abbrev number-of : Option Made → (Made → ℕ) → ℕ
number-of x f = number_or_zero (option_map f x)

abbrev InSta : Scenario → Option Made → Type 0
InSta s x = (t : Class) → class_at s.classes (number-of x (λ m. m.class)) ≡ Some t → IsStaModel t.model → is_sta (number-of x (λ m. m.apartment)) ≡ true

none-in-sta : (s : Scenario) → InSta s None
none-in-sta s t e w = absurd (nothing e)
  where
    nothing : None ≡ Some t → ⊥
    nothing e = cc

step-in-sta : (s : Scenario) (o : ℕ) (d : Deed) (x : Option Made) → MadeSta s d → InSta s x → InSta s (made_or (makes d) o x)
step-in-sta s o (deed.Made (Some k) (Some a) c i hr) x m p =
    elim (k == o) as (λ b. InSta s (cond b (Some (record { object = k; apartment = a; class = asked_number c })) x)) [ true ↦ m | false ↦ p ]
step-in-sta s o (deed.Made (Some k) None c i hr) x m p = p
step-in-sta s o (deed.Made None a c i hr) x m p = p
step-in-sta s o _ x m p = p

legal-in-sta : (s : Scenario) (h : List Entry) (o : ℕ) → legal s h → InSta s (making h o)
legal-in-sta s [] o q = none-in-sta s
legal-in-sta s (e ∷ h) o q =
    step-in-sta s o e.deed (making h o) (source-sta s (sight s h) e.lane e.deed (main-is-sta s h q.0) (next-source s h e.lane e.deed q.1)) (legal-in-sta s h o q.0)

pub in-sta : (s : Scenario) (h : List Entry) (o i : ℕ) → legal s h → IsSource s (class_of h o) i → is_sta (named h o) ≡ true
in-sta s h o i q p = legal-in-sta s h o q p.declaration p.there p.source.model
