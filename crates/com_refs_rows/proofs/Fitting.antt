-- What is known of the deed of an entry, for its row.
use Rattle.std.proofs.Common.{◌≡◌, ℕ, zero, suc, Bool, true, false, eqb, ◌||◌, ◌&&◌, ◌<◌, ◌≤◌, List, [], ◌∷◌, length, refl, sym, ap, subst, ◌∙◌, arith, eqb-true, eq-eqb, inl, inr}
use Rattle.std.proofs.lemmas.Bool.{cases_lt}
use Rattle.std.proofs.lemmas.Grind.{common_steps}
use Rattle.std.specs.List.{list_any}
use Rattle.std.specs.Prelude.{Option, Some, None, slice_index_or}
use Rattle.com_base.specs.declared.hresult.HResult.{HResult}
use Rattle.com_base.specs.declared.value.RefValue.{RefValue}
use Rattle.com_body.specs.declared.operands.Asked.{Asked}
use Rattle.com_body.specs.declared.operands.Asked.TheVariants as asked
use Rattle.com_classes.specs.declared.classes.Class.{Class}
use Rattle.com_classes.specs.Lookups.{class_at, class_has, has_interface}
use Rattle.com_classes.specs.Tables.{Tables as ClassTables}
use Rattle.com_refs_holders.specs.Steps.{among}
use Rattle.com_refs_holders.specs.Tables.{Tables, offers}
use Rattle.com_model.specs.declared.deeds.Deed.TheVariants as deed
use Rattle.com_model.specs.declared.keeps.Making.{Making}
use Rattle.com_model.specs.Answers.{is_S_OK}
use Rattle.com_model.specs.Objects.{makes}
use Rattle.com_scene.specs.Ranges.{HasInterface}
use Rattle.com_slots.specs.Table.{held_in}
use Rattle.com_refs_rows.specs.Fits.{IsAsked, IsHeld, IsMaking, IsNextMade, IsOfferedTo}
use Rattle.com_refs_rows.specs.Owners.{OffersMore}

-- ---- a making

pub owned_making : (t : ClassTables) (m : ℕ) (object owner : Option ℕ) (k i : Asked) (o : ℕ) → object ≡ Some o → ((w : ℕ) → owner ≡ Some w → ⊥) → IsMaking t m object owner k i → ⊥
owned_making t m None owner k i o e lacks h = cc
owned_making t m (Some x) None k i o e lacks h = h
owned_making t m (Some x) (Some w) k i o e lacks h = absurd (lacks w refl)

pub class_making : (t : ClassTables) (m : ℕ) (object owner : Option ℕ) (k i : Asked) (o : ℕ) → object ≡ Some o → ((n : ℕ) → k ≡ asked.Number n → ⊥) → IsMaking t m object owner k i → ⊥
class_making t m None owner k i o e lacks h = cc
class_making t m (Some x) None k i o e lacks h = h
class_making t m (Some x) (Some w) (asked.Guid g) i o e lacks h = h
class_making t m (Some x) (Some w) (asked.Number n) i o e lacks h = absurd (lacks n refl)

pub iface_making : (t : ClassTables) (m : ℕ) (object owner : Option ℕ) (k i : Asked) (o : ℕ) → object ≡ Some o → ((n : ℕ) → i ≡ asked.Number n → ⊥) → IsMaking t m object owner k i → ⊥
iface_making t m None owner k i o e lacks h = cc
iface_making t m (Some x) None k i o e lacks h = h
iface_making t m (Some x) (Some w) (asked.Guid g) i o e lacks h = h
iface_making t m (Some x) (Some w) (asked.Number n) (asked.Guid g) o e lacks h = h
iface_making t m (Some x) (Some w) (asked.Number n) (asked.Number j) o e lacks h = absurd (lacks j refl)

by_number : (t : ClassTables) (m : ℕ) (object owner : Option ℕ) (k i : Asked) (o w n j : ℕ) → object ≡ Some o → owner ≡ Some w → k ≡ asked.Number n → i ≡ asked.Number j → IsMaking t m object owner k i → IsNextMade t m o n j
by_number t m object owner k i o w n j eo ew ek ei h =
    let h1 : IsMaking t m (Some o) owner k i = subst (λ (x : Option ℕ). IsMaking t m x owner k i) eo h in
    let h2 : IsMaking t m (Some o) (Some w) k i = subst (λ (x : Option ℕ). IsMaking t m (Some o) x k i) ew h1 in
    let h3 : IsMaking t m (Some o) (Some w) (asked.Number n) i = subst (λ (x : Asked). IsMaking t m (Some o) (Some w) x i) ek h2 in
    subst (λ (x : Asked). IsMaking t m (Some o) (Some w) (asked.Number n) x) ei h3

pub made_next : (t : ClassTables) (m : ℕ) (object owner : Option ℕ) (k i : Asked) (o w n j : ℕ) (held : RefValue) → object ≡ Some o → owner ≡ Some w → k ≡ asked.Number n → i ≡ asked.Number j → IsMaking t m object owner k i → held ≡ record { object = o; iface = j } → IsNextMade t m held.object n held.iface
made_next t m object owner k i o w n j held eo ew ek ei h e =
    subst (λ (r : RefValue). IsNextMade t m r.object n r.iface) (sym e) (by_number t m object owner k i o w n j eo ew ek ei h)

pub small_interface : (object : Option ℕ) (i : Asked) (o j : ℕ) → object ≡ Some o → i ≡ asked.Number j → HasInterface object i → j < 65536
small_interface object i o j eo ei h =
    let h1 : HasInterface (Some o) i = subst (λ (x : Option ℕ). HasInterface x i) eo h in
    subst (λ (x : Asked). HasInterface (Some o) x) ei h1

among_listed : (i : ℕ) (xs : List ℕ) → list_any (λ listed. eqb i listed) xs ≡ true → among i xs ≡ true
among_listed i [] h = cc
among_listed i (x ∷ xs) h = elim (eqb i x) as (λ b. eqb i x ≡ b → (b || list_any (λ listed. eqb i listed) xs) ≡ true → (eqb x i || among i xs) ≡ true) [
  | true ↦ λ e g. let same : i ≡ x = eqb-true i x e in grind (arith, common_steps, same)
  | false ↦ λ e g. let later : among i xs ≡ true = among_listed i xs g in grind (arith, common_steps, later)
] refl h

has_among : (c : Class) (i : ℕ) → class_has c i ≡ true → among i (0 ∷ c.interfaces) ≡ true
has_among c i h = elim (eqb i 0) as (λ b. eqb i 0 ≡ b → (b || list_any (λ listed. eqb i listed) c.interfaces) ≡ true → among i (0 ∷ c.interfaces) ≡ true) [
  | true ↦ λ e g. let same : i ≡ 0 = eqb-true i 0 e in grind (arith, common_steps, same)
  | false ↦ λ e g. let later : among i c.interfaces ≡ true = among_listed i c.interfaces g in grind (arith, common_steps, later)
] refl h

offered_in : (x : Option Class) (c : Class) (i : ℕ) → x ≡ Some c → elim x [ None ↦ false | Some d ↦ class_has d i ] ≡ true → class_has c i ≡ true
offered_in None c i e h = cc
offered_in (Some d) c i e h = let same : d ≡ c = cc in subst (λ (y : Class). class_has y i ≡ true) same h

pub among_making : (t : ClassTables) (k i : ℕ) (c : Class) (set : List ℕ) → class_at t k ≡ Some c → set ≡ 0 ∷ c.interfaces → has_interface t k i ≡ true → among i set ≡ true
among_making t k i c set e s h = subst (λ (l : List ℕ). among i l ≡ true) (sym s) (has_among c i (offered_in (class_at t k) c i e h))

pub small_making : (c : Class) (set : List ℕ) → set ≡ 0 ∷ c.interfaces → length c.interfaces ≤ 16 → length set ≤ 17
small_making c set s h = subst (λ (l : List ℕ). length l ≤ 17) (sym s) (omega (arith, h))

-- ---- the sets of objects

clash : false ≡ true → ⊥
clash e = cc

either : (b p q r s : Bool) → (b || (p && q)) ≡ true → (p ≡ true → r ≡ true) → (q ≡ true → s ≡ true) → (b || (r && s)) ≡ true
either true p q r s h f g = refl
either false true true r s h f g = λ i. f refl i && g refl i
either false true false r s h f g = absurd (clash h)
either false false q r s h f g = absurd (clash h)

turned : (a b : ℕ) → eqb a b ≡ eqb b a
turned a b = grind (arith, common_steps)

pub offers_more : (classes : ClassTables) (m : Making) (t u : Tables) (c : Class) (set : List ℕ) → class_at classes m.class ≡ Some c → set ≡ 0 ∷ c.interfaces
    → ((x j : ℕ) → offers u x j ≡ (offers t x j || (eqb x m.object && among j set))) → OffersMore classes (Some m) t u
offers_more classes m t u c set e s more o i h =
    more o i ∙ either (offers t o i) (eqb m.object o) (has_interface classes m.class i) (eqb o m.object) (among i set) h (λ q. turned o m.object ∙ q) (λ q. among_making classes m.class i c set e s q)

or_none : (b : Bool) → (b || false) ≡ true → b ≡ true
or_none true h = refl
or_none false h = h

-- No object is made.
pub offers_none : (classes : ClassTables) (object owner : Option ℕ) (k i : Asked) (hr : HResult) (t : Tables) → ((o : ℕ) → object ≡ Some o → ⊥) → OffersMore classes (makes (deed.Made object owner k i hr)) t t
offers_none classes None owner k i hr t lacks o j h = or_none (offers t o j) h
offers_none classes (Some x) owner k i hr t lacks o j h = absurd (lacks x refl)

made_as : (object owner : Option ℕ) (k i : Asked) (hr : HResult) (o w n : ℕ) → object ≡ Some o → owner ≡ Some w → k ≡ asked.Number n → makes (deed.Made object owner k i hr) ≡ Some (record { object = o; apartment = w; class = n })
made_as object owner k i hr o w n eo ew ek =
    ap (λ (x : Option ℕ). makes (deed.Made x owner k i hr)) eo ∙ ap (λ (x : Option ℕ). makes (deed.Made (Some o) x k i hr)) ew ∙ ap (λ (x : Asked). makes (deed.Made (Some o) (Some w) x i hr)) ek

-- One is made.
pub offers_one : (classes : ClassTables) (object owner : Option ℕ) (k i : Asked) (hr : HResult) (o w n j : ℕ) (held : RefValue) (t u : Tables) → object ≡ Some o → owner ≡ Some w → k ≡ asked.Number n → i ≡ asked.Number j
    → held ≡ record { object = o; iface = j } → OffersMore classes (Some (record { object = held.object; apartment = w; class = n })) t u → OffersMore classes (makes (deed.Made object owner k i hr)) t u
offers_one classes object owner k i hr o w n j held t u eo ew ek ei e p =
    subst (λ (m : Option Making). OffersMore classes m t u) (sym (made_as object owner k i hr o w n eo ew ek))
    (subst (λ (r : RefValue). OffersMore classes (Some (record { object = r.object; apartment = w; class = n })) t u) e p)

-- ---- what is asked for and held

pub asked_offered : (t : Tables) (a : ℕ) (object : Option ℕ) (i : Asked) (hr : HResult) (o j : ℕ) (held : RefValue) → object ≡ Some o → i ≡ asked.Number j → hr.0 ≡ 0 → held ≡ record { object = o; iface = j }
    → IsAsked t a object i (is_S_OK hr) → IsOfferedTo t a held.object held.iface
asked_offered t a object i hr o j held eo ei eh e h =
    let h1 : IsAsked t a (Some o) i (is_S_OK hr) = subst (λ (x : Option ℕ). IsAsked t a x i (is_S_OK hr)) eo h in
    let h2 : IsAsked t a (Some o) (asked.Number j) (is_S_OK hr) = subst (λ (x : Asked). IsAsked t a (Some o) x (is_S_OK hr)) ei h1 in
    let h3 : IsOfferedTo t a o j = subst (λ (b : Bool). IsAsked t a (Some o) (asked.Number j) b) (eq-eqb hr.0 0 eh) h2 in
    subst (λ (r : RefValue). IsOfferedTo t a r.object r.iface) (sym e) h3

pub held_offered : (t : Tables) (x : Option RefValue) (held : RefValue) → x ≡ Some held → IsHeld t x → offers t held.object held.iface ≡ true
held_offered t x held e h = subst (IsHeld t) e h

-- ---- what a cookie stands for

past_entries : (entries : List (Option RefValue)) (k : ℕ) → length entries ≤ k → slice_index_or entries k None ≡ None
past_entries [] k h = refl
past_entries (x ∷ xs) zero h = absurd (omega (arith, h))
past_entries (x ∷ xs) (suc k) h = past_entries xs k (omega (arith, h))

past_held : (entries : List (Option RefValue)) (n : ℕ) → length entries < n → held_in entries n ≡ None
past_held entries zero h = refl
past_held entries (suc k) h = past_entries entries k (omega (arith, h))

-- A number that stands for something has 32 bits.
pub held_at : (entries : List (Option RefValue)) (m n k : ℕ) (r : RefValue) → length entries < m → (n < m → k ≡ n) → held_in entries n ≡ Some r → held_in entries k ≡ Some r
held_at entries m n k r few within h = elim (cases_lt n m) [
  | inl l ↦ subst (λ (j : ℕ). held_in entries j ≡ Some r) (sym (within l)) h
  | inr l ↦ let none : held_in entries n ≡ None = past_held entries n (omega (arith, few, l)) in absurd cc
]

pub same_held : (entries : List (Option RefValue)) (k : ℕ) (x y : RefValue) → held_in entries k ≡ Some x → held_in entries k ≡ Some y → x ≡ y
same_held entries k x y e f = let g : Some x ≡ Some y = sym e ∙ f in cc
