-- What a call of a source comes to that makes no call: its answer, and the sinks that it leaves.
use Rattle.std.proofs.Common.{refl, sym, ap, ap₂, subst, ◌∙◌, ◌⊎◌, inl, inr, arith}
use Rattle.std.proofs.lemmas.Grind.{common_steps}
use Rattle.std.specs.Prelude.{◌≡◌, ℕ, zero, suc, ◌+◌, ◌≤◌, ◌<◌, ◌^◌, ℤ, pos, Bool, true, false, cond, List, [], ◌∷◌, length, Option, Some, None, slice_get}
use Rattle.com_base.specs.declared.hresult.HResult.{HResult}
use Rattle.com_base.specs.declared.value.Kind.{Kind}
use Rattle.com_base.specs.declared.value.Kind.TheVariants as kind
use Rattle.com_base.specs.declared.value.RefValue.{RefValue}
use Rattle.com_base.specs.declared.value.Value.{Value}
use Rattle.com_base.specs.declared.value.Value.TheVariants as value
use Rattle.com_body.specs.declared.statements.Stmt.{Stmt}
use Rattle.com_body.specs.declared.frame.Outcome.{Outcome}
use Rattle.com_body.specs.Frames.{entered}
use Rattle.com_body.specs.BodySteps.{no_body}
use Rattle.com_classes.specs.declared.interfaces.Method.{Method}
use Rattle.com_classes.specs.Lookups.{body_of, method_at}
use Rattle.com_model.specs.declared.deeds.Deed.{Deed}
use Rattle.com_model.specs.declared.deeds.Deed.TheVariants as deed
use Rattle.com_model.specs.declared.deeds.Entry.{Entry}
use Rattle.com_model.specs.declared.scenario.Scenario.{Scenario}
use Rattle.com_model.specs.declared.keeps.Issue.{Issue}
use Rattle.com_model.specs.declared.keeps.Opener.TheVariants.{Enters}
use Rattle.com_model.specs.Answers.{E_NOTIMPL, is_S_OK}
use Rattle.com_model.specs.Openers.{openers}
use Rattle.com_model.specs.Objects.{class_of}
use Rattle.com_model.specs.Calls.{issue, is_marshalled}
use Rattle.com_model.specs.Tables.{parameters, result_kind}
use Rattle.com_model.specs.Books.{books}
use Rattle.com_model.specs.Values.{sent_result}
use Rattle.com_model.specs.Formed.{Formed}
use Rattle.com_model.specs.Rules.{legal}
use Rattle.com_laws_balance.proofs.Counts.{Among}
use Rattle.com_laws_safety.proofs.Small.{not-both}
use Rattle.com_laws_sources.specs.Alone.{alone}
use Rattle.com_laws_sources.specs.Bodies.{ok, e_pointer, advise_limit, no_connection, advise_body, unadvise_body}
use Rattle.com_laws_sources.specs.Fitting.{HasKinds}
use Rattle.com_laws_sources.specs.Histories.{given_to, first_reference, first_number, is_on, Change, Takes, Loses, Stays, result_cookie, leaving, change, changed, sinks, one_taken, taken}
use Rattle.com_laws_sources.specs.Kept.{Keeps}
use Rattle.com_laws_sources.specs.Rounds.{number, Leaves}
use Rattle.com_laws_sources.specs.Runs.{began, by_itself}
use Rattle.com_laws_sources.specs.Sinks.{Sink}
use Rattle.com_laws_sources.specs.Sources.{IsSource, advise, unadvise, fire, point_methods}
use Rattle.com_laws_sources.specs.Steps.{body_for, result_of}
use Rattle.com_laws_sources.proofs.Advised.{advise-null, advise-full, advise-taken, unadvise-either}
use Rattle.com_laws_sources.proofs.Called.{advises, unadvises, fires, others, runs, on-method, at-method, source-method}
use Rattle.com_laws_sources.proofs.Fitting.{legal-given}
use Rattle.com_laws_sources.proofs.Runs.{stands-in}
use Rattle.com_laws_sources.proofs.Sourced.{source-runs}

-- ---- how many sinks were taken

one-more : (x : Change) (n : ℕ) → one_taken x n ≤ n + 1
one-more (Takes x) n = omega arith
one-more (Loses k) n = omega arith
one-more Stays n = omega arith

longer : (e : Entry) (h : List Entry) → length (e ∷ h) ≡ length h + 1
longer e h = grind (arith, common_steps)

first-stays : (o i : ℕ) (d : Deed) → change [] o i d ≡ Stays
first-stays o i (deed.Leave c hr v bytes) = elim (is_S_OK hr) as (λ t. leaving [] o i c t v ≡ Stays) [ true ↦ refl | false ↦ refl ]
first-stays o i _ = refl

pub counted : (h : List Entry) (e : Entry) (o i : ℕ) → taken (e ∷ h) o i ≤ length h
counted [] e o i = let k : taken (e ∷ []) o i ≡ 0 = ap (λ (x : Change). one_taken x 0) (first-stays o i e.deed) in omega (arith, k)
counted (d ∷ h) e o i =
    let k : one_taken (change (d ∷ h) o i e.deed) (taken (d ∷ h) o i) ≤ taken (d ∷ h) o i + 1 = one-more (change (d ∷ h) o i e.deed) (taken (d ∷ h) o i) in
    omega (arith, k, counted h d o i, longer d h)

pub open-counted : (h : List Entry) (l c o a i : ℕ) → Among (Enters c o a) (openers h l) → taken h o i + 1 ≤ length h
open-counted [] l c o a i m = absurd m
open-counted (e ∷ h) l c o a i m = omega (arith, counted h e o i, longer e h)

-- ---- what a Leave takes or loses

-- A sink that is taken has the next cookie.
abbrev pub ChangeBy : Change → ℕ → Type 0
ChangeBy (Takes x) n = x.cookie ≡ n + 1
ChangeBy _ n = Unit {0}

leaving-takes : (h : List Entry) (o i c : ℕ) (v : Option Value) → is_on (issue h c) o i advise ≡ true → leaving h o i c true v ≡ Takes (record { cookie = result_cookie v; held = first_reference (given_to h c) })
leaving-takes h o i c v e = ap (λ (t : Bool). cond t (Takes (record { cookie = result_cookie v; held = first_reference (given_to h c) })) (cond (is_on (issue h c) o i unadvise) (Loses (first_number (given_to h c))) Stays)) e

leaving-loses : (h : List Entry) (o i c : ℕ) (v : Option Value) → is_on (issue h c) o i advise ≡ false → is_on (issue h c) o i unadvise ≡ true → leaving h o i c true v ≡ Loses (first_number (given_to h c))
leaving-loses h o i c v e p =
    ap (λ (t : Bool). cond t (Takes (record { cookie = result_cookie v; held = first_reference (given_to h c) })) (cond (is_on (issue h c) o i unadvise) (Loses (first_number (given_to h c))) Stays)) e
    ∙ ap (λ (t : Bool). cond t (Loses (first_number (given_to h c))) Stays) p

pub leaving-stays : (h : List Entry) (o i c : ℕ) (b : Bool) (v : Option Value) → is_on (issue h c) o i advise ≡ false → is_on (issue h c) o i unadvise ≡ false → leaving h o i c b v ≡ Stays
leaving-stays h o i c false v e p = refl
leaving-stays h o i c true v e p =
    ap (λ (t : Bool). cond t (Takes (record { cookie = result_cookie v; held = first_reference (given_to h c) })) (cond (is_on (issue h c) o i unadvise) (Loses (first_number (given_to h c))) Stays)) e
    ∙ ap (λ (t : Bool). cond t (Loses (first_number (given_to h c))) Stays) p

pub record Comes (s : Scenario) (h : List Entry) (c o i : ℕ) (y : Issue) : Type 0 where
  pub steps : ℕ
  pub hr : HResult
  pub given : Option Value
  pub after : List Sink
  pub last : ℕ
  pub leaves : Leaves (by_itself s h c o y steps) hr given after last
  pub after_is : after ≡ changed (leaving h o i c (is_S_OK hr) (result_of s h y hr given)) (sinks h o i)
  pub last_is : last ≡ one_taken (leaving h o i c (is_S_OK hr) (result_of s h y hr given)) (taken h o i)
  pub may : ChangeBy (leaving h o i c (is_S_OK hr) (result_of s h y hr given)) (taken h o i)

comes-by : (s : Scenario) (h : List Entry) (c o i : ℕ) (y : Issue) (n : ℕ) (hr : HResult) (given : Option Value) (x : Change) → leaving h o i c (is_S_OK hr) (result_of s h y hr given) ≡ x
    → Leaves (by_itself s h c o y n) hr given (changed x (sinks h o i)) (one_taken x (taken h o i)) → ChangeBy x (taken h o i) → Comes s h c o i y
comes-by s h c o i y n hr given x e w m = record {
  steps = n;
  hr = hr;
  given = given;
  after = changed x (sinks h o i);
  last = one_taken x (taken h o i);
  leaves = w;
  after_is = ap (λ (k : Change). changed k (sinks h o i)) (sym e);
  last_is = ap (λ (k : Change). one_taken k (taken h o i)) (sym e);
  may = subst (λ (k : Change). ChangeBy k (taken h o i)) (sym e) m;
}

-- ---- what a call was given, and its result

pub one-reference : (vs : List Value) → HasKinds (kind.Ref 1 ∷ []) vs → (held : Option RefValue) × (vs ≡ value.Ref held ∷ [])
one-reference [] p = absurd p
one-reference (value.Ref held ∷ []) p = (held, refl)
one-reference (value.Int n ∷ []) p = absurd (no p.0)
  where
    no : false ≡ true → ⊥
    no e = cc
one-reference (value.Bool n ∷ []) p = absurd (no p.0)
  where
    no : false ≡ true → ⊥
    no e = cc
one-reference (value.Text n ∷ []) p = absurd (no p.0)
  where
    no : false ≡ true → ⊥
    no e = cc
one-reference (value.Bytes n ∷ []) p = absurd (no p.0)
  where
    no : false ≡ true → ⊥
    no e = cc
one-reference (value.Guid n ∷ []) p = absurd (no p.0)
  where
    no : false ≡ true → ⊥
    no e = cc
one-reference (v ∷ w ∷ vs) p = absurd p.1

pub one-number : (vs : List Value) → HasKinds (kind.Int ∷ []) vs → (n : ℤ) × (vs ≡ value.Int n ∷ [])
one-number [] p = absurd p
one-number (value.Int n ∷ []) p = (n, refl)
one-number (value.Ref None ∷ []) p = absurd (no p.0)
  where
    no : false ≡ true → ⊥
    no e = cc
one-number (value.Ref (Some r) ∷ []) p = absurd (no p.0)
  where
    no : false ≡ true → ⊥
    no e = cc
one-number (value.Bool n ∷ []) p = absurd (no p.0)
  where
    no : false ≡ true → ⊥
    no e = cc
one-number (value.Text n ∷ []) p = absurd (no p.0)
  where
    no : false ≡ true → ⊥
    no e = cc
one-number (value.Bytes n ∷ []) p = absurd (no p.0)
  where
    no : false ≡ true → ⊥
    no e = cc
one-number (value.Guid n ∷ []) p = absurd (no p.0)
  where
    no : false ≡ true → ⊥
    no e = cc
one-number (v ∷ w ∷ vs) p = absurd p.1

method-of : (s : Scenario) (k i m : ℕ) (y : Issue) → IsSource s k i → y.iface ≡ i → y.method ≡ m → method_at s.classes y.iface y.method ≡ slice_get point_methods m
method-of s k i m y p e z = ap₂ (λ (j n : ℕ). method_at s.classes j n) e z ∙ source-method s k i m p

pub given-kinds : (s : Scenario) (h : List Entry) (l c o a i m : ℕ) (y : Issue) → Formed s → legal s h → IsSource s (class_of h o) i → Among (Enters c o a) (openers h l) → issue h c ≡ Some y → y.iface ≡ i → y.method ≡ m → HasKinds (parameters (slice_get point_methods m)) (given_to h c)
given-kinds s h l c o a i m y f q p j e u z =
    subst (λ (x : Option Method). HasKinds (parameters x) (given_to h c)) (method-of s (class_of h o) i m y p u z)
    (legal-given s h f q l c o a y (stands-in (Enters c o a) (openers h l) j) e)

int-result : (m : Bool) (live : ℕ → Bool) (n : ℤ) → sent_result m live ok (Some kind.Int) (Some (value.Int n)) ≡ Some (value.Int n)
int-result true live n = refl
int-result false live n = refl

pub result-is : (s : Scenario) (h : List Entry) (k i m : ℕ) (y : Issue) (n : ℤ) → IsSource s k i → y.iface ≡ i → y.method ≡ m → result_kind (slice_get point_methods m) ≡ Some kind.Int → result_of s h y ok (Some (value.Int n)) ≡ Some (value.Int n)
result-is s h k i m y n p e z r =
    ap (λ (x : Option Kind). sent_result (is_marshalled y.route) (books s h).live ok x (Some (value.Int n))) (ap result_kind (method-of s k i m y p e z) ∙ r)
    ∙ int-result (is_marshalled y.route) (books s h).live n

itself-is : (s : Scenario) (h : List Entry) (c o n : ℕ) (y : Issue) (b : List Stmt) (vs : List Value) → body_for s h o y ≡ b → given_to h c ≡ vs → by_itself s h c o y n ≡ alone b n (entered vs) (began s h c)
itself-is s h c o n y b vs e z = ap₂ (λ (b : List Stmt) (vs : List Value). alone b n (entered vs) (began s h c)) e z

body-of : (s : Scenario) (h : List Entry) (o i m : ℕ) (y : Issue) (b : List Stmt) → body_of s.classes (class_of h o) i m ≡ b → y.iface ≡ i → y.method ≡ m → body_for s h o y ≡ b
body-of s h o i m y b e p z = ap₂ (λ (j n : ℕ). body_of s.classes (class_of h o) j n) p z ∙ e

-- ---- each body

pub four-or-less : (n : ℕ) → n ≤ 4 → (n < 4) ⊎ (n ≡ 4)
four-or-less zero h = inl (omega arith)
four-or-less (suc zero) h = inl (omega arith)
four-or-less (suc (suc zero)) h = inl (omega arith)
four-or-less (suc (suc (suc zero))) h = inl (omega arith)
four-or-less (suc (suc (suc (suc n)))) h = inr (omega (arith, h))

abbrev Leaving : Scenario → List Entry → (c o : ℕ) → Issue → (n : ℕ) → Outcome → HResult → Option Value → List Sink → ℕ → Type 0
Leaving s h c o y n r hr given xs t = Leaves r hr given xs t → Leaves (by_itself s h c o y n) hr given xs t

leaving-by : (s : Scenario) (h : List Entry) (c o : ℕ) (y : Issue) (n : ℕ) (r : Outcome) (hr : HResult) (given : Option Value) (xs : List Sink) (t : ℕ) → by_itself s h c o y n ≡ r → Leaving s h c o y n r hr given xs t
leaving-by s h c o y n r hr given xs t e w = subst (λ (z : Outcome). Leaves z hr given xs t) (sym e) w

advise-comes : (s : Scenario) (h : List Entry) (c o i : ℕ) (y : Issue) (held : Option RefValue) → by_itself s h c o y 1 ≡ alone advise_body 1 (entered (value.Ref held ∷ [])) (began s h c) → given_to h c ≡ value.Ref held ∷ [] → is_on (issue h c) o i advise ≡ true
    → ((n : ℤ) → result_of s h y ok (Some (value.Int n)) ≡ Some (value.Int n)) → Keeps (began s h c) (sinks h o i) (taken h o i) → taken h o i + 1 < 2 ^ 63 → Comes s h c o i y
advise-comes s h c o i y None e g on r k b =
    comes-by s h c o i y 1 e_pointer None Stays refl (leaving-by s h c o y 1 _ e_pointer None (sinks h o i) (taken h o i) e (advise-null (began s h c) (sinks h o i) (taken h o i) k)) tt
advise-comes s h c o i y (Some p) e g on r k b =
    elim (four-or-less (length (sinks h o i)) k.few) as (λ _. Comes s h c o i y) [
      | inl z ↦
          let x : Sink = record { cookie = taken h o i + 1; held = Some p } in
          let w : leaving h o i c true (result_of s h y ok (Some (number (taken h o i + 1)))) ≡ Takes x =
          ap (λ (v : Option Value). leaving h o i c true v) (r (pos (taken h o i + 1))) ∙ leaving-takes h o i c (Some (number (taken h o i + 1))) on
          ∙ ap (λ (vs : List Value). Takes (record { cookie = taken h o i + 1; held = first_reference vs })) g in
          comes-by s h c o i y 1 ok (Some (number (taken h o i + 1))) (Takes x) w (leaving-by s h c o y 1 _ ok _ _ _ e (advise-taken p (began s h c) (sinks h o i) (taken h o i) k z b)) refl
      | inr z ↦ comes-by s h c o i y 1 advise_limit None Stays refl (leaving-by s h c o y 1 _ advise_limit None (sinks h o i) (taken h o i) e (advise-full p (began s h c) (sinks h o i) (taken h o i) k z)) tt
    ]

unadvise-comes : (s : Scenario) (h : List Entry) (c o i : ℕ) (y : Issue) (n : ℤ) → by_itself s h c o y 4 ≡ alone unadvise_body 4 (entered (value.Int n ∷ [])) (began s h c) → given_to h c ≡ value.Int n ∷ [] → is_on (issue h c) o i advise ≡ false → is_on (issue h c) o i unadvise ≡ true
    → Keeps (began s h c) (sinks h o i) (taken h o i) → Comes s h c o i y
unadvise-comes s h c o i y n e g off on k =
    elim (unadvise-either n (began s h c) (sinks h o i) (taken h o i) k) as (λ _. Comes s h c o i y) [
      | inl w ↦
          let z : leaving h o i c true (result_of s h y ok None) ≡ Loses n = leaving-loses h o i c (result_of s h y ok None) off on ∙ ap (λ (vs : List Value). Loses (first_number vs)) g in
          comes-by s h c o i y 4 ok None (Loses n) z (leaving-by s h c o y 4 _ ok None _ _ e w) tt
      | inr w ↦ comes-by s h c o i y 4 no_connection None Stays refl (leaving-by s h c o y 4 _ no_connection None _ _ e w) tt
    ]

nothing-comes : (s : Scenario) (h : List Entry) (c o i : ℕ) (y : Issue) → by_itself s h c o y 0 ≡ alone no_body 0 (entered (given_to h c)) (began s h c) → Keeps (began s h c) (sinks h o i) (taken h o i) → Comes s h c o i y
nothing-comes s h c o i y e k =
    comes-by s h c o i y 0 E_NOTIMPL None Stays refl (leaving-by s h c o y 0 (alone no_body 0 (entered (given_to h c)) (began s h c)) E_NOTIMPL None (sinks h o i) (taken h o i) e (record { action = refl; keeps = k })) tt

pub comes : (s : Scenario) (h : List Entry) (l c o a i : ℕ) (y : Issue) → Formed s → legal s h → IsSource s (class_of h o) i → Among (Enters c o a) (openers h l) → issue h c ≡ Some y → y.object ≡ Some o → is_on (issue h c) o i fire ≡ false
    → Keeps (began s h c) (sinks h o i) (taken h o i) → taken h o i + 1 < 2 ^ 63 → Comes s h c o i y
comes s h l c o a i y f q p m e ob off k b =
    elim (runs s (class_of h o) i y p) as (λ _. Comes s h c o i y) [
      | advises u z ↦
          let g : (held : Option RefValue) × (given_to h c ≡ value.Ref held ∷ []) = one-reference (given_to h c) (given-kinds s h l c o a i advise y f q p m e u z) in
          advise-comes s h c o i y g.0 (itself-is s h c o 1 y advise_body (value.Ref g.0 ∷ []) (body-of s h o i advise y advise_body (source-runs s (class_of h o) i p).advises u z) g.1) g.1
          (on-method h c o i advise y true e ob (at-method i advise advise y u z)) (λ n. result-is s h (class_of h o) i advise y n p u z refl) k b
      | unadvises u z ↦
          let g : (n : ℤ) × (given_to h c ≡ value.Int n ∷ []) = one-number (given_to h c) (given-kinds s h l c o a i unadvise y f q p m e u z) in
          unadvise-comes s h c o i y g.0 (itself-is s h c o 4 y unadvise_body (value.Int g.0 ∷ []) (body-of s h o i unadvise y unadvise_body (source-runs s (class_of h o) i p).unadvises u z) g.1) g.1
          (on-method h c o i advise y false e ob (at-method i advise unadvise y u z)) (on-method h c o i unadvise y true e ob (at-method i unadvise unadvise y u z)) k
      | fires u z ↦ absurd (not-both (is_on (issue h c) o i fire) (on-method h c o i fire y true e ob (at-method i fire fire y u z)) off)
      | others u z ↦ nothing-comes s h c o i y (itself-is s h c o 0 y no_body (given_to h c) z refl) k
    ]
