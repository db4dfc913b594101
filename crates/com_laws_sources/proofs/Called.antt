-- Calls on an object of a source whose bodies are open: what was issued, and which body runs.
use Rattle.std.proofs.Common.{refl, sym, ap, ap₂, subst, ◌∙◌, inl, inr, eqb-true, arith}
use Rattle.std.proofs.lemmas.Bool.{false_from_ne_true}
use Rattle.std.specs.Prelude.{◌≡◌, ℕ, zero, suc, ◌+◌, ◌<◌, Bool, true, false, cond, ◌==◌, ◌&&◌, List, [], ◌∷◌, Option, Some, None, slice_get, option_and_then, unwrap_or, option_map}
use Rattle.com_base.specs.declared.value.Value.{Value}
use Rattle.com_body.specs.declared.statements.Stmt.{Stmt}
use Rattle.com_body.specs.BodySteps.{no_body}
use Rattle.com_classes.specs.declared.classes.Class.{Class}
use Rattle.com_classes.specs.declared.interfaces.Interface.{Interface}
use Rattle.com_classes.specs.declared.interfaces.Method.{Method}
use Rattle.com_classes.specs.Lookups.{class_at, class_body, body_of, method_at}
use Rattle.com_model.specs.declared.deeds.Deed.{Deed}
use Rattle.com_model.specs.declared.deeds.Deed.TheVariants as deed
use Rattle.com_model.specs.declared.deeds.Entry.{Entry}
use Rattle.com_model.specs.declared.scenario.Scenario.{Scenario}
use Rattle.com_model.specs.declared.keeps.Issue.{Issue}
use Rattle.com_model.specs.declared.keeps.Making.{Making as Made}
use Rattle.com_model.specs.declared.keeps.Opener.{Opener}
use Rattle.com_model.specs.declared.keeps.Opener.TheVariants.{Pumps, Waits, Enters}
use Rattle.com_model.specs.Lists.{without_first, is_number, number_or_zero}
use Rattle.com_model.specs.Apartments.{is_sta}
use Rattle.com_model.specs.Openers.{Effect, Opens, Closes, Keeps, effect, effect_on, opened, openers}
use Rattle.com_model.specs.Objects.{objects, asked_number, makes, made_or, making, named, class_of}
use Rattle.com_model.specs.Calls.{issues, issue_or, issue, object_of, target, route_of}
use Rattle.com_model.specs.Formed.{Formed}
use Rattle.com_model.specs.Rules.{legal}
use Rattle.com_model.specs.Safe.{MadeOnTop, maker}
use Rattle.com_model.specs.Sight.{sight}
use Rattle.com_model.proofs.Fines.{FineBy}
use Rattle.com_model.proofs.Scenes.{faces}
use Rattle.com_laws_balance.proofs.Counts.{Among}
use Rattle.com_laws_balance.proofs.Directs.{issue-stays}
use Rattle.com_laws_balance.proofs.Makings.{fine-next}
use Rattle.com_laws_balance.proofs.Says.{Says, next-says}
use Rattle.com_laws_balance.proofs.Stacks.{among-after, opens-enter}
use Rattle.com_laws_balance.proofs.Steps.{opens-own}
use Rattle.com_laws_safety.proofs.OnTop.{legal-on-top}
use Rattle.com_laws_safety.proofs.Reentered.{legal-reentry}
use Rattle.com_laws_safety.proofs.Small.{and-left, and-right, same-number}
use Rattle.com_laws_sources.specs.Histories.{is_on}
use Rattle.com_laws_sources.specs.Sources.{IsSource, advise, unadvise, fire, point_body, source_body, point_methods}
use Rattle.com_laws_sources.proofs.Runs.{call-low, not-body}
use Rattle.com_laws_sources.proofs.Servers.{number-is}
use Rattle.com_laws_sources.proofs.Sourced.{own-body}

-- ---- the object of a call

enter-target : (s : Scenario) (h : List Entry) (l c o a : ℕ) (d : Deed) → Says s (sight s h) l d → effect d ≡ Opens (Enters c o a) → object_of (issue_or (issues l d) c (issue h c)) ≡ o
enter-target s h l c o a (deed.Enter k x b t vs) z e =
    subst (λ (j : ℕ). object_of (issue h j) ≡ o) (call-of e) (sym z.0 ∙ object-is e)
  where
    call-of : Opens (Enters k x b) ≡ Opens (Enters c o a) → k ≡ c
    call-of e = cc

    object-is : Opens (Enters k x b) ≡ Opens (Enters c o a) → x ≡ o
    object-is e = cc
enter-target s h l c o a _ z e = cc

pub open-target : (s : Scenario) (h : List Entry) (l c o a : ℕ) → legal s h → Among (Enters c o a) (openers h l) → target h c ≡ o
open-target s [] l c o a q m = absurd m
open-target s (e ∷ h) l c o a q m =
    elim (among-after c o a (effect_on l e) (openers h l) m) as (λ _. target (e ∷ h) c ≡ o) [
      | inl j ↦ ap object_of (issue-stays s h e c q (call-low s h l c o a q.0 j)) ∙ open-target s h l c o a q.0 j
      | inr j ↦ enter-target s h e.lane c o a e.deed (next-says s h e.lane e.deed q.1) (opens-enter l c o a e j).1
    ]

pub on-object : (x : Option Issue) (o i m : ℕ) → is_on x o i m ≡ true → object_of x ≡ o
on-object None o i m e = cc
on-object (Some y) o i m e = ap number_or_zero (number-is o y.object (and-left (is_number o y.object) (y.iface == i && y.method == m) e))

-- ---- an object of a source was made, and is not object 0

later-number : (n k o : ℕ) → k ≡ n + 1 → o ≡ 0 → (k == o) ≡ false
later-number n k o e p = false_from_ne_true (k == o) (λ t. let z : k ≡ o = eqb-true k o t in omega (arith, z, e, p))

never-made : (n m b : ℕ) (d : Deed) (x : Option Made) → FineBy n m b d → x ≡ None → made_or (makes d) 0 x ≡ None
never-made n m b (deed.Made (Some k) (Some a) c i hr) x f p = ap (λ (t : Bool). cond t (Some (record { object = k; apartment = a; class = asked_number c })) x) (later-number n k 0 f.0 refl) ∙ p
never-made n m b (deed.Made (Some k) None c i hr) x f p = p
never-made n m b (deed.Made None a c i hr) x f p = p
never-made n m b _ x f p = p

zero-not-made : (s : Scenario) (h : List Entry) → Formed s → legal s h → making h 0 ≡ None
zero-not-made s [] f q = refl
zero-not-made s (e ∷ h) f q = never-made (objects h) (faces s) _ e.deed (making h 0) (fine-next s h e f q) (zero-not-made s h f q.0)

pub not-zero : (s : Scenario) (h : List Entry) (o i : ℕ) → Formed s → legal s h → IsSource s (class_of h o) i → o ≡ 0 → ⊥
not-zero s h o i f q p z =
    let k : class_of h o ≡ 0 = ap (class_of h) z ∙ ap (λ (x : Option Made). number_or_zero (option_map (λ (m : Made). m.class) x)) (zero-not-made s h f q) in
    nothing (subst (λ (n : ℕ). class_at s.classes n ≡ Some p.declaration) k p.there)
  where
    nothing : None ≡ Some p.declaration → ⊥
    nothing e = cc

pub record Issued (h : List Entry) (c o : ℕ) : Type 0 where
  pub of : Issue
  pub is : issue h c ≡ Some of
  pub object : of.object ≡ Some o

issued-by : (x : Option Issue) (o : ℕ) → (o ≡ 0 → ⊥) → object_of x ≡ o → (y : Issue) × ((x ≡ Some y) × (y.object ≡ Some o))
issued-by None o n e = absurd (n (sym e))
issued-by (Some y) o n e = (y, (refl, by-number y.object e))
  where
    by-number : (z : Option ℕ) → number_or_zero z ≡ o → z ≡ Some o
    by-number None e = absurd (n (sym e))
    by-number (Some k) e = ap (λ (j : ℕ). Some j) e

pub issued-on : (s : Scenario) (h : List Entry) (l c o a i : ℕ) → Formed s → legal s h → IsSource s (class_of h o) i → Among (Enters c o a) (openers h l) → Issued h c o
issued-on s h l c o a i f q p m =
    let z : (y : Issue) × ((issue h c ≡ Some y) × (y.object ≡ Some o)) = issued-by (issue h c) o (not-zero s h o i f q p) (open-target s h l c o a q m) in
    record { of = z.0; is = z.1.0; object = z.1.1 }

-- ---- the body of a call

pub data Runs (s : Scenario) (k i : ℕ) (y : Issue) : Type 0 where
  advises : y.iface ≡ i → y.method ≡ advise → Runs s k i y
  unadvises : y.iface ≡ i → y.method ≡ unadvise → Runs s k i y
  fires : y.iface ≡ i → y.method ≡ fire → Runs s k i y
  others : ((m : ℕ) → m < 3 → (y.iface == i && y.method == m) ≡ false) → body_of s.classes k y.iface y.method ≡ no_body → Runs s k i y

none-found : (s : Scenario) (k j m : ℕ) (c : Class) → class_at s.classes k ≡ Some c → class_body c j m ≡ None → body_of s.classes k j m ≡ no_body
none-found s k j m c p q =
    ap (λ (o : Option Class). unwrap_or (option_and_then (λ d. class_body d j m) o) no_body) p
    ∙ ap (λ (o : Option (List Stmt)). unwrap_or o no_body) q

three : (n m : ℕ) → m < 3 → suc (suc (suc n)) ≡ m → ⊥
three n m h e = omega (arith, h, e)

runs-own : (s : Scenario) (k i : ℕ) (y : Issue) (p : IsSource s k i) → y.iface ≡ i → (n : ℕ) → y.method ≡ n → Runs s k i y
runs-own s k i y p e zero z = advises e z
runs-own s k i y p e (suc zero) z = unadvises e z
runs-own s k i y p e (suc (suc zero)) z = fires e z
runs-own s k i y p e (suc (suc (suc n))) z = others
    (λ m h. false_from_ne_true (y.iface == i && y.method == m) (λ t. three n m h (sym z ∙ eqb-true y.method m (and-right (y.iface == i) (y.method == m) t))))
    (none-found s k y.iface y.method p.declaration p.there (p.source.bodies y.iface y.method ∙ ap₂ (λ (j n : ℕ). source_body i j n) e z ∙ own-body i (suc (suc (suc n)))))

pub runs : (s : Scenario) (k i : ℕ) (y : Issue) → IsSource s k i → Runs s k i y
runs s k i y p =
    elim (y.iface == i) as (λ t. (y.iface == i) ≡ t → Runs s k i y) [
      | true ↦ λ e. runs-own s k i y p (eqb-true y.iface i e) y.method refl
      | false ↦ λ e. others (λ m h. ap (λ (t : Bool). t && y.method == m) e)
          (none-found s k y.iface y.method p.declaration p.there (p.source.bodies y.iface y.method ∙ ap (λ (t : Bool). cond t (point_body y.method) None) e))
    ] refl

pub on-method : (h : List Entry) (c o i m : ℕ) (y : Issue) (b : Bool) → issue h c ≡ Some y → y.object ≡ Some o → (y.iface == i && y.method == m) ≡ b → is_on (issue h c) o i m ≡ b
on-method h c o i m y b e p z =
    ap (λ (x : Option Issue). is_on x o i m) e ∙ ap (λ (x : Option ℕ). is_number o x && (y.iface == i && y.method == m)) p
    ∙ ap (λ (t : Bool). t && (y.iface == i && y.method == m)) (same-number o) ∙ z

pub at-method : (i m n : ℕ) (y : Issue) → y.iface ≡ i → y.method ≡ n → (y.iface == i && y.method == m) ≡ (n == m)
at-method i m n y p q = ap (λ (j : ℕ). j == i && y.method == m) p ∙ ap (λ (t : Bool). t && y.method == m) (same-number i) ∙ ap (λ (j : ℕ). j == m) q

-- ---- the methods of a source

pub source-method : (s : Scenario) (k i m : ℕ) → IsSource s k i → method_at s.classes i m ≡ slice_get point_methods m
source-method s k i m p =
    ap (λ (o : Option Interface). option_and_then (λ x. slice_get x.methods m) o) p.source.declared
    ∙ ap (λ (ms : List Method). slice_get ms m) p.source.is_point.methods

-- ---- what stands above a body

abbrev pub Above : Opener → List Opener → Type 0
Above x (Enters c o a ∷ os) = (d : ℕ) × (x ≡ Waits d)
Above x _ = Unit {0}

abbrev pub Shaped : List Opener → Type 0
Shaped [] = Unit {0}
Shaped (x ∷ os) = Above x os × Shaped os

shaped-rest : (os : List Opener) → Shaped os → Shaped (without_first os)
shaped-rest [] p = p
shaped-rest (x ∷ os) p = p.1

opened-shaped : (e : Effect) (os : List Opener) → ((x : Opener) → e ≡ Opens x → Above x os) → Shaped os → Shaped (opened e os)
opened-shaped (Opens x) os f p = (f x refl, p)
opened-shaped (Closes k) os f p = shaped-rest os p
opened-shaped Keeps os f p = p

reenters-not : (s : Scenario) (h : List Entry) (l c o a : ℕ) (os : List Opener) (k x b : ℕ) (t : Option ℕ) (vs : List Value) → legal s (record { lane = l; deed = deed.Enter k x b t vs } ∷ h) → openers h l ≡ Enters c o a ∷ os → ⊥
reenters-not s h l c o a os k x b t vs q p =
    not-body s h l k c o a t os (route_of (issue h k)) (is_sta (named h (target h k))) (legal-reentry s (record { lane = l; deed = deed.Enter k x b t vs } ∷ h) q).1 p

above-body : (s : Scenario) (h : List Entry) (l c o a : ℕ) (os : List Opener) (d : Deed) (x : Opener) → Formed s → legal s (record { lane = l; deed = d } ∷ h) → openers h l ≡ Enters c o a ∷ os → effect d ≡ Opens x → (k : ℕ) × (x ≡ Waits k)
above-body s h l c o a os (deed.Pump n) x f q p e = absurd (subst (λ (ys : List Opener). MadeOnTop (maker (deed.Pump n)) ys) p (legal-on-top s (record { lane = l; deed = deed.Pump n } ∷ h) f q).1)
above-body s h l c o a os (deed.Out k y i m r cause bytes) x f q p e = (k, same e)
  where
    same : Opens (Waits k) ≡ Opens x → x ≡ Waits k
    same e = cc
above-body s h l c o a os (deed.Enter k y b t vs) x f q p e = absurd (reenters-not s h l c o a os k y b t vs q p)
above-body s h l c o a os deed.EndPump x f q p e = cc
above-body s h l c o a os (deed.Back k hr v) x f q p e = cc
above-body s h l c o a os (deed.Leave k hr v bytes) x f q p e = cc
above-body s h l c o a os _ x f q p e = cc

above-any : (s : Scenario) (h : List Entry) (l : ℕ) (d : Deed) (x : Opener) (os : List Opener) → Formed s → legal s (record { lane = l; deed = d } ∷ h) → openers h l ≡ os → effect d ≡ Opens x → Above x os
above-any s h l d x [] f q p e = tt
above-any s h l d x (Enters c o a ∷ os) f q p e = above-body s h l c o a os d x f q p e
above-any s h l d x (Pumps n ∷ os) f q p e = tt
above-any s h l d x (Waits n ∷ os) f q p e = tt

pub legal-shaped : (s : Scenario) (h : List Entry) (l : ℕ) → Formed s → legal s h → Shaped (openers h l)
legal-shaped s [] l f q = tt
legal-shaped s (e ∷ h) l f q =
    opened-shaped (effect_on l e) (openers h l)
    (λ x z. let w : (e.lane ≡ l) × (effect e.deed ≡ Opens x) = opens-own l e x z in
    subst (λ (j : ℕ). Above x (openers h j)) w.0 (above-any s h e.lane e.deed x (openers h e.lane) f q refl w.1))
    (legal-shaped s h l f q.0)

pub shape-above : (h : List Entry) (l c o a : ℕ) (x : Opener) (os : List Opener) → Shaped (openers h l) → openers h l ≡ x ∷ (Enters c o a ∷ os) → (d : ℕ) × (x ≡ Waits d)
shape-above h l c o a x os p e = (subst Shaped e p).0
