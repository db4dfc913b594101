-- The call of an open Enter was issued on the Enter's object, and was not refused; so the class of that object is declared.
use Rattle.std.proofs.Common.{subst, sym, ap, ◌∙◌, inl, inr, arith}
use Rattle.std.proofs.lemmas.List.Elements.{All-cons, All-head, All-nil}
use Rattle.std.specs.Prelude.{◌≡◌, refl, ℕ, ◌≤◌, true, false, cond, ◌==◌, List, [], ◌∷◌, Option, Some, None, is_some, is_none, option_map, All, IsSome}
use Rattle.com_base.specs.declared.value.RefValue.{RefValue}
use Rattle.com_base.specs.declared.value.Value.{Value}
use Rattle.com_body.specs.declared.actions.Action.TheVariants as action
use Rattle.com_body.specs.declared.operands.Destination.{Destination}
use Rattle.com_classes.specs.declared.classes.Class.{Class}
use Rattle.com_classes.specs.Lookups.{class_at, class_has}
use Rattle.com_model.specs.declared.deeds.Deed.{Deed}
use Rattle.com_model.specs.declared.deeds.Deed.TheVariants as deed
use Rattle.com_model.specs.declared.deeds.Entry.{Entry}
use Rattle.com_model.specs.declared.deeds.Route.{Route}
use Rattle.com_model.specs.declared.deeds.Route.TheVariants as route
use Rattle.com_model.specs.declared.keeps.Ending.{Ending}
use Rattle.com_model.specs.declared.keeps.Issue.{Issue}
use Rattle.com_model.specs.declared.keeps.Opener.{Opener}
use Rattle.com_model.specs.declared.keeps.Opener.TheVariants.{Pumps, Waits, Enters}
use Rattle.com_model.specs.declared.scenario.Scenario.{Scenario}
use Rattle.com_model.specs.Lists.{first, number_or_zero}
use Rattle.com_model.specs.Openers.{Opens, effect, effect_on, openers}
use Rattle.com_model.specs.Objects.{makes, objects, class_of}
use Rattle.com_model.specs.Calls.{issues, issue_or, issue, calls, object_of, target, route_of, is_post}
use Rattle.com_model.specs.Endings.{ending}
use Rattle.com_model.specs.Frames.{act}
use Rattle.com_model.specs.Deeds.{route_to}
use Rattle.com_model.specs.Formed.{Formed}
use Rattle.com_model.specs.Rules.{legal}
use Rattle.com_model.specs.Sight.{sight}
use Rattle.com_model.proofs.Kept.{legal-kept, more-objects}
use Rattle.com_model.proofs.Onces.{InRange, Names, call_named, named-in-range}
use Rattle.com_model.proofs.Scenes.{GoodOpeners}
use Rattle.com_laws_balance.proofs.Answered.{issued-some, refused-ends}
use Rattle.com_laws_balance.proofs.Counts.{Among}
use Rattle.com_laws_balance.proofs.Directs.{issue-stays}
use Rattle.com_laws_balance.proofs.Makings.{same-class}
use Rattle.com_laws_balance.proofs.Says.{OutSays, Says, next-says}
use Rattle.com_laws_balance.proofs.Stacks.{among-after, opens-enter}
use Rattle.com_laws_balance.proofs.Steps.{made-or-new}
use Rattle.com_laws_balance.proofs.Tops.{Tops, issue-past, next-tops, not-enter}
use Rattle.com_laws_values.specs.Held.{HeldBy, IsDeclared, ValueBy}
use Rattle.com_laws_values.proofs.Packets.{ActBy}
use Rattle.com_laws_values.proofs.Laws.{acts-held, legal-holds}
use Rattle.com_laws_ranges.specs.Works.{HasWork}

-- ---- what a call is issued on

-- An object that was made, of a declared class.
record Declared (s : Scenario) (h : List Entry) (o : ℕ) : Type 0 where
  made : o ≤ objects h
  class : IsSome (class_at s.classes (class_of h o))

-- A call that was issued and not refused.
abbrev Goes : Option Issue → Type 0
Goes i = route_of i ≡ route.Refused → ⊥

has-some : (o : Option Class) (i : ℕ) → elim o [ None ↦ false | Some c ↦ class_has c i ] ≡ true → IsSome o
has-some None i e = cc
has-some (Some c) i e = refl

at-most : (x y z : ℕ) → x ≤ y → y ≤ z → x ≤ z
at-most x y z p q = omega (arith, p, q)

declared-later : (s : Scenario) (h : List Entry) (e : Entry) (o : ℕ) → Formed s → legal s (e ∷ h) → Declared s h o → Declared s (e ∷ h) o
declared-later s h e o f q p = record {
  made = at-most o (objects h) (objects (e ∷ h)) p.made (more-objects (makes e.deed) (objects h));
  class = subst (λ (k : ℕ). IsSome (class_at s.classes k)) (sym (same-class s h e o f q p.made)) p.class;
}

call-held : (s : Scenario) (h : List Entry) (l : ℕ) (held : Option RefValue) (i m : ℕ) (args : List Value) (to : Destination) → Formed s → legal s h → act s h l ≡ Some (action.Call held i m args to) → HeldBy (IsDeclared s h) held
call-held s h l held i m args to f q e =
    let p : HeldBy (IsDeclared s h) held × All (ValueBy (IsDeclared s h)) args = subst (ActBy (IsDeclared s h)) e (acts-held s h f (legal-holds s h f q) l) in
    p.0

held-declared : (s : Scenario) (h : List Entry) (l : ℕ) (held : Option RefValue) (o : Option ℕ) (r : Route) → HeldBy (IsDeclared s h) held → o ≡ option_map (λ (x : RefValue). x.object) held → r ≡ route_to (sight s h) l held → (r ≡ route.Refused → ⊥) → Declared s h (number_or_zero o)
held-declared s h l None o r p e q n = absurd (n q)
held-declared s h l (Some x) o r p e q n =
    subst (λ (y : Option ℕ). Declared s h (number_or_zero y)) (sym e)
    (record { made = p.0; class = has-some (class_at s.classes (class_of h x.object)) x.iface p.1 })

out-declared : (s : Scenario) (h : List Entry) (l i m : ℕ) (o : Option ℕ) (r : Route) (bytes : Option (List ℕ)) → Formed s → legal s h → OutSays s (sight s h) l i m o r bytes → (r ≡ route.Refused → ⊥) → Declared s h (number_or_zero o)
out-declared s h l i m o r bytes f q z n =
    elim z.homed as (λ _. Declared s h (number_or_zero o)) [
      | inl e ↦ absurd (n e)
      | inr p ↦ held-declared s h l z.held o r (call-held s h l z.held i m z.args z.to f q z.acts) z.object p.1 n
    ]

new-declared : (s : Scenario) (h : List Entry) (l c : ℕ) (d : Deed) → Formed s → legal s h → Says s (sight s h) l d → issue h c ≡ None → Goes (issue_or (issues l d) c (issue h c)) → Declared s (record { lane = l; deed = d } ∷ h) (object_of (issue_or (issues l d) c (issue h c)))
new-declared s h l c (deed.Out k o i m r cause bytes) f q z e =
    let new : Issue = record { call = k; lane = l; object = o; iface = i; method = m; route = r; cause = cause } in
    elim (k == c) as (λ t. Goes (cond t (Some new) (issue h c)) → Declared s (record { lane = l; deed = deed.Out k o i m r cause bytes } ∷ h) (object_of (cond t (Some new) (issue h c)))) [
      | true ↦ λ n. let p : Declared s h (number_or_zero o) = out-declared s h l i m o r bytes f q z n in record { made = p.made; class = p.class }
      | false ↦ λ n. absurd (n (ap route_of e))
    ]
new-declared s h l c _ f q z e = λ n. absurd (n (ap route_of e))

-- Each call that goes was issued on an object of a declared class.
legal-declared : (s : Scenario) (h : List Entry) → Formed s → legal s h → (c : ℕ) → Goes (issue h c) → Declared s h (target h c)
legal-declared s [] f q c n = absurd (n refl)
legal-declared s (e ∷ h) f q c n =
    elim (made-or-new (calls h) c) as (λ _. Declared s (e ∷ h) (target (e ∷ h) c)) [
      | inl w ↦ let same : issue (e ∷ h) c ≡ issue h c = issue-stays s h e c q w in
          let p : Declared s h (target h c) = legal-declared s h f q.0 c (λ r. n (ap route_of same ∙ r)) in
          subst (λ (i : Option Issue). Declared s (e ∷ h) (object_of i)) (sym same) (declared-later s h e (target h c) f q p)
      | inr w ↦ new-declared s h e.lane c e.deed f q.0 (next-says s h e.lane e.deed q.1) (issue-past s h c q.0 w) n
    ]

-- ---- what an open Enter says

-- The call of an open Enter goes, and is on the Enter's object.
record Open (h : List Entry) (c o : ℕ) : Type 0 where
  on : target h c ≡ o
  goes : Goes (issue h c)

open-low : (n k a : ℕ) (os : List Opener) (c o b : ℕ) → GoodOpeners n k a os → Among (Enters c o b) os → c ≤ k
open-low n k a [] c o b g m = absurd m
open-low n k a (Enters j x y ∷ os) c o b g (inl e) = subst (λ (z : ℕ). z ≤ k) (call-of e) g.0.0
  where
    call-of : Enters j x y ≡ Enters c o b → j ≡ c
    call-of e = cc
open-low n k a (Enters j x y ∷ os) c o b g (inr m) = open-low n k a os c o b g.1 m
open-low n k a (Pumps j ∷ os) c o b g (inl e) = absurd (cc)
open-low n k a (Pumps j ∷ os) c o b g (inr m) = open-low n k a os c o b g m
open-low n k a (Waits j ∷ os) c o b g (inl e) = absurd (cc)
open-low n k a (Waits j ∷ os) c o b g (inr m) = open-low n k a os c o b g m

open-later : (s : Scenario) (h : List Entry) (e : Entry) (c o : ℕ) → legal s (e ∷ h) → c ≤ calls h → Open h c o → Open (e ∷ h) c o
open-later s h e c o q w p =
    let same : issue (e ∷ h) c ≡ issue h c = issue-stays s h e c q w in
    record { on = ap object_of same ∙ p.on; goes = λ r. p.goes (sym (ap route_of same) ∙ r) }

post-goes : (r : Route) → is_post r ≡ true → r ≡ route.Refused → ⊥
post-goes route.Refused p e = cc
post-goes route.Direct p e = cc
post-goes route.Switch p e = cc
post-goes route.Post p e = cc

not-both : (x : Option Ending) → is_none x ≡ true → is_some x ≡ true → ⊥
not-both None p q = cc
not-both (Some y) p q = cc

-- A refused call is answered from its issue on, and an answered one is not entered.
enter-goes : (s : Scenario) (h : List Entry) (l c o a : ℕ) (t : Option ℕ) (vs : List Value) → legal s h → InRange (calls h) c → Tops (sight s h) l (deed.Enter c o a t vs) → Goes (issue h c)
enter-goes s h l c o a t vs q n (inl p) = absurd (not-enter (sight s h) l c o a t vs p)
enter-goes s h l c o a t vs q n (inr (inl p)) = λ r. not-both (ending s h c) p.2 ((refused-ends s h c q r).1 (issued-some s h c q n.0 n.1))
enter-goes s h l c o a t vs q n (inr (inr p)) = post-goes (route_of (issue h c)) p.0

enter-open : (s : Scenario) (h : List Entry) (l c o a : ℕ) (d : Deed) → legal s h → Names (InRange (calls (record { lane = l; deed = d } ∷ h))) (call_named d) → Says s (sight s h) l d → Tops (sight s h) l d → effect d ≡ Opens (Enters c o a) → Open (record { lane = l; deed = d } ∷ h) c o
enter-open s h l c o a (deed.Enter k x b t vs) q n z p e =
    let low : k ≤ calls (record { lane = l; deed = deed.Enter k x b t vs } ∷ h) = n.1 in
    let goes : Goes (issue h k) = enter-goes s h l k x b t vs q (n.0, omega (arith, low)) p in
    record {
      on = subst (λ (j : ℕ). object_of (issue h j) ≡ o) (call-of e) (sym z.0 ∙ object-is e);
      goes = subst (λ (j : ℕ). Goes (issue h j)) (call-of e) goes;
    }
  where
    call-of : Opens (Enters k x b) ≡ Opens (Enters c o a) → k ≡ c
    call-of e = cc

    object-is : Opens (Enters k x b) ≡ Opens (Enters c o a) → x ≡ o
    object-is e = cc
enter-open s h l c o a _ q n z p e = absurd (cc)

legal-open : (s : Scenario) (h : List Entry) → Formed s → legal s h → (l c o a : ℕ) → Among (Enters c o a) (openers h l) → Open h c o
legal-open s [] f q l c o a m = absurd m
legal-open s (e ∷ h) f q l c o a m =
    elim (among-after c o a (effect_on l e) (openers h l) m) as (λ _. Open (e ∷ h) c o) [
      | inl j ↦ open-later s h e c o q (open-low _ _ _ (openers h l) c o a ((legal-kept s h f q.0).opens l) j) (legal-open s h f q.0 l c o a j)
      | inr j ↦ enter-open s h e.lane c o a e.deed q.0 (named-in-range s h e q) (next-says s h e.lane e.deed q.1) (next-tops s h e q) (opens-enter l c o a e j).1
    ]

-- ---- the law

issue-there : (i : Option Issue) → Goes i → IsSome i
issue-there None n = absurd (n refl)
issue-there (Some x) n = refl

open-work : (s : Scenario) (h : List Entry) (l c o a : ℕ) → Formed s → legal s h → Among (Enters c o a) (openers h l) → HasWork s h (Enters c o a)
open-work s h l c o a f q m =
    let p : Open h c o = legal-open s h f q l c o a m in
    let d : Declared s h (target h c) = legal-declared s h f q c p.goes in
    (issue-there (issue h c) p.goes, subst (λ (k : ℕ). IsSome (class_at s.classes (class_of h k))) p.on d.class)

each-work : (s : Scenario) (h : List Entry) (os : List Opener) → ((c o a : ℕ) → Among (Enters c o a) os → HasWork s h (Enters c o a)) → All (HasWork s h) os
each-work s h [] f = All-nil (HasWork s h)
each-work s h (Enters c o a ∷ os) f = All-cons (HasWork s h) (Enters c o a) os (f c o a (inl refl)) (each-work s h os (λ k x b m. f k x b (inr m)))
each-work s h (Pumps n ∷ os) f = All-cons (HasWork s h) (Pumps n) os tt (each-work s h os (λ k x b m. f k x b (inr m)))
each-work s h (Waits c ∷ os) f = All-cons (HasWork s h) (Waits c) os tt (each-work s h os (λ k x b m. f k x b (inr m)))

pub works : (s : Scenario) (h : List Entry) (l : ℕ) → Formed s → legal s h → All (HasWork s h) (openers h l)
works s h l f q = each-work s h (openers h l) (λ c o a m. open-work s h l c o a f q m)

-- The innermost opener of a lane.
pub first-work : (s : Scenario) (h : List Entry) (os : List Opener) (c o a : ℕ) → All (HasWork s h) os → first os ≡ Some (Enters c o a) → HasWork s h (Enters c o a)
first-work s h [] c o a p e = absurd (cc)
first-work s h (x ∷ os) c o a p e = subst (HasWork s h) (same x (Enters c o a) e) (All-head (HasWork s h) x os p)
  where
    same : (x y : Opener) → Some x ≡ Some y → x ≡ y
    same x y e = cc
