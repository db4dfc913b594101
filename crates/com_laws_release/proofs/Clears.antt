-- What is dead, nothing holds directly and nothing enters: the tests of places. Nothing that an entry puts at a place in an
-- apartment that owns a dead object is a reference to it.
use Rattle.std.proofs.Common.{subst, sym, ap, ◌∙◌, ◌⊎◌, inl, inr, eqb-true, arith}
use Rattle.std.specs.Prelude.{◌≡◌, refl, ℕ, zero, suc, ◌+◌, ◌≤◌, Bool, true, false, cond, ◌==◌, List, ◌∷◌, Option, Some, None, All}
use Rattle.com_base.specs.declared.value.RefValue.{RefValue}
use Rattle.com_body.specs.declared.operands.Asked.{Asked}
use Rattle.com_body.specs.declared.operands.Asked.TheVariants as asked
use Rattle.com_body.specs.declared.actions.Action.TheVariants as action
use Rattle.com_model.specs.declared.deeds.Deed.{Deed}
use Rattle.com_model.specs.declared.deeds.Deed.TheVariants as deed
use Rattle.com_model.specs.declared.deeds.Entry.{Entry}
use Rattle.com_model.specs.declared.scenario.Scenario.{Scenario}
use Rattle.com_model.specs.Answers.{is_S_OK}
use Rattle.com_model.specs.Lists.{number_or_zero, is_number}
use Rattle.com_model.specs.Tables.{LaneSort, Thread, Host, Pool, NoLane, lane_sort, threads}
use Rattle.com_model.specs.Openers.{effect_on, openers}
use Rattle.com_model.specs.declared.keeps.Opener.{Opener}
use Rattle.com_model.specs.declared.keeps.Opener.TheVariants.{Enters}
use Rattle.com_model.specs.Apartments.{home_effect, home_after, thread_home, home_by_sort, home}
use Rattle.com_model.specs.Objects.{objects, agile, named, owns, makes, class_of}
use Rattle.com_model.specs.Calls.{issue}
use Rattle.com_model.specs.Frames.{scene, Actor, Body, Script, Nobody, actor, actor_in, taken_in, reference, act, outcome, unless_over, action_of}
use Rattle.com_model.specs.Places.{ground}
use Rattle.com_model.specs.Books.{books}
use Rattle.com_model.specs.Deeds.{object_in}
use Rattle.com_model.specs.Sight.{Sight, sight}
use Rattle.com_model.specs.Rules.{legal}
use Rattle.com_model.specs.Formed.{Formed}
use Rattle.com_model.proofs.Fines.{FineBy}
use Rattle.com_model.proofs.Scenes.{faces}
use Rattle.com_laws_balance.proofs.Counts.{Among, PlaceOf, of_script, of_body, of_link}
use Rattle.com_laws_balance.proofs.Secures.{outstanding-live}
use Rattle.com_laws_balance.proofs.Carries.{HeldBy, ActionBy}
use Rattle.com_laws_balance.proofs.Moves.{SceneBy, TestOf, Shares, OutBy, held-more, links-more, outcome-by, out-action}
use Rattle.com_model.proofs.Kept.{legal-kept, more-objects}
use Rattle.com_laws_balance.proofs.Stacks.{among-after, opens-enter}
use Rattle.com_laws_balance.proofs.Makings.{OwnedAt, open-owned, fine-next, same-named, same-agile}
use Rattle.com_laws_balance.proofs.Says.{Says, next-says}
use Rattle.com_laws_balance.proofs.Homes.{home-other, home-own, held-all}
use Rattle.com_laws_balance.proofs.Bases.{S0, B0, K0, I_of, L_of, actor-is, actor-orderly, top-among, open-made}
use Rattle.com_laws_balance.proofs.Steps.{base-before, cells-empty, legal-base, made-or-new, same-number, ActionOf, action-from}
use Rattle.com_laws_balance.proofs.Arguments.{InSlots, own-slots, acts-own}
use Rattle.com_laws_balance.proofs.Pending.{apartment_of}
use Rattle.com_laws_balance.proofs.Answered.{lane-low}
use Rattle.com_laws_balance.proofs.Tests.{EitherOpen, in-slots-by, enter-fresh, same-apartment}
use Rattle.com_laws_release.proofs.Asked.{AskedOf, next-asked}

-- What was made and is not connected, is at no place of an apartment that owns it, and is not entered.
pub record Dead (s : Scenario) (h : List Entry) (o : ℕ) : Type 0 where
  pub made : o ≤ objects h
  pub not_live : (books s h).live o ≡ false
  pub no_place : (a : ℕ) (r : RefValue) → PlaceOf s (ground s h) (scene s h) a r → r.object ≡ o → owns s h o a ≡ true → ⊥
  pub not_open : (l c a : ℕ) → Among (Enters c o a) (openers h l) → ⊥

-- In the apartment a reference is not to this object, or the apartment does not own it.
abbrev pub Clear : Scenario → List Entry → (gone apartment : ℕ) → RefValue → Type 0
Clear s h gone a r = r.object ≡ gone → owns s h gone a ≡ true → ⊥

-- A reference in a script, in a body that is open before or after the entry, and in a link of an object.
abbrev pub S2 : Scenario → List Entry → ℕ → Entry → ℕ → RefValue → Type 0
S2 s h gone e l r = l ≤ threads s → (a : ℕ) → home s (e ∷ h) l ≡ Some a → Clear s h gone a r

abbrev pub B2 : Scenario → List Entry → ℕ → Entry → ℕ → RefValue → Type 0
B2 s h gone e c r = (l x b : ℕ) → EitherOpen h e l c x b → Clear s h gone b r

abbrev pub K2 : Scenario → List Entry → ℕ → Entry → ℕ → RefValue → Type 0
K2 s h gone e x r = (agile s (e ∷ h) x ≡ false) × (x ≤ objects (e ∷ h) → Clear s h gone (named (e ∷ h) x) r)

-- ---- what was at a place before

is-home : (a : ℕ) (x : Option ℕ) → x ≡ Some a → is_number a x ≡ true
is-home a x e = subst (λ (y : Option ℕ). is_number a y ≡ true) (sym e) (same-number a)

not-both : (b : Bool) → b ≡ false → b ≡ true → ⊥
not-both b p q = cc

-- ---- homes before and after

sort-init : (sort : LaneSort) (b a : ℕ) (x : Option ℕ) → home_by_sort sort x ≡ Some b → home_by_sort sort (Some b) ≡ Some a → home_by_sort sort x ≡ Some a
sort-init Thread b a x p e = p ∙ e
sort-init Host b a x p e = e
sort-init Pool b a x p e = e
sort-init NoLane b a x p e = e

sort-end : (sort : LaneSort) (a : ℕ) (x : Option ℕ) → home_by_sort sort None ≡ Some a → home_by_sort sort x ≡ Some a
sort-end Thread a x e = cc
sort-end Host a x e = e
sort-end Pool a x e = e
sort-end NoLane a x e = e

sort-again : (sort : LaneSort) (a : ℕ) (x : Option ℕ) → home_by_sort sort (home_by_sort sort x) ≡ Some a → home_by_sort sort x ≡ Some a
sort-again Thread a x e = e
sort-again Host a x e = e
sort-again Pool a x e = e
sort-again NoLane a x e = e

own-before : (s : Scenario) (v : Sight) (sort : LaneSort) (l a : ℕ) (d : Deed) (x : Option ℕ) → v.home l ≡ home_by_sort sort x → Says s v l d → home_by_sort sort (home_after (home_effect d) x) ≡ Some a → (home_by_sort sort x ≡ Some a) ⊎ (home_by_sort sort x ≡ None)
own-before s v sort l a (deed.Init m b hr) x w (inl z) e = inr (sym w ∙ z)
own-before s v sort l a (deed.Init m b hr) x w (inr z) e = inl (sort-init sort b a x (sym w ∙ z) e)
own-before s v sort l a (deed.Uninit y zero) x w z e = inl (sort-end sort a x e)
own-before s v sort l a (deed.Uninit y (suc n)) x w z e = inl (sort-again sort a x (subst (λ (u : Option ℕ). home_by_sort sort u ≡ Some a) (z ∙ w) e))
own-before s v sort l a _ x w z e = inl e

-- A lane's home after an entry was its home before, or it had none.
home-before : (s : Scenario) (h : List Entry) (e : Entry) (l a : ℕ) → legal s (e ∷ h) → home s (e ∷ h) l ≡ Some a → (home s h l ≡ Some a) ⊎ (home s h l ≡ None)
home-before s h e l a q p =
    elim (e.lane == l) as (λ t. (e.lane == l) ≡ t → (home s h l ≡ Some a) ⊎ (home s h l ≡ None)) [
      | true ↦ λ z. own-before s (sight s h) (lane_sort s l) l a e.deed (thread_home h l) refl (subst (λ (k : ℕ). Says s (sight s h) k e.deed) (eqb-true e.lane l z) (next-says s h e.lane e.deed q.1)) (sym (home-own s h e l z) ∙ p)
      | false ↦ λ z. inl (sym (home-other s h e l z) ∙ p)
    ] refl

-- ---- the scene before

script-clear : (s : Scenario) (h : List Entry) (gone : ℕ) (e : Entry) (l : ℕ) (r : RefValue) → Formed s → legal s (e ∷ h) → Dead s h gone → InSlots ((scene s h).scripts l).slots r → S2 s h gone e l r
script-clear s h gone e l r f q w i = λ low a z.
    elim (home-before s h e l a q z) as (λ _. Clear s h gone a r) [
      | inl y ↦ w.no_place a r (of_script l i.index low (is-home a (home s h l) y) i.is)
      | inr y ↦ absurd (in-slots-by (S0 s h l) ((scene s h).scripts l).slots r ((legal-base s h f q.0).frames.scripts l).slots i y)
    ]

body-open : (s : Scenario) (h : List Entry) (e : Entry) (c l x b : ℕ) (r : RefValue) → Formed s → legal s (e ∷ h) → InSlots ((scene s h).bodies c).slots r → EitherOpen h e l c x b → Among (Enters c x b) (openers h l)
body-open s h e c l x b r f q i (inl m) = m
body-open s h e c l x b r f q i (inr m) =
    elim (among-after c x b (effect_on l e) (openers h l) m) as (λ _. Among (Enters c x b) (openers h l)) [
      | inl p ↦ p
      | inr p ↦ absurd (in-slots-by (B0 h c) ((scene s h).bodies c).slots r ((legal-base s h f q.0).frames.bodies c).slots i (enter-fresh s h e.lane c x b e.deed q.1 (opens-enter l c x b e p).1))
    ]

body-clear : (s : Scenario) (h : List Entry) (gone : ℕ) (e : Entry) (c : ℕ) (r : RefValue) → Formed s → legal s (e ∷ h) → Dead s h gone → InSlots ((scene s h).bodies c).slots r → B2 s h gone e c r
body-clear s h gone e c r f q w i = λ l x b m.
    let p : Among (Enters c x b) (openers h l) = body-open s h e c l x b r f q i m in
    w.no_place b r (of_body l c x i.index (lane-low s h l (Enters c x b) q.0 p) p i.is)

link-clear : (s : Scenario) (h : List Entry) (gone : ℕ) (e : Entry) (x : ℕ) (r : RefValue) → Formed s → legal s (e ∷ h) → Dead s h gone → x ≤ objects h → InSlots ((scene s h).cells x).links r → K2 s h gone e x r
link-clear s h gone e x r f q w low i = (
  in-slots-by (K0 s (e ∷ h) x) ((scene s h).cells x).links r ((base-before s h e f q (legal-base s h f q.0)).links x) i,
  λ _. subst (λ (a : ℕ). Clear s h gone a r) (sym (same-named s h e x f q low))
      (w.no_place (named h x) r (of_link x i.index low refl i.is)),
)

pub before-clear : (s : Scenario) (h : List Entry) (gone : ℕ) (e : Entry) → Formed s → legal s (e ∷ h) → Dead s h gone → SceneBy (S2 s h gone e) (B2 s h gone e) (K2 s h gone e) (scene s h)
before-clear s h gone e f q w = record {
  scripts = λ l. record { registers = ((legal-base s h f q.0).frames.scripts l).registers; slots = links-more (InSlots ((scene s h).scripts l).slots) (S2 s h gone e l) ((scene s h).scripts l).slots (λ r i. script-clear s h gone e l r f q w i) (own-slots ((scene s h).scripts l).slots) };
  bodies = λ c. record { registers = ((legal-base s h f q.0).frames.bodies c).registers; slots = links-more (InSlots ((scene s h).bodies c).slots) (B2 s h gone e c) ((scene s h).bodies c).slots (λ r i. body-clear s h gone e c r f q w i) (own-slots ((scene s h).bodies c).slots) };
  links = λ x. elim (made-or-new (objects h) x) as (λ _. All (HeldBy (K2 s h gone e x)) ((scene s h).cells x).links) [
    | inl p ↦ links-more (InSlots ((scene s h).cells x).links) (K2 s h gone e x) ((scene s h).cells x).links (λ r i. link-clear s h gone e x r f q w p i) (own-slots ((scene s h).cells x).links)
    | inr p ↦ cells-empty (K2 s h gone e x) ((scene s h).cells x) ((legal-kept s h f q.0).scene.no_cells x p)
  ];
}

-- ---- what is taken

later : (n o k : ℕ) → o ≡ n + 1 → k ≤ n → o ≡ k → ⊥
later n o k e p q = omega (arith, e, p, q)

-- A new reference is not to a dead object, but by a query.
abbrev TakesOther : ℕ → Deed → Type 0
TakesOther gone (deed.Query o i hr) = Unit {0}
TakesOther gone d = HeldBy (λ r. r.object ≡ gone → ⊥) (taken_in d)

taken-other : (s : Scenario) (h : List Entry) (gone l y : ℕ) (d : Deed) → Dead s h gone → Says s (sight s h) l d → FineBy (objects h) (faces s) y d → TakesOther gone d
taken-other s h gone l y (deed.Made (Some o) (Some b) k (asked.Number i) hr) w z f = λ e. later (objects h) o gone f.0 w.made e
taken-other s h gone l y (deed.Made (Some o) (Some b) k (asked.Guid j) hr) w z f = tt
taken-other s h gone l y (deed.Made (Some o) None k i hr) w z f = absurd z
taken-other s h gone l y (deed.Made None b k i hr) w z f = tt
taken-other s h gone l y (deed.Query o i hr) w z f = tt
taken-other s h gone l y (deed.Unmarshal (Some p) held refs hr) w z f =
    subst (λ (x : Option RefValue). HeldBy (λ r. r.object ≡ gone → ⊥) x) (sym z.2)
    (λ e. not-both ((books s h).live gone) w.not_live (subst (λ (x : ℕ). (books s h).live x ≡ true) e (outstanding-live s h p z.1)))
taken-other s h gone l y (deed.Unmarshal None held refs hr) w z f = subst (λ (x : Option RefValue). HeldBy (λ r. r.object ≡ gone → ⊥) x) (sym z) tt
taken-other s h gone l y (deed.Get k (Some r) refs hr) w z f = λ e. not-both ((books s h).live gone) w.not_live (subst (λ (x : ℕ). (books s h).live x ≡ true) e z.1)
taken-other s h gone l y (deed.Get k None refs hr) w z f = tt
taken-other s h gone l y _ w z f = tt

-- ---- who acts

-- What is clear in the apartment of a frame passes the test of who stands there.
pub clear-test : (s : Scenario) (h : List Entry) (gone : ℕ) (e : Entry) (l : ℕ) (os : List Opener) (x : Option RefValue) → legal s (e ∷ h) → ((o : Opener) → Among o os → Among o (openers h l)) → home s (e ∷ h) l ≡ home s h l → HeldBy (Clear s h gone (apartment_of os (home s h l))) x → HeldBy (TestOf (S2 s h gone e) (B2 s h gone e) (actor (lane_sort s l) l os)) x
clear-test s h gone e l os x q m n g =
    actor-is (λ a. HeldBy (TestOf (S2 s h gone e) (B2 s h gone e) a) x) (lane_sort s l) l os
    (λ c o a rest p. held-more (Clear s h gone (apartment_of os (home s h l))) (B2 s h gone e c) x
    (λ r k j u b z. subst (λ (y : ℕ). Clear s h gone y r) (ap (λ (ys : List Opener). apartment_of ys (home s h l)) p ∙ sym (same-apartment s h e l c o a j u b q (m (Enters c o a) (top-among c o a os rest p)) z)) k) g)
    (λ p. held-more (Clear s h gone (apartment_of os (home s h l))) (S2 s h gone e l) x
    (λ r k low a z. subst (λ (y : ℕ). Clear s h gone y r) (ap (λ (ys : List Opener). apartment_of ys (home s h l)) p ∙ ap number_or_zero (sym n ∙ z)) k) g)
    (held-more (Clear s h gone (apartment_of os (home s h l))) (λ r. Unit {0}) x (λ r k. tt) g)

pub record ActsClear (s : Scenario) (h : List Entry) (gone : ℕ) (e : Entry) (a : Actor) : Type 0 where
  pub shares : Shares (S2 s h gone e) (B2 s h gone e) (K2 s h gone e) (I_of a) (L_of s h a) a
  pub taken : HeldBy (TestOf (S2 s h gone e) (B2 s h gone e) a) (taken_in e.deed)

not-agile : (s : Scenario) (h : List Entry) (o a : ℕ) → OwnedAt s h o a → agile s h o ≡ false → a ≡ named h o
not-agile s h o a (inl p) e = absurd (not-both (agile s h o) e p)
not-agile s h o a (inr p) e = p

pub shares-clear : (s : Scenario) (h : List Entry) (gone : ℕ) (e : Entry) (l c o a : ℕ) → Formed s → legal s (e ∷ h) → Among (Enters c o a) (openers h l) → Shares (S2 s h gone e) (B2 s h gone e) (K2 s h gone e) ⊥ (agile s h o ≡ false) (Body c o)
shares-clear s h gone e l c o a f q m =
    let low : o ≤ objects h = open-made s h f q.0 l c o a m in
    let own : (agile s h o ≡ false → a ≡ named (e ∷ h) o) = λ p. not-agile s h o a (open-owned s h f q.0 l c o a m) p ∙ sym (same-named s h e o f q low) in (
      λ r k j u b z. subst (λ (y : ℕ). Clear s h gone y r) (sym (own (sym (same-agile s h e o f q low) ∙ k.0)) ∙ sym (same-apartment s h e l c o a j u b q m z)) (k.1 (made-still o low)),
      λ p r b. (same-agile s h e o f q low ∙ p, λ _. subst (λ (y : ℕ). Clear s h gone y r) (own p) (b l o a (inl m))),
    )
  where
    made-still : (o : ℕ) → o ≤ objects h → o ≤ objects (e ∷ h)
    made-still o low = let k : objects h ≤ objects (e ∷ h) = more-objects (makes e.deed) (objects h) in omega (arith, low, k)

actor-shares : (s : Scenario) (h : List Entry) (gone : ℕ) (e : Entry) → Formed s → legal s (e ∷ h) → Shares (S2 s h gone e) (B2 s h gone e) (K2 s h gone e) (I_of (actor_in s h e.lane)) (L_of s h (actor_in s h e.lane)) (actor_in s h e.lane)
actor-shares s h gone e f q =
    actor-is (λ a. Shares (S2 s h gone e) (B2 s h gone e) (K2 s h gone e) (I_of a) (L_of s h a) a) (lane_sort s e.lane) e.lane (openers h e.lane)
    (λ c o a rest p. shares-clear s h gone e e.lane c o a f q (top-among c o a (openers h e.lane) rest p)) (λ p. tt) tt

-- A reference that is asked for another interface is in a slot of who acts.
query-held : (s : Scenario) (h : List Entry) (gone : ℕ) (e : Entry) (to : ℕ) (held : Option RefValue) (j : Asked) → Formed s → legal s (e ∷ h) → Dead s h gone → act s h e.lane ≡ Some (action.Query to held j) → HeldBy (TestOf (S2 s h gone e) (B2 s h gone e) (actor_in s h e.lane)) held
query-held s h gone e to held j f q w p =
    let a : Actor = actor_in s h e.lane in
    let own : unless_over a (outcome s (class_of h) (issue h) (scene s h) a) ≡ a = acts-own s (class_of h) (issue h) (scene s h) a (action.Query to held j) p in
    let z : ActionOf (outcome s (class_of h) (issue h) (scene s h) a) (action.Query to held j) = action-from (outcome s (class_of h) (issue h) (scene s h) a) (action.Query to held j)
    (subst (λ (x : Actor). action_of (outcome s (class_of h) (issue h) (scene s h) x) ≡ Some (action.Query to held j)) own p) in
    subst (ActionBy s (I_of a) (L_of s h a) (TestOf (S2 s h gone e) (B2 s h gone e) a)) z.action
    (out-action s (S2 s h gone e) (B2 s h gone e) (I_of a) (L_of s h a) a (scene s h) z.step
    (subst (OutBy s (S2 s h gone e) (B2 s h gone e) (I_of a) (L_of s h a) a (scene s h)) z.is
    (outcome-by s (S2 s h gone e) (B2 s h gone e) (K2 s h gone e) (I_of a) (L_of s h a) (class_of h) (issue h) a (scene s h) (actor-shares s h gone e f q) (actor-orderly s h f a) (before-clear s h gone e f q w))))

-- Whoever acts may take a reference that is not to the object.
other-test : (s : Scenario) (h : List Entry) (gone : ℕ) (e : Entry) (a : Actor) (x : Option RefValue) → HeldBy (λ r. r.object ≡ gone → ⊥) x → HeldBy (TestOf (S2 s h gone e) (B2 s h gone e) a) x
other-test s h gone e a None p = tt
other-test s h gone e (Body c o) (Some r) p = λ l x b m same own. p same
other-test s h gone e (Script l) (Some r) p = λ low a z same own. p same
other-test s h gone e Nobody (Some r) p = tt

same-object : (s : Scenario) (h : List Entry) (gone : ℕ) (e : Entry) (a : Actor) (r : RefValue) (o i : ℕ) → r.object ≡ o → TestOf (S2 s h gone e) (B2 s h gone e) a r → TestOf (S2 s h gone e) (B2 s h gone e) a (reference o i)
same-object s h gone e (Body c x) r o i p t = λ l y b m same own. t l y b m (p ∙ same) own
same-object s h gone e (Script l) r o i p t = λ low b z same own. t low b z (p ∙ same) own
same-object s h gone e Nobody r o i p t = tt

query-test : (P : RefValue → Type 0) (o i : ℕ) (t : Bool) (held : Option RefValue) → Some o ≡ object_in held → ((r : RefValue) → r.object ≡ o → P r → P (reference o i)) → HeldBy P held → HeldBy P (cond t (Some (reference o i)) None)
query-test P o i false held e f p = tt
query-test P o i true None e f p = cc
query-test P o i true (Some r) e f p = f r (same r.object o e) p
  where
    same : (x y : ℕ) → Some y ≡ Some x → x ≡ y
    same x y e = cc

taken-clear : (s : Scenario) (h : List Entry) (gone : ℕ) (e : Entry) (d : Deed) → Formed s → legal s (e ∷ h) → Dead s h gone → AskedOf s h e.lane d → TakesOther gone d → HeldBy (TestOf (S2 s h gone e) (B2 s h gone e) (actor_in s h e.lane)) (taken_in d)
taken-clear s h gone e (deed.Query (Some o) (asked.Number i) hr) f q w z t =
    query-test (TestOf (S2 s h gone e) (B2 s h gone e) (actor_in s h e.lane)) o i (is_S_OK hr) z.held z.object
    (λ r p u. same-object s h gone e (actor_in s h e.lane) r o i p u) (query-held s h gone e z.to z.held z.iface f q w z.acts)
taken-clear s h gone e (deed.Query (Some o) (asked.Guid g) hr) f q w z t = tt
taken-clear s h gone e (deed.Query None i hr) f q w z t = tt
taken-clear s h gone e d f q w z t = other-test s h gone e (actor_in s h e.lane) (taken_in d) t

pub acting-clear : (s : Scenario) (h : List Entry) (gone : ℕ) (e : Entry) → Formed s → legal s (e ∷ h) → Dead s h gone → ActsClear s h gone e (actor_in s h e.lane)
acting-clear s h gone e f q w = record {
  shares = actor-shares s h gone e f q;
  taken = taken-clear s h gone e e.deed f q w (next-asked s h e.lane e.deed q.1) (taken-other s h gone e.lane _ e.deed w (next-says s h e.lane e.deed q.1) (fine-next s h e f q));
}

pub nobody-clear : (s : Scenario) (h : List Entry) (gone : ℕ) (e : Entry) → ActsClear s h gone e Nobody
nobody-clear s h gone e = record { shares = tt; taken = held-all (λ r. Unit {0}) (taken_in e.deed) (λ r. tt) }
