-- The tests of the law: each reference at a place after an entry is backed after its rows.
use Rattle.std.proofs.Common.{subst, sym, ap, ◌∙◌, ◌⊎◌, inl, inr, eqb-true, arith}
use Rattle.std.specs.Prelude.{◌≡◌, refl, ℕ, zero, suc, ◌≤◌, Bool, true, false, cond, ◌==◌, List, [], ◌∷◌, Option, Some, None, is_none, All}
use Rattle.com_base.specs.declared.value.RefValue.{RefValue}
use Rattle.com_body.specs.declared.operands.Asked.TheVariants as asked
use Rattle.com_body.specs.declared.actions.Action.{Action}
use Rattle.com_model.specs.declared.deeds.Deed.{Deed}
use Rattle.com_model.specs.declared.deeds.Deed.TheVariants as deed
use Rattle.com_model.specs.declared.deeds.Entry.{Entry}
use Rattle.com_model.specs.declared.scenario.Scenario.{Scenario}
use Rattle.com_model.specs.Answers.{is_S_OK}
use Rattle.com_model.specs.Lists.{number_or_zero, is_number}
use Rattle.com_model.specs.Tables.{LaneSort, Thread, Host, Pool, NoLane, lane_sort, threads}
use Rattle.com_model.specs.Openers.{Opens, effect, effect_on, openers}
use Rattle.com_model.specs.declared.keeps.Opener.{Opener}
use Rattle.com_model.specs.declared.keeps.Opener.TheVariants.{Enters}
use Rattle.com_model.specs.Apartments.{Remains, home_effect, home_after, thread_home, home_by_sort, home, running}
use Rattle.com_model.specs.Objects.{objects, agile, named, owns, makes}
use Rattle.com_model.specs.Calls.{admitted}
use Rattle.com_model.specs.declared.keeps.Admission.{Admission}
use Rattle.com_model.specs.Frames.{scene, Actor, Body, Nobody, actor, actor_in, taken_in, reference, act}
use Rattle.com_model.specs.Endings.{ending, is_leave}
use Rattle.com_model.specs.Places.{ground}
use Rattle.com_refs_books.specs.Changes.{Asks, entered_rows}
use Rattle.com_model.specs.Books.{rows, books}
use Rattle.com_model.specs.Safe.{Secured}
use Rattle.com_model.specs.Sight.{Sight, sight}
use Rattle.com_model.specs.Rules.{next, legal}
use Rattle.com_model.specs.Formed.{Formed}
use Rattle.com_model.proofs.Comes.{next-comes}
use Rattle.com_model.proofs.Goods.{GoodHeld, all-or}
use Rattle.com_model.proofs.Fines.{FineBy}
use Rattle.com_model.proofs.Scenes.{faces}
use Rattle.com_laws_balance.proofs.Holds.{rows-keep, makes-bring, takes-bring, asks-bring, unmarshals-bring}
use Rattle.com_laws_balance.proofs.Counts.{Among, PlaceOf, of_script, of_body, of_link}
use Rattle.com_laws_balance.proofs.Secures.{Backed, place-backed, books-full, was-live}
use Rattle.com_laws_balance.proofs.Carries.{HeldBy}
use Rattle.com_laws_balance.proofs.Moves.{SceneBy, TestOf, Shares, held-more, links-more}
use Rattle.com_model.proofs.Kept.{legal-kept, more-objects}
use Rattle.com_laws_balance.proofs.Stacks.{admission_in, among-after, opens-enter, open-admitted, still-admitted}
use Rattle.com_laws_balance.proofs.Makings.{OwnedAt, open-owned, fine-next, not-made-by, same-named, same-agile, same-owns}
use Rattle.com_laws_balance.proofs.Says.{Says, next-says}
use Rattle.com_laws_balance.proofs.Homes.{home-remains, home-other, home-own, held-all, taken-remains}
use Rattle.com_laws_balance.proofs.Bases.{S0, B0, K0, I_of, L_of, actor-is, top-among, open-made}
use Rattle.com_laws_balance.proofs.Steps.{base-before, cells-empty, legal-base, made-or-new, same-number}
use Rattle.com_laws_balance.proofs.Arguments.{InSlots, own-slots}
use Rattle.com_laws_balance.proofs.Pending.{apartment_of}
use Rattle.com_laws_balance.proofs.Answered.{lane-low}

-- A reference in a script, in a body that is open before or after the entry, and in a link of an object.
abbrev pub S1 : Scenario → List Entry → Entry → ℕ → RefValue → Type 0
S1 s h e l r = l ≤ threads s → (a : ℕ) → home s (e ∷ h) l ≡ Some a → Backed s h e a r

abbrev pub EitherOpen : List Entry → Entry → (lane call object apartment : ℕ) → Type 0
EitherOpen h e l c x b = Among (Enters c x b) (openers h l) ⊎ Among (Enters c x b) (openers (e ∷ h) l)

abbrev pub B1 : Scenario → List Entry → Entry → ℕ → RefValue → Type 0
B1 s h e c r = (l x b : ℕ) → EitherOpen h e l c x b → Backed s h e b r

abbrev pub K1 : Scenario → List Entry → Entry → ℕ → RefValue → Type 0
K1 s h e x r = (agile s (e ∷ h) x ≡ false) × (x ≤ objects (e ∷ h) → Backed s h e (named (e ∷ h) x) r)

-- ---- what was at a place before

pub still-backed : (s : Scenario) (h : List Entry) (e : Entry) (a : ℕ) (r : RefValue) → Formed s → legal s (e ∷ h) → Secured s h → r.object ≤ objects h → PlaceOf s (ground s h) (scene s h) a r → Backed s h e a r
still-backed s h e a r f q w low p = λ live other.
    rows-keep (owns s (e ∷ h)) (books s h) (rows s (act s h e.lane) (λ c. is_leave (ending s h c)) (books s h) (number_or_zero (running s h e.lane)) e.deed) a r.object r.iface
    (place-backed s h a r w p (was-live s h e r.object (not-made-by s h e r.object f q low) live) (sym (same-owns s h e r.object a f q low) ∙ other))

pub in-slots-by : (P : RefValue → Type 0) (xs : List (Option RefValue)) (r : RefValue) → All (HeldBy P) xs → InSlots xs r → P r
in-slots-by P xs r g i = subst (HeldBy P) i.is (all-or (HeldBy P) xs i.index None tt g)

pub slot-known : (n m : ℕ) (xs : List (Option RefValue)) (r : RefValue) → All (GoodHeld n m) xs → InSlots xs r → r.object ≤ n
slot-known n m xs r g i = (subst (GoodHeld n m) i.is (all-or (GoodHeld n m) xs i.index None tt g)).0

pub is-home : (a : ℕ) (x : Option ℕ) → x ≡ Some a → is_number a x ≡ true
is-home a x e = subst (λ (y : Option ℕ). is_number a y ≡ true) (sym e) (same-number a)

-- ---- homes before and after

sort-init : (sort : LaneSort) (b a : ℕ) (x : Option ℕ) → home_by_sort sort x ≡ Some b → home_by_sort sort (Some b) ≡ Some a → home_by_sort sort x ≡ Some a
sort-init Thread b a x p e = p ∙ e
sort-init Host b a x p e = e
sort-init Pool b a x p e = e
sort-init NoLane b a x p e = e

sort-end : (sort : LaneSort) (a : ℕ) (x : Option ℕ) → home_by_sort sort None ≡ Some a → home_by_sort sort x ≡ Some a
sort-end Thread a x e = cc
sort-end Host a x e = e
sort-end Pool a x e = e
sort-end NoLane a x e = e

sort-again : (sort : LaneSort) (a : ℕ) (x : Option ℕ) → home_by_sort sort (home_by_sort sort x) ≡ Some a → home_by_sort sort x ≡ Some a
sort-again Thread a x e = e
sort-again Host a x e = e
sort-again Pool a x e = e
sort-again NoLane a x e = e

own-before : (s : Scenario) (v : Sight) (sort : LaneSort) (l a : ℕ) (d : Deed) (x : Option ℕ) → v.home l ≡ home_by_sort sort x → Says s v l d → home_by_sort sort (home_after (home_effect d) x) ≡ Some a → (home_by_sort sort x ≡ Some a) ⊎ (home_by_sort sort x ≡ None)
own-before s v sort l a (deed.Init m b hr) x w (inl z) e = inr (sym w ∙ z)
own-before s v sort l a (deed.Init m b hr) x w (inr z) e = inl (sort-init sort b a x (sym w ∙ z) e)
own-before s v sort l a (deed.Uninit y zero) x w z e = inl (sort-end sort a x e)
own-before s v sort l a (deed.Uninit y (suc n)) x w z e = inl (sort-again sort a x (subst (λ (u : Option ℕ). home_by_sort sort u ≡ Some a) (z ∙ w) e))
own-before s v sort l a _ x w z e = inl e

-- A lane's home after an entry was its home before, or it had none.
home-before : (s : Scenario) (h : List Entry) (e : Entry) (l a : ℕ) → legal s (e ∷ h) → home s (e ∷ h) l ≡ Some a → (home s h l ≡ Some a) ⊎ (home s h l ≡ None)
home-before s h e l a q p =
    elim (e.lane == l) as (λ t. (e.lane == l) ≡ t → (home s h l ≡ Some a) ⊎ (home s h l ≡ None)) [
      | true ↦ λ z. own-before s (sight s h) (lane_sort s l) l a e.deed (thread_home h l) refl (subst (λ (k : ℕ). Says s (sight s h) k e.deed) (eqb-true e.lane l z) (next-says s h e.lane e.deed q.1)) (sym (home-own s h e l z) ∙ p)
      | false ↦ λ z. inl (sym (home-other s h e l z) ∙ p)
    ] refl

-- ---- the scene before

none-of : (x : Option Admission) → is_none x ≡ true → x ≡ None
none-of None e = refl
none-of (Some y) e = cc

pub enter-fresh : (s : Scenario) (h : List Entry) (l c x b : ℕ) (d : Deed) → next s h l ≡ Some d → effect d ≡ Opens (Enters c x b) → admitted h c ≡ None
enter-fresh s h l c x b (deed.Enter k o a t vs) q e = subst (λ (j : ℕ). admitted h j ≡ None) (same e) (none-of (admitted h k) (next-comes s h l (deed.Enter k o a t vs) q).0)
  where
    same : Opens (Enters k o a) ≡ Opens (Enters c x b) → k ≡ c
    same e = cc
enter-fresh s h l c x b (deed.Pump n) q e = cc
enter-fresh s h l c x b (deed.Out k o i m t cause bytes) q e = cc
enter-fresh s h l c x b deed.EndPump q e = cc
enter-fresh s h l c x b (deed.Back k hr v) q e = cc
enter-fresh s h l c x b (deed.Leave k hr v bytes) q e = cc
enter-fresh s h l c x b _ q e = cc

script-backed : (s : Scenario) (h : List Entry) (e : Entry) (l : ℕ) (r : RefValue) → Formed s → legal s (e ∷ h) → Secured s h → InSlots ((scene s h).scripts l).slots r → S1 s h e l r
script-backed s h e l r f q w i = λ low a z.
    elim (home-before s h e l a q z) as (λ _. Backed s h e a r) [
      | inl y ↦ still-backed s h e a r f q w (slot-known (objects h) (faces s) ((scene s h).scripts l).slots r ((legal-kept s h f q.0).scene.scripts l).slots i) (of_script l i.index low (is-home a (home s h l) y) i.is)
      | inr y ↦ absurd (in-slots-by (S0 s h l) ((scene s h).scripts l).slots r ((legal-base s h f q.0).frames.scripts l).slots i y)
    ]

body-open : (s : Scenario) (h : List Entry) (e : Entry) (c l x b : ℕ) (r : RefValue) → Formed s → legal s (e ∷ h) → InSlots ((scene s h).bodies c).slots r → EitherOpen h e l c x b → Among (Enters c x b) (openers h l)
body-open s h e c l x b r f q i (inl m) = m
body-open s h e c l x b r f q i (inr m) =
    elim (among-after c x b (effect_on l e) (openers h l) m) as (λ _. Among (Enters c x b) (openers h l)) [
      | inl p ↦ p
      | inr p ↦ absurd (in-slots-by (B0 h c) ((scene s h).bodies c).slots r ((legal-base s h f q.0).frames.bodies c).slots i (enter-fresh s h e.lane c x b e.deed q.1 (opens-enter l c x b e p).1))
    ]

body-backed : (s : Scenario) (h : List Entry) (e : Entry) (c : ℕ) (r : RefValue) → Formed s → legal s (e ∷ h) → Secured s h → InSlots ((scene s h).bodies c).slots r → B1 s h e c r
body-backed s h e c r f q w i = λ l x b m.
    let p : Among (Enters c x b) (openers h l) = body-open s h e c l x b r f q i m in
    still-backed s h e b r f q w (slot-known (objects h) (faces s) ((scene s h).bodies c).slots r ((legal-kept s h f q.0).scene.bodies c).slots i) (of_body l c x i.index (lane-low s h l (Enters c x b) q.0 p) p i.is)

link-backed : (s : Scenario) (h : List Entry) (e : Entry) (x : ℕ) (r : RefValue) → Formed s → legal s (e ∷ h) → Secured s h → x ≤ objects h → InSlots ((scene s h).cells x).links r → K1 s h e x r
link-backed s h e x r f q w low i = (
  in-slots-by (K0 s (e ∷ h) x) ((scene s h).cells x).links r ((base-before s h e f q (legal-base s h f q.0)).links x) i,
  λ _. subst (λ (a : ℕ). Backed s h e a r) (sym (same-named s h e x f q low))
      (still-backed s h e (named h x) r f q w (slot-known (objects h) (faces s) ((scene s h).cells x).links r ((legal-kept s h f q.0).scene.cells x) i) (of_link x i.index low refl i.is)),
)

pub before-law : (s : Scenario) (h : List Entry) (e : Entry) → Formed s → legal s (e ∷ h) → Secured s h → SceneBy (S1 s h e) (B1 s h e) (K1 s h e) (scene s h)
before-law s h e f q w = record {
  scripts = λ l. record { registers = ((legal-base s h f q.0).frames.scripts l).registers; slots = links-more (InSlots ((scene s h).scripts l).slots) (S1 s h e l) ((scene s h).scripts l).slots (λ r i. script-backed s h e l r f q w i) (own-slots ((scene s h).scripts l).slots) };
  bodies = λ c. record { registers = ((legal-base s h f q.0).frames.bodies c).registers; slots = links-more (InSlots ((scene s h).bodies c).slots) (B1 s h e c) ((scene s h).bodies c).slots (λ r i. body-backed s h e c r f q w i) (own-slots ((scene s h).bodies c).slots) };
  links = λ x. elim (made-or-new (objects h) x) as (λ _. All (HeldBy (K1 s h e x)) ((scene s h).cells x).links) [
    | inl p ↦ links-more (InSlots ((scene s h).cells x).links) (K1 s h e x) ((scene s h).cells x).links (λ r i. link-backed s h e x r f q w p i) (own-slots ((scene s h).cells x).links)
    | inr p ↦ cells-empty (K1 s h e x) ((scene s h).cells x) ((legal-kept s h f q.0).scene.no_cells x p)
  ];
}

-- ---- what is taken

taken-rows : (s : Scenario) (h : List Entry) (w : ℕ → ℕ → Bool) (x : Option Action) (g : ℕ → Bool) (l a y : ℕ) (d : Deed) (live : ℕ → Bool) → Says s (sight s h) l d → FineBy (objects h) (faces s) y d → ((o : ℕ) → o ≤ objects h → live o ≡ true → (books s h).live o ≡ true) → HeldBy (λ r. live r.object ≡ true → w r.object a ≡ false → 1 ≤ (entered_rows w (books s h) (rows s x g (books s h) a d)).proxy a r.object r.iface) (taken_in d)
taken-rows s h w x g l a y (deed.Made (Some o) (Some b) k (asked.Number i) hr) live z f n = λ u v. makes-bring w (books s h) a o i v
taken-rows s h w x g l a y (deed.Made (Some o) (Some b) k (asked.Guid j) hr) live z f n = tt
taken-rows s h w x g l a y (deed.Made (Some o) None k i hr) live z f n = absurd z
taken-rows s h w x g l a y (deed.Made None b k i hr) live z f n = tt
taken-rows s h w x g l a y (deed.Query (Some o) (asked.Number i) hr) live z f n =
    elim (is_S_OK hr) as (λ t. is_S_OK hr ≡ t → HeldBy (λ r. live r.object ≡ true → w r.object a ≡ false → 1 ≤ (entered_rows w (books s h) (cond t (Asks a o i ∷ []) [])).proxy a r.object r.iface) (cond t (Some (reference o i)) None)) [
      | true ↦ λ e u v. asks-bring w (books s h) a o i (n o (f e).0 u) v
      | false ↦ λ e. tt
    ] refl
taken-rows s h w x g l a y (deed.Query (Some o) (asked.Guid j) hr) live z f n = tt
taken-rows s h w x g l a y (deed.Query None i hr) live z f n = tt
taken-rows s h w x g l a y (deed.Unmarshal (Some p) held refs hr) live z f n =
    subst (λ (k : Option RefValue). HeldBy (λ r. live r.object ≡ true → w r.object a ≡ false → 1 ≤ (entered_rows w (books s h) (rows s x g (books s h) a (deed.Unmarshal (Some p) held refs hr))).proxy a r.object r.iface) k) (sym z.2) (λ u v. unmarshals-bring w (books s h) a p z.1 (books-full s h) v)
taken-rows s h w x g l a y (deed.Unmarshal None held refs hr) live z f n =
    subst (λ (k : Option RefValue). HeldBy (λ r. live r.object ≡ true → w r.object a ≡ false → 1 ≤ (entered_rows w (books s h) (rows s x g (books s h) a (deed.Unmarshal None held refs hr))).proxy a r.object r.iface) k) (sym z) tt
taken-rows s h w x g l a y (deed.Get k (Some r) refs hr) live z f n = λ u v. takes-bring w (books s h) a r.object r.iface z.1 v
taken-rows s h w x g l a y (deed.Get k None refs hr) live z f n = tt
taken-rows s h w x g l a y _ live z f n = tt

taken-backed : (s : Scenario) (h : List Entry) (e : Entry) → Formed s → legal s (e ∷ h) → HeldBy (Backed s h e (number_or_zero (running s h e.lane))) (taken_in e.deed)
taken-backed s h e f q =
    taken-rows s h (owns s (e ∷ h)) (act s h e.lane) (λ c. is_leave (ending s h c)) e.lane (number_or_zero (running s h e.lane)) _ e.deed (books s (e ∷ h)).live (next-says s h e.lane e.deed q.1) (fine-next s h e f q)
    (λ o low live. was-live s h e o (not-made-by s h e o f q low) live)

-- ---- who acts

apartment_at : Option Admission → ℕ
apartment_at None = 0
apartment_at (Some y) = y.apartment

same-admission : (x : Option Admission) (c l a k j b : ℕ) → x ≡ Some (admission_in c l a) → x ≡ Some (admission_in k j b) → b ≡ a
unfolding apartment_at
same-admission x c l a k j b p q = sym (ap apartment_at q) ∙ ap apartment_at p

pub same-apartment : (s : Scenario) (h : List Entry) (e : Entry) (l c o a j x b : ℕ) → legal s (e ∷ h) → Among (Enters c o a) (openers h l) → EitherOpen h e j c x b → b ≡ a
same-apartment s h e l c o a j x b q m (inl p) = same-admission (admitted h c) c l a c j b (open-admitted s h q.0 l c o a m) (open-admitted s h q.0 j c x b p)
same-apartment s h e l c o a j x b q m (inr p) = same-admission (admitted (e ∷ h) c) c l a c j b (still-admitted s h e.lane c e.deed (admission_in c l a) q.1 (open-admitted s h q.0 l c o a m)) (open-admitted s (e ∷ h) q j c x b p)

-- What is backed in the apartment of a frame passes the test of who stands there.
pub to-test : (s : Scenario) (h : List Entry) (e : Entry) (l : ℕ) (os : List Opener) (x : Option RefValue) → legal s (e ∷ h) → ((o : Opener) → Among o os → Among o (openers h l)) → home s (e ∷ h) l ≡ home s h l → HeldBy (Backed s h e (apartment_of os (home s h l))) x → HeldBy (TestOf (S1 s h e) (B1 s h e) (actor (lane_sort s l) l os)) x
to-test s h e l os x q m n g =
    actor-is (λ a. HeldBy (TestOf (S1 s h e) (B1 s h e) a) x) (lane_sort s l) l os
    (λ c o a rest p. held-more (Backed s h e (apartment_of os (home s h l))) (B1 s h e c) x
    (λ r k j u b z. subst (λ (y : ℕ). Backed s h e y r) (ap (λ (ys : List Opener). apartment_of ys (home s h l)) p ∙ sym (same-apartment s h e l c o a j u b q (m (Enters c o a) (top-among c o a os rest p)) z)) k) g)
    (λ p. held-more (Backed s h e (apartment_of os (home s h l))) (S1 s h e l) x
    (λ r k low a z. subst (λ (y : ℕ). Backed s h e y r) (ap (λ (ys : List Opener). apartment_of ys (home s h l)) p ∙ ap number_or_zero (sym n ∙ z)) k) g)
    (held-more (Backed s h e (apartment_of os (home s h l))) (λ r. Unit {0}) x (λ r k. tt) g)

taken-test : (s : Scenario) (h : List Entry) (e : Entry) (x : Option RefValue) → legal s (e ∷ h) → HeldBy (λ r. home_effect e.deed ≡ Remains) x → HeldBy (Backed s h e (number_or_zero (running s h e.lane))) x → HeldBy (TestOf (S1 s h e) (B1 s h e) (actor_in s h e.lane)) x
taken-test s h e None q p g = tt
taken-test s h e (Some r) q p g = to-test s h e e.lane (openers h e.lane) (Some r) q (λ o m. m) (home-remains s h e e.lane p) g

pub record ActsLaw (s : Scenario) (h : List Entry) (e : Entry) (a : Actor) : Type 0 where
  pub shares : Shares (S1 s h e) (B1 s h e) (K1 s h e) (I_of a) (L_of s h a) a
  pub taken : HeldBy (TestOf (S1 s h e) (B1 s h e) a) (taken_in e.deed)

not-agile : (s : Scenario) (h : List Entry) (o a : ℕ) → OwnedAt s h o a → agile s h o ≡ false → a ≡ named h o
not-agile s h o a (inl p) e = absurd (not-both (agile s h o) e p)
  where
    not-both : (b : Bool) → b ≡ false → b ≡ true → ⊥
    not-both b p q = cc
not-agile s h o a (inr p) e = p

pub shares-law : (s : Scenario) (h : List Entry) (e : Entry) (l c o a : ℕ) → Formed s → legal s (e ∷ h) → Among (Enters c o a) (openers h l) → Shares (S1 s h e) (B1 s h e) (K1 s h e) ⊥ (agile s h o ≡ false) (Body c o)
shares-law s h e l c o a f q m =
    let low : o ≤ objects h = open-made s h f q.0 l c o a m in
    let own : (agile s h o ≡ false → a ≡ named (e ∷ h) o) = λ p. not-agile s h o a (open-owned s h f q.0 l c o a m) p ∙ sym (same-named s h e o f q low) in (
      λ r k j u b z. subst (λ (y : ℕ). Backed s h e y r) (sym (own (sym (same-agile s h e o f q low) ∙ k.0)) ∙ sym (same-apartment s h e l c o a j u b q m z)) (k.1 (made-still o low)),
      λ p r b. (same-agile s h e o f q low ∙ p, λ _. subst (λ (y : ℕ). Backed s h e y r) (own p) (b l o a (inl m))),
    )
  where
    made-still : (o : ℕ) → o ≤ objects h → o ≤ objects (e ∷ h)
    made-still o low = let k : objects h ≤ objects (e ∷ h) = more-objects (makes e.deed) (objects h) in omega (arith, low, k)

pub acting-law : (s : Scenario) (h : List Entry) (e : Entry) → Formed s → legal s (e ∷ h) → ActsLaw s h e (actor_in s h e.lane)
acting-law s h e f q = record {
  shares = actor-is (λ a. Shares (S1 s h e) (B1 s h e) (K1 s h e) (I_of a) (L_of s h a) a) (lane_sort s e.lane) e.lane (openers h e.lane)
      (λ c o a rest p. shares-law s h e e.lane c o a f q (top-among c o a (openers h e.lane) rest p)) (λ p. tt) tt;
  taken = taken-test s h e (taken_in e.deed) q (taken-remains e.deed) (taken-backed s h e f q);
}

pub nobody-law : (s : Scenario) (h : List Entry) (e : Entry) → ActsLaw s h e Nobody
nobody-law s h e = record { shares = tt; taken = held-all (λ r. Unit {0}) (taken_in e.deed) (λ r. tt) }
