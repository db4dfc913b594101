-- What is dying is dead, and so is what had its Final; what is dead and had no Final is dying.
use Rattle.std.proofs.Common.{subst, sym, ap, ◌∙◌, ◌⊎◌, inl, inr, eqb-true, arith}
use Rattle.std.proofs.lemmas.Grind.{common_steps}
use Rattle.std.specs.Prelude.{◌≡◌, refl, ℕ, zero, suc, ◌+◌, ◌≤◌, Bool, true, false, not, cond, ◌==◌, ◌&&◌, ◌||◌, nat_le, List, [], ◌∷◌, ◌++◌, Option, Some, None, option_map}
use Rattle.com_model.specs.declared.deeds.Deed.{Deed}
use Rattle.com_model.specs.declared.deeds.Deed.TheVariants as deed
use Rattle.com_model.specs.declared.deeds.Entry.{Entry}
use Rattle.com_model.specs.declared.scenario.Scenario.{Scenario}
use Rattle.com_model.specs.Lists.{any_of, one_to, is_number}
use Rattle.com_model.specs.Tables.{lanes}
use Rattle.com_model.specs.Openers.{Effect, Keeps, effect, opened, openers, runs}
use Rattle.com_model.specs.declared.keeps.Opener.{Opener}
use Rattle.com_model.specs.declared.keeps.Opener.TheVariants.{Enters}
use Rattle.com_model.specs.Objects.{objects, finals, finaled}
use Rattle.com_model.specs.Frames.{scene}
use Rattle.com_model.specs.Places.{ground, all_places, direct_places}
use Rattle.com_refs_books.specs.Changes.{held_outside}
use Rattle.com_model.specs.Books.{books, holders}
use Rattle.com_model.specs.Dying.{is_entered, is_dying}
use Rattle.com_model.specs.Sight.{sight}
use Rattle.com_model.specs.Rules.{tick_time, no_lane_can, next, legal}
use Rattle.com_model.specs.Formed.{Formed}
use Rattle.com_model.proofs.Given.{Given}
use Rattle.com_laws_balance.proofs.Counts.{Among}
use Rattle.com_laws_balance.proofs.Answered.{lane-low}
use Rattle.com_laws_balance.proofs.Directs.{openers-own, openers-other}
use Rattle.com_laws_safety.proofs.Small.{and-left, and-right, and-both, differ, not-true}
use Rattle.com_laws_safety.proofs.Sources.{next-source}
use Rattle.com_laws_safety.proofs.Released.{live-held, releases}
use Rattle.com_laws_safety.specs.Released.{ReleasesOnce}
use Rattle.com_laws_release.proofs.Clears.{Dead}
use Rattle.com_laws_release.proofs.Lives.{place-low}
use Rattle.com_laws_release.proofs.Stays.{dead-stays, dead-bare, dead-not-entered, among-runs, direct-counts, zero-none}

not-both : (b : Bool) → b ≡ false → b ≡ true → ⊥
not-both b p q = cc

-- ---- nothing is open in the clock's lane

ticks-keep : (b d : Bool) (t : Option ℕ) → Given (λ x. effect x ≡ Keeps) (cond b (cond d (option_map (λ n. deed.Tick n) t) None) None)
ticks-keep true true None = tt
ticks-keep true true (Some n) = refl
ticks-keep true false t = tt
ticks-keep false d t = tt

clock-keeps : (s : Scenario) (h : List Entry) (d : Deed) → next s h 0 ≡ Some d → effect d ≡ Keeps
clock-keeps s h d e = subst (λ (x : Option Deed). Given (λ y. effect y ≡ Keeps) x) e (ticks-keep (0 == 0) (no_lane_can s (sight s h)) (tick_time (sight s h)))

clock-own : (s : Scenario) (h : List Entry) (e : Entry) (l : ℕ) → next s h e.lane ≡ Some e.deed → e.lane ≡ l → l ≡ 0 → openers h l ≡ [] → openers (e ∷ h) l ≡ []
clock-own s h e l q p z n =
    subst (λ (j : ℕ). openers h j ≡ [] → openers (e ∷ h) j ≡ []) p
    (λ m. openers-own h e ∙ ap (λ (x : Effect). opened x (openers h e.lane)) (clock-keeps s h e.deed (subst (λ (j : ℕ). next s h j ≡ Some e.deed) (p ∙ z) q)) ∙ m) n

clock-empty : (s : Scenario) (h : List Entry) → legal s h → openers h 0 ≡ []
clock-empty s [] q = refl
clock-empty s (e ∷ h) q =
    elim (e.lane == 0) as (λ t. (e.lane == 0) ≡ t → openers (e ∷ h) 0 ≡ []) [
      | true ↦ λ z. clock-own s h e 0 q.1 (eqb-true e.lane 0 z) refl (clock-empty s h q.0)
      | false ↦ λ z. openers-other h e 0 z ∙ clock-empty s h q.0
    ] refl

-- ---- who is entered is seen

any-append : (test : ℕ → Bool) (xs ys : List ℕ) → (any_of test xs ≡ true) ⊎ (any_of test ys ≡ true) → any_of test (xs ++ ys) ≡ true
any-append test [] ys (inl p) = cc
any-append test [] ys (inr p) = p
any-append test (x ∷ xs) ys p =
    elim (test x) as (λ b. ((b || any_of test xs) ≡ true) ⊎ (any_of test ys ≡ true) → (b || any_of test (xs ++ ys)) ≡ true) [
      | true ↦ λ q. refl
      | false ↦ λ q. any-append test xs ys q
    ] p

last-one : (test : ℕ → Bool) (n : ℕ) → test n ≡ true → any_of test (n ∷ []) ≡ true
last-one test n e = ap (λ (b : Bool). b || false) e

one-seen : (test : ℕ → Bool) (n l : ℕ) → 1 ≤ l → l ≤ n → test l ≡ true → any_of test (one_to n) ≡ true
one-seen test zero l p q e = absurd (omega (arith, p, q))
one-seen test (suc n) l p q e =
    elim (l == suc n) as (λ t. (l == suc n) ≡ t → any_of test (one_to (suc n)) ≡ true) [
      | true ↦ λ z. any-append test (one_to n) (suc n ∷ []) (inr (last-one test (suc n) (subst (λ (k : ℕ). test k ≡ true) (eqb-true l (suc n) z) e)))
      | false ↦ λ z. any-append test (one_to n) (suc n ∷ []) (inl (one-seen test n l p (grind (arith, common_steps, q, z)) e))
    ] refl

not-empty : (o : Opener) (os : List Opener) → os ≡ [] → Among o os → ⊥
not-empty o os e m = subst (λ (xs : List Opener). Among o xs) e m

no-body : (s : Scenario) (h : List Entry) (o : ℕ) → legal s h → is_entered s (openers h) o ≡ false → (l c a : ℕ) → Among (Enters c o a) (openers h l) → ⊥
no-body s h o q n zero c a m = not-empty (Enters c o a) (openers h 0) (clock-empty s h q) m
no-body s h o q n (suc l) c a m =
    not-both (is_entered s (openers h) o) n (one-seen (λ k. runs o (openers h k)) (lanes s) (suc l) (omega arith) (lane-low s h (suc l) (Enters c o a) q m) (among-runs o c a (openers h (suc l)) m))

-- ---- what is dying is dead

held-off : (live : Bool) (n d : ℕ) → live ≡ false → (cond live n d == 0) ≡ true → d ≡ 0
held-off true n d e p = cc
held-off false n d e p = eqb-true d 0 p

low : (o n : ℕ) → nat_le o n ≡ true → o ≤ n
low o n p = grind (arith, common_steps, p)

pub record Dies (s : Scenario) (h : List Entry) (o : ℕ) : Type 0 where
  pub first : nat_le 1 o ≡ true
  pub made : nat_le o (objects h) ≡ true
  pub not_finaled : finaled h o ≡ false
  pub held : (holders s h o == 0) ≡ true
  pub not_entered : is_entered s (openers h) o ≡ false

pub dies : (s : Scenario) (h : List Entry) (o : ℕ) → is_dying s h o ≡ true → Dies s h o
dies s h o d =
    let m : (nat_le 1 o && nat_le o (objects h)) ≡ true = and-left (nat_le 1 o && nat_le o (objects h)) _ d in
    let r : (not (finaled h o) && ((holders s h o == 0) && not (is_entered s (openers h) o))) ≡ true = and-right (nat_le 1 o && nat_le o (objects h)) _ d in
    let n : ((holders s h o == 0) && not (is_entered s (openers h) o)) ≡ true = and-right (not (finaled h o)) _ r in
    record {
      first = and-left (nat_le 1 o) _ m;
      made = and-right (nat_le 1 o) _ m;
      not_finaled = not-true (finaled h o) (and-left (not (finaled h o)) _ r);
      held = and-left (holders s h o == 0) _ n;
      not_entered = not-true (is_entered s (openers h) o) (and-right (holders s h o == 0) _ n);
    }

pub dying-dead : (s : Scenario) (h : List Entry) (o : ℕ) → Formed s → legal s h → is_dying s h o ≡ true → Dead s h o
dying-dead s h o f q d =
    let z : Dies s h o = dies s h o d in
    let off : (books s h).live o ≡ false = differ ((books s h).live o) (λ p. not-both (holders s h o == 0) (live-held s h o p) z.held) in
    let none : direct_places s (ground s h) (scene s h) o ≡ 0 = held-off ((books s h).live o) (all_places s (ground s h) (scene s h) o + held_outside (books s h) o) (direct_places s (ground s h) (scene s h) o) off z.held in
    record {
      made = low o (objects h) z.made;
      not_live = off;
      no_place = λ a r p same own. zero-none (direct_places s (ground s h) (scene s h) o) none (direct-counts s (ground s h) h a o r refl (place-low s h a r f q p) own same p);
      not_open = no-body s h o q z.not_entered;
    }

-- ---- what had its Final is dead

either : (p q : Bool) → (p || q) ≡ true → (p ≡ true) ⊎ (q ≡ true)
either true q e = inl refl
either false q e = inr e

final-dead : (s : Scenario) (h : List Entry) (l : ℕ) (d : Deed) (o : ℕ) → Formed s → legal s h → ReleasesOnce s h l d → is_number o (finals d) ≡ true → Dead s h o
final-dead s h l (deed.Final x) o f q p e = subst (Dead s h) (sym (eqb-true o x e)) (dying-dead s h x f q p.2)
final-dead s h l _ o f q p e = cc

pub finaled-dead : (s : Scenario) (h : List Entry) (o : ℕ) → Formed s → legal s h → finaled h o ≡ true → Dead s h o
finaled-dead s [] o f q e = cc
finaled-dead s (e ∷ h) o f q p =
    dead-stays s h e o f q
    (elim (either (is_number o (finals e.deed)) (finaled h o) p) as (λ _. Dead s h o) [
      | inl t ↦ final-dead s h e.lane e.deed o f q.0 (releases s h e.lane e.deed (next-source s h e.lane e.deed q.1)) t
      | inr t ↦ finaled-dead s h o f q.0 t
    ])

-- ---- what is dead is dying until its Final

high : (o n : ℕ) → o ≤ n → nat_le o n ≡ true
high o n p = grind (arith, common_steps, p)

bare-held : (live : Bool) (n d : ℕ) → live ≡ false → d ≡ 0 → (cond live n d == 0) ≡ true
bare-held true n d e p = cc
bare-held false n d e p = subst (λ (k : ℕ). (k == 0) ≡ true) (sym p) zero-is
  where
    zero-is : (0 == 0) ≡ true
    zero-is = grind (arith, common_steps)

off-not : (b : Bool) → b ≡ false → not b ≡ true
off-not true e = cc
off-not false e = refl

pub dead-dying : (s : Scenario) (h : List Entry) (o : ℕ) → Dead s h o → nat_le 1 o ≡ true → finaled h o ≡ false → is_dying s h o ≡ true
dead-dying s h o w p n =
    and-both (nat_le 1 o && nat_le o (objects h)) _ (and-both (nat_le 1 o) (nat_le o (objects h)) p (high o (objects h) w.made))
    (and-both (not (finaled h o)) _ (off-not (finaled h o) n)
    (and-both (holders s h o == 0) (not (is_entered s (openers h) o))
    (bare-held ((books s h).live o) (all_places s (ground s h) (scene s h) o + held_outside (books s h) o) (direct_places s (ground s h) (scene s h) o) w.not_live (dead-bare s h o w))
    (off-not (is_entered s (openers h) o) (dead-not-entered s h o w))))
