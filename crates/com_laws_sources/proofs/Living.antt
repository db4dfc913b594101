-- An object of an STA that has neither its Final nor lost its STA: its cells stay, while no body of it acts.
use Rattle.std.proofs.Common.{refl, sym, ap, subst, ◌∙◌, inl, inr, eqb-true, arith}
use Rattle.std.proofs.lemmas.Bool.{false_from_ne_true}
use Rattle.std.specs.Prelude.{◌≡◌, ℕ, zero, suc, ◌≤◌, ◌<◌, Bool, true, false, cond, ◌==◌, ◌||◌, List, [], ◌∷◌, Option, Some, None}
use Rattle.com_base.specs.declared.hresult.HResult.{HResult}
use Rattle.com_base.specs.declared.value.Mode.{Mode}
use Rattle.com_base.specs.declared.value.Mode.TheVariants as mode
use Rattle.com_model.specs.declared.deeds.Deed.{Deed}
use Rattle.com_model.specs.declared.deeds.Deed.TheVariants as deed
use Rattle.com_model.specs.declared.deeds.Entry.{Entry}
use Rattle.com_model.specs.declared.scenario.Scenario.{Scenario}
use Rattle.com_model.specs.declared.keeps.Opener.{Opener}
use Rattle.com_model.specs.declared.keeps.Opener.TheVariants.{Enters}
use Rattle.com_model.specs.Answers.{S_OK, S_FALSE, RPC_E_CHANGED_MODE}
use Rattle.com_model.specs.Lists.{is_number}
use Rattle.com_model.specs.Tables.{LaneSort, Thread, lane_sort}
use Rattle.com_model.specs.Openers.{Opens, effect, effect_on, openers}
use Rattle.com_model.specs.Apartments.{neutral, is_sta, next_sta, home_effect, home_after, thread_home, home_by_sort, home, ends_sta}
use Rattle.com_model.specs.Objects.{objects, agile, named, finals, finaled}
use Rattle.com_model.specs.Calls.{issue, lane_of}
use Rattle.com_model.specs.Deeds.{has_mode, initialised}
use Rattle.com_model.specs.Formed.{Formed}
use Rattle.com_model.specs.Rules.{legal}
use Rattle.com_model.specs.Safe.{Either, InApartment, Releases}
use Rattle.com_model.specs.Sight.{Sight, sight}
use Rattle.com_model.proofs.Kept.{legal-kept}
use Rattle.com_laws_balance.proofs.Bases.{open-made}
use Rattle.com_laws_balance.proofs.Counts.{Among}
use Rattle.com_laws_balance.proofs.Homes.{home-other, home-own}
use Rattle.com_laws_balance.proofs.Makings.{fine-next, same-named, same-agile}
use Rattle.com_model.proofs.Fines.{FineBy}
use Rattle.com_model.proofs.Scenes.{faces}
use Rattle.com_laws_balance.proofs.Stacks.{among-after, opens-enter}
use Rattle.com_laws_release.proofs.Dyings.{finaled-dead}
use Rattle.com_laws_release.proofs.Laws.{legal-release}
use Rattle.com_laws_safety.proofs.Facts.{Fact, source-fact}
use Rattle.com_laws_safety.proofs.OnTop.{legal-on-top}
use Rattle.com_laws_safety.proofs.Ready.{legal-apartment}
use Rattle.com_laws_safety.proofs.Served.{home-served, home-stays}
use Rattle.com_laws_safety.proofs.Small.{not-both, neither, differ}
use Rattle.com_laws_safety.proofs.Sources.{next-source}
use Rattle.com_laws_safety.proofs.Threads.{is_homes, source-thread}
use Rattle.com_laws_sources.proofs.Runs.{no-end, differs}
use Rattle.com_laws_sources.proofs.Servers.{one-server}

-- Some lane's home is its apartment.
pub record Alive (s : Scenario) (h : List Entry) (o : ℕ) : Type 0 where
  pub lane : ℕ
  pub homed : home s h lane ≡ Some (named h o)
  pub unfinished : finaled h o ≡ false

-- So it was before the entry, and the entry cuts none of its links.
pub record Uncut (s : Scenario) (h : List Entry) (e : Entry) (o : ℕ) : Type 0 where
  pub alive : Alive s h o
  pub no_final : is_number o (finals e.deed) ≡ false
  pub no_end : is_number (named h o) (ends_sta e.deed) ≡ false

some-same : (a b : ℕ) → Some a ≡ Some b → a ≡ b
some-same a b e = cc

-- ---- the home of a lane before an entry

init-parts : (m n : Mode) (a b : ℕ) (x y : HResult) → deed.Init m a x ≡ deed.Init n b y → a ≡ b
init-parts m n a b x y e = cc

init-before : (v : Sight) (m : Mode) (x : Option ℕ) (a b : ℕ) (hr : HResult) → initialised v m x ≡ deed.Init m b hr → b ≡ a → is_sta a ≡ true → a < v.next_sta → x ≡ Some a
init-before v mode.Sta None a b hr e z t low = let k : v.next_sta ≡ b = init-parts mode.Sta mode.Sta v.next_sta b S_OK hr e in absurd (beyond k)
  where
    beyond : v.next_sta ≡ b → ⊥
    beyond k = omega (arith, k, z, low)
init-before v mode.Mta None a b hr e z t low = let k : 1 ≡ b = init-parts mode.Mta mode.Mta 1 b S_OK hr e in absurd (not-both (is_sta 1) (subst (λ (y : ℕ). is_sta y ≡ true) (sym (k ∙ z)) t) refl)
init-before v m (Some y) a b hr e z t low = ap (λ (k : ℕ). Some k) (init-parts m m y b (cond (has_mode m y) S_FALSE RPC_E_CHANGED_MODE) hr e ∙ z)

abbrev Before : Option ℕ → (a : ℕ) → Deed → Type 0
Before x a d = (x ≡ Some a) × (is_number a (ends_sta d) ≡ false)

ends-later : (y : Option ℕ) (k a : ℕ) → is_number a (ends_sta (deed.Uninit y (suc k))) ≡ false
ends-later None k a = refl
ends-later (Some b) k a = refl

own-home : (s : Scenario) (v : Sight) (sort : LaneSort) (l a : ℕ) (d : Deed) (x : Option ℕ) → v.home l ≡ home_by_sort sort x → Fact s v l d → (is_homes d ≡ true → sort ≡ Thread) → is_sta a ≡ true → a < v.next_sta
    → home_by_sort sort (home_after (home_effect d) x) ≡ Some a → Before (home_by_sort sort x) a d
own-home s v sort l a (deed.Init m b hr) x w f th t low e =
    let k : Some b ≡ Some a = subst (λ (y : LaneSort). home_by_sort y (Some b) ≡ Some a) (th refl) e in
    (init-before v m (home_by_sort sort x) a b hr (sym (ap (initialised v m) w) ∙ f) (some-same b a k) t low, refl)
own-home s v sort l a (deed.Uninit y zero) x w f th t low e = absurd (nothing (subst (λ (y : LaneSort). home_by_sort y None ≡ Some a) (th refl) e))
  where
    nothing : None ≡ Some a → ⊥
    nothing e = cc
own-home s v sort l a (deed.Uninit y (suc k)) x w f th t low e =
    (sym w ∙ sym f ∙ subst (λ (z : LaneSort). home_by_sort z y ≡ Some a) (th refl) e, ends-later y k a)
own-home s v sort l a _ x w f th t low e = (e, refl)

pub home-before : (s : Scenario) (h : List Entry) (e : Entry) (l a : ℕ) → Formed s → legal s (e ∷ h) → is_sta a ≡ true → a < next_sta h → home s (e ∷ h) l ≡ Some a → Before (home s h l) a e.deed
home-before s h e l a f q t low p =
    elim (e.lane == l) as (λ b. (e.lane == l) ≡ b → Before (home s h l) a e.deed) [
      | true ↦ λ z. subst (λ (k : ℕ). Fact s (sight s h) k e.deed → (is_homes e.deed ≡ true → lane_sort s k ≡ Thread) → Before (home s h l) a e.deed) (sym (eqb-true e.lane l z))
          (λ u w. own-home s (sight s h) (lane_sort s l) l a e.deed (thread_home h l) refl u w t low (sym (home-own s h e l z) ∙ p))
          (source-fact s (sight s h) e.lane e.deed (next-source s h e.lane e.deed q.1))
          (source-thread s f h e.lane e.deed (next-source s h e.lane e.deed q.1))
      | false ↦ λ z. let k : home s h l ≡ Some a = sym (home-other s h e l z) ∙ p in (
        k,
        no-end s h e.lane a e.deed (source-fact s (sight s h) e.lane e.deed (next-source s h e.lane e.deed q.1))
            (λ b hm sta y. differs e.lane l z (one-server s h l e.lane a q.0 t (home-served s h l a f q.0 k t) (home-served s h e.lane a f q.0 (hm ∙ ap (λ (n : ℕ). Some n) (sym y)) t))),
      )
    ] refl

pub before-alive : (s : Scenario) (h : List Entry) (e : Entry) (o : ℕ) → Formed s → legal s (e ∷ h) → o ≤ objects h → is_sta (named h o) ≡ true → Alive s (e ∷ h) o → Uncut s h e o
before-alive s h e o f q made t w =
    let b : Before (home s h w.lane) (named h o) e.deed = home-before s h e w.lane (named h o) f q t ((legal-kept s h f q.0).named o) (w.homed ∙ ap (λ (n : ℕ). Some n) (same-named s h e o f q made)) in
    let u : (is_number o (finals e.deed) ≡ false) × (finaled h o ≡ false) = neither (is_number o (finals e.deed)) (finaled h o) w.unfinished in
    record { alive = record { lane = w.lane; homed = b.0; unfinished = u.1 }; no_final = u.0; no_end = b.1 }

-- ---- an object that is entered

not-neutral : (a : ℕ) → is_sta a ≡ true → (a == neutral) ≡ false
not-neutral a t = false_from_ne_true (a == neutral) (λ z. not-both (is_sta a) t (ap is_sta (eqb-true a neutral z)))

by-either : (b : Bool) (A B : Type 0) → b ≡ false → Either b A B → B
by-either true A B e p = cc
by-either false A B e p = p

enter-home : (s : Scenario) (h : List Entry) (l c o a : ℕ) (d : Deed) → effect d ≡ Opens (Enters c o a) → InApartment s h l d → agile s h o ≡ false → is_sta (named h o) ≡ true → home s h l ≡ Some (named h o)
enter-home s h l c o a (deed.Enter k x b t vs) e p n sta =
    subst (λ (y : ℕ). InApartment s h l (deed.Enter k y b t vs) → home s h l ≡ Some (named h o)) (sym (object-of e))
    (λ w. by-either (agile s h o || named h o == neutral) (l ≡ lane_of (issue h k)) (home s h l ≡ Some (named h o)) (ap (λ (y : Bool). y || named h o == neutral) n ∙ not-neutral (named h o) sta) w.1) p
  where
    object-of : Opens (Enters k x b) ≡ Opens (Enters c o a) → x ≡ o
    object-of e = cc
enter-home s h l c o a _ e p n sta = cc

enter-unfinished : (s : Scenario) (h : List Entry) (l c o a : ℕ) (d : Deed) → effect d ≡ Opens (Enters c o a) → Releases s h l d → finaled h o ≡ false
enter-unfinished s h l c o a (deed.Enter k x b t vs) e p = subst (λ (y : ℕ). finaled h y ≡ false) (object-of e) p
  where
    object-of : Opens (Enters k x b) ≡ Opens (Enters c o a) → x ≡ o
    object-of e = cc
enter-unfinished s h l c o a _ e p = cc

pub enter-alive : (s : Scenario) (h : List Entry) (e : Entry) (c o a : ℕ) → Formed s → legal s (e ∷ h) → effect e.deed ≡ Opens (Enters c o a) → agile s h o ≡ false → is_sta (named h o) ≡ true → Alive s h o
enter-alive s h e c o a f q p n t = record {
  lane = e.lane;
  homed = enter-home s h e.lane c o a e.deed p (legal-apartment s (e ∷ h) f q).1 n t;
  unfinished = enter-unfinished s h e.lane c o a e.deed p (legal-release s (e ∷ h) f q).0.1;
}

fine-made : (n m b c o a : ℕ) (d : Deed) → effect d ≡ Opens (Enters c o a) → FineBy n m b d → o ≤ n
fine-made n m b c o a (deed.Enter k x y t vs) e p = subst (λ (z : ℕ). z ≤ n) (object-of e) p.0
  where
    object-of : Opens (Enters k x y) ≡ Opens (Enters c o a) → x ≡ o
    object-of e = cc
fine-made n m b c o a _ e p = cc

pub enter-made : (s : Scenario) (h : List Entry) (e : Entry) (c o a : ℕ) → Formed s → legal s (e ∷ h) → effect e.deed ≡ Opens (Enters c o a) → o ≤ objects h
enter-made s h e c o a f q p = fine-made (objects h) (faces s) (next_sta h) c o a e.deed p (fine-next s h e f q)

not-empty : (o : Opener) (os : List Opener) → Among o os → os ≡ [] → ⊥
not-empty o os m e = subst (Among o) e m

open-home : (s : Scenario) (h : List Entry) (l c o a : ℕ) → Formed s → legal s h → agile s h o ≡ false → is_sta (named h o) ≡ true → Among (Enters c o a) (openers h l) → home s h l ≡ Some (named h o)
open-home s [] l c o a f q n t m = absurd m
open-home s (e ∷ h) l c o a f q n t m =
    elim (among-after c o a (effect_on l e) (openers h l) m) as (λ _. home s (e ∷ h) l ≡ Some (named (e ∷ h) o)) [
      | inl j ↦ let made : o ≤ objects h = open-made s h f q.0 l c o a j in stays j made (λ n t. open-home s h l c o a f q.0 n t j)
      | inr j ↦ let z : (e.lane ≡ l) × (effect e.deed ≡ Opens (Enters c o a)) = opens-enter l c o a e j in
          entered z.0 z.1
    ]
  where
    kept : home s (e ∷ h) l ≡ home s h l
    kept = elim (home-stays s h e l (legal-on-top s (e ∷ h) f q).1) as (λ _. home s (e ∷ h) l ≡ home s h l) [ inl u ↦ absurd (not-empty (Enters c o a) (openers (e ∷ h) l) m u) | inr u ↦ u ]

    stays : Among (Enters c o a) (openers h l) → o ≤ objects h → (agile s h o ≡ false → is_sta (named h o) ≡ true → home s h l ≡ Some (named h o)) → home s (e ∷ h) l ≡ Some (named (e ∷ h) o)
    stays j made r =
        let g : named (e ∷ h) o ≡ named h o = same-named s h e o f q made in
        kept ∙ r (sym (same-agile s h e o f q made) ∙ n) (subst (λ (y : ℕ). is_sta y ≡ true) g t) ∙ ap (λ (y : ℕ). Some y) (sym g)

    entered : e.lane ≡ l → effect e.deed ≡ Opens (Enters c o a) → home s (e ∷ h) l ≡ Some (named (e ∷ h) o)
    entered z p =
        let made : o ≤ objects h = enter-made s h e c o a f q p in
        let g : named (e ∷ h) o ≡ named h o = same-named s h e o f q made in
        kept ∙ subst (λ (k : ℕ). home s h k ≡ Some (named h o)) z (enter-home s h e.lane c o a e.deed p (legal-apartment s (e ∷ h) f q).1 (sym (same-agile s h e o f q made) ∙ n) (subst (λ (y : ℕ). is_sta y ≡ true) g t)) ∙ ap (λ (y : ℕ). Some y) (sym g)

pub open-alive : (s : Scenario) (h : List Entry) (l c o a : ℕ) → Formed s → legal s h → agile s h o ≡ false → is_sta (named h o) ≡ true → Among (Enters c o a) (openers h l) → Alive s h o
open-alive s h l c o a f q n t m = record {
  lane = l;
  homed = open-home s h l c o a f q n t m;
  unfinished = differ (finaled h o) (λ z. (finaled-dead s h o f q z).not_open l c a m);
}
