-- The homes of threads, and the STAs that have not ended: no two threads have one STA for their home, and none has one that has
-- ended.
use Rattle.std.proofs.Common.{subst, sym, ap, ◌∙◌, ◌⊎◌, inl, inr, eqb-true, arith}
use Rattle.std.proofs.lemmas.Grind.{common_steps}
use Rattle.std.specs.Prelude.{◌≡◌, refl, ℕ, zero, suc, ◌+◌, ◌≤◌, ◌<◌, Bool, true, false, cond, ◌==◌, ◌||◌, List, [], ◌∷◌, length, Option, Some, None}
use Rattle.std.proofs.lemmas.List.{length-append}
use Rattle.com_base.specs.declared.hresult.HResult.{HResult}
use Rattle.com_base.specs.declared.value.Mode.{Mode}
use Rattle.com_base.specs.declared.value.Mode.TheVariants as mode
use Rattle.com_model.specs.declared.deeds.Deed.{Deed}
use Rattle.com_model.specs.declared.deeds.Deed.TheVariants as deed
use Rattle.com_model.specs.declared.deeds.Entry.{Entry}
use Rattle.com_model.specs.declared.scenario.Scenario.{Scenario}
use Rattle.com_model.specs.Answers.{S_OK, S_FALSE, RPC_E_CHANGED_MODE, is_S_OK}
use Rattle.com_model.specs.Lists.{is_number, where_true}
use Rattle.com_model.specs.Tables.{LaneSort, Thread, lane_sort}
use Rattle.com_model.specs.Apartments.{HomeEffect, Initialises, Uninitialises, Remains, ended, ends_sta, home_after, home_by_sort, home_effect, is_sta, makes_sta, next_sta, stas, thread_home, with_last}
use Rattle.com_model.specs.Deeds.{has_mode, initialised}
use Rattle.com_model.specs.Formed.{Formed}
use Rattle.com_model.specs.Sight.{Sight, sight}
use Rattle.com_model.specs.Rules.{legal}
use Rattle.com_laws_safety.proofs.Small.{differ, same-number}
use Rattle.com_laws_safety.proofs.Sources.{Source, next-source}
use Rattle.com_laws_safety.proofs.Facts.{Fact, source-fact}
use Rattle.com_laws_safety.proofs.Threads.{is_homes, source-thread}

-- ---- tables of homes

pub record HomesBy (n : ℕ) (e : ℕ → Bool) (t : ℕ → Option ℕ) : Type 0 where
  pub three : 3 ≤ n
  pub low : (a : ℕ) → a ≤ 2 → e a ≡ false
  pub past : (a : ℕ) → n ≤ a → e a ≡ false
  pub lasting : (l a : ℕ) → t l ≡ Some a → e a ≡ false
  pub host : (l a : ℕ) → t l ≡ Some a → a ≡ 2 → ⊥
  pub within : (l a : ℕ) → t l ≡ Some a → a < n
  pub one : (l m a : ℕ) → 3 ≤ a → t l ≡ Some a → t m ≡ Some a → l ≡ m

same-some : (x y : ℕ) → Some x ≡ Some y → x ≡ y
same-some x y e = cc

none-some : {A : Type 0} (x : ℕ) (o : Option ℕ) → o ≡ None → o ≡ Some x → A
none-some x None e p = cc
none-some x (Some y) e p = cc

-- Nothing changes.
by-same : (n k : ℕ) (e f : ℕ → Bool) (t u : ℕ → Option ℕ) → k ≡ n → ((a : ℕ) → f a ≡ e a) → ((m : ℕ) → u m ≡ t m) → HomesBy n e t → HomesBy k f u
by-same n k e f t u q p r x = record {
  three = subst (λ (j : ℕ). 3 ≤ j) (sym q) x.three;
  low = λ a z. p a ∙ x.low a z;
  past = λ a z. p a ∙ x.past a (subst (λ (j : ℕ). j ≤ a) q z);
  lasting = λ l a z. p a ∙ x.lasting l a (sym (r l) ∙ z);
  host = λ l a z. x.host l a (sym (r l) ∙ z);
  within = λ l a z. subst (λ (j : ℕ). a < j) (sym q) (x.within l a (sym (r l) ∙ z));
  one = λ l m a y z w. x.one l m a y (sym (r l) ∙ z) (sym (r m) ∙ w);
}

-- A thread comes to the multithreaded apartment.
by-mta : (n : ℕ) (e : ℕ → Bool) (t u : ℕ → Option ℕ) → ((m : ℕ) → (u m ≡ t m) ⊎ (u m ≡ Some 1)) → HomesBy n e t → HomesBy n e u
by-mta n e t u r x = record {
  three = x.three;
  low = x.low;
  past = x.past;
  lasting = λ l a z. lasting l a z (r l);
  host = λ l a z. host l a z (r l);
  within = λ l a z. within l a z (r l);
  one = λ l m a y z w. one l m a y z w (r l) (r m);
}
  where
    is-one : (l a : ℕ) → u l ≡ Some a → u l ≡ Some 1 → a ≡ 1
    is-one l a z p = same-some a 1 (sym z ∙ p)

    lasting : (l a : ℕ) → u l ≡ Some a → (u l ≡ t l) ⊎ (u l ≡ Some 1) → e a ≡ false
    lasting l a z (inl p) = x.lasting l a (sym p ∙ z)
    lasting l a z (inr p) = let k : a ≡ 1 = is-one l a z p in x.low a (omega (arith, k))

    host : (l a : ℕ) → u l ≡ Some a → (u l ≡ t l) ⊎ (u l ≡ Some 1) → a ≡ 2 → ⊥
    host l a z (inl p) = x.host l a (sym p ∙ z)
    host l a z (inr p) = λ y. let k : a ≡ 1 = is-one l a z p in omega (arith, k, y)

    within : (l a : ℕ) → u l ≡ Some a → (u l ≡ t l) ⊎ (u l ≡ Some 1) → a < n
    within l a z (inl p) = x.within l a (sym p ∙ z)
    within l a z (inr p) = let k : a ≡ 1 = is-one l a z p in let y : 3 ≤ n = x.three in omega (arith, k, y)

    one : (l m a : ℕ) → 3 ≤ a → u l ≡ Some a → u m ≡ Some a → (u l ≡ t l) ⊎ (u l ≡ Some 1) → (u m ≡ t m) ⊎ (u m ≡ Some 1) → l ≡ m
    one l m a y z w (inl p) (inl q) = x.one l m a y (sym p ∙ z) (sym q ∙ w)
    one l m a y z w (inr p) q = let k : a ≡ 1 = is-one l a z p in absurd (omega (arith, k, y))
    one l m a y z w p (inr q) = let k : a ≡ 1 = is-one m a w q in absurd (omega (arith, k, y))

-- A thread makes an STA.
by-making : (n l : ℕ) (e : ℕ → Bool) (t u : ℕ → Option ℕ) → ((m : ℕ) → (u m ≡ t m) ⊎ ((u m ≡ Some n) × (m ≡ l))) → HomesBy n e t → HomesBy (n + 1) e u
by-making n j e t u r x = record {
  three = let k : 3 ≤ n = x.three in omega (arith, k);
  low = x.low;
  past = λ a z. x.past a (omega (arith, z));
  lasting = λ l a z. lasting l a z (r l);
  host = λ l a z. host l a z (r l);
  within = λ l a z. within l a z (r l);
  one = λ l m a y z w. one l m a y z w (r l) (r m);
}
  where
    is-new : (l a : ℕ) → u l ≡ Some a → u l ≡ Some n → a ≡ n
    is-new l a z p = same-some a n (sym z ∙ p)

    lasting : (l a : ℕ) → u l ≡ Some a → (u l ≡ t l) ⊎ ((u l ≡ Some n) × (l ≡ j)) → e a ≡ false
    lasting l a z (inl p) = x.lasting l a (sym p ∙ z)
    lasting l a z (inr p) = let k : a ≡ n = is-new l a z p.0 in x.past a (omega (arith, k))

    host : (l a : ℕ) → u l ≡ Some a → (u l ≡ t l) ⊎ ((u l ≡ Some n) × (l ≡ j)) → a ≡ 2 → ⊥
    host l a z (inl p) = x.host l a (sym p ∙ z)
    host l a z (inr p) = λ y. let k : a ≡ n = is-new l a z p.0 in let w : 3 ≤ n = x.three in omega (arith, k, y, w)

    within : (l a : ℕ) → u l ≡ Some a → (u l ≡ t l) ⊎ ((u l ≡ Some n) × (l ≡ j)) → a < n + 1
    within l a z (inl p) = let k : a < n = x.within l a (sym p ∙ z) in omega (arith, k)
    within l a z (inr p) = let k : a ≡ n = is-new l a z p.0 in omega (arith, k)

    one : (l m a : ℕ) → 3 ≤ a → u l ≡ Some a → u m ≡ Some a → (u l ≡ t l) ⊎ ((u l ≡ Some n) × (l ≡ j)) → (u m ≡ t m) ⊎ ((u m ≡ Some n) × (m ≡ j)) → l ≡ m
    one l m a y z w (inl p) (inl q) = x.one l m a y (sym p ∙ z) (sym q ∙ w)
    one l m a y z w (inr p) (inr q) = p.1 ∙ sym q.1
    one l m a y z w (inl p) (inr q) = let k : a < n = x.within l a (sym p ∙ z) in let v : a ≡ n = is-new m a w q.0 in absurd (omega (arith, k, v))
    one l m a y z w (inr p) (inl q) = let k : a < n = x.within m a (sym q ∙ w) in let v : a ≡ n = is-new l a z p.0 in absurd (omega (arith, k, v))

-- A thread leaves its apartment; an STA ends.
abbrev pub sta_of : Option ℕ → Option ℕ
sta_of None = None
sta_of (Some a) = where_true (is_sta a) a

-- The number of an STA that is the home of a thread.
sta-is : (a : ℕ) (x : Option ℕ) → is_number a (sta_of x) ≡ true → (x ≡ Some a) × (2 ≤ a)
sta-is a None e = cc
sta-is a (Some b) e = by-test (is_sta b) refl e
  where
    by-test : (v : Bool) → is_sta b ≡ v → is_number a (where_true v b) ≡ true → (Some b ≡ Some a) × (2 ≤ a)
    by-test true z q = let k : a ≡ b = eqb-true a b q in (ap (λ (y : ℕ). Some y) (sym k), let w : 2 ≤ b = grind (arith, common_steps, z) in omega (arith, k, w))
    by-test false z q = cc

or-false : (p q : Bool) → p ≡ false → q ≡ false → (p || q) ≡ false
or-false true q e f = cc
or-false false q e f = f

by-leaving : (n l : ℕ) (e : ℕ → Bool) (t u : ℕ → Option ℕ) (x : Option ℕ) → x ≡ t l → ((m : ℕ) → ((u m ≡ t m) × (m ≡ l → ⊥)) ⊎ (u m ≡ None)) → HomesBy n e t → HomesBy n (λ a. is_number a (sta_of x) || e a) u
by-leaving n j e t u v q r x = record {
  three = x.three;
  low = λ a z. or-false (is_number a (sta_of v)) (e a) (other a (λ p s. x.host j a p (omega (arith, z, s)))) (x.low a z);
  past = λ a z. or-false (is_number a (sta_of v)) (e a) (other a (λ p s. let k : a < n = x.within j a p in omega (arith, z, k))) (x.past a z);
  lasting = λ l a z. lasting l a z (r l);
  host = λ l a z. host l a z (r l);
  within = λ l a z. within l a z (r l);
  one = λ l m a y z w. one l m a y z w (r l) (r m);
}
  where
    other : (a : ℕ) → (t j ≡ Some a → 2 ≤ a → ⊥) → is_number a (sta_of v) ≡ false
    other a f = differ (is_number a (sta_of v)) (λ z. let k : (v ≡ Some a) × (2 ≤ a) = sta-is a v z in f (sym q ∙ k.0) k.1)

    above : (a : ℕ) → 2 ≤ a → (a ≡ 2 → ⊥) → 3 ≤ a
    above a p f = by-test (a == 2) refl
      where
        by-test : (b : Bool) → (a == 2) ≡ b → 3 ≤ a
        by-test true z = absurd (f (eqb-true a 2 z))
        by-test false z = grind (arith, common_steps, z, p)

    lasting : (l a : ℕ) → u l ≡ Some a → ((u l ≡ t l) × (l ≡ j → ⊥)) ⊎ (u l ≡ None) → (is_number a (sta_of v) || e a) ≡ false
    lasting l a z (inl p) =
        or-false (is_number a (sta_of v)) (e a)
        (other a (λ w s. p.1 (x.one l j a (above a s (x.host j a w)) (sym p.0 ∙ z) w))) (x.lasting l a (sym p.0 ∙ z))
    lasting l a z (inr p) = none-some a (u l) p z

    host : (l a : ℕ) → u l ≡ Some a → ((u l ≡ t l) × (l ≡ j → ⊥)) ⊎ (u l ≡ None) → a ≡ 2 → ⊥
    host l a z (inl p) = x.host l a (sym p.0 ∙ z)
    host l a z (inr p) = λ y. none-some a (u l) p z

    within : (l a : ℕ) → u l ≡ Some a → ((u l ≡ t l) × (l ≡ j → ⊥)) ⊎ (u l ≡ None) → a < n
    within l a z (inl p) = x.within l a (sym p.0 ∙ z)
    within l a z (inr p) = none-some a (u l) p z

    one : (l m a : ℕ) → 3 ≤ a → u l ≡ Some a → u m ≡ Some a → ((u l ≡ t l) × (l ≡ j → ⊥)) ⊎ (u l ≡ None) → ((u m ≡ t m) × (m ≡ j → ⊥)) ⊎ (u m ≡ None) → l ≡ m
    one l m a y z w (inl p) (inl k) = x.one l m a y (sym p.0 ∙ z) (sym k.0 ∙ w)
    one l m a y z w (inr p) k = none-some a (u l) p z
    one l m a y z w p (inr k) = none-some a (u m) k w

-- ---- what an entry does to homes

pub data HomeStep (h : List Entry) (l : ℕ) (d : Deed) : Type 0 where
  remains : home_effect d ≡ Remains → makes_sta d ≡ None → ends_sta d ≡ None → HomeStep h l d
  again : (a : ℕ) (hr : HResult) → home_effect d ≡ Initialises a hr → thread_home h l ≡ Some a → makes_sta d ≡ None → ends_sta d ≡ None → HomeStep h l d
  to_mta : (hr : HResult) → home_effect d ≡ Initialises 1 hr → thread_home h l ≡ None → hr ≡ S_OK → makes_sta d ≡ None → ends_sta d ≡ None → HomeStep h l d
  makes_one : (hr : HResult) → home_effect d ≡ Initialises (next_sta h) hr → thread_home h l ≡ None → hr ≡ S_OK → makes_sta d ≡ Some (next_sta h) → ends_sta d ≡ None → HomeStep h l d
  lowers : (x : Option ℕ) (n : ℕ) → home_effect d ≡ Uninitialises x (suc n) → x ≡ thread_home h l → makes_sta d ≡ None → ends_sta d ≡ None → HomeStep h l d
  leaves : (x : Option ℕ) → home_effect d ≡ Uninitialises x zero → x ≡ thread_home h l → makes_sta d ≡ None → ends_sta d ≡ sta_of x → HomeStep h l d

same-init : (m : Mode) (a b : ℕ) (x y : HResult) → deed.Init m a x ≡ deed.Init m b y → (a ≡ b) × (x ≡ y)
same-init m a b x y e = (cc, cc)

not-ok : (b : Bool) (hr : HResult) (a : ℕ) → cond b S_FALSE RPC_E_CHANGED_MODE ≡ hr → where_true (is_S_OK hr) a ≡ None
not-ok true hr a e = subst (λ (x : HResult). where_true (is_S_OK x) a ≡ None) e refl
not-ok false hr a e = subst (λ (x : HResult). where_true (is_S_OK x) a ≡ None) e refl

init-step : (h : List Entry) (v : Sight) (l : ℕ) (m : Mode) (a : ℕ) (hr : HResult) (x : Option ℕ) → v.next_sta ≡ next_sta h → thread_home h l ≡ x → initialised v m x ≡ deed.Init m a hr → HomeStep h l (deed.Init m a hr)
init-step h v l mode.Sta a hr None n q e =
    let k : (v.next_sta ≡ a) × (S_OK ≡ hr) = same-init mode.Sta v.next_sta a S_OK hr e in
    let w : a ≡ next_sta h = sym k.0 ∙ n in
    makes_one hr (ap (λ (y : ℕ). Initialises y hr) w) q (sym k.1)
    (subst (λ (y : HResult). where_true (is_S_OK y) a ≡ Some (next_sta h)) k.1 (ap (λ (y : ℕ). Some y) w)) refl
init-step h v l mode.Mta a hr None n q e =
    let k : (1 ≡ a) × (S_OK ≡ hr) = same-init mode.Mta 1 a S_OK hr e in
    to_mta hr (ap (λ (y : ℕ). Initialises y hr) (sym k.0)) q (sym k.1) refl refl
init-step h v l mode.Sta a hr (Some b) n q e =
    let k : (b ≡ a) × (cond (has_mode mode.Sta b) S_FALSE RPC_E_CHANGED_MODE ≡ hr) = same-init mode.Sta b a _ hr e in
    again a hr refl (q ∙ ap (λ (y : ℕ). Some y) k.0) (not-ok (has_mode mode.Sta b) hr a k.1) refl
init-step h v l mode.Mta a hr (Some b) n q e =
    let k : (b ≡ a) × (cond (has_mode mode.Mta b) S_FALSE RPC_E_CHANGED_MODE ≡ hr) = same-init mode.Mta b a _ hr e in
    again a hr refl (q ∙ ap (λ (y : ℕ). Some y) k.0) refl refl

left-step : (h : List Entry) (l : ℕ) (x : Option ℕ) → x ≡ thread_home h l → HomeStep h l (deed.Uninit x zero)
left-step h l None e = leaves None refl e refl refl
left-step h l (Some a) e = leaves (Some a) refl e refl refl

lower-step : (h : List Entry) (l n : ℕ) (x : Option ℕ) → x ≡ thread_home h l → HomeStep h l (deed.Uninit x (suc n))
lower-step h l n None e = lowers None n refl e refl refl
lower-step h l n (Some a) e = lowers (Some a) n refl e refl refl

home-step : (s : Scenario) (h : List Entry) (l : ℕ) (d : Deed) → Fact s (sight s h) l d → (is_homes d ≡ true → lane_sort s l ≡ Thread) → HomeStep h l d
home-step s h l (deed.Init m a hr) f t =
    init-step h (sight s h) l m a hr (thread_home h l) refl refl
    (subst (λ (x : LaneSort). initialised (sight s h) m (home_by_sort x (thread_home h l)) ≡ deed.Init m a hr) (t refl) f)
home-step s h l (deed.Uninit x zero) f t = left-step h l x (subst (λ (y : LaneSort). x ≡ home_by_sort y (thread_home h l)) (t refl) f)
home-step s h l (deed.Uninit x (suc n)) f t = lower-step h l n x (subst (λ (y : LaneSort). x ≡ home_by_sort y (thread_home h l)) (t refl) f)
home-step s h l _ f t = remains refl refl refl

pub next-home : (s : Scenario) (h : List Entry) (e : Entry) → Formed s → legal s (e ∷ h) → HomeStep h e.lane e.deed
next-home s h e f p =
    let z : Source s (sight s h) e.lane e.deed = next-source s h e.lane e.deed p.1 in
    home-step s h e.lane e.deed (source-fact s (sight s h) e.lane e.deed z) (source-thread s f h e.lane e.deed z)

-- ---- the tables of a legal history

not-ended : (h : List Entry) (e : Entry) (a : ℕ) → ends_sta e.deed ≡ None → ended (e ∷ h) a ≡ ended h a
not-ended h e a z = ap (λ (x : Option ℕ). is_number a x || ended h a) z

pub none-made : (h : List Entry) (e : Entry) → makes_sta e.deed ≡ None → next_sta (e ∷ h) ≡ next_sta h
none-made h e z = ap (λ (x : Option ℕ). length (with_last (stas h) x) + 3) z

pub one-made : (h : List Entry) (e : Entry) (a : ℕ) → makes_sta e.deed ≡ Some a → next_sta (e ∷ h) ≡ next_sta h + 1
one-made h e a z = ap (λ (x : Option ℕ). length (with_last (stas h) x) + 3) z ∙ omega (arith, length-append (stas h) (a ∷ []))

-- The home of a lane after an entry of a lane.
pub home-of-other : (h : List Entry) (e : Entry) (m : ℕ) → (e.lane == m) ≡ false → thread_home (e ∷ h) m ≡ thread_home h m
home-of-other h e m z = ap (λ (b : Bool). home_after (cond b (home_effect e.deed) Remains) (thread_home h m)) z

pub home-of-own : (h : List Entry) (e : Entry) (m : ℕ) (x : HomeEffect) → (e.lane == m) ≡ true → home_effect e.deed ≡ x → thread_home (e ∷ h) m ≡ home_after x (thread_home h m)
home-of-own h e m x z q = ap (λ (b : Bool). home_after (cond b (home_effect e.deed) Remains) (thread_home h m)) z ∙ ap (λ (y : HomeEffect). home_after y (thread_home h m)) q

either-lane : (P : Type 0) (b : Bool) → (b ≡ true → P) → (b ≡ false → P) → P
either-lane P true f g = f refl
either-lane P false f g = g refl

step-homes : (s : Scenario) (h : List Entry) (e : Entry) → HomeStep h e.lane e.deed → HomesBy (next_sta h) (ended h) (thread_home h) → HomesBy (next_sta (e ∷ h)) (ended (e ∷ h)) (thread_home (e ∷ h))
step-homes s h e (remains z m k) x =
    by-same (next_sta h) (next_sta (e ∷ h)) (ended h) (ended (e ∷ h)) (thread_home h) (thread_home (e ∷ h)) (none-made h e m) (λ a. not-ended h e a k)
    (λ j. either-lane _ (e.lane == j) (λ y. home-of-own h e j Remains y z) (λ y. home-of-other h e j y)) x
step-homes s h e (again a hr z q m k) x =
    by-same (next_sta h) (next_sta (e ∷ h)) (ended h) (ended (e ∷ h)) (thread_home h) (thread_home (e ∷ h)) (none-made h e m) (λ b. not-ended h e b k)
    (λ j. either-lane _ (e.lane == j) (λ y. home-of-own h e j (Initialises a hr) y z ∙ sym (subst (λ (i : ℕ). thread_home h i ≡ Some a) (eqb-true e.lane j y) q)) (λ y. home-of-other h e j y)) x
step-homes s h e (lowers w n z q m k) x =
    by-same (next_sta h) (next_sta (e ∷ h)) (ended h) (ended (e ∷ h)) (thread_home h) (thread_home (e ∷ h)) (none-made h e m) (λ b. not-ended h e b k)
    (λ j. either-lane _ (e.lane == j) (λ y. home-of-own h e j (Uninitialises w (suc n)) y z ∙ subst (λ (i : ℕ). w ≡ thread_home h i) (eqb-true e.lane j y) q) (λ y. home-of-other h e j y)) x
step-homes s h e (to_mta hr z w o m k) x =
    by-same (next_sta h) (next_sta (e ∷ h)) (ended h) (ended (e ∷ h)) (thread_home (e ∷ h)) (thread_home (e ∷ h)) (none-made h e m) (λ b. not-ended h e b k) (λ j. refl)
    (by-mta (next_sta h) (ended h) (thread_home h) (thread_home (e ∷ h))
    (λ j. either-lane _ (e.lane == j) (λ y. inr (home-of-own h e j (Initialises 1 hr) y z)) (λ y. inl (home-of-other h e j y))) x)
step-homes s h e (makes_one hr z w o m k) x =
    by-same (next_sta h + 1) (next_sta (e ∷ h)) (ended h) (ended (e ∷ h)) (thread_home (e ∷ h)) (thread_home (e ∷ h)) (one-made h e (next_sta h) m) (λ b. not-ended h e b k) (λ j. refl)
    (by-making (next_sta h) e.lane (ended h) (thread_home h) (thread_home (e ∷ h))
    (λ j. either-lane _ (e.lane == j) (λ y. inr (home-of-own h e j (Initialises (next_sta h) hr) y z, sym (eqb-true e.lane j y))) (λ y. inl (home-of-other h e j y))) x)
step-homes s h e (leaves w z q m k) x =
    by-same (next_sta h) (next_sta (e ∷ h)) (λ a. is_number a (sta_of w) || ended h a) (ended (e ∷ h)) (thread_home (e ∷ h)) (thread_home (e ∷ h)) (none-made h e m)
    (λ a. ap (λ (y : Option ℕ). is_number a y || ended h a) k) (λ j. refl)
    (by-leaving (next_sta h) e.lane (ended h) (thread_home h) (thread_home (e ∷ h)) w q
    (λ j. either-lane _ (e.lane == j) (λ y. inr (home-of-own h e j (Uninitialises w zero) y z))
    (λ y. inl (home-of-other h e j y, λ i. differs e.lane j y (sym i)))) x)
  where
    differs : (a b : ℕ) → (a == b) ≡ false → a ≡ b → ⊥
    differs a b y i = let t : (a == a) ≡ false = subst (λ (c : ℕ). (a == c) ≡ false) (sym i) y in let r : (a == a) ≡ true = same-number a in absurd (true-false (a == a) r t)
      where
        true-false : (b : Bool) → b ≡ true → b ≡ false → ⊥
        true-false b p q = cc

first-homes : HomesBy 3 (ended []) (thread_home [])
first-homes = record {
  three = omega arith;
  low = λ a z. refl;
  past = λ a z. refl;
  lasting = λ l a z. refl;
  host = λ l a z. none-some a None refl z;
  within = λ l a z. none-some a None refl z;
  one = λ l m a y z w. none-some a None refl z;
}

pub legal-homes : (s : Scenario) (h : List Entry) → Formed s → legal s h → HomesBy (next_sta h) (ended h) (thread_home h)
legal-homes s [] f p = first-homes
legal-homes s (e ∷ h) f p = step-homes s h e (next-home s h e f p) (legal-homes s h f p.0)
