-- Each STA is served by one lane, so all bodies that are open in it stand there.
use Rattle.std.proofs.Common.{refl, sym, ap, subst, ◌∙◌, ◌⊎◌, inl, inr, eqb-true, arith}
use Rattle.std.proofs.lemmas.Grind.{common_steps}
use Rattle.std.proofs.lemmas.List.{length-append}
use Rattle.std.specs.Prelude.{◌≡◌, ℕ, ◌+◌, ◌≤◌, ◌<◌, Bool, true, false, cond, ◌&&◌, ◌||◌, ◌==◌, nat_le, List, [], ◌∷◌, ◌++◌, length, Option, Some, None}
use Rattle.com_base.specs.declared.hresult.HResult.{HResult}
use Rattle.com_base.specs.declared.value.Mode.{Mode}
use Rattle.com_base.specs.declared.value.Mode.TheVariants as mode
use Rattle.com_model.specs.declared.deeds.Deed.{Deed}
use Rattle.com_model.specs.declared.deeds.Deed.TheVariants as deed
use Rattle.com_model.specs.declared.deeds.Entry.{Entry}
use Rattle.com_model.specs.declared.scenario.Scenario.{Scenario}
use Rattle.com_model.specs.declared.keeps.Opener.{Opener}
use Rattle.com_model.specs.declared.keeps.Opener.TheVariants.{Pumps, Waits, Enters}
use Rattle.com_model.specs.Answers.{S_OK, S_FALSE, RPC_E_CHANGED_MODE, is_S_OK}
use Rattle.com_model.specs.Lists.{is_number, where_true}
use Rattle.com_model.specs.Tables.{LaneSort, Thread, Host, Pool, NoLane, lane_sort, threads, host_lane, lanes}
use Rattle.com_model.specs.Openers.{openers}
use Rattle.com_model.specs.Apartments.{is_sta, home, makes_sta, with_last, stas, next_sta, made_in, serves_by_sort, serves, host_sta}
use Rattle.com_model.specs.Deeds.{initialised, has_mode}
use Rattle.com_model.specs.Formed.{Formed}
use Rattle.com_model.specs.Rules.{legal}
use Rattle.com_model.specs.Safe.{EachPrefix, Stacked, InServing}
use Rattle.com_model.specs.Sight.{Sight, sight}
use Rattle.com_laws_safety.proofs.Facts.{Fact, source-fact}
use Rattle.com_laws_safety.proofs.Sources.{next-source}
use Rattle.com_laws_safety.proofs.Ready.{legal-one-stack}
use Rattle.com_laws_sources.specs.Servers.{Stands, OneLane}

-- ---- an STA is new when it is made

same-init : (m n : Mode) (a b : ℕ) (x y : HResult) → deed.Init m a x ≡ deed.Init n b y → (a ≡ b) × (x ≡ y)
same-init m n a b x y e = (cc, cc)

some-same : (a b : ℕ) → Some a ≡ Some b → a ≡ b
some-same a b e = cc

init-new : (v : Sight) (x : Option ℕ) (a b : ℕ) (hr : HResult) → initialised v mode.Sta x ≡ deed.Init mode.Sta b hr → where_true (is_S_OK hr) b ≡ Some a → a ≡ v.next_sta
init-new v None a b hr e q =
    let p : (v.next_sta ≡ b) × (S_OK ≡ hr) = same-init mode.Sta mode.Sta v.next_sta b S_OK hr e in
    let r : Some b ≡ Some a = subst (λ (y : HResult). where_true (is_S_OK y) b ≡ Some a) (sym p.1) q in
    sym (some-same b a r) ∙ sym p.0
init-new v (Some y) a b hr e q =
    let p : (y ≡ b) × (cond (has_mode mode.Sta y) S_FALSE RPC_E_CHANGED_MODE ≡ hr) = same-init mode.Sta mode.Sta y b _ hr e in
    absurd (refused (has_mode mode.Sta y) (subst (λ (z : HResult). where_true (is_S_OK z) b ≡ Some a) (sym p.1) q))
  where
    refused : (t : Bool) → where_true (is_S_OK (cond t S_FALSE RPC_E_CHANGED_MODE)) b ≡ Some a → ⊥
    refused true q = cc
    refused false q = cc

new-sta : (s : Scenario) (h : List Entry) (l a : ℕ) (d : Deed) → Fact s (sight s h) l d → makes_sta d ≡ Some a → a ≡ next_sta h
new-sta s h l a (deed.Init mode.Sta b hr) f q = init-new (sight s h) (home s h l) a b hr f q
new-sta s h l a (deed.Init mode.Mta b hr) f q = cc
new-sta s h l a _ f q = cc

pub number-is : (a : ℕ) (x : Option ℕ) → is_number a x ≡ true → x ≡ Some a
number-is a None e = cc
number-is a (Some b) e = ap (λ (n : ℕ). Some n) (sym (eqb-true a b e))

-- ---- STAs have one maker

last-more : (xs : List ℕ) (x : Option ℕ) → length xs ≤ length (with_last xs x)
last-more xs None = omega arith
last-more xs (Some y) = let e : length (xs ++ (y ∷ [])) ≡ length xs + length (y ∷ []) = length-append xs (y ∷ []) in omega (arith, e)

last-one : (xs : List ℕ) (x : Option ℕ) (y : ℕ) → x ≡ Some y → length (with_last xs x) ≡ length xs + 1
last-one xs x y e = ap (λ (z : Option ℕ). length (with_last xs z)) e ∙ length-append xs (y ∷ [])

abbrev Within : List Entry → ℕ → Type 0
Within h a = (3 ≤ a) × (a < next_sta h)

-- The entry makes the STA in this lane, or it was made there before.
made-by : (h : List Entry) (e : Entry) (l a : ℕ) (b c d : Bool) → (e.lane == l) ≡ b → is_number a (makes_sta e.deed) ≡ c → made_in h l a ≡ d → ((b && c) || d) ≡ true → ((e.lane ≡ l) × (makes_sta e.deed ≡ Some a)) ⊎ (made_in h l a ≡ true)
made-by h e l a true true d p q r t = inl (eqb-true e.lane l p, number-is a (makes_sta e.deed) q)
made-by h e l a true false d p q r t = inr (r ∙ t)
made-by h e l a false c d p q r t = inr (r ∙ t)

made-split : (h : List Entry) (e : Entry) (l a : ℕ) → made_in (e ∷ h) l a ≡ true → ((e.lane ≡ l) × (makes_sta e.deed ≡ Some a)) ⊎ (made_in h l a ≡ true)
made-split h e l a t = made-by h e l a (e.lane == l) (is_number a (makes_sta e.deed)) (made_in h l a) refl refl refl t

pub entry-new : (s : Scenario) (h : List Entry) (e : Entry) (a : ℕ) → legal s (e ∷ h) → makes_sta e.deed ≡ Some a → a ≡ next_sta h
entry-new s h e a q m = new-sta s h e.lane a e.deed (source-fact s (sight s h) e.lane e.deed (next-source s h e.lane e.deed q.1)) m

made-within : (s : Scenario) (h : List Entry) (l a : ℕ) → legal s h → made_in h l a ≡ true → Within h a
made-within s [] l a q t = cc
made-within s (e ∷ h) l a q t =
    elim (made-split h e l a t) as (λ _. Within (e ∷ h) a) [
      | inl p ↦ let n : a ≡ next_sta h = entry-new s h e a q p.1 in
          let k : length (with_last (stas h) (makes_sta e.deed)) ≡ length (stas h) + 1 = last-one (stas h) (makes_sta e.deed) a p.1 in
          (omega (arith, n), omega (arith, n, k))
      | inr p ↦ let w : Within h a = made-within s h l a q.0 p in
          let k : length (stas h) ≤ length (with_last (stas h) (makes_sta e.deed)) = last-more (stas h) (makes_sta e.deed) in
          let low : 3 ≤ a = w.0 in
          let high : a < next_sta h = w.1 in
          (low, omega (arith, high, k))
    ]

not-again : (s : Scenario) (h : List Entry) (e : Entry) (l a : ℕ) → legal s (e ∷ h) → makes_sta e.deed ≡ Some a → made_in h l a ≡ true → ⊥
not-again s h e l a q m t =
    let n : a ≡ next_sta h = entry-new s h e a q m in
    let w : Within h a = made-within s h l a q.0 t in
    let high : a < next_sta h = w.1 in omega (arith, n, high)

one-maker : (s : Scenario) (h : List Entry) (l m a : ℕ) → legal s h → made_in h l a ≡ true → made_in h m a ≡ true → l ≡ m
one-maker s [] l m a q t u = cc
one-maker s (e ∷ h) l m a q t u =
    elim (made-split h e l a t) as (λ _. l ≡ m) [
      | inl p ↦ elim (made-split h e m a u) as (λ _. l ≡ m) [
        | inl r ↦ sym p.0 ∙ r.0
        | inr r ↦ absurd (not-again s h e m a q p.1 r)
      ]
      | inr p ↦ elim (made-split h e m a u) as (λ _. l ≡ m) [
        | inl r ↦ absurd (not-again s h e l a q r.1 p)
        | inr r ↦ one-maker s h l m a q.0 p r
      ]
    ]

-- ---- an STA has one server

host-by : (b c d e : Bool) → cond b NoLane (cond c Thread (cond d Host (cond e Pool NoLane))) ≡ Host → d ≡ true
host-by true c d e p = cc
host-by false true d e p = cc
host-by false false true e p = refl
host-by false false false true p = cc
host-by false false false false p = cc

host-is : (s : Scenario) (l : ℕ) → lane_sort s l ≡ Host → l ≡ host_lane s
host-is s l e = eqb-true l (host_lane s) (host-by (l == 0) (nat_le l (threads s)) (l == host_lane s) (nat_le l (lanes s)) e)

no-pool : (a : ℕ) → is_sta a ≡ true → nat_le a 1 ≡ true → ⊥
no-pool a p q = grind (arith, common_steps)

made-not-host : (s : Scenario) (h : List Entry) (l a : ℕ) → legal s h → made_in h l a ≡ true → (a == host_sta) ≡ true → ⊥
made-not-host s h l a q t u =
    let w : Within h a = made-within s h l a q t in
    let low : 3 ≤ a = w.0 in
    let z : a ≡ 2 = eqb-true a 2 u in omega (arith, low, z)

by-sorts : (s : Scenario) (h : List Entry) (l m a : ℕ) (x y : LaneSort) → legal s h → lane_sort s l ≡ x → lane_sort s m ≡ y → is_sta a ≡ true
    → serves_by_sort x (made_in h l a) a ≡ true → serves_by_sort y (made_in h m a) a ≡ true → l ≡ m
by-sorts s h l m a Thread Thread q p r t u v = one-maker s h l m a q u v
by-sorts s h l m a Thread Host q p r t u v = absurd (made-not-host s h l a q u v)
by-sorts s h l m a Host Thread q p r t u v = absurd (made-not-host s h m a q v u)
by-sorts s h l m a Host Host q p r t u v = host-is s l p ∙ sym (host-is s m r)
by-sorts s h l m a Pool y q p r t u v = absurd (no-pool a t u)
by-sorts s h l m a NoLane y q p r t u v = cc
by-sorts s h l m a Thread Pool q p r t u v = absurd (no-pool a t v)
by-sorts s h l m a Host Pool q p r t u v = absurd (no-pool a t v)
by-sorts s h l m a Thread NoLane q p r t u v = cc
by-sorts s h l m a Host NoLane q p r t u v = cc

pub one-server : (s : Scenario) (h : List Entry) (l m a : ℕ) → legal s h → is_sta a ≡ true → serves s h l a ≡ true → serves s h m a ≡ true → l ≡ m
one-server s h l m a q t u v = by-sorts s h l m a (lane_sort s l) (lane_sort s m) q refl refl t u v

-- ---- open bodies

pub serving-stands : (s : Scenario) (h : List Entry) (l c o a : ℕ) (os : List Opener) → InServing s h l os → Stands (Enters c o a) os → is_sta a ≡ true → serves s h l a ≡ true
serving-stands s h l c o a [] p m t = absurd m
serving-stands s h l c o a (Enters d x b ∷ os) p (inl e) t = subst (λ (k : ℕ). is_sta k ≡ true → serves s h l k ≡ true) (same-place e) p.0 t
  where
    same-place : Enters d x b ≡ Enters c o a → b ≡ a
    same-place e = cc
serving-stands s h l c o a (Enters d x b ∷ os) p (inr m) t = serving-stands s h l c o a os p.1 m t
serving-stands s h l c o a (Pumps n ∷ os) p (inl e) t = absurd (no-body e)
  where
    no-body : Pumps n ≡ Enters c o a → ⊥
    no-body e = cc
serving-stands s h l c o a (Pumps n ∷ os) p (inr m) t = serving-stands s h l c o a os p m t
serving-stands s h l c o a (Waits n ∷ os) p (inl e) t = absurd (no-body e)
  where
    no-body : Waits n ≡ Enters c o a → ⊥
    no-body e = cc
serving-stands s h l c o a (Waits n ∷ os) p (inr m) t = serving-stands s h l c o a os p m t

pub prefix-here : (P : List Entry → Type 0) (h : List Entry) → EachPrefix P h → P h
prefix-here P [] p = p
prefix-here P (e ∷ h) p = p.1

pub legal-one-lane : (s : Scenario) (h : List Entry) → Formed s → legal s h → OneLane h
legal-one-lane s h f q l m c o d x a t u v =
    let w : Stacked s h = prefix-here (Stacked s) h (legal-one-stack s h f q).0 in
    one-server s h l m a q t (serving-stands s h l c o a (openers h l) (w l).1 u t) (serving-stands s h m d x a (openers h m) (w m).1 v t)
