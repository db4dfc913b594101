-- A script whose lane gets or loses its home holds nothing then, so its places stay.
use Rattle.std.proofs.Common.{subst, sym, ap, ◌∙◌, ◌⊎◌, inl, inr, eqb-true, arith}
use Rattle.std.proofs.lemmas.List.Sums.{sum_by-cons}
use Rattle.std.specs.Prelude.{◌≡◌, refl, ℕ, zero, suc, ◌+◌, true, false, ◌==◌, List, [], ◌∷◌, Option, Some, None, All}
use Rattle.com_base.specs.declared.value.RefValue.{RefValue}
use Rattle.com_refs_books.proofs.Sums.{sum-same}
use Rattle.com_model.specs.declared.deeds.Deed.{Deed}
use Rattle.com_model.specs.declared.deeds.Deed.TheVariants as deed
use Rattle.com_model.specs.declared.deeds.Entry.{Entry}
use Rattle.com_model.specs.declared.scenario.Scenario.{Scenario}
use Rattle.com_model.specs.Tables.{LaneSort, Thread, Host, Pool, NoLane, lane_sort, threads}
use Rattle.com_model.specs.Apartments.{home_effect, home_after, thread_home, home_by_sort, home}
use Rattle.com_model.specs.Objects.{class_of, named}
use Rattle.com_model.specs.Calls.{issue}
use Rattle.com_model.specs.Frames.{Scene, scene, Actor, actor_in, acting, outcome}
use Rattle.com_model.specs.Places.{Ground, Test, passes, in_slots, in_scripts}
use Rattle.com_model.specs.Sight.{Sight, sight}
use Rattle.com_model.specs.Rules.{legal}
use Rattle.com_model.specs.Formed.{Formed}
use Rattle.com_laws_balance.proofs.Carries.{HeldBy, all-head, all-tail}
use Rattle.com_laws_balance.proofs.Moves.{SceneBy, scene-by}
use Rattle.com_laws_balance.proofs.Says.{Says, next-says}
use Rattle.com_laws_balance.proofs.Homes.{home-other, home-own}
use Rattle.com_laws_balance.proofs.Bases.{S0, B0, K0, Base, I_of, L_of, Acting, acting-base}
use Rattle.com_laws_balance.proofs.Steps.{base-before, arrives-at, legal-base}
use Rattle.com_laws_places.proofs.Frames.{slots_at}
use Rattle.com_laws_places.proofs.Counted.{nulls-at}

-- A home stays, or there was none, or there is none now.
abbrev HomeKept : (before after : Option ℕ) → Type 0
HomeKept before after = (after ≡ before) ⊎ ((before ≡ None) ⊎ (after ≡ None))

sort-init : (sort : LaneSort) (b : ℕ) (x : Option ℕ) → home_by_sort sort x ≡ Some b → home_by_sort sort (Some b) ≡ home_by_sort sort x
sort-init Thread b x p = sym p
sort-init Host b x p = refl
sort-init Pool b x p = refl
sort-init NoLane b x p = refl

sort-end : (sort : LaneSort) (x : Option ℕ) → HomeKept (home_by_sort sort x) (home_by_sort sort None)
sort-end Thread x = inr (inr refl)
sort-end Host x = inl refl
sort-end Pool x = inl refl
sort-end NoLane x = inl refl

sort-again : (sort : LaneSort) (x : Option ℕ) → home_by_sort sort (home_by_sort sort x) ≡ home_by_sort sort x
sort-again Thread x = refl
sort-again Host x = refl
sort-again Pool x = refl
sort-again NoLane x = refl

own-kept : (s : Scenario) (v : Sight) (sort : LaneSort) (l : ℕ) (d : Deed) (x : Option ℕ) → v.home l ≡ home_by_sort sort x → Says s v l d → HomeKept (home_by_sort sort x) (home_by_sort sort (home_after (home_effect d) x))
own-kept s v sort l (deed.Init m b hr) x w (inl z) = inr (inl (sym w ∙ z))
own-kept s v sort l (deed.Init m b hr) x w (inr z) = inl (sort-init sort b x (sym w ∙ z))
own-kept s v sort l (deed.Uninit y zero) x w z = sort-end sort x
own-kept s v sort l (deed.Uninit y (suc n)) x w z = inl (subst (λ (u : Option ℕ). home_by_sort sort u ≡ home_by_sort sort x) (sym (z ∙ w)) (sort-again sort x))
own-kept s v sort l _ x w z = inl refl

home-kept : (s : Scenario) (h : List Entry) (e : Entry) (l : ℕ) → legal s (e ∷ h) → HomeKept (home s h l) (home s (e ∷ h) l)
home-kept s h e l q =
    elim (e.lane == l) as (λ t. (e.lane == l) ≡ t → HomeKept (home s h l) (home s (e ∷ h) l)) [
      | true ↦ λ z. subst (λ (x : Option ℕ). HomeKept (home s h l) x) (sym (home-own s h e l z))
          (own-kept s (sight s h) (lane_sort s l) l e.deed (thread_home h l) refl (subst (λ (k : ℕ). Says s (sight s h) k e.deed) (eqb-true e.lane l z) (next-says s h e.lane e.deed q.1)))
      | false ↦ λ z. inl (home-other s h e l z)
    ] refl

no-held : (P : RefValue → Type 0) (xs : List (Option RefValue)) → All (HeldBy P) xs → ((r : RefValue) → P r → ⊥) → (t : Test) → in_slots t xs ≡ 0
no-held P [] p f t = refl
no-held P (None ∷ xs) p f t =
    let rest : in_slots t xs ≡ 0 = no-held P xs (all-tail (HeldBy P) None xs p) f t in
    sum_by-cons (passes t) None xs ∙ omega (arith, rest)
no-held P (Some r ∷ xs) p f t = absurd (f r (all-head (HeldBy P) (Some r) xs p))

-- What scripts hold after an entry, they may hold by the homes before it.
held-before : (s : Scenario) (h : List Entry) (e : Entry) → Formed s → legal s (e ∷ h) → Base s h → SceneBy (S0 s h) (B0 (e ∷ h)) (K0 s (e ∷ h)) (scene s (e ∷ h))
unfolding Acting
held-before s h e f q b =
    let u : Actor = acting s (class_of h) (issue h) (scene s h) (actor_in s h e.lane) e.deed in
    let a : Acting s h e u = acting-base s h e f q in
    scene-by s (S0 s h) (B0 (e ∷ h)) (K0 s (e ∷ h)) (I_of u) (L_of s h u) (class_of h) (named h) (issue h) u (actor_in s (e ∷ h) e.lane) e.lane e.deed (scene s h) a.0 a.1 a.2
    (arrives-at s h e e.deed u (outcome s (class_of h) (issue h) (scene s h) u) q b (next-says s h e.lane e.deed q.1) refl)
    (base-before s h e f q b)

-- A lane's home stays, or its script holds nothing.
abbrev pub HomesStay : (before after : ℕ → Option ℕ) → Scene → Type 0
HomesStay before after w = (l : ℕ) → (after l ≡ before l) ⊎ ((t : Test) → in_slots t (w.scripts l).slots ≡ 0)

pub homes-stay : (s : Scenario) (h : List Entry) (e : Entry) → Formed s → legal s (e ∷ h) → HomesStay (home s h) (home s (e ∷ h)) (scene s (e ∷ h))
homes-stay s h e f q l = by-home (home-kept s h e l q)
  where
    by-home : HomeKept (home s h l) (home s (e ∷ h) l) → (home s (e ∷ h) l ≡ home s h l) ⊎ ((t : Test) → in_slots t ((scene s (e ∷ h)).scripts l).slots ≡ 0)
    by-home (inl p) = inl p
    by-home (inr (inl p)) = inr (no-held (S0 s h l) ((scene s (e ∷ h)).scripts l).slots ((held-before s h e f q (legal-base s h f q.0)).scripts l).slots (λ r g. g p))
    by-home (inr (inr p)) = inr (no-held (S0 s (e ∷ h) l) ((scene s (e ∷ h)).scripts l).slots ((legal-base s (e ∷ h) f q).frames.scripts l).slots (λ r g. g p))

pub scripts-stay : (s : Scenario) (g k : Ground) (w : Scene) (a : ℕ) (t : Test) → HomesStay g.home k.home w → in_scripts s k w a t ≡ in_scripts s g w a t
scripts-stay s g k w a t p = sum-same (threads s + 1) (λ l. slots_at (k.home l) a t (w.scripts l).slots) (λ l. slots_at (g.home l) a t (w.scripts l).slots) (λ l low. one l (p l))
  where
    one : (l : ℕ) → (k.home l ≡ g.home l) ⊎ ((u : Test) → in_slots u (w.scripts l).slots ≡ 0) → slots_at (k.home l) a t (w.scripts l).slots ≡ slots_at (g.home l) a t (w.scripts l).slots
    one l (inl e) = ap (λ (x : Option ℕ). slots_at x a t (w.scripts l).slots) e
    one l (inr e) = nulls-at (k.home l) a t (w.scripts l).slots (e t) ∙ sym (nulls-at (g.home l) a t (w.scripts l).slots (e t))
