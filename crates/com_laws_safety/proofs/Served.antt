-- An STA that is a lane's home is served by the lane; and an object of an agile class is named with the neutral apartment.
use Rattle.std.proofs.Common.{subst, sym, ap, eqb-true, ◌∙◌}
use Rattle.std.specs.Prelude.{◌≡◌, refl, ℕ, zero, suc, Bool, true, false, cond, ◌==◌, ◌&&◌, List, [], ◌∷◌, Option, Some, None, option_map, ◌⊎◌}
use Rattle.std.proofs.Common.{inl, inr}
use Rattle.com_base.specs.declared.hresult.HResult.{HResult}
use Rattle.com_base.specs.declared.value.Mode.{Mode}
use Rattle.com_base.specs.declared.value.Mode.TheVariants as mode
use Rattle.com_model.specs.declared.deeds.Deed.{Deed}
use Rattle.com_model.specs.declared.deeds.Deed.TheVariants as deed
use Rattle.com_model.specs.declared.deeds.Entry.{Entry}
use Rattle.com_model.specs.declared.scenario.Scenario.{Scenario}
use Rattle.com_model.specs.Answers.{S_OK, is_S_OK}
use Rattle.com_model.specs.Lists.{where_true, is_number, number_or_zero}
use Rattle.com_model.specs.Tables.{LaneSort, Thread, Host, Pool, NoLane, lane_sort, is_agile_class}
use Rattle.com_model.specs.Openers.{Keeps, effect, opened, openers}
use Rattle.com_model.specs.declared.keeps.Opener.{Opener}
use Rattle.com_model.specs.Apartments.{is_sta, host_sta, HomeEffect, Uninitialises, Remains, home_effect, home_after, thread_home, home_by_sort, home, makes_sta, made_in, serves_by_sort, serves}
use Rattle.com_model.specs.Objects.{makes, made_or, making, asked_number, agile, named}
use Rattle.com_model.specs.declared.keeps.Making.{Making}
use Rattle.com_model.specs.Formed.{Formed}
use Rattle.com_model.specs.Deeds.{initialised, new_home}
use Rattle.com_model.specs.Sight.{Sight, sight}
use Rattle.com_model.specs.Rules.{legal}
use Rattle.com_model.specs.Safe.{maker, MadeOnTop}
use Rattle.com_laws_safety.proofs.Small.{and-both, or-left, or-right, same-number, some-number}
use Rattle.com_laws_safety.proofs.Sources.{Source, next-source}
use Rattle.com_laws_safety.proofs.Facts.{Fact, source-fact}
use Rattle.com_laws_safety.proofs.Threads.{is_homes, source-thread}

-- ---- the STAs that are homes of threads were made there

abbrev Served : List Entry → ℕ → Option ℕ → Type 0
Served h l None = Unit {0}
Served h l (Some a) = is_sta a ≡ true → made_in h l a ≡ true

more-served : (h : List Entry) (e : Entry) (l : ℕ) (x : Option ℕ) → Served h l x → Served (e ∷ h) l x
more-served h e l None p = tt
more-served h e l (Some a) p = λ q. or-right (e.lane == l && is_number a (makes_sta e.deed)) (made_in h l a) (p q)

-- What an Init of the lane makes its home.
same-init : (m n : Mode) (a b : ℕ) (x y : HResult) → deed.Init m a x ≡ deed.Init n b y → (m ≡ n) × (a ≡ b) × (x ≡ y)
same-init m n a b x y e = (cc, cc, cc)

new-served : (h : List Entry) (e : Entry) (l : ℕ) (v : Sight) (m : Mode) (a : ℕ) (hr : HResult) → (e.lane == l) ≡ true → e.deed ≡ deed.Init m a hr → deed.Init m (new_home v m) S_OK ≡ deed.Init m a hr → is_sta a ≡ true → made_in (e ∷ h) l a ≡ true
new-served h e l v mode.Sta a hr q d i t =
    or-left (e.lane == l && is_number a (makes_sta e.deed)) (made_in h l a)
    (and-both (e.lane == l) (is_number a (makes_sta e.deed)) q
    (subst (λ (y : Deed). is_number a (makes_sta y) ≡ true) (sym d)
    (subst (λ (x : HResult). is_number a (where_true (is_S_OK x) a) ≡ true) (same-init mode.Sta mode.Sta _ a S_OK hr i).2 (same-number a))))
new-served h e l v mode.Mta a hr q d i t = let z : is_sta (new_home v mode.Mta) ≡ true = subst (λ (x : ℕ). is_sta x ≡ true) (sym (same-init mode.Mta mode.Mta _ a S_OK hr i).1) t in cc

init-served : (h : List Entry) (e : Entry) (l : ℕ) (v : Sight) (m : Mode) (a : ℕ) (hr : HResult) (before : Option ℕ) → (e.lane == l) ≡ true → e.deed ≡ deed.Init m a hr → initialised v m before ≡ deed.Init m a hr → Served h l before → Served (e ∷ h) l (Some a)
init-served h e l v m a hr None q d i p = new-served h e l v m a hr q d i
init-served h e l v m a hr (Some b) q d i p = subst (λ (x : ℕ). Served (e ∷ h) l (Some x)) (same-init m m b a _ hr i).1 (more-served h e l (Some b) p)

uninit-served : (h : List Entry) (l : ℕ) (a before : Option ℕ) (n : ℕ) → a ≡ before → Served h l before → Served h l (home_after (Uninitialises a n) before)
uninit-served h l a before zero e p = tt
uninit-served h l a before (suc n) e p = subst (Served h l) (sym e) p

own-served : (s : Scenario) (h : List Entry) (e : Entry) (l : ℕ) (d : Deed) → e.deed ≡ d → (e.lane == l) ≡ true → Fact s (sight s h) l d → (is_homes d ≡ true → lane_sort s l ≡ Thread) → Served h l (thread_home h l) → Served (e ∷ h) l (home_after (home_effect d) (thread_home h l))
own-served s h e l (deed.Init m a hr) d q f t p = init-served h e l (sight s h) m a hr (thread_home h l) q d (subst (λ (x : LaneSort). initialised (sight s h) m (home_by_sort x (thread_home h l)) ≡ deed.Init m a hr) (t refl) f) p
own-served s h e l (deed.Uninit a n) d q f t p = uninit-served (e ∷ h) l a (thread_home h l) n (subst (λ (x : LaneSort). a ≡ home_by_sort x (thread_home h l)) (t refl) f) (more-served h e l (thread_home h l) p)
own-served s h e l _ d q f t p = more-served h e l (thread_home h l) p

step-served : (s : Scenario) (h : List Entry) (e : Entry) (l : ℕ) (b : Bool) → (e.lane == l) ≡ b → Fact s (sight s h) e.lane e.deed → (is_homes e.deed ≡ true → lane_sort s e.lane ≡ Thread) → Served h l (thread_home h l) → Served (e ∷ h) l (home_after (cond b (home_effect e.deed) Remains) (thread_home h l))
step-served s h e l true q f t p =
    own-served s h e l e.deed refl q (subst (λ (x : ℕ). Fact s (sight s h) x e.deed) (eqb-true e.lane l q) f) (λ z. subst (λ (x : ℕ). lane_sort s x ≡ Thread) (eqb-true e.lane l q) (t z)) p
step-served s h e l false q f t p = more-served h e l (thread_home h l) p

legal-served : (s : Scenario) (h : List Entry) (l : ℕ) → Formed s → legal s h → Served h l (thread_home h l)
legal-served s [] l f p = tt
legal-served s (e ∷ h) l f p =
    let z : Source s (sight s h) e.lane e.deed = next-source s h e.lane e.deed p.1 in
    step-served s h e l (e.lane == l) refl (source-fact s (sight s h) e.lane e.deed z) (source-thread s f h e.lane e.deed z) (legal-served s h l f p.0)

thread-served : (h : List Entry) (l a : ℕ) (x : Option ℕ) → x ≡ Some a → Served h l x → is_sta a ≡ true → made_in h l a ≡ true
thread-served h l a x e p = subst (Served h l) e p

sort-served : (h : List Entry) (l a : ℕ) (sort : LaneSort) → Served h l (thread_home h l) → home_by_sort sort (thread_home h l) ≡ Some a → is_sta a ≡ true → serves_by_sort sort (made_in h l a) a ≡ true
sort-served h l a Thread p e t = thread-served h l a (thread_home h l) e p t
sort-served h l a Host p e t = subst (λ (x : ℕ). (x == host_sta) ≡ true) (some-number host_sta a e) refl
sort-served h l a Pool p e t = let z : is_sta 1 ≡ true = subst (λ (x : ℕ). is_sta x ≡ true) (sym (some-number 1 a e)) t in cc
sort-served h l a NoLane p e t = cc

pub home-served : (s : Scenario) (h : List Entry) (l a : ℕ) → Formed s → legal s h → home s h l ≡ Some a → is_sta a ≡ true → serves s h l a ≡ true
home-served s h l a f p = sort-served h l a (lane_sort s l) (legal-served s h l f p)

-- ---- the home of a lane stays, or nothing is open there

stays-on-top : (d : Deed) (os : List Opener) → MadeOnTop (maker d) os → (opened (effect d) os ≡ []) ⊎ (home_effect d ≡ Remains)
stays-on-top (deed.Init m a hr) [] p = inl refl
stays-on-top (deed.Init m a hr) (o ∷ os) p = absurd p
stays-on-top (deed.Uninit a n) [] p = inl refl
stays-on-top (deed.Uninit a n) (o ∷ os) p = absurd p
stays-on-top _ os p = inr refl

stays-in : (s : Scenario) (h : List Entry) (e : Entry) (l : ℕ) (b : Bool) → (e.lane == l) ≡ b → MadeOnTop (maker e.deed) (openers h e.lane) → (opened (cond b (effect e.deed) Keeps) (openers h l) ≡ []) ⊎ (home_by_sort (lane_sort s l) (home_after (cond b (home_effect e.deed) Remains) (thread_home h l)) ≡ home s h l)
stays-in s h e l false q p = inr refl
stays-in s h e l true q p = either (stays-on-top e.deed (openers h l) (subst (λ (x : ℕ). MadeOnTop (maker e.deed) (openers h x)) (eqb-true e.lane l q) p))
  where
    either : (opened (effect e.deed) (openers h l) ≡ []) ⊎ (home_effect e.deed ≡ Remains) → (opened (effect e.deed) (openers h l) ≡ []) ⊎ (home_by_sort (lane_sort s l) (home_after (home_effect e.deed) (thread_home h l)) ≡ home s h l)
    either (inl x) = inl x
    either (inr x) = inr (ap (λ (y : HomeEffect). home_by_sort (lane_sort s l) (home_after y (thread_home h l))) x)

pub home-stays : (s : Scenario) (h : List Entry) (e : Entry) (l : ℕ) → MadeOnTop (maker e.deed) (openers h e.lane) → (openers (e ∷ h) l ≡ []) ⊎ (home s (e ∷ h) l ≡ home s h l)
home-stays s h e l p = stays-in s h e l (e.lane == l) refl p

-- ---- an agile object is named with the neutral apartment

abbrev Well : Scenario → Option Making → Type 0
Well s None = Unit {0}
Well s (Some m) = is_agile_class s m.class ≡ true → m.apartment ≡ 0

well-or : (s : Scenario) (b : Bool) (m : Making) (x : Option Making) → Well s (Some m) → Well s x → Well s (cond b (Some m) x)
well-or s true m x p q = p
well-or s false m x p q = q

well-step : (s : Scenario) (v : Sight) (l o : ℕ) (d : Deed) (x : Option Making) → Fact s v l d → Well s x → Well s (made_or (makes d) o x)
well-step s v l o (deed.Made (Some k) (Some a) c i hr) x f p = well-or s (k == o) (record { object = k; apartment = a; class = asked_number c }) x f p
well-step s v l o (deed.Made (Some k) None c i hr) x f p = p
well-step s v l o (deed.Made None a c i hr) x f p = p
well-step s v l o _ x f p = p

legal-well : (s : Scenario) (h : List Entry) (o : ℕ) → legal s h → Well s (making h o)
legal-well s [] o p = tt
legal-well s (e ∷ h) o p = well-step s (sight s h) e.lane o e.deed (making h o) (source-fact s (sight s h) e.lane e.deed (next-source s h e.lane e.deed p.1)) (legal-well s h o p.0)

abbrev pub named-of : Option Making → ℕ
named-of x = number_or_zero (option_map (λ (m : Making). m.apartment) x)

abbrev pub class-in : Option Making → ℕ
class-in x = number_or_zero (option_map (λ (m : Making). m.class) x)

pub agile-neutral : (s : Scenario) (h : List Entry) (o : ℕ) → legal s h → agile s h o ≡ true → named h o ≡ 0
agile-neutral s h o p e = of-making (making h o) refl (legal-well s h o p)
  where
    of-making : (x : Option Making) → making h o ≡ x → Well s x → named h o ≡ 0
    of-making None q w = ap named-of q
    of-making (Some m) q w = ap named-of q ∙ w (subst (λ (y : Option Making). is_agile_class s (class-in y) ≡ true) q e)
