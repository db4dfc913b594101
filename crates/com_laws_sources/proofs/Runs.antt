-- A body that makes no call, in a history of which nothing else changes its frame or the cells of its object.
use Rattle.std.proofs.Common.{refl, sym, ap, ap₂, subst, ◌∙◌, inl, inr, eqb-true, arith}
use Rattle.std.proofs.lemmas.Bool.{false_from_ne_true, ltb-true, ltb-false}
use Rattle.std.specs.Prelude.{◌≡◌, ℕ, zero, suc, ◌≤◌, ◌<◌, Bool, true, false, cond, ◌==◌, nat_lt, List, [], ◌∷◌, Option, Some, None}
use Rattle.com_base.specs.declared.hresult.HResult.{HResult}
use Rattle.com_base.specs.declared.value.Value.{Value}
use Rattle.com_body.specs.declared.statements.Stmt.{Stmt}
use Rattle.com_body.specs.declared.actions.Action.{Action}
use Rattle.com_body.specs.declared.actions.Action.TheVariants as action
use Rattle.com_body.specs.declared.frame.Cells.{Cells}
use Rattle.com_body.specs.declared.frame.Outcome.{Outcome}
use Rattle.com_body.specs.Frames.{FrameView, entered}
use Rattle.com_body.specs.BodySteps.{body_step}
use Rattle.com_classes.specs.Lookups.{body_of}
use Rattle.com_model.specs.declared.deeds.Deed.{Deed}
use Rattle.com_model.specs.declared.deeds.Deed.TheVariants as deed
use Rattle.com_model.specs.declared.deeds.Entry.{Entry}
use Rattle.com_model.specs.declared.deeds.Route.{Route}
use Rattle.com_model.specs.declared.deeds.Route.TheVariants as route
use Rattle.com_model.specs.declared.scenario.Scenario.{Scenario}
use Rattle.com_model.specs.declared.keeps.Issue.{Issue}
use Rattle.com_model.specs.declared.keeps.Admission.{Admission}
use Rattle.com_model.specs.declared.keeps.Opener.{Opener}
use Rattle.com_model.specs.declared.keeps.Opener.TheVariants.{Waits, Enters}
use Rattle.com_model.specs.Lists.{first, without_first, is_number, where_true}
use Rattle.com_model.specs.Tables.{lane_sort, is_agile_class}
use Rattle.com_model.specs.Openers.{Effect, Opens, Closes, Keeps, effect, opened, openers}
use Rattle.com_model.specs.Apartments.{is_sta, home, serves, ends_sta}
use Rattle.com_model.specs.Objects.{agile, named, class_of, finals}
use Rattle.com_model.specs.Calls.{issue, calls, admitted, target, route_of}
use Rattle.com_model.specs.Frames.{Scene, scene, Actor, actor_in, outcome, acting, acted, is_leave}
use Rattle.com_model.specs.Formed.{Formed}
use Rattle.com_model.specs.Rules.{legal}
use Rattle.com_model.specs.Dying.{is_dying}
use Rattle.com_model.specs.Safe.{EntersBy, CanAdmit, Stacked}
use Rattle.com_model.specs.Sight.{sight}
use Rattle.com_laws_balance.proofs.Answered.{TopEnter, leave-top}
use Rattle.com_laws_balance.proofs.Bases.{actor-is, top-among, open-made}
use Rattle.com_laws_balance.proofs.Counts.{Among}
use Rattle.com_laws_balance.proofs.Directs.{issue-stays, admitted-past, openers-own, openers-other}
use Rattle.com_laws_balance.proofs.Makings.{same-class, open-owned, OwnedAt}
use Rattle.com_laws_balance.proofs.Stacks.{admission_in, open-admitted}
use Rattle.com_laws_balance.proofs.Tests.{enter-fresh}
use Rattle.com_laws_release.proofs.Clears.{Dead}
use Rattle.com_laws_release.proofs.Dyings.{dying-dead}
use Rattle.com_laws_safety.proofs.Facts.{Fact, source-fact}
use Rattle.com_laws_safety.proofs.Ready.{legal-one-stack}
use Rattle.com_laws_safety.proofs.Reentered.{legal-reentry}
use Rattle.com_laws_safety.proofs.Released.{legal-released}
use Rattle.com_laws_safety.specs.Released.{ReleasesOnce}
use Rattle.com_laws_safety.proofs.Served.{home-served}
use Rattle.com_laws_safety.proofs.Small.{not-both, same-number}
use Rattle.com_laws_safety.proofs.Sources.{next-source}
use Rattle.com_laws_sources.specs.Alone.{goes_on, alone}
use Rattle.com_laws_sources.specs.Histories.{given_to, enter_values}
use Rattle.com_laws_sources.specs.Runs.{at_begin, began, by_itself, Rest, Sits, StillAlone, LeavesAlone}
use Rattle.com_laws_sources.specs.Servers.{Stands}
use Rattle.com_laws_sources.specs.Steps.{body_for, step_of, IsLeave, result_of, StepsBy, GoesOn, acts_on, acts_for, begins_or_ends}
use Rattle.com_laws_sources.proofs.Framed.{frames-stay, goes-alone}
use Rattle.com_laws_sources.proofs.Servers.{one-server, serving-stands, prefix-here, legal-one-lane}
use Rattle.com_laws_sources.proofs.Stepped.{put-same, own-step, cells-stay}

-- ---- what is said of a call that stays open

pub call-low : (s : Scenario) (h : List Entry) (l c o a : ℕ) → legal s h → Among (Enters c o a) (openers h l) → c ≤ calls h
call-low s h l c o a q m =
    elim (nat_lt (calls h) c) as (λ t. nat_lt (calls h) c ≡ t → c ≤ calls h) [
      | true ↦ λ t. let k : calls h < c = ltb-true (calls h) c t in absurd (both (admitted h c) (open-admitted s h q l c o a m) (admitted-past s h c q (omega (arith, k))))
      | false ↦ λ t. ltb-false (calls h) c t
    ] refl
  where
    both : (x : Option Admission) → x ≡ Some (admission_in c l a) → x ≡ None → ⊥
    both x p r = cc

-- An Enter is of another call than those that are open.
pub fresh : (s : Scenario) (h : List Entry) (e : Entry) (l c o a k x b : ℕ) (t : Option ℕ) (vs : List Value) → legal s (e ∷ h) → Among (Enters c o a) (openers h l) → e.deed ≡ deed.Enter k x b t vs → k ≡ c → ⊥
fresh s h e l c o a k x b t vs q m d same =
    both (admitted h k) (enter-fresh s h e.lane k x b e.deed q.1 (ap effect d)) (ap (admitted h) same ∙ open-admitted s h q.0 l c o a m)
  where
    both : (y : Option Admission) → y ≡ None → y ≡ Some (admission_in c l a) → ⊥
    both y p r = cc

pub values-stay : (c : ℕ) (x : List Value) (d : Deed) → ((k o a : ℕ) (t : Option ℕ) (vs : List Value) → d ≡ deed.Enter k o a t vs → k ≡ c → ⊥) → enter_values d c x ≡ x
values-stay c x (deed.Enter k o a t vs) f = ap (λ (b : Bool). cond b vs x) (false_from_ne_true (k == c) (λ z. f k o a t vs refl (eqb-true k c z)))
values-stay c x _ f = refl

began-stays : (s : Scenario) (h : List Entry) (c : ℕ) (x : Cells) (d : Deed) → ((k o a : ℕ) (t : Option ℕ) (vs : List Value) → d ≡ deed.Enter k o a t vs → k ≡ c → ⊥) → at_begin s h d c x ≡ x
began-stays s h c x (deed.Enter k o a t vs) f = ap (λ (b : Bool). cond b ((scene s h).cells o) x) (false_from_ne_true (k == c) (λ z. f k o a t vs refl (eqb-true k c z)))
began-stays s h c x _ f = refl

pub record Same (s : Scenario) (h : List Entry) (e : Entry) (c o : ℕ) : Type 0 where
  pub issued : issue (e ∷ h) c ≡ issue h c
  pub class : class_of (e ∷ h) o ≡ class_of h o
  pub given : given_to (e ∷ h) c ≡ given_to h c
  pub begun : began s (e ∷ h) c ≡ began s h c

pub stays-same : (s : Scenario) (h : List Entry) (e : Entry) (l c o a : ℕ) → Formed s → legal s (e ∷ h) → Among (Enters c o a) (openers h l) → Same s h e c o
stays-same s h e l c o a f q m = record {
  issued = issue-stays s h e c q (call-low s h l c o a q.0 m);
  class = same-class s h e o f q (open-made s h f q.0 l c o a m);
  given = values-stay c (given_to h c) e.deed (λ k x b t vs d z. fresh s h e l c o a k x b t vs q m d z);
  begun = began-stays s h c (began s h c) e.deed (λ k x b t vs d z. fresh s h e l c o a k x b t vs q m d z);
}

same-itself : (s : Scenario) (h : List Entry) (e : Entry) (c o : ℕ) (i : Issue) (n : ℕ) → Same s h e c o → by_itself s (e ∷ h) c o i n ≡ by_itself s h c o i n
same-itself s h e c o i n z =
    ap (λ (k : ℕ). alone (body_of s.classes k i.iface i.method) n (entered (given_to (e ∷ h) c)) (began s (e ∷ h) c)) z.class
    ∙ ap (λ (vs : List Value). alone (body_for s h o i) n (entered vs) (began s (e ∷ h) c)) z.given
    ∙ ap (λ (d : Cells). alone (body_for s h o i) n (entered (given_to h c)) d) z.begun

same-sits : (s : Scenario) (h : List Entry) (e : Entry) (c o a : ℕ) (i : Issue) (n : ℕ) → Same s h e c o → Sits s (e ∷ h) c o a i n → Sits s h c o a i n
same-sits s h e c o a i n z p = record {
  sta = p.sta;
  not_agile = sym (ap (is_agile_class s) z.class) ∙ p.not_agile;
  issued = sym z.issued ∙ p.issued;
  leaves = subst (λ (r : Outcome). is_leave r.action ≡ true) (same-itself s h e c o i n z) p.leaves;
}

-- What is left, after an entry that leaves the frame and the cells.
rest-stays : (s : Scenario) (h : List Entry) (e : Entry) (c o : ℕ) (i : Issue) (n : ℕ) → Same s h e c o → (scene s (e ∷ h)).bodies c ≡ (scene s h).bodies c → (scene s (e ∷ h)).cells o ≡ (scene s h).cells o
    → Rest s h c o i n → Rest s (e ∷ h) c o i n
rest-stays s h e c o i n z p r w = record {
  steps = w.steps;
  same = ap (λ (k : ℕ). alone (body_of s.classes k i.iface i.method) w.steps ((scene s (e ∷ h)).bodies c) ((scene s (e ∷ h)).cells o)) z.class
      ∙ ap₂ (λ (f : FrameView) (d : Cells). alone (body_for s h o i) w.steps f d) p r ∙ w.same ∙ sym (same-itself s h e c o i n z);
}

-- ---- entries of other lanes

abbrev lane-in : Option Admission → ℕ
lane-in None = 0
lane-in (Some y) = y.lane

pub one-call : (s : Scenario) (h : List Entry) (l j c o a x b : ℕ) → legal s h → Among (Enters c o a) (openers h l) → Among (Enters c x b) (openers h j) → l ≡ j
one-call s h l j c o a x b q m r = sym (ap lane-in (open-admitted s h q l c o a m)) ∙ ap lane-in (open-admitted s h q j c x b r)

pub other-frame : (s : Scenario) (h : List Entry) (l j c o a : ℕ) → legal s h → Among (Enters c o a) (openers h l) → (l ≡ j → ⊥) → acts_for (actor_in s h j) c ≡ false
other-frame s h l j c o a q m n =
    actor-is (λ x. acts_for x c ≡ false) (lane_sort s j) j (openers h j)
    (λ k x b rest p. false_from_ne_true (c == k) (λ t. n (one-call s h l j c o a x b q m (subst (λ (y : ℕ). Among (Enters y x b) (openers h j)) (sym (eqb-true c k t)) (top-among k x b (openers h j) rest p)))))
    (λ p. refl) refl

pub stands-in : (o : Opener) (os : List Opener) → Among o os → Stands o os
stands-in o [] m = absurd m
stands-in o (x ∷ os) (inl p) = inl p
stands-in o (x ∷ os) (inr p) = inr (stands-in o os p)

owned : (s : Scenario) (h : List Entry) (o a : ℕ) → agile s h o ≡ false → OwnedAt s h o a → a ≡ named h o
owned s h o a n (inl p) = absurd (not-both (agile s h o) p n)
owned s h o a n (inr p) = p

pub named-in : (s : Scenario) (h : List Entry) (l c o a : ℕ) → Formed s → legal s h → agile s h o ≡ false → Among (Enters c o a) (openers h l) → a ≡ named h o
named-in s h l c o a f q n m = owned s h o a n (open-owned s h f q l c o a m)

pub other-cells : (s : Scenario) (h : List Entry) (l j c o a : ℕ) → Formed s → legal s h → is_sta a ≡ true → agile s h o ≡ false → Among (Enters c o a) (openers h l) → (l ≡ j → ⊥) → acts_on (actor_in s h j) o ≡ false
other-cells s h l j c o a f q sta g m n =
    actor-is (λ x. acts_on x o ≡ false) (lane_sort s j) j (openers h j)
    (λ k x b rest p. false_from_ne_true (o == x) (λ t.
    let r : Among (Enters k o b) (openers h j) = subst (λ (y : ℕ). Among (Enters k y b) (openers h j)) (sym (eqb-true o x t)) (top-among k x b (openers h j) rest p) in
    let z : b ≡ a = named-in s h j k o b f q g r ∙ sym (named-in s h l c o a f q g m) in
    n (legal-one-lane s h f q l j c o k o a sta (stands-in (Enters c o a) (openers h l) m) (subst (λ (y : ℕ). Stands (Enters k o y) (openers h j)) z (stands-in (Enters k o b) (openers h j) r)))))
    (λ p. refl) refl

pub no-begin : (c : ℕ) (d : Deed) → ((k o a : ℕ) (t : Option ℕ) (vs : List Value) → d ≡ deed.Enter k o a t vs → k ≡ c → ⊥) → ((k : ℕ) (hr : HResult) (v : Option Value) (bytes : Option (List ℕ)) → d ≡ deed.Leave k hr v bytes → k ≡ c → ⊥) → begins_or_ends d c ≡ false
no-begin c (deed.Enter k o a t vs) f g = false_from_ne_true (c == k) (λ z. f k o a t vs refl (sym (eqb-true c k z)))
no-begin c (deed.Leave k hr v bytes) f g = false_from_ne_true (c == k) (λ z. g k hr v bytes refl (sym (eqb-true c k z)))
no-begin c _ f g = refl

-- A body that is open has no Final, and its STA does not end.
pub no-final : (s : Scenario) (h : List Entry) (l o : ℕ) (d : Deed) → ReleasesOnce s h l d → (Dead s h o → ⊥) → Formed s → legal s h → is_number o (finals d) ≡ false
no-final s h l o (deed.Final k) r n f q = false_from_ne_true (o == k) (λ t. n (dying-dead s h o f q (subst (λ (x : ℕ). is_dying s h x ≡ true) (sym (eqb-true o k t)) r.2)))
no-final s h l o _ r n f q = refl

pub no-end : (s : Scenario) (h : List Entry) (j a : ℕ) (d : Deed) → Fact s (sight s h) j d → ((b : ℕ) → home s h j ≡ Some b → is_sta b ≡ true → a ≡ b → ⊥) → is_number a (ends_sta d) ≡ false
no-end s h j a (deed.Uninit (Some b) zero) p n =
    elim (is_sta b) as (λ t. is_sta b ≡ t → is_number a (where_true t b) ≡ false) [
      | true ↦ λ t. false_from_ne_true (a == b) (λ z. n b (sym p) t (eqb-true a b z))
      | false ↦ λ t. refl
    ] refl
no-end s h j a (deed.Uninit (Some b) (suc k)) p n = refl
no-end s h j a (deed.Uninit None k) p n = refl
no-end s h j a _ p n = refl

serves-open : (s : Scenario) (h : List Entry) (l c o a : ℕ) → Formed s → legal s h → is_sta a ≡ true → Among (Enters c o a) (openers h l) → serves s h l a ≡ true
serves-open s h l c o a f q sta m =
    let w : Stacked s h = prefix-here (Stacked s) h (legal-one-stack s h f q).0 in
    serving-stands s h l c o a (openers h l) (w l).1 (stands-in (Enters c o a) (openers h l) m) sta

-- An entry of another lane leaves a body that is open there before and after it, and the cells of its object.
pub other-scene : (s : Scenario) (h : List Entry) (e : Entry) (l c o a : ℕ) → Formed s → legal s (e ∷ h) → (l ≡ e.lane → ⊥) → Among (Enters c o a) (openers h l) → Among (Enters c o a) (openers (e ∷ h) l) → is_sta a ≡ true → agile s h o ≡ false
    → ((scene s (e ∷ h)).bodies c ≡ (scene s h).bodies c) × ((scene s (e ∷ h)).cells o ≡ (scene s h).cells o)
other-scene s h e l c o a f q away m k sta free =
    let frame : (scene s (e ∷ h)).bodies c ≡ (scene s h).bodies c =
    frames-stay s h e c (other-frame s h l e.lane c o a q.0 m away) (other-frame s (e ∷ h) l e.lane c o a q k away)
    (no-begin c e.deed (λ j x b t vs d z. fresh s h e l c o a j x b t vs q m d z)
    (λ j hr v bytes d z. let t : TopEnter (openers h e.lane) j = leave-top s h e.lane j e.deed hr v bytes q.1 d in
    away (one-call s h l e.lane c o a t.object t.apartment q.0 m (subst (λ (y : ℕ). Among (Enters y t.object t.apartment) (openers h e.lane)) z (top-among j t.object t.apartment (openers h e.lane) t.rest t.is))))) in
    let place : a ≡ named h o = named-in s h l c o a f q.0 free m in
    let ends : is_number a (ends_sta e.deed) ≡ false = no-end s h e.lane a e.deed (source-fact s (sight s h) e.lane e.deed (next-source s h e.lane e.deed q.1))
    (λ b hm t z. away (one-server s h l e.lane a q.0 sta (serves-open s h l c o a f q.0 sta m) (subst (λ (y : ℕ). serves s h e.lane y ≡ true) (sym z) (home-served s h e.lane b f q.0 hm t)))) in
    let cells : (scene s (e ∷ h)).cells o ≡ (scene s h).cells o =
    cells-stay s h e o (other-cells s h l e.lane c o a f q.0 sta free m away)
    (no-final s h e.lane o e.deed (legal-released s (e ∷ h) q).1 (λ d. d.not_open l c a m) f q.0)
    (subst (λ (y : ℕ). is_number y (ends_sta e.deed) ≡ false) place ends) in
    (frame, cells)

other-lane : (s : Scenario) (h : List Entry) (e : Entry) (l c o a : ℕ) (i : Issue) (n : ℕ) → Formed s → legal s (e ∷ h) → (l ≡ e.lane → ⊥) → Among (Enters c o a) (openers h l) → Among (Enters c o a) (openers (e ∷ h) l)
    → Sits s h c o a i n → Rest s h c o i n → Rest s (e ∷ h) c o i n
other-lane s h e l c o a i n f q away m k p w =
    let z : ((scene s (e ∷ h)).bodies c ≡ (scene s h).bodies c) × ((scene s (e ∷ h)).cells o ≡ (scene s h).cells o) = other-scene s h e l c o a f q away m k p.sta p.not_agile in
    rest-stays s h e c o i n (stays-same s h e l c o a f q m) z.0 z.1 w

-- ---- entries of the own lane

abbrev pub alone-by : List Stmt → ℕ → Outcome → Action → Outcome
alone-by b zero r x = r
alone-by b (suc k) r x = goes_on (alone b k) r x

pub alone-is : (b : List Stmt) (m : ℕ) (f : FrameView) (c : Cells) → alone b m f c ≡ alone-by b m (body_step b f c) (body_step b f c).action
alone-is b zero f c = refl
alone-is b (suc k) f c = refl

abbrev pub IsPlain : Action → Type 0
IsPlain (action.Copy to held) = ⊥
IsPlain (action.Release from held) = ⊥
IsPlain _ = Unit {0}

pub plain-ends : (b : List Stmt) (m : ℕ) (r : Outcome) (x : Action) → IsPlain x → alone-by b m r x ≡ r
plain-ends b zero r x p = refl
plain-ends b (suc k) r (action.Copy to held) p = absurd p
plain-ends b (suc k) r (action.Release from held) p = absurd p
plain-ends b (suc k) r x p = refl

-- Which actions a body may come to that leaves by itself.
abbrev pub GoesCase : ℕ → Action → Type 0
GoesCase m (action.Copy to held) = (k : ℕ) × (m ≡ suc k)
GoesCase m (action.Release from held) = (k : ℕ) × (m ≡ suc k)
GoesCase m (action.Leave hr v) = Unit {0}
GoesCase m _ = ⊥

pub not-true : false ≡ true → ⊥
not-true e = cc

is-leaving : (r : Outcome) (x : Action) → r.action ≡ x → is_leave r.action ≡ true → is_leave x ≡ true
is-leaving r x e p = subst (λ (y : Action). is_leave y ≡ true) e p

plain-leaves : (b : List Stmt) (m : ℕ) (r : Outcome) (x : Action) → IsPlain x → r.action ≡ x → is_leave (alone-by b m r x).action ≡ true → is_leave x ≡ true
plain-leaves b m r x k e p = is-leaving r x e (subst (λ (y : Outcome). is_leave y.action ≡ true) (plain-ends b m r x k) p)

pub goes-case : (b : List Stmt) (m : ℕ) (r : Outcome) (x : Action) → r.action ≡ x → is_leave (alone-by b m r x).action ≡ true → GoesCase m x
goes-case b zero r (action.Copy to held) e p = absurd (not-true (is-leaving r (action.Copy to held) e p))
goes-case b (suc k) r (action.Copy to held) e p = (k, refl)
goes-case b zero r (action.Release from held) e p = absurd (not-true (is-leaving r (action.Release from held) e p))
goes-case b (suc k) r (action.Release from held) e p = (k, refl)
goes-case b m r (action.Leave hr v) e p = tt
goes-case b m r x e p = absurd (not-true (plain-leaves b m r x tt e p))

pub top-case : (s : Scenario) (h : List Entry) (c o a : ℕ) (i : Issue) (n : ℕ) → Sits s h c o a i n → (w : Rest s h c o i n) → GoesCase w.steps (step_of s h c o i).action
top-case s h c o a i n p w =
    goes-case (body_for s h o i) w.steps (step_of s h c o i) (step_of s h c o i).action refl
    (subst (λ (r : Outcome). is_leave r.action ≡ true) (sym w.same ∙ alone-is (body_for s h o i) w.steps ((scene s h).bodies c) ((scene s h).cells o)) p.leaves)

leave-closes : (c : ℕ) (hr : HResult) (x : Option Value) (d : Deed) → IsLeave d c hr x → effect d ≡ Keeps → ⊥
leave-closes c hr x (deed.Leave k y v bytes) p e = cc
leave-closes c hr x _ p e = absurd p

leave-opens : (c : ℕ) (hr : HResult) (x : Option Value) (o : Opener) (d : Deed) → IsLeave d c hr x → effect d ≡ Opens o → ⊥
leave-opens c hr x o (deed.Leave k y v bytes) p e = cc
leave-opens c hr x o _ p e = absurd p

copy-opens : (x : Effect) (o : Opener) → x ≡ Keeps → x ≡ Opens o → ⊥
copy-opens x o p e = cc

-- The body on top goes on.
top-keeps : (s : Scenario) (h : List Entry) (e : Entry) (c o : ℕ) (i : Issue) (n : ℕ) (x : Action) → Same s h e c o → (w : Rest s h c o i n) → GoesCase w.steps x
    → StepsBy s h c o i (step_of s h c o i) e.deed (scene s (e ∷ h)) x → ((k : ℕ) → GoesOn s h e c o i k x) → effect e.deed ≡ Keeps → Rest s (e ∷ h) c o i n
top-keeps s h e c o i n (action.Copy to held) z w g b f p = record {
  steps = g.0;
  same = ap (λ (k : ℕ). alone (body_of s.classes k i.iface i.method) g.0 ((scene s (e ∷ h)).bodies c) ((scene s (e ∷ h)).cells o)) z.class
      ∙ f g.0 ∙ sym (ap (λ (m : ℕ). alone (body_for s h o i) m ((scene s h).bodies c) ((scene s h).cells o)) g.1) ∙ w.same ∙ sym (same-itself s h e c o i n z);
}
top-keeps s h e c o i n (action.Release from held) z w g b f p = record {
  steps = g.0;
  same = ap (λ (k : ℕ). alone (body_of s.classes k i.iface i.method) g.0 ((scene s (e ∷ h)).bodies c) ((scene s (e ∷ h)).cells o)) z.class
      ∙ f g.0 ∙ sym (ap (λ (m : ℕ). alone (body_for s h o i) m ((scene s h).bodies c) ((scene s h).cells o)) g.1) ∙ w.same ∙ sym (same-itself s h e c o i n z);
}
top-keeps s h e c o i n (action.Leave hr v) z w g b f p = absurd (leave-closes c hr (result_of s h i hr v) e.deed b.0 p)
top-keeps s h e c o i n _ z w g b f p = absurd g

-- The body on top opens nothing.
pub top-opens : (s : Scenario) (h : List Entry) (e : Entry) (c o m : ℕ) (i : Issue) (x : Action) (y : Opener) → GoesCase m x → StepsBy s h c o i (step_of s h c o i) e.deed (scene s (e ∷ h)) x → effect e.deed ≡ Opens y → ⊥
top-opens s h e c o m i (action.Copy to held) y g b p = copy-opens (effect e.deed) y (ap effect b.0) p
top-opens s h e c o m i (action.Release from held) y g b p = copy-opens (effect e.deed) y (ap effect b.0) p
top-opens s h e c o m i (action.Leave hr v) y g b p = leave-opens c hr (result_of s h i hr v) y e.deed b.0 p
top-opens s h e c o m i _ y g b p = absurd g

-- ---- an Enter

pub not-body : (s : Scenario) (h : List Entry) (l c k x b : ℕ) (t : Option ℕ) (rest : List Opener) (r : Route) (sta : Bool) → EntersBy s h l c t r sta → openers h l ≡ Enters k x b ∷ rest → ⊥
not-body s h l c k x b t rest route.Post true p e = subst (λ (os : List Opener). CanAdmit s h l os) e p.1
not-body s h l c k x b t rest route.Post false p e = none-open (openers h l) p.2 e
  where
    none-open : (os : List Opener) → os ≡ [] → os ≡ Enters k x b ∷ rest → ⊥
    none-open os p e = cc
not-body s h l c k x b t rest route.Direct sta p e = waits-open (openers h l) p.0 e
  where
    waits-open : (os : List Opener) → first os ≡ Some (Waits c) → os ≡ Enters k x b ∷ rest → ⊥
    waits-open os p e = cc
not-body s h l c k x b t rest route.Switch sta p e = waits-open (openers h l) p.0 e
  where
    waits-open : (os : List Opener) → first os ≡ Some (Waits c) → os ≡ Enters k x b ∷ rest → ⊥
    waits-open os p e = cc
not-body s h l c k x b t rest route.Refused sta p e = waits-open (openers h l) p.0 e
  where
    waits-open : (os : List Opener) → first os ≡ Some (Waits c) → os ≡ Enters k x b ∷ rest → ⊥
    waits-open os p e = cc

abbrev enter-of : ℕ → (c o a : ℕ) → Option ℕ → List Value → Entry
enter-of l c o a t vs = record { lane = l; deed = deed.Enter c o a t vs }

enter-rest : (s : Scenario) (h : List Entry) (l c o a : ℕ) (t : Option ℕ) (vs : List Value) (i : Issue) (n : ℕ) → legal s (enter-of l c o a t vs ∷ h) → Rest s (enter-of l c o a t vs ∷ h) c o i n
enter-rest s h l c o a t vs i n q =
    let e : Entry = enter-of l c o a t vs in
    let quiet : acts_on (actor_in s h l) o ≡ false = actor-is (λ x. acts_on x o ≡ false) (lane_sort s l) l (openers h l)
    (λ k x b rest p. absurd (not-body s h l c k x b t rest (route_of (issue h c)) (is_sta (named h (target h c))) (legal-reentry s (e ∷ h) q).1 p)) (λ p. refl) refl in
    let cells : (scene s (e ∷ h)).cells o ≡ (scene s h).cells o = cells-stay s h e o quiet refl refl in
    let u : Actor = acting s (class_of h) (issue h) (scene s h) (actor_in s h l) e.deed in
    let x : Scene = acted u (outcome s (class_of h) (issue h) (scene s h) u) e.deed (scene s h) in
    let frame : (scene s (e ∷ h)).bodies c ≡ entered vs = put-same c (entered vs) x.bodies in
    let given : given_to (e ∷ h) c ≡ vs = ap (λ (b : Bool). cond b vs (given_to h c)) (same-number c) in
    let begun : began s (e ∷ h) c ≡ (scene s h).cells o = ap (λ (b : Bool). cond b ((scene s h).cells o) (began s h c)) (same-number c) in
    record { steps = n; same = ap₂ (λ (f : FrameView) (d : Cells). alone (body_for s (e ∷ h) o i) n f d) (frame ∙ sym (ap entered given)) (cells ∙ sym begun) }

pub enters-rest : (s : Scenario) (h : List Entry) (l c o a : ℕ) (i : Issue) (n : ℕ) (d : Deed) → legal s (record { lane = l; deed = d } ∷ h) → effect d ≡ Opens (Enters c o a) → Rest s (record { lane = l; deed = d } ∷ h) c o i n
enters-rest s h l c o a i n (deed.Enter k x b t vs) q p =
    subst (λ (j : ℕ). Rest s (enter-of l k x b t vs ∷ h) j o i n) (call-of p)
    (subst (λ (y : ℕ). Rest s (enter-of l k x b t vs ∷ h) k y i n) (object-of p) (enter-rest s h l k x b t vs i n q))
  where
    call-of : Opens (Enters k x b) ≡ Opens (Enters c o a) → k ≡ c
    call-of e = cc

    object-of : Opens (Enters k x b) ≡ Opens (Enters c o a) → x ≡ o
    object-of e = cc
enters-rest s h l c o a i n _ q p = cc

-- ---- every history

-- No body below another opener had left by itself: it has made a call.
abbrev BelowCalls : Scenario → List Entry → Type 0
BelowCalls s h = (l c o a : ℕ) (x : Opener) (os : List Opener) (i : Issue) (n : ℕ) → openers h l ≡ x ∷ os → Among (Enters c o a) os → Sits s h c o a i n → ⊥

pub first-same : (x y : Opener) (os xs : List Opener) → x ∷ os ≡ y ∷ xs → (x ≡ y) × (os ≡ xs)
first-same x y os xs e = (cc, cc)

top-after : (s : Scenario) (h : List Entry) (e : Entry) (c o a : ℕ) (os : List Opener) (i : Issue) (n : ℕ) (y : Effect) → Formed s → legal s (e ∷ h) → StillAlone s h → BelowCalls s h
    → effect e.deed ≡ y → opened y (openers h e.lane) ≡ Enters c o a ∷ os → Sits s (e ∷ h) c o a i n → Rest s (e ∷ h) c o i n
top-after s h e c o a os i n (Opens x) f q top low p r k =
    enters-rest s h e.lane c o a i n e.deed q (p ∙ ap Opens (first-same x (Enters c o a) (openers h e.lane) os r).0)
top-after s h e c o a os i n (Closes x) f q top low p r k =
    absurd (below (openers h e.lane) refl r)
  where
    below : (xs : List Opener) → openers h e.lane ≡ xs → without_first xs ≡ Enters c o a ∷ os → ⊥
    below [] z r = cc
    below (y ∷ ys) z r =
        let g : openers h e.lane ≡ y ∷ (Enters c o a ∷ os) = z ∙ ap (λ (us : List Opener). y ∷ us) r in
        let m : Among (Enters c o a) (openers h e.lane) = subst (λ (us : List Opener). Among (Enters c o a) us) (sym g) (inr (inl refl)) in
        low e.lane c o a y (Enters c o a ∷ os) i n g (inl refl) (same-sits s h e c o a i n (stays-same s h e e.lane c o a f q m) k)
top-after s h e c o a os i n Keeps f q top low p r k =
    let m : Among (Enters c o a) (openers h e.lane) = top-among c o a (openers h e.lane) os r in
    let z : Same s h e c o = stays-same s h e e.lane c o a f q m in
    let u : Sits s h c o a i n = same-sits s h e c o a i n z k in
    let w : Rest s h c o i n = top e.lane c o a os i n r u in
    top-keeps s h e c o i n (step_of s h c o i).action z w (top-case s h c o a i n u w) (own-step s h e q c o a os i r u.issued) (λ j. goes-alone s h e q c o a os i j r u.issued) p

below-after : (s : Scenario) (h : List Entry) (e : Entry) (c o a : ℕ) (x : Opener) (os : List Opener) (i : Issue) (n : ℕ) (y : Effect) → Formed s → legal s (e ∷ h) → StillAlone s h → BelowCalls s h
    → effect e.deed ≡ y → opened y (openers h e.lane) ≡ x ∷ os → Among (Enters c o a) os → Sits s (e ∷ h) c o a i n → ⊥
below-after s h e c o a x os i n (Opens v) f q top low p r m k =
    let rest : openers h e.lane ≡ os = (first-same v x (openers h e.lane) os r).1 in
    under os rest m
  where
    sits : Among (Enters c o a) (openers h e.lane) → Sits s h c o a i n
    sits j = same-sits s h e c o a i n (stays-same s h e e.lane c o a f q j) k

    under : (xs : List Opener) → openers h e.lane ≡ xs → Among (Enters c o a) xs → ⊥
    under [] z j = absurd j
    under (u ∷ us) z (inl j) =
        let g : openers h e.lane ≡ Enters c o a ∷ us = z ∙ ap (λ (t : Opener). t ∷ us) j in
        let w : Sits s h c o a i n = sits (top-among c o a (openers h e.lane) us g) in
        let t : Rest s h c o i n = top e.lane c o a us i n g w in
        top-opens s h e c o t.steps i (step_of s h c o i).action v (top-case s h c o a i n w t) (own-step s h e q c o a us i g w.issued) p
    under (u ∷ us) z (inr j) = low e.lane c o a u us i n z j (sits (subst (λ (ys : List Opener). Among (Enters c o a) ys) (sym z) (inr j)))
below-after s h e c o a x os i n (Closes v) f q top low p r m k = under (openers h e.lane) refl r
  where
    under : (xs : List Opener) → openers h e.lane ≡ xs → without_first xs ≡ x ∷ os → ⊥
    under [] z r = cc
    under (u ∷ us) z r =
        let g : openers h e.lane ≡ u ∷ (x ∷ os) = z ∙ ap (λ (ys : List Opener). u ∷ ys) r in
        let j : Among (Enters c o a) (openers h e.lane) = subst (λ (ys : List Opener). Among (Enters c o a) ys) (sym g) (inr (inr m)) in
        low e.lane c o a u (x ∷ os) i n g (inr m) (same-sits s h e c o a i n (stays-same s h e e.lane c o a f q j) k)
below-after s h e c o a x os i n Keeps f q top low p r m k =
    let j : Among (Enters c o a) (openers h e.lane) = subst (λ (ys : List Opener). Among (Enters c o a) ys) (sym r) (inr m) in
    low e.lane c o a x os i n r m (same-sits s h e c o a i n (stays-same s h e e.lane c o a f q j) k)

abbrev Both : Scenario → List Entry → Type 0
Both s h = StillAlone s h × BelowCalls s h

pub differs : (j l : ℕ) → (j == l) ≡ false → l ≡ j → ⊥
differs j l z e = not-both (j == l) (subst (λ (k : ℕ). (j == k) ≡ true) (sym e) (same-number j)) z

runs-step : (s : Scenario) (h : List Entry) (e : Entry) → Formed s → legal s (e ∷ h) → Both s h → Both s (e ∷ h)
runs-step s h e f q b = (still, below)
  where
    own-still : (c o a : ℕ) (os : List Opener) (i : Issue) (n : ℕ) → openers (e ∷ h) e.lane ≡ Enters c o a ∷ os → Sits s (e ∷ h) c o a i n → Rest s (e ∷ h) c o i n
    own-still c o a os i n r k = top-after s h e c o a os i n (effect e.deed) f q b.0 b.1 refl (sym (openers-own h e) ∙ r) k

    other-still : (l c o a : ℕ) (os : List Opener) (i : Issue) (n : ℕ) → (e.lane == l) ≡ false → openers (e ∷ h) l ≡ Enters c o a ∷ os → Sits s (e ∷ h) c o a i n → Rest s (e ∷ h) c o i n
    other-still l c o a os i n z r k =
        let g : openers h l ≡ Enters c o a ∷ os = sym (openers-other h e l z) ∙ r in
        let m : Among (Enters c o a) (openers h l) = top-among c o a (openers h l) os g in
        let u : Sits s h c o a i n = same-sits s h e c o a i n (stays-same s h e l c o a f q m) k in
        other-lane s h e l c o a i n f q (differs e.lane l z) m (top-among c o a (openers (e ∷ h) l) os r) u (b.0 l c o a os i n g u)

    still : StillAlone s (e ∷ h)
    still l c o a os i n r k =
        elim (e.lane == l) as (λ t. (e.lane == l) ≡ t → Rest s (e ∷ h) c o i n) [
          | true ↦ λ t. own-still c o a os i n (subst (λ (j : ℕ). openers (e ∷ h) j ≡ Enters c o a ∷ os) (sym (eqb-true e.lane l t)) r) k
          | false ↦ λ t. other-still l c o a os i n t r k
        ] refl

    other-below : (l c o a : ℕ) (x : Opener) (os : List Opener) (i : Issue) (n : ℕ) → (e.lane == l) ≡ false → openers (e ∷ h) l ≡ x ∷ os → Among (Enters c o a) os → Sits s (e ∷ h) c o a i n → ⊥
    other-below l c o a x os i n z r m k =
        let g : openers h l ≡ x ∷ os = sym (openers-other h e l z) ∙ r in
        let j : Among (Enters c o a) (openers h l) = subst (λ (ys : List Opener). Among (Enters c o a) ys) (sym g) (inr m) in
        b.1 l c o a x os i n g m (same-sits s h e c o a i n (stays-same s h e l c o a f q j) k)

    below : BelowCalls s (e ∷ h)
    below l c o a x os i n r m k =
        elim (e.lane == l) as (λ t. (e.lane == l) ≡ t → ⊥) [
          | true ↦ λ t. below-after s h e c o a x os i n (effect e.deed) f q b.0 b.1 refl (sym (openers-own h e) ∙ subst (λ (j : ℕ). openers (e ∷ h) j ≡ x ∷ os) (sym (eqb-true e.lane l t)) r) m k
          | false ↦ λ t. other-below l c o a x os i n t r m k
        ] refl

legal-both : (s : Scenario) (h : List Entry) → Formed s → legal s h → Both s h
legal-both s [] f q = (λ l c o a os i n r k. absurd (nothing (Enters c o a) os r), λ l c o a x os i n r m k. nothing x os r)
  where
    nothing : (x : Opener) (os : List Opener) → [] ≡ x ∷ os → ⊥
    nothing x os r = cc
legal-both s (e ∷ h) f q = runs-step s h e f q (legal-both s h f q.0)

pub legal-still : (s : Scenario) (h : List Entry) → Formed s → legal s h → StillAlone s h
legal-still s h f q = (legal-both s h f q).0

-- ---- the Leave

same-leave : (hr y : HResult) (x v : Option Value) → action.Leave hr x ≡ action.Leave y v → (hr ≡ y) × (x ≡ v)
same-leave hr y x v e = (cc, cc)

leave-by : (s : Scenario) (h : List Entry) (e : Entry) (c o m : ℕ) (i : Issue) (z : Action) (r : Outcome) (hr : HResult) (x : Option Value) → GoesCase m z → StepsBy s h c o i (step_of s h c o i) e.deed (scene s (e ∷ h)) z
    → (IsPlain z → r ≡ step_of s h c o i) → (step_of s h c o i).action ≡ z → r.action ≡ action.Leave hr x → (d : ℕ) (y : HResult) (v : Option Value) (bytes : Option (List ℕ)) → e.deed ≡ deed.Leave d y v bytes
    → IsLeave e.deed c hr (result_of s h i hr x) × ((scene s (e ∷ h)).cells o ≡ r.cells)
leave-by s h e c o m i (action.Copy to held) r hr x g b f t w d y v bytes p = absurd (copied e.deed b.0 p)
  where
    copied : (u : Deed) → u ≡ deed.Copy held → u ≡ deed.Leave d y v bytes → ⊥
    copied u p q = cc
leave-by s h e c o m i (action.Release from held) r hr x g b f t w d y v bytes p = absurd (released e.deed b.0 p)
  where
    released : (u : Deed) → u ≡ deed.Release held → u ≡ deed.Leave d y v bytes → ⊥
    released u p q = cc
leave-by s h e c o m i (action.Leave hr' x') r hr x g b f t w d y v bytes p =
    let same : action.Leave hr x ≡ action.Leave hr' x' = sym w ∙ ap (λ (u : Outcome). u.action) (f tt) ∙ t in
    let k : (hr ≡ hr') × (x ≡ x') = same-leave hr hr' x x' same in (
      subst (λ (u : HResult). IsLeave e.deed c u (result_of s h i u x)) (sym k.0) (subst (λ (u : Option Value). IsLeave e.deed c hr' (result_of s h i hr' u)) (sym k.1) b.0),
      b.1 ∙ sym (ap (λ (u : Outcome). u.cells) (f tt)),
    )
leave-by s h e c o m i _ r hr x g b f t w d y v bytes p = absurd g

pub legal-leaves : (s : Scenario) (h : List Entry) (e : Entry) → Formed s → legal s (e ∷ h) → LeavesAlone s h e
legal-leaves s h e f q c o a os i n hr x r k w d y v bytes p =
    let t : Rest s h c o i n = legal-still s h f q.0 e.lane c o a os i n r k in
    let z : Action = (step_of s h c o i).action in
    leave-by s h e c o t.steps i z (by_itself s h c o i n) hr x (top-case s h c o a i n k t) (own-step s h e q c o a os i r k.issued)
    (λ plain. sym t.same ∙ alone-is (body_for s h o i) t.steps ((scene s h).bodies c) ((scene s h).cells o) ∙ plain-ends (body_for s h o i) t.steps (step_of s h c o i) z plain)
    refl w d y v bytes p
