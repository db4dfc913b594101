-- `Base` holds after every legal history of a formed scenario.
use Rattle.std.proofs.Common.{subst, sym, ap, ◌∙◌, ◌⊎◌, inl, inr, eqb-true, arith}
use Rattle.std.proofs.lemmas.Bool.{leb-true, false_from_ne_true}
use Rattle.std.proofs.lemmas.List.Elements.{All-replicate, All-nil}
use Rattle.std.proofs.lemmas.Grind.{common_steps}
use Rattle.std.specs.Prelude.{◌≡◌, refl, ℕ, zero, suc, ◌+◌, ◌≤◌, Bool, true, false, cond, ◌==◌, nat_le, replicate, List, [], ◌∷◌, Option, Some, None, All, fold}
use Rattle.com_base.specs.declared.value.RefValue.{RefValue}
use Rattle.com_base.specs.declared.value.Value.{Value}
use Rattle.com_body.specs.declared.operands.Destination.{Destination}
use Rattle.com_body.specs.declared.actions.Action.{Action}
use Rattle.com_body.specs.declared.actions.Action.TheVariants as action
use Rattle.com_body.specs.declared.frame.Cells.{Cells}
use Rattle.com_body.specs.declared.frame.Outcome.{Outcome}
use Rattle.com_body.specs.Frames.{FrameView}
use Rattle.com_body.specs.Operands.{new_cells}
use Rattle.com_classes.specs.Lookups.{method_at}
use Rattle.com_model.specs.declared.deeds.Deed.{Deed}
use Rattle.com_model.specs.declared.deeds.Deed.TheVariants as deed
use Rattle.com_model.specs.declared.deeds.Entry.{Entry}
use Rattle.com_model.specs.declared.deeds.Route.{Route}
use Rattle.com_model.specs.declared.deeds.Route.TheVariants as route
use Rattle.com_model.specs.declared.scenario.Scenario.{Scenario}
use Rattle.com_model.specs.Lists.{or_else, where_true}
use Rattle.com_model.specs.Tables.{lane_sort, result_kind}
use Rattle.com_model.specs.Openers.{Opens, Keeps, effect, effect_on, openers}
use Rattle.com_model.specs.declared.keeps.Opener.{Opener}
use Rattle.com_model.specs.declared.keeps.Opener.TheVariants.{Waits}
use Rattle.com_model.specs.Apartments.{Remains, home_effect, home, ends_sta}
use Rattle.com_model.specs.Objects.{objects, named, class_of}
use Rattle.com_model.specs.Calls.{issues, issue_or, issue, calls, admitted, admits, target}
use Rattle.com_model.specs.declared.keeps.Issue.{Issue}
use Rattle.com_model.specs.Frames.{Scene, scene, Actor, actor_in, outcome, action_of, act_by, value_reference, with_frame, writes, written, wants, acted, arrived, cut_links, acting}
use Rattle.com_model.specs.Endings.{end_effect, ends, filtered, can_be_cut, ending}
use Rattle.com_model.specs.declared.keeps.Ending.{Ending}
use Rattle.com_model.specs.declared.keeps.Ending.TheVariants.{AtIssue}
use Rattle.com_model.specs.Sight.{sight}
use Rattle.com_model.specs.Rules.{next, legal}
use Rattle.com_model.specs.Formed.{Formed}
use Rattle.com_model.proofs.Comes.{next-comes}
use Rattle.com_model.proofs.Stacks.{back-own}
use Rattle.com_laws_balance.proofs.Carries.{HeldBy, ValueBy, FrameBy, FitsTo, ActionBy, entered-by}
use Rattle.com_laws_balance.proofs.Moves.{SceneBy, TestOf, OutBy, ArrivesBy, held-more, links-more, new-links, out-action, outcome-by, all-written-to, framed-to, scene-by}
use Rattle.com_laws_balance.proofs.Counts.{Among}
use Rattle.com_model.proofs.Kept.{legal-kept}
use Rattle.com_laws_balance.proofs.Stacks.{admission_in, open-admitted}
use Rattle.com_laws_balance.proofs.Makings.{same-agile}
use Rattle.com_laws_balance.proofs.Results.{kind_of, NotLeft, not-left, out-number}
use Rattle.com_laws_balance.proofs.Says.{Says, next-says}
use Rattle.com_laws_balance.proofs.Homes.{among-any, home-remains, EndsHome, home-ends, admitted-none}
use Rattle.com_laws_balance.proofs.Bases.{S0, B0, K0, Ended, Base, I_of, L_of, actor-is, top-among, some-none, Acting, acting-base, arrives-base, home-stays, first-among, acted-same, cut-to, arrived-to}

pub frame-more : (P Q : RefValue → Type 0) (f : FrameView) → ((r : RefValue) → P r → Q r) → FrameBy P f → FrameBy Q f
frame-more P Q f p g = record { registers = g.registers; slots = links-more P Q f.slots p g.slots }

-- Each number is one of an object that was made, or of one that was not.
pub made-or-new : (n o : ℕ) → (o ≤ n) ⊎ (n + 1 ≤ o)
made-or-new n o =
    elim (nat_le o n) as (λ t. nat_le o n ≡ t → (o ≤ n) ⊎ (n + 1 ≤ o)) [
      | true ↦ λ e. inl (leb-true o n e)
      | false ↦ λ e. inr (grind (arith, common_steps, e))
    ] refl

pub cells-empty : (P : RefValue → Type 0) (c : Cells) → c ≡ new_cells → All (HeldBy P) c.links
cells-empty P c e = subst (λ (x : Cells). All (HeldBy P) x.links) (sym e) (new-links P)

pub base-before : (s : Scenario) (h : List Entry) (e : Entry) → Formed s → legal s (e ∷ h) → Base s h → SceneBy (S0 s h) (B0 (e ∷ h)) (K0 s (e ∷ h)) (scene s h)
base-before s h e f q b = record {
  scripts = b.frames.scripts;
  bodies = λ c. frame-more (B0 h c) (B0 (e ∷ h) c) ((scene s h).bodies c) (λ r n z. n (admitted-none (admits e.lane e.deed) c (admitted h c) z)) (b.frames.bodies c);
  links = λ o. elim (made-or-new (objects h) o) as (λ _. All (HeldBy (K0 s (e ∷ h) o)) ((scene s h).cells o).links) [
    | inl p ↦ links-more (K0 s h o) (K0 s (e ∷ h) o) ((scene s h).cells o).links (λ r k. same-agile s h e o f q p ∙ k) (b.frames.links o)
    | inr p ↦ cells-empty (K0 s (e ∷ h) o) ((scene s h).cells o) ((legal-kept s h f q.0).scene.no_cells o p)
  ];
}

-- Whoever acts after an entry may take what a lane with a home may.
after-test : (s : Scenario) (h : List Entry) (e : Entry) → legal s (e ∷ h) → (x : Option RefValue) → HeldBy (λ r. home s h e.lane ≡ None → ⊥) x → HeldBy (TestOf (S0 s h) (B0 (e ∷ h)) (actor_in s (e ∷ h) e.lane)) x
after-test s h e q x p =
    actor-is (λ a. HeldBy (TestOf (S0 s h) (B0 (e ∷ h)) a) x) (lane_sort s e.lane) e.lane (openers (e ∷ h) e.lane)
    (λ c o a rest z. held-more (λ r. home s h e.lane ≡ None → ⊥) (B0 (e ∷ h) c) x (λ r k n. some-none (admitted (e ∷ h) c) (admission_in c e.lane a) (open-admitted s (e ∷ h) q e.lane c o a (top-among c o a (openers (e ∷ h) e.lane) rest z)) n) p)
    (λ z. p)
    (held-more (λ r. home s h e.lane ≡ None → ⊥) (λ r. Unit {0}) x (λ r k. tt) p)

pub arrives-at : (s : Scenario) (h : List Entry) (e : Entry) (d : Deed) (u : Actor) (r : Option Outcome) → legal s (e ∷ h) → Base s h → Says s (sight s h) e.lane d → e.deed ≡ d → ArrivesBy (S0 s h) (B0 (e ∷ h)) (acted u r d (scene s h)).destinations (actor_in s (e ∷ h) e.lane) d
arrives-at s h e (deed.Out k o i m t cause bytes) u r q b z p = tt
arrives-at s h e d u r q b z p =
    arrives-base s h e d (acted u r d (scene s h)).destinations (actor_in s (e ∷ h) e.lane) q.0 b (λ c. ap (λ (y : ℕ → Destination). y c) (acted-same u r e.lane d (scene s h) refl)) z p
    (λ c hr v w. first-among (openers h e.lane) (Waits c) (back-own s h e.lane c hr v (subst (λ (y : Deed). next s h e.lane ≡ Some y) (p ∙ w) q.1)))
    (λ v y. after-test s h e q (value_reference v) y)

base-scene : (s : Scenario) (h : List Entry) (e : Entry) → Formed s → legal s (e ∷ h) → Base s h → SceneBy (S0 s h) (B0 (e ∷ h)) (K0 s (e ∷ h)) (scene s (e ∷ h))
unfolding Acting
base-scene s h e f q b =
    let u : Actor = acting s (class_of h) (issue h) (scene s h) (actor_in s h e.lane) e.deed in
    let a : Acting s h e u = acting-base s h e f q in
    scene-by s (S0 s h) (B0 (e ∷ h)) (K0 s (e ∷ h)) (I_of u) (L_of s h u) (class_of h) (named h) (issue h) u (actor_in s (e ∷ h) e.lane) e.lane e.deed (scene s h) a.0 a.1 a.2
    (arrives-at s h e e.deed u (outcome s (class_of h) (issue h) (scene s h) u) q b (next-says s h e.lane e.deed q.1) refl)
    (base-before s h e f q b)

-- ---- scripts without home

pub same-number : (n : ℕ) → (n == n) ≡ true
same-number n = grind (arith, common_steps)

cut-scripts : (n : ℕ → ℕ) (x : Option ℕ) (w : Scene) → (cut_links n x w).scripts ≡ w.scripts
cut-scripts n None w = refl
cut-scripts n (Some a) w = refl

uninit-slots : (b : Actor) (l k : ℕ) (d : Deed) (n : ℕ → ℕ) (w : Scene) → l ≡ k → EndsHome d → ((cut_links n (ends_sta d) (arrived b l d w)).scripts k).slots ≡ replicate 8 None
uninit-slots b l k (deed.Uninit a zero) n w e p =
    ap (λ (x : ℕ → FrameView). (x k).slots) (cut-scripts n (ends_sta (deed.Uninit a zero)) (arrived b l (deed.Uninit a zero) w))
    ∙ subst (λ (j : ℕ). ((arrived b l (deed.Uninit a zero) w).scripts j).slots ≡ replicate 8 None) e
    (ap (λ (t : Bool). (cond t (record (w.scripts l) { slots = replicate 8 None }) (w.scripts l)).slots) (same-number l))
uninit-slots b l k (deed.Uninit a (suc m)) n w e p = absurd p
uninit-slots b l k _ n w e p = absurd p

base-scripts : (s : Scenario) (h : List Entry) (e : Entry) → Formed s → legal s (e ∷ h) → Base s h → (l : ℕ) → FrameBy (S0 s (e ∷ h) l) ((scene s (e ∷ h)).scripts l)
base-scripts s h e f q b l =
    let g : FrameBy (S0 s h l) ((scene s (e ∷ h)).scripts l) = (base-scene s h e f q b).scripts l in
    elim (home s (e ∷ h) l) as (λ x. home s (e ∷ h) l ≡ x → FrameBy (S0 s (e ∷ h) l) ((scene s (e ∷ h)).scripts l)) [
      | Some a ↦ λ z. frame-more (S0 s h l) (S0 s (e ∷ h) l) ((scene s (e ∷ h)).scripts l) (λ r p n. some-none (home s (e ∷ h) l) a z n) g
      | None ↦ λ z. elim (home-ends s h e l (sight s h) refl (next-says s h e.lane e.deed q.1) z) as (λ _. FrameBy (S0 s (e ∷ h) l) ((scene s (e ∷ h)).scripts l)) [
        | inl y ↦ frame-more (S0 s h l) (S0 s (e ∷ h) l) ((scene s (e ∷ h)).scripts l) (λ r p. absurd (p y)) g
        | inr y ↦ record { registers = g.registers; slots = subst (λ (xs : List (Option RefValue)). All (HeldBy (S0 s (e ∷ h) l)) xs) (sym (uninit-slots (actor_in s (e ∷ h) e.lane) e.lane l e.deed (named h) _ y.0 y.1)) (All-replicate (HeldBy (S0 s (e ∷ h) l)) 8 None tt) }
      ]
    ] refl

-- ---- where results go

pub record ActionOf (r : Option Outcome) (x : Action) : Type 0 where
  pub step : Outcome
  pub is : r ≡ Some step
  pub action : step.action ≡ x

pub action-from : (r : Option Outcome) (x : Action) → action_of r ≡ Some x → ActionOf r x
action-from None x e = cc
action-from (Some y) x e = record { step = y; is = refl; action = same y.action e }
  where
    same : (z : Action) → Some z ≡ Some x → z ≡ x
    same z e = cc

record OutFits (s : Scenario) (r : Option Outcome) (i m : ℕ) : Type 0 where
  held : Option RefValue
  args : List Value
  to : Destination
  of : ActionOf r (action.Call held i m args to)
  fits : FitsTo (result_kind (method_at s.classes i m)) to

out-to : (u : Actor) (r : Outcome) (k : ℕ) (o : Option ℕ) (i m : ℕ) (t : Route) (cause : ℕ) (bytes : Option (List ℕ)) (w : Scene) (held : Option RefValue) (args : List Value) (to : Destination) (c : ℕ) → r.action ≡ action.Call held i m args to → (acted u (Some r) (deed.Out k o i m t cause bytes) w).destinations c ≡ cond (c == k) to (w.destinations c)
out-to u r k o i m t cause bytes w held args to c e =
    let d : Deed = deed.Out k o i m t cause bytes in
    ap (λ (x : Action). (wants x d (fold (written u) (with_frame u r w) (writes r.action d))).destinations c) e
    ∙ ap (λ (y : ℕ → Destination). cond (c == k) to (y c)) (all-written-to u (with_frame u r w) (writes r.action d) ∙ framed-to u r w)

other-number : (c k : ℕ) → (k == c) ≡ false → (c == k) ≡ false
other-number c k e = false_from_ne_true (c == k) (λ t. not-both (k == c) e (subst (λ (n : ℕ). (n == c) ≡ true) (eqb-true c k t) (same-number c)))
  where
    not-both : (b : Bool) → b ≡ false → b ≡ true → ⊥
    not-both b p q = cc

same-key : (c k : ℕ) → (k == c) ≡ true → (c == k) ≡ true
same-key c k e = subst (λ (n : ℕ). (n == k) ≡ true) (eqb-true k c e) (same-number k)

fits-out : (s : Scenario) (h : List Entry) (l : ℕ) (u : Actor) (r : Option Outcome) (k : ℕ) (o : Option ℕ) (i m : ℕ) (t : Route) (cause : ℕ) (bytes : Option (List ℕ)) (w : Scene) (c : ℕ) → FitsTo (kind_of s (issue h c)) (w.destinations c) → OutFits s r i m → FitsTo (kind_of s (issue_or (issues l (deed.Out k o i m t cause bytes)) c (issue h c))) ((acted u r (deed.Out k o i m t cause bytes) w).destinations c)
fits-out s h l u r k o i m t cause bytes w c g z =
    let d : Deed = deed.Out k o i m t cause bytes in
    let y : Issue = record { call = k; lane = l; object = o; iface = i; method = m; route = t; cause = cause } in
    subst (λ (x : Option Outcome). FitsTo (kind_of s (cond (k == c) (Some y) (issue h c))) ((acted u x d w).destinations c)) (sym z.of.is)
    (subst (λ (x : Destination). FitsTo (kind_of s (cond (k == c) (Some y) (issue h c))) x) (sym (out-to u z.of.step k o i m t cause bytes w z.held z.args z.to c z.of.action))
    (elim (k == c) as (λ b. (k == c) ≡ b → FitsTo (kind_of s (cond b (Some y) (issue h c))) (cond (c == k) z.to (w.destinations c))) [
      | true ↦ λ e. subst (λ (b : Bool). FitsTo (kind_of s (Some y)) (cond b z.to (w.destinations c))) (sym (same-key c k e)) z.fits
      | false ↦ λ e. subst (λ (b : Bool). FitsTo (kind_of s (issue h c)) (cond b z.to (w.destinations c))) (sym (other-number c k e)) g
    ] refl))

call-fits : (s : Scenario) (I L : Type 0) (P : RefValue → Type 0) (x : Action) (held : Option RefValue) (i m : ℕ) (args : List Value) (to : Destination) → x ≡ action.Call held i m args to → ActionBy s I L P x → FitsTo (result_kind (method_at s.classes i m)) to
call-fits s I L P x held i m args to e p = (subst (ActionBy s I L P) e p).1

out-fits : (s : Scenario) (S B : ℕ → RefValue → Type 0) (I L : Type 0) (u : Actor) (w : Scene) (r : Option Outcome) (held : Option RefValue) (i m : ℕ) (args : List Value) (to : Destination) → OutBy s S B I L u w r → action_of r ≡ Some (action.Call held i m args to) → OutFits s r i m
out-fits s S B I L u w r held i m args to g e =
    let z : ActionOf r (action.Call held i m args to) = action-from r (action.Call held i m args to) e in
    record { held = held; args = args; to = to; of = z; fits = call-fits s I L (TestOf S B u) z.step.action held i m args to z.action (out-action s S B I L u w z.step (subst (OutBy s S B I L u w) z.is g)) }

fits-at : (s : Scenario) (h : List Entry) (l : ℕ) (d : Deed) (b : Actor) (w : Scene) (c : ℕ) (S B : ℕ → RefValue → Type 0) (I L : Actor → Type 0) → w ≡ scene s h → Says s (sight s h) l d → FitsTo (kind_of s (issue h c)) (w.destinations c) →
    OutBy s S B (I (acting s (class_of h) (issue h) w (actor_in s h l) d)) (L (acting s (class_of h) (issue h) w (actor_in s h l) d)) (acting s (class_of h) (issue h) w (actor_in s h l) d) w (outcome s (class_of h) (issue h) w (acting s (class_of h) (issue h) w (actor_in s h l) d)) →
    FitsTo (kind_of s (issue_or (issues l d) c (issue h c))) ((arrived b l d (acted (acting s (class_of h) (issue h) w (actor_in s h l) d) (outcome s (class_of h) (issue h) w (acting s (class_of h) (issue h) w (actor_in s h l) d)) d w)).destinations c)
fits-at s h l (deed.Out k o i m t cause bytes) b w c S B I L same z g out =
    let d : Deed = deed.Out k o i m t cause bytes in
    let u : Actor = acting s (class_of h) (issue h) w (actor_in s h l) d in
    fits-out s h l u (outcome s (class_of h) (issue h) w u) k o i m t cause bytes w c g
    (out-fits s S B (I u) (L u) u w (outcome s (class_of h) (issue h) w u) z.held i m z.args z.to out (subst (λ (x : Scene). act_by s (class_of h) (issue h) x (actor_in s h l) ≡ Some (action.Call z.held i m z.args z.to)) (sym same) z.acts))
fits-at s h l d b w c S B I L same z g out =
    let u : Actor = acting s (class_of h) (issue h) w (actor_in s h l) d in
    let r : Option Outcome = outcome s (class_of h) (issue h) w u in
    subst (λ (x : ℕ → Destination). FitsTo (kind_of s (issue h c)) (x c)) (sym (arrived-to b l d (acted u r d w) ∙ acted-same u r l d w refl)) g

base-fits : (s : Scenario) (h : List Entry) (e : Entry) → Formed s → legal s (e ∷ h) → Base s h → (c : ℕ) → FitsTo (kind_of s (issue (e ∷ h) c)) ((scene s (e ∷ h)).destinations c)
unfolding Acting
base-fits s h e f q b c =
    let u : Actor = acting s (class_of h) (issue h) (scene s h) (actor_in s h e.lane) e.deed in
    let a : Acting s h e u = acting-base s h e f q in
    subst (λ (x : ℕ → Destination). FitsTo (kind_of s (issue (e ∷ h) c)) (x c)) (sym (cut-to (named h) (ends_sta e.deed) (arrived (actor_in s (e ∷ h) e.lane) e.lane e.deed (acted u (outcome s (class_of h) (issue h) (scene s h) u) e.deed (scene s h)))))
    (fits-at s h e.lane e.deed (actor_in s (e ∷ h) e.lane) (scene s h) c (S0 s h) (B0 (e ∷ h)) I_of (L_of s h) refl (next-says s h e.lane e.deed q.1) (b.fits c)
    (outcome-by s (S0 s h) (B0 (e ∷ h)) (K0 s (e ∷ h)) (I_of u) (L_of s h u) (class_of h) (issue h) u (scene s h) a.0 a.1 (base-before s h e f q b)))

-- ---- who waits has a home

ended-later : (x y : Option Ending) → Ended x → Ended (or_else x y)
ended-later None y p = absurd (not-some p.0)
  where
    not-some : false ≡ true → ⊥
    not-some e = cc
ended-later (Some z) y p = p

refused-ended : (x : Option Ending) (k : ℕ) → NotLeft x → Ended (or_else x (where_true (k == k) AtIssue))
refused-ended None k n = subst (λ (t : Bool). Ended (where_true t AtIssue)) (sym (same-number k)) (refl, tt)
refused-ended (Some z) k n = (refl, n)

waits-new : (s : Scenario) (h : List Entry) (l k : ℕ) (d : Deed) (o a : ℕ) (b : Bool) → Says s (sight s h) l d → NotLeft (ending s h k) → effect d ≡ Opens (Waits k) → Ended (or_else (ending s h k) (ends (end_effect (filtered s h) d) k o a b)) ⊎ ((home s h l ≡ None → ⊥) × (home_effect d ≡ Remains))
waits-new s h l k (deed.Out c u i m route.Refused cause bytes) o a b z n e =
    inl (subst (λ (j : ℕ). Ended (or_else (ending s h k) (where_true (j == k) AtIssue))) (sym (same-call e)) (refused-ended (ending s h k) k n))
  where
    same-call : Opens (Waits c) ≡ Opens (Waits k) → c ≡ k
    same-call e = cc
waits-new s h l k (deed.Out c u i m t cause bytes) o a b z n e = elim z.homed as (λ _. Ended (or_else (ending s h k) (ends (end_effect (filtered s h) (deed.Out c u i m t cause bytes)) k o a b)) ⊎ ((home s h l ≡ None → ⊥) × (Remains ≡ Remains))) [ inl y ↦ cc | inr y ↦ inr (y.0, refl) ]
waits-new s h l k (deed.Enter c x y t vs) o a b z n e = cc
waits-new s h l k (deed.Pump m) o a b z n e = cc
waits-new s h l k deed.EndPump o a b z n e = cc
waits-new s h l k (deed.Back c hr v) o a b z n e = cc
waits-new s h l k (deed.Leave c hr v bytes) o a b z n e = cc
waits-new s h l k _ o a b z n e = cc

pub opens-own : (l : ℕ) (e : Entry) (o : Opener) → effect_on l e ≡ Opens o → (e.lane ≡ l) × (effect e.deed ≡ Opens o)
opens-own l e o p =
    elim (e.lane == l) as (λ t. (e.lane == l) ≡ t → cond t (effect e.deed) Keeps ≡ Opens o → (e.lane ≡ l) × (effect e.deed ≡ Opens o)) [
      | true ↦ λ t q. (eqb-true e.lane l t, q)
      | false ↦ λ t q. cc
    ] refl p

-- A call that an effect lets wait is the next one.
pub waits-number : (s : Scenario) (h : List Entry) (l k : ℕ) (d : Deed) → next s h l ≡ Some d → effect d ≡ Opens (Waits k) → k ≡ calls h + 1
waits-number s h l k d q e = by-deed d (out-number s h l d (next-comes s h l d q)) e
  where
    same-call : (c : ℕ) → Opens (Waits c) ≡ Opens (Waits k) → c ≡ k
    same-call c e = cc

    by-deed : (d : Deed) → ((k : ℕ) (o : Option ℕ) (i m : ℕ) (r : Route) (cause : ℕ) (bytes : Option (List ℕ)) → d ≡ deed.Out k o i m r cause bytes → k ≡ calls h + 1) → effect d ≡ Opens (Waits k) → k ≡ calls h + 1
    by-deed (deed.Out c u i m t cause bytes) f e = sym (same-call c e) ∙ f c u i m t cause bytes refl
    by-deed (deed.Enter c x y t vs) f e = cc
    by-deed (deed.Pump m) f e = cc
    by-deed deed.EndPump f e = cc
    by-deed (deed.Back c hr v) f e = cc
    by-deed (deed.Leave c hr v bytes) f e = cc
    by-deed _ f e = cc

base-homed : (s : Scenario) (h : List Entry) (e : Entry) → Formed s → legal s (e ∷ h) → Base s h → (l c : ℕ) → Among (Waits c) (openers (e ∷ h) l) → Ended (ending s (e ∷ h) c) ⊎ (home s (e ∷ h) l ≡ None → ⊥)
base-homed s h e f q b l c m =
    elim (among-any (Waits c) (effect_on l e) (openers h l) m) as (λ _. Ended (ending s (e ∷ h) c) ⊎ (home s (e ∷ h) l ≡ None → ⊥)) [
      | inl p ↦ elim (b.homed l c p) as (λ _. Ended (ending s (e ∷ h) c) ⊎ (home s (e ∷ h) l ≡ None → ⊥)) [
        | inl y ↦ inl (ended-later (ending s h c) _ y)
        | inr y ↦ inr (λ n. y (sym (home-stays s h e f q b l (Waits c) p) ∙ n))
      ]
      | inr p ↦ let z : (e.lane ≡ l) × (effect e.deed ≡ Opens (Waits c)) = opens-own l e (Waits c) p in
          let n : c ≡ calls h + 1 = waits-number s h e.lane c e.deed q.1 z.1 in
          elim (waits-new s h e.lane c e.deed (target h c) (named h (target h c)) (can_be_cut (issue h c) (admitted h c)) (next-says s h e.lane e.deed q.1) (not-left s h c q.0 (omega (arith, n))) z.1) as (λ _. Ended (ending s (e ∷ h) c) ⊎ (home s (e ∷ h) l ≡ None → ⊥)) [
            | inl y ↦ inl y
            | inr y ↦ inr (λ k. y.0 (subst (λ (j : ℕ). home s h j ≡ None) (sym z.0) (sym (home-remains s h e l y.1) ∙ k)))
          ]
    ]

base-step : (s : Scenario) (h : List Entry) (e : Entry) → Formed s → legal s (e ∷ h) → Base s h → Base s (e ∷ h)
base-step s h e f q b = record {
  frames = record { scripts = base-scripts s h e f q b; bodies = (base-scene s h e f q b).bodies; links = (base-scene s h e f q b).links };
  fits = base-fits s h e f q b;
  homed = base-homed s h e f q b;
}

base-first : (s : Scenario) → Base s []
base-first s = record {
  frames = record {
    scripts = λ l. entered-by (S0 s [] l) [] (All-nil (ValueBy (S0 s [] l)));
    bodies = λ c. entered-by (B0 [] c) [] (All-nil (ValueBy (B0 [] c)));
    links = λ o. new-links (K0 s [] o);
  };
  fits = λ c. tt;
  homed = λ l c m. absurd m;
}

pub legal-base : (s : Scenario) (h : List Entry) → Formed s → legal s h → Base s h
legal-base s [] f q = base-first s
legal-base s (e ∷ h) f q = base-step s h e f q (legal-base s h f q.0)
