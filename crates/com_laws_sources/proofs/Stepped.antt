-- One entry of a lane whose innermost opener is a body.
use Rattle.std.proofs.Common.{refl, sym, ap, subst, ◌∙◌, eqb-true}
use Rattle.std.specs.Prelude.{◌≡◌, ℕ, zero, suc, pos, Bool, true, false, cond, ◌==◌, List, [], ◌∷◌, fold, replicate, Option, Some, None, option_map}
use Rattle.com_base.specs.declared.hresult.HResult.{HResult}
use Rattle.com_base.specs.declared.value.RefValue.{RefValue}
use Rattle.com_base.specs.declared.value.Value.{Value}
use Rattle.com_base.specs.declared.value.Value.TheVariants as value
use Rattle.com_body.specs.declared.operands.Place.{Place}
use Rattle.com_body.specs.declared.operands.Place.TheVariants as place
use Rattle.com_body.specs.declared.operands.Destination.{Destination}
use Rattle.com_body.specs.declared.operands.Destination.TheVariants as destination
use Rattle.com_body.specs.declared.actions.Action.{Action}
use Rattle.com_body.specs.declared.actions.Action.TheVariants as action
use Rattle.com_body.specs.declared.frame.Cells.{Cells}
use Rattle.com_body.specs.declared.frame.Outcome.{Outcome}
use Rattle.com_body.specs.Frames.{FrameView, with_register, with_slot}
use Rattle.com_model.specs.declared.deeds.Deed.{Deed}
use Rattle.com_model.specs.declared.deeds.Deed.TheVariants as deed
use Rattle.com_model.specs.declared.deeds.Entry.{Entry}
use Rattle.com_model.specs.declared.scenario.Scenario.{Scenario}
use Rattle.com_model.specs.Answers.{S_OK}
use Rattle.com_model.specs.Lists.{put, first, is_number}
use Rattle.com_model.specs.Tables.{LaneSort, Thread, Host, Pool, NoLane, lane_sort}
use Rattle.com_model.specs.Openers.{Effect, Keeps, effect, opened, openers, running_call}
use Rattle.com_model.specs.declared.keeps.Opener.{Opener}
use Rattle.com_model.specs.declared.keeps.Opener.TheVariants.{Enters}
use Rattle.com_model.specs.Apartments.{ends_sta}
use Rattle.com_model.specs.Objects.{class_of, named, finals}
use Rattle.com_model.specs.Calls.{issue}
use Rattle.com_model.specs.declared.keeps.Issue.{Issue}
use Rattle.com_model.specs.Issue.{call_refusal}
use Rattle.com_model.specs.Frames.{Scene, scene, act_by, action_of, is_leave, value_reference, to_place, Actor, Body, Script, Nobody, actor, actor_in, outcome, unless_over, unless_final, Write, ToRegister, ToSlot, ToLink, ToBuffer, to_answer, to_destination, writes, written, with_frame, with_link, wants, acted, arrived, cut_links, acting, scene_after, act}
use Rattle.com_model.specs.Deeds.{deed_of, called, left_by, left_as}
use Rattle.com_model.specs.Sight.{Sight, sight}
use Rattle.com_model.specs.Rules.{legal, next, next_by, stepped, no_lane_can, tick_time}
use Rattle.com_model.proofs.Given.{Given}
use Rattle.com_laws_safety.proofs.Small.{same-number}
use Rattle.com_laws_sources.specs.Alone.{in_frame, in_cells}
use Rattle.com_laws_sources.specs.Steps.{step_of, IsOut, IsLeave, result_of, StepsBy, OwnStep, acts_on, CellsStay}

pub put-same : {X : Type 0} (k : ℕ) (x : X) (f : ℕ → X) → put k x f k ≡ x
put-same k x f = ap (λ (t : Bool). cond t x (f k)) (same-number k)

-- ---- nothing is open in a lane that is none

clock-keeps : (b x : Bool) (o : Option ℕ) → Given (λ d. effect d ≡ Keeps) (cond b (cond x (option_map (λ t. deed.Tick t) o) None) None)
clock-keeps true true None = tt
clock-keeps true true (Some t) = refl
clock-keeps true false o = tt
clock-keeps false x o = tt

no-lane-keeps : (s : Scenario) (h : List Entry) (l : ℕ) (d : Deed) → lane_sort s l ≡ NoLane → next s h l ≡ Some d → effect d ≡ Keeps
no-lane-keeps s h l d z e =
    let v : Sight = sight s h in
    let n : next_by s v NoLane l ≡ Some d = ap (λ (x : LaneSort). next_by s v x l) (sym z) ∙ e in
    subst (λ (x : Option Deed). Given (λ d. effect d ≡ Keeps) x) n (clock-keeps (l == 0) (no_lane_can s v) (tick_time v))

no-lane-opens : (s : Scenario) (h : List Entry) (l : ℕ) → lane_sort s l ≡ NoLane → legal s h → openers h l ≡ []
no-lane-opens s [] l z q = refl
no-lane-opens s (e ∷ h) l z q =
    elim (e.lane == l) as (λ t. (e.lane == l) ≡ t → opened (cond t (effect e.deed) Keeps) (openers h l) ≡ []) [
      | true ↦ λ y. let k : effect e.deed ≡ Keeps = no-lane-keeps s h l e.deed z (subst (λ (j : ℕ). next s h j ≡ Some e.deed) (eqb-true e.lane l y) q.1) in
          ap (λ (x : Effect). opened x (openers h l)) k ∙ no-lane-opens s h l z q.0
      | false ↦ λ y. no-lane-opens s h l z q.0
    ] refl

-- ---- the entry of a body on top is its action's

same-deed : (x y : Deed) → Some x ≡ Some y → x ≡ y
same-deed x y e = cc

stepped-is : (s : Scenario) (h : List Entry) (l c o a : ℕ) (os : List Opener) (d : Deed) (x : Action) → openers h l ≡ Enters c o a ∷ os → act s h l ≡ Some x → stepped s (sight s h) l (first (openers h l)) ≡ Some d → deed_of s (sight s h) l x ≡ d
stepped-is s h l c o a os d x p y e =
    let n : option_map (deed_of s (sight s h) l) (act s h l) ≡ Some d = subst (λ (xs : List Opener). stepped s (sight s h) l (first xs) ≡ Some d) p e in
    same-deed (deed_of s (sight s h) l x) d (subst (λ (z : Option Action). option_map (deed_of s (sight s h) l) z ≡ Some d) y n)

body-next : (s : Scenario) (h : List Entry) (l c o a : ℕ) (os : List Opener) (sort : LaneSort) (d : Deed) (x : Action) → (sort ≡ NoLane → ⊥) → openers h l ≡ Enters c o a ∷ os
    → act s h l ≡ Some x → next_by s (sight s h) sort l ≡ Some d → deed_of s (sight s h) l x ≡ d
body-next s h l c o a os NoLane d x n p y e = absurd (n refl)
body-next s h l c o a os Thread d x n p y e = stepped-is s h l c o a os d x p y e
body-next s h l c o a os Host d x n p y e = stepped-is s h l c o a os d x p y e
body-next s h l c o a os Pool d x n p y e = stepped-is s h l c o a os d x p y e

pub none-open : (c o a : ℕ) (os : List Opener) → [] ≡ Enters c o a ∷ os → ⊥
none-open c o a os e = cc

-- The outcome of a body is its step.
body-outcome : (s : Scenario) (h : List Entry) (c o : ℕ) (i : Issue) → issue h c ≡ Some i → outcome s (class_of h) (issue h) (scene s h) (Body c o) ≡ Some (step_of s h c o i)
body-outcome s h c o i e = ap (λ (x : Option Issue). outcome s (class_of h) (λ (k : ℕ). x) (scene s h) (Body c o)) e

body-acts : (s : Scenario) (h : List Entry) (l c o a : ℕ) (os : List Opener) (i : Issue) → openers h l ≡ Enters c o a ∷ os → issue h c ≡ Some i → act s h l ≡ Some (step_of s h c o i).action
body-acts s h l c o a os i p e =
    ap (λ (xs : List Opener). act_by s (class_of h) (issue h) (scene s h) (actor (lane_sort s l) l xs)) p
    ∙ ap action_of (body-outcome s h c o i e)

own-deed : (s : Scenario) (h : List Entry) (l c o a : ℕ) (os : List Opener) (i : Issue) (d : Deed) → legal s h → openers h l ≡ Enters c o a ∷ os → issue h c ≡ Some i → next s h l ≡ Some d → deed_of s (sight s h) l (step_of s h c o i).action ≡ d
own-deed s h l c o a os i d q p e n =
    body-next s h l c o a os (lane_sort s l) d (step_of s h c o i).action (λ z. none-open c o a os (sym (no-lane-opens s h l z q) ∙ p)) p (body-acts s h l c o a os i p e) n

-- ---- the frame and the cells after it

-- After a step, before what the entry writes.
abbrev stepped-scene : ℕ → ℕ → FrameView → Cells → Scene → Scene
stepped-scene c o g q w = record w { bodies = put c g w.bodies; cells = put o q w.cells }

frame-then : (c o : ℕ) (g : FrameView) (q : Cells) (w : Scene) (f : FrameView → FrameView) → put c (f (put c g w.bodies c)) (put c g w.bodies) c ≡ f g
frame-then c o g q w f = put-same c (f (put c g w.bodies c)) (put c g w.bodies) ∙ ap f (put-same c g w.bodies)

abbrev Placed : (c o : ℕ) → FrameView → Cells → Scene → Place → Option RefValue → Type 0
Placed c o g q w to held =
    ((fold (written (Body c o)) (stepped-scene c o g q w) (to_answer S_OK ∷ to_place to held ∷ [])).bodies c ≡ in_frame to held g)
    × ((fold (written (Body c o)) (stepped-scene c o g q w) (to_answer S_OK ∷ to_place to held ∷ [])).cells o ≡ in_cells to held q)

placed : (c o : ℕ) (g : FrameView) (q : Cells) (w : Scene) (to : Place) (held : Option RefValue) → Placed c o g q w to held
placed c o g q w (place.Slot k) held =
    let b0 : ℕ → FrameView = put c g w.bodies in
    let b1 : ℕ → FrameView = put c (with_register (b0 c) 15 (value.Int (pos 0))) b0 in (
      put-same c (with_slot (b1 c) k held) b1 ∙ ap (λ (f : FrameView). with_slot f k held) (frame-then c o g q w (λ f. with_register f 15 (value.Int (pos 0)))),
      put-same o q w.cells,
    )
placed c o g q w (place.Link k) held =
    let c0 : ℕ → Cells = put o q w.cells in (
      frame-then c o g q w (λ f. with_register f 15 (value.Int (pos 0))),
      put-same o (with_link (c0 o) k held) c0 ∙ ap (λ (d : Cells). with_link d k held) (put-same o q w.cells),
    )

-- The scene after a deed of a body, without what the end of an STA does.
abbrev pub outcome-by : Outcome → Actor → Option Outcome
outcome-by r (Body c o) = Some r
outcome-by r (Script l) = None
outcome-by r Nobody = None

abbrev pub after-body : ℕ → ℕ → Outcome → Actor → ℕ → Deed → Scene → Scene
after-body c o r b l d w = arrived b l d (acted (unless_final d (Body c o)) (outcome-by r (unless_final d (Body c o))) d w)

left-is : (s : Scenario) (h : List Entry) (l c : ℕ) (i : Issue) (hr : HResult) (x : Option Value) → issue h c ≡ Some i → IsLeave (left_as s (sight s h) l c (issue h c) hr x) c hr (result_of s h i hr x)
left-is s h l c i hr x e = subst (λ (y : Option Issue). IsLeave (left_as s (sight s h) l c y hr x) c hr (result_of s h i hr x)) (sym e) (refl, refl, refl)

by-running : (s : Scenario) (h : List Entry) (l c : ℕ) (i : Issue) (hr : HResult) (x : Option Value) → issue h c ≡ Some i → running_call (openers h l) ≡ Some c → IsLeave (deed_of s (sight s h) l (action.Leave hr x)) c hr (result_of s h i hr x)
by-running s h l c i hr x e p = subst (λ (y : Option ℕ). IsLeave (left_by s (sight s h) l hr x y) c hr (result_of s h i hr x)) (sym p) (left-is s h l c i hr x e)

out-is : (s : Scenario) (v : Sight) (l : ℕ) (held : Option RefValue) (i m : ℕ) (args : List Value) (x : Option HResult) → IsOut (called s v l held i m args x) held i m
out-is s v l held i m args None = (refl, refl, refl)
out-is s v l held i m args (Some hr) = (refl, refl, refl)

-- The cells after a Leave, and the frame and the cells after an Out.
leave-cells : (c o : ℕ) (g : FrameView) (q : Cells) (hr : HResult) (x : Option Value) (b : Actor) (l k : ℕ) (d : Deed) (y : HResult) (v : Option Value) → IsLeave d k y v → (n : ℕ → ℕ) (w : Scene)
    → (cut_links n (ends_sta d) (after-body c o (record { frame = g; cells = q; action = action.Leave hr x }) b l d w)).cells o ≡ q
leave-cells c o g q hr x b l k (deed.Leave j z u bytes) y v p n w = put-same o q w.cells
leave-cells c o g q hr x b l k _ y v p n w = absurd p

abbrev OutScene : (c o : ℕ) → FrameView → Cells → Option RefValue → (i m : ℕ) → List Value → Destination → Actor → ℕ → Deed → (ℕ → ℕ) → Scene → Type 0
OutScene c o g q held i m args to b l d n w =
    ((cut_links n (ends_sta d) (after-body c o (record { frame = g; cells = q; action = action.Call held i m args to }) b l d w)).bodies c ≡ g)
    × ((cut_links n (ends_sta d) (after-body c o (record { frame = g; cells = q; action = action.Call held i m args to }) b l d w)).cells o ≡ q)

out-scene : (c o : ℕ) (g : FrameView) (q : Cells) (held : Option RefValue) (i m : ℕ) (args : List Value) (to : Destination) (b : Actor) (l : ℕ) (d : Deed) → IsOut d held i m → (n : ℕ → ℕ) (w : Scene) → OutScene c o g q held i m args to b l d n w
out-scene c o g q held i m args to b l (deed.Out k x j y r z bytes) p n w = (put-same c g w.bodies, put-same o q w.cells)
out-scene c o g q held i m args to b l _ p n w = absurd p

-- The sentence, for each action.
abbrev Then : Scenario → List Entry → (c o : ℕ) → Issue → Outcome → Actor → ℕ → Deed → Type 0
Then s h c o i r b l d = StepsBy s h c o i r d (cut_links (named h) (ends_sta d) (after-body c o r b l d (scene s h))) r.action

by-action : (s : Scenario) (h : List Entry) (l c o : ℕ) (i : Issue) (g : FrameView) (q : Cells) (x : Action) (b : Actor) (d : Deed) → issue h c ≡ Some i → running_call (openers h l) ≡ Some c
    → deed_of s (sight s h) l x ≡ d → Then s h c o i (record { frame = g; cells = q; action = x }) b l d
by-action s h l c o i g q (action.Copy to held) b d e p z =
    subst (λ (d : Deed). Then s h c o i (record { frame = g; cells = q; action = action.Copy to held }) b l d) z
    (let y : Placed c o g q (scene s h) to held = placed c o g q (scene s h) to held in (refl, y.0, y.1))
by-action s h l c o i g q (action.Release from held) b d e p z =
    subst (λ (d : Deed). Then s h c o i (record { frame = g; cells = q; action = action.Release from held }) b l d) z
    (let y : Placed c o g q (scene s h) from None = placed c o g q (scene s h) from None in (refl, y.0, y.1))
by-action s h l c o i g q (action.Call held j m args to) b d e p z =
    let o' : IsOut d held j m = subst (λ (d : Deed). IsOut d held j m) z (out-is s (sight s h) l held j m args (call_refusal s ((sight s h).home l) ((sight s h).running l) (sight s h).owns (sight s h).books.live held j m)) in
    let y : OutScene c o g q held j m args to b l d (named h) (scene s h) = out-scene c o g q held j m args to b l d o' (named h) (scene s h) in (o', y.0, y.1)
by-action s h l c o i g q (action.Leave hr x) b d e p z =
    let k : IsLeave d c hr (result_of s h i hr x) = subst (λ (d : Deed). IsLeave d c hr (result_of s h i hr x)) z (by-running s h l c i hr x e p) in
    (k, leave-cells c o g q hr x b l c d hr (result_of s h i hr x) k (named h) (scene s h))
by-action s h l c o i g q (action.Create slot k j) b d e p z = tt
by-action s h l c o i g q (action.Query to held j) b d e p z = tt
by-action s h l c o i g q (action.Marshal n held m) b d e p z = tt
by-action s h l c o i g q (action.Unmarshal slot n) b d e p z = tt
by-action s h l c o i g q (action.Drop n) b d e p z = tt
by-action s h l c o i g q (action.Raw n bytes) b d e p z = tt
by-action s h l c o i g q (action.Register to held) b d e p z = tt
by-action s h l c o i g q (action.Get slot k) b d e p z = tt
by-action s h l c o i g q (action.Revoke k) b d e p z = tt
by-action s h l c o i g q (action.Disconnect held) b d e p z = tt
by-action s h l c o i g q (action.Post m k) b d e p z = tt
by-action s h l c o i g q (action.Quit m) b d e p z = tt
by-action s h l c o i g q (action.Init m) b d e p z = tt
by-action s h l c o i g q action.Uninit b d e p z = tt
by-action s h l c o i g q (action.SetFilter f) b d e p z = tt
by-action s h l c o i g q (action.Pump n) b d e p z = tt

body-or-nobody : (P : Actor → Type 0) (c o : ℕ) (d : Deed) → P Nobody → P (Body c o) → P (unless_final d (Body c o))
body-or-nobody P c o (deed.Final k) p q = p
body-or-nobody P c o _ p q = q

same-outcome : (s : Scenario) (h : List Entry) (c o : ℕ) (i : Issue) (d : Deed) → issue h c ≡ Some i
    → outcome s (class_of h) (issue h) (scene s h) (unless_final d (Body c o)) ≡ outcome-by (step_of s h c o i) (unless_final d (Body c o))
same-outcome s h c o i d e =
    body-or-nobody (λ x. outcome s (class_of h) (issue h) (scene s h) x ≡ outcome-by (step_of s h c o i) x) c o d refl (body-outcome s h c o i e)

pub scene-is : (s : Scenario) (h : List Entry) (e : Entry) (c o a : ℕ) (os : List Opener) (i : Issue) → openers h e.lane ≡ Enters c o a ∷ os → issue h c ≡ Some i
    → scene s (e ∷ h) ≡ cut_links (named h) (ends_sta e.deed) (after-body c o (step_of s h c o i) (actor_in s (e ∷ h) e.lane) e.lane e.deed (scene s h))
scene-is s h e c o a os i p m =
    ap (λ (xs : List Opener). scene_after s (class_of h) (named h) (issue h) (actor (lane_sort s e.lane) e.lane xs) (actor_in s (e ∷ h) e.lane) e.lane e.deed (scene s h)) p
    ∙ ap (λ (y : Option Outcome). cut_links (named h) (ends_sta e.deed) (arrived (actor_in s (e ∷ h) e.lane) e.lane e.deed (acted (unless_final e.deed (Body c o)) y e.deed (scene s h)))) (same-outcome s h c o i e.deed m)

pub own-step : (s : Scenario) (h : List Entry) (e : Entry) → legal s (e ∷ h) → OwnStep s h e
own-step s h e q c o a os i p m =
    let r : Outcome = step_of s h c o i in
    subst (λ (w : Scene). StepsBy s h c o i r e.deed w r.action) (sym (scene-is s h e c o a os i p m))
    (by-action s h e.lane c o i r.frame r.cells r.action (actor_in s (e ∷ h) e.lane) e.deed m (ap running_call p) (own-deed s h e.lane c o a os i e.deed q.0 p m q.1))

-- ---- cells that stay

pub off : {X : Type 0} (k j : ℕ) (x : X) (f : ℕ → X) → (j == k) ≡ false → put k x f j ≡ f j
off k j x f e = ap (λ (t : Bool). cond t x (f j)) e

written-cells : (a : Actor) (w : Scene) (x : Write) (o : ℕ) → acts_on a o ≡ false → (written a w x).cells o ≡ w.cells o
written-cells (Body c k) w (ToRegister r v) o e = refl
written-cells (Body c k) w (ToSlot n held) o e = refl
written-cells (Body c k) w (ToLink n held) o e = off k o _ w.cells e
written-cells (Body c k) w (ToBuffer n bytes) o e = refl
written-cells (Script l) w (ToRegister r v) o e = refl
written-cells (Script l) w (ToSlot n held) o e = refl
written-cells (Script l) w (ToLink n held) o e = refl
written-cells (Script l) w (ToBuffer n bytes) o e = refl
written-cells Nobody w x o e = refl

all-written : (a : Actor) (w : Scene) (xs : List Write) (o : ℕ) → acts_on a o ≡ false → (fold (written a) w xs).cells o ≡ w.cells o
all-written a w [] o e = refl
all-written a w (x ∷ xs) o e = all-written a (written a w x) xs o e ∙ written-cells a w x o e

framed-cells : (a : Actor) (r : Outcome) (w : Scene) (o : ℕ) → acts_on a o ≡ false → (with_frame a r w).cells o ≡ w.cells o
framed-cells (Body c k) r w o e = off k o r.cells w.cells e
framed-cells (Script l) r w o e = refl
framed-cells Nobody r w o e = refl

wanted-cells : (x : Action) (d : Deed) (w : Scene) (o : ℕ) → (wants x d w).cells o ≡ w.cells o
wanted-cells (action.Call held i m args to) (deed.Out c k j n r z bytes) w o = refl
wanted-cells (action.Call held i m args to) _ w o = refl
wanted-cells _ d w o = refl

acted-cells : (a : Actor) (r : Option Outcome) (d : Deed) (w : Scene) (o : ℕ) → acts_on a o ≡ false → (acted a r d w).cells o ≡ w.cells o
acted-cells a None d w o e = refl
acted-cells a (Some r) d w o e =
    wanted-cells r.action d (fold (written a) (with_frame a r w) (writes r.action d)) o
    ∙ all-written a (with_frame a r w) (writes r.action d) o e ∙ framed-cells a r w o e

-- An answer and a result are written to no link.
abbrev IsLinkless : Write → Type 0
IsLinkless (ToLink k held) = ⊥
IsLinkless _ = Unit {0}

linkless-cells : (a : Actor) (w : Scene) (x : Write) (o : ℕ) → IsLinkless x → (written a w x).cells o ≡ w.cells o
linkless-cells (Body c k) w (ToRegister r v) o p = refl
linkless-cells (Body c k) w (ToSlot n held) o p = refl
linkless-cells (Body c k) w (ToLink n held) o p = absurd p
linkless-cells (Body c k) w (ToBuffer n bytes) o p = refl
linkless-cells (Script l) w (ToRegister r v) o p = refl
linkless-cells (Script l) w (ToSlot n held) o p = refl
linkless-cells (Script l) w (ToLink n held) o p = refl
linkless-cells (Script l) w (ToBuffer n bytes) o p = refl
linkless-cells Nobody w x o p = refl

result-cells : (b : Actor) (w : Scene) (to : Destination) (v : Option Value) (o : ℕ) → (fold (written b) w (to_destination to v)).cells o ≡ w.cells o
result-cells b w destination.Nowhere v o = refl
result-cells b w (destination.Register r) None o = refl
result-cells b w (destination.Register r) (Some v) o = linkless-cells b w (ToRegister r v) o tt
result-cells b w (destination.Slot k) v o = linkless-cells b w (ToSlot k (value_reference v)) o tt

arrived-cells : (b : Actor) (l : ℕ) (d : Deed) (w : Scene) (o : ℕ) → is_number o (finals d) ≡ false → (arrived b l d w).cells o ≡ w.cells o
arrived-cells b l (deed.Leave c hr v bytes) w o e = refl
arrived-cells b l (deed.Enter c x a t vs) w o e = refl
arrived-cells b l (deed.Back c hr v) w o e = result-cells b (written b w (to_answer hr)) (w.destinations c) v o ∙ linkless-cells b w (to_answer hr) o tt
arrived-cells b l deed.EndPump w o e = linkless-cells b w (to_answer S_OK) o tt
arrived-cells b l (deed.Uninit a zero) w o e = refl
arrived-cells b l (deed.Uninit a (suc n)) w o e = refl
arrived-cells b l (deed.Final k) w o e = off k o _ w.cells e
arrived-cells b l _ w o e = refl

cut-cells : (n : ℕ → ℕ) (x : Option ℕ) (w : Scene) (o : ℕ) → is_number (n o) x ≡ false → (cut_links n x w).cells o ≡ w.cells o
cut-cells n None w o e = refl
cut-cells n (Some a) w o e = ap (λ (t : Bool). cond t (record (w.cells o) { links = replicate 4 None }) (w.cells o)) e

-- Who acts in the end is who stood there, or nobody.
pub over-or : (P : Actor → Type 0) (a : Actor) (r : Option Outcome) → P Nobody → P a → P (unless_over a r)
over-or P (Body c o) r p q = q
over-or P (Script l) None p q = q
over-or P (Script l) (Some r) p q = elim (is_leave r.action) as (λ t. P (cond t Nobody (Script l))) [ true ↦ p | false ↦ q ]
over-or P Nobody r p q = q

pub final-or : (P : Actor → Type 0) (d : Deed) (a : Actor) → P Nobody → P a → P (unless_final d a)
final-or P (deed.Final k) a p q = p
final-or P _ a p q = q

pub cells-stay : (s : Scenario) (h : List Entry) (e : Entry) → CellsStay s h e
cells-stay s h e o a f n =
    let k : Actor = actor_in s h e.lane in
    let b : Actor = actor_in s (e ∷ h) e.lane in
    let w : Scene = scene s h in
    let u : Actor = acting s (class_of h) (issue h) w k e.deed in
    let r : Option Outcome = outcome s (class_of h) (issue h) w u in
    let off-o : acts_on u o ≡ false = final-or (λ x. acts_on x o ≡ false) e.deed (unless_over k (outcome s (class_of h) (issue h) w k)) refl (over-or (λ x. acts_on x o ≡ false) k (outcome s (class_of h) (issue h) w k) refl a) in
    cut-cells (named h) (ends_sta e.deed) (arrived b e.lane e.deed (acted u r e.deed w)) o n
    ∙ arrived-cells b e.lane e.deed (acted u r e.deed w) o f
    ∙ acted-cells u r e.deed w o off-o
