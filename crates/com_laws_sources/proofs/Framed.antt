-- Frames that stay at an entry, and what a call that comes back writes.
use Rattle.std.proofs.Common.{refl, sym, ap, ap₂, subst, ◌∙◌}
use Rattle.std.specs.Prelude.{◌≡◌, ℕ, zero, suc, pos, false, List, [], ◌∷◌, fold, Option, Some, None}
use Rattle.com_base.specs.declared.hresult.HResult.{HResult}
use Rattle.com_base.specs.declared.value.Value.{Value}
use Rattle.com_base.specs.declared.value.Value.TheVariants as value
use Rattle.com_body.specs.declared.operands.Destination.{Destination}
use Rattle.com_body.specs.declared.operands.Destination.TheVariants as destination
use Rattle.com_body.specs.declared.actions.Action.{Action}
use Rattle.com_body.specs.declared.actions.Action.TheVariants as action
use Rattle.com_body.specs.declared.frame.Cells.{Cells}
use Rattle.com_body.specs.declared.frame.Outcome.{Outcome}
use Rattle.com_body.specs.Frames.{FrameView, entered, with_register, with_slot}
use Rattle.com_model.specs.declared.deeds.Deed.{Deed}
use Rattle.com_model.specs.declared.deeds.Deed.TheVariants as deed
use Rattle.com_model.specs.declared.deeds.Entry.{Entry}
use Rattle.com_model.specs.declared.scenario.Scenario.{Scenario}
use Rattle.com_model.specs.declared.keeps.Issue.{Issue}
use Rattle.com_model.specs.Answers.{S_OK}
use Rattle.com_model.specs.Lists.{put}
use Rattle.com_model.specs.Apartments.{ends_sta}
use Rattle.com_model.specs.Objects.{class_of, named}
use Rattle.com_model.specs.Calls.{issue}
use Rattle.com_model.specs.Frames.{Scene, scene, Actor, Body, Script, Nobody, actor_in, outcome, unless_over, Write, ToRegister, ToSlot, ToLink, ToBuffer, to_answer, to_destination, value_reference, writes, written, with_frame, wants, acted, arrived, cut_links, acting, scene_after}
use Rattle.com_model.specs.Rules.{legal}
use Rattle.com_laws_sources.specs.Alone.{goes_on, alone}
use Rattle.com_laws_sources.specs.Steps.{step_of, StepsBy, body_for, left_alone, GoesOn, GoesAlone, acts_for, begins_or_ends, FramesStay, returned_to, BackWrites}
use Rattle.com_laws_sources.proofs.Stepped.{put-same, off, over-or, final-or, own-step}

-- ---- frames that stay

written-frame : (a : Actor) (w : Scene) (x : Write) (c : ℕ) → acts_for a c ≡ false → (written a w x).bodies c ≡ w.bodies c
written-frame (Body k o) w (ToRegister r v) c e = off k c _ w.bodies e
written-frame (Body k o) w (ToSlot n held) c e = off k c _ w.bodies e
written-frame (Body k o) w (ToLink n held) c e = refl
written-frame (Body k o) w (ToBuffer n bytes) c e = refl
written-frame (Script l) w (ToRegister r v) c e = refl
written-frame (Script l) w (ToSlot n held) c e = refl
written-frame (Script l) w (ToLink n held) c e = refl
written-frame (Script l) w (ToBuffer n bytes) c e = refl
written-frame Nobody w x c e = refl

all-written : (a : Actor) (w : Scene) (xs : List Write) (c : ℕ) → acts_for a c ≡ false → (fold (written a) w xs).bodies c ≡ w.bodies c
all-written a w [] c e = refl
all-written a w (x ∷ xs) c e = all-written a (written a w x) xs c e ∙ written-frame a w x c e

framed-frame : (a : Actor) (r : Outcome) (w : Scene) (c : ℕ) → acts_for a c ≡ false → (with_frame a r w).bodies c ≡ w.bodies c
framed-frame (Body k o) r w c e = off k c r.frame w.bodies e
framed-frame (Script l) r w c e = refl
framed-frame Nobody r w c e = refl

wanted-frame : (x : Action) (d : Deed) (w : Scene) (c : ℕ) → (wants x d w).bodies c ≡ w.bodies c
wanted-frame (action.Call held i m args to) (deed.Out k o j n r z bytes) w c = refl
wanted-frame (action.Call held i m args to) _ w c = refl
wanted-frame _ d w c = refl

acted-frame : (a : Actor) (r : Option Outcome) (d : Deed) (w : Scene) (c : ℕ) → acts_for a c ≡ false → (acted a r d w).bodies c ≡ w.bodies c
acted-frame a None d w c e = refl
acted-frame a (Some r) d w c e =
    wanted-frame r.action d (fold (written a) (with_frame a r w) (writes r.action d)) c
    ∙ all-written a (with_frame a r w) (writes r.action d) c e ∙ framed-frame a r w c e

arrived-frame : (b : Actor) (l : ℕ) (d : Deed) (w : Scene) (c : ℕ) → acts_for b c ≡ false → begins_or_ends d c ≡ false → (arrived b l d w).bodies c ≡ w.bodies c
arrived-frame b l (deed.Leave k hr v bytes) w c e f = off k c (entered []) w.bodies f
arrived-frame b l (deed.Enter k x a t vs) w c e f = off k c (entered vs) w.bodies f
arrived-frame b l (deed.Back k hr v) w c e f = all-written b w (to_answer hr ∷ to_destination (w.destinations k) v) c e
arrived-frame b l deed.EndPump w c e f = written-frame b w (to_answer S_OK) c e
arrived-frame b l (deed.Uninit a zero) w c e f = refl
arrived-frame b l (deed.Uninit a (suc n)) w c e f = refl
arrived-frame b l (deed.Final k) w c e f = refl
arrived-frame b l _ w c e f = refl

cut-frame : (n : ℕ → ℕ) (x : Option ℕ) (w : Scene) (c : ℕ) → (cut_links n x w).bodies c ≡ w.bodies c
cut-frame n None w c = refl
cut-frame n (Some a) w c = refl

pub frames-stay : (s : Scenario) (h : List Entry) (e : Entry) → FramesStay s h e
frames-stay s h e c a f n =
    let k : Actor = actor_in s h e.lane in
    let b : Actor = actor_in s (e ∷ h) e.lane in
    let w : Scene = scene s h in
    let u : Actor = acting s (class_of h) (issue h) w k e.deed in
    let r : Option Outcome = outcome s (class_of h) (issue h) w u in
    let off-c : acts_for u c ≡ false = final-or (λ x. acts_for x c ≡ false) e.deed (unless_over k (outcome s (class_of h) (issue h) w k)) refl (over-or (λ x. acts_for x c ≡ false) k (outcome s (class_of h) (issue h) w k) refl a) in
    cut-frame (named h) (ends_sta e.deed) (arrived b e.lane e.deed (acted u r e.deed w)) c
    ∙ arrived-frame b e.lane e.deed (acted u r e.deed w) c f n
    ∙ acted-frame u r e.deed w c off-c

-- ---- a call that comes back

after-answer : (w : Scene) (c o : ℕ) (hr : HResult) (to : Destination) (v : Option Value) → (fold (written (Body c o)) w (to_answer hr ∷ to_destination to v)).bodies c ≡ returned_to to hr v (w.bodies c)
after-answer w c o hr destination.Nowhere v = put-same c (with_register (w.bodies c) 15 (value.Int (pos hr.0))) w.bodies
after-answer w c o hr (destination.Register r) None = put-same c (with_register (w.bodies c) 15 (value.Int (pos hr.0))) w.bodies
after-answer w c o hr (destination.Register r) (Some v) =
    let f : FrameView = with_register (w.bodies c) 15 (value.Int (pos hr.0)) in
    let b : ℕ → FrameView = put c f w.bodies in
    put-same c (with_register (b c) r v) b ∙ ap (λ (g : FrameView). with_register g r v) (put-same c f w.bodies)
after-answer w c o hr (destination.Slot k) v =
    let f : FrameView = with_register (w.bodies c) 15 (value.Int (pos hr.0)) in
    let b : ℕ → FrameView = put c f w.bodies in
    put-same c (with_slot (b c) k (value_reference v)) b ∙ ap (λ (g : FrameView). with_slot g k (value_reference v)) (put-same c f w.bodies)

back-scene : (s : Scenario) (k n : ℕ → ℕ) (i : ℕ → Option Issue) (a b : Actor) (l c o : ℕ) (w : Scene) (d : Deed) (j : ℕ) (hr : HResult) (v : Option Value) → d ≡ deed.Back j hr v → a ≡ Nobody → b ≡ Body c o
    → (scene_after s k n i a b l d w).bodies c ≡ returned_to (w.destinations j) hr v (w.bodies c)
back-scene s k n i a b l c o w d j hr v p q r =
    subst (λ (d : Deed). (scene_after s k n i a b l d w).bodies c ≡ returned_to (w.destinations j) hr v (w.bodies c)) (sym p)
    (subst (λ (a : Actor). (scene_after s k n i a b l (deed.Back j hr v) w).bodies c ≡ returned_to (w.destinations j) hr v (w.bodies c)) (sym q)
    (subst (λ (b : Actor). (scene_after s k n i Nobody b l (deed.Back j hr v) w).bodies c ≡ returned_to (w.destinations j) hr v (w.bodies c)) (sym r)
    (after-answer w c o hr (w.destinations j) v)))

pub back-writes : (s : Scenario) (h : List Entry) (e : Entry) → BackWrites s h e
back-writes s h e d c o hr v p q r =
    back-scene s (class_of h) (named h) (issue h) (actor_in s h e.lane) (actor_in s (e ∷ h) e.lane) e.lane c o (scene s h) e.deed d hr v p q r

-- ---- a body that goes on by itself

goes-by : (s : Scenario) (h : List Entry) (e : Entry) (c o : ℕ) (i : Issue) (n : ℕ) (r : Outcome) (x : Action) → r ≡ step_of s h c o i → r.action ≡ x
    → StepsBy s h c o i r e.deed (scene s (e ∷ h)) x → left_alone s h c o i n ≡ goes_on (alone (body_for s h o i) n) r x → GoesOn s h e c o i n x
goes-by s h e c o i n r (action.Copy to held) p q b z = sym (z ∙ sym (ap₂ (λ (f : FrameView) (d : Cells). alone (body_for s h o i) n f d) b.1 b.2))
goes-by s h e c o i n r (action.Release from held) p q b z = sym (z ∙ sym (ap₂ (λ (f : FrameView) (d : Cells). alone (body_for s h o i) n f d) b.1 b.2))
goes-by s h e c o i n r (action.Call held j m args to) p q b z =
    (ap (λ (y : Outcome). y.action) z ∙ q, b.2 ∙ sym (ap (λ (y : Outcome). y.cells) z), b.1 ∙ sym (ap (λ (y : Outcome). y.frame) z))
goes-by s h e c o i n r (action.Leave hr x) p q b z = (ap (λ (y : Outcome). y.action) z ∙ q, b.1 ∙ sym (ap (λ (y : Outcome). y.cells) z))
goes-by s h e c o i n r (action.Create slot k j) p q b z = tt
goes-by s h e c o i n r (action.Query to held j) p q b z = tt
goes-by s h e c o i n r (action.Marshal k held m) p q b z = tt
goes-by s h e c o i n r (action.Unmarshal slot k) p q b z = tt
goes-by s h e c o i n r (action.Drop k) p q b z = tt
goes-by s h e c o i n r (action.Raw k bytes) p q b z = tt
goes-by s h e c o i n r (action.Register to held) p q b z = tt
goes-by s h e c o i n r (action.Get slot k) p q b z = tt
goes-by s h e c o i n r (action.Revoke k) p q b z = tt
goes-by s h e c o i n r (action.Disconnect held) p q b z = tt
goes-by s h e c o i n r (action.Post m k) p q b z = tt
goes-by s h e c o i n r (action.Quit m) p q b z = tt
goes-by s h e c o i n r (action.Init m) p q b z = tt
goes-by s h e c o i n r action.Uninit p q b z = tt
goes-by s h e c o i n r (action.SetFilter f) p q b z = tt
goes-by s h e c o i n r (action.Pump k) p q b z = tt

pub goes-alone : (s : Scenario) (h : List Entry) (e : Entry) → legal s (e ∷ h) → GoesAlone s h e
goes-alone s h e q c o a os i n p m =
    goes-by s h e c o i n (step_of s h c o i) (step_of s h c o i).action refl refl (own-step s h e q c o a os i p m) refl
