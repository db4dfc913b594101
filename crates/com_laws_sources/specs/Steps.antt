-- One entry of a lane whose innermost opener is a body: it is one step of this body, and of nothing else.
use Rattle.std.specs.Prelude.{◌≡◌, ℕ, suc, pos, Bool, false, ◌==◌, List, ◌∷◌, Option, Some, None}
use Rattle.com_base.specs.declared.hresult.HResult.{HResult}
use Rattle.com_base.specs.declared.value.RefValue.{RefValue}
use Rattle.com_base.specs.declared.value.Value.{Value}
use Rattle.com_base.specs.declared.value.Value.TheVariants as value
use Rattle.com_body.specs.declared.statements.Stmt.{Stmt}
use Rattle.com_body.specs.declared.operands.Destination.{Destination}
use Rattle.com_body.specs.declared.operands.Destination.TheVariants as destination
use Rattle.com_body.specs.declared.actions.Action.{Action}
use Rattle.com_body.specs.declared.actions.Action.TheVariants as action
use Rattle.com_body.specs.declared.frame.Outcome.{Outcome}
use Rattle.com_body.specs.Frames.{FrameView, with_register, with_slot}
use Rattle.com_body.specs.BodySteps.{body_step}
use Rattle.com_classes.specs.Lookups.{body_of, method_at}
use Rattle.com_model.specs.declared.deeds.Deed.{Deed}
use Rattle.com_model.specs.declared.deeds.Deed.TheVariants as deed
use Rattle.com_model.specs.declared.deeds.Entry.{Entry}
use Rattle.com_model.specs.declared.scenario.Scenario.{Scenario}
use Rattle.com_model.specs.Tables.{result_kind}
use Rattle.com_model.specs.Openers.{openers}
use Rattle.com_model.specs.declared.keeps.Opener.{Opener}
use Rattle.com_model.specs.declared.keeps.Opener.TheVariants.{Enters}
use Rattle.com_model.specs.Apartments.{ends_sta}
use Rattle.com_model.specs.Objects.{class_of, named, finals}
use Rattle.com_model.specs.Calls.{issue, is_marshalled}
use Rattle.com_model.specs.declared.keeps.Issue.{Issue}
use Rattle.com_model.specs.Books.{books}
use Rattle.com_model.specs.Deeds.{object_in}
use Rattle.com_model.specs.Frames.{Scene, scene, Actor, Body, Nobody, actor_in, value_reference}
use Rattle.com_model.specs.Lists.{is_number}
use Rattle.com_model.specs.Values.{sent_result}
use Rattle.com_laws_sources.specs.Alone.{in_frame, in_cells, alone}

-- The step of the body of a call, issued so, on its object.
abbrev pub step_of : Scenario → List Entry → (call object : ℕ) → Issue → Outcome
step_of s h c o i =
    body_step (body_of s.classes (class_of h o) i.iface i.method) ((scene s h).bodies c) ((scene s h).cells o)

abbrev pub IsOut : Deed → Option RefValue → (iface method : ℕ) → Type 0
IsOut (deed.Out c x j n r k bytes) held i m = (x ≡ object_in held) × (j ≡ i) × (n ≡ m)
IsOut _ held i m = ⊥

-- A body leaves with the HRESULT of its step, and with the value of its step as one of the result's kind.
abbrev pub IsLeave : Deed → (call : ℕ) → HResult → Option Value → Type 0
IsLeave (deed.Leave d y v bytes) c hr x = (d ≡ c) × (y ≡ hr) × (v ≡ x)
IsLeave _ c hr x = ⊥

abbrev pub result_of : Scenario → List Entry → Issue → HResult → Option Value → Option Value
result_of s h i hr x =
    sent_result (is_marshalled i.route) (books s h).live hr
    (result_kind (method_at s.classes i.iface i.method)) x

-- What the entry of each action is, and the frame and the cells after it: those of the step, and what a copy
-- or a release puts at its place.
abbrev pub StepsBy : Scenario → List Entry → (call object : ℕ) → Issue → Outcome → Deed → Scene → Action
    → Type 0
StepsBy s h c o i r d w (action.Copy to held) =
    (d ≡ deed.Copy held) × (w.bodies c ≡ in_frame to held r.frame) × (w.cells o ≡ in_cells to held r.cells)
StepsBy s h c o i r d w (action.Release from held) =
    (d ≡ deed.Release held) × (w.bodies c ≡ in_frame from None r.frame)
    × (w.cells o ≡ in_cells from None r.cells)
StepsBy s h c o i r d w (action.Call held j m args to) =
    IsOut d held j m × (w.bodies c ≡ r.frame) × (w.cells o ≡ r.cells)
StepsBy s h c o i r d w (action.Leave hr x) = IsLeave d c hr (result_of s h i hr x) × (w.cells o ≡ r.cells)
StepsBy s h c o i r d w _ = Unit {0}

abbrev pub OwnStep : Scenario → List Entry → Entry → Type 0
OwnStep s h e =
    (c o a : ℕ) (os : List Opener) (i : Issue) → openers h e.lane ≡ Enters c o a ∷ os → issue h c ≡ Some i
    → StepsBy s h c o i (step_of s h c o i) e.deed (scene s (e ∷ h)) (step_of s h c o i).action

-- ---- what an entry leaves

-- Whether a body of the object acts.
abbrev pub acts_on : Actor → (object : ℕ) → Bool
acts_on (Body c x) o = o == x
acts_on _ o = false

-- The cells of an object stay, unless a body of it acts, it has its Final, or the STA in which it was made
-- ends.
abbrev pub CellsStay : Scenario → List Entry → Entry → Type 0
CellsStay s h e =
    (o : ℕ) → acts_on (actor_in s h e.lane) o ≡ false → is_number o (finals e.deed) ≡ false
    → is_number (named h o) (ends_sta e.deed) ≡ false → (scene s (e ∷ h)).cells o ≡ (scene s h).cells o

-- ---- a body that goes on by itself

abbrev pub body_for : Scenario → List Entry → (object : ℕ) → Issue → List Stmt
body_for s h o i = body_of s.classes (class_of h o) i.iface i.method

-- What the body had left to do, with so many copies and releases after the next one.
abbrev pub left_alone : Scenario → List Entry → (call object : ℕ) → Issue → (steps : ℕ) → Outcome
left_alone s h c o i n = alone (body_for s h o i) (suc n) ((scene s h).bodies c) ((scene s h).cells o)

-- Where the entry is a copy or a release, the body on top goes on with what it had left to do by itself.
-- Where it is an Out or a Leave, the body had come to this action by itself, and the cells are those that it
-- leaves.
abbrev pub GoesOn : Scenario → List Entry → Entry → (call object : ℕ) → Issue → (steps : ℕ) → Action → Type 0
GoesOn s h e c o i n (action.Copy to held) =
    alone (body_for s h o i) n ((scene s (e ∷ h)).bodies c) ((scene s (e ∷ h)).cells o)
    ≡ left_alone s h c o i n
GoesOn s h e c o i n (action.Release from held) =
    alone (body_for s h o i) n ((scene s (e ∷ h)).bodies c) ((scene s (e ∷ h)).cells o)
    ≡ left_alone s h c o i n
GoesOn s h e c o i n (action.Call held j m args to) =
    ((left_alone s h c o i n).action ≡ action.Call held j m args to)
    × ((scene s (e ∷ h)).cells o ≡ (left_alone s h c o i n).cells)
    × ((scene s (e ∷ h)).bodies c ≡ (left_alone s h c o i n).frame)
GoesOn s h e c o i n (action.Leave hr x) =
    ((left_alone s h c o i n).action ≡ action.Leave hr x)
    × ((scene s (e ∷ h)).cells o ≡ (left_alone s h c o i n).cells)
GoesOn s h e c o i n _ = Unit {0}

abbrev pub GoesAlone : Scenario → List Entry → Entry → Type 0
GoesAlone s h e =
    (c o a : ℕ) (os : List Opener) (i : Issue) (n : ℕ) → openers h e.lane ≡ Enters c o a ∷ os
    → issue h c ≡ Some i
    → GoesOn s h e c o i n (step_of s h c o i).action

-- ---- frames that stay

-- Whether the body of the call acts, and whether an entry enters the call or lets its body leave.
abbrev pub acts_for : Actor → (call : ℕ) → Bool
acts_for (Body k x) c = c == k
acts_for _ c = false

abbrev pub begins_or_ends : Deed → (call : ℕ) → Bool
begins_or_ends (deed.Enter k o a t vs) c = c == k
begins_or_ends (deed.Leave k hr v bytes) c = c == k
begins_or_ends _ c = false

-- The frame of a body stays, unless the body acts, or acts again after the entry, or begins or ends by it.
abbrev pub FramesStay : Scenario → List Entry → Entry → Type 0
FramesStay s h e =
    (c : ℕ) → acts_for (actor_in s h e.lane) c ≡ false → acts_for (actor_in s (e ∷ h) e.lane) c ≡ false
    → begins_or_ends e.deed c ≡ false → (scene s (e ∷ h)).bodies c ≡ (scene s h).bodies c

-- The frame after an answer and a result were written.
abbrev pub with_result : Destination → Option Value → FrameView → FrameView
with_result (destination.Register r) (Some v) f = with_register f r v
with_result (destination.Slot k) v f = with_slot f k (value_reference v)
with_result _ v f = f

abbrev pub returned_to : Destination → HResult → Option Value → FrameView → FrameView
returned_to to hr v f = with_result to v (with_register f 15 (value.Int (pos hr.0)))

-- A call that comes back writes its answer and its result, and nothing else, into the frame of the body that
-- had waited for it.
abbrev pub BackWrites : Scenario → List Entry → Entry → Type 0
BackWrites s h e =
    (d c o : ℕ) (hr : HResult) (v : Option Value) → e.deed ≡ deed.Back d hr v → actor_in s h e.lane ≡ Nobody
    → actor_in s (e ∷ h) e.lane ≡ Body c o
    → (scene s (e ∷ h)).bodies c ≡ returned_to ((scene s h).destinations d) hr v ((scene s h).bodies c)
