-- What scripts, open bodies, objects and packet buffers hold, and what a lane's body or script does next.
use Rattle.std.specs.Prelude.{ℕ, zero, pos, Bool, true, false, ◌==◌, if◌then◌else◌, List, [], ◌∷◌, Option}
use Rattle.std.specs.Prelude.{Some, None, fold, replicate, slice_set}
use Rattle.com_base.specs.declared.limits.TheConstants.{ANSWER_REGISTER, SLOT_COUNT, LINK_COUNT}
use Rattle.com_base.specs.declared.hresult.HResult.{HResult}
use Rattle.com_base.specs.declared.value.RefValue.{RefValue}
use Rattle.com_base.specs.declared.value.Value.{Value}
use Rattle.com_base.specs.declared.value.Value.TheVariants as value
use Rattle.com_body.specs.declared.operands.Asked.TheVariants as asked
use Rattle.com_body.specs.declared.operands.Place.{Place}
use Rattle.com_body.specs.declared.operands.Place.TheVariants as place
use Rattle.com_body.specs.declared.operands.Destination.{Destination}
use Rattle.com_body.specs.declared.operands.Destination.TheVariants as destination
use Rattle.com_body.specs.declared.actions.Action.{Action}
use Rattle.com_body.specs.declared.actions.Action.TheVariants as action
use Rattle.com_body.specs.declared.frame.Cells.{Cells}
use Rattle.com_body.specs.declared.frame.Outcome.{Outcome}
use Rattle.com_body.specs.Frames.{FrameView, entered, with_register, with_slot}
use Rattle.com_body.specs.Operands.{new_cells}
use Rattle.com_body.specs.BodySteps.{body_step}
use Rattle.com_classes.specs.Lookups.{body_of}
use Rattle.com_model.specs.declared.deeds.Deed.{Deed}
use Rattle.com_model.specs.declared.deeds.Deed.TheVariants as deed
use Rattle.com_model.specs.declared.deeds.Entry.{Entry}
use Rattle.com_model.specs.declared.scenario.Scenario.{Scenario}
use Rattle.com_model.specs.Answers.{S_OK, is_S_OK}
use Rattle.com_model.specs.Lists.{put}
use Rattle.com_model.specs.Tables.{LaneSort, Thread, lane_sort, script}
use Rattle.com_model.specs.Openers.{Opener, Enters, openers}
use Rattle.com_model.specs.Apartments.{ends_sta}
use Rattle.com_model.specs.Objects.{class_of, named}
use Rattle.com_model.specs.Calls.{Issue, issue}

-- The frames of the scripts by lane and of the bodies by call, the cells by object, the buffers by number,
-- and where the result of each call is to go.
pub record Scene : Type 0 where
  pub scripts : ℕ → FrameView
  pub bodies : ℕ → FrameView
  pub cells : ℕ → Cells
  pub buffers : ℕ → List ℕ
  pub destinations : ℕ → Destination

-- Before the first entry: frames without values, the cells of new objects, empty buffers, and no result that is wanted.
abbrev pub first_scene : Scene
first_scene = record {
  scripts = λ l. entered [];
  bodies = λ c. entered [];
  cells = λ o. new_cells;
  buffers = λ p. [];
  destinations = λ c. destination.Nowhere;
}

-- Who acts in a lane: the body of its topmost opener, where that is an Enter; the script of a thread's lane
-- without opener.
pub data Actor : Type 0 where
  Body : (call object : ℕ) → Actor
  Script : (lane : ℕ) → Actor
  Nobody : Actor

-- Who acts in a lane without opener: in a thread's lane its script, in every other lane nobody.
abbrev pub script_of : LaneSort → ℕ → Actor
script_of Thread l = Script l
script_of _ l = Nobody

-- Who acts in a lane with these openers, the innermost first: nobody where that is a pump, or an Out that waits.
abbrev pub actor : LaneSort → ℕ → List Opener → Actor
actor sort l [] = script_of sort l
actor sort l (Enters c o a ∷ os) = Body c o
actor sort l (_ ∷ os) = Nobody

-- Who acts in a lane after a history. A script that has come to its end counts as acting here.
abbrev pub actor_in : Scenario → List Entry → ℕ → Actor
actor_in s h l = actor (lane_sort s l) l (openers h l)

-- The body step for a call by what its Out says, on an object of this class. Without an Out there is no statement,
-- so that the step leaves with S_OK.
abbrev pub issued_body : Scenario → (class : ℕ) → Option Issue → FrameView → Cells → Outcome
issued_body s k None f c = body_step [] f c
issued_body s k (Some i) f c = body_step (body_of s.classes k i.iface i.method) f c

-- The body step of whoever acts, by the classes of objects and the issues of calls.
abbrev pub outcome : Scenario → (class : ℕ → ℕ) → (issue : ℕ → Option Issue) → Scene → Actor → Option Outcome
outcome s k i w (Body c o) = Some (issued_body s (k o) (i c) (w.bodies c) (w.cells o))
outcome s k i w (Script l) = Some (body_step (script s l) (w.scripts l) new_cells)
outcome s k i w Nobody = None

-- A step that leaves in a script means that the script is over; then nobody acts.
abbrev pub is_leave : Action → Bool
is_leave (action.Leave hr v) = true
is_leave _ = false

-- Nobody in place of a script whose step is a leave, which says that it is over; a body that leaves still acts.
abbrev pub unless_over : Actor → Option Outcome → Actor
unless_over (Script l) (Some r) = if is_leave r.action then Nobody else Script l
unless_over a r = a

-- A dying object's Final is made by its lane, and is no action of a script or body.
abbrev pub unless_final : Deed → Actor → Actor
unless_final (deed.Final o) a = Nobody
unless_final _ a = a

-- What an entry tells of an action: its HRESULT, the reference that was taken, the cookie and the bytes.
abbrev pub answer_in : Deed → HResult
answer_in (deed.Init m a hr) = hr
answer_in (deed.Made o a k i hr) = hr
answer_in (deed.Query o i hr) = hr
answer_in (deed.Marshal p m held refs hr bytes) = hr
answer_in (deed.Unmarshal p held refs hr) = hr
answer_in (deed.DropPacket p hr) = hr
answer_in (deed.Register g held hr) = hr
answer_in (deed.Get g held refs hr) = hr
answer_in (deed.Revoke g hr) = hr
answer_in (deed.SetFilter f hr) = hr
answer_in (deed.Post l w hr) = hr
answer_in (deed.Quit l hr) = hr
answer_in (deed.Disconnect o hr) = hr
answer_in _ = S_OK

-- The reference to an object, by the number of an interface.
abbrev pub reference : ℕ → ℕ → RefValue
reference o i = record { object = o; iface = i }

-- The reference that a Made, a Query, an Unmarshal or a Get gives to whoever acts; none on refusal, and none in
-- any other entry.
abbrev pub taken_in : Deed → Option RefValue
taken_in (deed.Made (Some o) a k (asked.Number i) hr) = Some (reference o i)
taken_in (deed.Query (Some o) (asked.Number i) hr) = if is_S_OK hr then Some (reference o i) else None
taken_in (deed.Unmarshal p held refs hr) = held
taken_in (deed.Get g held refs hr) = held
taken_in _ = None

-- The cookie that a Register gives, from 1; 0 where it is refused, and in any other entry.
abbrev pub cookie_in : Deed → ℕ
cookie_in (deed.Register (Some g) held hr) = g
cookie_in _ = 0

-- What an entry writes for whoever acts.
pub data Write : Type 0 where
  ToRegister : (number : ℕ) → Value → Write
  ToSlot : (number : ℕ) → Option RefValue → Write
  ToLink : (number : ℕ) → Option RefValue → Write
  ToBuffer : (number : ℕ) → List ℕ → Write

-- The write of a reference, or of null, at a place: a slot of the frame, or a link of the body's object.
abbrev pub to_place : Place → Option RefValue → Write
to_place (place.Slot k) held = ToSlot k held
to_place (place.Link k) held = ToLink k held

-- Each action puts its HRESULT in the register of answers, as a number without sign.
abbrev pub to_answer : HResult → Write
to_answer hr = ToRegister ANSWER_REGISTER (value.Int (pos hr.0))

-- A Marshal puts the bytes of its packet in buffer b. On refusal it has none, and the buffer stays.
abbrev pub marshalled_in : ℕ → Deed → List Write
marshalled_in b (deed.Marshal p m held refs hr (Some bytes)) = ToBuffer b bytes ∷ []
marshalled_in b _ = []

-- First the HRESULT, then what the destination takes: the new reference, or null on failure; a cookie, or 0.
-- A call writes at its Back, and a pump at its EndPump.
abbrev pub writes : Action → Deed → List Write
writes (action.Create slot k i) d = to_answer (answer_in d) ∷ ToSlot slot (taken_in d) ∷ []
writes (action.Query to held i) d = to_answer (answer_in d) ∷ ToSlot to (taken_in d) ∷ []
writes (action.Copy to held) d = to_answer (answer_in d) ∷ to_place to held ∷ []
writes (action.Release from held) d = to_answer (answer_in d) ∷ to_place from None ∷ []
writes (action.Marshal b held m) d = to_answer (answer_in d) ∷ marshalled_in b d
writes (action.Unmarshal slot b) d = to_answer (answer_in d) ∷ ToSlot slot (taken_in d) ∷ []
writes (action.Raw b bytes) d = to_answer (answer_in d) ∷ ToBuffer b bytes ∷ []
writes (action.Register to held) d =
    to_answer (answer_in d) ∷ ToRegister to (value.Int (pos (cookie_in d))) ∷ []
writes (action.Get slot g) d = to_answer (answer_in d) ∷ ToSlot slot (taken_in d) ∷ []
writes (action.Call held i m args to) d = []
writes (action.Leave hr v) d = []
writes (action.Pump n) d = []
writes _ d = to_answer (answer_in d) ∷ []

-- The reference that a result is; null where there is no result or it is no reference.
abbrev pub value_reference : Option Value → Option RefValue
value_reference (Some (value.Ref held)) = held
value_reference _ = None

-- At a Back a destination register takes the result, and stays where there is none; a slot takes the
-- reference, or null.
abbrev pub to_register : ℕ → Option Value → List Write
to_register r None = []
to_register r (Some v) = ToRegister r v ∷ []

-- What a Back writes of the result, by the destination that the call's Out kept; nothing where that is Nowhere.
abbrev pub to_destination : Destination → Option Value → List Write
to_destination destination.Nowhere v = []
to_destination (destination.Register r) v = to_register r v
to_destination (destination.Slot k) v = ToSlot k (value_reference v) ∷ []

-- One write, in the frame of whoever acts, in the links of the body's object, or in the buffers that all
-- share.
abbrev pub with_link : Cells → ℕ → Option RefValue → Cells
with_link c k held = record c { links = slice_set c.links k held }

abbrev pub in_body : Scene → (call object : ℕ) → Write → Scene
in_body w c o (ToRegister r v) = record w { bodies = put c (with_register (w.bodies c) r v) w.bodies }
in_body w c o (ToSlot k held) = record w { bodies = put c (with_slot (w.bodies c) k held) w.bodies }
in_body w c o (ToLink k held) = record w { cells = put o (with_link (w.cells o) k held) w.cells }
in_body w c o (ToBuffer p bytes) = record w { buffers = put p bytes w.buffers }

abbrev pub in_script : Scene → (lane : ℕ) → Write → Scene
in_script w l (ToRegister r v) = record w { scripts = put l (with_register (w.scripts l) r v) w.scripts }
in_script w l (ToSlot k held) = record w { scripts = put l (with_slot (w.scripts l) k held) w.scripts }
in_script w l (ToLink k held) = w
in_script w l (ToBuffer p bytes) = record w { buffers = put p bytes w.buffers }

-- The scene after a write by whoever acts. A script has no links, and nobody writes anything.
abbrev pub written : Actor → Scene → Write → Scene
written (Body c o) w x = in_body w c o x
written (Script l) w x = in_script w l x
written Nobody w x = w

-- The step of whoever acts: its frame and cells, then what the entry writes.
abbrev pub with_frame : Actor → Outcome → Scene → Scene
with_frame (Body c o) r w = record w { bodies = put c r.frame w.bodies; cells = put o r.cells w.cells }
with_frame (Script l) r w = record w { scripts = put l r.frame w.scripts }
with_frame Nobody r w = w

-- The Out entry of a call keeps where the result is to go.
abbrev pub wants : Action → Deed → Scene → Scene
wants (action.Call held i m args to) (deed.Out c o j n r k bytes) w =
    record w { destinations = put c to w.destinations }
wants _ d w = w

-- The scene after the step of whoever acts: its frame and cells, then what its entry writes, and where the result of
-- a call is to go. Without a step the scene stays.
abbrev pub acted : Actor → Option Outcome → Deed → Scene → Scene
acted a None d w = w
acted a (Some r) d w = wants r.action d (fold (written a) (with_frame a r w) (writes r.action d))

-- An Enter begins a frame. A Back and an EndPump write for whoever acts after them. An Uninit to count 0
-- makes the script's slots null. Final makes the object's links null.
abbrev pub arrived : (after : Actor) → (lane : ℕ) → Deed → Scene → Scene
arrived b l (deed.Leave c hr v bytes) w = record w { bodies = put c (entered []) w.bodies }
arrived b l (deed.Enter c o a t vs) w = record w { bodies = put c (entered vs) w.bodies }
arrived b l (deed.Back c hr v) w = fold (written b) w (to_answer hr ∷ to_destination (w.destinations c) v)
arrived b l deed.EndPump w = written b w (to_answer S_OK)
arrived b l (deed.Uninit a zero) w =
    record w { scripts = put l (record (w.scripts l) { slots = replicate SLOT_COUNT None }) w.scripts }
arrived b l (deed.Final o) w =
    record w { cells = put o (record (w.cells o) { links = replicate LINK_COUNT None }) w.cells }
arrived b l _ w = w

-- The end of an STA makes the links of all its objects null.
abbrev pub cut_links : (named : ℕ → ℕ) → Option ℕ → Scene → Scene
cut_links named None w = w
cut_links named (Some a) w =
    record w {
      cells = λ o. if named o == a then record (w.cells o) { links = replicate LINK_COUNT None }
          else w.cells o;
    }

-- Who makes a step at this deed: nobody at a Final, and nobody where the script of the lane is over.
abbrev pub acting : Scenario → (class : ℕ → ℕ) → (issue : ℕ → Option Issue) → Scene → Actor → Deed → Actor
acting s k i w a d = unless_final d (unless_over a (outcome s k i w a))

-- The scene after a deed of a lane, with who acts there before and after it.
abbrev pub scene_after : Scenario → (class named : ℕ → ℕ) → (issue : ℕ → Option Issue)
    → (before after : Actor) → (lane : ℕ) → Deed → Scene → Scene
scene_after s k n i a b l d w =
    cut_links n (ends_sta d)
    (arrived b l d (acted (acting s k i w a d) (outcome s k i w (acting s k i w a d)) d w))

-- What scripts, open bodies, objects and packet buffers hold after a history.
abbrev pub scene : Scenario → List Entry → Scene
scene s [] = first_scene
scene s (e ∷ h) =
    scene_after s (class_of h) (named h) (issue h) (actor_in s h e.lane) (actor_in s (e ∷ h) e.lane) e.lane
    e.deed (scene s h)

-- The next action of a lane's body or script, where one acts.
abbrev pub action_of : Option Outcome → Option Action
action_of None = None
action_of (Some r) = Some r.action

-- The next action of whoever acts, in this scene; none where nobody does, and none where the script is over.
abbrev pub act_by : Scenario → (class : ℕ → ℕ) → (issue : ℕ → Option Issue) → Scene → Actor → Option Action
act_by s k i w a = action_of (outcome s k i w (unless_over a (outcome s k i w a)))

-- The next action of a lane's body or script after a history; none where nobody acts or the script is over.
abbrev pub act : Scenario → List Entry → ℕ → Option Action
act s h l = act_by s (class_of h) (issue h) (scene s h) (actor_in s h l)
