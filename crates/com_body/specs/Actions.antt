-- The action that a statement is, with its operands' values.
use Rattle.std.specs.Prelude.{None}
use Rattle.com_base.specs.declared.hresult.TheConstants.HResult.{S_OK}
use Rattle.com_body.specs.declared.statements.Stmt.{Stmt}
use Rattle.com_body.specs.declared.statements.Stmt.TheVariants as stmt
use Rattle.com_body.specs.declared.actions.Action.{Action}
use Rattle.com_body.specs.declared.actions.Action.TheVariants as action
use Rattle.com_body.specs.declared.frame.Cells.{Cells}
use Rattle.com_body.specs.Frames.{FrameView}
use Rattle.com_body.specs.Operands.{slot_of, held_at, number_of, arguments_of, answer_of, given_value}

-- `leave S_OK` with no value: what stands at a body's end.
abbrev pub leave_ok : Action
leave_ok = action.Leave S_OK None

-- The action of a statement that is one, on this frame and these cells. First those on lanes and apartments;
-- no other statement is an action.
abbrev pub lane_action_of : FrameView → Stmt → Action
lane_action_of f (stmt.Post lane word) = action.Post (number_of f lane) (number_of f word)
lane_action_of f (stmt.Quit lane) = action.Quit (number_of f lane)
lane_action_of f (stmt.Init mode) = action.Init mode
lane_action_of f stmt.Uninit = action.Uninit
lane_action_of f (stmt.SetFilter filter) = action.SetFilter filter
lane_action_of f (stmt.Pump bound) = action.Pump bound
lane_action_of f other = leave_ok

-- Those on packets and cookies.
abbrev pub packet_action_of : FrameView → Stmt → Action
packet_action_of f (stmt.Marshal buffer slot mode) = action.Marshal buffer (slot_of f slot) mode
packet_action_of f (stmt.Unmarshal slot buffer) = action.Unmarshal slot buffer
packet_action_of f (stmt.Drop buffer) = action.Drop buffer
packet_action_of f (stmt.Raw buffer bytes) = action.Raw buffer bytes
packet_action_of f (stmt.Register to slot) = action.Register to (slot_of f slot)
packet_action_of f (stmt.Get slot cookie) = action.Get slot (number_of f cookie)
packet_action_of f (stmt.Revoke cookie) = action.Revoke (number_of f cookie)
packet_action_of f other = lane_action_of f other

-- Those on references and calls, and all the rest.
abbrev pub action_of : FrameView → Cells → Stmt → Action
action_of f c (stmt.Create slot class iface) = action.Create slot class iface
action_of f c (stmt.Query to from iface) = action.Query to (slot_of f from) iface
action_of f c (stmt.Copy to from) = action.Copy to (held_at f c from)
action_of f c (stmt.Release place) = action.Release place (held_at f c place)
action_of f c (stmt.Call slot iface method args destination) =
    action.Call (slot_of f slot) iface method (arguments_of f args) destination
action_of f c (stmt.Disconnect slot) = action.Disconnect (slot_of f slot)
action_of f c (stmt.Leave answer given) = action.Leave (answer_of f answer) (given_value f given)
action_of f c other = packet_action_of f other
