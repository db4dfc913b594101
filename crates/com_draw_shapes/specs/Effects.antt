-- What an entry opens, closes, points at and touches: each by an effect of its own. An entry that a
-- definition does not name does nothing to what it speaks of.
use Rattle.std.specs.Prelude.{ℕ, ◌^◌, ℤ, pos, negsuc, Bool, ◌||◌, ◌==◌, nat_lt, if◌then◌else◌, Option, Some}
use Rattle.std.specs.Prelude.{None}
use Rattle.com_base.specs.declared.hresult.HResult.{HResult}
use Rattle.com_base.specs.declared.value.RefValue.{RefValue}
use Rattle.com_model.specs.declared.deeds.Deed.{Deed}
use Rattle.com_model.specs.declared.deeds.Deed.TheVariants as deed
use Rattle.com_model.specs.declared.deeds.Route.{Route}
use Rattle.com_model.specs.declared.deeds.Route.TheVariants as route
use Rattle.com_model.specs.Answers.{is_failure}
use Rattle.com_draw_state.specs.declared.stacks.Manner.{Manner}
use Rattle.com_draw_state.specs.declared.stacks.Manner.TheVariants as manner
use Rattle.com_draw_state.specs.declared.stacks.Opened.TheVariants as what
use Rattle.com_draw_shapes.specs.declared.effects.Opens.{Opens}
use Rattle.com_draw_shapes.specs.declared.effects.Opens.TheVariants as opens
use Rattle.com_draw_shapes.specs.declared.effects.Closing.{Closing}
use Rattle.com_draw_shapes.specs.declared.effects.Closing.TheVariants as close
use Rattle.com_draw_shapes.specs.declared.effects.Points.{Points}
use Rattle.com_draw_shapes.specs.declared.effects.Points.TheVariants as point

-- ---- what opens

abbrev pub opens_home : (has_home : Bool) → (home : ℕ) → HResult → Opens
opens_home has_home a hr = if has_home || is_failure hr then opens.Nothing else opens.Home a

abbrev pub opens_life : (object apartment : ℕ) → HResult → Opens
opens_life o a hr = if is_failure hr then opens.Nothing else opens.Life o a

-- How a call by this route is waited for: a posted one across lanes, any other that is not refused within its own lane.
abbrev pub manner_of : Route → Manner
manner_of route.Refused = manner.Refused
manner_of route.Post = manner.Across
manner_of _ = manner.Within

-- The home of a lane that had none, the life of an object, and in the lane a pump, a call or a body.
abbrev pub opened_by : (has_home : Bool) → Deed → Opens
opened_by has_home (deed.Init mode home hr) = opens_home has_home home hr
opened_by has_home (deed.Made (Some o) (Some a) class iface hr) = opens_life o a hr
opened_by has_home (deed.Pump bound) = opens.Level what.Pumps
opened_by has_home (deed.Out call object iface method r cause bytes) =
    opens.Level (what.Waits call (manner_of r) iface method)
opened_by has_home (deed.Enter call object apartment call_type values) =
    opens.Level (what.Runs call apartment)
opened_by has_home _ = opens.Nothing

-- ---- what closes

abbrev pub closes_home : (apartment count : ℕ) → Closing
closes_home a count = if count == 0 then close.Home a else close.Nothing

abbrev pub closes_object : (object : ℕ) → HResult → Closing
closes_object o hr = if is_failure hr then close.Nothing else close.Cut o

-- The home of a lane that leaves it for good, what is innermost, and the life of an object, which is cut off
-- or is no more.
abbrev pub closed_by : Deed → Closing
closed_by (deed.Uninit (Some a) count) = closes_home a count
closed_by deed.EndPump = close.Innermost
closed_by (deed.Leave call hr value bytes) = close.Innermost
closed_by (deed.Back call hr value) = close.Innermost
closed_by (deed.Disconnect (Some o) hr) = closes_object o hr
closed_by (deed.Final o) = close.Life o
closed_by _ = close.Nothing

-- ---- where it points

-- The number of a lane, and 0 where the value is none.
abbrev pub lane_number : ℤ → ℕ
lane_number (pos n) = if nat_lt n (2 ^ 32) then n else 0
lane_number (negsuc n) = 0

abbrev pub points_to : ℤ → HResult → Points
points_to l hr = if is_failure hr then point.Nowhere else point.Word (lane_number l)

-- A word and a quit that are sent, and what happens to a call.
abbrev pub points_of : Deed → Points
points_of (deed.Post lane word hr) = points_to lane hr
points_of (deed.Quit lane hr) = points_to lane hr
points_of (deed.Verdict call call_type verdict) = point.Refusal
points_of (deed.Refuse call hr) = point.Refusal
points_of (deed.Enter call object apartment call_type values) = point.Go
points_of (deed.Leave call hr value bytes) = point.Answer
points_of _ = point.Nowhere

-- ---- what it touches

abbrev pub held_object : Option RefValue → Option ℕ
held_object None = None
held_object (Some held) = Some held.object

-- The object of the reference that an entry is about, and the target of a call.
abbrev pub touched_by : Deed → Option ℕ
touched_by (deed.Query object iface hr) = object
touched_by (deed.Copy held) = held_object held
touched_by (deed.Release held) = held_object held
touched_by (deed.Marshal packet mode held refs hr bytes) = held_object held
touched_by (deed.Unmarshal packet held refs hr) = held_object held
touched_by (deed.Register cookie held hr) = held_object held
touched_by (deed.Get cookie held refs hr) = held_object held
touched_by (deed.Out call object iface method r cause bytes) = object
touched_by (deed.Enter call object apartment call_type values) = Some object
touched_by (deed.Disconnect object hr) = object
touched_by _ = None
