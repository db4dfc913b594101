-- The lanes of a picture, which are numbered from 1, and what changes in one.
use Rattle.std.specs.Prelude.{ℕ, ◌+◌, ◌-◌, Bool, true, false, ◌==◌, ◌||◌, nat_lt, max, if◌then◌else◌, List}
use Rattle.std.specs.Prelude.{[], ◌∷◌, ◌++◌, Option, Some, None, length, slice_get, slice_index_or, slice_set}
use Rattle.std.specs.Option.{option_or}
use Rattle.com_draw_state.specs.declared.lanes.Waiter.{Waiter}
use Rattle.com_draw_state.specs.declared.lanes.Home.{Home}
use Rattle.com_draw_state.specs.declared.lanes.Lane.{Lane}
use Rattle.com_draw_state.specs.declared.stacks.Opened.{Opened}
use Rattle.com_draw_state.specs.declared.stacks.Opened.TheVariants as what
use Rattle.com_draw_state.specs.declared.stacks.Opening.{Opening}
use Rattle.com_draw_state.specs.Stacks.{outer}

-- A lane with this home that made no entry.
abbrev pub new_lane : Option Home → Lane
new_lane home = record { home = home; openings = []; has_acted = false; width = 0 }

-- A lane without home that made no entry.
abbrev pub no_lane : Lane
no_lane = new_lane None

-- The lane with a number, from 1.
abbrev pub lane_at : List Lane → ℕ → Option Lane
lane_at lanes l = if l == 0 then None else slice_get lanes (l - 1)

-- How much stands open in a lane.
abbrev pub depth_of : Option Lane → ℕ
depth_of None = 0
depth_of (Some row) = length row.openings

-- The lanes in which one is changed, where there is one with this number.
abbrev pub with_lane : (Lane → Lane) → ℕ → List Lane → List Lane
with_lane f l lanes =
    if l == 0 || nat_lt (length lanes) l then lanes
    else slice_set lanes (l - 1) (f (slice_index_or lanes (l - 1) no_lane))

-- The lane made an entry.
abbrev pub acted : Lane → Lane
acted row = record row { has_acted = true }

-- The lane has to be so wide.
abbrev pub widened : ℕ → Lane → Lane
widened w row = record row { width = max row.width w }

-- The lane has this home from now on, or none.
abbrev pub homed : Option Home → Lane → Lane
homed home row = record row { home = home }

-- Something more stands open in the lane, or what is innermost is closed.
abbrev pub with_opening : Opening → Lane → Lane
with_opening o row = record row { openings = row.openings ++ o ∷ [] }

-- What is innermost in the lane is closed. Where nothing is open the lane stays.
abbrev pub without_innermost : Lane → Lane
without_innermost row = record row { openings = outer row.openings }

-- Who waits for a call: the opening of a lane that is this call, which is at most one in all lanes.
abbrev pub waiter_by : (lane depth : ℕ) → Opened → (call : ℕ) → Option Waiter
waiter_by l d what.Pumps c = None
waiter_by l d (what.Waits own manner iface method) c =
    if own == c then Some (record { lane = l; depth = d; iface = iface; method = method }) else None
waiter_by l d (what.Runs call apartment) c = None

abbrev pub waiter_at : (lane depth : ℕ) → List Opening → (call : ℕ) → Option Waiter
waiter_at l d [] c = None
waiter_at l d (o ∷ os) c = option_or (waiter_by l d o.what c) (waiter_at l (d + 1) os c)

-- Who waits for a call among these lanes, of which the first has this number. None where nobody does.
abbrev pub waiter_in : (lane : ℕ) → List Lane → (call : ℕ) → Option Waiter
waiter_in l [] c = None
waiter_in l (row ∷ rows) c = option_or (waiter_at l 1 row.openings c) (waiter_in (l + 1) rows c)
