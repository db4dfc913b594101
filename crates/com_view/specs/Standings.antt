-- How the lanes of a core stand, by what the rules look at.
use Rattle.std.specs.Prelude.{ℕ, Bool, false, ◌&&◌, if◌then◌else◌, is_none, slice_index_or}
use Rattle.com_model.specs.declared.scenario.Scenario.{Scenario}
use Rattle.com_model.specs.Ends.{finished_by}
use Rattle.com_model.specs.Lists.{is_empty}
use Rattle.com_model.specs.Rules.{no_lane_can, tick_time}
use Rattle.com_model.specs.Sight.{Sight}
use Rattle.com_state.specs.Parts.{LaneTables, openers_at}
use Rattle.com_calls.specs.Kept.{Kept, inbox_at}
use Rattle.com_view.specs.Seen.{Seen, dying_seen}
use Rattle.com_runtime.specs.declared.runtime.Standing.{Standing}
use Rattle.com_runtime.specs.declared.runtime.Standing.TheVariants as standing

-- Finished where all is done; else it runs where a lane can step, and the clock goes on where a call waits
-- for a time.
abbrev pub standing_by : Scenario → Sight → Standing
standing_by s v =
    if finished_by s v then standing.Finished
    else if no_lane_can s v then (if is_none (tick_time v) then standing.Stuck else standing.Ticks)
    else standing.Runs

-- The thread of a lane has ended.
abbrev pub over_at : LaneTables → (lane : ℕ) → Bool
over_at t l = slice_index_or t.over l false

-- Nothing is open in a lane, and no dying object is to be ended there.
abbrev pub is_quiet : Seen → (lane : ℕ) → Bool
is_quiet w l = is_empty (openers_at w.lanes l) && is_empty (dying_seen w l)

-- No call waits in the inbox of an apartment.
abbrev pub is_unasked : Kept → (apartment : ℕ) → Bool
is_unasked b a = is_empty (inbox_at b a)
