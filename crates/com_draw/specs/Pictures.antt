-- What is kept of a picture while it is drawn.
use Rattle.std.specs.Prelude.{ℕ}
use Rattle.com_model.specs.declared.scenario.Scenario.{Scenario}
use Rattle.com_model.specs.Tables.{threads}
use Rattle.com_draw_state.specs.Board.{State, first_board}
use Rattle.com_draw_state.specs.Lanes.{depth_of, lane_at}

-- How far a picture is drawn: how its lanes and tracks stand, and how many entries there were.
pub record Picture : Type 0 where
  -- the lanes and the tracks
  pub board : State
  -- how many entries were made
  pub entries : ℕ

-- How much stands open in a lane.
abbrev pub depth_in : Picture → (lane : ℕ) → ℕ
depth_in p l = depth_of (lane_at p.board.lanes l)

-- Before the first entry.
abbrev pub first : Scenario → Picture
first s = record { board = first_board (threads s) s.pool; entries = 0 }
