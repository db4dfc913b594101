-- What an entry changes of a picture's board.
use Rattle.std.specs.Prelude.{ℕ, Bool, true, false, nat_le, if◌then◌else◌, Option, Some, None, is_some, map}
use Rattle.com_base.specs.declared.apartments.TheConstants.{FIRST_STA}
use Rattle.com_model.specs.declared.deeds.Entry.{Entry}
use Rattle.com_draw_state.specs.declared.lanes.Lane.{Lane}
use Rattle.com_draw_state.specs.declared.stacks.Start.{Start}
use Rattle.com_draw_state.specs.Board.{State, with_lanes, with_tracks}
use Rattle.com_draw_state.specs.Lanes.{acted, homed, lane_at, with_lane, with_opening, without_innermost}
use Rattle.com_draw_state.specs.Tracks.{cut_of_apartment, cut_of_object, freed, taken}
use Rattle.com_draw_shapes.specs.declared.effects.Opens.{Opens}
use Rattle.com_draw_shapes.specs.declared.effects.Opens.TheVariants as opens
use Rattle.com_draw_shapes.specs.declared.effects.Closing.{Closing}
use Rattle.com_draw_shapes.specs.declared.effects.Closing.TheVariants as close
use Rattle.com_draw_shapes.specs.Effects.{closed_by, opened_by}
use Rattle.com_draw_shapes.specs.Places.{below}

-- What opens in a lane begins here.
abbrev pub opened_on : Start → (lane : ℕ) → Opens → State → State
opened_on here l opens.Nothing b = b
opened_on here l (opens.Home a) b =
    with_lanes (with_lane (homed (Some (record { apartment = a; start = here }))) l b.lanes) b
opened_on here l (opens.Life o a) b =
    with_tracks (taken (record { object = o; apartment = a; is_live = true; start = here }) b.tracks) b
opened_on here l (opens.Level w) b =
    with_lanes (with_lane (with_opening (record { what = w; start = here })) l b.lanes) b

-- A lane leaves its home, and with an STA that a thread made the objects of that are cut off: from the next
-- row on they are drawn so.
abbrev pub left_on : Start → (lane apartment : ℕ) → State → State
left_on here l a b =
    if nat_le FIRST_STA a
    then with_tracks (map (cut_of_apartment a (below here)) b.tracks)
    (with_lanes (with_lane (homed None) l b.lanes) b)
    else with_lanes (with_lane (homed None) l b.lanes) b

-- An object is cut off: from the next row on it is drawn so.
abbrev pub cut_on : Start → (object : ℕ) → State → State
cut_on here o b = with_tracks (map (cut_of_object o (below here)) b.tracks) b

-- The board after what an entry closes: a home is left, the innermost goes, an object is cut off, or its track is free.
abbrev pub closed_on : Start → (lane : ℕ) → Closing → State → State
closed_on here l close.Nothing b = b
closed_on here l (close.Home a) b = left_on here l a b
closed_on here l close.Innermost b = with_lanes (with_lane without_innermost l b.lanes) b
closed_on here l (close.Cut o) b = cut_on here o b
closed_on here l (close.Life o) b = with_tracks (map (freed o) b.tracks) b

-- Whether a lane has a home; false where no lane has the number.
abbrev pub own_home : Option Lane → Bool
own_home None = false
own_home (Some row) = is_some row.home

-- An entry here: its lane acted, and what it opens and closes.
unfoldable pub changed : Start → Entry → State → State
changed here e b =
    closed_on here e.lane (closed_by e.deed)
    (opened_on here e.lane (opened_by (own_home (lane_at b.lanes e.lane)) e.deed)
    (with_lanes (with_lane acted e.lane b.lanes) b))
