-- The boxes of homes, of what is open, and of the lives of objects.
use Rattle.std.specs.Prelude.{ℕ, ◌+◌, ◌*◌, Bool, true, false, nat_le, if◌then◌else◌, List, [], ◌∷◌, ◌++◌}
use Rattle.std.specs.Prelude.{Option, Some, None, length}
use Rattle.com_base.specs.declared.apartments.TheConstants.{FIRST_STA}
use Rattle.com_draw_state.specs.declared.lanes.Home.{Home}
use Rattle.com_draw_state.specs.declared.lanes.Lane.{Lane}
use Rattle.com_draw_state.specs.declared.stacks.Manner.{Manner}
use Rattle.com_draw_state.specs.declared.stacks.Manner.TheVariants as manner
use Rattle.com_draw_state.specs.declared.stacks.Opened.{Opened}
use Rattle.com_draw_state.specs.declared.stacks.Opened.TheVariants as what
use Rattle.com_draw_state.specs.declared.stacks.Opening.{Opening}
use Rattle.com_draw_state.specs.declared.stacks.Start.{Start}
use Rattle.com_draw_state.specs.declared.tracks.Track.{Track}
use Rattle.com_draw_state.specs.Board.{State}
use Rattle.com_draw_state.specs.Lanes.{lane_at}
use Rattle.com_draw_state.specs.Stacks.{innermost}
use Rattle.com_draw_state.specs.Tracks.{is_live_in, is_live_of, is_of}
use Rattle.com_draw_words.specs.declared.boxes.TheConstants.{NO_HUE}
use Rattle.com_draw_words.specs.declared.boxes.BoxKind.{BoxKind}
use Rattle.com_draw_words.specs.declared.boxes.BoxKind.TheVariants as kind
use Rattle.com_draw_words.specs.declared.boxes.BoxText.{BoxText}
use Rattle.com_draw_words.specs.declared.boxes.BoxText.TheVariants as inner
use Rattle.com_draw_words.specs.declared.boxes.DrawnBox.{DrawnBox}
use Rattle.com_draw_words.specs.declared.boxes.Foot.{Foot}
use Rattle.com_draw_words.specs.declared.boxes.Foot.TheVariants as foot
use Rattle.com_draw_words.specs.Boxes.{box_text, hue_of}
use Rattle.com_draw_shapes.specs.declared.boxes.Chosen.{Chosen}
use Rattle.com_draw_shapes.specs.declared.boxes.Chosen.TheVariants as chosen
use Rattle.com_draw_shapes.specs.declared.effects.Closing.{Closing}
use Rattle.com_draw_shapes.specs.declared.effects.Closing.TheVariants as close
use Rattle.com_draw_shapes.specs.Places.{is_up, top_in}

-- ---- homes

-- The box of a lane's home: the ground along its column, as far as this row of the section.
abbrev pub home_box : Start → (lane : ℕ) → Foot → Home → DrawnBox
home_box here l f home = record {
  kind = kind.Home;
  hue = hue_of home.apartment;
  lane = l;
  level = 0;
  top = top_in here home.start;
  row = here.row;
  is_up = is_up here home.start;
  foot = f;
  text = inner.Nothing;
}

-- The box of a lane's home, where it has one.
unfoldable pub home_boxes : Start → (lane : ℕ) → Foot → Option Home → List ℕ
home_boxes here l f None = []
home_boxes here l f (Some home) = box_text (home_box here l f home)

-- ---- what is open

-- The kind of its box: a pump's, a body's, or that of a call which was refused, runs in another lane or in its own.
abbrev pub kind_of : Opened → BoxKind
kind_of what.Pumps = kind.Pump
kind_of (what.Waits call manner.Refused iface method) = kind.Refused
kind_of (what.Waits call manner.Across iface method) = kind.Wait
kind_of (what.Waits call manner.Within iface method) = kind.Call
kind_of (what.Runs call apartment) = kind.Body

-- A body's hue is that of its apartment.
abbrev pub hue_in : Opened → ℕ
hue_in what.Pumps = NO_HUE
hue_in (what.Waits call m iface method) = NO_HUE
hue_in (what.Runs call apartment) = hue_of apartment

-- The text in the box: the number of the call; none for a pump.
abbrev pub inner_of : Opened → BoxText
inner_of what.Pumps = inner.Nothing
inner_of (what.Waits call m iface method) = inner.Call call
inner_of (what.Runs call apartment) = inner.Call call

-- The box of what is open at a depth of a lane, as far as this row of the section.
abbrev pub opening_box : Start → (lane : ℕ) → Foot → (depth : ℕ) → Opening → DrawnBox
opening_box here l f d o = record {
  kind = kind_of o.what;
  hue = hue_in o.what;
  lane = l;
  level = d;
  top = top_in here o.start;
  row = here.row;
  is_up = is_up here o.start;
  foot = f;
  text = inner_of o.what;
}

-- The box of what is open at a depth of a lane.
unfoldable pub opening_text : Start → (lane : ℕ) → Foot → (depth : ℕ) → Opening → List ℕ
opening_text here l f d o = box_text (opening_box here l f d o)

-- The boxes of all that is open in a lane, the outermost first, which has this depth.
abbrev pub opening_boxes : Start → (lane : ℕ) → Foot → (depth : ℕ) → List Opening → List ℕ
opening_boxes here l f d [] = []
opening_boxes here l f d (o ∷ os) = opening_text here l f d o ++ opening_boxes here l f (d + 1) os

-- ---- lives of objects

-- The lane of the objects stands behind all others.
abbrev pub objects_lane : State → ℕ
objects_lane b = length b.lanes + 1

-- The kind of an object's bar: alive, or cut off from other apartments.
abbrev pub life_of : (is_live : Bool) → BoxKind
life_of true = kind.Live
life_of false = kind.Cut

-- The bar of an object's life on the track of this number, as far as this row of the section. From one track to the
-- next are two levels.
abbrev pub track_box : Start → (lane : ℕ) → Foot → (number : ℕ) → Track → DrawnBox
track_box here m f k t = record {
  kind = life_of t.is_live;
  hue = hue_of t.apartment;
  lane = m;
  level = 2 * k;
  top = top_in here t.start;
  row = here.row;
  is_up = is_up here t.start;
  foot = f;
  text = inner.Object t.object;
}

abbrev pub is_chosen : Chosen → Option Track → Bool
is_chosen chosen.All t = true
is_chosen (chosen.LiveIn a) t = is_live_in a t
is_chosen (chosen.LiveOf o) t = is_live_of o t
is_chosen (chosen.Of o) t = is_of o t

-- What is drawn of a track: its life, where the track is chosen.
abbrev pub chosen_track : Chosen → Option Track → Option Track
chosen_track x t = if is_chosen x t then t else None

-- The box of an object's life on a track, where there is one.
unfoldable pub life_boxes : Start → (lane : ℕ) → Foot → (number : ℕ) → Option Track → List ℕ
life_boxes here m f k None = []
life_boxes here m f k (Some t) = box_text (track_box here m f k t)

-- The boxes of the chosen tracks, of which the first has this number.
abbrev pub track_boxes : Start → (lane : ℕ) → Foot → Chosen → (number : ℕ) → List (Option Track) → List ℕ
track_boxes here m f x k [] = []
track_boxes here m f x k (t ∷ ts) =
    life_boxes here m f k (chosen_track x t) ++ track_boxes here m f x (k + 1) ts

-- ---- what an entry closes

-- The home of a lane; None where it has none, or where no lane has the number.
abbrev pub home_in : Option Lane → Option Home
home_in None = None
home_in (Some row) = row.home

-- With an STA that a thread made its objects are cut off. The other apartments live for the whole run.
abbrev pub cut_boxes : Start → (apartment : ℕ) → State → List ℕ
cut_boxes here a b =
    if nat_le FIRST_STA a then track_boxes here (objects_lane b) foot.Inner (chosen.LiveIn a) 0 b.tracks else []

-- The box of the innermost.
abbrev pub innermost_box : Start → (lane : ℕ) → (depth : ℕ) → Option Opening → List ℕ
innermost_box here l d None = []
innermost_box here l d (Some o) = opening_text here l foot.Inner d o

-- The box of what is innermost in a lane; none where nothing is open, or where no lane has the number.
abbrev pub innermost_boxes : Start → (lane : ℕ) → Option Lane → List ℕ
innermost_boxes here l None = []
innermost_boxes here l (Some row) = innermost_box here l (length row.openings) (innermost row.openings)

-- The boxes of what an entry in a lane closes, as the board was before.
unfoldable pub closing_boxes : Start → (lane : ℕ) → Closing → State → List ℕ
closing_boxes here l close.Nothing b = []
closing_boxes here l (close.Home a) b =
    home_boxes here l foot.Inner (home_in (lane_at b.lanes l)) ++ cut_boxes here a b
closing_boxes here l close.Innermost b = innermost_boxes here l (lane_at b.lanes l)
closing_boxes here l (close.Cut o) b =
    track_boxes here (objects_lane b) foot.Inner (chosen.LiveOf o) 0 b.tracks
closing_boxes here l (close.Life o) b = track_boxes here (objects_lane b) foot.Inner (chosen.Of o) 0 b.tracks
