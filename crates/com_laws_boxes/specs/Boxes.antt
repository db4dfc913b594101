-- The boxes of a page by lane, with the grounds of homes.
use Rattle.std.specs.Prelude.{◌≡◌, ℕ, ◌==◌, ◌&&◌, Bool, true, false, not, if◌then◌else◌, List, [], ◌∷◌}
use Rattle.com_model.specs.declared.deeds.Entry.{Entry}
use Rattle.com_model.specs.declared.scenario.Scenario.{Scenario}
use Rattle.com_draw_words.specs.declared.boxes.BoxKind.TheVariants as kind
use Rattle.com_draw_words.specs.declared.boxes.BoxText.TheVariants as inner
use Rattle.com_draw_words.specs.declared.boxes.Foot.TheVariants as foot
use Rattle.com_draw_words.specs.Boxes.{is_of_object}
use Rattle.com_draw_state.specs.Lanes.{lane_at}
use Rattle.com_draw_state.specs.Board.{State}
use Rattle.com_draw_shapes.specs.declared.effects.Closing.{Closing}
use Rattle.com_draw_shapes.specs.declared.effects.Closing.TheVariants as close
use Rattle.com_draw_shapes.specs.declared.effects.Opens.{Opens}
use Rattle.com_draw_shapes.specs.declared.effects.Opens.TheVariants as opens
use Rattle.com_draw_shapes.specs.Changes.{own_home}
use Rattle.com_draw_shapes.specs.Effects.{closed_by, opened_by}
use Rattle.com_draw.specs.Entries.{drawn}
use Rattle.com_laws_draw.specs.Boxes.{Placed}
use Rattle.com_laws_draw.specs.Lanes.{IsRun, open_in}

-- Whether a box stands in a lane, and is no life of an object.
abbrev pub is_in : (lane : ℕ) → Placed → Bool
is_in l x = x.box.lane == l && not (is_of_object x.box.kind)

-- The boxes of a lane: its grounds, and of what is open in it.
abbrev pub in_lane : (lane : ℕ) → List Placed → List Placed
in_lane l [] = []
in_lane l (x ∷ xs) = if is_in l x then x ∷ in_lane l xs else in_lane l xs

-- A body's box stands in the lane that entered its call.
abbrev pub StandsWhereRun : List Entry → Placed → Type 0
StandsWhereRun h x = IsRun h x.box.lane x.box.kind x.box.text

-- ---- when grounds begin and end

abbrev pub enters_home : Opens → Bool
enters_home (opens.Home a) = true
enters_home _ = false

abbrev pub leaves_home : Closing → Bool
leaves_home (close.Home a) = true
leaves_home _ = false

-- A ground begins and ends where nothing is open in its lane.
pub record IsBare (b : State) (e : Entry) : Type 0 where
  pub enters : enters_home (opened_by (own_home (lane_at b.lanes e.lane)) e.deed) ≡ true → open_in b e.lane ≡ []
  pub leaves : leaves_home (closed_by e.deed) ≡ true → open_in b e.lane ≡ []

abbrev pub GroundsAreBare : Scenario → List Entry → Type 0
GroundsAreBare s [] = Unit {0}
GroundsAreBare s (e ∷ h) = GroundsAreBare s h × IsBare (drawn s h).board e

-- ---- examples

-- The ground of lane 1, from a row of the first section to another.
abbrev pub ground_at : (top row : ℕ) → Placed
ground_at t r = record {
  section = 1;
  box = record {
    kind = kind.Home;
    hue = 3;
    lane = 1;
    level = 0;
    top = t;
    row = r;
    is_up = false;
    foot = foot.Inner;
    text = inner.Nothing;
  };
}
