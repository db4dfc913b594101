-- What a contract sees of the parts.
use Rattle.std.specs.Prelude.{ℕ, List}
use Rattle.com_calls.specs.Kept.{Kept}
use Rattle.com_lanes.specs.Rooms.{LaneRows}
use Rattle.com_model.specs.State.{SceneTables}
use Rattle.com_objects.specs.Rooms.{ObjectRows}
use Rattle.com_scene.specs.Rooms.{SceneRoom, SceneRows}
use Rattle.com_scene.specs.declared.prepare.Taken.{Taken}
use Rattle.com_state.specs.Parts.{LaneTables, ObjectTables}

-- What the lanes, the objects and the scene have room for, what the scene has taken, and what the parts have: the
-- apartment of each object.
pub record PartRooms : Type 0 where
  pub lanes : LaneRows
  pub objects : ObjectRows
  pub scene : SceneRoom
  pub taken : Taken
  pub owners : List ℕ

abbrev pub rooms_of : LaneRows → ObjectRows → SceneRows → List ℕ → PartRooms
rooms_of lanes objects scene owners = record {
  lanes = lanes;
  objects = objects;
  scene = scene.room;
  taken = scene.taken;
  owners = owners;
}

-- The tables of lanes, of objects, of calls with their inboxes and of the scene; how many entries have
-- changed them; and what has room.
pub record PartTables : Type 0 where
  pub lanes : LaneTables
  pub objects : ObjectTables
  pub calls : Kept
  pub scene : SceneTables
  pub entries : ℕ
  pub rooms : PartRooms
