-- What a contract sees of a scene: its tables, what has room, and what was taken for the entry that comes.
use Rattle.std.specs.Prelude.{ℕ, Bool, List, vec_capacity, vec_len, ◌-◌}
use Rattle.com_model.specs.State.{SceneTables}
use Rattle.com_scene.specs.declared.prepare.Taken.{Taken}
use Rattle.com_scene.specs.declared.tables.Tables.{Tables}
use Rattle.com_scene.specs.Seen.{seats_of}

-- Which calls have a frame of their own, and for how many more calls and objects there is room.
pub record SceneRoom : Type 0 where
  pub seats : List Bool
  pub calls : ℕ
  pub objects : ℕ

-- The tables, what has room, and what was taken.
pub record SceneRows : Type 0 where
  pub tables : SceneTables
  pub room : SceneRoom
  pub taken : Taken

abbrev pub room_of : Tables → SceneRoom
room_of t = record {
  seats = seats_of t.calls.items;
  calls = vec_capacity t.calls - vec_len t.calls;
  objects = vec_capacity t.cells - vec_len t.cells;
}
