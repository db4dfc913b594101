-- What an entry takes from places and brings to places, by the tables of a state.
use Rattle.std.specs.Prelude.{◌≡◌, ℕ, ◌+◌, false, [], Option, None, length}
use Rattle.com_body.specs.declared.frame.Outcome.{Outcome}
use Rattle.com_model.specs.declared.deeds.Entry.{Entry}
use Rattle.com_model.specs.declared.scenario.Scenario.{Scenario}
use Rattle.com_model.specs.Lists.{from_one}
use Rattle.com_model.specs.Apartments.{ends_sta}
use Rattle.com_model.specs.Frames.{Scene, Actor, acted, arrived}
use Rattle.com_model.specs.Places.{Ground, Test, places_that}
use Rattle.com_model.specs.State.{State, SceneTables, ground_in, scene_in, scene_read, after}
use Rattle.com_laws_places.specs.Moves.{Moves, together, counted, acted_moves, arrived_moves, ended_moves}
use Rattle.com_state.specs.After.{acting_in, step_in, actor_after}
use Rattle.com_state.specs.Parts.{ObjectTables, CallTables, named_at, issue_at, admission_at}

-- The moves of an entry, with who makes it, the step of whoever does, and who acts in its lane afterwards.
abbrev pub moves_by : Ground → Scene → (acting : Actor) → Option Outcome → (after : Actor) → Entry → Moves
moves_by g w a r b e =
    together (acted_moves g w a r e.deed)
    (together (arrived_moves g (acted a r e.deed w) b e.lane e.deed)
    (ended_moves g (arrived b e.lane e.deed (acted a r e.deed w)) (ends_sta e.deed)))

-- The moves of an entry that is made in a state.
abbrev pub moves_in : Scenario → State → Entry → Moves
moves_in s st e =
    moves_by (ground_in s st) (scene_in st) (acting_in s st e) (step_in s st e) (actor_after s st e) e

-- What an apartment holds after an entry, with what it lost, is what it held before, with what it gained.
abbrev pub PlacesMoveIn : Scenario → State → Entry → Type 0
PlacesMoveIn s st e =
    (a : ℕ) (t : Test)
    → places_that s (ground_in s (after s st e.lane e.deed)) (scene_in (after s st e.lane e.deed)) a t
    + counted (moves_in s st e).lost a t
    ≡ places_that s (ground_in s st) (scene_in st) a t + counted (moves_in s st e).gained a t

-- What an entry rests on beside itself: the home of its lane, the tables of objects, calls and the scene
-- before it, who makes it, the step of whoever does, and who acts in its lane afterwards.
pub record SettingView : Type 0 where
  pub home : Option ℕ
  pub objects : ObjectTables
  pub calls : CallTables
  pub scene : SceneTables
  pub acting : Actor
  pub outcome : Option Outcome
  pub after : Actor

-- What the moves of an entry rest on, with the home of its lane; what they do not look at is left out.
abbrev pub ground_at : (home : Option ℕ) → ObjectTables → CallTables → Ground
ground_at home o c = record {
  openers = λ l. [];
  home = λ l. home;
  apartments = 0;
  objects = length o.makings;
  named = named_at o;
  owns = λ x a. false;
  calls = length c.issues;
  issue = issue_at c;
  admitted = admission_at c;
  left = λ k. from_one c.leavings k None;
  returned = λ k. from_one c.returned k false;
}

-- The moves of an entry by the tables of objects, calls and the scene alone, with the home of its lane.
abbrev pub moves_at : (home : Option ℕ) → ObjectTables → CallTables → SceneTables → (acting : Actor)
    → Option Outcome → (after : Actor) → Entry → Moves
moves_at home o c t a r b e = moves_by (ground_at home o c) (scene_read t) a r b e
