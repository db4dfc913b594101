-- Places by a state's tables: what the next entry of a lane takes from them and brings to them.
use Rattle.std.specs.Prelude.{◌≡◌, ℕ, ◌+◌}
use Rattle.com_model.specs.declared.deeds.Deed.{Deed}
use Rattle.com_model.specs.declared.scenario.Scenario.{Scenario}
use Rattle.com_model.specs.Apartments.{ends_sta}
use Rattle.com_model.specs.Frames.{Scene, Actor, acting, outcome, acted, arrived}
use Rattle.com_model.specs.Places.{Ground, Test, places_that}
use Rattle.com_model.specs.State.{State, scene_in, class_in, ground_in, actor_of, after}
use Rattle.com_laws_places.specs.Moves.{Moves, together, counted, acted_moves, arrived_moves, ended_moves}

-- The scene after the action of whoever acts.
abbrev pub acted_by : Scenario → (class : ℕ → ℕ) → Ground → Scene → (before : Actor) → Deed → Scene
acted_by s k g w a d =
    acted (acting s k g.issue w a d) (outcome s k g.issue w (acting s k g.issue w a d)) d w

-- The moves of a deed of a lane, with who acts there before and after it.
abbrev pub moves_by : Scenario → (class : ℕ → ℕ) → Ground → Scene → (before after : Actor) → (lane : ℕ) → Deed
    → Moves
moves_by s k g w a b l d =
    together (acted_moves g w (acting s k g.issue w a d) (outcome s k g.issue w (acting s k g.issue w a d)) d)
    (together (arrived_moves g (acted_by s k g w a d) b l d)
    (ended_moves g (arrived b l d (acted_by s k g w a d)) (ends_sta d)))

abbrev pub table_moves : Scenario → State → (lane : ℕ) → Deed → Moves
table_moves s st l d =
    moves_by s (class_in st) (ground_in s st) (scene_in st) (actor_of s st l) (actor_of s (after s st l d) l)
    l d

-- What an apartment holds by the tables after an entry, with what it lost, is what it held by those before
-- it, with what it gained.
abbrev pub TablesMove : Scenario → State → (lane : ℕ) → Deed → Type 0
TablesMove s st l d =
    (a : ℕ) (t : Test)
    → places_that s (ground_in s (after s st l d)) (scene_in (after s st l d)) a t
    + counted (table_moves s st l d).lost a t
    ≡ places_that s (ground_in s st) (scene_in st) a t + counted (table_moves s st l d).gained a t
