-- The references that places hold, as lists: each with its apartment, as an entry moves them.
use Rattle.std.specs.Prelude.{◌≡◌, ℕ, zero, suc, ◌+◌, List, [], ◌∷◌, ◌++◌, Some}
use Rattle.com_model.specs.declared.keeps.Opener.{Opener}
use Rattle.com_model.specs.declared.keeps.Opener.TheVariants.{Enters}
use Rattle.com_model.specs.declared.scenario.Scenario.{Scenario}
use Rattle.com_model.specs.Tables.{threads, lanes}
use Rattle.com_model.specs.Frames.{Scene}
use Rattle.com_model.specs.Places.{Ground, Test, left_value, places_that}
use Rattle.com_laws_places.specs.Moves.{Move as Moving, all_moved, counted, result_moved}

-- The lists of the numbers below n, one behind the other.
abbrev pub over_below : ℕ → (ℕ → List Moving) → List Moving
over_below zero f = []
over_below (suc n) f = over_below n f ++ f n

abbrev pub held_by_opener : Scene → Opener → List Moving
held_by_opener w (Enters c o b) = all_moved (Some b) (w.bodies c).slots
held_by_opener w _ = []

abbrev pub held_by_openers : Scene → List Opener → List Moving
held_by_openers w [] = []
held_by_openers w (o ∷ os) = held_by_opener w o ++ held_by_openers w os

-- Slots of scripts, slots of open bodies, links of objects, and results of direct calls that left and are not
-- back.
abbrev pub all_held : Scenario → Ground → Scene → List Moving
all_held s g w =
    over_below (threads s + 1) (λ l. all_moved (g.home l) (w.scripts l).slots)
    ++ (over_below (lanes s + 1) (λ l. held_by_openers w (g.openers l))
    ++ (over_below (g.objects + 1) (λ o. all_moved (Some (g.named o)) (w.cells o).links)
    ++ over_below (g.calls + 1) (λ c. result_moved g c (left_value (g.left c)))))

-- For each apartment and each test of references, what the places hold is what the lists have.
abbrev pub PlacesByLists : Scenario → Ground → Scene → Type 0
PlacesByLists s g w = (a : ℕ) (t : Test) → counted (all_held s g w) a t ≡ places_that s g w a t
