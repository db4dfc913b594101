-- The history that a list of picks makes.
use Rattle.std.specs.Prelude.{◌≡◌, ℕ, ◌≤◌, nat_lt, List, [], ◌∷◌, ◌++◌, Option, Some, None, length, reverse}
use Rattle.std.specs.Prelude.{if◌then◌else◌}
use Rattle.com_model.specs.declared.deeds.Deed.{Deed}
use Rattle.com_model.specs.declared.deeds.Entry.{Entry}
use Rattle.com_model.specs.declared.scenario.Scenario.{Scenario}
use Rattle.com_model.specs.Ends.{limit}
use Rattle.com_model.specs.Rules.{legal, next}

-- A history behind one pick: where its lane has a next deed, the lane makes it, if the history has fewer
-- entries than it may have. Else it stays.
abbrev pub with_deed : Scenario → List Entry → (lane : ℕ) → Option Deed → List Entry
with_deed s h l None = h
with_deed s h l (Some d) = if nat_lt (length h) (limit s) then record { lane = l; deed = d } ∷ h else h

-- A history behind picks, each of which is tried once, in order. 0 is the clock's lane.
abbrev pub with_picks : Scenario → List Entry → (picks : List ℕ) → List Entry
with_picks s h [] = h
with_picks s h (l ∷ ls) = with_picks s (with_deed s h l (next s h l)) ls

-- The history that picks make from its beginning.
unfoldable pub picked : Scenario → (picks : List ℕ) → List Entry
picked s picks = with_picks s [] picks

-- The lanes of a history, in the order of its making.
abbrev pub lanes_of : List Entry → List ℕ
lanes_of [] = []
lanes_of (e ∷ h) = lanes_of h ++ e.lane ∷ []

-- The entries, in the order of their making, are the history that these picks make.
pub record IsPicked (s : Scenario) (picks : List ℕ) (entries : List Entry) : Type 0 where
  pub lawful : legal s (reverse entries)
  pub is : reverse entries ≡ picked s picks
  pub few : length entries ≤ limit s
