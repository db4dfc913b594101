-- One pick, by the tables of a runtime.
use Rattle.std.specs.Prelude.{◌≡◌, ℕ, Bool, true, false, ◌&&◌, nat_lt, List, [], ◌∷◌, ◌++◌}
use Rattle.std.specs.Prelude.{Option, Some, None}
use Rattle.com_model.specs.declared.deeds.Entry.{Entry}
use Rattle.com_model.specs.declared.scenario.Scenario.{Scenario}
use Rattle.com_model.specs.Ends.{limit}
use Rattle.com_model.specs.State.{State}
use Rattle.com_runtime.specs.Turns.{IsNext}
use Rattle.com_replay.specs.Nexts.{has_next_in}

-- Whether a pick makes an entry: there is room for it, and its lane has a next one.
unfoldable pub makes_in : Scenario → State → (lane : ℕ) → Bool
makes_in s st l = nat_lt st.entries (limit s) && has_next_in s st l

-- A pick made the next entry of its lane, or it makes none, and nothing was changed.
abbrev pub IsPickOf : Scenario → (before : State) → (lane : ℕ) → Option Entry → (after : State) → Type 0
IsPickOf s st l None new = (makes_in s st l ≡ false) × (new ≡ st)
IsPickOf s st l (Some e) new = (makes_in s st l ≡ true) × IsNext s st l e new

-- The entries, and behind them the one that a pick made.
abbrev pub with_made : List Entry → Option Entry → List Entry
with_made entries None = entries
with_made entries (Some e) = entries ++ e ∷ []
