-- One turn of a runtime: its entry, the state after it, and the steps of servants.
use Rattle.std.specs.Prelude.{◌≡◌, ℕ, zero, suc, ◌+◌, List, [], ◌∷◌, ◌++◌, Option, Some, None}
use Rattle.com_body.specs.declared.frame.Native.{Native}
use Rattle.com_io.specs.Told.{Gains}
use Rattle.com_model.specs.declared.deeds.Entry.{Entry}
use Rattle.com_model.specs.declared.keeps.Opener.{Opener}
use Rattle.com_model.specs.declared.keeps.Opener.TheVariants.{Enters}
use Rattle.com_model.specs.declared.scenario.Scenario.{Scenario}
use Rattle.com_model.specs.Lists.{first}
use Rattle.com_model.specs.Openers.{openers}
use Rattle.com_model.specs.Objects.{class_of}
use Rattle.com_model.specs.Ends.{last_after}
use Rattle.com_model.specs.State.{State, openers_in, class_in, next_of, after}
use Rattle.com_model.specs.Text.{line_text}
use Rattle.com_servant.specs.Rows.{one_served}
use Rattle.com_servant.specs.Steps.{native_at}
use Rattle.com_runtime.specs.Standings.{ended_now, turn_now}

-- The entry is the next of the lane, and the new state is the one after it.
pub record IsNext (s : Scenario) (st : State) (lane : ℕ) (e : Entry) (new : State) : Type 0 where
  pub by : e.lane ≡ lane
  pub deed : next_of s st lane ≡ Some e.deed
  pub becomes : new ≡ after s st lane e.deed

-- The kind of class whose body runs at the top of a lane, where one does.
abbrev pub body_kind : Scenario → (class : ℕ → ℕ) → Option Opener → Option Native
body_kind s class (Some (Enters c o a)) = native_at s.classes (class o)
body_kind s class _ = None

-- An entry of a lane in which a body runs is a step of the servant of its class's kind. The clock runs none.
unfoldable pub served_in : Scenario → State → (lane : ℕ) → List ℕ → List ℕ
served_in s st zero steps = steps
served_in s st (suc l) steps = one_served (body_kind s (class_in st) (first (openers_in st (suc l)))) steps

-- The servants' counts after an entry of a lane that follows this history; `steps` are those before it.
unfoldable pub served_at : Scenario → List Entry → (lane : ℕ) → List ℕ → List ℕ
served_at s h zero steps = steps
served_at s h (suc l) steps = one_served (body_kind s (class_of h) (first (openers h (suc l)))) steps

-- The servants' counts after a history: each entry that a body made is a step of the servant of its class's
-- kind.
abbrev pub served_by : Scenario → List Entry → List ℕ → List ℕ
served_by s [] steps = steps
served_by s (e ∷ h) steps = served_at s h e.lane (served_by s h steps)

-- One turn of the schedule: the history has not ended, the turn is that of the entry's lane, and afterwards
-- these picks are left, and this is the last lane.
pub record IsTurn (s : Scenario) (st : State) (picks : List ℕ) (last : ℕ) (e : Entry) (new : State)
    (picks_new : List ℕ) (last_new : ℕ) : Type 0 where
  pub goes_on : ended_now s st ≡ None
  pub turn : turn_now s st picks last ≡ Some (record { lane = e.lane; picks = picks_new })
  pub next : IsNext s st e.lane e new
  pub follows : last_new ≡ last_after e.lane last

-- A text goes on by a line: some of it was written to the sink, and the rest is kept for later.
pub record GoesOn (old new : Option (List ℕ)) (kept_old kept_new line : List ℕ) : Type 0 where
  pub written : List ℕ
  pub gained : Gains old new written
  pub parts : written ++ kept_new ≡ kept_old ++ line

-- The line of the next entry.
unfoldable pub next_line : Scenario → State → Entry → List ℕ
next_line s st e = line_text s.version (st.entries + 1) e
