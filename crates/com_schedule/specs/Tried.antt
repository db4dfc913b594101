-- What trying lanes comes to.
use Rattle.std.specs.Prelude.{◌≡◌, ℕ, ◌≤◌, Bool, true, false, List, Option, Some, None, drop}
use Rattle.com_model.specs.declared.deeds.Entry.{Entry}
use Rattle.com_model.specs.declared.scenario.Scenario.{Scenario}
use Rattle.com_model.specs.Ends.{picked}
use Rattle.com_model.specs.Lists.{first_that}
use Rattle.com_model.specs.State.{State}
use Rattle.com_model.specs.Tables.{lanes}
use Rattle.com_runtime.specs.declared.schedule.Chosen.{Chosen}
use Rattle.com_runtime.specs.Standings.{CanGo, can_pick_in, can_step_in, none_can_in}
use Rattle.com_runtime.specs.Turns.{IsNext, IsTurn, served_in}

-- A lane made its next entry; where a body made it, that is a step of the servant of its class's kind.
pub record Goes (s : Scenario) (st : State) (l : ℕ) (e : Entry) (new : State) (steps later : List ℕ)
    : Type 0 where
  pub next : IsNext s st l e new
  pub steps_are : later ≡ served_in s st l steps

-- Nothing has changed.
pub record Still (st new : State) (steps later : List ℕ) : Type 0 where
  pub state : new ≡ st
  pub steps_are : later ≡ steps

-- A lane was tried: it made its next entry, or nothing has changed.
abbrev pub Tried : Scenario → State → (lane : ℕ) → (can : Bool) → Entry → (new : State)
    → (steps later : List ℕ) → Type 0
Tried s st l true e new a b = Goes s st l e new a b
Tried s st l false e new a b = Still st new a b

-- The first pick that can step was found, and made its entry.
pub record WasPicked (s : Scenario) (st : State) (picks : List ℕ) (from : ℕ) (c : Chosen) (e : Entry)
    (new : State) (steps later : List ℕ) : Type 0 where
  pub first : picked (can_pick_in s st) (drop from picks)
      ≡ Some (record { lane = c.lane; picks = drop c.tried picks })
  pub can : CanGo s st c.lane
  pub goes : Goes s st c.lane e new steps later

-- No pick can step, and nothing has changed.
pub record NonePicked (s : Scenario) (st : State) (picks : List ℕ) (from : ℕ) (new : State)
    (steps later : List ℕ) : Type 0 where
  pub none : picked (can_pick_in s st) (drop from picks) ≡ None
  pub still : Still st new steps later

-- The picks were tried from one on.
abbrev pub PickTried : Scenario → State → (picks : List ℕ) → (from : ℕ) → Option Chosen → Entry
    → (new : State) → (steps later : List ℕ) → Type 0
PickTried s st picks from (Some c) e new a b = WasPicked s st picks from c e new a b
PickTried s st picks from None e new a b = NonePicked s st picks from new a b

-- The first of some lanes that can step was found, and made its entry.
pub record WasFirst (s : Scenario) (st : State) (ls : List ℕ) (l : ℕ) (e : Entry) (new : State)
    (steps later : List ℕ) : Type 0 where
  pub first : first_that (can_step_in s st) ls ≡ Some l
  pub can : CanGo s st l
  pub goes : Goes s st l e new steps later

-- None of these lanes can step, and nothing has changed.
pub record NoneFirst (s : Scenario) (st : State) (ls : List ℕ) (new : State) (steps later : List ℕ)
    : Type 0 where
  pub none : first_that (can_step_in s st) ls ≡ None
  pub still : Still st new steps later

-- Lanes were tried in their order.
abbrev pub LaneTried : Scenario → State → (ls : List ℕ) → Option ℕ → Entry → (new : State)
    → (steps later : List ℕ) → Type 0
LaneTried s st ls (Some l) e new a b = WasFirst s st ls l e new a b
LaneTried s st ls None e new a b = NoneFirst s st ls new a b

-- The turn of the schedule was taken.
pub record TakesTurn (s : Scenario) (st : State) (picks : List ℕ) (tried last : ℕ) (c : Chosen) (e : Entry)
    (new : State) (steps later : List ℕ) : Type 0 where
  pub turn : IsTurn s st (drop tried picks) last e new (drop c.tried picks) c.lane
  pub is_lane : c.lane ≤ lanes s
  pub steps_are : later ≡ served_in s st e.lane steps

-- No lane can step, and nothing has changed.
pub record NoTurn (s : Scenario) (st new : State) (steps later : List ℕ) : Type 0 where
  pub none : none_can_in s st ≡ true
  pub still : Still st new steps later

-- All lanes were tried in the order of the schedule.
abbrev pub TurnTried : Scenario → State → (picks : List ℕ) → (tried last : ℕ) → Option Chosen → Entry
    → (new : State) → (steps later : List ℕ) → Type 0
TurnTried s st picks tried last (Some c) e new a b = TakesTurn s st picks tried last c e new a b
TurnTried s st picks tried last None e new a b = NoTurn s st new a b
