-- The chain of a lane: from the lane to the one that it waits for, until one waits for a message, or came
-- before. And the cycle.
use Rattle.std.specs.Prelude.{ℕ, zero, suc, ◌+◌, Bool, true, false, ◌==◌, if◌then◌else◌, List, [], ◌∷◌, ◌++◌}
use Rattle.std.specs.Prelude.{length, Option, Some, None}
use Rattle.com_model.specs.declared.deeds.Entry.{Entry}
use Rattle.com_model.specs.declared.scenario.Scenario.{Scenario}
use Rattle.com_model.specs.Lists.{is_member, least}
use Rattle.com_model.specs.Ends.{stuck}
use Rattle.com_waits.specs.declared.reasons.Why.{Why}
use Rattle.com_waits.specs.declared.reasons.Why.TheVariants.{Message, Body, Pool}
use Rattle.com_waits.specs.declared.reasons.Wait.{Wait}
use Rattle.com_waits.specs.declared.reasons.Waits.{Waits}
use Rattle.com_waits.specs.Reasons.{waits_of}

-- The lane that a reason names.
abbrev pub lane_named : Why → Option ℕ
lane_named Message = None
lane_named (Body c m) = Some m
lane_named (Pool c m) = Some m

-- Whether a lane that waits so waits for a message, and for no other lane.
abbrev pub is_message : Why → Bool
is_message Message = true
is_message (Body c m) = false
is_message (Pool c m) = false

-- The lane for which a lane waits, by the rows of all that wait.
abbrev pub next_in : List Wait → ℕ → Option ℕ
next_in [] l = None
next_in (w ∷ ws) l = if w.lane == l then lane_named w.why else next_in ws l

-- The least lane that does not wait for a message.
abbrev pub first_in : List Wait → Option ℕ
first_in [] = None
first_in (w ∷ ws) = if is_message w.why then first_in ws else Some w.lane

-- The lanes of a list from the first that is this one on; none where it is not in the list.
abbrev pub from_lane : ℕ → List ℕ → List ℕ
from_lane l [] = []
from_lane l (x ∷ xs) = if x == l then x ∷ xs else from_lane l xs

-- The lanes of a list before the first that is this one; all of them where it is not in the list.
abbrev pub before_lane : ℕ → List ℕ → List ℕ
before_lane l [] = []
before_lane l (x ∷ xs) = if x == l then [] else x ∷ before_lane l xs

-- The cycle that `go` finds from the next lane on, where these lanes came before, in the chain's order; empty where
-- there is no next lane.
abbrev pub goes_on : (List ℕ → ℕ → List ℕ) → List ℕ → Option ℕ → List ℕ
goes_on go chain None = []
goes_on go chain (Some m) = go chain m

-- The cycle that the chain enters from a lane, in at most so many steps; empty where it enters none in these.
abbrev pub entered : (next : ℕ → Option ℕ) → (steps : ℕ) → (chain : List ℕ) → ℕ → List ℕ
entered next zero chain l = []
entered next (suc n) chain l =
    if is_member l chain then from_lane l chain else goes_on (entered next n) (chain ++ l ∷ []) (next l)

-- The cycle turned so that it begins at this lane; empty without one.
abbrev pub from_least_of : List ℕ → Option ℕ → List ℕ
from_least_of xs None = []
from_least_of xs (Some m) = from_lane m xs ++ before_lane m xs

-- A cycle in its own order, but from its least lane on; an empty one stays empty.
abbrev pub from_least : List ℕ → List ℕ
from_least xs = from_least_of xs (least xs)

-- The cycle that the chain of this lane enters, from its least lane on; empty without a lane. As many steps as there
-- are lanes that wait, and one more, are enough.
abbrev pub cycle_from : List Wait → Option ℕ → List ℕ
cycle_from ws None = []
cycle_from ws (Some l) = from_least (entered (next_in ws) (length ws + 1) [] l)

-- The cycle that an explanation names, by the rows of all lanes that wait. It is empty where it names none.
abbrev pub cycle_of : List Wait → List ℕ
cycle_of ws = cycle_from ws (first_in ws)

-- Why a stuck history is stuck; nothing where it is not.
abbrev pub explained : List Wait → Waits
explained ws = record { waits = ws; cycle = cycle_of ws }

-- Each lane that waits in a history, with its reason, and the cycle. It is meant of a history that is stuck.
abbrev pub explanation : Scenario → List Entry → Waits
explanation s h = explained (waits_of s h)

-- Why a history is stuck, and None exactly where it is not.
abbrev pub explanation_of : Scenario → List Entry → Option Waits
explanation_of s h = if stuck s h then Some (explanation s h) else None
