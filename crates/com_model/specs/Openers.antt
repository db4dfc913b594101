-- Histories, and what stands open in a lane.
--
-- An entry is a lane and a deed. A history is a list of entries, the newest first. Each definition reads a
-- deed through a small effect of its own.
use Rattle.std.specs.Prelude.{◌≡◌, ℕ, ◌+◌, Bool, true, false, ◌==◌, if◌then◌else◌, List, [], ◌∷◌, Option}
use Rattle.std.specs.Prelude.{Some, None}
use Rattle.com_model.specs.declared.deeds.Deed.{Deed}
use Rattle.com_model.specs.declared.deeds.Deed.TheVariants as deed
use Rattle.com_model.specs.declared.deeds.Entry.{Entry}
use Rattle.com_model.specs.Lists.{without_first}
pub use Rattle.com_model.specs.declared.keeps.Opener.{Opener}
pub use Rattle.com_model.specs.declared.keeps.Opener.TheVariants.{Pumps, Waits, Enters}

-- What closes an opener: the end of a pump, the Back of a call to its caller, the Leave of a call's body.
pub data Closer : Type 0 where
  EndsPump : Closer
  Backs : (call : ℕ) → Closer
  Leaves : (call : ℕ) → Closer

-- What a deed does to the openers of its lane. Source: the apartment's rules of pumping; an STA's bodies nest
-- as one stack.
pub data Effect : Type 0 where
  Opens : Opener → Effect
  Closes : Closer → Effect
  Keeps : Effect

-- Pump, Out and Enter open, EndPump, Back and Leave close, and every other deed keeps the openers.
abbrev pub effect : Deed → Effect
effect (deed.Pump bound) = Opens (Pumps bound)
effect (deed.Out call object iface method route cause bytes) = Opens (Waits call)
effect (deed.Enter call object apartment call_type values) = Opens (Enters call object apartment)
effect deed.EndPump = Closes EndsPump
effect (deed.Back call hr value) = Closes (Backs call)
effect (deed.Leave call hr value bytes) = Closes (Leaves call)
effect _ = Keeps

-- An entry leaves the openers of every other lane.
abbrev pub effect_on : ℕ → Entry → Effect
effect_on l e = if e.lane == l then effect e.deed else Keeps

-- The openers after a deed: a closer takes the innermost away, whether or not that is its own.
abbrev pub opened : Effect → List Opener → List Opener
opened (Opens o) os = o ∷ os
opened (Closes c) os = without_first os
opened Keeps os = os

-- The openers of a lane without closer, the innermost first.
abbrev pub openers : List Entry → ℕ → List Opener
openers [] l = []
openers (e ∷ h) l = opened (effect_on l e) (openers h l)

-- A closer closes an opener of its own sort, and of its own call.
abbrev pub matches : Closer → Opener → Type 0
matches EndsPump (Pumps n) = Unit {0}
matches (Backs c) (Waits d) = c ≡ d
matches (Leaves c) (Enters d o a) = c ≡ d
matches _ _ = ⊥

-- Where the deed closes, that there is an innermost opener and the closer matches it.
abbrev pub fits : Effect → List Opener → Type 0
fits (Opens o) os = Unit {0}
fits Keeps os = Unit {0}
fits (Closes c) [] = ⊥
fits (Closes c) (o ∷ os) = matches c o

-- Each closer of the lane closes the innermost opener.
abbrev pub nested : List Entry → ℕ → Type 0
nested [] l = Unit {0}
nested (e ∷ h) l = nested h l × fits (effect_on l e) (openers h l)

-- The call, the object and the apartment of the last open Enter.
abbrev pub running_call : List Opener → Option ℕ
running_call [] = None
running_call (Enters c o a ∷ os) = Some c
running_call (_ ∷ os) = running_call os

-- The object of the last open Enter, and None where no body is open in the lane.
abbrev pub running_object : List Opener → Option ℕ
running_object [] = None
running_object (Enters c o a ∷ os) = Some o
running_object (_ ∷ os) = running_object os

-- The apartment that the last open Enter names, and None where no body is open in the lane.
abbrev pub entered_apartment : List Opener → Option ℕ
entered_apartment [] = None
entered_apartment (Enters c o a ∷ os) = Some a
entered_apartment (_ ∷ os) = entered_apartment os

-- The call of an opener that is an Enter.
abbrev pub top_call : Option Opener → Option ℕ
top_call (Some (Enters c o a)) = Some c
top_call _ = None

-- Whether the innermost opener is an Enter, so that a body is innermost.
abbrev pub is_body : Option Opener → Bool
is_body (Some (Enters c o a)) = true
is_body _ = false

-- The calls of the open Outs, the innermost first.
abbrev pub open_calls : List Opener → List ℕ
open_calls [] = []
open_calls (Waits c ∷ os) = c ∷ open_calls os
open_calls (_ ∷ os) = open_calls os

-- Whether an Enter of the object is open.
abbrev pub runs : ℕ → List Opener → Bool
runs x [] = false
runs x (Enters c o a ∷ os) = if o == x then true else runs x os
runs x (_ ∷ os) = runs x os

-- How many bodies that the lane's pump admitted directly have left. A pump stands below every other opener.
abbrev pub left_on : Effect → List Opener → ℕ → ℕ
left_on (Opens (Pumps bound)) os n = 0
left_on (Closes (Leaves c)) (Pumps bound ∷ []) n = n + 1
left_on _ os n = n

-- How many bodies have left that the lane's last pump admitted directly; 0 before the first pump.
abbrev pub served : List Entry → ℕ → ℕ
served [] l = 0
served (e ∷ h) l = left_on (effect_on l e) (openers (e ∷ h) l) (served h l)
