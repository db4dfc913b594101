-- Numbers of registers, slots, links and interfaces that are in their ranges, and the number of a call's
-- arguments.
use Rattle.std.specs.Prelude.{ℕ, ◌<◌, ◌≤◌, ◌^◌, Option, Some, None, length}
use Rattle.com_base.specs.declared.limits.TheConstants.{LINK_COUNT, PARAMETER_LIMIT, REGISTER_COUNT, SLOT_COUNT}
use Rattle.com_body.specs.declared.actions.Action.{Action}
use Rattle.com_body.specs.declared.actions.Action.TheVariants as action
use Rattle.com_body.specs.declared.operands.Asked.{Asked}
use Rattle.com_body.specs.declared.operands.Asked.TheVariants as asked
use Rattle.com_body.specs.Bodies.{IsPlace, IsDestination}
use Rattle.com_model.specs.declared.deeds.Deed.{Deed}
use Rattle.com_model.specs.declared.deeds.Deed.TheVariants as deed
use Rattle.com_model.specs.Frames.{Write as Writing, ToRegister, ToSlot, ToLink, ToBuffer}

-- Where an action writes, there is the register, the slot or the link.
abbrev pub WritesInRange : Action → Type 0
WritesInRange (action.Create slot k i) = slot < SLOT_COUNT
WritesInRange (action.Query to held i) = to < SLOT_COUNT
WritesInRange (action.Copy to held) = IsPlace to
WritesInRange (action.Release from held) = IsPlace from
WritesInRange (action.Call held i m args to) = IsDestination to
WritesInRange (action.Unmarshal slot b) = slot < SLOT_COUNT
WritesInRange (action.Register to held) = to < REGISTER_COUNT
WritesInRange (action.Get slot g) = slot < SLOT_COUNT
WritesInRange _ = Unit {0}

-- One write is in range: the register, slot or link that it fills. Of a buffer nothing is asked.
abbrev pub IsInRange : Writing → Type 0
IsInRange (ToRegister r v) = r < REGISTER_COUNT
IsInRange (ToSlot k held) = k < SLOT_COUNT
IsInRange (ToLink k held) = k < LINK_COUNT
IsInRange (ToBuffer p bytes) = Unit {0}

-- An interface that is given by its number has a number of 16 bits. One that is given by its GUID has no
-- number, and fits.
abbrev pub IsInterface : Asked → Type 0
IsInterface (asked.Number i) = i < 2 ^ 16
IsInterface (asked.Guid g) = Unit {0}

-- An entry that names an object has an interface that fits. Of an entry that names none nothing is asked.
abbrev pub HasInterface : Option ℕ → Asked → Type 0
HasInterface None i = Unit {0}
HasInterface (Some o) i = IsInterface i

-- An Enter has no more arguments than a method may have parameters, and in a Made or a Query that names an object the interface, if it is
-- given by its number, has a number of 16 bits. Of every other entry nothing is asked.
abbrev pub FitsDeed : Deed → Type 0
FitsDeed (deed.Enter c o a k vs) = length vs ≤ PARAMETER_LIMIT
FitsDeed (deed.Made o a k i hr) = HasInterface o i
FitsDeed (deed.Query o i hr) = HasInterface o i
FitsDeed _ = Unit {0}
