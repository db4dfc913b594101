-- Objects: their making, owners and end. Where a new one is placed is `owner_for` of `com_classes`.
use Rattle.std.specs.Prelude.{ℕ, ◌+◌, Bool, false, ◌==◌, ◌||◌, if◌then◌else◌, List, [], ◌∷◌, Option, Some}
use Rattle.std.specs.Prelude.{None}
use Rattle.std.specs.Prelude.{option_map}
use Rattle.com_body.specs.declared.operands.Asked.{Asked}
use Rattle.com_body.specs.declared.operands.Asked.TheVariants as asked
use Rattle.com_model.specs.declared.deeds.Deed.{Deed}
use Rattle.com_model.specs.declared.deeds.Deed.TheVariants as deed
use Rattle.com_model.specs.declared.deeds.Entry.{Entry}
use Rattle.com_model.specs.declared.scenario.Scenario.{Scenario}
use Rattle.com_model.specs.Answers.{is_S_OK}
use Rattle.com_model.specs.Lists.{number_or_zero, is_number}
use Rattle.com_model.specs.Tables.{is_agile_class}
use Rattle.com_model.specs.Apartments.{running}
pub use Rattle.com_model.specs.declared.keeps.Making.{Making}

-- The number of what an entry names, and 0 for what it names by GUID, as that is not declared.
abbrev pub asked_number : Asked → ℕ
asked_number (asked.Number n) = n
asked_number (asked.Guid g) = 0

-- What a Made says of a new object: its number, its owner (a0 for an agile one) and its class. None for a
-- refused Made and for every other deed.
abbrev pub makes : Deed → Option Making
makes (deed.Made (Some o) (Some a) class iface hr) =
    Some (record { object = o; apartment = a; class = asked_number class })
makes _ = None

-- What is known of an object's making: what the deed says where it makes this object, else what was known.
abbrev pub made_or : Option Making → ℕ → Option Making → Option Making
made_or None o before = before
made_or (Some m) o before = if m.object == o then Some m else before

-- Objects count from 1 in order of making.
abbrev pub making : List Entry → ℕ → Option Making
making [] o = None
making (e ∷ h) o = made_or (makes e.deed) o (making h o)

-- The number of objects after a deed: one more where it makes one.
abbrev pub one_more : Option Making → ℕ → ℕ
one_more None n = n
one_more (Some m) n = n + 1

-- How many objects were made. They have the numbers from 1 to this one, released ones too.
abbrev pub objects : List Entry → ℕ
objects [] = 0
objects (e ∷ h) = one_more (makes e.deed) (objects h)

-- The apartment that the object's Made entry names; the neutral one for an agile object. It is the owner's
-- number.
abbrev pub named : List Entry → ℕ → ℕ
named h o = number_or_zero (option_map (λ (m : Making). m.apartment) (making h o))

-- The number of an object's class, from 1, and 0 where the object was not made.
abbrev pub class_of : List Entry → ℕ → ℕ
class_of h o = number_or_zero (option_map (λ (m : Making). m.class) (making h o))

-- An agile object may be called directly from every apartment, as with the free-threaded marshaler.
abbrev pub agile : Scenario → List Entry → ℕ → Bool
agile s h o = is_agile_class s (class_of h o)

-- The apartment is the owner of the object; every apartment owns an agile object.
abbrev pub owns : Scenario → List Entry → ℕ → ℕ → Bool
owns s h o a = agile s h o || a == named h o

-- The apartment in which a body of the object runs when the lane enters it.
abbrev pub owner : Scenario → List Entry → ℕ → ℕ → ℕ
owner s h o l = if agile s h o then number_or_zero (running s h l) else named h o

-- Final is made at most once for each object.
abbrev pub finals : Deed → Option ℕ
finals (deed.Final o) = Some o
finals _ = None

-- Whether the object has had its Final, and is released.
abbrev pub finaled : List Entry → ℕ → Bool
finaled [] o = false
finaled (e ∷ h) o = is_number o (finals e.deed) || finaled h o

-- The object that a deed disconnects.
abbrev pub disconnects : Deed → Option ℕ
disconnects (deed.Disconnect object hr) = if is_S_OK hr then object else None
disconnects _ = None
