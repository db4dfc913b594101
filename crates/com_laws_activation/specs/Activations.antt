-- What an activation makes, by the answer of the class's factory.
use Rattle.std.specs.Prelude.{◌≡◌, ℕ, ◌+◌, List, ◌∷◌, Option, Some, None, Result, Ok, Err}
use Rattle.com_base.specs.declared.guid.Guid.{Guid}
use Rattle.com_base.specs.declared.hresult.HResult.{HResult}
use Rattle.com_body.specs.declared.operands.Asked.{Asked}
use Rattle.com_body.specs.declared.operands.Asked.TheVariants as asked
use Rattle.com_body.specs.declared.actions.Action.TheVariants as action
use Rattle.com_classes.specs.declared.classes.Class.{Class}
use Rattle.com_classes.specs.declared.factory.Creator.{Creator}
use Rattle.com_classes.specs.declared.factory.Placed.{Placed}
use Rattle.com_classes.specs.declared.interfaces.Interface.{Interface}
use Rattle.com_classes.specs.Activation.{placed}
use Rattle.com_classes.specs.Lookups.{class_at, interface_at, find_class, find_interface}
use Rattle.com_model.specs.declared.deeds.Deed.{Deed}
use Rattle.com_model.specs.declared.deeds.Deed.TheVariants as deed
use Rattle.com_model.specs.declared.deeds.Entry.{Entry}
use Rattle.com_model.specs.declared.scenario.Scenario.{Scenario}
use Rattle.com_model.specs.Answers.{S_OK, CO_E_NOTINITIALIZED}
use Rattle.com_model.specs.Cases.{direct_call_1}
use Rattle.com_model.specs.Lists.{number_or_zero}
use Rattle.com_model.specs.Tables.{class_number, interface_number}
use Rattle.com_model.specs.Apartments.{home, running, main_sta}
use Rattle.com_model.specs.Objects.{objects}
use Rattle.com_model.specs.Frames.{act}

-- Who creates in a lane: its running apartment, its home, and the main STA at that moment.
abbrev pub creator_in : Scenario → List Entry → (lane home : ℕ) → Creator
creator_in s h l a =
    record { running = number_or_zero (running s h l); home = a; main_sta = main_sta h }

-- What an entry says was made by the factory's answer, where n objects were made before: the next object, in
-- the apartment that the factory names, of its class and interface; or nothing, with the factory's refusal.
abbrev pub IsMade : ℕ → Result Placed HResult → (object apartment : Option ℕ) → (class iface : Asked)
    → HResult → Type 0
IsMade n (Ok p) o a k i hr =
    (o ≡ Some (n + 1)) × (a ≡ Some p.owner) × (k ≡ asked.Number p.class) × (i ≡ asked.Number p.iface)
    × (hr ≡ S_OK)
IsMade n (Err x) o a k i hr = (o ≡ None) × (a ≡ None) × (hr ≡ x)

-- The entry of an activation is that of the action of whoever acts. Without home nothing is made. Else it is
-- what the factory answers to this creator for each CLSID and IID by which the class and the interface that
-- are asked for are found.
pub record Activated (s : Scenario) (h : List Entry) (l : ℕ) (o a : Option ℕ) (k i : Asked) (hr : HResult)
    : Type 0 where
  pub slot : ℕ
  pub class : Asked
  pub iface : Asked
  pub acts : act s h l ≡ Some (action.Create slot class iface)
  pub uninitialised : home s h l ≡ None → (o ≡ None) × (a ≡ None) × (hr ≡ CO_E_NOTINITIALIZED)
  pub answers : (lives : ℕ) (clsid iid : Guid) → home s h l ≡ Some lives
      → class_number s class ≡ find_class s.classes clsid
      → interface_number s iface ≡ find_interface s.classes iid
      → IsMade (objects h) (placed s.classes clsid iid (creator_in s h l lives)) o a k i hr

abbrev pub Activates : Scenario → List Entry → ℕ → Deed → Type 0
Activates s h l (deed.Made o a k i hr) = Activated s h l o a k i hr
Activates s h l _ = Unit {0}

-- Each class is found by its CLSID, and each interface by its IID.
abbrev pub ClassesFound : Scenario → Type 0
ClassesFound s =
    (c : ℕ) (k : Class) → class_at s.classes c ≡ Some k → find_class s.classes k.clsid ≡ Some c

abbrev pub InterfacesFound : Scenario → Type 0
InterfacesFound s =
    (i : ℕ) (f : Interface) → interface_at s.classes i ≡ Some f → find_interface s.classes f.iid ≡ Some i

-- An object of the STA's own thread is placed in the host's STA.
abbrev pub in_the_host : List Entry
in_the_host =
    record { lane = 1; deed = deed.Made (Some 1) (Some 2) (asked.Number 1) (asked.Number 1) S_OK }
    ∷ direct_call_1
