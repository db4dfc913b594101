-- What the tables hold, by number and by GUID.
use Rattle.std.specs.Prelude.{ℕ, ◌+◌, ◌-◌, List, Bool, false, ◌&&◌, ◌||◌, ◌==◌, Option, Some, None, find}
use Rattle.std.specs.Prelude.{position, length, nat_le, is_some, slice_get, unwrap_or, if◌then◌else◌}
use Rattle.std.specs.Prelude.{option_and_then}
use Rattle.std.specs.List.{list_any}
use Rattle.std.specs.Option.{option_map}
use Rattle.std.specs.Str.{bytes_eq}
use Rattle.com_base.specs.declared.limits.TheConstants.{CLASS_LIMIT, INTERFACE_LIMIT}
use Rattle.com_base.specs.declared.guid.Guid.{Guid}
use Rattle.com_body.specs.declared.statements.Stmt.{Stmt}
use Rattle.com_body.specs.declared.frame.Native.{Native}
use Rattle.com_body.specs.declared.frame.Native.TheVariants as native
use Rattle.com_body.specs.BodySteps.{no_body}
use Rattle.com_classes.specs.declared.interfaces.Interface.{Interface}
use Rattle.com_classes.specs.declared.interfaces.Method.{Method}
use Rattle.com_classes.specs.declared.classes.Class.{Class}
use Rattle.com_classes.specs.declared.classes.MethodBody.{MethodBody}
use Rattle.com_classes.specs.declared.classes.ClassError.{ClassError}
use Rattle.com_classes.specs.declared.classes.ClassError.TheVariants as error
use Rattle.com_classes.specs.Tables.{Tables}
use Rattle.com_classes.specs.BuiltIns.{counter_bodies, relay_bodies, latch_bodies}

-- Whether two GUIDs are the same.
abbrev pub same_guid : Guid → Guid → Bool
same_guid a b = a.data1 == b.data1 && a.data2 == b.data2 && a.data3 == b.data3 && bytes_eq a.data4 b.data4

-- The interface with a number, from 0.
abbrev pub interface_at : Tables → ℕ → Option Interface
interface_at t iface = slice_get t.interfaces iface

-- The class with a number, from 1.
abbrev pub class_at : Tables → ℕ → Option Class
class_at t class = if class == 0 then None else slice_get t.classes (class - 1)

-- The number of the interface with an IID.
abbrev pub find_interface : Tables → Guid → Option ℕ
find_interface t iid = position (λ i. same_guid iid i.iid) t.interfaces

-- The number of the class with a CLSID.
abbrev pub find_class : Tables → Guid → Option ℕ
find_class t clsid = option_map (λ before. before + 1) (position (λ c. same_guid clsid c.clsid) t.classes)

-- Whether a class has an interface: IUnknown, or one of its list.
abbrev pub class_has : Class → ℕ → Bool
class_has c iface = iface == 0 || list_any (λ listed. iface == listed) c.interfaces

-- Whether the class with a number has an interface; a number without class has none, not even IUnknown.
abbrev pub has_interface : Tables → ℕ → ℕ → Bool
has_interface t class iface = elim (class_at t class) [ None ↦ false | Some c ↦ class_has c iface ]

-- The method of an interface, by its number.
abbrev pub method_at : Tables → ℕ → ℕ → Option Method
method_at t iface method = option_and_then (λ i. slice_get i.methods method) (interface_at t iface)

-- The body of a class's list for a method: the first that is given for it.
abbrev pub given_in : List MethodBody → ℕ → ℕ → Option (List Stmt)
given_in bodies iface method =
    option_map (λ b. b.body) (find (λ b. b.iface == iface && b.method == method) bodies)

-- The body for a method, by which code steps the class's bodies: that of the list, or the built-in one.
abbrev pub kind_body : Native → List MethodBody → ℕ → ℕ → Option (List Stmt)
kind_body native.Bodies bodies iface method = given_in bodies iface method
kind_body native.Counter bodies iface method = if iface == 1 then slice_get counter_bodies method else None
kind_body native.Relay bodies iface method = if iface == 2 then slice_get relay_bodies method else None
kind_body native.Latch bodies iface method = if iface == 3 then slice_get latch_bodies method else None

-- The body that a class gives for a method of an interface, and None where it gives none.
abbrev pub class_body : Class → ℕ → ℕ → Option (List Stmt)
class_body c iface method = kind_body c.native c.bodies iface method

-- The body that the class with a number gives for a method, and None where it gives none or there is no such class.
abbrev pub body_at : Tables → ℕ → ℕ → ℕ → Option (List Stmt)
body_at t class iface method = option_and_then (λ c. class_body c iface method) (class_at t class)

-- The body that runs: the one that was given, or else that of a method without body.
abbrev pub body_of : Tables → ℕ → ℕ → ℕ → List Stmt
body_of t class iface method = unwrap_or (body_at t class iface method) no_body

-- Why an interface is not taken, other than for want of memory: its IID is there, or else there are 60 beside
-- the four built-in ones.
abbrev pub interface_refusal : Tables → Interface → Option ClassError
interface_refusal t i =
    if is_some (find_interface t i.iid) then Some error.Repeated
    else if nat_le INTERFACE_LIMIT (length t.interfaces) then Some error.Full
    else None

-- Why a class is not taken, other than for want of memory: its CLSID is there, or else there are 64.
abbrev pub class_refusal : Tables → Class → Option ClassError
class_refusal t c =
    if is_some (find_class t c.clsid) then Some error.Repeated
    else if nat_le CLASS_LIMIT (length t.classes) then Some error.Full
    else None
