-- Which classes of a scenario are event sources.
use Rattle.std.specs.Prelude.{◌≡◌, ℕ, zero, suc, ◌==◌, if◌then◌else◌, List, [], ◌∷◌, Option, Some, None}
use Rattle.std.specs.Prelude.{codes, ◌⊎◌}
use Rattle.com_base.specs.declared.guid.Guid.{Guid}
use Rattle.com_base.specs.declared.value.Kind.TheVariants as kind
use Rattle.com_body.specs.declared.frame.Native.TheVariants as native
use Rattle.com_body.specs.declared.statements.Stmt.{Stmt}
use Rattle.com_classes.specs.declared.interfaces.Interface.{Interface}
use Rattle.com_classes.specs.declared.interfaces.Method.{Method}
use Rattle.com_classes.specs.declared.classes.Class.{Class}
use Rattle.com_classes.specs.declared.classes.ThreadingModel.{ThreadingModel}
use Rattle.com_classes.specs.declared.classes.ThreadingModel.TheVariants as model
use Rattle.com_classes.specs.Lookups.{class_at, interface_at, class_body}
use Rattle.com_model.specs.declared.scenario.Scenario.{Scenario}
use Rattle.com_laws_sources.specs.Bodies.{advise_body, unadvise_body, fire_body}

-- The interface of a source, after IConnectionPoint: its IID and its methods.
abbrev pub point_iid : Guid
point_iid =
    record {
      data1 = 0x5C0B0030;
      data2 = 0x0000;
      data3 = 0x4000;
      data4 = 0x80 ∷ 0 ∷ 0 ∷ 0 ∷ 0 ∷ 0 ∷ 0 ∷ 1 ∷ [];
    }

-- The number of the method that takes a sink, in a source's interface.
abbrev pub advise : ℕ
advise = 0

-- The number of the method that lets a sink go, by its cookie.
abbrev pub unadvise : ℕ
unadvise = 1

-- The number of the method that sends an event to the sinks.
abbrev pub fire : ℕ
fire = 2

-- The methods of a source: `advise` answers a cookie for a sink of interface 1, `ICounter`, `unadvise` ends a
-- cookie, and `fire` answers how many sinks it called.
abbrev pub point_methods : List Method
point_methods =
    record { name = codes "advise"; params = kind.Ref 1 ∷ []; result = Some kind.Int } ∷
    record { name = codes "unadvise"; params = kind.Int ∷ []; result = None } ∷
    record { name = codes "fire"; params = kind.Int ∷ []; result = Some kind.Int } ∷ []

-- The objects of a source live in an STA.
abbrev pub IsStaModel : ThreadingModel → Type 0
IsStaModel m = (m ≡ model.Nothing) ⊎ (m ≡ model.Apartment)

-- An interface is that of a source, whatever its name: its IID and its methods are these.
pub record IsPoint (i : Interface) : Type 0 where
  pub iid : i.iid ≡ point_iid
  pub methods : i.methods ≡ point_methods

-- The body of each method of an interface: the three of the source's own interface have these, and no other
-- has one.
abbrev pub point_body : ℕ → Option (List Stmt)
point_body zero = Some advise_body
point_body (suc zero) = Some unadvise_body
point_body (suc (suc zero)) = Some fire_body
point_body _ = None

-- The body that a source gives for a method of an interface. For any interface but its own it gives none.
abbrev pub source_body : (own iface method : ℕ) → Option (List Stmt)
source_body i j m = if j == i then point_body m else None

-- A source: a class of bodies whose model puts its objects in an STA, whose one declared interface, with this
-- number, is that of a source, and whose bodies are these.
pub record IsSourceClass (s : Scenario) (k : Class) (iface : ℕ) : Type 0 where
  pub model : IsStaModel k.model
  pub native : k.native ≡ native.Bodies
  pub interfaces : k.interfaces ≡ iface ∷ []
  pub point : Interface
  pub declared : interface_at s.classes iface ≡ Some point
  pub is_point : IsPoint point
  pub bodies : (j m : ℕ) → class_body k j m ≡ source_body iface j m

-- The class with this number is a source, and this is the number of its interface.
pub record IsSource (s : Scenario) (class iface : ℕ) : Type 0 where
  pub declaration : Class
  pub there : class_at s.classes class ≡ Some declaration
  pub source : IsSourceClass s declaration iface
