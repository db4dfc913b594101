-- What a query is answered: the object that the reference names and an interface of its class's set, or a
-- refusal with its reason.
use Rattle.std.specs.Prelude.{◌≡◌, ℕ, true, false, List, Option, Some, None, ◌⊎◌}
use Rattle.com_base.specs.declared.hresult.HResult.{HResult}
use Rattle.com_base.specs.declared.value.RefValue.{RefValue}
use Rattle.com_body.specs.declared.operands.Asked.{Asked}
use Rattle.com_body.specs.declared.operands.Asked.TheVariants as asked
use Rattle.com_body.specs.declared.actions.Action.TheVariants as action
use Rattle.com_classes.specs.Lookups.{has_interface}
use Rattle.com_model.specs.declared.deeds.Deed.{Deed}
use Rattle.com_model.specs.declared.deeds.Deed.TheVariants as deed
use Rattle.com_model.specs.declared.deeds.Entry.{Entry}
use Rattle.com_model.specs.declared.scenario.Scenario.{Scenario}
use Rattle.com_model.specs.Answers.{S_OK, E_NOINTERFACE, E_POINTER, CO_E_NOTINITIALIZED, RPC_E_DISCONNECTED}
use Rattle.com_model.specs.Answers.{is_S_OK}
use Rattle.com_model.specs.Lists.{number_or_zero}
use Rattle.com_model.specs.Tables.{interface_number, shown}
use Rattle.com_model.specs.Apartments.{home, running}
use Rattle.com_model.specs.Objects.{class_of, owns}
use Rattle.com_model.specs.Frames.{act, reference, taken_in}
use Rattle.com_model.specs.Books.{books}
use Rattle.com_model.specs.Deeds.{object_in}

-- Whether the lane's running apartment owns the object, so that its reference is no proxy's.
abbrev pub IsOwned : Scenario → List Entry → (lane object : ℕ) → Type 0
IsOwned s h l o = owns s h o (number_or_zero (running s h l)) ≡ true

-- A proxy of an object that is not connected.
abbrev pub IsSevered : Scenario → List Entry → (lane object : ℕ) → Type 0
IsSevered s h l o =
    (owns s h o (number_or_zero (running s h l)) ≡ false) × ((books s h).live o ≡ false)

-- No interface is declared under what is asked for, or the class has none of that number.
abbrev pub Lacks : Scenario → (class : ℕ) → (iface : Option ℕ) → Type 0
Lacks s k None = Unit {0}
Lacks s k (Some i) = has_interface s.classes k i ≡ false

-- A query that succeeds: the lane has a home; the reference is no null, and no proxy of what is not
-- connected; the interface is declared, and one of the object's class; the entry names the reference's own
-- object and that interface, and the reference that is taken is made of both.
pub record Success (s : Scenario) (h : List Entry) (l : ℕ) (held : Option RefValue) (wanted : Asked)
    (o : Option ℕ) (i : Asked) : Type 0 where
  pub homed : home s h l ≡ None → ⊥
  pub through : RefValue
  pub put : held ≡ Some through
  pub reached : (IsOwned s h l through.object) ⊎ ((books s h).live through.object ≡ true)
  pub number : ℕ
  pub known : interface_number s wanted ≡ Some number
  pub declared : has_interface s.classes (class_of h through.object) number ≡ true
  pub same_object : o ≡ Some through.object
  pub same_interface : i ≡ asked.Number number
  pub taken : taken_in (deed.Query o i S_OK) ≡ Some (reference through.object number)

-- A query that is refused, and why: the lane has no home; null; a proxy of what is not connected; none of
-- the class's interfaces.
pub data Refusal (s : Scenario) (h : List Entry) (l : ℕ) (held : Option RefValue) (wanted : Asked)
    (hr : HResult) : Type 0 where
  uninitialised : home s h l ≡ None → hr ≡ CO_E_NOTINITIALIZED → Refusal s h l held wanted hr
  null : held ≡ None → hr ≡ E_POINTER → Refusal s h l held wanted hr
  severed : (r : RefValue) → held ≡ Some r → IsSevered s h l r.object → hr ≡ RPC_E_DISCONNECTED
      → Refusal s h l held wanted hr
  lacking : (r : RefValue) → held ≡ Some r → Lacks s (class_of h r.object) (interface_number s wanted)
      → hr ≡ E_NOINTERFACE → Refusal s h l held wanted hr

-- The entry of a query is that of the action of whoever acts: it names the object of the reference which the
-- query is put to, and the interface by its number where it is declared. S_OK comes with success alone.
pub record Answers (s : Scenario) (h : List Entry) (l : ℕ) (o : Option ℕ) (i : Asked) (hr : HResult)
    : Type 0 where
  pub slot : ℕ
  pub held : Option RefValue
  pub wanted : Asked
  pub acts : act s h l ≡ Some (action.Query slot held wanted)
  pub names : o ≡ object_in held
  pub shows : i ≡ shown (interface_number s wanted) wanted
  pub gives : hr ≡ S_OK → Success s h l held wanted o i

abbrev pub QueryAnswers : Scenario → List Entry → ℕ → Deed → Type 0
QueryAnswers s h l (deed.Query o i hr) = Answers s h l o i hr
QueryAnswers s h l _ = Unit {0}

-- Any other answer is a refusal that has its reason, and nothing is taken: the slot is null.
pub record Refuses (s : Scenario) (h : List Entry) (l : ℕ) (o : Option ℕ) (i : Asked) (hr : HResult)
    : Type 0 where
  pub reason : (slot : ℕ) (held : Option RefValue) (wanted : Asked)
      → act s h l ≡ Some (action.Query slot held wanted) → Refusal s h l held wanted hr
  pub nothing : taken_in (deed.Query o i hr) ≡ None

abbrev pub QueryRefused : Scenario → List Entry → ℕ → Deed → Type 0
QueryRefused s h l (deed.Query o i hr) = is_S_OK hr ≡ false → Refuses s h l o i hr
QueryRefused s h l _ = Unit {0}
