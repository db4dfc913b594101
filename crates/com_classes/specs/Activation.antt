-- Where a new object lives.
use Rattle.std.specs.Prelude.{ℕ, Bool, true, false, ◌==◌, nat_le, Option, Some, None, Result, Ok, Err}
use Rattle.std.specs.Prelude.{if◌then◌else◌}
use Rattle.com_base.specs.declared.guid.Guid.{Guid}
use Rattle.com_base.specs.declared.hresult.HResult.{HResult}
use Rattle.com_base.specs.declared.hresult.TheConstants.HResult.{E_NOINTERFACE, REGDB_E_CLASSNOTREG}
use Rattle.com_classes.specs.declared.classes.Class.{Class}
use Rattle.com_classes.specs.declared.classes.ThreadingModel.{ThreadingModel}
use Rattle.com_classes.specs.declared.classes.ThreadingModel.TheVariants as model
use Rattle.com_classes.specs.declared.factory.Creator.{Creator}
use Rattle.com_classes.specs.declared.factory.Placed.{Placed}
use Rattle.com_classes.specs.Tables.{Tables}
use Rattle.com_classes.specs.Lookups.{class_at, class_has, find_class, find_interface}

-- The creator's apartment: the running one, but where that is the neutral one, the lane's home.
abbrev pub apartment_of : Creator → ℕ
apartment_of creator = if creator.running == 0 then creator.home else creator.running

-- The owner of a new object. Apartment 0 is the neutral one, 1 the multithreaded one, 2 the host's STA, and
-- all from 2 on are STAs.
abbrev pub owner_for : ThreadingModel → Creator → ℕ
owner_for model.Nothing creator = creator.main_sta
owner_for model.Apartment creator = if nat_le 2 (apartment_of creator) then apartment_of creator else 2
owner_for model.Free creator = 1
owner_for model.Both creator = creator.running
owner_for model.Neutral creator = 0
owner_for model.Agile creator = 0

-- Whether every apartment owns the object.
abbrev pub is_agile : ThreadingModel → Bool
is_agile model.Agile = true
is_agile other = false

-- The object of a class that is found: E_NOINTERFACE where the IID names no interface of the class.
abbrev pub placed_in : Class → ℕ → Option ℕ → Creator → Result Placed HResult
placed_in c class None creator = Err E_NOINTERFACE
placed_in c class (Some iface) creator =
    if class_has c iface
    then Ok (record {
      class = class;
      iface = iface;
      owner = owner_for c.model creator;
      agile = is_agile c.model;
    })
    else Err E_NOINTERFACE

-- The new object that a CLSID and an IID ask for: REGDB_E_CLASSNOTREG where no class has the CLSID.
abbrev pub placed : Tables → Guid → Guid → Creator → Result Placed HResult
placed t clsid iid creator =
    elim (find_class t clsid) [
      | None ↦ Err REGDB_E_CLASSNOTREG
      | Some class ↦ elim (class_at t class) [
        | None ↦ Err REGDB_E_CLASSNOTREG
        | Some c ↦ placed_in c class (find_interface t iid) creator
      ]
    ]
