-- What sections declare, what may be named below them, and the scenario that they are together.
use Rattle.std.specs.Prelude.{ℕ, ◌-◌, ◌≤◌, List, [], ◌∷◌, ◌++◌, length, map, flat_map, slice_get, unwrap_or}
use Rattle.com_base.specs.declared.guid.Guid.{Guid}
use Rattle.com_base.specs.declared.limits.TheConstants.{CLASS_LIMIT, FILTER_LIMIT, INTERFACE_LIMIT, THREAD_LIMIT}
use Rattle.com_body.specs.declared.statements.Stmt.{Stmt}
use Rattle.com_classes.specs.declared.interfaces.Interface.{Interface}
use Rattle.com_classes.specs.declared.classes.Class.{Class}
use Rattle.com_classes.specs.BuiltIns.{built_in_interfaces}
use Rattle.com_filter.specs.declared.Rule.{Rule}
use Rattle.com_model.specs.declared.scenario.Scenario.{Scenario}
use Rattle.com_read_statements.specs.declared.names.Names.{Names}
use Rattle.com_read_sections.specs.Outlines.{taken_iids}

-- The lanes of the pool; an interface; a class, by `class` or `native`; a filter's name and rules; a script;
-- the lanes that are tried first.
pub data Part : Type 0 where
  of_lanes : ℕ → Part
  of_interface : Interface → Part
  of_class : Class → Part
  of_filter : List ℕ → List Rule → Part
  of_script : List Stmt → Part
  of_picks : List ℕ → Part

-- ---- the parts of a kind, in order

abbrev pub lanes_in : Part → List ℕ
lanes_in (of_lanes n) = n ∷ []
lanes_in _ = []

abbrev pub interface_in : Part → List Interface
interface_in (of_interface i) = i ∷ []
interface_in _ = []

abbrev pub class_in : Part → List Class
class_in (of_class c) = c ∷ []
class_in _ = []

abbrev pub filter_name_in : Part → List (List ℕ)
filter_name_in (of_filter name rules) = name ∷ []
filter_name_in _ = []

abbrev pub filter_in : Part → List (List Rule)
filter_in (of_filter name rules) = rules ∷ []
filter_in _ = []

abbrev pub script_in : Part → List (List Stmt)
script_in (of_script body) = body ∷ []
script_in _ = []

abbrev pub picks_in : Part → List ℕ
picks_in (of_picks lanes) = lanes
picks_in _ = []

-- the interfaces that a text declares itself
abbrev pub own_interfaces : List Part → List Interface
own_interfaces parts = flat_map interface_in parts

-- with the built-in ones before them
abbrev pub all_interfaces : List Part → List Interface
all_interfaces parts = built_in_interfaces ++ own_interfaces parts

abbrev pub classes_of : List Part → List Class
classes_of parts = flat_map class_in parts

-- ---- what is declared above

abbrev pub name_of_class : Class → List ℕ
name_of_class c = c.name

abbrev pub name_of_interface : Interface → List ℕ
name_of_interface i = i.name

abbrev pub iid_of : Interface → Guid
iid_of i = i.iid

abbrev pub clsid_of : Class → Guid
clsid_of c = c.clsid

-- the names that may be used below these parts
abbrev pub names_below : List Part → Names
names_below parts = record {
  classes = map name_of_class (classes_of parts);
  interfaces = map name_of_interface (all_interfaces parts);
  filters = flat_map filter_name_in parts;
  tables = all_interfaces parts;
}

-- the IIDs and CLSIDs that may not be declared below them
abbrev pub iids_below : List Part → List Guid
iids_below parts = taken_iids built_in_interfaces ++ map iid_of (own_interfaces parts)

abbrev pub clsids_below : List Part → List Guid
clsids_below parts = map clsid_of (classes_of parts)

-- ---- the whole

-- A scenario's lists are the parts of each kind; the pool has one lane where no part says how many.
abbrev pub scenario_with : ℕ → List Part → Scenario
scenario_with version parts = record {
  version = version;
  pool = unwrap_or (slice_get (flat_map lanes_in parts) 0) 1;
  classes = record { interfaces = all_interfaces parts; classes = classes_of parts };
  filters = flat_map filter_in parts;
  threads = flat_map script_in parts;
  picks = flat_map picks_in parts;
}

-- How many parts of a kind there may be.
pub record IsWithinLimits (parts : List Part) : Type 0 where
  pub pools : length (flat_map lanes_in parts) ≤ 1
  pub interfaces : length (own_interfaces parts) ≤ INTERFACE_LIMIT - length built_in_interfaces
  pub classes : length (classes_of parts) ≤ CLASS_LIMIT
  pub filters : length (flat_map filter_name_in parts) ≤ FILTER_LIMIT
  pub threads : length (flat_map script_in parts) ≤ THREAD_LIMIT
