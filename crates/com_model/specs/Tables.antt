-- What a scenario declares: its lanes, scripts and filters, and what its tables of interfaces and classes
-- have.
use Rattle.std.specs.Prelude.{ℕ, zero, suc, ◌+◌, Bool, false, ◌==◌, ◌&&◌, nat_le, if◌then◌else◌, List, []}
use Rattle.std.specs.Prelude.{Option, Some, None, option_map, slice_index_or, length}
use Rattle.com_base.specs.declared.value.Kind.{Kind}
use Rattle.com_body.specs.declared.operands.Asked.{Asked}
use Rattle.com_body.specs.declared.operands.Asked.TheVariants as asked
use Rattle.com_body.specs.declared.statements.Stmt.{Stmt}
use Rattle.com_classes.specs.declared.interfaces.Method.{Method}
use Rattle.com_classes.specs.declared.classes.Class.{Class}
use Rattle.com_classes.specs.Activation.{is_agile}
use Rattle.com_classes.specs.Lookups.{class_at, interface_at, find_class, find_interface}
use Rattle.com_filter.specs.declared.Rule.{Rule}
use Rattle.com_model.specs.declared.scenario.Scenario.{Scenario}

-- The sorts of lanes. Lane 0 is the clock; then come the threads in their order, the host STA's lane, and the
-- pool's.
pub data LaneSort : Type 0 where
  Thread : LaneSort
  Host : LaneSort
  Pool : LaneSort
  NoLane : LaneSort

-- How many threads the scenario has. Their lanes have the numbers from 1 to this.
abbrev pub threads : Scenario → ℕ
threads s = length s.threads

-- The lane of the host STA, directly behind those of the threads.
abbrev pub host_lane : Scenario → ℕ
host_lane s = threads s + 1

-- The highest lane, which is the last of the pool: so many lanes there are beside the clock's lane 0.
abbrev pub lanes : Scenario → ℕ
lanes s = host_lane s + s.pool

-- Whether the number is the lane of a thread.
abbrev pub is_thread : Scenario → ℕ → Bool
is_thread s l = nat_le 1 l && nat_le l (threads s)

-- The sort of the lane with a number: NoLane is the clock's lane 0, and each number above the highest lane.
abbrev pub lane_sort : Scenario → ℕ → LaneSort
lane_sort s l =
    if l == 0 then NoLane
    else if nat_le l (threads s) then Thread
    else if l == host_lane s then Host
    else if nat_le l (lanes s) then Pool
    else NoLane

-- The script of a thread's lane.
abbrev pub script : Scenario → ℕ → List Stmt
script s zero = []
script s (suc l) = slice_index_or s.threads l []

-- Filters count from 1, as classes do; interfaces from 0, which is IUnknown. What stands under a number, and
-- an object's interface set, are `interface_at`, `class_at`, `method_at`, `body_of` and `has_interface` of
-- `com_classes`.
abbrev pub filter_rules : Scenario → ℕ → List Rule
filter_rules s zero = []
filter_rules s (suc f) = slice_index_or s.filters f []

-- The kinds of a method's parameters, in their order; none for a method that is not in the interface's table.
abbrev pub parameters : Option Method → List Kind
parameters None = []
parameters (Some m) = m.params

-- The kind of a method's result; none where it declares no result, or is not in the interface's table.
abbrev pub result_kind : Option Method → Option Kind
result_kind None = None
result_kind (Some m) = m.result

-- The number of the class or interface that is asked for, where it is declared anywhere in the scenario.
abbrev pub class_number : Scenario → Asked → Option ℕ
class_number s (asked.Number c) = option_map (λ k. c) (class_at s.classes c)
class_number s (asked.Guid g) = find_class s.classes g

-- The number of the interface that is asked for by its number or its IID; none where it is not declared.
abbrev pub interface_number : Scenario → Asked → Option ℕ
interface_number s (asked.Number i) = option_map (λ k. i) (interface_at s.classes i)
interface_number s (asked.Guid g) = find_interface s.classes g

-- An entry names by number what is declared, and by GUID what is not.
abbrev pub shown : Option ℕ → Asked → Asked
shown None a = a
shown (Some n) a = asked.Number n

-- Whether the class with a number has the model Agile.
abbrev pub has_agile_model : Option Class → Bool
has_agile_model None = false
has_agile_model (Some k) = is_agile k.model

-- Whether the class with this number has the model Agile, so that every apartment owns its objects.
abbrev pub is_agile_class : Scenario → ℕ → Bool
is_agile_class s c = has_agile_model (class_at s.classes c)
