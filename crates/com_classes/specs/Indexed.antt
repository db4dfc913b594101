-- What the tables keep beside what contracts see.
use Rattle.std.specs.Prelude.{◌≡◌, ℕ, ◌≤◌, ◌&&◌, ◌==◌, Bool, List, map, length}
use Rattle.std.specs.Str.{bytes_eq}
use Rattle.com_base.specs.declared.limits.TheConstants.{CLASS_LIMIT, INTERFACE_LIMIT}
use Rattle.com_base.specs.declared.guid.Guid.{Guid}
use Rattle.com_body.specs.declared.statements.Stmt.{Stmt}
use Rattle.com_classes.specs.declared.interfaces.Interface.{Interface}
use Rattle.com_classes.specs.declared.classes.Class.{Class}
use Rattle.com_classes.specs.BuiltIns.{counter_bodies, relay_bodies, latch_bodies}

-- A GUID by its four fields, as the tables' key.
abbrev pub key_of : Guid → ℕ × ℕ × ℕ × List ℕ
key_of g = (g.data1, g.data2, g.data3, g.data4)

-- Whether two keys are the same.
abbrev pub same_key : ℕ × ℕ × ℕ × List ℕ → ℕ × ℕ × ℕ × List ℕ → Bool
same_key a b = a.0 == b.0 && a.1 == b.1 && a.2 == b.2 && bytes_eq a.3 b.3

-- Each entry of an index stands under the GUID of its interface or class, no table is longer than its limit,
-- and the bodies of the built-in classes are there.
pub record IsIndexed (ikeys : List (ℕ × ℕ × ℕ × List ℕ)) (interfaces : List Interface)
    (ckeys : List (ℕ × ℕ × ℕ × List ℕ)) (classes : List Class)
    (counters relays latches : List (List Stmt)) : Type 0 where
  pub interface_keys : ikeys ≡ map (λ i. key_of i.iid) interfaces
  pub class_keys : ckeys ≡ map (λ c. key_of c.clsid) classes
  pub few_interfaces : length interfaces ≤ INTERFACE_LIMIT
  pub few_classes : length classes ≤ CLASS_LIMIT
  pub counter : counters ≡ counter_bodies
  pub relay : relays ≡ relay_bodies
  pub latch : latches ≡ latch_bodies
