-- What a contract sees of a `Proxies`.
use Rattle.std.specs.Prelude.{ℕ, ◌≡◌, List}
use Rattle.com_keyed.specs.Indices.{KeyList}
use Rattle.com_proxy.specs.declared.ProxyRow.{ProxyRow}
use Rattle.com_proxy.specs.Rows.{EachFirst, proxies_of, objects_of}

-- the rows, in the order of their first references, and how many more rows are sure to find memory
pub record Table : Type 0 where
  pub rows : List ProxyRow
  pub spare : ℕ

-- the indices are under the keys of the rows' proxies and under the rows' objects, and there is one row
-- of each apartment, object and interface
pub record IsTable (rows : List ProxyRow) (proxies objects : KeyList) : Type 0 where
  pub by_proxy : proxies.keys ≡ proxies_of rows
  pub by_object : objects.keys ≡ objects_of rows
  pub first : EachFirst rows
