-- The rows of the proxies: what each apartment holds of each interface of each object.
use Rattle.std.specs.Prelude.{ℕ, ◌≡◌, ◌+◌, ◌-◌, ◌*◌, ◌/◌, ◌%◌, ◌^◌, ◌<◌, ◌≤◌, Bool, ◌==◌, ◌&&◌, if◌then◌else◌}
use Rattle.std.specs.Prelude.{nat_le, List, [], ◌∷◌, map, length, slice_index_or, sum_by}
use Rattle.com_proxy.specs.declared.TheConstants.{MIX}
use Rattle.com_proxy.specs.declared.ProxyRow.{ProxyRow}
use Rattle.com_proxy.specs.declared.Split.{Split}
use Rattle.com_proxy.specs.declared.Split.TheVariants.{Moved, New}

-- the row is that of an apartment, an object and an interface
abbrev pub is_for : ℕ → ℕ → ℕ → ProxyRow → Bool
is_for apartment object iface row =
    (row.object == object) && ((row.apartment == apartment) && (row.iface == iface))

-- a row that holds no references, of an apartment, an object and an interface
abbrev pub no_row : ℕ → ℕ → ℕ → ProxyRow
no_row apartment object iface =
    record { apartment = apartment; object = object; iface = iface; local = 0; public = 0 }

-- the first row of an apartment, an object and an interface; one that is not there holds nothing
abbrev pub row_of : List ProxyRow → ℕ → ℕ → ℕ → ProxyRow
row_of [] apartment object iface = no_row apartment object iface
row_of (row ∷ rows) apartment object iface =
    if is_for apartment object iface row then row else row_of rows apartment object iface

-- the local references that are held
abbrev pub local_of : List ProxyRow → ℕ → ℕ → ℕ → ℕ
local_of rows apartment object iface = (row_of rows apartment object iface).local

-- the public references that are held
abbrev pub public_of : List ProxyRow → ℕ → ℕ → ℕ → ℕ
public_of rows apartment object iface = (row_of rows apartment object iface).public

-- the apartment has no local reference to the object, by any interface
pub record IsFree (rows : List ProxyRow) (apartment object : ℕ) : Type 0 where
  pub none_held : (iface : ℕ) → local_of rows apartment object iface ≡ 0

-- where that row stands, or the number of rows
abbrev pub index_of : List ProxyRow → ℕ → ℕ → ℕ → ℕ
index_of [] apartment object iface = 0
index_of (row ∷ rows) apartment object iface =
    if is_for apartment object iface row then 0 else index_of rows apartment object iface + 1

-- that row changed; one that was not there begins with nothing, at the end
abbrev pub changed_row : (ProxyRow → ProxyRow) → ℕ → ℕ → ℕ → List ProxyRow → List ProxyRow
changed_row change apartment object iface [] = change (no_row apartment object iface) ∷ []
changed_row change apartment object iface (row ∷ rows) =
    if is_for apartment object iface row then change row ∷ rows
    else row ∷ changed_row change apartment object iface rows

-- one local reference and so many public ones more
abbrev pub gaining : ℕ → ProxyRow → ProxyRow
gaining refs row = record row { local = row.local + 1; public = row.public + refs }

-- one local reference more, and as many public ones as before
abbrev pub one_local_more : ProxyRow → ProxyRow
one_local_more row = record row { local = row.local + 1 }

-- one local reference less, where one is held, and as many public ones as before
abbrev pub one_local_less : ProxyRow → ProxyRow
one_local_less row = record row { local = row.local - 1 }

-- no public references any more, and as many local ones as before
abbrev pub no_public : ProxyRow → ProxyRow
no_public row = record row { public = 0 }

-- half of the public references, rounded down, is taken away
abbrev pub halved : ProxyRow → ProxyRow
halved row = record row { public = row.public - row.public / 2 }

-- what `split` answers where so many are held
abbrev pub split_of : ℕ → Split
split_of held = if nat_le 2 held then Moved (held / 2) else New

-- the rows after it
abbrev pub split_rows : ℕ → ℕ → ℕ → List ProxyRow → List ProxyRow
split_rows apartment object iface rows =
    if nat_le 2 (public_of rows apartment object iface) then changed_row halved apartment object iface rows
    else rows

-- the row without public references, where it is of the object
abbrev pub cut_row : ℕ → ProxyRow → ProxyRow
cut_row object row = if row.object == object then no_public row else row

abbrev pub cut_rows : ℕ → List ProxyRow → List ProxyRow
cut_rows object rows = map (cut_row object) rows

-- what the row adds to the public references of an object
abbrev pub public_any : ℕ → ProxyRow → ℕ
public_any object row = if row.object == object then row.public else 0

-- the public references of all proxies of an object
abbrev pub public_sum : ℕ → List ProxyRow → ℕ
public_sum object rows = sum_by (public_any object) rows

-- the key of a proxy, which another proxy may share
unfoldable pub proxy_key_of : ℕ → ℕ → ℕ
proxy_key_of apartment object = (apartment * MIX % 2 ^ 32 + object) % 2 ^ 32

-- the key of a row's proxy
abbrev pub key_of : ProxyRow → ℕ
key_of row = proxy_key_of row.apartment row.object

-- the key of the proxy of each row
abbrev pub proxies_of : List ProxyRow → List ℕ
proxies_of rows = map key_of rows

-- the object of each row
abbrev pub objects_of : List ProxyRow → List ℕ
objects_of rows = map (λ row. row.object) rows

-- the row at an index
abbrev pub row_at : List ProxyRow → ℕ → ProxyRow
row_at rows index = slice_index_or rows index (no_row 0 0 0)

-- no two rows are of the same apartment, object and interface: each is the first of its own
abbrev pub EachFirst : List ProxyRow → Type 0
EachFirst rows =
    (index : ℕ) → index < length rows
    → index_of rows (row_at rows index).apartment (row_at rows index).object (row_at rows index).iface ≡ index

-- a row of an apartment and an object has no public references
abbrev pub HasNoPublic : ℕ → ℕ → List ProxyRow → ℕ → Type 0
HasNoPublic apartment object rows index =
    (row_at rows index).object ≡ object → (row_at rows index).apartment ≡ apartment
    → (row_at rows index).public ≡ 0

-- the row has public references of the apartment and the object, and no row of a lower interface has
pub record IsLowest (apartment object : ℕ) (rows : List ProxyRow) (index : ℕ) : Type 0 where
  pub inside : index < length rows
  pub of_object : (row_at rows index).object ≡ object
  pub of_apartment : (row_at rows index).apartment ≡ apartment
  pub some : 0 < (row_at rows index).public
  pub lowest : (other : ℕ) → other < length rows → (row_at rows other).object ≡ object
      → (row_at rows other).apartment ≡ apartment → 0 < (row_at rows other).public
      → (row_at rows index).iface ≤ (row_at rows other).iface
