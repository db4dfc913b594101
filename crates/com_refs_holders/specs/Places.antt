-- The places that the tables count: for each object its direct places, and for each apartment that does not
-- own it, how many places of the apartment hold it.
use Rattle.std.specs.Prelude.{◌≡◌, ℕ, ◌+◌, ◌<◌, ◌≤◌, Bool, true, false, not, ◌==◌, ◌&&◌, ◌||◌, if◌then◌else◌}
use Rattle.std.specs.Prelude.{List, [], ◌∷◌, sum_by, length}
use Rattle.com_proxy.specs.declared.ProxyRow.{ProxyRow}
use Rattle.com_proxy.specs.Rows.{is_for}
use Rattle.com_refs_books.specs.Counting.{sum_below, count_if}
use Rattle.com_refs_holders.specs.Tables.{Tables, owns_of, made_in, direct_in}

-- The places that a row counts, where it is of this apartment and this object. Another row has 0 here.
abbrev pub local_at : (apartment object : ℕ) → ProxyRow → ℕ
local_at a o row = if row.object == o && row.apartment == a then row.local else 0

-- The places of an apartment that does not own the object.
abbrev pub places_of : (apartment object : ℕ) → List ProxyRow → ℕ
places_of a o rows = sum_by (local_at a o) rows

-- How many places of an apartment that does not own the object hold it, by the tables' proxy rows.
abbrev pub places_in : Tables → (apartment object : ℕ) → ℕ
places_in t a o = places_of a o t.proxies

-- The places that a row counts, where it is of this object, in whichever apartment. Another row has 0 here.
abbrev pub local_for : ℕ → ProxyRow → ℕ
local_for o row = if row.object == o then row.local else 0

-- The places of an object in all apartments that do not own it.
abbrev pub locals_of : ℕ → List ProxyRow → ℕ
locals_of o rows = sum_by (local_for o) rows

-- There is a row of the apartment, the object and the interface.
abbrev pub has_row : List ProxyRow → ℕ → ℕ → ℕ → Bool
has_row [] a o i = false
has_row (row ∷ rows) a o i = is_for a o i row || has_row rows a o i

-- No two rows are of one apartment, object and interface.
abbrev pub distinct : List ProxyRow → Bool
distinct [] = true
distinct (row ∷ rows) = not (has_row rows row.apartment row.object row.iface) && distinct rows

-- One place more, of an apartment and an object; a direct one where the apartment owns the object. All else
-- is as it was.
pub record OneMore (t u : Tables) (a o : ℕ) (owned : Bool) : Type 0 where
  pub made : length u.objects ≡ length t.objects
  pub owns : (x c : ℕ) → owns_of u.objects x c ≡ owns_of t.objects x c
  pub as_made : (x : ℕ) → made_in u.objects x ≡ made_in t.objects x
  pub direct : (x : ℕ) → direct_in u x ≡ direct_in t x + count_if (owned && x == o)
  pub elsewhere : (c x : ℕ) → places_in u c x ≡ places_in t c x + count_if (not owned && (c == a && x == o))
  pub all_elsewhere : (x : ℕ) → locals_of x u.proxies ≡ locals_of x t.proxies + count_if (not owned && x == o)

-- One place less.
pub record OneLess (t u : Tables) (a o : ℕ) (owned : Bool) : Type 0 where
  pub made : length u.objects ≡ length t.objects
  pub owns : (x c : ℕ) → owns_of u.objects x c ≡ owns_of t.objects x c
  pub as_made : (x : ℕ) → made_in u.objects x ≡ made_in t.objects x
  pub direct : (x : ℕ) → direct_in u x + count_if (owned && x == o) ≡ direct_in t x
  pub elsewhere : (c x : ℕ) → places_in u c x + count_if (not owned && (c == a && x == o)) ≡ places_in t c x
  pub all_elsewhere : (x : ℕ) → locals_of x u.proxies + count_if (not owned && x == o) ≡ locals_of x t.proxies

-- As many places as before.
pub record SamePlaces (t u : Tables) : Type 0 where
  pub made : length u.objects ≡ length t.objects
  pub owns : (x c : ℕ) → owns_of u.objects x c ≡ owns_of t.objects x c
  pub as_made : (x : ℕ) → made_in u.objects x ≡ made_in t.objects x
  pub direct : (x : ℕ) → direct_in u x ≡ direct_in t x
  pub elsewhere : (c x : ℕ) → places_in u c x ≡ places_in t c x
  pub all_elsewhere : (x : ℕ) → locals_of x u.proxies ≡ locals_of x t.proxies

-- A table of places, of apartments below n, is what the tables count.
pub record Counts (n : ℕ) (places : ℕ → ℕ → ℕ) (t : Tables) : Type 0 where
  pub direct : (o : ℕ) → sum_below n (λ a. if owns_of t.objects o a then places a o else 0) ≡ direct_in t o
  pub elsewhere : (a o : ℕ) → a < n → owns_of t.objects o a ≡ false → places a o ≡ places_in t a o
  pub past : (a o : ℕ) → n ≤ a → places_in t a o ≡ 0
