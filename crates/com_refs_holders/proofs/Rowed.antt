-- Which rows there are, that no two are of one apartment, object and interface, and what they count together.
use Rattle.std.proofs.Common.{◌≡◌, ℕ, true, false, eqb, cond, ◌&&◌, ◌||◌, ◌+◌, ◌<◌, ◌≤◌, List, [], ◌∷◌, refl, ◌∙◌, arith}
use Rattle.std.proofs.lemmas.Grind.{common_steps}
use Rattle.com_proxy.specs.declared.ProxyRow.{ProxyRow}
use Rattle.com_proxy.specs.Rows.{local_of, public_of, row_of, no_row, changed_row, gaining, one_local_more, one_local_less, no_public, halved, IsFree}
use Rattle.com_proxy.proofs.Rows.{row_changed}
use Rattle.com_refs_books.specs.Counting.{count_if}
use Rattle.com_refs_holders.specs.Places.{places_of, locals_of, has_row, distinct}

-- A change that keeps the row's apartment, object and interface.
pub record Keeps (f : ProxyRow → ProxyRow) : Type 0 where
  pub apartment : (r : ProxyRow) → (f r).apartment ≡ r.apartment
  pub object : (r : ProxyRow) → (f r).object ≡ r.object
  pub iface : (r : ProxyRow) → (f r).iface ≡ r.iface

-- One local reference more, and so many public ones.
pub record Gains (f : ProxyRow → ProxyRow) (n : ℕ) : Type 0 where
  pub keeps : Keeps f
  pub local : (r : ProxyRow) → (f r).local ≡ r.local + 1
  pub public : (r : ProxyRow) → (f r).public ≡ r.public + n

pub keeps_gaining : (n : ℕ) → Keeps (gaining n)
keeps_gaining n = record { apartment = λ r. refl; object = λ r. refl; iface = λ r. refl }

pub keeps_more : Keeps one_local_more
keeps_more = record { apartment = λ r. refl; object = λ r. refl; iface = λ r. refl }

pub gains : (n : ℕ) → Gains (gaining n) n
gains n = record { keeps = keeps_gaining n; local = λ r. refl; public = λ r. refl }

pub gains_none : Gains one_local_more 0
gains_none = record { keeps = keeps_more; local = λ r. refl; public = λ r. omega arith }

pub keeps_less : Keeps one_local_less
keeps_less = record { apartment = λ r. refl; object = λ r. refl; iface = λ r. refl }

pub keeps_none : Keeps no_public
keeps_none = record { apartment = λ r. refl; object = λ r. refl; iface = λ r. refl }

pub keeps_halved : Keeps halved
keeps_halved = record { apartment = λ r. refl; object = λ r. refl; iface = λ r. refl }

module _ (f : ProxyRow → ProxyRow) (k : Keeps f) (a o i : ℕ) where
  pub has_changed : (rs : List ProxyRow) (c x j : ℕ) → has_row (changed_row f a o i rs) c x j ≡ has_row rs c x j || (eqb x o && (eqb c a && eqb j i))
  has_changed [] c x j = grind (arith, common_steps, k.apartment (no_row a o i), k.object (no_row a o i), k.iface (no_row a o i))
  has_changed (r ∷ rs) c x j = grind (arith, common_steps, has_changed rs c x j, k.apartment r, k.object r, k.iface r)

  pub distinct_changed : (rs : List ProxyRow) → distinct rs ≡ true → distinct (changed_row f a o i rs) ≡ true
  distinct_changed [] h = grind (arith, common_steps)
  distinct_changed (r ∷ rs) h = grind (arith, common_steps, distinct_changed rs, has_changed rs r.apartment r.object r.iface, k.apartment r, k.object r, k.iface r, h)

pub has_same : (f : ProxyRow → ProxyRow) (k : Keeps f) (a o i : ℕ) (rs : List ProxyRow) → has_row rs a o i ≡ true → (c x j : ℕ) → has_row (changed_row f a o i rs) c x j ≡ has_row rs c x j
has_same f k a o i rs h c x j = has_changed f k a o i rs c x j ∙ grind (arith, common_steps, h)

pub local_has : (rs : List ProxyRow) (a o i : ℕ) → 0 < local_of rs a o i → has_row rs a o i ≡ true
local_has [] a o i h = absurd (omega arith)
local_has (r ∷ rs) a o i h = grind (arith, common_steps, local_has rs a o i, h)

pub public_has : (rs : List ProxyRow) (a o i : ℕ) → 0 < public_of rs a o i → has_row rs a o i ≡ true
public_has [] a o i h = absurd (omega arith)
public_has (r ∷ rs) a o i h = grind (arith, common_steps, public_has rs a o i, h)

pub no_row_public : (rs : List ProxyRow) (a o i : ℕ) → has_row rs a o i ≡ false → public_of rs a o i ≡ 0
no_row_public [] a o i h = refl
no_row_public (r ∷ rs) a o i h = grind (arith, common_steps, no_row_public rs a o i, h)

pub no_row_local : (rs : List ProxyRow) (a o i : ℕ) → has_row rs a o i ≡ false → local_of rs a o i ≡ 0
no_row_local [] a o i h = refl
no_row_local (r ∷ rs) a o i h = grind (arith, common_steps, no_row_local rs a o i, h)

-- ---- what is counted together

pub local_le : (rs : List ProxyRow) (a o i : ℕ) → local_of rs a o i ≤ places_of a o rs
local_le [] a o i = omega arith
local_le (r ∷ rs) a o i = grind (arith, common_steps, local_le rs a o i)

pub places_le : (rs : List ProxyRow) (a o : ℕ) → places_of a o rs ≤ locals_of o rs
places_le [] a o = omega arith
places_le (r ∷ rs) a o = grind (arith, common_steps, places_le rs a o)

pub places_none : (rs : List ProxyRow) (a o : ℕ) → places_of a o rs ≡ 0 → IsFree rs a o
places_none rs a o h = record { none_held = λ i. omega (arith, h, local_le rs a o i) }

free_tail : (r : ProxyRow) (rs : List ProxyRow) (a o : ℕ) → distinct (r ∷ rs) ≡ true → IsFree (r ∷ rs) a o → IsFree rs a o
free_tail r rs a o d f = record { none_held = λ i. grind (arith, common_steps, f.none_held i, d, no_row_local rs a o i) }

pub free_places : (rs : List ProxyRow) (a o : ℕ) → distinct rs ≡ true → IsFree rs a o → places_of a o rs ≡ 0
free_places [] a o d f = refl
free_places (r ∷ rs) a o d f = grind (arith, common_steps, f.none_held r.iface, free_places rs a o (grind (arith, common_steps, d)) (free_tail r rs a o d f))

module _ (f : ProxyRow → ProxyRow) (n : ℕ) (g : Gains f n) (a o i : ℕ) where
  pub places_grown : (rs : List ProxyRow) (c x : ℕ) → places_of c x (changed_row f a o i rs) ≡ places_of c x rs + count_if (eqb c a && eqb x o)
  places_grown [] c x = grind (arith, common_steps, g.keeps.apartment (no_row a o i), g.keeps.object (no_row a o i), g.local (no_row a o i))
  places_grown (r ∷ rs) c x = grind (arith, common_steps, places_grown rs c x, g.keeps.apartment r, g.keeps.object r, g.local r)

  pub locals_grown : (rs : List ProxyRow) (x : ℕ) → locals_of x (changed_row f a o i rs) ≡ locals_of x rs + count_if (eqb x o)
  locals_grown [] x = grind (arith, common_steps, g.keeps.object (no_row a o i), g.local (no_row a o i))
  locals_grown (r ∷ rs) x = grind (arith, common_steps, locals_grown rs x, g.keeps.object r, g.local r)

  pub grown_public : (rs : List ProxyRow) (c x j : ℕ) → public_of (changed_row f a o i rs) c x j ≡ cond (eqb c a && (eqb x o && eqb j i)) (public_of rs c x j + n) (public_of rs c x j)
  grown_public rs c x j = grind (arith, common_steps, row_changed rs f a o i c x j g.keeps.apartment g.keeps.object g.keeps.iface, g.public (row_of rs c x j))

  pub grown_local : (rs : List ProxyRow) (c x j : ℕ) → local_of (changed_row f a o i rs) c x j ≡ local_of rs c x j + count_if (eqb c a && (eqb x o && eqb j i))
  grown_local rs c x j = grind (arith, common_steps, row_changed rs f a o i c x j g.keeps.apartment g.keeps.object g.keeps.iface, g.local (row_of rs c x j))

pub places_less : (rs : List ProxyRow) (a o i c x : ℕ) → 0 < local_of rs a o i → places_of c x (changed_row one_local_less a o i rs) + count_if (eqb c a && eqb x o) ≡ places_of c x rs
places_less [] a o i c x h = absurd (omega arith)
places_less (r ∷ rs) a o i c x h = grind (arith, common_steps, places_less rs a o i c x, h)

pub places_given : (rs : List ProxyRow) (a o i c x : ℕ) → places_of c x (changed_row no_public a o i rs) ≡ places_of c x rs
places_given [] a o i c x = grind (arith, common_steps)
places_given (r ∷ rs) a o i c x = grind (arith, common_steps, places_given rs a o i c x)

pub places_split : (rs : List ProxyRow) (a o i c x : ℕ) → places_of c x (changed_row halved a o i rs) ≡ places_of c x rs
places_split [] a o i c x = grind (arith, common_steps)
places_split (r ∷ rs) a o i c x = grind (arith, common_steps, places_split rs a o i c x)
