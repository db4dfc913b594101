-- What making an object does.
use Rattle.std.specs.Prelude.{◌≡◌, ℕ, ◌+◌, ◌<◌, ◌≤◌, true, false, not, ◌==◌, ◌&&◌, ◌||◌}
use Rattle.std.specs.Prelude.{if◌then◌else◌, List, length, Some}
use Rattle.com_refs_books.specs.Changes.{changed, change, Makes}
use Rattle.com_refs_books.specs.Counting.{count_if}
use Rattle.com_refs_holders.specs.Places.{places_in}
use Rattle.com_refs_holders.specs.Steps.{made_live, among}
use Rattle.com_refs_holders.specs.declared.ObjectRow.{ObjectRow}
use Rattle.com_refs_holders.specs.Tables.{Tables, books_of, direct_in, is_made, made_in, offers, owner_in, owns_of}
use Rattle.com_refs.specs.declared.NewObject.{NewObject}

-- The object is new: no object of its number was made. Objects are numbered from 1 on in the order in which they are
-- made, so each of a lower number was made before it.
pub record IsNewObject (rows : List ObjectRow) (o : ℕ) : Type 0 where
  pub numbered : 0 < o
  pub unmade : is_made rows o ≡ false
  pub others : (x : ℕ) → 0 < x → x < o → is_made rows x ≡ true

-- There is one object more, owned as its making says, with the interfaces of the set, and the apartment has a
-- place for it: a direct one where it owns the object. All else is as it was.
pub record IsMade (t u : Tables) (m : NewObject) (set : List ℕ) : Type 0 where
  pub row : books_of u
      ≡ changed (made_live m.object (books_of t))
      (change (owns_of u.objects) (made_live m.object (books_of t)) (Makes m.apartment m.object m.iface))
  pub made : length u.objects ≡ length t.objects + 1
  pub owner : owner_in u.objects m.object ≡ Some m.owner
  pub as_made : (x : ℕ) → made_in u.objects x
      ≡ (if x == m.object then record { owner = m.owner; agile = m.agile; direct = 0 }
      else made_in t.objects x)
  pub owns : (x c : ℕ) → x ≤ length t.objects → owns_of u.objects x c ≡ owns_of t.objects x c
  pub whose : (x c : ℕ) → owns_of u.objects x c
      ≡ (if x == m.object then m.agile || m.owner == c else owns_of t.objects x c)
  pub direct : (x : ℕ) → direct_in u x
      ≡ direct_in t x + count_if (owns_of u.objects m.object m.apartment && x == m.object)
  pub elsewhere : (c x : ℕ) → places_in u c x
      ≡ places_in t c x
      + count_if (not (owns_of u.objects m.object m.apartment) && (c == m.apartment && x == m.object))
  pub offers : (x j : ℕ) → offers u x j ≡ (offers t x j || (x == m.object && among j set))
  pub issued : u.issued ≡ t.issued + 2
