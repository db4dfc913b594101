-- What is counted for each object, so that its holders are known without a walk.
use Rattle.std.specs.Prelude.{◌≡◌, ℕ, zero, suc, ◌+◌, ◌-◌, slice_index_or, ◌<◌, ◌≤◌, Bool, true}
use Rattle.std.specs.Prelude.{if◌then◌else◌, ◌==◌, List, length, Option, Some, None}
use Rattle.com_refs_holders.specs.Tables.{Tables, books_of, direct_in}
use Rattle.com_refs_holders.specs.Places.{locals_of}
use Rattle.com_refs_books.specs.Changes.{held_outside, set_from_one}

-- The row of an object's number.
abbrev pub hold_of : List ℕ → ℕ → ℕ
hold_of holds zero = 0
hold_of holds (suc place) = slice_index_or holds place 0

abbrev pub hold_less : ℕ → Bool → List ℕ → List ℕ
hold_less o held holds = if held then set_from_one holds o (hold_of holds o - 1) else holds

abbrev pub hold_more : ℕ → Bool → List ℕ → List ℕ
hold_more o held holds = if held then set_from_one holds o (hold_of holds o + 1) else holds

-- The holders of an object beside its direct places: places elsewhere, packets that are not weak, and
-- cookies.
abbrev pub outside_of : Tables → ℕ → ℕ
outside_of t x = locals_of x t.proxies + held_outside (books_of t) x

-- The holders of an object. Of one that is not connected only its direct places hold it.
abbrev pub holders_of : Tables → ℕ → ℕ
holders_of t x = if (books_of t).live x then direct_in t x + outside_of t x else direct_in t x

-- The object, where nothing holds it.
abbrev pub unheld : Tables → ℕ → Option ℕ
unheld t x = if holders_of t x == 0 then Some x else None

-- The holders beside direct places are counted, and each connected object has a holder.
pub record IsCounted (t : Tables) (holds : List ℕ) : Type 0 where
  pub counted : (x : ℕ) → (books_of t).live x ≡ true → hold_of holds x ≡ outside_of t x
  pub tidy : (x : ℕ) → (books_of t).live x ≡ true → 0 < direct_in t x + outside_of t x
  pub as_many : length holds ≡ length t.objects
  pub small : (x : ℕ) → hold_of holds x ≤ t.issued

-- Holders are counted for all objects but one, which may have no holder any more.
pub record IsCountedBut (t : Tables) (holds : List ℕ) (o : ℕ) : Type 0 where
  pub counted : (x : ℕ) → (books_of t).live x ≡ true → hold_of holds x ≡ outside_of t x
  pub others : (x : ℕ) → (x ≡ o → ⊥) → (books_of t).live x ≡ true → 0 < direct_in t x + outside_of t x
  pub as_many : length holds ≡ length t.objects
  pub small : (x : ℕ) → hold_of holds x ≤ t.issued

-- The whole, with room for as many calls as are sure to find memory.
pub record IsRefs (t : Tables) (holds : List ℕ) (free : ℕ) : Type 0 where
  pub counts : IsCounted t holds
  pub room : t.spare ≤ free
