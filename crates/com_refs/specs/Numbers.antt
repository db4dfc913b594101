-- Bounds of the interfaces and apartments that a report sums over.
use Rattle.std.specs.Prelude.{ℕ, ◌≡◌, ◌<◌, ◌≤◌, true}
use Rattle.com_refs_holders.specs.Tables.{Tables, offers}
use Rattle.com_refs_holders.specs.Places.{places_in}

-- All interfaces of all sets are below m, and all apartments with a place are below n.
pub record Within (n m : ℕ) (t : Tables) : Type 0 where
  pub interfaces : (o i : ℕ) → offers t o i ≡ true → i < m
  pub apartments : (a o : ℕ) → n ≤ a → places_in t a o ≡ 0
