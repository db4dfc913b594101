-- The places of all apartments are those that are counted.
use Rattle.std.specs.Prelude.{◌≡◌, ℕ, ◌+◌}
use Rattle.com_refs_books.specs.Counting.{sum_below}
use Rattle.com_refs_holders.specs.Tables.{Tables, direct_in}
use Rattle.com_refs_holders.specs.Places.{locals_of}

-- The places of an object, taken together for all apartments below n, are as many as the tables count: the direct
-- ones, and those that all proxies count as local references.
pub record Totals (n : ℕ) (places : ℕ → ℕ → ℕ) (t : Tables) : Type 0 where
  pub total : (x : ℕ) → sum_below n (λ a. places a x) ≡ direct_in t x + locals_of x t.proxies
