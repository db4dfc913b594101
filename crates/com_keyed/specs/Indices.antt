-- What a contract sees of a `Chains`.
use Rattle.std.specs.Prelude.{ℕ, ◌≡◌, ◌+◌, ◌-◌, ◌<◌, ◌≤◌, List, Option, None, Some, slice_index}

-- the key of each index, in the order in which they were given, and how many more indices are sure to
-- find memory
pub record KeyList : Type 0 where
  pub keys : List ℕ
  pub spare : ℕ

-- one more than the index that was found, or 0 where there is none
abbrev pub reach : Option ℕ → ℕ
reach None = 0
reach (Some index) = index + 1

-- what was found is the latest index below `end` that has the key
pub record IsLatest (keys : List ℕ) (key end : ℕ) (found : Option ℕ) : Type 0 where
  pub within : reach found ≤ end
  pub keyed : 0 < reach found → slice_index keys (reach found - 1) ≡ key
  pub covers : (index : ℕ) → index < end → slice_index keys index ≡ key → index < reach found
