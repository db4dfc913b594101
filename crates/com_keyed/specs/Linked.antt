-- How the indices of one bucket are linked. A link is one more than the index that it leads to, or 0.
use Rattle.std.specs.Prelude.{ℕ, ◌≡◌, ◌-◌, ◌%◌, ◌<◌, ◌≤◌, List, length, slice_index}

-- the bucket of an index, of so many buckets
abbrev pub bucket_at : List ℕ → ℕ → ℕ → ℕ
bucket_at keys buckets index = slice_index keys index % buckets

-- the first `count` indices are linked: each bucket from its latest index to its earliest
pub record IsLinked (keys links heads : List ℕ) (buckets count : ℕ) : Type 0 where
  pub head_covers : (index : ℕ) → index < count → index < slice_index heads (bucket_at keys buckets index)
  pub head_within : (bucket : ℕ) → slice_index heads bucket ≤ count
  pub head_keyed : (bucket : ℕ) → 0 < slice_index heads bucket
      → bucket_at keys buckets (slice_index heads bucket - 1) ≡ bucket
  pub link_covers : (index later : ℕ) → later < count → index < later
      → bucket_at keys buckets index ≡ bucket_at keys buckets later → index < slice_index links later
  pub link_within : (index : ℕ) → index < count → slice_index links index ≤ index
  pub link_keyed : (index : ℕ) → index < count → 0 < slice_index links index
      → bucket_at keys buckets (slice_index links index - 1) ≡ bucket_at keys buckets index

-- a table whose indices are all linked, with a bucket for each index that it has room for
pub record IsTable (keys links heads : List ℕ) (key_capacity link_capacity : ℕ) : Type 0 where
  pub linked : IsLinked keys links heads (length heads) (length keys)
  pub as_many : length links ≡ length keys
  pub fits : length keys ≤ length heads
  pub key_room : length heads ≤ key_capacity
  pub link_room : length heads ≤ link_capacity

-- the link leads to the latest index below `end` in the bucket of the key
pub record LeadsOn (keys : List ℕ) (buckets key end link : ℕ) : Type 0 where
  pub within : link ≤ end
  pub keyed : 0 < link → bucket_at keys buckets (link - 1) ≡ key % buckets
  pub covers : (index : ℕ) → index < end → bucket_at keys buckets index ≡ key % buckets → index < link
