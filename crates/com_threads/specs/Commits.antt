-- How many entries each lane has.
use Rattle.std.specs.Prelude.{◌≡◌, ℕ, ◌<◌, ◌==◌, List, length, slice_index, count_by, sum}
use Rattle.com_model.specs.declared.deeds.Entry.{Entry}

-- The entries of a lane, counted.
abbrev pub count_of : (lane : ℕ) → List Entry → ℕ
count_of l h = count_by (λ (e : Entry). e.lane == l) h

-- So many numbers, one for each lane, and that of lane 0 first: how many entries the lane has. Together they
-- are all entries.
pub record Tallies (rows : ℕ) (h : List Entry) (commits : List ℕ) : Type 0 where
  pub one_each : length commits ≡ rows
  pub each : (l : ℕ) → l < rows → slice_index commits l ≡ count_of l h
  pub all : sum commits ≡ length h
