-- What an `Apartments` keeps beside what contracts see. No public clause cites this module.
use Rattle.std.specs.Prelude.{◌≡◌, ℕ, ◌+◌, ◌<◌, ◌≤◌, ◌^◌, List, length, Some, Bool, slice_index_or}
use Rattle.com_apts.specs.declared.Seat.{Seat}
use Rattle.com_apts.specs.Lanes.{free_seat, ended_first}

-- the oldest apartment that has not ended is known, each home of a thread was made, and there are so
-- few that the next has a number
pub record IsKept (seats : List Seat) (ended : List Bool) (oldest : ℕ) : Type 0 where
  pub oldest_is : oldest ≡ ended_first ended
  pub made : (index home : ℕ)
      → (slice_index_or seats index free_seat).home ≡ Some home → home < length ended + 3
  pub numbered : length ended + 3 ≤ 2 ^ 32
