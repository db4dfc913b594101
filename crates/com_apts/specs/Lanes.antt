-- What a contract sees of an `Apartments`.
use Rattle.std.specs.Prelude.{◌≡◌, ℕ, ◌+◌, ◌-◌, ◌≤◌, List, [], ◌∷◌, ◌++◌, length, Option, None, Some, Bool}
use Rattle.std.specs.Prelude.{true, false, not, ◌==◌, ◌&&◌, nat_le, nat_lt, if◌then◌else◌, slice_index_or}
use Rattle.std.specs.Prelude.{slice_set}
use Rattle.com_base.specs.declared.value.Mode.{Mode}
use Rattle.com_base.specs.declared.value.Mode.TheVariants.{Sta, Mta}
use Rattle.com_base.specs.declared.apartments.TheConstants.{FIRST_STA, HOST_STA, MTA}
use Rattle.com_base.specs.declared.hresult.HResult.{HResult}
use Rattle.com_base.specs.declared.hresult.TheConstants.HResult.{RPC_E_CHANGED_MODE, S_FALSE, S_OK}
use Rattle.com_apts.specs.declared.Seat.{Seat}

-- the home and the initialisation count of each thread's lane, in order from the lane 1; how many
-- lanes the pool has; and of each single-threaded apartment that a thread made, in order from the
-- number 3, whether it has ended
pub record Lanes : Type 0 where
  pub seats : List Seat
  pub pool : ℕ
  pub ended : List Bool

-- a lane that is not initialised
abbrev pub free_seat : Seat
free_seat = record { home = None; count = 0 }

-- the lane is a thread's
pub record IsThread (t : Lanes) (lane : ℕ) : Type 0 where
  pub from_one : 1 ≤ lane
  pub within : lane ≤ length t.seats

-- the same as a test
abbrev pub is_thread : Lanes → ℕ → Bool
is_thread t lane = nat_lt 0 lane && nat_le lane (length t.seats)

-- what a lane has among these seats of the threads' lanes
abbrev pub seat_at : List Seat → ℕ → Seat
seat_at seats lane = if lane == 0 then free_seat else slice_index_or seats (lane - 1) free_seat

-- what a lane has as a thread's
abbrev pub seat_of : Lanes → ℕ → Seat
seat_of t lane = seat_at t.seats lane

-- the apartment that a lane lives in: a thread's lane where it was initialised, the lane after the
-- threads' in the host's apartment, and the pool's lanes in the multithreaded one
abbrev pub home_of : Lanes → ℕ → Option ℕ
home_of t lane =
    if nat_le lane (length t.seats) then (seat_of t lane).home
    else if lane == length t.seats + 1 then Some HOST_STA
    else if nat_le lane (length t.seats + 1 + t.pool) then Some MTA
    else None

-- how often a lane is initialised
abbrev pub count_of : Lanes → ℕ → ℕ
count_of t lane = (seat_of t lane).count

-- the apartment was made by a thread and has ended
abbrev pub is_ended : Lanes → ℕ → Bool
is_ended t apartment = nat_le FIRST_STA apartment && slice_index_or t.ended (apartment - FIRST_STA) false

-- how many of the first apartments have all ended
abbrev pub ended_first : List Bool → ℕ
ended_first [] = 0
ended_first (is_over ∷ rest) = if is_over then ended_first rest + 1 else 0

-- the oldest apartment made by a thread that has not ended, and the host's where there is none
abbrev pub main_sta_of : Lanes → ℕ
main_sta_of t =
    if nat_lt (ended_first t.ended) (length t.ended) then ended_first t.ended + FIRST_STA else HOST_STA

-- the mode of a home
abbrev pub is_in_mode : Mode → ℕ → Bool
is_in_mode Mta home = home == MTA
is_in_mode Sta home = not (home == MTA)

-- an `init` of a lane of this home succeeds
abbrev pub init_succeeds : Option ℕ → Mode → Bool
init_succeeds None mode = true
init_succeeds (Some home) mode = is_in_mode mode home

-- what `init` answers a lane of this home
abbrev pub init_answer : Option ℕ → Mode → HResult
init_answer None mode = S_OK
init_answer (Some home) mode =
    if is_in_mode mode home then S_FALSE else RPC_E_CHANGED_MODE

-- the lane has this instead
abbrev pub with_seat : Lanes → ℕ → Seat → Lanes
with_seat t lane seat = record t { seats = slice_set t.seats (lane - 1) seat }

-- the home that an `init` gives a lane that has none
abbrev pub home_in : Mode → List Bool → ℕ
home_in Mta ended = MTA
home_in Sta ended = length ended + FIRST_STA

-- the apartments made by threads after that `init`
abbrev pub ended_in : Mode → List Bool → List Bool
ended_in Mta ended = ended
ended_in Sta ended = ended ++ false ∷ []

-- the lanes after an `init` of a lane that has this home
abbrev pub after_init_at : Option ℕ → Mode → Lanes → ℕ → Lanes
after_init_at None mode t lane = record {
  seats = slice_set t.seats (lane - 1) (record {
    home = Some (home_in mode t.ended);
    count = count_of t lane + 1;
  });
  pool = t.pool;
  ended = ended_in mode t.ended;
}
after_init_at (Some home) mode t lane =
    if is_in_mode mode home
    then with_seat t lane (record { home = Some home; count = count_of t lane + 1 })
    else t

-- the lanes after an `init` of a thread's lane
abbrev pub after_init : Lanes → ℕ → Mode → Lanes
after_init t lane mode = after_init_at (seat_of t lane).home mode t lane

-- the single-threaded apartment of a thread, where this is its home
abbrev pub sta_of : Option ℕ → Option ℕ
sta_of None = None
sta_of (Some home) = if nat_le FIRST_STA home then Some home else None

-- the apartment that an `uninit` of a thread's lane ends
abbrev pub ended_by_uninit : Lanes → ℕ → Option ℕ
ended_by_uninit t lane = if count_of t lane == 1 then sta_of (seat_of t lane).home else None

-- this apartment has ended
abbrev pub with_ended : Option ℕ → List Bool → List Bool
with_ended None ended = ended
with_ended (Some sta) ended = slice_set ended (sta - FIRST_STA) true

-- the lanes after an `uninit` of a thread's lane
abbrev pub after_uninit : Lanes → ℕ → Lanes
after_uninit t lane =
    if count_of t lane == 0 then t
    else if count_of t lane == 1 then record {
      seats = slice_set t.seats (lane - 1) free_seat;
      pool = t.pool;
      ended = with_ended (sta_of (seat_of t lane).home) t.ended;
    }
    else with_seat t lane (record { home = (seat_of t lane).home; count = count_of t lane - 1 })

-- one call of a thread's lane
pub data Step : Type 0 where
  Init : (lane : ℕ) (mode : Mode) → Step
  Uninit : (lane : ℕ) → Step

-- the lanes after one call; a call of another lane than a thread's is not made
abbrev pub after_step : Lanes → Step → Lanes
after_step t (Init lane mode) = if is_thread t lane then after_init t lane mode else t
after_step t (Uninit lane) = if is_thread t lane then after_uninit t lane else t

-- the lanes after a list of calls, the newest first
abbrev pub after_steps : Lanes → List Step → Lanes
after_steps t [] = t
after_steps t (step ∷ steps) = after_step (after_steps t steps) step

-- 1 where the call is an `init` of this lane that succeeds
abbrev pub success : Lanes → ℕ → Step → ℕ
success t lane (Init other mode) =
    if init_succeeds (seat_of t other).home mode && other == lane then 1 else 0
success t lane (Uninit other) = 0

-- 1 where the call is an `uninit` of this lane that undoes an `init`
abbrev pub undoing : Lanes → ℕ → Step → ℕ
undoing t lane (Init other mode) = 0
undoing t lane (Uninit other) = if nat_lt 0 (count_of t other) && other == lane then 1 else 0

-- how many calls of `init` of this lane succeeded
abbrev pub successes : Lanes → ℕ → List Step → ℕ
successes t lane [] = 0
successes t lane (step ∷ steps) =
    successes t lane steps + success (after_steps t steps) lane step

-- how many calls of `uninit` of this lane undid one
abbrev pub undoings : Lanes → ℕ → List Step → ℕ
undoings t lane [] = 0
undoings t lane (step ∷ steps) =
    undoings t lane steps + undoing (after_steps t steps) lane step

-- whatever is called, a thread's lane is initialised as often as an `init` succeeded and no `uninit`
-- undid it, and it has a home exactly as long as it is initialised
pub record IsBalanced (t : Lanes) (steps : List Step) (lane : ℕ) : Type 0 where
  pub counted : count_of (after_steps t steps) lane + undoings t lane steps ≡ successes t lane steps
  pub housed : (count_of (after_steps t steps) lane ≡ 0) → home_of (after_steps t steps) lane ≡ None
  pub unhoused : (home_of (after_steps t steps) lane ≡ None) → count_of (after_steps t steps) lane ≡ 0
