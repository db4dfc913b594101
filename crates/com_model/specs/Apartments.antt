-- Apartments: the homes of lanes, the STAs that threads make, and which lane serves which apartment.
--
-- a0 is the neutral apartment (NTA), a1 the multithreaded one (MTA), a2 the host STA. These live for the
-- whole run. The STAs that threads make are numbered from 3 on, in order of making. Source: CoInitializeEx,
-- and the documentation of apartments.
use Rattle.std.specs.Prelude.{ℕ, zero, suc, ◌+◌, Bool, true, false, not, ◌==◌, ◌||◌, ◌&&◌, nat_le}
use Rattle.std.specs.Prelude.{if◌then◌else◌, List, [], ◌∷◌, ◌++◌, Option, Some, None, length, filter}
use Rattle.com_base.specs.declared.apartments.TheConstants.{NEUTRAL, MTA, HOST_STA, FIRST_STA}
use Rattle.com_base.specs.declared.hresult.HResult.{HResult}
use Rattle.com_base.specs.declared.value.Mode.TheVariants as mode
use Rattle.com_model.specs.declared.deeds.Deed.{Deed}
use Rattle.com_model.specs.declared.deeds.Deed.TheVariants as deed
use Rattle.com_model.specs.declared.deeds.Entry.{Entry}
use Rattle.com_model.specs.declared.scenario.Scenario.{Scenario}
use Rattle.com_model.specs.Answers.{is_S_OK, is_failure}
use Rattle.com_model.specs.Lists.{or_else, first, is_number, where_true}
use Rattle.com_model.specs.Tables.{LaneSort, Thread, Host, Pool, NoLane, lane_sort}
use Rattle.com_model.specs.Openers.{openers, entered_apartment}

-- The neutral apartment (NTA), a0.
abbrev pub neutral : ℕ
neutral = NEUTRAL

-- The multithreaded apartment (MTA), a1: the home of the pool lanes, and of threads that ask for it at Init.
abbrev pub mta : ℕ
mta = MTA

-- The host STA, a2: the home of the host lane, and of no thread.
abbrev pub host_sta : ℕ
host_sta = HOST_STA

-- Whether an apartment is single-threaded: the host STA and all that are numbered above it.
abbrev pub is_sta : ℕ → Bool
is_sta a = nat_le host_sta a

-- What a deed does to the initialisation of its lane. An Init entry names the home after it, also where it is
-- refused; an Uninit entry the home before it and the count after it.
pub data HomeEffect : Type 0 where
  Initialises : (home : ℕ) (hr : HResult) → HomeEffect
  Uninitialises : (home : Option ℕ) (count : ℕ) → HomeEffect
  Remains : HomeEffect

-- Of all deeds only Init and Uninit change their lane's initialisation.
abbrev pub home_effect : Deed → HomeEffect
home_effect (deed.Init m home hr) = Initialises home hr
home_effect (deed.Uninit home count) = Uninitialises home count
home_effect _ = Remains

-- An entry leaves the initialisation of every other lane.
abbrev pub home_effect_on : ℕ → Entry → HomeEffect
home_effect_on l e = if e.lane == l then home_effect e.deed else Remains

-- A thread's home is none at first and after an Uninit with count 0, else the home in its last Init or Uninit
-- entry.
abbrev pub home_after : HomeEffect → Option ℕ → Option ℕ
home_after (Initialises a hr) home = Some a
home_after (Uninitialises a zero) home = None
home_after (Uninitialises a (suc n)) home = a
home_after Remains home = home

-- The home that a lane's own Init and Uninit entries give it: None where it is not initialised.
abbrev pub thread_home : List Entry → ℕ → Option ℕ
thread_home [] l = None
thread_home (e ∷ h) l = home_after (home_effect_on l e) (thread_home h l)

-- The host lane's home is the host STA, and a pool lane's is the MTA.
abbrev pub home_by_sort : LaneSort → Option ℕ → Option ℕ
home_by_sort Thread home = home
home_by_sort Host home = Some host_sta
home_by_sort Pool home = Some mta
home_by_sort NoLane home = None

-- The home of a lane: None for a thread that is not initialised, for lane 0, and for what is no lane.
abbrev pub home : Scenario → List Entry → ℕ → Option ℕ
home s h l = home_by_sort (lane_sort s l) (thread_home h l)

-- The running apartment of a lane is the one that its last open Enter names, else its home.
abbrev pub running : Scenario → List Entry → ℕ → Option ℕ
running s h l = or_else (entered_apartment (openers h l)) (home s h l)

-- Each success of Init, S_OK or S_FALSE, raises the lane's count by one; a refusal leaves it.
abbrev pub count_after : HomeEffect → ℕ → ℕ
count_after (Initialises a hr) n = if is_failure hr then n else n + 1
count_after (Uninitialises a count) n = count
count_after Remains n = n

-- How many initialisations of a lane still stand: each Uninit entry tells what is left of them.
abbrev pub init_count : List Entry → ℕ → ℕ
init_count [] l = 0
init_count (e ∷ h) l = count_after (home_effect_on l e) (init_count h l)

-- The STA that a deed makes: the home of an Init sta that answers S_OK.
abbrev pub makes_sta : Deed → Option ℕ
makes_sta (deed.Init mode.Sta a hr) = where_true (is_S_OK hr) a
makes_sta _ = None

-- The STA that a deed ends: the home of an Uninit whose count reaches 0.
abbrev pub ends_sta : Deed → Option ℕ
ends_sta (deed.Uninit (Some a) zero) = where_true (is_sta a) a
ends_sta _ = None

-- The list with the number behind it, where there is one.
abbrev pub with_last : List ℕ → Option ℕ → List ℕ
with_last xs None = xs
with_last xs (Some x) = xs ++ x ∷ []

-- The STAs that threads made, the oldest first.
abbrev pub stas : List Entry → List ℕ
stas [] = []
stas (e ∷ h) = with_last (stas h) (makes_sta e.deed)

-- The number of the STA that a thread makes next, from `FIRST_STA` on. An STA that ended keeps its number.
abbrev pub next_sta : List Entry → ℕ
next_sta h = length (stas h) + FIRST_STA

-- Apartments are numbered below this.
abbrev pub apartments : List Entry → ℕ
apartments h = next_sta h

-- Whether an STA has ended: an Uninit of its thread left no initialisation. No other apartment ends.
abbrev pub ended : List Entry → ℕ → Bool
ended [] a = false
ended (e ∷ h) a = is_number a (ends_sta e.deed) || ended h a

-- The STA that is given, or the host STA where none is.
abbrev pub or_host : Option ℕ → ℕ
or_host None = host_sta
or_host (Some a) = a

-- The main STA is the oldest one made by a thread that has not ended, else the host STA.
abbrev pub main_sta : List Entry → ℕ
main_sta h = or_host (first (filter (λ a. not (ended h a)) (stas h)))

-- Whether the lane made the STA by one of its Init entries. It stays so when the STA has ended.
abbrev pub made_in : List Entry → ℕ → ℕ → Bool
made_in [] l a = false
made_in (e ∷ h) l a = (e.lane == l && is_number a (makes_sta e.deed)) || made_in h l a

-- A thread's lane serves the STAs that it made, ended ones too; the host lane the host STA; each pool lane
-- the NTA and the MTA.
abbrev pub serves_by_sort : LaneSort → Bool → ℕ → Bool
serves_by_sort Thread made a = made
serves_by_sort Host made a = a == host_sta
serves_by_sort Pool made a = nat_le a mta
serves_by_sort NoLane made a = false

-- Whether a lane serves an apartment: the Final of an object is made in a lane that serves the apartment
-- which its making names.
abbrev pub serves : Scenario → List Entry → ℕ → ℕ → Bool
serves s h l a = serves_by_sort (lane_sort s l) (made_in h l a) a

-- A lane is over where it has made End.
abbrev pub is_end : Deed → Bool
is_end deed.End = true
is_end _ = false

-- Whether a thread's lane has made its End, and has nothing more of its script to do.
abbrev pub over : List Entry → ℕ → Bool
over [] l = false
over (e ∷ h) l = (e.lane == l && is_end e.deed) || over h l
