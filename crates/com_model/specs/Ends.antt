-- How a history ends, the one history of the schedule, and what is printed of it.
use Rattle.std.specs.Prelude.{ℕ, zero, suc, ◌+◌, ◌-◌, Bool, true, false, not, ◌==◌, ◌&&◌, nat_le}
use Rattle.std.specs.Prelude.{if◌then◌else◌, List, [], ◌∷◌, ◌++◌, length, map, Option, Some, None, is_none}
use Rattle.std.specs.Prelude.{option_map, sum_by}
use Rattle.com_base.specs.declared.limits.TheConstants.{ENTRY_1_LIMIT, ENTRY_2_LIMIT}
use Rattle.com_model.specs.declared.deeds.Deed.{Deed}
use Rattle.com_model.specs.declared.deeds.Entry.{Entry}
use Rattle.com_model.specs.declared.scenario.Scenario.{Scenario}
use Rattle.com_model.specs.declared.counts.Counts.{Counts}
use Rattle.com_model.specs.declared.counts.ObjectState.{ObjectState}
use Rattle.com_model.specs.declared.counts.ObjectState.TheVariants as state
use Rattle.com_model.specs.declared.counts.Ended.{Ended}
use Rattle.com_model.specs.declared.counts.Ended.TheVariants as ended
use Rattle.com_refs_books.specs.Counting.{sum_below, numbers_from}
use Rattle.com_model.specs.Lists.{one_to, each_of, first_that, is_empty, or_else}
use Rattle.com_model.specs.Tables.{threads, lanes}
use Rattle.com_model.specs.Apartments.{apartments}
use Rattle.com_model.specs.Objects.{objects, named, class_of, finaled}
use Rattle.com_model.specs.Clock.{clock}
use Rattle.com_model.specs.Text.{history_text, report_text}
use Rattle.com_model.specs.Frames.{scene}
use Rattle.com_model.specs.Places.{ground, direct_places}
use Rattle.com_refs_books.specs.Changes.{Books, in_normal, in_table, in_cookie}
use Rattle.com_model.specs.Books.{books}
use Rattle.com_model.specs.Sight.{Sight, sight}
use Rattle.com_model.specs.Rules.{can_step, no_lane_can, tick_time, next}

-- A history may have 200,000 entries in version 1 and 1,000,000 in version 2.
abbrev pub limit : Scenario → ℕ
limit s = if s.version == 2 then ENTRY_2_LIMIT else ENTRY_1_LIMIT

-- Finished: every thread's lane has End, no lane has an opener, no inbox holds a call, and no object is
-- dying.
abbrev pub finished_by : Scenario → Sight → Bool
finished_by s v =
    each_of v.over (one_to (threads s))
    && (each_of (λ l. is_empty (v.openers l) && is_empty (v.dying l)) (one_to (lanes s))
    && each_of (λ a. is_empty (v.inbox a)) (numbers_from 0 v.next_sta))

-- Stuck: no lane can step, no Tick is due, and it is not finished.
abbrev pub stuck_by : Scenario → Sight → Bool
stuck_by s v = no_lane_can s v && (is_none (tick_time v) && not (finished_by s v))

-- Whether all is done after a history: each thread is over, and nothing is open, posted or dying.
abbrev pub finished : Scenario → List Entry → Bool
finished s h = finished_by s (sight s h)

-- Whether no lane and no Tick can go on after a history, and it is not finished.
abbrev pub stuck : Scenario → List Entry → Bool
stuck s h = stuck_by s (sight s h)

-- How a history within the limit ended, if it did.
abbrev pub ended_by : Scenario → Sight → (entries : ℕ) → Option Ended
ended_by s v n =
    if finished_by s v then Some ended.Ok
    else if stuck_by s v then Some ended.Stuck
    else if n == limit s then Some ended.Budget
    else None

-- How a history ended; None where it goes on, and where it has more entries than its limit.
abbrev pub ended_as : Scenario → List Entry → Option Ended
ended_as s h = if nat_le (length h) (limit s) then ended_by s (sight s h) (length h) else None

-- The schedule. Each number of the picks is tried once, in order: if that lane can step it makes its entry,
-- else the number is passed over. Afterwards the next lane is the first that can step among last + 1 to the
-- highest lane, then 1 to last, where last is the lane of the last entry made by a lane other than 0, or 0. A
-- due Tick is made whenever no lane can step, also before a number of the picks is tried.
pub record Turn : Type 0 where
  pub lane : ℕ
  pub picks : List ℕ

-- Whether a number of the picks is that of a lane which can step; 0, the clock's, never is.
abbrev pub can_pick : Scenario → Sight → ℕ → Bool
can_pick s v l = (nat_le 1 l && nat_le l (lanes s)) && can_step s v l

-- The turn by the picks: the first number whose lane can step, with the numbers behind it still to be tried.
-- None where none of them can.
abbrev pub picked : (can : ℕ → Bool) → List ℕ → Option Turn
picked can [] = None
picked can (l ∷ ls) = if can l then Some (record { lane = l; picks = ls }) else picked can ls

-- All lanes but the clock's in the order of the round: those behind the last one, then from 1 to the last.
abbrev pub lanes_after : Scenario → (last : ℕ) → List ℕ
lanes_after s last = numbers_from (last + 1) (lanes s - last) ++ one_to last

-- The turn by the round: the first lane in its order that can step, with no picks left. None where none can.
abbrev pub in_round : Scenario → Sight → (last : ℕ) → Option Turn
in_round s v last =
    option_map (λ l. record { lane = l; picks = [] }) (first_that (can_step s v) (lanes_after s last))

-- The clock's turn, where a Tick is due: it leaves the picks as they are.
abbrev pub at_clock : Sight → List ℕ → Option Turn
at_clock v picks = option_map (λ t. record { lane = 0; picks = picks }) (tick_time v)

-- Whose turn it is: the clock's if no lane can step, else by the picks, else by the round; None if nobody's.
abbrev pub turn : Scenario → Sight → (picks : List ℕ) → (last : ℕ) → Option Turn
turn s v picks last =
    if no_lane_can s v then at_clock v picks else or_else (picked (can_pick s v) picks) (in_round s v last)

-- The last lane after an entry: the one that made it, and the one before where that was the clock.
abbrev pub last_after : (lane last : ℕ) → ℕ
last_after zero last = last
last_after (suc l) last = suc l

-- One history grows until it has ended, by one entry a turn; so many turns as the limit has entries are
-- enough.
abbrev pub with_entry : (List Entry → List ℕ → ℕ → List Entry) → List Entry → Turn → ℕ → Option Deed
    → List Entry
with_entry go h t last None = h
with_entry go h t last (Some d) = go (record { lane = t.lane; deed = d } ∷ h) t.picks (last_after t.lane last)

-- The history with the entry of the turn, grown on by `go`; without a turn it stays as it is.
abbrev pub with_turn : Scenario → (List Entry → List ℕ → ℕ → List Entry) → List Entry → ℕ → Option Turn
    → List Entry
with_turn s go h last None = h
with_turn s go h last (Some t) = with_entry go h t last (next s h t.lane)

-- A history that has ended, as it is; any other with the entry of the next turn, grown on by `go`.
abbrev pub unless_ended : Scenario → (List Entry → List ℕ → ℕ → List Entry) → List Entry → List ℕ → ℕ
    → Option Ended → List Entry
unless_ended s go h picks last (Some x) = h
unless_ended s go h picks last None = with_turn s go h last (turn s (sight s h) picks last)

-- What a history grows to in at most n turns, from these picks and this last lane on, until it has ended.
abbrev pub run_on : ℕ → Scenario → List Entry → List ℕ → ℕ → List Entry
run_on zero s h picks last = h
run_on (suc n) s h picks last = unless_ended s (run_on n s) h picks last (ended_as s h)

-- The history of a scenario's schedule: from no entry, with all its picks, until it has ended.
abbrev pub scheduled : Scenario → List Entry
scheduled s = run_on (limit s) s [] s.picks 0

-- What a report counts of an object: its direct places, and the public references of proxies, of normal
-- packets, of strong packets and cookies, and of the stub.
abbrev pub state_of : (finaled live : Bool) → ObjectState
state_of true live = state.Released
state_of false true = state.Live
state_of false false = state.Disconnected

-- The sum of a number over all interfaces that are declared.
abbrev pub over_interfaces : Scenario → (ℕ → ℕ) → ℕ
over_interfaces s f = sum_below (length s.classes.interfaces) f

abbrev pub counts_by : Scenario → List Entry → Books → ℕ → Counts
counts_by s h b o = record {
  class = class_of h o;
  owner = named h o;
  state = state_of (finaled h o) (b.live o);
  direct = direct_places s (ground s h) (scene s h) o;
  proxies = sum_below (apartments h) (λ a. over_interfaces s (b.proxy a o));
  packets = sum_by (in_normal o) b.packets;
  tables = sum_by (in_table o) b.packets + sum_by (in_cookie o) b.cookies;
  stub = over_interfaces s (b.stub o);
}

-- What the report says of an object after a history.
abbrev pub counts_of : Scenario → List Entry → ℕ → Counts
counts_of s h o = counts_by s h (books s h) o

-- What is printed: the lines of the history, and behind them, where it has ended, the report, with a line for
-- each object.
abbrev pub text : Scenario → List Entry → List ℕ
text s h = history_text s.version h

-- What the report says of each object after a history, in the order of making.
abbrev pub all_counts : Scenario → List Entry → List Counts
all_counts s h = map (counts_of s h) (one_to (objects h))

-- The report of a history that ended so; where it has not ended, no byte.
abbrev pub report_as : Scenario → List Entry → Option Ended → List ℕ
report_as s h None = []
report_as s h (Some x) = report_text (all_counts s h) (length h) (clock h) x

-- The report of a history; where it has not ended, no byte.
abbrev pub report : Scenario → List Entry → List ℕ
report s h = report_as s h (ended_as s h)
