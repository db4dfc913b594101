-- What the steps of a judge find, by the tables of a runtime.
use Rattle.std.specs.Prelude.{◌≡◌, ◌≢◌, ℕ, ◌+◌, Bool, true, false, List, [], ◌++◌, length, Option, Some, None}
use Rattle.std.specs.Prelude.{option_map}
use Rattle.std.specs.Prelude.{option_and_then}
use Rattle.com_model.specs.declared.counts.Ended.{Ended}
use Rattle.com_model.specs.declared.deeds.Entry.{Entry}
use Rattle.com_model.specs.declared.scenario.Scenario.{Scenario}
use Rattle.com_model.specs.Ends.{last_after}
use Rattle.com_model.specs.Lists.{first}
use Rattle.com_model.specs.State.{State, next_of}
use Rattle.com_model.specs.Text.{report_text}
use Rattle.com_runtime.specs.Reports.{all_counts_in}
use Rattle.com_runtime.specs.Standings.{ended_now, turn_now}
use Rattle.com_runtime.specs.Turns.{IsNext}
use Rattle.com_check.specs.declared.judged.Judged.{Judged}
use Rattle.com_check.specs.declared.judged.Judged.TheVariants as judged
use Rattle.com_check.specs.Fronts.{named}
use Rattle.com_check.specs.Judging.{entry_line, lane_of_turn, shown}
use Rattle.com_check.specs.Lines.{lines_of}

-- ---- the only legal line, by the tables

unfoldable pub entry_in : Scenario → State → (lane : ℕ) → Option Entry
entry_in s st l = option_map (λ d. record { lane = l; deed = d }) (next_of s st l)

abbrev pub lane_in : Scenario → State → (last : ℕ) → (found : Option (List ℕ)) → Option ℕ
lane_in s st last None = lane_of_turn (turn_now s st [] last)
lane_in s st last (Some line) = named line

unfoldable pub line_in : Scenario → State → (last : ℕ) → (found : Option (List ℕ)) → Option (List ℕ)
line_in s st last found =
    option_map (entry_line s.version (st.entries + 1))
    (option_and_then (entry_in s st) (lane_in s st last found))

-- ---- entries

-- The next entry of a lane was made. Or nothing has changed, and the lane has none, where the history goes on.
abbrev pub IsNextOf : Scenario → State → (lane : ℕ) → (made : Bool) → Entry → State → Type 0
IsNextOf s st l true e new = (ended_now s st ≡ None) × IsNext s st l e new
IsNextOf s st l false e new = (new ≡ st) × (ended_now s st ≡ None → entry_in s st l ≡ None)

-- The entry was made whose turn it is by the schedule without picks.
pub record IsScheduled (s : Scenario) (st : State) (last : ℕ) (e : Entry) (new : State) : Type 0 where
  pub turn : lane_of_turn (turn_now s st [] last) ≡ Some e.lane
  pub next : IsNext s st e.lane e new

-- ---- lines

-- The found line is that of the next entry of the lane that it names, which was made.
pub record IsEntry (s : Scenario) (st : State) (last : ℕ) (found : List ℕ) (new : State) (last_new : ℕ)
    : Type 0 where
  pub entry : Entry
  pub next : IsNext s st entry.lane entry new
  pub line : found ≡ entry_line s.version (st.entries + 1) entry
  pub follows : last_new ≡ last_after entry.lane last

-- The only legal line is another one, or there is none.
pub record IsOther (s : Scenario) (st : State) (last : ℕ) (found : Option (List ℕ)) (j : Judged)
    : Type 0 where
  pub answer : j ≡ judged.Differs (st.entries + 1) (shown found) (shown (line_in s st last found))
  pub differ : found ≢ line_in s st last found

-- The found line is that of the lane's entry, and the lane is the last one, if it is not the clock's; or else
-- the line differs.
abbrev pub IsCompared : (lane : ℕ) → (found line : List ℕ) → (last : ℕ) → Bool → (last_new : ℕ) → Type 0
IsCompared lane found line last true last_new = (found ≡ line) × (last_new ≡ last_after lane last)
IsCompared lane found line last false last_new = found ≢ line

-- ---- the report

-- Lines of a report were compared with those that a trace has left, behind so many lines.
pub record DiffersIn (before : ℕ) (report trace : List (List ℕ)) (line : ℕ) (found legal : List ℕ)
    : Type 0 where
  pub front : List (List ℕ)
  pub back : List (List ℕ)
  pub rest : List (List ℕ)
  pub report_is : report ≡ front ++ back
  pub trace_is : trace ≡ front ++ rest
  pub place : line ≡ before + length front + 1
  pub differ : first rest ≢ first back
  pub found_is : found ≡ shown (first rest)
  pub legal_is : legal ≡ shown (first back)

abbrev pub IsReported : ℕ → List (List ℕ) → List (List ℕ) → Judged → Type 0
IsReported before report trace judged.Agrees = report ≡ trace
IsReported before report trace (judged.Differs line found legal) =
    DiffersIn before report trace line found legal

-- What a trace has left was judged beside the report of a runtime whose history has ended so.
abbrev pub IsTold : Scenario → State → Ended → (rest : List ℕ) → Judged → Type 0
IsTold s st x rest j =
    IsReported st.entries (lines_of (report_text (all_counts_in s st) st.entries st.clock x)) (lines_of rest)
    j

-- ---- what a trace has left

-- The next entry of the lane that the found line names was made, and this is its line.
pub record IsWritten (s : Scenario) (st : State) (found : List ℕ) (lane : ℕ) (new : State) (line : List ℕ)
    : Type 0 where
  pub goes_on : ended_now s st ≡ None
  pub names : named found ≡ Some lane
  pub entry : Entry
  pub next : IsNext s st lane entry new
  pub line_is : line ≡ entry_line s.version (st.entries + 1) entry

-- A found line names no lane that has a next entry, where the history goes on.
pub record NamesNone (s : Scenario) (st : State) (found : List ℕ) : Type 0 where
  pub none : ended_now s st ≡ None → (lane : ℕ) → named found ≡ Some lane → entry_in s st lane ≡ None

-- The lane that a found line names made its entry, whose line was written. Or nothing has changed, and it names none
-- that has one.
abbrev pub IsTried : Scenario → State → (found : List ℕ) → (lane : Option ℕ) → State → (line : List ℕ) → Type 0
IsTried s st found None new line = (new ≡ st) × NamesNone s st found
IsTried s st found (Some lane) new line = IsWritten s st found lane new line

-- What a trace has left was judged beside the report, where the history has ended so, or its first line in the
-- place of an entry.
abbrev pub IsLast : Scenario → State → (last : ℕ) → (rest : List ℕ) → (found : Option (List ℕ))
    → Option Ended → Judged → Type 0
IsLast s st last rest found None j = IsOther s st last found j
IsLast s st last rest found (Some x) j = IsTold s st x rest j
