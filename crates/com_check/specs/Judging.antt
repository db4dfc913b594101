-- What is answered for a trace, and when.
use Rattle.std.specs.Prelude.{◌≡◌, ◌≢◌, ℕ, ◌+◌, ◌-◌, ◌<◌, ◌⊎◌, ⊤, true, if◌then◌else◌, List, [], ◌∷◌, ◌++◌, length, take}
use Rattle.std.specs.Prelude.{Option, Some, None, is_some, option_map, option_and_then, codes, decimal}
use Rattle.com_model.specs.declared.deeds.Entry.{Entry}
use Rattle.com_model.specs.declared.scenario.Scenario.{Scenario}
use Rattle.com_model.specs.Ends.{Turn, ended_as, last_after, limit, report, turn}
use Rattle.com_model.specs.Lists.{first}
use Rattle.com_model.specs.Rules.{legal, next}
use Rattle.com_model.specs.Sight.{sight}
use Rattle.com_model.specs.Text.{deed_line}
use Rattle.com_check.specs.declared.judged.Judged.{Judged}
use Rattle.com_check.specs.declared.judged.Judged.TheVariants as judged
use Rattle.com_check.specs.Fronts.{named}
use Rattle.com_check.specs.Lines.{lines_of}

-- What is printed for a trace.
abbrev pub judged_text : Judged → List ℕ
judged_text judged.Agrees = codes "agrees\n"
judged_text (judged.Differs line found legal) =
    codes "differs " ++ decimal line ++ codes "\nfound " ++ found ++ codes "\nlegal " ++ legal ++ codes "\n"

-- A line, or the word for none.
abbrev pub shown : Option (List ℕ) → List ℕ
shown None = codes "none"
shown (Some line) = line

-- ---- lines

-- The line of the entry at a place of a history, without its end.
unfoldable pub entry_line : ℕ → ℕ → Entry → List ℕ
entry_line version place e = deed_line version (decimal place ++ codes " L" ++ decimal e.lane) e.deed

-- A line without its end.
abbrev pub without_end : List ℕ → List ℕ
without_end line = take (length line - 1) line

-- The lines of a history, which is given with its newest entry first.
unfoldable pub history_lines : ℕ → List Entry → List (List ℕ)
history_lines version [] = []
history_lines version (e ∷ older) =
    history_lines version older ++ (entry_line version (length older + 1) e ∷ [])

-- The lines of the report behind a history. There are none where it has not ended.
unfoldable pub report_lines : Scenario → List Entry → List (List ℕ)
report_lines s h = lines_of (report s h)

-- ---- histories, and the only legal line behind one

-- No shorter front of a history had ended: each entry was made behind fewer entries than the limit, which
-- were not finished and not stuck.
abbrev pub Unended : Scenario → List Entry → Type 0
Unended s [] = ⊤
Unended s (e ∷ older) = Unended s older × (length older < limit s) × (ended_as s older ≡ None)

-- The lane of the last entry that was not the clock's, or 0.
abbrev pub last_lane : List Entry → ℕ
last_lane [] = 0
last_lane (e ∷ older) = last_after e.lane (last_lane older)

-- The next entry of a lane, or of the clock as lane 0.
unfoldable pub entry_of : Scenario → List Entry → (lane : ℕ) → Option Entry
entry_of s h l = option_map (λ d. record { lane = l; deed = d }) (next s h l)

abbrev pub lane_of_turn : Option Turn → Option ℕ
lane_of_turn t = option_map (λ t. t.lane) t

-- The lane whose entry is due: the one that the found line names. Where the trace has ended, it is the one
-- whose turn it is by the schedule without picks.
abbrev pub lane_due : Scenario → List Entry → (found : Option (List ℕ)) → Option ℕ
lane_due s h None = lane_of_turn (turn s (sight s h) [] (last_lane h))
lane_due s h (Some line) = named line

-- The only line that may stand behind a history that has not ended: that of the next entry of this lane, if
-- it has one.
unfoldable pub line_due : Scenario → List Entry → (found : Option (List ℕ)) → Option (List ℕ)
line_due s h found =
    option_map (entry_line s.version (length h + 1)) (option_and_then (entry_of s h) (lane_due s h found))

-- The only line that may stand behind a history, and behind the lines of its report but for those that are
-- left. Behind the report there is none.
abbrev pub legal_line : Scenario → List Entry → (left : List (List ℕ)) → (found : Option (List ℕ))
    → Option (List ℕ)
legal_line s h left found = if is_some (ended_as s h) then first left else line_due s h found

-- ---- the answer

-- The trace is, line by line, the text of a legal history that has ended, and its report.
pub record IsText (s : Scenario) (trace : List ℕ) : Type 0 where
  pub history : List Entry
  pub lawful : legal s history
  pub unended : Unended s history
  pub ends : is_some (ended_as s history) ≡ true
  pub lines : lines_of trace ≡ history_lines s.version history ++ report_lines s history

-- A text is another one, whose last line end it may lack.
abbrev pub IsUpToEnd : (trace whole : List ℕ) → Type 0
IsUpToEnd trace whole = (trace ≡ whole) ⊎ (trace ++ codes "\n" ≡ whole)

-- The lines are those of a legal history, and first lines of its report.
pub record Begins (s : Scenario) (lines : List (List ℕ)) : Type 0 where
  pub history : List Entry
  pub lawful : legal s history
  pub unended : Unended s history
  pub told : List (List ℕ)
  pub left : List (List ℕ)
  pub report : report_lines s history ≡ told ++ left
  pub are : lines ≡ history_lines s.version history ++ told

-- The first line that differs: those before it are lines of a legal history and its report; what stands in
-- its place is not the only line that may stand there.
pub record Differs (s : Scenario) (trace : List ℕ) (line : ℕ) (found legal : List ℕ) : Type 0 where
  pub before : List (List ℕ)
  pub rest : List (List ℕ)
  pub parts : lines_of trace ≡ before ++ rest
  pub place : line ≡ length before + 1
  pub begins : Begins s before
  pub differ : first rest ≢ legal_line s begins.history begins.left (first rest)
  pub found_is : found ≡ shown (first rest)
  pub legal_is : legal ≡ shown (legal_line s begins.history begins.left (first rest))

-- The verdict on a trace: it agrees where it is the text and the report of a history, and else it is the first
-- line that differs.
abbrev pub IsJudged : Scenario → (trace : List ℕ) → Judged → Type 0
IsJudged s trace judged.Agrees = IsText s trace
IsJudged s trace (judged.Differs line found legal) = Differs s trace line found legal
