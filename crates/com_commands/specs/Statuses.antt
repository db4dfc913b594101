-- The exit statuses, what a call sees of its source and its sink, and the lines of refusals.
use Rattle.std.specs.Prelude.{◌≡◌, ℕ, List, [], ◌++◌, ◌⊎◌, ⊤, Option, Some, codes, decimal}
use Rattle.com_io.specs.Faults.{Rose}
use Rattle.com_io.specs.Told.{Gains, GainsPrefix}
use Rattle.com_read_operands.specs.declared.faults.Fault.{Fault}
use Rattle.com_model.specs.declared.counts.Ended.{Ended}
use Rattle.com_model.specs.declared.counts.Ended.TheVariants as ended
use Rattle.com_commands.specs.declared.statuses.TheConstants.{BUDGET_CODE, DIFFERS_CODE, DONE_CODE, MEMORY_CODE}
use Rattle.com_commands.specs.declared.statuses.TheConstants.{READ_FAULT_CODE, REFUSED_CODE, STUCK_CODE, USAGE_CODE}
use Rattle.com_commands.specs.declared.statuses.TheConstants.{WRITE_FAULT_CODE}
use Rattle.com_commands.specs.declared.statuses.Status.{Status}
use Rattle.com_commands.specs.declared.statuses.Status.TheVariants as status

-- The number with which the program exits. 8 is that of no status.
abbrev pub code_of : Status → ℕ
code_of status.Done = DONE_CODE
code_of status.Usage = USAGE_CODE
code_of status.Refused = REFUSED_CODE
code_of status.ReadFault = READ_FAULT_CODE
code_of status.WriteFault = WRITE_FAULT_CODE
code_of status.Stuck = STUCK_CODE
code_of status.Budget = BUDGET_CODE
code_of status.Differs = DIFFERS_CODE
code_of status.Memory = MEMORY_CODE

-- The status of a command whose history has ended so.
abbrev pub status_at : Ended → Status
status_at ended.Ok = status.Done
status_at ended.Stuck = status.Stuck
status_at ended.Budget = status.Budget

-- The statuses that go with a text which was written whole.
abbrev pub Concludes : Status → Type 0
Concludes status.Usage = ⊥
Concludes status.ReadFault = ⊥
Concludes status.WriteFault = ⊥
Concludes status.Memory = ⊥
Concludes _ = ⊤

-- The statuses of the end of a history: 0, 5 and 6.
abbrev pub IsEnd : Status → Type 0
IsEnd status.Done = ⊤
IsEnd status.Stuck = ⊤
IsEnd status.Budget = ⊤
IsEnd _ = ⊥

-- The status of the end of a history goes with a text that was written whole.
pub end_concludes : (x : Ended) → Concludes (status_at x)
end_concludes ended.Ok = tt
end_concludes ended.Stuck = tt
end_concludes ended.Budget = tt

-- ---- lines

abbrev pub read_fault_line : List ℕ
read_fault_line = codes "read fault\n"

-- The line of a text that is too long: at no line and no column, with the number of `Fault.LIMIT`.
abbrev pub too_long_line : List ℕ
too_long_line = codes "refused 0 0 12\n"

-- The line of a text's first fault: its line, its column and its number.
unfoldable pub refused_line : Fault → List ℕ
refused_line fault =
    codes "refused " ++ decimal fault.line ++ codes " " ++ decimal fault.column ++ codes " "
    ++ decimal fault.number ++ codes "\n"

-- ---- source and sink

-- The source and the sink before and after a call: the bytes that are left and held, where they tell them,
-- and their counts of faults.
pub record Sides : Type 0 where
  pub left : Option (List ℕ)
  pub left_after : Option (List ℕ)
  pub read_faults : ℕ
  pub read_faults_after : ℕ
  pub held : Option (List ℕ)
  pub held_after : Option (List ℕ)
  pub write_faults : ℕ
  pub write_faults_after : ℕ

-- They are made of what the source and the sink tell, each before and after the call.
abbrev pub sides_of : {S K : Type 0} (left : S → Option (List ℕ)) (read_faults : S → ℕ)
    (held : K → Option (List ℕ)) (write_faults : K → ℕ) (source source_after : S) (sink sink_after : K)
    → Sides
sides_of left read_faults held write_faults source source_after sink sink_after = record {
  left = left source;
  left_after = left source_after;
  read_faults = read_faults source;
  read_faults_after = read_faults source_after;
  held = held sink;
  held_after = held sink_after;
  write_faults = write_faults sink;
  write_faults_after = write_faults sink_after;
}

-- A command that reads nothing has a source without bytes and without faults.
abbrev pub sides_without_source : {K : Type 0} (held : K → Option (List ℕ)) (write_faults : K → ℕ)
    (sink sink_after : K) → Sides
sides_without_source held write_faults sink sink_after = record {
  left = Some [];
  left_after = Some [];
  read_faults = 0;
  read_faults_after = 0;
  held = held sink;
  held_after = held sink_after;
  write_faults = write_faults sink;
  write_faults_after = write_faults sink_after;
}

-- The source's count rose in this call, and the sink gained the line that says so.
pub record IsReadFault (sides : Sides) : Type 0 where
  pub rose : Rose sides.read_faults sides.read_faults_after
  pub gained : Gains sides.held sides.held_after read_fault_line

-- A line was written and the status is that which goes with it; or the sink's count rose, a prefix of the
-- line was written, and the status is that of a write fault.
abbrev pub Says : Status → Status → List ℕ → Option (List ℕ) → Option (List ℕ) → ℕ → ℕ → Type 0
Says result wanted line held held_after faults faults_after =
    ((result ≡ wanted) × Gains held held_after line)
    ⊎ ((result ≡ status.WriteFault) × Rose faults faults_after × GainsPrefix held held_after line)
