-- Where a fault of the written text stands in the text itself.
--
-- A fault in a line of the language stands there. Of the lines that a source line stands for, a fault at the
-- class's name or CLSID stands at the name or GUID of the source line, and every other one at its first word.
use Rattle.std.specs.Prelude.{ℕ, ◌-◌, List, [], ◌∷◌, Option, Some, None, Bool, ◌&&◌, ◌==◌, nat_le, nat_lt}
use Rattle.std.specs.Prelude.{if◌then◌else◌, false, slice_get, count_by}
use Rattle.com_text.specs.Words.{WordAt, LineAt}
use Rattle.com_text.specs.Scanning.{lines_of}
use Rattle.com_read_operands.specs.declared.faults.Fault.{Fault}
use Rattle.com_read_operands.specs.declared.faults.TheConstants.Fault.{MISSING, REPEATED}
use Rattle.com_read_operands.specs.Reading.{fault_at}
use Rattle.com_points.specs.declared.source_text.heads.Cut.{Cut}
use Rattle.com_points.specs.declared.source_text.heads.Seen.{Seen}
use Rattle.com_points.specs.declared.source_text.placing.Found.{Found}
use Rattle.com_points.specs.declared.source_text.placing.Found.TheVariants as found
use Rattle.com_points.specs.Heads.{is_source_line, cut_of, nothing_seen, seen_behind, is_taken}
use Rattle.com_points.specs.Writing.{source_text}

abbrev pub lines_in : List ℕ → ℕ
lines_in text = count_by (λ b. b == 10) text

abbrev pub fault_in : ℕ → Option WordAt → Fault
fault_in number None = record { number = number; line = 1; column = 1 }
fault_in number (Some w) = fault_at number w

-- The name of a class begins in column 7, behind `class`.
abbrev pub word_under : (column : ℕ) → ℕ
word_under column = if nat_lt column 7 then 0 else if column == 7 then 1 else 2

-- The lines of the interface, and a class of which nothing but its first word is written.
abbrev pub is_opening : Seen → (line : ℕ) → Bool
is_opening seen line = if is_taken seen then false else if seen.source then false else nat_le line 4

abbrev pub position_in : Seen → List WordAt → Fault → Fault
position_in seen line f =
    fault_in f.number (slice_get line (if is_opening seen f.line then 0 else word_under f.column))

-- The fault of a source line itself: `REPEATED` where the name or the IID of its interface is declared
-- already.
abbrev pub cut_fault : Option Cut → Option Fault
cut_fault None = None
cut_fault (Some cut) = Some cut.fault

abbrev pub own_fault : Seen → List WordAt → Option Fault
own_fault seen line = if is_taken seen then Some (fault_in REPEATED (slice_get line 0)) else cut_fault (cut_of line)

abbrev pub is_same_position : Fault → Fault → Bool
is_same_position f g = (f.line == g.line) && (f.column == g.column)

-- A class whose words end too early is at fault where the source line is, and of two faults at one position
-- the lower number is reported.
abbrev pub first_of : Option Fault → Fault → Fault
first_of None f = f
first_of (Some own) f =
    if f.number == MISSING then own else if is_same_position own f && nat_lt own.number f.number then own else f

abbrev pub source_fault : Seen → List WordAt → Fault → Fault
source_fault seen line f = first_of (own_fault seen line) (position_in seen line f)

-- A fault in a line, counted from this one on, or in a later line, counted from the next one on.
abbrev pub within : (size : ℕ) → Fault → Fault → Found
within size here f =
    if nat_le f.line size then found.Here here else found.Later (record f { line = f.line - size })

unfoldable pub found_in : Seen → List WordAt → (line : ℕ) → Fault → Found
found_in seen words line f =
    if is_source_line words then within (lines_in (source_text seen words)) (source_fault seen words f) f
    else within 1 (record f { line = line }) f

abbrev pub found_or : Found → (Fault → Fault) → Fault
found_or (found.Here f) later = f
found_or (found.Later f) later = later f

abbrev pub placed_on : Seen → List LineAt → Fault → Fault
placed_on seen [] f = f
placed_on seen (l ∷ ls) f =
    found_or (found_in seen l.words l.line f) (λ g. placed_on (seen_behind seen l.words) ls g)

unfoldable pub placed : List ℕ → Fault → Fault
placed text f = placed_on nothing_seen (lines_of text) f
