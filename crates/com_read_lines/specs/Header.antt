-- The header's words.
use Rattle.std.specs.Prelude.{ℕ, List, Option, Some, None, Result, Ok, Err, not, if◌then◌else◌}
use Rattle.std.specs.Prelude.{codes, unwrap_or}
use Rattle.std.specs.Str.{bytes_eq}
use Rattle.com_text.specs.declared.word.Sort.{Sort}
use Rattle.com_text.specs.declared.word.Sort.TheVariants as sorts
use Rattle.com_text.specs.Words.{WordAt}
use Rattle.com_read_operands.specs.declared.faults.Fault.{Fault}
use Rattle.com_read_operands.specs.declared.faults.TheConstants.Fault.{HEADER}
use Rattle.com_read_operands.specs.Reading.{◌>>=◌, fault_at, end_at}
use Rattle.com_read_lines.specs.Codes.{first_position}

-- The version that the header's second word names, 1 or 2; None for every other word.
abbrev pub version_of : List ℕ → Option ℕ
version_of bytes =
    if bytes_eq bytes (codes "1") then Some 1 else (if bytes_eq bytes (codes "2") then Some 2 else None)

-- One word alone: `scenario` lacks its version, which is the fault at the text's first position; another word
-- is at fault itself, and an earlier fault comes first.
abbrev pub lone_fault : Option Fault → WordAt → Fault
lone_fault pending w =
    if bytes_eq w.bytes (codes "scenario") then first_position else unwrap_or pending (fault_at HEADER w)

-- The version that the second word names, behind which the line has to end; a word that names none is at fault.
abbrev pub ended : List WordAt → WordAt → Option ℕ → Result ℕ Fault
ended line two None = Err (fault_at HEADER two)
ended line two (Some v) = end_at line 2 >>= λ done. Ok v

-- The version, or the first fault: an earlier one, a first word other than `scenario`, or what stands behind it.
abbrev pub compared : List WordAt → WordAt → WordAt → Option Fault → Result ℕ Fault
compared line one two (Some f) = Err f
compared line one two None =
    if not (bytes_eq one.bytes (codes "scenario")) then Err (fault_at HEADER one)
    else ended line two (version_of two.bytes)

-- The version by the sort of the second word: a comment there leaves the first word alone on its line.
abbrev pub version_by : Option Fault → List WordAt → WordAt → WordAt → Sort → Result ℕ Fault
version_by pending line one two (sorts.Remark c) = Err (lone_fault pending one)
version_by pending line one two _ = compared line one two pending

-- the version that the first two words name; an earlier fault comes first
unfoldable pub version_at : Option Fault → List WordAt → WordAt → WordAt → Result ℕ Fault
version_at pending line one two = version_by pending line one two two.sort

-- The fault that is kept above the header: the pending one where there is one, since it is the earlier.
abbrev pub earlier : Option Fault → Fault → Option Fault
earlier None f = Some f
earlier (Some e) f = Some e
