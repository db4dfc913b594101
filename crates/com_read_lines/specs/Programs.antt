-- The statements of bodies and scripts.
use Rattle.std.specs.Prelude.{ℕ, List, length, Option, Some, None, Result, Ok, Err, nat_le, if◌then◌else◌}
use Rattle.std.specs.Prelude.{slice_get}
use Rattle.com_text.specs.Words.{WordAt}
use Rattle.com_read_operands.specs.declared.faults.Fault.{Fault}
use Rattle.com_read_operands.specs.declared.faults.TheConstants.Fault.{LIMIT, UNENDED, UNEXPECTED}
use Rattle.com_read_operands.specs.Reading.{◌>>=◌, fault_at}
use Rattle.com_read_statements.specs.declared.keywords.Program.{Program}
use Rattle.com_read_statements.specs.declared.keywords.LocalWord.TheVariants as locals
use Rattle.com_read_statements.specs.declared.keywords.Keyword.{Keyword}
use Rattle.com_read_statements.specs.declared.keywords.Keyword.TheVariants as keywords
use Rattle.com_read_statements.specs.declared.names.Names.{Names}
use Rattle.com_read_statements.specs.Keywords.{keyword_of, takes}
use Rattle.com_read_statements.specs.Statements.{stmt_of}
use Rattle.com_read_lines.specs.Codes.{CodeAt, code_more, first_position}

-- the index of a skip's number in its line: 1 behind `skip`, 2 behind `skipz` and its register; 0 for other statements
abbrev pub number_index : Keyword → ℕ
number_index (keywords.Local locals.Skip) = 1
number_index (keywords.Local locals.SkipZero) = 2
number_index _ = 0

-- fault `UNENDED` at the number of a skip that passes the end, and the first position where the line has no such word
abbrev pub skip_fault : Option WordAt → Fault
skip_fault None = first_position
skip_fault (Some w) = fault_at UNENDED w

-- the fault that a statement is where its skip passes the end
abbrev pub spot_at : Keyword → List WordAt → Fault
spot_at k line = skip_fault (slice_get line (number_index k))

-- one more statement by its keyword; beyond the limit its first word is fault `LIMIT`
abbrev pub stated : Program → ℕ → Names → CodeAt → WordAt → List WordAt → Keyword → Result CodeAt Fault
stated p limit names code w line k =
    if nat_le limit (length code.statements) then Err (fault_at LIMIT w) else (do
      s ← stmt_of p names k line
      Ok (code_more code s (spot_at k line)))

-- one more statement by its first word; a word that begins none of the program is fault `UNEXPECTED`
abbrev pub allowed : Program → ℕ → Names → CodeAt → WordAt → List WordAt → Option Keyword
    → Result CodeAt Fault
allowed p limit names code w line None = Err (fault_at UNEXPECTED w)
allowed p limit names code w line (Some k) =
    if takes p k then stated p limit names code w line k else Err (fault_at UNEXPECTED w)

-- a line of a body or a script that does not end it
unfoldable pub program_line : Program → ℕ → Names → CodeAt → WordAt → List WordAt → Result CodeAt Fault
program_line p limit names code w line = allowed p limit names code w line (keyword_of w.bytes)
