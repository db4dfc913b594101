-- The header.
use Rattle.std.specs.Prelude.{List, [], ◌∷◌, Option, Result, Ok, Err}
use Rattle.com_text.specs.declared.word.Sort.{Sort}
use Rattle.com_text.specs.declared.word.Sort.TheVariants as sorts
use Rattle.com_text.specs.Words.{WordAt}
use Rattle.com_read_operands.specs.declared.faults.Fault.{Fault}
use Rattle.com_read_operands.specs.Reading.{◌>>=◌, character_at}
use Rattle.com_read_lines.specs.Header.{lone_fault, version_at, earlier}
use Rattle.com_read_sections.specs.declared.state.State.{State}
use Rattle.com_read_sections.specs.declared.state.Section.TheVariants as sections

-- A line of one word where the header is awaited. A byte outside the characters in a comment is a fault that is
-- kept, if none is kept yet; any other word is at fault at once.
abbrev pub lone : State → Option Fault → WordAt → Sort → Result State Fault
lone st pending w (sorts.Remark c) =
    Ok (record st { section = sections.Header (earlier pending (character_at w c)) })
lone st pending w _ = Err (lone_fault pending w)

-- A line where the header is awaited, below comments of which the first that was at fault is kept. It does
-- not count before a lone `scenario`.
unfoldable pub header_line : State → Option Fault → List WordAt → Result State Fault
header_line st pending [] = Ok (record st { section = sections.Header pending })
header_line st pending (w ∷ []) = lone st pending w w.sort
header_line st pending (one ∷ two ∷ ws) = do
  v ← version_at pending (one ∷ two ∷ ws) one two
  Ok (record st { version = v; section = sections.Top })
