-- GUIDs, and bytes in hexadecimal digits.
use Rattle.std.specs.Prelude.{ℕ, ◌%◌, List, length, Option, Some, None, Result, Ok, Err, Bool, ◌&&◌, ◌==◌}
use Rattle.std.specs.Prelude.{if◌then◌else◌, option_and_then}
use Rattle.std.specs.List.{list_all}
use Rattle.std.specs.Char.{is_ascii, is_ascii_hexdigit}
use Rattle.hex.specs.Hex.{decode_of}
use Rattle.hex.specs.declared.error.FromHexError.{FromHexError}
use Rattle.com_base.specs.declared.guid.Guid.{Guid}
use Rattle.com_base.specs.Guids.{guid_of_text}
use Rattle.com_text.specs.Words.{WordAt}
use Rattle.com_read_operands.specs.declared.faults.Fault.{Fault}
use Rattle.com_read_operands.specs.declared.faults.TheConstants.Fault.{GUID}
use Rattle.com_read_operands.specs.Reading.{◌>>=◌, word_at, fault_at}

-- bytes that are all ASCII, as a text
abbrev pub ascii_of : List ℕ → Option (List ℕ)
ascii_of bytes = if list_all is_ascii bytes then Some bytes else None

-- the GUID that a word spells
unfoldable pub guid_of : List ℕ → Option Guid
guid_of bytes = option_and_then guid_of_text (ascii_of bytes)

-- the GUID that a word spells, and where it spells none fault `GUID` at the word
abbrev pub as_guid : WordAt → Option Guid → Result Guid Fault
as_guid w None = Err (fault_at GUID w)
as_guid w (Some g) = Ok g

-- where a GUID stands: every other word is fault `GUID`
unfoldable pub guid_at : List WordAt → ℕ → Result Guid Fault
guid_at line k = do
  w ← word_at line k
  as_guid w (guid_of w.bytes)

-- whether bytes are pairs of hexadecimal digits, of either case; an empty list is
abbrev pub are_pairs : List ℕ → Bool
are_pairs digits = (length digits % 2 == 0) && list_all is_ascii_hexdigit digits

-- the bytes that were decoded, and None where the digits spell none
abbrev pub decoded : Result (List ℕ) FromHexError → Option (List ℕ)
decoded (Ok bytes) = Some bytes
decoded (Err e) = None

-- the bytes that pairs of digits spell
abbrev pub unhexed : List ℕ → Option (List ℕ)
unhexed digits = decoded (decode_of digits)
