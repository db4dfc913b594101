-- What the command `objref` makes of a text.
use Rattle.std.specs.Prelude.{ℕ, ◌-◌, ◌==◌, List, ◌++◌, true, false, Option, Some, None, Result, Ok, Err}
use Rattle.std.specs.Prelude.{length, not, position, unwrap_or, slice_index, take, codes, decimal}
use Rattle.std.specs.Prelude.{if◌then◌else◌}
use Rattle.std.specs.Int.{to_be_bytes, w32, w64}
use Rattle.std.specs.Char.{is_ascii_hexdigit}
use Rattle.hex.specs.Hex.{encode_lower}
use Rattle.com_base.specs.declared.guid.Guid.{Guid}
use Rattle.com_base.specs.declared.standard.StdFields.{StdFields}
use Rattle.com_base.specs.Guids.{text_of}
use Rattle.com_read_operands.specs.Literals.{unhexed}
use Rattle.objref.specs.declared.decoding.RefFault.{RefFault}
use Rattle.objref.specs.Grammar.{Reference, standard, handler, custom}
use Rattle.objref.specs.Reading.{objref_of, fault}
use Rattle.com_objref.specs.declared.Shown.{Shown}
use Rattle.com_objref.specs.declared.TheConstants.{NO_DIGITS}

-- Numbers in lower-case hexadecimal digits, high digit first.
abbrev pub hex32 : ℕ → List ℕ
hex32 n = encode_lower (to_be_bytes w32 n)

abbrev pub hex64 : ℕ → List ℕ
hex64 n = encode_lower (to_be_bytes w64 n)

-- The lines of the fields that a standard and a handler reference share.
unfoldable pub fields_text : List ℕ → StdFields → ℕ → List ℕ
fields_text front fields flags =
    front ++ codes "iid " ++ text_of fields.iid ++ codes "\nflags " ++ hex32 flags ++ codes "\nrefs "
    ++ decimal fields.refs
    ++ codes "\noxid " ++ hex64 fields.oxid ++ codes "\noid " ++ hex64 fields.oid ++ codes "\nipid "
    ++ text_of fields.ipid ++ codes "\n"

unfoldable pub strings_text : List ℕ → ℕ → ℕ → List ℕ
strings_text front entries security =
    front ++ codes "entries " ++ decimal entries ++ codes " security " ++ decimal security ++ codes "\n"

unfoldable pub custom_text : Guid → Guid → ℕ → ℕ → List ℕ
custom_text iid clsid extension data_length =
    codes "kind custom\niid " ++ text_of iid ++ codes "\nclsid " ++ text_of clsid ++ codes "\nextension "
    ++ decimal extension
    ++ codes "\ndata " ++ decimal data_length ++ codes "\n"

-- The lines of what an OBJREF says.
abbrev pub described : Reference → List ℕ
described (standard fields flags s) =
    strings_text (fields_text (codes "kind standard\n") fields flags) s.entries s.security
described (handler fields flags clsid s) =
    strings_text (fields_text (codes "kind handler\n") fields flags ++ codes "clsid " ++ text_of clsid
    ++ codes "\n") s.entries s.security
described (custom iid clsid extension unread payload) = custom_text iid clsid extension (length payload)

-- The line of a fault.
unfoldable pub fault_text : RefFault → List ℕ
fault_text f = codes "fault " ++ decimal f.number ++ codes " " ++ decimal f.at ++ codes "\n"

-- A text without a line end at its very end.
abbrev pub without_newline : List ℕ → List ℕ
without_newline text = if slice_index text (length text - 1) == 10 then take (length text - 1) text else text

-- Where the text stops being pairs of digits: the first character that is no digit, or the end.
abbrev pub wrong_position : List ℕ → ℕ
wrong_position digits = unwrap_or (position (λ b. not (is_ascii_hexdigit b)) digits) (length digits)

-- What digits say: bytes, which are read, or the fault NO_DIGITS of the text, where it is wrong.
abbrev pub read_bytes : List ℕ → Option (List ℕ) → Result Reference RefFault
read_bytes digits (Some bytes) = objref_of bytes
read_bytes digits None = Err (fault NO_DIGITS (wrong_position digits))

abbrev pub read_digits : List ℕ → Result Reference RefFault
read_digits digits = read_bytes digits (unhexed digits)

abbrev pub shown_as : Result Reference RefFault → Shown
shown_as (Ok r) = record { is_found = true; text = described r }
shown_as (Err f) = record { is_found = false; text = fault_text f }

-- What is shown of a text.
unfoldable pub shown_of : List ℕ → Shown
shown_of text = shown_as (read_digits (without_newline text))
