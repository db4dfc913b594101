-- Operands: what a word says by its form alone, and what may stand where.
use Rattle.std.specs.Prelude.{ℕ, ◌+◌, ◌-◌, ◌*◌, ◌^◌, ◌<◌, List, [], ◌∷◌, length, Option, Some, None, Result, Ok}
use Rattle.std.specs.Prelude.{Err, Bool, true, false, not, ◌&&◌, ◌||◌, nat_lt, ◌==◌, if◌then◌else◌}
use Rattle.std.specs.Prelude.{option_and_then, slice_range, codes, ℤ}
use Rattle.std.specs.Str.{bytes_eq}
use Rattle.hex.specs.Hex.{hex_digit_value}
use Rattle.com_base.specs.declared.guid.Guid.{Guid}
use Rattle.com_base.specs.declared.hresult.HResult.{HResult}
use Rattle.com_base.specs.declared.value.Value.{Value}
use Rattle.com_base.specs.declared.value.Value.TheVariants as values
use Rattle.com_base.specs.declared.value.Mode.{Mode}
use Rattle.com_base.specs.declared.value.Mode.TheVariants as modes
use Rattle.com_base.specs.declared.value.MarshalMode.{MarshalMode}
use Rattle.com_base.specs.declared.value.MarshalMode.TheVariants as packets
use Rattle.com_base.specs.declared.limits.TheConstants.{LITERAL_LIMIT}
use Rattle.com_base.specs.HResults.{hresult_named}
use Rattle.com_body.specs.declared.operands.Op.{Op}
use Rattle.com_body.specs.declared.operands.Op.TheVariants as ops
use Rattle.com_body.specs.declared.operands.Place.{Place}
use Rattle.com_body.specs.declared.operands.Place.TheVariants as places
use Rattle.com_body.specs.declared.operands.Code.{Code}
use Rattle.com_body.specs.declared.operands.Code.TheVariants as answers
use Rattle.com_body.specs.declared.operands.Given.{Given}
use Rattle.com_body.specs.declared.operands.Given.TheVariants as gifts
use Rattle.com_text.specs.declared.word.Sort.{Sort}
use Rattle.com_text.specs.declared.word.Sort.TheVariants as sorts
use Rattle.com_text.specs.Words.{WordAt}
use Rattle.com_read_operands.specs.declared.faults.Fault.{Fault}
use Rattle.com_read_operands.specs.declared.faults.TheConstants.Fault.{GUID, LIMIT, NUMBER, UNEXPECTED, UNFIT}
use Rattle.com_base.specs.declared.limits.TheConstants.{BUFFER_COUNT, CELL_COUNT, LINK_COUNT}
use Rattle.com_base.specs.declared.limits.TheConstants.{REGISTER_COUNT, SLOT_COUNT}
use Rattle.com_read_operands.specs.declared.operands.Operand.{Operand}
use Rattle.com_read_operands.specs.declared.operands.Operand.TheVariants as operands
use Rattle.com_read_operands.specs.Numbers.{is_digit, signed_of}
use Rattle.com_read_operands.specs.Reading.{◌>>=◌, fault_at, word_at, stands_at}
use Rattle.com_read_operands.specs.Literals.{ascii_of, guid_of, are_pairs, unhexed}

-- a number below 100 in one or two digits, without a needless zero
unfoldable pub small_of : List ℕ → Option ℕ
small_of [] = None
small_of (a ∷ []) = if is_digit a then Some (a - 48) else None
small_of (a ∷ b ∷ []) =
    if is_digit a && not (a == 48) && is_digit b then Some (10 * (a - 48) + (b - 48)) else None
small_of (a ∷ b ∷ c ∷ bs) = None

-- a letter and a number: a register, a slot, a cell, a link or a buffer, where there is one with this number
abbrev pub lettered_by : ℕ → ℕ → Operand
lettered_by letter n =
    if letter == 114 && nat_lt n REGISTER_COUNT then operands.Register n
    else (if letter == 115 && nat_lt n SLOT_COUNT then operands.Slot n
    else (if letter == 99 && nat_lt n CELL_COUNT then operands.Cell n
    else (if letter == 107 && nat_lt n LINK_COUNT then operands.Link n
    else (if letter == 112 && nat_lt n BUFFER_COUNT then operands.Buffer n
    else operands.Wrong UNEXPECTED))))

-- r0 to r15, s0 to s7, c0 to c7, k0 to k3, p0 to p63
unfoldable pub lettered : ℕ → Option ℕ → Operand
lettered letter None = operands.Wrong UNEXPECTED
lettered letter (Some n) = lettered_by letter n

-- a whole number as an operand, and fault `NUMBER` where the word spells none of 64 bits
abbrev pub numbered : Option ℤ → Operand
numbered None = operands.Wrong NUMBER
numbered (Some n) = operands.Number n

-- a word that begins as a number does
unfoldable pub numeric_of : List ℕ → Operand
numeric_of bytes = numbered (signed_of bytes)

-- a GUID as an operand, and fault `GUID` where the word spells none
abbrev pub braced : Option Guid → Operand
braced None = operands.Wrong GUID
braced (Some g) = operands.Guid g

-- a digit, or a `-` before a digit
abbrev pub begins_number : ℕ → List ℕ → Bool
begins_number b [] = is_digit b
begins_number b (c ∷ bs) = is_digit b || (b == 45 && is_digit c)

-- by a word's first byte: a GUID behind `{`, a number as it begins, else a letter and its number
abbrev pub by_first : List ℕ → Operand
by_first [] = operands.Wrong UNEXPECTED
by_first (b ∷ bs) =
    if b == 123 then braced (guid_of (b ∷ bs))
    else (if begins_number b bs then numeric_of (b ∷ bs)
    else lettered b (small_of bs))

-- a word that is no literal in quotation marks
unfoldable pub plain_of : List ℕ → Operand
plain_of bytes = if bytes_eq bytes (codes "true") then operands.Bool true
    else (if bytes_eq bytes (codes "false") then operands.Bool false
    else (if bytes_eq bytes (codes "null") then operands.Null
    else by_first bytes))

-- what stands between the marks of a bytes literal
abbrev pub inner : List ℕ → List ℕ
inner bytes = if nat_lt (length bytes) 3 then [] else slice_range bytes 2 (length bytes - 1)

-- by a word's sort: a literal is what its marks make it, and only a plain word is read by its bytes
abbrev pub operand_by : List ℕ → Sort → Operand
operand_by bytes sorts.Plain = plain_of bytes
operand_by bytes sorts.Text = operands.Text
operand_by bytes sorts.Bytes = if are_pairs (inner bytes) then operands.Bytes else operands.Wrong UNEXPECTED
operand_by bytes _ = operands.Wrong UNEXPECTED

-- what an operand's word says by its form alone
unfoldable pub operand_of : WordAt → Operand
operand_of w = operand_by w.bytes w.sort

-- each number is in its range
abbrev pub IsOperand : Operand → Type 0
IsOperand (operands.Register n) = n < REGISTER_COUNT
IsOperand (operands.Slot n) = n < SLOT_COUNT
IsOperand (operands.Cell n) = n < CELL_COUNT
IsOperand (operands.Link n) = n < LINK_COUNT
IsOperand (operands.Buffer n) = n < BUFFER_COUNT
IsOperand o = Unit {0}

-- the fault of an operand that may not stand where it does
abbrev pub unfit : Operand → ℕ
unfit (operands.Wrong n) = n
unfit operands.Null = UNEXPECTED
unfit _ = UNFIT

-- a register's number; every other operand may not stand there
abbrev pub as_register : WordAt → Operand → Result ℕ Fault
as_register w (operands.Register n) = Ok n
as_register w o = Err (fault_at (unfit o) w)

-- the number of the register, r0 to r15, that stands at an index of the line
unfoldable pub register_at : List WordAt → ℕ → Result ℕ Fault
register_at line k = do
  w ← word_at line k
  as_register w (operand_of w)

-- a slot's number; every other operand may not stand there
abbrev pub as_slot : WordAt → Operand → Result ℕ Fault
as_slot w (operands.Slot n) = Ok n
as_slot w o = Err (fault_at (unfit o) w)

-- the number of the slot, s0 to s7, that stands at an index of the line
unfoldable pub slot_at : List WordAt → ℕ → Result ℕ Fault
slot_at line k = do
  w ← word_at line k
  as_slot w (operand_of w)

-- a cell's number where cells are allowed; elsewhere a cell is fault `UNFIT`
abbrev pub as_cell : Bool → WordAt → Operand → Result ℕ Fault
as_cell cells w (operands.Cell n) = if cells then Ok n else Err (fault_at UNFIT w)
as_cell cells w o = Err (fault_at (unfit o) w)

-- a cell, where one is allowed
unfoldable pub cell_at : Bool → List WordAt → ℕ → Result ℕ Fault
cell_at cells line k = do
  w ← word_at line k
  as_cell cells w (operand_of w)

-- a buffer's number; every other operand may not stand there
abbrev pub as_buffer : WordAt → Operand → Result ℕ Fault
as_buffer w (operands.Buffer n) = Ok n
as_buffer w o = Err (fault_at (unfit o) w)

-- the number of the packet buffer, p0 to p63, that stands at an index of the line
unfoldable pub buffer_at : List WordAt → ℕ → Result ℕ Fault
buffer_at line k = do
  w ← word_at line k
  as_buffer w (operand_of w)

-- a slot, or a link where links are allowed; elsewhere a link is fault `UNFIT`
abbrev pub as_place : Bool → WordAt → Operand → Result Place Fault
as_place links w (operands.Slot n) = Ok (places.Slot n)
as_place links w (operands.Link n) = if links then Ok (places.Link n) else Err (fault_at UNFIT w)
as_place links w o = Err (fault_at (unfit o) w)

-- a slot, or where it is allowed a link
unfoldable pub place_at : Bool → List WordAt → ℕ → Result Place Fault
place_at links line k = do
  w ← word_at line k
  as_place links w (operand_of w)

-- what stands between the marks, at most `LITERAL_LIMIT` bytes
unfoldable pub text_literal : WordAt → Result Value Fault
text_literal w =
    if nat_lt (length w.bytes) 2 || nat_lt (LITERAL_LIMIT + 2) (length w.bytes)
    then Err (fault_at LIMIT w)
    else Ok (values.Text (slice_range w.bytes 1 (length w.bytes - 1)))

-- bytes as a value, and fault `UNEXPECTED` where the digits spell none
abbrev pub as_bytes : WordAt → Option (List ℕ) → Result Value Fault
as_bytes w None = Err (fault_at UNEXPECTED w)
as_bytes w (Some bytes) = Ok (values.Bytes bytes)

-- the bytes of the digits between the marks, at most `LITERAL_LIMIT`
unfoldable pub bytes_literal : WordAt → Result Value Fault
bytes_literal w =
    if nat_lt (2 * LITERAL_LIMIT) (length (inner w.bytes)) then Err (fault_at LIMIT w)
    else as_bytes w (unhexed (inner w.bytes))

-- a literal's value as an operand; its fault stays
abbrev pub written : Result Value Fault → Result Op Fault
written r = r >>= λ v. Ok (ops.Literal v)

-- a word's operand as a register or a literal
unfoldable pub literal_of : WordAt → Operand → Result Op Fault
literal_of w (operands.Register n) = Ok (ops.Register n)
literal_of w (operands.Number n) = Ok (ops.Literal (values.Int n))
literal_of w (operands.Bool b) = Ok (ops.Literal (values.Bool b))
literal_of w (operands.Guid g) = Ok (ops.Literal (values.Guid g))
literal_of w operands.Text = written (text_literal w)
literal_of w operands.Bytes = written (bytes_literal w)
literal_of w o = Err (fault_at (unfit o) w)

-- a register or a literal
unfoldable pub op_at : List WordAt → ℕ → Result Op Fault
op_at line k = do
  w ← word_at line k
  literal_of w (operand_of w)

-- a number below 2^32; a greater one is none
abbrev pub word32 : ℕ → Option ℕ
word32 n = if nat_lt n (2 ^ 32) then Some n else None

-- a number with one hexadecimal digit more
abbrev pub hex_more : ℕ → Option ℕ → Option ℕ
hex_more n None = None
hex_more n (Some d) = word32 (n * 16 + d)

-- the number of 32 bits that hexadecimal digits spell, behind what was read
abbrev pub hex_on : Option ℕ → List ℕ → Option ℕ
hex_on None bs = None
hex_on (Some n) [] = Some n
hex_on (Some n) (b ∷ bs) = hex_on (hex_more n (hex_digit_value b)) bs

abbrev pub behind_x : List ℕ → Option ℕ
behind_x digits = if length digits == 8 then hex_on (Some 0) digits else None

-- `0x` and eight hexadecimal digits
unfoldable pub hex_word_of : List ℕ → Option ℕ
hex_word_of [] = None
hex_word_of (a ∷ []) = None
hex_word_of (a ∷ b ∷ digits) = if a == 48 && b == 120 then behind_x digits else None

-- the HRESULT with the number that was read, and without one the HRESULT whose name the bytes are
abbrev pub or_named : List ℕ → Option ℕ → Option HResult
or_named bytes (Some n) = Some (record { 0 = n })
or_named bytes None = option_and_then hresult_named (ascii_of bytes)

-- an HRESULT in digits or by its name
unfoldable pub hresult_of : List ℕ → Option HResult
hresult_of bytes = or_named bytes (hex_word_of bytes)

-- a register that the HRESULT is taken from; every other operand may not stand there
abbrev pub as_code_register : WordAt → Operand → Result Code Fault
as_code_register w (operands.Register n) = Ok (answers.Register n)
as_code_register w o = Err (fault_at (unfit o) w)

-- whether a word begins with `0x`
abbrev pub begins_hex : List ℕ → Bool
begins_hex [] = false
begins_hex (a ∷ []) = false
begins_hex (a ∷ b ∷ bs) = a == 48 && b == 120

-- an HRESULT that was read, else a register; no register is read behind `0x`
abbrev pub as_code : WordAt → Option HResult → Result Code Fault
as_code w (Some hr) = Ok (answers.Literal hr)
as_code w None = if begins_hex w.bytes then Err (fault_at UNEXPECTED w) else as_code_register w (operand_of w)

-- an HRESULT, or a register; another word that begins with `0x` is no bad number here, but a word that cannot
-- stand
unfoldable pub code_at : List WordAt → ℕ → Result Code Fault
code_at line k = do
  w ← word_at line k
  as_code w (hresult_of w.bytes)

-- what a body leaves with: a slot's reference, else a register or a literal
abbrev pub as_given : WordAt → Operand → Result Given Fault
as_given w (operands.Slot n) = Ok (gifts.Slot n)
as_given w o = literal_of w o >>= λ op. Ok (gifts.Op op)

-- no result, a register, a literal or a slot
unfoldable pub given_at : List WordAt → ℕ → Result Given Fault
given_at line k = do
  there ← stands_at line k
  if there then (do
    w ← word_at line k
    as_given w (operand_of w)) else Ok gifts.Nothing

-- `sta` or `mta`: every other word is fault `UNEXPECTED`
unfoldable pub mode_at : List WordAt → ℕ → Result Mode Fault
mode_at line k = do
  w ← word_at line k
  if bytes_eq w.bytes (codes "sta") then Ok modes.Sta
      else (if bytes_eq w.bytes (codes "mta") then Ok modes.Mta else Err (fault_at UNEXPECTED w))

-- `normal`, `strong` or `weak`: every other word is fault `UNEXPECTED`
unfoldable pub marshal_mode_at : List WordAt → ℕ → Result MarshalMode Fault
marshal_mode_at line k = do
  w ← word_at line k
  if bytes_eq w.bytes (codes "normal") then Ok packets.Normal
      else (if bytes_eq w.bytes (codes "strong") then Ok packets.Strong
      else (if bytes_eq w.bytes (codes "weak") then Ok packets.Weak
      else Err (fault_at UNEXPECTED w)))
