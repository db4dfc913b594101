-- Names, and those that were declared above.
use Rattle.std.specs.Prelude.{ℕ, ◌+◌, ◌^◌, List, [], ◌∷◌, length, Option, Some, None, Result, Ok, Err, Bool, true}
use Rattle.std.specs.Prelude.{false, ◌&&◌, ◌||◌, nat_le, nat_lt, ◌==◌, if◌then◌else◌, option_map}
use Rattle.std.specs.Char.{is_ascii_alphabetic, is_ascii_alphanumeric}
use Rattle.std.specs.Str.{bytes_eq}
use Rattle.com_body.specs.declared.operands.Asked.{Asked}
use Rattle.com_body.specs.declared.operands.Asked.TheVariants as askeds
use Rattle.com_base.specs.declared.guid.Guid.{Guid}
use Rattle.com_text.specs.Words.{WordAt}
use Rattle.com_read_operands.specs.declared.faults.Fault.{Fault}
use Rattle.com_read_operands.specs.declared.faults.TheConstants.Fault.{GUID, UNDECLARED, UNEXPECTED}
use Rattle.com_base.specs.declared.limits.TheConstants.{NAME_LIMIT}
use Rattle.com_read_operands.specs.Reading.{◌>>=◌, word_at, fault_at}
use Rattle.com_read_operands.specs.Literals.{guid_of}

-- a letter, digit or _
abbrev pub is_tail : ℕ → Bool
is_tail b = is_ascii_alphanumeric b || b == 95

-- whether bytes may stand behind a name's first letter; none at all may
abbrev pub are_tail : List ℕ → Bool
are_tail [] = true
are_tail (b ∷ bs) = if is_tail b then are_tail bs else false

-- a letter and letters, digits or _ behind it, at most `NAME_LIMIT` in all
abbrev pub is_name : List ℕ → Bool
is_name [] = false
is_name (b ∷ bs) = is_ascii_alphabetic b && nat_lt (length bs) NAME_LIMIT && are_tail bs

-- the first index of a name in a list
abbrev pub position_of : List (List ℕ) → List ℕ → Option ℕ
position_of [] name = None
position_of (n ∷ ns) name = if bytes_eq n name then Some 0 else option_map (λ k. k + 1) (position_of ns name)

-- a number below 2^16; a greater one is none
abbrev pub of_16_bits : Option ℕ → Option ℕ
of_16_bits None = None
of_16_bits (Some n) = if nat_lt n (2 ^ 16) then Some n else None

-- the number of a declared name
unfoldable pub number_of_name : List (List ℕ) → List ℕ → Option ℕ
number_of_name names name = of_16_bits (position_of names name)

-- a word of a name's form
unfoldable pub name_at : List WordAt → ℕ → Result WordAt Fault
name_at line k = do
  w ← word_at line k
  if is_name w.bytes then Ok w else Err (fault_at UNEXPECTED w)

-- the number of a name that was declared above, and for None fault `UNDECLARED` at the word
abbrev pub known : WordAt → Option ℕ → Result ℕ Fault
known w None = Err (fault_at UNDECLARED w)
known w (Some n) = Ok n

-- a name that was declared above, as its number
unfoldable pub declared_at : List (List ℕ) → List WordAt → ℕ → Result ℕ Fault
declared_at names line k = do
  w ← name_at line k
  known w (number_of_name names w.bytes)

-- whether a word begins with `{`, as a GUID does
abbrev pub opens_brace : List ℕ → Bool
opens_brace [] = false
opens_brace (b ∷ bs) = b == 123

-- a GUID as what is asked for, and where the word spells none fault `GUID` at it
abbrev pub as_asked : WordAt → Option Guid → Result Asked Fault
as_asked w None = Err (fault_at GUID w)
as_asked w (Some g) = Ok (askeds.Guid g)

-- a class or interface as it is asked for: a declared name, as its index counted from a number, or a GUID
unfoldable pub asked_at : List (List ℕ) → ℕ → List WordAt → ℕ → Result Asked Fault
asked_at names low line k = do
  w ← word_at line k
  if opens_brace w.bytes then as_asked w (guid_of w.bytes) else (do
    n ← declared_at names line k
    Ok (askeds.Number (n + low)))
