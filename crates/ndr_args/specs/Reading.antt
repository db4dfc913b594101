-- Reading arguments from the front, with the first fault that is met.
use Rattle.std.specs.Prelude.{◌≡◌, ℕ, zero, suc, ◌+◌, true, false, List, [], ◌∷◌, length, take, drop}
use Rattle.std.specs.Prelude.{slice_index, Option, Some, None, Result, Ok, Err, nat_lt, ◌==◌, if◌then◌else◌}
use Rattle.std.specs.Int.{w32, w64, cast_signed}
use Rattle.std.specs.Str.{is_utf8}
use Rattle.com_base.specs.declared.value.Kind.{Kind}
use Rattle.com_base.specs.declared.value.Kind.TheVariants as kind
use Rattle.com_base.specs.declared.standard.StdFields.{StdFields}
use Rattle.com_wire.specs.Fields.{number_at, guid_at}
use Rattle.com_wire.specs.Steps.{◌>>=◌}
use Rattle.objref.specs.declared.decoding.RefFault.{RefFault}
use Rattle.objref.specs.Grammar.{Reference, standard, handler, custom}
use Rattle.objref.specs.Reading.{objref_of}
use Rattle.ndr_args.specs.declared.reading.TheConstants.{LIMIT}
use Rattle.ndr_args.specs.declared.wire.TheConstants.ArgFault.{SHORT, PADDING, BOOL, TEXT, COUNT, TRAILING, REF}
use Rattle.ndr_args.specs.declared.wire.Wire.{Wire}
use Rattle.ndr_args.specs.declared.wire.Wire.TheVariants as wire
use Rattle.ndr_args.specs.declared.wire.ArgFault.{ArgFault}
use Rattle.ndr_args.specs.declared.wire.ArgError.{ArgError}
use Rattle.ndr_args.specs.declared.wire.ArgError.TheVariants as errors
use Rattle.ndr_args.specs.Grammar.{gap, align_of}

-- What a function returned, seen by view, is what reading gives, unless memory ran out.
abbrev pub Fails : {Y : Type 0} → ArgError → Result Y ArgFault → Type 0
Fails errors.Memory read = Unit {0}
Fails (errors.Fault f) read = read ≡ Err f

abbrev pub Gives : {X Y : Type 0} → (X → Y) → Result X ArgError → Result Y ArgFault → Type 0
Gives view (Ok x) read = read ≡ Ok (view x)
Gives view (Err e) read = Fails e read

-- What a reading answers that fails: the number of the fault, and its position in the bytes.
abbrev pub fault : ℕ → ℕ → ArgFault
fault number at = record { number = number; at = at }

-- A field that is not whole is the fault SHORT, at the length of the bytes.
abbrev pub short : List ℕ → ArgFault
short bytes = fault SHORT (length bytes)

-- A field, and the position behind it.
abbrev pub field : {A : Type 0} → List ℕ → Option A → ℕ → Result (A × ℕ) ArgFault
field bytes None end = Err (short bytes)
field bytes (Some x) end = Ok (x, end)

-- A number of 32 bits at a position, and the position behind it.
abbrev pub u32_field : List ℕ → ℕ → Result (ℕ × ℕ) ArgFault
u32_field bytes position = field bytes (number_at w32 bytes position) (position + 4)

-- So many bytes that must be 0. Another byte is the fault PADDING, there.
unfoldable pub zeros_at : List ℕ → ℕ → ℕ → Result ℕ ArgFault
zeros_at bytes zero position = Ok position
zeros_at bytes (suc count) position =
    if nat_lt position (length bytes) then
    (if slice_index bytes position == 0 then zeros_at bytes count (position + 1) else Err (fault PADDING position))
    else Err (short bytes)

-- A count above the greatest that is taken is the fault COUNT, at the count.
unfoldable pub count_at : List ℕ → ℕ → Result (ℕ × ℕ) ArgFault
count_at bytes position = do
  count ← u32_field bytes position
  if nat_lt LIMIT count.0 then Err (fault COUNT position) else Ok count

-- So many bytes.
abbrev pub part_at : List ℕ → ℕ → ℕ → Result (List ℕ × ℕ) ArgFault
part_at bytes count position =
    if nat_lt (length bytes) (position + count) then Err (short bytes)
    else Ok (take count (drop position bytes), position + count)

-- Bytes behind their count, which is tested before they are.
unfoldable pub counted_at : List ℕ → ℕ → Result (List ℕ × ℕ) ArgFault
counted_at bytes position = do
  count ← count_at bytes position
  part_at bytes count.0 count.1

unfoldable pub int_at : List ℕ → ℕ → Result (Wire × ℕ) ArgFault
int_at bytes position = do
  n ← field bytes (number_at w64 bytes position) (position + 8)
  Ok (wire.Int (cast_signed w64 n.0), n.1)

-- A number that is neither 0 nor 1 is the fault BOOL, at the number.
unfoldable pub bool_at : List ℕ → ℕ → Result (Wire × ℕ) ArgFault
bool_at bytes position = do
  n ← u32_field bytes position
  if n.0 == 0 then Ok (wire.Bool false, n.1) else
      if n.0 == 1 then Ok (wire.Bool true, n.1) else
      Err (fault BOOL position)

-- Bytes that are not UTF-8 are the fault TEXT, at their first.
unfoldable pub text_at : List ℕ → ℕ → Result (Wire × ℕ) ArgFault
text_at bytes position = do
  part ← counted_at bytes position
  if is_utf8 part.0 then Ok (wire.Text part.0, part.1) else Err (fault TEXT (position + 4))

unfoldable pub bytes_at : List ℕ → ℕ → Result (Wire × ℕ) ArgFault
bytes_at bytes position = do
  part ← counted_at bytes position
  Ok (wire.Bytes part.0, part.1)

unfoldable pub guid_arg_at : List ℕ → ℕ → Result (Wire × ℕ) ArgFault
guid_arg_at bytes position = do
  g ← field bytes (guid_at bytes position) (position + 16)
  Ok (wire.Guid g.0, g.1)

-- The fields of an OBJREF by standard marshalling.
abbrev pub std_fields : Result Reference RefFault → Option StdFields
std_fields (Ok (standard fields flags strings)) = Some fields
std_fields (Ok (handler fields flags clsid strings)) = None
std_fields (Ok (custom iid clsid extension unread payload)) = None
std_fields (Err f) = None

abbrev pub fields_at : Option StdFields → ℕ → Result StdFields ArgFault
fields_at None position = Err (fault REF position)
fields_at (Some fields) position = Ok fields

-- What stands behind a referent that is not 0: the maximum count, the length, the OBJREF and padding. Two
-- counts that differ are the fault COUNT, at the second, and bytes that are no standard OBJREF are the fault
-- REF, at the first of them.
unfoldable pub held_at : List ℕ → ℕ → Result (StdFields × ℕ) ArgFault
held_at bytes position = do
  maximum ← count_at bytes position
  count ← u32_field bytes maximum.1
  part ← (if count.0 == maximum.0 then part_at bytes count.0 count.1 else Err (fault COUNT maximum.1))
  fields ← fields_at (std_fields (objref_of part.0)) count.1
  end ← zeros_at bytes (gap part.1 4) part.1
  Ok (fields, end)

unfoldable pub ref_at : List ℕ → ℕ → Result (Wire × ℕ) ArgFault
ref_at bytes position = do
  referent ← u32_field bytes position
  if referent.0 == 0 then Ok (wire.Ref None, referent.1) else (do
    held ← held_at bytes referent.1
    Ok (wire.Ref (Some held.0), held.1))

-- A value of a kind at a position that is a multiple of its alignment.
abbrev pub value_at : Kind → List ℕ → ℕ → Result (Wire × ℕ) ArgFault
value_at kind.Int bytes position = int_at bytes position
value_at kind.Bool bytes position = bool_at bytes position
value_at kind.Text bytes position = text_at bytes position
value_at kind.Bytes bytes position = bytes_at bytes position
value_at kind.Guid bytes position = guid_arg_at bytes position
value_at (kind.Ref i) bytes position = ref_at bytes position

unfoldable pub arg_at : Kind → List ℕ → ℕ → Result (Wire × ℕ) ArgFault
arg_at k bytes position = do
  start ← zeros_at bytes (gap position (align_of k)) position
  value_at k bytes start

-- The values of these kinds from a position on, each behind its padding, and the position behind the last.
unfoldable pub args_at : List Kind → List ℕ → ℕ → Result (List Wire × ℕ) ArgFault
args_at [] bytes position = Ok ([], position)
args_at (k ∷ ks) bytes position = do
  first ← arg_at k bytes position
  others ← args_at ks bytes first.1
  Ok (first.0 ∷ others.0, others.1)

-- All of the bytes. Bytes behind the last value are the fault TRAILING, at the first of them.
unfoldable pub args_of : List Kind → List ℕ → Result (List Wire) ArgFault
args_of ks bytes = do
  all ← args_at ks bytes 0
  if nat_lt all.1 (length bytes) then Err (fault TRAILING all.1) else Ok all.0
