-- The writer's spelling of values.
use Rattle.std.specs.Prelude.{ℕ, ◌+◌, ◌<◌, ◌≤◌, ◌^◌, List, [], ◌∷◌, ◌++◌, length, Some, None, if◌then◌else◌}
use Rattle.std.specs.Int.{w32, w64, cast_unsigned}
use Rattle.std.specs.Int.RustNames.{FitsSigned}
use Rattle.std.specs.Str.{IsUtf8}
use Rattle.com_base.specs.declared.value.Kind.{Kind}
use Rattle.com_base.specs.declared.value.Kind.TheVariants as kind
use Rattle.com_wire.specs.Fields.{number, guid, IsGuid}
use Rattle.objref.specs.Grammar.{written_of, IsStdFields}
use Rattle.ndr_args.specs.declared.reading.TheConstants.{LIMIT}
use Rattle.ndr_args.specs.declared.wire.Wire.{Wire}
use Rattle.ndr_args.specs.declared.wire.Wire.TheVariants as wire
use Rattle.ndr_args.specs.Grammar.{gap, zeros, counted}

-- Where a value may begin: at the multiples of this.
abbrev pub align_of_value : Wire → ℕ
align_of_value (wire.Int n) = 8
align_of_value (wire.Bool b) = 4
align_of_value (wire.Text t) = 4
align_of_value (wire.Bytes t) = 4
align_of_value (wire.Guid g) = 4
align_of_value (wire.Ref r) = 4

-- The bytes of a value, where the next reference that is not null has this referent. Both counts of such
-- a reference are 72, the length of the OBJREF.
unfoldable pub written_arg : ℕ → Wire → List ℕ
written_arg referent (wire.Int n) = number w64 (cast_unsigned w64 n)
written_arg referent (wire.Bool b) = number w32 (if b then 1 else 0)
written_arg referent (wire.Text t) = counted t
written_arg referent (wire.Bytes t) = counted t
written_arg referent (wire.Guid g) = guid g
written_arg referent (wire.Ref None) = number w32 0
written_arg referent (wire.Ref (Some fields)) =
    number w32 referent ++ (number w32 72 ++ (number w32 72 ++ written_of fields))

-- The referents of a stream count up by four.
abbrev pub next_referent : ℕ → Wire → ℕ
next_referent referent (wire.Int n) = referent
next_referent referent (wire.Bool b) = referent
next_referent referent (wire.Text t) = referent
next_referent referent (wire.Bytes t) = referent
next_referent referent (wire.Guid g) = referent
next_referent referent (wire.Ref None) = referent
next_referent referent (wire.Ref (Some fields)) = referent + 4

-- Values from a position on, where the next referent is this one.
unfoldable pub written_from : ℕ → ℕ → List Wire → List ℕ
written_from position referent [] = []
written_from position referent (v ∷ vs) =
    zeros (gap position (align_of_value v)) ++ (written_arg referent v
    ++ written_from (position + gap position (align_of_value v) + length (written_arg referent v))
    (next_referent referent v) vs)

-- A stream: it begins at position 0, and its first referent is 0x00020000.
abbrev pub written_args : List Wire → List ℕ
written_args vs = written_from 0 0x20000 vs

-- How many bytes a value has, without the padding before it.
abbrev pub length_of : Wire → ℕ
length_of (wire.Int n) = 8
length_of (wire.Bool b) = 4
length_of (wire.Text t) = 4 + length t
length_of (wire.Bytes t) = 4 + length t
length_of (wire.Guid g) = 16
length_of (wire.Ref None) = 4
length_of (wire.Ref (Some fields)) = 84

-- The padding before a value at a position, and the value.
abbrev pub padded_length : ℕ → Wire → ℕ
padded_length position v = gap position (align_of_value v) + length_of v

-- How many bytes values have from a position on.
unfoldable pub length_from : ℕ → List Wire → ℕ
length_from position [] = 0
length_from position (v ∷ vs) = padded_length position v + length_from (position + padded_length position v) vs

-- How many bytes a stream has.
abbrev pub length_args : List Wire → ℕ
length_args vs = length_from 0 vs

-- The referent that a reference behind these values would have.
unfoldable pub referent_after : ℕ → List Wire → ℕ
referent_after referent [] = referent
referent_after referent (v ∷ vs) = referent_after (next_referent referent v) vs

-- Whether 32 bits tell each referent of a stream and the one behind the last.
abbrev pub FitsReferents : List Wire → Type 0
FitsReferents vs = referent_after 0x20000 vs < 2 ^ 32

-- Texts are UTF-8, and texts and bytes have at most so many bytes as a count may say.
abbrev pub CanSend : Wire → Type 0
CanSend (wire.Int n) = Unit {0}
CanSend (wire.Bool b) = Unit {0}
CanSend (wire.Text t) = IsUtf8 t × (length t ≤ LIMIT)
CanSend (wire.Bytes t) = length t ≤ LIMIT
CanSend (wire.Guid g) = Unit {0}
CanSend (wire.Ref r) = Unit {0}

-- A value has a kind. A reference has the kind of every interface here, since the fields tell which it is.
abbrev pub HasKind : Kind → Wire → Type 0
HasKind kind.Int (wire.Int n) = Unit {0}
HasKind kind.Bool (wire.Bool b) = Unit {0}
HasKind kind.Text (wire.Text t) = Unit {0}
HasKind kind.Bytes (wire.Bytes t) = Unit {0}
HasKind kind.Guid (wire.Guid g) = Unit {0}
HasKind (kind.Ref i) (wire.Ref r) = Unit {0}
HasKind k v = ⊥

-- As many values as kinds, each of its kind, and each can be sent.
abbrev pub CanSendAll : List Kind → List Wire → Type 0
CanSendAll [] [] = Unit {0}
CanSendAll (k ∷ ks) (v ∷ vs) = HasKind k v × CanSend v × CanSendAll ks vs
CanSendAll ks vs = ⊥

-- The numbers of a value are in the ranges of their types.
abbrev pub IsInRange : Wire → Type 0
IsInRange (wire.Int n) = FitsSigned w64 n
IsInRange (wire.Bool b) = Unit {0}
IsInRange (wire.Text t) = Unit {0}
IsInRange (wire.Bytes t) = Unit {0}
IsInRange (wire.Guid g) = IsGuid g
IsInRange (wire.Ref None) = Unit {0}
IsInRange (wire.Ref (Some fields)) = IsStdFields fields
