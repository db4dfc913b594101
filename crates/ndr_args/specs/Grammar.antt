-- The bytes of arguments: each value behind the padding that its alignment asks for.
use Rattle.std.specs.Prelude.{◌≡◌, ℕ, ◌+◌, ◌-◌, ◌%◌, ◌^◌, ◌<◌, ◌≤◌, List, [], ◌∷◌, ◌++◌, length, replicate}
use Rattle.std.specs.Prelude.{Some, None, if◌then◌else◌}
use Rattle.std.specs.Int.{w32, w64, cast_unsigned}
use Rattle.std.specs.Int.RustNames.{FitsSigned}
use Rattle.std.specs.Str.{IsUtf8}
use Rattle.com_base.specs.declared.value.Kind.{Kind}
use Rattle.com_base.specs.declared.value.Kind.TheVariants as kind
use Rattle.com_base.specs.declared.standard.StdFields.{StdFields}
use Rattle.com_wire.specs.Fields.{number, guid, IsGuid}
use Rattle.objref.specs.Grammar.{Strings, IsReference, standard, spelling}
use Rattle.ndr_args.specs.declared.reading.TheConstants.{LIMIT}
use Rattle.ndr_args.specs.declared.wire.Wire.{Wire}
use Rattle.ndr_args.specs.declared.wire.Wire.TheVariants as wire

-- How many bytes lie between a position and the next multiple of the alignment.
abbrev pub gap : ℕ → ℕ → ℕ
gap position align = (align - position % align) % align

-- Where a value of a kind may begin: at the multiples of this.
abbrev pub align_of : Kind → ℕ
align_of kind.Int = 8
align_of kind.Bool = 4
align_of kind.Text = 4
align_of kind.Bytes = 4
align_of kind.Guid = 4
align_of (kind.Ref i) = 4

-- The padding: so many bytes, each of them 0.
abbrev pub zeros : ℕ → List ℕ
zeros count = replicate count 0

-- So many bytes at most, behind their count.
abbrev pub counted : List ℕ → List ℕ
counted bytes = number w32 (length bytes) ++ bytes

-- A reference that is not null: any referent but 0, the length of the OBJREF twice, an OBJREF by standard
-- marshalling with these fields, whatever flags and strings it has, and padding to four bytes.
pub record IsRef (fields : StdFields) (text : List ℕ) : Type 0 where
  pub referent : ℕ
  pub flags : ℕ
  pub strings : Strings
  pub some : 0 < referent
  pub fits : referent < 2 ^ 32
  pub says : IsReference (standard fields flags strings)
  pub short : length (spelling (standard fields flags strings)) ≤ LIMIT
  pub text_is : text ≡ number w32 referent
      ++ (number w32 (length (spelling (standard fields flags strings)))
      ++ (number w32 (length (spelling (standard fields flags strings)))
      ++ (spelling (standard fields flags strings)
      ++ zeros (gap (length (spelling (standard fields flags strings))) 4))))

-- The bytes of one value of a kind, without the padding before it.
abbrev pub IsArg : Kind → Wire → List ℕ → Type 0
IsArg kind.Int (wire.Int n) text = FitsSigned w64 n × (text ≡ number w64 (cast_unsigned w64 n))
IsArg kind.Bool (wire.Bool b) text = text ≡ number w32 (if b then 1 else 0)
IsArg kind.Text (wire.Text t) text = IsUtf8 t × (length t ≤ LIMIT) × (text ≡ counted t)
IsArg kind.Bytes (wire.Bytes t) text = (length t ≤ LIMIT) × (text ≡ counted t)
IsArg kind.Guid (wire.Guid g) text = IsGuid g × (text ≡ guid g)
IsArg (kind.Ref i) (wire.Ref None) text = text ≡ number w32 0
IsArg (kind.Ref i) (wire.Ref (Some fields)) text = IsRef fields text
IsArg k v text = ⊥

-- The grammar: the bytes from a position on are these values of these kinds, one behind the other.
abbrev pub IsArgs : List Kind → ℕ → List Wire → List ℕ → Type 0
IsArgs [] position [] bytes = bytes ≡ []
IsArgs (k ∷ ks) position (v ∷ vs) bytes =
    (text : List ℕ) × (rest : List ℕ) × IsArg k v text
    × (bytes ≡ zeros (gap position (align_of k)) ++ (text ++ rest))
    × IsArgs ks (position + gap position (align_of k) + length text) vs rest
IsArgs ks position vs bytes = ⊥
