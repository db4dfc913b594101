-- A method's line in an interface.
use Rattle.std.specs.Prelude.{ℕ, ◌+◌, List, [], ◌∷◌, ◌++◌, length, drop, Option, Some, None, is_some, Result}
use Rattle.std.specs.Prelude.{Ok, Err, true, false, nat_le, if◌then◌else◌, codes}
use Rattle.std.specs.Str.{bytes_eq}
use Rattle.com_base.specs.declared.value.Kind.{Kind}
use Rattle.com_base.specs.declared.value.Kind.TheVariants as kinds
use Rattle.com_base.specs.declared.limits.TheConstants.{PARAMETER_LIMIT}
use Rattle.com_classes.specs.declared.interfaces.Method.{Method}
use Rattle.com_text.specs.Words.{WordAt}
use Rattle.com_read_operands.specs.declared.faults.Fault.{Fault}
use Rattle.com_read_operands.specs.declared.faults.TheConstants.Fault.{LIMIT, REPEATED}
use Rattle.com_read_operands.specs.Reading.{◌>>=◌, fault_at, word_at, stands_at, end_at}
use Rattle.com_read_operands.specs.Naming.{name_at, declared_at}
use Rattle.com_read_statements.specs.Calls.{method_position}
use Rattle.com_read_lines.specs.declared.methods.Signature.{Signature}
use Rattle.com_read_lines.specs.declared.methods.TypeWord.{TypeWord}

-- the kinds that the language has words for
abbrev pub type_word_of : List ℕ → Option Kind
type_word_of bytes =
    if bytes_eq bytes (codes "int") then Some kinds.Int
    else (if bytes_eq bytes (codes "bool") then Some kinds.Bool
    else (if bytes_eq bytes (codes "text") then Some kinds.Text
    else (if bytes_eq bytes (codes "bytes") then Some kinds.Bytes
    else (if bytes_eq bytes (codes "guid") then Some kinds.Guid
    else None))))

-- a kind that the language has a word for, or else a reference on the declared interface that the word names
abbrev pub type_by : List (List ℕ) → List WordAt → ℕ → Option Kind → Result Kind Fault
type_by names line k (Some kind) = Ok kind
type_by names line k None = do
  n ← declared_at names line k
  Ok (kinds.Ref n)

-- a word of the language, or an interface's name
unfoldable pub type_at : List (List ℕ) → List WordAt → ℕ → Result Kind Fault
type_at names line k = do
  w ← word_at line k
  type_by names line k (type_word_of w.bytes)

-- a type of a method that has so many parameters already: the next one's, or behind -> the result's
unfoldable pub item_at : List (List ℕ) → ℕ → List WordAt → ℕ → Result TypeWord Fault
item_at names count line k = do
  there ← stands_at line k
  w ← word_at line k
  if bytes_eq w.bytes (codes "->") then (do
    kind ← type_at names line (k + 1)
    done ← end_at line (k + 2)
    Ok (record { kind = kind; last = true })) else (do
      kind ← type_at names line k
      if nat_le PARAMETER_LIMIT count then Err (fault_at LIMIT w) else Ok (record { kind = kind; last = false }))

-- the parameters so far, and what is left of the line, from an index on
abbrev pub signature_on : List (List ℕ) → List Kind → List WordAt → ℕ → List WordAt → Result Signature Fault
signature_on names done line k [] = Ok (record { params = done; result = None })
signature_on names done line k (v ∷ vs) = item_at names (length done) line k >>= λ item.
    (if item.last then Ok (record { params = done; result = Some item.kind })
    else signature_on names (done ++ item.kind ∷ []) line (k + 1) vs)

-- the method that a line spells, with a name that no method above has
unfoldable pub method_of : List (List ℕ) → List Method → List WordAt → Result Method Fault
method_of names methods line = do
  w ← name_at line 1
  if is_some (method_position methods w.bytes) then Err (fault_at REPEATED w) else (do
    s ← signature_on names [] line 2 (drop 2 line)
    Ok (record { name = w.bytes; params = s.params; result = s.result }))
