-- What a declaration's words say.
use Rattle.std.specs.Prelude.{ℕ, ◌+◌, List, [], ◌∷◌, ◌++◌, length, drop, is_some, Result, Ok, Err, nat_le}
use Rattle.std.specs.Prelude.{if◌then◌else◌, codes}
use Rattle.std.specs.Str.{bytes_eq}
use Rattle.com_base.specs.declared.guid.Guid.{Guid}
use Rattle.com_base.specs.declared.limits.TheConstants.{LISTED_LIMIT}
use Rattle.com_body.specs.declared.frame.Native.{Native}
use Rattle.com_body.specs.declared.frame.Native.TheVariants as natives
use Rattle.com_classes.specs.declared.classes.ThreadingModel.{ThreadingModel}
use Rattle.com_classes.specs.declared.classes.ThreadingModel.TheVariants as models
use Rattle.com_text.specs.Words.{WordAt}
use Rattle.com_read_operands.specs.declared.faults.Fault.{Fault}
use Rattle.com_read_operands.specs.declared.faults.TheConstants.Fault.{LIMIT, REPEATED, UNEXPECTED, UNFIT}
use Rattle.com_read_operands.specs.Reading.{◌>>=◌, fault_at, word_at, stands_at, number_at}
use Rattle.com_read_operands.specs.Literals.{guid_at}
use Rattle.com_read_operands.specs.Naming.{name_at, declared_at, position_of}
use Rattle.com_read_lines.specs.declared.declare.TheConstants.{LAST_LANE}
use Rattle.com_read_lines.specs.Tables.{has_guid}
use Rattle.com_read_lines.specs.Methods.{type_word_of}

-- a GUID that is not declared above
unfoldable pub free_guid_at : List Guid → List WordAt → ℕ → Result Guid Fault
free_guid_at guids line k = do
  g ← guid_at line k
  if has_guid guids g then (word_at line k >>= λ w. Err (fault_at REPEATED w)) else Ok g

-- a name that is not declared above
unfoldable pub free_name_at : List (List ℕ) → List WordAt → ℕ → Result WordAt Fault
free_name_at names line k = do
  w ← name_at line k
  if is_some (position_of names w.bytes) then Err (fault_at REPEATED w) else Ok w

-- an interface's name is no type of the language
unfoldable pub interface_name_at : List (List ℕ) → List WordAt → Result WordAt Fault
interface_name_at names line = do
  w ← name_at line 1
  if is_some (type_word_of w.bytes) then Err (fault_at UNEXPECTED w) else free_name_at names line 1

-- a filter's name is not none
unfoldable pub filter_name_at : List (List ℕ) → List WordAt → Result WordAt Fault
filter_name_at names line = do
  w ← name_at line 1
  if bytes_eq w.bytes (codes "none") then Err (fault_at UNEXPECTED w) else free_name_at names line 1

-- a class's threading model; every other word is fault `UNEXPECTED`
unfoldable pub model_at : List WordAt → ℕ → Result ThreadingModel Fault
model_at line k = do
  w ← word_at line k
  if bytes_eq w.bytes (codes "none") then Ok models.Nothing
      else (if bytes_eq w.bytes (codes "Apartment") then Ok models.Apartment
      else (if bytes_eq w.bytes (codes "Free") then Ok models.Free
      else (if bytes_eq w.bytes (codes "Both") then Ok models.Both
      else (if bytes_eq w.bytes (codes "Neutral") then Ok models.Neutral
      else (if bytes_eq w.bytes (codes "Agile") then Ok models.Agile
      else Err (fault_at UNEXPECTED w))))))

-- an agile class has no links, so it is no relay
abbrev pub relay_of : WordAt → ThreadingModel → Result Native Fault
relay_of w models.Agile = Err (fault_at UNFIT w)
relay_of w _ = Ok natives.Relay

-- the kind of a native class of a threading model: `counter`, `latch`, or `relay` where the class is not agile
unfoldable pub native_at : ThreadingModel → List WordAt → ℕ → Result Native Fault
native_at model line k = do
  w ← word_at line k
  if bytes_eq w.bytes (codes "counter") then Ok natives.Counter
      else (if bytes_eq w.bytes (codes "relay") then relay_of w model
      else (if bytes_eq w.bytes (codes "latch") then Ok natives.Latch
      else Err (fault_at UNEXPECTED w)))

-- ICounter, IRelay and ILatch
abbrev pub native_interface : Native → ℕ
native_interface natives.Bodies = 0
native_interface natives.Counter = 1
native_interface natives.Relay = 2
native_interface natives.Latch = 3

-- the interfaces of a native class: the one of its kind alone
abbrev pub natives_of : Native → List ℕ
natives_of native = native_interface native ∷ []

-- one more interface of a class that has so many already
unfoldable pub listed_item : List (List ℕ) → ℕ → List WordAt → ℕ → Result ℕ Fault
listed_item names count line k = do
  there ← stands_at line k
  n ← declared_at names line k
  if nat_le LISTED_LIMIT count then (word_at line k >>= λ w. Err (fault_at LIMIT w)) else Ok n

-- the interfaces so far, and what is left of the line, from an index on
abbrev pub listed_on : List (List ℕ) → List ℕ → List WordAt → ℕ → List WordAt → Result (List ℕ) Fault
listed_on names done line k [] = Ok done
listed_on names done line k (v ∷ vs) =
    listed_item names (length done) line k >>= λ n. listed_on names (done ++ n ∷ []) line (k + 1) vs

-- the interfaces of a class: one name or more, from the fifth word on
unfoldable pub listed_at : List (List ℕ) → List WordAt → Result (List ℕ) Fault
listed_at names line = do
  w ← word_at line 4
  listed_on names [] line 4 (drop 4 line)

-- a lane's number
unfoldable pub pick_at : List WordAt → ℕ → Result ℕ Fault
pick_at line k = do
  there ← stands_at line k
  number_at 0 LAST_LANE line k

-- the numbers so far, and what is left of the line, from an index on
abbrev pub picks_on : List ℕ → List WordAt → ℕ → List WordAt → Result (List ℕ) Fault
picks_on done line k [] = Ok done
picks_on done line k (v ∷ vs) = pick_at line k >>= λ n. picks_on (done ++ n ∷ []) line (k + 1) vs
