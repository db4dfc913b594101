-- A line `source <name> <guid> <model>`, with the model `none` or `Apartment`: its form, or its first fault.
use Rattle.std.specs.Prelude.{◌≡◌, ℕ, List, Option, Some, None, Result, Ok, Err, Bool, true, false}
use Rattle.std.specs.Prelude.{◌&&◌, ◌||◌, if◌then◌else◌, slice_get, codes}
use Rattle.std.specs.Str.{bytes_eq}
use Rattle.com_base.specs.declared.guid.Guid.{Guid}
use Rattle.com_classes.specs.Lookups.{same_guid}
use Rattle.com_text.specs.Words.{WordAt}
use Rattle.com_read_operands.specs.declared.faults.Fault.{Fault}
use Rattle.com_read_operands.specs.declared.faults.ScenarioError.{ScenarioError}
use Rattle.com_read_operands.specs.declared.faults.ScenarioError.TheVariants as errors
use Rattle.com_read_operands.specs.declared.faults.TheConstants.Fault.{UNEXPECTED}
use Rattle.com_read_operands.specs.Reading.{◌>>=◌, fault_at, word_at, end_at}
use Rattle.com_read_operands.specs.Naming.{name_at}
use Rattle.com_read_operands.specs.Literals.{guid_at, guid_of}
use Rattle.com_laws_sources.specs.Sources.{point_iid}
use Rattle.com_points.specs.declared.source_text.heads.Cut.{Cut}
use Rattle.com_points.specs.declared.source_text.heads.Seen.{Seen}

-- The word at this index is the text.
abbrev pub is_text : Option WordAt → List ℕ → Bool
is_text None text = false
is_text (Some w) text = bytes_eq w.bytes text

abbrev pub is_source_line : List WordAt → Bool
is_source_line line = is_text (slice_get line 0) (codes "source")

-- The objects of a source live in an STA.
unfoldable pub model_at : List WordAt → ℕ → Result Bool Fault
model_at line k = do
  w ← word_at line k
  if bytes_eq w.bytes (codes "none") || bytes_eq w.bytes (codes "Apartment") then Ok true
      else Err (fault_at UNEXPECTED w)

-- The first fault of the form, and how many words stand in front of it.
abbrev pub cut_at : {A : Type 0} → ℕ → Result A Fault → Option Cut → Option Cut
cut_at k (Ok x) rest = rest
cut_at k (Err f) rest = Some (record { words = k; fault = f })

-- The cut is the fault of an error, behind so many words.
abbrev pub IsCut : ℕ → ScenarioError → Option Cut → Type 0
IsCut k errors.Memory cut = ⊥
IsCut k (errors.Fault n l c) cut =
    cut ≡ Some (record { words = k; fault = record { number = n; line = l; column = c } })

abbrev pub cut_of : List WordAt → Option Cut
cut_of line =
    cut_at 1 (name_at line 1) (cut_at 2 (guid_at line 2) (cut_at 3 (model_at line 3)
    (cut_at 4 (end_at line 4) None)))

-- ---- what the lines above say

-- Whether there is a GUID, and it is the IID of a source's interface.
abbrev pub names_point : Option Guid → Bool
names_point None = false
names_point (Some g) = same_guid g point_iid

abbrev pub is_point_guid : Option WordAt → Bool
is_point_guid None = false
is_point_guid (Some w) = names_point (guid_of w.bytes)

-- Whether a line declares an interface with the name or the IID of a source's interface.
abbrev pub declares_point : List WordAt → Bool
declares_point line =
    is_text (slice_get line 0) (codes "interface")
    && (is_text (slice_get line 1) (codes "IPoint") || is_point_guid (slice_get line 2))

abbrev pub nothing_seen : Seen
nothing_seen = record { source = false; point = false }

abbrev pub seen_behind : Seen → List WordAt → Seen
seen_behind seen line = record {
  source = seen.source || is_source_line line;
  point = seen.point || declares_point line;
}

-- Whether the first source finds the name or the IID of its interface declared.
abbrev pub is_taken : Seen → Bool
is_taken seen = if seen.source then false else seen.point
