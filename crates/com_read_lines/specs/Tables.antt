-- Small lists.
use Rattle.std.specs.Prelude.{List, [], ◌∷◌, Bool, true, false, ◌&&◌, ◌==◌, if◌then◌else◌}
use Rattle.std.specs.Str.{bytes_eq}
use Rattle.com_base.specs.declared.guid.Guid.{Guid}

-- whether two GUIDs are equal, field by field
abbrev pub guid_eq : Guid → Guid → Bool
guid_eq a b = (a.data1 == b.data1) && (a.data2 == b.data2) && (a.data3 == b.data3) && bytes_eq a.data4 b.data4

-- whether a GUID is among others
abbrev pub has_guid : List Guid → Guid → Bool
has_guid [] g = false
has_guid (d ∷ ds) g = if guid_eq d g then true else has_guid ds g
