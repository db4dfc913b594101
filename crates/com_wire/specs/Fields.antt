-- Fields at a position of a list of bytes: how each is spelled, and what is read there.
use Rattle.std.specs.Prelude.{ℕ, ◌+◌, List, length, take, drop, Option, Some, None, nat_lt, if◌then◌else◌}
use Rattle.std.specs.Int.{Width, byte_len, from_le_bytes, to_le_bytes}
use Rattle.com_base.specs.declared.guid.Guid.{Guid}
use Rattle.com_base.specs.Guids.{wire_of, guid_of_wire}
pub use Rattle.com_base.specs.Guids.{IsBytes, IsGuid}

-- The bytes of a number, from its low byte up.
unfoldable pub number : Width → ℕ → List ℕ
number w n = to_le_bytes w n

-- The sixteen bytes of a GUID.
unfoldable pub guid : Guid → List ℕ
guid g = wire_of g

-- The so many bytes from a position on, if they are whole.
abbrev pub part_at : List ℕ → ℕ → ℕ → Option (List ℕ)
part_at bytes position count =
    if nat_lt (length bytes) (position + count) then None else Some (take count (drop position bytes))

-- The number that stands at a position, if it is whole.
unfoldable pub number_at : Width → List ℕ → ℕ → Option ℕ
number_at w bytes position =
    if nat_lt (length bytes) (position + byte_len w) then None
    else Some (from_le_bytes w (take (byte_len w) (drop position bytes)))

-- The GUID that stands at a position, if it is whole.
unfoldable pub guid_at : List ℕ → ℕ → Option Guid
guid_at bytes position =
    if nat_lt (length bytes) (position + 16) then None
    else Some (guid_of_wire (take 16 (drop position bytes)))
