-- The public references that outstanding normal packets hold.
use Rattle.std.specs.Prelude.{ℕ, ◌==◌, if◌then◌else◌, List, Option, None, Some, sum_by}
use Rattle.com_base.specs.declared.value.MarshalMode.{MarshalMode}
use Rattle.com_base.specs.declared.value.MarshalMode.TheVariants.{Normal, Strong, Weak}
use Rattle.com_packets.specs.declared.Packet.{Packet}

abbrev pub normal_refs : MarshalMode → ℕ → ℕ
normal_refs Normal refs = refs
normal_refs Strong refs = 0
normal_refs Weak refs = 0

abbrev pub normal_of : Option Packet → ℕ
normal_of None = 0
normal_of (Some packet) = normal_refs packet.mode packet.refs

-- How many references a normal packet holds, where it is a packet of the object.
abbrev pub normal_for : ℕ → Option Packet → ℕ
normal_for object None = 0
normal_for object (Some packet) = if packet.object == object then normal_refs packet.mode packet.refs else 0

-- The public references that the outstanding normal packets of an object hold together.
abbrev pub normal_sum : ℕ → List (Option Packet) → ℕ
normal_sum object entries = sum_by (normal_for object) entries
