-- What a contract sees of a `Packets`.
use Rattle.std.specs.Prelude.{ℕ, ◌≡◌, ◌-◌, ◌≤◌, ◌^◌, List, Option, None, IfSome, length, slice_index, slice_index_or}
use Rattle.com_packets.specs.declared.Packet.{Packet}

-- the packet, or nothing, of each number that was given, in order from the number 1, and how many more
-- packets are sure to find memory
pub record Table : Type 0 where
  pub entries : List (Option Packet)
  pub spare : ℕ

-- the entry at an index, which is one less than its number
abbrev pub entry_at : List (Option Packet) → ℕ → Option Packet
entry_at entries index = slice_index_or entries index None

-- each index is under the object of its packet, and there are at most as many numbers as 32 bits tell, which
-- count from 1
pub record IsTable (entries : List (Option Packet)) (keys : List ℕ) (limit : ℕ) : Type 0 where
  pub as_many : length keys ≡ length entries
  pub keyed : (index : ℕ) → IfSome (entry_at entries index) (λ packet. packet.object ≡ slice_index keys index)
  pub fits : length entries ≤ 2 ^ 32 - 1
  pub limited : limit ≡ 2 ^ 32 - 1
