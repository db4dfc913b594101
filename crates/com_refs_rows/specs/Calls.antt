-- The packets that carry the arguments and the result of each call.
use Rattle.std.specs.Prelude.{ℕ, zero, suc, ◌+◌, ◌<◌, ◌≤◌, ◌^◌, List, slice_index_or, Option, Some, None}
use Rattle.std.specs.List.{AllByRecursion}
use Rattle.com_base.specs.declared.limits.TheConstants.{PARAMETER_LIMIT}
use Rattle.com_refs_books.specs.Changes.{set_from_one}
use Rattle.com_refs_books.specs.Counting.{numbers_from}
use Rattle.com_refs_rows.specs.declared.calls.CallPackets.{CallPackets}

-- A call whose arguments and result have no packets.
abbrev pub no_packets : CallPackets
no_packets = record { first = 0; count = 0; result = 0 }

-- The row of a call, from number 1 on.
abbrev pub call_at : List CallPackets → ℕ → CallPackets
call_at rows zero = no_packets
call_at rows (suc place) = slice_index_or rows place no_packets

abbrev pub with_result : (call result : ℕ) → List CallPackets → List CallPackets
with_result c p rows = set_from_one rows c (record (call_at rows c) { result = p })

-- The numbers of the argument packets that a row of the table has, in the order of making.
abbrev pub arguments_of : CallPackets → List ℕ
arguments_of row = numbers_from row.first row.count

-- The packet that a number names; 0 names none.
abbrev pub number_of : ℕ → Option ℕ
number_of zero = None
number_of (suc k) = Some (suc k)

-- The numbers of the packets of a call's arguments; none where no call has the number.
abbrev pub arguments_in : List CallPackets → ℕ → List ℕ
arguments_in rows c = arguments_of (call_at rows c)

-- The number of the packet of a call's result; None where it has none.
abbrev pub result_in : List CallPackets → ℕ → Option ℕ
result_in rows c = number_of (call_at rows c).result

-- Numbers of packets have 32 bits, and a call has no more argument packets than a method may have parameters.
abbrev pub IsNumbered : CallPackets → Type 0
IsNumbered row = (row.first + row.count < 2 ^ 32) × (row.count ≤ PARAMETER_LIMIT)

abbrev pub AreNumbered : List CallPackets → Type 0
AreNumbered rows = AllByRecursion IsNumbered rows
