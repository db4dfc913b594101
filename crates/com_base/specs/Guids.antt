-- GUIDs: their bytes on the wire and their text.
use Rattle.std.specs.Prelude.{◌≡◌, ℕ, ◌^◌, ◌<◌, List, ◌++◌, Option, length, take, drop, replicate}
use Rattle.std.specs.Prelude.{slice_index}
use Rattle.std.specs.Option.{option_map}
use Rattle.std.specs.Int.{to_le_bytes, from_le_bytes, to_be_bytes, from_be_bytes, w16, w32}
use Rattle.uuid.specs.Text.{upper, braced_text, parsed_braced}
use Rattle.com_base.specs.declared.guid.Guid.{Guid}

-- Each item is a byte.
abbrev pub IsBytes : List ℕ → Type 0
IsBytes bytes = (i : ℕ) → slice_index bytes i < 256

-- A GUID as its type has it: numbers of 32 and 16 bits, and eight bytes.
pub record IsGuid (g : Guid) : Type 0 where
  pub data1 : g.data1 < 2 ^ 32
  pub data2 : g.data2 < 2 ^ 16
  pub data3 : g.data3 < 2 ^ 16
  pub eight : length g.data4 ≡ 8
  pub bytes : IsBytes g.data4

-- The GUID whose fields are all zero.
abbrev pub zero_guid : Guid
zero_guid = record { data1 = 0; data2 = 0; data3 = 0; data4 = replicate 8 0 }

-- The 16 bytes on the wire: the first three fields little-endian, then the fourth as it is.
abbrev pub wire_of : Guid → List ℕ
wire_of g = to_le_bytes w32 g.data1 ++ to_le_bytes w16 g.data2 ++ to_le_bytes w16 g.data3 ++ g.data4

-- The GUID that 16 bytes on the wire are.
abbrev pub guid_of_wire : List ℕ → Guid
guid_of_wire bytes = record {
  data1 = from_le_bytes w32 (take 4 bytes);
  data2 = from_le_bytes w16 (take 2 (drop 4 bytes));
  data3 = from_le_bytes w16 (take 2 (drop 6 bytes));
  data4 = drop 8 bytes;
}

-- The 16 bytes in the order in which a text shows them: each field from its high byte down.
abbrev pub reading_order_of : Guid → List ℕ
reading_order_of g = to_be_bytes w32 g.data1 ++ to_be_bytes w16 g.data2 ++ to_be_bytes w16 g.data3 ++ g.data4

-- The GUID that 16 bytes in this order are.
abbrev pub guid_of_reading_order : List ℕ → Guid
guid_of_reading_order bytes = record {
  data1 = from_be_bytes w32 (take 4 bytes);
  data2 = from_be_bytes w16 (take 2 (drop 4 bytes));
  data3 = from_be_bytes w16 (take 2 (drop 6 bytes));
  data4 = drop 8 bytes;
}

-- The text in braces and upper case: digits in groups of 8, 4, 4, 4 and 12, with hyphens between.
abbrev pub text_of : Guid → List ℕ
text_of g = braced_text upper (reading_order_of g)

-- The GUID of a text of that form, with digits of either case, if it is one.
abbrev pub guid_of_text : List ℕ → Option Guid
guid_of_text text = option_map guid_of_reading_order (parsed_braced text)
