-- What a contract sees of the lanes: their tables, and how much each list that grows has room for.
use Rattle.std.specs.Prelude.{ℕ, ◌<◌, List, length, Option, Some, None, slice_index_or}
use Rattle.com_lane_lists.specs.Rooms.{OpenerRows, MailRows, StaRows, HasMark, HasRow, HasSlot, HasWord}
use Rattle.com_lane_lists.specs.Rooms.{no_number, no_opener, no_word}
use Rattle.com_model.specs.declared.deeds.Deed.{Deed}
use Rattle.com_model.specs.declared.deeds.Deed.TheVariants as deed
use Rattle.com_model.specs.Apartments.{makes_sta, ends_sta}
use Rattle.com_state.specs.Parts.{LaneTables}
use Rattle.com_lanes.specs.Changes.{natural}

-- The tables of the lanes, and the lists of them that grow.
pub record LaneRows : Type 0 where
  pub tables : LaneTables
  pub openers : List OpenerRows
  pub mail : List MailRows
  pub stas : StaRows

-- A word to the lane, if there is one, has room.
abbrev pub HasWordTo : List MailRows → Option ℕ → Type 0
HasWordTo t None = Unit {0}
HasWordTo t (Some l) = HasWord (slice_index_or t l no_word)

-- The apartment that a lane makes has room, if it makes one; and the end of one, if it ends one.
abbrev pub HasSta : StaRows → (lane : ℕ) → Option ℕ → Type 0
HasSta s l None = Unit {0}
HasSta s l (Some a) = (length s.tables.stas < s.made) × HasRow (slice_index_or s.makers l no_number)

abbrev pub HasEnd : StaRows → Option ℕ → Type 0
HasEnd s None = Unit {0}
HasEnd s (Some a) = length s.tables.ended < s.over

-- All that an entry of a lane brings has room.
abbrev pub HasSpace : LaneRows → (lane : ℕ) → Deed → Type 0
HasSpace k l (deed.Pump n) = HasSlot (slice_index_or k.openers l no_opener)
HasSpace k l (deed.Out c o i m r y bytes) = HasSlot (slice_index_or k.openers l no_opener)
HasSpace k l (deed.Enter c o a y values) = HasSlot (slice_index_or k.openers l no_opener)
HasSpace k l (deed.Init mode home hr) = HasSta k.stas l (makes_sta (deed.Init mode home hr))
HasSpace k l (deed.Uninit home n) = HasEnd k.stas (ends_sta (deed.Uninit home n))
HasSpace k l (deed.Post to w hr) = HasWordTo k.mail (natural to)
HasSpace k l (deed.Pending c w a) = HasMark (slice_index_or k.mail l no_word)
HasSpace k l _ = Unit {0}
