-- What is seen of the parts and of the ledger of a core: all but room.
use Rattle.std.specs.Prelude.{[], None}
use Rattle.com_calls.specs.Kept.{with_room}
use Rattle.com_lanes.specs.First.{first_lanes}
use Rattle.com_refs_rows.specs.Books.{Held}
use Rattle.com_parts.specs.Tables.{PartRooms, PartTables}

-- No room for anything.
abbrev pub no_rooms : PartRooms
no_rooms = record {
  lanes = record {
    tables = first_lanes 0;
    openers = [];
    mail = [];
    stas = record { tables = record { made = []; stas = []; ended = [] }; makers = []; made = 0; over = 0 };
  };
  objects = record { tables = record { makings = []; finaled = [] }; made = 0; gone = 0 };
  scene = record { seats = []; calls = 0; objects = 0 };
  taken = record { acting = None; packet = None; after = None; body = None; value = None };
  owners = [];
}

-- The parts without what is said of room.
abbrev pub parts_shown : PartTables → PartTables
parts_shown p = record p { calls = with_room p.calls 0 0; rooms = no_rooms }

-- Who holds references, without what is said of room.
abbrev pub held_shown : Held → Held
held_shown w = record w { tables = record w.tables { spare = 0 } }
