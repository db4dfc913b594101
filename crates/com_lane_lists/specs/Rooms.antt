-- What a contract sees of the lists of lanes: what is in them, and for how much each that grows has room.
use Rattle.std.specs.Prelude.{ℕ, ◌<◌, List, [], length, map}
use Rattle.com_model.specs.declared.keeps.Opener.{Opener}
use Rattle.com_model.specs.Openers.{open_calls}
use Rattle.com_model.specs.Waiting.{Mail, no_mail}
use Rattle.com_lane_lists.specs.Apartments.{StaTables}
use Rattle.com_lane_lists.specs.Bodies.{bodies_of}

-- A list, and how many it has room for.
pub record Roomed (X : Type 0) : Type 0 where
  pub rows : List X
  pub room : ℕ

-- The openers of a lane, and for how many there is room: of all, of bodies, and of calls that are waited for.
pub record OpenerRows : Type 0 where
  pub openers : List Opener
  pub room : ℕ
  pub bodies : ℕ
  pub waits : ℕ

-- The words of a lane with the marks of its calls, and for how many of both there is room.
pub record MailRows : Type 0 where
  pub mail : Mail
  pub words : ℕ
  pub marks : ℕ

-- The apartments that threads make; those of each lane with the room for more; and for how many there is
-- room: of all, and of those that ended.
pub record StaRows : Type 0 where
  pub tables : StaTables
  pub makers : List (Roomed ℕ)
  pub made : ℕ
  pub over : ℕ

-- The openers of each lane, without the room.
abbrev pub openers_in : List OpenerRows → List (List Opener)
openers_in t = map (λ (r : OpenerRows). r.openers) t

-- The words and marks of each lane, without the room.
abbrev pub mail_in : List MailRows → List Mail
mail_in t = map (λ (r : MailRows). r.mail) t

abbrev pub numbers_in : List (Roomed ℕ) → List (List ℕ)
numbers_in t = map (λ (r : Roomed ℕ). r.rows) t

-- What a lane without a row has: it takes whatever comes.
abbrev pub no_opener : OpenerRows
no_opener = record { openers = []; room = 1; bodies = 1; waits = 1 }

-- A lane without a row has no word and no mark, and takes one of each.
abbrev pub no_word : MailRows
no_word = record { mail = no_mail; words = 1; marks = 1 }

-- A lane without a row made no apartment, and one has room.
abbrev pub no_number : Roomed ℕ
no_number = record { rows = []; room = 1 }

-- One opener more has room, of whatever kind.
abbrev pub HasSlot : OpenerRows → Type 0
HasSlot r = (length r.openers < r.room) × (length (bodies_of r.openers) < r.bodies)
    × (length (open_calls r.openers) < r.waits)

-- One row more has room.
abbrev pub HasRow : {X : Type 0} → Roomed X → Type 0
HasRow r = length r.rows < r.room

-- One word more has room.
abbrev pub HasWord : MailRows → Type 0
HasWord r = length r.mail.words < r.words

-- One mark more has room: that of a call which is asked about a word for the first time.
abbrev pub HasMark : MailRows → Type 0
HasMark r = length r.mail.marks < r.marks
