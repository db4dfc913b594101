-- Sources and sinks in memory.
use Rattle.std.specs.Prelude.{ℕ, ◌-◌, ◌==◌, ◌||◌, min, List, length, drop, ◌++◌, Bool}
use Rattle.std.specs.List.{list_any}
use Rattle.com_io.specs.Faults.{one_more}

-- a source: the bytes left, the most that one read gives, the numbers of the reads that fail,
-- how many reads were made, and the count of faults
pub record Input : Type 0 where
  pub left : List ℕ
  pub piece : ℕ
  pub failing : List ℕ
  pub calls : ℕ
  pub faults : ℕ

-- a sink: the bytes held, for how many more there is room, the most that one write takes,
-- the numbers of the writes that fail, how many writes were made, and the count of faults
pub record Output : Type 0 where
  pub held : List ℕ
  pub room : ℕ
  pub piece : ℕ
  pub failing : List ℕ
  pub calls : ℕ
  pub faults : ℕ

-- whether the next call, after so many, is one of those that fail
abbrev pub next_fails : List ℕ → ℕ → Bool
next_fails failing calls = list_any (λ number. number == one_more calls) failing

-- how many bytes a read gives to so much room
abbrev pub read_count : Input → ℕ → ℕ
read_count s room = min (min s.piece room) (length s.left)

-- a source after a read that gave so many bytes, and after one that failed
abbrev pub after_read : Input → ℕ → Input
after_read s count = record s { left = drop count s.left; calls = one_more s.calls }

abbrev pub after_failed_read : Input → Input
after_failed_read s = record s { calls = one_more s.calls; faults = one_more s.faults }

-- whether the next write fails
abbrev pub write_fails : Output → Bool
write_fails s = s.room == 0 || next_fails s.failing s.calls

-- how many bytes of a text of this length a write takes
abbrev pub write_count : Output → ℕ → ℕ
write_count s given = min (min s.piece s.room) given

-- a sink after a write that took these bytes, and after one that failed
abbrev pub after_write : Output → List ℕ → Output
after_write s taken = record s {
  held = s.held ++ taken;
  room = s.room - length taken;
  calls = one_more s.calls;
}

abbrev pub after_failed_write : Output → Output
after_failed_write s = record s { calls = one_more s.calls; faults = one_more s.faults }
