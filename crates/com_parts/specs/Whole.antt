-- What holds of the parts between entries.
use Rattle.std.specs.Prelude.{ℕ, ◌≤◌, length, slice_index_or}
use Rattle.com_calls.specs.Kept.{Kept, IsNamed}
use Rattle.com_model.specs.Calls.{object_of}
use Rattle.com_model.specs.Waiting.{no_mail}
use Rattle.com_state.specs.Parts.{LaneTables, ObjectTables, served_at, issue_at}
use Rattle.com_parts.specs.declared.parts.TheConstants.{MOST_ENTRIES}

-- No lane has counted more than so many, and no more apartments were made.
pub record Counted (t : LaneTables) (n : ℕ) : Type 0 where
  pub served : (l : ℕ) → served_at t l ≤ n
  pub counts : (l : ℕ) → slice_index_or t.counts l 0 ≤ n
  pub posted : (l : ℕ) → (slice_index_or t.mail l no_mail).posted ≤ n
  pub stas : length t.stas ≤ n

-- Each entry counts at most one more of each sort; the apartment that is kept of a call is that of its
-- target; and each call's target was made.
pub record IsWhole (l : LaneTables) (o : ObjectTables) (b : Kept) (n : ℕ) : Type 0 where
  pub few : n ≤ MOST_ENTRIES
  pub counted : Counted l n
  pub made : length o.makings ≤ n
  pub issued : length b.tables.issues ≤ n
  pub named : IsNamed o b
  pub targets : (c : ℕ) → object_of (issue_at b.tables c) ≤ length o.makings
