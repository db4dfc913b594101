-- An input that was not read, or has a fault.
use Rattle.std.specs.Prelude.{◌≡◌, ℕ, ◌<◌, ◌⊎◌, List, Option, Some, length}
use Rattle.com_io.specs.Faults.{Rose}
use Rattle.com_io.specs.Told.{Gains, GainsPrefix}
use Rattle.com_read_operands.specs.declared.faults.Fault.{Fault}
use Rattle.com_commands.specs.declared.statuses.Status.{Status}
use Rattle.com_commands.specs.declared.statuses.Status.TheVariants as status
use Rattle.com_commands.specs.Responses.{TellsFault}
use Rattle.com_commands.specs.Statuses.{IsReadFault, Says, Sides, refused_line, too_long_line}

-- Where the source tells its bytes, they are more than so many.
abbrev pub IsLonger : ℕ → Option (List ℕ) → Type 0
IsLonger limit left = (bytes : List ℕ) → left ≡ Some bytes → limit < length bytes

-- The status of a command whose input of at most so many bytes was not read, and what was written of that.
unfoldable pub IsUnread : ℕ → Status → Sides → Type 0
IsUnread limit status.Done sides = ⊥
IsUnread limit status.Usage sides = ⊥
IsUnread limit status.Refused sides =
    IsLonger limit sides.left × Gains sides.held sides.held_after too_long_line
IsUnread limit status.ReadFault sides = IsReadFault sides
IsUnread limit status.WriteFault sides =
    Rose sides.write_faults sides.write_faults_after
    × ((IsLonger limit sides.left × GainsPrefix sides.held sides.held_after too_long_line) ⊎ TellsFault sides)
IsUnread limit status.Stuck sides = ⊥
IsUnread limit status.Budget sides = ⊥
IsUnread limit status.Differs sides = ⊥
IsUnread limit status.Memory sides = sides.held_after ≡ sides.held

-- A text was refused by the line of its fault; or want of memory came, and nothing was written.
abbrev pub Refuses : Fault → Status → Option (List ℕ) → Option (List ℕ) → ℕ → ℕ → Type 0
Refuses fault result held held_after faults faults_after =
    Says result status.Refused (refused_line fault) held held_after faults faults_after
    ⊎ ((result ≡ status.Memory) × (held_after ≡ held))
