-- The causes of the statuses of an input that was not read.
use Rattle.std.proofs.Common.{◌≡◌, ℕ, inl, inr, List, sym, ◌∙◌, subst, Option, Some, Result, Ok, Err, refl}
use Rattle.com_read_operands.specs.declared.faults.Fault.{Fault}
use Rattle.com_io.specs.declared.whole.ReadAllError.{ReadAllError}
use Rattle.com_io.specs.declared.whole.ReadAllError.TheVariants as read_all_error
use Rattle.com_io.specs.Faults.{Rose}
use Rattle.com_io.specs.Told.{IsWholeOf}
use Rattle.com_commands.specs.declared.statuses.Status.{Status}
use Rattle.com_commands.specs.declared.statuses.Status.TheVariants as status
use Rattle.com_commands.specs.Statuses.{Says, Sides, read_fault_line, refused_line, too_long_line}
use Rattle.com_commands.specs.Unread.{IsLonger, IsUnread, Refuses}

-- What was said of a read fault.
pub fault_unread : (limit : ℕ) (result : Status) (sides : Sides) → Rose sides.read_faults sides.read_faults_after
    → Says result status.ReadFault read_fault_line sides.held sides.held_after sides.write_faults sides.write_faults_after
    → IsUnread limit result sides
unfolding IsUnread
fault_unread limit result sides rose (inl whole) =
    subst (λ (x : Status). IsUnread limit x sides) (sym whole.0) (record { rose = rose; gained = whole.1 })
fault_unread limit result sides rose (inr part) =
    subst (λ (x : Status). IsUnread limit x sides) (sym part.0) (part.1, inr (rose, part.2))

-- What was said of an input that is too long.
pub long_unread : (limit : ℕ) (result : Status) (sides : Sides) → IsLonger limit sides.left
    → Says result status.Refused too_long_line sides.held sides.held_after sides.write_faults sides.write_faults_after
    → IsUnread limit result sides
unfolding IsUnread
long_unread limit result sides long (inl whole) =
    subst (λ (x : Status). IsUnread limit x sides) (sym whole.0) (long, whole.1)
long_unread limit result sides long (inr part) =
    subst (λ (x : Status). IsUnread limit x sides) (sym part.0) (part.1, inl (long, part.2))

-- Where memory wanted, nothing was written.
pub memory_unread : (limit : ℕ) (sides : Sides) → sides.held_after ≡ sides.held → IsUnread limit status.Memory sides
unfolding IsUnread
memory_unread limit sides same = same

-- An input that was told and came with too many bytes.
pub told_longer : (limit : ℕ) (left : Option (List ℕ)) (answer : Result (List ℕ) ReadAllError)
    → ((bytes : List ℕ) → left ≡ Some bytes → IsWholeOf limit bytes answer) → answer ≡ Err read_all_error.TooLong
    → IsLonger limit left
told_longer limit left answer told is bytes e =
    subst (λ (a : Result (List ℕ) ReadAllError). IsWholeOf limit bytes a) is (told bytes e)

-- An input that was told and read whole is what was read.
pub told_read : (limit : ℕ) (left : Option (List ℕ)) (answer : Result (List ℕ) ReadAllError) (text : List ℕ)
    → ((bytes : List ℕ) → left ≡ Some bytes → IsWholeOf limit bytes answer) → answer ≡ Ok text
    → (bytes : List ℕ) → left ≡ Some bytes → bytes ≡ text
told_read limit left answer text told is bytes e =
    sym (subst (λ (a : Result (List ℕ) ReadAllError). IsWholeOf limit bytes a) is (told bytes e)).0

-- Only want of memory writes nothing of an input that was not read.
pub unread_memory : (limit : ℕ) (s : Status) (sides : Sides) → IsUnread limit s sides → s ≡ status.Memory → sides.held_after ≡ sides.held
unfolding IsUnread
unread_memory limit s sides unread is = subst (λ (x : Status). IsUnread limit x sides) is unread

-- ---- the line of a fault

pub line_refuses : (fault : Fault) (line slice : List ℕ) (result : Status) (held held_after : Option (List ℕ)) (faults faults_after : ℕ)
    → slice ≡ line → line ≡ refused_line fault → Says result status.Refused slice held held_after faults faults_after
    → Refuses fault result held held_after faults faults_after
line_refuses fault line slice result held held_after faults faults_after same is said =
    inl (subst (λ (t : List ℕ). Says result status.Refused t held held_after faults faults_after) (same ∙ is) said)

pub nothing_refuses : (fault : Fault) (held held_after : Option (List ℕ)) (faults faults_after : ℕ) → held_after ≡ held
    → Refuses fault status.Memory held held_after faults faults_after
nothing_refuses fault held held_after faults faults_after same = inr (refl, same)

-- A line that was said goes with no want of memory.
pub refuses_unwritten : (fault : Fault) (result : Status) (held held_after : Option (List ℕ)) (faults faults_after : ℕ)
    → Refuses fault result held held_after faults faults_after → result ≡ status.Memory → held_after ≡ held
refuses_unwritten fault result held held_after faults faults_after (inl (inl whole)) is =
    absurd (let no : status.Refused ≡ status.Memory = sym whole.0 ∙ is in cc)
refuses_unwritten fault result held held_after faults faults_after (inl (inr part)) is =
    absurd (let no : status.WriteFault ≡ status.Memory = sym part.0 ∙ is in cc)
refuses_unwritten fault result held held_after faults faults_after (inr nothing) is = nothing.1
