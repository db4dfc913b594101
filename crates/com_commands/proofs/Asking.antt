-- The causes of the statuses of an input that was refused.
use Rattle.std.proofs.Common.{◌≡◌, ℕ, ◌<◌, ◌≤◌, inl, inr, List, length, sym, ◌∙◌, ap, subst, refl, Bool, true, false, Option, Some, Result, Ok, Err, IfOk, nat_lt, arith}
use Rattle.com_read_operands.specs.declared.faults.Fault.{Fault}
use Rattle.com_read_operands.specs.declared.faults.ScenarioError.{ScenarioError}
use Rattle.com_read_operands.specs.Reading.{Gives}
use Rattle.com_commands.specs.declared.inputs.Input.{Input}
use Rattle.com_commands.specs.declared.inputs.Input.TheVariants as input
use Rattle.com_commands.specs.declared.statuses.Status.{Status}
use Rattle.com_commands.specs.declared.statuses.Status.TheVariants as status
use Rattle.com_commands.specs.Inputs.{IsAnswer, IsSound, NoneFits, answer_of, input_of, read_as}
use Rattle.com_commands.specs.Responses.{Causes}
use Rattle.com_commands.specs.Statuses.{Says, Sides, refused_line, too_long_line}
use Rattle.com_commands.specs.Unread.{IsLonger, IsUnread, Refuses}

-- ---- what an input of given bytes is

pub short_text : (limit : ℕ) (bytes : List ℕ) → length bytes ≤ limit → nat_lt limit (length bytes) ≡ false
short_text limit bytes h = grind (arith, h)

is_longer : {T : Type 0} (too_long : List ℕ → Bool) (reading : List ℕ → Result T Fault) (bytes : List ℕ) → too_long bytes ≡ true
    → input_of too_long reading bytes ≡ input.TooLong
unfolding input_of
is_longer too_long reading bytes long = rw long refl

pub long_input : {T : Type 0} (too_long : List ℕ → Bool) (reading : List ℕ → Result T Fault) (bytes : List ℕ) → too_long bytes ≡ true
    → input.TooLong ≡ input_of too_long reading bytes
long_input too_long reading bytes long = sym (is_longer too_long reading bytes long)

pub faulty_input : {T : Type 0} (too_long : List ℕ → Bool) (reading : List ℕ → Result T Fault) (bytes : List ℕ) (fault : Fault)
    → too_long bytes ≡ false → reading bytes ≡ Err fault → input.Faulty fault ≡ input_of too_long reading bytes
unfolding input_of
faulty_input too_long reading bytes fault short is = rw (short, is) refl

pub reads_input : {T : Type 0} (too_long : List ℕ → Bool) (reading : List ℕ → Result T Fault) (bytes : List ℕ) (read : T)
    → too_long bytes ≡ false → reading bytes ≡ Ok read → input.Reads read ≡ input_of too_long reading bytes
unfolding input_of
reads_input too_long reading bytes read short is = rw (short, is) refl

-- ---- what a reader of texts answered

wanted-is : {T : Type 0} (read wanted : Result T Fault) → Gives (λ (x : T). x) (answer_of read) wanted → wanted ≡ read
wanted-is (Ok x) wanted e = e
wanted-is (Err f) wanted e = e

-- What was read is what the text spells, or its first fault.
pub given_read : {T : Type 0} (answer : Result T ScenarioError) (read wanted : Result T Fault) → answer ≡ answer_of read
    → Gives (λ (x : T). x) answer wanted → read ≡ wanted
given_read {T} answer read wanted is gives =
    sym (wanted-is read wanted (subst (λ (a : Result T ScenarioError). Gives (λ (x : T). x) a wanted) is gives))

pub given_input : {T : Type 0} (too_long : List ℕ → Bool) (reading : List ℕ → Result T Fault) (bytes : List ℕ)
    (answer : Result T ScenarioError) (read : Result T Fault) → too_long bytes ≡ false → answer ≡ answer_of read
    → Gives (λ (x : T). x) answer (reading bytes) → read_as read ≡ input_of too_long reading bytes
unfolding input_of
given_input too_long reading bytes answer read short is gives =
    rw short (ap read_as (given_read answer read (reading bytes) is gives))

sound-of : {T : Type 0} (Sound : T → Type 0) (read : Result T Fault) → IfOk (answer_of read) Sound → IsSound Sound (read_as read)
sound-of Sound (Ok x) p = p
sound-of Sound (Err f) p = tt

pub given_sound : {T : Type 0} (Sound : T → Type 0) (answer : Result T ScenarioError) (read : Result T Fault) → answer ≡ answer_of read
    → IfOk answer Sound → IsSound Sound (read_as read)
given_sound {T} Sound answer read is p = sound-of Sound read (subst (λ (a : Result T ScenarioError). IfOk a Sound) is p)

-- ---- a refusal

-- A line that refuses was said.
refusal_causes : {T : Type 0} (ask : List ℕ → Input T) (i : Input T) (line : List ℕ) (s : Status) (sides : Sides)
    → ((bytes : List ℕ) → sides.left ≡ Some bytes → ask bytes ≡ i) → IsAnswer NoneFits i status.Refused line
    → Says s status.Refused line sides.held sides.held_after sides.write_faults sides.write_faults_after
    → Causes ask NoneFits s sides
unfolding Causes
refusal_causes ask i line s sides which is (inl whole) =
    subst (λ (x : Status). Causes ask NoneFits x sides) (sym whole.0)
    (record { input = i; which = which; whole = record { text = line; answer = is; gained = whole.1 } })
refusal_causes ask i line s sides which is (inr part) =
    subst (λ (x : Status). Causes ask NoneFits x sides) (sym part.0) (
      part.1,
      inl (record {
        input = i;
        which = which;
        front = record { status = status.Refused; text = line; answer = is; gained = part.2 };
      }),
    )

longer_which : {T : Type 0} (limit : ℕ) (too_long : List ℕ → Bool) (reading : List ℕ → Result T Fault) (left : Option (List ℕ))
    → ((bytes : List ℕ) → limit < length bytes → too_long bytes ≡ true) → IsLonger limit left
    → (bytes : List ℕ) → left ≡ Some bytes → input_of too_long reading bytes ≡ input.TooLong
longer_which limit too_long reading left longer long bytes e = is_longer too_long reading bytes (longer bytes (long bytes e))

-- An input that was not read.
pub unread_causes : {T : Type 0} (limit : ℕ) (too_long : List ℕ → Bool) (reading : List ℕ → Result T Fault) (s : Status) (sides : Sides)
    → ((bytes : List ℕ) → limit < length bytes → too_long bytes ≡ true) → IsUnread limit s sides
    → Causes (input_of too_long reading) NoneFits s sides
unfolding Causes IsUnread
unread_causes limit too_long reading status.Refused sides longer (long, gained) = record {
  input = input.TooLong;
  which = longer_which limit too_long reading sides.left longer long;
  whole = record { text = too_long_line; answer = (refl, refl); gained = gained };
}
unread_causes limit too_long reading status.ReadFault sides longer unread = unread
unread_causes limit too_long reading status.WriteFault sides longer (rose, inl part) = (
  rose,
  inl (record {
    input = input.TooLong;
    which = longer_which limit too_long reading sides.left longer part.0;
    front = record { status = status.Refused; text = too_long_line; answer = (refl, refl); gained = part.1 };
  }),
)
unread_causes limit too_long reading status.WriteFault sides longer (rose, inr fault) = (rose, inr fault)
unread_causes limit too_long reading status.Memory sides longer unread = inl unread
unread_causes limit too_long reading _ sides longer unread = absurd unread

pub memory_causes : {T : Type 0} (ask : List ℕ → Input T) (sides : Sides) → sides.held_after ≡ sides.held → Causes ask NoneFits status.Memory sides
unfolding Causes
memory_causes ask sides same = inl same

-- An input that was read: what the reader makes of it.
pub reads_told : {T : Type 0} (too_long : List ℕ → Bool) (reading : List ℕ → Result T Fault) (left : Option (List ℕ)) (text : List ℕ) (i : Input T)
    → ((bytes : List ℕ) → left ≡ Some bytes → bytes ≡ text) → i ≡ input_of too_long reading text
    → (bytes : List ℕ) → left ≡ Some bytes → input_of too_long reading bytes ≡ i
reads_told too_long reading left text i told is bytes e = ap (input_of too_long reading) (told bytes e) ∙ sym is

pub long_causes : {T : Type 0} (too_long : List ℕ → Bool) (reading : List ℕ → Result T Fault) (text : List ℕ) (s : Status) (sides : Sides)
    → ((bytes : List ℕ) → sides.left ≡ Some bytes → bytes ≡ text) → input.TooLong ≡ input_of too_long reading text
    → Says s status.Refused too_long_line sides.held sides.held_after sides.write_faults sides.write_faults_after
    → Causes (input_of too_long reading) NoneFits s sides
long_causes too_long reading text s sides told is said =
    refusal_causes (input_of too_long reading) input.TooLong too_long_line s sides
    (reads_told too_long reading sides.left text input.TooLong told is) (refl, refl) said

pub fault_causes : {T : Type 0} (too_long : List ℕ → Bool) (reading : List ℕ → Result T Fault) (text : List ℕ) (fault : Fault) (s : Status) (sides : Sides)
    → ((bytes : List ℕ) → sides.left ≡ Some bytes → bytes ≡ text) → input.Faulty fault ≡ input_of too_long reading text
    → Refuses fault s sides.held sides.held_after sides.write_faults sides.write_faults_after
    → Causes (input_of too_long reading) NoneFits s sides
fault_causes too_long reading text fault s sides told is (inl said) =
    refusal_causes (input_of too_long reading) (input.Faulty fault) (refused_line fault) s sides
    (reads_told too_long reading sides.left text (input.Faulty fault) told is) (refl, refl) said
fault_causes too_long reading text fault s sides told is (inr nothing) =
    subst (λ (x : Status). Causes (input_of too_long reading) NoneFits x sides) (sym nothing.0)
    (memory_causes (input_of too_long reading) sides nothing.1)
