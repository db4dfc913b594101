-- What an input is, and what is answered for it.
--
-- A command is told by three things: which texts are too long for it (`too_long`), how it reads a text
-- (`reading`: what the text spells, or its first fault), and which status and text answer what was read
-- (`Fits`).
use Rattle.std.specs.Prelude.{◌≡◌, ℕ, List, Bool, ⊤, Result, Ok, Err, if◌then◌else◌}
use Rattle.com_read_operands.specs.declared.faults.Fault.{Fault}
use Rattle.com_read_operands.specs.declared.faults.ScenarioError.{ScenarioError}
use Rattle.com_read_operands.specs.Reading.{error_of}
use Rattle.com_commands.specs.declared.inputs.Input.{Input}
use Rattle.com_commands.specs.declared.inputs.Input.TheVariants as input
use Rattle.com_commands.specs.declared.statuses.Status.{Status}
use Rattle.com_commands.specs.declared.statuses.Status.TheVariants as status
use Rattle.com_commands.specs.Statuses.{refused_line, too_long_line}

-- What a reader of texts answers that has memory enough.
abbrev pub answer_of : {T : Type 0} → Result T Fault → Result T ScenarioError
answer_of (Err fault) = Err (error_of fault)
answer_of (Ok read) = Ok read

-- A text that was read, as an input: it reads as what it spells, or it is faulty by its first fault.
abbrev pub read_as : {T : Type 0} → Result T Fault → Input T
read_as (Err fault) = input.Faulty fault
read_as (Ok read) = input.Reads read

-- What an input of these bytes is: its length is judged first, and then its text.
unfoldable pub input_of : {T : Type 0} (too_long : List ℕ → Bool) (reading : List ℕ → Result T Fault)
    → List ℕ → Input T
input_of too_long reading bytes = if too_long bytes then input.TooLong else read_as (reading bytes)

-- The status of an input and the text that is written for it: the line of a refusal; or what answers that
-- which was read.
abbrev pub IsAnswer : {T : Type 0} (Fits : T → Status → List ℕ → Type 0) → Input T → Status → List ℕ → Type 0
IsAnswer Fits input.TooLong s text = (s ≡ status.Refused) × (text ≡ too_long_line)
IsAnswer Fits (input.Faulty fault) s text = (s ≡ status.Refused) × (text ≡ refused_line fault)
IsAnswer Fits (input.Reads read) s text = Fits read s text

-- What was read is sound.
abbrev pub IsSound : {T : Type 0} (Sound : T → Type 0) → Input T → Type 0
IsSound Sound (input.Reads read) = Sound read
IsSound Sound _ = ⊤

-- Nothing that can be read is answered: so an answer is that of an input that is too long or has a fault.
abbrev pub NoneFits : {T : Type 0} → T → Status → List ℕ → Type 0
NoneFits read s text = ⊥

-- A command that reads nothing is asked the same, whatever the bytes.
abbrev pub always : {T : Type 0} → T → List ℕ → Input T
always read bytes = input.Reads read
