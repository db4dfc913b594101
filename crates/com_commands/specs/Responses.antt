-- How a command answers: when each of its statuses comes.
use Rattle.std.specs.Prelude.{◌≡◌, ℕ, ◌⊎◌, List, Option, Some}
use Rattle.com_io.specs.Faults.{Rose}
use Rattle.com_io.specs.Told.{Gains, GainsPrefix, IsAtEnd}
use Rattle.com_commands.specs.declared.statuses.TheConstants.{MEMORY_CODE}
use Rattle.com_commands.specs.declared.inputs.Input.{Input}
use Rattle.com_commands.specs.declared.statuses.Status.{Status}
use Rattle.com_commands.specs.declared.statuses.Status.TheVariants as status
use Rattle.com_commands.specs.Inputs.{IsAnswer}
use Rattle.com_commands.specs.Statuses.{IsEnd, IsReadFault, Sides, code_of, read_fault_line}

-- ---- what was read, and the sink

-- The sink gained the whole of a text that answers with this status.
pub record GainsWhole (Answer : Status → List ℕ → Type 0) (s : Status) (held held_after : Option (List ℕ))
    : Type 0 where
  pub text : List ℕ
  pub answer : Answer s text
  pub gained : Gains held held_after text

-- The sink gained the front of a text that answers.
pub record GainsFront (Answer : Status → List ℕ → Type 0) (held held_after : Option (List ℕ)) : Type 0 where
  pub status : Status
  pub text : List ℕ
  pub answer : Answer status text
  pub gained : GainsPrefix held held_after text

-- How it was answered: by its status and its whole text; or a front of the text was written, and the sink's
-- count rose or want of memory came.
abbrev pub IsAnswered : (Answer : Status → List ℕ → Type 0) → Status → (held held_after : Option (List ℕ))
    → (faults faults_after : ℕ) → Type 0
IsAnswered Answer s held held_after faults faults_after =
    GainsWhole Answer s held held_after
    ⊎ ((s ≡ status.WriteFault) × Rose faults faults_after × GainsFront Answer held held_after)
    ⊎ ((s ≡ status.Memory) × ((held_after ≡ held) ⊎ GainsFront Answer held held_after))

-- ---- the input

-- The sink gained the whole text of the answer of this status to the input: that of the bytes which the
-- source had left, where it tells them.
pub record GivesWhole {T : Type 0} (ask : List ℕ → Input T) (Fits : T → Status → List ℕ → Type 0)
    (s : Status) (sides : Sides) : Type 0 where
  pub input : Input T
  pub which : (bytes : List ℕ) → sides.left ≡ Some bytes → ask bytes ≡ input
  pub whole : GainsWhole (IsAnswer Fits input) s sides.held sides.held_after

-- The sink gained a front of the text of an answer to the input.
pub record GivesFront {T : Type 0} (ask : List ℕ → Input T) (Fits : T → Status → List ℕ → Type 0)
    (sides : Sides) : Type 0 where
  pub input : Input T
  pub which : (bytes : List ℕ) → sides.left ≡ Some bytes → ask bytes ≡ input
  pub front : GainsFront (IsAnswer Fits input) sides.held sides.held_after

-- A read fault came, and the sink gained a prefix of the line that says so.
abbrev pub TellsFault : Sides → Type 0
TellsFault sides =
    Rose sides.read_faults sides.read_faults_after × GainsPrefix sides.held sides.held_after read_fault_line

-- Each status has its cause. A refused input need not have been read to its end. Want of memory is free, and
-- what was written is a prefix of the text.
unfoldable pub Causes : {T : Type 0} (ask : List ℕ → Input T) (Fits : T → Status → List ℕ → Type 0)
    → Status → Sides → Type 0
Causes ask Fits status.Done sides = IsAtEnd sides.left_after × GivesWhole ask Fits status.Done sides
Causes ask Fits status.Usage sides = ⊥
Causes ask Fits status.Refused sides = GivesWhole ask Fits status.Refused sides
Causes ask Fits status.ReadFault sides = IsReadFault sides
Causes ask Fits status.WriteFault sides =
    Rose sides.write_faults sides.write_faults_after × (GivesFront ask Fits sides ⊎ TellsFault sides)
Causes ask Fits status.Stuck sides = IsAtEnd sides.left_after × GivesWhole ask Fits status.Stuck sides
Causes ask Fits status.Budget sides = IsAtEnd sides.left_after × GivesWhole ask Fits status.Budget sides
Causes ask Fits status.Differs sides = IsAtEnd sides.left_after × GivesWhole ask Fits status.Differs sides
Causes ask Fits status.Memory sides = (sides.held_after ≡ sides.held) ⊎ GivesFront ask Fits sides

-- The code is that of a status that has its cause.
pub record Responds {T : Type 0} (ask : List ℕ → Input T) (Fits : T → Status → List ℕ → Type 0)
    (code : ℕ) (sides : Sides) : Type 0 where
  pub status : Status
  pub number : code ≡ code_of status
  pub cause : Causes ask Fits status sides

-- ---- servants

-- What was read has the answer, and its history took the servants' counts of steps from these to those.
abbrev pub FitsServed : {T : Type 0} (Fits : T → Status → List ℕ → Type 0) (served : T → List ℕ → List ℕ)
    (steps steps_after : List ℕ) → T → Status → List ℕ → Type 0
FitsServed Fits served steps steps_after read s text = Fits read s text × (steps_after ≡ served read steps)

-- The code is that of a status; and where that is 0, 5 or 6, an input was answered whole whose history took
-- the servants' counts of steps from these to those.
pub record Serves {T : Type 0} (ask : List ℕ → Input T) (Fits : T → Status → List ℕ → Type 0)
    (served : T → List ℕ → List ℕ) (code : ℕ) (sides : Sides) (steps steps_after : List ℕ) : Type 0 where
  pub status : Status
  pub number : code ≡ code_of status
  pub counted : IsEnd status → GivesWhole ask (FitsServed Fits served steps steps_after) status sides

-- ---- completeness

-- The input of these bytes was answered whole.
pub record IsWholeAnswer {T : Type 0} (ask : List ℕ → Input T) (Fits : T → Status → List ℕ → Type 0)
    (code : ℕ) (sides : Sides) (bytes : List ℕ) : Type 0 where
  pub status : Status
  pub number : code ≡ code_of status
  pub whole : GainsWhole (IsAnswer Fits (ask bytes)) status sides.held sides.held_after

-- Where the input was told and no count of faults rose, it was answered whole; or want of memory came.
abbrev pub RespondsWhole : {T : Type 0} (ask : List ℕ → Input T) (Fits : T → Status → List ℕ → Type 0)
    → Type 0
RespondsWhole ask Fits = (code : ℕ) (sides : Sides) (bytes : List ℕ) → Responds ask Fits code sides
    → sides.left ≡ Some bytes
    → (Rose sides.read_faults sides.read_faults_after → ⊥)
    → (Rose sides.write_faults sides.write_faults_after → ⊥)
    → IsWholeAnswer ask Fits code sides bytes ⊎ (code ≡ MEMORY_CODE)
