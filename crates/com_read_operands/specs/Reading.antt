-- Reading a line, word by word from the left, with the first fault that is met.
use Rattle.std.specs.Prelude.{◌≡◌, ℕ, ◌-◌, List, Option, Some, None, Result, Ok, Err, Bool, true, false, ◌&&◌}
use Rattle.std.specs.Prelude.{nat_le, if◌then◌else◌, slice_get}
use Rattle.com_text.specs.declared.word.Sort.{Sort}
use Rattle.com_text.specs.declared.word.Sort.TheVariants as sorts
use Rattle.com_text.specs.Words.{WordAt}
use Rattle.com_read_operands.specs.declared.faults.Fault.{Fault}
use Rattle.com_read_operands.specs.declared.faults.ScenarioError.{ScenarioError}
use Rattle.com_read_operands.specs.declared.faults.ScenarioError.TheVariants as errors
use Rattle.com_read_operands.specs.declared.faults.TheConstants.Fault.{CHARACTER, EXTRA, MISSING, NUMBER}
use Rattle.com_read_operands.specs.declared.faults.TheConstants.Fault.{UNEXPECTED}
use Rattle.com_read_operands.specs.Numbers.{number_of}

-- one step after another: the first fault ends the reading
infixl 10 ◌>>=◌
abbrev pub ◌>>=◌ : {A B : Type 0} → Result A Fault → (A → Result B Fault) → Result B Fault
(Ok x) >>= f = f x
(Err e) >>= f = Err e

-- a fault as the error that a reader returns
abbrev pub error_of : Fault → ScenarioError
error_of f = errors.Fault f.number f.line f.column

-- What a function failed with agrees with reading: it is the fault that reading gives, or want of memory.
abbrev pub Fails : {Y : Type 0} → ScenarioError → Result Y Fault → Type 0
Fails errors.Memory read = Unit {0}
Fails (errors.Fault n l c) read = read ≡ Err (record { number = n; line = l; column = c })

-- What a function returned agrees with reading: it is the value, seen by `view`, or the fault, or want of memory.
abbrev pub Gives : {X Y : Type 0} → (X → Y) → Result X ScenarioError → Result Y Fault → Type 0
Gives view (Ok x) read = read ≡ Ok (view x)
Gives view (Err e) read = Fails e read

-- a fault at a word
abbrev pub fault_at : ℕ → WordAt → Fault
fault_at n w = record { number = n; line = w.line; column = w.column }

-- a byte outside the characters
abbrev pub character_at : WordAt → ℕ → Fault
character_at w c = record { number = CHARACTER; line = w.line; column = c }

-- the line ends where a word is needed: behind the word before
abbrev pub missing_at : Option WordAt → Fault
missing_at None = record { number = MISSING; line = 1; column = 1 }
missing_at (Some w) = record { number = MISSING; line = w.line; column = w.after }

-- a word as such: one with a byte outside the characters, or a literal that is not closed, is not judged
-- otherwise
abbrev pub judged : List WordAt → ℕ → WordAt → Sort → Result WordAt Fault
judged line k w (sorts.Stray c) = Err (character_at w c)
judged line k w (sorts.Remark c) = Err (missing_at (slice_get line (k - 1)))
judged line k w sorts.Unclosed = Err (fault_at UNEXPECTED w)
judged line k w _ = Ok w

-- the word where one is needed; where the line ends, the fault is behind the word before
abbrev pub needed : List WordAt → ℕ → Option WordAt → Result WordAt Fault
needed line k None = Err (missing_at (slice_get line (k - 1)))
needed line k (Some w) = judged line k w w.sort

-- the word at an index of the line
unfoldable pub word_at : List WordAt → ℕ → Result WordAt Fault
word_at line k = needed line k (slice_get line k)

-- a word that stands there; a comment is one only for a byte outside the characters, and that is the fault
abbrev pub is_word : WordAt → Sort → Result Bool Fault
is_word w (sorts.Remark c) = Err (character_at w c)
is_word w _ = Ok true

-- whether a word stands there; a comment that does is a fault
abbrev pub is_there : Option WordAt → Result Bool Fault
is_there None = Ok false
is_there (Some w) = is_word w w.sort

-- whether a word stands at an index where the line may end
unfoldable pub stands_at : List WordAt → ℕ → Result Bool Fault
stands_at line k = is_there (slice_get line k)

-- the fault of a word where the line has to end: what is wrong with it as such, and otherwise `EXTRA`
abbrev pub left_over : WordAt → Sort → Result (Unit {0}) Fault
left_over w (sorts.Stray c) = Err (character_at w c)
left_over w (sorts.Remark c) = Err (character_at w c)
left_over w sorts.Unclosed = Err (fault_at UNEXPECTED w)
left_over w _ = Err (fault_at EXTRA w)

-- no word where the line has to end; a word there is a fault
abbrev pub nothing : Option WordAt → Result (Unit {0}) Fault
nothing None = Ok tt
nothing (Some w) = left_over w w.sort

-- no word stands from this index on
unfoldable pub end_at : List WordAt → ℕ → Result (Unit {0}) Fault
end_at line k = nothing (slice_get line k)

-- the first word as such: a byte outside the characters is the fault at its column, in a comment too
abbrev pub opening : WordAt → Sort → Result WordAt Fault
opening w (sorts.Stray c) = Err (character_at w c)
opening w (sorts.Remark c) = Err (character_at w c)
opening w sorts.Unclosed = Err (fault_at UNEXPECTED w)
opening w _ = Ok w

-- the first word of a line, and fault `MISSING` at the text's first place where the line has none
abbrev pub opened : List WordAt → Option WordAt → Result WordAt Fault
opened line None = Err (missing_at (slice_get line 0))
opened line (Some w) = opening w w.sort

-- the first word of a line
unfoldable pub first_at : List WordAt → Result WordAt Fault
first_at line = opened line (slice_get line 0)

-- a number from `low` to `high`; another, or None, is fault `NUMBER` at the word
abbrev pub within : ℕ → ℕ → WordAt → Option ℕ → Result ℕ Fault
within low high w None = Err (fault_at NUMBER w)
within low high w (Some n) = if nat_le low n && nat_le n high then Ok n else Err (fault_at NUMBER w)

-- where a number stands: every other word is fault `NUMBER`
unfoldable pub number_at : ℕ → ℕ → List WordAt → ℕ → Result ℕ Fault
number_at low high line k = do
  w ← word_at line k
  within low high w (number_of w.bytes)
