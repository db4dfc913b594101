-- The bytes that a source has left and that a sink holds, where they are told.
use Rattle.std.specs.Prelude.{◌≡◌, ℕ, ◌<◌, ◌≤◌, List, [], ◌++◌, length, Option, Result, Ok, Err, option_map}
use Rattle.std.specs.Prelude.{⊤}
use Rattle.com_io.specs.declared.whole.ReadAllError.{ReadAllError}
use Rattle.com_io.specs.declared.whole.ReadAllError.TheVariants.{ReadFault, TooLong, Memory}

-- the bytes left lose these from their front
abbrev pub Loses : Option (List ℕ) → Option (List ℕ) → List ℕ → Type 0
Loses old new bytes = old ≡ option_map (λ rest. bytes ++ rest) new

-- the bytes held gain these at their end
abbrev pub Gains : Option (List ℕ) → Option (List ℕ) → List ℕ → Type 0
Gains old new bytes = new ≡ option_map (λ front. front ++ bytes) old

-- no byte is left
abbrev pub IsAtEnd : Option (List ℕ) → Type 0
IsAtEnd left = left ≡ option_map (λ _. []) left

-- the bytes left lose at most so many from their front
pub record LosesAtMost (old new : Option (List ℕ)) (most : ℕ) : Type 0 where
  pub bytes : List ℕ
  pub few : length bytes ≤ most
  pub lost : Loses old new bytes

-- the bytes left lose more than so many from their front
pub record LosesMore (old new : Option (List ℕ)) (limit : ℕ) : Type 0 where
  pub bytes : List ℕ
  pub many : limit < length bytes
  pub lost : Loses old new bytes

-- the bytes held gain a prefix of the text at their end
pub record GainsPrefix (old new : Option (List ℕ)) (text : List ℕ) : Type 0 where
  pub front : List ℕ
  pub back : List ℕ
  pub parts : text ≡ front ++ back
  pub gained : Gains old new front

-- an answer to reading the whole of an input: all of it, where it has at most as many bytes as the limit,
-- and that it is too long, where it has more
abbrev pub IsWholeOf : ℕ → List ℕ → Result (List ℕ) ReadAllError → Type 0
IsWholeOf limit input (Ok bytes) = (bytes ≡ input) × (length input ≤ limit)
IsWholeOf limit input (Err TooLong) = limit < length input
IsWholeOf limit input (Err ReadFault) = ⊤
IsWholeOf limit input (Err Memory) = ⊤
