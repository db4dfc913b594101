-- What the words ask for.
use Rattle.std.specs.Prelude.{ℕ, List, [], ◌∷◌, Option, Some, None, if◌then◌else◌, codes}
use Rattle.std.specs.Str.{bytes_eq}
use Rattle.com_gen.specs.Numbers.{number_of}
use Rattle.com_top.specs.declared.words.Command.{Command}
use Rattle.com_top.specs.declared.words.Command.TheVariants as command

-- The command of one word.
abbrev pub of_word : List ℕ → Command
of_word word =
    if bytes_eq word (codes "replay") then command.Replay
    else if bytes_eq word (codes "run") then command.Run
    else if bytes_eq word (codes "check") then command.Check
    else if bytes_eq word (codes "objref") then command.ObjRef
    else if bytes_eq word (codes "migrate") then command.Migrate
    else if bytes_eq word (codes "waits") then command.Waits
    else if bytes_eq word (codes "dispatch") then command.Dispatch
    else if bytes_eq word (codes "points") then command.Points
    else command.Usage

abbrev pub of_load : Option ℕ → Command
of_load None = command.Usage
of_load (Some number) = command.Load number

-- The command of two words: `load` and a number.
abbrev pub of_two : List ℕ → List ℕ → Command
of_two word number = if bytes_eq word (codes "load") then of_load (number_of number) else command.Usage

-- What all words behind the program's name ask for.
abbrev pub command_of : List (List ℕ) → Command
command_of [] = command.Usage
command_of (word ∷ []) = of_word word
command_of (word ∷ number ∷ []) = of_two word number
command_of (word ∷ number ∷ other ∷ words) = command.Usage
