-- The sections of a text, each with its lines.
use Rattle.std.specs.Prelude.{List, [], ◌∷◌, ◌++◌, flat_map}
use Rattle.com_text.specs.Words.{WordAt, LineAt}

-- A line, by its words.
abbrev pub Line : Type 0
Line = List WordAt

-- The lines that have words, in order.
abbrev pub worded : Line → List Line → List Line
worded [] more = more
worded (w ∷ ws) more = (w ∷ ws) ∷ more

abbrev pub with_words : List LineAt → List Line
with_words [] = []
with_words (l ∷ ls) = worded l.words (with_words ls)

-- A body in a class: the line `body`, the lines of its statements, and its `end`.
pub record BodyLines : Type 0 where
  pub head : Line
  pub statements : List Line
  pub last : Line

abbrev pub body_lines : BodyLines → List Line
body_lines b = b.head ∷ b.statements ++ b.last ∷ []

-- A section begins with a line that says what it is. `pool`, `native` and `picks` are one line. The lines of
-- methods follow an interface directly; bodies, rules and statements stand between a first line and an `end`.
pub data Section : Type 0 where
  pool : Line → Section
  interface : Line → List Line → Section
  class : Line → List BodyLines → Line → Section
  native : Line → Section
  filter : Line → List Line → Line → Section
  thread : Line → List Line → Line → Section
  picks : Line → Section

abbrev pub section_lines : Section → List Line
section_lines (pool head) = head ∷ []
section_lines (interface head methods) = head ∷ methods
section_lines (class head bodies last) = head ∷ flat_map body_lines bodies ++ last ∷ []
section_lines (native head) = head ∷ []
section_lines (filter head rules last) = head ∷ rules ++ last ∷ []
section_lines (thread head statements last) = head ∷ statements ++ last ∷ []
section_lines (picks head) = head ∷ []
