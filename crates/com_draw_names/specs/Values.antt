-- The value that a call gives back.
use Rattle.std.specs.Prelude.{ℕ, List, [], ◌++◌, Option, Some, None, codes}
use Rattle.com_base.specs.declared.value.Value.{Value}
use Rattle.com_draw_words.specs.Escapes.{escaped}
use Rattle.com_model.specs.Text.{value_text, values_text}

-- A value in its parentheses, behind a space.
abbrev pub value_words : Value → List ℕ
value_words v = codes " (" ++ value_text v ++ codes ")"

-- Such a value; nothing where there is none.
abbrev pub given_text : Option Value → List ℕ
given_text None = []
given_text (Some v) = value_words v

-- A value as a story has it: escaped, and behind a colon.
abbrev pub shown_value : Value → List ℕ
shown_value v = codes ":" ++ escaped (value_words v)

-- The value that a call gives back, as a story has it; nothing where it gives none.
abbrev pub shown_given : Option Value → List ℕ
shown_given None = []
shown_given (Some v) = shown_value v

-- The values that a method gets.
abbrev pub passed_text : List Value → List ℕ
passed_text vs = codes " (" ++ values_text vs ++ codes ")"
