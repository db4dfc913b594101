-- The text in which each `source` line is written out in lines of the language: the interface `IPoint`, for
-- the first one, and a class with the name, the CLSID and the model as they stand, and with the bodies of a
-- source.
--
-- A line that is at fault in itself, or whose interface is declared already, is written as far as it is
-- sound, so that what is read of it is at fault at the latest where its words end.
use Rattle.std.specs.Prelude.{ℕ, ◌+◌, ◌-◌, List, [], ◌∷◌, ◌++◌, Option, Some, None, Bool, if◌then◌else◌}
use Rattle.std.specs.Prelude.{slice_range, take, drop, codes}
use Rattle.com_text.specs.Words.{WordAt, LineAt}
use Rattle.com_text.specs.Scanning.{lines_of}
use Rattle.com_points.specs.declared.source_text.heads.Cut.{Cut}
use Rattle.com_points.specs.declared.source_text.heads.Seen.{Seen}
use Rattle.com_points.specs.Bodies.{point_text, rest_text}
use Rattle.com_points.specs.Heads.{is_source_line, cut_of, nothing_seen, seen_behind, is_taken}

-- Words as they stand, each behind a space.
abbrev pub words_text : List WordAt → List ℕ
words_text [] = []
words_text (w ∷ ws) = 32 ∷ (w.bytes ++ words_text ws)

-- The first words of a source line, as those of a class.
abbrev pub class_text : (words : ℕ) → List WordAt → List ℕ
class_text n line = codes "class" ++ words_text (take (n - 1) (drop 1 line))

abbrev pub declared_text : List WordAt → Option Cut → List ℕ
declared_text line (Some cut) = class_text cut.words line ++ codes "\n"
declared_text line None = class_text 4 line ++ rest_text

abbrev pub interface_text : Seen → List ℕ
interface_text seen = if seen.source then [] else point_text

-- What a source line stands for.
unfoldable pub source_text : Seen → List WordAt → List ℕ
source_text seen line =
    if is_taken seen then class_text 1 line ++ codes "\n"
    else interface_text seen ++ declared_text line (cut_of line)

-- A line of the language, from its first byte on, with its end.
abbrev pub line_end : Bool → List ℕ
line_end last = if last then [] else 10 ∷ []

unfoldable pub line_text : Seen → List ℕ → (from to : ℕ) → (last : Bool) → List WordAt → List ℕ
line_text seen text from to last line =
    if is_source_line line then source_text seen line else slice_range text from to ++ line_end last

-- The lines that are left.
abbrev pub written_on : Seen → List ℕ → (from : ℕ) → List LineAt → List ℕ
written_on seen text from [] = []
written_on seen text from (l ∷ ls) =
    line_text seen text from l.at l.last l.words ++ written_on (seen_behind seen l.words) text (l.at + 1) ls

unfoldable pub written : List ℕ → List ℕ
written text = written_on nothing_seen text 0 (lines_of text)
