-- Labels: a few words at the lane and the level of an entry.
use Rattle.std.specs.Prelude.{ℕ, ◌+◌, ◌-◌, ◌*◌, min, Bool, true, false, nat_le, if◌then◌else◌}
use Rattle.std.specs.Prelude.{List, [], ◌++◌, length, Option, Some, None, codes, decimal}
use Rattle.com_draw_words.specs.declared.labels.LabelClass.{LabelClass}
use Rattle.com_draw_words.specs.declared.labels.LabelClass.TheVariants as class
use Rattle.com_draw_words.specs.declared.labels.Look.{Look}
use Rattle.com_draw_words.specs.declared.limits.TheConstants.{CHAR, EDGE, LABEL_MOST, LEVELS, STEP}
use Rattle.com_draw_words.specs.Escapes.{escaped, word_and_number}

-- The level at which a label or an end of an arrow is drawn.
abbrev pub drawn_level : ℕ → ℕ
drawn_level level = min level LEVELS

-- The words of a label, escaped: before them stands how far a level is beyond those that are drawn.
abbrev pub label_words : ℕ → List ℕ → List ℕ
label_words level words =
    if nat_le level LEVELS then escaped words
    else word_and_number (codes "+") (level - LEVELS) ++ codes ": " ++ escaped words

-- How many bytes these are before they are escaped, by the length of the words alone.
abbrev pub label_length : (level words : ℕ) → ℕ
label_length level words =
    if nat_le level LEVELS then words else length (decimal (level - LEVELS)) + 3 + words

-- How many pixels wide a lane has to be for a label, by the length of its words.
abbrev pub label_width : (level words : ℕ) → ℕ
label_width level words = drawn_level level * STEP + min (CHAR * label_length level words) LABEL_MOST + EDGE

-- By what a label is found: its call, where it has one.
abbrev pub ident_text : Option ℕ → List ℕ
ident_text None = []
ident_text (Some c) = word_and_number (codes " id=\"c") c ++ codes "\""

-- The classes of a label that an object was made, in its apartment's hue, and that a lane is over; else none.
abbrev pub class_text : LabelClass → List ℕ
class_text class.Plain = []
class_text (class.New hue) = word_and_number (codes " new k") hue
class_text class.Over = codes " end"

-- The class of a label that says something bad, and nothing for another.
abbrev pub bad_text : Bool → List ℕ
bad_text true = codes " bad"
bad_text false = []

-- The classes of a label: its lane, what it is about, and whether that is bad.
abbrev pub label_classes : ℕ → Look → List ℕ
label_classes lane look =
    word_and_number (codes " class=\"l") lane ++ class_text look.class ++ bad_text look.is_bad

-- The front of a label, up to where its words begin; a level beyond those that are drawn counts as the last.
abbrev pub label_front : (lane level : ℕ) → Look → List ℕ
label_front lane level look =
    codes "<u" ++ ident_text look.ident ++ label_classes lane look
    ++ word_and_number (codes "\" style=\"--d:") (drawn_level level) ++ codes "\">"

-- A label: these words at a lane and a level.
abbrev pub label_text : (lane level : ℕ) → Look → List ℕ → List ℕ
label_text lane level look words = label_front lane level look ++ label_words level words ++ codes "</u>"
