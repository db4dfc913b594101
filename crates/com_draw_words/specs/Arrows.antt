-- Arrows between lanes.
use Rattle.std.specs.Prelude.{ℕ, ◌==◌, nat_lt, if◌then◌else◌, List, [], ◌++◌, codes}
use Rattle.com_draw_words.specs.declared.arrows.Arrow.{Arrow}
use Rattle.com_draw_words.specs.declared.arrows.ArrowKind.{ArrowKind}
use Rattle.com_draw_words.specs.declared.arrows.ArrowKind.TheVariants as kind
use Rattle.com_draw_words.specs.Escapes.{word_and_number}
use Rattle.com_draw_words.specs.Labels.{drawn_level}

abbrev pub kind_text : ArrowKind → List ℕ
kind_text kind.Go = codes "go"
kind_text kind.Answer = codes "re"
kind_text kind.Refusal = codes "no"
kind_text kind.Word = codes "to"
kind_text kind.Ring = codes "in"

-- The class that says on which side the other lane is: ` r` where that is to the left, else ` l`.
abbrev pub way_text : (other lane : ℕ) → List ℕ
way_text other lane = if nat_lt other lane then codes " r" else codes " l"

-- The two ends of an arrow: in the other lane and in the lane of the row, each at its drawn level.
abbrev pub arrow_ends : Arrow → List ℕ
arrow_ends a =
    word_and_number (codes " l") a.other ++ word_and_number (codes " m") a.lane
    ++ word_and_number (codes "\" style=\"--i:") (drawn_level a.other_level)
    ++ word_and_number (codes ";--j:") (drawn_level a.level)

-- The element of an arrow: what it stands for, the side of the other lane, and its two ends.
abbrev pub arrow_element : Arrow → List ℕ
arrow_element a =
    codes "<s class=\"" ++ kind_text a.kind ++ way_text a.other a.lane ++ arrow_ends a ++ codes "\"></s>"

-- An arrow where it leads to another lane.
abbrev pub arrow_text : Arrow → List ℕ
arrow_text a = if a.other == a.lane then [] else arrow_element a
