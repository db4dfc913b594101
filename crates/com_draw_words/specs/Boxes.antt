-- Boxes, and the marks of objects that are touched.
use Rattle.std.specs.Prelude.{ℕ, ◌+◌, ◌-◌, ◌%◌, Bool, true, false, ◌&&◌, ◌||◌, nat_le, nat_lt, if◌then◌else◌}
use Rattle.std.specs.Prelude.{List, [], ◌++◌, codes}
use Rattle.com_base.specs.declared.apartments.TheConstants.{FIRST_STA}
use Rattle.com_draw_words.specs.declared.boxes.TheConstants.{THREAD_HUES}
use Rattle.com_draw_words.specs.declared.boxes.BoxKind.{BoxKind}
use Rattle.com_draw_words.specs.declared.boxes.BoxKind.TheVariants as kind
use Rattle.com_draw_words.specs.declared.boxes.BoxText.{BoxText}
use Rattle.com_draw_words.specs.declared.boxes.BoxText.TheVariants as inner
use Rattle.com_draw_words.specs.declared.boxes.Foot.{Foot}
use Rattle.com_draw_words.specs.declared.boxes.Foot.TheVariants as foot
use Rattle.com_draw_words.specs.declared.boxes.DrawnBox.{DrawnBox}
use Rattle.com_draw_words.specs.declared.limits.TheConstants.{LEVELS}
use Rattle.com_draw_words.specs.Escapes.{word_and_number}

-- The number of an apartment's hue.
abbrev pub hue_of : ℕ → ℕ
hue_of a = if nat_lt a FIRST_STA then a else FIRST_STA + (a - FIRST_STA) % THREAD_HUES

-- The class of a box by what it stands for; `none` is that of a call that was refused at its issue.
abbrev pub kind_text : BoxKind → List ℕ
kind_text kind.Home = codes "home"
kind_text kind.Body = codes "body"
kind_text kind.Wait = codes "wait"
kind_text kind.Call = codes "call"
kind_text kind.Refused = codes "none"
kind_text kind.Pump = codes "pump"
kind_text kind.Live = codes "live"
kind_text kind.Cut = codes "cut"

-- The class of a box that began above its section, and nothing for one that begins in it.
abbrev pub up_text : Bool → List ℕ
up_text true = codes " up"
up_text false = []

-- The classes of a box that goes on below its section, with one more where its lane waits in the ring.
abbrev pub foot_text : Foot → List ℕ
foot_text foot.Inner = []
foot_text foot.Down = codes " dn"
foot_text foot.Ring = codes " dn ring"

-- The text in a box: `c` and the number of a call, `o` and that of an object, or nothing.
abbrev pub box_inner : BoxText → List ℕ
box_inner inner.Nothing = []
box_inner (inner.Call c) = word_and_number (codes "c") c
box_inner (inner.Object o) = word_and_number (codes "o") o

-- The element's name and its classes.
abbrev pub box_class : DrawnBox → List ℕ
box_class b =
    codes "<i class=\"" ++ kind_text b.kind ++ word_and_number (codes " k") b.hue
    ++ word_and_number (codes " l") b.lane ++ up_text b.is_up ++ foot_text b.foot

-- Its level and its number of rows.
abbrev pub box_size : (level rows : ℕ) → List ℕ
box_size level rows =
    word_and_number (codes "\" style=\"--d:") level ++ word_and_number (codes ";--h:") rows ++ codes "\">"

-- The element of a box, with its level, the number of its rows from the first to the last, and the text in it.
abbrev pub box_element : DrawnBox → List ℕ
box_element b = box_class b ++ box_size b.level (b.row - b.top + 1) ++ box_inner b.text ++ codes "</i>"

-- Whether a box is that of an object, alive or cut off, which is drawn at every level.
abbrev pub is_of_object : BoxKind → Bool
is_of_object kind.Live = true
is_of_object kind.Cut = true
is_of_object _ = false

-- Whether a box has a row, and stands at a level that is drawn.
abbrev pub is_drawn : DrawnBox → Bool
is_drawn b = (nat_le b.level LEVELS || is_of_object b.kind) && nat_le b.top b.row

-- A box where it is drawn.
abbrev pub box_text : DrawnBox → List ℕ
box_text b = if is_drawn b then box_element b else []

-- The mark that an object is touched.
abbrev pub touch_text : (lane level : ℕ) → List ℕ
touch_text lane level =
    word_and_number (codes "<b class=\"l") lane ++ word_and_number (codes "\" style=\"--d:") level
    ++ codes "\"></b>"
