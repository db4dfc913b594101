-- What the reader makes of the words of the page: behind each of them it is where it was.
use Rattle.std.proofs.Common.{◌≡◌, ℕ, ◌+◌, ◌-◌, ◌==◌, Bool, true, false, List, [], ◌∷◌, ◌++◌, Option, Some, None, refl, if◌then◌else◌}
use Rattle.std.specs.Prelude.{codes, decimal, nat_le, nat_lt}
use Rattle.com_draw_words.specs.Arrows.{arrow_element, arrow_ends, arrow_text, kind_text as arrow_kind, way_text}
use Rattle.com_draw_words.specs.Boxes.{box_class, box_element, box_inner, box_size, box_text, foot_text, is_drawn, kind_text as box_kind, touch_text, up_text}
use Rattle.com_draw_words.specs.Escapes.{escaped, link_text, word_and_number}
use Rattle.com_draw_words.specs.Labels.{bad_text, class_text, drawn_level, ident_text, label_classes, label_front, label_text, label_words}
use Rattle.com_draw_words.specs.declared.arrows.Arrow.{Arrow}
use Rattle.com_draw_words.specs.declared.arrows.ArrowKind.{ArrowKind}
use Rattle.com_draw_words.specs.declared.arrows.ArrowKind.TheVariants as arrow
use Rattle.com_draw_words.specs.declared.boxes.BoxKind.{BoxKind}
use Rattle.com_draw_words.specs.declared.boxes.BoxKind.TheVariants as kind
use Rattle.com_draw_words.specs.declared.boxes.BoxText.{BoxText}
use Rattle.com_draw_words.specs.declared.boxes.BoxText.TheVariants as inner
use Rattle.com_draw_words.specs.declared.boxes.Foot.{Foot}
use Rattle.com_draw_words.specs.declared.boxes.Foot.TheVariants as foot
use Rattle.com_draw_words.specs.declared.boxes.DrawnBox.{DrawnBox}
use Rattle.com_draw_words.specs.declared.labels.LabelClass.{LabelClass}
use Rattle.com_draw_words.specs.declared.labels.LabelClass.TheVariants as class
use Rattle.com_draw_words.specs.declared.labels.Look.{Look}
use Rattle.com_draw_words.specs.declared.limits.TheConstants.{LEVELS}
use Rattle.com_laws_markup.specs.Closed.{IsClosed}
use Rattle.com_laws_markup.specs.Markup.{Content, Quoted, Start, Value, read}
use Rattle.com_laws_markup.proofs.Passing.{escaped_in_content, go, number_in_content, number_in_value, number_of_link, onto}

-- nothing, and one behind another
pub closed_none : IsClosed []
closed_none = record { stays = λ s n o e. refl }

pub closed_both : (a b : List ℕ) → IsClosed a → IsClosed b → IsClosed (a ++ b)
closed_both a b h k = record {
  stays = λ s n o e.
      go s (Content (n ∷ o) e) (Content (n ∷ o) e) (Content (n ∷ o) e) a b (h.stays s n o e) (k.stays s n o e);
}

pub closed_if : (c : Bool) (a b : List ℕ) → IsClosed a → IsClosed b → IsClosed (if c then a else b)
closed_if true a b h k = h
closed_if false a b h k = k

-- a number, and an escaped text
pub closed_decimal : (k : ℕ) → IsClosed (decimal k)
closed_decimal k = record { stays = λ s n o e. number_in_content s n o e k }

pub closed_escaped : (w : List ℕ) → IsClosed (escaped w)
closed_escaped w = record { stays = λ s n o e. escaped_in_content s n o e w }

-- ---- boxes

kind_in_class : (s : Bool) (o e : List (List ℕ)) (n : List ℕ) (g : List (List ℕ)) (v : List ℕ) (x : BoxKind)
    → read s (Value o e n g (codes "class") v) (box_kind x) ≡ Value o e n g (codes "class") v
kind_in_class s o e n g v kind.Home = refl
kind_in_class s o e n g v kind.Body = refl
kind_in_class s o e n g v kind.Wait = refl
kind_in_class s o e n g v kind.Call = refl
kind_in_class s o e n g v kind.Refused = refl
kind_in_class s o e n g v kind.Pump = refl
kind_in_class s o e n g v kind.Live = refl
kind_in_class s o e n g v kind.Cut = refl

up_in_class : (s : Bool) (o e : List (List ℕ)) (n : List ℕ) (g : List (List ℕ)) (v : List ℕ) (x : Bool)
    → read s (Value o e n g (codes "class") v) (up_text x) ≡ Value o e n g (codes "class") v
up_in_class s o e n g v true = refl
up_in_class s o e n g v false = refl

foot_in_class : (s : Bool) (o e : List (List ℕ)) (n : List ℕ) (g : List (List ℕ)) (v : List ℕ) (x : Foot)
    → read s (Value o e n g (codes "class") v) (foot_text x) ≡ Value o e n g (codes "class") v
foot_in_class s o e n g v foot.Inner = refl
foot_in_class s o e n g v foot.Down = refl
foot_in_class s o e n g v foot.Ring = refl

closed_inner : (x : BoxText) → IsClosed (box_inner x)
closed_inner inner.Nothing = closed_none
closed_inner (inner.Call c) = record { stays = λ s n o e. number_in_content s n o e c }
closed_inner (inner.Object c) = record { stays = λ s n o e. number_in_content s n o e c }

class_of_box : (s : Bool) (n : List ℕ) (o e : List (List ℕ)) (b : DrawnBox)
    → read s (Content (n ∷ o) e) (box_class b) ≡ Value (n ∷ o) e (codes "i") [] (codes "class") []
class_of_box s n o e b = go s (Content (n ∷ o) e) (Value (n ∷ o) e (codes "i") [] (codes "class") []) (Value (n ∷ o) e (codes "i") [] (codes "class") []) (((((codes "<i class=\"") ++ box_kind b.kind) ++ word_and_number (codes " k") b.hue) ++ word_and_number (codes " l") b.lane) ++ up_text b.is_up) (foot_text b.foot) (go s (Content (n ∷ o) e) (Value (n ∷ o) e (codes "i") [] (codes "class") []) (Value (n ∷ o) e (codes "i") [] (codes "class") []) ((((codes "<i class=\"") ++ box_kind b.kind) ++ word_and_number (codes " k") b.hue) ++ word_and_number (codes " l") b.lane) (up_text b.is_up) (go s (Content (n ∷ o) e) (Value (n ∷ o) e (codes "i") [] (codes "class") []) (Value (n ∷ o) e (codes "i") [] (codes "class") []) (((codes "<i class=\"") ++ box_kind b.kind) ++ word_and_number (codes " k") b.hue) (word_and_number (codes " l") b.lane) (go s (Content (n ∷ o) e) (Value (n ∷ o) e (codes "i") [] (codes "class") []) (Value (n ∷ o) e (codes "i") [] (codes "class") []) ((codes "<i class=\"") ++ box_kind b.kind) (word_and_number (codes " k") b.hue) (go s (Content (n ∷ o) e) (Value (n ∷ o) e (codes "i") [] (codes "class") []) (Value (n ∷ o) e (codes "i") [] (codes "class") []) (codes "<i class=\"") (box_kind b.kind) refl (kind_in_class s (n ∷ o) e (codes "i") [] [] b.kind)) (go s (Value (n ∷ o) e (codes "i") [] (codes "class") []) (Value (n ∷ o) e (codes "i") [] (codes "class") []) (Value (n ∷ o) e (codes "i") [] (codes "class") []) (codes " k") (decimal b.hue) refl (number_in_value s (n ∷ o) e (codes "i") [] (codes "class") [] refl refl b.hue))) (go s (Value (n ∷ o) e (codes "i") [] (codes "class") []) (Value (n ∷ o) e (codes "i") [] (codes "class") []) (Value (n ∷ o) e (codes "i") [] (codes "class") []) (codes " l") (decimal b.lane) refl (number_in_value s (n ∷ o) e (codes "i") [] (codes "class") [] refl refl b.lane))) (up_in_class s (n ∷ o) e (codes "i") [] [] b.is_up)) (foot_in_class s (n ∷ o) e (codes "i") [] [] b.foot)

size_of_box : (s : Bool) (n : List ℕ) (o e : List (List ℕ)) (level rows : ℕ)
    → read s (Value (n ∷ o) e (codes "i") [] (codes "class") []) (box_size level rows) ≡ Content (codes "i" ∷ n ∷ o) e
size_of_box s n o e level rows = go s (Value (n ∷ o) e (codes "i") [] (codes "class") []) (Value (n ∷ o) e (codes "i") (codes "class" ∷ []) (codes "style") []) (Content (codes "i" ∷ n ∷ o) e) ((word_and_number (codes "\" style=\"--d:") level) ++ word_and_number (codes ";--h:") rows) (codes "\">") (go s (Value (n ∷ o) e (codes "i") [] (codes "class") []) (Value (n ∷ o) e (codes "i") (codes "class" ∷ []) (codes "style") []) (Value (n ∷ o) e (codes "i") (codes "class" ∷ []) (codes "style") []) (word_and_number (codes "\" style=\"--d:") level) (word_and_number (codes ";--h:") rows) (go s (Value (n ∷ o) e (codes "i") [] (codes "class") []) (Value (n ∷ o) e (codes "i") (codes "class" ∷ []) (codes "style") []) (Value (n ∷ o) e (codes "i") (codes "class" ∷ []) (codes "style") []) (codes "\" style=\"--d:") (decimal level) refl (number_in_value s (n ∷ o) e (codes "i") (codes "class" ∷ []) (codes "style") [] refl refl level)) (go s (Value (n ∷ o) e (codes "i") (codes "class" ∷ []) (codes "style") []) (Value (n ∷ o) e (codes "i") (codes "class" ∷ []) (codes "style") []) (Value (n ∷ o) e (codes "i") (codes "class" ∷ []) (codes "style") []) (codes ";--h:") (decimal rows) refl (number_in_value s (n ∷ o) e (codes "i") (codes "class" ∷ []) (codes "style") [] refl refl rows))) refl

closed_box_element : (b : DrawnBox) → IsClosed (box_element b)
closed_box_element b = record { stays = λ s n o e. go s (Content (n ∷ o) e) (Content (codes "i" ∷ n ∷ o) e) (Content (n ∷ o) e) (((box_class b) ++ box_size b.level (b.row - b.top + 1)) ++ box_inner b.text) (codes "</i>") (go s (Content (n ∷ o) e) (Content (codes "i" ∷ n ∷ o) e) (Content (codes "i" ∷ n ∷ o) e) ((box_class b) ++ box_size b.level (b.row - b.top + 1)) (box_inner b.text) (go s (Content (n ∷ o) e) (Value (n ∷ o) e (codes "i") [] (codes "class") []) (Content (codes "i" ∷ n ∷ o) e) (box_class b) (box_size b.level (b.row - b.top + 1)) (class_of_box s n o e b) (size_of_box s n o e b.level (b.row - b.top + 1))) ((closed_inner b.text).stays s (codes "i") (n ∷ o) e)) refl }

-- a box
pub closed_box : (b : DrawnBox) → IsClosed (box_text b)
closed_box b = closed_if (is_drawn b) (box_element b) [] (closed_box_element b) closed_none

-- the mark that an object is touched
pub closed_touch : (lane level : ℕ) → IsClosed (touch_text lane level)
closed_touch lane level = record { stays = λ s n o e. go s (Content (n ∷ o) e) (Value (n ∷ o) e (codes "b") (codes "class" ∷ []) (codes "style") []) (Content (n ∷ o) e) ((word_and_number (codes "<b class=\"l") lane) ++ word_and_number (codes "\" style=\"--d:") level) (codes "\"></b>") (go s (Content (n ∷ o) e) (Value (n ∷ o) e (codes "b") [] (codes "class") []) (Value (n ∷ o) e (codes "b") (codes "class" ∷ []) (codes "style") []) (word_and_number (codes "<b class=\"l") lane) (word_and_number (codes "\" style=\"--d:") level) (go s (Content (n ∷ o) e) (Value (n ∷ o) e (codes "b") [] (codes "class") []) (Value (n ∷ o) e (codes "b") [] (codes "class") []) (codes "<b class=\"l") (decimal lane) refl (number_in_value s (n ∷ o) e (codes "b") [] (codes "class") [] refl refl lane)) (go s (Value (n ∷ o) e (codes "b") [] (codes "class") []) (Value (n ∷ o) e (codes "b") (codes "class" ∷ []) (codes "style") []) (Value (n ∷ o) e (codes "b") (codes "class" ∷ []) (codes "style") []) (codes "\" style=\"--d:") (decimal level) refl (number_in_value s (n ∷ o) e (codes "b") (codes "class" ∷ []) (codes "style") [] refl refl level))) refl }

-- a link to a call
pub closed_link : (c : ℕ) → IsClosed (link_text c)
closed_link c = record { stays = λ s n o e. go s (Content (n ∷ o) e) (Content (codes "a" ∷ n ∷ o) e) (Content (n ∷ o) e) ((word_and_number (codes "<a href=\"#c") c) ++ word_and_number (codes "\">c") c) (codes "</a>") (go s (Content (n ∷ o) e) (Value (n ∷ o) e (codes "a") [] (codes "href") (onto (decimal c) (99 ∷ 35 ∷ []))) (Content (codes "a" ∷ n ∷ o) e) (word_and_number (codes "<a href=\"#c") c) (word_and_number (codes "\">c") c) (go s (Content (n ∷ o) e) (Value (n ∷ o) e (codes "a") [] (codes "href") (99 ∷ 35 ∷ [])) (Value (n ∷ o) e (codes "a") [] (codes "href") (onto (decimal c) (99 ∷ 35 ∷ []))) (codes "<a href=\"#c") (decimal c) refl (number_of_link s (n ∷ o) e (codes "a") [] 99 (35 ∷ []) c)) (go s (Value (n ∷ o) e (codes "a") [] (codes "href") (onto (decimal c) (99 ∷ 35 ∷ []))) (Content (codes "a" ∷ n ∷ o) e) (Content (codes "a" ∷ n ∷ o) e) (codes "\">c") (decimal c) refl (number_in_content s (codes "a") (n ∷ o) e c))) refl }

-- ---- arrows

arrow_in_class : (s : Bool) (o e : List (List ℕ)) (n : List ℕ) (g : List (List ℕ)) (v : List ℕ) (x : ArrowKind)
    → read s (Value o e n g (codes "class") v) (arrow_kind x) ≡ Value o e n g (codes "class") v
arrow_in_class s o e n g v arrow.Go = refl
arrow_in_class s o e n g v arrow.Answer = refl
arrow_in_class s o e n g v arrow.Refusal = refl
arrow_in_class s o e n g v arrow.Word = refl
arrow_in_class s o e n g v arrow.Ring = refl

side_in_class : (s : Bool) (o e : List (List ℕ)) (n : List ℕ) (g : List (List ℕ)) (v : List ℕ) (c : Bool)
    → read s (Value o e n g (codes "class") v) (if c then codes " r" else codes " l") ≡ Value o e n g (codes "class") v
side_in_class s o e n g v true = refl
side_in_class s o e n g v false = refl

ends_of_arrow : (s : Bool) (n : List ℕ) (o e : List (List ℕ)) (a : Arrow)
    → read s (Value (n ∷ o) e (codes "s") [] (codes "class") []) (arrow_ends a) ≡ Value (n ∷ o) e (codes "s") (codes "class" ∷ []) (codes "style") []
ends_of_arrow s n o e a = go s (Value (n ∷ o) e (codes "s") [] (codes "class") []) (Value (n ∷ o) e (codes "s") (codes "class" ∷ []) (codes "style") []) (Value (n ∷ o) e (codes "s") (codes "class" ∷ []) (codes "style") []) (((word_and_number (codes " l") a.other) ++ word_and_number (codes " m") a.lane) ++ word_and_number (codes "\" style=\"--i:") (drawn_level a.other_level)) (word_and_number (codes ";--j:") (drawn_level a.level)) (go s (Value (n ∷ o) e (codes "s") [] (codes "class") []) (Value (n ∷ o) e (codes "s") [] (codes "class") []) (Value (n ∷ o) e (codes "s") (codes "class" ∷ []) (codes "style") []) ((word_and_number (codes " l") a.other) ++ word_and_number (codes " m") a.lane) (word_and_number (codes "\" style=\"--i:") (drawn_level a.other_level)) (go s (Value (n ∷ o) e (codes "s") [] (codes "class") []) (Value (n ∷ o) e (codes "s") [] (codes "class") []) (Value (n ∷ o) e (codes "s") [] (codes "class") []) (word_and_number (codes " l") a.other) (word_and_number (codes " m") a.lane) (go s (Value (n ∷ o) e (codes "s") [] (codes "class") []) (Value (n ∷ o) e (codes "s") [] (codes "class") []) (Value (n ∷ o) e (codes "s") [] (codes "class") []) (codes " l") (decimal a.other) refl (number_in_value s (n ∷ o) e (codes "s") [] (codes "class") [] refl refl a.other)) (go s (Value (n ∷ o) e (codes "s") [] (codes "class") []) (Value (n ∷ o) e (codes "s") [] (codes "class") []) (Value (n ∷ o) e (codes "s") [] (codes "class") []) (codes " m") (decimal a.lane) refl (number_in_value s (n ∷ o) e (codes "s") [] (codes "class") [] refl refl a.lane))) (go s (Value (n ∷ o) e (codes "s") [] (codes "class") []) (Value (n ∷ o) e (codes "s") (codes "class" ∷ []) (codes "style") []) (Value (n ∷ o) e (codes "s") (codes "class" ∷ []) (codes "style") []) (codes "\" style=\"--i:") (decimal (drawn_level a.other_level)) refl (number_in_value s (n ∷ o) e (codes "s") (codes "class" ∷ []) (codes "style") [] refl refl (drawn_level a.other_level)))) (go s (Value (n ∷ o) e (codes "s") (codes "class" ∷ []) (codes "style") []) (Value (n ∷ o) e (codes "s") (codes "class" ∷ []) (codes "style") []) (Value (n ∷ o) e (codes "s") (codes "class" ∷ []) (codes "style") []) (codes ";--j:") (decimal (drawn_level a.level)) refl (number_in_value s (n ∷ o) e (codes "s") (codes "class" ∷ []) (codes "style") [] refl refl (drawn_level a.level)))

closed_arrow_element : (a : Arrow) → IsClosed (arrow_element a)
closed_arrow_element a = record { stays = λ s n o e. go s (Content (n ∷ o) e) (Value (n ∷ o) e (codes "s") (codes "class" ∷ []) (codes "style") []) (Content (n ∷ o) e) ((((codes "<s class=\"") ++ arrow_kind a.kind) ++ way_text a.other a.lane) ++ arrow_ends a) (codes "\"></s>") (go s (Content (n ∷ o) e) (Value (n ∷ o) e (codes "s") [] (codes "class") []) (Value (n ∷ o) e (codes "s") (codes "class" ∷ []) (codes "style") []) (((codes "<s class=\"") ++ arrow_kind a.kind) ++ way_text a.other a.lane) (arrow_ends a) (go s (Content (n ∷ o) e) (Value (n ∷ o) e (codes "s") [] (codes "class") []) (Value (n ∷ o) e (codes "s") [] (codes "class") []) ((codes "<s class=\"") ++ arrow_kind a.kind) (way_text a.other a.lane) (go s (Content (n ∷ o) e) (Value (n ∷ o) e (codes "s") [] (codes "class") []) (Value (n ∷ o) e (codes "s") [] (codes "class") []) (codes "<s class=\"") (arrow_kind a.kind) refl (arrow_in_class s (n ∷ o) e (codes "s") [] [] a.kind)) (side_in_class s (n ∷ o) e (codes "s") [] [] (nat_lt a.other a.lane))) (ends_of_arrow s n o e a)) refl }

-- an arrow
pub closed_arrow : (a : Arrow) → IsClosed (arrow_text a)
closed_arrow a = closed_if (a.other == a.lane) [] (arrow_element a) closed_none (closed_arrow_element a)

-- ---- labels

class_in_class : (s : Bool) (o e : List (List ℕ)) (n : List ℕ) (g : List (List ℕ)) (v : List ℕ) (x : LabelClass)
    → read s (Value o e n g (codes "class") v) (class_text x) ≡ Value o e n g (codes "class") v
class_in_class s o e n g v class.Plain = refl
class_in_class s o e n g v (class.New hue) = number_in_value s o e n g (codes "class") v refl refl hue
class_in_class s o e n g v class.Over = refl

bad_in_class : (s : Bool) (o e : List (List ℕ)) (n : List ℕ) (g : List (List ℕ)) (v : List ℕ) (x : Bool)
    → read s (Value o e n g (codes "class") v) (bad_text x) ≡ Value o e n g (codes "class") v
bad_in_class s o e n g v true = refl
bad_in_class s o e n g v false = refl

closed_beyond : (level : ℕ) (words : List ℕ) → IsClosed (word_and_number (codes "+") level ++ codes ": " ++ escaped words)
closed_beyond level words =
    closed_both (word_and_number (codes "+") level ++ codes ": ") (escaped words)
    (closed_both (word_and_number (codes "+") level) (codes ": ")
    (closed_both (codes "+") (decimal level) (record { stays = λ s n o e. refl }) (closed_decimal level))
    (record { stays = λ s n o e. refl }))
    (closed_escaped words)

closed_words : (level : ℕ) (words : List ℕ) → IsClosed (label_words level words)
closed_words level words =
    closed_if (nat_le level LEVELS) (escaped words) (word_and_number (codes "+") (level - LEVELS) ++ codes ": " ++ escaped words)
    (closed_escaped words) (closed_beyond (level - LEVELS) words)

front_of_none : (s : Bool) (n : List ℕ) (o e : List (List ℕ)) (lane level : ℕ) (x : LabelClass) (bad : Bool)
    → read s (Content (n ∷ o) e) (label_front lane level (record { class = x; is_bad = bad; ident = None })) ≡ Content (codes "u" ∷ n ∷ o) e
front_of_none s n o e lane level x bad = go s (Content (n ∷ o) e) (Value (n ∷ o) e (codes "u") (codes "class" ∷ []) (codes "style") []) (Content (codes "u" ∷ n ∷ o) e) ((((codes "<u") ++ ident_text None) ++ label_classes lane (record { class = x; is_bad = bad; ident = None })) ++ word_and_number (codes "\" style=\"--d:") (drawn_level level)) (codes "\">") (go s (Content (n ∷ o) e) (Value (n ∷ o) e (codes "u") [] (codes "class") []) (Value (n ∷ o) e (codes "u") (codes "class" ∷ []) (codes "style") []) (((codes "<u") ++ ident_text None) ++ label_classes lane (record { class = x; is_bad = bad; ident = None })) (word_and_number (codes "\" style=\"--d:") (drawn_level level)) (go s (Content (n ∷ o) e) (Start (n ∷ o) e (117 ∷ [])) (Value (n ∷ o) e (codes "u") [] (codes "class") []) ((codes "<u") ++ ident_text None) (label_classes lane (record { class = x; is_bad = bad; ident = None })) (go s (Content (n ∷ o) e) (Start (n ∷ o) e (117 ∷ [])) (Start (n ∷ o) e (117 ∷ [])) (codes "<u") (ident_text None) refl refl) (go s (Start (n ∷ o) e (117 ∷ [])) (Value (n ∷ o) e (codes "u") [] (codes "class") []) (Value (n ∷ o) e (codes "u") [] (codes "class") []) ((word_and_number (codes " class=\"l") lane) ++ class_text x) (bad_text bad) (go s (Start (n ∷ o) e (117 ∷ [])) (Value (n ∷ o) e (codes "u") [] (codes "class") []) (Value (n ∷ o) e (codes "u") [] (codes "class") []) (word_and_number (codes " class=\"l") lane) (class_text x) (go s (Start (n ∷ o) e (117 ∷ [])) (Value (n ∷ o) e (codes "u") [] (codes "class") []) (Value (n ∷ o) e (codes "u") [] (codes "class") []) (codes " class=\"l") (decimal lane) refl (number_in_value s (n ∷ o) e (codes "u") [] (codes "class") [] refl refl lane)) (class_in_class s (n ∷ o) e (codes "u") [] [] x)) (bad_in_class s (n ∷ o) e (codes "u") [] [] bad))) (go s (Value (n ∷ o) e (codes "u") [] (codes "class") []) (Value (n ∷ o) e (codes "u") (codes "class" ∷ []) (codes "style") []) (Value (n ∷ o) e (codes "u") (codes "class" ∷ []) (codes "style") []) (codes "\" style=\"--d:") (decimal (drawn_level level)) refl (number_in_value s (n ∷ o) e (codes "u") (codes "class" ∷ []) (codes "style") [] refl refl (drawn_level level)))) refl

front_of_call : (s : Bool) (n : List ℕ) (o e : List (List ℕ)) (c : ℕ) (lane level : ℕ) (x : LabelClass) (bad : Bool)
    → read s (Content (n ∷ o) e) (label_front lane level (record { class = x; is_bad = bad; ident = Some c })) ≡ Content (codes "u" ∷ n ∷ o) e
front_of_call s n o e c lane level x bad = go s (Content (n ∷ o) e) (Value (n ∷ o) e (codes "u") (codes "class" ∷ codes "id" ∷ []) (codes "style") []) (Content (codes "u" ∷ n ∷ o) e) ((((codes "<u") ++ ident_text (Some c)) ++ label_classes lane (record { class = x; is_bad = bad; ident = Some c })) ++ word_and_number (codes "\" style=\"--d:") (drawn_level level)) (codes "\">") (go s (Content (n ∷ o) e) (Value (n ∷ o) e (codes "u") (codes "id" ∷ []) (codes "class") []) (Value (n ∷ o) e (codes "u") (codes "class" ∷ codes "id" ∷ []) (codes "style") []) (((codes "<u") ++ ident_text (Some c)) ++ label_classes lane (record { class = x; is_bad = bad; ident = Some c })) (word_and_number (codes "\" style=\"--d:") (drawn_level level)) (go s (Content (n ∷ o) e) (Quoted (n ∷ o) e (codes "u") (codes "id" ∷ [])) (Value (n ∷ o) e (codes "u") (codes "id" ∷ []) (codes "class") []) ((codes "<u") ++ ident_text (Some c)) (label_classes lane (record { class = x; is_bad = bad; ident = Some c })) (go s (Content (n ∷ o) e) (Start (n ∷ o) e (117 ∷ [])) (Quoted (n ∷ o) e (codes "u") (codes "id" ∷ [])) (codes "<u") (ident_text (Some c)) refl (go s (Start (n ∷ o) e (117 ∷ [])) (Value (n ∷ o) e (codes "u") [] (codes "id") []) (Quoted (n ∷ o) e (codes "u") (codes "id" ∷ [])) (word_and_number (codes " id=\"c") c) (codes "\"") (go s (Start (n ∷ o) e (117 ∷ [])) (Value (n ∷ o) e (codes "u") [] (codes "id") []) (Value (n ∷ o) e (codes "u") [] (codes "id") []) (codes " id=\"c") (decimal c) refl (number_in_value s (n ∷ o) e (codes "u") [] (codes "id") [] refl refl c)) refl)) (go s (Quoted (n ∷ o) e (codes "u") (codes "id" ∷ [])) (Value (n ∷ o) e (codes "u") (codes "id" ∷ []) (codes "class") []) (Value (n ∷ o) e (codes "u") (codes "id" ∷ []) (codes "class") []) ((word_and_number (codes " class=\"l") lane) ++ class_text x) (bad_text bad) (go s (Quoted (n ∷ o) e (codes "u") (codes "id" ∷ [])) (Value (n ∷ o) e (codes "u") (codes "id" ∷ []) (codes "class") []) (Value (n ∷ o) e (codes "u") (codes "id" ∷ []) (codes "class") []) (word_and_number (codes " class=\"l") lane) (class_text x) (go s (Quoted (n ∷ o) e (codes "u") (codes "id" ∷ [])) (Value (n ∷ o) e (codes "u") (codes "id" ∷ []) (codes "class") []) (Value (n ∷ o) e (codes "u") (codes "id" ∷ []) (codes "class") []) (codes " class=\"l") (decimal lane) refl (number_in_value s (n ∷ o) e (codes "u") (codes "id" ∷ []) (codes "class") [] refl refl lane)) (class_in_class s (n ∷ o) e (codes "u") (codes "id" ∷ []) [] x)) (bad_in_class s (n ∷ o) e (codes "u") (codes "id" ∷ []) [] bad))) (go s (Value (n ∷ o) e (codes "u") (codes "id" ∷ []) (codes "class") []) (Value (n ∷ o) e (codes "u") (codes "class" ∷ codes "id" ∷ []) (codes "style") []) (Value (n ∷ o) e (codes "u") (codes "class" ∷ codes "id" ∷ []) (codes "style") []) (codes "\" style=\"--d:") (decimal (drawn_level level)) refl (number_in_value s (n ∷ o) e (codes "u") (codes "class" ∷ codes "id" ∷ []) (codes "style") [] refl refl (drawn_level level)))) refl

label_of : (lane level : ℕ) (x : LabelClass) (bad : Bool) (ident : Option ℕ) (words : List ℕ)
    → IsClosed (label_text lane level (record { class = x; is_bad = bad; ident = ident }) words)
label_of lane level x bad None words = record { stays = λ s n o e. go s (Content (n ∷ o) e) (Content (codes "u" ∷ n ∷ o) e) (Content (n ∷ o) e) ((label_front lane level (record { class = x; is_bad = bad; ident = None })) ++ label_words level words) (codes "</u>") (go s (Content (n ∷ o) e) (Content (codes "u" ∷ n ∷ o) e) (Content (codes "u" ∷ n ∷ o) e) (label_front lane level (record { class = x; is_bad = bad; ident = None })) (label_words level words) (front_of_none s n o e lane level x bad) ((closed_words level words).stays s (codes "u") (n ∷ o) e)) refl }
label_of lane level x bad (Some c) words = record { stays = λ s n o e. go s (Content (n ∷ o) e) (Content (codes "u" ∷ n ∷ o) e) (Content (n ∷ o) e) ((label_front lane level (record { class = x; is_bad = bad; ident = (Some c) })) ++ label_words level words) (codes "</u>") (go s (Content (n ∷ o) e) (Content (codes "u" ∷ n ∷ o) e) (Content (codes "u" ∷ n ∷ o) e) (label_front lane level (record { class = x; is_bad = bad; ident = (Some c) })) (label_words level words) (front_of_call s n o e c lane level x bad) ((closed_words level words).stays s (codes "u") (n ∷ o) e)) refl }

-- a label
pub closed_label : (lane level : ℕ) (look : Look) (words : List ℕ) → IsClosed (label_text lane level look words)
closed_label lane level look words = label_of lane level look.class look.is_bad look.ident words
