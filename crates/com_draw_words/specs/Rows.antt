-- The rows of entries, of the gap, and of reasons.
use Rattle.std.specs.Prelude.{ℕ, Bool, true, false, List, [], ◌++◌, Option, Some, None, codes, decimal}
use Rattle.com_draw_words.specs.declared.rows.Mark.{Mark}
use Rattle.com_draw_words.specs.declared.rows.Mark.TheVariants as mark
use Rattle.com_draw_words.specs.Escapes.{escaped, words_around}

-- By what an entry is found: its place.
abbrev pub entry_ident : ℕ → List ℕ
entry_ident n = codes "<p id=\"e" ++ decimal n ++ codes "\" data-entry=\"" ++ decimal n ++ codes "\""

-- The call of an entry, where it has one.
abbrev pub entry_call : Option ℕ → List ℕ
entry_call None = []
entry_call (Some c) = words_around (codes " data-call=\"c") c (codes "\"")

-- The class of an entry's row where what it says is bad, and where the clock moves; else none.
abbrev pub mark_text : Mark → List ℕ
mark_text mark.Plain = []
mark_text mark.Bad = codes " class=\"bad\""
mark_text mark.Tick = codes " class=\"tick\""

-- The entry's line as the title of its row, escaped.
abbrev pub entry_title : List ℕ → List ℕ
entry_title title = codes " title=\"" ++ escaped title ++ codes "\">"

-- The entry's place as it is shown, up to where the story begins.
abbrev pub entry_number : ℕ → List ℕ
entry_number n = codes "<b>" ++ decimal n ++ codes "</b><span>"

-- The front of the row of an entry, up to where its story begins.
abbrev pub entry_front_text : (place : ℕ) → (call : Option ℕ) → Mark → (title : List ℕ) → List ℕ
entry_front_text n call m title =
    entry_ident n ++ entry_call call ++ mark_text m ++ entry_title title ++ entry_number n

-- What stands between the story of a row and its drawing.
abbrev pub row_middle_text : List ℕ
row_middle_text = codes "</span><i aria-hidden=\"true\">"

-- What stands behind the drawing of a row.
abbrev pub row_end_text : List ℕ
row_end_text = codes "</i></p>\n"

-- The row that says how many entries are not drawn.
abbrev pub gap_text : ℕ → List ℕ
gap_text n =
    codes "<p class=\"gap\"><b></b><span>" ++ decimal n
    ++ codes " more entries are not drawn; below is how they end</span></p>\n"

-- The front of the row of a reason.
abbrev pub reason_front_text : (is_bad : Bool) → List ℕ
reason_front_text true = codes "<p class=\"bad\"><b></b><span>"
reason_front_text false = codes "<p><b></b><span>"
