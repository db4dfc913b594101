-- Numbers, escaped texts, and links to calls.
use Rattle.std.specs.Prelude.{ℕ, Bool, true, not, ◌==◌, ◌&&◌, nat_le, if◌then◌else◌, List, [], ◌∷◌, ◌++◌}
use Rattle.std.specs.Prelude.{codes, decimal}

-- A word and a number in decimal digits, and with a word behind them.
abbrev pub word_and_number : List ℕ → ℕ → List ℕ
word_and_number word n = word ++ decimal n

abbrev pub words_around : (before : List ℕ) → ℕ → (behind : List ℕ) → List ℕ
words_around before n behind = word_and_number before n ++ behind

-- Whether a byte stands for itself in a text.
abbrev pub is_plain : ℕ → Bool
is_plain b = nat_le 32 b && nat_le b 126 && not (b == 38) && not (b == 60) && not (b == 62) && not (b == 34)

-- Whether each byte of a text stands for itself, so that the text has no escapes.
abbrev pub are_plain : List ℕ → Bool
are_plain [] = true
are_plain (b ∷ t) = is_plain b && are_plain t

-- One byte of a text: five of them by their escapes, and a question mark for one that is not printed.
abbrev pub escaped_byte : ℕ → List ℕ
escaped_byte b =
    if b == 38 then codes "&amp;"
    else if b == 60 then codes "&lt;"
    else if b == 62 then codes "&gt;"
    else if b == 34 then codes "&quot;"
    else if b == 9 then codes "&#9;"
    else if nat_le 32 b && nat_le b 126 then b ∷ []
    else codes "?"

-- A text as it may stand in the page.
abbrev pub escaped : List ℕ → List ℕ
escaped [] = []
escaped (b ∷ t) = escaped_byte b ++ escaped t

-- A link to a call.
abbrev pub link_text : ℕ → List ℕ
link_text c = word_and_number (codes "<a href=\"#c") c ++ word_and_number (codes "\">c") c ++ codes "</a>"
