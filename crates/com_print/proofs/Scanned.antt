-- Lines that are written are read as the words that they were written from.
use Rattle.std.proofs.Common.{◌≡◌, ℕ, ◌+◌, List, [], ◌∷◌, ◌++◌, None, Bool, true, false, ◌&&◌, refl, sym, ap, ◌∙◌, subst, append_assoc, arith, map}
use Rattle.std.specs.Prelude.{slice_index, if◌then◌else◌}
use Rattle.std.specs.List.{list_all}
use Rattle.std.specs.Char.{is_ascii_hexdigit}
use Rattle.std.proofs.lemmas.List.{append-nil, map-append}
use Rattle.std.proofs.lemmas.Bool.Decides.{nat_tests}
use Rattle.com_text.specs.declared.scan.Class.{Class}
use Rattle.com_text.specs.declared.scan.Class.TheVariants as classes
use Rattle.com_text.specs.declared.scan.Within.{Within}
use Rattle.com_text.specs.declared.scan.Within.TheVariants as within
use Rattle.com_text.specs.declared.word.Sort.{Sort}
use Rattle.com_text.specs.declared.word.Sort.TheVariants as sorts
use Rattle.com_text.specs.Words.{WordAt, LineAt}
use Rattle.com_text.specs.Scanning.{Scanning, class_of, ends_line, after, gave, ended, lines_from, lines_of, at_line}
use Rattle.com_print.specs.Spelled.{Spelled, spelled_of, is_word_byte, is_text_byte, IsSpelled, IsSpelledAs, AreSpelled, AreLines, more_text, line_text, text_of, Shown, shown}

-- ---- bytes

-- a word's byte is neither a mark nor a blank
other : (b next : ℕ) → is_word_byte b ≡ true → class_of b next ≡ classes.Other
other b next h = grind (arith, nat_tests)

hex_other : (b next : ℕ) → is_ascii_hexdigit b ≡ true → class_of b next ≡ classes.Other
hex_other b next h = grind (arith, nat_tests)

-- what stands in a text literal
abbrev is_kept : Class → Bool
is_kept classes.Blank = true
is_kept classes.Semicolon = true
is_kept classes.Other = true
is_kept _ = false

kept : (b next : ℕ) → is_text_byte b ≡ true → is_kept (class_of b next) ≡ true
kept b next h = grind (arith, nat_tests)

both : (a b : Bool) → (a && b) ≡ true → (a ≡ true) × (b ≡ true)
both true true h = (refl, refl)
both true false h = absurd cc
both false b h = absurd cc

-- ---- the scanner in a line without bytes outside the characters

record Positions : Type 0 where
  line : ℕ
  column : ℕ
  at : ℕ
  first : ℕ
  start : ℕ

abbrev scanning : Positions → Within → List ℕ → Scanning
scanning p w bytes = record { line = p.line; column = p.column; at = p.at; first = p.first; start = p.start; stands = w; stray = None; bytes = bytes }

-- behind a byte within a word, and behind one that ends a word or follows none
abbrev further : Positions → Positions
further p = record { line = p.line; column = p.column + 1; at = p.at + 1; first = p.first; start = p.start }

abbrev fresh : Positions → Positions
fresh p = record { line = p.line; column = p.column + 1; at = p.at + 1; first = p.column + 1; start = p.at + 1 }

abbrev begun : ℕ → ℕ → Positions
begun line at = record { line = line; column = 1; at = at; first = 1; start = at }

-- From every position, behind words that were given, the rest of the text is read as these lines.
abbrev Reads : Within → List ℕ → List Spelled → List ℕ → List (List Spelled) → Type 0
Reads w front given text lines = (p : Positions) (done : List WordAt) → map spelled_of done ≡ given → Shown lines (lines_from (scanning p w front) done text)

abbrev stepped : Scanning → List WordAt → ℕ → List ℕ → Class → List LineAt
stepped s done b bs c = if ends_line c then ended s done false ∷ lines_from (at_line (s.line + 1) (s.at + 1)) [] bs
    else lines_from (after s b c) (done ++ gave s b c) bs

by_class : (lines : List (List Spelled)) (s : Scanning) (done : List WordAt) (b : ℕ) (bs : List ℕ) (c : Class) → class_of b (slice_index bs 0) ≡ c
    → Shown lines (stepped s done b bs c) → Shown lines (lines_from s done (b ∷ bs))
by_class lines s done b bs c e h = subst (λ (x : Class). Shown lines (stepped s done b bs x)) (sym e) h

none_given : (done : List WordAt) (given : List Spelled) → map spelled_of done ≡ given → map spelled_of (done ++ []) ≡ given
none_given done given h = ap (map spelled_of) (append-nil done) ∙ h

one_given : (done : List WordAt) (given : List Spelled) (w : WordAt) → map spelled_of done ≡ given → map spelled_of (done ++ w ∷ []) ≡ given ++ spelled_of w ∷ []
one_given done given w h = map-append spelled_of done (w ∷ []) ∙ ap (λ (x : List Spelled). x ++ spelled_of w ∷ []) h

-- ---- within words

plain_on : (bs front : List ℕ) (given : List Spelled) (rest : List ℕ) (lines : List (List Spelled)) → list_all is_word_byte bs ≡ true
    → Reads within.Plain (front ++ bs) given rest lines → Reads within.Plain front given (bs ++ rest) lines
plain_on [] front given rest lines h r = subst (λ (x : List ℕ). Reads within.Plain x given rest lines) (append-nil front) r
plain_on (b ∷ bs) front given rest lines h r =
    let t = both (is_word_byte b) (list_all is_word_byte bs) h in
    let more = plain_on bs (front ++ b ∷ []) given rest lines t.1
    (subst (λ (x : List ℕ). Reads within.Plain x given rest lines) (sym (append_assoc front (b ∷ []) bs)) r) in
    λ p done d. by_class lines (scanning p within.Plain front) done b (bs ++ rest) classes.Other (other b (slice_index (bs ++ rest) 0) t.0)
    (more (further p) (done ++ []) (none_given done given d))

bytes_on : (bs front : List ℕ) (given : List Spelled) (rest : List ℕ) (lines : List (List Spelled)) → list_all is_ascii_hexdigit bs ≡ true
    → Reads within.Bytes (front ++ bs) given rest lines → Reads within.Bytes front given (bs ++ rest) lines
bytes_on [] front given rest lines h r = subst (λ (x : List ℕ). Reads within.Bytes x given rest lines) (append-nil front) r
bytes_on (b ∷ bs) front given rest lines h r =
    let t = both (is_ascii_hexdigit b) (list_all is_ascii_hexdigit bs) h in
    let more = bytes_on bs (front ++ b ∷ []) given rest lines t.1
    (subst (λ (x : List ℕ). Reads within.Bytes x given rest lines) (sym (append_assoc front (b ∷ []) bs)) r) in
    λ p done d. by_class lines (scanning p within.Bytes front) done b (bs ++ rest) classes.Other (hex_other b (slice_index (bs ++ rest) 0) t.0)
    (more (further p) (done ++ []) (none_given done given d))

text_step : (p : Positions) (front : List ℕ) (done : List WordAt) (b : ℕ) (bs : List ℕ) (lines : List (List Spelled)) (c : Class) → is_kept c ≡ true
    → Shown lines (lines_from (scanning (further p) within.Text (front ++ b ∷ [])) (done ++ []) bs) → Shown lines (stepped (scanning p within.Text front) done b bs c)
text_step p front done b bs lines classes.LineEnd h r = absurd cc
text_step p front done b bs lines classes.Blank h r = r
text_step p front done b bs lines classes.Quote h r = absurd cc
text_step p front done b bs lines classes.Semicolon h r = r
text_step p front done b bs lines classes.Bad h r = absurd cc
text_step p front done b bs lines classes.Other h r = r

text_on : (bs front : List ℕ) (given : List Spelled) (rest : List ℕ) (lines : List (List Spelled)) → list_all is_text_byte bs ≡ true
    → Reads within.Text (front ++ bs) given rest lines → Reads within.Text front given (bs ++ rest) lines
text_on [] front given rest lines h r = subst (λ (x : List ℕ). Reads within.Text x given rest lines) (append-nil front) r
text_on (b ∷ bs) front given rest lines h r =
    let t = both (is_text_byte b) (list_all is_text_byte bs) h in
    let more = text_on bs (front ++ b ∷ []) given rest lines t.1
    (subst (λ (x : List ℕ). Reads within.Text x given rest lines) (sym (append_assoc front (b ∷ []) bs)) r) in
    λ p done d. by_class lines (scanning p within.Text front) done b (bs ++ rest) (class_of b (slice_index (bs ++ rest) 0)) refl
    (text_step p front done b (bs ++ rest) lines (class_of b (slice_index (bs ++ rest) 0)) (kept b (slice_index (bs ++ rest) 0) t.0)
    (more (further p) (done ++ []) (none_given done given d)))

-- ---- a word, and what follows it

word_on : (sort : Sort) (bytes : List ℕ) (given : List Spelled) (rest : List ℕ) (lines : List (List Spelled)) → IsSpelledAs sort bytes
    → (sort ≡ sorts.Plain → Reads within.Plain bytes given rest lines)
    → Reads within.Nothing [] (given ++ record { sort = sort; bytes = bytes } ∷ []) rest lines
    → Reads within.Nothing [] given (bytes ++ rest) lines
word_on sorts.Plain [] given rest lines h in_plain behind = absurd (omega (arith, h.0))
word_on sorts.Plain (b ∷ bs) given rest lines h in_plain behind =
    let t = both (is_word_byte b) (list_all is_word_byte bs) h.1 in
    let more = plain_on bs (b ∷ []) given rest lines t.1 (in_plain refl) in
    λ p done d. by_class lines (scanning p within.Nothing []) done b (bs ++ rest) classes.Other (other b (slice_index (bs ++ rest) 0) t.0)
    (more (further p) (done ++ []) (none_given done given d))
word_on sorts.Text bytes given rest lines h in_plain behind =
    let inner = h.0 in
    let e : bytes ++ rest ≡ 34 ∷ (inner ++ 34 ∷ rest) = ap (λ (x : List ℕ). x ++ rest) h.1 ∙ ap (λ (x : List ℕ). 34 ∷ x) (append_assoc inner (34 ∷ []) rest) in
    let behind_mark = subst (λ (x : List ℕ). Reads within.Nothing [] (given ++ record { sort = sorts.Text; bytes = x } ∷ []) rest lines) h.1 behind in
    let closed : Reads within.Text (34 ∷ inner) given (34 ∷ rest) lines =
    λ p done d. by_class lines (scanning p within.Text (34 ∷ inner)) done 34 rest classes.Quote refl
    (behind_mark (fresh p) (done ++ _ ∷ []) (one_given done given _ d)) in
    let more = text_on inner (34 ∷ []) given (34 ∷ rest) lines h.2 closed in
    subst (λ (x : List ℕ). Reads within.Nothing [] given x lines) (sym e)
    (λ p done d. by_class lines (scanning p within.Nothing []) done 34 (inner ++ 34 ∷ rest) classes.Quote refl
    (more (further p) (done ++ []) (none_given done given d)))
word_on sorts.Bytes bytes given rest lines h in_plain behind =
    let digits = h.0 in
    let e : bytes ++ rest ≡ 120 ∷ 34 ∷ (digits ++ 34 ∷ rest) = ap (λ (x : List ℕ). x ++ rest) h.1 ∙ ap (λ (x : List ℕ). 120 ∷ 34 ∷ x) (append_assoc digits (34 ∷ []) rest) in
    let behind_mark = subst (λ (x : List ℕ). Reads within.Nothing [] (given ++ record { sort = sorts.Bytes; bytes = x } ∷ []) rest lines) h.1 behind in
    let closed : Reads within.Bytes (120 ∷ 34 ∷ digits) given (34 ∷ rest) lines =
    λ p done d. by_class lines (scanning p within.Bytes (120 ∷ 34 ∷ digits)) done 34 rest classes.Quote refl
    (behind_mark (fresh p) (done ++ _ ∷ []) (one_given done given _ d)) in
    let more = bytes_on digits (120 ∷ 34 ∷ []) given (34 ∷ rest) lines h.2 closed in
    let marked : Reads within.Plain (120 ∷ []) given (34 ∷ (digits ++ 34 ∷ rest)) lines =
    λ p done d. by_class lines (scanning p within.Plain (120 ∷ [])) done 34 (digits ++ 34 ∷ rest) classes.Quote refl
    (more (further p) (done ++ []) (none_given done given d)) in
    subst (λ (x : List ℕ). Reads within.Nothing [] given x lines) (sym e)
    (λ p done d. by_class lines (scanning p within.Nothing []) done 120 (34 ∷ (digits ++ 34 ∷ rest)) classes.Other refl
    (marked (further p) (done ++ []) (none_given done given d)))
word_on sorts.Unclosed bytes given rest lines h in_plain behind = absurd h
word_on (sorts.Stray c) bytes given rest lines h in_plain behind = absurd h
word_on (sorts.Remark c) bytes given rest lines h in_plain behind = absurd h

-- a space behind a word
spaced : (w : Spelled) (given : List Spelled) (rest : List ℕ) (lines : List (List Spelled)) → IsSpelled w
    → Reads within.Nothing [] (given ++ w ∷ []) rest lines → Reads within.Nothing [] given (w.bytes ++ 32 ∷ rest) lines
spaced w given rest lines h r = word_on w.sort w.bytes given (32 ∷ rest) lines h
    (λ is p done d. by_class lines (scanning p within.Plain w.bytes) done 32 rest classes.Blank refl
    (r (fresh p) (done ++ _ ∷ []) (one_given done given _ d
    ∙ ap (λ (x : Sort). given ++ record { sort = x; bytes = w.bytes } ∷ []) (sym is))))
    (λ p done d. by_class lines (scanning p within.Nothing []) done 32 rest classes.Blank refl
    (r (fresh p) (done ++ []) (none_given done (given ++ w ∷ []) d)))

-- a line's end behind a word
last : (w : Spelled) (given : List Spelled) (rest : List ℕ) (lines : List (List Spelled)) → IsSpelled w
    → Reads within.Nothing [] [] rest lines → Reads within.Nothing [] given (w.bytes ++ 10 ∷ rest) ((given ++ w ∷ []) ∷ lines)
last w given rest lines h r = word_on w.sort w.bytes given (10 ∷ rest) ((given ++ w ∷ []) ∷ lines) h
    (λ is p done d. by_class ((given ++ w ∷ []) ∷ lines) (scanning p within.Plain w.bytes) done 10 rest classes.LineEnd refl
    (refl, one_given done given _ d ∙ ap (λ (x : Sort). given ++ record { sort = x; bytes = w.bytes } ∷ []) (sym is), r (begun (p.line + 1) (p.at + 1)) [] refl))
    (λ p done d. by_class ((given ++ w ∷ []) ∷ lines) (scanning p within.Nothing []) done 10 rest classes.LineEnd refl
    (refl, none_given done (given ++ w ∷ []) d, r (begun (p.line + 1) (p.at + 1)) [] refl))

-- ---- lines

line_on : (w : Spelled) (ws given : List Spelled) (rest : List ℕ) (lines : List (List Spelled)) → IsSpelled w → AreSpelled ws
    → Reads within.Nothing [] [] rest lines → Reads within.Nothing [] given (w.bytes ++ (more_text ws ++ 10 ∷ rest)) ((given ++ w ∷ ws) ∷ lines)
line_on w [] given rest lines h hs r = last w given rest lines h r
line_on w (v ∷ vs) given rest lines h hs r =
    let e : (v.bytes ++ more_text vs) ++ 10 ∷ rest ≡ v.bytes ++ (more_text vs ++ 10 ∷ rest) = append_assoc v.bytes (more_text vs) (10 ∷ rest) in
    let f : (given ++ w ∷ []) ++ v ∷ vs ≡ given ++ w ∷ v ∷ vs = append_assoc given (w ∷ []) (v ∷ vs) in
    let more = subst (λ (x : List Spelled). Reads within.Nothing [] (given ++ w ∷ []) (v.bytes ++ (more_text vs ++ 10 ∷ rest)) (x ∷ lines)) f
    (line_on v vs (given ++ w ∷ []) rest lines hs.0 hs.1 r) in
    spaced w given ((v.bytes ++ more_text vs) ++ 10 ∷ rest) ((given ++ w ∷ v ∷ vs) ∷ lines) h
    (subst (λ (x : List ℕ). Reads within.Nothing [] (given ++ w ∷ []) x ((given ++ w ∷ v ∷ vs) ∷ lines)) (sym e) more)

lines_on : (ls : List (List Spelled)) → AreLines ls → Reads within.Nothing [] [] (text_of ls) ls
lines_on [] h = λ p done d. (refl, none_given done [] d, refl)
lines_on ([] ∷ ls) h =
    λ p done d. by_class ([] ∷ ls) (scanning p within.Nothing []) done 10 (text_of ls) classes.LineEnd refl
    (refl, none_given done [] d, lines_on ls h.1 (begun (p.line + 1) (p.at + 1)) [] refl)
lines_on ((w ∷ ws) ∷ ls) h =
    let e : line_text (w ∷ ws) ++ text_of ls ≡ w.bytes ++ (more_text ws ++ 10 ∷ text_of ls)
    = append_assoc (w.bytes ++ more_text ws) (10 ∷ []) (text_of ls) ∙ append_assoc w.bytes (more_text ws) (10 ∷ text_of ls) in
    subst (λ (x : List ℕ). Reads within.Nothing [] [] x ((w ∷ ws) ∷ ls)) (sym e) (line_on w ws [] (text_of ls) ls h.0.0 h.0.1 (lines_on ls h.1))

-- The lines of the text of lines are these, and an empty one at its end.
pub lines_again : (ls : List (List Spelled)) → AreLines ls → Shown ls (lines_of (text_of ls))
unfolding lines_of
lines_again ls h = lines_on ls h (begun 1 0) [] refl

shown_again : (ls : List (List Spelled)) (xs : List LineAt) → Shown ls xs → map shown xs ≡ ls ++ [] ∷ []
shown_again [] [] h = absurd h
shown_again [] (x ∷ xs) h = ap (λ (ys : List LineAt). shown x ∷ map shown ys) h.2 ∙ ap (λ (y : List Spelled). y ∷ []) h.1
shown_again (l ∷ ls) [] h = absurd h
shown_again (l ∷ ls) (x ∷ xs) h = ap (λ (y : List Spelled). y ∷ map shown xs) h.1 ∙ ap (λ (ys : List (List Spelled)). l ∷ ys) (shown_again ls xs h.2)

pub words_again : (ls : List (List Spelled)) → AreLines ls → map shown (lines_of (text_of ls)) ≡ ls ++ [] ∷ []
words_again ls h = shown_again ls (lines_of (text_of ls)) (lines_again ls h)
