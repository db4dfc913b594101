-- Spaces, and words that are no literals, taken at one time.
use Rattle.std.proofs.Common.{◌≡◌, ℕ, ◌+◌, ◌-◌, ◌<◌, ◌≤◌, Bool, true, false, cond, ◌&&◌, ◌||◌, ◌==◌, nat_lt, inl, inr, zero, suc, List, [], ◌∷◌, ◌++◌, length, get_or, take, drop, Option, Some, None, refl, sym, ap, ◌∙◌, subst, arith, append-nil}
use Rattle.std.specs.Prelude.{slice_range, slice_index, bytes_eq, codes, nat_le}
use Rattle.std.proofs.lemmas.List.{drop_more, get_or-drop, length-drop}
use Rattle.std.proofs.lemmas.Bool.Decides.{nat_tests}
use Rattle.std.proofs.lemmas.Bool.{cases_order}
use Rattle.com_text.specs.declared.word.Sort.TheVariants as sorts
use Rattle.com_text.specs.declared.scan.Class.{Class}
use Rattle.com_text.specs.declared.scan.Class.TheVariants as classes
use Rattle.com_text.specs.declared.scan.Within.{Within}
use Rattle.com_text.specs.declared.scan.Within.TheVariants as within
use Rattle.com_text.specs.Words.{WordAt, LineAt}
use Rattle.com_text.specs.Scanning.{Scanning, class_of, ends_line, turn, moved, after, gave, ended, at_line, lines_from, word_of}
use Rattle.com_text.specs.Runs.{is_graphic, begins_plain, ends_plain, is_end, between, in_plain, plain_word, Skips, GoesOn, Takes}
use Rattle.com_text.proofs.Scans.{range_more}

-- ---- one byte

abbrev pub stepped : Scanning → List WordAt → ℕ → List ℕ → Class → List LineAt
stepped s words b bs c =
    cond (ends_line c) (ended s words false ∷ lines_from (at_line (s.line + 1) (s.at + 1)) [] bs)
    (lines_from (after s b c) (words ++ gave s b c) bs)

-- the class of the byte at an index
abbrev pub class_at : List ℕ → ℕ → Class
class_at text at = class_of (slice_index text at) (slice_index text (at + 1))

pub at_byte : (text : List ℕ) (at : ℕ) → at < length text → (s : Scanning) (words : List WordAt)
    → lines_from s words (drop at text) ≡ stepped s words (slice_index text at) (drop (at + 1) text) (class_at text at)
at_byte text at h s words =
    let next : slice_index (drop (at + 1) text) 0 ≡ slice_index text (at + 1) = get_or-drop (at + 1) text 0 0 ∙ ap (λ (n : ℕ). get_or text n 0) (omega arith) in
    ap (λ (x : List ℕ). lines_from s words x) (drop_more text at 0 h)
    ∙ ap (λ (n : ℕ). stepped s words (slice_index text at) (drop (at + 1) text) (class_of (slice_index text at) n)) next

-- ---- spaces

space_class : (b n : ℕ) → b ≡ 32 → class_of b n ≡ classes.Blank
space_class b n h = ap (λ (x : ℕ). class_of x n) h

space_step : (text : List ℕ) (at line column : ℕ) (words : List WordAt) → at < length text → slice_index text at ≡ 32
    → lines_from (between line column at) words (drop at text) ≡ lines_from (between line (column + 1) (at + 1)) words (drop (at + 1) text)
space_step text at line column words h e =
    at_byte text at h (between line column at) words
    ∙ ap (λ (c : Class). stepped (between line column at) words (slice_index text at) (drop (at + 1) text) c) (space_class (slice_index text at) (slice_index text (at + 1)) e)
    ∙ ap (λ (x : List WordAt). lines_from (between line (column + 1) (at + 1)) x (drop (at + 1) text)) (append-nil words)

pub skip_none : (text : List ℕ) (from : ℕ) → Skips text from from
skip_none text from line column words =
    let e : column ≡ column + (from - from) = omega arith in
    ap (λ (n : ℕ). lines_from (between line n from) words (drop from text)) e

pub skip_more : (text : List ℕ) (from at : ℕ) → from ≤ at → at < length text → slice_index text at ≡ 32 → Skips text from at → Skips text from (at + 1)
skip_more text from at l h e k line column words =
    let same : (column + (at - from)) + 1 ≡ column + ((at + 1) - from) = omega arith in
    k line column words ∙ space_step text at line (column + (at - from)) words h e
    ∙ ap (λ (n : ℕ). lines_from (between line n (at + 1)) words (drop (at + 1) text)) same

-- ---- words

begins_other : (b n : ℕ) → begins_plain b ≡ true → class_of b n ≡ classes.Other
begins_other b n h = grind (arith, nat_tests)

abbrev is_inner : Class → Bool
is_inner classes.Quote = true
is_inner classes.Semicolon = true
is_inner classes.Other = true
is_inner _ = false

graphic_inner : (b n : ℕ) → is_graphic b ≡ true → is_inner (class_of b n) ≡ true
graphic_inner b n h = grind (arith, nat_tests)

not_x : (b : ℕ) (bs : List ℕ) → begins_plain b ≡ true → bytes_eq (b ∷ bs) (codes "x") ≡ false
not_x b bs h = by (b == 120) refl
  where
    by : (t : Bool) → (b == 120) ≡ t → bytes_eq (b ∷ bs) (codes "x") ≡ false
    by true e = grind (arith, nat_tests)
    by false e = grind (arith, nat_tests)

front_of : (text : List ℕ) (from at : ℕ) → from < at → from < length text → slice_range text from at ≡ slice_index text from ∷ slice_range text (from + 1) at
front_of text from at l h =
    let e : at - from ≡ suc (at - (from + 1)) = omega arith in
    ap (λ (x : List ℕ). take (at - from) x) (drop_more text from 0 h)
    ∙ ap (λ (n : ℕ). take n (slice_index text from ∷ drop (from + 1) text)) e

no_literal : (text : List ℕ) (from at : ℕ) → from < at → from < length text → begins_plain (slice_index text from) ≡ true → bytes_eq (slice_range text from at) (codes "x") ≡ false
no_literal text from at l h b = ap (λ (x : List ℕ). bytes_eq x (codes "x")) (front_of text from at l h) ∙ not_x (slice_index text from) (slice_range text (from + 1) at) b

-- one byte more of a word
abbrev more_plain : List ℕ → (line column from at b : ℕ) → Scanning
more_plain text line column from at b =
    record {
      line = line;
      column = (column + (at - from)) + 1;
      at = at + 1;
      first = column;
      start = from;
      stands = within.Plain;
      stray = None;
      bytes = slice_range text from at ++ b ∷ [];
    }

inner_step : (text : List ℕ) (line column from at : ℕ) (words : List WordAt) (b : ℕ) (bs : List ℕ) (c : Class) → bytes_eq (slice_range text from at) (codes "x") ≡ false → is_inner c ≡ true
    → stepped (in_plain text line column from at) words b bs c ≡ lines_from (more_plain text line column from at b) words bs
inner_step text line column from at words b bs classes.LineEnd x h = absurd cc
inner_step text line column from at words b bs classes.Blank x h = absurd cc
inner_step text line column from at words b bs classes.Bad x h = absurd cc
inner_step text line column from at words b bs classes.Quote x h =
    ap (λ (t : Bool). lines_from (moved (in_plain text line column from at) b classes.Quote (cond t within.Bytes within.Plain)) (words ++ []) bs) x
    ∙ ap (λ (ws : List WordAt). lines_from (more_plain text line column from at b) ws bs) (append-nil words)
inner_step text line column from at words b bs classes.Semicolon x h = ap (λ (ws : List WordAt). lines_from (more_plain text line column from at b) ws bs) (append-nil words)
inner_step text line column from at words b bs classes.Other x h = ap (λ (ws : List WordAt). lines_from (more_plain text line column from at b) ws bs) (append-nil words)

more_same : (text : List ℕ) (line column from at : ℕ) → from ≤ at → at < length text → more_plain text line column from at (slice_index text at) ≡ in_plain text line column from (at + 1)
more_same text line column from at l h =
    let wide : (column + (at - from)) + 1 ≡ column + ((at + 1) - from) = omega arith in
    let bytes = sym (range_more text from at l h) in
    cc (wide, bytes)

pub goes_none : (text : List ℕ) (at : ℕ) → GoesOn text at at
goes_none text at line column from words l b = refl

pub goes_more : (text : List ℕ) (start at : ℕ) → start ≤ at → at < length text → is_graphic (slice_index text at) ≡ true → GoesOn text start at → GoesOn text start (at + 1)
goes_more text start at low h g k line column from words l b =
    k line column from words l b
    ∙ at_byte text at h (in_plain text line column from at) words
    ∙ inner_step text line column from at words (slice_index text at) (drop (at + 1) text) (class_at text at) (no_literal text from at (omega arith) (omega arith) b) (graphic_inner (slice_index text at) (slice_index text (at + 1)) g)
    ∙ ap (λ (s : Scanning). lines_from s words (drop (at + 1) text)) (more_same text line column from at (omega arith) h)

-- the first byte
first_same : (text : List ℕ) (line column at : ℕ) → at < length text
    → record { line = line; column = column + 1; at = at + 1; first = column; start = at; stands = within.Plain; stray = None; bytes = slice_index text at ∷ [] } ≡ in_plain text line column at (at + 1)
first_same text line column at h =
    let wide : column + 1 ≡ column + ((at + 1) - at) = omega arith in
    let none : slice_range text at at ≡ [] = (let e : at - at ≡ 0 = omega arith in ap (λ (n : ℕ). take n (drop at text)) e) in
    let bytes : slice_index text at ∷ [] ≡ slice_range text at (at + 1) = sym (range_more text at at (omega arith) h ∙ ap (λ (x : List ℕ). x ++ slice_index text at ∷ []) none) in
    cc (wide, bytes)

begin_step : (text : List ℕ) (line column at : ℕ) (words : List WordAt) → at < length text → begins_plain (slice_index text at) ≡ true
    → lines_from (between line column at) words (drop at text) ≡ lines_from (in_plain text line column at (at + 1)) words (drop (at + 1) text)
begin_step text line column at words h b =
    at_byte text at h (between line column at) words
    ∙ ap (λ (c : Class). stepped (between line column at) words (slice_index text at) (drop (at + 1) text) c) (begins_other (slice_index text at) (slice_index text (at + 1)) b)
    ∙ ap (λ (ws : List WordAt). lines_from (record { line = line; column = column + 1; at = at + 1; first = column; start = at; stands = within.Plain; stray = None; bytes = slice_index text at ∷ [] }) ws (drop (at + 1) text)) (append-nil words)
    ∙ ap (λ (s : Scanning). lines_from s words (drop (at + 1) text)) (first_same text line column at h)

-- ---- where a word ends

word_same : (text : List ℕ) (line column from to : ℕ) → word_of (in_plain text line column from to) sorts.Plain (slice_range text from to) 0 ≡ plain_word text line column from to
word_same text line column from to =
    let wide : (column + (to - from)) + 0 ≡ column + (to - from) = omega arith in
    let end : to + 0 ≡ to = omega arith in
    cc (wide, end)

one_word : (text : List ℕ) (line column from to : ℕ) (words : List WordAt)
    → words ++ word_of (in_plain text line column from to) sorts.Plain (slice_range text from to) 0 ∷ [] ≡ (words ++ plain_word text line column from to ∷ []) ++ []
one_word text line column from to words =
    ap (λ (w : WordAt). words ++ w ∷ []) (word_same text line column from to) ∙ sym (append-nil (words ++ plain_word text line column from to ∷ []))

end_step : (text : List ℕ) (line column from to : ℕ) (words : List WordAt) (b : ℕ) (bs : List ℕ) (c : Class) → ends_plain c ≡ true
    → stepped (in_plain text line column from to) words b bs c ≡ stepped (between line (column + (to - from)) to) (words ++ plain_word text line column from to ∷ []) b bs c
end_step text line column from to words b bs classes.LineEnd h =
    ap (λ (ws : List WordAt). record { words = ws; line = line; column = column + (to - from); at = to; last = false } ∷ lines_from (at_line (line + 1) (to + 1)) [] bs) (one_word text line column from to words)
end_step text line column from to words b bs classes.Blank h =
    ap (λ (ws : List WordAt). lines_from (between line ((column + (to - from)) + 1) (to + 1)) ws bs) (one_word text line column from to words)
end_step text line column from to words b bs classes.Bad h = absurd cc
end_step text line column from to words b bs classes.Quote h = absurd cc
end_step text line column from to words b bs classes.Semicolon h = absurd cc
end_step text line column from to words b bs classes.Other h = absurd cc

nothing_left : (n : ℕ) → drop {A = ℕ} n [] ≡ []
nothing_left zero = refl
nothing_left (suc n) = refl

pub rest_none : (xs : List ℕ) (n : ℕ) → length xs ≤ n → drop n xs ≡ []
rest_none [] n h = nothing_left n
rest_none (x ∷ xs) zero h = absurd (omega arith)
rest_none (x ∷ xs) (suc n) h = rest_none xs n (omega arith)

word_end : (text : List ℕ) (line column from to : ℕ) (words : List WordAt) → is_end text to ≡ true
    → lines_from (in_plain text line column from to) words (drop to text) ≡ lines_from (between line (column + (to - from)) to) (words ++ plain_word text line column from to ∷ []) (drop to text)
word_end text line column from to words e = elim (cases_order (length text) to) [
  | inl same ↦ at_end (omega arith)
  | inr other ↦ elim other [
    | inl less ↦ at_end (omega arith)
    | inr more ↦ at_more more
  ]
]
  where
    at_end : length text ≤ to → lines_from (in_plain text line column from to) words (drop to text) ≡ lines_from (between line (column + (to - from)) to) (words ++ plain_word text line column from to ∷ []) (drop to text)
    at_end h =
        let none = rest_none text to h in
        ap (λ (x : List ℕ). lines_from (in_plain text line column from to) words x) none
        ∙ ap (λ (ws : List WordAt). record { words = ws; line = line; column = column + (to - from); at = to; last = true } ∷ []) (one_word text line column from to words)
        ∙ sym (ap (λ (x : List ℕ). lines_from (between line (column + (to - from)) to) (words ++ plain_word text line column from to ∷ []) x) none)

    at_more : to < length text → lines_from (in_plain text line column from to) words (drop to text) ≡ lines_from (between line (column + (to - from)) to) (words ++ plain_word text line column from to ∷ []) (drop to text)
    at_more h =
        let c : ends_plain (class_at text to) ≡ true = grind (arith, nat_tests) in
        at_byte text to h (in_plain text line column from to) words
        ∙ end_step text line column from to words (slice_index text to) (drop (to + 1) text) (class_at text to) c
        ∙ sym (at_byte text to h (between line (column + (to - from)) to) (words ++ plain_word text line column from to ∷ []))

pub taken : (text : List ℕ) (from to : ℕ) → from < length text → begins_plain (slice_index text from) ≡ true → GoesOn text (from + 1) to → is_end text to ≡ true → Takes text from to
taken text from to h b k e line column words =
    begin_step text line column from words h b
    ∙ k line column from words (omega arith) b
    ∙ word_end text line column from to words e
