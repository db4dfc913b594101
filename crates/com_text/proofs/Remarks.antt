-- Comments without bytes outside the characters, taken at one time.
use Rattle.std.proofs.Common.{◌≡◌, ℕ, ◌+◌, ◌-◌, ◌<◌, ◌≤◌, ◌⊎◌, inl, inr, Bool, true, false, List, [], ◌∷◌, ◌++◌, length, take, drop, Option, Some, None, refl, sym, ap, ◌∙◌, arith, append-nil}
use Rattle.std.specs.Prelude.{slice_range, slice_index}
use Rattle.std.proofs.lemmas.Bool.Decides.{nat_tests}
use Rattle.com_text.specs.declared.scan.Class.{Class}
use Rattle.com_text.specs.declared.scan.Class.TheVariants as classes
use Rattle.com_text.specs.declared.scan.Within.TheVariants as within
use Rattle.com_text.specs.Words.{WordAt}
use Rattle.com_text.specs.Scanning.{Scanning, class_of, lines_from}
use Rattle.com_text.specs.Runs.{is_character, between, in_remark, Skips, StaysIn}
use Rattle.com_text.proofs.Scans.{range_more}
use Rattle.com_text.proofs.Runs.{stepped, class_at, at_byte, rest_none}

-- ---- a byte within a comment

abbrev is_kept : Class → Bool
is_kept classes.LineEnd = false
is_kept classes.Bad = false
is_kept _ = true

character_kept : (b n : ℕ) → is_character b ≡ true → is_kept (class_of b n) ≡ true
character_kept b n h = grind (arith, nat_tests)

-- one byte more of a comment
abbrev more_remark : List ℕ → (line column from at b : ℕ) → Scanning
more_remark text line column from at b =
    record {
      line = line;
      column = (column + (at - from)) + 1;
      at = at + 1;
      first = column;
      start = from;
      stands = within.Remark;
      stray = None;
      bytes = slice_range text from at ++ b ∷ [];
    }

remark_step : (text : List ℕ) (line column from at : ℕ) (words : List WordAt) (b : ℕ) (bs : List ℕ) (c : Class) → is_kept c ≡ true
    → stepped (in_remark text line column from at) words b bs c ≡ lines_from (more_remark text line column from at b) words bs
remark_step text line column from at words b bs classes.LineEnd h = absurd cc
remark_step text line column from at words b bs classes.Bad h = absurd cc
remark_step text line column from at words b bs classes.Blank h = ap (λ (ws : List WordAt). lines_from (more_remark text line column from at b) ws bs) (append-nil words)
remark_step text line column from at words b bs classes.Quote h = ap (λ (ws : List WordAt). lines_from (more_remark text line column from at b) ws bs) (append-nil words)
remark_step text line column from at words b bs classes.Semicolon h = ap (λ (ws : List WordAt). lines_from (more_remark text line column from at b) ws bs) (append-nil words)
remark_step text line column from at words b bs classes.Other h = ap (λ (ws : List WordAt). lines_from (more_remark text line column from at b) ws bs) (append-nil words)

more_same : (text : List ℕ) (line column from at : ℕ) → from ≤ at → at < length text → more_remark text line column from at (slice_index text at) ≡ in_remark text line column from (at + 1)
more_same text line column from at l h =
    let wide : (column + (at - from)) + 1 ≡ column + ((at + 1) - from) = omega arith in
    let bytes = sym (range_more text from at l h) in
    cc (wide, bytes)

pub stays_none : (text : List ℕ) (at : ℕ) → StaysIn text at at
stays_none text at line column from words l = refl

pub stays_more : (text : List ℕ) (start at : ℕ) → start ≤ at → at < length text → is_character (slice_index text at) ≡ true → StaysIn text start at → StaysIn text start (at + 1)
stays_more text start at low h g k line column from words l =
    k line column from words l
    ∙ at_byte text at h (in_remark text line column from at) words
    ∙ remark_step text line column from at words (slice_index text at) (drop (at + 1) text) (class_at text at) (character_kept (slice_index text at) (slice_index text (at + 1)) g)
    ∙ ap (λ (s : Scanning). lines_from s words (drop (at + 1) text)) (more_same text line column from at (omega arith) h)

-- ---- its first byte and its end

-- the scanner behind the mark
abbrev marked : List ℕ → (line column at b : ℕ) → Scanning
marked text line column at b = record { line = line; column = column + 1; at = at + 1; first = column; start = at; stands = within.Remark; stray = None; bytes = b ∷ [] }

marked_same : (text : List ℕ) (line column at : ℕ) → at < length text → marked text line column at (slice_index text at) ≡ in_remark text line column at (at + 1)
marked_same text line column at h =
    let wide : column + 1 ≡ column + ((at + 1) - at) = omega arith in
    let none : slice_range text at at ≡ [] = (let e : at - at ≡ 0 = omega arith in ap (λ (n : ℕ). take n (drop at text)) e) in
    let bytes : slice_index text at ∷ [] ≡ slice_range text at (at + 1) = sym (range_more text at at (omega arith) h ∙ ap (λ (x : List ℕ). x ++ slice_index text at ∷ []) none) in
    cc (wide, bytes)

mark_step : (text : List ℕ) (line column at : ℕ) (words : List WordAt) → at < length text → slice_index text at ≡ 59
    → lines_from (between line column at) words (drop at text) ≡ lines_from (in_remark text line column at (at + 1)) words (drop (at + 1) text)
mark_step text line column at words h b =
    at_byte text at h (between line column at) words
    ∙ ap (λ (x : ℕ). stepped (between line column at) words (slice_index text at) (drop (at + 1) text) (class_of x (slice_index text (at + 1)))) b
    ∙ ap (λ (ws : List WordAt). lines_from (marked text line column at (slice_index text at)) ws (drop (at + 1) text)) (append-nil words)
    ∙ ap (λ (s : Scanning). lines_from s words (drop (at + 1) text)) (marked_same text line column at h)

end_step : (text : List ℕ) (line column from to : ℕ) (words : List WordAt) → to < length text → slice_index text to ≡ 10
    → lines_from (in_remark text line column from to) words (drop to text) ≡ lines_from (between line (column + (to - from)) to) words (drop to text)
end_step text line column from to words h b =
    at_byte text to h (in_remark text line column from to) words
    ∙ ap (λ (x : ℕ). stepped (in_remark text line column from to) words (slice_index text to) (drop (to + 1) text) (class_of x (slice_index text (to + 1)))) b
    ∙ sym (ap (λ (x : ℕ). stepped (between line (column + (to - from)) to) words (slice_index text to) (drop (to + 1) text) (class_of x (slice_index text (to + 1)))) b)
    ∙ sym (at_byte text to h (between line (column + (to - from)) to) words)

last_step : (text : List ℕ) (line column from to : ℕ) (words : List WordAt) → length text ≤ to
    → lines_from (in_remark text line column from to) words (drop to text) ≡ lines_from (between line (column + (to - from)) to) words (drop to text)
last_step text line column from to words h =
    let none = rest_none text to h in
    ap (λ (x : List ℕ). lines_from (in_remark text line column from to) words x) none
    ∙ sym (ap (λ (x : List ℕ). lines_from (between line (column + (to - from)) to) words x) none)

pub passed_line : (text : List ℕ) (from to : ℕ) → from < length text → slice_index text from ≡ 59 → StaysIn text (from + 1) to → to < length text → slice_index text to ≡ 10 → Skips text from to
passed_line text from to h b k m e line column words =
    mark_step text line column from words h b ∙ k line column from words (omega arith) ∙ end_step text line column from to words m e

pub passed_last : (text : List ℕ) (from to : ℕ) → from < length text → slice_index text from ≡ 59 → StaysIn text (from + 1) to → length text ≤ to → Skips text from to
passed_last text from to h b k m line column words =
    mark_step text line column from words h b ∙ k line column from words (omega arith) ∙ last_step text line column from to words m
