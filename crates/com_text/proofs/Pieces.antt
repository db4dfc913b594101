-- The pieces of a line.
use Rattle.std.proofs.Common.{◌≡◌, ℕ, ◌+◌, ◌-◌, ◌<◌, ◌≤◌, List, [], ◌∷◌, ◌++◌, length, take, drop, Option, Some, None, refl, sym, ap, ◌∙◌, arith}
use Rattle.std.specs.Prelude.{◌≢◌, slice_range, slice_index}
use Rattle.com_text.specs.declared.scan.Class.{Class}
use Rattle.com_text.specs.declared.scan.Class.TheVariants as classes
use Rattle.com_text.specs.declared.scan.Scanner.{Scanner}
use Rattle.com_text.specs.declared.scan.Within.TheVariants as within
use Rattle.com_text.specs.declared.line.Piece.{Piece}
use Rattle.com_text.specs.declared.line.Piece.TheVariants as pieces
use Rattle.com_text.specs.Words.{WordAt, LineAt}
use Rattle.com_text.specs.Scanning.{Scanning, seen, after, gave, class_of, lines_from}
use Rattle.com_text.specs.Kept.{IsKept}
use Rattle.com_text.specs.Runs.{between, plain_word, IsFresh, Skips, Takes, Goes}
use Rattle.com_text.proofs.Keeps.{kept_fresh}
use Rattle.com_text.proofs.Runs.{stepped, class_at, at_byte}

pub kept_between : (text : List ℕ) (at : ℕ) (s : Scanner) → IsFresh at s → IsKept text at s
kept_between text at s h = kept_fresh text at s h.0 h.1 h.2

pub seen_between : (text : List ℕ) (at : ℕ) (s : Scanner) → IsFresh at s → s.within ≡ within.Nothing → seen text at s ≡ between s.line s.column at
seen_between text at s h w =
    let none : slice_range text s.from at ≡ [] = (let from = h.0 in let e : at - s.from ≡ 0 = omega arith in ap (λ (n : ℕ). take n (drop s.from text)) e) in
    cc (h.0, h.1, h.2, w, none)

skipped : (text : List ℕ) (line at from to : ℕ) (words : List WordAt) → at ≤ from → from ≤ to → Skips text from to
    → lines_from (between line ((from + 1) - at) from) words (drop from text) ≡ lines_from (between line ((to + 1) - at) to) words (drop to text)
skipped text line at from to words l m h =
    let e : ((from + 1) - at) + (to - from) ≡ (to + 1) - at = omega arith in
    h line ((from + 1) - at) words ∙ ap (λ (n : ℕ). lines_from (between line n to) words (drop to text)) e

pub goes_word : (text : List ℕ) (line at from begin end : ℕ) (old new : List WordAt) → at ≤ from → from ≤ begin → begin < end → end ≤ length text → Skips text from begin → Takes text begin end
    → new ≡ old ++ plain_word text line ((begin + 1) - at) begin end ∷ [] → Goes text line at from old new (pieces.Next end)
goes_word text line at from begin end old new l m n o s t e =
    let column : ((begin + 1) - at) + (end - begin) ≡ (end + 1) - at = omega arith in (
      omega arith,
      o,
      skipped text line at from begin old l m s ∙ t line ((begin + 1) - at) old
          ∙ ap (λ (c : ℕ). lines_from (between line c end) (old ++ plain_word text line ((begin + 1) - at) begin end ∷ []) (drop end text)) column
          ∙ ap (λ (ws : List WordAt). lines_from (between line ((end + 1) - at) end) ws (drop end text)) (sym e),
    )

pub goes_behind : (text : List ℕ) (line at from begin : ℕ) (old new : List WordAt) (p : Piece) → at ≤ from → from ≤ begin → Skips text from begin → Goes text line at begin old new p → Goes text line at from old new p
goes_behind text line at from begin old new (pieces.Next to) l m s g =
    let far = g.0 in (omega arith, g.1, skipped text line at from begin old l m s ∙ g.2)
goes_behind text line at from begin old new (pieces.End end) l m s g =
    let far = g.0 in (omega arith, g.1, g.2, skipped text line at from begin old l m s ∙ g.3)

-- ---- a byte of another piece

inner_line : (s : Scanning) (words : List WordAt) (b : ℕ) (bs : List ℕ) (c : Class) → c ≢ classes.LineEnd → stepped s words b bs c ≡ lines_from (after s b c) (words ++ gave s b c) bs
inner_line s words b bs classes.LineEnd h = absurd (h refl)
inner_line s words b bs classes.Blank h = refl
inner_line s words b bs classes.Quote h = refl
inner_line s words b bs classes.Semicolon h = refl
inner_line s words b bs classes.Bad h = refl
inner_line s words b bs classes.Other h = refl

-- where it ends within the line
pub odd_next : (text : List ℕ) (at i : ℕ) (s t : Scanner) (c : Class) (words new : List WordAt) (lines : List LineAt) → i < length text → at ≤ i
    → c ≡ class_at text i → c ≢ classes.LineEnd → s.column ≡ (i + 1) - at
    → lines_from (seen text i s) words (drop i text) ≡ lines
    → new ≡ words ++ gave (seen text i s) (slice_index text i) c
    → seen text (i + 1) t ≡ after (seen text i s) (slice_index text i) c → t.line ≡ s.line → t.column ≡ s.column + 1 → IsFresh (i + 1) t → t.within ≡ within.Nothing
    → lines ≡ lines_from (between s.line (((i + 1) + 1) - at) (i + 1)) new (drop (i + 1) text)
odd_next text at i s t c words new lines h l ce inner column e n se line further fresh w =
    let b = slice_index text i in
    let rest = drop (i + 1) text in
    let col : t.column ≡ ((i + 1) + 1) - at = omega arith in
    sym e ∙ at_byte text i h (seen text i s) words
    ∙ ap (λ (x : Class). stepped (seen text i s) words b rest x) (sym ce)
    ∙ inner_line (seen text i s) words b rest c inner
    ∙ ap (λ (x : Scanning). lines_from x (words ++ gave (seen text i s) b c) rest) (sym se ∙ seen_between text (i + 1) t fresh w)
    ∙ ap (λ (x : ℕ). lines_from (between x t.column (i + 1)) (words ++ gave (seen text i s) b c) rest) line
    ∙ ap (λ (x : ℕ). lines_from (between s.line x (i + 1)) (words ++ gave (seen text i s) b c) rest) col
    ∙ ap (λ (x : List WordAt). lines_from (between s.line ((i + 1) + 1 - at) (i + 1)) x rest) (sym n)
