-- The scanner's words cut the text.
use Rattle.std.proofs.Common.{◌≡◌, ℕ, zero, suc, ◌+◌, ◌≤◌, ◌<◌, ◌⊎◌, inl, inr, Bool, true, false, cond, ◌==◌, ◌&&◌, ◌||◌, nat_lt, List, [], ◌∷◌, ◌++◌, length, map, drop, Option, Some, None, refl, sym, ap, subst, ◌∙◌, arith, append_assoc, append-nil}
use Rattle.std.specs.Prelude.{slice_index, bytes_eq, codes}
use Rattle.std.proofs.lemmas.Bool.{cond_both, eqb-true, or_cases, and_parts, cases_order, true≢false}
use Rattle.std.proofs.lemmas.List.{map-append}
use Rattle.com_text.specs.declared.word.Sort.TheVariants as sorts
use Rattle.com_text.specs.declared.scan.Class.{Class}
use Rattle.com_text.specs.declared.scan.Class.TheVariants as classes
use Rattle.com_text.specs.declared.scan.Within.{Within}
use Rattle.com_text.specs.declared.scan.Within.TheVariants as within
use Rattle.com_text.specs.declared.token.Token.{Token}
use Rattle.com_text.specs.Words.{WordAt}
use Rattle.com_text.specs.Scanning.{Scanning, class_of, ends_line, turn, moved, after, sorted, word_of, remark, closed_by, closing, literal, gave_by, gave, at_line, ended, lines_from, lines_of}
use Rattle.com_text.specs.Tokens.{token_of, end_token, tokens_of}
use Rattle.com_text.specs.Cutting.{IsBlank, IsGap, IsCut}

-- ---- bytes

-- what a byte of a class is, before the byte behind it
abbrev IsByte : Class → ℕ → ℕ → Type 0
IsByte classes.LineEnd b next = b ≡ 10
IsByte classes.Blank b next = (b ≡ 32) ⊎ ((b ≡ 9) ⊎ ((b ≡ 13) × (next ≡ 10)))
IsByte classes.Bad b next = Unit {0}
IsByte classes.Quote b next = Unit {0}
IsByte classes.Semicolon b next = b ≡ 59
IsByte classes.Other b next = Unit {0}

blank_byte : (b next : ℕ) → (b == 32 || b == 9 || (b == 13 && next == 10)) ≡ true → (b ≡ 32) ⊎ ((b ≡ 9) ⊎ ((b ≡ 13) × (next ≡ 10)))
blank_byte b next h = elim (or_cases (b == 32 || b == 9) (b == 13 && next == 10) h) [
  | inl t ↦ elim (or_cases (b == 32) (b == 9) t) [
    | inl e ↦ inl (eqb-true b 32 e)
    | inr e ↦ inr (inl (eqb-true b 9 e))
  ]
  | inr t ↦ (let p = and_parts (b == 13) (next == 10) t in inr (inr (eqb-true b 13 p.0, eqb-true next 10 p.1)))
]

byte_of : (b next : ℕ) → IsByte (class_of b next) b next
byte_of b next = cond_both (b == 10) _ _ (λ c. IsByte c b next) (λ e. eqb-true b 10 e) (λ _.
    cond_both (b == 32 || b == 9 || (b == 13 && next == 10)) _ _ (λ c. IsByte c b next) (λ e. blank_byte b next e) (λ _.
    cond_both (nat_lt b 32 || nat_lt 126 b) _ _ (λ c. IsByte c b next) (λ _. tt) (λ _.
    cond_both (b == 34) _ _ (λ c. IsByte c b next) (λ _. tt) (λ _.
    cond_both (b == 59) _ _ (λ c. IsByte c b next) (λ e. eqb-true b 59 e) (λ _. tt)))))

not_end : (b next : ℕ) → ends_line (class_of b next) ≡ false → b ≡ 10 → ⊥
not_end b next h e = true≢false (sym (ap (λ (x : ℕ). ends_line (class_of x next)) e) ∙ h)

-- ---- the rest of a text

-- the first byte of the rest stands at its position, and the rest behind it too
pub record StandsAt (text : List ℕ) (at b : ℕ) (bs : List ℕ) : Type 0 where
  pub byte : slice_index text at ≡ b
  pub within : at < length text
  pub rest : drop (at + 1) text ≡ bs

next_byte : (text : List ℕ) (at b : ℕ) (bs : List ℕ) → drop at text ≡ b ∷ bs → StandsAt text at b bs
next_byte [] zero b bs e = absurd cc
next_byte [] (suc at) b bs e = absurd cc
next_byte (x ∷ xs) zero b bs e = record { byte = cc; within = omega arith; rest = cc }
next_byte (x ∷ xs) (suc at) b bs e =
    let h = next_byte xs at b bs e in
    let k : suc at + 1 ≡ suc (at + 1) = omega arith in
    record { byte = h.byte; within = (let l = h.within in omega arith); rest = ap (λ (n : ℕ). drop n (x ∷ xs)) k ∙ h.rest }

first_of_rest : (text : List ℕ) (at : ℕ) (bs : List ℕ) → drop at text ≡ bs → slice_index text at ≡ slice_index bs 0
first_of_rest [] zero bs e = ap (λ (x : List ℕ). slice_index x 0) e
first_of_rest [] (suc at) bs e = ap (λ (x : List ℕ). slice_index x 0) e
first_of_rest (x ∷ xs) zero bs e = ap (λ (x : List ℕ). slice_index x 0) e
first_of_rest (x ∷ xs) (suc at) bs e = first_of_rest xs at bs e

no_rest : (text : List ℕ) (at : ℕ) → drop at text ≡ [] → at ≤ length text → at ≡ length text
no_rest [] at e l = omega arith
no_rest (x ∷ xs) zero e l = absurd cc
no_rest (x ∷ xs) (suc at) e l = let h = no_rest xs at e (omega arith) in omega arith

-- ---- gaps

no_gap : (text : List ℕ) (from : ℕ) → IsGap text from from
no_gap text from k low high = absurd (omega arith)

gap_more : (text : List ℕ) (from to : ℕ) → IsGap text from to → IsBlank text to → IsGap text from (to + 1)
gap_more text from to h b k low high = elim (cases_order k to) [
  | inl same ↦ inl (subst (λ (n : ℕ). IsBlank text n) (sym same) b)
  | inr other ↦ elim other [
    | inl less ↦ h k low less
    | inr more ↦ absurd (omega arith)
  ]
]

-- a comment behind a gap
gap_comment : (text : List ℕ) (from start to : ℕ) → IsGap text from start → from ≤ start → slice_index text start ≡ 59 → ((i : ℕ) → start ≤ i → i < to → slice_index text i ≡ 10 → ⊥) → IsGap text from to
gap_comment text from start to h low mark line k a b = elim (cases_order k start) [
  | inl same ↦ inr (record { mark = start; behind = low; before = omega arith; semicolon = mark; same_line = λ i c d. line i c (omega arith) })
  | inr other ↦ elim other [
    | inl less ↦ h k a less
    | inr more ↦ inr (record { mark = start; behind = low; before = omega arith; semicolon = mark; same_line = λ i c d. line i c (omega arith) })
  ]
]

-- ---- what stands of a word so far

pub record Remarked (text : List ℕ) (start at : ℕ) : Type 0 where
  pub some : start < at
  pub semicolon : slice_index text start ≡ 59
  pub same_line : (i : ℕ) → start ≤ i → i < at → slice_index text i ≡ 10 → ⊥

abbrev pub IsBegun : List ℕ → Within → (start at : ℕ) → Type 0
IsBegun text within.Nothing start at = start ≡ at
IsBegun text within.Plain start at = start < at
IsBegun text within.Text start at = start < at
IsBegun text within.Bytes start at = start < at
IsBegun text within.Remark start at = Remarked text start at

-- a gap from a position up to the word that stands so far
pub record Cut (text : List ℕ) (from start at : ℕ) (w : Within) : Type 0 where
  pub low : from ≤ start
  pub high : at ≤ length text
  pub gap : IsGap text from start
  pub begun : IsBegun text w start at

abbrev pub Cuts : List ℕ → ℕ → Scanning → Type 0
Cuts text from s = Cut text from s.start s.at s.stands

-- ---- tokens of what is left

pushed : (ts : List WordAt) (us : List WordAt) → map token_of (ts ++ us) ≡ map token_of ts ++ map token_of us
pushed ts us = map-append token_of ts us

-- what follows a token
cut_token : (text : List ℕ) (from start end : ℕ) (t : Token) (ts : List Token) → t.start ≡ start → t.end ≡ end → IsGap text from start → from ≤ start → start < end → end ≤ length text → IsCut text end ts → IsCut text from (t ∷ ts)
cut_token text from start end t ts e f gap low some high rest =
    (subst (IsGap text from) (sym e) gap, omega (arith, e), omega (arith, e, f), omega (arith, f), subst (λ (n : ℕ). IsCut text n ts) (sym f) rest)

-- a comment is a gap, and one with a byte outside the characters a token
remark_cut : (text : List ℕ) (from : ℕ) (s : Scanning) (o : Option ℕ) (ts : List Token) → Cut text from s.start s.at within.Remark → ((g : ℕ) → g ≤ s.at → IsGap text g s.at → IsCut text g ts) → IsCut text from (map token_of (remark s o) ++ ts)
remark_cut text from s None ts h k = let b = h.begun in let l = h.low in let n = b.some in k from (omega arith) (gap_comment text from s.start s.at h.gap h.low b.semicolon b.same_line)
remark_cut text from s (Some c) ts h k = cut_token text from s.start s.at (token_of (word_of s (sorts.Remark c) s.bytes 0)) ts refl (omega arith) h.gap h.low h.begun.some h.high (k s.at (omega arith) (no_gap text s.at))

-- the words that end where a line ends, before other tokens
closing_cut : (text : List ℕ) (from : ℕ) (s : Scanning) (w : Within) (ts : List Token) → Cut text from s.start s.at w → ((g : ℕ) → g ≤ s.at → IsGap text g s.at → IsCut text g ts) → IsCut text from (map token_of (closed_by s w) ++ ts)
closing_cut text from s within.Nothing ts h k = let b = h.begun in let l = h.low in k from (omega arith) (subst (IsGap text from) b h.gap)
closing_cut text from s within.Plain ts h k = cut_token text from s.start s.at (token_of (word_of s (sorted s.stray sorts.Plain) s.bytes 0)) ts refl (omega arith) h.gap h.low h.begun h.high (k s.at (omega arith) (no_gap text s.at))
closing_cut text from s within.Text ts h k = cut_token text from s.start s.at (token_of (word_of s sorts.Unclosed s.bytes 0)) ts refl (omega arith) h.gap h.low h.begun h.high (k s.at (omega arith) (no_gap text s.at))
closing_cut text from s within.Bytes ts h k = cut_token text from s.start s.at (token_of (word_of s sorts.Unclosed s.bytes 0)) ts refl (omega arith) h.gap h.low h.begun h.high (k s.at (omega arith) (no_gap text s.at))
closing_cut text from s within.Remark ts h k = remark_cut text from s s.stray ts h k

-- the tokens of a line's words come before those of what is left
words_first : (bs : List ℕ) (s : Scanning) (words : List WordAt) → tokens_of (lines_from s words bs) ≡ map token_of words ++ tokens_of (lines_from s [] bs)
words_first [] s words =
    ap (λ (x : List Token). (x ++ []) ++ []) (pushed words (closing s)) ∙ (let e = append_assoc (map token_of words) (map token_of (closing s)) [] in let f = append_assoc (map token_of words) (map token_of (closing s) ++ []) [] in ap (λ (x : List Token). x ++ []) e ∙ f)
words_first (b ∷ bs) s words =
    let c = class_of b (slice_index bs 0) in
    let a = after s b c in
    let g = gave s b c in
    by (ends_line c) (words_first bs a (words ++ g)) (words_first bs a g)
  where
    by : (t : Bool) → tokens_of (lines_from (after s b (class_of b (slice_index bs 0))) (words ++ gave s b (class_of b (slice_index bs 0))) bs) ≡ map token_of (words ++ gave s b (class_of b (slice_index bs 0))) ++ tokens_of (lines_from (after s b (class_of b (slice_index bs 0))) [] bs)
        → tokens_of (lines_from (after s b (class_of b (slice_index bs 0))) (gave s b (class_of b (slice_index bs 0))) bs) ≡ map token_of (gave s b (class_of b (slice_index bs 0))) ++ tokens_of (lines_from (after s b (class_of b (slice_index bs 0))) [] bs)
        → tokens_of (cond t (ended s words false ∷ lines_from (at_line (s.line + 1) (s.at + 1)) [] bs) (lines_from (after s b (class_of b (slice_index bs 0))) (words ++ gave s b (class_of b (slice_index bs 0))) bs))
        ≡ map token_of words ++ tokens_of (cond t (ended s [] false ∷ lines_from (at_line (s.line + 1) (s.at + 1)) [] bs) (lines_from (after s b (class_of b (slice_index bs 0))) (gave s b (class_of b (slice_index bs 0))) bs))
    by true one two =
        let more = tokens_of (lines_from (at_line (s.line + 1) (s.at + 1)) [] bs) in
        let last = end_token s.at ∷ [] in
        ap (λ (x : List Token). (x ++ last) ++ more) (pushed words (closing s))
        ∙ ap (λ (x : List Token). x ++ more) (append_assoc (map token_of words) (map token_of (closing s)) last)
        ∙ append_assoc (map token_of words) (map token_of (closing s) ++ last) more
    by false one two =
        let g = gave s b (class_of b (slice_index bs 0)) in
        let more = tokens_of (lines_from (after s b (class_of b (slice_index bs 0))) [] bs) in
        one ∙ ap (λ (x : List Token). x ++ more) (pushed words g) ∙ append_assoc (map token_of words) (map token_of g) more ∙ ap (λ (x : List Token). map token_of words ++ x) (sym two)

-- ---- a byte that ends no line

-- what is known of the byte at the position where the scanner stands
pub record Byte (text : List ℕ) (at b next : ℕ) : Type 0 where
  pub here : slice_index text at ≡ b
  pub behind : slice_index text (at + 1) ≡ next
  pub within : at < length text
  pub inner : b ≡ 10 → ⊥

is_blank : (text : List ℕ) (at b next : ℕ) → Byte text at b next → (b ≡ 32) ⊎ ((b ≡ 9) ⊎ ((b ≡ 13) × (next ≡ 10))) → IsBlank text at
is_blank text at b next k h = elim h [
  | inl e ↦ inl (k.here ∙ e)
  | inr o ↦ elim o [ inl e ↦ inr (inl (k.here ∙ e)) | inr p ↦ inr (inr (k.here ∙ p.0, k.behind ∙ p.1)) ]
]

-- a word goes on, or begins
goes_on : (text : List ℕ) (from start at : ℕ) (v w : Within) → Cut text from start at v → at < length text → IsBegun text w start (at + 1) → Cut text from start (at + 1) w
goes_on text from start at v w h l b = record { low = h.low; high = omega arith; gap = h.gap; begun = b }

-- between words, behind a gap
between : (text : List ℕ) (from at : ℕ) → from ≤ at → at ≤ length text → IsGap text from at → Cut text from at at within.Nothing
between text from at l m g = record { low = l; high = m; gap = g; begun = refl }

remark_begun : (text : List ℕ) (start at b next : ℕ) → start ≡ at → Byte text at b next → b ≡ 59 → Remarked text start (at + 1)
remark_begun text start at b next e k h = record {
  some = omega arith;
  semicolon = ap (λ (n : ℕ). slice_index text n) e ∙ k.here ∙ h;
  same_line = λ i low high f. (let same : i ≡ at = omega arith in k.inner (sym k.here ∙ ap (λ (n : ℕ). slice_index text n) (sym same) ∙ f));
}

remark_more : (text : List ℕ) (start at b next : ℕ) → Byte text at b next → Remarked text start at → Remarked text start (at + 1)
remark_more text start at b next k h = record {
  some = (let l = h.some in omega arith);
  semicolon = h.semicolon;
  same_line = λ i low high f. elim (cases_order i at) [
    | inl same ↦ k.inner (sym k.here ∙ ap (λ (n : ℕ). slice_index text n) (sym same) ∙ f)
    | inr other ↦ elim other [ inl less ↦ h.same_line i low less f | inr more ↦ absurd (omega arith) ]
  ];
}

begins : (text : List ℕ) (start at : ℕ) → start ≡ at → start < at + 1
begins text start at e = omega arith

longer : (text : List ℕ) (start at : ℕ) → start < at → start < at + 1
longer text start at l = omega arith

stepped : (text : List ℕ) (from : ℕ) (s : Scanning) (b next : ℕ) (c : Class) (w : Within) (ts : List Token) → IsByte c b next → Byte text s.at b next → Cut text from s.start s.at w
    → ((g : ℕ) → Cuts text g (moved s b c (turn w c s.bytes)) → IsCut text g ts) → IsCut text from (map token_of (gave_by s b w c) ++ ts)
stepped text from s b next classes.LineEnd w ts is k h more = absurd (k.inner is)
stepped text from s b next classes.Blank within.Nothing ts is k h more =
    (let l = h.low in let e = h.begun in let m = k.within in
    more from (between text from (s.at + 1) (omega arith) (omega arith) (gap_more text from s.at (subst (IsGap text from) e h.gap) (is_blank text s.at b next k is))))
stepped text from s b next classes.Bad within.Nothing ts is k h more = more from (goes_on text from s.start s.at within.Nothing within.Plain h k.within (begins text s.start s.at h.begun))
stepped text from s b next classes.Quote within.Nothing ts is k h more = more from (goes_on text from s.start s.at within.Nothing within.Text h k.within (begins text s.start s.at h.begun))
stepped text from s b next classes.Semicolon within.Nothing ts is k h more = more from (goes_on text from s.start s.at within.Nothing within.Remark h k.within (remark_begun text s.start s.at b next h.begun k is))
stepped text from s b next classes.Other within.Nothing ts is k h more = more from (goes_on text from s.start s.at within.Nothing within.Plain h k.within (begins text s.start s.at h.begun))
stepped text from s b next classes.Blank within.Plain ts is k h more =
    (let m = k.within in
    cut_token text from s.start s.at (token_of (word_of s (sorted s.stray sorts.Plain) s.bytes 0)) ts refl (omega arith) h.gap h.low h.begun h.high
    (more s.at (between text s.at (s.at + 1) (omega arith) (omega arith) (gap_more text s.at s.at (no_gap text s.at) (is_blank text s.at b next k is)))))
stepped text from s b next classes.Quote within.Plain ts is k h more =
    more from (cond_both (bytes_eq s.bytes (codes "x")) within.Bytes within.Plain (λ w. Cuts text from (moved s b classes.Quote w))
    (λ _. goes_on text from s.start s.at within.Plain within.Bytes h k.within (longer text s.start s.at h.begun))
    (λ _. goes_on text from s.start s.at within.Plain within.Plain h k.within (longer text s.start s.at h.begun)))
stepped text from s b next classes.Bad within.Plain ts is k h more = more from (goes_on text from s.start s.at within.Plain within.Plain h k.within (longer text s.start s.at h.begun))
stepped text from s b next classes.Semicolon within.Plain ts is k h more = more from (goes_on text from s.start s.at within.Plain within.Plain h k.within (longer text s.start s.at h.begun))
stepped text from s b next classes.Other within.Plain ts is k h more = more from (goes_on text from s.start s.at within.Plain within.Plain h k.within (longer text s.start s.at h.begun))
stepped text from s b next classes.Quote within.Text ts is k h more =
    (let m = k.within in
    cut_token text from s.start (s.at + 1) (token_of (literal s b sorts.Text)) ts refl refl h.gap h.low (longer text s.start s.at h.begun) (omega arith)
    (more (s.at + 1) (between text (s.at + 1) (s.at + 1) (omega arith) (omega arith) (no_gap text (s.at + 1)))))
stepped text from s b next classes.Blank within.Text ts is k h more = more from (goes_on text from s.start s.at within.Text within.Text h k.within (longer text s.start s.at h.begun))
stepped text from s b next classes.Bad within.Text ts is k h more = more from (goes_on text from s.start s.at within.Text within.Text h k.within (longer text s.start s.at h.begun))
stepped text from s b next classes.Semicolon within.Text ts is k h more = more from (goes_on text from s.start s.at within.Text within.Text h k.within (longer text s.start s.at h.begun))
stepped text from s b next classes.Other within.Text ts is k h more = more from (goes_on text from s.start s.at within.Text within.Text h k.within (longer text s.start s.at h.begun))
stepped text from s b next classes.Quote within.Bytes ts is k h more =
    (let m = k.within in
    cut_token text from s.start (s.at + 1) (token_of (literal s b sorts.Bytes)) ts refl refl h.gap h.low (longer text s.start s.at h.begun) (omega arith)
    (more (s.at + 1) (between text (s.at + 1) (s.at + 1) (omega arith) (omega arith) (no_gap text (s.at + 1)))))
stepped text from s b next classes.Blank within.Bytes ts is k h more = more from (goes_on text from s.start s.at within.Bytes within.Bytes h k.within (longer text s.start s.at h.begun))
stepped text from s b next classes.Bad within.Bytes ts is k h more = more from (goes_on text from s.start s.at within.Bytes within.Bytes h k.within (longer text s.start s.at h.begun))
stepped text from s b next classes.Semicolon within.Bytes ts is k h more = more from (goes_on text from s.start s.at within.Bytes within.Bytes h k.within (longer text s.start s.at h.begun))
stepped text from s b next classes.Other within.Bytes ts is k h more = more from (goes_on text from s.start s.at within.Bytes within.Bytes h k.within (longer text s.start s.at h.begun))
stepped text from s b next classes.Blank within.Remark ts is k h more = more from (goes_on text from s.start s.at within.Remark within.Remark h k.within (remark_more text s.start s.at b next k h.begun))
stepped text from s b next classes.Bad within.Remark ts is k h more = more from (goes_on text from s.start s.at within.Remark within.Remark h k.within (remark_more text s.start s.at b next k h.begun))
stepped text from s b next classes.Quote within.Remark ts is k h more = more from (goes_on text from s.start s.at within.Remark within.Remark h k.within (remark_more text s.start s.at b next k h.begun))
stepped text from s b next classes.Semicolon within.Remark ts is k h more = more from (goes_on text from s.start s.at within.Remark within.Remark h k.within (remark_more text s.start s.at b next k h.begun))
stepped text from s b next classes.Other within.Remark ts is k h more = more from (goes_on text from s.start s.at within.Remark within.Remark h k.within (remark_more text s.start s.at b next k h.begun))

-- ---- the whole

moved_on : (text : List ℕ) (s : Scanning) (b : ℕ) (c : Class) (w : Within) (bs : List ℕ) → drop (s.at + 1) text ≡ bs → drop (moved s b c w).at text ≡ bs
moved_on text s b c within.Nothing bs e = e
moved_on text s b c within.Plain bs e = e
moved_on text s b c within.Text bs e = e
moved_on text s b c within.Bytes bs e = e
moved_on text s b c within.Remark bs e = e

lines_cut : (bs : List ℕ) (text : List ℕ) (from : ℕ) (s : Scanning) → drop s.at text ≡ bs → Cuts text from s → IsCut text from (tokens_of (lines_from s [] bs))
lines_cut [] text from s e h =
    let end : s.at ≡ length text = no_rest text s.at e h.high in
    let plain : map token_of (closing s) ++ [] ≡ (map token_of (closing s) ++ []) ++ [] = sym (append-nil (map token_of (closing s) ++ [])) in
    subst (IsCut text from) plain (closing_cut text from s s.stands [] h (λ g _ gap. subst (IsGap text g) end gap))
lines_cut (b ∷ bs) text from s e h =
    let next = slice_index bs 0 in
    let c = class_of b next in
    let k = next_byte text s.at b bs e in
    let rest = tokens_of (lines_from (at_line (s.line + 1) (s.at + 1)) [] bs) in
    let l = k.within in
    cond_both (ends_line c) (ended s [] false ∷ lines_from (at_line (s.line + 1) (s.at + 1)) [] bs) (lines_from (after s b c) (gave s b c) bs) (λ x. IsCut text from (tokens_of x))
    (λ _.
    (let shape : map token_of (closing s) ++ (end_token s.at ∷ rest) ≡ (map token_of (closing s) ++ end_token s.at ∷ []) ++ rest = sym (append_assoc (map token_of (closing s)) (end_token s.at ∷ []) rest) in
    subst (IsCut text from) shape (closing_cut text from s s.stands (end_token s.at ∷ rest) h (λ g low gap.
    (gap, low, omega arith, omega arith, lines_cut bs text (s.at + 1) (at_line (s.line + 1) (s.at + 1)) k.rest (between text (s.at + 1) (s.at + 1) (omega arith) (omega arith) (no_gap text (s.at + 1))))))))
    (λ f.
    (let byte : Byte text s.at b next = record { here = k.byte; behind = first_of_rest text (s.at + 1) bs k.rest; within = k.within; inner = not_end b next f } in
    subst (IsCut text from) (sym (words_first bs (after s b c) (gave s b c)))
    (stepped text from s b next c s.stands (tokens_of (lines_from (after s b c) [] bs)) (byte_of b next) byte h
    (λ g cut. lines_cut bs text g (after s b c) (moved_on text s b c (turn s.stands c s.bytes) bs k.rest) cut))))

pub tokens_cut : (text : List ℕ) → IsCut text 0 (tokens_of (lines_of text))
unfolding lines_of
tokens_cut text = lines_cut text text 0 (at_line 1 0) refl (between text 0 0 (omega arith) (omega arith) (no_gap text 0))

pub cut_of : (text : List ℕ) (ts : List Token) → ts ≡ tokens_of (lines_of text) → IsCut text 0 ts
cut_of text ts e = subst (IsCut text 0) (sym e) (tokens_cut text)
