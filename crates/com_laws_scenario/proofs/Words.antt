-- The scanner's words.
use Rattle.std.proofs.Common.{◌≡◌, ℕ, ◌+◌, ◌≤◌, ◌⊎◌, inl, inr, true, false, not, ◌==◌, ◌&&◌, ◌||◌, nat_le, nat_lt, List, [], ◌∷◌, ◌++◌, length, Option, Some, None, All, refl, sym, ap, ◌∙◌, arith, length-append}
use Rattle.std.specs.Prelude.{slice_index, bytes_eq, codes}
use Rattle.std.proofs.lemmas.List.Elements.{All-nil, All-cons, All-append, All-push}
use Rattle.std.proofs.lemmas.Bool.{cond_both, eqb-true, or_parts, or_cases, or_right, and_from, and_parts, ltb-false, le-leb, not_from_false, true≢false}
use Rattle.std.proofs.lemmas.Option.{none-some}
use Rattle.com_text.specs.declared.word.Sort.{Sort}
use Rattle.com_text.specs.declared.word.Sort.TheVariants as sorts
use Rattle.com_text.specs.declared.scan.Class.{Class}
use Rattle.com_text.specs.declared.scan.Class.TheVariants as classes
use Rattle.com_text.specs.declared.scan.Within.{Within}
use Rattle.com_text.specs.declared.scan.Within.TheVariants as within
use Rattle.com_text.specs.Words.{WordAt}
use Rattle.com_text.specs.Scanning.{Scanning, class_of, ends_line, turn, strayed, moved, after, sorted, word_of, remark, closed_by, closing, gave_by, gave, at_line, ended, lines_from, lines_of}
use Rattle.com_model.specs.Formed.{is_text_byte}
use Rattle.com_laws_scenario.specs.Words.{IsQuoted, IsLiteral, IsWord, IsLine}

-- ---- bytes

-- what a byte of a class is, before the byte behind it
abbrev IsByte : Class → ℕ → ℕ → Type 0
IsByte classes.LineEnd b next = b ≡ 10
IsByte classes.Blank b next = (is_text_byte b ≡ true) ⊎ (next ≡ 10)
IsByte classes.Bad b next = Unit {0}
IsByte classes.Quote b next = b ≡ 34
IsByte classes.Semicolon b next = is_text_byte b ≡ true
IsByte classes.Other b next = is_text_byte b ≡ true

printed : (b : ℕ) → (nat_lt b 32 || nat_lt 126 b) ≡ false → (b == 34) ≡ false → is_text_byte b ≡ true
printed b range mark =
    let r = or_parts (nat_lt b 32) (nat_lt 126 b) range in
    let low : 32 ≤ b = ltb-false b 32 r.0 in
    let high : b ≤ 126 = ltb-false 126 b r.1 in
    or_right (b == 9) _ (and_from (nat_le 32 b && nat_le b 126) (not (b == 34)) (and_from (nat_le 32 b) (nat_le b 126) (le-leb 32 b low) (le-leb b 126 high)) (not_from_false (b == 34) mark))

blank_byte : (b next : ℕ) → (b == 32 || b == 9 || (b == 13 && next == 10)) ≡ true → (is_text_byte b ≡ true) ⊎ (next ≡ 10)
blank_byte b next h = elim (or_cases (b == 32 || b == 9) (b == 13 && next == 10) h) [
  | inl t ↦ elim (or_cases (b == 32) (b == 9) t) [
    | inl e ↦ inl (ap is_text_byte (eqb-true b 32 e))
    | inr e ↦ inl (ap is_text_byte (eqb-true b 9 e))
  ]
  | inr t ↦ inr (eqb-true next 10 (and_parts (b == 13) (next == 10) t).1)
]

byte_of : (b next : ℕ) → IsByte (class_of b next) b next
byte_of b next = cond_both (b == 10) _ _ (λ c. IsByte c b next) (λ e. eqb-true b 10 e) (λ _.
    cond_both (b == 32 || b == 9 || (b == 13 && next == 10)) _ _ (λ c. IsByte c b next) (λ e. blank_byte b next e) (λ _.
    cond_both (nat_lt b 32 || nat_lt 126 b) _ _ (λ c. IsByte c b next) (λ _. tt) (λ range.
    cond_both (b == 34) _ _ (λ c. IsByte c b next) (λ e. eqb-true b 34 e) (λ mark.
    cond_both (b == 59) _ _ (λ c. IsByte c b next) (λ _. printed b range mark) (λ _. printed b range mark)))))

-- ---- what stands of a word so far, before the next byte

pub record BegunText (stray : Option ℕ) (bytes : List ℕ) (next : ℕ) : Type 0 where
  pub inner : List ℕ
  pub mark : bytes ≡ 34 ∷ inner
  pub characters : stray ≡ None → (All (λ c. is_text_byte c ≡ true) inner) ⊎ (next ≡ 10)

abbrev pub IsBegun : Within → Option ℕ → List ℕ → ℕ → Type 0
IsBegun within.Nothing stray bytes next = bytes ≡ []
IsBegun within.Plain stray bytes next = 1 ≤ length bytes
IsBegun within.Text stray bytes next = BegunText stray bytes next
IsBegun within.Bytes stray bytes next = 1 ≤ length bytes
IsBegun within.Remark stray bytes next = 1 ≤ length bytes

abbrev pub Stands : Scanning → ℕ → Type 0
Stands s next = IsBegun s.stands s.stray s.bytes next

grown : (bytes : List ℕ) (b : ℕ) → 1 ≤ length (bytes ++ b ∷ [])
grown bytes b = omega (arith, length-append bytes (b ∷ []))

not_strayed : (o : Option ℕ) (c : Class) (column : ℕ) → strayed o c column ≡ None → o ≡ None
not_strayed None c column h = refl
not_strayed (Some k) c column h = h

text_more : (stray stray' : Option ℕ) (bytes : List ℕ) (b next : ℕ) → (stray' ≡ None → stray ≡ None) → (stray' ≡ None → (is_text_byte b ≡ true) ⊎ (next ≡ 10)) → (b ≡ 10 → ⊥)
    → BegunText stray bytes b → BegunText stray' (bytes ++ b ∷ []) next
text_more stray stray' bytes b next back is nl h = record {
  inner = h.inner ++ b ∷ [];
  mark = ap (λ (x : List ℕ). x ++ b ∷ []) h.mark;
  characters = λ e. elim (h.characters (back e)) [
    | inl all ↦ elim (is e) [
      | inl one ↦ inl (All-push (λ c. is_text_byte c ≡ true) h.inner b all one)
      | inr last ↦ inr last
    ]
    | inr end ↦ absurd (nl end)
  ];
}

text_begun : (stray : Option ℕ) (bytes : List ℕ) (b next : ℕ) → bytes ≡ [] → b ≡ 34 → BegunText stray (bytes ++ b ∷ []) next
text_begun stray bytes b next e q = record {
  inner = [];
  mark = ap (λ (x : List ℕ). x ++ b ∷ []) e ∙ ap (λ (x : ℕ). x ∷ []) q;
  characters = λ _. inl (All-nil (λ c. is_text_byte c ≡ true));
}

bad_strayed : (o : Option ℕ) (column : ℕ) → strayed o classes.Bad column ≡ None → ⊥
bad_strayed None column h = none-some column (sym h)
bad_strayed (Some k) column h = none-some k (sym h)

stepped : (s : Scanning) (b next : ℕ) (c : Class) (w : Within) → IsByte c b next → (b ≡ 10 → ⊥) → IsBegun w s.stray s.bytes b → Stands (moved s b c (turn w c s.bytes)) next
stepped s b next classes.LineEnd w is nl h = absurd (nl is)
stepped s b next classes.Blank within.Nothing is nl h = refl
stepped s b next classes.Bad within.Nothing is nl h = grown s.bytes b
stepped s b next classes.Quote within.Nothing is nl h = text_begun (strayed s.stray classes.Quote s.column) s.bytes b next h is
stepped s b next classes.Semicolon within.Nothing is nl h = grown s.bytes b
stepped s b next classes.Other within.Nothing is nl h = grown s.bytes b
stepped s b next classes.Blank within.Plain is nl h = refl
stepped s b next classes.Bad within.Plain is nl h = grown s.bytes b
stepped s b next classes.Quote within.Plain is nl h = cond_both (bytes_eq s.bytes (codes "x")) within.Bytes within.Plain (λ w. Stands (moved s b classes.Quote w) next) (λ _. grown s.bytes b) (λ _. grown s.bytes b)
stepped s b next classes.Semicolon within.Plain is nl h = grown s.bytes b
stepped s b next classes.Other within.Plain is nl h = grown s.bytes b
stepped s b next classes.Blank within.Text is nl h = text_more s.stray (strayed s.stray classes.Blank s.column) s.bytes b next (not_strayed s.stray classes.Blank s.column) (λ _. is) nl h
stepped s b next classes.Bad within.Text is nl h = text_more s.stray (strayed s.stray classes.Bad s.column) s.bytes b next (not_strayed s.stray classes.Bad s.column) (λ e. absurd (bad_strayed s.stray s.column e)) nl h
stepped s b next classes.Quote within.Text is nl h = refl
stepped s b next classes.Semicolon within.Text is nl h = text_more s.stray (strayed s.stray classes.Semicolon s.column) s.bytes b next (not_strayed s.stray classes.Semicolon s.column) (λ _. inl is) nl h
stepped s b next classes.Other within.Text is nl h = text_more s.stray (strayed s.stray classes.Other s.column) s.bytes b next (not_strayed s.stray classes.Other s.column) (λ _. inl is) nl h
stepped s b next classes.Blank within.Bytes is nl h = grown s.bytes b
stepped s b next classes.Bad within.Bytes is nl h = grown s.bytes b
stepped s b next classes.Quote within.Bytes is nl h = refl
stepped s b next classes.Semicolon within.Bytes is nl h = grown s.bytes b
stepped s b next classes.Other within.Bytes is nl h = grown s.bytes b
stepped s b next classes.Blank within.Remark is nl h = grown s.bytes b
stepped s b next classes.Bad within.Remark is nl h = grown s.bytes b
stepped s b next classes.Quote within.Remark is nl h = grown s.bytes b
stepped s b next classes.Semicolon within.Remark is nl h = grown s.bytes b
stepped s b next classes.Other within.Remark is nl h = grown s.bytes b

-- ---- the words that end

one_word : (w : WordAt) → IsWord w → All IsWord (w ∷ [])
one_word w h = All-cons IsWord w [] h (All-nil IsWord)

sorted_word : (s : Scanning) (o : Option ℕ) (sort : Sort) (bytes : List ℕ) (more : ℕ) → 1 ≤ length bytes → (o ≡ None → IsLiteral sort bytes) → IsWord (word_of s (sorted o sort) bytes more)
sorted_word s None sort bytes more some is = record { some = some; literal = is refl }
sorted_word s (Some k) sort bytes more some is = record { some = some; literal = tt }

quoted : (stray : Option ℕ) (bytes : List ℕ) (b : ℕ) → b ≡ 34 → (b ≡ 10 → ⊥) → BegunText stray bytes b → stray ≡ None → IsQuoted (bytes ++ b ∷ [])
quoted stray bytes b q nl h e = record {
  inner = h.inner;
  marks = ap (λ (x : List ℕ). x ++ b ∷ []) h.mark ∙ ap (λ (x : ℕ). 34 ∷ (h.inner ++ x ∷ [])) q;
  characters = elim (h.characters e) [ inl all ↦ all | inr end ↦ absurd (nl end) ];
}

given : (s : Scanning) (b next : ℕ) (c : Class) (w : Within) → IsByte c b next → (b ≡ 10 → ⊥) → IsBegun w s.stray s.bytes b → All IsWord (gave_by s b w c)
given s b next classes.Blank within.Plain is nl h = one_word _ (sorted_word s s.stray sorts.Plain s.bytes 0 h (λ _. tt))
given s b next classes.Quote within.Text is nl h = one_word _ (sorted_word s s.stray sorts.Text (s.bytes ++ b ∷ []) 1 (grown s.bytes b) (quoted s.stray s.bytes b is nl h))
given s b next classes.Quote within.Bytes is nl h = one_word _ (sorted_word s s.stray sorts.Bytes (s.bytes ++ b ∷ []) 1 (grown s.bytes b) (λ _. tt))
given s b next c within.Nothing is nl h = All-nil IsWord
given s b next c within.Plain is nl h = All-nil IsWord
given s b next c within.Text is nl h = All-nil IsWord
given s b next c within.Bytes is nl h = All-nil IsWord
given s b next c within.Remark is nl h = All-nil IsWord

text_some : (stray : Option ℕ) (bytes : List ℕ) (next : ℕ) → BegunText stray bytes next → 1 ≤ length bytes
text_some stray bytes next h = omega (arith, ap length h.mark)

remarked : (s : Scanning) (o : Option ℕ) → 1 ≤ length s.bytes → All IsWord (remark s o)
remarked s None h = All-nil IsWord
remarked s (Some k) h = one_word _ (record { some = h; literal = tt })

closed : (s : Scanning) (next : ℕ) (w : Within) → IsBegun w s.stray s.bytes next → All IsWord (closed_by s w)
closed s next within.Nothing h = All-nil IsWord
closed s next within.Plain h = one_word _ (sorted_word s s.stray sorts.Plain s.bytes 0 h (λ _. tt))
closed s next within.Text h = one_word _ (record { some = text_some s.stray s.bytes next h; literal = tt })
closed s next within.Bytes h = one_word _ (record { some = h; literal = tt })
closed s next within.Remark h = remarked s s.stray h

-- ---- lines

not_end : (b next : ℕ) → ends_line (class_of b next) ≡ false → b ≡ 10 → ⊥
not_end b next h e = true≢false (sym (ap (λ (x : ℕ). ends_line (class_of x next)) e) ∙ h)

lines_on : (bs : List ℕ) (s : Scanning) (words : List WordAt) → Stands s (slice_index bs 0) → All IsWord words → All IsLine (lines_from s words bs)
lines_on [] s words h all = All-cons IsLine (ended s words true) [] (All-append IsWord words (closing s) all (closed s (slice_index [] 0) s.stands h)) (All-nil IsLine)
lines_on (b ∷ bs) s words h all =
    let next = slice_index bs 0 in
    let c = class_of b next in
    let is = byte_of b next in
    cond_both (ends_line c) (ended s words false ∷ lines_from (at_line (s.line + 1) (s.at + 1)) [] bs) (lines_from (after s b c) (words ++ gave s b c) bs) (All IsLine)
    (λ _. All-cons IsLine (ended s words false) (lines_from (at_line (s.line + 1) (s.at + 1)) [] bs)
    (All-append IsWord words (closing s) all (closed s b s.stands h))
    (lines_on bs (at_line (s.line + 1) (s.at + 1)) [] refl (All-nil IsWord)))
    (λ e. lines_on bs (after s b c) (words ++ gave s b c)
    (stepped s b next c s.stands is (not_end b next e) h)
    (All-append IsWord words (gave s b c) all (given s b next c s.stands is (not_end b next e) h)))

pub lines_formed : (text : List ℕ) → All IsLine (lines_of text)
unfolding lines_of
lines_formed text = lines_on text (at_line 1 0) [] refl (All-nil IsWord)
