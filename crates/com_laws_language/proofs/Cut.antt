-- Every text has lines, and every line words.
use Rattle.std.proofs.Common.{◌≡◌, ℕ, zero, suc, ◌+◌, ◌≤◌, Bool, true, false, cond, List, [], ◌∷◌, ◌++◌, length, Option, Some, None, refl, sym, ap, ◌∙◌, subst, arith, append_assoc, append-nil, length-append, slice_index, ◌==◌, ◌&&◌}
use Rattle.std.specs.List.{join_with_byte}
use Rattle.std.proofs.lemmas.Bool.{eqb-true}
use Rattle.com_text.specs.declared.word.Sort.TheVariants as sorts
use Rattle.com_text.specs.declared.scan.Class.{Class}
use Rattle.com_text.specs.declared.scan.Class.TheVariants as classes
use Rattle.com_text.specs.declared.scan.Within.{Within}
use Rattle.com_text.specs.declared.scan.Within.TheVariants as within
use Rattle.com_text.specs.Words.{WordAt, LineAt}
use Rattle.com_text.specs.Scanning.{Scanning, class_of, ends_line, turn, moved, after, sorted, gave, at_line, ended, lines_from, lines_of}
use Rattle.com_laws_language.specs.Words.{first_of, Each, is_blank, in_word, opens_word, in_literal, in_line, ahead, stray_in, word_in, opens_bytes, ends_apart, IsWord, plain_word, text_word, bytes_word, open_text, open_bytes, comment, IsLine, line_in, AreLines}
use Rattle.com_laws_language.proofs.Scans.{scan, quote_is, semicolon_is, line_scanned}

-- ---- the first bytes of a class

-- the first byte is none of these
abbrev Stops : (Class → Bool) → List ℕ → ℕ → Type 0
Stops test [] next = Unit {0}
Stops test (b ∷ bs) next = test (class_of b (first_of bs next)) ≡ false

record Span (test : Class → Bool) (rest : List ℕ) (next : ℕ) : Type 0 where
  front : List ℕ
  more : List ℕ
  is : rest ≡ front ++ more
  each : Each test front (first_of more next)
  stops : Stops test more next

first_append : (bs more : List ℕ) (next : ℕ) → first_of (bs ++ more) next ≡ first_of bs (first_of more next)
first_append [] more next = refl
first_append (b ∷ bs) more next = refl

span : (test : Class → Bool) (rest : List ℕ) (next : ℕ) → Span test rest next
span test [] next = record { front = []; more = []; is = refl; each = tt; stops = tt }
span test (b ∷ bs) next = by (test (class_of b (first_of bs next))) refl (span test bs next)
  where
    by : (t : Bool) → test (class_of b (first_of bs next)) ≡ t → Span test bs next → Span test (b ∷ bs) next
    by false e s = record { front = []; more = b ∷ bs; is = refl; each = tt; stops = e }
    by true e s = record {
      front = b ∷ s.front;
      more = s.more;
      is = ap (λ (k : List ℕ). b ∷ k) s.is;
      each = (ap (λ (k : ℕ). test (class_of b k)) (sym (ap (λ (k : List ℕ). first_of k next) s.is ∙ first_append s.front s.more next)) ∙ e, s.each);
      stops = s.stops;
    }

-- what is left of a line is in the line too
each_rest : (test : Class → Bool) (front more : List ℕ) (next : ℕ) → Each test (front ++ more) next → Each test more next
each_rest test [] more next h = h
each_rest test (b ∷ front) more next h = each_rest test front more next h.1

-- ---- the words of a line

abbrev Words : ℕ → ℕ → ℕ → List ℕ → ℕ → Type 0
Words line column at rest next = (ws : List WordAt) × IsLine line column at rest next ws

-- a space more in front
wider : (line column at : ℕ) (b : ℕ) (bs : List ℕ) (next : ℕ) (ws : List WordAt) → is_blank (class_of b (first_of bs next)) ≡ true → IsLine line (column + 1) (at + 1) bs next ws → IsLine line column at (b ∷ bs) next ws
wider line column at b bs next [] h k =
    (b ∷ k.0, k.1, ap (λ (x : List ℕ). b ∷ x) k.2, (ap (λ (x : ℕ). is_blank (class_of b x)) (sym (ap (λ (x : List ℕ). first_of x next) k.2 ∙ first_append k.0 k.1 next)) ∙ h, k.3), k.4)
wider line column at b bs next (w ∷ ws) h k =
    (b ∷ k.0, k.1, ap (λ (x : List ℕ). b ∷ x) k.2, (ap (λ (x : ℕ). is_blank (class_of b x)) (sym (ap (λ (x : List ℕ). first_of x next) k.2 ∙ first_append k.0 (w.bytes ++ k.1) next)) ∙ h, k.3), k.4, k.5)

-- a word first
first_word : (line column at : ℕ) (bs more : List ℕ) (next : ℕ) (w : WordAt) → w.bytes ≡ bs → IsWord line column at bs more next w → Words line (ahead column bs) (ahead at bs) more next → Words line column at (bs ++ more) next
first_word line column at bs more next w e h k =
    subst (λ (x : List ℕ). IsWord line column at x more next w → Words line (ahead column x) (ahead at x) more next → Words line column at (x ++ more) next) e
    (λ h k. (w ∷ k.0, ([], more, refl, tt, h, k.1))) h k

-- the marks of a literal, and what stands behind
stop_quote : (b : ℕ) (bs : List ℕ) (next : ℕ) → in_literal (class_of b (first_of bs next)) ≡ false → in_line (class_of b (first_of bs next)) ≡ true → b ≡ 34
stop_quote b bs next h k = quote_is b (first_of bs next) (by (class_of b (first_of bs next)) h k)
  where
    by : (c : Class) → in_literal c ≡ false → in_line c ≡ true → c ≡ classes.Quote
    by classes.Quote h k = refl
    by classes.LineEnd h k = absurd cc
    by classes.Blank h k = absurd cc
    by classes.Bad h k = absurd cc
    by classes.Semicolon h k = absurd cc
    by classes.Other h k = absurd cc

stop_word : (more : List ℕ) (next : ℕ) → Stops in_word more next → Each in_line more next → ends_apart more next ≡ true
stop_word [] next h k = refl
stop_word (b ∷ bs) next h k = by (class_of b (first_of bs next)) h k.0
  where
    by : (c : Class) → in_word c ≡ false → in_line c ≡ true → is_blank c ≡ true
    by classes.Blank h k = refl
    by classes.LineEnd h k = absurd cc
    by classes.Quote h k = absurd cc
    by classes.Bad h k = absurd cc
    by classes.Semicolon h k = absurd cc
    by classes.Other h k = absurd cc

-- what is left where so many bytes are allowed for
abbrev Rest : ℕ → ℕ → Type 0
Rest fuel next = (line column at : ℕ) (rest : List ℕ) → length rest ≤ fuel → Each in_line rest next → Words line column at rest next

module _ (fuel next : ℕ) (others : Rest fuel next) (line column at : ℕ) where
  -- behind a literal's first mark
  text_first : (bs : List ℕ) → length (34 ∷ bs) ≤ suc fuel → Each in_line bs next → Words line column at (34 ∷ bs) next
  text_first bs few h = by (span in_literal bs next)
    where
      by : Span in_literal bs next → Words line column at (34 ∷ bs) next
      by s = past s.more s.is s.each s.stops
        where
          past : (more : List ℕ) → bs ≡ s.front ++ more → Each in_literal s.front (first_of more next) → Stops in_literal more next → Words line column at (34 ∷ bs) next
          past [] e each stops = subst (λ (x : List ℕ). Words line column at (34 ∷ x) next) (sym e)
              (first_word line column at (34 ∷ s.front) [] next (word_in line column at sorts.Unclosed (34 ∷ s.front)) refl (open_text s.front refl each refl refl) ([], ([], [], refl, tt, tt)))
          past (q ∷ more) e each stops =
              let left : Each in_line (q ∷ more) next = each_rest in_line s.front (q ∷ more) next (subst (λ (x : List ℕ). Each in_line x next) e h) in
              let mark : q ≡ 34 = stop_quote q more next stops left.0 in
              let e' : bs ≡ (s.front ++ 34 ∷ []) ++ more = e ∙ ap (λ (k : ℕ). s.front ++ k ∷ more) mark ∙ sym (append_assoc s.front (34 ∷ []) more) in
              let w = word_in line column at (sorted (stray_in column (34 ∷ (s.front ++ 34 ∷ [])) (first_of more next)) sorts.Text) (34 ∷ (s.front ++ 34 ∷ [])) in
              subst (λ (x : List ℕ). Words line column at (34 ∷ x) next) (sym e')
              (first_word line column at (34 ∷ (s.front ++ 34 ∷ [])) more next w refl (text_word s.front refl (subst (λ (k : ℕ). Each in_literal s.front k) mark each) refl)
              (others line (ahead column (34 ∷ (s.front ++ 34 ∷ []))) (ahead at (34 ∷ (s.front ++ 34 ∷ []))) more (omega (arith, few, ap length e, length-append s.front (q ∷ more))) left.1))

  bytes_first : (bs : List ℕ) → length (120 ∷ 34 ∷ bs) ≤ suc fuel → Each in_line bs next → Words line column at (120 ∷ 34 ∷ bs) next
  bytes_first bs few h = by (span in_literal bs next)
    where
      by : Span in_literal bs next → Words line column at (120 ∷ 34 ∷ bs) next
      by s = past s.more s.is s.each s.stops
        where
          past : (more : List ℕ) → bs ≡ s.front ++ more → Each in_literal s.front (first_of more next) → Stops in_literal more next → Words line column at (120 ∷ 34 ∷ bs) next
          past [] e each stops = subst (λ (x : List ℕ). Words line column at (120 ∷ 34 ∷ x) next) (sym e)
              (first_word line column at (120 ∷ 34 ∷ s.front) [] next (word_in line column at sorts.Unclosed (120 ∷ 34 ∷ s.front)) refl (open_bytes s.front refl each refl refl) ([], ([], [], refl, tt, tt)))
          past (q ∷ more) e each stops =
              let left : Each in_line (q ∷ more) next = each_rest in_line s.front (q ∷ more) next (subst (λ (x : List ℕ). Each in_line x next) e h) in
              let mark : q ≡ 34 = stop_quote q more next stops left.0 in
              let e' : bs ≡ (s.front ++ 34 ∷ []) ++ more = e ∙ ap (λ (k : ℕ). s.front ++ k ∷ more) mark ∙ sym (append_assoc s.front (34 ∷ []) more) in
              let w = word_in line column at (sorted (stray_in column (120 ∷ 34 ∷ (s.front ++ 34 ∷ [])) (first_of more next)) sorts.Bytes) (120 ∷ 34 ∷ (s.front ++ 34 ∷ [])) in
              subst (λ (x : List ℕ). Words line column at (120 ∷ 34 ∷ x) next) (sym e')
              (first_word line column at (120 ∷ 34 ∷ (s.front ++ 34 ∷ [])) more next w refl (bytes_word s.front refl (subst (λ (k : ℕ). Each in_literal s.front k) mark each) refl)
              (others line (ahead column (120 ∷ 34 ∷ (s.front ++ 34 ∷ []))) (ahead at (120 ∷ 34 ∷ (s.front ++ 34 ∷ []))) more (omega (arith, few, ap length e, length-append s.front (q ∷ more))) left.1))

  plain_first : (b : ℕ) (bs : List ℕ) → length (b ∷ bs) ≤ suc fuel → Each in_line bs next → opens_word (class_of b (first_of bs next)) ≡ true → opens_bytes (b ∷ bs) ≡ false → Words line column at (b ∷ bs) next
  plain_first b bs few h o no_mark =
      let s = span in_word bs next in
      let left : Each in_line s.more next = each_rest in_line s.front s.more next (subst (λ (x : List ℕ). Each in_line x next) s.is h) in
      let w = word_in line column at (sorted (stray_in column (b ∷ s.front) (first_of s.more next)) sorts.Plain) (b ∷ s.front) in
      subst (λ (x : List ℕ). Words line column at (b ∷ x) next) (sym s.is)
      (first_word line column at (b ∷ s.front) s.more next w refl
      (plain_word b s.front refl (subst (λ (x : List ℕ). opens_word (class_of b (first_of x next)) ≡ true) s.is o) s.each (unmarked b s.front s.more (subst (λ (x : List ℕ). opens_bytes (b ∷ x) ≡ false) s.is no_mark)) (stop_word s.more next s.stops left) refl)
      (others line (ahead column (b ∷ s.front)) (ahead at (b ∷ s.front)) s.more (omega (arith, few, ap length s.is, length-append s.front s.more)) left))
    where
      unmarked : (b : ℕ) (front more : List ℕ) → opens_bytes (b ∷ (front ++ more)) ≡ false → opens_bytes (b ∷ front) ≡ false
      unmarked b [] more h = refl
      unmarked b (c ∷ front) more h = h

  comment_first : (bs : List ℕ) → Each in_line bs next → Words line column at (59 ∷ bs) next
  comment_first bs h = by (stray_in column (59 ∷ bs) next) refl
    where
      by : (o : Option ℕ) → stray_in column (59 ∷ bs) next ≡ o → Words line column at (59 ∷ bs) next
      by None e = ([], ([], 59 ∷ bs, refl, tt, (refl, h, e)))
      by (Some k) e = subst (λ (x : List ℕ). Words line column at x next) (append-nil (59 ∷ bs))
          (first_word line column at (59 ∷ bs) [] next (word_in line column at (sorts.Remark k) (59 ∷ bs)) refl (comment bs k refl h refl e refl) ([], ([], [], refl, tt, tt)))

  -- a word or literal that begins with a byte
  opened_first : (b : ℕ) (bs : List ℕ) → length (b ∷ bs) ≤ suc fuel → Each in_line bs next → opens_word (class_of b (first_of bs next)) ≡ true → Words line column at (b ∷ bs) next
  opened_first b [] few h o = plain_first b [] few h o refl
  opened_first b (c ∷ bs) few h o = by (b == 120) (c == 34) refl refl
    where
      by : (p q : Bool) → (b == 120) ≡ p → (c == 34) ≡ q → Words line column at (b ∷ c ∷ bs) next
      by true true e f =
          subst (λ (x : ℕ). Words line column at (x ∷ c ∷ bs) next) (sym (eqb-true b 120 e))
          (subst (λ (y : ℕ). Words line column at (120 ∷ y ∷ bs) next) (sym (eqb-true c 34 f)) (bytes_first bs (omega (arith, few)) h.1))
      by true false e f = plain_first b (c ∷ bs) few h o (ap (λ (x : Bool). x && (c == 34)) e ∙ f)
      by false q e f = plain_first b (c ∷ bs) few h o (ap (λ (x : Bool). x && (c == 34)) e)

  by_class : (b : ℕ) (bs : List ℕ) (c : Class) → class_of b (first_of bs next) ≡ c → length (b ∷ bs) ≤ suc fuel → in_line c ≡ true → Each in_line bs next → Words line column at (b ∷ bs) next
  by_class b bs classes.LineEnd e few i h = absurd cc
  by_class b bs classes.Blank e few i h = let k = others line (column + 1) (at + 1) bs (omega (arith, few)) h in (k.0, wider line column at b bs next k.0 (ap is_blank e) k.1)
  by_class b bs classes.Quote e few i h = subst (λ (x : ℕ). length (x ∷ bs) ≤ suc fuel → Words line column at (x ∷ bs) next) (sym (quote_is b (first_of bs next) e)) (λ few. text_first bs few h) few
  by_class b bs classes.Semicolon e few i h = subst (λ (x : ℕ). Words line column at (x ∷ bs) next) (sym (semicolon_is b (first_of bs next) e)) (comment_first bs h)
  by_class b bs classes.Bad e few i h = opened_first b bs few h (ap opens_word e)
  by_class b bs classes.Other e few i h = opened_first b bs few h (ap opens_word e)

words_of : (fuel next : ℕ) → Rest fuel next
words_of fuel next line column at [] few h = ([], ([], [], refl, tt, tt))
words_of zero next line column at (b ∷ bs) few h = absurd (omega (arith, few))
words_of (suc fuel) next line column at (b ∷ bs) few h = by_class fuel next (words_of fuel next) line column at b bs (class_of b (first_of bs next)) refl few h.0 h.1

-- ---- lines

after_column : (s : Scanning) (b : ℕ) (c : Class) (w : Within) → (moved s b c w).column ≡ s.column + 1
after_column s b c within.Nothing = refl
after_column s b c within.Plain = refl
after_column s b c within.Text = refl
after_column s b c within.Bytes = refl
after_column s b c within.Remark = refl

after_at : (s : Scanning) (b : ℕ) (c : Class) (w : Within) → (moved s b c w).at ≡ s.at + 1
after_at s b c within.Nothing = refl
after_at s b c within.Plain = refl
after_at s b c within.Text = refl
after_at s b c within.Bytes = refl
after_at s b c within.Remark = refl

after_line : (s : Scanning) (b : ℕ) (c : Class) (w : Within) → (moved s b c w).line ≡ s.line
after_line s b c within.Nothing = refl
after_line s b c within.Plain = refl
after_line s b c within.Text = refl
after_line s b c within.Bytes = refl
after_line s b c within.Remark = refl

goes_on : (c : Class) → in_line c ≡ true → ends_line c ≡ false
goes_on classes.LineEnd h = absurd cc
goes_on classes.Blank h = refl
goes_on classes.Quote h = refl
goes_on classes.Bad h = refl
goes_on classes.Semicolon h = refl
goes_on classes.Other h = refl

-- what follows a line: nothing, or a byte 10 and more
abbrev behind : Option (List ℕ) → List ℕ
behind None = []
behind (Some rest) = 10 ∷ rest

abbrev byte_behind : Option (List ℕ) → ℕ
byte_behind None = 0
byte_behind (Some rest) = 10

-- a line with its words, and the lines that follow
abbrev then_lines : Option (List ℕ) → List WordAt → ℕ → ℕ → ℕ → List LineAt
then_lines None words line column at = record { words = words; line = line; column = column; at = at; last = true } ∷ []
then_lines (Some rest) words line column at = record { words = words; line = line; column = column; at = at; last = false } ∷ lines_from (at_line (line + 1) (at + 1)) [] rest

same_lines : (tail : Option (List ℕ)) (words others : List WordAt) (l line c column a at : ℕ) → words ≡ others → l ≡ line → c ≡ column → a ≡ at → then_lines tail words l c a ≡ then_lines tail others line column at
same_lines tail words others l line c column a at e f g h = ap (λ (x : List WordAt). then_lines tail x l c a) e ∙ ap (λ (x : ℕ). then_lines tail others x c a) f ∙ ap (λ (x : ℕ). then_lines tail others line x a) g ∙ ap (λ (x : ℕ). then_lines tail others line column x) h

next_byte : (bs : List ℕ) (tail : Option (List ℕ)) → slice_index (bs ++ behind tail) 0 ≡ first_of bs (byte_behind tail)
next_byte [] None = refl
next_byte [] (Some rest) = refl
next_byte (b ∷ bs) tail = refl

line_first : (s : Scanning) (done : List WordAt) (bs : List ℕ) (tail : Option (List ℕ)) → Each in_line bs (byte_behind tail)
    → lines_from s done (bs ++ behind tail) ≡ then_lines tail (done ++ scan s bs (byte_behind tail)) s.line (ahead s.column bs) (ahead s.at bs)
line_first s done [] None h = refl
line_first s done [] (Some rest) h = refl
line_first s done (b ∷ bs) tail h =
    let c = class_of b (first_of bs (byte_behind tail)) in
    let d = class_of b (slice_index (bs ++ behind tail) 0) in
    let same : d ≡ c = ap (class_of b) (next_byte bs tail) in
    let on : ends_line d ≡ false = ap ends_line same ∙ goes_on c h.0 in
    let w = turn s.stands c s.bytes in
    ap (λ (t : Bool). cond t (ended s done false ∷ lines_from (at_line (s.line + 1) (s.at + 1)) [] (bs ++ behind tail)) (lines_from (after s b d) (done ++ gave s b d) (bs ++ behind tail))) on
    ∙ ap (λ (k : Class). lines_from (after s b k) (done ++ gave s b k) (bs ++ behind tail)) same
    ∙ line_first (after s b c) (done ++ gave s b c) bs tail h.1
    ∙ same_lines tail _ _ _ _ _ _ _ _ (append_assoc done (gave s b c) (scan (after s b c) bs (byte_behind tail))) (after_line s b c w)
    (ap (λ (k : ℕ). ahead k bs) (after_column s b c w)) (ap (λ (k : ℕ). ahead k bs) (after_at s b c w))

-- the lines of a text are those that the scanner gives
lines_are : (line at : ℕ) (pieces : List (List ℕ)) (ls : List LineAt) → AreLines line at pieces ls → lines_from (at_line line at) [] (join_with_byte 10 pieces) ≡ ls
lines_are line at [] ls h = absurd h
lines_are line at (bs ∷ []) ls h =
    ap (λ (k : List ℕ). lines_from (at_line line at) [] k) (sym (append-nil bs)) ∙ line_first (at_line line at) [] bs None h.2
    ∙ ap (λ (ws : List WordAt). line_in line at bs ws true ∷ []) (line_scanned line 1 at bs 0 h.0 h.3) ∙ sym h.1
lines_are line at (bs ∷ cs ∷ more) ls h =
    line_first (at_line line at) [] bs (Some (join_with_byte 10 (cs ∷ more))) h.3
    ∙ ap (λ (ws : List WordAt). line_in line at bs ws false ∷ lines_from (at_line (line + 1) (ahead at bs + 1)) [] (join_with_byte 10 (cs ∷ more))) (line_scanned line 1 at bs 10 h.0 h.4)
    ∙ ap (λ (k : List LineAt). line_in line at bs h.0 false ∷ k) (lines_are (line + 1) (ahead at bs + 1) (cs ∷ more) h.1 h.5) ∙ sym h.2

-- ---- every text has lines

-- its lines, numbered from a number on
record Lines (line at : ℕ) (text : List ℕ) : Type 0 where
  first : List ℕ
  others : List (List ℕ)
  lines : List LineAt
  is : text ≡ join_with_byte 10 (first ∷ others)
  cut : AreLines line at (first ∷ others) lines

end_by : (p q r s t : Bool) → in_line (cond p classes.LineEnd (cond q classes.Blank (cond r classes.Bad (cond s classes.Quote (cond t classes.Semicolon classes.Other))))) ≡ false → p ≡ true
end_by true q r s t e = refl
end_by false true r s t e = absurd cc
end_by false false true s t e = absurd cc
end_by false false false true t e = absurd cc
end_by false false false false true e = absurd cc
end_by false false false false false e = absurd cc

stop_end : (b next : ℕ) → in_line (class_of b next) ≡ false → b ≡ 10
stop_end b next h = eqb-true b 10 (end_by (b == 10) _ _ _ _ h)

one_line : (text : List ℕ) (line at : ℕ) (front : List ℕ) → text ≡ front ++ [] → Each in_line front 0 → Lines line at text
one_line text line at front e each =
    let k = words_of (length front) 0 line 1 at front (omega arith) each in
    record { first = front; others = []; lines = line_in line at front k.0 true ∷ []; is = e ∙ append-nil front; cut = (k.0, refl, each, k.1) }

more_lines : (text : List ℕ) (line at : ℕ) (front : List ℕ) (q : ℕ) (rest : List ℕ) → text ≡ front ++ q ∷ rest → q ≡ 10 → Each in_line front q → Lines (line + 1) (ahead at front + 1) rest → Lines line at text
more_lines text line at front q rest e mark each r =
    let ten : Each in_line front 10 = subst (λ (x : ℕ). Each in_line front x) mark each in
    let k = words_of (length front) 10 line 1 at front (omega arith) ten in
    record {
      first = front;
      others = r.first ∷ r.others;
      lines = line_in line at front k.0 false ∷ r.lines;
      is = e ∙ ap (λ (x : ℕ). front ++ x ∷ rest) mark ∙ ap (λ (x : List ℕ). front ++ 10 ∷ x) r.is;
      cut = (k.0, r.lines, refl, ten, k.1, r.cut);
    }

lines_step : (text : List ℕ) (line at : ℕ) → ((l a : ℕ) (rest : List ℕ) → length rest + 1 ≤ length text → Lines l a rest) → Lines line at text
lines_step text line at shorter = by (span in_line text 0)
  where
    by : Span in_line text 0 → Lines line at text
    by s = past s.more s.is s.each s.stops
      where
        past : (more : List ℕ) → text ≡ s.front ++ more → Each in_line s.front (first_of more 0) → Stops in_line more 0 → Lines line at text
        past [] e each stops = one_line text line at s.front e each
        past (q ∷ rest) e each stops = more_lines text line at s.front q rest e (stop_end q (first_of rest 0) stops) each
            (shorter (line + 1) (ahead at s.front + 1) rest (omega (arith, ap length e, length-append s.front (q ∷ rest))))

text_lines : (fuel line at : ℕ) (text : List ℕ) → length text ≤ fuel → Lines line at text
text_lines zero line at text few = lines_step text line at (λ l a rest k. absurd (omega (arith, few, k)))
text_lines (suc fuel) line at text few = lines_step text line at (λ l a rest k. text_lines fuel l a rest (omega (arith, few, k)))

pub lines_of_are : (pieces : List (List ℕ)) (ls : List LineAt) → AreLines 1 0 pieces ls → lines_of (join_with_byte 10 pieces) ≡ ls
unfolding lines_of
lines_of_are pieces ls h = lines_are 1 0 pieces ls h

pub lines_there : (text : List ℕ) → (pieces : List (List ℕ)) × (text ≡ join_with_byte 10 pieces) × AreLines 1 0 pieces (lines_of text)
lines_there text =
    let r = text_lines (length text) 1 0 text (omega arith) in
    let same : lines_of text ≡ r.lines = ap lines_of r.is ∙ lines_of_are (r.first ∷ r.others) r.lines r.cut in
    (r.first ∷ r.others, r.is, subst (λ (ls : List LineAt). AreLines 1 0 (r.first ∷ r.others) ls) (sym same) r.cut)
