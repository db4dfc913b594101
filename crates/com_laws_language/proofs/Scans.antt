-- The scanner gives the words of a line.
use Rattle.std.proofs.Common.{◌≡◌, ℕ, ◌+◌, ◌≤◌, Bool, true, false, cond, List, [], ◌∷◌, ◌++◌, length, Option, Some, None, refl, sym, ap, ◌∙◌, subst, arith, append_assoc, append-nil, length-append, codes, bytes_eq, ◌==◌, ◌&&◌}
use Rattle.std.proofs.lemmas.Bool.{eqb-true}
use Rattle.com_text.specs.declared.word.Sort.{Sort}
use Rattle.com_text.specs.declared.word.Sort.TheVariants as sorts
use Rattle.com_text.specs.declared.scan.Class.{Class}
use Rattle.com_text.specs.declared.scan.Class.TheVariants as classes
use Rattle.com_text.specs.declared.scan.Within.{Within}
use Rattle.com_text.specs.declared.scan.Within.TheVariants as within
use Rattle.com_text.specs.Words.{WordAt}
use Rattle.com_text.specs.Scanning.{Scanning, class_of, turn, strayed, moved, after, sorted, word_of, closing, gave_by, gave, remark}
use Rattle.com_text.specs.Tokens.{is_bad}
use Rattle.com_laws_language.specs.Words.{first_of, Each, is_blank, in_word, opens_word, in_literal, in_line, ahead, stray_in, word_in, opens_bytes, ends_apart, IsWord, plain_word, text_word, bytes_word, open_text, open_bytes, comment, IsQuiet, IsLine}

-- the words that a line gives from here on
abbrev pub scan : Scanning → List ℕ → ℕ → List WordAt
scan s [] next = closing s
scan s (b ∷ bs) next = gave s b (class_of b (first_of bs next)) ++ scan (after s b (class_of b (first_of bs next))) bs next

-- between words
abbrev pub between : ℕ → ℕ → ℕ → Scanning
between line column at = record { line = line; column = column; at = at; first = column; start = at; stands = within.Nothing; stray = None; bytes = [] }

-- in a word that began at a column and an index, with these bytes so far
abbrev pub in_one : ℕ → ℕ → ℕ → Within → Option ℕ → List ℕ → Scanning
in_one line column at w stray bs = record { line = line; column = ahead column bs; at = ahead at bs; first = column; start = at; stands = w; stray = stray; bytes = bs }

ahead_push : (from : ℕ) (bs : List ℕ) (b : ℕ) → ahead from bs + 1 ≡ ahead from (bs ++ b ∷ [])
ahead_push from [] b = refl
ahead_push from (c ∷ bs) b = ahead_push (from + 1) bs b

moves : (line column at : ℕ) (w v : Within) (stray : Option ℕ) (bs : List ℕ) (b : ℕ) (c : Class) → (v ≡ within.Nothing → ⊥)
    → moved (in_one line column at w stray bs) b c v ≡ in_one line column at v (strayed stray c (ahead column bs)) (bs ++ b ∷ [])
moves line column at w within.Nothing stray bs b c h = absurd (h refl)
moves line column at w within.Plain stray bs b c h = cc (ahead_push column bs b, ahead_push at bs b)
moves line column at w within.Text stray bs b c h = cc (ahead_push column bs b, ahead_push at bs b)
moves line column at w within.Bytes stray bs b c h = cc (ahead_push column bs b, ahead_push at bs b)
moves line column at w within.Remark stray bs b c h = cc (ahead_push column bs b, ahead_push at bs b)

-- a byte more of a word that goes on
grows : (line column at : ℕ) (w v : Within) (stray : Option ℕ) (bs : List ℕ) (b : ℕ) (c : Class) → v ≡ turn w c bs → (v ≡ within.Nothing → ⊥)
    → after (in_one line column at w stray bs) b c ≡ in_one line column at v (strayed stray c (ahead column bs)) (bs ++ b ∷ [])
grows line column at w v stray bs b c e h = ap (moved (in_one line column at w stray bs) b c) (sym e) ∙ moves line column at w v stray bs b c h

-- the first stray column, by the bytes so far and those that follow
abbrev or_in : Option ℕ → ℕ → List ℕ → ℕ → Option ℕ
or_in (Some k) column bs next = Some k
or_in None column bs next = stray_in column bs next

first_append : (bs more : List ℕ) (next : ℕ) → first_of (bs ++ more) next ≡ first_of bs (first_of more next)
first_append [] more next = refl
first_append (b ∷ bs) more next = refl

stray_by : (c : Class) (column : ℕ) (bs : List ℕ) (next : ℕ) → or_in (strayed None c column) (column + 1) bs next ≡ cond (is_bad c) (Some column) (stray_in (column + 1) bs next)
stray_by classes.Bad column bs next = refl
stray_by classes.LineEnd column bs next = refl
stray_by classes.Blank column bs next = refl
stray_by classes.Quote column bs next = refl
stray_by classes.Semicolon column bs next = refl
stray_by classes.Other column bs next = refl

stray_step : (stray : Option ℕ) (column : ℕ) (b : ℕ) (bs : List ℕ) (next : ℕ) (c : Class) → c ≡ class_of b (first_of bs next) → or_in (strayed stray c column) (column + 1) bs next ≡ or_in stray column (b ∷ bs) next
stray_step (Some k) column b bs next c e = refl
stray_step None column b bs next c e = stray_by c column bs next ∙ ap (λ (d : Class). cond (is_bad d) (Some column) (stray_in (column + 1) bs next)) e

or_none : (stray : Option ℕ) (column next : ℕ) → stray ≡ or_in stray column [] next
or_none None column next = refl
or_none (Some k) column next = refl

-- a run of bytes that go on with a word of a kind
module _ (line column at next : ℕ) (w : Within) (test : Class → Bool) (Fits : List ℕ → Type 0) (word : w ≡ within.Nothing → ⊥)
    (kept : (c : Class) (bs : List ℕ) → Fits bs → test c ≡ true → w ≡ turn w c bs) (fits : (bs : List ℕ) (b : ℕ) → Fits bs → Fits (bs ++ b ∷ []))
    (gives : (s : Scanning) (b : ℕ) (c : Class) → test c ≡ true → gave_by s b w c ≡ []) where
  run : (stray : Option ℕ) (done bs more : List ℕ) → Fits done → Each test bs (first_of more next)
      → scan (in_one line column at w stray done) (bs ++ more) next ≡ scan (in_one line column at w (or_in stray (ahead column done) bs (first_of more next)) (done ++ bs)) more next
  run stray done [] more f h = ap (λ (o : Option ℕ). scan (in_one line column at w o done) more next) (or_none stray (ahead column done) (first_of more next))
      ∙ ap (λ (k : List ℕ). scan (in_one line column at w (or_in stray (ahead column done) [] (first_of more next)) k) more next) (sym (append-nil done))
  run stray done (b ∷ bs) more f h =
      let c = class_of b (first_of (bs ++ more) next) in
      let same : c ≡ class_of b (first_of bs (first_of more next)) = ap (class_of b) (first_append bs more next) in
      let t : test c ≡ true = ap test same ∙ h.0 in
      let s = in_one line column at w stray done in
      let e : after s b c ≡ in_one line column at w (strayed stray c (ahead column done)) (done ++ b ∷ []) = grows line column at w w stray done b c (kept c done f t) word in
      let o : or_in (strayed stray c (ahead column done)) (ahead column (done ++ b ∷ [])) bs (first_of more next) ≡ or_in stray (ahead column done) (b ∷ bs) (first_of more next) =
      ap (λ (k : ℕ). or_in (strayed stray c (ahead column done)) k bs (first_of more next)) (sym (ahead_push column done b)) ∙ stray_step stray (ahead column done) b bs (first_of more next) c same in
      ap (λ (k : List WordAt). k ++ scan (after s b c) (bs ++ more) next) (gives s b c t)
      ∙ ap (λ (k : Scanning). scan k (bs ++ more) next) e
      ∙ run (strayed stray c (ahead column done)) (done ++ b ∷ []) bs more (fits done b f) h.1
      ∙ ap (λ (o : Option ℕ). scan (in_one line column at w o ((done ++ b ∷ []) ++ bs)) more next) o
      ∙ ap (λ (k : List ℕ). scan (in_one line column at w (or_in stray (ahead column done) (b ∷ bs) (first_of more next)) k) more next) (append_assoc done (b ∷ []) bs)

not_plain : within.Plain ≡ within.Nothing → ⊥
not_plain e = absurd cc

not_text : within.Text ≡ within.Nothing → ⊥
not_text e = absurd cc

not_bytes : within.Bytes ≡ within.Nothing → ⊥
not_bytes e = absurd cc

not_remark : within.Remark ≡ within.Nothing → ⊥
not_remark e = absurd cc

keeps_text : (c : Class) (bs : List ℕ) → Unit {0} → in_literal c ≡ true → within.Text ≡ turn within.Text c bs
keeps_text classes.Quote bs u h = absurd cc
keeps_text classes.LineEnd bs u h = refl
keeps_text classes.Blank bs u h = refl
keeps_text classes.Bad bs u h = refl
keeps_text classes.Semicolon bs u h = refl
keeps_text classes.Other bs u h = refl

keeps_bytes : (c : Class) (bs : List ℕ) → Unit {0} → in_literal c ≡ true → within.Bytes ≡ turn within.Bytes c bs
keeps_bytes classes.Quote bs u h = absurd cc
keeps_bytes classes.LineEnd bs u h = refl
keeps_bytes classes.Blank bs u h = refl
keeps_bytes classes.Bad bs u h = refl
keeps_bytes classes.Semicolon bs u h = refl
keeps_bytes classes.Other bs u h = refl

keeps_remark : (c : Class) (bs : List ℕ) → Unit {0} → in_line c ≡ true → within.Remark ≡ turn within.Remark c bs
keeps_remark c bs u h = refl

-- a word that is no literal, and not `x` alone
record Begun (bs : List ℕ) : Type 0 where
  some : 1 ≤ length bs
  unlike : bytes_eq bs (codes "x") ≡ false

keeps_plain : (c : Class) (bs : List ℕ) → Begun bs → in_word c ≡ true → within.Plain ≡ turn within.Plain c bs
keeps_plain classes.Quote bs u h = ap (λ (b : Bool). cond b within.Bytes within.Plain) (sym u.unlike)
keeps_plain classes.LineEnd bs u h = absurd cc
keeps_plain classes.Blank bs u h = absurd cc
keeps_plain classes.Bad bs u h = refl
keeps_plain classes.Semicolon bs u h = refl
keeps_plain classes.Other bs u h = refl

two_unlike : (bs : List ℕ) (b : ℕ) → 1 ≤ length bs → bytes_eq (bs ++ b ∷ []) (codes "x") ≡ false
two_unlike [] b h = absurd (omega arith)
two_unlike (a ∷ []) b h = by (a == 120)
  where
    by : (t : Bool) → (t && false) ≡ false
    by true = refl
    by false = refl
two_unlike (a ∷ c ∷ bs) b h = by (a == 120)
  where
    by : (t : Bool) → (t && false) ≡ false
    by true = refl
    by false = refl

begun_more : (bs : List ℕ) (b : ℕ) → Begun bs → Begun (bs ++ b ∷ [])
begun_more bs b h = record { some = (let k = h.some in omega (arith, k, length-append bs (b ∷ []))); unlike = two_unlike bs b h.some }

unit_more : (bs : List ℕ) (b : ℕ) → Unit {0} → Unit {0}
unit_more bs b h = tt

gives_text : (s : Scanning) (b : ℕ) (c : Class) → in_literal c ≡ true → gave_by s b within.Text c ≡ []
gives_text s b classes.Quote h = absurd cc
gives_text s b classes.LineEnd h = refl
gives_text s b classes.Blank h = refl
gives_text s b classes.Bad h = refl
gives_text s b classes.Semicolon h = refl
gives_text s b classes.Other h = refl

gives_bytes : (s : Scanning) (b : ℕ) (c : Class) → in_literal c ≡ true → gave_by s b within.Bytes c ≡ []
gives_bytes s b classes.Quote h = absurd cc
gives_bytes s b classes.LineEnd h = refl
gives_bytes s b classes.Blank h = refl
gives_bytes s b classes.Bad h = refl
gives_bytes s b classes.Semicolon h = refl
gives_bytes s b classes.Other h = refl

gives_plain : (s : Scanning) (b : ℕ) (c : Class) → in_word c ≡ true → gave_by s b within.Plain c ≡ []
gives_plain s b classes.Blank h = absurd cc
gives_plain s b classes.LineEnd h = absurd cc
gives_plain s b classes.Quote h = refl
gives_plain s b classes.Bad h = refl
gives_plain s b classes.Semicolon h = refl
gives_plain s b classes.Other h = refl

gives_remark : (s : Scanning) (b : ℕ) (c : Class) → in_line c ≡ true → gave_by s b within.Remark c ≡ []
gives_remark s b c h = refl

-- ---- the first byte of a word

opens : (line column at : ℕ) (b : ℕ) (c : Class) (v : Within) → turn within.Nothing c [] ≡ v → (v ≡ within.Nothing → ⊥) → after (between line column at) b c ≡ in_one line column at v (strayed None c column) (b ∷ [])
opens line column at b c within.Nothing e h = absurd (h refl)
opens line column at b c within.Plain e h = ap (moved (between line column at) b c) e
opens line column at b c within.Text e h = ap (moved (between line column at) b c) e
opens line column at b c within.Bytes e h = ap (moved (between line column at) b c) e
opens line column at b c within.Remark e h = ap (moved (between line column at) b c) e

-- ---- spaces

blank_step : (line column at : ℕ) (b : ℕ) (c : Class) → is_blank c ≡ true → after (between line column at) b c ≡ between line (column + 1) (at + 1)
blank_step line column at b classes.Blank h = refl
blank_step line column at b classes.LineEnd h = absurd cc
blank_step line column at b classes.Quote h = absurd cc
blank_step line column at b classes.Bad h = absurd cc
blank_step line column at b classes.Semicolon h = absurd cc
blank_step line column at b classes.Other h = absurd cc

gap_scanned : (line column at next : ℕ) (gap more : List ℕ) → Each is_blank gap (first_of more next) → scan (between line column at) (gap ++ more) next ≡ scan (between line (ahead column gap) (ahead at gap)) more next
gap_scanned line column at next [] more h = refl
gap_scanned line column at next (b ∷ gap) more h =
    let c = class_of b (first_of (gap ++ more) next) in
    let t : is_blank c ≡ true = ap (λ (k : ℕ). is_blank (class_of b k)) (first_append gap more next) ∙ h.0 in
    ap (λ (s : Scanning). scan s (gap ++ more) next) (blank_step line column at b c t) ∙ gap_scanned line (column + 1) (at + 1) next gap more h.1

-- ---- the ends of words

same_word : (line column at : ℕ) (sort other : Sort) (bs : List ℕ) (after behind : ℕ) → sort ≡ other → after ≡ ahead column bs → behind ≡ ahead at bs
    → ◌≡◌ {A = WordAt} (record { line = line; column = column; after = after; start = at; end = behind; sort = sort; bytes = bs }) (word_in line column at other bs)
same_word line column at sort other bs after behind e f g = cc (e, f, g)

-- not changed by a last mark
stray_push : (column : ℕ) (bs : List ℕ) (q next : ℕ) → is_bad (class_of q next) ≡ false → stray_in column (bs ++ q ∷ []) next ≡ stray_in column bs q
stray_push column [] q next h = ap (λ (b : Bool). cond b (Some column) None) h
stray_push column (b ∷ bs) q next h =
    ap (λ (k : ℕ). cond (is_bad (class_of b k)) (Some column) (stray_in (column + 1) (bs ++ q ∷ []) next)) (first_append bs (q ∷ []) next)
    ∙ ap (λ (o : Option ℕ). cond (is_bad (class_of b (first_of bs q))) (Some column) o) (stray_push (column + 1) bs q next h)

module _ (line column at next : ℕ) where
  -- what a word gives, and what stands behind it
  abbrev Gives : WordAt → List ℕ → List ℕ → Type 0
  Gives w bs more = scan (between line column at) (bs ++ more) next ≡ w ∷ scan (between line (ahead column bs) (ahead at bs)) more next

  text_end : (stray : Option ℕ) (bs more : List ℕ) → scan (in_one line column at within.Text stray bs) (34 ∷ more) next
      ≡ word_in line column at (sorted stray sorts.Text) (bs ++ 34 ∷ []) ∷ scan (between line (ahead column (bs ++ 34 ∷ [])) (ahead at (bs ++ 34 ∷ []))) more next
  text_end stray bs more = cc (ahead_push column bs 34, ahead_push at bs 34)

  bytes_end : (stray : Option ℕ) (bs more : List ℕ) → scan (in_one line column at within.Bytes stray bs) (34 ∷ more) next
      ≡ word_in line column at (sorted stray sorts.Bytes) (bs ++ 34 ∷ []) ∷ scan (between line (ahead column (bs ++ 34 ∷ [])) (ahead at (bs ++ 34 ∷ []))) more next
  bytes_end stray bs more = cc (ahead_push column bs 34, ahead_push at bs 34)

  zero_more : (n : ℕ) → n + 0 ≡ n
  zero_more n = omega arith

  open_end : (w : Within) (stray : Option ℕ) (bs : List ℕ) (sort : Sort) → scan (in_one line column at w stray bs) [] next ≡ word_of (in_one line column at w stray bs) sort bs 0 ∷ [] → scan (in_one line column at w stray bs) [] next ≡ word_in line column at sort bs ∷ []
  open_end w stray bs sort e = e ∙ ap (λ (v : WordAt). v ∷ []) (same_word line column at sort sort bs _ _ refl (zero_more (ahead column bs)) (zero_more (ahead at bs)))

  blank_end : (stray : Option ℕ) (bs : List ℕ) (b : ℕ) (c : Class) → is_blank c ≡ true → gave (in_one line column at within.Plain stray bs) b c ≡ word_in line column at (sorted stray sorts.Plain) bs ∷ []
  blank_end stray bs b classes.Blank h = ap (λ (v : WordAt). v ∷ []) (same_word line column at _ _ bs _ _ refl (zero_more (ahead column bs)) (zero_more (ahead at bs)))
  blank_end stray bs b classes.LineEnd h = absurd cc
  blank_end stray bs b classes.Quote h = absurd cc
  blank_end stray bs b classes.Bad h = absurd cc
  blank_end stray bs b classes.Semicolon h = absurd cc
  blank_end stray bs b classes.Other h = absurd cc

  blank_after : (stray : Option ℕ) (bs : List ℕ) (b : ℕ) (c : Class) → is_blank c ≡ true → after (in_one line column at within.Plain stray bs) b c ≡ after (between line (ahead column bs) (ahead at bs)) b c
  blank_after stray bs b classes.Blank h = refl
  blank_after stray bs b classes.LineEnd h = absurd cc
  blank_after stray bs b classes.Quote h = absurd cc
  blank_after stray bs b classes.Bad h = absurd cc
  blank_after stray bs b classes.Semicolon h = absurd cc
  blank_after stray bs b classes.Other h = absurd cc

  plain_end : (stray : Option ℕ) (bs more : List ℕ) → ends_apart more next ≡ true → scan (in_one line column at within.Plain stray bs) more next
      ≡ word_in line column at (sorted stray sorts.Plain) bs ∷ scan (between line (ahead column bs) (ahead at bs)) more next
  plain_end stray bs [] h = open_end within.Plain stray bs (sorted stray sorts.Plain) refl
  plain_end stray bs (b ∷ more) h =
      let c = class_of b (first_of more next) in
      ap (λ (k : List WordAt). k ++ scan (after (in_one line column at within.Plain stray bs) b c) more next) (blank_end stray bs b c h)
      ∙ ap (λ (s : Scanning). word_in line column at (sorted stray sorts.Plain) bs ∷ scan s more next) (blank_after stray bs b c h)

  -- ---- each form of a word

  text_gives : (inner more : List ℕ) → Each in_literal inner 34
      → Gives (word_in line column at (sorted (stray_in column (34 ∷ (inner ++ 34 ∷ [])) (first_of more next)) sorts.Text) (34 ∷ (inner ++ 34 ∷ []))) (34 ∷ (inner ++ 34 ∷ [])) more
  text_gives inner more h =
      let o : stray_in (column + 1) inner 34 ≡ stray_in (column + 1) (inner ++ 34 ∷ []) (first_of more next) = sym (stray_push (column + 1) inner 34 (first_of more next) refl) in
      ap (λ (k : List ℕ). scan (in_one line column at within.Text None (34 ∷ [])) k next) (append_assoc inner (34 ∷ []) more)
      ∙ run line column at next within.Text in_literal (λ bs. Unit {0}) not_text keeps_text unit_more gives_text None (34 ∷ []) inner (34 ∷ more) tt h
      ∙ text_end (stray_in (column + 1) inner 34) (34 ∷ inner) more
      ∙ ap (λ (k : Option ℕ). word_in line column at (sorted k sorts.Text) (34 ∷ (inner ++ 34 ∷ [])) ∷ scan (between line (ahead column (34 ∷ (inner ++ 34 ∷ []))) (ahead at (34 ∷ (inner ++ 34 ∷ [])))) more next) o

  -- behind the two marks that begin bytes
  bytes_begin : (rest : List ℕ) → scan (between line column at) (120 ∷ 34 ∷ rest) next ≡ scan (in_one line column at within.Bytes None (120 ∷ 34 ∷ [])) rest next
  bytes_begin rest = ap (λ (s : Scanning). scan s rest next) (moves line column at within.Plain within.Bytes None (120 ∷ []) 34 classes.Quote not_bytes)

  bytes_gives : (inner more : List ℕ) → Each in_literal inner 34
      → Gives (word_in line column at (sorted (stray_in column (120 ∷ 34 ∷ (inner ++ 34 ∷ [])) (first_of more next)) sorts.Bytes) (120 ∷ 34 ∷ (inner ++ 34 ∷ []))) (120 ∷ 34 ∷ (inner ++ 34 ∷ [])) more
  bytes_gives inner more h =
      let o : stray_in (column + 1 + 1) inner 34 ≡ stray_in (column + 1 + 1) (inner ++ 34 ∷ []) (first_of more next) = sym (stray_push (column + 1 + 1) inner 34 (first_of more next) refl) in
      bytes_begin ((inner ++ 34 ∷ []) ++ more)
      ∙ ap (λ (k : List ℕ). scan (in_one line column at within.Bytes None (120 ∷ 34 ∷ [])) k next) (append_assoc inner (34 ∷ []) more)
      ∙ run line column at next within.Bytes in_literal (λ bs. Unit {0}) not_bytes keeps_bytes unit_more gives_bytes None (120 ∷ 34 ∷ []) inner (34 ∷ more) tt h
      ∙ bytes_end (stray_in (column + 1 + 1) inner 34) (120 ∷ 34 ∷ inner) more
      ∙ ap (λ (k : Option ℕ). word_in line column at (sorted k sorts.Bytes) (120 ∷ 34 ∷ (inner ++ 34 ∷ [])) ∷ scan (between line (ahead column (120 ∷ 34 ∷ (inner ++ 34 ∷ []))) (ahead at (120 ∷ 34 ∷ (inner ++ 34 ∷ [])))) more next) o

  open_text_gives : (inner : List ℕ) → Each in_literal inner next → scan (between line column at) (34 ∷ inner) next ≡ word_in line column at sorts.Unclosed (34 ∷ inner) ∷ []
  open_text_gives inner h =
      ap (λ (k : List ℕ). scan (in_one line column at within.Text None (34 ∷ [])) k next) (sym (append-nil inner))
      ∙ run line column at next within.Text in_literal (λ bs. Unit {0}) not_text keeps_text unit_more gives_text None (34 ∷ []) inner [] tt h
      ∙ open_end within.Text (stray_in (column + 1) inner next) (34 ∷ inner) sorts.Unclosed refl

  open_bytes_gives : (inner : List ℕ) → Each in_literal inner next → scan (between line column at) (120 ∷ 34 ∷ inner) next ≡ word_in line column at sorts.Unclosed (120 ∷ 34 ∷ inner) ∷ []
  open_bytes_gives inner h =
      bytes_begin inner
      ∙ ap (λ (k : List ℕ). scan (in_one line column at within.Bytes None (120 ∷ 34 ∷ [])) k next) (sym (append-nil inner))
      ∙ run line column at next within.Bytes in_literal (λ bs. Unit {0}) not_bytes keeps_bytes unit_more gives_bytes None (120 ∷ 34 ∷ []) inner [] tt h
      ∙ open_end within.Bytes (stray_in (column + 1 + 1) inner next) (120 ∷ 34 ∷ inner) sorts.Unclosed refl

  comment_scanned : (inner : List ℕ) → Each in_line inner next → scan (between line column at) (59 ∷ inner) next ≡ remark (in_one line column at within.Remark (stray_in (column + 1) inner next) (59 ∷ inner)) (stray_in (column + 1) inner next)
  comment_scanned inner h =
      ap (λ (k : List ℕ). scan (in_one line column at within.Remark None (59 ∷ [])) k next) (sym (append-nil inner))
      ∙ run line column at next within.Remark in_line (λ bs. Unit {0}) not_remark keeps_remark unit_more gives_remark None (59 ∷ []) inner [] tt h

  comment_gives : (inner : List ℕ) (stray : ℕ) → Each in_line inner next → stray_in (column + 1) inner next ≡ Some stray → scan (between line column at) (59 ∷ inner) next ≡ word_in line column at (sorts.Remark stray) (59 ∷ inner) ∷ []
  comment_gives inner stray h e = comment_scanned inner h
      ∙ ap (λ (o : Option ℕ). remark (in_one line column at within.Remark (stray_in (column + 1) inner next) (59 ∷ inner)) o) e
      ∙ ap (λ (v : WordAt). v ∷ []) (same_word line column at _ _ (59 ∷ inner) _ _ refl (zero_more (ahead column (59 ∷ inner))) (zero_more (ahead at (59 ∷ inner))))

  quiet_gives : (rest : List ℕ) → IsQuiet column rest next → scan (between line column at) rest next ≡ []
  quiet_gives [] h = refl
  quiet_gives (b ∷ inner) h = subst (λ (k : ℕ). stray_in column (k ∷ inner) next ≡ None → scan (between line column at) (k ∷ inner) next ≡ []) (sym h.0)
      (λ e. comment_scanned inner h.1 ∙ ap (λ (o : Option ℕ). remark (in_one line column at within.Remark (stray_in (column + 1) inner next) (59 ∷ inner)) o) e) h.2

-- ---- words that are no literals

opened_plain : (c : Class) → opens_word c ≡ true → turn within.Nothing c [] ≡ within.Plain
opened_plain classes.Other h = refl
opened_plain classes.Bad h = refl
opened_plain classes.LineEnd h = absurd cc
opened_plain classes.Blank h = absurd cc
opened_plain classes.Quote h = absurd cc
opened_plain classes.Semicolon h = absurd cc

quote_by : (p q r s t : Bool) → cond p classes.LineEnd (cond q classes.Blank (cond r classes.Bad (cond s classes.Quote (cond t classes.Semicolon classes.Other)))) ≡ classes.Quote → s ≡ true
quote_by true q r s t e = absurd cc
quote_by false true r s t e = absurd cc
quote_by false false true s t e = absurd cc
quote_by false false false true t e = refl
quote_by false false false false true e = absurd cc
quote_by false false false false false e = absurd cc

semicolon_by : (p q r s t : Bool) → cond p classes.LineEnd (cond q classes.Blank (cond r classes.Bad (cond s classes.Quote (cond t classes.Semicolon classes.Other)))) ≡ classes.Semicolon → t ≡ true
semicolon_by true q r s t e = absurd cc
semicolon_by false true r s t e = absurd cc
semicolon_by false false true s t e = absurd cc
semicolon_by false false false true t e = absurd cc
semicolon_by false false false false true e = refl
semicolon_by false false false false false e = absurd cc

pub quote_is : (b next : ℕ) → class_of b next ≡ classes.Quote → b ≡ 34
quote_is b next e = eqb-true b 34 (quote_by _ _ _ (b == 34) _ e)

pub semicolon_is : (b next : ℕ) → class_of b next ≡ classes.Semicolon → b ≡ 59
semicolon_is b next e = eqb-true b 59 (semicolon_by _ _ _ _ (b == 59) e)

-- a second byte goes on with a word, unless both begin bytes
second_plain : (a b next : ℕ) (c : Class) → c ≡ class_of b next → in_word c ≡ true → (a == 120 && b == 34) ≡ false → within.Plain ≡ turn within.Plain c (a ∷ [])
second_plain a b next classes.Quote e h f = by (a == 120) (subst (λ (k : ℕ). (a == 120 && k == 34) ≡ false) (quote_is b next (sym e)) f)
  where
    by : (t : Bool) → (t && true) ≡ false → within.Plain ≡ cond (t && true) within.Bytes within.Plain
    by true f = absurd cc
    by false f = refl
second_plain a b next classes.LineEnd e h f = absurd cc
second_plain a b next classes.Blank e h f = absurd cc
second_plain a b next classes.Bad e h f = refl
second_plain a b next classes.Semicolon e h f = refl
second_plain a b next classes.Other e h f = refl

module _ (line column at next : ℕ) where
  plain_gives : (b : ℕ) (bs more : List ℕ) → opens_word (class_of b (first_of (bs ++ more) next)) ≡ true → Each in_word bs (first_of more next) → opens_bytes (b ∷ bs) ≡ false → ends_apart more next ≡ true
      → Gives line column at next (word_in line column at (sorted (stray_in column (b ∷ bs) (first_of more next)) sorts.Plain) (b ∷ bs)) (b ∷ bs) more
  plain_gives b [] more h e f g =
      let c = class_of b (first_of more next) in
      let o : strayed None c column ≡ stray_in column (b ∷ []) (first_of more next) = or_none (strayed None c column) (column + 1) (first_of more next) ∙ stray_step None column b [] (first_of more next) c refl in
      ap (λ (s : Scanning). scan s more next) (opens line column at b c within.Plain (opened_plain c h) not_plain)
      ∙ ap (λ (k : Option ℕ). scan (in_one line column at within.Plain k (b ∷ [])) more next) o
      ∙ plain_end line column at next (stray_in column (b ∷ []) (first_of more next)) (b ∷ []) more g
  plain_gives b (d ∷ bs) more h e f g =
      let n = first_of more next in
      let c = class_of b d in
      let k = class_of d (first_of (bs ++ more) next) in
      let same : k ≡ class_of d (first_of bs n) = ap (class_of d) (first_append bs more next) in
      let t : in_word k ≡ true = ap in_word same ∙ e.0 in
      let one = in_one line column at within.Plain (strayed None c column) (b ∷ []) in
      let go : within.Plain ≡ turn within.Plain k (b ∷ []) = second_plain b d (first_of (bs ++ more) next) k refl t f in
      let o : or_in (strayed (strayed None c column) k (column + 1)) (column + 1 + 1) bs n ≡ stray_in column (b ∷ d ∷ bs) n =
      stray_step (strayed None c column) (column + 1) d bs n k same ∙ stray_step None column b (d ∷ bs) n c refl in
      ap (λ (s : Scanning). scan s (d ∷ (bs ++ more)) next) (opens line column at b c within.Plain (opened_plain c h) not_plain)
      ∙ ap (λ (ws : List WordAt). ws ++ scan (after one d k) (bs ++ more) next) (gives_plain one d k t)
      ∙ ap (λ (s : Scanning). scan s (bs ++ more) next) (grows line column at within.Plain within.Plain (strayed None c column) (b ∷ []) d k go not_plain)
      ∙ run line column at next within.Plain in_word Begun not_plain keeps_plain begun_more gives_plain (strayed (strayed None c column) k (column + 1)) (b ∷ d ∷ []) bs more (record { some = omega arith; unlike = two_unlike (b ∷ []) d (omega arith) }) e.1
      ∙ ap (λ (x : Option ℕ). scan (in_one line column at within.Plain x (b ∷ d ∷ bs)) more next) o
      ∙ plain_end line column at next (stray_in column (b ∷ d ∷ bs) n) (b ∷ d ∷ bs) more g

-- ---- a word of a line

-- the same, of bytes that are those
turned : (line column at next : ℕ) (w v : WordAt) (bs cs more : List ℕ) → bs ≡ cs → w ≡ v → Gives line column at next v cs more → Gives line column at next w bs more
turned line column at next w v bs cs more e f g = subst (λ (k : List ℕ). Gives line column at next w k more) (sym e) (subst (λ (u : WordAt). Gives line column at next u cs more) (sym f) g)

to_end : (line column at next : ℕ) (w : WordAt) (bs more : List ℕ) → more ≡ [] → scan (between line column at) bs next ≡ w ∷ [] → Gives line column at next w bs more
to_end line column at next w bs more e g = subst (λ (m : List ℕ). Gives line column at next w bs m) (sym e) (ap (λ (k : List ℕ). scan (between line column at) k next) (append-nil bs) ∙ g)

word_gives : (line column at next : ℕ) (bs more : List ℕ) (w : WordAt) → IsWord line column at bs more next w → Gives line column at next w bs more
word_gives line column at next bs more w (plain_word b cs e h i f g s) =
    turned line column at next w _ bs (b ∷ cs) more e (s ∙ ap (λ (k : List ℕ). word_in line column at (sorted (stray_in column k (first_of more next)) sorts.Plain) k) e) (plain_gives line column at next b cs more h i f g)
word_gives line column at next bs more w (text_word inner e h s) =
    turned line column at next w _ bs _ more e (s ∙ ap (λ (k : List ℕ). word_in line column at (sorted (stray_in column k (first_of more next)) sorts.Text) k) e) (text_gives line column at next inner more h)
word_gives line column at next bs more w (bytes_word inner e h s) =
    turned line column at next w _ bs _ more e (s ∙ ap (λ (k : List ℕ). word_in line column at (sorted (stray_in column k (first_of more next)) sorts.Bytes) k) e) (bytes_gives line column at next inner more h)
word_gives line column at next bs more w (open_text inner e h m s) =
    to_end line column at next w bs more m (ap (λ (k : List ℕ). scan (between line column at) k next) e ∙ open_text_gives line column at next inner h ∙ ap (λ (k : List ℕ). word_in line column at sorts.Unclosed k ∷ []) (sym e) ∙ ap (λ (v : WordAt). v ∷ []) (sym s))
word_gives line column at next bs more w (open_bytes inner e h m s) =
    to_end line column at next w bs more m (ap (λ (k : List ℕ). scan (between line column at) k next) e ∙ open_bytes_gives line column at next inner h ∙ ap (λ (k : List ℕ). word_in line column at sorts.Unclosed k ∷ []) (sym e) ∙ ap (λ (v : WordAt). v ∷ []) (sym s))
word_gives line column at next bs more w (comment inner stray e h m o s) =
    to_end line column at next w bs more m (ap (λ (k : List ℕ). scan (between line column at) k next) e
    ∙ comment_gives line column at next inner stray h (subst (λ (k : List ℕ). stray_in column k next ≡ Some stray) e o) ∙ ap (λ (k : List ℕ). word_in line column at (sorts.Remark stray) k ∷ []) (sym e) ∙ ap (λ (v : WordAt). v ∷ []) (sym s))

pub line_scanned : (line column at : ℕ) (rest : List ℕ) (next : ℕ) (ws : List WordAt) → IsLine line column at rest next ws → scan (between line column at) rest next ≡ ws
line_scanned line column at rest next [] h =
    ap (λ (k : List ℕ). scan (between line column at) k next) h.2 ∙ gap_scanned line column at next h.0 h.1 h.3 ∙ quiet_gives line (ahead column h.0) (ahead at h.0) next h.1 h.4
line_scanned line column at rest next (w ∷ ws) h =
    ap (λ (k : List ℕ). scan (between line column at) k next) h.2 ∙ gap_scanned line column at next h.0 (w.bytes ++ h.1) h.3
    ∙ word_gives line (ahead column h.0) (ahead at h.0) next w.bytes h.1 w h.4
    ∙ ap (λ (k : List WordAt). w ∷ k) (line_scanned line (ahead (ahead column h.0) w.bytes) (ahead (ahead at h.0) w.bytes) h.1 next ws h.5)
