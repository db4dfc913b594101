-- The fault of a text is that of each text that goes on from it, but where it says that the text ends too early.
use Rattle.std.proofs.Common.{◌≡◌, ℕ, ◌+◌, ◌≤◌, ◌<◌, ◌⊎◌, inl, inr, Bool, true, false, ◌&&◌, ◌||◌, ◌==◌, List, [], ◌∷◌, ◌++◌, Option, Some, None, Result, Ok, Err, refl, sym, ap, subst, ◌∙◌, arith, append_assoc, append-nil, nat_lt, if◌then◌else◌}
use Rattle.std.specs.Prelude.{slice_index}
use Rattle.std.proofs.lemmas.Bool.{eqb-true, ltb-true, ltb-false}
use Rattle.com_classes.specs.declared.interfaces.Interface.{Interface}
use Rattle.com_text.specs.declared.scan.Class.{Class}
use Rattle.com_text.specs.declared.scan.Class.TheVariants as classes
use Rattle.com_text.specs.declared.scan.Within.{Within}
use Rattle.com_text.specs.declared.scan.Within.TheVariants as within
use Rattle.com_text.specs.Words.{WordAt, LineAt, is_over}
use Rattle.com_text.specs.Scanning.{Scanning, class_of, ends_line, turn, strayed, moved, after, remark, closed_by, closing, gave_by, gave, at_line, ended, lines_from, lines_of}
use Rattle.com_read_operands.specs.declared.faults.Fault.{Fault}
use Rattle.com_read_operands.specs.Reading.{◌>>=◌}
use Rattle.com_read_lines.specs.Codes.{first_position}
use Rattle.com_read_sections.specs.declared.state.State.{State}
use Rattle.com_read_sections.specs.declared.state.Section.{Section}
use Rattle.com_read_sections.specs.declared.state.Section.TheVariants as sections
use Rattle.com_read_sections.specs.declared.outline.Outline.{Outline}
use Rattle.com_read_sections.specs.Opened.{step}
use Rattle.com_read_sections.specs.Outlines.{finished, finish, begun, read}
use Rattle.com_laws_faults.specs.Prefixes.{behind, ends_word, begins_apart, CutsNoWord, is_lone, lacks_header, EndsEarly}
use Rattle.com_laws_faults.proofs.Sections.{is_header, Steps, line_steps}
use Rattle.com_laws_faults.proofs.Past.{line_awaits}

-- ---- bytes

-- a byte's class, by whether it is a byte 13 before a line end
abbrev classed : ℕ → Bool → Class
classed b returns =
    if b == 10 then classes.LineEnd
    else (if b == 32 || b == 9 || returns then classes.Blank
    else (if nat_lt b 32 || nat_lt 126 b then classes.Bad
    else (if b == 34 then classes.Quote
    else (if b == 59 then classes.Semicolon
    else classes.Other))))

same_class : (b x : ℕ) → (b == 13) ≡ false → class_of b x ≡ class_of b 0
same_class b x e = ap (λ (t : Bool). classed b (t && x == 10)) e ∙ sym (ap (λ (t : Bool). classed b (t && 0 == 10)) e)

no_remark : (s : Scanning) (o : Option ℕ) (k : ℕ) → remark s (strayed o classes.Bad k) ≡ [] → ⊥
no_remark s None k e = absurd cc
no_remark s (Some j) k e = absurd cc

-- behind a byte outside the characters a word is open
bad_open : (s : Scanning) (b : ℕ) (w : Within) → closing (moved s b classes.Bad (turn w classes.Bad s.bytes)) ≡ [] → ⊥
bad_open s b within.Nothing e = absurd cc
bad_open s b within.Plain e = absurd cc
bad_open s b within.Text e = absurd cc
bad_open s b within.Bytes e = absurd cc
bad_open s b within.Remark e = no_remark (moved s b classes.Bad within.Remark) s.stray s.column e

stray_stays : (o : Option ℕ) (k : ℕ) → strayed o classes.Bad k ≡ None → ⊥
stray_stays None k e = absurd cc
stray_stays (Some j) k e = absurd cc

-- and it is no word of characters alone
bad_stray : (s : Scanning) (b : ℕ) (w : Within) → (moved s b classes.Bad (turn w classes.Bad s.bytes)).stands ≡ within.Plain → (moved s b classes.Bad (turn w classes.Bad s.bytes)).stray ≡ None → ⊥
bad_stray s b within.Nothing e k = stray_stays s.stray s.column k
bad_stray s b within.Plain e k = stray_stays s.stray s.column k
bad_stray s b within.Text e k = absurd cc
bad_stray s b within.Bytes e k = absurd cc
bad_stray s b within.Remark e k = absurd cc

-- no word is cut between the bytes so far and what follows
abbrev pub Whole : Scanning → List ℕ → Type 0
Whole end rest = (closing end ≡ []) ⊎ ((end.stands ≡ within.Plain) × (end.stray ≡ None) × (begins_apart rest ≡ true))

thirteen : (s : Scanning) (b : ℕ) (rest : List ℕ) → (b == 13) ≡ true → Whole (behind s (b ∷ [])) rest → ⊥
thirteen s b rest t e = by (subst (λ (x : ℕ). Whole (behind s (x ∷ [])) rest) (eqb-true b 13 t) e)
  where
    by : Whole (behind s (13 ∷ [])) rest → ⊥
    by (inl h) = bad_open s 13 s.stands h
    by (inr h) = bad_stray s 13 s.stands h.0 h.1

-- the last byte of a text whose end cuts no word is of one class, whatever follows
pub next_class : (s : Scanning) (b : ℕ) (bs rest : List ℕ) → Whole (behind s (b ∷ bs)) rest → class_of b (slice_index (bs ++ rest) 0) ≡ class_of b (slice_index bs 0)
next_class s b (x ∷ bs) rest e = refl
next_class s b [] rest e = by (b == 13) refl
  where
    by : (t : Bool) → (b == 13) ≡ t → class_of b (slice_index rest 0) ≡ class_of b (slice_index [] 0)
    by true t = absurd (thirteen s b rest t e)
    by false t = same_class b (slice_index rest 0) t

-- ---- lines

-- the first line of what is left begins with the words that were given
record FirstLine (words : List WordAt) (lines : List LineAt) : Type 0 where
  pub more : List WordAt
  pub line : LineAt
  pub others : List LineAt
  pub is : lines ≡ line ∷ others
  pub begins : line.words ≡ words ++ more

first_line : (s : Scanning) (words : List WordAt) (bs : List ℕ) → FirstLine words (lines_from s words bs)
first_line s words [] = record { more = closing s; line = ended s words true; others = []; is = refl; begins = refl }
first_line s words (b ∷ bs) = by (class_of b (slice_index bs 0)) (ends_line (class_of b (slice_index bs 0))) (first_line (after s b (class_of b (slice_index bs 0))) (words ++ gave s b (class_of b (slice_index bs 0))) bs)
  where
    by : (c : Class) (t : Bool) → FirstLine (words ++ gave s b c) (lines_from (after s b c) (words ++ gave s b c) bs)
        → FirstLine words (if t then ended s words false ∷ lines_from (at_line (s.line + 1) (s.at + 1)) [] bs else lines_from (after s b c) (words ++ gave s b c) bs)
    by c true h = record { more = closing s; line = ended s words false; others = _; is = refl; begins = refl }
    by c false h = record { more = gave s b c ++ h.more; line = h.line; others = h.others; is = h.is; begins = h.begins ∙ append_assoc words (gave s b c) h.more }

-- the word that is open ends with what follows
at_word : (s : Scanning) (words : List WordAt) (b : ℕ) (bs : List ℕ) (c : Class) → ends_word c ≡ true → s.stands ≡ within.Plain
    → FirstLine (words ++ closing s) (if ends_line c then ended s words false ∷ lines_from (at_line (s.line + 1) (s.at + 1)) [] bs else lines_from (after s b c) (words ++ gave s b c) bs)
at_word s words b bs classes.LineEnd t plain = record { more = []; line = ended s words false; others = _; is = refl; begins = sym (append-nil (words ++ closing s)) }
at_word s words b bs classes.Blank t plain =
    let same : gave s b classes.Blank ≡ closing s = subst (λ (w : Within). gave_by s b w classes.Blank ≡ closed_by s w) (sym plain) refl in
    subst (λ (ws : List WordAt). FirstLine (words ++ ws) (lines_from (after s b classes.Blank) (words ++ gave s b classes.Blank) bs)) same (first_line (after s b classes.Blank) (words ++ gave s b classes.Blank) bs)
at_word s words b bs classes.Quote t plain = absurd cc
at_word s words b bs classes.Semicolon t plain = absurd cc
at_word s words b bs classes.Bad t plain = absurd cc
at_word s words b bs classes.Other t plain = absurd cc

whole_line : (s : Scanning) (words : List WordAt) (rest : List ℕ) → Whole s rest → FirstLine (words ++ closing s) (lines_from s words rest)
whole_line s words rest (inl none) = subst (λ (ws : List WordAt). FirstLine ws (lines_from s words rest)) (sym (ap (λ (ws : List WordAt). words ++ ws) none ∙ append-nil words)) (first_line s words rest)
whole_line s words [] (inr h) = record { more = []; line = ended s words true; others = []; is = refl; begins = sym (append-nil (words ++ closing s)) }
whole_line s words (b ∷ bs) (inr h) = at_word s words b bs (class_of b (slice_index bs 0)) h.2 h.0

-- behind a line's first byte the column is above 1
record Stands (s : Scanning) (words : List WordAt) : Type 0 where
  pub low : 1 ≤ s.column
  pub start : s.column ≡ 1 → words ++ closing s ≡ []

moved_column : (s : Scanning) (b : ℕ) (c : Class) (w : Within) → (moved s b c w).column ≡ s.column + 1
moved_column s b c within.Nothing = refl
moved_column s b c within.Plain = refl
moved_column s b c within.Text = refl
moved_column s b c within.Bytes = refl
moved_column s b c within.Remark = refl

stands_on : (s : Scanning) (words more : List WordAt) (b : ℕ) (c : Class) → Stands s words → Stands (after s b c) more
stands_on s words more b c h =
    let e : (after s b c).column ≡ s.column + 1 = moved_column s b c (turn s.stands c s.bytes) in
    let l : 1 ≤ s.column = h.low in
    record { low = omega arith; start = λ k. absurd (omega arith) }

line_stands : (line at : ℕ) → Stands (at_line line at) []
line_stands line at = record { low = omega arith; start = λ k. refl }

-- ---- the end of the shorter text

-- what more text may mend, where some lines are left
abbrev Early : State → Scanning → List LineAt → Fault → Type 0
Early st end lines f =
    ((f.number ≡ 4) × (1 < end.column))
    ⊎ ((f ≡ record { number = 11; line = end.line; column = end.column })
    ⊎ ((f ≡ first_position) × (is_header st.section ≡ true) × (lacks_header lines ≡ true)))

last_line : (section : Section) (p : List WordAt) (short long : Result State Fault) (g g' : State → Result Outline Fault) (f : Fault) → Steps section p short long → (short >>= g) ≡ Err f
    → (short ≡ Err f → f.number ≡ 4 → ⊥)
    → (f ≡ first_position → is_lone p ≡ true → is_header section ≡ true → ⊥)
    → ((next : State) → short ≡ Ok next → g next ≡ Err f → ⊥)
    → (long >>= g') ≡ Err f
last_line section p (Ok x) long g g' f h e mild lone end = absurd (end x refl e)
last_line section p (Err x) long g g' f h e mild lone end =
    let same : x ≡ f = cc in
    elim h.is [
      | inl q ↦ ap (λ (t : Result _ Fault). t >>= g') q ∙ e
      | inr (inl m) ↦ absurd (mild (ap (λ (y : Fault). Err y) same) (subst (λ (y : Fault). y.number ≡ 4) same m))
      | inr (inr m) ↦ (let first : f ≡ first_position = sym same ∙ (let q : x ≡ first_position = cc in q) in absurd (lone first m.1 m.2))
    ]

-- where the text's end finds a fault
pub ends_at : (next : State) (line column : ℕ) (f : Fault) (section : Section) → finished next line column section ≡ Err f
    → (f ≡ record { number = 11; line = line; column = column }) ⊎ ((f ≡ first_position) × (is_header section ≡ true))
ends_at next line column f (sections.Header pending) e = inr (let q : f ≡ first_position = cc in q, refl)
ends_at next line column f sections.Top e = absurd cc
ends_at next line column f (sections.Interface i) e = absurd cc
ends_at next line column f (sections.Class c) e = inl cc
ends_at next line column f (sections.Body c head code) e = inl cc
ends_at next line column f (sections.Filter rules) e = inl cc
ends_at next line column f (sections.Thread code) e = inl cc

pub lacks_by : (words : List WordAt) (l : LineAt) → l.words ≡ words → l.last ≡ true → (is_over words ≡ true) ⊎ (is_lone words ≡ true) → lacks_header (l ∷ []) ≡ true
lacks_by words l e last (inl o) = ap (λ (ws : List WordAt). if is_over ws then true else (l.last && is_lone ws)) e ∙ ap (λ (b : Bool). if b then true else (l.last && is_lone words)) o
lacks_by words l e last (inr o) =
    ap (λ (ws : List WordAt). if is_over ws then true else (l.last && is_lone ws)) e
    ∙ ap (λ (b : Bool). if is_over words then true else (b && is_lone words)) last
    ∙ ap (λ (b : Bool). if is_over words then true else b) o
    ∙ both (is_over words)
  where
    both : (b : Bool) → (if b then true else true) ≡ true
    both true = refl
    both false = refl

above_one : (st : State) (s : Scanning) (words : List WordAt) (f : Fault) → Stands s words → step st (words ++ closing s) ≡ Err f → 1 < s.column
unfolding step
above_one st s words f h e = by (nat_lt 1 s.column) refl
  where
    by : (b : Bool) → nat_lt 1 s.column ≡ b → 1 < s.column
    by true t = ltb-true 1 s.column t
    by false t =
        let low : 1 ≤ s.column = h.low in
        let high : s.column ≤ 1 = ltb-false 1 s.column t in
        let none : words ++ closing s ≡ [] = h.start (omega arith) in
        let q : step st [] ≡ Err f = subst (λ (ws : List WordAt). step st ws ≡ Err f) none e in
        absurd cc

at_end : (st : State) (s : Scanning) (words : List WordAt) (rest : List ℕ) (f : Fault) → Stands s words → Whole s rest
    → read st (ended s words true ∷ []) ≡ Err f → (Early st s (ended s words true ∷ []) f → ⊥) → read st (lines_from s words rest) ≡ Err f
unfolding read finish
at_end st s words rest f h whole e early =
    let first = whole_line s words rest whole in
    let all : List WordAt = words ++ closing s in
    let steps : Steps st.section all (step st all) (step st first.line.words) = subst (λ (ws : List WordAt). Steps st.section all (step st all) (step st ws)) (sym first.begins) (line_steps st all first.more) in
    subst (λ (ls : List LineAt). read st ls ≡ Err f) (sym first.is)
    (last_line st.section all (step st all) (step st first.line.words) _ _ f steps e
    (λ q m. early (inl (m, above_one st s words f h q)))
    (λ q lone header. early (inr (inr (q, header, lacks_by all (ended s words true) refl refl (inr lone)))))
    (λ next q end. elim (ends_at next s.line s.column f next.section end) [
      | inl u ↦ early (inr (inl u))
      | inr u ↦ (let awaits = (line_awaits st all).is next q u.1 in early (inr (inr (u.0, awaits.0, lacks_by all (ended s words true) refl refl (inl awaits.1)))))
    ]))

-- a line that ends in both texts
over_line : (st : State) (l : LineAt) (ls ms : List LineAt) (end : Scanning) (f : Fault) → l.last ≡ false → read st (l ∷ ls) ≡ Err f → (Early st end (l ∷ ls) f → ⊥)
    → ((next : State) → read next ls ≡ Err f → (Early next end ls f → ⊥) → read next ms ≡ Err f) → read st (l ∷ ms) ≡ Err f
unfolding read
over_line st l ls ms end f more e early go = by (step st l.words) refl (subst (λ (b : Bool). (step st l.words >>= λ next. if b then finish next l.line l.column else read next ls) ≡ Err f) more e)
  where
    later : (next : State) → step st l.words ≡ Ok next → Early next end ls f → Early st end (l ∷ ls) f
    later next q (inl m) = inl m
    later next q (inr (inl m)) = inr (inl m)
    later next q (inr (inr m)) =
        let awaits = (line_awaits st l.words).is next q m.1 in
        inr (inr (m.0, awaits.0, ap (λ (b : Bool). if b then lacks_header ls else (l.last && is_lone l.words)) awaits.1 ∙ m.2))

    by : (r : Result State Fault) → step st l.words ≡ r → (step st l.words >>= λ next. if false then finish next l.line l.column else read next ls) ≡ Err f
        → (step st l.words >>= λ next. if l.last then finish next l.line l.column else read next ms) ≡ Err f
    by (Err x) q d =
        ap (λ (t : Result _ Fault). t >>= λ next. if l.last then finish next l.line l.column else read next ms) q
        ∙ sym (ap (λ (t : Result _ Fault). t >>= λ next. if false then finish next l.line l.column else read next ls) q) ∙ d
    by (Ok next) q d =
        let left : read next ls ≡ Err f = sym (ap (λ (t : Result _ Fault). t >>= λ next. if false then finish next l.line l.column else read next ls) q) ∙ d in
        ap (λ (t : Result _ Fault). t >>= λ next. if l.last then finish next l.line l.column else read next ms) q
        ∙ ap (λ (b : Bool). if b then finish next l.line l.column else read next ms) more
        ∙ go next left (λ x. early (later next q x))

read_goes : (p rest : List ℕ) (s : Scanning) (words : List WordAt) (st : State) (f : Fault) → Stands s words → Whole (behind s p) rest
    → read st (lines_from s words p) ≡ Err f → (Early st (behind s p) (lines_from s words p) f → ⊥) → read st (lines_from s words (p ++ rest)) ≡ Err f
read_goes [] rest s words st f h none e early = at_end st s words rest f h none e early
read_goes (b ∷ bs) rest s words st f h none e early =
    subst (λ (c : Class). read st (if ends_line c then ended s words false ∷ lines_from (at_line (s.line + 1) (s.at + 1)) [] (bs ++ rest) else lines_from (after s b c) (words ++ gave s b c) (bs ++ rest)) ≡ Err f)
    (sym (next_class s b bs rest none))
    (by (class_of b (slice_index bs 0)) (ends_line (class_of b (slice_index bs 0)))
    (λ next. read_goes bs rest (at_line (s.line + 1) (s.at + 1)) [] next f (line_stands (s.line + 1) (s.at + 1)))
    (read_goes bs rest (after s b (class_of b (slice_index bs 0))) (words ++ gave s b (class_of b (slice_index bs 0))) st f (stands_on s words _ b (class_of b (slice_index bs 0)) h))
    none e early)
  where
    by : (c : Class) (t : Bool)
        → ((next : State) → Whole (behind (at_line (s.line + 1) (s.at + 1)) bs) rest → read next (lines_from (at_line (s.line + 1) (s.at + 1)) [] bs) ≡ Err f
        → (Early next (behind (at_line (s.line + 1) (s.at + 1)) bs) (lines_from (at_line (s.line + 1) (s.at + 1)) [] bs) f → ⊥)
        → read next (lines_from (at_line (s.line + 1) (s.at + 1)) [] (bs ++ rest)) ≡ Err f)
        → (Whole (behind (after s b c) bs) rest → read st (lines_from (after s b c) (words ++ gave s b c) bs) ≡ Err f
        → (Early st (behind (after s b c) bs) (lines_from (after s b c) (words ++ gave s b c) bs) f → ⊥)
        → read st (lines_from (after s b c) (words ++ gave s b c) (bs ++ rest)) ≡ Err f)
        → Whole (if t then behind (at_line (s.line + 1) (s.at + 1)) bs else behind (after s b c) bs) rest
        → read st (if t then ended s words false ∷ lines_from (at_line (s.line + 1) (s.at + 1)) [] bs else lines_from (after s b c) (words ++ gave s b c) bs) ≡ Err f
        → (Early st (if t then behind (at_line (s.line + 1) (s.at + 1)) bs else behind (after s b c) bs) (if t then ended s words false ∷ lines_from (at_line (s.line + 1) (s.at + 1)) [] bs else lines_from (after s b c) (words ++ gave s b c) bs) f → ⊥)
        → read st (if t then ended s words false ∷ lines_from (at_line (s.line + 1) (s.at + 1)) [] (bs ++ rest) else lines_from (after s b c) (words ++ gave s b c) (bs ++ rest)) ≡ Err f
    by c true line on closed d soon = over_line st (ended s words false) (lines_from (at_line (s.line + 1) (s.at + 1)) [] bs) (lines_from (at_line (s.line + 1) (s.at + 1)) [] (bs ++ rest)) (behind (at_line (s.line + 1) (s.at + 1)) bs) f refl d soon (λ next. line next closed)
    by c false line on closed d soon = on closed d soon

pub outline_stays : (tables : List Interface) (text rest : List ℕ) (f : Fault) → CutsNoWord text rest → read (begun tables) (lines_of text) ≡ Err f → (EndsEarly text f → ⊥)
    → read (begun tables) (lines_of (text ++ rest)) ≡ Err f
unfolding lines_of
outline_stays tables text rest f whole e early = read_goes text rest (at_line 1 0) [] (begun tables) f (line_stands 1 0) (apart whole) e (λ x. early (by x))
  where
    apart : CutsNoWord text rest → Whole (behind (at_line 1 0) text) rest
    apart (inl h) = inl h
    apart (inr h) = inr (h.plain, h.characters, h.apart)

    by : Early (begun tables) (behind (at_line 1 0) text) (lines_from (at_line 1 0) [] text) f → EndsEarly text f
    by (inl m) = inl (record { number = m.0; within_line = m.1 })
    by (inr (inl m)) = inr (inl m)
    by (inr (inr m)) = inr (inr (record { first = m.0; lacks = m.2 }))
