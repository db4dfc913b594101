-- A fault of a text that stands in a beginning of it is that beginning's.
use Rattle.std.proofs.Common.{◌≡◌, ℕ, zero, suc, ◌+◌, ◌≤◌, ◌<◌, ◌⊎◌, inl, inr, Bool, true, false, List, [], ◌∷◌, ◌++◌, Option, Some, None, Result, Ok, Err, All, refl, sym, ap, subst, ◌∙◌, arith, append_assoc, append-nil, if◌then◌else◌}
use Rattle.std.specs.Prelude.{slice_index, slice_get}
use Rattle.std.proofs.lemmas.List.Elements.{All-head, All-tail, All-nil, All-cons, All-append}
use Rattle.com_classes.specs.declared.interfaces.Interface.{Interface}
use Rattle.com_text.specs.declared.word.Sort.{Sort}
use Rattle.com_text.specs.declared.word.Sort.TheVariants as sorts
use Rattle.com_text.specs.declared.scan.Class.{Class}
use Rattle.com_text.specs.declared.scan.Class.TheVariants as classes
use Rattle.com_text.specs.declared.scan.Within.{Within}
use Rattle.com_text.specs.declared.scan.Within.TheVariants as within
use Rattle.com_text.specs.Words.{WordAt, LineAt, is_over}
use Rattle.com_text.specs.Scanning.{Scanning, class_of, ends_line, turn, strayed, moved, after, sorted, word_of, remark, closed_by, closing, gave_by, gave, at_line, ended, lines_from, lines_of}
use Rattle.com_read_operands.specs.declared.faults.Fault.{Fault}
use Rattle.com_read_operands.specs.Reading.{◌>>=◌}
use Rattle.com_read_lines.specs.Codes.{first_position}
use Rattle.com_read_sections.specs.declared.state.State.{State}
use Rattle.com_read_sections.specs.declared.state.Section.{Section}
use Rattle.com_read_sections.specs.declared.outline.Outline.{Outline}
use Rattle.com_read_sections.specs.Opened.{step}
use Rattle.com_read_sections.specs.Outlines.{finished, finish, begun, read}
use Rattle.com_laws_faults.specs.Prefixes.{behind, ends_word, begins_apart, is_lone, lacks_header}
use Rattle.com_laws_faults.specs.Places.{IsBefore, IsApart, StandsIn}
use Rattle.com_laws_faults.proofs.Sections.{is_header}
use Rattle.com_laws_faults.proofs.Past.{line_awaits}
use Rattle.com_laws_faults.proofs.Texts.{Whole, next_class, ends_at, lacks_by}
use Rattle.com_laws_faults.proofs.Out.{IsSorted, IsFrom, IsOut, Cut, Told}
use Rattle.com_laws_faults.proofs.Open.{IsKept, line_told}
use Rattle.com_laws_faults.proofs.Kept.{line_keeps}

-- ---- where words stand

-- between words the next word begins here
record Even (s : Scanning) : Type 0 where
  pub next : s.stands ≡ within.Nothing → (s.first ≡ s.column) × (s.stray ≡ None)

even_line : (line at : ℕ) → Even (at_line line at)
even_line line at = record { next = λ e. (refl, refl) }

even_moved : (s : Scanning) (b : ℕ) (c : Class) (w : Within) → Even (moved s b c w)
even_moved s b c within.Nothing = record { next = λ e. (refl, refl) }
even_moved s b c within.Plain = record { next = λ e. absurd cc }
even_moved s b c within.Text = record { next = λ e. absurd cc }
even_moved s b c within.Bytes = record { next = λ e. absurd cc }
even_moved s b c within.Remark = record { next = λ e. absurd cc }

-- the word so far, and all behind it, stand in a line from a column on
record Begun (n m : ℕ) (s : Scanning) : Type 0 where
  pub line : s.line ≡ n
  pub column : m ≤ s.column
  pub first : m ≤ s.first
  pub stray : (k : ℕ) → s.stray ≡ Some k → m ≤ k

strayed_from : (m : ℕ) (o : Option ℕ) (c : Class) (column k : ℕ) → ((j : ℕ) → o ≡ Some j → m ≤ j) → m ≤ column → strayed o c column ≡ Some k → m ≤ k
strayed_from m (Some j) c column k h l e = h k e
strayed_from m None classes.Bad column k h l e = let q : column ≡ k = cc in omega arith
strayed_from m None classes.LineEnd column k h l e = absurd cc
strayed_from m None classes.Blank column k h l e = absurd cc
strayed_from m None classes.Quote column k h l e = absurd cc
strayed_from m None classes.Semicolon column k h l e = absurd cc
strayed_from m None classes.Other column k h l e = absurd cc

begun_moved : (n m : ℕ) (s : Scanning) (b : ℕ) (c : Class) (w : Within) → Begun n m s → Begun n m (moved s b c w)
begun_moved n m s b c within.Nothing h = let l : m ≤ s.column = h.column in record { line = h.line; column = omega arith; first = omega arith; stray = λ k e. absurd cc }
begun_moved n m s b c within.Plain h = let l : m ≤ s.column = h.column in record { line = h.line; column = omega arith; first = h.first; stray = λ k e. strayed_from m s.stray c s.column k h.stray l e }
begun_moved n m s b c within.Text h = let l : m ≤ s.column = h.column in record { line = h.line; column = omega arith; first = h.first; stray = λ k e. strayed_from m s.stray c s.column k h.stray l e }
begun_moved n m s b c within.Bytes h = let l : m ≤ s.column = h.column in record { line = h.line; column = omega arith; first = h.first; stray = λ k e. strayed_from m s.stray c s.column k h.stray l e }
begun_moved n m s b c within.Remark h = let l : m ≤ s.column = h.column in record { line = h.line; column = omega arith; first = h.first; stray = λ k e. strayed_from m s.stray c s.column k h.stray l e }

begun_after : (n m : ℕ) (s : Scanning) (b : ℕ) (c : Class) → Begun n m s → Begun n m (after s b c)
begun_after n m s b c h = begun_moved n m s b c (turn s.stands c s.bytes) h

begun_line : (line at : ℕ) → Begun line 0 (at_line line at)
begun_line line at = record { line = refl; column = omega arith; first = omega arith; stray = λ k e. omega arith }

sorted_from : (m : ℕ) (o : Option ℕ) (sort : Sort) → ((j : ℕ) → o ≡ Some j → m ≤ j) → IsSorted m sort → IsSorted m (sorted o sort)
sorted_from m None sort h k = k
sorted_from m (Some j) sort h k = h j refl

word_from : (n m : ℕ) (s : Scanning) (sort : Sort) (bytes : List ℕ) (more : ℕ) → Begun n m s → IsSorted m sort → IsFrom n m (word_of s sort bytes more)
word_from n m s sort bytes more h k = record { line = h.line; column = h.first; sort = k }

alone : (n m : ℕ) (w : WordAt) → IsFrom n m w → All (IsFrom n m) (w ∷ [])
alone n m w h = All-cons (IsFrom n m) w [] h (All-nil (IsFrom n m))

gave_from : (n m : ℕ) (s : Scanning) (b : ℕ) (w : Within) (c : Class) → Begun n m s → All (IsFrom n m) (gave_by s b w c)
gave_from n m s b within.Plain classes.Blank h = alone n m _ (word_from n m s (sorted s.stray sorts.Plain) s.bytes 0 h (sorted_from m s.stray sorts.Plain h.stray tt))
gave_from n m s b within.Text classes.Quote h = alone n m _ (word_from n m s (sorted s.stray sorts.Text) (s.bytes ++ b ∷ []) 1 h (sorted_from m s.stray sorts.Text h.stray tt))
gave_from n m s b within.Bytes classes.Quote h = alone n m _ (word_from n m s (sorted s.stray sorts.Bytes) (s.bytes ++ b ∷ []) 1 h (sorted_from m s.stray sorts.Bytes h.stray tt))
gave_from n m s b w c h = All-nil (IsFrom n m)

remark_from : (n m : ℕ) (s : Scanning) (o : Option ℕ) → Begun n m s → ((k : ℕ) → o ≡ Some k → m ≤ k) → All (IsFrom n m) (remark s o)
remark_from n m s None h g = All-nil (IsFrom n m)
remark_from n m s (Some k) h g = alone n m _ (word_from n m s (sorts.Remark k) s.bytes 0 h (g k refl))

closing_from : (n m : ℕ) (s : Scanning) (w : Within) → Begun n m s → All (IsFrom n m) (closed_by s w)
closing_from n m s within.Nothing h = All-nil (IsFrom n m)
closing_from n m s within.Plain h = alone n m _ (word_from n m s (sorted s.stray sorts.Plain) s.bytes 0 h (sorted_from m s.stray sorts.Plain h.stray tt))
closing_from n m s within.Text h = alone n m _ (word_from n m s sorts.Unclosed s.bytes 0 h tt)
closing_from n m s within.Bytes h = alone n m _ (word_from n m s sorts.Unclosed s.bytes 0 h tt)
closing_from n m s within.Remark h = remark_from n m s s.stray h h.stray

word_at_all : (n m : ℕ) (ws : List WordAt) → All (IsFrom n m) ws → (k : ℕ) (w : WordAt) → slice_get ws k ≡ Some w → IsFrom n m w
word_at_all n m [] h k w e = absurd cc
word_at_all n m (v ∷ vs) h zero w e = let q : v ≡ w = cc in subst (IsFrom n m) q (All-head (IsFrom n m) v vs h)
word_at_all n m (v ∷ vs) h (suc k) w e = word_at_all n m vs (All-tail (IsFrom n m) v vs h) k w e

line_at_all : (n m : ℕ) (p a : List WordAt) → All (IsFrom n m) a → All (IsFrom n 0) p → (k : ℕ) (w : WordAt) → slice_get (p ++ a) k ≡ Some w → w.line ≡ n
line_at_all n m [] a h g k w e = (word_at_all n m a h k w e).line
line_at_all n m (v ∷ vs) a h g zero w e = let q : v ≡ w = cc in subst (λ (u : WordAt). u.line ≡ n) q (All-head (IsFrom n 0) v vs g).line
line_at_all n m (v ∷ vs) a h g (suc k) w e = line_at_all n m vs a h (All-tail (IsFrom n 0) v vs g) k w e

abbrev cut_of : (p a : List WordAt) (n m : ℕ) → All (IsFrom n m) a → All (IsFrom n 0) p → Cut
cut_of p a n m h g = record { p = p; a = a; line = n; column = m; from = word_at_all n m a h; lined = line_at_all n m p a h g }

-- ---- faults behind a place

abbrev IsFar : ℕ → Fault → Type 0
IsFar low f = ((f.number ≡ 4) × ((low ≤ f.line) ⊎ (f.column ≡ 1))) ⊎ ((f.number ≡ 11) ⊎ (low ≤ f.line))

out_far : (n m low : ℕ) (f : Fault) → low ≤ n → IsOut n m f → IsFar low f
out_far n m low f l (inl h) = inl (h.0, elim h.1 [ inl e ↦ inl (omega arith) | inr e ↦ inr e ])
out_far n m low f l (inr (inl h)) = inr (inl h)
out_far n m low f l (inr (inr h)) = let e : f.line ≡ n = h.0 in inr (inr (omega arith))

-- a fault of a word that stands before a place
record IsIn (n m : ℕ) (f : Fault) : Type 0 where
  pub no_end : f.number ≡ 11 → ⊥
  pub missing : f.number ≡ 4 → (m ≡ 1) × (1 < f.column)
  pub before : IsBefore n m f

out_in : (n m : ℕ) (f : Fault) → IsIn n m f → IsOut n m f → ⊥
out_in n m f h (inl e) = by h.before e.1 (h.missing e.0)
  where
    by : IsBefore n m f → (f.line ≡ n) ⊎ (f.column ≡ 1) → (m ≡ 1) × (1 < f.column) → ⊥
    by b (inr q) k = let low : 1 < f.column = k.1 in absurd (omega arith)
    by (inl l) (inl q) k = absurd (omega arith)
    by (inr l) (inl q) k = let less : f.column < m = l.1 in let one : m ≡ 1 = k.0 in let low : 1 < f.column = k.1 in absurd (omega arith)
out_in n m f h (inr (inl e)) = h.no_end e
out_in n m f h (inr (inr e)) = by h.before e.0 e.1
  where
    by : IsBefore n m f → f.line ≡ n → m ≤ f.column → ⊥
    by (inl l) q k = absurd (omega arith)
    by (inr l) q k = let less : f.column < m = l.1 in absurd (omega arith)

far_in : (n m low : ℕ) (f : Fault) → n < low → IsIn n m f → IsFar low f → ⊥
far_in n m low f l h (inl e) = by h.before e.1 (h.missing e.0)
  where
    by : IsBefore n m f → (low ≤ f.line) ⊎ (f.column ≡ 1) → (m ≡ 1) × (1 < f.column) → ⊥
    by b (inr q) k = let one : 1 < f.column = k.1 in absurd (omega arith)
    by (inl b) (inl q) k = absurd (omega arith)
    by (inr b) (inl q) k = let same : f.line ≡ n = b.0 in absurd (omega arith)
far_in n m low f l h (inr (inl e)) = h.no_end e
far_in n m low f l h (inr (inr e)) = by h.before
  where
    by : IsBefore n m f → ⊥
    by (inl k) = absurd (omega arith)
    by (inr k) = let same : f.line ≡ n = k.0 in absurd (omega arith)

not_header : (b : Bool) → (b ≡ true → ⊥) → b ≡ false
not_header true h = absurd (h refl)
not_header false h = refl

no_header : (b : Bool) → b ≡ false → b ≡ true → ⊥
no_header b e q = let r : true ≡ false = sym q ∙ e in absurd cc

ends_far : (next : State) (line column low : ℕ) (f : Fault) (section : Section) → is_header section ≡ false → finished next line column section ≡ Err f → IsFar low f
ends_far next line column low f section head e = by (ends_at next line column f section e)
  where
    by : (f ≡ record { number = 11; line = line; column = column }) ⊎ ((f ≡ first_position) × (is_header section ≡ true)) → IsFar low f
    by (inl q) = inr (inl (ap (λ (g : Fault). g.number) q))
    by (inr q) = absurd (no_header (is_header section) head q.1)

line_far : (st : State) (ws : List WordAt) (n low : ℕ) (f : Fault) (g : State → Result Outline Fault) → All (IsFrom n 0) ws → IsKept st.section → is_header st.section ≡ false → low ≤ n
    → (step st ws >>= g) ≡ Err f → ((next : State) → step st ws ≡ Ok next → g next ≡ Err f → IsFar low f) → IsFar low f
line_far st ws n low f g from kept head l e go = by (step st ws) refl e
  where
    told : Told (cut_of [] ws n 0 from (All-nil (IsFrom n 0))) 0 (step st []) (step st ws)
    told = line_told (cut_of [] ws n 0 from (All-nil (IsFrom n 0))) st kept (λ q x. no_header (is_header st.section) head q) (λ q x. no_header (is_header st.section) head q)

    by : (r : Result State Fault) → step st ws ≡ r → (r >>= g) ≡ Err f → IsFar low f
    by (Ok next) q d = go next q d
    by (Err x) q d = let same : x ≡ f = cc in out_far n 0 low f l ((told.late (omega arith)).of f (q ∙ ap (λ (y : Fault). Err y) same))

-- the state behind a line where no header is awaited
later_header : (st next : State) (ws : List WordAt) → is_header st.section ≡ false → step st ws ≡ Ok next → is_header next.section ≡ false
later_header st next ws head e = not_header (is_header next.section) (λ q. no_header (is_header st.section) head ((line_awaits st ws).is next e q).0)

-- the lines behind a line have their faults there
later : (bs : List ℕ) (s : Scanning) (words : List WordAt) (st : State) (f : Fault) (low : ℕ) → Begun s.line 0 s → All (IsFrom s.line 0) words → low ≤ s.line → IsKept st.section → is_header st.section ≡ false
    → read st (lines_from s words bs) ≡ Err f → IsFar low f
unfolding read finish
later [] s words st f low h from l kept head e =
    line_far st (words ++ closing s) s.line low f _ (All-append (IsFrom s.line 0) words (closing s) from (closing_from s.line 0 s s.stands h)) kept head l e
    (λ next q d. ends_far next s.line s.column low f next.section (later_header st next (words ++ closing s) head q) d)
later (b ∷ bs) s words st f low h from l kept head e = by (class_of b (slice_index bs 0)) (ends_line (class_of b (slice_index bs 0)))
    (λ next k q d. later bs (at_line (s.line + 1) (s.at + 1)) [] next f low (begun_line (s.line + 1) (s.at + 1)) (All-nil (IsFrom (s.line + 1) 0)) (omega arith) k q d)
    (λ c q g. later bs (after s b c) (words ++ gave s b c) st f low
    (subst (λ (n : ℕ). Begun n 0 (after s b c)) (sym q) (begun_after s.line 0 s b c h))
    (subst (λ (n : ℕ). All (IsFrom n 0) (words ++ gave s b c)) (sym q) (All-append (IsFrom s.line 0) words (gave s b c) from (gave_from s.line 0 s b s.stands c h)))
    (subst (λ (n : ℕ). low ≤ n) (sym q) l) kept head g)
    e
  where
    by : (c : Class) (t : Bool)
        → ((next : State) → IsKept next.section → is_header next.section ≡ false → read next (lines_from (at_line (s.line + 1) (s.at + 1)) [] bs) ≡ Err f → IsFar low f)
        → ((c : Class) → (after s b c).line ≡ s.line → read st (lines_from (after s b c) (words ++ gave s b c) bs) ≡ Err f → IsFar low f)
        → read st (if t then ended s words false ∷ lines_from (at_line (s.line + 1) (s.at + 1)) [] bs else lines_from (after s b c) (words ++ gave s b c) bs) ≡ Err f → IsFar low f
    by c true line on d = line_far st (words ++ closing s) s.line low f _ (All-append (IsFrom s.line 0) words (closing s) from (closing_from s.line 0 s s.stands h)) kept head l d
        (λ next q g. line next ((line_keeps st (words ++ closing s) kept).is next q) (later_header st next (words ++ closing s) head q) g)
    by c false line on d = on c (begun_after s.line 0 s b c h).line d

-- ---- the line in which the shorter text ends

over_front : (ws vs : List WordAt) → is_over (ws ++ vs) ≡ true → is_over ws ≡ true
over_front [] vs e = refl
over_front (w ∷ ws) vs e = e

told_line : (st : State) (ws vs : List WordAt) (n m : ℕ) (f : Fault) (g : State → Result Outline Fault) → All (IsFrom n m) vs → All (IsFrom n 0) ws → IsKept st.section
    → (is_header st.section ≡ true → is_over ws ≡ true → ⊥) → (is_header st.section ≡ true → is_lone ws ≡ true → ⊥) → IsIn n m f
    → (step st (ws ++ vs) >>= g) ≡ Err f → ((next : State) → step st (ws ++ vs) ≡ Ok next → g next ≡ Err f → ⊥) → step st ws ≡ Err f
told_line st ws vs n m f g from front kept over lone inside e go = by (step st (ws ++ vs)) refl e
  where
    told : Told (cut_of ws vs n m from front) 0 (step st ws) (step st (ws ++ vs))
    told = line_told (cut_of ws vs n m from front) st kept over lone

    found : (step st ws ≡ Err f) ⊎ IsOut n m f → step st ws ≡ Err f
    found (inl h) = h
    found (inr h) = absurd (out_in n m f inside h)

    by : (r : Result State Fault) → step st (ws ++ vs) ≡ r → (r >>= g) ≡ Err f → step st ws ≡ Err f
    by (Ok next) q d = absurd (go next q d)
    by (Err x) q d = let same : x ≡ f = cc in found (told.told f (q ∙ ap (λ (y : Fault). Err y) same))

-- the state behind a line that has a word in front
awaited : (st next : State) (ws vs : List WordAt) → (is_header st.section ≡ true → is_over ws ≡ true → ⊥) → step st (ws ++ vs) ≡ Ok next → is_header next.section ≡ false
awaited st next ws vs over e = not_header (is_header next.section) (λ t.
    let awaits = (line_awaits st (ws ++ vs)).is next e t in
    over awaits.0 (over_front ws vs awaits.1))

cut_line : (bs : List ℕ) (s : Scanning) (ws vs : List WordAt) (st : State) (n m : ℕ) (f : Fault) → Begun n m s → All (IsFrom n m) vs → All (IsFrom n 0) ws → IsKept st.section
    → (is_header st.section ≡ true → is_over ws ≡ true → ⊥) → (is_header st.section ≡ true → is_lone ws ≡ true → ⊥) → IsIn n m f
    → read st (lines_from s (ws ++ vs) bs) ≡ Err f → step st ws ≡ Err f
unfolding read finish
cut_line [] s ws vs st n m f h from front kept over lone inside e =
    told_line st ws (vs ++ closing s) n m f (λ next. finish next s.line s.column) (All-append (IsFrom n m) vs (closing s) from (closing_from n m s s.stands h)) front kept over lone inside
    (subst (λ (us : List WordAt). (step st us >>= λ next. finish next s.line s.column) ≡ Err f) (append_assoc ws vs (closing s)) e)
    (λ next q d. far_in n m (n + 1) f (omega arith) inside (ends_far next s.line s.column (n + 1) f next.section (awaited st next ws (vs ++ closing s) over q) d))
cut_line (b ∷ bs) s ws vs st n m f h from front kept over lone inside e = by (class_of b (slice_index bs 0)) (ends_line (class_of b (slice_index bs 0)))
    (λ c g. cut_line bs (after s b c) ws (vs ++ gave s b c) st n m f (begun_after n m s b c h) (All-append (IsFrom n m) vs (gave s b c) from (gave_from n m s b s.stands c h)) front kept over lone inside
    (subst (λ (us : List WordAt). read st (lines_from (after s b c) us bs) ≡ Err f) (append_assoc ws vs (gave s b c)) g))
    e
  where
    behind_line : (next : State) → step st (ws ++ (vs ++ closing s)) ≡ Ok next → read next (lines_from (at_line (s.line + 1) (s.at + 1)) [] bs) ≡ Err f → ⊥
    behind_line next q d =
        let same : s.line ≡ n = h.line in
        far_in n m (n + 1) f (omega arith) inside (later bs (at_line (s.line + 1) (s.at + 1)) [] next f (n + 1) (begun_line (s.line + 1) (s.at + 1)) (All-nil (IsFrom (s.line + 1) 0)) (omega arith)
        ((line_keeps st (ws ++ (vs ++ closing s)) kept).is next q) (awaited st next ws (vs ++ closing s) over q) d)

    by : (c : Class) (t : Bool) → ((c : Class) → read st (lines_from (after s b c) ((ws ++ vs) ++ gave s b c) bs) ≡ Err f → step st ws ≡ Err f)
        → read st (if t then ended s (ws ++ vs) false ∷ lines_from (at_line (s.line + 1) (s.at + 1)) [] bs else lines_from (after s b c) ((ws ++ vs) ++ gave s b c) bs) ≡ Err f → step st ws ≡ Err f
    by c true on d = told_line st ws (vs ++ closing s) n m f (λ next. read next (lines_from (at_line (s.line + 1) (s.at + 1)) [] bs)) (All-append (IsFrom n m) vs (closing s) from (closing_from n m s s.stands h)) front kept over lone inside
        (subst (λ (us : List WordAt). (step st us >>= λ next. read next (lines_from (at_line (s.line + 1) (s.at + 1)) [] bs)) ≡ Err f) (append_assoc ws vs (closing s)) d) behind_line
    by c false on d = on c d

-- ---- all lines

closed_none : (s : Scanning) → s.stands ≡ within.Nothing → closing s ≡ []
closed_none s e = ap (λ (w : Within). closed_by s w) e

same_line : (st : State) (l : LineAt) (ls ms : List LineAt) (f : Fault) → l.last ≡ false → read st (l ∷ ms) ≡ Err f → ((next : State) → step st l.words ≡ Ok next → read next ms ≡ Err f → read next ls ≡ Err f) → read st (l ∷ ls) ≡ Err f
unfolding read
same_line st l ls ms f more e go = subst (λ (b : Bool). (step st l.words >>= λ next. if b then finish next l.line l.column else read next ls) ≡ Err f) (sym more)
    (by (step st l.words) refl (subst (λ (b : Bool). (step st l.words >>= λ next. if b then finish next l.line l.column else read next ms) ≡ Err f) more e))
  where
    by : (r : Result State Fault) → step st l.words ≡ r → (r >>= λ next. if false then finish next l.line l.column else read next ms) ≡ Err f → (r >>= λ next. if false then finish next l.line l.column else read next ls) ≡ Err f
    by (Err x) q d = d
    by (Ok next) q d = go next q d

-- a place in the line, from its first column on
loose : (s : Scanning) → Begun s.line 0 s
loose s = record { line = refl; column = omega arith; first = omega arith; stray = λ k e. omega arith }

front_after : (s : Scanning) (b : ℕ) (c : Class) (ws : List WordAt) → All (IsFrom s.line 0) ws → All (IsFrom (after s b c).line 0) (ws ++ gave s b c)
front_after s b c ws h = subst (λ (n : ℕ). All (IsFrom n 0) (ws ++ gave s b c)) (sym (begun_after s.line 0 s b c (loose s)).line) (All-append (IsFrom s.line 0) ws (gave s b c) h (gave_from s.line 0 s b s.stands c (loose s)))

at_cut : (s : Scanning) (ws : List WordAt) (st : State) (f : Fault) (a : List ℕ) → All (IsFrom s.line 0) ws → Even s → s.stands ≡ within.Nothing → IsKept st.section
    → (is_header st.section ≡ true → lacks_header (ended s ws true ∷ []) ≡ true → ⊥) → IsIn s.line s.column f → read st (lines_from s ws a) ≡ Err f → read st (ended s ws true ∷ []) ≡ Err f
unfolding read
at_cut s ws st f a front even none kept head inside e =
    let all : ws ++ closing s ≡ ws = ap (λ (us : List WordAt). ws ++ us) (closed_none s none) ∙ append-nil ws in
    let next = even.next none in
    let first : s.first ≡ s.column = next.0 in
    let begins : Begun s.line s.column s = record { line = refl; column = omega arith; first = omega arith; stray = λ k q. absurd (let r : None ≡ Some k = sym next.1 ∙ q in cc) } in
    let found : step st ws ≡ Err f = cut_line a s ws [] st s.line s.column f begins (All-nil (IsFrom s.line s.column)) front kept
    (λ q o. head q (lacks_by ws (ended s ws true) all refl (inl o)))
    (λ q o. head q (lacks_by ws (ended s ws true) all refl (inr o)))
    inside (subst (λ (us : List WordAt). read st (lines_from s us a) ≡ Err f) (sym (append-nil ws)) e) in
    ap (λ (r : Result State Fault). r >>= λ next. finish next s.line s.column) (ap (λ (us : List WordAt). step st us) all ∙ found)

-- the same where the shorter text ends with a word
at_word_cut : (s : Scanning) (ws : List WordAt) (st : State) (f : Fault) (a : List ℕ) → All (IsFrom s.line 0) ws → s.stands ≡ within.Plain → begins_apart a ≡ true → IsKept st.section
    → (is_header st.section ≡ true → lacks_header (ended s ws true ∷ []) ≡ true → ⊥) → IsIn s.line s.column f → read st (lines_from s ws a) ≡ Err f → read st (ended s ws true ∷ []) ≡ Err f
unfolding read
at_word_cut s ws st f [] front plain apart kept head inside e = e
at_word_cut s ws st f (b ∷ bs) front plain apart kept head inside e =
    ap (λ (r : Result State Fault). r >>= λ next. finish next s.line s.column) (by (class_of b (slice_index bs 0)) apart e)
  where
    all : List WordAt
    all = ws ++ closing s

    over : is_header st.section ≡ true → is_over all ≡ true → ⊥
    over q o = head q (lacks_by all (ended s ws true) refl refl (inl o))

    lone : is_header st.section ≡ true → is_lone all ≡ true → ⊥
    lone q o = head q (lacks_by all (ended s ws true) refl refl (inr o))

    words : All (IsFrom s.line 0) all
    words = All-append (IsFrom s.line 0) ws (closing s) front (closing_from s.line 0 s s.stands (loose s))

    next_line : (next : State) → step st (all ++ []) ≡ Ok next → read next (lines_from (at_line (s.line + 1) (s.at + 1)) [] bs) ≡ Err f → ⊥
    next_line next q d = far_in s.line s.column (s.line + 1) f (omega arith) inside (later bs (at_line (s.line + 1) (s.at + 1)) [] next f (s.line + 1) (begun_line (s.line + 1) (s.at + 1)) (All-nil (IsFrom (s.line + 1) 0)) (omega arith)
        ((line_keeps st (all ++ []) kept).is next q) (awaited st next all [] over q) d)

    behind_blank : Begun s.line s.column (moved s b classes.Blank within.Nothing)
    behind_blank = record { line = refl; column = omega arith; first = omega arith; stray = λ k q. absurd cc }

    by : (c : Class) → ends_word c ≡ true → read st (if ends_line c then ended s ws false ∷ lines_from (at_line (s.line + 1) (s.at + 1)) [] bs else lines_from (after s b c) (ws ++ gave s b c) bs) ≡ Err f → step st all ≡ Err f
    by classes.LineEnd t d = told_line st all [] s.line s.column f (λ next. read next (lines_from (at_line (s.line + 1) (s.at + 1)) [] bs)) (All-nil (IsFrom s.line s.column)) words kept over lone inside
        (subst (λ (us : List WordAt). (step st us >>= λ next. read next (lines_from (at_line (s.line + 1) (s.at + 1)) [] bs)) ≡ Err f) (sym (append-nil all)) d) next_line
    by classes.Blank t d =
        let same : gave s b classes.Blank ≡ closing s = subst (λ (w : Within). gave_by s b w classes.Blank ≡ closed_by s w) (sym plain) refl in
        let goes_on : after s b classes.Blank ≡ moved s b classes.Blank within.Nothing = ap (λ (w : Within). moved s b classes.Blank (turn w classes.Blank s.bytes)) plain in
        let given : read st (lines_from (moved s b classes.Blank within.Nothing) (ws ++ gave s b classes.Blank) bs) ≡ Err f = subst (λ (z : Scanning). read st (lines_from z (ws ++ gave s b classes.Blank) bs) ≡ Err f) goes_on d in
        let whole : read st (lines_from (moved s b classes.Blank within.Nothing) all bs) ≡ Err f = subst (λ (us : List WordAt). read st (lines_from (moved s b classes.Blank within.Nothing) (ws ++ us) bs) ≡ Err f) same given in
        cut_line bs (moved s b classes.Blank within.Nothing) all [] st s.line s.column f behind_blank (All-nil (IsFrom s.line s.column)) words kept over lone inside
        (subst (λ (us : List WordAt). read st (lines_from (moved s b classes.Blank within.Nothing) us bs) ≡ Err f) (sym (append-nil all)) whole)
    by classes.Quote t d = absurd cc
    by classes.Semicolon t d = absurd cc
    by classes.Bad t d = absurd cc
    by classes.Other t d = absurd cc

-- no word and no comment is cut
abbrev Edge : Scanning → List ℕ → Type 0
Edge end a = (end.stands ≡ within.Nothing) ⊎ ((end.stands ≡ within.Plain) × (end.stray ≡ None) × (begins_apart a ≡ true))

whole_of : (s : Scanning) (a : List ℕ) → Edge s a → Whole s a
whole_of s a (inl e) = inl (closed_none s e)
whole_of s a (inr h) = inr h

at_edge : (s : Scanning) (ws : List WordAt) (st : State) (f : Fault) (a : List ℕ) → All (IsFrom s.line 0) ws → Even s → Edge s a → IsKept st.section
    → (is_header st.section ≡ true → lacks_header (ended s ws true ∷ []) ≡ true → ⊥) → IsIn s.line s.column f → read st (lines_from s ws a) ≡ Err f → read st (ended s ws true ∷ []) ≡ Err f
at_edge s ws st f a front even (inl none) kept head inside e = at_cut s ws st f a front even none kept head inside e
at_edge s ws st f a front even (inr h) kept head inside e = at_word_cut s ws st f a front h.0 h.2 kept head inside e

back : (p a : List ℕ) (s : Scanning) (ws : List WordAt) (st : State) (f : Fault) → All (IsFrom s.line 0) ws → Even s → Edge (behind s p) a → IsKept st.section
    → (is_header st.section ≡ true → lacks_header (lines_from s ws p) ≡ true → ⊥) → IsIn (behind s p).line (behind s p).column f
    → read st (lines_from s ws (p ++ a)) ≡ Err f → read st (lines_from s ws p) ≡ Err f
back [] a s ws st f front even none kept head inside e = at_edge s ws st f a front even none kept head inside e
back (b ∷ bs) a s ws st f front even none kept head inside e =
    by (class_of b (slice_index bs 0)) (ends_line (class_of b (slice_index bs 0)))
    (λ next. back bs a (at_line (s.line + 1) (s.at + 1)) [] next f (All-nil (IsFrom (s.line + 1) 0)) (even_line (s.line + 1) (s.at + 1)))
    (back bs a (after s b (class_of b (slice_index bs 0))) (ws ++ gave s b (class_of b (slice_index bs 0))) st f (front_after s b (class_of b (slice_index bs 0)) ws front) (even_moved s b (class_of b (slice_index bs 0)) (turn s.stands (class_of b (slice_index bs 0)) s.bytes)))
    none head inside
    (subst (λ (c : Class). read st (if ends_line c then ended s ws false ∷ lines_from (at_line (s.line + 1) (s.at + 1)) [] (bs ++ a) else lines_from (after s b c) (ws ++ gave s b c) (bs ++ a)) ≡ Err f)
    (next_class s b bs a (whole_of (behind s (b ∷ bs)) a none)) e)
  where
    by : (c : Class) (t : Bool)
        → ((next : State) → Edge (behind (at_line (s.line + 1) (s.at + 1)) bs) a → IsKept next.section
        → (is_header next.section ≡ true → lacks_header (lines_from (at_line (s.line + 1) (s.at + 1)) [] bs) ≡ true → ⊥)
        → IsIn (behind (at_line (s.line + 1) (s.at + 1)) bs).line (behind (at_line (s.line + 1) (s.at + 1)) bs).column f
        → read next (lines_from (at_line (s.line + 1) (s.at + 1)) [] (bs ++ a)) ≡ Err f → read next (lines_from (at_line (s.line + 1) (s.at + 1)) [] bs) ≡ Err f)
        → (Edge (behind (after s b c) bs) a → IsKept st.section
        → (is_header st.section ≡ true → lacks_header (lines_from (after s b c) (ws ++ gave s b c) bs) ≡ true → ⊥)
        → IsIn (behind (after s b c) bs).line (behind (after s b c) bs).column f
        → read st (lines_from (after s b c) (ws ++ gave s b c) (bs ++ a)) ≡ Err f → read st (lines_from (after s b c) (ws ++ gave s b c) bs) ≡ Err f)
        → Edge (if t then behind (at_line (s.line + 1) (s.at + 1)) bs else behind (after s b c) bs) a
        → (is_header st.section ≡ true → lacks_header (if t then ended s ws false ∷ lines_from (at_line (s.line + 1) (s.at + 1)) [] bs else lines_from (after s b c) (ws ++ gave s b c) bs) ≡ true → ⊥)
        → IsIn (if t then behind (at_line (s.line + 1) (s.at + 1)) bs else behind (after s b c) bs).line (if t then behind (at_line (s.line + 1) (s.at + 1)) bs else behind (after s b c) bs).column f
        → read st (if t then ended s ws false ∷ lines_from (at_line (s.line + 1) (s.at + 1)) [] (bs ++ a) else lines_from (after s b c) (ws ++ gave s b c) (bs ++ a)) ≡ Err f
        → read st (if t then ended s ws false ∷ lines_from (at_line (s.line + 1) (s.at + 1)) [] bs else lines_from (after s b c) (ws ++ gave s b c) bs) ≡ Err f
    by c true line on closed lacks place d = same_line st (ended s ws false) (lines_from (at_line (s.line + 1) (s.at + 1)) [] bs) (lines_from (at_line (s.line + 1) (s.at + 1)) [] (bs ++ a)) f refl d
        (λ next q g. line next closed ((line_keeps st (ws ++ closing s) kept).is next q)
        (λ t l. let awaits = (line_awaits st (ws ++ closing s)).is next q t in
        lacks awaits.0 (ap (λ (b : Bool). if b then lacks_header (lines_from (at_line (s.line + 1) (s.at + 1)) [] bs) else false) awaits.1 ∙ l))
        place g)
    by c false line on closed lacks place d = on closed kept lacks place d

pub outline_known : (tables : List Interface) (text rest : List ℕ) (f : Fault) → IsApart text rest → StandsIn text f → read (begun tables) (lines_of (text ++ rest)) ≡ Err f → read (begun tables) (lines_of text) ≡ Err f
unfolding lines_of
outline_known tables text rest f apart h e = back text rest (at_line 1 0) [] (begun tables) f (All-nil (IsFrom 1 0)) (even_line 1 0) (edge apart) tt
    (λ q l. let r : true ≡ false = sym l ∙ h.headed in absurd cc)
    (record { no_end = h.no_end; missing = h.missing; before = h.before }) e
  where
    edge : IsApart text rest → Edge (behind (at_line 1 0) text) rest
    edge (inl q) = inl q
    edge (inr q) = inr (q.plain, q.characters, q.apart)
