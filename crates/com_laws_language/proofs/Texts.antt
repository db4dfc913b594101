-- A text's lines: the header, and the lines of sections.
use Rattle.std.proofs.Common.{◌≡◌, ℕ, ◌+◌, inl, inr, ◌⊎◌, Bool, true, false, cond, not, List, [], ◌∷◌, ◌++◌, flat_map, Option, Some, None, Result, Ok, Err, refl, sym, ap, ◌∙◌, subst, arith, codes, bytes_eq, append_assoc, append-nil, slice_index}
use Rattle.com_classes.specs.BuiltIns.{built_in_interfaces}
use Rattle.com_text.specs.declared.word.Sort.{Sort}
use Rattle.com_text.specs.declared.word.Sort.TheVariants as sorts
use Rattle.com_text.specs.Words.{WordAt, LineAt, is_remark}
use Rattle.com_text.specs.Scanning.{Scanning, class_of, ends_line, after, gave, at_line, ended, lines_from, lines_of}
use Rattle.com_read_operands.specs.declared.faults.Fault.{Fault}
use Rattle.com_read_operands.specs.Reading.{fault_at, end_at}
use Rattle.com_read_lines.specs.Header.{version_of, compared, version_by, version_at, ended as version_ended}
use Rattle.com_read_sections.specs.declared.outline.Outline.{Outline}
use Rattle.com_read_sections.specs.declared.state.State.{State}
use Rattle.com_read_sections.specs.declared.state.Section.{Section as Open}
use Rattle.com_read_sections.specs.declared.state.Section.TheVariants as within
use Rattle.com_read_sections.specs.Header.{lone, header_line}
use Rattle.com_read_sections.specs.Opened.{by_section, step}
use Rattle.com_read_sections.specs.Outlines.{outlined, finished, finish, begun, read}
use Rattle.com_laws_language.specs.Sections.{Line, worded, with_words, Section, section_lines, interface}
use Rattle.com_laws_language.specs.Parts.{Part, of_interface}
use Rattle.com_laws_language.specs.Spelling.{IsHeader}
use Rattle.com_laws_language.proofs.Lists.{ok_same, bound, binds, never, same_bytes, bytes_same, flat_push}
use Rattle.com_laws_language.proofs.States.{from, state_at, with_interface}
use Rattle.com_laws_language.proofs.Standing.{Whole, Standing, at_top, at_interface, at_class, at_body, at_filter, at_thread, more_interfaces, whole_push}
use Rattle.com_laws_language.proofs.Up.{line_up}
use Rattle.com_laws_language.proofs.Takes.{steps}

-- ---- the last line is the only one that says so

abbrev pub IsEnded : List LineAt → Type 0
IsEnded [] = ⊥
IsEnded (l ∷ ls) = ((l.last ≡ true) × (ls ≡ [])) ⊎ ((l.last ≡ false) × IsEnded ls)

lines_ended : (s : Scanning) (ws : List WordAt) (bs : List ℕ) → IsEnded (lines_from s ws bs)
lines_ended s ws [] = inl (refl, refl)
lines_ended s ws (b ∷ bs) = by (ends_line (class_of b (slice_index bs 0))) (lines_ended (at_line (s.line + 1) (s.at + 1)) [] bs) (lines_ended (after s b (class_of b (slice_index bs 0))) (ws ++ gave s b (class_of b (slice_index bs 0))) bs)
  where
    by : (t : Bool) → IsEnded (lines_from (at_line (s.line + 1) (s.at + 1)) [] bs) → IsEnded (lines_from (after s b (class_of b (slice_index bs 0))) (ws ++ gave s b (class_of b (slice_index bs 0))) bs)
        → IsEnded (cond t (ended s ws false ∷ lines_from (at_line (s.line + 1) (s.at + 1)) [] bs) (lines_from (after s b (class_of b (slice_index bs 0))) (ws ++ gave s b (class_of b (slice_index bs 0))) bs))
    by true h k = inr (refl, h)
    by false h k = k

pub text_ended : (text : List ℕ) → IsEnded (lines_of text)
unfolding lines_of
text_ended text = lines_ended (at_line 1 0) [] text

-- ---- lines without words are passed over

passes : (st mid : State) (line : Line) (more : List Line) (r : Result State Fault) → step st line ≡ Ok mid → steps mid more ≡ r → steps st (worded line more) ≡ r
unfolding step
passes st mid [] more r e f = subst (λ (s : State). steps s more ≡ r) (sym (ok_same st mid e)) f
passes st mid (w ∷ ws) more r e f = binds (step st (w ∷ ws)) _ mid r e f

passed : (st next : State) (line : Line) (more : List Line) → steps st (worded line more) ≡ Ok next → (mid : State) × (step st line ≡ Ok mid) × (steps mid more ≡ Ok next)
unfolding step
passed st next [] more e = (st, refl, e)
passed st next (w ∷ ws) more e = bound (step st (w ∷ ws)) _ next e

pub read_steps : (st : State) (ls : List LineAt) (o : Outline) → IsEnded ls → read st ls ≡ Ok o → (next : State) × (line : ℕ) × (column : ℕ) × (steps st (with_words ls) ≡ Ok next) × (finish next line column ≡ Ok o)
unfolding read
read_steps st [] o h e = absurd h
read_steps st (l ∷ ls) o (inl h) e =
    let a = bound (step st l.words) _ o e in
    let f : finish a.0 l.line l.column ≡ Ok o = subst (λ (b : Bool). cond b (finish a.0 l.line l.column) (read a.0 ls) ≡ Ok o) h.0 a.2 in
    (a.0, l.line, l.column, passes st a.0 l.words (with_words ls) _ a.1 (ap (λ (k : List LineAt). steps a.0 (with_words k)) h.1), f)
read_steps st (l ∷ ls) o (inr h) e =
    let a = bound (step st l.words) _ o e in
    let f : read a.0 ls ≡ Ok o = subst (λ (b : Bool). cond b (finish a.0 l.line l.column) (read a.0 ls) ≡ Ok o) h.0 a.2 in
    let b = read_steps a.0 ls o h.1 f in
    (b.0, b.1, b.2, passes st a.0 l.words (with_words ls) _ a.1 b.3, b.4)

pub steps_read : (st next : State) (ls : List LineAt) (o : Outline) → IsEnded ls → steps st (with_words ls) ≡ Ok next → ((line column : ℕ) → finish next line column ≡ Ok o) → read st ls ≡ Ok o
unfolding read
steps_read st next [] o h e f = absurd h
steps_read st next (l ∷ ls) o (inl h) e f =
    let a = passed st next l.words (with_words ls) e in
    let same : a.0 ≡ next = ok_same a.0 next (sym (ap (λ (k : List LineAt). steps a.0 (with_words k)) h.1) ∙ a.2) in
    binds (step st l.words) _ a.0 _ a.1 (ap (λ (b : Bool). cond b (finish a.0 l.line l.column) (read a.0 ls)) h.0 ∙ ap (λ (s : State). finish s l.line l.column) same ∙ f l.line l.column)
steps_read st next (l ∷ ls) o (inr h) e f =
    let a = passed st next l.words (with_words ls) e in
    binds (step st l.words) _ a.0 _ a.1 (ap (λ (b : Bool). cond b (finish a.0 l.line l.column) (read a.0 ls)) h.0 ∙ steps_read a.0 next ls o h.1 a.2 f)

-- ---- the header

no_comment : (line : Line) (one two : WordAt) (s : Sort) → is_remark s ≡ false → version_by None line one two s ≡ compared line one two None
no_comment line one two (sorts.Remark c) h = absurd cc
no_comment line one two sorts.Plain h = refl
no_comment line one two sorts.Text h = refl
no_comment line one two sorts.Bytes h = refl
no_comment line one two sorts.Unclosed h = refl
no_comment line one two (sorts.Stray c) h = refl

head_words : (v : ℕ) (one two : WordAt) (more : Line) → one.bytes ≡ codes "scenario" → version_of two.bytes ≡ Some v → is_remark two.sort ≡ false → end_at (one ∷ two ∷ more) 2 ≡ Ok tt
    → step (begun built_in_interfaces) (one ∷ two ∷ more) ≡ Ok (state_at v [])
unfolding step header_line version_at from
head_words v one two more scenario number plain ends =
    binds (version_by None (one ∷ two ∷ more) one two two.sort) _ v _
    (no_comment (one ∷ two ∷ more) one two two.sort plain
    ∙ ap (λ (b : Bool). cond (not b) (Err (fault_at 1 one)) (version_ended (one ∷ two ∷ more) two (version_of two.bytes))) (bytes_same one.bytes (codes "scenario") scenario)
    ∙ ap (version_ended (one ∷ two ∷ more) two) number ∙ binds (end_at (one ∷ two ∷ more) 2) _ tt _ ends refl) refl

pub head_down : (v : ℕ) (line : Line) → IsHeader line v → step (begun built_in_interfaces) line ≡ Ok (state_at v [])
head_down v line h = ap (λ (l : Line). step (begun built_in_interfaces) l) h.words
    ∙ head_words v h.one h.two h.more h.scenario h.number h.no_comment (subst (λ (l : Line). end_at l 2 ≡ Ok tt) h.words h.no_more)

-- a comment that is at fault above the header stays so
doomed_line : (st next : State) (f : Fault) (w : WordAt) (ws : Line) → header_line st (Some f) (w ∷ ws) ≡ Ok next → (g : Fault) × (next.section ≡ within.Header (Some g))
unfolding header_line version_at
doomed_line st next f w [] e = by w.sort e
  where
    by : (s : Sort) → lone st (Some f) w s ≡ Ok next → (g : Fault) × (next.section ≡ within.Header (Some g))
    by (sorts.Remark c) e = (f, sym (ap (λ (x : State). x.section) (ok_same _ next e)))
    by sorts.Plain e = never _ _ _ e
    by sorts.Text e = never _ _ _ e
    by sorts.Bytes e = never _ _ _ e
    by sorts.Unclosed e = never _ _ _ e
    by (sorts.Stray c) e = never _ _ _ e
doomed_line st next f w (v ∷ vs) e = by v.sort (bound (version_by (Some f) (w ∷ v ∷ vs) w v v.sort) _ next e)
  where
    by : (s : Sort) → (n : ℕ) × (version_by (Some f) (w ∷ v ∷ vs) w v s ≡ Ok n) × (◌≡◌ {A = Result State Fault} (Ok (record st { version = n; section = within.Top })) (Ok next)) → (g : Fault) × (next.section ≡ within.Header (Some g))
    by (sorts.Remark c) p = never _ _ _ p.1
    by sorts.Plain p = never _ _ _ p.1
    by sorts.Text p = never _ _ _ p.1
    by sorts.Bytes p = never _ _ _ p.1
    by sorts.Unclosed p = never _ _ _ p.1
    by (sorts.Stray c) p = never _ _ _ p.1

doomed_step : (st next : State) (f : Fault) (w : WordAt) (ws : Line) → st.section ≡ within.Header (Some f) → step st (w ∷ ws) ≡ Ok next → (g : Fault) × (next.section ≡ within.Header (Some g))
unfolding step
doomed_step st next f w ws h e = doomed_line st next f w ws (sym (ap (λ (x : Open). by_section st (w ∷ ws) x) h) ∙ e)

doomed : (ls : List LineAt) (st next : State) (f : Fault) → st.section ≡ within.Header (Some f) → steps st (with_words ls) ≡ Ok next → (g : Fault) × (next.section ≡ within.Header (Some g))
doomed [] st next f h e = (f, sym (ap (λ (x : State). x.section) (ok_same st next e)) ∙ h)
doomed (l ∷ ls) st next f h e = by l.words e (λ s g i k. doomed ls s next g i k)
  where
    by : (ws : Line) → steps st (worded ws (with_words ls)) ≡ Ok next → ((s : State) (g : Fault) → s.section ≡ within.Header (Some g) → steps s (with_words ls) ≡ Ok next → (g : Fault) × (next.section ≡ within.Header (Some g)))
        → (g : Fault) × (next.section ≡ within.Header (Some g))
    by [] e more = more st f h e
    by (w ∷ ws) e more =
        let a = bound (step st (w ∷ ws)) _ next e in
        let d = doomed_step st a.0 f w ws h a.1 in
        more a.0 d.0 d.1 a.2

-- ---- lines with words, from the first on

pub lines_up : (v : ℕ) (ls : List LineAt) (lines : List Line) (st next : State) → Standing v lines st → steps st (with_words ls) ≡ Ok next → Standing v (lines ++ with_words ls) next
lines_up v [] lines st next s e = subst (λ (x : State). Standing v (lines ++ []) x) (ok_same st next e) (subst (λ (k : List Line). Standing v k st) (sym (append-nil lines)) s)
lines_up v (l ∷ ls) lines st next s e = by l.words e (λ k t. lines_up v ls k t next)
  where
    by : (ws : Line) → steps st (worded ws (with_words ls)) ≡ Ok next → ((k : List Line) (t : State) → Standing v k t → steps t (with_words ls) ≡ Ok next → Standing v (k ++ with_words ls) next) → Standing v (lines ++ worded ws (with_words ls)) next
    by [] e more = more lines st s e
    by (w ∷ ws) e more =
        let a = bound (step st (w ∷ ws)) _ next e in
        subst (λ (k : List Line). Standing v k next) (append_assoc lines ((w ∷ ws) ∷ []) (with_words ls)) (more (lines ++ (w ∷ ws) ∷ []) a.0 (line_up v lines st a.0 w ws s a.1) a.2)

-- the header, and what stands at the end of the lines behind it
pub record IsHeaded (lines : List Line) (next : State) : Type 0 where
  pub version : ℕ
  pub header : Line
  pub rest : List Line
  pub lines_are : lines ≡ header ∷ rest
  pub headed : IsHeader header version
  pub stands : Standing version rest next

empty_top : (v : ℕ) → Standing v [] (state_at v [])
empty_top v = at_top (record { sections = []; parts = []; read = refl; whole = record { order = tt; limits = record { pools = omega arith; interfaces = omega arith; classes = omega arith; filters = omega arith; threads = omega arith } }; is = refl })

no_end : (next : State) (line column : ℕ) (pending : Option Fault) (o : Outline) (P : Type 0) → next.section ≡ within.Header pending → finish next line column ≡ Ok o → P
unfolding finish
no_end next line column pending o P h e = never P _ o (sym (ap (λ (x : Open). finished next line column x) h) ∙ e)

compared_found : (v : ℕ) (one two : WordAt) (more : Line) → compared (one ∷ two ∷ more) one two None ≡ Ok v → (one.bytes ≡ codes "scenario") × (version_of two.bytes ≡ Some v) × (end_at (one ∷ two ∷ more) 2 ≡ Ok tt)
compared_found v one two more e = by (bytes_eq one.bytes (codes "scenario")) refl e
  where
    versioned : (o : Option ℕ) → version_of two.bytes ≡ o → version_ended (one ∷ two ∷ more) two o ≡ Ok v → (version_of two.bytes ≡ Some v) × (end_at (one ∷ two ∷ more) 2 ≡ Ok tt)
    versioned None h e = never _ _ _ e
    versioned (Some n) h e = let a = bound (end_at (one ∷ two ∷ more) 2) _ v e in (h ∙ ap Some (ok_same n v a.2), a.1)

    by : (b : Bool) → bytes_eq one.bytes (codes "scenario") ≡ b → cond (not b) (Err (fault_at 1 one)) (version_ended (one ∷ two ∷ more) two (version_of two.bytes)) ≡ Ok v
        → (one.bytes ≡ codes "scenario") × (version_of two.bytes ≡ Some v) × (end_at (one ∷ two ∷ more) 2 ≡ Ok tt)
    by true h e = let q = versioned (version_of two.bytes) refl e in (same_bytes one.bytes (codes "scenario") h, q.0, q.1)
    by false h e = never _ _ _ e

version_found : (v : ℕ) (one two : WordAt) (more : Line) (s : Sort) → two.sort ≡ s → version_by None (one ∷ two ∷ more) one two s ≡ Ok v → IsHeader (one ∷ two ∷ more) v
version_found v one two more (sorts.Remark c) h e = never _ _ _ e
version_found v one two more sorts.Plain h e = let q = compared_found v one two more e in record { one = one; two = two; more = more; words = refl; scenario = q.0; number = q.1; no_comment = ap is_remark h; no_more = q.2 }
version_found v one two more sorts.Text h e = let q = compared_found v one two more e in record { one = one; two = two; more = more; words = refl; scenario = q.0; number = q.1; no_comment = ap is_remark h; no_more = q.2 }
version_found v one two more sorts.Bytes h e = let q = compared_found v one two more e in record { one = one; two = two; more = more; words = refl; scenario = q.0; number = q.1; no_comment = ap is_remark h; no_more = q.2 }
version_found v one two more sorts.Unclosed h e = let q = compared_found v one two more e in record { one = one; two = two; more = more; words = refl; scenario = q.0; number = q.1; no_comment = ap is_remark h; no_more = q.2 }
version_found v one two more (sorts.Stray c) h e = let q = compared_found v one two more e in record { one = one; two = two; more = more; words = refl; scenario = q.0; number = q.1; no_comment = ap is_remark h; no_more = q.2 }

head_line_up : (w : WordAt) (ws : Line) (ls : List LineAt) (next : State) (o : Outline) (line column : ℕ) → finish next line column ≡ Ok o → (mid : State) → header_line (begun built_in_interfaces) None (w ∷ ws) ≡ Ok mid → steps mid (with_words ls) ≡ Ok next
    → IsHeaded ((w ∷ ws) ∷ with_words ls) next
unfolding header_line version_at from
head_line_up w [] ls next o line column f mid e g = by w.sort e
  where
    by : (s : Sort) → lone (begun built_in_interfaces) None w s ≡ Ok mid → IsHeaded ((w ∷ []) ∷ with_words ls) next
    by (sorts.Remark c) e = let d = doomed ls mid next _ (sym (ap (λ (x : State). x.section) (ok_same _ mid e))) g in no_end next line column (Some d.0) o _ d.1 f
    by sorts.Plain e = never _ _ _ e
    by sorts.Text e = never _ _ _ e
    by sorts.Bytes e = never _ _ _ e
    by sorts.Unclosed e = never _ _ _ e
    by (sorts.Stray c) e = never _ _ _ e
head_line_up w (two ∷ ws) ls next o line column f mid e g =
    let a = bound (version_by None (w ∷ two ∷ ws) w two two.sort) _ mid e in
    let same : state_at a.0 [] ≡ mid = ok_same _ mid a.2 in
    record {
      version = a.0;
      header = w ∷ two ∷ ws;
      rest = with_words ls;
      lines_are = refl;
      headed = version_found a.0 w two ws two.sort refl a.1;
      stands = lines_up a.0 ls [] (state_at a.0 []) next (empty_top a.0) (subst (λ (s : State). steps s (with_words ls) ≡ Ok next) (sym same) g);
    }

head_step : (w : WordAt) (ws : Line) (ls : List LineAt) (next : State) (o : Outline) (line column : ℕ) → finish next line column ≡ Ok o → steps (begun built_in_interfaces) ((w ∷ ws) ∷ with_words ls) ≡ Ok next → IsHeaded ((w ∷ ws) ∷ with_words ls) next
unfolding step
head_step w ws ls next o line column f e = let a = bound (step (begun built_in_interfaces) (w ∷ ws)) _ next e in head_line_up w ws ls next o line column f a.0 a.1 a.2

pub head_up : (ls : List LineAt) (next : State) (o : Outline) (line column : ℕ) → finish next line column ≡ Ok o → steps (begun built_in_interfaces) (with_words ls) ≡ Ok next → IsHeaded (with_words ls) next
head_up [] next o line column f e = no_end next line column None o _ (sym (ap (λ (x : State). x.section) (ok_same (begun built_in_interfaces) next e))) f
head_up (l ∷ ls) next o line column f e = by l.words e (λ k. head_up ls next o line column f k)
  where
    by : (ws : Line) → steps (begun built_in_interfaces) (worded ws (with_words ls)) ≡ Ok next → (steps (begun built_in_interfaces) (with_words ls) ≡ Ok next → IsHeaded (with_words ls) next) → IsHeaded (worded ws (with_words ls)) next
    by [] e more = more e
    by (w ∷ ws) e more = head_step w ws ls next o line column f e

-- ---- the text's end

pub record IsRead (v : ℕ) (lines : List Line) (o : Outline) : Type 0 where
  pub sections : List Section
  pub parts : List Part
  pub read : lines ≡ flat_map section_lines sections
  pub whole : Whole sections parts
  pub is : o ≡ outlined (state_at v parts)

ended_open : (st end : State) (line column : ℕ) (o : Outline) (P : Type 0) → st ≡ end → ◌≡◌ {A = Result Outline Fault} (finish end line column) (Err (record { number = 11; line = line; column = column })) → finish st line column ≡ Ok o → P
ended_open st end line column o P s x e = never P _ o (sym (ap (λ (t : State). finish t line column) s ∙ x) ∙ e)

pub end_up : (v : ℕ) (lines : List Line) (next : State) (line column : ℕ) (o : Outline) → Standing v lines next → finish next line column ≡ Ok o → IsRead v lines o
unfolding finish from
end_up v lines next line column o (at_top t) e = record {
  sections = t.sections;
  parts = t.parts;
  read = t.read;
  whole = t.whole;
  is = ok_same o (outlined (state_at v t.parts)) (sym e ∙ ap (λ (s : State). finish s line column) t.is);
}
end_up v lines next line column o (at_interface t) e =
    let section = interface t.head t.more in
    record {
      sections = t.sections ++ section ∷ [];
      parts = t.parts ++ of_interface t.i ∷ [];
      read = t.read ∙ sym (flat_push section_lines t.sections section);
      whole = whole_push t.sections t.parts section (of_interface t.i) t.whole t.declares (more_interfaces t.parts t.whole.limits t.i t.room);
      is = ok_same o (outlined (state_at v (t.parts ++ of_interface t.i ∷ []))) (sym e ∙ ap (λ (s : State). finish s line column) t.is ∙ ap (λ (s : State). Ok (outlined s)) (sym (with_interface v t.parts t.i)));
    }
end_up v lines next line column o (at_class t) e = ended_open next _ line column o _ t.is refl e
end_up v lines next line column o (at_body t) e = ended_open next _ line column o _ t.is refl e
end_up v lines next line column o (at_filter t) e = ended_open next _ line column o _ t.is refl e
end_up v lines next line column o (at_thread t) e = ended_open next _ line column o _ t.is refl e
