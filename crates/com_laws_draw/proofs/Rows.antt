-- The rows of entries, one after another.
use Rattle.std.proofs.Common.{◌≡◌, ℕ, zero, suc, List, [], ◌∷◌, ◌++◌, ◌+◌, ◌-◌, ◌<◌, ◌≤◌, length, Bool, true, false, ◌==◌, take, reverse, add-one}
use Rattle.std.proofs.Common.{refl, ap, sym, ◌∙◌, arith, append-nil, append_assoc, if◌then◌else◌, nat_le, min}
use Rattle.std.specs.Prelude.{map}
use Rattle.std.proofs.lemmas.Bool.{eq-eqb, eqb-false, eqb-true, false_from_ne_true, le-leb, leb-false, leb-true, ne_eqb}
use Rattle.std.proofs.lemmas.List.{length-append, length-reverse, map-append, reverse-append, take-append-le}
use Rattle.com_model.specs.declared.deeds.Entry.{Entry}
use Rattle.com_model.specs.declared.scenario.Scenario.{Scenario}
use Rattle.com_model.specs.Lists.{one_to}
use Rattle.com_draw_state.specs.Board.{State}
use Rattle.com_draw_words.specs.Rows.{entry_front_text, row_middle_text}
use Rattle.com_draw_labels.specs.Looks.{call_of, mark_of}
use Rattle.com_draw_stories.specs.Calls.{story}
use Rattle.com_draw_shapes.specs.Places.{row_at}
use Rattle.com_draw_shapes.specs.Sections.{back_of_section, row_begins}
use Rattle.com_draw.specs.declared.beside.Beside.{Beside}
use Rattle.com_draw.specs.Ends.{end_text, footer_text, gap_row, last_back, last_rows, rows_of}
use Rattle.com_draw.specs.Entries.{drawn, entry_at, entry_drawing, entry_front, entry_lead, entry_row, entry_text, seen, title_of}
use Rattle.com_draw.specs.Fronts.{front}
use Rattle.com_draw.specs.Pages.{page, written}
use Rattle.com_draw.specs.Pictures.{Picture}
use Rattle.com_draw.specs.Reasons.{all_labelled, cycle_in, reason_rows, waits_in}
use Rattle.com_draw.proofs.Counted.{drawn_entries}
use Rattle.com_laws_draw.specs.Rows.{HasEntries, IsCounted, Row, count_line, end_of_rows, row_text, rows, rows_text, rows_within}

-- ---- numbers

-- the row of an entry, where it has one
abbrev one_row : Scenario → Entry → List Entry → Bool → List Row
one_row s e h t = if t then record { number = length h + 1; entry = e; before = drawn s h } ∷ [] else []

one_number : (k : ℕ) (s : Scenario) (e : Entry) (h : List Entry) (t : Bool) → nat_le (length h + 1) k ≡ t
    → one_to (min (length h) k) ++ map (λ (r : Row). r.number) (one_row s e h t) ≡ one_to (min (suc (length h)) k)
one_number k s e h true test =
    let here : length h + 1 ≤ k = leb-true (length h + 1) k test in
    let old : min (length h) k ≡ length h = omega (arith, here) in
    let new : min (suc (length h)) k ≡ suc (length h) = omega (arith, here) in
    ap (λ (n : ℕ). one_to n ++ (length h + 1) ∷ []) old
    ∙ ap (λ (n : ℕ). one_to (length h) ++ n ∷ []) (add-one (length h))
    ∙ sym (ap (λ (n : ℕ). one_to n) new)
one_number k s e h false test =
    let here : k < length h + 1 = leb-false (length h + 1) k test in
    let same : min (length h) k ≡ min (suc (length h)) k = omega (arith, here) in
    append-nil (one_to (min (length h) k)) ∙ ap (λ (n : ℕ). one_to n) same

pub numbers : (k : ℕ) (s : Scenario) (h : List Entry)
    → map (λ (r : Row). r.number) (rows_within k s h) ≡ one_to (min (length h) k)
numbers k s [] = let none : 0 ≡ min 0 k = omega arith in ap (λ (n : ℕ). one_to n) none
numbers k s (e ∷ h) =
    map-append (λ (r : Row). r.number) (rows_within k s h) (one_row s e h (nat_le (length h + 1) k))
    ∙ ap (λ (ns : List ℕ). ns ++ map (λ (r : Row). r.number) (one_row s e h (nat_le (length h + 1) k))) (numbers k s h)
    ∙ one_number k s e h (nat_le (length h + 1) k) refl

-- ---- entries

take_all : (X : Type 0) (k : ℕ) (xs : List X) → length xs ≤ k → take k xs ≡ xs
take_all X zero [] h = refl
take_all X (suc k) [] h = refl
take_all X zero (x ∷ xs) h = absurd (omega (arith, h))
take_all X (suc k) (x ∷ xs) h = ap (λ (r : List X). x ∷ r) (take_all X k xs (omega (arith, h)))

one_entry : (k : ℕ) (s : Scenario) (e : Entry) (h : List Entry) (t : Bool) → nat_le (length h + 1) k ≡ t
    → take k (reverse h) ++ map (λ (r : Row). r.entry) (one_row s e h t) ≡ take k (reverse h ++ e ∷ [])
one_entry k s e h true test =
    let here : length h + 1 ≤ k = leb-true (length h + 1) k test in
    let long : length (reverse h) ≡ length h = length-reverse h in
    let more : length (reverse h ++ e ∷ []) ≡ length (reverse h) + 1 = length-append (reverse h) (e ∷ []) in
    ap (λ (es : List Entry). es ++ e ∷ []) (take_all Entry k (reverse h) (omega (arith, here, long)))
    ∙ sym (take_all Entry k (reverse h ++ e ∷ []) (omega (arith, here, long, more)))
one_entry k s e h false test =
    let here : k < length h + 1 = leb-false (length h + 1) k test in
    let long : length (reverse h) ≡ length h = length-reverse h in
    append-nil (take k (reverse h)) ∙ sym (take-append-le k (reverse h) (e ∷ []) (omega (arith, here, long)))

pub entries : (k : ℕ) (s : Scenario) (h : List Entry)
    → map (λ (r : Row). r.entry) (rows_within k s h) ≡ take k (reverse h)
entries zero s [] = refl
entries (suc k) s [] = refl
entries k s (e ∷ h) =
    map-append (λ (r : Row). r.entry) (rows_within k s h) (one_row s e h (nat_le (length h + 1) k))
    ∙ ap (λ (es : List Entry). es ++ map (λ (r : Row). r.entry) (one_row s e h (nat_le (length h + 1) k))) (entries k s h)
    ∙ one_entry k s e h (nat_le (length h + 1) k) refl
    ∙ sym (ap (λ (es : List Entry). take k es) (reverse-append (e ∷ []) h))

-- ---- bytes

texts_append : (s : Scenario) (rs qs : List Row) → rows_text s (rs ++ qs) ≡ rows_text s rs ++ rows_text s qs
texts_append s [] qs = refl
texts_append s (r ∷ rs) qs =
    ap (λ (t : List ℕ). row_text s r ++ t) (texts_append s rs qs) ∙ sym (append_assoc (row_text s r) (rows_text s rs) (rows_text s qs))

-- what is read of a row, from its four parts
four : (a b c d f : List ℕ) → (a ++ ((b ++ c) ++ d)) ++ f ≡ a ++ (b ++ (c ++ (d ++ f)))
four a b c d f =
    append_assoc a ((b ++ c) ++ d) f
    ∙ ap (λ (t : List ℕ). a ++ t) (append_assoc (b ++ c) d f ∙ append_assoc b c (d ++ f))

row_is : (s : Scenario) (n : ℕ) (p : Picture) (e : Entry)
    → entry_row s n p.board (seen p.board e) e ≡ row_text s (record { number = n; entry = e; before = p })
unfolding entry_row entry_lead entry_front
row_is s n p e =
    four (row_begins n p.board)
    (entry_front_text n (call_of e.deed) (mark_of e.deed) (title_of s.version n e))
    (story s (seen p.board e).context e) row_middle_text (entry_drawing s n p.board (seen p.board e) e)

entry_text_is : (s : Scenario) (p : Picture) (e : Entry) → entry_text s p e ≡ entry_at s (p.entries + 1) p.board (seen p.board e) e
unfolding entry_text
entry_text_is s p e = refl

no_end : (k : ℕ) (s : Scenario) (h : List Entry) → length h ≤ k → end_of_rows k s h ≡ []
no_end k s [] h = refl
no_end k s (e ∷ es) h =
    ap (λ (t : Bool). if t then back_of_section (row_at k) [] (drawn s es).board else end_of_rows k s es)
    (ne_eqb (length es) k (λ q. absurd (omega (arith, h, q))))
    ∙ no_end k s es (omega (arith, h))

-- what stands in the page of an entry, by its place
place_row : (s : Scenario) (n : ℕ) (p : Picture) (e : Entry) → n ≤ 5000
    → entry_at s n p.board (seen p.board e) e ≡ row_text s (record { number = n; entry = e; before = p })
place_row s n p e h =
    ap (λ (t : Bool). if t then entry_row s n p.board (seen p.board e) e
    else if n == 5001 then back_of_section (row_at 5000) [] p.board else []) (le-leb n 5000 h)
    ∙ row_is s n p e

far_test : (n : ℕ) → 5000 < n → nat_le n 5000 ≡ false
far_test n h = false_from_ne_true (nat_le n 5000) (λ t. let k : n ≤ 5000 = leb-true n 5000 t in absurd (omega (arith, h, k)))

place_end : (s : Scenario) (n : ℕ) (p : Picture) (e : Entry) → 5000 < n
    → entry_at s n p.board (seen p.board e) e ≡ (if n == 5001 then back_of_section (row_at 5000) [] p.board else [])
place_end s n p e h =
    ap (λ (t : Bool). if t then entry_row s n p.board (seen p.board e) e
    else if n == 5001 then back_of_section (row_at 5000) [] p.board else []) (far_test n h)

grown : (f a b z : List ℕ) → z ≡ [] → (f ++ (a ++ z)) ++ b ≡ f ++ ((a ++ b) ++ [])
grown f a b z e =
    ap (λ (t : List ℕ). (f ++ t) ++ b) (ap (λ (t : List ℕ). a ++ t) e ∙ append-nil a)
    ∙ append_assoc f a b ∙ ap (λ (t : List ℕ). f ++ t) (sym (append-nil (a ++ b)))

bytes_near : (s : Scenario) (e : Entry) (h : List Entry) → length h + 1 ≤ 5000
    → written s h ≡ front s ++ (rows_text s (rows_within 5000 s h) ++ end_of_rows 5000 s h)
    → written s h ++ entry_at s (length h + 1) (drawn s h).board (seen (drawn s h).board e) e
    ≡ front s ++ (rows_text s (rows_within 5000 s h ++ record { number = length h + 1; entry = e; before = drawn s h } ∷ []) ++ [])
bytes_near s e h near was =
    ap (λ (t : List ℕ). written s h ++ t) (place_row s (length h + 1) (drawn s h) e near)
    ∙ ap (λ (t : List ℕ). t ++ row_text s (record { number = length h + 1; entry = e; before = drawn s h })) was
    ∙ grown (front s) (rows_text s (rows_within 5000 s h)) (row_text s (record { number = length h + 1; entry = e; before = drawn s h }))
    (end_of_rows 5000 s h) (no_end 5000 s h (omega (arith, near)))
    ∙ ap (λ (t : List ℕ). front s ++ ((rows_text s (rows_within 5000 s h) ++ t) ++ []))
    (sym (append-nil (row_text s (record { number = length h + 1; entry = e; before = drawn s h }))))
    ∙ ap (λ (t : List ℕ). front s ++ (t ++ []))
    (sym (texts_append s (rows_within 5000 s h) (record { number = length h + 1; entry = e; before = drawn s h } ∷ [])))

no_row : (s : Scenario) (h : List Entry) (z : List ℕ)
    → front s ++ (rows_text s (rows_within 5000 s h) ++ z) ≡ front s ++ (rows_text s (rows_within 5000 s h ++ []) ++ z)
no_row s h z = ap (λ (rs : List Row). front s ++ (rows_text s rs ++ z)) (sym (append-nil (rows_within 5000 s h)))

bytes_far : (s : Scenario) (e : Entry) (h : List Entry) (t : Bool) → (length h == 5000) ≡ t → 5000 < length h + 1
    → written s h ≡ front s ++ (rows_text s (rows_within 5000 s h) ++ end_of_rows 5000 s h)
    → written s h ++ entry_at s (length h + 1) (drawn s h).board (seen (drawn s h).board e) e
    ≡ front s ++ (rows_text s (rows_within 5000 s h ++ []) ++ (if t then back_of_section (row_at 5000) [] (drawn s h).board else end_of_rows 5000 s h))
bytes_far s e h true test far was =
    let all : length h ≡ 5000 = eqb-true (length h) 5000 test in
    ap (λ (t : List ℕ). written s h ++ t) (place_end s (length h + 1) (drawn s h) e far
    ∙ ap (λ (t : Bool). if t then back_of_section (row_at 5000) [] (drawn s h).board else []) (eq-eqb (length h + 1) 5001 (omega (arith, all))))
    ∙ ap (λ (t : List ℕ). t ++ back_of_section (row_at 5000) [] (drawn s h).board)
    (was ∙ ap (λ (z : List ℕ). front s ++ (rows_text s (rows_within 5000 s h) ++ z)) (no_end 5000 s h (omega (arith, all)))
    ∙ ap (λ (z : List ℕ). front s ++ z) (append-nil (rows_text s (rows_within 5000 s h))))
    ∙ append_assoc (front s) (rows_text s (rows_within 5000 s h)) (back_of_section (row_at 5000) [] (drawn s h).board)
    ∙ no_row s h (back_of_section (row_at 5000) [] (drawn s h).board)
bytes_far s e h false test far was =
    let more : length h ≡ 5000 → ⊥ = eqb-false (length h) 5000 test in
    ap (λ (t : List ℕ). written s h ++ t) (place_end s (length h + 1) (drawn s h) e far
    ∙ ap (λ (t : Bool). if t then back_of_section (row_at 5000) [] (drawn s h).board else [])
    (ne_eqb (length h + 1) 5001 (λ q. more (omega (arith, q)))))
    ∙ append-nil (written s h) ∙ was ∙ no_row s h (end_of_rows 5000 s h)

bytes_by : (s : Scenario) (e : Entry) (h : List Entry) (t : Bool) → nat_le (length h + 1) 5000 ≡ t
    → written s h ≡ front s ++ (rows_text s (rows_within 5000 s h) ++ end_of_rows 5000 s h)
    → written s h ++ entry_at s (length h + 1) (drawn s h).board (seen (drawn s h).board e) e
    ≡ front s ++ (rows_text s (rows_within 5000 s h ++ one_row s e h t) ++ end_of_rows 5000 s (e ∷ h))
bytes_by s e h true test was =
    let near : length h + 1 ≤ 5000 = leb-true (length h + 1) 5000 test in
    bytes_near s e h near was
    ∙ ap (λ (z : List ℕ). front s ++ (rows_text s (rows_within 5000 s h ++ record { number = length h + 1; entry = e; before = drawn s h } ∷ []) ++ z))
    (sym (no_end 5000 s (e ∷ h) (omega (arith, near))))
bytes_by s e h false test was = bytes_far s e h (length h == 5000) refl (leb-false (length h + 1) 5000 test) was

pub bytes : (s : Scenario) (h : List Entry)
    → written s h ≡ front s ++ (rows_text s (rows_within 5000 s h) ++ end_of_rows 5000 s h)
bytes s [] = sym (append-nil (front s))
bytes s (e ∷ h) =
    ap (λ (t : List ℕ). written s h ++ t) (entry_text_is s (drawn s h) e
    ∙ ap (λ (n : ℕ). entry_at s (n + 1) (drawn s h).board (seen (drawn s h).board e) e) (drawn_entries s h))
    ∙ bytes_by s e h (nat_le (length h + 1) 5000) refl (bytes s h)

pub has_entries : (s : Scenario) (h : List Entry) → HasEntries s h (rows s h) (written s h)
has_entries s h = record { numbers = numbers 5000 s h; entries = entries 5000 s h; bytes = bytes s h }

-- ---- the count

one_length : (k : ℕ) (s : Scenario) (e : Entry) (h : List Entry) (t : Bool) → nat_le (length h + 1) k ≡ t
    → length (rows_within k s h) + (length h - k) ≡ length h
    → length (rows_within k s h) + length (one_row s e h t) + (suc (length h) - k) ≡ suc (length h)
one_length k s e h true test was =
    let here : length h + 1 ≤ k = leb-true (length h + 1) k test in
    let one : length (one_row s e h true) ≡ 1 = refl in omega (arith, here, was, one)
one_length k s e h false test was =
    let here : k < length h + 1 = leb-false (length h + 1) k test in
    let none : length (one_row s e h false) ≡ 0 = refl in omega (arith, here, was, none)

pub counted : (k : ℕ) (s : Scenario) (h : List Entry) → length (rows_within k s h) + (length h - k) ≡ length h
counted k s [] = omega arith
counted k s (e ∷ h) =
    ap (λ (n : ℕ). n + (suc (length h) - k)) (length-append (rows_within k s h) (one_row s e h (nat_le (length h + 1) k)))
    ∙ one_length k s e h (nat_le (length h + 1) k) refl (counted k s h)

line_by : (n : ℕ) (b : State) (cycle : List ℕ) (r l f : List ℕ) → ((gap_row n b ++ r) ++ l) ++ f ≡ count_line n b ++ ((r ++ l) ++ f)
unfolding gap_row
line_by n b cycle r l f =
    ap (λ (t : List ℕ). t ++ f) (append_assoc (count_line n b) r l) ∙ append_assoc (count_line n b) (r ++ l) f

ends_with : (s : Scenario) (p : Picture) (x : Beside) → end_text p x
    ≡ count_line p.entries p.board
    ++ ((reason_rows (rows_of p.entries + 1) (cycle_in x.waits) p.board (waits_in x.waits)
    ++ last_back (rows_of p.entries + length (waits_in x.waits)) (cycle_in x.waits) p.board)
    ++ footer_text p.entries (all_labelled (waits_in x.waits) p.board) x)
unfolding end_text last_rows
ends_with s p x =
    line_by p.entries p.board (cycle_in x.waits)
    (reason_rows (rows_of p.entries + 1) (cycle_in x.waits) p.board (waits_in x.waits))
    (last_back (rows_of p.entries + length (waits_in x.waits)) (cycle_in x.waits) p.board)
    (footer_text p.entries (all_labelled (waits_in x.waits) p.board) x)

pub is_counted : (s : Scenario) (h : List Entry) (x : Beside) → IsCounted s h x (rows s h) (written s h) (page s h x)
is_counted s h x = record {
  all = counted 5000 s h;
  line =
      ap (λ (t : List ℕ). written s h ++ t) (ends_with s (drawn s h) x
      ∙ ap (λ (n : ℕ). count_line n (drawn s h).board
      ++ ((reason_rows (rows_of n + 1) (cycle_in x.waits) (drawn s h).board (waits_in x.waits)
      ++ last_back (rows_of n + length (waits_in x.waits)) (cycle_in x.waits) (drawn s h).board)
      ++ footer_text n (all_labelled (waits_in x.waits) (drawn s h).board) x)) (drawn_entries s h));
}
