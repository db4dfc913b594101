-- The rows of entries: each is closed, and holds its entry.
use Rattle.std.proofs.Common.{Bool, List, [], ap, arith, codes, decimal, false, if◌then◌else◌, nat_le, refl, sym, true, ℕ, ◌+◌, ◌<◌, ◌==◌, ◌∷◌, ◌≡◌}
use Rattle.std.proofs.lemmas.Bool.{eq-eqb, eqb-true, le-leb, leb-false, leb-true, ne_eqb}
use Rattle.com_draw.specs.Entries.{entry_at, entry_drawing, entry_front, entry_label, entry_lead, entry_marks, entry_row, title_of}
use Rattle.com_draw.specs.declared.entries.Seen.{Seen}
use Rattle.com_draw_labels.specs.Labels.{label}
use Rattle.com_draw_labels.specs.Looks.{call_of, has_label, look, mark_of}
use Rattle.com_draw_names.specs.declared.contexts.Context.{Context}
use Rattle.com_draw_shapes.specs.Effects.{closed_by, points_of, touched_by}
use Rattle.com_draw_shapes.specs.Places.{row_at, start_of}
use Rattle.com_draw_shapes.specs.Sections.{back_of_section}
use Rattle.com_draw_state.specs.Board.{State}
use Rattle.com_draw_words.specs.Rows.{row_end_text, row_middle_text}
use Rattle.com_draw_words.specs.declared.limits.TheConstants.{LIMIT}
use Rattle.com_laws_markup.proofs.Leading.{Leads, along, both, either, inside, lead, onward}
use Rattle.com_laws_markup.proofs.Rows.{front_of_entry}
use Rattle.com_laws_markup.proofs.Words.{closed_label, closed_none}
use Rattle.com_laws_markup.specs.Closed.{IsClosed}
use Rattle.com_laws_markup.specs.Markup.{Content}
use Rattle.com_laws_page.proofs.Boxes.{closed_closing_boxes, closed_pointing, closed_touched}
use Rattle.com_laws_page.proofs.Sectioned.{behind_rows, row_leads, section_ends, some_more, some_rows}
use Rattle.com_laws_page.proofs.Told.{closed_story}
use Rattle.com_model.specs.declared.deeds.Entry.{Entry}
use Rattle.com_model.specs.declared.scenario.Scenario.{Scenario}

-- ---- the row of an entry

closed_entry_label : (d : ℕ) (words : List ℕ) (x : Entry) → IsClosed (entry_label d words x)
unfolding entry_label
closed_entry_label d words x = either (has_label x.deed) (closed_label x.lane d (look x.deed) words) closed_none

closed_entry_marks : (k : ℕ) (b : State) (v : Seen) (x : Entry) → IsClosed (entry_marks k b v x)
unfolding entry_marks
closed_entry_marks k b v x =
    both (both (closed_pointing (points_of x.deed) x.lane v.depth v.waiter b) (closed_touched (touched_by x.deed) b))
    (closed_closing_boxes (start_of k) x.lane (closed_by x.deed) b)

front_leads : {s : Bool} {n : List ℕ} {o e : List (List ℕ)} (version k : ℕ) (x : Entry)
    → Leads s (Content (n ∷ o) e) (entry_front version k x) (Content (codes "span" ∷ codes "p" ∷ n ∷ o) (decimal k ∷ e))
unfolding entry_front
front_leads {s = s} {n = n} {o = o} {e = e} version k x =
    record { reads = front_of_entry s n o e k (call_of x.deed) (mark_of x.deed) (title_of version k x) }

lead_leads : {s : Bool} {n : List ℕ} {o e : List (List ℕ)} (q : Scenario) (k : ℕ) (c : Context) (x : Entry)
    → Leads s (Content (n ∷ o) e) (entry_lead q k c x) (Content (codes "i" ∷ codes "p" ∷ n ∷ o) (decimal k ∷ e))
unfolding entry_lead
lead_leads q k c x = onward (onward (front_leads q.version k x) (inside (closed_story q c x))) (lead row_middle_text)

drawing_leads : {s : Bool} {n : List ℕ} {o e : List (List ℕ)} (q : Scenario) (k : ℕ) (b : State) (v : Seen) (x : Entry)
    → Leads s (Content (codes "i" ∷ codes "p" ∷ n ∷ o) e) (entry_drawing q k b v x) (Content (n ∷ o) e)
unfolding entry_drawing
drawing_leads q k b v x =
    onward (onward (inside (closed_entry_label v.level (label q v.context x) x)) (inside (closed_entry_marks k b v x)))
    (lead row_end_text)

entry_leads : {s : Bool} {n : List ℕ} {o e : List (List ℕ)} (q : Scenario) (m : ℕ) (b : State) (v : Seen) (x : Entry)
    → Leads s (Content (behind_rows m (n ∷ o)) e) (entry_row q (m + 1) b v x)
    (Content (codes "section" ∷ n ∷ o) (decimal (m + 1) ∷ e))
unfolding entry_row
entry_leads {n = n} {o = o} {e = e} q m b v x =
    onward (onward (row_leads {n = n} {o = o} {e = e} m b) (lead_leads q (m + 1) v.context x)) (drawing_leads q (m + 1) b v x)

-- ---- all rows of entries

-- where a reader is behind so many entries: behind the limit it is in no section
abbrev pub behind_entries : (entries : ℕ) → List (List ℕ) → List (List ℕ)
behind_entries k o = if nat_le k LIMIT then behind_rows k o else o

-- what it met of them
abbrev pub met : (entry : ℕ) → List (List ℕ) → List (List ℕ)
met k e = if nat_le k LIMIT then decimal k ∷ e else e

one_before : (k l : ℕ) → nat_le (k + 1) l ≡ true → nat_le k l ≡ true
one_before k l h = le-leb k l (omega (arith, leb-true (k + 1) l h))

edge_in : (k l : ℕ) → nat_le k l ≡ true → nat_le (k + 1) l ≡ false → (k + 1 == l + 1) ≡ true
edge_in k l h g = eq-eqb (k + 1) (l + 1) (omega (arith, leb-true k l h, leb-false (k + 1) l g))

too_far : (k l : ℕ) → l < k → k + 1 ≡ l + 1 → ⊥
too_far k l h e = omega (arith, h, e)

edge_out : (k l : ℕ) → nat_le k l ≡ false → (k + 1 == l + 1) ≡ false
edge_out k l h = ne_eqb (k + 1) (l + 1) (too_far k l (leb-false k l h))

edge_of : (k l : ℕ) (c : Bool) → nat_le k l ≡ c → nat_le (k + 1) l ≡ false → c ≡ (k + 1 == l + 1)
edge_of k l true h g = sym (edge_in k l h g)
edge_of k l false h g = sym (edge_out k l h)

none_left : (k l : ℕ) → 0 < l → k + 1 ≡ l + 1 → k ≡ 0 → ⊥
none_left k l p e z = omega (arith, p, e, z)

not_first : (k l : ℕ) → 0 < l → (k + 1 == l + 1) ≡ true → (k == 0) ≡ false
not_first k l p h = ne_eqb k 0 (none_left k l p (eqb-true (k + 1) (l + 1) h))

some_limit : 0 < LIMIT
some_limit = omega arith

last_leads : {s : Bool} {n : List ℕ} {o e : List (List ℕ)} (k : ℕ) (b : State) (c : Bool) → (k + 1 == LIMIT + 1) ≡ c
    → Leads s (Content (if c then behind_rows k (n ∷ o) else (n ∷ o)) e)
    (if c then back_of_section (row_at LIMIT) [] b else []) (Content (n ∷ o) e)
last_leads {n = n} {o = o} {e = e} k b true h =
    along (ap (λ (x : List (List ℕ)). Content x e) (some_rows k (n ∷ o) (not_first k LIMIT some_limit h))) refl refl
    (section_ends {n = n} {o = o} {e = e} (row_at LIMIT) [] b)
last_leads k b false h = lead []

by_limit : {s : Bool} {e : List (List ℕ)} (n : List ℕ) (o : List (List ℕ)) (q : Scenario) (k : ℕ) (b : State) (v : Seen) (x : Entry)
    (c : Bool) → nat_le (k + 1) LIMIT ≡ c
    → Leads s (Content (behind_entries k (n ∷ o)) e)
    (if c then entry_row q (k + 1) b v x
    else if k + 1 == LIMIT + 1 then back_of_section (row_at LIMIT) [] b
    else [])
    (Content (if c then behind_rows (k + 1) (n ∷ o) else (n ∷ o)) (if c then decimal (k + 1) ∷ e else e))
by_limit {e = e} n o q k b v x true h =
    along (ap (λ (c : Bool). Content (if c then behind_rows k (n ∷ o) else (n ∷ o)) e) (one_before k LIMIT h)) refl
    (ap (λ (y : List (List ℕ)). Content y (decimal (k + 1) ∷ e)) (some_rows (k + 1) (n ∷ o) (some_more k)))
    (entry_leads {n = n} {o = o} {e = e} q k b v x)
by_limit {e = e} n o q k b v x false h =
    along (ap (λ (c : Bool). Content (if c then behind_rows k (n ∷ o) else (n ∷ o)) e) (edge_of k LIMIT (nat_le k LIMIT) refl h))
    refl refl (last_leads {n = n} {o = o} {e = e} k b (k + 1 == LIMIT + 1) refl)

-- one entry more
pub entry_at_leads : {s : Bool} {e : List (List ℕ)} (n : List ℕ) (o : List (List ℕ)) (q : Scenario) (k : ℕ) (b : State) (v : Seen) (x : Entry)
    → Leads s (Content (behind_entries k (n ∷ o)) e) (entry_at q (k + 1) b v x)
    (Content (behind_entries (k + 1) (n ∷ o)) (met (k + 1) e))
entry_at_leads n o q k b v x =
    by_limit n o q k b v x (nat_le (k + 1) LIMIT) refl
