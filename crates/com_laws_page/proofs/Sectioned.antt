-- Sections: where the reader is behind their fronts, their ends, and where a row begins.
use Rattle.std.proofs.Common.{Bool, List, [], ap, arith, codes, false, if◌then◌else◌, refl, suc, true, zero, ℕ, ◌++◌, ◌+◌, ◌-◌, ◌==◌, ◌∷◌, ◌≡◌}
use Rattle.std.proofs.lemmas.Bool.{ne_eqb}
use Rattle.com_draw_shapes.specs.Boxes.{objects_lane}
use Rattle.com_draw_shapes.specs.Places.{opens_section, row_at}
use Rattle.com_draw_shapes.specs.Sections.{back_of_section, boxes_below, columns, foot_in, front_of_section, lane_boxes, lanes_boxes, row_begins}
use Rattle.com_draw_shapes.specs.declared.boxes.Chosen.TheVariants as chosen
use Rattle.com_draw_state.specs.Board.{State}
use Rattle.com_draw_state.specs.declared.lanes.Lane.{Lane}
use Rattle.com_draw_state.specs.declared.stacks.Start.{Start}
use Rattle.com_draw_words.specs.Sections.{columns_end_text, section_back_text, section_end_text, section_front_text}
use Rattle.com_draw_words.specs.declared.boxes.Foot.TheVariants as foot
use Rattle.com_laws_markup.proofs.Leading.{Leads, along, both, inside, lead, onward}
use Rattle.com_laws_markup.proofs.Sections.{closed_column}
use Rattle.com_laws_markup.proofs.Words.{closed_none}
use Rattle.com_laws_markup.specs.Closed.{IsClosed}
use Rattle.com_laws_markup.specs.Markup.{Content, Reader}
use Rattle.com_laws_page.proofs.Boxes.{closed_home_boxes, closed_opening_boxes, closed_track_boxes}

-- ---- the front of a section

closed_columns : (l n : ℕ) → IsClosed (columns l n)
closed_columns l zero = closed_none
closed_columns l (suc n) = both (closed_column l) (closed_columns (l + 1) n)

pub section_begins : {s : Bool} {n : List ℕ} {o e : List (List ℕ)} (b : State)
    → Leads s (Content (n ∷ o) e) (front_of_section b) (Content (codes "section" ∷ n ∷ o) e)
unfolding front_of_section
section_begins b = onward (onward (lead section_front_text) (inside (closed_columns 1 (objects_lane b)))) (lead columns_end_text)

-- ---- its end

closed_lane_boxes : (here : Start) (cycle : List ℕ) (l : ℕ) (row : Lane) → IsClosed (lane_boxes here cycle l row)
unfolding lane_boxes
closed_lane_boxes here cycle l row =
    both (closed_home_boxes here l foot.Down row.home) (closed_opening_boxes here l (foot_in cycle l) 1 row.openings)

closed_lanes_boxes : (here : Start) (cycle : List ℕ) (l : ℕ) (rows : List Lane) → IsClosed (lanes_boxes here cycle l rows)
closed_lanes_boxes here cycle l [] = closed_none
closed_lanes_boxes here cycle l (row ∷ rows) =
    both (closed_lane_boxes here cycle l row) (closed_lanes_boxes here cycle (l + 1) rows)

closed_boxes_below : (here : Start) (cycle : List ℕ) (b : State) → IsClosed (boxes_below here cycle b)
unfolding boxes_below
closed_boxes_below here cycle b =
    both (closed_lanes_boxes here cycle 1 b.lanes)
    (closed_track_boxes here (objects_lane b) foot.Down chosen.All 0 b.tracks)

pub section_ends : {s : Bool} {n : List ℕ} {o e : List (List ℕ)} (here : Start) (cycle : List ℕ) (b : State)
    → Leads s (Content (codes "section" ∷ n ∷ o) e) (back_of_section here cycle b) (Content (n ∷ o) e)
unfolding back_of_section
section_ends here cycle b =
    onward (onward (lead section_back_text) (inside (closed_boxes_below here cycle b))) (lead section_end_text)

-- ---- rows

-- where a reader is behind so many rows: in a section, but for none
abbrev pub behind_rows : (rows : ℕ) → List (List ℕ) → List (List ℕ)
behind_rows m o = if m == 0 then o else codes "section" ∷ o

pub some_rows : (k : ℕ) (o : List (List ℕ)) → (k == 0) ≡ false → behind_rows k o ≡ codes "section" ∷ o
some_rows k o h = ap (λ (c : Bool). if c then o else codes "section" ∷ o) h

again : {s : Bool} {m : Reader} (c : Bool) {w : List ℕ} → Leads s m w m → Leads s m (if c then w else []) m
again true h = h
again false h = lead []

suc_not_zero : (k : ℕ) → suc k ≡ 0 → ⊥
suc_not_zero k e = omega (arith, e)

not_one : (k : ℕ) → suc k + 1 ≡ 1 → ⊥
not_one k e = omega (arith, e)

more_not_zero : (k : ℕ) → k + 1 ≡ 0 → ⊥
more_not_zero k e = omega (arith, e)

more_than_none : (k : ℕ) → (suc k == 0) ≡ false
more_than_none k = ne_eqb (suc k) 0 (suc_not_zero k)

second : (k : ℕ) → (suc k + 1 == 1) ≡ false
second k = ne_eqb (suc k + 1) 1 (not_one k)

pub some_more : (k : ℕ) → (k + 1 == 0) ≡ false
some_more k = ne_eqb (k + 1) 0 (more_not_zero k)

next_begins : {s : Bool} {n : List ℕ} {o e : List (List ℕ)} (m : ℕ) (b : State) → (m == 1) ≡ false
    → Leads s (Content (codes "section" ∷ n ∷ o) e) (row_begins m b) (Content (codes "section" ∷ n ∷ o) e)
unfolding row_begins
next_begins {s = s} {n = n} {o = o} {e = e} m b h =
    along refl
    (ap (λ (c : Bool). if opens_section m then (if c then [] else back_of_section (row_at (m - 1)) [] b) ++ front_of_section b else []) h)
    refl
    (again (opens_section m) (onward (section_ends {s = s} {n = n} {o = o} {e = e} (row_at (m - 1)) [] b) (section_begins b)))

first_begins : {s : Bool} {n : List ℕ} {o e : List (List ℕ)} (b : State)
    → Leads s (Content (n ∷ o) e) (row_begins 1 b) (Content (codes "section" ∷ n ∷ o) e)
unfolding row_begins
first_begins b = section_begins b

-- behind so many rows one more begins in a section
pub row_leads : {s : Bool} {n : List ℕ} {o e : List (List ℕ)} (m : ℕ) (b : State)
    → Leads s (Content (behind_rows m (n ∷ o)) e) (row_begins (m + 1) b) (Content (codes "section" ∷ n ∷ o) e)
row_leads {n = n} {o = o} {e = e} zero b = first_begins {n = n} {o = o} {e = e} b
row_leads {n = n} {o = o} {e = e} (suc k) b =
    along (ap (λ (x : List (List ℕ)). Content x e) (some_rows (suc k) (n ∷ o) (more_than_none k))) refl refl
    (next_begins {n = n} {o = o} {e = e} (suc k + 1) b (second k))
