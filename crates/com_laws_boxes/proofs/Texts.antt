-- The bytes of a page are those of its pieces.
use Rattle.std.proofs.Common.{◌≡◌, ℕ, List, [], ◌∷◌, ◌++◌, ◌+◌, ◌-◌, Bool, true, false, ◌==◌, if◌then◌else◌, nat_le, length}
use Rattle.std.proofs.Common.{refl, ap, sym, ◌∙◌, append-nil, append_assoc, Option, Some, None}
use Rattle.com_model.specs.declared.deeds.Entry.{Entry}
use Rattle.com_model.specs.declared.scenario.Scenario.{Scenario}
use Rattle.com_waits.specs.declared.reasons.Wait.{Wait}
use Rattle.com_draw_state.specs.declared.lanes.Home.{Home}
use Rattle.com_draw_state.specs.declared.lanes.Lane.{Lane}
use Rattle.com_draw_state.specs.declared.stacks.Start.{Start}
use Rattle.com_draw_state.specs.declared.tracks.Track.{Track}
use Rattle.com_draw_state.specs.Board.{State}
use Rattle.com_draw_state.specs.Lanes.{lane_at}
use Rattle.com_draw_words.specs.declared.boxes.Foot.{Foot}
use Rattle.com_draw_words.specs.declared.boxes.Foot.TheVariants as foot
use Rattle.com_draw_words.specs.Boxes.{box_text}
use Rattle.com_draw_words.specs.Rows.{row_end_text}
use Rattle.com_draw_words.specs.Sections.{section_back_text, section_end_text}
use Rattle.com_draw_labels.specs.Labels.{label}
use Rattle.com_draw_shapes.specs.declared.boxes.Chosen.{Chosen}
use Rattle.com_draw_shapes.specs.declared.boxes.Chosen.TheVariants as chosen
use Rattle.com_draw_shapes.specs.declared.effects.Closing.{Closing}
use Rattle.com_draw_shapes.specs.declared.effects.Closing.TheVariants as close
use Rattle.com_draw_shapes.specs.Arrows.{pointing_text, touched_text}
use Rattle.com_draw_shapes.specs.Boxes.{chosen_track, closing_boxes, cut_boxes, home_box, home_boxes, home_in, life_boxes, objects_lane, track_box, track_boxes}
use Rattle.com_draw_shapes.specs.Effects.{closed_by, points_of, touched_by}
use Rattle.com_draw_shapes.specs.Places.{opens_section, row_at, start_of}
use Rattle.com_draw_shapes.specs.Sections as shape
use Rattle.com_draw_shapes.specs.Sections.{back_of_section, foot_in, front_of_section, row_begins}
use Rattle.com_draw.specs.declared.beside.Beside.{Beside}
use Rattle.com_draw.specs.declared.entries.Seen.{Seen}
use Rattle.com_draw.specs.Ends.{end_text, footer_text, gap_row, last_back, last_rows, rows_of}
use Rattle.com_draw.specs.Entries.{drawn, entry_drawing, entry_label, entry_lead, entry_marks, entry_row, entry_text, seen}
use Rattle.com_draw.specs.Fronts.{front}
use Rattle.com_draw.specs.Pages.{page, written}
use Rattle.com_draw.specs.Pictures.{Picture}
use Rattle.com_draw.specs.Reasons.{all_labelled, cycle_in, reason_drawing, reason_lead, reason_row, reason_rows, waits_in}
use Rattle.com_laws_draw.specs.Boxes.{Placed, boxes_below, texts}
use Rattle.com_laws_draw.proofs.Texts.{closing_texts, section_texts}
use Rattle.com_laws_boxes.specs.Pieces.{Piece, all_boxes, boxes_closed, grounds, lane_boxes, lanes_boxes, last_end, life, lives, lives_cut, page_pieces, piece_text, pieces_at, pieces_behind, pieces_written, row_front, row_pieces, row_words, section_above, section_boxes, section_end, text_of, wait_pieces, waits_pieces, words}

-- ---- lists

pub text_append : (ps qs : List Piece) → text_of (ps ++ qs) ≡ text_of ps ++ text_of qs
text_append [] qs = refl
text_append (p ∷ ps) qs =
    ap (λ (t : List ℕ). piece_text p ++ t) (text_append ps qs) ∙ sym (append_assoc (piece_text p) (text_of ps) (text_of qs))

boxes_append : (xs ys : List Placed) → texts (xs ++ ys) ≡ texts xs ++ texts ys
boxes_append [] ys = refl
boxes_append (x ∷ xs) ys =
    ap (λ (t : List ℕ). box_text x.box ++ t) (boxes_append xs ys) ∙ sym (append_assoc (box_text x.box) (texts xs) (texts ys))

box_texts : (xs : List Placed) → text_of (all_boxes xs) ≡ texts xs
box_texts [] = refl
box_texts (x ∷ xs) = ap (λ (t : List ℕ). box_text x.box ++ t) (box_texts xs)

-- boxes, and words behind them
boxes_and : (xs : List Placed) (w : List ℕ) → text_of (all_boxes xs ++ words w ∷ []) ≡ texts xs ++ w
boxes_and xs w =
    text_append (all_boxes xs) (words w ∷ [])
    ∙ ap (λ (t : List ℕ). t ++ (w ++ [])) (box_texts xs)
    ∙ ap (λ (t : List ℕ). texts xs ++ t) (append-nil w)

-- ---- boxes

ground_text : (here : Start) (l : ℕ) (f : Foot) (v : Option Home) → home_boxes here l f v ≡ texts (grounds here l f v)
unfolding home_boxes
ground_text here l f None = refl
ground_text here l f (Some home) = sym (append-nil (box_text (home_box here l f home)))

lane_text : (here : Start) (cycle : List ℕ) (l : ℕ) (row : Lane)
    → shape.lane_boxes here cycle l row ≡ texts (lane_boxes here cycle l row)
lane_text here cycle l row =
    section_texts here cycle l row
    ∙ ap (λ (t : List ℕ). t ++ texts (boxes_below here l (foot_in cycle l) 1 row.openings)) (ground_text here l foot.Down row.home)
    ∙ sym (boxes_append (grounds here l foot.Down row.home) (boxes_below here l (foot_in cycle l) 1 row.openings))

lanes_text : (here : Start) (cycle : List ℕ) (l : ℕ) (rows : List Lane)
    → shape.lanes_boxes here cycle l rows ≡ texts (lanes_boxes here cycle l rows)
lanes_text here cycle l [] = refl
lanes_text here cycle l (row ∷ rows) =
    ap (λ (t : List ℕ). t ++ shape.lanes_boxes here cycle (l + 1) rows) (lane_text here cycle l row)
    ∙ ap (λ (t : List ℕ). texts (lane_boxes here cycle l row) ++ t) (lanes_text here cycle (l + 1) rows)
    ∙ sym (boxes_append (lane_boxes here cycle l row) (lanes_boxes here cycle (l + 1) rows))

life_text : (here : Start) (m : ℕ) (f : Foot) (k : ℕ) (v : Option Track) → life_boxes here m f k v ≡ texts (life here m f k v)
unfolding life_boxes
life_text here m f k None = refl
life_text here m f k (Some t) = sym (append-nil (box_text (track_box here m f k t)))

lives_text : (here : Start) (m : ℕ) (f : Foot) (c : Chosen) (k : ℕ) (ts : List (Option Track))
    → track_boxes here m f c k ts ≡ texts (lives here m f c k ts)
lives_text here m f c k [] = refl
lives_text here m f c k (t ∷ ts) =
    ap (λ (r : List ℕ). r ++ track_boxes here m f c (k + 1) ts) (life_text here m f k (chosen_track c t))
    ∙ ap (λ (r : List ℕ). texts (life here m f k (chosen_track c t)) ++ r) (lives_text here m f c (k + 1) ts)
    ∙ sym (boxes_append (life here m f k (chosen_track c t)) (lives here m f c (k + 1) ts))

below_text : (here : Start) (cycle : List ℕ) (b : State) → shape.boxes_below here cycle b ≡ texts (section_boxes here cycle b)
unfolding shape.boxes_below
below_text here cycle b =
    ap (λ (t : List ℕ). t ++ track_boxes here (objects_lane b) foot.Down chosen.All 0 b.tracks) (lanes_text here cycle 1 b.lanes)
    ∙ ap (λ (t : List ℕ). texts (lanes_boxes here cycle 1 b.lanes) ++ t) (lives_text here (objects_lane b) foot.Down chosen.All 0 b.tracks)
    ∙ sym (boxes_append (lanes_boxes here cycle 1 b.lanes) (lives here (objects_lane b) foot.Down chosen.All 0 b.tracks))

cut_text : (here : Start) (a : ℕ) (b : State) (t : Bool)
    → (if t then track_boxes here (objects_lane b) foot.Inner (chosen.LiveIn a) 0 b.tracks else [])
    ≡ texts (if t then lives here (objects_lane b) foot.Inner (chosen.LiveIn a) 0 b.tracks else [])
cut_text here a b true = lives_text here (objects_lane b) foot.Inner (chosen.LiveIn a) 0 b.tracks
cut_text here a b false = refl

closed_text : (here : Start) (l : ℕ) (c : Closing) (b : State) → closing_boxes here l c b ≡ texts (boxes_closed here l c b)
unfolding closing_boxes
closed_text here l close.Nothing b = refl
closed_text here l (close.Home a) b =
    ap (λ (t : List ℕ). t ++ cut_boxes here a b) (ground_text here l foot.Inner (home_in (lane_at b.lanes l)))
    ∙ ap (λ (t : List ℕ). texts (grounds here l foot.Inner (home_in (lane_at b.lanes l))) ++ t) (cut_text here a b (nat_le 3 a))
    ∙ sym (boxes_append (grounds here l foot.Inner (home_in (lane_at b.lanes l))) (lives_cut here a b))
closed_text here l close.Innermost b = closing_texts here l b
closed_text here l (close.Cut o) b = lives_text here (objects_lane b) foot.Inner (chosen.LiveOf o) 0 b.tracks
closed_text here l (close.Life o) b = lives_text here (objects_lane b) foot.Inner (chosen.Of o) 0 b.tracks

-- ---- sections

section_text : (here : Start) (cycle : List ℕ) (b : State) → back_of_section here cycle b ≡ text_of (section_end here cycle b)
unfolding back_of_section
section_text here cycle b =
    ap (λ (t : List ℕ). (section_back_text ++ t) ++ section_end_text) (below_text here cycle b)
    ∙ append_assoc section_back_text (texts (section_boxes here cycle b)) section_end_text
    ∙ ap (λ (t : List ℕ). section_back_text ++ t) (sym (boxes_and (section_boxes here cycle b) section_end_text))

above_text : (m : ℕ) (b : State) (t : Bool)
    → (if t then [] else back_of_section (row_at (m - 1)) [] b) ≡ text_of (if t then [] else section_end (row_at (m - 1)) [] b)
above_text m b true = refl
above_text m b false = section_text (row_at (m - 1)) [] b

front_by : (m : ℕ) (b : State) (t : Bool)
    → (if t then shape.row_before m b ++ front_of_section b else []) ≡ text_of (if t then section_above m b ++ words (front_of_section b) ∷ [] else [])
front_by m b true =
    ap (λ (r : List ℕ). r ++ front_of_section b) (above_text m b (m == 1))
    ∙ ap (λ (r : List ℕ). text_of (section_above m b) ++ r) (sym (append-nil (front_of_section b)))
    ∙ sym (text_append (section_above m b) (words (front_of_section b) ∷ []))
front_by m b false = refl

front_text : (m : ℕ) (b : State) → row_begins m b ≡ text_of (row_front m b)
unfolding row_begins
front_text m b = front_by m b (opens_section m)

-- ---- rows

-- the parts of a row
parts : (f a d w c z : List ℕ) → (f ++ a) ++ ((d ++ (w ++ c)) ++ z) ≡ f ++ ((a ++ (d ++ w)) ++ (c ++ z))
parts f a d w c z =
    append_assoc f a ((d ++ (w ++ c)) ++ z)
    ∙ ap (λ (t : List ℕ). f ++ t)
    (ap (λ (t : List ℕ). a ++ (t ++ z)) (sym (append_assoc d w c))
    ∙ ap (λ (t : List ℕ). a ++ t) (append_assoc (d ++ w) c z)
    ∙ sym (append_assoc a (d ++ w) (c ++ z)))

row_text : (s : Scenario) (n : ℕ) (b : State) (v : Seen) (e : Entry) → entry_row s n b v e ≡ text_of (row_pieces s n b v e)
unfolding entry_row entry_drawing entry_marks
row_text s n b v e =
    parts (row_begins n b) (entry_lead s n v.context e) (entry_label v.level (label s v.context e) e)
    (pointing_text (points_of e.deed) e.lane v.depth v.waiter b ++ touched_text (touched_by e.deed) b)
    (closing_boxes (start_of n) e.lane (closed_by e.deed) b) row_end_text
    ∙ ap (λ (t : List ℕ). t ++ (row_words s n b v e ++ (closing_boxes (start_of n) e.lane (closed_by e.deed) b ++ row_end_text))) (front_text n b)
    ∙ ap (λ (t : List ℕ). text_of (row_front n b) ++ (row_words s n b v e ++ t))
    (ap (λ (t : List ℕ). t ++ row_end_text) (closed_text (start_of n) e.lane (closed_by e.deed) b)
    ∙ sym (boxes_and (boxes_closed (start_of n) e.lane (closed_by e.deed) b) row_end_text))
    ∙ sym (text_append (row_front n b)
    (words (row_words s n b v e) ∷ all_boxes (boxes_closed (start_of n) e.lane (closed_by e.deed) b) ++ words row_end_text ∷ []))

next_text : (n : ℕ) (b : State) (t : Bool)
    → (if t then back_of_section (row_at 5000) [] b else []) ≡ text_of (if t then section_end (row_at 5000) [] b else [])
next_text n b true = section_text (row_at 5000) [] b
next_text n b false = refl

at_text : (s : Scenario) (n : ℕ) (b : State) (v : Seen) (e : Entry) (t : Bool)
    → (if t then entry_row s n b v e else if n == 5001 then back_of_section (row_at 5000) [] b else [])
    ≡ text_of (if t then row_pieces s n b v e else if n == 5001 then section_end (row_at 5000) [] b else [])
at_text s n b v e true = row_text s n b v e
at_text s n b v e false = next_text n b (n == 5001)

entry_is : (s : Scenario) (p : Picture) (e : Entry)
    → entry_text s p e ≡ text_of (pieces_at s (p.entries + 1) p.board (seen p.board e) e)
unfolding entry_text
entry_is s p e = at_text s (p.entries + 1) p.board (seen p.board e) e (nat_le (p.entries + 1) 5000)

written_text : (s : Scenario) (h : List Entry) → written s h ≡ text_of (pieces_written s h)
written_text s [] = sym (append-nil (front s))
written_text s (e ∷ h) =
    ap (λ (t : List ℕ). t ++ entry_text s (drawn s h) e) (written_text s h)
    ∙ ap (λ (t : List ℕ). text_of (pieces_written s h) ++ t) (entry_is s (drawn s h) e)
    ∙ sym (text_append (pieces_written s h) (pieces_at s ((drawn s h).entries + 1) (drawn s h).board (seen (drawn s h).board e) e))

-- ---- what stands behind the entries

wait_text : (m : ℕ) (cycle : List ℕ) (b : State) (w : Wait) → reason_row m cycle b w ≡ text_of (wait_pieces m cycle b w)
unfolding reason_row
wait_text m cycle b w =
    append_assoc (row_begins m b) (reason_lead cycle w) (reason_drawing cycle b w)
    ∙ ap (λ (t : List ℕ). t ++ (reason_lead cycle w ++ reason_drawing cycle b w)) (front_text m b)
    ∙ ap (λ (t : List ℕ). text_of (row_front m b) ++ t) (sym (append-nil (reason_lead cycle w ++ reason_drawing cycle b w)))
    ∙ sym (text_append (row_front m b) (words (reason_lead cycle w ++ reason_drawing cycle b w) ∷ []))

waits_text : (m : ℕ) (cycle : List ℕ) (b : State) (ws : List Wait) → reason_rows m cycle b ws ≡ text_of (waits_pieces m cycle b ws)
waits_text m cycle b [] = refl
waits_text m cycle b (w ∷ ws) =
    ap (λ (t : List ℕ). t ++ reason_rows (m + 1) cycle b ws) (wait_text m cycle b w)
    ∙ ap (λ (t : List ℕ). text_of (wait_pieces m cycle b w) ++ t) (waits_text (m + 1) cycle b ws)
    ∙ sym (text_append (wait_pieces m cycle b w) (waits_pieces (m + 1) cycle b ws))

last_by : (m : ℕ) (cycle : List ℕ) (b : State) (t : Bool)
    → (if t then [] else back_of_section (row_at m) cycle b) ≡ text_of (if t then [] else section_end (row_at m) cycle b)
last_by m cycle b true = refl
last_by m cycle b false = section_text (row_at m) cycle b

last_text : (m : ℕ) (cycle : List ℕ) (b : State) → last_back m cycle b ≡ text_of (last_end m cycle b)
unfolding last_back
last_text m cycle b = last_by m cycle b (m == 0)

behind_text : (n : ℕ) (cycle : List ℕ) (ws : List Wait) (b : State) → last_rows n cycle ws b ≡ text_of (pieces_behind n cycle ws b)
unfolding last_rows
behind_text n cycle ws b =
    append_assoc (gap_row n b) (reason_rows (rows_of n + 1) cycle b ws) (last_back (rows_of n + length ws) cycle b)
    ∙ ap (λ (t : List ℕ). gap_row n b ++ t)
    (ap (λ (t : List ℕ). t ++ last_back (rows_of n + length ws) cycle b) (waits_text (rows_of n + 1) cycle b ws)
    ∙ ap (λ (t : List ℕ). text_of (waits_pieces (rows_of n + 1) cycle b ws) ++ t) (last_text (rows_of n + length ws) cycle b)
    ∙ sym (text_append (waits_pieces (rows_of n + 1) cycle b ws) (last_end (rows_of n + length ws) cycle b)))

end_is : (p : Picture) (x : Beside) → end_text p x
    ≡ text_of (pieces_behind p.entries (cycle_in x.waits) (waits_in x.waits) p.board
    ++ words (footer_text p.entries (all_labelled (waits_in x.waits) p.board) x) ∷ [])
unfolding end_text
end_is p x =
    ap (λ (t : List ℕ). t ++ footer_text p.entries (all_labelled (waits_in x.waits) p.board) x)
    (behind_text p.entries (cycle_in x.waits) (waits_in x.waits) p.board)
    ∙ ap (λ (t : List ℕ). text_of (pieces_behind p.entries (cycle_in x.waits) (waits_in x.waits) p.board) ++ t)
    (sym (append-nil (footer_text p.entries (all_labelled (waits_in x.waits) p.board) x)))
    ∙ sym (text_append (pieces_behind p.entries (cycle_in x.waits) (waits_in x.waits) p.board)
    (words (footer_text p.entries (all_labelled (waits_in x.waits) p.board) x) ∷ []))

pub page_text : (s : Scenario) (h : List Entry) (x : Beside) → text_of (page_pieces s h x) ≡ page s h x
page_text s h x = sym (
    ap (λ (t : List ℕ). t ++ end_text (drawn s h) x) (written_text s h)
    ∙ ap (λ (t : List ℕ). text_of (pieces_written s h) ++ t) (end_is (drawn s h) x)
    ∙ sym (text_append (pieces_written s h) (pieces_behind (drawn s h).entries (cycle_in x.waits) (waits_in x.waits) (drawn s h).board
    ++ words (footer_text (drawn s h).entries (all_labelled (waits_in x.waits) (drawn s h).board) x) ∷ [])))
