-- The boxes of a lane among all boxes of a page.
use Rattle.std.proofs.Common.{◌≡◌, ℕ, zero, suc, List, [], ◌∷◌, ◌++◌, ◌+◌, ◌-◌, ◌<◌, ◌≤◌, length, Bool, true, false, not, ◌==◌, ◌&&◌}
use Rattle.std.proofs.Common.{refl, ap, sym, ◌∙◌, arith, append-nil, Option, Some, None, if◌then◌else◌, nat_le}
use Rattle.std.specs.Prelude.{slice_get}
use Rattle.std.proofs.lemmas.Bool.{eq-eqb, eqb-false, eqb-true, ne_eqb}
use Rattle.com_model.specs.declared.deeds.Entry.{Entry}
use Rattle.com_model.specs.declared.scenario.Scenario.{Scenario}
use Rattle.com_waits.specs.declared.reasons.Wait.{Wait}
use Rattle.com_draw_state.specs.declared.lanes.Home.{Home}
use Rattle.com_draw_state.specs.declared.lanes.Lane.{Lane}
use Rattle.com_draw_state.specs.declared.stacks.Manner.TheVariants as manner
use Rattle.com_draw_state.specs.declared.stacks.Opened.{Opened}
use Rattle.com_draw_state.specs.declared.stacks.Opened.TheVariants as what
use Rattle.com_draw_state.specs.declared.stacks.Opening.{Opening}
use Rattle.com_draw_state.specs.declared.stacks.Start.{Start}
use Rattle.com_draw_state.specs.declared.tracks.Track.{Track}
use Rattle.com_draw_state.specs.Board.{State}
use Rattle.com_draw_state.specs.Lanes.{lane_at}
use Rattle.com_draw_state.specs.Stacks.{innermost}
use Rattle.com_draw_words.specs.declared.boxes.Foot.{Foot}
use Rattle.com_draw_words.specs.declared.boxes.Foot.TheVariants as foot
use Rattle.com_draw_words.specs.Boxes.{is_of_object}
use Rattle.com_draw_words.specs.Rows.{row_end_text}
use Rattle.com_draw_words.specs.Sections.{section_end_text}
use Rattle.com_draw_shapes.specs.declared.boxes.Chosen.{Chosen}
use Rattle.com_draw_shapes.specs.declared.boxes.Chosen.TheVariants as chosen
use Rattle.com_draw_shapes.specs.declared.effects.Closing.{Closing}
use Rattle.com_draw_shapes.specs.declared.effects.Closing.TheVariants as close
use Rattle.com_draw_shapes.specs.Boxes.{chosen_track, home_in, kind_of, life_of, objects_lane}
use Rattle.com_draw_shapes.specs.Effects.{closed_by}
use Rattle.com_draw_shapes.specs.Places.{opens_section, row_at, start_of}
use Rattle.com_draw_shapes.specs.Sections.{foot_in, front_of_section}
use Rattle.com_draw.specs.declared.beside.Beside.{Beside}
use Rattle.com_draw.specs.declared.entries.Seen.{Seen}
use Rattle.com_draw.specs.Ends.{footer_text, rows_of}
use Rattle.com_draw.specs.Entries.{drawn, seen}
use Rattle.com_draw.specs.Reasons.{all_labelled, cycle_in, reason_drawing, reason_lead, waits_in}
use Rattle.com_laws_draw.specs.Boxes.{Each, Placed, box_of, box_of_innermost, boxes_below}
use Rattle.com_laws_draw.specs.Lanes.{openings_of}
use Rattle.com_laws_boxes.specs.Boxes.{in_lane, is_in}
use Rattle.com_laws_boxes.specs.Pieces.{Piece, all_boxes, box, box_in, boxes_closed, boxes_of, grounds, lane_boxes, lanes_boxes, last_end, life, lives, lives_cut, page_boxes, pieces_at, pieces_behind, pieces_written, row_front, row_pieces, row_words, section_above, section_boxes, section_end, wait_pieces, waits_pieces, words}
use Rattle.com_laws_boxes.proofs.Moves.{closed_at, own_closed}
use Rattle.com_laws_boxes.proofs.Pages.{above_in, at_in, behind_in, front_in, lane_below, lane_list, last_in, waits_in_lane, written_in}

-- ---- lists

box_then : (p : Piece) (xs ys : List Placed) → box_in p (xs ++ ys) ≡ box_in p xs ++ ys
box_then (words t) xs ys = refl
box_then (box x) xs ys = refl

boxes_append : (ps qs : List Piece) → boxes_of (ps ++ qs) ≡ boxes_of ps ++ boxes_of qs
boxes_append [] qs = refl
boxes_append (p ∷ ps) qs =
    ap (λ (xs : List Placed). box_in p xs) (boxes_append ps qs) ∙ box_then p (boxes_of ps) (boxes_of qs)

all_of : (xs : List Placed) → boxes_of (all_boxes xs) ≡ xs
all_of [] = refl
all_of (x ∷ xs) = ap (λ (ys : List Placed). x ∷ ys) (all_of xs)

all_and : (xs : List Placed) (w : List ℕ) → boxes_of (all_boxes xs ++ words w ∷ []) ≡ xs
all_and xs w = boxes_append (all_boxes xs) (words w ∷ []) ∙ append-nil (boxes_of (all_boxes xs)) ∙ all_of xs

cons_by : (x : Placed) (xs ys : List Placed) (t : Bool) → (if t then x ∷ (xs ++ ys) else xs ++ ys) ≡ (if t then x ∷ xs else xs) ++ ys
cons_by x xs ys true = refl
cons_by x xs ys false = refl

lane_append : (l : ℕ) (xs ys : List Placed) → in_lane l (xs ++ ys) ≡ in_lane l xs ++ in_lane l ys
lane_append l [] ys = refl
lane_append l (x ∷ xs) ys =
    ap (λ (zs : List Placed). if is_in l x then x ∷ zs else zs) (lane_append l xs ys)
    ∙ cons_by x (in_lane l xs) (in_lane l ys) (is_in l x)

lane_all : (l : ℕ) (xs : List Placed) → Each (λ x. is_in l x ≡ true) xs → in_lane l xs ≡ xs
lane_all l [] h = refl
lane_all l (x ∷ xs) h =
    ap (λ (t : Bool). if t then x ∷ in_lane l xs else in_lane l xs) h.0
    ∙ ap (λ (ys : List Placed). x ∷ ys) (lane_all l xs h.1)

lane_none : (l : ℕ) (xs : List Placed) → Each (λ x. is_in l x ≡ false) xs → in_lane l xs ≡ []
lane_none l [] h = refl
lane_none l (x ∷ xs) h =
    ap (λ (t : Bool). if t then x ∷ in_lane l xs else in_lane l xs) h.0 ∙ lane_none l xs h.1

-- ---- whose boxes they are

plain : (w : Opened) → is_of_object (kind_of w) ≡ false
plain what.Pumps = refl
plain (what.Waits call manner.Refused iface method) = refl
plain (what.Waits call manner.Across iface method) = refl
plain (what.Waits call manner.Within iface method) = refl
plain (what.Runs call apartment) = refl

own_box : (l : ℕ) (b : Bool) → b ≡ false → (l == l && not b) ≡ true
own_box l b e = ap (λ (t : Bool). t && not b) (eq-eqb l l refl) ∙ ap not e

other_box : (m l : ℕ) (b : Bool) → (m == l) ≡ false → (m == l && b) ≡ false
other_box m l b e = ap (λ (t : Bool). t && b) e

no_object : (a : Bool) → (a && false) ≡ false
no_object true = refl
no_object false = refl

own_ground : (here : Start) (l : ℕ) (f : Foot) (v : Option Home) → Each (λ x. is_in l x ≡ true) (grounds here l f v)
own_ground here l f None = tt
own_ground here l f (Some g) = (own_box l false refl, tt)

other_ground : (here : Start) (m l : ℕ) (f : Foot) (v : Option Home) → (m == l) ≡ false → Each (λ x. is_in l x ≡ false) (grounds here m f v)
other_ground here m l f None e = tt
other_ground here m l f (Some g) e = (other_box m l true e, tt)

own_below : (here : Start) (l : ℕ) (f : Foot) (d : ℕ) (os : List Opening) → Each (λ x. is_in l x ≡ true) (boxes_below here l f d os)
own_below here l f d [] = tt
own_below here l f d (o ∷ os) = (own_box l (is_of_object (kind_of o.what)) (plain o.what), own_below here l f (d + 1) os)

other_below : (here : Start) (m l : ℕ) (f : Foot) (d : ℕ) (os : List Opening) → (m == l) ≡ false
    → Each (λ x. is_in l x ≡ false) (boxes_below here m f d os)
other_below here m l f d [] e = tt
other_below here m l f d (o ∷ os) e =
    (other_box m l (not (is_of_object (kind_of o.what))) e, other_below here m l f (d + 1) os e)

own_last : (here : Start) (l d : ℕ) (v : Option Opening) → Each (λ x. is_in l x ≡ true) (box_of here l d v)
own_last here l d None = tt
own_last here l d (Some o) = (own_box l (is_of_object (kind_of o.what)) (plain o.what), tt)

other_last : (here : Start) (m l d : ℕ) (v : Option Opening) → (m == l) ≡ false → Each (λ x. is_in l x ≡ false) (box_of here m d v)
other_last here m l d None e = tt
other_last here m l d (Some o) e = (other_box m l (not (is_of_object (kind_of o.what))) e, tt)

of_object : (t : Bool) → is_of_object (life_of t) ≡ true
of_object true = refl
of_object false = refl

no_life : (here : Start) (m l : ℕ) (f : Foot) (k : ℕ) (v : Option Track) → Each (λ x. is_in l x ≡ false) (life here m f k v)
no_life here m l f k None = tt
no_life here m l f k (Some t) =
    (ap (λ (b : Bool). m == l && not b) (of_object t.is_live) ∙ no_object (m == l), tt)

no_lives : (here : Start) (m l : ℕ) (f : Foot) (c : Chosen) (k : ℕ) (ts : List (Option Track))
    → in_lane l (lives here m f c k ts) ≡ []
no_lives here m l f c k [] = refl
no_lives here m l f c k (t ∷ ts) =
    lane_append l (life here m f k (chosen_track c t)) (lives here m f c (k + 1) ts)
    ∙ ap (λ (xs : List Placed). xs ++ in_lane l (lives here m f c (k + 1) ts))
    (lane_none l (life here m f k (chosen_track c t)) (no_life here m l f k (chosen_track c t)))
    ∙ no_lives here m l f c (k + 1) ts

-- ---- lanes

own_boxes : (here : Start) (cycle : List ℕ) (l : ℕ) (row : Lane) → in_lane l (lane_boxes here cycle l row) ≡ lane_boxes here cycle l row
own_boxes here cycle l row =
    lane_append l (grounds here l foot.Down row.home) (boxes_below here l (foot_in cycle l) 1 row.openings)
    ∙ ap (λ (xs : List Placed). xs ++ in_lane l (boxes_below here l (foot_in cycle l) 1 row.openings))
    (lane_all l (grounds here l foot.Down row.home) (own_ground here l foot.Down row.home))
    ∙ ap (λ (xs : List Placed). grounds here l foot.Down row.home ++ xs)
    (lane_all l (boxes_below here l (foot_in cycle l) 1 row.openings) (own_below here l (foot_in cycle l) 1 row.openings))

other_boxes : (here : Start) (cycle : List ℕ) (m l : ℕ) (row : Lane) → (m == l) ≡ false → in_lane l (lane_boxes here cycle m row) ≡ []
other_boxes here cycle m l row e =
    lane_append l (grounds here m foot.Down row.home) (boxes_below here m (foot_in cycle m) 1 row.openings)
    ∙ ap (λ (xs : List Placed). xs ++ in_lane l (boxes_below here m (foot_in cycle m) 1 row.openings))
    (lane_none l (grounds here m foot.Down row.home) (other_ground here m l foot.Down row.home e))
    ∙ lane_none l (boxes_below here m (foot_in cycle m) 1 row.openings) (other_below here m l (foot_in cycle m) 1 row.openings e)

past_lanes : (here : Start) (cycle : List ℕ) (m l : ℕ) (rows : List Lane) → l < m → in_lane l (lanes_boxes here cycle m rows) ≡ []
past_lanes here cycle m l [] h = refl
past_lanes here cycle m l (row ∷ rows) h =
    lane_append l (lane_boxes here cycle m row) (lanes_boxes here cycle (m + 1) rows)
    ∙ ap (λ (xs : List Placed). xs ++ in_lane l (lanes_boxes here cycle (m + 1) rows))
    (other_boxes here cycle m l row (ne_eqb m l (λ e. absurd (omega (arith, h, e)))))
    ∙ past_lanes here cycle (m + 1) l rows (omega (arith, h))

abbrev no_rows : List Lane
no_rows = []

none_at : (i : ℕ) → slice_get no_rows i ≡ None
none_at zero = refl
none_at (suc i) = refl

lane_there : (here : Start) (cycle : List ℕ) (m l : ℕ) (row : Lane) (rows : List Lane) (t : Bool) → (m == l) ≡ t → m ≤ l
    → (m + 1 ≤ l → in_lane l (lanes_boxes here cycle (m + 1) rows) ≡ lane_below here cycle l (slice_get rows (l - (m + 1))))
    → in_lane l (lane_boxes here cycle m row) ++ in_lane l (lanes_boxes here cycle (m + 1) rows)
    ≡ lane_below here cycle l (slice_get (row ∷ rows) (l - m))
lane_there here cycle m l row rows true e h rest =
    let same : m ≡ l = eqb-true m l e in
    let none : l - m ≡ 0 = omega (arith, same) in
    ap (λ (xs : List Placed). in_lane l (lane_boxes here cycle m row) ++ xs) (past_lanes here cycle (m + 1) l rows (omega (arith, same)))
    ∙ append-nil (in_lane l (lane_boxes here cycle m row))
    ∙ ap (λ (n : ℕ). in_lane l (lane_boxes here cycle n row)) same
    ∙ own_boxes here cycle l row
    ∙ sym (ap (λ (n : ℕ). lane_below here cycle l (slice_get (row ∷ rows) n)) none)
lane_there here cycle m l row rows false e h rest =
    let apart : m ≡ l → ⊥ = eqb-false m l e in
    let more : m + 1 ≤ l = omega (arith, h, apart) in
    let one : l - m ≡ suc (l - (m + 1)) = omega (arith, more) in
    ap (λ (xs : List Placed). xs ++ in_lane l (lanes_boxes here cycle (m + 1) rows)) (other_boxes here cycle m l row e)
    ∙ rest more
    ∙ sym (ap (λ (n : ℕ). lane_below here cycle l (slice_get (row ∷ rows) n)) one)

lanes_from : (here : Start) (cycle : List ℕ) (m l : ℕ) (rows : List Lane) → m ≤ l
    → in_lane l (lanes_boxes here cycle m rows) ≡ lane_below here cycle l (slice_get rows (l - m))
lanes_from here cycle m l [] h = ap (λ (v : Option Lane). lane_below here cycle l v) (sym (none_at (l - m)))
lanes_from here cycle m l (row ∷ rows) h =
    lane_append l (lane_boxes here cycle m row) (lanes_boxes here cycle (m + 1) rows)
    ∙ lane_there here cycle m l row rows (m == l) refl h (λ k. lanes_from here cycle (m + 1) l rows k)

lanes_by : (here : Start) (cycle : List ℕ) (l : ℕ) (rows : List Lane) (t : Bool) → (l == 0) ≡ t
    → in_lane l (lanes_boxes here cycle 1 rows) ≡ lane_below here cycle l (if t then None else slice_get rows (l - 1))
lanes_by here cycle l rows true e = let z : l ≡ 0 = eqb-true l 0 e in past_lanes here cycle 1 l rows (omega (arith, z))
lanes_by here cycle l rows false e =
    let z : l ≡ 0 → ⊥ = eqb-false l 0 e in lanes_from here cycle 1 l rows (omega (arith, z))

section_in : (here : Start) (cycle : List ℕ) (l : ℕ) (b : State)
    → in_lane l (section_boxes here cycle b) ≡ lane_below here cycle l (lane_at b.lanes l)
section_in here cycle l b =
    lane_append l (lanes_boxes here cycle 1 b.lanes) (lives here (objects_lane b) foot.Down chosen.All 0 b.tracks)
    ∙ ap (λ (xs : List Placed). in_lane l (lanes_boxes here cycle 1 b.lanes) ++ xs)
    (no_lives here (objects_lane b) l foot.Down chosen.All 0 b.tracks)
    ∙ append-nil (in_lane l (lanes_boxes here cycle 1 b.lanes))
    ∙ lanes_by here cycle l b.lanes (l == 0) refl

-- ---- what an entry closes

no_cut : (here : Start) (l a : ℕ) (b : State) (t : Bool)
    → in_lane l (if t then lives here (objects_lane b) foot.Inner (chosen.LiveIn a) 0 b.tracks else []) ≡ []
no_cut here l a b true = no_lives here (objects_lane b) l foot.Inner (chosen.LiveIn a) 0 b.tracks
no_cut here l a b false = refl

closed_own : (here : Start) (l : ℕ) (c : Closing) (b : State) → in_lane l (boxes_closed here l c b) ≡ own_closed here l c (lane_at b.lanes l)
closed_own here l close.Nothing b = refl
closed_own here l (close.Home a) b =
    lane_append l (grounds here l foot.Inner (home_in (lane_at b.lanes l))) (lives_cut here a b)
    ∙ ap (λ (xs : List Placed). in_lane l (grounds here l foot.Inner (home_in (lane_at b.lanes l))) ++ xs) (no_cut here l a b (nat_le 3 a))
    ∙ append-nil (in_lane l (grounds here l foot.Inner (home_in (lane_at b.lanes l))))
    ∙ lane_all l (grounds here l foot.Inner (home_in (lane_at b.lanes l))) (own_ground here l foot.Inner (home_in (lane_at b.lanes l)))
closed_own here l close.Innermost b =
    lane_all l (box_of_innermost here l (openings_of (lane_at b.lanes l)))
    (own_last here l (length (openings_of (lane_at b.lanes l))) (innermost (openings_of (lane_at b.lanes l))))
closed_own here l (close.Cut o) b = no_lives here (objects_lane b) l foot.Inner (chosen.LiveOf o) 0 b.tracks
closed_own here l (close.Life o) b = no_lives here (objects_lane b) l foot.Inner (chosen.Of o) 0 b.tracks

closed_other : (here : Start) (m l : ℕ) (c : Closing) (b : State) → (m == l) ≡ false → in_lane l (boxes_closed here m c b) ≡ []
closed_other here m l close.Nothing b e = refl
closed_other here m l (close.Home a) b e =
    lane_append l (grounds here m foot.Inner (home_in (lane_at b.lanes m))) (lives_cut here a b)
    ∙ ap (λ (xs : List Placed). xs ++ in_lane l (lives_cut here a b))
    (lane_none l (grounds here m foot.Inner (home_in (lane_at b.lanes m))) (other_ground here m l foot.Inner (home_in (lane_at b.lanes m)) e))
    ∙ no_cut here l a b (nat_le 3 a)
closed_other here m l close.Innermost b e =
    lane_none l (box_of_innermost here m (openings_of (lane_at b.lanes m)))
    (other_last here m l (length (openings_of (lane_at b.lanes m))) (innermost (openings_of (lane_at b.lanes m))) e)
closed_other here m l (close.Cut o) b e = no_lives here (objects_lane b) l foot.Inner (chosen.LiveOf o) 0 b.tracks
closed_other here m l (close.Life o) b e = no_lives here (objects_lane b) l foot.Inner (chosen.Of o) 0 b.tracks

closed_by_lane : (here : Start) (m l : ℕ) (c : Closing) (b : State) (t : Bool) → (m == l) ≡ t
    → in_lane l (boxes_closed here m c b) ≡ (if t then own_closed here l c (lane_at b.lanes l) else [])
closed_by_lane here m l c b true e =
    ap (λ (n : ℕ). in_lane l (boxes_closed here n c b)) (eqb-true m l e) ∙ closed_own here l c b
closed_by_lane here m l c b false e = closed_other here m l c b e

-- ---- pieces

abbrev of_lane : (lane : ℕ) → List Piece → List Placed
of_lane l ps = in_lane l (boxes_of ps)

both : (l : ℕ) (ps qs : List Piece) → of_lane l (ps ++ qs) ≡ of_lane l ps ++ of_lane l qs
both l ps qs = ap (λ (xs : List Placed). in_lane l xs) (boxes_append ps qs) ∙ lane_append l (boxes_of ps) (boxes_of qs)

-- the first pieces have these boxes, and the others those
two : (l : ℕ) (ps qs : List Piece) (xs ys : List Placed) → of_lane l ps ≡ xs → of_lane l qs ≡ ys → of_lane l (ps ++ qs) ≡ xs ++ ys
two l ps qs xs ys e f =
    both l ps qs ∙ ap (λ (zs : List Placed). zs ++ of_lane l qs) e ∙ ap (λ (zs : List Placed). xs ++ zs) f

end_pieces : (here : Start) (cycle : List ℕ) (l : ℕ) (b : State)
    → of_lane l (section_end here cycle b) ≡ lane_below here cycle l (lane_at b.lanes l)
end_pieces here cycle l b =
    ap (λ (xs : List Placed). in_lane l xs) (all_and (section_boxes here cycle b) section_end_text) ∙ section_in here cycle l b

above_by : (m l : ℕ) (b : State) (t : Bool)
    → of_lane l (if t then [] else section_end (row_at (m - 1)) [] b) ≡ (if t then [] else lane_below (row_at (m - 1)) [] l (lane_at b.lanes l))
above_by m l b true = refl
above_by m l b false = end_pieces (row_at (m - 1)) [] l b

front_by : (m l : ℕ) (b : State) (t : Bool)
    → of_lane l (if t then section_above m b ++ words (front_of_section b) ∷ [] else []) ≡ (if t then above_in m l (lane_at b.lanes l) else [])
front_by m l b true =
    two l (section_above m b) (words (front_of_section b) ∷ []) (above_in m l (lane_at b.lanes l)) [] (above_by m l b (m == 1)) refl
    ∙ append-nil (above_in m l (lane_at b.lanes l))
front_by m l b false = refl

front_pieces : (m l : ℕ) (b : State) → of_lane l (row_front m b) ≡ front_in m l (lane_at b.lanes l)
front_pieces m l b = front_by m l b (opens_section m)

row_in : (s : Scenario) (n l : ℕ) (b : State) (v : Seen) (e : Entry)
    → of_lane l (row_pieces s n b v e) ≡ front_in n l (lane_at b.lanes l) ++ closed_at (start_of n) l e (lane_at b.lanes l)
row_in s n l b v e =
    two l (row_front n b)
    (words (row_words s n b v e) ∷ all_boxes (boxes_closed (start_of n) e.lane (closed_by e.deed) b) ++ words row_end_text ∷ [])
    (front_in n l (lane_at b.lanes l)) (closed_at (start_of n) l e (lane_at b.lanes l)) (front_pieces n l b)
    (ap (λ (xs : List Placed). in_lane l xs) (all_and (boxes_closed (start_of n) e.lane (closed_by e.deed) b) row_end_text)
    ∙ closed_by_lane (start_of n) e.lane l (closed_by e.deed) b (e.lane == l) refl)

next_by : (l : ℕ) (b : State) (t : Bool)
    → of_lane l (if t then section_end (row_at 5000) [] b else []) ≡ (if t then lane_below (row_at 5000) [] l (lane_at b.lanes l) else [])
next_by l b true = end_pieces (row_at 5000) [] l b
next_by l b false = refl

at_by : (s : Scenario) (n l : ℕ) (b : State) (v : Seen) (e : Entry) (t : Bool)
    → of_lane l (if t then row_pieces s n b v e else if n == 5001 then section_end (row_at 5000) [] b else [])
    ≡ (if t then front_in n l (lane_at b.lanes l) ++ closed_at (start_of n) l e (lane_at b.lanes l)
    else if n == 5001 then lane_below (row_at 5000) [] l (lane_at b.lanes l) else [])
at_by s n l b v e true = row_in s n l b v e
at_by s n l b v e false = next_by l b (n == 5001)

at_pieces : (s : Scenario) (n l : ℕ) (b : State) (v : Seen) (e : Entry)
    → of_lane l (pieces_at s n b v e) ≡ at_in n l e (lane_at b.lanes l)
at_pieces s n l b v e = at_by s n l b v e (nat_le n 5000)

written_pieces : (s : Scenario) (l : ℕ) (h : List Entry) → of_lane l (pieces_written s h) ≡ written_in s l h
written_pieces s l [] = refl
written_pieces s l (e ∷ h) =
    two l (pieces_written s h) (pieces_at s ((drawn s h).entries + 1) (drawn s h).board (seen (drawn s h).board e) e)
    (written_in s l h) (at_in ((drawn s h).entries + 1) l e (lane_at (drawn s h).board.lanes l)) (written_pieces s l h)
    (at_pieces s ((drawn s h).entries + 1) l (drawn s h).board (seen (drawn s h).board e) e)

wait_in : (m l : ℕ) (cycle : List ℕ) (b : State) (w : Wait) → of_lane l (wait_pieces m cycle b w) ≡ front_in m l (lane_at b.lanes l)
wait_in m l cycle b w =
    two l (row_front m b) (words (reason_lead cycle w ++ reason_drawing cycle b w) ∷ []) (front_in m l (lane_at b.lanes l)) []
    (front_pieces m l b) refl
    ∙ append-nil (front_in m l (lane_at b.lanes l))

waits_in_pieces : (m l : ℕ) (cycle : List ℕ) (b : State) (ws : List Wait)
    → of_lane l (waits_pieces m cycle b ws) ≡ waits_in_lane m l (lane_at b.lanes l) ws
waits_in_pieces m l cycle b [] = refl
waits_in_pieces m l cycle b (w ∷ ws) =
    two l (wait_pieces m cycle b w) (waits_pieces (m + 1) cycle b ws) (front_in m l (lane_at b.lanes l))
    (waits_in_lane (m + 1) l (lane_at b.lanes l) ws) (wait_in m l cycle b w) (waits_in_pieces (m + 1) l cycle b ws)

last_by : (m l : ℕ) (cycle : List ℕ) (b : State) (t : Bool)
    → of_lane l (if t then [] else section_end (row_at m) cycle b) ≡ (if t then [] else lane_below (row_at m) cycle l (lane_at b.lanes l))
last_by m l cycle b true = refl
last_by m l cycle b false = end_pieces (row_at m) cycle l b

behind_pieces : (n l : ℕ) (cycle : List ℕ) (ws : List Wait) (b : State)
    → of_lane l (pieces_behind n cycle ws b) ≡ behind_in n cycle l ws (lane_at b.lanes l)
behind_pieces n l cycle ws b =
    two l (waits_pieces (rows_of n + 1) cycle b ws) (last_end (rows_of n + length ws) cycle b)
    (waits_in_lane (rows_of n + 1) l (lane_at b.lanes l) ws) (last_in (rows_of n + length ws) cycle l (lane_at b.lanes l))
    (waits_in_pieces (rows_of n + 1) l cycle b ws) (last_by (rows_of n + length ws) l cycle b (rows_of n + length ws == 0))

end_in : (s : Scenario) (l : ℕ) (h : List Entry) (x : Beside)
    → of_lane l (pieces_behind (drawn s h).entries (cycle_in x.waits) (waits_in x.waits) (drawn s h).board
    ++ words (footer_text (drawn s h).entries (all_labelled (waits_in x.waits) (drawn s h).board) x) ∷ [])
    ≡ behind_in (drawn s h).entries (cycle_in x.waits) l (waits_in x.waits) (lane_at (drawn s h).board.lanes l)
end_in s l h x =
    two l (pieces_behind (drawn s h).entries (cycle_in x.waits) (waits_in x.waits) (drawn s h).board)
    (words (footer_text (drawn s h).entries (all_labelled (waits_in x.waits) (drawn s h).board) x) ∷ [])
    (behind_in (drawn s h).entries (cycle_in x.waits) l (waits_in x.waits) (lane_at (drawn s h).board.lanes l)) []
    (behind_pieces (drawn s h).entries l (cycle_in x.waits) (waits_in x.waits) (drawn s h).board) refl
    ∙ append-nil (behind_in (drawn s h).entries (cycle_in x.waits) l (waits_in x.waits) (lane_at (drawn s h).board.lanes l))

-- the boxes of a lane in a page
pub lane_of_page : (s : Scenario) (l : ℕ) (h : List Entry) (x : Beside) → in_lane l (page_boxes s h x) ≡ lane_list s l h x
lane_of_page s l h x =
    two l (pieces_written s h)
    (pieces_behind (drawn s h).entries (cycle_in x.waits) (waits_in x.waits) (drawn s h).board
    ++ words (footer_text (drawn s h).entries (all_labelled (waits_in x.waits) (drawn s h).board) x) ∷ [])
    (written_in s l h)
    (behind_in (drawn s h).entries (cycle_in x.waits) l (waits_in x.waits) (lane_at (drawn s h).board.lanes l))
    (written_pieces s l h) (end_in s l h x)
