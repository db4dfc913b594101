-- All boxes of a lane in a page, row by row.
use Rattle.std.proofs.Common.{◌≡◌, ℕ, zero, suc, List, [], ◌∷◌, ◌++◌, ◌+◌, ◌-◌, ◌/◌, ◌%◌, ◌<◌, ◌≤◌, length, ◌⊎◌, inl, inr, Bool, true, false, ◌==◌}
use Rattle.std.proofs.Common.{refl, ap, sym, subst, ◌∙◌, arith, append-nil, append_assoc, Option, Some, None, if◌then◌else◌, nat_le}
use Rattle.std.specs.Prelude.{slice_get}
use Rattle.std.proofs.lemmas.Bool.{eq-eqb, eqb-false, eqb-true, le-leb, leb-false, leb-true, ne_eqb, true≢false}
use Rattle.com_model.specs.declared.deeds.Entry.{Entry}
use Rattle.com_model.specs.declared.scenario.Scenario.{Scenario}
use Rattle.com_model.specs.Lists.{is_member}
use Rattle.com_model.specs.Tables.{threads}
use Rattle.com_waits.specs.declared.reasons.Wait.{Wait}
use Rattle.com_draw_state.specs.declared.lanes.Home.{Home}
use Rattle.com_draw_state.specs.declared.lanes.Lane.{Lane}
use Rattle.com_draw_state.specs.declared.stacks.Opening.{Opening}
use Rattle.com_draw_state.specs.declared.stacks.Start.{Start}
use Rattle.com_draw_state.specs.Board.{State, copies, first_board, home_from_above, with_lanes}
use Rattle.com_draw_state.specs.Lanes.{lane_at, new_lane, widened, with_lane}
use Rattle.com_draw_words.specs.declared.boxes.Foot.TheVariants as foot
use Rattle.com_draw_words.specs.Labels.{label_width}
use Rattle.com_draw_labels.specs.Looks.{has_label}
use Rattle.com_draw_labels.specs.Labels.{label}
use Rattle.com_draw_shapes.specs.Boxes.{home_in}
use Rattle.com_draw_shapes.specs.Changes.{changed}
use Rattle.com_draw_shapes.specs.Places.{opens_section, row_at, start_of}
use Rattle.com_draw_shapes.specs.Sections.{foot_in}
use Rattle.com_draw.specs.declared.beside.Beside.{Beside}
use Rattle.com_draw.specs.Ends.{rows_of}
use Rattle.com_draw.specs.Entries.{after, drawn, seen}
use Rattle.com_draw.specs.Pictures.{Picture}
use Rattle.com_draw.specs.Reasons.{cycle_in, waits_in}
use Rattle.com_laws_draw.specs.Boxes.{AllNest, Each, Placed, boxes_below}
use Rattle.com_laws_draw.specs.Lanes.{open_in, openings_of}
use Rattle.com_laws_draw.proofs.Lists.{each_append}
use Rattle.com_laws_draw.proofs.Nesting.{Drawing, Later}
use Rattle.com_laws_draw.proofs.Pages.{bare_first, down_by, far_start, far_test, near_start, one_more, open_after}
use Rattle.com_laws_boxes.specs.Boxes.{GroundsAreBare, IsBare}
use Rattle.com_laws_boxes.specs.Pieces.{grounds}
use Rattle.com_laws_boxes.proofs.Grounds.{Based, HomeBegun, Lying, as_open, lies_on, next_section, section_nests}
use Rattle.com_laws_boxes.proofs.Lanes.{keeps_home}
use Rattle.com_laws_boxes.proofs.Moves.{Lies, closed_at, moves, moves_above}

-- ---- the boxes of a lane

abbrev pub lane_below : Start → (cycle : List ℕ) → (lane : ℕ) → Option Lane → List Placed
lane_below here cycle l v =
    grounds here l foot.Down (home_in v) ++ boxes_below here l (foot_in cycle l) 1 (openings_of v)

abbrev pub above_in : (row lane : ℕ) → Option Lane → List Placed
above_in n l v = if n == 1 then [] else lane_below (row_at (n - 1)) [] l v

abbrev pub front_in : (row lane : ℕ) → Option Lane → List Placed
front_in n l v = if opens_section n then above_in n l v else []

abbrev pub at_in : (place lane : ℕ) → Entry → Option Lane → List Placed
at_in n l e v =
    if nat_le n 5000 then front_in n l v ++ closed_at (start_of n) l e v
    else if n == 5001 then lane_below (row_at 5000) [] l v
    else []

abbrev pub written_in : Scenario → (lane : ℕ) → List Entry → List Placed
written_in s l [] = []
written_in s l (e ∷ h) = written_in s l h ++ at_in ((drawn s h).entries + 1) l e (lane_at (drawn s h).board.lanes l)

abbrev pub waits_in_lane : (row lane : ℕ) → Option Lane → List Wait → List Placed
waits_in_lane m l v [] = []
waits_in_lane m l v (w ∷ ws) = front_in m l v ++ waits_in_lane (m + 1) l v ws

abbrev pub last_in : (rows : ℕ) → (cycle : List ℕ) → (lane : ℕ) → Option Lane → List Placed
last_in m cycle l v = if m == 0 then [] else lane_below (row_at m) cycle l v

abbrev pub behind_in : (entries : ℕ) → (cycle : List ℕ) → (lane : ℕ) → List Wait → Option Lane → List Placed
behind_in n cycle l ws v = waits_in_lane (rows_of n + 1) l v ws ++ last_in (rows_of n + length ws) cycle l v

abbrev pub lane_list : Scenario → (lane : ℕ) → List Entry → Beside → List Placed
lane_list s l h x =
    written_in s l h
    ++ behind_in (drawn s h).entries (cycle_in x.waits) l (waits_in x.waits) (lane_at (drawn s h).board.lanes l)

-- ---- behind so many rows

abbrev Rows : (m : ℕ) → Option Lane → List Placed → Type 0
Rows m v xs = ((m ≡ 0) × Lies 1 0 v xs) ⊎ ((1 ≤ m) × Lies ((m - 1) / 40 + 1) ((m - 1) % 40 + 1) v xs)

none_more : (s r : ℕ) (v : Option Lane) (xs : List Placed) → Lies s r v xs → Lies s r v (xs ++ [])
none_more s r v xs w = subst (λ (ys : List Placed). Lies s r v ys) (sym (append-nil xs)) w

same_place : (s r z q : ℕ) (v : Option Lane) (xs : List Placed) → s ≡ z → r ≡ q → Lies s r v xs → Lies z q v xs
same_place s r z q v xs e f w =
    subst (λ (n : ℕ). Lies n q v xs) e (subst (λ (n : ℕ). Lies s n v xs) f w)

-- the first row
ready_first : (l : ℕ) (v : Option Lane) (xs : List Placed) → Lies 1 0 v xs
    → Lies ((1 - 1) / 40 + 1) ((1 - 1) % 40) v (xs ++ front_in 1 l v)
ready_first l v xs w = none_more 1 0 v xs w

-- a row within a section
ready_inner : (n : ℕ) (v : Option Lane) (xs : List Placed) → 2 ≤ n → ((n - 1) % 40 == 0) ≡ false
    → Lies ((n - 1 - 1) / 40 + 1) ((n - 1 - 1) % 40 + 1) v xs → Lies ((n - 1) / 40 + 1) ((n - 1) % 40) v (xs ++ [])
ready_inner n v xs h e w =
    let some : (n - 1) % 40 ≡ 0 → ⊥ = eqb-false ((n - 1) % 40) 0 e in
    let low : 1 ≤ (n - 1) % 40 = omega (arith, some) in
    let section : (n - 1 - 1) / 40 ≡ (n - 1) / 40 = omega (arith, h, low) in
    let row : (n - 1 - 1) % 40 + 1 ≡ (n - 1) % 40 = omega (arith, h, low, section) in
    none_more ((n - 1) / 40 + 1) ((n - 1) % 40) v xs
    (same_place ((n - 1 - 1) / 40 + 1) ((n - 1 - 1) % 40 + 1) ((n - 1) / 40 + 1) ((n - 1) % 40) v xs
    (ap (λ (k : ℕ). k + 1) section) row w)

below_some : (n l : ℕ) (v : Option Lane) (t : Bool) → t ≡ false
    → (if t then [] else lane_below (row_at (n - 1)) [] l v) ≡ lane_below (row_at (n - 1)) [] l v
below_some n l v true e = absurd (true≢false e)
below_some n l v false e = refl

-- a row with which a section begins
ready_next : (n l : ℕ) (v : Option Lane) (xs : List Placed) → 2 ≤ n → (n - 1) % 40 ≡ 0
    → Lies ((n - 1 - 1) / 40 + 1) ((n - 1 - 1) % 40 + 1) v xs
    → Lies ((n - 1) / 40 + 1) ((n - 1) % 40) v (xs ++ above_in n l v)
ready_next n l v xs h e w =
    subst (λ (ys : List Placed). Lies ((n - 1) / 40 + 1) ((n - 1) % 40) v (xs ++ ys))
    (sym (below_some n l v (n == 1) (ne_eqb n 1 (λ one. absurd (omega (arith, h, one))))))
    (next_section ((n - 1 - 1) / 40 + 1) ((n - 1) / 40 + 1) ((n - 1 - 1) % 40) ((n - 1) % 40) l foot.Down (home_in v) (openings_of v) xs
    refl (omega (arith, h, e)) w)

ready_later : (n l : ℕ) (v : Option Lane) (xs : List Placed) (t : Bool) → 2 ≤ n → ((n - 1) % 40 == 0) ≡ t
    → Lies ((n - 1 - 1) / 40 + 1) ((n - 1 - 1) % 40 + 1) v xs
    → Lies ((n - 1) / 40 + 1) ((n - 1) % 40) v (xs ++ (if t then above_in n l v else []))
ready_later n l v xs true h e w = ready_next n l v xs h (eqb-true ((n - 1) % 40) 0 e) w
ready_later n l v xs false h e w = ready_inner n v xs h e w

-- a row begins
ready : (m n l : ℕ) (v : Option Lane) (xs : List Placed) → n ≡ m + 1 → Rows m v xs
    → Lies ((n - 1) / 40 + 1) ((n - 1) % 40) v (xs ++ front_in n l v)
ready m n l v xs e (inl w) =
    let one : 1 ≡ n = omega (arith, e, w.0) in
    subst (λ (k : ℕ). Lies ((k - 1) / 40 + 1) ((k - 1) % 40) v (xs ++ front_in k l v)) one (ready_first l v xs w.1)
ready m n l v xs e (inr w) =
    let more : 1 ≤ m = w.0 in
    let two : 2 ≤ n = omega (arith, e, more) in
    let less : m ≡ n - 1 = omega (arith, e) in
    ready_later n l v xs ((n - 1) % 40 == 0) two refl
    (subst (λ (k : ℕ). Lies ((k - 1) / 40 + 1) ((k - 1) % 40 + 1) v xs) less w.1)

-- ---- entries

near_boxes : (n l : ℕ) (e : Entry) (v : Option Lane) → n ≤ 5000 → at_in n l e v ≡ front_in n l v ++ closed_at (start_of n) l e v
near_boxes n l e v h =
    ap (λ (t : Bool). if t then front_in n l v ++ closed_at (start_of n) l e v
    else if n == 5001 then lane_below (row_at 5000) [] l v else []) (le-leb n 5000 h)

next_boxes : (n l : ℕ) (e : Entry) (v : Option Lane) → n ≡ 5001 → at_in n l e v ≡ lane_below (row_at 5000) [] l v
next_boxes n l e v h =
    ap (λ (t : Bool). if t then front_in n l v ++ closed_at (start_of n) l e v
    else if n == 5001 then lane_below (row_at 5000) [] l v else []) (far_test n (omega (arith, h)))
    ∙ ap (λ (t : Bool). if t then lane_below (row_at 5000) [] l v else []) (eq-eqb n 5001 h)

far_boxes : (n l : ℕ) (e : Entry) (v : Option Lane) → 5001 < n → at_in n l e v ≡ []
far_boxes n l e v h =
    ap (λ (t : Bool). if t then front_in n l v ++ closed_at (start_of n) l e v
    else if n == 5001 then lane_below (row_at 5000) [] l v else []) (far_test n (omega (arith, h)))
    ∙ ap (λ (t : Bool). if t then lane_below (row_at 5000) [] l v else [])
    (ne_eqb n 5001 (λ e. absurd (omega (arith, h, e))))

-- up to the limit so many rows were drawn; behind it no section is open
abbrev Stands : (n : ℕ) → Option Lane → List Placed → Type 0
Stands n v xs = ((n ≤ 5000) × Rows n v xs) ⊎ ((5000 < n) × Lies 126 0 v xs)

abbrev lane_now : (n l : ℕ) → Entry → State → Option Lane
lane_now n l e b = lane_at (changed (start_of n) e b).lanes l

-- an entry with a row
near : (m n l : ℕ) (e : Entry) (b : State) (xs : List Placed) → IsBare b e → n ≡ m + 1 → n ≤ 5000 → Rows m (lane_at b.lanes l) xs
    → Rows n (lane_now n l e b) (xs ++ at_in n l e (lane_at b.lanes l))
near m n l e b xs bare is h w =
    inr (
      omega (arith, is),
      subst (λ (ys : List Placed). Lies ((n - 1) / 40 + 1) ((n - 1) % 40 + 1) (lane_now n l e b) (xs ++ ys))
          (sym (near_boxes n l e (lane_at b.lanes l) h))
          (subst (λ (ys : List Placed). Lies ((n - 1) / 40 + 1) ((n - 1) % 40 + 1) (lane_now n l e b) ys)
          (append_assoc xs (front_in n l (lane_at b.lanes l)) (closed_at (start_of n) l e (lane_at b.lanes l)))
          (subst (λ (here : Start). Lies ((n - 1) / 40 + 1) ((n - 1) % 40 + 1) (lane_at (changed here e b).lanes l)
          ((xs ++ front_in n l (lane_at b.lanes l)) ++ closed_at here l e (lane_at b.lanes l))) (sym (near_start n h))
          (moves ((n - 1) / 40 + 1) ((n - 1) % 40) l e b (xs ++ front_in n l (lane_at b.lanes l)) bare
          (ready m n l (lane_at b.lanes l) xs is w)))),
    )

above_limit : (n : ℕ) → 5000 < n → (start_of n).section < 126
above_limit n h = let k : (start_of n).section ≡ 125 = far_start n h in omega (arith, k)

-- the first entry without a row
first_far : (n l : ℕ) (e : Entry) (b : State) (xs : List Placed) → n ≡ 5001 → Rows 5000 (lane_at b.lanes l) xs
    → Lies 126 0 (lane_now n l e b) (xs ++ at_in n l e (lane_at b.lanes l))
first_far n l e b xs is (inl w) = absurd (omega (arith, w.0))
first_far n l e b xs is (inr w) =
    subst (λ (ys : List Placed). Lies 126 0 (lane_now n l e b) (xs ++ ys)) (sym (next_boxes n l e (lane_at b.lanes l) is))
    (moves_above (start_of n) 126 l e b (xs ++ lane_below (row_at 5000) [] l (lane_at b.lanes l)) (above_limit n (omega (arith, is)))
    (next_section 125 126 39 0 l foot.Down (home_in (lane_at b.lanes l)) (open_in b l) xs refl (omega arith) w.1))

later_far : (n l : ℕ) (e : Entry) (b : State) (xs : List Placed) → 5001 < n → Lies 126 0 (lane_at b.lanes l) xs
    → Lies 126 0 (lane_now n l e b) (xs ++ at_in n l e (lane_at b.lanes l))
later_far n l e b xs h w =
    subst (λ (ys : List Placed). Lies 126 0 (lane_now n l e b) (xs ++ ys)) (sym (far_boxes n l e (lane_at b.lanes l) h))
    (none_more 126 0 (lane_now n l e b) xs (moves_above (start_of n) 126 l e b xs (above_limit n (omega (arith, h))) w))

stands_by : (m n l : ℕ) (e : Entry) (b : State) (xs : List Placed) (t : Bool) → IsBare b e → n ≡ m + 1 → nat_le n 5000 ≡ t
    → Stands m (lane_at b.lanes l) xs → Stands n (lane_now n l e b) (xs ++ at_in n l e (lane_at b.lanes l))
stands_by m n l e b xs true bare is test (inl w) =
    let h : n ≤ 5000 = leb-true n 5000 test in inl (h, near m n l e b xs bare is h w.1)
stands_by m n l e b xs true bare is test (inr w) =
    let h : n ≤ 5000 = leb-true n 5000 test in let k : 5000 < m = w.0 in absurd (omega (arith, is, h, k))
stands_by m n l e b xs false bare is test (inl w) =
    let h : 5000 < n = leb-false n 5000 test in
    let k : m ≤ 5000 = w.0 in
    let all : m ≡ 5000 = omega (arith, is, h, k) in
    inr (h, first_far n l e b xs (omega (arith, is, all)) (subst (λ (c : ℕ). Rows c (lane_at b.lanes l) xs) all w.1))
stands_by m n l e b xs false bare is test (inr w) =
    let h : 5000 < n = leb-false n 5000 test in
    let k : 5000 < m = w.0 in
    inr (h, later_far n l e b xs (omega (arith, is, k)) w.1)

-- ---- a history

label_keeps : (l d n : ℕ) (e : Entry) (b : State) (t : Bool)
    → home_in (lane_at (if t then with_lanes (with_lane (widened (label_width d n)) e.lane b.lanes) b else b).lanes l)
    ≡ home_in (lane_at b.lanes l)
label_keeps l d n e b true = keeps_home (widened (label_width d n)) (λ row. refl) b.lanes e.lane l
label_keeps l d n e b false = refl

home_after : (s : Scenario) (p : Picture) (e : Entry) (l : ℕ)
    → home_in (lane_at (after s p e).board.lanes l) ≡ home_in (lane_now (p.entries + 1) l e p.board)
unfolding after
home_after s p e l =
    label_keeps l (seen p.board e).level (length (label s (seen p.board e).context e)) e
    (changed (start_of (p.entries + 1)) e p.board) (has_label e.deed)

-- the same home and openings
lies_so : (s r : ℕ) (v w : Option Lane) (xs : List Placed) → home_in w ≡ home_in v → openings_of w ≡ openings_of v → Lies s r v xs → Lies s r w xs
lies_so s r v w xs e f k =
    subst (λ (g : Option Home). Lying s r g (openings_of w) xs) (sym e)
    (subst (λ (os : List Opening). Lying s r (home_in v) os xs) (sym f) k)

rows_so : (m : ℕ) (v w : Option Lane) (xs : List Placed) → home_in w ≡ home_in v → openings_of w ≡ openings_of v → Rows m v xs → Rows m w xs
rows_so m v w xs e f (inl k) = inl (k.0, lies_so 1 0 v w xs e f k.1)
rows_so m v w xs e f (inr k) = inr (k.0, lies_so ((m - 1) / 40 + 1) ((m - 1) % 40 + 1) v w xs e f k.1)

stands_so : (m : ℕ) (v w : Option Lane) (xs : List Placed) → home_in w ≡ home_in v → openings_of w ≡ openings_of v → Stands m v xs → Stands m w xs
stands_so m v w xs e f (inl k) = inl (k.0, rows_so m v w xs e f k.1)
stands_so m v w xs e f (inr k) = inr (k.0, lies_so 126 0 v w xs e f k.1)

-- each home that a lane has at first was entered above the first section
first_based : (v : Option Lane) → openings_of v ≡ [] → (g : Option Home) → HomeBegun 1 g → Based 1 0 g (openings_of v) []
first_based v none None h = tt
first_based v none (Some g) h =
    record { begun = h; later = subst (λ (os : List Opening). Each (Later 1 (as_open g)) os) (sym none) tt; under = tt }

first_lies : (v : Option Lane) → openings_of v ≡ [] → HomeBegun 1 (home_in v) → Lies 1 0 v []
first_lies v none h = record {
  drawing =
      subst (λ (os : List Opening). Drawing 1 0 os []) (sym none)
      (record { begun = tt; sorted = tt; past = tt; under = tt; nest = tt });
  base = first_based v none (home_in v) h;
}

abbrev Settled : Lane → Type 0
Settled row = HomeBegun 1 row.home

settled_copies : (n : ℕ) (row : Lane) → Settled row → Each Settled (copies n row)
settled_copies zero row h = tt
settled_copies (suc n) row h = (h, settled_copies n row h)

settled_get : (lanes : List Lane) (i : ℕ) → Each Settled lanes → HomeBegun 1 (home_in (slice_get lanes i))
settled_get [] zero h = tt
settled_get [] (suc i) h = tt
settled_get (x ∷ xs) zero h = h.0
settled_get (x ∷ xs) (suc i) h = settled_get xs i h.1

settled_by : (lanes : List Lane) (l : ℕ) (t : Bool) → Each Settled lanes → HomeBegun 1 (home_in (if t then None else slice_get lanes (l - 1)))
settled_by lanes l true h = tt
settled_by lanes l false h = settled_get lanes (l - 1) h

above_first : (a : ℕ) → HomeBegun 1 (Some (home_from_above a))
above_first a = (omega arith, λ e. absurd (omega (arith, e)))

settled_first : (t p l : ℕ) → HomeBegun 1 (home_in (lane_at (first_board t p).lanes l))
settled_first t p l =
    settled_by (copies t (new_lane None) ++ copies 1 (new_lane (Some (home_from_above 2))) ++ copies p (new_lane (Some (home_from_above 1)))) l
    (l == 0)
    (each_append Settled (copies t (new_lane None) ++ copies 1 (new_lane (Some (home_from_above 2)))) (copies p (new_lane (Some (home_from_above 1))))
    (each_append Settled (copies t (new_lane None)) (copies 1 (new_lane (Some (home_from_above 2))))
    (settled_copies t (new_lane None) tt) (settled_copies 1 (new_lane (Some (home_from_above 2))) (above_first 2)))
    (settled_copies p (new_lane (Some (home_from_above 1))) (above_first 1)))

-- behind each history
stands : (s : Scenario) (l : ℕ) (h : List Entry) → GroundsAreBare s h
    → Stands (drawn s h).entries (lane_at (drawn s h).board.lanes l) (written_in s l h)
stands s l [] bare =
    inl (
      omega arith,
      inl (
        refl,
        first_lies (lane_at (first_board (threads s) s.pool).lanes l) (bare_first (threads s) s.pool l)
            (settled_first (threads s) s.pool l),
      ),
    )
stands s l (e ∷ h) bare =
    subst (λ (n : ℕ). Stands n (lane_at (after s (drawn s h) e).board.lanes l)
    (written_in s l h ++ at_in ((drawn s h).entries + 1) l e (lane_at (drawn s h).board.lanes l))) (sym (one_more s (drawn s h) e))
    (stands_so ((drawn s h).entries + 1) (lane_now ((drawn s h).entries + 1) l e (drawn s h).board)
    (lane_at (after s (drawn s h) e).board.lanes l)
    (written_in s l h ++ at_in ((drawn s h).entries + 1) l e (lane_at (drawn s h).board.lanes l))
    (home_after s (drawn s h) e l) (open_after s (drawn s h) e l)
    (stands_by (drawn s h).entries ((drawn s h).entries + 1) l e (drawn s h).board (written_in s l h)
    (nat_le ((drawn s h).entries + 1) 5000) bare.1 refl refl (stands s l h bare.0)))

-- ---- behind the entries

all_rows : (n : ℕ) (v : Option Lane) (xs : List Placed) (t : Bool) → nat_le n 5000 ≡ t → Stands n v xs
    → Rows (if t then n else 5001) v xs
all_rows n v xs true e (inl w) = w.1
all_rows n v xs true e (inr w) =
    let h : n ≤ 5000 = leb-true n 5000 e in let k : 5000 < n = w.0 in absurd (omega (arith, h, k))
all_rows n v xs false e (inl w) =
    let h : 5000 < n = leb-false n 5000 e in let k : n ≤ 5000 = w.0 in absurd (omega (arith, h, k))
all_rows n v xs false e (inr w) = inr (omega arith, lies_on 126 0 1 (home_in v) (openings_of v) xs (omega arith) w.1)

no_more_rows : (m k : ℕ) (v : Option Lane) (xs : List Placed) → m ≡ k → Rows m v xs → Rows k v (xs ++ [])
no_more_rows m k v xs e w =
    subst (λ (n : ℕ). Rows n v (xs ++ [])) e (subst (λ (ys : List Placed). Rows m v ys) (sym (append-nil xs)) w)

-- the rows of lanes that wait
waiting : (m n l : ℕ) (v : Option Lane) (ws : List Wait) (xs : List Placed) → n ≡ m + 1 → Rows m v xs
    → Rows (m + length ws) v (xs ++ waits_in_lane n l v ws)
waiting m n l v [] xs e w = no_more_rows m (m + 0) v xs (omega arith) w
waiting m n l v (x ∷ ws) xs e w =
    let one : Rows n v (xs ++ front_in n l v) =
    inr (
      omega (arith, e),
      lies_on ((n - 1) / 40 + 1) ((n - 1) % 40) ((n - 1) % 40 + 1) (home_in v) (openings_of v) (xs ++ front_in n l v)
          (omega arith) (ready m n l v xs e w),
    ) in
    let count : n + length ws ≡ m + length (x ∷ ws) = omega (arith, e) in
    subst (λ (k : ℕ). Rows k v (xs ++ (front_in n l v ++ waits_in_lane (n + 1) l v ws))) count
    (subst (λ (ys : List Placed). Rows (n + length ws) v ys)
    (append_assoc xs (front_in n l v) (waits_in_lane (n + 1) l v ws))
    (waiting n (n + 1) l v ws (xs ++ front_in n l v) refl one))

rows_nest : (m : ℕ) (v : Option Lane) (xs : List Placed) → Rows m v xs → AllNest xs
rows_nest m v xs (inl w) = w.1.drawing.nest
rows_nest m v xs (inr w) = w.1.drawing.nest

-- the end of the last section
last_nests : (m l : ℕ) (cycle : List ℕ) (v : Option Lane) (xs : List Placed) (t : Bool) → (m == 0) ≡ t → Rows m v xs
    → AllNest (xs ++ (if t then [] else lane_below (row_at m) cycle l v))
last_nests m l cycle v xs true e w =
    subst (λ (ys : List Placed). AllNest ys) (sym (append-nil xs)) (rows_nest m v xs w)
last_nests m l cycle v xs false e (inl w) = absurd (eqb-false m 0 e w.0)
last_nests m l cycle v xs false e (inr w) =
    section_nests ((m - 1) / 40 + 1) ((m - 1) % 40) l (foot_in cycle l) (home_in v) (openings_of v) xs (down_by (is_member l cycle)) w.1

behind_nests : (n l : ℕ) (cycle : List ℕ) (ws : List Wait) (v : Option Lane) (xs : List Placed) → Stands n v xs
    → AllNest (xs ++ behind_in n cycle l ws v)
behind_nests n l cycle ws v xs w =
    subst (λ (ys : List Placed). AllNest ys)
    (append_assoc xs (waits_in_lane (rows_of n + 1) l v ws) (last_in (rows_of n + length ws) cycle l v))
    (last_nests (rows_of n + length ws) l cycle v (xs ++ waits_in_lane (rows_of n + 1) l v ws) (rows_of n + length ws == 0) refl
    (waiting (rows_of n) (rows_of n + 1) l v ws xs refl (all_rows n v xs (nat_le n 5000) refl w)))

-- the boxes of a lane nest, with its grounds
pub lane_nests : (s : Scenario) (l : ℕ) (h : List Entry) (x : Beside) → GroundsAreBare s h → AllNest (lane_list s l h x)
lane_nests s l h x bare =
    behind_nests (drawn s h).entries l (cycle_in x.waits) (waits_in x.waits) (lane_at (drawn s h).board.lanes l) (written_in s l h)
    (stands s l h bare)
