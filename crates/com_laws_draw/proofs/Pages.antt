-- The boxes of a lane in a page, row by row.
use Rattle.std.proofs.Common.{◌≡◌, ℕ, List, [], ◌∷◌, ◌++◌, ◌+◌, ◌-◌, ◌/◌, ◌%◌, ◌<◌, ◌≤◌, length, ◌⊎◌, inl, inr, Bool, true, false, ◌==◌}
use Rattle.std.proofs.Common.{refl, ap, sym, subst, ◌∙◌, arith, append-nil, append_assoc, if◌then◌else◌, nat_le, Some, None}
use Rattle.std.proofs.lemmas.Bool.{eq-eqb, eqb-false, eqb-true, false_from_ne_true, le-leb, leb-false, leb-true, ne_eqb, true≢false}
use Rattle.com_model.specs.declared.deeds.Entry.{Entry}
use Rattle.com_model.specs.declared.scenario.Scenario.{Scenario}
use Rattle.com_model.specs.Lists.{is_member}
use Rattle.com_model.specs.Tables.{threads}
use Rattle.com_waits.specs.declared.reasons.Wait.{Wait}
use Rattle.com_draw_state.specs.declared.stacks.Opening.{Opening}
use Rattle.com_draw_state.specs.declared.stacks.Start.{Start}
use Rattle.com_draw_state.specs.Board.{State, copies, first_board, home_from_above, with_lanes}
use Rattle.com_draw_state.specs.Lanes.{new_lane, widened, with_lane}
use Rattle.com_draw_state.specs.Stacks.{outer}
use Rattle.com_draw_words.specs.declared.boxes.Foot.TheVariants as foot
use Rattle.com_draw_words.specs.Labels.{label_width}
use Rattle.com_draw_labels.specs.Looks.{has_label}
use Rattle.com_draw_labels.specs.Labels.{label}
use Rattle.com_draw_shapes.specs.Changes.{changed}
use Rattle.com_draw_shapes.specs.Places.{row_at, start_of}
use Rattle.com_draw_shapes.specs.Sections.{foot_in}
use Rattle.com_draw.specs.declared.beside.Beside.{Beside}
use Rattle.com_draw.specs.Ends.{rows_of}
use Rattle.com_draw.specs.Entries.{after, drawn, seen}
use Rattle.com_draw.specs.Pictures.{Picture}
use Rattle.com_draw.specs.Reasons.{cycle_in, waits_in}
use Rattle.com_laws_draw.specs.Boxes.{AllNest, Each, Placed, boxes_below, is_down}
use Rattle.com_laws_draw.specs.Lanes.{boxes_above, boxes_at, boxes_before, boxes_behind, boxes_in, boxes_last, boxes_of, boxes_of_waits, boxes_written, open_in}
use Rattle.com_laws_draw.proofs.Lanes.{Bare, bare_copies, bare_in, keeps}
use Rattle.com_laws_draw.proofs.Lists.{each_append, each_take}
use Rattle.com_laws_draw.proofs.Nesting.{Begun, Drawing, below_nest, closes, fresh, goes_on, next_section, opens}
use Rattle.com_laws_draw.proofs.Steps.{Stepped, closed, kept, opened, stepped}

-- ---- behind so many rows

abbrev pub Rows : (m : ℕ) → List Opening → List Placed → Type 0
Rows m os xs = ((m ≡ 0) × Drawing 1 0 os xs) ⊎ ((1 ≤ m) × Drawing ((m - 1) / 40 + 1) ((m - 1) % 40 + 1) os xs)

none_more : (s r : ℕ) (os : List Opening) (xs : List Placed) → Drawing s r os xs → Drawing s r os (xs ++ [])
none_more s r os xs w = subst (λ (ys : List Placed). Drawing s r os ys) (sym (append-nil xs)) w

same_place : (s r z q : ℕ) (os : List Opening) (xs : List Placed) → s ≡ z → r ≡ q → Drawing s r os xs → Drawing z q os xs
same_place s r z q os xs e f w =
    subst (λ (n : ℕ). Drawing n q os xs) e (subst (λ (n : ℕ). Drawing s n os xs) f w)

-- the first row
ready_first : (l : ℕ) (b : State) (xs : List Placed) → Drawing 1 0 (open_in b l) xs
    → Drawing ((1 - 1) / 40 + 1) ((1 - 1) % 40) (open_in b l) (xs ++ boxes_above 1 l b)
ready_first l b xs w = none_more 1 0 (open_in b l) xs w

-- a row within a section
ready_inner : (n l : ℕ) (b : State) (xs : List Placed) → 2 ≤ n → ((n - 1) % 40 == 0) ≡ false
    → Drawing ((n - 1 - 1) / 40 + 1) ((n - 1 - 1) % 40 + 1) (open_in b l) xs
    → Drawing ((n - 1) / 40 + 1) ((n - 1) % 40) (open_in b l) (xs ++ [])
ready_inner n l b xs h e w =
    let some : (n - 1) % 40 ≡ 0 → ⊥ = eqb-false ((n - 1) % 40) 0 e in
    let low : 1 ≤ (n - 1) % 40 = omega (arith, some) in
    let section : (n - 1 - 1) / 40 ≡ (n - 1) / 40 = omega (arith, h, low) in
    let row : (n - 1 - 1) % 40 + 1 ≡ (n - 1) % 40 = omega (arith, h, low, section) in
    none_more ((n - 1) / 40 + 1) ((n - 1) % 40) (open_in b l) xs
    (same_place ((n - 1 - 1) / 40 + 1) ((n - 1 - 1) % 40 + 1) ((n - 1) / 40 + 1) ((n - 1) % 40) (open_in b l) xs
    (ap (λ (k : ℕ). k + 1) section) row w)

below_some : (n l : ℕ) (b : State) (t : Bool) → t ≡ false
    → (if t then [] else boxes_below (row_at (n - 1)) l foot.Down 1 (open_in b l)) ≡ boxes_below (row_at (n - 1)) l foot.Down 1 (open_in b l)
below_some n l b true e = absurd (true≢false e)
below_some n l b false e = refl

-- a row with which a section begins
ready_next : (n l : ℕ) (b : State) (xs : List Placed) → 2 ≤ n → (n - 1) % 40 ≡ 0
    → Drawing ((n - 1 - 1) / 40 + 1) ((n - 1 - 1) % 40 + 1) (open_in b l) xs
    → Drawing ((n - 1) / 40 + 1) ((n - 1) % 40) (open_in b l) (xs ++ boxes_before n l b)
ready_next n l b xs h e w =
    subst (λ (ys : List Placed). Drawing ((n - 1) / 40 + 1) ((n - 1) % 40) (open_in b l) (xs ++ ys))
    (sym (below_some n l b (n == 1) (ne_eqb n 1 (λ one. absurd (omega (arith, h, one))))))
    (next_section ((n - 1 - 1) / 40 + 1) ((n - 1) / 40 + 1) ((n - 1 - 1) % 40) ((n - 1) % 40) l foot.Down (open_in b l) xs refl
    (omega (arith, h, e)) w)

ready_later : (n l : ℕ) (b : State) (xs : List Placed) (t : Bool) → 2 ≤ n → ((n - 1) % 40 == 0) ≡ t
    → Drawing ((n - 1 - 1) / 40 + 1) ((n - 1 - 1) % 40 + 1) (open_in b l) xs
    → Drawing ((n - 1) / 40 + 1) ((n - 1) % 40) (open_in b l) (xs ++ (if t then boxes_before n l b else []))
ready_later n l b xs true h e w = ready_next n l b xs h (eqb-true ((n - 1) % 40) 0 e) w
ready_later n l b xs false h e w = ready_inner n l b xs h e w

-- a row begins
ready : (m n l : ℕ) (b : State) (xs : List Placed) → n ≡ m + 1 → Rows m (open_in b l) xs
    → Drawing ((n - 1) / 40 + 1) ((n - 1) % 40) (open_in b l) (xs ++ boxes_above n l b)
ready m n l b xs e (inl w) =
    let one : 1 ≡ n = omega (arith, e, w.0) in
    subst (λ (k : ℕ). Drawing ((k - 1) / 40 + 1) ((k - 1) % 40) (open_in b l) (xs ++ boxes_above k l b)) one (ready_first l b xs w.1)
ready m n l b xs e (inr w) =
    let more : 1 ≤ m = w.0 in
    let two : 2 ≤ n = omega (arith, e, more) in
    let less : m ≡ n - 1 = omega (arith, e) in
    ready_later n l b xs ((n - 1) % 40 == 0) two refl
    (subst (λ (k : ℕ). Drawing ((k - 1) / 40 + 1) ((k - 1) % 40 + 1) (open_in b l) xs) less w.1)

-- ---- an entry that is drawn

made : (s r l : ℕ) (e : Entry) (was now : List Opening) (xs new : List Placed) → Drawing s r was xs
    → Stepped (record { section = s; row = r }) l e was now new → Drawing s (r + 1) now (xs ++ new)
made s r l e was now xs new w (kept same none) =
    subst (λ (os : List Opening). Drawing s (r + 1) os (xs ++ new)) (sym same)
    (subst (λ (ys : List Placed). Drawing s (r + 1) was (xs ++ ys)) (sym none)
    (none_more s (r + 1) was xs (goes_on s r (r + 1) was xs (omega arith) w)))
made s r l e was now xs new w (opened what ran same none) =
    subst (λ (os : List Opening). Drawing s (r + 1) os (xs ++ new)) (sym same)
    (subst (λ (ys : List Placed). Drawing s (r + 1) (was ++ record { what = what; start = record { section = s; row = r } } ∷ []) (xs ++ ys)) (sym none)
    (none_more s (r + 1) (was ++ record { what = what; start = record { section = s; row = r } } ∷ []) xs (opens s r what was xs w)))
made s r l e was now xs new w (closed same box) =
    subst (λ (os : List Opening). Drawing s (r + 1) os (xs ++ new)) (sym same)
    (subst (λ (ys : List Placed). Drawing s (r + 1) (outer was) (xs ++ ys)) (sym box) (closes s r l was xs w))

-- ---- an entry behind the limit

pub begun_after : (here : Start) (l : ℕ) (e : Entry) (was now : List Opening) (new : List Placed) (z : ℕ) → here.section < z
    → Each (Begun z 0) was → Stepped here l e was now new → Each (Begun z 0) now
begun_after here l e was now new z h b (kept same none) = subst (λ (os : List Opening). Each (Begun z 0) os) (sym same) b
begun_after here l e was now new z h b (opened what ran same none) =
    subst (λ (os : List Opening). Each (Begun z 0) os) (sym same)
    (each_append (Begun z 0) was (record { what = what; start = here } ∷ []) b
    ((omega (arith, h), λ e. absurd (omega (arith, h, e))), tt))
begun_after here l e was now new z h b (closed same box) =
    subst (λ (os : List Opening). Each (Begun z 0) os) (sym same) (each_take (Begun z 0) (length was - 1) was b)

behind : (here : Start) (l : ℕ) (e : Entry) (was now : List Opening) (xs new : List Placed) → here.section < 126
    → Drawing 126 0 was xs → Stepped here l e was now new → Drawing 126 0 now xs
behind here l e was now xs new h w step =
    fresh 126 was now xs (begun_after here l e was now new 126 h w.begun step) w

-- ---- a history

label_keeps : (l d n : ℕ) (e : Entry) (b : State) (t : Bool)
    → open_in (if t then with_lanes (with_lane (widened (label_width d n)) e.lane b.lanes) b else b) l ≡ open_in b l
label_keeps l d n e b true = keeps (widened (label_width d n)) (λ row. refl) b.lanes e.lane l
label_keeps l d n e b false = refl

pub open_after : (s : Scenario) (p : Picture) (e : Entry) (l : ℕ)
    → open_in (after s p e).board l ≡ open_in (changed (start_of (p.entries + 1)) e p.board) l
unfolding after
open_after s p e l =
    label_keeps l (seen p.board e).level (length (label s (seen p.board e).context e)) e
    (changed (start_of (p.entries + 1)) e p.board) (has_label e.deed)

pub one_more : (s : Scenario) (p : Picture) (e : Entry) → (after s p e).entries ≡ p.entries + 1
unfolding after
one_more s p e = refl

-- up to the limit so many rows were drawn; behind it no section is open
abbrev pub Stands : (n : ℕ) → List Opening → List Placed → Type 0
Stands n os xs = ((n ≤ 5000) × Rows n os xs) ⊎ ((5000 < n) × Drawing 126 0 os xs)

abbrev start_by : ℕ → Bool → Start
start_by n t = if t then row_at n else record { section = 125; row = 0 }

pub far_test : (n : ℕ) → 5000 < n → nat_le n 5000 ≡ false
far_test n h = false_from_ne_true (nat_le n 5000) (λ t. let k : n ≤ 5000 = leb-true n 5000 t in absurd (omega (arith, h, k)))

pub near_start : (n : ℕ) → n ≤ 5000 → start_of n ≡ row_at n
near_start n h = ap (λ (t : Bool). start_by n t) (le-leb n 5000 h)

pub far_start : (n : ℕ) → 5000 < n → (start_of n).section ≡ 125
far_start n h = ap (λ (t : Bool). (start_by n t).section) (far_test n h)

near_boxes : (n l : ℕ) (e : Entry) (b : State) → n ≤ 5000 → boxes_at n l e b ≡ boxes_above n l b ++ boxes_of (start_of n) l e b
near_boxes n l e b h =
    ap (λ (t : Bool). if t then boxes_above n l b ++ boxes_of (start_of n) l e b
    else if n == 5001 then boxes_below (row_at 5000) l foot.Down 1 (open_in b l) else []) (le-leb n 5000 h)

next_boxes : (n l : ℕ) (e : Entry) (b : State) → n ≡ 5001 → boxes_at n l e b ≡ boxes_below (row_at 5000) l foot.Down 1 (open_in b l)
next_boxes n l e b h =
    ap (λ (t : Bool). if t then boxes_above n l b ++ boxes_of (start_of n) l e b
    else if n == 5001 then boxes_below (row_at 5000) l foot.Down 1 (open_in b l) else []) (far_test n (omega (arith, h)))
    ∙ ap (λ (t : Bool). if t then boxes_below (row_at 5000) l foot.Down 1 (open_in b l) else []) (eq-eqb n 5001 h)

far_boxes : (n l : ℕ) (e : Entry) (b : State) → 5001 < n → boxes_at n l e b ≡ []
far_boxes n l e b h =
    ap (λ (t : Bool). if t then boxes_above n l b ++ boxes_of (start_of n) l e b
    else if n == 5001 then boxes_below (row_at 5000) l foot.Down 1 (open_in b l) else []) (far_test n (omega (arith, h)))
    ∙ ap (λ (t : Bool). if t then boxes_below (row_at 5000) l foot.Down 1 (open_in b l) else [])
    (ne_eqb n 5001 (λ e. absurd (omega (arith, h, e))))

-- an entry with a row
near : (m n l : ℕ) (e : Entry) (b : State) (now : List Opening) (xs : List Placed) → n ≡ m + 1 → n ≤ 5000 → Rows m (open_in b l) xs
    → Stepped (start_of n) l e (open_in b l) now (boxes_of (start_of n) l e b) → Rows n now (xs ++ boxes_at n l e b)
near m n l e b now xs is h w step =
    inr (
      omega (arith, is),
      subst (λ (ys : List Placed). Drawing ((n - 1) / 40 + 1) ((n - 1) % 40 + 1) now (xs ++ ys)) (sym (near_boxes n l e b h))
          (subst (λ (ys : List Placed). Drawing ((n - 1) / 40 + 1) ((n - 1) % 40 + 1) now ys)
          (append_assoc xs (boxes_above n l b) (boxes_of (start_of n) l e b))
          (made ((n - 1) / 40 + 1) ((n - 1) % 40) l e (open_in b l) now (xs ++ boxes_above n l b) (boxes_of (start_of n) l e b)
          (ready m n l b xs is w)
          (subst (λ (here : Start). Stepped here l e (open_in b l) now (boxes_of (start_of n) l e b)) (near_start n h) step))),
    )

-- the first entry without a row
first_far : (n l : ℕ) (e : Entry) (b : State) (now : List Opening) (xs : List Placed) → n ≡ 5001 → Rows 5000 (open_in b l) xs
    → Stepped (start_of n) l e (open_in b l) now (boxes_of (start_of n) l e b) → Drawing 126 0 now (xs ++ boxes_at n l e b)
first_far n l e b now xs is (inl w) step = absurd (omega (arith, w.0))
first_far n l e b now xs is (inr w) step =
    subst (λ (ys : List Placed). Drawing 126 0 now (xs ++ ys)) (sym (next_boxes n l e b is))
    (behind (start_of n) l e (open_in b l) now (xs ++ boxes_below (row_at 5000) l foot.Down 1 (open_in b l)) (boxes_of (start_of n) l e b)
    (let k : (start_of n).section ≡ 125 = far_start n (omega (arith, is)) in omega (arith, k))
    (next_section 125 126 39 0 l foot.Down (open_in b l) xs refl (omega arith) w.1) step)

later_far : (n l : ℕ) (e : Entry) (b : State) (now : List Opening) (xs : List Placed) → 5001 < n → Drawing 126 0 (open_in b l) xs
    → Stepped (start_of n) l e (open_in b l) now (boxes_of (start_of n) l e b) → Drawing 126 0 now (xs ++ boxes_at n l e b)
later_far n l e b now xs h w step =
    subst (λ (ys : List Placed). Drawing 126 0 now (xs ++ ys)) (sym (far_boxes n l e b h))
    (none_more 126 0 now xs
    (behind (start_of n) l e (open_in b l) now xs (boxes_of (start_of n) l e b)
    (let k : (start_of n).section ≡ 125 = far_start n (omega (arith, h)) in omega (arith, k)) w step))

stands_by : (m n l : ℕ) (e : Entry) (b : State) (now : List Opening) (xs : List Placed) (t : Bool) → n ≡ m + 1 → nat_le n 5000 ≡ t
    → Stands m (open_in b l) xs → Stepped (start_of n) l e (open_in b l) now (boxes_of (start_of n) l e b)
    → Stands n now (xs ++ boxes_at n l e b)
stands_by m n l e b now xs true is test (inl w) step =
    let h : n ≤ 5000 = leb-true n 5000 test in inl (h, near m n l e b now xs is h w.1 step)
stands_by m n l e b now xs true is test (inr w) step =
    let h : n ≤ 5000 = leb-true n 5000 test in let k : 5000 < m = w.0 in absurd (omega (arith, is, h, k))
stands_by m n l e b now xs false is test (inl w) step =
    let h : 5000 < n = leb-false n 5000 test in
    let k : m ≤ 5000 = w.0 in
    let all : m ≡ 5000 = omega (arith, is, h, k) in
    inr (h, first_far n l e b now xs (omega (arith, is, all)) (subst (λ (c : ℕ). Rows c (open_in b l) xs) all w.1) step)
stands_by m n l e b now xs false is test (inr w) step =
    let h : 5000 < n = leb-false n 5000 test in
    let k : 5000 < m = w.0 in
    inr (h, later_far n l e b now xs (omega (arith, is, k)) w.1 step)

pub bare_first : (t p l : ℕ) → open_in (first_board t p) l ≡ []
bare_first t p l =
    bare_in (copies t (new_lane None) ++ copies 1 (new_lane (Some (home_from_above 2))) ++ copies p (new_lane (Some (home_from_above 1)))) l
    (each_append Bare (copies t (new_lane None) ++ copies 1 (new_lane (Some (home_from_above 2)))) (copies p (new_lane (Some (home_from_above 1))))
    (each_append Bare (copies t (new_lane None)) (copies 1 (new_lane (Some (home_from_above 2))))
    (bare_copies t (new_lane None) refl) (bare_copies 1 (new_lane (Some (home_from_above 2))) refl))
    (bare_copies p (new_lane (Some (home_from_above 1))) refl))

-- behind each history
pub stands : (s : Scenario) (l : ℕ) (h : List Entry) → Stands (drawn s h).entries (open_in (drawn s h).board l) (boxes_written s l h)
stands s l [] =
    inl (
      omega arith,
      inl (
        refl,
        subst (λ (os : List Opening). Drawing 1 0 os []) (sym (bare_first (threads s) s.pool l))
            (record { begun = tt; sorted = tt; past = tt; under = tt; nest = tt }),
      ),
    )
stands s l (e ∷ h) =
    subst (λ (n : ℕ). Stands n (open_in (after s (drawn s h) e).board l)
    (boxes_written s l h ++ boxes_at ((drawn s h).entries + 1) l e (drawn s h).board)) (sym (one_more s (drawn s h) e))
    (stands_by (drawn s h).entries ((drawn s h).entries + 1) l e (drawn s h).board (open_in (after s (drawn s h) e).board l)
    (boxes_written s l h) (nat_le ((drawn s h).entries + 1) 5000) refl refl (stands s l h)
    (subst (λ (os : List Opening). Stepped (start_of ((drawn s h).entries + 1)) l e (open_in (drawn s h).board l) os
    (boxes_of (start_of ((drawn s h).entries + 1)) l e (drawn s h).board)) (sym (open_after s (drawn s h) e l))
    (stepped (start_of ((drawn s h).entries + 1)) l e (drawn s h).board)))

-- ---- behind the entries

all_rows : (n l : ℕ) (b : State) (xs : List Placed) (t : Bool) → nat_le n 5000 ≡ t → Stands n (open_in b l) xs
    → Rows (if t then n else 5001) (open_in b l) xs
all_rows n l b xs true e (inl w) = w.1
all_rows n l b xs true e (inr w) =
    let h : n ≤ 5000 = leb-true n 5000 e in let k : 5000 < n = w.0 in absurd (omega (arith, h, k))
all_rows n l b xs false e (inl w) =
    let h : 5000 < n = leb-false n 5000 e in let k : n ≤ 5000 = w.0 in absurd (omega (arith, h, k))
all_rows n l b xs false e (inr w) = inr (omega arith, goes_on 126 0 1 (open_in b l) xs (omega arith) w.1)

no_more_rows : (m k : ℕ) (os : List Opening) (xs : List Placed) → m ≡ k → Rows m os xs → Rows k os (xs ++ [])
no_more_rows m k os xs e w =
    subst (λ (n : ℕ). Rows n os (xs ++ [])) e (subst (λ (ys : List Placed). Rows m os ys) (sym (append-nil xs)) w)

-- the rows of lanes that wait
waiting : (m n l : ℕ) (b : State) (ws : List Wait) (xs : List Placed) → n ≡ m + 1 → Rows m (open_in b l) xs
    → Rows (m + length ws) (open_in b l) (xs ++ boxes_of_waits n l b ws)
waiting m n l b [] xs e w = no_more_rows m (m + 0) (open_in b l) xs (omega arith) w
waiting m n l b (v ∷ ws) xs e w =
    let one : Rows n (open_in b l) (xs ++ boxes_above n l b) =
    inr (
      omega (arith, e),
      goes_on ((n - 1) / 40 + 1) ((n - 1) % 40) ((n - 1) % 40 + 1) (open_in b l) (xs ++ boxes_above n l b)
          (omega arith) (ready m n l b xs e w),
    ) in
    let count : n + length ws ≡ m + length (v ∷ ws) = omega (arith, e) in
    subst (λ (k : ℕ). Rows k (open_in b l) (xs ++ (boxes_above n l b ++ boxes_of_waits (n + 1) l b ws))) count
    (subst (λ (ys : List Placed). Rows (n + length ws) (open_in b l) ys)
    (append_assoc xs (boxes_above n l b) (boxes_of_waits (n + 1) l b ws))
    (waiting n (n + 1) l b ws (xs ++ boxes_above n l b) refl one))

pub down_by : (t : Bool) → is_down (if t then foot.Ring else foot.Down) ≡ true
down_by true = refl
down_by false = refl

rows_nest : (m : ℕ) (os : List Opening) (xs : List Placed) → Rows m os xs → AllNest xs
rows_nest m os xs (inl w) = w.1.nest
rows_nest m os xs (inr w) = w.1.nest

-- the end of the last section
last_nest : (m l : ℕ) (cycle : List ℕ) (b : State) (xs : List Placed) (t : Bool) → (m == 0) ≡ t → Rows m (open_in b l) xs
    → AllNest (xs ++ (if t then [] else boxes_below (row_at m) l (foot_in cycle l) 1 (open_in b l)))
last_nest m l cycle b xs true e w =
    subst (λ (ys : List Placed). AllNest ys) (sym (append-nil xs)) (rows_nest m (open_in b l) xs w)
last_nest m l cycle b xs false e (inl w) = absurd (eqb-false m 0 e w.0)
last_nest m l cycle b xs false e (inr w) =
    below_nest ((m - 1) / 40 + 1) ((m - 1) % 40) l (foot_in cycle l) (open_in b l) xs (down_by (is_member l cycle)) w.1

behind_nest : (n l : ℕ) (cycle : List ℕ) (ws : List Wait) (b : State) (xs : List Placed) → Stands n (open_in b l) xs
    → AllNest (xs ++ boxes_behind n l cycle ws b)
behind_nest n l cycle ws b xs w =
    subst (λ (ys : List Placed). AllNest ys)
    (append_assoc xs (boxes_of_waits (rows_of n + 1) l b ws) (boxes_last (rows_of n + length ws) l cycle b))
    (last_nest (rows_of n + length ws) l cycle b (xs ++ boxes_of_waits (rows_of n + 1) l b ws) (rows_of n + length ws == 0) refl
    (waiting (rows_of n) (rows_of n + 1) l b ws xs refl (all_rows n l b xs (nat_le n 5000) refl w)))

-- the boxes of a lane in a page nest
pub page_nests : (s : Scenario) (l : ℕ) (h : List Entry) (x : Beside) → AllNest (boxes_in s l h x)
page_nests s l h x =
    behind_nest (drawn s h).entries l (cycle_in x.waits) (waits_in x.waits) (drawn s h).board (boxes_written s l h) (stands s l h)
