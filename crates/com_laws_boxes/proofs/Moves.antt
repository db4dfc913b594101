-- How an entry changes a lane and what is drawn of it.
use Rattle.std.proofs.Common.{◌≡◌, ℕ, List, [], ◌++◌, ◌+◌, ◌<◌, ◌⊎◌, inl, inr, Bool, true, false, ◌==◌}
use Rattle.std.proofs.Common.{refl, sym, subst, arith, append-nil, Option, Some, None, if◌then◌else◌}
use Rattle.std.proofs.lemmas.Bool.{eqb-false, eqb-true}
use Rattle.com_model.specs.declared.deeds.Deed.{Deed}
use Rattle.com_model.specs.declared.deeds.Deed.TheVariants as deed
use Rattle.com_model.specs.declared.deeds.Entry.{Entry}
use Rattle.com_draw_state.specs.declared.lanes.Home.{Home}
use Rattle.com_draw_state.specs.declared.lanes.Lane.{Lane}
use Rattle.com_draw_state.specs.declared.stacks.Opening.{Opening}
use Rattle.com_draw_state.specs.declared.stacks.Start.{Start}
use Rattle.com_draw_state.specs.Board.{State, with_lanes}
use Rattle.com_draw_state.specs.Lanes.{acted, lane_at, with_lane}
use Rattle.com_draw_words.specs.declared.boxes.Foot.TheVariants as foot
use Rattle.com_draw_shapes.specs.declared.effects.Closing.{Closing}
use Rattle.com_draw_shapes.specs.declared.effects.Closing.TheVariants as close
use Rattle.com_draw_shapes.specs.declared.effects.Opens.{Opens}
use Rattle.com_draw_shapes.specs.declared.effects.Opens.TheVariants as opens
use Rattle.com_draw_shapes.specs.Boxes.{home_in}
use Rattle.com_draw_shapes.specs.Changes.{changed, closed_on, opened_on, own_home}
use Rattle.com_draw_shapes.specs.Effects.{closed_by, opened_by}
use Rattle.com_laws_draw.specs.Boxes.{Placed, box_of_innermost}
use Rattle.com_laws_draw.specs.Lanes.{open_in, openings_of}
use Rattle.com_laws_draw.proofs.Nesting.{row_of}
use Rattle.com_laws_draw.proofs.Pages.{begun_after}
use Rattle.com_laws_draw.proofs.Steps.{stepped}
use Rattle.com_laws_draw.specs.Lanes as lane
use Rattle.com_laws_boxes.specs.Boxes.{IsBare, enters_home, leaves_home}
use Rattle.com_laws_boxes.specs.Pieces.{grounds}
use Rattle.com_laws_boxes.proofs.Grounds.{Based, HomeBegun, Lying, lies_closed, lies_entered, lies_fresh, lies_left, lies_on, lies_open}
use Rattle.com_laws_boxes.proofs.Lanes.{changed_other, changed_own, row_after, row_closes, row_opens}

-- the boxes of what an entry closes in its own lane
abbrev pub own_closed : Start → (lane : ℕ) → Closing → Option Lane → List Placed
own_closed here l close.Nothing v = []
own_closed here l (close.Home a) v = grounds here l foot.Inner (home_in v)
own_closed here l close.Innermost v = box_of_innermost here l (openings_of v)
own_closed here l (close.Cut o) v = []
own_closed here l (close.Life o) v = []

abbrev pub closed_at : Start → (lane : ℕ) → Entry → Option Lane → List Placed
closed_at here l e v = if e.lane == l then own_closed here l (closed_by e.deed) v else []

abbrev pub Lies : (s r : ℕ) → Option Lane → List Placed → Type 0
Lies s r v xs = Lying s r (home_in v) (openings_of v) xs

-- an entry opens nothing or closes nothing
one_way : (hh : Bool) (d : Deed) → (opened_by hh d ≡ opens.Nothing) ⊎ (closed_by d ≡ close.Nothing)
one_way hh (deed.Uninit home count) = inl refl
one_way hh deed.EndPump = inl refl
one_way hh (deed.Leave call hr value bytes) = inl refl
one_way hh (deed.Back call hr value) = inl refl
one_way hh (deed.Disconnect object hr) = inl refl
one_way hh (deed.Final object) = inl refl
one_way hh _ = inr refl

-- ---- in its own lane

still : (s r : ℕ) (v : Option Home) (os : List Opening) (xs : List Placed) → Lying s r v os xs → Lying s (r + 1) v os (xs ++ [])
still s r v os xs k =
    subst (λ (ys : List Placed). Lying s (r + 1) v os ys) (sym (append-nil xs)) (lies_on s r (r + 1) v os xs (omega arith) k)

closes_row : (s r l : ℕ) (c : Closing) (row : Lane) (xs : List Placed) → (leaves_home c ≡ true → row.openings ≡ [])
    → Lying s r row.home row.openings xs
    → Lies s (r + 1) (Some (row_closes c (acted row))) (xs ++ own_closed (row_of s r) l c (Some row))
closes_row s r l close.Nothing row xs bare k = still s r row.home row.openings xs k
closes_row s r l (close.Home a) row xs bare k = lies_left s r l row.home row.openings xs (bare refl) k
closes_row s r l close.Innermost row xs bare k = lies_closed s r l row.home row.openings xs k
closes_row s r l (close.Cut o) row xs bare k = still s r row.home row.openings xs k
closes_row s r l (close.Life o) row xs bare k = still s r row.home row.openings xs k

opens_row : (s r : ℕ) (o : Opens) (row : Lane) (xs : List Placed) → (enters_home o ≡ true → row.openings ≡ [])
    → Lying s r row.home row.openings xs → Lies s (r + 1) (Some (row_opens (row_of s r) o row)) xs
opens_row s r opens.Nothing row xs bare k = lies_on s r (r + 1) row.home row.openings xs (omega arith) k
opens_row s r (opens.Home a) row xs bare k = lies_entered s r a row.home row.openings xs (bare refl) k
opens_row s r (opens.Life o a) row xs bare k = lies_on s r (r + 1) row.home row.openings xs (omega arith) k
opens_row s r (opens.Level w) row xs bare k = lies_open s r w row.home row.openings xs k

no_row : (s r l : ℕ) (c : Closing) (xs : List Placed) → Lying s r None [] xs
    → Lying s (r + 1) None [] (xs ++ own_closed (row_of s r) l c None)
no_row s r l close.Nothing xs k = still s r None [] xs k
no_row s r l (close.Home a) xs k = still s r None [] xs k
no_row s r l close.Innermost xs k = still s r None [] xs k
no_row s r l (close.Cut o) xs k = still s r None [] xs k
no_row s r l (close.Life o) xs k = still s r None [] xs k

own_move : (s r l : ℕ) (o : Opens) (c : Closing) (v : Option Lane) (xs : List Placed) → (o ≡ opens.Nothing) ⊎ (c ≡ close.Nothing)
    → (enters_home o ≡ true → openings_of v ≡ []) → (leaves_home c ≡ true → openings_of v ≡ []) → Lies s r v xs
    → Lies s (r + 1) (row_after (row_of s r) o c v) (xs ++ own_closed (row_of s r) l c v)
own_move s r l o c None xs way enters leaves k = no_row s r l c xs k
own_move s r l o c (Some row) xs (inl e) enters leaves k =
    subst (λ (p : Opens). Lies s (r + 1) (row_after (row_of s r) p c (Some row)) (xs ++ own_closed (row_of s r) l c (Some row))) (sym e)
    (closes_row s r l c row xs leaves k)
own_move s r l o c (Some row) xs (inr e) enters leaves k =
    subst (λ (p : Closing). Lies s (r + 1) (row_after (row_of s r) o p (Some row)) (xs ++ own_closed (row_of s r) l p (Some row))) (sym e)
    (subst (λ (ys : List Placed). Lies s (r + 1) (Some (row_opens (row_of s r) o (acted row))) ys) (sym (append-nil xs))
    (opens_row s r o (acted row) xs enters k))

-- ---- in any lane

abbrev lane_then : (here : Start) (m l : ℕ) → Opens → Closing → State → Option Lane
lane_then here m l o c b = lane_at (closed_on here m c (opened_on here m o (with_lanes (with_lane acted m b.lanes) b))).lanes l

move_by : (s r l m : ℕ) (o : Opens) (c : Closing) (b : State) (xs : List Placed) (t : Bool) → (m == l) ≡ t
    → (o ≡ opens.Nothing) ⊎ (c ≡ close.Nothing) → (enters_home o ≡ true → open_in b m ≡ [])
    → (leaves_home c ≡ true → open_in b m ≡ []) → Lies s r (lane_at b.lanes l) xs
    → Lies s (r + 1) (lane_then (row_of s r) m l o c b) (xs ++ (if t then own_closed (row_of s r) l c (lane_at b.lanes l) else []))
move_by s r l m o c b xs true e way enters leaves k =
    let same : m ≡ l = eqb-true m l e in
    subst (λ (n : ℕ). Lies s (r + 1) (lane_then (row_of s r) n l o c b) (xs ++ own_closed (row_of s r) l c (lane_at b.lanes l))) (sym same)
    (subst (λ (v : Option Lane). Lies s (r + 1) v (xs ++ own_closed (row_of s r) l c (lane_at b.lanes l)))
    (sym (changed_own (row_of s r) l o c b))
    (own_move s r l o c (lane_at b.lanes l) xs way
    (λ h. subst (λ (n : ℕ). open_in b n ≡ []) same (enters h)) (λ h. subst (λ (n : ℕ). open_in b n ≡ []) same (leaves h)) k))
move_by s r l m o c b xs false e way enters leaves k =
    subst (λ (v : Option Lane). Lies s (r + 1) v (xs ++ [])) (sym (changed_other (row_of s r) m l o c b (eqb-false m l e)))
    (still s r (home_in (lane_at b.lanes l)) (openings_of (lane_at b.lanes l)) xs k)

-- an entry in a row
pub moves : (s r l : ℕ) (e : Entry) (b : State) (xs : List Placed) → IsBare b e → Lies s r (lane_at b.lanes l) xs
    → Lies s (r + 1) (lane_at (changed (row_of s r) e b).lanes l) (xs ++ closed_at (row_of s r) l e (lane_at b.lanes l))
unfolding changed
moves s r l e b xs bare k =
    move_by s r l e.lane (opened_by (own_home (lane_at b.lanes e.lane)) e.deed) (closed_by e.deed) b xs (e.lane == l) refl
    (one_way (own_home (lane_at b.lanes e.lane)) e.deed) bare.enters bare.leaves k

-- ---- behind the limit

home_opened : (here : Start) (z : ℕ) (o : Opens) (row : Lane) → here.section < z → HomeBegun z row.home
    → HomeBegun z (row_opens here o row).home
home_opened here z opens.Nothing row h b = b
home_opened here z (opens.Home a) row h b = (omega (arith, h), λ e. absurd (omega (arith, h, e)))
home_opened here z (opens.Life o a) row h b = b
home_opened here z (opens.Level w) row h b = b

home_closed : (z : ℕ) (c : Closing) (row : Lane) → HomeBegun z row.home → HomeBegun z (row_closes c row).home
home_closed z close.Nothing row b = b
home_closed z (close.Home a) row b = tt
home_closed z close.Innermost row b = b
home_closed z (close.Cut o) row b = b
home_closed z (close.Life o) row b = b

home_then : (here : Start) (z : ℕ) (o : Opens) (c : Closing) (v : Option Lane) → here.section < z → HomeBegun z (home_in v)
    → HomeBegun z (home_in (row_after here o c v))
home_then here z o c None h b = b
home_then here z o c (Some row) h b = home_closed z c (row_opens here o (acted row)) (home_opened here z o (acted row) h b)

home_by : (here : Start) (z m l : ℕ) (o : Opens) (c : Closing) (b : State) (t : Bool) → (m == l) ≡ t → here.section < z
    → HomeBegun z (home_in (lane_at b.lanes l)) → HomeBegun z (home_in (lane_then here m l o c b))
home_by here z m l o c b true e h k =
    subst (λ (n : ℕ). HomeBegun z (home_in (lane_then here n l o c b))) (sym (eqb-true m l e))
    (subst (λ (v : Option Lane). HomeBegun z (home_in v)) (sym (changed_own here l o c b)) (home_then here z o c (lane_at b.lanes l) h k))
home_by here z m l o c b false e h k =
    subst (λ (v : Option Lane). HomeBegun z (home_in v)) (sym (changed_other here m l o c b (eqb-false m l e))) k

home_after : (here : Start) (z l : ℕ) (e : Entry) (b : State) → here.section < z → HomeBegun z (home_in (lane_at b.lanes l))
    → HomeBegun z (home_in (lane_at (changed here e b).lanes l))
unfolding changed
home_after here z l e b h k =
    home_by here z e.lane l (opened_by (own_home (lane_at b.lanes e.lane)) e.deed) (closed_by e.deed) b (e.lane == l) refl h k

begun_of : (z : ℕ) (v : Option Home) (os : List Opening) (xs : List Placed) → Based z 0 v os xs → HomeBegun z v
begun_of z None os xs k = tt
begun_of z (Some g) os xs k = k.begun

-- an entry without a row, in a section above
pub moves_above : (here : Start) (z l : ℕ) (e : Entry) (b : State) (xs : List Placed) → here.section < z
    → Lies z 0 (lane_at b.lanes l) xs → Lies z 0 (lane_at (changed here e b).lanes l) xs
moves_above here z l e b xs h k =
    lies_fresh z (open_in b l) (open_in (changed here e b) l) (home_in (lane_at (changed here e b).lanes l)) xs
    (home_after here z l e b h (begun_of z (home_in (lane_at b.lanes l)) (open_in b l) xs k.base))
    (begun_after here l e (open_in b l) (open_in (changed here e b) l) (lane.boxes_of here l e b) z h k.drawing.begun (stepped here l e b))
    k.drawing
