-- A lane where one lane is changed.
use Rattle.std.proofs.Common.{◌≡◌, ℕ, zero, suc, List, [], ◌∷◌, ◌-◌, ◌<◌, ◌≤◌, length, Bool, true, false, ◌==◌, ◌||◌, set, get_or}
use Rattle.std.proofs.Common.{refl, ap, sym, subst, ◌∙◌, arith, Option, Some, None, if◌then◌else◌, nat_le}
use Rattle.std.specs.Prelude.{map, nat_lt, slice_get}
use Rattle.std.proofs.lemmas.Bool.{eqb-false, eqb-true, lt-ltb, ltb-true, true≢false}
use Rattle.com_draw_state.specs.declared.lanes.Lane.{Lane}
use Rattle.com_draw_state.specs.declared.stacks.Start.{Start}
use Rattle.com_draw_state.specs.Board.{State, with_lanes, with_tracks}
use Rattle.com_draw_state.specs.Lanes.{acted, homed, lane_at, no_lane, with_lane, with_opening, without_innermost}
use Rattle.com_draw_state.specs.Tracks.{cut_of_apartment}
use Rattle.com_draw_shapes.specs.declared.effects.Closing.{Closing}
use Rattle.com_draw_shapes.specs.declared.effects.Closing.TheVariants as close
use Rattle.com_draw_shapes.specs.declared.effects.Opens.{Opens}
use Rattle.com_draw_shapes.specs.declared.effects.Opens.TheVariants as opens
use Rattle.com_draw_shapes.specs.Boxes.{home_in}
use Rattle.com_draw_shapes.specs.Changes.{closed_on, opened_on}
use Rattle.com_draw_shapes.specs.Places.{below}
use Rattle.com_laws_draw.proofs.Lanes.{set_other}

abbrev pub mapped : (Lane → Lane) → Option Lane → Option Lane
mapped f None = None
mapped f (Some row) = Some (f row)

mapped_same : (f : Lane → Lane) → ((row : Lane) → f row ≡ row) → (v : Option Lane) → mapped f v ≡ v
mapped_same f k None = refl
mapped_same f k (Some row) = ap (λ (x : Lane). Some x) (k row)

-- ---- one of the list

set_own : (f : Lane → Lane) (lanes : List Lane) (i : ℕ) → i < length lanes
    → slice_get (set lanes i (f (get_or lanes i no_lane))) i ≡ mapped f (slice_get lanes i)
set_own f [] i h = absurd (omega (arith, h))
set_own f (x ∷ xs) zero h = refl
set_own f (x ∷ xs) (suc i) h = set_own f xs i (omega (arith, h))

past_none : (lanes : List Lane) (i : ℕ) → length lanes ≤ i → slice_get lanes i ≡ None
past_none [] zero h = refl
past_none [] (suc i) h = refl
past_none (x ∷ xs) zero h = absurd (omega (arith, h))
past_none (x ∷ xs) (suc i) h = past_none xs i (omega (arith, h))

-- ---- a lane by its number

own_by : (f : Lane → Lane) (lanes : List Lane) (l : ℕ) → (z a : Bool) → (l == 0) ≡ z → nat_lt (length lanes) l ≡ a
    → (if z then None else slice_get (if z || a then lanes else set lanes (l - 1) (f (get_or lanes (l - 1) no_lane))) (l - 1))
    ≡ mapped f (if z then None else slice_get lanes (l - 1))
own_by f lanes l true a ez ea = refl
own_by f lanes l false true ez ea =
    let to : l ≡ 0 → ⊥ = eqb-false l 0 ez in
    let far : length lanes < l = ltb-true (length lanes) l ea in
    let none : slice_get lanes (l - 1) ≡ None = past_none lanes (l - 1) (omega (arith, to, far)) in
    none ∙ sym (ap (λ (v : Option Lane). mapped f v) none)
own_by f lanes l false false ez ea =
    let to : l ≡ 0 → ⊥ = eqb-false l 0 ez in
    let near : length lanes < l → ⊥ = λ h. true≢false (sym (lt-ltb (length lanes) l h) ∙ ea) in
    set_own f lanes (l - 1) (omega (arith, to, near))

pub own : (f : Lane → Lane) (lanes : List Lane) (l : ℕ) → lane_at (with_lane f l lanes) l ≡ mapped f (lane_at lanes l)
own f lanes l = own_by f lanes l (l == 0) (nat_lt (length lanes) l) refl refl

other_by : (f : Lane → Lane) (lanes : List Lane) (m l : ℕ) → (m ≡ l → ⊥) → (a b z : Bool) → (m == 0) ≡ z → (l == 0) ≡ b
    → (if b then None else slice_get (if z || a then lanes else set lanes (m - 1) (f (get_or lanes (m - 1) no_lane))) (l - 1))
    ≡ (if b then None else slice_get lanes (l - 1))
other_by f lanes m l n a true z ez eb = refl
other_by f lanes m l n a false true ez eb = refl
other_by f lanes m l n true false false ez eb = refl
other_by f lanes m l n false false false ez eb =
    let from : m ≡ 0 → ⊥ = eqb-false m 0 ez in
    let to : l ≡ 0 → ⊥ = eqb-false l 0 eb in
    set_other lanes (f (get_or lanes (m - 1) no_lane)) (m - 1) (l - 1) (λ e. n (omega (arith, e, from, to)))

pub other : (f : Lane → Lane) (lanes : List Lane) (m l : ℕ) → (m ≡ l → ⊥) → lane_at (with_lane f m lanes) l ≡ lane_at lanes l
other f lanes m l n = other_by f lanes m l n (nat_lt (length lanes) m) (l == 0) (m == 0) refl refl

-- ---- its home

home_by : (f : Lane → Lane) → ((row : Lane) → (f row).home ≡ row.home) → (v : Option Lane) → home_in (mapped f v) ≡ home_in v
home_by f k None = refl
home_by f k (Some row) = k row

home_kept : (f : Lane → Lane) → ((row : Lane) → (f row).home ≡ row.home) → (lanes : List Lane) (m l : ℕ) (t : Bool) → (m == l) ≡ t
    → home_in (lane_at (with_lane f m lanes) l) ≡ home_in (lane_at lanes l)
home_kept f k lanes m l true e =
    subst (λ (n : ℕ). home_in (lane_at (with_lane f n lanes) l) ≡ home_in (lane_at lanes l)) (sym (eqb-true m l e))
    (ap home_in (own f lanes l) ∙ home_by f k (lane_at lanes l))
home_kept f k lanes m l false e = ap home_in (other f lanes m l (eqb-false m l e))

-- a change that leaves the homes
pub keeps_home : (f : Lane → Lane) → ((row : Lane) → (f row).home ≡ row.home) → (lanes : List Lane) (m l : ℕ)
    → home_in (lane_at (with_lane f m lanes) l) ≡ home_in (lane_at lanes l)
keeps_home f k lanes m l = home_kept f k lanes m l (m == l) refl

-- ---- what opens and closes in it

abbrev pub row_opens : Start → Opens → Lane → Lane
row_opens here opens.Nothing row = row
row_opens here (opens.Home a) row = homed (Some (record { apartment = a; start = here })) row
row_opens here (opens.Life o a) row = row
row_opens here (opens.Level w) row = with_opening (record { what = w; start = here }) row

abbrev pub row_closes : Closing → Lane → Lane
row_closes close.Nothing row = row
row_closes (close.Home a) row = homed None row
row_closes close.Innermost row = without_innermost row
row_closes (close.Cut o) row = row
row_closes (close.Life o) row = row

opens_own : (here : Start) (l : ℕ) (o : Opens) (b : State)
    → lane_at (opened_on here l o b).lanes l ≡ mapped (row_opens here o) (lane_at b.lanes l)
opens_own here l opens.Nothing b = sym (mapped_same (row_opens here opens.Nothing) (λ row. refl) (lane_at b.lanes l))
opens_own here l (opens.Home a) b = own (homed (Some (record { apartment = a; start = here }))) b.lanes l
opens_own here l (opens.Life o a) b = sym (mapped_same (row_opens here (opens.Life o a)) (λ row. refl) (lane_at b.lanes l))
opens_own here l (opens.Level w) b = own (with_opening (record { what = w; start = here })) b.lanes l

opens_other : (here : Start) (m l : ℕ) (o : Opens) (b : State) → (m ≡ l → ⊥)
    → lane_at (opened_on here m o b).lanes l ≡ lane_at b.lanes l
opens_other here m l opens.Nothing b n = refl
opens_other here m l (opens.Home a) b n = other (homed (Some (record { apartment = a; start = here }))) b.lanes m l n
opens_other here m l (opens.Life o a) b n = refl
opens_other here m l (opens.Level w) b n = other (with_opening (record { what = w; start = here })) b.lanes m l n

abbrev left_by : Start → (lane apartment : ℕ) → State → Bool → State
left_by here m a b far =
    if far then with_tracks (map (cut_of_apartment a (below here)) b.tracks) (with_lanes (with_lane (homed None) m b.lanes) b)
    else with_lanes (with_lane (homed None) m b.lanes) b

left_lanes : (here : Start) (m l a : ℕ) (b : State) (far : Bool)
    → lane_at (left_by here m a b far).lanes l ≡ lane_at (with_lane (homed None) m b.lanes) l
left_lanes here m l a b true = refl
left_lanes here m l a b false = refl

closes_own : (here : Start) (l : ℕ) (c : Closing) (b : State)
    → lane_at (closed_on here l c b).lanes l ≡ mapped (row_closes c) (lane_at b.lanes l)
closes_own here l close.Nothing b = sym (mapped_same (row_closes close.Nothing) (λ row. refl) (lane_at b.lanes l))
closes_own here l (close.Home a) b = left_lanes here l l a b (nat_le 3 a) ∙ own (homed None) b.lanes l
closes_own here l close.Innermost b = own without_innermost b.lanes l
closes_own here l (close.Cut o) b = sym (mapped_same (row_closes (close.Cut o)) (λ row. refl) (lane_at b.lanes l))
closes_own here l (close.Life o) b = sym (mapped_same (row_closes (close.Life o)) (λ row. refl) (lane_at b.lanes l))

closes_other : (here : Start) (m l : ℕ) (c : Closing) (b : State) → (m ≡ l → ⊥)
    → lane_at (closed_on here m c b).lanes l ≡ lane_at b.lanes l
closes_other here m l close.Nothing b n = refl
closes_other here m l (close.Home a) b n = left_lanes here m l a b (nat_le 3 a) ∙ other (homed None) b.lanes m l n
closes_other here m l close.Innermost b n = other without_innermost b.lanes m l n
closes_other here m l (close.Cut o) b n = refl
closes_other here m l (close.Life o) b n = refl

abbrev pub row_after : Start → Opens → Closing → Option Lane → Option Lane
row_after here o c v = mapped (row_closes c) (mapped (row_opens here o) (mapped acted v))

pub changed_own : (here : Start) (l : ℕ) (o : Opens) (c : Closing) (b : State)
    → lane_at (closed_on here l c (opened_on here l o (with_lanes (with_lane acted l b.lanes) b))).lanes l
    ≡ row_after here o c (lane_at b.lanes l)
changed_own here l o c b =
    closes_own here l c (opened_on here l o (with_lanes (with_lane acted l b.lanes) b))
    ∙ ap (λ (v : Option Lane). mapped (row_closes c) v)
    (opens_own here l o (with_lanes (with_lane acted l b.lanes) b)
    ∙ ap (λ (v : Option Lane). mapped (row_opens here o) v) (own acted b.lanes l))

pub changed_other : (here : Start) (m l : ℕ) (o : Opens) (c : Closing) (b : State) → (m ≡ l → ⊥)
    → lane_at (closed_on here m c (opened_on here m o (with_lanes (with_lane acted m b.lanes) b))).lanes l ≡ lane_at b.lanes l
changed_other here m l o c b n =
    closes_other here m l c (opened_on here m o (with_lanes (with_lane acted m b.lanes) b)) n
    ∙ opens_other here m l o (with_lanes (with_lane acted m b.lanes) b) n ∙ other acted b.lanes m l n
