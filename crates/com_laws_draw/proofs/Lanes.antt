-- What stands open in a lane where one lane is changed.
use Rattle.std.proofs.Common.{◌≡◌, ℕ, zero, suc, List, [], ◌∷◌, ◌-◌, ◌<◌, ◌≤◌, length, ◌⊎◌, inl, inr, Bool, true, false, ◌==◌, ◌||◌, set, get_or}
use Rattle.std.proofs.Common.{refl, ap, sym, ◌∙◌, arith, None, if◌then◌else◌}
use Rattle.std.specs.Prelude.{nat_lt, slice_get}
use Rattle.std.proofs.lemmas.Bool.{eqb-false, lt-ltb, ltb-true, true≢false}
use Rattle.com_draw_state.specs.declared.lanes.Lane.{Lane}
use Rattle.com_draw_state.specs.declared.stacks.Opening.{Opening}
use Rattle.com_draw_state.specs.Board.{copies}
use Rattle.com_draw_state.specs.Lanes.{lane_at, no_lane, with_lane}
use Rattle.com_laws_draw.specs.Boxes.{Each}
use Rattle.com_laws_draw.specs.Lanes.{openings_of}

-- ---- one of the list

set_keeps : (f : Lane → Lane) → ((row : Lane) → (f row).openings ≡ row.openings) → (lanes : List Lane) (i j : ℕ)
    → openings_of (slice_get (set lanes i (f (get_or lanes i no_lane))) j) ≡ openings_of (slice_get lanes j)
set_keeps f k [] zero j = refl
set_keeps f k [] (suc i) j = refl
set_keeps f k (x ∷ xs) zero zero = k x
set_keeps f k (x ∷ xs) zero (suc j) = refl
set_keeps f k (x ∷ xs) (suc i) zero = refl
set_keeps f k (x ∷ xs) (suc i) (suc j) = set_keeps f k xs i j

pub set_other : (lanes : List Lane) (new : Lane) (i j : ℕ) → (i ≡ j → ⊥) → slice_get (set lanes i new) j ≡ slice_get lanes j
set_other [] new zero j n = refl
set_other [] new (suc i) j n = refl
set_other (x ∷ xs) new zero zero n = absurd (n refl)
set_other (x ∷ xs) new zero (suc j) n = refl
set_other (x ∷ xs) new (suc i) zero n = refl
set_other (x ∷ xs) new (suc i) (suc j) n = set_other xs new i j (λ e. n (ap suc e))

set_same : (f : Lane → Lane) (g : List Opening → List Opening) → ((row : Lane) → (f row).openings ≡ g row.openings)
    → (lanes : List Lane) (i : ℕ) → i < length lanes
    → openings_of (slice_get (set lanes i (f (get_or lanes i no_lane))) i) ≡ g (openings_of (slice_get lanes i))
set_same f g k [] i h = absurd (omega (arith, h))
set_same f g k (x ∷ xs) zero h = k x
set_same f g k (x ∷ xs) (suc i) h = set_same f g k xs i (omega (arith, h))

past_none : (lanes : List Lane) (i : ℕ) → length lanes ≤ i → openings_of (slice_get lanes i) ≡ []
past_none [] zero h = refl
past_none [] (suc i) h = refl
past_none (x ∷ xs) zero h = absurd (omega (arith, h))
past_none (x ∷ xs) (suc i) h = past_none xs i (omega (arith, h))

-- ---- a lane by its number

abbrev pub open_of : List Lane → ℕ → List Opening
open_of lanes l = openings_of (lane_at lanes l)

keeps_by : (f : Lane → Lane) → ((row : Lane) → (f row).openings ≡ row.openings) → (lanes : List Lane) (m l : ℕ)
    → (a b : Bool) → openings_of (if b then None else slice_get (if a then lanes else set lanes (m - 1) (f (get_or lanes (m - 1) no_lane))) (l - 1))
    ≡ openings_of (if b then None else slice_get lanes (l - 1))
keeps_by f k lanes m l a true = refl
keeps_by f k lanes m l true false = refl
keeps_by f k lanes m l false false = set_keeps f k lanes (m - 1) (l - 1)

-- a change that leaves what stands open
pub keeps : (f : Lane → Lane) → ((row : Lane) → (f row).openings ≡ row.openings) → (lanes : List Lane) (m l : ℕ)
    → open_of (with_lane f m lanes) l ≡ open_of lanes l
keeps f k lanes m l = keeps_by f k lanes m l (m == 0 || nat_lt (length lanes) m) (l == 0)

other_by : (f : Lane → Lane) (lanes : List Lane) (m l : ℕ) → (m ≡ l → ⊥) → (a b z : Bool) → (m == 0) ≡ z → (l == 0) ≡ b
    → openings_of (if b then None else slice_get (if z || a then lanes else set lanes (m - 1) (f (get_or lanes (m - 1) no_lane))) (l - 1))
    ≡ openings_of (if b then None else slice_get lanes (l - 1))
other_by f lanes m l n a true z ez eb = refl
other_by f lanes m l n a false true ez eb = refl
other_by f lanes m l n true false false ez eb = refl
other_by f lanes m l n false false false ez eb =
    let from : m ≡ 0 → ⊥ = eqb-false m 0 ez in
    let to : l ≡ 0 → ⊥ = eqb-false l 0 eb in
    ap openings_of (set_other lanes (f (get_or lanes (m - 1) no_lane)) (m - 1) (l - 1) (λ e. n (omega (arith, e, from, to))))

-- a change of another lane
pub others : (f : Lane → Lane) (lanes : List Lane) (m l : ℕ) → (m ≡ l → ⊥)
    → open_of (with_lane f m lanes) l ≡ open_of lanes l
others f lanes m l n = other_by f lanes m l n (nat_lt (length lanes) m) (l == 0) (m == 0) refl refl

-- a change of what stands open in a lane; where there is no such lane nothing does
abbrev pub Changes : (List Opening → List Opening) → (was now : List Opening) → Type 0
Changes g was now = (now ≡ g was) ⊎ ((now ≡ was) × (was ≡ []))

own_by : (f : Lane → Lane) (g : List Opening → List Opening) → ((row : Lane) → (f row).openings ≡ g row.openings)
    → (lanes : List Lane) (l : ℕ) → (z a : Bool) → (l == 0) ≡ z → nat_lt (length lanes) l ≡ a
    → Changes g (openings_of (if z then None else slice_get lanes (l - 1)))
    (openings_of (if z then None else slice_get (if z || a then lanes else set lanes (l - 1) (f (get_or lanes (l - 1) no_lane))) (l - 1)))
own_by f g k lanes l true a ez ea = inr (refl, refl)
own_by f g k lanes l false true ez ea =
    let to : l ≡ 0 → ⊥ = eqb-false l 0 ez in
    let far : length lanes < l = ltb-true (length lanes) l ea in
    inr (refl, past_none lanes (l - 1) (omega (arith, to, far)))
own_by f g k lanes l false false ez ea =
    let to : l ≡ 0 → ⊥ = eqb-false l 0 ez in
    let near : length lanes < l → ⊥ = λ h. true≢false (sym (lt-ltb (length lanes) l h) ∙ ea) in
    inl (set_same f g k lanes (l - 1) (omega (arith, to, near)))

pub own : (f : Lane → Lane) (g : List Opening → List Opening) → ((row : Lane) → (f row).openings ≡ g row.openings)
    → (lanes : List Lane) (l : ℕ) → Changes g (open_of lanes l) (open_of (with_lane f l lanes) l)
own f g k lanes l = own_by f g k lanes l (l == 0) (nat_lt (length lanes) l) refl refl

-- ---- lanes in which nothing stands open

abbrev pub Bare : Lane → Type 0
Bare row = row.openings ≡ []

pub bare_copies : (n : ℕ) (row : Lane) → Bare row → Each Bare (copies n row)
bare_copies zero row h = tt
bare_copies (suc n) row h = (h, bare_copies n row h)

bare_at : (lanes : List Lane) (i : ℕ) → Each Bare lanes → openings_of (slice_get lanes i) ≡ []
bare_at [] zero h = refl
bare_at [] (suc i) h = refl
bare_at (x ∷ xs) zero h = h.0
bare_at (x ∷ xs) (suc i) h = bare_at xs i h.1

bare_by : (lanes : List Lane) (l : ℕ) → Each Bare lanes → (b : Bool) → openings_of (if b then None else slice_get lanes (l - 1)) ≡ []
bare_by lanes l h true = refl
bare_by lanes l h false = bare_at lanes (l - 1) h

pub bare_in : (lanes : List Lane) (l : ℕ) → Each Bare lanes → open_of lanes l ≡ []
bare_in lanes l h = bare_by lanes l h (l == 0)
