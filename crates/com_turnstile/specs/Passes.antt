-- What a contract says of a pass and of a guard.
use Rattle.std.specs.Prelude.{◌≡◌, ℕ, true, false, List, [], ◌∷◌, ◌++◌, length, Option, None}
use Rattle.atomic_table.specs.declared.shared.Seat.{Seat}
use Rattle.atomic_table.specs.Seated.{TableId}
use Rattle.com_turnstile.specs.declared.view.View.{View}
use Rattle.com_turnstile.specs.declared.turnstile.Pass.{Pass}
use Rattle.com_turnstile.specs.declared.turnstile.Guard.{Guard}
use Rattle.com_turnstile.specs.declared.turnstile.Turnstile.{Turnstile}
use Rattle.com_turnstile.specs.Entries.{of_lane, AreOf}

module _ {T E : Type 0} where
  -- the lane of a pass
  abbrev pub lane_of : Pass T E → ℕ
  lane_of p = p.seat.me.0.number

  -- the list that its turnstile was made with
  abbrev pub opening_of : Pass T E → List E
  opening_of p = p.seat.me.0.opening

  -- the list that the pass has seen
  abbrev pub seen_by : Pass T E → List E
  seen_by p = p.seat.me.0.seen

  -- the entries of its lane that the pass made
  abbrev pub own_of : Pass T E → List E
  own_of p = p.seat.me.0.mine

  -- which turnstile a turnstile is, and which one a pass is of
  abbrev pub turnstile_id : Turnstile T E → TableId
  turnstile_id t = t.table.shared.table_id

-- A seat of this turnstile that holds no slot, and has neither ticket nor turn
pub record IsIdle {T E : Type 0} (id : TableId) (seat : Seat (Option T) (View E)) : Type 0 where
  pub table : seat.table_id ≡ id
  pub no_slot : seat.me.1 ≡ []
  pub no_ticket : seat.me.0.ticket ≡ None
  pub no_turn : seat.me.0.turn ≡ false

-- A seat of this turnstile that has the number n, and has seen the opening list alone
pub record IsNewSeat {T E : Type 0} (id : TableId) (opening : List E) (n : ℕ)
    (seat : Seat (Option T) (View E)) : Type 0 where
  pub idle : IsIdle id seat
  pub number : seat.me.0.number ≡ n
  pub opening_kept : seat.me.0.opening ≡ opening
  pub seen : seat.me.0.seen ≡ opening
  pub none_made : seat.me.0.mine ≡ []

-- The pass is of this turnstile, and may enter
pub record IsPassOf {T E : Type 0} (t : Turnstile T E) (p : Pass T E) : Type 0 where
  pub idle : IsIdle (turnstile_id t) p.seat
  pub counted : p.count ≡ length (seen_by p)

-- The guard is of this turnstile, and may leave
pub record IsGuardOf {T E : Type 0} (t : Turnstile T E) (g : Guard T E) : Type 0 where
  pub table : g.pass.seat.table_id ≡ turnstile_id t
  pub empty_slot : g.pass.seat.me.1 ≡ (0, None) ∷ []
  pub turn : g.pass.seat.me.0.turn ≡ true
  pub counted : g.pass.count ≡ length (seen_by g.pass)

-- The pass of the lane n, which may enter, has seen the opening list alone and has made no entry
pub record IsNewPass {T E : Type 0} (t : Turnstile T E) (opening : List E) (n : ℕ)
    (p : Pass T E) : Type 0 where
  pub pass : IsPassOf t p
  pub lane : lane_of p ≡ n
  pub opening_kept : opening_of p ≡ opening
  pub seen : seen_by p ≡ opening
  pub none_made : own_of p ≡ []

-- The pass keeps its lane and its opening list
pub record IsSamePass {T E : Type 0} (old new : Pass T E) : Type 0 where
  pub lane : lane_of new ≡ lane_of old
  pub opening_kept : opening_of new ≡ opening_of old

module _ {T E : Type 0} where
  -- after the opening list, the list has of the pass's lane just the entries that the pass made, each once
  -- and in their order
  abbrev pub HasOwn : (E → ℕ) → Pass T E → List E → Type 0
  HasOwn lane p entries =
      (later : List E) × (entries ≡ opening_of p ++ later) × (of_lane lane (lane_of p) later ≡ own_of p)

  -- the list begins with what the pass has seen, and each entry after that has the pass's lane, or lane 0
  abbrev pub MayLeave : (E → ℕ) → Pass T E → List E → Type 0
  MayLeave lane p entries = (more : List E) × (entries ≡ seen_by p ++ more) × AreOf lane (lane_of p) more

  -- the new pass has made what the old one had, and the entries of its lane that the list has after what the
  -- old one had seen
  abbrev pub HasMade : (E → ℕ) → Pass T E → List E → Pass T E → Type 0
  HasMade lane old entries new =
      (more : List E) → entries ≡ seen_by old ++ more
      → own_of new ≡ own_of old ++ of_lane lane (lane_of old) more
