-- How much stands open in a lane that makes an entry.
use Rattle.std.proofs.Common.{◌≡◌, ℕ, zero, suc, ◌+◌, ◌-◌, ◌<◌, ◌^◌, Bool, true, false, ◌==◌, ◌||◌, nat_lt, if◌then◌else◌, List, [], ◌∷◌, length, None, refl, ap, sym, ◌∙◌, subst}
use Rattle.std.specs.Prelude.{slice_get, slice_index_or, slice_set}
use Rattle.com_draw_state.specs.declared.lanes.Lane.{Lane}
use Rattle.com_draw_state.specs.Board.{State, with_lanes}
use Rattle.com_draw_state.specs.Lanes.{acted, depth_of, lane_at, no_lane, with_lane}

-- as much as before, in the lane at a place of the list
same_at : (lanes : List Lane) (k : ℕ) → depth_of (slice_get (slice_set lanes k (acted (slice_index_or lanes k no_lane))) k) ≡ depth_of (slice_get lanes k)
same_at [] k = refl
same_at (row ∷ rows) zero = refl
same_at (row ∷ rows) (suc k) = same_at rows k

same_unless : (out : Bool) (lanes : List Lane) (k : ℕ)
    → depth_of (slice_get (if out then lanes else slice_set lanes k (acted (slice_index_or lanes k no_lane))) k) ≡ depth_of (slice_get lanes k)
same_unless true lanes k = refl
same_unless false lanes k = same_at lanes k

same_depth : (lanes : List Lane) (l : ℕ) → depth_of (lane_at (with_lane acted l lanes) l) ≡ depth_of (lane_at lanes l)
same_depth lanes l = by (l == 0)
  where
    by : (none : Bool)
        → depth_of (if none then None else slice_get (if none || nat_lt (length lanes) l then lanes else slice_set lanes (l - 1) (acted (slice_index_or lanes (l - 1) no_lane))) (l - 1))
        ≡ depth_of (if none then None else slice_get lanes (l - 1))
    by true = refl
    by false = same_unless (nat_lt (length lanes) l) lanes (l - 1)

-- One more has room in a lane after it acted where it had room before.
pub acted_depth : (old new : State) (l : ℕ) → new ≡ with_lanes (with_lane acted l old.lanes) old → depth_of (lane_at old.lanes l) + 1 < 2 ^ 31 → depth_of (lane_at new.lanes l) + 1 < 2 ^ 31
acted_depth old new l acts room =
    let same : depth_of (lane_at new.lanes l) ≡ depth_of (lane_at old.lanes l) = ap (λ (b : State). depth_of (lane_at b.lanes l)) acts ∙ same_depth old.lanes l in
    subst (λ (n : ℕ). n + 1 < 2 ^ 31) (sym same) room
