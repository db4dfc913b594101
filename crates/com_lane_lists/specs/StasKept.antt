-- What is kept beside the apartments. No public clause cites this module.
use Rattle.std.specs.Prelude.{◌≡◌, ℕ, suc, ◌+◌, ◌-◌, ◌<◌, ◌≤◌, ◌^◌, Bool, false, ◌==◌, ◌&&◌, nat_le, cond}
use Rattle.std.specs.Prelude.{List, [], ◌∷◌, length, Option, Some, None, slice_index_or, slice_get}
use Rattle.com_base.specs.declared.apartments.TheConstants.{FIRST_STA}
use Rattle.com_model.specs.Lists.{is_member, tabulated}
use Rattle.com_lane_lists.specs.Apartments.{StaTables}
use Rattle.com_lane_lists.specs.Rooms.{Roomed, numbers_in}
use Rattle.com_lane_lists.specs.declared.stas.Sta.{Sta}

abbrev pub unmade : Sta
unmade = record { maker = 0; is_gone = false }

-- The apartments of so many rows.
abbrev pub numbers_of : List Sta → List ℕ
numbers_of rows = tabulated (length rows) (λ i. i + FIRST_STA)

abbrev pub stas_of : (makers : List (Roomed ℕ)) → List Sta → (ended : List ℕ) → StaTables
stas_of makers rows ended = record { made = numbers_in makers; stas = numbers_of rows; ended = ended }

abbrev pub is_maker : ℕ → Option Sta → Bool
is_maker l None = false
is_maker l (Some r) = r.maker == l

-- Whether a lane made the apartment.
abbrev pub made_by : List Sta → (lane apartment : ℕ) → Bool
made_by rows l a = nat_le FIRST_STA a && is_maker l (slice_get rows (a - FIRST_STA))

-- How many of the first have all ended.
abbrev pub gone_first : List Sta → ℕ
gone_first [] = 0
gone_first (r ∷ rows) = cond r.is_gone (suc (gone_first rows)) 0

pub record StasKept (made : List (List ℕ)) (rows : List Sta) (ended : List ℕ) (oldest : ℕ) : Type 0 where
  pub oldest_is : oldest ≡ gone_first rows
  pub ended_are : (i : ℕ) → i < length rows → is_member (i + FIRST_STA) ended ≡ (slice_index_or rows i unmade).is_gone
  pub none_above : (a : ℕ) → length rows + FIRST_STA ≤ a → is_member a ended ≡ false
  pub makers : (l a : ℕ) → l < length made → is_member a (slice_index_or made l []) ≡ made_by rows l a
  pub numbered : length rows + FIRST_STA ≤ 2 ^ 32
