-- The lanes and the tracks of a picture together, and how they stand before the first entry.
use Rattle.std.specs.Prelude.{ℕ, zero, suc, List, [], ◌∷◌, ◌++◌, Option, Some, None}
use Rattle.com_base.specs.declared.apartments.TheConstants.{HOST_STA, MTA}
use Rattle.com_draw_state.specs.declared.lanes.Home.{Home}
use Rattle.com_draw_state.specs.declared.lanes.Lane.{Lane}
use Rattle.com_draw_state.specs.declared.tracks.Track.{Track}
use Rattle.com_draw_state.specs.Lanes.{new_lane}

-- What a picture keeps between two entries: how its lanes stand, and which tracks objects have.
pub record State : Type 0 where
  -- the lanes, from lane 1 on
  pub lanes : List Lane
  -- the tracks that were used so far, from track 0 on
  pub tracks : List (Option Track)

-- The picture with other lanes. Its tracks stay.
abbrev pub with_lanes : List Lane → State → State
with_lanes lanes b = record { lanes = lanes; tracks = b.tracks }

-- The picture with other tracks. Its lanes stay.
abbrev pub with_tracks : List (Option Track) → State → State
with_tracks tracks b = record { lanes = b.lanes; tracks = tracks }

-- A home that was entered above the first section.
abbrev pub home_from_above : (apartment : ℕ) → Home
home_from_above a = record { apartment = a; start = record { section = 0; row = 0 } }

-- So many of the same.
abbrev pub copies : {X : Type 0} → ℕ → X → List X
copies zero x = []
copies (suc n) x = x ∷ copies n x

-- The threads' lanes have no home, the host's has the host STA, and the pool's have the MTA.
abbrev pub first_lanes : (threads pool : ℕ) → List Lane
first_lanes t p =
    copies t (new_lane None) ++ copies 1 (new_lane (Some (home_from_above HOST_STA)))
    ++ copies p (new_lane (Some (home_from_above MTA)))

-- The picture before the first entry: the threads' lanes, the host's lane and the pool's, and no track.
abbrev pub first_board : (threads pool : ℕ) → State
first_board t p = record { lanes = first_lanes t p; tracks = [] }
