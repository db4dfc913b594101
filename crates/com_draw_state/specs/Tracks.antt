-- The tracks of objects, which are numbered from 0: those that were used so far, each with the life of an
-- object or free.
use Rattle.std.specs.Prelude.{ℕ, ◌+◌, Bool, true, false, ◌==◌, ◌&&◌, nat_lt, if◌then◌else◌}
use Rattle.std.specs.Prelude.{List, [], ◌∷◌, ◌++◌, Option, Some, None, length, slice_set}
use Rattle.com_draw_state.specs.declared.stacks.Start.{Start}
use Rattle.com_draw_state.specs.declared.tracks.TheConstants.{TRACKS}
use Rattle.com_draw_state.specs.declared.tracks.Track.{Track}

-- ---- one track

-- Whether a track is that of an object, be it cut off or not. A free track is that of none.
abbrev pub is_of : (object : ℕ) → Option Track → Bool
is_of o None = false
is_of o (Some t) = t.object == o

-- Whether a track is that of an object that was not cut off.
abbrev pub is_live_of : (object : ℕ) → Option Track → Bool
is_live_of o None = false
is_live_of o (Some t) = t.is_live && t.object == o

-- Whether a track is that of an object that lives in the apartment and was not cut off.
abbrev pub is_live_in : (apartment : ℕ) → Option Track → Bool
is_live_in a None = false
is_live_in a (Some t) = t.is_live && t.apartment == a

-- The track of an object that was cut off here.
abbrev pub cut : Start → Track → Track
cut at t = record { object = t.object; apartment = t.apartment; is_live = false; start = at }

-- A track, cut off here if it is that of the object and was not cut off before.
abbrev pub cut_of_object : (object : ℕ) → Start → Option Track → Option Track
cut_of_object o at None = None
cut_of_object o at (Some t) = if t.is_live && t.object == o then Some (cut at t) else Some t

-- A track, cut off here if its object lives in the apartment and was not cut off before.
abbrev pub cut_of_apartment : (apartment : ℕ) → Start → Option Track → Option Track
cut_of_apartment a at None = None
cut_of_apartment a at (Some t) = if t.is_live && t.apartment == a then Some (cut at t) else Some t

-- The track of an object that is no more is free.
abbrev pub freed : (object : ℕ) → Option Track → Option Track
freed o None = None
freed o (Some t) = if t.object == o then None else Some t

-- ---- all tracks

-- The number of the track of an object.
abbrev pub track_of : (number : ℕ) → (object : ℕ) → List (Option Track) → Option ℕ
track_of n o [] = None
track_of n o (t ∷ ts) = if is_of o t then Some n else track_of (n + 1) o ts

-- The number of the first free track.
abbrev pub free_in : (number : ℕ) → List (Option Track) → Option ℕ
free_in n [] = None
free_in n (None ∷ ts) = Some n
free_in n (Some t ∷ ts) = free_in (n + 1) ts

-- An object that is made takes the first free track, else one that was not used yet. There are `TRACKS` tracks.
abbrev pub taken_at : Track → List (Option Track) → Option ℕ → List (Option Track)
taken_at t ts None = if nat_lt (length ts) TRACKS then ts ++ Some t ∷ [] else ts
taken_at t ts (Some n) = slice_set ts n (Some t)

-- The tracks with that of a new object. Where each of the `TRACKS` tracks is an object's already, the new object gets none.
abbrev pub taken : Track → List (Option Track) → List (Option Track)
taken t ts = taken_at t ts (free_in 0 ts)
