-- Rows of tables that say what has room.
use Rattle.std.proofs.Common.{◌≡◌, ℕ, zero, suc, List, [], ◌∷◌, ◌++◌, refl, slice_index_or, slice_set, map}
use Rattle.std.proofs.lemmas.List.{map-set, map-append}
use Rattle.std.proofs.Math.Seq.{map-set_same}
use Rattle.com_lane_lists.specs.Rooms.{Roomed, numbers_in, no_number}

pub read_map : {X Y : Type 0} (f : X → Y) (xs : List X) (i : ℕ) (d : X) → slice_index_or (map f xs) i (f d) ≡ f (slice_index_or xs i d)
read_map f [] i d = refl
read_map f (x ∷ xs) zero d = refl
read_map f (x ∷ xs) (suc i) d = read_map f xs i d

pub numbers_set : (t : List (Roomed ℕ)) (i : ℕ) (r : Roomed ℕ) → numbers_in (slice_set t i r) ≡ slice_set (numbers_in t) i r.rows
numbers_set t i r = map-set (λ (r : Roomed ℕ). r.rows) t i r

pub numbers_at : (t : List (Roomed ℕ)) (i : ℕ) → slice_index_or (numbers_in t) i [] ≡ (slice_index_or t i no_number).rows
numbers_at t i = read_map (λ (r : Roomed ℕ). r.rows) t i no_number

pub numbers_same : (t : List (Roomed ℕ)) (i : ℕ) (r d : Roomed ℕ) → r.rows ≡ (slice_index_or t i d).rows → numbers_in (slice_set t i r) ≡ numbers_in t
numbers_same t i r d e = map-set_same (λ (r : Roomed ℕ). r.rows) t i r d e

pub numbers_more : (t : List (Roomed ℕ)) (r : Roomed ℕ) → numbers_in (t ++ r ∷ []) ≡ numbers_in t ++ r.rows ∷ []
numbers_more t r = map-append (λ (r : Roomed ℕ). r.rows) t (r ∷ [])
