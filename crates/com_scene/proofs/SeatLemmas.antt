-- Which calls have a frame of their own, and the frames that were taken for the others.
use Rattle.std.proofs.Common.{◌≡◌, ℕ, zero, suc, ◌<◌, List, [], ◌∷◌, Option, Some, None, IsSome, is_some, arith, refl, length, slice_set, slice_index_or}
use Rattle.com_body.specs.Frames.{FrameView, entered}
use Rattle.com_scene.specs.declared.tables.CallRow.{CallRow}
use Rattle.com_scene.specs.Seen.{seat_of, seats_of, own_or, HasFrame, HasSeat, IsSeated}

-- A body without frame reads as the one that a fresh spare frame has.
pub own_view : (own spare : Option FrameView) → seat_of spare ≡ entered [] → seat_of (own_or own spare) ≡ seat_of own
own_view None spare h = h
own_view (Some f) spare h = refl

own_some : (own spare : Option FrameView) → HasFrame (is_some own) spare → IsSome (own_or own spare)
own_some None None h = h
own_some None (Some f) h = refl
own_some (Some g) spare h = refl

pub seat_at : (rows : List CallRow) (c : ℕ) (d : CallRow) (spare : Option FrameView) → c < length rows → HasSeat (seats_of rows) c spare → IsSome (own_or (slice_index_or rows c d).frame spare)
seat_at [] c d spare h s = absurd (omega (arith, h))
seat_at (x ∷ xs) zero d spare h s = own_some x.frame spare s
seat_at (x ∷ xs) (suc c) d spare h s = seat_at xs c d spare (omega (arith, h)) s

-- A row that keeps its frame keeps the frames of all.
pub seated_kept : (rows : List CallRow) (i c : ℕ) (r d : CallRow) → (IsSome (slice_index_or rows i d).frame → IsSome r.frame) → IsSeated (seats_of rows) c → IsSeated (seats_of (slice_set rows i r)) c
seated_kept [] i c r d h s = s
seated_kept (x ∷ xs) zero zero r d h s = h s
seated_kept (x ∷ xs) zero (suc c) r d h s = s
seated_kept (x ∷ xs) (suc i) zero r d h s = s
seated_kept (x ∷ xs) (suc i) (suc c) r d h s = seated_kept xs i c r d h s
