-- What an entry takes memory for, and what was taken for it.
use Rattle.std.specs.Prelude.{◌≡◌, ℕ, ◌<◌, Bool, List, [], Option, Some, None}
use Rattle.com_base.specs.declared.value.Value.{Value}
use Rattle.com_body.specs.Frames.{FrameView, entered}
use Rattle.com_model.specs.declared.deeds.Deed.{Deed}
use Rattle.com_model.specs.declared.deeds.Deed.TheVariants as deed
use Rattle.com_model.specs.Frames.{Actor as Acting}
use Rattle.com_scene.specs.declared.prepare.Taken.{Taken}
use Rattle.com_scene.specs.Rooms.{SceneRoom}
use Rattle.com_scene.specs.Seen.{HasSeatFor, seat_of}

-- The packet that an entry made.
abbrev pub packet_in : Deed → Option (List ℕ)
packet_in (deed.Marshal p m held refs hr bytes) = bytes
packet_in _ = None

-- The value with which a call comes back.
abbrev pub result_in : Deed → Option Value
result_in (deed.Back c hr v) = v
result_in _ = None

-- There is room for the row of a call that the entry issues, or of an object that it makes.
abbrev pub HasRowFor : SceneRoom → Deed → Type 0
HasRowFor k (deed.Out c o i m r y bytes) = 0 < k.calls
HasRowFor k (deed.Made o a c i hr) = 0 < k.objects
HasRowFor k _ = Unit {0}

-- Whoever acts afterwards has a frame, or a spare one, where the entry writes for it.
abbrev pub HasSeatAfter : List Bool → Acting → Deed → (spare : Option FrameView) → Type 0
HasSeatAfter seats b (deed.Back c hr v) spare = HasSeatFor seats b spare
HasSeatAfter seats b deed.EndPump spare = HasSeatFor seats b spare
HasSeatAfter seats b _ spare = Unit {0}

-- A copy was taken of what there is; of what there is not it may be any.
abbrev pub IsTaken : {A : Type 0} → (wanted : Option A) → (taken : Option A) → Type 0
IsTaken None x = Unit {0}
IsTaken (Some v) x = x ≡ Some v

-- The frame of the body that the entry begins was taken.
abbrev pub HasBody : Deed → (body : Option FrameView) → Type 0
HasBody (deed.Enter c o a k vs) body = seat_of body ≡ entered vs
HasBody _ body = Unit {0}

-- All that the entry takes memory for is there: its row, a frame for each body that is written to, and equal
-- copies of its values.
pub record IsPrepared (a b : Acting) (d : Deed) (k : SceneRoom) (x : Taken) : Type 0 where
  pub row : HasRowFor k d
  pub acting : HasSeatFor k.seats a x.acting
  pub packet : IsTaken (packet_in d) x.packet
  pub after : HasSeatAfter k.seats b d x.after
  pub fresh : seat_of x.after ≡ entered []
  pub body : HasBody d x.body
  pub value : IsTaken (result_in d) x.value
