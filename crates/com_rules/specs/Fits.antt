-- What is asked of the numbers and the values of an action, and which function makes its entry. A call and a Leave send
-- values. Of the actions that send none, nine are on the lane, on a place or on a buffer, six are on an
-- object or a cookie, and the other three, Marshal, Unmarshal and Drop, make or read a packet.
use Rattle.std.specs.Prelude.{◌<◌, ◌^◌, length, All}
use Rattle.com_body.specs.declared.actions.Action.{Action}
use Rattle.com_body.specs.declared.actions.Action.TheVariants as action
use Rattle.com_deeds.specs.Seen.{FitsNumber}
use Rattle.com_exchange.specs.Messages.{CanTravel}
use Rattle.com_exchange.specs.Sent.{ResultCanTravel}

-- The numbers fit, as those of each step of a formed scenario do: an interface that a Create or a Query asks
-- for by its number has a number of 16 bits, and the bytes of a Raw are fewer than 2 ^ 32. The arguments of a
-- call can travel in a request, and the result of a Leave in a reply. Of every other action nothing is asked.
abbrev pub FitsAction : Action → Type 0
FitsAction (action.Create slot k i) = FitsNumber i
FitsAction (action.Query to held i) = FitsNumber i
FitsAction (action.Raw b bytes) = length bytes < 2 ^ 32
FitsAction (action.Call held i m args to) = All CanTravel args
FitsAction (action.Leave hr value) = ResultCanTravel value
FitsAction _ = Unit {0}

-- The actions that send no values: all but a call and a Leave.
abbrev pub IsSilent : Action → Type 0
IsSilent (action.Call held i m args to) = ⊥
IsSilent (action.Leave hr value) = ⊥
IsSilent _ = Unit {0}

-- Init, Uninit, SetFilter and Pump, on the lane itself; Post and Quit, to a lane; Copy and Release, on a
-- place; and Raw, on a buffer. Their entries are the same whatever the books are: none asks whether an object
-- is connected, nor what the row of a cookie or of a packet is.
abbrev pub IsOnLane : Action → Type 0
IsOnLane (action.Init mode) = Unit {0}
IsOnLane action.Uninit = Unit {0}
IsOnLane (action.SetFilter filter) = Unit {0}
IsOnLane (action.Pump bound) = Unit {0}
IsOnLane (action.Post to word) = Unit {0}
IsOnLane (action.Quit to) = Unit {0}
IsOnLane (action.Copy to held) = Unit {0}
IsOnLane (action.Release from held) = Unit {0}
IsOnLane (action.Raw b bytes) = Unit {0}
IsOnLane _ = ⊥

-- Create, which makes an object; Query, Disconnect and Register, on the object of a reference; and Get and
-- Revoke, on a cookie. All but Create ask the books: whether the object is connected, or what the row of the
-- cookie is. None makes or reads a packet.
abbrev pub IsOnObject : Action → Type 0
IsOnObject (action.Create slot k i) = Unit {0}
IsOnObject (action.Query to held i) = Unit {0}
IsOnObject (action.Disconnect held) = Unit {0}
IsOnObject (action.Register to held) = Unit {0}
IsOnObject (action.Get slot g) = Unit {0}
IsOnObject (action.Revoke g) = Unit {0}
IsOnObject _ = ⊥
