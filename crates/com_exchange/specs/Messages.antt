-- What a call sends, and what the bytes of a request can carry.
use Rattle.std.specs.Prelude.{List, [], ◌∷◌, None, Result, Ok, Err}
use Rattle.com_base.specs.declared.value.Kind.{Kind}
use Rattle.com_base.specs.declared.value.Value.{Value}
use Rattle.ndr_args.specs.Written.{CanSend, HasKind}
use Rattle.com_exchange.specs.declared.message.Form.{Form}
use Rattle.com_exchange.specs.declared.message.Form.TheVariants as form
use Rattle.com_exchange.specs.declared.receiving.Request.{Request}
use Rattle.com_exchange.specs.declared.receiving.RequestError.{RequestError}
use Rattle.com_exchange.specs.Received.{request_in}
use Rattle.com_exchange.specs.Wires.{wire_of}

-- The values that were read, and none where there is a fault.
abbrev pub values_read : Result Request RequestError → List Value
values_read (Err f) = []
values_read (Ok r) = r.values

-- There is no fault.
abbrev pub IsRead : Result Request RequestError → Type 0
IsRead (Err f) = ⊥
IsRead (Ok r) = Unit {0}

-- The values that a message says: those that it has, or those that are read in its bytes.
abbrev pub values_of : Form → List Value
values_of (form.Values vs) = vs
values_of (form.Request w) = values_read (request_in w.value.kinds w.value.bytes)

-- The bytes of a message can be read.
abbrev pub IsReadable : Form → Type 0
IsReadable (form.Values vs) = Unit {0}
IsReadable (form.Request w) = IsRead (request_in w.value.kinds w.value.bytes)

-- A text that travels is UTF-8, and texts and bytes have at most as many bytes as a count may say.
abbrev pub CanTravel : Value → Type 0
CanTravel v = CanSend (wire_of v None)

-- As many values as kinds, each of its kind, and each can travel.
abbrev pub TravelAs : List Kind → List Value → Type 0
TravelAs [] [] = Unit {0}
TravelAs [] (v ∷ vs) = ⊥
TravelAs (k ∷ ks) [] = ⊥
TravelAs (k ∷ ks) (v ∷ vs) = HasKind k (wire_of v None) × CanTravel v × TravelAs ks vs
