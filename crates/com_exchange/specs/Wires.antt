-- One value as it travels.
use Rattle.std.specs.Prelude.{ℕ, List, [], ◌∷◌, Option, Some, None}
use Rattle.com_base.specs.declared.standard.StdFields.{StdFields}
use Rattle.com_base.specs.declared.value.RefValue.{RefValue}
use Rattle.com_base.specs.declared.value.Value.{Value}
use Rattle.com_base.specs.declared.value.Value.TheVariants as value
use Rattle.ndr_args.specs.declared.wire.Wire.{Wire}
use Rattle.ndr_args.specs.declared.wire.Wire.TheVariants as wire

-- A reference that is not null travels as the fields of its packet.
abbrev pub wire_of : Value → Option StdFields → Wire
wire_of (value.Int n) packet = wire.Int n
wire_of (value.Bool b) packet = wire.Bool b
wire_of (value.Text t) packet = wire.Text t
wire_of (value.Bytes t) packet = wire.Bytes t
wire_of (value.Guid g) packet = wire.Guid g
wire_of (value.Ref None) packet = wire.Ref None
wire_of (value.Ref (Some r)) packet = wire.Ref packet

-- How many packets a value needs: one for a reference that is not null.
abbrev pub packets_of : Value → ℕ
packets_of (value.Int n) = 0
packets_of (value.Bool b) = 0
packets_of (value.Text t) = 0
packets_of (value.Bytes t) = 0
packets_of (value.Guid g) = 0
packets_of (value.Ref None) = 0
packets_of (value.Ref (Some r)) = 1

-- The reference in a value, as a list.
abbrev pub reference_in : Value → List RefValue
reference_in (value.Int n) = []
reference_in (value.Bool b) = []
reference_in (value.Text t) = []
reference_in (value.Bytes t) = []
reference_in (value.Guid g) = []
reference_in (value.Ref None) = []
reference_in (value.Ref (Some r)) = r ∷ []
