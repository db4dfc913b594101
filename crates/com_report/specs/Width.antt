-- How much room the parts of a line take that have no bound of their own.
use Rattle.std.specs.Prelude.{ℕ, ◌+◌, ◌*◌, List, [], ◌∷◌, length, Option, Some, None}
use Rattle.com_base.specs.declared.value.Value.{Value}
use Rattle.com_base.specs.declared.value.Value.TheVariants as value
use Rattle.com_model.specs.declared.deeds.Deed.{Deed}
use Rattle.com_model.specs.declared.deeds.Deed.TheVariants as deed

-- the digits of bytes
abbrev pub bytes_width : Option (List ℕ) → ℕ
bytes_width None = 0
bytes_width (Some bytes) = 2 * length bytes

-- a text's bytes, or the digits of bytes, beside what any value takes
abbrev pub own_width : Value → ℕ
own_width (value.Text text) = length text
own_width (value.Bytes bytes) = 2 * length bytes
own_width v = 0

-- a value, and a comma before it
abbrev pub value_width : Value → ℕ
value_width v = own_width v + 48

-- a value, or nothing
abbrev pub one_value_width : Option Value → ℕ
one_value_width None = 0
one_value_width (Some v) = value_width v

-- values
abbrev pub values_width : List Value → ℕ
values_width [] = 0
values_width (v ∷ rest) = value_width v + values_width rest

-- what a deed's line takes beside its words and numbers
abbrev pub deed_width : Deed → ℕ
deed_width (deed.Marshal packet m held refs hr bytes) = bytes_width bytes
deed_width (deed.Out call object iface method r cause bytes) = bytes_width bytes
deed_width (deed.Enter call object apartment call_type values) = values_width values
deed_width (deed.Leave call hr v bytes) = one_value_width v + bytes_width bytes
deed_width (deed.Back call hr v) = one_value_width v
deed_width _ = 0
