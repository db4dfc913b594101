-- Values and their kinds.
use Rattle.std.specs.Prelude.{[], Bool, true, false, Some, None, ◌==◌, if◌then◌else◌, pos}
use Rattle.com_base.specs.declared.value.Value.{Value}
use Rattle.com_base.specs.declared.value.Value.TheVariants as value
use Rattle.com_base.specs.declared.value.Kind.{Kind}
use Rattle.com_base.specs.declared.value.Kind.TheVariants as kind
use Rattle.com_base.specs.Guids.{zero_guid}

-- The value that stands where none of the kind was given.
abbrev pub default_of : Kind → Value
default_of kind.Int = value.Int (pos 0)
default_of kind.Bool = value.Bool false
default_of kind.Text = value.Text []
default_of kind.Bytes = value.Bytes []
default_of kind.Guid = value.Guid zero_guid
default_of (kind.Ref i) = value.Ref None

-- Whether a value has a kind. Null has the kind of every interface.
abbrev pub has_kind : Value → Kind → Bool
has_kind (value.Int n) kind.Int = true
has_kind (value.Bool b) kind.Bool = true
has_kind (value.Text t) kind.Text = true
has_kind (value.Bytes t) kind.Bytes = true
has_kind (value.Guid g) kind.Guid = true
has_kind (value.Ref (Some r)) (kind.Ref i) = r.iface == i
has_kind (value.Ref None) (kind.Ref i) = true
has_kind v k = false

-- The value itself where it has the kind, else the kind's default: how a value of another type travels.
abbrev pub as_kind : Value → Kind → Value
as_kind v k = if has_kind v k then v else default_of k
