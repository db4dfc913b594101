-- What travels for one parameter, and which results can travel.
use Rattle.std.specs.Prelude.{ℕ, Bool, Option, Some, None}
use Rattle.com_base.specs.declared.value.Kind.{Kind}
use Rattle.com_base.specs.declared.value.Value.{Value}
use Rattle.com_base.specs.Values.{default_of}
use Rattle.com_model.specs.Values.{sent_value}
use Rattle.com_exchange.specs.Messages.{CanTravel}

-- The given value as one of the kind, or the kind's default where none is given.
abbrev pub sent_or_default : (marshalled : Bool) → (live : ℕ → Bool) → Kind → Option Value → Value
sent_or_default m live k None = default_of k
sent_or_default m live k (Some v) = sent_value m live k v

-- There is no result, or it is a value that can travel.
abbrev pub ResultCanTravel : Option Value → Type 0
ResultCanTravel None = Unit {0}
ResultCanTravel (Some v) = CanTravel v
