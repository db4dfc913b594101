-- Values that calls carry, and their bytes.
use Rattle.std.specs.Prelude.{ℕ, Bool, true, if◌then◌else◌, List, [], ◌∷◌, ◌++◌, Option, Some, None, length}
use Rattle.std.specs.Prelude.{replicate}
use Rattle.std.specs.Int.{w32}
use Rattle.com_base.specs.declared.guid.Guid.{Guid}
use Rattle.com_base.specs.declared.hresult.HResult.{HResult}
use Rattle.com_base.specs.declared.standard.StdFields.{StdFields}
use Rattle.com_base.specs.declared.value.RefValue.{RefValue}
use Rattle.com_base.specs.declared.value.Kind.{Kind}
use Rattle.com_base.specs.declared.value.Value.{Value}
use Rattle.com_base.specs.declared.value.Value.TheVariants as value
use Rattle.com_base.specs.Values.{as_kind, default_of}
use Rattle.com_wire.specs.Fields.{number}
use Rattle.ndr_args.specs.declared.wire.Wire.{Wire}
use Rattle.ndr_args.specs.declared.wire.Wire.TheVariants as wire
use Rattle.ndr_args.specs.Grammar.{gap, zeros}
use Rattle.ndr_args.specs.Written.{written_args}
use Rattle.orpc.specs.Headers.{this_text, this_of, that_text}
use Rattle.com_model.specs.Answers.{is_failure}
use Rattle.com_model.specs.Lists.{first, without_first}

-- On the routes that marshal, a reference to an object that is not connected travels as null.
abbrev pub if_live : (marshalled : Bool) → (live : ℕ → Bool) → Value → Value
if_live true live (value.Ref (Some r)) = value.Ref (if live r.object then Some r else None)
if_live m live v = v

-- A value travels as one of its declared kind.
abbrev pub sent_value : (marshalled : Bool) → (live : ℕ → Bool) → Kind → Value → Value
sent_value m live k v = if_live m live (as_kind v k)

-- The arguments as they travel. Where a statement gives none, the defaults travel.
abbrev pub sent_values : (marshalled : Bool) → (live : ℕ → Bool) → List Kind → List Value → List Value
sent_values m live [] vs = []
sent_values m live (k ∷ ks) [] = default_of k ∷ sent_values m live ks []
sent_values m live (k ∷ ks) (v ∷ vs) = sent_value m live k v ∷ sent_values m live ks vs

-- The result of a body: none on failure or where none is declared; else the given value, or the kind's
-- default.
abbrev pub given_or_default : Kind → Option Value → Value
given_or_default k None = default_of k
given_or_default k (Some v) = v

-- What the result of a body travels as: one of its declared kind, and null for a marshalled reference to an
-- object that is not connected. None on failure, or where the method declares no result.
abbrev pub sent_result : (marshalled : Bool) → (live : ℕ → Bool) → HResult → Option Kind → Option Value
    → Option Value
sent_result m live hr None v = None
sent_result m live hr (Some k) v =
    if is_failure hr then None else Some (sent_value m live k (given_or_default k v))

-- The references among values, in their order, without null.
abbrev pub carried : List Value → List RefValue
carried [] = []
carried (value.Ref (Some r) ∷ vs) = r ∷ carried vs
carried (_ ∷ vs) = carried vs

-- The result as a list, of one value or of none.
abbrev pub result_list : Option Value → List Value
result_list None = []
result_list (Some v) = v ∷ []

-- Values as they travel: each reference that is not null has the fields of the next packet.
abbrev pub wires : List Value → List StdFields → List Wire
wires [] fs = []
wires (value.Int n ∷ vs) fs = wire.Int n ∷ wires vs fs
wires (value.Bool b ∷ vs) fs = wire.Bool b ∷ wires vs fs
wires (value.Text t ∷ vs) fs = wire.Text t ∷ wires vs fs
wires (value.Bytes t ∷ vs) fs = wire.Bytes t ∷ wires vs fs
wires (value.Guid g ∷ vs) fs = wire.Guid g ∷ wires vs fs
wires (value.Ref None ∷ vs) fs = wire.Ref None ∷ wires vs fs
wires (value.Ref (Some r) ∷ vs) fs = wire.Ref (first fs) ∷ wires vs (without_first fs)

-- A request: ORPCTHIS with the causality, then the arguments. Source: MS-DCOM, ORPCTHIS.
abbrev pub cause_guid : ℕ → Guid
cause_guid k = record { data1 = k; data2 = 0; data3 = 0; data4 = replicate 8 0 }

-- The bytes of an Out: each reference of the arguments, if not null, takes the next of the packets' fields.
abbrev pub request_bytes : (cause : ℕ) → List Value → List StdFields → List ℕ
request_bytes k vs fs = this_text (this_of (cause_guid k)) ++ written_args (wires vs fs)

-- A reply: ORPCTHAT, then the result, and the HRESULT at a multiple of four. Source: MS-DCOM, ORPCTHAT.
abbrev pub with_answer : HResult → List ℕ → List ℕ
with_answer hr bytes = bytes ++ (zeros (gap (length bytes) 4) ++ number w32 hr.0)

-- The bytes of a Leave: a reference as the result takes the first of the packets' fields, if it is not null.
abbrev pub reply_bytes : HResult → Option Value → List StdFields → List ℕ
reply_bytes hr v fs = that_text 0 ++ with_answer hr (written_args (wires (result_list v) fs))
