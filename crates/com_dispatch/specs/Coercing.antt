-- What an argument becomes for a parameter of a kind: by this table and in no other case.
use Rattle.std.specs.Prelude.{ℕ, List, [], ◌∷◌, ◌++◌, Option, Some, None, Bool, true, false, not, ◌==◌}
use Rattle.std.specs.Prelude.{if◌then◌else◌, option_map, codes, ℤ, pos, negsuc}
use Rattle.std.specs.Str.{bytes_eq}
use Rattle.std.specs.Fmt.{signed_decimal}
use Rattle.com_base.specs.declared.guid.Guid.{Guid}
use Rattle.com_base.specs.declared.value.Kind.{Kind}
use Rattle.com_base.specs.declared.value.Kind.TheVariants as kinds
use Rattle.com_base.specs.declared.value.Value.{Value}
use Rattle.com_base.specs.declared.value.Value.TheVariants as values
use Rattle.com_read_operands.specs.Numbers.{signed_of}
use Rattle.com_read_operands.specs.Literals.{guid_of}
use Rattle.com_dispatch.specs.declared.members.DispArg.{DispArg}
use Rattle.com_dispatch.specs.declared.members.DispArg.TheVariants as given

-- a truth value as a number
abbrev pub as_number : Bool → ℤ
as_number true = pos 1
as_number false = pos 0

-- whether a number is not 0
abbrev pub is_not_zero : ℤ → Bool
is_not_zero (pos n) = not (n == 0)
is_not_zero (negsuc n) = true

-- a truth value's word
abbrev pub word_of : Bool → List ℕ
word_of true = codes "true"
word_of false = codes "false"

-- the truth value whose word a text is
abbrev pub truth_of : List ℕ → Option Bool
truth_of text = if bytes_eq text (codes "true") then Some true
    else (if bytes_eq text (codes "false") then Some false
    else None)

-- to a whole number: a whole number, a truth value, a text that is a decimal literal of 64 bits
abbrev pub to_int : Value → Option ℤ
to_int (values.Int number) = Some number
to_int (values.Bool truth) = Some (as_number truth)
to_int (values.Text text) = signed_of text
to_int _ = None

-- to a truth value: a truth value, a whole number by whether it is not 0, the texts `true` and `false`
abbrev pub to_bool : Value → Option Bool
to_bool (values.Int number) = Some (is_not_zero number)
to_bool (values.Bool truth) = Some truth
to_bool (values.Text text) = truth_of text
to_bool _ = None

-- to a text: a text, a whole number's decimal text, a truth value's word
abbrev pub to_text : Value → Option (List ℕ)
to_text (values.Int number) = Some (signed_decimal number)
to_text (values.Bool truth) = Some (word_of truth)
to_text (values.Text text) = Some text
to_text _ = None

-- to bytes: bytes
abbrev pub to_bytes : Value → Option (List ℕ)
to_bytes (values.Bytes bytes) = Some bytes
to_bytes _ = None

-- to a GUID: a GUID, a text of a GUID's form in braces
abbrev pub to_guid : Value → Option Guid
to_guid (values.Guid guid) = Some guid
to_guid (values.Text text) = guid_of text
to_guid _ = None

-- A value for a parameter that is no interface. No value is coerced to an interface.
abbrev pub coerced_value : Kind → Value → Option Value
coerced_value kinds.Int v = option_map (λ n. values.Int n) (to_int v)
coerced_value kinds.Bool v = option_map (λ b. values.Bool b) (to_bool v)
coerced_value kinds.Text v = option_map (λ t. values.Text t) (to_text v)
coerced_value kinds.Bytes v = option_map (λ b. values.Bytes b) (to_bytes v)
coerced_value kinds.Guid v = option_map (λ g. values.Guid g) (to_guid v)
coerced_value (kinds.Ref i) v = None

-- An argument for a parameter. An interface takes a slot or null, and no other parameter does.
abbrev pub coerced : Kind → DispArg → Option DispArg
coerced kind (given.Literal v) = option_map (λ c. given.Literal c) (coerced_value kind v)
coerced (kinds.Ref i) (given.Slot slot) = Some (given.Slot slot)
coerced (kinds.Ref i) given.Null = Some given.Null
coerced _ _ = None

-- the arguments so far with those for the parameters that are left, each coerced
abbrev pub coerced_on : List DispArg → List Kind → List DispArg → Option (List DispArg)
coerced_on done [] [] = Some done
coerced_on done [] (a ∷ as') = None
coerced_on done (k ∷ ks) [] = None
coerced_on done (k ∷ ks) (a ∷ as') =
    elim (coerced k a) [ None ↦ None | Some c ↦ coerced_on (done ++ c ∷ []) ks as' ]
