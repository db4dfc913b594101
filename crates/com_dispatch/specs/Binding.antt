-- Binding: the method that a member's name or number stands for, with its arguments, or why there is none.
use Rattle.std.specs.Prelude.{◌≡◌, ℕ, ◌+◌, ◌-◌, ◌≤◌, List, [], ◌∷◌, length, Option, Some, None, Result, Ok, Err}
use Rattle.std.specs.Prelude.{Bool, true, false, ◌==◌, nat_lt, if◌then◌else◌, option_map, slice_get}
use Rattle.std.specs.Str.{bytes_eq, str_to_ascii_lowercase}
use Rattle.com_base.specs.declared.limits.TheConstants.{METHOD_LIMIT}
use Rattle.com_base.specs.declared.hresult.HResult.{HResult}
use Rattle.com_base.specs.declared.hresult.TheConstants.HResult.{DISP_E_BADPARAMCOUNT, DISP_E_MEMBERNOTFOUND, DISP_E_TYPEMISMATCH, DISP_E_UNKNOWNNAME}
use Rattle.com_base.specs.declared.value.Kind.{Kind}
use Rattle.com_base.specs.declared.value.Kind.TheVariants as kinds
use Rattle.com_classes.specs.declared.interfaces.Interface.{Interface}
use Rattle.com_classes.specs.declared.interfaces.Method.{Method}
use Rattle.com_classes.specs.Tables.{Tables}
use Rattle.com_classes.specs.Lookups.{interface_at}
use Rattle.com_dispatch.specs.declared.members.BindError.{BindError}
use Rattle.com_dispatch.specs.declared.members.BindError.TheVariants as errors
use Rattle.com_dispatch.specs.declared.members.Bound.{Bound}
use Rattle.com_dispatch.specs.declared.members.DispArg.{DispArg}
use Rattle.com_dispatch.specs.declared.members.Member.{Member}
use Rattle.com_dispatch.specs.declared.members.Member.TheVariants as members
use Rattle.com_dispatch.specs.declared.members.Sort.{Sort}
use Rattle.com_dispatch.specs.declared.members.Sort.TheVariants as sorts
use Rattle.com_dispatch.specs.Coercing.{coerced_on}

-- ---- the refusals

abbrev pub unknown_name : HResult
unknown_name = DISP_E_UNKNOWNNAME

abbrev pub member_not_found : HResult
member_not_found = DISP_E_MEMBERNOTFOUND

abbrev pub bad_parameter_count : HResult
bad_parameter_count = DISP_E_BADPARAMCOUNT

abbrev pub type_mismatch : HResult
type_mismatch = DISP_E_TYPEMISMATCH

-- ---- the member

-- two names that are equal when the case of ASCII letters is passed over
abbrev pub same_name : List ℕ → List ℕ → Bool
same_name a b = bytes_eq (str_to_ascii_lowercase a) (str_to_ascii_lowercase b)

-- the first method, in the order of the table, of such a name
abbrev pub index_of_name : List Method → List ℕ → Option ℕ
index_of_name [] name = None
index_of_name (m ∷ ms) name =
    if same_name m.name name then Some 0 else option_map (λ k. k + 1) (index_of_name ms name)

-- the number n names method n - 1
abbrev pub index_of_number : List Method → ℕ → Option ℕ
index_of_number methods n =
    if n == 0 then None else (if nat_lt (n - 1) (length methods) then Some (n - 1) else None)

abbrev pub index_of : List Method → Member → Option ℕ
index_of methods (members.Name name) = index_of_name methods name
index_of methods (members.Number n) = index_of_number methods n

-- why a member names no method
abbrev pub absent : Member → HResult
absent (members.Name name) = unknown_name
absent (members.Number n) = member_not_found

-- ---- the destination

-- Whether a result goes to a destination: none takes every result or the want of one, a slot takes an
-- interface alone, and a register each other result.
abbrev pub is_for : Option Kind → Option Sort → Bool
is_for result None = true
is_for None (Some sort) = false
is_for (Some (kinds.Ref i)) (Some sorts.Slot) = true
is_for (Some (kinds.Ref i)) (Some sorts.Register) = false
is_for (Some kind) (Some sorts.Slot) = false
is_for (Some kind) (Some sorts.Register) = true

-- ---- the whole

abbrev pub matched : ℕ → Option (List DispArg) → Bool → Result Bound HResult
matched index None fits = Err type_mismatch
matched index (Some args) false = Err type_mismatch
matched index (Some args) true = Ok (record { method = index; args = args })

-- the arguments are as many as the parameters; each is coerced to its parameter's kind, and the destination
-- is of the result's sort
abbrev pub signed : ℕ → Method → List DispArg → Option Sort → Result Bound HResult
signed index m args destination =
    if length args == length m.params
    then matched index (coerced_on [] m.params args) (is_for m.result destination)
    else Err bad_parameter_count

abbrev pub found : List Method → Member → List DispArg → Option Sort → Option ℕ → Result Bound HResult
found methods member args destination None = Err (absent member)
found methods member args destination (Some index) =
    elim (slice_get methods index) [ None ↦ Err (absent member) | Some m ↦ signed index m args destination ]

-- What a member, arguments and a destination are bound to among the methods of an interface: the first
-- refusal that applies, or else the method with the coerced arguments.
unfoldable pub bound_among : List Method → Member → List DispArg → Option Sort → Result Bound HResult
bound_among methods member args destination = found methods member args destination (index_of methods member)

-- An interface with no more methods than the language allows.
abbrev pub HasFewMethods : Interface → Type 0
HasFewMethods i = length i.methods ≤ METHOD_LIMIT

abbrev pub methods_of : Option Interface → List Method
methods_of None = []
methods_of (Some i) = i.methods

-- the same for an interface by its number
abbrev pub bound : Tables → ℕ → Member → List DispArg → Option Sort → Result Bound HResult
bound tables iface member args destination =
    bound_among (methods_of (interface_at tables iface)) member args destination

-- What a function answered is what is bound, or the refusal, unless memory ran out.
abbrev pub Binds : Result Bound BindError → Result Bound HResult → Type 0
Binds (Ok b) wanted = wanted ≡ Ok b
Binds (Err (errors.Disp hr)) wanted = wanted ≡ Err hr
Binds (Err errors.Memory) wanted = Unit {0}
