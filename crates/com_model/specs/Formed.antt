-- Scenarios that keep the limits, the forms and the ranges of the language, repeat no name or GUID, and name
-- only what is declared.
use Rattle.std.specs.Prelude.{◌≡◌, ℕ, ◌+◌, ◌^◌, ◌≤◌, ◌<◌, ℤ, pos, negsuc, Bool, true, false, not, ◌==◌, ◌&&◌}
use Rattle.std.specs.Prelude.{◌||◌, nat_le, List, [], ◌∷◌, Option, Some, None, length, All, take, codes, ◌⊎◌}
use Rattle.std.specs.Str.{bytes_eq}
use Rattle.com_base.specs.declared.built_ins.TheConstants.{BUILT_IN_COUNT, ICOUNTER, IRELAY, ILATCH}
use Rattle.com_base.specs.declared.limits.TheConstants.{INTERFACE_LIMIT, METHOD_LIMIT, PARAMETER_LIMIT}
use Rattle.com_base.specs.declared.limits.TheConstants.{CLASS_LIMIT, LISTED_LIMIT, FILTER_LIMIT, RULE_LIMIT}
use Rattle.com_base.specs.declared.limits.TheConstants.{THREAD_LIMIT, POOL_LIMIT, BODY_LIMIT, SCRIPT_LIMIT}
use Rattle.com_base.specs.declared.limits.TheConstants.{NAME_LIMIT, LITERAL_LIMIT, RAW_LIMIT, SKIP_LIMIT}
use Rattle.com_base.specs.declared.limits.TheConstants.{PUMP_LIMIT, LAST_MS}
use Rattle.com_base.specs.declared.guid.Guid.{Guid}
use Rattle.com_base.specs.declared.value.Kind.{Kind}
use Rattle.com_base.specs.declared.value.Kind.TheVariants as kind
use Rattle.com_base.specs.declared.value.Value.{Value}
use Rattle.com_base.specs.declared.value.Value.TheVariants as value
use Rattle.com_body.specs.declared.operands.Asked.{Asked}
use Rattle.com_body.specs.declared.operands.Asked.TheVariants as asked
use Rattle.com_body.specs.declared.operands.Op.{Op}
use Rattle.com_body.specs.declared.operands.Op.TheVariants as op
use Rattle.com_body.specs.declared.operands.Place.{Place}
use Rattle.com_body.specs.declared.operands.Place.TheVariants as place
use Rattle.com_body.specs.declared.operands.Arg.{Arg}
use Rattle.com_body.specs.declared.operands.Arg.TheVariants as arg
use Rattle.com_body.specs.declared.operands.Given.{Given}
use Rattle.com_body.specs.declared.operands.Given.TheVariants as given
use Rattle.com_body.specs.declared.operands.Destination.{Destination}
use Rattle.com_body.specs.declared.operands.Destination.TheVariants as destination
use Rattle.com_body.specs.declared.statements.Stmt.{Stmt}
use Rattle.com_body.specs.declared.statements.Stmt.TheVariants as stmt
use Rattle.com_body.specs.declared.frame.Native.{Native}
use Rattle.com_body.specs.declared.frame.Native.TheVariants as native
use Rattle.com_body.specs.Bodies.{IsInRange, fault_of}
use Rattle.com_cause.specs.declared.TheConstants.{TOP_LEVEL, NESTED, TOP_LEVEL_CALL_PENDING}
use Rattle.com_classes.specs.declared.interfaces.Interface.{Interface}
use Rattle.com_classes.specs.declared.interfaces.Method.{Method}
use Rattle.com_classes.specs.declared.classes.Class.{Class}
use Rattle.com_classes.specs.declared.classes.MethodBody.{MethodBody}
use Rattle.com_classes.specs.Activation.{is_agile}
use Rattle.com_classes.specs.BuiltIns.{built_in_interfaces}
use Rattle.com_classes.specs.Lookups.{interface_at, method_at, same_guid}
use Rattle.com_filter.specs.declared.Verdict.{Verdict}
use Rattle.com_filter.specs.declared.Verdict.TheVariants as verdict
use Rattle.com_filter.specs.declared.Rule.{Rule}
use Rattle.com_filter.specs.declared.Rule.TheVariants as rule
use Rattle.com_model.specs.declared.scenario.Scenario.{Scenario}

-- ---- names and texts

-- Whether x is from low to high, both included.
abbrev pub within : (low high x : ℕ) → Bool
within low high x = nat_le low x && nat_le x high

-- Whether a byte is a letter of ASCII, upper or lower case.
abbrev pub is_letter : ℕ → Bool
is_letter c = within 65 90 c || within 97 122 c

-- Whether a byte may stand in a name behind the first: a letter, a digit or the low line.
abbrev pub is_name_byte : ℕ → Bool
is_name_byte c = is_letter c || (within 48 57 c || c == 95)

-- A name is a letter and letters, digits or low lines behind it, `NAME_LIMIT` bytes at most.
abbrev pub IsName : List ℕ → Type 0
IsName [] = ⊥
IsName (c ∷ cs) = (is_letter c ≡ true) × All (λ x. is_name_byte x ≡ true) cs × (length cs < NAME_LIMIT)

-- A text literal has characters alone and no quotation mark.
abbrev pub is_text_byte : ℕ → Bool
is_text_byte c = c == 9 || (within 32 126 c && not (c == 34))

-- A value that may be written in a statement: text and bytes have `LITERAL_LIMIT` bytes at most, and no reference
-- may, not even null.
abbrev pub IsLiteral : Value → Type 0
IsLiteral (value.Text t) = All (λ c. is_text_byte c ≡ true) t × (length t ≤ LITERAL_LIMIT)
IsLiteral (value.Bytes t) = length t ≤ LITERAL_LIMIT
IsLiteral (value.Ref held) = ⊥
IsLiteral _ = Unit {0}

-- An operand is any register or a value that may be written. Which registers there are, `IsInRange` says.
abbrev pub IsOperand : Op → Type 0
IsOperand (op.Register r) = Unit {0}
IsOperand (op.Literal v) = IsLiteral v

-- No two of a list are the same by a test.
abbrev pub Distinct : {X : Type 0} → (X → X → Bool) → List X → Type 0
Distinct same [] = Unit {0}
Distinct same (x ∷ xs) = All (λ y. same x y ≡ false) xs × Distinct same xs

-- ---- interfaces

-- Each of a list, with its number.
abbrev pub EachFrom : {X : Type 0} → (ℕ → X → Type 0) → ℕ → List X → Type 0
EachFrom P n [] = Unit {0}
EachFrom P n (x ∷ xs) = P n x × EachFrom P (n + 1) xs

-- An interface names no later one.
abbrev pub IsKindBy : ℕ → Kind → Type 0
IsKindBy n (kind.Ref i) = i ≤ n
IsKindBy n _ = Unit {0}

-- A method of interface n has no result, or one of a kind that names no interface later than n.
abbrev pub IsResultBy : ℕ → Option Kind → Type 0
IsResultBy n None = Unit {0}
IsResultBy n (Some k) = IsKindBy n k

-- The form of a method of interface n: its name, and `PARAMETER_LIMIT` parameters at most; no kind in it names an
-- interface later than n.
abbrev pub IsMethod : ℕ → Method → Type 0
IsMethod n m = IsName m.name × All (IsKindBy n) m.params × (length m.params ≤ PARAMETER_LIMIT) × IsResultBy n m.result

-- Whether two methods have the same name, letter for letter.
abbrev pub same_method : Method → Method → Bool
same_method m k = bytes_eq m.name k.name

-- The form of interface n: its name, and at most `METHOD_LIMIT` methods of their form, no two with one name.
abbrev pub IsInterface : ℕ → Interface → Type 0
IsInterface n i =
    IsName i.name × All (IsMethod n) i.methods × (length i.methods ≤ METHOD_LIMIT) × Distinct same_method i.methods

-- Whether two interfaces have the same name or the same IID.
abbrev pub same_interface : Interface → Interface → Bool
same_interface i k = bytes_eq i.name k.name || same_guid i.iid k.iid

-- The IIDs that Microsoft's documentation gives to its own interfaces end alike.
abbrev pub documented_iid : ℕ → Guid
documented_iid n =
    record { data1 = n; data2 = 0; data3 = 0; data4 = 0xc0 ∷ 0 ∷ 0 ∷ 0 ∷ 0 ∷ 0 ∷ 0 ∷ 0x46 ∷ [] }

-- A scenario may not declare the IIDs of IClassFactory, IMessageFilter and IGlobalInterfaceTable, nor name an
-- interface as a type.
abbrev pub is_reserved : Guid → Bool
is_reserved g =
    same_guid g (documented_iid 1)
    || (same_guid g (documented_iid 0x16) || same_guid g (documented_iid 0x146))

-- Whether a name is one of the words for types: int, bool, text, bytes and guid.
abbrev pub is_type_word : List ℕ → Bool
is_type_word n =
    bytes_eq n (codes "int") || (bytes_eq n (codes "bool") || (bytes_eq n (codes "text")
    || (bytes_eq n (codes "bytes") || bytes_eq n (codes "guid"))))

-- An interface with an IID that is not reserved, and a name that is no word for a type.
abbrev pub IsAllowed : Interface → Type 0
IsAllowed i = (is_reserved i.iid ≡ false) × (is_type_word i.name ≡ false)

-- The built-in interfaces stand first.
pub record FormedInterfaces (xs : List Interface) : Type 0 where
  pub built : take BUILT_IN_COUNT xs ≡ built_in_interfaces
  pub few : length xs ≤ INTERFACE_LIMIT
  pub each : EachFrom IsInterface 0 xs
  pub allowed : All IsAllowed xs
  pub distinct : Distinct same_interface xs

-- ---- statements

-- Where a statement stands: in a body or in a script, in an agile class or not, and the last class that it
-- may name.
pub record Context : Type 0 where
  pub body : Bool
  pub links : Bool
  pub classes : ℕ

-- A class that is named by number is one from 1 to the last that the context allows. A GUID may be any.
abbrev pub IsClassNamed : Context → Asked → Type 0
IsClassNamed x (asked.Number c) = (1 ≤ c) × (c ≤ x.classes)
IsClassNamed x (asked.Guid g) = Unit {0}

-- An interface that is named by number is declared in the scenario. A GUID may be any.
abbrev pub IsInterfaceNamed : Scenario → Asked → Type 0
IsInterfaceNamed s (asked.Number i) = i < length s.classes.interfaces
IsInterfaceNamed s (asked.Guid g) = Unit {0}

-- A slot may be named everywhere, a link only in a body of a class that is not agile.
abbrev pub IsPlaceIn : Context → Place → Type 0
IsPlaceIn x (place.Slot k) = Unit {0}
IsPlaceIn x (place.Link k) = x.links ≡ true

-- Arguments are as many as the parameters: a slot or null for an interface, an operand otherwise.
abbrev pub FitsKind : Kind → Arg → Type 0
FitsKind (kind.Ref i) (arg.Op o) = ⊥
FitsKind (kind.Ref i) _ = Unit {0}
FitsKind _ (arg.Op o) = IsOperand o
FitsKind _ _ = ⊥

-- The arguments are as many as the parameters, and each fits the kind of its own.
abbrev pub FitKinds : List Kind → List Arg → Type 0
FitKinds [] [] = Unit {0}
FitKinds (k ∷ ks) (a ∷ as') = FitsKind k a × FitKinds ks as'
FitKinds _ _ = ⊥

-- The destination fits the declared result: a slot fits a reference, a register any other kind, and Nowhere every one;
-- where no result is declared, Nowhere alone fits.
abbrev pub FitsResult : Option Kind → Destination → Type 0
FitsResult k destination.Nowhere = Unit {0}
FitsResult None _ = ⊥
FitsResult (Some (kind.Ref i)) (destination.Slot n) = Unit {0}
FitsResult (Some (kind.Ref i)) (destination.Register n) = ⊥
FitsResult (Some k) (destination.Register n) = Unit {0}
FitsResult (Some k) (destination.Slot n) = ⊥

-- A call by a method's number has no arguments and no destination, and the number may be outside the
-- interface's table.
abbrev pub FitsMethod : Option Method → List Arg → Destination → Type 0
FitsMethod None args to = ⊥
FitsMethod (Some m) args to = FitKinds m.params args × FitsResult m.result to

-- A call names a declared interface. It has no arguments and no destination, and then any method number, or both fit
-- the method that is declared under its number.
abbrev pub IsCall : Scenario → ℕ → ℕ → List Arg → Destination → Type 0
IsCall s i m args to =
    (i < length s.classes.interfaces)
    × (((args ≡ []) × (to ≡ destination.Nowhere)) ⊎ FitsMethod (method_at s.classes i m) args to)

-- What a `leave` gives as the result: nothing, a slot, a register, or a value that may be written.
abbrev pub IsGivenValue : Given → Type 0
IsGivenValue (given.Op o) = IsOperand o
IsGivenValue _ = Unit {0}

-- A `setfilter` names none, or the number of a declared filter, from 1.
abbrev pub IsFilterNamed : Scenario → Option ℕ → Type 0
IsFilterNamed s None = Unit {0}
IsFilterNamed s (Some f) = (1 ≤ f) × (f ≤ length s.filters)

-- A statement that may stand in the context: it holds and names what it may there, and its counts keep their limits.
-- `load`, `store` and `leave` stand in bodies alone, `init`, `uninit`, `setfilter` and `pump` in scripts alone.
abbrev pub IsStatement : Scenario → Context → Stmt → Type 0
IsStatement s x (stmt.Set to from) = IsOperand from
IsStatement s x (stmt.Add to from) = IsOperand from
IsStatement s x (stmt.Sub to from) = IsOperand from
IsStatement s x (stmt.Less to left right) = IsOperand left × IsOperand right
IsStatement s x (stmt.Load to cell) = x.body ≡ true
IsStatement s x (stmt.Store cell from) = (x.body ≡ true) × IsOperand from
IsStatement s x (stmt.Skip n) = (1 ≤ n) × (n ≤ SKIP_LIMIT)
IsStatement s x (stmt.SkipZero r n) = (1 ≤ n) × (n ≤ SKIP_LIMIT)
IsStatement s x (stmt.Create slot k i) = IsClassNamed x k × IsInterfaceNamed s i
IsStatement s x (stmt.Query to from i) = IsInterfaceNamed s i
IsStatement s x (stmt.Copy to from) = IsPlaceIn x to × IsPlaceIn x from
IsStatement s x (stmt.Release from) = IsPlaceIn x from
IsStatement s x (stmt.Call slot i m args to) = IsCall s i m args to
IsStatement s x (stmt.Raw b bytes) = (1 ≤ length bytes) × (length bytes ≤ RAW_LIMIT)
IsStatement s x (stmt.Get slot g) = IsOperand g
IsStatement s x (stmt.Revoke g) = IsOperand g
IsStatement s x (stmt.Post l w) = IsOperand l × IsOperand w
IsStatement s x (stmt.Quit l) = IsOperand l
IsStatement s x (stmt.Leave code v) = (x.body ≡ true) × IsGivenValue v
IsStatement s x (stmt.Init m) = x.body ≡ false
IsStatement s x stmt.Uninit = x.body ≡ false
IsStatement s x (stmt.SetFilter f) = (x.body ≡ false) × IsFilterNamed s f
IsStatement s x (stmt.Pump n) = (x.body ≡ false) × (n ≤ PUMP_LIMIT)
IsStatement s x _ = Unit {0}

-- A body or script within its limit, whose skips end inside it or at its end.
pub record FormedBody (s : Scenario) (x : Context) (limit : ℕ) (b : List Stmt) : Type 0 where
  pub ranges : All IsInRange b
  pub statements : All (IsStatement s x) b
  pub whole : fault_of b limit ≡ None

-- A script may name every class of the scenario, and no link.
abbrev pub in_script : Scenario → Context
in_script s = record { body = false; links = false; classes = length s.classes.classes }

-- ---- classes

-- A body of class n may name no class later than n, and a link only where the class is not agile.
abbrev pub in_class : (number : ℕ) → Class → Context
in_class n k = record { body = true; links = not (is_agile k.model); classes = n }

-- The methods of an interface; none where no interface is given.
abbrev pub methods_of : Option Interface → List Method
methods_of None = []
methods_of (Some i) = i.methods

-- The form of a body in a class: `BODY_LIMIT` statements at most, for a method that a declared interface has.
abbrev pub IsBody : Scenario → Context → MethodBody → Type 0
IsBody s x b = FormedBody s x BODY_LIMIT b.body × (b.method < length (methods_of (interface_at s.classes b.iface)))

-- Whether two bodies are for the same method of the same interface.
abbrev pub same_body : MethodBody → MethodBody → Bool
same_body b c = b.iface == c.iface && b.method == c.method

-- A built-in class has the one interface of its kind and no bodies of its own; none that is agile is a relay.
abbrev pub IsNative : Native → Class → Type 0
IsNative native.Bodies k = (1 ≤ length k.interfaces) × (length k.interfaces ≤ LISTED_LIMIT)
IsNative native.Counter k = (k.interfaces ≡ ICOUNTER ∷ []) × (k.bodies ≡ [])
IsNative native.Relay k = (k.interfaces ≡ IRELAY ∷ []) × (k.bodies ≡ []) × (is_agile k.model ≡ false)
IsNative native.Latch k = (k.interfaces ≡ ILATCH ∷ []) × (k.bodies ≡ [])

-- The form of class n: its name, what is asked of its kind, declared interfaces, and bodies that may stand in class n,
-- one at most for a method.
abbrev pub IsClass : Scenario → ℕ → Class → Type 0
IsClass s n k =
    IsName k.name × IsNative k.native k × All (λ i. i < length s.classes.interfaces) k.interfaces
    × All (IsBody s (in_class n k)) k.bodies × Distinct same_body k.bodies

-- Whether two classes have the same name or the same CLSID.
abbrev pub same_class : Class → Class → Bool
same_class k j = bytes_eq k.name j.name || same_guid k.clsid j.clsid

-- There are `CLASS_LIMIT` classes at most, each of the form of its number, from 1; no two have the same name or
-- CLSID.
pub record FormedClasses (s : Scenario) : Type 0 where
  pub few : length s.classes.classes ≤ CLASS_LIMIT
  pub each : EachFrom (IsClass s) 1 s.classes.classes
  pub distinct : Distinct same_class s.classes.classes

-- ---- filters

-- The call type that an Incoming rule is for: top-level (1), nested (2), top-level with a call pending (4), or any.
abbrev pub IsType : Option ℕ → Type 0
IsType None = Unit {0}
IsType (Some t) = (t == TOP_LEVEL || (t == NESTED || t == TOP_LEVEL_CALL_PENDING)) ≡ true

-- The verdict that a Retry rule is for: rejected, later, or any. A call that is handled is not retried.
abbrev pub IsAsked : Option Verdict → Type 0
IsAsked (Some verdict.Handled) = ⊥
IsAsked _ = Unit {0}

-- The answer of a Retry rule: -1, which gives the call up, or 0 to `LAST_MS`, which posts it again: below
-- `LEAST_DELAY_MS` at once, else after so many milliseconds.
abbrev pub IsRetryAnswer : ℤ → Type 0
IsRetryAnswer (pos n) = n ≤ LAST_MS
IsRetryAnswer (negsuc n) = n ≡ 0

-- The form of a rule: it is for what may be asked, from a time of `LAST_MS` milliseconds at most, and answers what may
-- be answered; to a pending message that is 0, 1 or 2.
abbrev pub IsRule : Rule → Type 0
IsRule (rule.Incoming t ms v) = IsType t × (ms ≤ LAST_MS)
IsRule (rule.Retry v ms n) = IsAsked v × (ms ≤ LAST_MS) × IsRetryAnswer n
IsRule (rule.Pending ms n) = (ms ≤ LAST_MS) × (n ≤ 2)

-- The form of a message filter: `RULE_LIMIT` rules at most, each of the form of a rule.
abbrev pub IsFilter : List Rule → Type 0
IsFilter rules = All IsRule rules × (length rules ≤ RULE_LIMIT)

-- ---- the whole

-- A scenario of version 1 or 2, with 1 to `POOL_LIMIT` pool lanes, in which all keeps its form and its limits. The
-- picks of its schedule may be any numbers of 32 bits, and need not be lanes.
pub record Formed (s : Scenario) : Type 0 where
  pub version : (1 ≤ s.version) × (s.version ≤ 2)
  pub pool : (1 ≤ s.pool) × (s.pool ≤ POOL_LIMIT)
  pub interfaces : FormedInterfaces s.classes.interfaces
  pub classes : FormedClasses s
  pub filters : All IsFilter s.filters × (length s.filters ≤ FILTER_LIMIT)
  pub threads : All (FormedBody s (in_script s) SCRIPT_LIMIT) s.threads × (length s.threads ≤ THREAD_LIMIT)
  pub picks : All (λ l. l < 2 ^ 32) s.picks
