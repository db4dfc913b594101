-- Statements that can be written: what stands where, and what must be declared.
use Rattle.std.specs.Prelude.{◌≡◌, ℕ, ◌≤◌, ◌<◌, ◌⊎◌, true, false, List, [], ◌∷◌, Option, Some, None, length}
use Rattle.std.specs.Prelude.{take, All, codes}
use Rattle.std.specs.Str.{bytes_eq}
use Rattle.com_base.specs.declared.limits.TheConstants.{PUMP_LIMIT, RAW_LIMIT, SKIP_LIMIT}
use Rattle.com_base.specs.declared.value.Kind.{Kind}
use Rattle.com_base.specs.declared.value.Kind.TheVariants as kinds
use Rattle.com_body.specs.declared.operands.Asked.{Asked}
use Rattle.com_body.specs.declared.operands.Arg.{Arg}
use Rattle.com_body.specs.declared.operands.Arg.TheVariants as args
use Rattle.com_body.specs.declared.operands.Destination.{Destination}
use Rattle.com_body.specs.declared.operands.Destination.TheVariants as destinations
use Rattle.com_body.specs.declared.statements.Stmt.{Stmt}
use Rattle.com_body.specs.declared.statements.Stmt.TheVariants as stmts
use Rattle.com_classes.specs.declared.interfaces.Interface.{Interface}
use Rattle.com_classes.specs.declared.interfaces.Method.{Method}
use Rattle.com_read_statements.specs.declared.names.Names.{Names}
use Rattle.com_read_statements.specs.declared.keywords.Program.{Program}
use Rattle.com_read_statements.specs.Keywords.{has_cells, has_links}
use Rattle.com_read_statements.specs.Calls.{method_of}
use Rattle.com_print.specs.Ranges.{TakesOp, TakesGiven, TakesPlace, AreNames, IsNamed}

-- ---- names

-- the names of methods, in their order
abbrev pub names_of : List Method → List (List ℕ)
names_of [] = []
names_of (m ∷ ms) = m.name ∷ names_of ms

-- names among which statements can be written and read
pub record AreDeclared (names : Names) : Type 0 where
  pub classes : AreNames names.classes
  pub interfaces : AreNames names.interfaces
  pub filters : AreNames names.filters
  pub no_none : All (λ n. bytes_eq n (codes "none") ≡ false) names.filters
  pub methods : All (λ (i : Interface). AreNames (names_of i.methods)) names.tables

-- ---- statements

-- classes and filters count from 1
abbrev pub IsClass : Names → Asked → Type 0
IsClass names asked = IsNamed names.classes 1 asked

abbrev pub IsInterface : Names → Asked → Type 0
IsInterface names asked = IsNamed names.interfaces 0 asked

-- no filter, or a declared one by its number from 1
abbrev pub IsFilter : Names → Option ℕ → Type 0
IsFilter names None = Unit {0}
IsFilter names (Some n) = (1 ≤ n) × (n ≤ length names.filters)

-- a slot or null for an interface, a register or a literal otherwise
abbrev pub TakesArg : Kind → Arg → Type 0
TakesArg (kinds.Ref i) (args.Op op) = ⊥
TakesArg (kinds.Ref i) _ = Unit {0}
TakesArg _ (args.Op op) = TakesOp op
TakesArg _ _ = ⊥

-- as many arguments as parameters, and each is one that its parameter's kind takes
abbrev pub TakesArgs : List Kind → List Arg → Type 0
TakesArgs [] [] = Unit {0}
TakesArgs (k ∷ ks) (a ∷ more) = TakesArg k a × TakesArgs ks more
TakesArgs _ _ = ⊥

-- nowhere, or where a result of its kind can stand
abbrev pub TakesResult : Option Kind → Destination → Type 0
TakesResult k destinations.Nowhere = Unit {0}
TakesResult None _ = ⊥
TakesResult (Some (kinds.Ref i)) (destinations.Slot n) = Unit {0}
TakesResult (Some (kinds.Ref i)) (destinations.Register n) = ⊥
TakesResult (Some k) (destinations.Register n) = Unit {0}
TakesResult (Some k) (destinations.Slot n) = ⊥

-- The method takes these arguments, and its result can go there. No call stands of a method that the table lacks.
abbrev pub TakesMethod : Option Method → List Arg → Destination → Type 0
TakesMethod None given to = ⊥
TakesMethod (Some m) given to = TakesArgs m.params given × TakesResult m.result to

-- A call gives nothing and keeps no result, or it gives what a method of the table takes.
abbrev pub IsCall : Names → ℕ → ℕ → List Arg → Destination → Type 0
IsCall names iface method given to =
    (iface < length names.interfaces)
    × (((given ≡ []) × (to ≡ destinations.Nowhere))
    ⊎ TakesMethod (method_of names.tables iface method) given to)

-- Whether a statement can stand in a script or a body among these names.
abbrev pub Stands : Program → Names → Stmt → Type 0
Stands p names (stmts.Set to from) = TakesOp from
Stands p names (stmts.Add to from) = TakesOp from
Stands p names (stmts.Sub to from) = TakesOp from
Stands p names (stmts.Less to left right) = TakesOp left × TakesOp right
Stands p names (stmts.Load to cell) = has_cells p ≡ true
Stands p names (stmts.Store cell from) = (has_cells p ≡ true) × TakesOp from
Stands p names (stmts.Skip count) = (1 ≤ count) × (count ≤ SKIP_LIMIT)
Stands p names (stmts.SkipZero register count) = (1 ≤ count) × (count ≤ SKIP_LIMIT)
Stands p names (stmts.Create slot class iface) = IsClass names class × IsInterface names iface
Stands p names (stmts.Query to from iface) = IsInterface names iface
Stands p names (stmts.Copy to from) = TakesPlace (has_links p) to × TakesPlace (has_links p) from
Stands p names (stmts.Release from) = TakesPlace (has_links p) from
Stands p names (stmts.Call slot iface method given to) = IsCall names iface method given to
Stands p names (stmts.Raw buffer bytes) = (1 ≤ length bytes) × (length bytes ≤ RAW_LIMIT)
Stands p names (stmts.Get slot cookie) = TakesOp cookie
Stands p names (stmts.Revoke cookie) = TakesOp cookie
Stands p names (stmts.Post lane word) = TakesOp lane × TakesOp word
Stands p names (stmts.Quit lane) = TakesOp lane
Stands p names (stmts.Leave answer given) = (has_cells p ≡ true) × TakesGiven given
Stands p names (stmts.Init mode) = has_cells p ≡ false
Stands p names stmts.Uninit = has_cells p ≡ false
Stands p names (stmts.SetFilter filter) = (has_cells p ≡ false) × IsFilter names filter
Stands p names (stmts.Pump bound) = (has_cells p ≡ false) × (bound ≤ PUMP_LIMIT)
Stands p names _ = Unit {0}

-- Names behind which more may be declared: the interfaces that are named have the same tables.
pub record Extends (few all : Names) : Type 0 where
  pub classes : take (length few.classes) all.classes ≡ few.classes
  pub interfaces : take (length few.interfaces) all.interfaces ≡ few.interfaces
  pub filters : take (length few.filters) all.filters ≡ few.filters
  pub tables : take (length few.interfaces) all.tables ≡ take (length few.interfaces) few.tables
