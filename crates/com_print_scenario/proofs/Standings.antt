-- The statements of a formed scenario can be written and read where they stand.
use Rattle.std.proofs.Common.{◌≡◌, ℕ, ◌-◌, ◌<◌, ◌⊎◌, inl, inr, List, [], ◌∷◌, ◌++◌, Option, Some, None, Bool, false, refl, sym, ap, ◌∙◌, arith, length, slice_get, option_and_then, subst, codes}
use Rattle.std.proofs.Math.ListN.{get_or-append}
use Rattle.com_base.specs.declared.value.Kind.{Kind}
use Rattle.com_base.specs.declared.value.Kind.TheVariants as kinds
use Rattle.com_base.specs.declared.value.Value.{Value}
use Rattle.com_base.specs.declared.value.Value.TheVariants as values
use Rattle.com_body.specs.declared.operands.Asked.{Asked}
use Rattle.com_body.specs.declared.operands.Asked.TheVariants as askeds
use Rattle.com_body.specs.declared.operands.Op.{Op}
use Rattle.com_body.specs.declared.operands.Op.TheVariants as ops
use Rattle.com_body.specs.declared.operands.Place.{Place}
use Rattle.com_body.specs.declared.operands.Place.TheVariants as places
use Rattle.com_body.specs.declared.operands.Arg.{Arg}
use Rattle.com_body.specs.declared.operands.Arg.TheVariants as args
use Rattle.com_body.specs.declared.operands.Given.{Given}
use Rattle.com_body.specs.declared.operands.Given.TheVariants as gifts
use Rattle.com_body.specs.declared.operands.Destination.{Destination}
use Rattle.com_body.specs.declared.operands.Destination.TheVariants as destinations
use Rattle.com_body.specs.declared.statements.Stmt.{Stmt}
use Rattle.com_body.specs.declared.statements.Stmt.TheVariants as stmts
use Rattle.com_classes.specs.declared.interfaces.Interface.{Interface}
use Rattle.com_classes.specs.declared.interfaces.Method.{Method}
use Rattle.com_model.specs.declared.scenario.Scenario.{Scenario}
use Rattle.com_classes.specs.Lookups.{method_at}
use Rattle.com_model.specs.Formed.{Context, IsLiteral, IsOperand, IsClassNamed, IsInterfaceNamed, IsPlaceIn, FitsKind, FitKinds, FitsResult, FitsMethod, IsGivenValue, IsFilterNamed, IsStatement}
use Rattle.com_read_statements.specs.declared.keywords.Program.{Program}
use Rattle.com_read_statements.specs.declared.names.Names.{Names}
use Rattle.com_read_statements.specs.Keywords.{has_cells, has_links}
use Rattle.com_read_statements.specs.Calls.{method_of, in_methods}
use Rattle.com_print.specs.Words.{name_at, slot_word}
use Rattle.com_print.specs.Ranges.{TakesOp, TakesGiven, TakesPlace, IsNamed, IsLiteral as CanWrite}
use Rattle.com_print.specs.Standing.{IsFilter, TakesArg, TakesArgs, TakesResult, TakesMethod, Stands}
use Rattle.com_print.specs.StatementWords.{statement_words, class_word, interface_word}
use Rattle.com_print.specs.Spelled.{Spelled, plain}

literal : (v : Value) → IsLiteral v → CanWrite v
literal (values.Int z) h = tt
literal (values.Bool b) h = tt
literal (values.Text t) h = h
literal (values.Bytes t) h = h
literal (values.Guid g) h = tt
literal (values.Ref r) h = absurd h

op : (o : Op) → IsOperand o → TakesOp o
op (ops.Register r) h = tt
op (ops.Literal v) h = literal v h

given_value : (g : Given) → IsGivenValue g → TakesGiven g
given_value gifts.Nothing h = tt
given_value (gifts.Op o) h = op o h
given_value (gifts.Slot n) h = tt

-- What a statement's place has in the scenario, it has among the names.
pub record Corresponds (s : Scenario) (x : Context) (p : Program) (names : Names) : Type 0 where
  pub cells : has_cells p ≡ x.body
  pub links : has_links p ≡ x.links
  pub classes : length names.classes ≡ x.classes
  pub interfaces : length names.interfaces ≡ length s.classes.interfaces
  pub tables : names.tables ≡ s.classes.interfaces
  pub filters : x.body ≡ false → length names.filters ≡ length s.filters

class_named : (x : Context) (names : List (List ℕ)) (a : Asked) → length names ≡ x.classes → IsClassNamed x a → IsNamed names 1 a
class_named x names (askeds.Number n) e h = (h.0, omega (arith, h.1, e))
class_named x names (askeds.Guid g) e h = tt

interface_named : (s : Scenario) (names : List (List ℕ)) (a : Asked) → length names ≡ length s.classes.interfaces → IsInterfaceNamed s a → IsNamed names 0 a
interface_named s names (askeds.Number n) e h = (omega arith, omega (arith, h, e))
interface_named s names (askeds.Guid g) e h = tt

place : (x : Context) (links : Bool) (p : Place) → links ≡ x.links → IsPlaceIn x p → TakesPlace links p
place x links (places.Slot n) e h = tt
place x links (places.Link n) e h = e ∙ h

arg : (k : Kind) (a : Arg) → FitsKind k a → TakesArg k a
arg kinds.Int (args.Op o) h = op o h
arg kinds.Int (args.Slot n) h = absurd h
arg kinds.Int args.Null h = absurd h
arg kinds.Bool (args.Op o) h = op o h
arg kinds.Bool (args.Slot n) h = absurd h
arg kinds.Bool args.Null h = absurd h
arg kinds.Text (args.Op o) h = op o h
arg kinds.Text (args.Slot n) h = absurd h
arg kinds.Text args.Null h = absurd h
arg kinds.Bytes (args.Op o) h = op o h
arg kinds.Bytes (args.Slot n) h = absurd h
arg kinds.Bytes args.Null h = absurd h
arg kinds.Guid (args.Op o) h = op o h
arg kinds.Guid (args.Slot n) h = absurd h
arg kinds.Guid args.Null h = absurd h
arg (kinds.Ref i) (args.Op o) h = absurd h
arg (kinds.Ref i) (args.Slot n) h = tt
arg (kinds.Ref i) args.Null h = tt

all_args : (ks : List Kind) (as' : List Arg) → FitKinds ks as' → TakesArgs ks as'
all_args [] [] h = tt
all_args [] (a ∷ as') h = absurd h
all_args (k ∷ ks) [] h = absurd h
all_args (k ∷ ks) (a ∷ as') h = (arg k a h.0, all_args ks as' h.1)

result : (k : Option Kind) (d : Destination) → FitsResult k d → TakesResult k d
result None destinations.Nowhere h = tt
result None (destinations.Register n) h = absurd h
result None (destinations.Slot n) h = absurd h
result (Some kinds.Int) destinations.Nowhere h = tt
result (Some kinds.Int) (destinations.Register n) h = tt
result (Some kinds.Int) (destinations.Slot n) h = absurd h
result (Some kinds.Bool) destinations.Nowhere h = tt
result (Some kinds.Bool) (destinations.Register n) h = tt
result (Some kinds.Bool) (destinations.Slot n) h = absurd h
result (Some kinds.Text) destinations.Nowhere h = tt
result (Some kinds.Text) (destinations.Register n) h = tt
result (Some kinds.Text) (destinations.Slot n) h = absurd h
result (Some kinds.Bytes) destinations.Nowhere h = tt
result (Some kinds.Bytes) (destinations.Register n) h = tt
result (Some kinds.Bytes) (destinations.Slot n) h = absurd h
result (Some kinds.Guid) destinations.Nowhere h = tt
result (Some kinds.Guid) (destinations.Register n) h = tt
result (Some kinds.Guid) (destinations.Slot n) h = absurd h
result (Some (kinds.Ref i)) destinations.Nowhere h = tt
result (Some (kinds.Ref i)) (destinations.Register n) h = absurd h
result (Some (kinds.Ref i)) (destinations.Slot n) h = tt

method : (m : Option Method) (as' : List Arg) (d : Destination) → FitsMethod m as' d → TakesMethod m as' d
method None as' d h = absurd h
method (Some m) as' d h = (all_args m.params as' h.0, result m.result d h.1)

in_interface : (o : Option Interface) (m : ℕ) → option_and_then (λ (x : Interface). slice_get x.methods m) o ≡ in_methods m o
in_interface None m = refl
in_interface (Some i) m = refl

-- the tables' method is the scenario's
same_method : (s : Scenario) (tables : List Interface) (i m : ℕ) → tables ≡ s.classes.interfaces → method_at s.classes i m ≡ method_of tables i m
same_method s tables i m e = in_interface (slice_get s.classes.interfaces i) m ∙ ap (λ (x : List Interface). method_of x i m) (sym e)

call : (s : Scenario) (tables : List Interface) (i m : ℕ) (as' : List Arg) (d : Destination) → tables ≡ s.classes.interfaces
    → ((as' ≡ []) × (d ≡ destinations.Nowhere)) ⊎ FitsMethod (method_at s.classes i m) as' d
    → ((as' ≡ []) × (d ≡ destinations.Nowhere)) ⊎ TakesMethod (method_of tables i m) as' d
call s tables i m as' d e h = elim h [
  | inl plain ↦ inl plain
  | inr fits ↦ inr (subst (λ (x : Option Method). TakesMethod x as' d) (same_method s tables i m e) (method (method_at s.classes i m) as' d fits))
]

filter_named : (s : Scenario) (names : Names) (f : Option ℕ) → length names.filters ≡ length s.filters → IsFilterNamed s f → IsFilter names f
filter_named s names None e h = tt
filter_named s names (Some n) e h = (h.0, omega (arith, h.1, e))

pub stands_of : (s : Scenario) (x : Context) (p : Program) (names : Names) (t : Stmt) → Corresponds s x p names → IsStatement s x t → Stands p names t
stands_of s x p names (stmts.Set to from) c h = op from h
stands_of s x p names (stmts.Add to from) c h = op from h
stands_of s x p names (stmts.Sub to from) c h = op from h
stands_of s x p names (stmts.Less to left right) c h = (op left h.0, op right h.1)
stands_of s x p names (stmts.Same to left right) c h = tt
stands_of s x p names (stmts.Load to cell) c h = c.cells ∙ h
stands_of s x p names (stmts.Store cell from) c h = (c.cells ∙ h.0, op from h.1)
stands_of s x p names (stmts.Skip count) c h = h
stands_of s x p names (stmts.SkipZero register count) c h = h
stands_of s x p names (stmts.Create slot class iface) c h = (class_named x names.classes class c.classes h.0, interface_named s names.interfaces iface c.interfaces h.1)
stands_of s x p names (stmts.Query to from iface) c h = interface_named s names.interfaces iface c.interfaces h
stands_of s x p names (stmts.Copy to from) c h = (place x (has_links p) to c.links h.0, place x (has_links p) from c.links h.1)
stands_of s x p names (stmts.Release from) c h = place x (has_links p) from c.links h
stands_of s x p names (stmts.Call slot iface method given to) c h = (omega (arith, h.0, c.interfaces), call s names.tables iface method given to c.tables h.1)
stands_of s x p names (stmts.Marshal buffer slot mode) c h = tt
stands_of s x p names (stmts.Unmarshal slot buffer) c h = tt
stands_of s x p names (stmts.Drop buffer) c h = tt
stands_of s x p names (stmts.Raw buffer bytes) c h = h
stands_of s x p names (stmts.Register to slot) c h = tt
stands_of s x p names (stmts.Get slot cookie) c h = op cookie h
stands_of s x p names (stmts.Revoke cookie) c h = op cookie h
stands_of s x p names (stmts.Disconnect slot) c h = tt
stands_of s x p names (stmts.Post lane word) c h = (op lane h.0, op word h.1)
stands_of s x p names (stmts.Quit lane) c h = op lane h
stands_of s x p names (stmts.Leave answer given) c h = (c.cells ∙ h.0, given_value given h.1)
stands_of s x p names (stmts.Init mode) c h = c.cells ∙ h
stands_of s x p names stmts.Uninit c h = c.cells ∙ h
stands_of s x p names (stmts.SetFilter filter) c h = (c.cells ∙ h.0, filter_named s names filter (c.filters h.0) h.1)
stands_of s x p names (stmts.Pump bound) c h = (c.cells ∙ h.0, h.1)

-- ---- the names of a place, and those of the whole scenario

front_name : (front more : List (List ℕ)) (k : ℕ) → k < length front → name_at (front ++ more) k ≡ name_at front k
front_name front more k lt = get_or-append front more [] k lt

class_same : (full names : Names) (more : List (List ℕ)) (a : Asked) → full.classes ≡ names.classes ++ more → IsNamed names.classes 1 a
    → class_word full a ≡ class_word names a
class_same full names more (askeds.Number n) e h =
    let lt : n - 1 < length names.classes = omega (arith, h.0, h.1) in
    ap (λ (x : List (List ℕ)). plain (name_at x (n - 1))) e ∙ ap plain (front_name names.classes more (n - 1) lt)
class_same full names more (askeds.Guid g) e h = refl

-- A statement is written in the same words among the names of its place and of the whole scenario.
pub words_same : (p : Program) (full : Names) (front more filters : List (List ℕ)) (t : Stmt) → full.classes ≡ front ++ more
    → (has_cells p ≡ false → filters ≡ full.filters) → Stands p (record full { classes = front; filters = filters }) t
    → statement_words full t ≡ statement_words (record full { classes = front; filters = filters }) t
words_same p full front more filters (stmts.Create slot class iface) e f h =
    ap (λ (w : Spelled). plain (codes "create") ∷ slot_word slot ∷ w ∷ interface_word full iface ∷ []) (class_same full (record full { classes = front; filters = filters }) more class e h.0)
words_same p full front more filters (stmts.SetFilter filter) e f h =
    ap (λ (x : List (List ℕ)). statement_words (record full { filters = x }) (stmts.SetFilter filter)) (sym (f h.0))
words_same p full front more filters (stmts.Set to from) e f h = refl
words_same p full front more filters (stmts.Add to from) e f h = refl
words_same p full front more filters (stmts.Sub to from) e f h = refl
words_same p full front more filters (stmts.Less to left right) e f h = refl
words_same p full front more filters (stmts.Same to left right) e f h = refl
words_same p full front more filters (stmts.Load to cell) e f h = refl
words_same p full front more filters (stmts.Store cell from) e f h = refl
words_same p full front more filters (stmts.Skip count) e f h = refl
words_same p full front more filters (stmts.SkipZero register count) e f h = refl
words_same p full front more filters (stmts.Query to from iface) e f h = refl
words_same p full front more filters (stmts.Copy to from) e f h = refl
words_same p full front more filters (stmts.Release from) e f h = refl
words_same p full front more filters (stmts.Call slot iface method given to) e f h = refl
words_same p full front more filters (stmts.Marshal buffer slot mode) e f h = refl
words_same p full front more filters (stmts.Unmarshal slot buffer) e f h = refl
words_same p full front more filters (stmts.Drop buffer) e f h = refl
words_same p full front more filters (stmts.Raw buffer bytes) e f h = refl
words_same p full front more filters (stmts.Register to slot) e f h = refl
words_same p full front more filters (stmts.Get slot cookie) e f h = refl
words_same p full front more filters (stmts.Revoke cookie) e f h = refl
words_same p full front more filters (stmts.Disconnect slot) e f h = refl
words_same p full front more filters (stmts.Post lane word) e f h = refl
words_same p full front more filters (stmts.Quit lane) e f h = refl
words_same p full front more filters (stmts.Leave answer given) e f h = refl
words_same p full front more filters (stmts.Init mode) e f h = refl
words_same p full front more filters stmts.Uninit e f h = refl
words_same p full front more filters (stmts.Pump bound) e f h = refl
