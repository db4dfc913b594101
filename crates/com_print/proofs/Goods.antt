-- A statement's words are good words.
use Rattle.std.proofs.Common.{◌≡◌, ℕ, ◌-◌, ◌<◌, ◌≤◌, ◌^◌, inl, inr, List, [], ◌∷◌, ◌++◌, map, Option, Some, None, Bool, true, false, if◌then◌else◌, All, length, length-append, decimal, refl, ap, ◌∙◌, arith}
use Rattle.std.specs.List.{list_all}
use Rattle.std.proofs.lemmas.List.Elements.{All-head, All-tail}
use Rattle.std.proofs.lemmas.List.Folds.{list_all-append}
use Rattle.com_base.specs.declared.value.Kind.{Kind}
use Rattle.com_base.specs.declared.value.Kind.TheVariants as kinds
use Rattle.com_body.specs.declared.operands.Arg.{Arg}
use Rattle.com_body.specs.declared.operands.Arg.TheVariants as args
use Rattle.com_body.specs.declared.operands.Destination.{Destination}
use Rattle.com_body.specs.declared.operands.Destination.TheVariants as destinations
use Rattle.com_body.specs.declared.statements.Stmt.{Stmt}
use Rattle.com_body.specs.declared.statements.Stmt.TheVariants as stmts
use Rattle.com_body.specs.Bodies.{IsArg, IsDestination, IsInRange}
use Rattle.com_classes.specs.declared.interfaces.Method.{Method}
use Rattle.com_read_statements.specs.declared.keywords.Program.{Program}
use Rattle.com_read_statements.specs.declared.names.Names.{Names}
use Rattle.com_read_statements.specs.Calls.{method_of}
use Rattle.com_print.specs.Spelled.{Spelled, plain, IsSpelled, AreSpelled, IsPlainWord, is_word_byte}
use Rattle.com_print.specs.Words.{arg_word, destination_words, name_at}
use Rattle.com_print.specs.Ranges.{Fits, FitsArg}
use Rattle.com_print.proofs.Spellings.{register_spelled, slot_spelled, cell_spelled, buffer_spelled, place_spelled, op_spelled, decimal_spelled, asked_spelled, name_spelled, name_bytes, decimal_word, raw_spelled, code_spelled, given_spelled, destination_spelled, mode_spelled, marshal_mode_spelled}
use Rattle.com_print.specs.StatementWords.{statement_words, filter_word, takes_nothing, alone_text, method_text, name_of, target_word}
use Rattle.com_print.specs.Standing.{AreDeclared, Stands, IsFilter, IsCall, TakesArg, TakesArgs, TakesMethod}
use Rattle.com_print.proofs.Targets.{is_method_name}

small_spelled : (n most : ℕ) → n ≤ most → most < 2 ^ 64 → IsSpelled (plain (decimal n))
small_spelled n most le few = decimal_spelled n (omega arith)

filter_spelled : (names : Names) (f : Option ℕ) → AreDeclared names → IsFilter names f → IsSpelled (filter_word names f)
filter_spelled names None are is = (omega arith, refl)
filter_spelled names (Some n) are is =
    let a = is.0 in
    let b = is.1 in
    name_spelled names.filters (n - 1) are.filters (omega arith)

-- ---- calls

arg_spelled : (k : Kind) (a : Arg) → IsArg a → TakesArg k a → FitsArg a → IsSpelled (arg_word a)
arg_spelled k (args.Slot n) lt takes fits = slot_spelled n lt
arg_spelled k args.Null lt takes fits = (omega arith, refl)
arg_spelled (kinds.Ref i) (args.Op o) lt takes fits = absurd takes
arg_spelled kinds.Int (args.Op o) lt takes fits = op_spelled o lt takes fits
arg_spelled kinds.Bool (args.Op o) lt takes fits = op_spelled o lt takes fits
arg_spelled kinds.Text (args.Op o) lt takes fits = op_spelled o lt takes fits
arg_spelled kinds.Bytes (args.Op o) lt takes fits = op_spelled o lt takes fits
arg_spelled kinds.Guid (args.Op o) lt takes fits = op_spelled o lt takes fits

args_spelled : (params : List Kind) (given : List Arg) (more : List Spelled) → All IsArg given → TakesArgs params given → All FitsArg given → AreSpelled more
    → AreSpelled (map arg_word given ++ more)
args_spelled [] [] more lt takes fits rest = rest
args_spelled [] (a ∷ given) more lt takes fits rest = absurd takes
args_spelled (p ∷ params) [] more lt takes fits rest = absurd takes
args_spelled (p ∷ params) (a ∷ given) more lt takes fits rest =
    (arg_spelled p a (All-head IsArg a given lt) takes.0 (All-head FitsArg a given fits), args_spelled params given more (All-tail IsArg a given lt) takes.1 (All-tail FitsArg a given fits) rest)

-- an interface's name, a dot and more
dotted_spelled : (front back : List ℕ) → IsPlainWord front → list_all is_word_byte back ≡ true → IsSpelled (plain (front ++ 46 ∷ back))
dotted_spelled front back f b =
    let long = f.0 in
    (omega (arith, length-append front (46 ∷ back)), list_all-append is_word_byte front (46 ∷ back) ∙ rw (f.1, b) refl)

-- the words of a call behind its slot
abbrev CallSpelled : Names → ℕ → ℕ → List Arg → Destination → Type 0
CallSpelled names iface method given to = AreSpelled (target_word names iface method given to ∷ (map arg_word given ++ destination_words to))

by_table : (names : Names) (iface method : ℕ) (given : List Arg) (to : Destination) (o : Option Method) → AreDeclared names → iface < length names.interfaces → method_of names.tables iface method ≡ o
    → method_text names iface method given to ≡ name_of (method_of names.tables iface method) → All IsArg given → IsDestination to → TakesMethod o given to → All FitsArg given
    → CallSpelled names iface method given to
by_table names iface method given to None are lt has text range there takes fits = absurd takes
by_table names iface method given to (Some m) are lt has text range there takes fits =
    let e : method_text names iface method given to ≡ m.name = text ∙ ap name_of has in
    let good = name_bytes m.name (is_method_name names iface method m are has) in (
      dotted_spelled (name_at names.interfaces iface) (method_text names iface method given to) (name_spelled names.interfaces iface are.interfaces lt) (ap (list_all is_word_byte) e ∙ good.1),
      args_spelled m.params given (destination_words to) range takes.0 fits (destination_spelled to there),
    )

-- the method of a call that gives nothing and keeps no result is bytes of words
alone_bytes : (names : Names) (iface method : ℕ) (o : Option Method) (none : Bool) → AreDeclared names → method < 2 ^ 16 → method_of names.tables iface method ≡ o → takes_nothing o ≡ none
    → list_all is_word_byte (method_text names iface method [] destinations.Nowhere) ≡ true
alone_bytes names iface method o false are lt has takes =
    ap (λ (x : Option Method). list_all is_word_byte (alone_text method x)) has
    ∙ ap (λ (b : Bool). list_all is_word_byte (if b then name_of o else 35 ∷ decimal method)) takes
    ∙ decimal_word method (omega arith)
alone_bytes names iface method None true are lt has takes = absurd cc
alone_bytes names iface method (Some m) true are lt has takes =
    ap (λ (x : Option Method). list_all is_word_byte (alone_text method x)) has
    ∙ ap (λ (b : Bool). list_all is_word_byte (if b then m.name else 35 ∷ decimal method)) takes
    ∙ (name_bytes m.name (is_method_name names iface method m are has)).1

call_spelled : (names : Names) (iface method : ℕ) (given : List Arg) (to : Destination) → AreDeclared names → All IsArg given → IsDestination to → IsCall names iface method given to → (method < 2 ^ 16) × All FitsArg given
    → CallSpelled names iface method given to
call_spelled names iface method [] destinations.Nowhere are range there is fits =
    let o = method_of names.tables iface method in (
      dotted_spelled (name_at names.interfaces iface) (method_text names iface method [] destinations.Nowhere) (name_spelled names.interfaces iface are.interfaces is.0)
          (alone_bytes names iface method o (takes_nothing o) are fits.0 refl refl),
      tt,
    )
call_spelled names iface method [] (destinations.Register n) are range there is fits = elim is.1 [
  | inl none ↦ (let e : destinations.Register n ≡ destinations.Nowhere = none.1 in absurd cc)
  | inr takes ↦ by_table names iface method [] (destinations.Register n) (method_of names.tables iface method) are is.0 refl refl range there takes fits.1
]
call_spelled names iface method [] (destinations.Slot n) are range there is fits = elim is.1 [
  | inl none ↦ (let e : destinations.Slot n ≡ destinations.Nowhere = none.1 in absurd cc)
  | inr takes ↦ by_table names iface method [] (destinations.Slot n) (method_of names.tables iface method) are is.0 refl refl range there takes fits.1
]
call_spelled names iface method (a ∷ given) to are range there is fits = elim is.1 [
  | inl none ↦ (let e : a ∷ given ≡ [] = none.0 in absurd cc)
  | inr takes ↦ by_table names iface method (a ∷ given) to (method_of names.tables iface method) are is.0 refl refl range there takes fits.1
]

-- ---- statements

pub statement_spelled : (p : Program) (names : Names) (s : Stmt) → AreDeclared names → IsInRange s → Stands p names s → Fits s → AreSpelled (statement_words names s)
statement_spelled p names (stmts.Set to from) are lt is fits = ((omega arith, refl), (register_spelled to lt.0, (op_spelled from lt.1 is fits, tt)))
statement_spelled p names (stmts.Add to from) are lt is fits = ((omega arith, refl), (register_spelled to lt.0, (op_spelled from lt.1 is fits, tt)))
statement_spelled p names (stmts.Sub to from) are lt is fits = ((omega arith, refl), (register_spelled to lt.0, (op_spelled from lt.1 is fits, tt)))
statement_spelled p names (stmts.Less to left right) are lt is fits = ((omega arith, refl), (register_spelled to lt.0, (op_spelled left lt.1 is.0 fits.0, (op_spelled right lt.2 is.1 fits.1, tt))))
statement_spelled p names (stmts.Same to left right) are lt is fits = ((omega arith, refl), (register_spelled to lt.0, (slot_spelled left lt.1, (slot_spelled right lt.2, tt))))
statement_spelled p names (stmts.Load to cell) are lt is fits = ((omega arith, refl), (register_spelled to lt.0, (cell_spelled cell lt.1, tt)))
statement_spelled p names (stmts.Store cell from) are lt is fits = ((omega arith, refl), (cell_spelled cell lt.0, (op_spelled from lt.1 is.1 fits, tt)))
statement_spelled p names (stmts.Skip count) are lt is fits = ((omega arith, refl), (small_spelled count 2000 is.1 (omega arith), tt))
statement_spelled p names (stmts.SkipZero register count) are lt is fits = ((omega arith, refl), (register_spelled register lt, (small_spelled count 2000 is.1 (omega arith), tt)))
statement_spelled p names (stmts.Create slot class iface) are lt is fits = ((omega arith, refl), (slot_spelled slot lt, (asked_spelled names.classes 1 class are.classes is.0, (asked_spelled names.interfaces 0 iface are.interfaces is.1, tt))))
statement_spelled p names (stmts.Query to from iface) are lt is fits = ((omega arith, refl), (slot_spelled to lt.0, (slot_spelled from lt.1, (asked_spelled names.interfaces 0 iface are.interfaces is, tt))))
statement_spelled p names (stmts.Copy to from) are lt is fits = ((omega arith, refl), (place_spelled to lt.0, (place_spelled from lt.1, tt)))
statement_spelled p names (stmts.Release place) are lt is fits = ((omega arith, refl), (place_spelled place lt, tt))
statement_spelled p names (stmts.Call slot iface method given to) are lt is fits = ((omega arith, refl), (slot_spelled slot lt.0, call_spelled names iface method given to are lt.1 lt.2 is fits))
statement_spelled p names (stmts.Marshal buffer slot mode) are lt is fits = ((omega arith, refl), (buffer_spelled buffer lt.0, (slot_spelled slot lt.1, (marshal_mode_spelled mode, tt))))
statement_spelled p names (stmts.Unmarshal slot buffer) are lt is fits = ((omega arith, refl), (slot_spelled slot lt.0, (buffer_spelled buffer lt.1, tt)))
statement_spelled p names (stmts.Drop buffer) are lt is fits = ((omega arith, refl), (buffer_spelled buffer lt, tt))
statement_spelled p names (stmts.Raw buffer bytes) are lt is fits = ((omega arith, refl), (buffer_spelled buffer lt, (raw_spelled bytes fits is.0, tt)))
statement_spelled p names (stmts.Register to slot) are lt is fits = ((omega arith, refl), (register_spelled to lt.0, (slot_spelled slot lt.1, tt)))
statement_spelled p names (stmts.Get slot cookie) are lt is fits = ((omega arith, refl), (slot_spelled slot lt.0, (op_spelled cookie lt.1 is fits, tt)))
statement_spelled p names (stmts.Revoke cookie) are lt is fits = ((omega arith, refl), (op_spelled cookie lt is fits, tt))
statement_spelled p names (stmts.Disconnect slot) are lt is fits = ((omega arith, refl), (slot_spelled slot lt, tt))
statement_spelled p names (stmts.Post lane word) are lt is fits = ((omega arith, refl), (op_spelled lane lt.0 is.0 fits.0, (op_spelled word lt.1 is.1 fits.1, tt)))
statement_spelled p names (stmts.Quit lane) are lt is fits = ((omega arith, refl), (op_spelled lane lt is fits, tt))
statement_spelled p names (stmts.Leave answer given) are lt is fits = ((omega arith, refl), (code_spelled answer lt.0, given_spelled given lt.1 is.1 fits.1))
statement_spelled p names (stmts.Init mode) are lt is fits = ((omega arith, refl), (mode_spelled mode, tt))
statement_spelled p names stmts.Uninit are lt is fits = ((omega arith, refl), tt)
statement_spelled p names (stmts.SetFilter filter) are lt is fits = ((omega arith, refl), (filter_spelled names filter are is.1, tt))
statement_spelled p names (stmts.Pump bound) are lt is fits = ((omega arith, refl), (small_spelled bound 1000 is.1 (omega arith), tt))
