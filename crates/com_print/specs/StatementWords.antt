-- Statements as words: the line of each.
use Rattle.std.specs.Prelude.{ℕ, ◌-◌, ◌==◌, if◌then◌else◌, Bool, false, List, [], ◌∷◌, ◌++◌, map, length}
use Rattle.std.specs.Prelude.{Option, Some, None, codes, decimal}
use Rattle.hex.specs.Hex.{encode_lower}
use Rattle.com_body.specs.declared.operands.Asked.{Asked}
use Rattle.com_body.specs.declared.operands.Arg.{Arg}
use Rattle.com_body.specs.declared.operands.Destination.{Destination}
use Rattle.com_body.specs.declared.operands.Destination.TheVariants as destinations
use Rattle.com_body.specs.declared.statements.Stmt.{Stmt}
use Rattle.com_body.specs.declared.statements.Stmt.TheVariants as stmts
use Rattle.com_classes.specs.declared.interfaces.Method.{Method}
use Rattle.com_read_statements.specs.declared.names.Names.{Names}
use Rattle.com_read_statements.specs.Calls.{method_of}
use Rattle.com_print.specs.Spelled.{Spelled, plain}
use Rattle.com_print.specs.Words.{register_word, slot_word, cell_word, buffer_word, place_word}
use Rattle.com_print.specs.Words.{op_word, arg_word, code_word, given_words, destination_words}
use Rattle.com_print.specs.Words.{mode_word, marshal_mode_word, name_at, asked_word}

-- ---- what is declared

-- classes count from 1
abbrev pub class_word : Names → Asked → Spelled
class_word names asked = asked_word names.classes 1 asked

-- an interface by its name or as a GUID; interfaces count from 0
abbrev pub interface_word : Names → Asked → Spelled
interface_word names asked = asked_word names.interfaces 0 asked

-- filters count from 1
abbrev pub filter_word : Names → Option ℕ → Spelled
filter_word names None = plain (codes "none")
filter_word names (Some n) = plain (name_at names.filters (n - 1))

-- a method's name, and no bytes where there is no such method
abbrev pub name_of : Option Method → List ℕ
name_of None = []
name_of (Some m) = m.name

-- whether the table has the method, and it has no parameters
abbrev pub takes_nothing : Option Method → Bool
takes_nothing None = false
takes_nothing (Some m) = length m.params == 0

-- The method of a call that gives nothing and keeps no result. A call by name gives each parameter an
-- argument. So a method that has parameters is written as # and its number, which sends their defaults; and so
-- is a number that the interface's table lacks.
abbrev pub alone_text : ℕ → Option Method → List ℕ
alone_text method o = if takes_nothing o then name_of o else 35 ∷ decimal method

abbrev pub method_text : Names → ℕ → ℕ → List Arg → Destination → List ℕ
method_text names iface method [] destinations.Nowhere =
    alone_text method (method_of names.tables iface method)
method_text names iface method given to = name_of (method_of names.tables iface method)

abbrev pub target_word : Names → ℕ → ℕ → List Arg → Destination → Spelled
target_word names iface method given to =
    plain (name_at names.interfaces iface ++ 46 ∷ method_text names iface method given to)

-- ---- statements

-- the words of a statement's line: its keyword, and its operands in the language's order
abbrev pub statement_words : Names → Stmt → List Spelled
statement_words names (stmts.Set to from) = plain (codes "set") ∷ register_word to ∷ op_word from ∷ []
statement_words names (stmts.Add to from) = plain (codes "add") ∷ register_word to ∷ op_word from ∷ []
statement_words names (stmts.Sub to from) = plain (codes "sub") ∷ register_word to ∷ op_word from ∷ []
statement_words names (stmts.Less to left right) =
    plain (codes "less") ∷ register_word to ∷ op_word left ∷ op_word right ∷ []
statement_words names (stmts.Same to left right) =
    plain (codes "same") ∷ register_word to ∷ slot_word left ∷ slot_word right ∷ []
statement_words names (stmts.Load to cell) = plain (codes "load") ∷ register_word to ∷ cell_word cell ∷ []
statement_words names (stmts.Store cell from) = plain (codes "store") ∷ cell_word cell ∷ op_word from ∷ []
statement_words names (stmts.Skip count) = plain (codes "skip") ∷ plain (decimal count) ∷ []
statement_words names (stmts.SkipZero register count) =
    plain (codes "skipz") ∷ register_word register ∷ plain (decimal count) ∷ []
statement_words names (stmts.Create slot class iface) =
    plain (codes "create") ∷ slot_word slot ∷ class_word names class ∷ interface_word names iface ∷ []
statement_words names (stmts.Query to from iface) =
    plain (codes "query") ∷ slot_word to ∷ slot_word from ∷ interface_word names iface ∷ []
statement_words names (stmts.Copy to from) = plain (codes "copy") ∷ place_word to ∷ place_word from ∷ []
statement_words names (stmts.Release place) = plain (codes "release") ∷ place_word place ∷ []
statement_words names (stmts.Call slot iface method given to) =
    plain (codes "call") ∷ slot_word slot ∷ target_word names iface method given to
    ∷ (map arg_word given ++ destination_words to)
statement_words names (stmts.Marshal buffer slot mode) =
    plain (codes "marshal") ∷ buffer_word buffer ∷ slot_word slot ∷ marshal_mode_word mode ∷ []
statement_words names (stmts.Unmarshal slot buffer) =
    plain (codes "unmarshal") ∷ slot_word slot ∷ buffer_word buffer ∷ []
statement_words names (stmts.Drop buffer) = plain (codes "drop") ∷ buffer_word buffer ∷ []
statement_words names (stmts.Raw buffer bytes) =
    plain (codes "raw") ∷ buffer_word buffer ∷ plain (encode_lower bytes) ∷ []
statement_words names (stmts.Register to slot) =
    plain (codes "register") ∷ register_word to ∷ slot_word slot ∷ []
statement_words names (stmts.Get slot cookie) = plain (codes "get") ∷ slot_word slot ∷ op_word cookie ∷ []
statement_words names (stmts.Revoke cookie) = plain (codes "revoke") ∷ op_word cookie ∷ []
statement_words names (stmts.Disconnect slot) = plain (codes "disconnect") ∷ slot_word slot ∷ []
statement_words names (stmts.Post lane word) = plain (codes "post") ∷ op_word lane ∷ op_word word ∷ []
statement_words names (stmts.Quit lane) = plain (codes "quit") ∷ op_word lane ∷ []
statement_words names (stmts.Leave answer given) =
    plain (codes "leave") ∷ code_word answer ∷ given_words given
statement_words names (stmts.Init mode) = plain (codes "init") ∷ mode_word mode ∷ []
statement_words names stmts.Uninit = plain (codes "uninit") ∷ []
statement_words names (stmts.SetFilter filter) = plain (codes "setfilter") ∷ filter_word names filter ∷ []
statement_words names (stmts.Pump bound) = plain (codes "pump") ∷ plain (decimal bound) ∷ []
