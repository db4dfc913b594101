-- A scenario as lines of words: the header, the pool, the interfaces beside the built-in ones, the classes
-- and natives, the filters, the threads and the picks.
use Rattle.std.specs.Prelude.{ℕ, zero, suc, ◌+◌, List, [], ◌∷◌, ◌++◌, map, drop, Option, Some, None, codes}
use Rattle.std.specs.Prelude.{decimal}
use Rattle.std.specs.Fmt.{signed_decimal}
use Rattle.com_base.specs.declared.built_ins.TheConstants.{BUILT_IN_COUNT}
use Rattle.com_base.specs.declared.value.Kind.{Kind}
use Rattle.com_base.specs.declared.value.Kind.TheVariants as kinds
use Rattle.com_base.specs.Guids.{text_of as text_of_guid}
use Rattle.com_body.specs.declared.statements.Stmt.{Stmt}
use Rattle.com_body.specs.declared.frame.Native.{Native}
use Rattle.com_body.specs.declared.frame.Native.TheVariants as natives
use Rattle.com_classes.specs.declared.interfaces.Interface.{Interface}
use Rattle.com_classes.specs.declared.interfaces.Method.{Method}
use Rattle.com_classes.specs.declared.classes.Class.{Class}
use Rattle.com_classes.specs.declared.classes.MethodBody.{MethodBody}
use Rattle.com_classes.specs.declared.classes.ThreadingModel.{ThreadingModel}
use Rattle.com_classes.specs.declared.classes.ThreadingModel.TheVariants as models
use Rattle.com_filter.specs.declared.Rule.{Rule}
use Rattle.com_filter.specs.declared.Rule.TheVariants as rules
use Rattle.com_filter.specs.declared.Verdict.{Verdict}
use Rattle.com_filter.specs.declared.Verdict.TheVariants as verdicts
use Rattle.com_model.specs.declared.scenario.Scenario.{Scenario}
use Rattle.com_read_sections.specs.declared.outline.Outline.{Outline}
use Rattle.com_read_statements.specs.declared.names.Names.{Names}
use Rattle.com_read_statements.specs.Calls.{method_of}
use Rattle.com_print.specs.Spelled.{Spelled, plain, text_of}
use Rattle.com_print.specs.Words.{name_at}
use Rattle.com_print.specs.StatementWords.{name_of, statement_words}

abbrev pub number_word : ℕ → Spelled
number_word n = plain (decimal n)

abbrev pub end_words : List Spelled
end_words = plain (codes "end") ∷ []

-- ---- names

-- a scenario does not keep its filters' names: they are F1, F2 and on
abbrev pub filter_name : ℕ → List ℕ
filter_name n = 70 ∷ decimal n

abbrev pub filter_names : ℕ → List (List Rule) → List (List ℕ)
filter_names n [] = []
filter_names n (f ∷ fs) = filter_name n ∷ filter_names (n + 1) fs

abbrev pub names_in : Scenario → Names
names_in s = record {
  classes = map (λ c. c.name) s.classes.classes;
  interfaces = map (λ i. i.name) s.classes.interfaces;
  filters = filter_names 1 s.filters;
  tables = s.classes.interfaces;
}

-- ---- interfaces

abbrev pub header_words : ℕ → List Spelled
header_words version = plain (codes "scenario") ∷ number_word version ∷ []

abbrev pub pool_words : ℕ → List Spelled
pool_words lanes = plain (codes "pool") ∷ number_word lanes ∷ []

abbrev pub kind_word : List (List ℕ) → Kind → Spelled
kind_word names kinds.Int = plain (codes "int")
kind_word names kinds.Bool = plain (codes "bool")
kind_word names kinds.Text = plain (codes "text")
kind_word names kinds.Bytes = plain (codes "bytes")
kind_word names kinds.Guid = plain (codes "guid")
kind_word names (kinds.Ref i) = plain (name_at names i)

abbrev pub result_words : List (List ℕ) → Option Kind → List Spelled
result_words names None = []
result_words names (Some k) = plain (codes "->") ∷ kind_word names k ∷ []

abbrev pub method_words : List (List ℕ) → Method → List Spelled
method_words names m =
    plain (codes "method") ∷ plain m.name ∷ (map (kind_word names) m.params ++ result_words names m.result)

abbrev pub interface_words : Interface → List Spelled
interface_words i = plain (codes "interface") ∷ plain i.name ∷ plain (text_of_guid i.iid) ∷ []

abbrev pub interface_lines : List (List ℕ) → List Interface → List (List Spelled)
interface_lines names [] = []
interface_lines names (i ∷ is) =
    interface_words i ∷ (map (method_words names) i.methods ++ interface_lines names is)

-- ---- classes

abbrev pub model_word : ThreadingModel → Spelled
model_word models.Nothing = plain (codes "none")
model_word models.Apartment = plain (codes "Apartment")
model_word models.Free = plain (codes "Free")
model_word models.Both = plain (codes "Both")
model_word models.Neutral = plain (codes "Neutral")
model_word models.Agile = plain (codes "Agile")

-- a class's name, CLSID and model
abbrev pub class_head : List ℕ → Class → List Spelled → List Spelled
class_head word c more = plain word ∷ plain c.name ∷ plain (text_of_guid c.clsid) ∷ model_word c.model ∷ more

abbrev pub interface_name : Names → ℕ → Spelled
interface_name names i = plain (name_at names.interfaces i)

abbrev pub body_words : Names → MethodBody → List Spelled
body_words names b =
    plain (codes "body") ∷ plain (name_at names.interfaces b.iface ++ 46
    ∷ name_of (method_of names.tables b.iface b.method)) ∷ []

-- statements, and the line that ends them
abbrev pub program_lines : Names → List Stmt → List (List Spelled)
program_lines names [] = end_words ∷ []
program_lines names (s ∷ ss) = statement_words names s ∷ program_lines names ss

-- bodies, and the line that ends their class
abbrev pub bodies_lines : Names → List MethodBody → List (List Spelled)
bodies_lines names [] = end_words ∷ []
bodies_lines names (b ∷ bs) = body_words names b ∷ (program_lines names b.body ++ bodies_lines names bs)

-- a native has no bodies
abbrev pub class_lines : Names → Class → Native → List (List Spelled)
class_lines names c natives.Bodies =
    class_head (codes "class") c (map (interface_name names) c.interfaces) ∷ bodies_lines names c.bodies
class_lines names c natives.Counter = class_head (codes "native") c (plain (codes "counter") ∷ []) ∷ []
class_lines names c natives.Relay = class_head (codes "native") c (plain (codes "relay") ∷ []) ∷ []
class_lines names c natives.Latch = class_head (codes "native") c (plain (codes "latch") ∷ []) ∷ []

abbrev pub classes_lines : Names → List Class → List (List Spelled)
classes_lines names [] = []
classes_lines names (c ∷ cs) = class_lines names c c.native ++ classes_lines names cs

-- ---- filters

-- a call type, or any
abbrev pub type_word : Option ℕ → Spelled
type_word None = plain (codes "*")
type_word (Some n) = number_word n

abbrev pub verdict_word : Verdict → Spelled
verdict_word verdicts.Handled = plain (codes "handled")
verdict_word verdicts.Rejected = plain (codes "rejected")
verdict_word verdicts.Later = plain (codes "later")

-- the verdict that a caller got, or either
abbrev pub refusal_word : Option Verdict → Spelled
refusal_word None = plain (codes "*")
refusal_word (Some v) = verdict_word v

-- the answer to a waiting caller: cancel 0, wait 1, discard 2
abbrev pub kept_word : ℕ → Spelled
kept_word zero = plain (codes "cancel")
kept_word (suc zero) = plain (codes "wait")
kept_word (suc (suc n)) = plain (codes "discard")

abbrev pub rule_words : Rule → List Spelled
rule_words (rules.Incoming t ms v) =
    plain (codes "incoming") ∷ type_word t ∷ number_word ms ∷ verdict_word v ∷ []
rule_words (rules.Retry v ms answer) =
    plain (codes "retry") ∷ refusal_word v ∷ number_word ms ∷ plain (signed_decimal answer) ∷ []
rule_words (rules.Pending ms answer) = plain (codes "pending") ∷ number_word ms ∷ kept_word answer ∷ []

-- rules, and the line that ends them
abbrev pub rules_lines : List Rule → List (List Spelled)
rules_lines [] = end_words ∷ []
rules_lines (r ∷ rs) = rule_words r ∷ rules_lines rs

abbrev pub filter_words : ℕ → List Spelled
filter_words n = plain (codes "filter") ∷ plain (filter_name n) ∷ []

-- filters, the first of which has a number
abbrev pub filters_lines : ℕ → List (List Rule) → List (List Spelled)
filters_lines n [] = []
filters_lines n (f ∷ fs) = filter_words n ∷ (rules_lines f ++ filters_lines (n + 1) fs)

-- ---- threads and picks

-- the line that opens a thread's script
abbrev pub thread_words : List Spelled
thread_words = plain (codes "thread") ∷ []

-- the threads' scripts in their order: for each the line that opens it, its statements and the line that ends it
abbrev pub threads_lines : Names → List (List Stmt) → List (List Spelled)
threads_lines names [] = []
threads_lines names (b ∷ bs) = thread_words ∷ (program_lines names b ++ threads_lines names bs)

-- one line, and none where nothing is picked
abbrev pub picks_lines : List ℕ → List (List Spelled)
picks_lines [] = []
picks_lines (p ∷ ps) = (plain (codes "picks") ∷ map number_word (p ∷ ps)) ∷ []

-- ---- the whole

abbrev pub sections_lines : Names → Scenario → List (List Spelled)
sections_lines names s =
    interface_lines names.interfaces (drop BUILT_IN_COUNT s.classes.interfaces)
    ++ (classes_lines names s.classes.classes
    ++ (filters_lines 1 s.filters ++ (threads_lines names s.threads ++ picks_lines s.picks)))

-- the lines of a scenario: the header, the pool's, and those of its sections
unfoldable pub scenario_lines : Scenario → List (List Spelled)
scenario_lines s = header_words s.version ∷ pool_words s.pool ∷ sections_lines (names_in s) s

-- the text of a scenario
abbrev pub printed : Scenario → List ℕ
printed s = text_of (scenario_lines s)

-- what the lines of a scenario declare
abbrev pub outline_of : Scenario → Outline
outline_of s = record {
  version = s.version;
  pool = s.pool;
  interfaces = s.classes.interfaces;
  classes = s.classes.classes;
  filters = s.filters;
  threads = s.threads;
  picks = s.picks;
}
