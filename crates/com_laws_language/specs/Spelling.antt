-- What each section spells, and what a text does. What one line's words say is taken from the definitions of
-- words and lines.
use Rattle.std.specs.Prelude.{◌≡◌, ℕ, ◌≤◌, true, false, List, [], ◌∷◌, ◌++◌, length, drop, flat_map, Some, None}
use Rattle.std.specs.Prelude.{Ok, codes}
use Rattle.std.specs.List.{join_with_byte}
use Rattle.com_base.specs.declared.limits.TheConstants.{BODY_LIMIT, METHOD_LIMIT, POOL_LIMIT, RULE_LIMIT, SCRIPT_LIMIT}
use Rattle.com_body.specs.declared.frame.Native.TheVariants as natives
use Rattle.com_body.specs.declared.statements.Stmt.{Stmt}
use Rattle.com_body.specs.Bodies.{fault_of}
use Rattle.com_classes.specs.declared.interfaces.Interface.{Interface}
use Rattle.com_classes.specs.declared.interfaces.Method.{Method}
use Rattle.com_classes.specs.declared.classes.Class.{Class}
use Rattle.com_classes.specs.declared.classes.MethodBody.{MethodBody}
use Rattle.com_classes.specs.declared.classes.ThreadingModel.{ThreadingModel}
use Rattle.com_filter.specs.declared.Rule.{Rule}
use Rattle.com_model.specs.declared.scenario.Scenario.{Scenario}
use Rattle.com_text.specs.Words.{WordAt, LineAt, is_remark}
use Rattle.com_read_operands.specs.Reading.{first_at, end_at, number_at}
use Rattle.com_read_statements.specs.declared.calls.MethodNumber.{MethodNumber}
use Rattle.com_read_statements.specs.declared.keywords.Keyword.{Keyword}
use Rattle.com_read_statements.specs.declared.keywords.Program.{Program}
use Rattle.com_read_statements.specs.declared.keywords.Program.TheVariants as programs
use Rattle.com_read_statements.specs.declared.names.Names.{Names}
use Rattle.com_read_statements.specs.Keywords.{keyword_of, takes}
use Rattle.com_read_statements.specs.Calls.{method_at}
use Rattle.com_read_statements.specs.Statements.{stmt_of}
use Rattle.com_read_lines.specs.declared.rules.RuleWord.{RuleWord}
use Rattle.com_read_lines.specs.Header.{version_of}
use Rattle.com_read_lines.specs.Declaring.{free_guid_at, free_name_at, interface_name_at, filter_name_at}
use Rattle.com_read_lines.specs.Declaring.{model_at, native_at, natives_of, listed_at, picks_on}
use Rattle.com_read_lines.specs.Methods.{method_of}
use Rattle.com_read_lines.specs.Rules.{rule_word_of, rule_of}
use Rattle.com_read_sections.specs.Opened.{has_body, program_of}
use Rattle.com_laws_language.specs.Words.{AreLines}
use Rattle.com_laws_language.specs.Orders.{InOrder}
use Rattle.com_laws_language.specs.Sections.{Line, with_words, BodyLines, Section, section_lines}
use Rattle.com_laws_language.specs.Sections.{pool, interface, class, native, filter, thread, picks}
use Rattle.com_laws_language.specs.Parts.{Part, of_lanes, of_interface, of_class, of_filter, of_script, of_picks}
use Rattle.com_laws_language.specs.Parts.{names_below, iids_below, clsids_below, scenario_with, IsWithinLimits}

-- The first word of a line.
pub record Begins (line : Line) (word : List ℕ) : Type 0 where
  pub first : WordAt
  pub stands : first_at line ≡ Ok first
  pub same : first.bytes ≡ word

-- The word `end` alone.
pub record IsEnd (line : Line) : Type 0 where
  pub begins : Begins line (codes "end")
  pub alone : end_at line 1 ≡ Ok tt

-- ---- the lines inside of sections

-- A line `method`: its name is none of the methods above it in the interface.
pub record IsMethod (names : List (List ℕ)) (above : List Method) (line : Line) (m : Method) : Type 0 where
  pub begins : Begins line (codes "method")
  pub spells : method_of names above line ≡ Ok m

-- A statement that may stand in a body or a script.
pub record IsStatement (p : Program) (names : Names) (above : List Stmt) (line : Line) (s : Stmt) : Type 0 where
  pub first : WordAt
  pub stands : first_at line ≡ Ok first
  pub keyword : Keyword
  pub known : keyword_of first.bytes ≡ Some keyword
  pub taken : takes p keyword ≡ true
  pub spells : stmt_of p names keyword line ≡ Ok s

pub record IsRule (above : List Rule) (line : Line) (r : Rule) : Type 0 where
  pub first : WordAt
  pub stands : first_at line ≡ Ok first
  pub kind : RuleWord
  pub known : rule_word_of first.bytes ≡ Some kind
  pub spells : rule_of kind line ≡ Ok r

abbrev pub number_of_body : MethodBody → MethodNumber
number_of_body b = record { iface = b.iface; method = b.method }

-- A body: for a method that no body above it in the class is for; at most `BODY_LIMIT` statements, and no skip
-- passes its end.
pub record IsBody (names : Names) (model : ThreadingModel) (above : List MethodBody) (lines : BodyLines)
    (b : MethodBody) : Type 0 where
  pub begins : Begins lines.head (codes "body")
  pub method : method_at names lines.head 1 ≡ Ok (number_of_body b)
  pub once : has_body above (number_of_body b) ≡ false
  pub no_more : end_at lines.head 2 ≡ Ok tt
  pub statements : InOrder (IsStatement (program_of model) names) [] lines.statements b.body
  pub whole : fault_of b.body BODY_LIMIT ≡ None
  pub closed : IsEnd lines.last

-- ---- sections, below the parts that stand above them

pub record IsPool (head : Line) (lanes : ℕ) : Type 0 where
  pub begins : Begins head (codes "pool")
  pub number : number_at 1 POOL_LIMIT head 1 ≡ Ok lanes
  pub no_more : end_at head 2 ≡ Ok tt

-- An interface may name itself in its methods, of which there are at most `METHOD_LIMIT`.
pub record IsInterface (above : List Part) (head : Line) (lines : List Line) (i : Interface) : Type 0 where
  pub begins : Begins head (codes "interface")
  pub word : WordAt
  pub named : interface_name_at (names_below above).interfaces head ≡ Ok word
  pub name : i.name ≡ word.bytes
  pub iid : free_guid_at (iids_below above) head 2 ≡ Ok i.iid
  pub no_more : end_at head 3 ≡ Ok tt
  pub methods : InOrder (IsMethod ((names_below above).interfaces ++ i.name ∷ [])) [] lines i.methods
  pub few : length i.methods ≤ METHOD_LIMIT

-- A class may name itself in its bodies.
abbrev pub names_inside : List Part → List ℕ → Names
names_inside above name = record (names_below above) { classes = (names_below above).classes ++ name ∷ [] }

pub record IsClass (above : List Part) (head : Line) (lines : List BodyLines) (last : Line) (c : Class)
    : Type 0 where
  pub begins : Begins head (codes "class")
  pub word : WordAt
  pub named : free_name_at (names_below above).classes head 1 ≡ Ok word
  pub name : c.name ≡ word.bytes
  pub clsid : free_guid_at (clsids_below above) head 2 ≡ Ok c.clsid
  pub model : model_at head 3 ≡ Ok c.model
  pub written : c.native ≡ natives.Bodies
  pub interfaces : listed_at (names_below above).interfaces head ≡ Ok c.interfaces
  pub bodies : InOrder (IsBody (names_inside above c.name) c.model) [] lines c.bodies
  pub closed : IsEnd last

pub record IsNative (above : List Part) (head : Line) (c : Class) : Type 0 where
  pub begins : Begins head (codes "native")
  pub word : WordAt
  pub named : free_name_at (names_below above).classes head 1 ≡ Ok word
  pub name : c.name ≡ word.bytes
  pub clsid : free_guid_at (clsids_below above) head 2 ≡ Ok c.clsid
  pub model : model_at head 3 ≡ Ok c.model
  pub kind : native_at c.model head 4 ≡ Ok c.native
  pub no_more : end_at head 5 ≡ Ok tt
  pub interfaces : c.interfaces ≡ natives_of c.native
  pub bodies : c.bodies ≡ []

-- At most `RULE_LIMIT` rules.
pub record IsFilter (above : List Part) (head : Line) (lines : List Line) (last : Line) (name : List ℕ)
    (rules : List Rule) : Type 0 where
  pub begins : Begins head (codes "filter")
  pub word : WordAt
  pub named : filter_name_at (names_below above).filters head ≡ Ok word
  pub same : name ≡ word.bytes
  pub no_more : end_at head 2 ≡ Ok tt
  pub ruled : InOrder IsRule [] lines rules
  pub few : length rules ≤ RULE_LIMIT
  pub closed : IsEnd last

-- At most `SCRIPT_LIMIT` statements, and no skip passes the end.
pub record IsThread (above : List Part) (head : Line) (lines : List Line) (last : Line) (script : List Stmt)
    : Type 0 where
  pub begins : Begins head (codes "thread")
  pub no_more : end_at head 1 ≡ Ok tt
  pub statements : InOrder (IsStatement programs.Script (names_below above)) [] lines script
  pub whole : fault_of script SCRIPT_LIMIT ≡ None
  pub closed : IsEnd last

pub record IsPicks (head : Line) (lanes : List ℕ) : Type 0 where
  pub begins : Begins head (codes "picks")
  pub numbers : picks_on [] head 1 (drop 1 head) ≡ Ok lanes

-- What a section declares below the parts of those above it.
abbrev pub Declares : List Part → Section → Part → Type 0
Declares above (pool head) (of_lanes n) = IsPool head n
Declares above (interface head lines) (of_interface i) = IsInterface above head lines i
Declares above (class head lines last) (of_class c) = IsClass above head lines last c
Declares above (native head) (of_class c) = IsNative above head c
Declares above (filter head lines last) (of_filter name rules) = IsFilter above head lines last name rules
Declares above (thread head lines last) (of_script body) = IsThread above head lines last body
Declares above (picks head) (of_picks lanes) = IsPicks head lanes
Declares above _ _ = ⊥

-- ---- texts

-- The words `scenario` and `1` or `2`.
pub record IsHeader (line : Line) (version : ℕ) : Type 0 where
  pub one : WordAt
  pub two : WordAt
  pub more : Line
  pub words : line ≡ one ∷ two ∷ more
  pub scenario : one.bytes ≡ codes "scenario"
  pub number : version_of two.bytes ≡ Some version
  pub no_comment : is_remark two.sort ≡ false
  pub no_more : end_at line 2 ≡ Ok tt

-- A text spells a scenario where it is pieces with a byte 10 between each two, the pieces are lines of words, the
-- lines with words are a header and the lines of sections, each section declares a part below those above it,
-- there are not too many parts of a kind, and the scenario is these parts.
pub record Spells (text : List ℕ) (s : Scenario) : Type 0 where
  pub pieces : List (List ℕ)
  pub cut : List LineAt
  pub header : Line
  pub sections : List Section
  pub parts : List Part
  pub joined : text ≡ join_with_byte 10 pieces
  pub worded : AreLines 1 0 pieces cut
  pub lines : with_words cut ≡ header ∷ flat_map section_lines sections
  pub headed : IsHeader header s.version
  pub declared : InOrder Declares [] sections parts
  pub limits : IsWithinLimits parts
  pub made : s ≡ scenario_with s.version parts
