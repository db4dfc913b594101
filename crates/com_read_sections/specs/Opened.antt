-- Lines inside of sections, and what each line makes of what was read so far.
use Rattle.std.specs.Prelude.{ℕ, List, [], ◌∷◌, ◌++◌, length, Option, Some, None, Result, Ok, Err, Bool, true}
use Rattle.std.specs.Prelude.{false, ◌&&◌, ◌==◌, nat_le, if◌then◌else◌, codes}
use Rattle.std.specs.Str.{bytes_eq}
use Rattle.com_base.specs.declared.limits.TheConstants.{BODY_LIMIT, METHOD_LIMIT, RULE_LIMIT, SCRIPT_LIMIT}
use Rattle.com_body.specs.declared.statements.Stmt.{Stmt}
use Rattle.com_classes.specs.declared.interfaces.Interface.{Interface}
use Rattle.com_classes.specs.declared.classes.Class.{Class}
use Rattle.com_classes.specs.declared.classes.MethodBody.{MethodBody}
use Rattle.com_classes.specs.declared.classes.ThreadingModel.{ThreadingModel}
use Rattle.com_classes.specs.declared.classes.ThreadingModel.TheVariants as models
use Rattle.com_filter.specs.declared.Rule.{Rule}
use Rattle.com_text.specs.Words.{WordAt}
use Rattle.com_read_operands.specs.declared.faults.Fault.{Fault}
use Rattle.com_read_operands.specs.declared.faults.TheConstants.Fault.{LIMIT, REPEATED, UNEXPECTED}
use Rattle.com_read_operands.specs.Reading.{◌>>=◌, fault_at, word_at, first_at, end_at}
use Rattle.com_read_statements.specs.declared.calls.MethodNumber.{MethodNumber}
use Rattle.com_read_statements.specs.declared.keywords.Program.{Program}
use Rattle.com_read_statements.specs.declared.keywords.Program.TheVariants as programs
use Rattle.com_read_statements.specs.Calls.{method_at}
use Rattle.com_read_lines.specs.declared.rules.RuleWord.{RuleWord}
use Rattle.com_read_sections.specs.declared.state.State.{State}
use Rattle.com_read_sections.specs.declared.state.Section.{Section}
use Rattle.com_read_sections.specs.declared.state.Section.TheVariants as sections
use Rattle.com_read_lines.specs.Codes.{CodeAt, no_code, checked}
use Rattle.com_read_lines.specs.Rules.{rule_word_of, rule_of}
use Rattle.com_read_lines.specs.Methods.{method_of}
use Rattle.com_read_sections.specs.Header.{header_line}
use Rattle.com_read_sections.specs.Beginning.{top_line}
use Rattle.com_read_lines.specs.Programs.{program_line}

-- an interface is closed
abbrev pub interface_closed : State → Interface → State
interface_closed st i = record st {
  names = record (st.names) { tables = st.names.tables ++ i ∷ [] };
  section = sections.Top;
}

-- an interface has at most `METHOD_LIMIT` methods
unfoldable pub method_line : List (List ℕ) → Interface → WordAt → List WordAt → Result Interface Fault
method_line names i w line = if nat_le METHOD_LIMIT (length i.methods) then Err (fault_at LIMIT w) else (do
  m ← method_of names i.methods line
  Ok (record i { methods = i.methods ++ m ∷ [] }))

-- the methods of an interface follow it directly
unfoldable pub inner_interface : State → Interface → List WordAt → Result State Fault
inner_interface st i line = do
  w ← first_at line
  if bytes_eq w.bytes (codes "method") then (do
    more ← method_line st.names.interfaces i w line
    Ok (record st { section = sections.Interface more })) else top_line (interface_closed st i) line

-- one of these bodies is that of the method
abbrev pub has_body : List MethodBody → MethodNumber → Bool
has_body [] head = false
has_body (b ∷ bs) head =
    if (b.iface == head.iface) && (b.method == head.method) then true else has_body bs head

-- a body is given at most once
unfoldable pub body_head : State → Class → List WordAt → Result State Fault
body_head st c line = do
  head ← method_at st.names line 1
  if has_body c.bodies head then (word_at line 1 >>= λ w. Err (fault_at REPEATED w)) else (do
    done ← end_at line 2
    Ok (record st { section = sections.Body c head no_code }))

-- a class's `end`: the class is closed, and the next line is outside of sections
abbrev pub class_ended : State → Class → List WordAt → Result State Fault
class_ended st c line = do
  done ← end_at line 1
  Ok (record st { classes = st.classes ++ c ∷ []; section = sections.Top })

-- a line of a class between its bodies
unfoldable pub inner_class : State → Class → List WordAt → Result State Fault
inner_class st c line = do
  w ← first_at line
  if bytes_eq w.bytes (codes "body") then body_head st c line
      else (if bytes_eq w.bytes (codes "end") then class_ended st c line
      else Err (fault_at UNEXPECTED w))

-- what the bodies of a class are read as: those of an agile class may name no links
abbrev pub program_of : ThreadingModel → Program
program_of models.Agile = programs.AgileBody
program_of _ = programs.Body

-- a class with one body more
abbrev pub with_body : Class → MethodNumber → List Stmt → Class
with_body c head body = record c {
  bodies = c.bodies ++ record { iface = head.iface; method = head.method; body = body } ∷ [];
}

-- a body's `end`: no skip may pass it, and the next line is in the class again, which has one body more
abbrev pub body_ended : State → Class → MethodNumber → CodeAt → List WordAt → Result State Fault
body_ended st c head code line = do
  body ← checked code BODY_LIMIT
  done ← end_at line 1
  Ok (record st { section = sections.Class (with_body c head body) })

-- a line of a body: at most `BODY_LIMIT` statements
unfoldable pub inner_body : State → Class → MethodNumber → CodeAt → List WordAt → Result State Fault
inner_body st c head code line = do
  w ← first_at line
  if bytes_eq w.bytes (codes "end") then body_ended st c head code line else (do
    more ← program_line (program_of c.model) BODY_LIMIT st.names code w line
    Ok (record st { section = sections.Body c head more }))

-- a script's `end`: no skip may pass it, and the next line is outside of sections, with one script more
abbrev pub thread_ended : State → CodeAt → List WordAt → Result State Fault
thread_ended st code line = do
  body ← checked code SCRIPT_LIMIT
  done ← end_at line 1
  Ok (record st { threads = st.threads ++ body ∷ []; section = sections.Top })

-- a line of a script: at most `SCRIPT_LIMIT` statements
unfoldable pub inner_thread : State → CodeAt → List WordAt → Result State Fault
inner_thread st code line = do
  w ← first_at line
  if bytes_eq w.bytes (codes "end") then thread_ended st code line else (do
    more ← program_line programs.Script SCRIPT_LIMIT st.names code w line
    Ok (record st { section = sections.Thread more }))

-- a filter's `end`: its rules are one filter more, and the next line is outside of sections
abbrev pub filter_ended : State → List Rule → List WordAt → Result State Fault
filter_ended st rules line = do
  done ← end_at line 1
  Ok (record st { filters = st.filters ++ rules ∷ []; section = sections.Top })

-- at most `RULE_LIMIT` rules
abbrev pub ruled : List Rule → WordAt → List WordAt → Option RuleWord → Result (List Rule) Fault
ruled rules w line None = Err (fault_at UNEXPECTED w)
ruled rules w line (Some k) = if nat_le RULE_LIMIT (length rules) then Err (fault_at LIMIT w) else (do
  r ← rule_of k line
  Ok (rules ++ r ∷ []))

-- a line of a filter
unfoldable pub inner_filter : State → List Rule → List WordAt → Result State Fault
inner_filter st rules line = do
  w ← first_at line
  if bytes_eq w.bytes (codes "end") then filter_ended st rules line else (do
    more ← ruled rules w line (rule_word_of w.bytes)
    Ok (record st { section = sections.Filter more }))

-- what a line with words makes of what was read so far, by what it stands in
abbrev pub by_section : State → List WordAt → Section → Result State Fault
by_section st line (sections.Header pending) = header_line st pending line
by_section st line sections.Top = top_line st line
by_section st line (sections.Interface i) = inner_interface st i line
by_section st line (sections.Class c) = inner_class st c line
by_section st line (sections.Body c head code) = inner_body st c head code line
by_section st line (sections.Filter rules) = inner_filter st rules line
by_section st line (sections.Thread code) = inner_thread st code line

-- what a line makes of what was read so far; a line without words is passed over
unfoldable pub step : State → List WordAt → Result State Fault
step st [] = Ok st
step st (w ∷ ws) = by_section st (w ∷ ws) st.section
