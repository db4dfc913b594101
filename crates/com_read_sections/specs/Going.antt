-- Whether a line goes on with the section that is open, as one more method, statement or rule of it, and what
-- the section then is. The lines that open or end a section do not.
use Rattle.std.specs.Prelude.{ℕ, List, Result, Ok, Bool, true, false, if◌then◌else◌, codes}
use Rattle.std.specs.Str.{bytes_eq}
use Rattle.com_base.specs.declared.limits.TheConstants.{BODY_LIMIT, SCRIPT_LIMIT}
use Rattle.com_classes.specs.declared.interfaces.Interface.{Interface}
use Rattle.com_filter.specs.declared.Rule.{Rule}
use Rattle.com_text.specs.Words.{WordAt}
use Rattle.com_read_operands.specs.declared.faults.Fault.{Fault}
use Rattle.com_read_operands.specs.Reading.{◌>>=◌, first_at}
use Rattle.com_read_statements.specs.declared.keywords.Program.{Program}
use Rattle.com_read_statements.specs.declared.keywords.Program.TheVariants as programs
use Rattle.com_read_statements.specs.declared.names.Names.{Names}
use Rattle.com_read_sections.specs.declared.state.State.{State}
use Rattle.com_read_sections.specs.declared.state.Section.{Section}
use Rattle.com_read_sections.specs.declared.state.Section.TheVariants as sections
use Rattle.com_read_lines.specs.Codes.{CodeAt}
use Rattle.com_read_lines.specs.Rules.{rule_word_of}
use Rattle.com_read_sections.specs.Header.{header_line}
use Rattle.com_read_sections.specs.Beginning.{top_line}
use Rattle.com_read_lines.specs.Programs.{program_line}
use Rattle.com_read_sections.specs.Opened.{interface_closed, method_line, inner_class, program_of, body_ended}
use Rattle.com_read_sections.specs.Opened.{thread_ended, filter_ended, ruled}

unfoldable pub more_methods : List (List ℕ) → Interface → List WordAt → Result (Interface × Bool) Fault
more_methods names i line = do
  w ← first_at line
  if bytes_eq w.bytes (codes "method") then (do
    more ← method_line names i w line
    Ok (more, true)) else Ok (i, false)

unfoldable pub more_statements : Program → ℕ → Names → CodeAt → List WordAt → Result (CodeAt × Bool) Fault
more_statements p limit names code line = do
  w ← first_at line
  if bytes_eq w.bytes (codes "end") then Ok (code, false) else (do
    more ← program_line p limit names code w line
    Ok (more, true))

unfoldable pub more_rules : List Rule → List WordAt → Result (List Rule × Bool) Fault
more_rules rules line = do
  w ← first_at line
  if bytes_eq w.bytes (codes "end") then Ok (rules, false) else (do
    more ← ruled rules w line (rule_word_of w.bytes)
    Ok (more, true))

abbrev pub goes_on : Names → List WordAt → Section → Result (Section × Bool) Fault
goes_on names line (sections.Interface i) =
    more_methods names.interfaces i line >>= λ r. Ok (sections.Interface r.0, r.1)
goes_on names line (sections.Body c head code) =
    more_statements (program_of c.model) BODY_LIMIT names code line >>= λ r. Ok (sections.Body c head r.0, r.1)
goes_on names line (sections.Filter rules) =
    more_rules rules line >>= λ r. Ok (sections.Filter r.0, r.1)
goes_on names line (sections.Thread code) =
    more_statements programs.Script SCRIPT_LIMIT names code line >>= λ r. Ok (sections.Thread r.0, r.1)
goes_on names line section = Ok (section, false)

-- a line that opens or ends a section, or stands outside of sections
abbrev pub turns : State → List WordAt → Section → Result State Fault
turns st line (sections.Header pending) = header_line st pending line
turns st line sections.Top = top_line st line
turns st line (sections.Interface i) = top_line (interface_closed st i) line
turns st line (sections.Class c) = inner_class st c line
turns st line (sections.Body c head code) = body_ended st c head code line
turns st line (sections.Filter rules) = filter_ended st rules line
turns st line (sections.Thread code) = thread_ended st code line

abbrev pub outside : State → State
outside st = record st { section = sections.Top }

abbrev pub gone_on : State → List WordAt → Section → Bool → Result State Fault
gone_on st line section true = Ok (record st { section = section })
gone_on st line section false = turns (outside st) line section

unfoldable pub lined : State → List WordAt → Result State Fault
lined st line = goes_on st.names line st.section >>= λ r. gone_on st line r.0 r.1
