-- The scenario language with the statement `invoke`: each line is read as before, but for one that begins
-- with `invoke` in a script or a body.
use Rattle.std.specs.Prelude.{◌≡◌, ℕ, List, [], ◌∷◌, ◌++◌, Result, Ok, Err}
use Rattle.std.specs.Prelude.{Bool, true, false, length, All, nat_le, if◌then◌else◌, codes}
use Rattle.std.specs.Str.{bytes_eq}
use Rattle.com_base.specs.declared.limits.TheConstants.{BODY_LIMIT, SCRIPT_LIMIT}
use Rattle.com_classes.specs.declared.interfaces.Interface.{Interface}
use Rattle.com_classes.specs.BuiltIns.{built_in_interfaces}
use Rattle.com_dispatch.specs.declared.invoke.BindOutcome.{BindOutcome}
use Rattle.com_dispatch.specs.declared.invoke.Invocation.{Invocation}
use Rattle.com_dispatch.specs.Invoking.{invocation_at}
use Rattle.com_dispatch.specs.Standing.{outcome_of, statement_of}
use Rattle.com_text.specs.declared.word.Sort.TheVariants as sorts
use Rattle.com_text.specs.Words.{WordAt, LineAt}
use Rattle.com_text.specs.Scanning.{lines_of}
use Rattle.com_read_operands.specs.declared.faults.Fault.{Fault}
use Rattle.com_read_operands.specs.declared.faults.TheConstants.Fault.{LIMIT, UNENDED}
use Rattle.com_read_operands.specs.Reading.{◌>>=◌, fault_at}
use Rattle.com_read_statements.specs.declared.names.Names.{Names}
use Rattle.com_read_statements.specs.Calls.{call_at}
use Rattle.com_read_sections.specs.declared.outline.Outline.{Outline}
use Rattle.com_read_sections.specs.declared.state.State.{State}
use Rattle.com_read_sections.specs.declared.state.Section.{Section}
use Rattle.com_read_sections.specs.declared.state.Section.TheVariants as sections
use Rattle.com_read_lines.specs.Codes.{CodeAt, code_more, first_position}
use Rattle.com_read_sections.specs.Opened.{step}
use Rattle.com_read_sections.specs.Outlines.{begun, finish}
use Rattle.com_scenario.specs.Scenarios.{scenario_of, reading}
use Rattle.com_dispatch.specs.declared.outcomes.Binding.{Binding}
use Rattle.com_dispatch.specs.declared.outcomes.Late.{Late}

-- what was read so far, and what each `invoke` of it was bound to
pub record Reading : Type 0 where
  pub state : State
  pub bindings : List Binding

-- ---- a line that begins with `invoke`

-- the statements of a body or a script, and what each `invoke` of the text was bound to
pub record Coding : Type 0 where
  pub code : CodeAt
  pub bindings : List Binding

-- the statement that it stands for is one more of the body or the script, and its binding one more of the
-- text
abbrev pub bound_more : Coding → Invocation → BindOutcome → Fault → Coding
bound_more coding i o spot = record {
  code = code_more coding.code (statement_of i o) spot;
  bindings = coding.bindings ++ record { iface = i.iface; outcome = o } ∷ [];
}

-- The interfaces and their tables are those that are declared above the line.
unfoldable pub invoke_line : ℕ → Names → Coding → WordAt → List WordAt → Result Coding Fault
invoke_line limit names coding w line =
    if nat_le limit (length coding.code.statements) then Err (fault_at LIMIT w) else (do
      i ← invocation_at names.interfaces line
      Ok (bound_more coding i (outcome_of names.tables i) (fault_at UNENDED w)))

-- ---- every line

abbrev pub other_line : Reading → List WordAt → Result Reading Fault
other_line r line = step r.state line >>= λ next. Ok (record { state = next; bindings = r.bindings })

-- `invoke` is a statement in a body and in a script
abbrev pub in_section : Reading → WordAt → List WordAt → Section → Result Reading Fault
in_section r w line (sections.Body c head code) = do
  more ← invoke_line BODY_LIMIT r.state.names (record { code = code; bindings = r.bindings }) w line
  Ok (record {
    state = record (r.state) { section = sections.Body c head more.code };
    bindings = more.bindings;
  })
in_section r w line (sections.Thread code) = do
  more ← invoke_line SCRIPT_LIMIT r.state.names (record { code = code; bindings = r.bindings }) w line
  Ok (record { state = record (r.state) { section = sections.Thread more.code }; bindings = more.bindings })
in_section r w line _ = other_line r line

abbrev pub is_invoke : WordAt → Bool
is_invoke w = bytes_eq w.bytes (codes "invoke")

abbrev pub late_line : Reading → WordAt → List WordAt → Result Reading Fault
late_line r w line =
    if is_invoke w then in_section r w line r.state.section else other_line r line

-- What a line makes of what was read so far. Outside of scripts and bodies `invoke` is a word like any other.
unfoldable pub late_step : Reading → List WordAt → Result Reading Fault
late_step r [] = other_line r []
late_step r (w ∷ ws) = late_line r w (w ∷ ws)

-- ---- the text

-- what a text declares, and what its statements are bound to
pub record LateOutline : Type 0 where
  pub outline : Outline
  pub bindings : List Binding

abbrev pub late_finish : Reading → ℕ → ℕ → Result LateOutline Fault
late_finish r line column =
    finish r.state line column >>= λ o. Ok (record { outline = o; bindings = r.bindings })

-- the lines that are left
unfoldable pub late_read : Reading → List LineAt → Result LateOutline Fault
late_read r [] = Err first_position
late_read r (l ∷ ls) =
    late_step r l.words >>= λ next. (if l.last then late_finish next l.line l.column else late_read next ls)

abbrev pub late_begun : List Interface → Reading
late_begun tables = record { state = begun tables; bindings = [] }

abbrev pub late_of : LateOutline → Late
late_of o = record { scenario = scenario_of o.outline; bindings = o.bindings }

-- The scenario that a text spells, with what each `invoke` is bound to in the text's order, or its first
-- fault: the lines are read one after another, and a line's words from left to right.
unfoldable pub late : List ℕ → Result Late Fault
late text = late_read (late_begun built_in_interfaces) (lines_of text) >>= λ o. Ok (late_of o)

-- ---- texts without the statement

abbrev pub has_invoke : List WordAt → Bool
has_invoke [] = false
has_invoke (w ∷ ws) = is_invoke w

-- ---- a call by name and its table call

-- a section without the positions at which the faults of its skips would stand
abbrev pub without_spots : Section → Section
without_spots (sections.Body c head code) = sections.Body c head (record code { spots = [] })
without_spots (sections.Thread code) = sections.Thread (record code { spots = [] })
without_spots section = section

-- Two lines make the same of what was read, but for the positions at which the faults of skips would stand,
-- and for the bindings; or both are at fault in the same way.
abbrev pub IsSame : Result Reading Fault → Result Reading Fault → Type 0
IsSame (Ok a) (Ok b) =
    record (a.state) { section = without_spots a.state.section }
    ≡ record (b.state) { section = without_spots b.state.section }
IsSame (Err e) (Err f) = e.number ≡ f.number
IsSame (Ok a) (Err f) = ⊥
IsSame (Err e) (Ok b) = ⊥

-- whether an `invoke` may stand there
abbrev pub takes_invoke : Section → Bool
takes_invoke (sections.Body c head code) = true
takes_invoke (sections.Thread code) = true
takes_invoke _ = false

-- Where an `invoke` may stand, it makes the same of what was read as the line of the call that it is bound
-- to.
abbrev pub CallsAreSame : Type 0
CallsAreSame = (r : Reading) (w : WordAt) (ws : List WordAt) (c : WordAt) (cs : List WordAt)
    (i : Invocation) → takes_invoke r.state.section ≡ true → is_invoke w ≡ true
    → invocation_at r.state.names.interfaces (w ∷ ws) ≡ Ok i
    → c.sort ≡ sorts.Plain → c.bytes ≡ codes "call"
    → call_at r.state.names (c ∷ cs) ≡ Ok (statement_of i (outcome_of r.state.names.tables i))
    → IsSame (late_step r (w ∷ ws)) (late_step r (c ∷ cs))

-- A text without a line that begins with `invoke` is read as before.
abbrev pub OthersStay : Type 0
OthersStay = (text : List ℕ) → All (λ (l : LineAt). has_invoke l.words ≡ false) (lines_of text)
    → late text ≡ (reading text >>= λ s. Ok (record { scenario = s; bindings = [] }))
