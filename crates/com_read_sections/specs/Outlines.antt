-- What a text's lines declare.
use Rattle.std.specs.Prelude.{ℕ, List, [], ◌∷◌, ◌++◌, None, Result, Ok, Err, if◌then◌else◌, map, unwrap_or}
use Rattle.com_base.specs.declared.guid.Guid.{Guid}
use Rattle.com_classes.specs.declared.interfaces.Interface.{Interface}
use Rattle.com_text.specs.Words.{LineAt}
use Rattle.com_read_operands.specs.declared.faults.Fault.{Fault}
use Rattle.com_read_operands.specs.declared.faults.TheConstants.Fault.{UNENDED}
use Rattle.com_read_operands.specs.Reading.{◌>>=◌}
use Rattle.com_read_sections.specs.declared.state.State.{State}
use Rattle.com_read_sections.specs.declared.state.Section.{Section}
use Rattle.com_read_sections.specs.declared.state.Section.TheVariants as sections
use Rattle.com_read_sections.specs.declared.outline.Outline.{Outline}
use Rattle.com_read_lines.specs.Codes.{first_position}
use Rattle.com_read_sections.specs.Opened.{interface_closed, step}

-- outside of sections
abbrev pub outlined : State → Outline
outlined st = record {
  version = st.version;
  pool = unwrap_or st.pool 1;
  interfaces = st.names.tables;
  classes = st.classes;
  filters = st.filters;
  threads = st.threads;
  picks = st.picks;
}

-- the text's end, by what it stands in: a text without a header is at fault, an open interface is closed there, and
-- an open class, body, filter or script lacks its `end`, which is a fault at this line and column
abbrev pub finished : State → ℕ → ℕ → Section → Result Outline Fault
finished st line column (sections.Header pending) = Err first_position
finished st line column sections.Top = Ok (outlined st)
finished st line column (sections.Interface i) = Ok (outlined (interface_closed st i))
finished st line column _ = Err (record { number = UNENDED; line = line; column = column })

-- the text's end
unfoldable pub finish : State → ℕ → ℕ → Result Outline Fault
finish st line column = finished st line column st.section

abbrev pub names_of : List Interface → List (List ℕ)
names_of tables = map (λ t. t.name) tables

abbrev pub iids_of : List Interface → List Guid
iids_of tables = map (λ t. t.iid) tables

-- one of Microsoft's own IIDs
abbrev pub microsoft : ℕ → Guid
microsoft n = record { data1 = n; data2 = 0; data3 = 0; data4 = 0xc0 ∷ 0 ∷ 0 ∷ 0 ∷ 0 ∷ 0 ∷ 0 ∷ 0x46 ∷ [] }

-- the IIDs that no text may declare: those of the built-in interfaces, IClassFactory, IMessageFilter and
-- IGlobalInterfaceTable
abbrev pub taken_iids : List Interface → List Guid
taken_iids tables = iids_of tables ++ microsoft 1 ∷ [] ++ microsoft 0x16 ∷ [] ++ microsoft 0x146 ∷ []

-- above the first line
abbrev pub begun : List Interface → State
begun tables = record {
  version = 0;
  pool = None;
  names = record { classes = []; interfaces = names_of tables; filters = []; tables = tables };
  iids = taken_iids tables;
  clsids = [];
  classes = [];
  filters = [];
  threads = [];
  picks = [];
  section = sections.Header None;
}

-- the lines that are left
unfoldable pub read : State → List LineAt → Result Outline Fault
read st [] = Err first_position
read st (l ∷ ls) = step st l.words >>= λ next. (if l.last then finish next l.line l.column else read next ls)
