-- Lines outside of sections.
use Rattle.std.specs.Prelude.{ℕ, List, [], ◌∷◌, ◌++◌, length, drop, Option, Some, None, is_some, Result, Ok}
use Rattle.std.specs.Prelude.{Err, nat_le, if◌then◌else◌, codes}
use Rattle.std.specs.Str.{bytes_eq}
use Rattle.com_base.specs.declared.limits.TheConstants.{CLASS_LIMIT, FILTER_LIMIT, INTERFACE_LIMIT}
use Rattle.com_base.specs.declared.limits.TheConstants.{POOL_LIMIT, THREAD_LIMIT}
use Rattle.com_body.specs.declared.frame.Native.TheVariants as natives
use Rattle.com_text.specs.Words.{WordAt}
use Rattle.com_read_operands.specs.declared.faults.Fault.{Fault}
use Rattle.com_read_operands.specs.declared.faults.TheConstants.Fault.{LIMIT, REPEATED, UNEXPECTED}
use Rattle.com_read_operands.specs.Reading.{◌>>=◌, fault_at, first_at, end_at, number_at}
use Rattle.com_read_sections.specs.declared.begin.SectionWord.{SectionWord}
use Rattle.com_read_sections.specs.declared.begin.SectionWord.TheVariants as words
use Rattle.com_read_sections.specs.declared.state.State.{State}
use Rattle.com_read_sections.specs.declared.state.Section.TheVariants as sections
use Rattle.com_read_lines.specs.Codes.{no_code}
use Rattle.com_read_lines.specs.Declaring.{free_guid_at, free_name_at, interface_name_at, filter_name_at}
use Rattle.com_read_lines.specs.Declaring.{model_at, native_at, natives_of, listed_at, picks_on}

-- which of the words that begin a line outside of sections these bytes are, if they are one
abbrev pub section_word_of : List ℕ → Option SectionWord
section_word_of bytes =
    if bytes_eq bytes (codes "pool") then Some words.Pool
    else (if bytes_eq bytes (codes "interface") then Some words.Interface
    else (if bytes_eq bytes (codes "class") then Some words.Class
    else (if bytes_eq bytes (codes "native") then Some words.Native
    else (if bytes_eq bytes (codes "filter") then Some words.Filter
    else (if bytes_eq bytes (codes "thread") then Some words.Thread
    else (if bytes_eq bytes (codes "picks") then Some words.Picks
    else None))))))

-- the lanes of the pool, given at most once
unfoldable pub pool_line : State → WordAt → List WordAt → Result State Fault
pool_line st w line = if is_some st.pool then Err (fault_at REPEATED w) else (do
  lanes ← number_at 1 POOL_LIMIT line 1
  done ← end_at line 2
  Ok (record st { pool = Some lanes }))

-- an interface's name and IID: at most `INTERFACE_LIMIT` with the built-in ones
unfoldable pub interface_line : State → WordAt → List WordAt → Result State Fault
interface_line st w line = if nat_le INTERFACE_LIMIT (length st.names.interfaces) then Err (fault_at LIMIT w) else (do
  name ← interface_name_at st.names.interfaces line
  iid ← free_guid_at st.iids line 2
  done ← end_at line 3
  Ok (record st {
    names = record (st.names) { interfaces = st.names.interfaces ++ name.bytes ∷ [] };
    iids = st.iids ++ iid ∷ [];
    section = sections.Interface (record { name = name.bytes; iid = iid; methods = [] });
  }))

-- a class's name, CLSID, model and interfaces: at most `CLASS_LIMIT` with the natives
unfoldable pub class_line : State → WordAt → List WordAt → Result State Fault
class_line st w line = if nat_le CLASS_LIMIT (length st.names.classes) then Err (fault_at LIMIT w) else (do
  name ← free_name_at st.names.classes line 1
  clsid ← free_guid_at st.clsids line 2
  model ← model_at line 3
  interfaces ← listed_at st.names.interfaces line
  Ok (record st {
    names = record (st.names) { classes = st.names.classes ++ name.bytes ∷ [] };
    clsids = st.clsids ++ clsid ∷ [];
    section = sections.Class (record {
      name = name.bytes;
      clsid = clsid;
      model = model;
      native = natives.Bodies;
      interfaces = interfaces;
      bodies = [];
    });
  }))

-- a class with built-in bodies
unfoldable pub native_line : State → WordAt → List WordAt → Result State Fault
native_line st w line = if nat_le CLASS_LIMIT (length st.names.classes) then Err (fault_at LIMIT w) else (do
  name ← free_name_at st.names.classes line 1
  clsid ← free_guid_at st.clsids line 2
  model ← model_at line 3
  native ← native_at model line 4
  done ← end_at line 5
  Ok (record st {
    names = record (st.names) { classes = st.names.classes ++ name.bytes ∷ [] };
    clsids = st.clsids ++ clsid ∷ [];
    classes = st.classes ++ record {
      name = name.bytes;
      clsid = clsid;
      model = model;
      native = native;
      interfaces = natives_of native;
      bodies = [];
    } ∷ [];
  }))

-- a filter's name: at most `FILTER_LIMIT` filters
unfoldable pub filter_line : State → WordAt → List WordAt → Result State Fault
filter_line st w line = if nat_le FILTER_LIMIT (length st.names.filters) then Err (fault_at LIMIT w) else (do
  name ← filter_name_at st.names.filters line
  done ← end_at line 2
  Ok (record st {
    names = record (st.names) { filters = st.names.filters ++ name.bytes ∷ [] };
    section = sections.Filter [];
  }))

-- at most `THREAD_LIMIT` threads
unfoldable pub thread_line : State → WordAt → List WordAt → Result State Fault
thread_line st w line = if nat_le THREAD_LIMIT (length st.threads) then Err (fault_at LIMIT w) else (do
  done ← end_at line 1
  Ok (record st { section = sections.Thread no_code }))

-- several lines are joined
unfoldable pub picks_line : State → List WordAt → Result State Fault
picks_line st line = do
  more ← picks_on [] line 1 (drop 1 line)
  Ok (record st { picks = st.picks ++ more })

-- a line outside of sections, by which word begins it; any other word is at fault
abbrev pub top_by : State → List WordAt → WordAt → Option SectionWord → Result State Fault
top_by st line w None = Err (fault_at UNEXPECTED w)
top_by st line w (Some words.Pool) = pool_line st w line
top_by st line w (Some words.Interface) = interface_line st w line
top_by st line w (Some words.Class) = class_line st w line
top_by st line w (Some words.Native) = native_line st w line
top_by st line w (Some words.Filter) = filter_line st w line
top_by st line w (Some words.Thread) = thread_line st w line
top_by st line w (Some words.Picks) = picks_line st line

-- a line outside of sections
unfoldable pub top_line : State → List WordAt → Result State Fault
top_line st line = do
  w ← first_at line
  top_by st line w (section_word_of w.bytes)
