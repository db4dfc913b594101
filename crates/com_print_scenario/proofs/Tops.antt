-- The lines that declare something are read as what they declare.
use Rattle.std.proofs.Common.{◌≡◌, ℕ, ◌≤◌, ◌<◌, ◌^◌, List, [], ◌∷◌, ◌++◌, map, drop, Some, is_some, Bool, true, false, nat_le, if◌then◌else◌, refl, ap, ◌∙◌, arith, length, slice_get, codes, Result, Ok, Err, bytes_eq, All}
use Rattle.std.proofs.lemmas.Bool.Decides.{nat_tests}
use Rattle.com_base.specs.declared.guid.Guid.{Guid}
use Rattle.com_body.specs.declared.frame.Native.{Native}
use Rattle.com_body.specs.declared.frame.Native.TheVariants as natives
use Rattle.com_classes.specs.declared.interfaces.Interface.{Interface}
use Rattle.com_classes.specs.declared.classes.Class.{Class}
use Rattle.com_classes.specs.declared.classes.ThreadingModel.{ThreadingModel}
use Rattle.com_text.specs.Words.{WordAt}
use Rattle.com_read_operands.specs.declared.faults.Fault.{Fault}
use Rattle.com_read_operands.specs.Reading.{◌>>=◌, fault_at, end_at, number_at}
use Rattle.com_read_operands.specs.Naming.{is_name, position_of}
use Rattle.com_read_sections.specs.declared.state.State.{State}
use Rattle.com_read_sections.specs.declared.state.Section.TheVariants as sections
use Rattle.com_read_lines.specs.Codes.{no_code}
use Rattle.com_read_lines.specs.Tables.{has_guid}
use Rattle.com_read_lines.specs.Methods.{type_word_of}
use Rattle.com_read_lines.specs.Declaring.{free_name_at, free_guid_at, interface_name_at, filter_name_at, listed_at, model_at, native_at, natives_of}
use Rattle.com_read_sections.specs.Beginning.{section_word_of, pool_line, interface_line, class_line, native_line, filter_line, thread_line, picks_line, top_by, top_line}
use Rattle.com_print.specs.Spelled.{Spelled, plain, spelled_of}
use Rattle.com_print.specs.Ranges.{IsGuid, AreNames}
use Rattle.com_print.proofs.Places.{StandsAt, stands, end_again, number_at_again}
use Rattle.com_print_scenario.specs.Printed.{number_word, pool_words, interface_words, class_head, filter_name, filter_words, thread_words}
use Rattle.com_print_scenario.proofs.Places.{at_of, first_word, free_guid_again, free_name_again, interface_name_again, filter_name_again, model_again}
use Rattle.com_print_scenario.proofs.Following.{interface_word_of, listed_again, follows, rest_of, picks_on_again}

-- the first word of a line that was written
pub first_of : (line : List WordAt) (bs : List ℕ) (rest : List Spelled) → map spelled_of line ≡ plain bs ∷ rest → StandsAt line 0 (plain bs)
first_of line bs rest e = stands line 0 (plain bs) (ap (λ (x : List Spelled). slice_get x 0) e)

top_word : (st : State) (line : List WordAt) (bs : List ℕ) (rest : List Spelled) (e : map spelled_of line ≡ plain bs ∷ rest)
    → top_line st line ≡ top_by st line (first_of line bs rest e).word (section_word_of bs)
unfolding top_line
top_word st line bs rest e =
    let s = first_of line bs rest e in
    ap (λ (r : Result WordAt Fault). r >>= λ w. top_by st line w (section_word_of w.bytes)) (first_word line (plain bs) s tt)
    ∙ ap (λ (x : List ℕ). top_by st line s.word (section_word_of x)) s.bytes

-- a table with room
pub room_of : (limit n : ℕ) → n < limit → nat_le limit n ≡ false
room_of limit n lt = grind (arith, nat_tests)

abbrev unless : {A : Type 0} → Fault → Result A Fault → Bool → Result A Fault
unless f r b = if b then Err f else r

pub pool_again : (st : State) (line : List WordAt) (n : ℕ) → map spelled_of line ≡ pool_words n → is_some st.pool ≡ false → 1 ≤ n → n ≤ 8
    → top_line st line ≡ Ok (record st { pool = Some n })
unfolding pool_line
pool_again st line n e free ge le =
    let s = first_of line _ _ e in
    let reads = number_at 1 8 line 1 >>= λ lanes. end_at line 2 >>= λ done. Ok (record st { pool = Some lanes }) in
    top_word st line (codes "pool") _ e
    ∙ ap (unless (fault_at 9 s.word) reads) free
    ∙ rw (number_at_again 1 8 line 1 n (at_of line _ 1 e) ge le (omega arith), end_again line 2 (at_of line _ 2 e)) refl

-- an interface that is declared and open
abbrev pub opened_by : State → List ℕ → Guid → State
opened_by st name iid = record st {
  names = record (st.names) { interfaces = st.names.interfaces ++ name ∷ [] };
  iids = st.iids ++ iid ∷ [];
  section = sections.Interface (record { name = name; iid = iid; methods = [] });
}

pub interface_again : (st : State) (line : List WordAt) (i : Interface) → map spelled_of line ≡ interface_words i → length st.names.interfaces < 64
    → is_name i.name ≡ true → is_some (type_word_of i.name) ≡ false → is_some (position_of st.names.interfaces i.name) ≡ false
    → IsGuid i.iid → has_guid st.iids i.iid ≡ false → top_line st line ≡ Ok (opened_by st i.name i.iid)
unfolding interface_line
interface_again st line i e room is no_type free fits new =
    let s = first_of line _ _ e in
    let n = stands line 1 (plain i.name) (at_of line _ 1 e) in
    let reads = interface_name_at st.names.interfaces line >>= λ name. free_guid_at st.iids line 2 >>= λ iid. end_at line 3 >>= λ done. Ok (opened_by st name.bytes iid) in
    top_word st line (codes "interface") _ e
    ∙ ap (unless (fault_at 12 s.word) reads) (room_of 64 (length st.names.interfaces) room)
    ∙ ap (λ (r : Result WordAt Fault). r >>= λ name. free_guid_at st.iids line 2 >>= λ iid. end_at line 3 >>= λ done. Ok (opened_by st name.bytes iid))
    (interface_name_again st.names.interfaces line i.name n is no_type free)
    ∙ ap (λ (r : Result Guid Fault). r >>= λ iid. end_at line 3 >>= λ done. Ok (opened_by st n.word.bytes iid)) (free_guid_again st.iids line 2 i.iid (at_of line _ 2 e) fits new)
    ∙ ap (λ (r : Result (Unit {0}) Fault). r >>= λ done. Ok (opened_by st n.word.bytes i.iid)) (end_again line 3 (at_of line _ 3 e))
    ∙ ap (λ (x : List ℕ). Ok (opened_by st x i.iid)) n.bytes

-- what a class's line needs of its name and CLSID
pub record CanDeclare (st : State) (c : Class) : Type 0 where
  pub room : length st.names.classes < 64
  pub name : is_name c.name ≡ true
  pub free : is_some (position_of st.names.classes c.name) ≡ false
  pub fits : IsGuid c.clsid
  pub new : has_guid st.clsids c.clsid ≡ false

-- a class that is open, without its bodies
abbrev pub class_by : State → Class → List ℕ → ThreadingModel → List ℕ → State
class_by st c name model interfaces = record st {
  names = record (st.names) { classes = st.names.classes ++ name ∷ [] };
  clsids = st.clsids ++ c.clsid ∷ [];
  section = sections.Class (record { name = name; clsid = c.clsid; model = model; native = natives.Bodies; interfaces = interfaces; bodies = [] });
}

pub class_again : (st : State) (line : List WordAt) (c : Class) → map spelled_of line ≡ class_head (codes "class") c (map (interface_word_of st.names.interfaces) c.interfaces)
    → CanDeclare st c → AreNames st.names.interfaces → All (λ i. i < length st.names.interfaces) c.interfaces → 1 ≤ length c.interfaces → length c.interfaces ≤ 16
    → top_line st line ≡ Ok (class_by st c c.name c.model c.interfaces)
unfolding class_line
class_again st line c e can are all some few =
    let s = first_of line _ _ e in
    let n = stands line 1 (plain c.name) (at_of line _ 1 e) in
    let reads = free_name_at st.names.classes line 1 >>= λ name. free_guid_at st.clsids line 2 >>= λ clsid. model_at line 3 >>= λ model.
    listed_at st.names.interfaces line >>= λ interfaces. Ok (class_by st (record c { clsid = clsid }) name.bytes model interfaces) in
    top_word st line (codes "class") _ e
    ∙ ap (unless (fault_at 12 s.word) reads) (room_of 64 (length st.names.classes) can.room)
    ∙ ap (λ (r : Result WordAt Fault). r >>= λ name. free_guid_at st.clsids line 2 >>= λ clsid. model_at line 3 >>= λ model.
    listed_at st.names.interfaces line >>= λ interfaces. Ok (class_by st (record c { clsid = clsid }) name.bytes model interfaces))
    (free_name_again st.names.classes line 1 c.name n can.name can.free)
    ∙ ap (λ (r : Result Guid Fault). r >>= λ clsid. model_at line 3 >>= λ model.
    listed_at st.names.interfaces line >>= λ interfaces. Ok (class_by st (record c { clsid = clsid }) n.word.bytes model interfaces))
    (free_guid_again st.clsids line 2 c.clsid (at_of line _ 2 e) can.fits can.new)
    ∙ ap (λ (r : Result ThreadingModel Fault). r >>= λ model. listed_at st.names.interfaces line >>= λ interfaces. Ok (class_by st c n.word.bytes model interfaces))
    (model_again line 3 c.model (at_of line _ 3 e))
    ∙ ap (λ (r : Result (List ℕ) Fault). r >>= λ interfaces. Ok (class_by st c n.word.bytes c.model interfaces))
    (listed_again st.names.interfaces c.interfaces line _ _ _ _ are all some few e)
    ∙ ap (λ (x : List ℕ). Ok (class_by st c x c.model c.interfaces)) n.bytes

-- a native is declared and closed
abbrev pub native_by : State → Class → List ℕ → ThreadingModel → Native → State
native_by st c name model native = record st {
  names = record (st.names) { classes = st.names.classes ++ name ∷ [] };
  clsids = st.clsids ++ c.clsid ∷ [];
  classes = st.classes ++ record { name = name; clsid = c.clsid; model = model; native = native; interfaces = natives_of native; bodies = [] } ∷ [];
}

pub native_again : (st : State) (line : List WordAt) (c : Class) (native : Native) (bs : List ℕ) → map spelled_of line ≡ class_head (codes "native") c (plain bs ∷ [])
    → CanDeclare st c → native_at c.model line 4 ≡ Ok native
    → top_line st line ≡ Ok (native_by st c c.name c.model native)
unfolding native_line
native_again st line c native bs e can is =
    let s = first_of line _ _ e in
    let n = stands line 1 (plain c.name) (at_of line _ 1 e) in
    let reads = free_name_at st.names.classes line 1 >>= λ name. free_guid_at st.clsids line 2 >>= λ clsid. model_at line 3 >>= λ model.
    native_at model line 4 >>= λ kind. end_at line 5 >>= λ done. Ok (native_by st (record c { clsid = clsid }) name.bytes model kind) in
    top_word st line (codes "native") _ e
    ∙ ap (unless (fault_at 12 s.word) reads) (room_of 64 (length st.names.classes) can.room)
    ∙ ap (λ (r : Result WordAt Fault). r >>= λ name. free_guid_at st.clsids line 2 >>= λ clsid. model_at line 3 >>= λ model.
    native_at model line 4 >>= λ kind. end_at line 5 >>= λ done. Ok (native_by st (record c { clsid = clsid }) name.bytes model kind))
    (free_name_again st.names.classes line 1 c.name n can.name can.free)
    ∙ ap (λ (r : Result Guid Fault). r >>= λ clsid. model_at line 3 >>= λ model.
    native_at model line 4 >>= λ kind. end_at line 5 >>= λ done. Ok (native_by st (record c { clsid = clsid }) n.word.bytes model kind))
    (free_guid_again st.clsids line 2 c.clsid (at_of line _ 2 e) can.fits can.new)
    ∙ ap (λ (r : Result ThreadingModel Fault). r >>= λ model. native_at model line 4 >>= λ kind. end_at line 5 >>= λ done. Ok (native_by st c n.word.bytes model kind))
    (model_again line 3 c.model (at_of line _ 3 e))
    ∙ ap (λ (r : Result Native Fault). r >>= λ kind. end_at line 5 >>= λ done. Ok (native_by st c n.word.bytes c.model kind)) is
    ∙ ap (λ (r : Result (Unit {0}) Fault). r >>= λ done. Ok (native_by st c n.word.bytes c.model native)) (end_again line 5 (at_of line _ 5 e))
    ∙ ap (λ (x : List ℕ). Ok (native_by st c x c.model native)) n.bytes

abbrev pub filter_by : State → List ℕ → State
filter_by st name = record st {
  names = record (st.names) { filters = st.names.filters ++ name ∷ [] };
  section = sections.Filter [];
}

pub filter_again : (st : State) (line : List WordAt) (n : ℕ) → map spelled_of line ≡ filter_words n → length st.names.filters < 16
    → is_name (filter_name n) ≡ true → bytes_eq (filter_name n) (codes "none") ≡ false → is_some (position_of st.names.filters (filter_name n)) ≡ false
    → top_line st line ≡ Ok (filter_by st (filter_name n))
unfolding filter_line
filter_again st line n e room is no_none free =
    let s = first_of line _ _ e in
    let w = stands line 1 (plain (filter_name n)) (at_of line _ 1 e) in
    let reads = filter_name_at st.names.filters line >>= λ name. end_at line 2 >>= λ done. Ok (filter_by st name.bytes) in
    top_word st line (codes "filter") _ e
    ∙ ap (unless (fault_at 12 s.word) reads) (room_of 16 (length st.names.filters) room)
    ∙ ap (λ (r : Result WordAt Fault). r >>= λ name. end_at line 2 >>= λ done. Ok (filter_by st name.bytes)) (filter_name_again st.names.filters line (filter_name n) w is no_none free)
    ∙ ap (λ (r : Result (Unit {0}) Fault). r >>= λ done. Ok (filter_by st w.word.bytes)) (end_again line 2 (at_of line _ 2 e))
    ∙ ap (λ (x : List ℕ). Ok (filter_by st x)) w.bytes

pub thread_again : (st : State) (line : List WordAt) → map spelled_of line ≡ thread_words → length st.threads < 16
    → top_line st line ≡ Ok (record st { section = sections.Thread no_code })
unfolding thread_line
thread_again st line e room =
    let s = first_of line _ _ e in
    top_word st line (codes "thread") _ e
    ∙ ap (unless (fault_at 12 s.word) (end_at line 1 >>= λ done. Ok (record st { section = sections.Thread no_code }))) (room_of 16 (length st.threads) room)
    ∙ ap (λ (r : Result (Unit {0}) Fault). r >>= λ done. Ok (record st { section = sections.Thread no_code })) (end_again line 1 (at_of line _ 1 e))

pub picks_again : (st : State) (line : List WordAt) (ns : List ℕ) → map spelled_of line ≡ plain (codes "picks") ∷ map number_word ns → All (λ n. n < 2 ^ 32) ns
    → top_line st line ≡ Ok (record st { picks = st.picks ++ ns })
unfolding picks_line
picks_again st line ns e all =
    top_word st line (codes "picks") _ e
    ∙ ap (λ (r : Result (List ℕ) Fault). r >>= λ more. Ok (record st { picks = st.picks ++ more }))
    (picks_on_again ns [] line 1 (drop 1 line) all (follows 1 line) (rest_of 1 line _ e))
