-- The bodies of a class are read again.
use Rattle.std.proofs.Common.{◌≡◌, ℕ, ◌+◌, ◌<◌, ◌==◌, List, [], ◌∷◌, ◌++◌, map, take, drop, Option, Some, None, Bool, true, false, if◌then◌else◌, sym, ap, ◌∙◌, subst, length, codes, Result, Ok, Err, bytes_eq, All, append_assoc}
use Rattle.std.proofs.lemmas.List.{append-nil}
use Rattle.std.proofs.lemmas.List.Elements.{All-head, All-tail}
use Rattle.com_body.specs.declared.statements.Stmt.{Stmt}
use Rattle.com_body.specs.Bodies.{fault_of}
use Rattle.com_classes.specs.declared.interfaces.Method.{Method}
use Rattle.com_classes.specs.declared.classes.Class.{Class}
use Rattle.com_classes.specs.declared.classes.MethodBody.{MethodBody}
use Rattle.com_model.specs.Formed.{Distinct, same_body}
use Rattle.com_text.specs.Words.{WordAt}
use Rattle.com_read_operands.specs.declared.faults.Fault.{Fault}
use Rattle.com_read_operands.specs.Reading.{◌>>=◌, fault_at, word_at, end_at, within}
use Rattle.com_read_operands.specs.Numbers.{number_of}
use Rattle.com_read_operands.specs.Naming.{is_name, number_of_name}
use Rattle.com_read_statements.specs.declared.calls.MethodNumber.{MethodNumber}
use Rattle.com_read_statements.specs.declared.calls.Target.TheVariants as targets
use Rattle.com_read_statements.specs.declared.names.Names.{Names}
use Rattle.com_read_statements.specs.declared.keywords.Program.{Program}
use Rattle.com_read_statements.specs.Calls.{dot_of, method_of, method_at, target_at, headed, dotted, behind_dot, named_of, numbered_of, numbered_by, as_target}
use Rattle.com_read_sections.specs.declared.outline.Outline.{Outline}
use Rattle.com_read_sections.specs.declared.state.State.{State}
use Rattle.com_read_sections.specs.declared.state.Section.TheVariants as sections
use Rattle.com_read_lines.specs.Codes.{no_code}
use Rattle.com_read_sections.specs.Opened.{step, has_body, body_head, class_ended, inner_class, program_of}
use Rattle.com_print.specs.Spelled.{Spelled, plain, spelled_of}
use Rattle.com_print.specs.Words.{name_at}
use Rattle.com_print.proofs.Places.{at, end_again}
use Rattle.com_print.specs.Standing.{AreDeclared}
use Rattle.com_print.specs.StatementWords.{statement_words, name_of}
use Rattle.com_print.proofs.Targets.{named_again}
use Rattle.com_print_scenario.specs.Printed.{end_words, body_words, program_lines, bodies_lines}
use Rattle.com_print_scenario.proofs.Apart.{new_of, no_body}
use Rattle.com_print_scenario.proofs.Places.{at_of, first_word}
use Rattle.com_print_scenario.proofs.Programs.{CanRead, in_body, body_read, body_statement, body_end}
use Rattle.com_print_scenario.proofs.Runs.{Gets, line_then, step_in, program_on}
use Rattle.com_print_scenario.proofs.Tops.{first_of}

-- ---- a method's name in a body's head is read as in a call

as_named : (r : Result MethodNumber Fault) (m : MethodNumber) → as_target r ≡ Ok (targets.Named m) → r ≡ Ok m
as_named (Ok x) m h = cc
as_named (Err e) m h = absurd cc

not_numbered_by : (n : ℕ) (w : WordAt) (o : Option ℕ) (m : MethodNumber) → numbered_by n w o ≡ Ok (targets.Named m) → ⊥
not_numbered_by n w None m h = cc
not_numbered_by n w (Some i) m h = cc

not_numbered_in : (r : Result ℕ Fault) (w : WordAt) (o : Option ℕ) (m : MethodNumber) → (r >>= λ n. numbered_by n w o) ≡ Ok (targets.Named m) → ⊥
not_numbered_in (Ok n) w o m h = not_numbered_by n w o m h
not_numbered_in (Err e) w o m h = cc

not_numbered : (names : Names) (w : WordAt) (front digits : List ℕ) (m : MethodNumber) → numbered_of names w front digits ≡ Ok (targets.Named m) → ⊥
unfolding numbered_of
not_numbered names w front digits m h = not_numbered_in (within 0 65535 w (number_of digits)) w (number_of_name names.interfaces front) m h

by_mark : (names : Names) (w : WordAt) (front : List ℕ) (b : ℕ) (bs : List ℕ) (m : MethodNumber) (t : Bool)
    → (if t then numbered_of names w front bs else as_target (named_of names w front (b ∷ bs))) ≡ Ok (targets.Named m) → named_of names w front (b ∷ bs) ≡ Ok m
by_mark names w front b bs m true h = absurd (not_numbered names w front bs m h)
by_mark names w front b bs m false h = as_named (named_of names w front (b ∷ bs)) m h

behind_named : (names : Names) (w : WordAt) (front back : List ℕ) (m : MethodNumber) → behind_dot names w front back ≡ Ok (targets.Named m) → named_of names w front back ≡ Ok m
behind_named names w front [] m h = as_named (named_of names w front []) m h
behind_named names w front (b ∷ bs) m h = by_mark names w front b bs m (b == 35) h

by_form : (names : Names) (w : WordAt) (front back : List ℕ) (m : MethodNumber) (t : Bool)
    → (if t then behind_dot names w front back else Err (fault_at 3 w)) ≡ Ok (targets.Named m) → (if t then named_of names w front back else Err (fault_at 3 w)) ≡ Ok m
by_form names w front back m true h = behind_named names w front back m h
by_form names w front back m false h = absurd cc

headed_as : (names : Names) (w : WordAt) (o : Option ℕ) (m : MethodNumber) → dotted names w o ≡ Ok (targets.Named m) → headed names w o ≡ Ok m
headed_as names w None m h = absurd cc
headed_as names w (Some dot) m h = by_form names w (take dot w.bytes) (drop (dot + 1) w.bytes) m (is_name (take dot w.bytes)) h

word_headed : (names : Names) (r : Result WordAt Fault) (m : MethodNumber) → (r >>= λ w. dotted names w (dot_of w.bytes)) ≡ Ok (targets.Named m)
    → (r >>= λ w. headed names w (dot_of w.bytes)) ≡ Ok m
word_headed names (Ok w) m h = headed_as names w (dot_of w.bytes) m h
word_headed names (Err e) m h = absurd cc

head_as : (names : Names) (line : List WordAt) (k : ℕ) (m : MethodNumber) → target_at names line k ≡ Ok (targets.Named m) → method_at names line k ≡ Ok m
unfolding target_at method_at
head_as names line k m h = word_headed names (word_at line k) m h

-- ---- lines of a class

abbrev pub number_of_body : MethodBody → MethodNumber
number_of_body b = record { iface = b.iface; method = b.method }

-- a class between its bodies
abbrev pub in_class : State → Class → State
in_class st c = record st { section = sections.Class c }

abbrev class_by_word : State → Class → List WordAt → WordAt → List ℕ → Result State Fault
class_by_word st c line w bs = if bytes_eq bs (codes "body") then body_head st c line
    else (if bytes_eq bs (codes "end") then class_ended st c line
    else Err (fault_at 3 w))

class_word : (st : State) (c : Class) (line : List WordAt) (bs : List ℕ) (rest : List Spelled) (e : map spelled_of line ≡ plain bs ∷ rest)
    → step (in_class st c) line ≡ class_by_word (in_class st c) c line (first_of line bs rest e).word bs
unfolding inner_class
class_word st c line bs rest e =
    let s = first_of line bs rest e in
    step_in (in_class st c) line (plain bs) rest e
    ∙ ap (λ (r : Result WordAt Fault). r >>= λ w. class_by_word (in_class st c) c line w w.bytes) (first_word line (plain bs) s tt)
    ∙ ap (class_by_word (in_class st c) c line s.word) s.bytes

-- a body's head
pub head_again : (st : State) (c : Class) (line : List WordAt) (b : MethodBody) (m : Method) → map spelled_of line ≡ body_words st.names b
    → AreDeclared st.names → b.iface < length st.names.interfaces → method_of st.names.tables b.iface b.method ≡ Some m
    → has_body c.bodies (number_of_body b) ≡ false
    → step (in_class st c) line ≡ Ok (in_body st c (number_of_body b) no_code)
unfolding body_head
head_again st c line b m e are lt has new =
    let t = in_class st c in
    let there : at line 1 ≡ Some (plain (name_at st.names.interfaces b.iface ++ 46 ∷ m.name)) =
    at_of line _ 1 e ∙ ap (λ (o : Option Method). Some (plain (name_at st.names.interfaces b.iface ++ 46 ∷ name_of o))) has in
    let read = head_as st.names line 1 (number_of_body b) (named_again st.names line 1 b.iface b.method m there are lt has) in
    class_word st c line (codes "body") _ e
    ∙ ap (λ (r : Result MethodNumber Fault). r >>= λ h. if has_body c.bodies h then (word_at line 1 >>= λ w. Err (fault_at 9 w)) else (end_at line 2 >>= λ done. Ok (in_body st c h no_code))) read
    ∙ ap (λ (x : Bool). if x then (word_at line 1 >>= λ w. Err (fault_at 9 w)) else (end_at line 2 >>= λ done. Ok (in_body st c (number_of_body b) no_code))) new
    ∙ ap (λ (r : Result (Unit {0}) Fault). r >>= λ done. Ok (in_body st c (number_of_body b) no_code)) (end_again line 2 (at_of line _ 2 e))

-- a class that is closed
abbrev pub class_read : State → Class → State
class_read st c = record st { classes = st.classes ++ c ∷ []; section = sections.Top }

class_end : (st : State) (c : Class) (line : List WordAt) → map spelled_of line ≡ end_words → step (in_class st c) line ≡ Ok (class_read st c)
class_end st c line e =
    class_word st c line (codes "end") [] e
    ∙ ap (λ (r : Result (Unit {0}) Fault). r >>= λ done. Ok (class_read st c)) (end_again line 1 (at_of line _ 1 e))

-- ---- all bodies

-- a statement that is written among one scenario's names is read among those of its place
pub record CanFollow (p : Program) (names full : Names) (s : Stmt) : Type 0 where
  pub can : CanRead p names s
  pub same : statement_words full s ≡ statement_words names s

-- a body that is written and read in its class
pub record CanGive (p : Program) (names full : Names) (b : MethodBody) : Type 0 where
  pub method : Method
  pub has : method_of names.tables b.iface b.method ≡ Some method
  pub declared : b.iface < length names.interfaces
  pub statements : All (CanFollow p names full) b.body
  pub whole : fault_of b.body 200 ≡ None

pub bodies_on : (st : State) (full : Names) (c : Class) (rest done : List MethodBody) (ls : List (List Spelled)) (o : Outline)
    → ((b : MethodBody) → body_words full b ≡ body_words st.names b) → AreDeclared st.names → All (CanGive (program_of c.model) st.names full) rest → Distinct same_body (done ++ rest)
    → Gets (class_read st (record c { bodies = done ++ rest })) ls o
    → Gets (in_class st (record c { bodies = done })) (bodies_lines full rest ++ ls) o
bodies_on st full c [] done ls o words are all apart more =
    let e : done ++ [] ≡ done = append-nil done in
    line_then (in_class st (record c { bodies = done })) (class_read st (record c { bodies = done })) end_words ls o
    (class_end st (record c { bodies = done }))
    (subst (λ (x : List MethodBody). Gets (class_read st (record c { bodies = x })) ls o) e more)
bodies_on st full c (b ∷ bs) done ls o words are all apart more =
    let can = All-head (CanGive (program_of c.model) st.names full) b bs all in
    let open' = record c { bodies = done } in
    let head = number_of_body b in
    let new = no_body done b (new_of same_body done b bs apart) in
    let e : done ++ b ∷ bs ≡ (done ++ b ∷ []) ++ bs = sym (append_assoc done (b ∷ []) bs) in
    let rest_read = bodies_on st full c bs (done ++ b ∷ []) ls o words are (All-tail (CanGive (program_of c.model) st.names full) b bs all)
    (subst (Distinct same_body) e apart)
    (subst (λ (x : List MethodBody). Gets (class_read st (record c { bodies = x })) ls o) e more) in
    let body = program_on (in_body st open' head) (body_read st open' head) 200 full (CanFollow (program_of c.model) st.names full)
    (λ code s line one room h. body_statement st open' head full code s line are one.can room one.same h)
    (body_end st open' head) b.body no_code (bodies_lines full bs ++ ls) o can.statements can.whole rest_read in
    let split : (program_lines full b.body ++ bodies_lines full bs) ++ ls ≡ program_lines full b.body ++ (bodies_lines full bs ++ ls)
    = append_assoc (program_lines full b.body) (bodies_lines full bs) ls in
    line_then (in_class st open') (in_body st open' head no_code) (body_words full b) ((program_lines full b.body ++ bodies_lines full bs) ++ ls) o
    (λ line h. head_again st open' line b can.method (h ∙ words b) are can.declared can.has new)
    (subst (λ (x : List (List Spelled)). Gets (in_body st open' head no_code) x o) (sym split) body)
