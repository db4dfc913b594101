-- The statements of a body and of a script are read again.
use Rattle.std.proofs.Common.{◌≡◌, ℕ, ◌<◌, List, [], ◌∷◌, ◌++◌, map, Some, is_some, Bool, false, if◌then◌else◌, refl, sym, ap, ◌∙◌, length, codes, Result, Ok, Err, bytes_eq}
use Rattle.com_body.specs.declared.statements.Stmt.{Stmt}
use Rattle.com_body.specs.declared.statements.Stmt.TheVariants as stmts
use Rattle.com_body.specs.Bodies.{IsInRange}
use Rattle.com_classes.specs.declared.classes.Class.{Class}
use Rattle.com_text.specs.Words.{WordAt}
use Rattle.com_read_operands.specs.declared.faults.Fault.{Fault}
use Rattle.com_read_operands.specs.Reading.{◌>>=◌, fault_at, first_at, end_at}
use Rattle.com_read_statements.specs.declared.calls.MethodNumber.{MethodNumber}
use Rattle.com_read_statements.specs.declared.keywords.Program.{Program}
use Rattle.com_read_statements.specs.declared.keywords.Program.TheVariants as programs
use Rattle.com_read_statements.specs.declared.keywords.Keyword.{Keyword}
use Rattle.com_read_statements.specs.declared.names.Names.{Names}
use Rattle.com_read_statements.specs.Keywords.{keyword_of}
use Rattle.com_read_statements.specs.Statements.{stmt_of}
use Rattle.com_read_sections.specs.declared.state.State.{State}
use Rattle.com_read_sections.specs.declared.state.Section.TheVariants as sections
use Rattle.com_read_lines.specs.Codes.{CodeAt, code_more, checked}
use Rattle.com_read_lines.specs.Programs.{spot_at, allowed, stated, program_line}
use Rattle.com_read_sections.specs.Opened.{step, program_of, with_body, inner_body, body_ended, inner_thread, thread_ended}
use Rattle.com_print.specs.Spelled.{Spelled, plain, spelled_of}
use Rattle.com_print.specs.Ranges.{Fits}
use Rattle.com_print.proofs.Places.{end_again}
use Rattle.com_print.specs.Reads.{Reads}
use Rattle.com_print.specs.Standing.{Stands, AreDeclared}
use Rattle.com_print.specs.StatementWords.{statement_words}
use Rattle.com_print.proofs.Firsts.{Written}
use Rattle.com_print.proofs.Whole.{statement_reads}
use Rattle.com_print_scenario.specs.Printed.{end_words}
use Rattle.com_print_scenario.proofs.Places.{at_of, first_word}
use Rattle.com_print_scenario.proofs.Following.{differs}
use Rattle.com_print_scenario.proofs.Tops.{first_of, room_of}
use Rattle.com_print_scenario.proofs.Runs.{step_in}

-- a statement that stands in a program is written and read
pub record CanRead (p : Program) (names : Names) (s : Stmt) : Type 0 where
  pub range : IsInRange s
  pub stands : Stands p names s
  pub fits : Fits s

-- each statement's first word is no literal
pub record Begins (words : List Spelled) : Type 0 where
  pub word : List ℕ
  pub rest : List Spelled
  pub is : words ≡ plain word ∷ rest

begins : (names : Names) (s : Stmt) → Begins (statement_words names s)
begins names (stmts.Set to from) = record { word = codes "set"; rest = _; is = refl }
begins names (stmts.Add to from) = record { word = codes "add"; rest = _; is = refl }
begins names (stmts.Sub to from) = record { word = codes "sub"; rest = _; is = refl }
begins names (stmts.Less to left right) = record { word = codes "less"; rest = _; is = refl }
begins names (stmts.Same to left right) = record { word = codes "same"; rest = _; is = refl }
begins names (stmts.Load to cell) = record { word = codes "load"; rest = _; is = refl }
begins names (stmts.Store cell from) = record { word = codes "store"; rest = _; is = refl }
begins names (stmts.Skip count) = record { word = codes "skip"; rest = _; is = refl }
begins names (stmts.SkipZero register count) = record { word = codes "skipz"; rest = _; is = refl }
begins names (stmts.Create slot class iface) = record { word = codes "create"; rest = _; is = refl }
begins names (stmts.Query to from iface) = record { word = codes "query"; rest = _; is = refl }
begins names (stmts.Copy to from) = record { word = codes "copy"; rest = _; is = refl }
begins names (stmts.Release from) = record { word = codes "release"; rest = _; is = refl }
begins names (stmts.Call slot iface method given to) = record { word = codes "call"; rest = _; is = refl }
begins names (stmts.Marshal buffer slot mode) = record { word = codes "marshal"; rest = _; is = refl }
begins names (stmts.Unmarshal slot buffer) = record { word = codes "unmarshal"; rest = _; is = refl }
begins names (stmts.Drop buffer) = record { word = codes "drop"; rest = _; is = refl }
begins names (stmts.Raw buffer bytes) = record { word = codes "raw"; rest = _; is = refl }
begins names (stmts.Register to slot) = record { word = codes "register"; rest = _; is = refl }
begins names (stmts.Get slot cookie) = record { word = codes "get"; rest = _; is = refl }
begins names (stmts.Revoke cookie) = record { word = codes "revoke"; rest = _; is = refl }
begins names (stmts.Disconnect slot) = record { word = codes "disconnect"; rest = _; is = refl }
begins names (stmts.Post lane word) = record { word = codes "post"; rest = _; is = refl }
begins names (stmts.Quit lane) = record { word = codes "quit"; rest = _; is = refl }
begins names (stmts.Leave answer given) = record { word = codes "leave"; rest = _; is = refl }
begins names (stmts.Init mode) = record { word = codes "init"; rest = _; is = refl }
begins names stmts.Uninit = record { word = codes "uninit"; rest = _; is = refl }
begins names (stmts.SetFilter filter) = record { word = codes "setfilter"; rest = _; is = refl }
begins names (stmts.Pump bound) = record { word = codes "pump"; rest = _; is = refl }

-- a line that begins with a word
pub record Opens (line : List WordAt) : Type 0 where
  pub word : WordAt
  pub rest : List WordAt
  pub is : line ≡ word ∷ rest
  pub first : first_at line ≡ Ok word

opens : (line : List WordAt) (bs : List ℕ) (rest : List Spelled) → map spelled_of line ≡ plain bs ∷ rest → Opens line
opens [] bs rest e = absurd cc
opens (w ∷ ws) bs rest e =
    let s = first_of (w ∷ ws) bs rest e in
    let same : s.word ≡ w = (let h = s.there in cc) in
    record { word = w; rest = ws; is = refl; first = first_word (w ∷ ws) (plain bs) s tt ∙ ap Ok same }

no_end : (bs : List ℕ) (k : Keyword) → keyword_of bs ≡ Some k → bytes_eq bs (codes "end") ≡ false
unfolding keyword_of
no_end bs k h = differs (λ x. is_some (keyword_of x)) bs (codes "end") (ap is_some h) refl

-- a statement's line where there is room for one more
statement_again : (p : Program) (limit : ℕ) (names : Names) (code : CodeAt) (s : Stmt) (w : WordAt) (ws : List WordAt) → Reads p names s w ws
    → length code.statements < limit → (f : Fault) × (program_line p limit names code w (w ∷ ws) ≡ Ok (code_more code s f))
unfolding program_line
statement_again p limit names code s w ws r room =
    let k = r.keyword in
    let line : List WordAt = w ∷ ws in (
      spot_at k line,
      ap (allowed p limit names code w line) r.begins
          ∙ ap (λ (b : Bool). if b then stated p limit names code w line k else Err (fault_at 3 w)) r.taken
          ∙ ap (λ (b : Bool). if b then Err (fault_at 12 w) else (stmt_of p names k line >>= λ x. Ok (code_more code x (spot_at k line)))) (room_of limit (length code.statements) room)
          ∙ ap (λ (x : Result Stmt Fault). x >>= λ y. Ok (code_more code y (spot_at k line))) r.read,
    )

-- ---- bodies

abbrev pub in_body : State → Class → MethodNumber → CodeAt → State
in_body st c head code = record st { section = sections.Body c head code }

abbrev pub body_read : State → Class → MethodNumber → List Stmt → State
body_read st c head body = record st { section = sections.Class (with_body c head body) }

abbrev by_end : State → CodeAt → Program → ℕ → List WordAt → WordAt → Bool → (List WordAt → Result State Fault) → (CodeAt → State) → Result State Fault
by_end st code p limit line w b ended next = if b then ended line else (program_line p limit st.names code w line >>= λ c. Ok (next c))

pub body_statement : (st : State) (c : Class) (head : MethodNumber) (names : Names) (code : CodeAt) (s : Stmt) (line : List WordAt) → AreDeclared st.names → CanRead (program_of c.model) st.names s
    → length code.statements < 200 → statement_words names s ≡ statement_words st.names s → map spelled_of line ≡ statement_words names s
    → (f : Fault) × (step (in_body st c head code) line ≡ Ok (in_body st c head (code_more code s f)))
unfolding inner_body
body_statement st c head names code s line are can room same e =
    let b = begins st.names s in
    let words : map spelled_of line ≡ plain b.word ∷ b.rest = e ∙ same ∙ b.is in
    let l = opens line b.word b.rest words in
    let written : Written (program_of c.model) st.names s l.word l.rest =
    record { words = ap (map spelled_of) (sym l.is) ∙ e ∙ same; range = can.range; stands = can.stands; fits = can.fits } in
    let reads = statement_reads (program_of c.model) st.names s l.word l.rest are written in
    let r = statement_again (program_of c.model) 200 st.names code s l.word l.rest reads room in
    let p = program_of c.model in
    let t = in_body st c head code in (
      r.0,
      step_in t line (plain b.word) b.rest words
          ∙ ap (λ (x : Result WordAt Fault). x >>= λ w. by_end st code p 200 line w (bytes_eq w.bytes (codes "end")) (body_ended t c head code) (in_body st c head)) l.first
          ∙ ap (λ (x : Bool). by_end st code p 200 line l.word x (body_ended t c head code) (in_body st c head)) (no_end l.word.bytes reads.keyword reads.begins)
          ∙ ap (λ (x : List WordAt). program_line p 200 st.names code l.word x >>= λ more. Ok (in_body st c head more)) l.is
          ∙ ap (λ (x : Result CodeAt Fault). x >>= λ more. Ok (in_body st c head more)) r.1,
    )

pub body_end : (st : State) (c : Class) (head : MethodNumber) (code : CodeAt) (line : List WordAt) → checked code 200 ≡ Ok code.statements → map spelled_of line ≡ end_words
    → step (in_body st c head code) line ≡ Ok (body_read st c head code.statements)
unfolding inner_body
body_end st c head code line good e =
    let s = first_of line (codes "end") [] e in
    let t = in_body st c head code in
    step_in t line (plain (codes "end")) [] e
    ∙ ap (λ (x : Result WordAt Fault). x >>= λ w. by_end st code (program_of c.model) 200 line w (bytes_eq w.bytes (codes "end")) (body_ended t c head code) (in_body st c head)) (first_word line (plain (codes "end")) s tt)
    ∙ ap (λ (x : List ℕ). by_end st code (program_of c.model) 200 line s.word (bytes_eq x (codes "end")) (body_ended t c head code) (in_body st c head)) s.bytes
    ∙ ap (λ (x : Result (List Stmt) Fault). x >>= λ body. end_at line 1 >>= λ done. Ok (body_read st c head body)) good
    ∙ ap (λ (x : Result (Unit {0}) Fault). x >>= λ done. Ok (body_read st c head code.statements)) (end_again line 1 (at_of line _ 1 e))

-- ---- scripts

abbrev pub in_thread : State → CodeAt → State
in_thread st code = record st { section = sections.Thread code }

abbrev pub thread_read : State → List Stmt → State
thread_read st body = record st { threads = st.threads ++ body ∷ []; section = sections.Top }

pub thread_statement : (st : State) (code : CodeAt) (s : Stmt) (line : List WordAt) → AreDeclared st.names → CanRead programs.Script st.names s
    → length code.statements < 2000 → map spelled_of line ≡ statement_words st.names s
    → (f : Fault) × (step (in_thread st code) line ≡ Ok (in_thread st (code_more code s f)))
unfolding inner_thread
thread_statement st code s line are can room e =
    let b = begins st.names s in
    let words : map spelled_of line ≡ plain b.word ∷ b.rest = e ∙ b.is in
    let l = opens line b.word b.rest words in
    let written : Written programs.Script st.names s l.word l.rest =
    record { words = ap (map spelled_of) (sym l.is) ∙ e; range = can.range; stands = can.stands; fits = can.fits } in
    let reads = statement_reads programs.Script st.names s l.word l.rest are written in
    let r = statement_again programs.Script 2000 st.names code s l.word l.rest reads room in
    let t = in_thread st code in (
      r.0,
      step_in t line (plain b.word) b.rest words
          ∙ ap (λ (x : Result WordAt Fault). x >>= λ w. by_end st code programs.Script 2000 line w (bytes_eq w.bytes (codes "end")) (thread_ended t code) (in_thread st)) l.first
          ∙ ap (λ (x : Bool). by_end st code programs.Script 2000 line l.word x (thread_ended t code) (in_thread st)) (no_end l.word.bytes reads.keyword reads.begins)
          ∙ ap (λ (x : List WordAt). program_line programs.Script 2000 st.names code l.word x >>= λ c. Ok (in_thread st c)) l.is
          ∙ ap (λ (x : Result CodeAt Fault). x >>= λ c. Ok (in_thread st c)) r.1,
    )

pub thread_end : (st : State) (code : CodeAt) (line : List WordAt) → checked code 2000 ≡ Ok code.statements → map spelled_of line ≡ end_words
    → step (in_thread st code) line ≡ Ok (thread_read st code.statements)
unfolding inner_thread
thread_end st code line good e =
    let s = first_of line (codes "end") [] e in
    let t = in_thread st code in
    step_in t line (plain (codes "end")) [] e
    ∙ ap (λ (x : Result WordAt Fault). x >>= λ w. by_end st code programs.Script 2000 line w (bytes_eq w.bytes (codes "end")) (thread_ended t code) (in_thread st)) (first_word line (plain (codes "end")) s tt)
    ∙ ap (λ (x : List ℕ). by_end st code programs.Script 2000 line s.word (bytes_eq x (codes "end")) (thread_ended t code) (in_thread st)) s.bytes
    ∙ ap (λ (x : Result (List Stmt) Fault). x >>= λ body. end_at line 1 >>= λ done. Ok (thread_read st body)) good
    ∙ ap (λ (x : Result (Unit {0}) Fault). x >>= λ done. Ok (thread_read st code.statements)) (end_again line 1 (at_of line _ 1 e))
