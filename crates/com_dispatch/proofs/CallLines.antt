-- An `invoke` and the table call that it stands for make the same of a script or a body.
use Rattle.std.proofs.Common.{◌≡◌, ℕ, Bool, true, false, List, ◌∷◌, length, nat_le, Result, Ok, Err, refl, sym, ap, ◌∙◌, subst, if◌then◌else◌, codes}
use Rattle.std.specs.Prelude.{bytes_eq}
use Rattle.com_body.specs.declared.statements.Stmt.{Stmt}
use Rattle.com_classes.specs.declared.classes.Class.{Class}
use Rattle.com_dispatch.specs.declared.invoke.Invocation.{Invocation}
use Rattle.com_dispatch.specs.Invoking.{invocation_at}
use Rattle.com_dispatch.specs.Standing.{outcome_of, statement_of}
use Rattle.com_text.specs.declared.word.Sort.TheVariants as sorts
use Rattle.com_text.specs.Words.{WordAt}
use Rattle.com_read_operands.specs.declared.faults.Fault.{Fault}
use Rattle.com_read_operands.specs.Reading.{◌>>=◌, fault_at, opening, first_at}
use Rattle.com_read_statements.specs.declared.calls.MethodNumber.{MethodNumber}
use Rattle.com_read_statements.specs.declared.keywords.Program.{Program}
use Rattle.com_read_statements.specs.declared.keywords.Program.TheVariants as programs
use Rattle.com_read_statements.specs.declared.names.Names.{Names}
use Rattle.com_read_statements.specs.Calls.{call_at}
use Rattle.com_read_statements.specs.Keywords.{keyword_of}
use Rattle.com_read_statements.specs.Statements.{stmt_of, object_of}
use Rattle.com_read_sections.specs.declared.state.State.{State}
use Rattle.com_read_sections.specs.declared.state.Section.{Section}
use Rattle.com_read_sections.specs.declared.state.Section.TheVariants as sections
use Rattle.com_read_lines.specs.Codes.{CodeAt, code_more}
use Rattle.com_read_lines.specs.Programs.{allowed, program_line}
use Rattle.com_read_sections.specs.Opened.{program_of, inner_body, inner_thread, body_ended, thread_ended, by_section, step}
use Rattle.com_dispatch.specs.Late.{Reading, bound_more, invoke_line, other_line, in_section, is_invoke, late_step, IsSame, takes_invoke}

-- the code with the statement of a call line
call_code : (p : Program) (limit : ℕ) (names : Names) (code : CodeAt) (c : WordAt) (cs : List WordAt) (s : Stmt) → c.bytes ≡ codes "call" → call_at names (c ∷ cs) ≡ Ok s
    → program_line p limit names code c (c ∷ cs) ≡ (if nat_le limit (length code.statements) then Err (fault_at 12 c) else Ok (code_more code s (fault_at 11 c)))
unfolding program_line keyword_of stmt_of object_of
call_code p limit names code c cs s e is =
    ap (λ (bytes : List ℕ). allowed p limit names code c (c ∷ cs) (keyword_of bytes)) e
    ∙ ap (λ (r : Result Stmt Fault). if nat_le limit (length code.statements) then Err (fault_at 12 c) else (r >>= λ x. Ok (code_more code x (fault_at 11 c)))) is

first_plain : (c : WordAt) (cs : List WordAt) → c.sort ≡ sorts.Plain → first_at (c ∷ cs) ≡ Ok c
unfolding first_at
first_plain c cs h = ap (opening c) h

-- what a call line makes of the section that is open
abbrev with_code : State → (CodeAt → Section) → ℕ → CodeAt → Stmt → WordAt → Result State Fault
with_code st back limit code s c =
    (if nat_le limit (length code.statements) then Err (fault_at 12 c) else Ok (code_more code s (fault_at 11 c))) >>= λ more. Ok (record st { section = back more })

abbrev in_body : Class → MethodNumber → CodeAt → Section
in_body k head code = sections.Body k head code

abbrev in_thread : CodeAt → Section
in_thread code = sections.Thread code

body_line : (st : State) (k : Class) (head : MethodNumber) (code : CodeAt) (c : WordAt) (cs : List WordAt) (s : Stmt) → c.sort ≡ sorts.Plain → c.bytes ≡ codes "call" → call_at st.names (c ∷ cs) ≡ Ok s
    → inner_body st k head code (c ∷ cs) ≡ with_code st (in_body k head) 200 code s c
unfolding inner_body
body_line st k head code c cs s h e is =
    ap (λ (r : Result WordAt Fault). r >>= λ w. (if bytes_eq w.bytes (codes "end") then body_ended st k head code (c ∷ cs) else (program_line (program_of k.model) 200 st.names code w (c ∷ cs) >>= λ more. Ok (record st { section = in_body k head more })))) (first_plain c cs h)
    ∙ ap (λ (x : List ℕ). if bytes_eq x (codes "end") then body_ended st k head code (c ∷ cs) else (program_line (program_of k.model) 200 st.names code c (c ∷ cs) >>= λ more. Ok (record st { section = in_body k head more }))) e
    ∙ ap (λ (r : Result CodeAt Fault). r >>= λ more. Ok (record st { section = in_body k head more })) (call_code (program_of k.model) 200 st.names code c cs s e is)

thread_line : (st : State) (code : CodeAt) (c : WordAt) (cs : List WordAt) (s : Stmt) → c.sort ≡ sorts.Plain → c.bytes ≡ codes "call" → call_at st.names (c ∷ cs) ≡ Ok s
    → inner_thread st code (c ∷ cs) ≡ with_code st in_thread 2000 code s c
unfolding inner_thread
thread_line st code c cs s h e is =
    ap (λ (r : Result WordAt Fault). r >>= λ w. (if bytes_eq w.bytes (codes "end") then thread_ended st code (c ∷ cs) else (program_line programs.Script 2000 st.names code w (c ∷ cs) >>= λ more. Ok (record st { section = in_thread more })))) (first_plain c cs h)
    ∙ ap (λ (x : List ℕ). if bytes_eq x (codes "end") then thread_ended st code (c ∷ cs) else (program_line programs.Script 2000 st.names code c (c ∷ cs) >>= λ more. Ok (record st { section = in_thread more }))) e
    ∙ ap (λ (r : Result CodeAt Fault). r >>= λ more. Ok (record st { section = in_thread more })) (call_code programs.Script 2000 st.names code c cs s e is)

-- what a call line makes of what was read, and what an `invoke` makes of it
abbrev read_on : Reading → Result State Fault → Result Reading Fault
read_on r o = o >>= λ next. Ok (record { state = next; bindings = r.bindings })

call_line : (r : Reading) (c : WordAt) (cs : List WordAt) → c.bytes ≡ codes "call" → late_step r (c ∷ cs) ≡ read_on r (by_section r.state (c ∷ cs) r.state.section)
unfolding late_step step
call_line r c cs e = ap (λ (x : List ℕ). if bytes_eq x (codes "invoke") then in_section r c (c ∷ cs) r.state.section else other_line r (c ∷ cs)) e

invoke_made : (r : Reading) (w : WordAt) (ws : List WordAt) → is_invoke w ≡ true → late_step r (w ∷ ws) ≡ in_section r w (w ∷ ws) r.state.section
unfolding late_step
invoke_made r w ws h = ap (λ (b : Bool). if b then in_section r w (w ∷ ws) r.state.section else other_line r (w ∷ ws)) h

-- an `invoke` where there may be no room
abbrev invoked_in : Reading → (CodeAt → Section) → CodeAt → WordAt → Bool → Result Invocation Fault → Result Reading Fault
invoked_in r back code w full x =
    (if full then Err (fault_at 12 w) else (x >>= λ i. Ok (bound_more (record { code = code; bindings = r.bindings }) i (outcome_of r.state.names.tables i) (fault_at 11 w))))
    >>= λ more. Ok (record { state = record (r.state) { section = back more.code }; bindings = more.bindings })

-- the call line where there may be no room
abbrev called_in : Reading → (CodeAt → Section) → CodeAt → Invocation → WordAt → Bool → Result Reading Fault
called_in r back code i c full =
    read_on r ((if full then Err (fault_at 12 c) else Ok (code_more code (statement_of i (outcome_of r.state.names.tables i)) (fault_at 11 c))) >>= λ more. Ok (record (r.state) { section = back more }))

same_body : (r : Reading) (k : Class) (head : MethodNumber) (code : CodeAt) (i : Invocation) (w c : WordAt) (full : Bool)
    → IsSame (invoked_in r (in_body k head) code w full (Ok i)) (called_in r (in_body k head) code i c full)
same_body r k head code i w c true = refl
same_body r k head code i w c false = refl

same_thread : (r : Reading) (code : CodeAt) (i : Invocation) (w c : WordAt) (full : Bool) → IsSame (invoked_in r in_thread code w full (Ok i)) (called_in r in_thread code i c full)
same_thread r code i w c true = refl
same_thread r code i w c false = refl

-- the same at the section that is open
same_in : (r : Reading) (section : Section) (w : WordAt) (ws : List WordAt) (c : WordAt) (cs : List WordAt) (i : Invocation) → takes_invoke section ≡ true
    → invocation_at r.state.names.interfaces (w ∷ ws) ≡ Ok i
    → c.sort ≡ sorts.Plain → c.bytes ≡ codes "call" → call_at r.state.names (c ∷ cs) ≡ Ok (statement_of i (outcome_of r.state.names.tables i))
    → IsSame (in_section r w (w ∷ ws) section) (read_on r (by_section r.state (c ∷ cs) section))
unfolding invoke_line
same_in r (sections.Header pending) w ws c cs i t is plain e call = absurd cc
same_in r sections.Top w ws c cs i t is plain e call = absurd cc
same_in r (sections.Interface k) w ws c cs i t is plain e call = absurd cc
same_in r (sections.Class k) w ws c cs i t is plain e call = absurd cc
same_in r (sections.Body k head code) w ws c cs i t is plain e call =
    let full = nat_le 200 (length code.statements) in
    subst (λ (x : Result Invocation Fault). IsSame (invoked_in r (in_body k head) code w full x) (read_on r (inner_body r.state k head code (c ∷ cs)))) (sym is)
    (subst (λ (x : Result State Fault). IsSame (invoked_in r (in_body k head) code w full (Ok i)) (read_on r x)) (sym (body_line r.state k head code c cs (statement_of i (outcome_of r.state.names.tables i)) plain e call))
    (same_body r k head code i w c full))
same_in r (sections.Filter rules) w ws c cs i t is plain e call = absurd cc
same_in r (sections.Thread code) w ws c cs i t is plain e call =
    let full = nat_le 2000 (length code.statements) in
    subst (λ (x : Result Invocation Fault). IsSame (invoked_in r in_thread code w full x) (read_on r (inner_thread r.state code (c ∷ cs)))) (sym is)
    (subst (λ (x : Result State Fault). IsSame (invoked_in r in_thread code w full (Ok i)) (read_on r x)) (sym (thread_line r.state code c cs (statement_of i (outcome_of r.state.names.tables i)) plain e call))
    (same_thread r code i w c full))

pub same_lines : (r : Reading) (w : WordAt) (ws : List WordAt) (c : WordAt) (cs : List WordAt) (i : Invocation) → takes_invoke r.state.section ≡ true
    → is_invoke w ≡ true → invocation_at r.state.names.interfaces (w ∷ ws) ≡ Ok i
    → c.sort ≡ sorts.Plain → c.bytes ≡ codes "call" → call_at r.state.names (c ∷ cs) ≡ Ok (statement_of i (outcome_of r.state.names.tables i))
    → IsSame (late_step r (w ∷ ws)) (late_step r (c ∷ cs))
same_lines r w ws c cs i t h is plain e call =
    subst (λ (x : Result Reading Fault). IsSame x (late_step r (c ∷ cs))) (sym (invoke_made r w ws h))
    (subst (λ (x : Result Reading Fault). IsSame (in_section r w (w ∷ ws) r.state.section) x) (sym (call_line r c cs e))
    (same_in r r.state.section w ws c cs i t is plain e call))
