-- Reading written lines one after another.
use Rattle.std.proofs.Common.{◌≡◌, ℕ, ◌≤◌, ◌<◌, List, [], ◌∷◌, ◌++◌, map, Option, Some, None, Bool, true, false, nat_lt, if◌then◌else◌, refl, sym, ap, ◌∙◌, subst, arith, length, length-append, Result, Ok, All, append_assoc}
use Rattle.std.proofs.lemmas.List.{append-nil}
use Rattle.std.proofs.lemmas.Bool.Decides.{nat_tests}
use Rattle.std.proofs.lemmas.List.Elements.{All-head, All-tail}
use Rattle.com_body.specs.declared.statements.Stmt.{Stmt}
use Rattle.com_body.specs.declared.body.BodyFault.{BodyFault}
use Rattle.com_body.specs.Bodies.{fault_of}
use Rattle.com_text.specs.Words.{WordAt, LineAt}
use Rattle.com_read_operands.specs.declared.faults.Fault.{Fault}
use Rattle.com_read_operands.specs.Reading.{◌>>=◌}
use Rattle.com_read_sections.specs.declared.outline.Outline.{Outline}
use Rattle.com_read_sections.specs.declared.state.State.{State}
use Rattle.com_read_lines.specs.Codes.{CodeAt, code_more, checked, checked_by}
use Rattle.com_read_sections.specs.Opened.{by_section, step}
use Rattle.com_read_sections.specs.Outlines.{finish, read}
use Rattle.com_read_statements.specs.declared.names.Names.{Names}
use Rattle.com_print.specs.Spelled.{Spelled, spelled_of, Shown}
use Rattle.com_print.specs.StatementWords.{statement_words}
use Rattle.com_print_scenario.specs.Printed.{end_words, program_lines}

-- However the lines stand, reading them from this state gives the outline.
abbrev pub Gets : State → List (List Spelled) → Outline → Type 0
Gets st ls o = (xs : List LineAt) → Shown ls xs → read st xs ≡ Ok o

abbrev pub behind : LineAt → List LineAt → Result State Fault → Result Outline Fault
behind x xs r = r >>= λ next. (if x.last then finish next x.line x.column else read next xs)

abbrev pub by_last : State → LineAt → List LineAt → Bool → Result Outline Fault
by_last next x xs b = if b then finish next x.line x.column else read next xs

-- a line, and those behind it
pub line_then : (st next : State) (l : List Spelled) (ls : List (List Spelled)) (o : Outline)
    → ((line : List WordAt) → map spelled_of line ≡ l → step st line ≡ Ok next) → Gets next ls o → Gets st (l ∷ ls) o
unfolding read
line_then st next l ls o one more [] h = absurd h
line_then st next l ls o one more (x ∷ xs) h =
    ap (behind x xs) (one x.words h.1) ∙ ap (by_last next x xs) h.0 ∙ more xs h.2

-- a line after which the state has a fault's place that depends on where the line stands
pub spot_then : (st : State) (next : Fault → State) (l : List Spelled) (ls : List (List Spelled)) (o : Outline)
    → ((line : List WordAt) → map spelled_of line ≡ l → (f : Fault) × (step st line ≡ Ok (next f))) → ((f : Fault) → Gets (next f) ls o) → Gets st (l ∷ ls) o
unfolding read
spot_then st next l ls o one more [] h = absurd h
spot_then st next l ls o one more (x ∷ xs) h =
    let r = one x.words h.1 in
    ap (behind x xs) r.1 ∙ ap (by_last (next r.0) x xs) h.0 ∙ more r.0 xs h.2

pub no_words : (st : State) (line : List WordAt) → map spelled_of line ≡ [] → step st line ≡ Ok st
unfolding step
no_words st [] e = refl
no_words st (w ∷ ws) e = absurd cc

-- the text's end
pub ends : (st : State) (o : Outline) → ((line column : ℕ) → finish st line column ≡ Ok o) → Gets st [] o
unfolding read
ends st o all [] h = absurd h
ends st o all (x ∷ xs) h =
    ap (behind x xs) (no_words st x.words h.1) ∙ ap (by_last st x xs) h.0 ∙ all x.line x.column

-- a line with words
pub step_in : (st : State) (line : List WordAt) (s : Spelled) (rest : List Spelled) → map spelled_of line ≡ s ∷ rest → step st line ≡ by_section st line st.section
unfolding step
step_in st [] s rest e = absurd cc
step_in st (w ∷ ws) s rest e = refl

-- ---- statements up to their end

too_long : (b : Bool) (more : Option BodyFault) (f : BodyFault) → (if b then Some f else more) ≡ None → b ≡ false
too_long true more f h = absurd cc
too_long false more f h = refl

within_limit : (xs : List Stmt) (limit : ℕ) → fault_of xs limit ≡ None → length xs ≤ limit
within_limit xs limit h = let t = too_long (nat_lt limit (length xs)) _ _ h in grind (arith, nat_tests)

-- Statements, and the line that ends them. The state behind a statement has a fault's place that depends on where the line
-- stands; behind the end it has none.
pub program_on : (opened : CodeAt → State) (final : List Stmt → State) (limit : ℕ) (names : Names) (CanRead : Stmt → Type 0)
    → ((c : CodeAt) (s : Stmt) (line : List WordAt) → CanRead s → length c.statements < limit → map spelled_of line ≡ statement_words names s
    → (f : Fault) × (step (opened c) line ≡ Ok (opened (code_more c s f))))
    → ((c : CodeAt) (line : List WordAt) → checked c limit ≡ Ok c.statements → map spelled_of line ≡ end_words → step (opened c) line ≡ Ok (final c.statements))
    → (rest : List Stmt) (c : CodeAt) (ls : List (List Spelled)) (o : Outline) → All CanRead rest → fault_of (c.statements ++ rest) limit ≡ None
    → Gets (final (c.statements ++ rest)) ls o → Gets (opened c) (program_lines names rest ++ ls) o
program_on opened final limit names CanRead one stop [] c ls o all whole more =
    let e : c.statements ++ [] ≡ c.statements = append-nil c.statements in
    let good : checked c limit ≡ Ok c.statements = ap (checked_by c) (ap (λ (x : List Stmt). fault_of x limit) (sym e) ∙ whole) in
    line_then (opened c) (final c.statements) end_words ls o (λ line h. stop c line good h)
    (subst (λ (x : List Stmt). Gets (final x) ls o) e more)
program_on opened final limit names CanRead one stop (s ∷ ss) c ls o all whole more =
    let e : c.statements ++ s ∷ ss ≡ (c.statements ++ s ∷ []) ++ ss = sym (append_assoc c.statements (s ∷ []) ss) in
    let short = within_limit (c.statements ++ s ∷ ss) limit whole in
    let room : length c.statements < limit = omega (arith, short, length-append c.statements (s ∷ ss)) in
    spot_then (opened c) (λ f. opened (code_more c s f)) (statement_words names s) (program_lines names ss ++ ls) o
    (λ line h. one c s line (All-head CanRead s ss all) room h)
    (λ f. program_on opened final limit names CanRead one stop ss (code_more c s f) ls o (All-tail CanRead s ss all)
    (ap (λ (x : List Stmt). fault_of x limit) (sym e) ∙ whole)
    (subst (λ (x : List Stmt). Gets (final x) ls o) e more))
