-- A line either goes on with the section that is open, or turns to the next.
use Rattle.std.proofs.Common.{◌≡◌, List, [], ◌∷◌, Option, Bool, true, false, Result, Ok, Err, if◌then◌else◌, refl, sym, ap, codes, bytes_eq}
use Rattle.com_text.specs.declared.word.Sort.{Sort}
use Rattle.com_text.specs.declared.word.Sort.TheVariants as sorts
use Rattle.com_text.specs.Words.{WordAt}
use Rattle.com_read_operands.specs.declared.faults.Fault.{Fault}
use Rattle.com_read_operands.specs.Reading.{◌>>=◌, first_at}
use Rattle.com_read_statements.specs.declared.keywords.Program.TheVariants as programs
use Rattle.com_read_sections.specs.declared.state.State.{State}
use Rattle.com_read_sections.specs.declared.state.Section.{Section}
use Rattle.com_read_sections.specs.declared.state.Section.TheVariants as sections
use Rattle.com_read_lines.specs.Rules.{rule_word_of}
use Rattle.com_read_sections.specs.Header.{lone, header_line}
use Rattle.com_read_sections.specs.Beginning.{top_line}
use Rattle.com_read_lines.specs.Programs.{program_line}
use Rattle.com_read_sections.specs.Opened.{method_line, inner_interface, inner_class, body_head, program_of, inner_body, inner_thread, ruled, inner_filter, by_section}
use Rattle.com_read_sections.specs.Going.{more_methods, more_statements, more_rules, goes_on, turns, outside, gone_on, lined}

-- what is open, with whether the line went on with it
abbrev kept : {A : Type 0} → A → Result (A × Bool) Fault
kept a = Ok (a, false)

abbrev grown : {A : Type 0} → Result A Fault → Result (A × Bool) Fault
grown more = more >>= λ a. Ok (a, true)

abbrev put_back : {A : Type 0} → (A → Section) → Result (A × Bool) Fault → Result (Section × Bool) Fault
put_back back r = r >>= λ p. Ok (back p.0, p.1)

-- and what the line makes of what was read so far
abbrev onward : State → List WordAt → Result (Section × Bool) Fault → Result State Fault
onward st line r = r >>= λ p. gone_on st line p.0 p.1

-- one more, by the same test and the same step
more_by : {A : Type 0} (st : State) (line : List WordAt) (back : A → Section) (same : A) (ends : Bool) (more : Result A Fault)
    → onward st line (put_back back (if ends then kept same else grown more))
    ≡ (if ends then turns (outside st) line (back same) else (more >>= λ a. Ok (record st { section = back a })))
more_by st line back same true more = refl
more_by st line back same false (Err e) = refl
more_by st line back same false (Ok a) = refl

more_in : {A : Type 0} (st : State) (line : List WordAt) (back : A → Section) (same : A) (first : Result WordAt Fault) (ends : WordAt → Bool) (more : WordAt → Result A Fault)
    → onward st line (put_back back (first >>= λ w. if ends w then kept same else grown (more w)))
    ≡ (first >>= λ w. if ends w then turns (outside st) line (back same) else (more w >>= λ a. Ok (record st { section = back a })))
more_in st line back same (Err e) ends more = refl
more_in st line back same (Ok w) ends more = more_by st line back same (ends w) (more w)

method_by : {A : Type 0} (st : State) (line : List WordAt) (back : A → Section) (same : A) (is : Bool) (more : Result A Fault)
    → onward st line (put_back back (if is then grown more else kept same))
    ≡ (if is then (more >>= λ a. Ok (record st { section = back a })) else turns (outside st) line (back same))
method_by st line back same false more = refl
method_by st line back same true (Err e) = refl
method_by st line back same true (Ok a) = refl

method_in : {A : Type 0} (st : State) (line : List WordAt) (back : A → Section) (same : A) (first : Result WordAt Fault) (is : WordAt → Bool) (more : WordAt → Result A Fault)
    → onward st line (put_back back (first >>= λ w. if is w then grown (more w) else kept same))
    ≡ (first >>= λ w. if is w then (more w >>= λ a. Ok (record st { section = back a })) else turns (outside st) line (back same))
method_in st line back same (Err e) is more = refl
method_in st line back same (Ok w) is more = method_by st line back same (is w) (more w)

lone_outside : (st : State) (pending : Option Fault) (w : WordAt) (sort : Sort) → lone (outside st) pending w sort ≡ lone st pending w sort
lone_outside st pending w (sorts.Remark c) = refl
lone_outside st pending w sorts.Plain = refl
lone_outside st pending w sorts.Text = refl
lone_outside st pending w sorts.Bytes = refl
lone_outside st pending w sorts.Unclosed = refl
lone_outside st pending w (sorts.Stray c) = refl

lined_by : (st : State) (line : List WordAt) (section : Section) → st.section ≡ section
    → (goes_on st.names line section >>= λ r. gone_on st line r.0 r.1) ≡ by_section st line section
unfolding more_methods more_statements more_rules inner_interface inner_body inner_thread inner_filter header_line inner_class body_head
lined_by st [] (sections.Header pending) e = refl
lined_by st (w ∷ []) (sections.Header pending) e = lone_outside st pending w w.sort
lined_by st (one ∷ two ∷ ws) (sections.Header pending) e = refl
lined_by st line sections.Top e = ap (λ (s : Section). top_line (record st { section = s }) line) (sym e)
lined_by st line (sections.Interface i) e =
    method_in st line (λ x. sections.Interface x) i (first_at line) (λ w. bytes_eq w.bytes (codes "method")) (λ w. method_line st.names.interfaces i w line)
lined_by st line (sections.Class c) e = refl
lined_by st line (sections.Body c head code) e =
    more_in st line (λ x. sections.Body c head x) code (first_at line) (λ w. bytes_eq w.bytes (codes "end")) (λ w. program_line (program_of c.model) 200 st.names code w line)
lined_by st line (sections.Filter rules) e =
    more_in st line (λ x. sections.Filter x) rules (first_at line) (λ w. bytes_eq w.bytes (codes "end")) (λ w. ruled rules w line (rule_word_of w.bytes))
lined_by st line (sections.Thread code) e =
    more_in st line (λ x. sections.Thread x) code (first_at line) (λ w. bytes_eq w.bytes (codes "end")) (λ w. program_line programs.Script 2000 st.names code w line)

pub lined_is : (st : State) (line : List WordAt) → lined st line ≡ by_section st line st.section
unfolding lined
lined_is st line = lined_by st line st.section refl
