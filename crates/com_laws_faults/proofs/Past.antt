-- Once a header is read, no line awaits one again.
use Rattle.std.proofs.Common.{◌≡◌, Bool, true, false, cond, List, [], ◌∷◌, length, drop, Option, Some, None, Result, Ok, Err, refl, sym, ap, subst, ◌∙◌, nat_le}
use Rattle.std.specs.Prelude.{is_some, bytes_eq, codes}
use Rattle.com_classes.specs.declared.interfaces.Interface.{Interface}
use Rattle.com_classes.specs.declared.classes.Class.{Class}
use Rattle.com_filter.specs.declared.Rule.{Rule}
use Rattle.com_text.specs.declared.word.Sort.{Sort}
use Rattle.com_text.specs.declared.word.Sort.TheVariants as sorts
use Rattle.com_text.specs.Words.{WordAt, is_over, is_remark}
use Rattle.com_read_operands.specs.declared.faults.Fault.{Fault}
use Rattle.com_read_operands.specs.Reading.{◌>>=◌, word_at, first_at, end_at, number_at}
use Rattle.com_read_statements.specs.declared.calls.MethodNumber.{MethodNumber}
use Rattle.com_read_statements.specs.declared.keywords.Program.TheVariants as programs
use Rattle.com_read_statements.specs.Calls.{method_at}
use Rattle.com_read_lines.specs.Codes.{CodeAt, checked}
use Rattle.com_read_lines.specs.Declaring.{free_guid_at, free_name_at, interface_name_at, filter_name_at, model_at, native_at, listed_at, picks_on}
use Rattle.com_read_lines.specs.Rules.{rule_word_of}
use Rattle.com_read_lines.specs.Programs.{program_line}
use Rattle.com_read_lines.specs.Header.{version_at}
use Rattle.com_read_sections.specs.declared.begin.SectionWord.{SectionWord}
use Rattle.com_read_sections.specs.declared.begin.SectionWord.TheVariants as begins
use Rattle.com_read_sections.specs.declared.state.State.{State}
use Rattle.com_read_sections.specs.declared.state.Section.{Section}
use Rattle.com_read_sections.specs.declared.state.Section.TheVariants as sections
use Rattle.com_read_sections.specs.Header.{lone, header_line}
use Rattle.com_read_sections.specs.Beginning.{section_word_of, pool_line, interface_line, class_line, native_line, filter_line, thread_line, picks_line, top_by, top_line}
use Rattle.com_read_sections.specs.Opened.{interface_closed, method_line, inner_interface, has_body, body_head, inner_class, program_of, inner_body, inner_thread, ruled, inner_filter, by_section, step}
use Rattle.com_laws_faults.proofs.Sections.{is_header}

-- No header is awaited behind a line.
record Past (r : Result State Fault) : Type 0 where
  pub is : (x : State) → r ≡ Ok x → is_header x.section ≡ false

done : (x : State) → is_header x.section ≡ false → Past (Ok x)
done x h = record { is = λ y e. let f : x ≡ y = cc in subst (λ (z : State). is_header z.section ≡ false) f h }

fails : (f : Fault) → Past (Err f)
fails f = record { is = λ y e. absurd (cc) }

bind : {A : Type 0} (r : Result A Fault) (f : A → Result State Fault) → ((x : A) → Past (f x)) → Past (r >>= f)
bind (Ok x) f h = h x
bind (Err e) f h = fails e

either : (b : Bool) (r s : Result State Fault) → Past r → Past s → Past (cond b r s)
either true r s h k = h
either false r s h k = k

module _ (line : List WordAt) where
  top_by_past : (st : State) (w : WordAt) (o : Option SectionWord) → is_header st.section ≡ false → Past (top_by st line w o)
  unfolding pool_line interface_line class_line native_line filter_line thread_line picks_line
  top_by_past st w None h = fails _
  top_by_past st w (Some begins.Pool) h = either (is_some st.pool) _ _ (fails _) (bind (number_at 1 8 line 1) _ (λ lanes. bind (end_at line 2) _ (λ d. done _ h)))
  top_by_past st w (Some begins.Interface) h = either (nat_le 64 (length st.names.interfaces)) _ _ (fails _)
      (bind (interface_name_at st.names.interfaces line) _ (λ name. bind (free_guid_at st.iids line 2) _ (λ iid. bind (end_at line 3) _ (λ d. done _ refl))))
  top_by_past st w (Some begins.Class) h = either (nat_le 64 (length st.names.classes)) _ _ (fails _)
      (bind (free_name_at st.names.classes line 1) _ (λ name. bind (free_guid_at st.clsids line 2) _ (λ clsid. bind (model_at line 3) _ (λ model. bind (listed_at st.names.interfaces line) _ (λ interfaces. done _ refl)))))
  top_by_past st w (Some begins.Native) h = either (nat_le 64 (length st.names.classes)) _ _ (fails _)
      (bind (free_name_at st.names.classes line 1) _ (λ name. bind (free_guid_at st.clsids line 2) _ (λ clsid. bind (model_at line 3) _ (λ model. bind (native_at model line 4) _ (λ native. bind (end_at line 5) _ (λ d. done _ h))))))
  top_by_past st w (Some begins.Filter) h = either (nat_le 16 (length st.names.filters)) _ _ (fails _) (bind (filter_name_at st.names.filters line) _ (λ name. bind (end_at line 2) _ (λ d. done _ refl)))
  top_by_past st w (Some begins.Thread) h = either (nat_le 16 (length st.threads)) _ _ (fails _) (bind (end_at line 1) _ (λ d. done _ refl))
  top_by_past st w (Some begins.Picks) h = bind (picks_on [] line 1 (drop 1 line)) _ (λ more. done _ h)

  top_past : (st : State) → is_header st.section ≡ false → Past (top_line st line)
  unfolding top_line
  top_past st h = bind (first_at line) _ (λ w. top_by_past st w (section_word_of w.bytes) h)

  interface_past : (st : State) (i : Interface) → Past (inner_interface st i line)
  unfolding inner_interface
  interface_past st i = bind (first_at line) _ (λ w. either (bytes_eq w.bytes (codes "method")) _ _ (bind (method_line st.names.interfaces i w line) _ (λ more. done _ refl)) (top_past (interface_closed st i) refl))

  class_past : (st : State) (c : Class) → Past (inner_class st c line)
  unfolding inner_class body_head
  class_past st c = bind (first_at line) _ (λ w. either (bytes_eq w.bytes (codes "body")) _ _
      (bind (method_at st.names line 1) _ (λ head. either (has_body c.bodies head) _ _ (bind (word_at line 1) _ (λ v. fails _)) (bind (end_at line 2) _ (λ d. done _ refl))))
      (either (bytes_eq w.bytes (codes "end")) _ _ (bind (end_at line 1) _ (λ d. done _ refl)) (fails _)))

  body_past : (st : State) (c : Class) (head : MethodNumber) (code : CodeAt) → Past (inner_body st c head code line)
  unfolding inner_body
  body_past st c head code = bind (first_at line) _ (λ w. either (bytes_eq w.bytes (codes "end")) _ _
      (bind (checked code 200) _ (λ body. bind (end_at line 1) _ (λ d. done _ refl)))
      (bind (program_line (program_of c.model) 200 st.names code w line) _ (λ more. done _ refl)))

  thread_past : (st : State) (code : CodeAt) → Past (inner_thread st code line)
  unfolding inner_thread
  thread_past st code = bind (first_at line) _ (λ w. either (bytes_eq w.bytes (codes "end")) _ _
      (bind (checked code 2000) _ (λ body. bind (end_at line 1) _ (λ d. done _ refl)))
      (bind (program_line programs.Script 2000 st.names code w line) _ (λ more. done _ refl)))

  filter_past : (st : State) (rules : List Rule) → Past (inner_filter st rules line)
  unfolding inner_filter
  filter_past st rules = bind (first_at line) _ (λ w. either (bytes_eq w.bytes (codes "end")) _ _
      (bind (end_at line 1) _ (λ d. done _ refl))
      (bind (ruled rules w line (rule_word_of w.bytes)) _ (λ more. done _ refl)))

-- A line behind which a header is awaited has no word, and one was awaited before it.
pub record Awaits (section : Section) (line : List WordAt) (r : Result State Fault) : Type 0 where
  pub is : (x : State) → r ≡ Ok x → is_header x.section ≡ true → (is_header section ≡ true) × (is_over line ≡ true)

never : (section : Section) (line : List WordAt) (r : Result State Fault) → Past r → Awaits section line r
never section line r h = record { is = λ x e t. absurd (let f : is_header x.section ≡ false = h.is x e in let g : true ≡ false = sym t ∙ f in cc) }

lone_awaits : (st : State) (pending : Option Fault) (w : WordAt) (sort : Sort) → w.sort ≡ sort → Awaits (sections.Header pending) (w ∷ []) (lone st pending w sort)
lone_awaits st pending w (sorts.Remark c) e = record { is = λ x f t. (refl, ap is_remark e) }
lone_awaits st pending w sorts.Plain e = never _ _ _ (fails _)
lone_awaits st pending w sorts.Text e = never _ _ _ (fails _)
lone_awaits st pending w sorts.Bytes e = never _ _ _ (fails _)
lone_awaits st pending w sorts.Unclosed e = never _ _ _ (fails _)
lone_awaits st pending w (sorts.Stray c) e = never _ _ _ (fails _)

header_awaits : (st : State) (pending : Option Fault) (line : List WordAt) → Awaits (sections.Header pending) line (header_line st pending line)
unfolding header_line
header_awaits st pending [] = record { is = λ x e t. (refl, refl) }
header_awaits st pending (w ∷ []) = lone_awaits st pending w w.sort refl
header_awaits st pending (one ∷ two ∷ ws) = never _ _ _ (bind (version_at pending (one ∷ two ∷ ws) one two) _ (λ v. done _ refl))

section_awaits : (st : State) (line : List WordAt) (section : Section) → st.section ≡ section → Awaits section line (by_section st line section)
section_awaits st line (sections.Header pending) e = header_awaits st pending line
section_awaits st line sections.Top e = never _ _ _ (top_past line st (ap is_header e))
section_awaits st line (sections.Interface i) e = never _ _ _ (interface_past line st i)
section_awaits st line (sections.Class c) e = never _ _ _ (class_past line st c)
section_awaits st line (sections.Body c head code) e = never _ _ _ (body_past line st c head code)
section_awaits st line (sections.Filter rules) e = never _ _ _ (filter_past line st rules)
section_awaits st line (sections.Thread code) e = never _ _ _ (thread_past line st code)

pub line_awaits : (st : State) (line : List WordAt) → Awaits st.section line (step st line)
unfolding step
line_awaits st [] = record { is = λ x e t. (let f : st ≡ x = cc in subst (λ (y : State). is_header y.section ≡ true) (sym f) t, refl) }
line_awaits st (w ∷ ws) = section_awaits st (w ∷ ws) st.section refl
