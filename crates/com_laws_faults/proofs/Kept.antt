-- The faults that are kept from line to line are those of skips.
use Rattle.std.proofs.Common.{◌≡◌, Bool, true, false, cond, List, [], ◌∷◌, length, drop, Option, Some, None, Result, Ok, Err, refl, sym, subst, nat_le, ℕ}
use Rattle.std.specs.Prelude.{is_some, bytes_eq, codes}
use Rattle.com_body.specs.declared.statements.Stmt.{Stmt}
use Rattle.com_classes.specs.declared.interfaces.Interface.{Interface}
use Rattle.com_classes.specs.declared.classes.Class.{Class}
use Rattle.com_filter.specs.declared.Rule.{Rule}
use Rattle.com_text.specs.declared.word.Sort.{Sort}
use Rattle.com_text.specs.declared.word.Sort.TheVariants as sorts
use Rattle.com_text.specs.Words.{WordAt}
use Rattle.com_read_operands.specs.declared.faults.Fault.{Fault}
use Rattle.com_read_operands.specs.Reading.{◌>>=◌, word_at, first_at, end_at, number_at}
use Rattle.com_read_statements.specs.declared.calls.MethodNumber.{MethodNumber}
use Rattle.com_read_statements.specs.declared.keywords.Program.TheVariants as programs
use Rattle.com_read_statements.specs.Calls.{method_at}
use Rattle.com_read_lines.specs.Codes.{CodeAt, checked}
use Rattle.com_read_lines.specs.Declaring.{free_guid_at, free_name_at, interface_name_at, filter_name_at, model_at, native_at, listed_at, picks_on}
use Rattle.com_read_lines.specs.Rules.{rule_word_of}
use Rattle.com_read_lines.specs.Programs.{program_line}
use Rattle.com_read_lines.specs.Header.{version_at}
use Rattle.com_read_sections.specs.declared.begin.SectionWord.{SectionWord}
use Rattle.com_read_sections.specs.declared.begin.SectionWord.TheVariants as begins
use Rattle.com_read_sections.specs.declared.state.State.{State}
use Rattle.com_read_sections.specs.declared.state.Section.{Section}
use Rattle.com_read_sections.specs.declared.state.Section.TheVariants as sections
use Rattle.com_read_sections.specs.Header.{lone, header_line}
use Rattle.com_read_sections.specs.Beginning.{section_word_of, pool_line, interface_line, class_line, native_line, filter_line, thread_line, picks_line, top_by, top_line}
use Rattle.com_read_sections.specs.Opened.{interface_closed, method_line, inner_interface, has_body, body_head, inner_class, program_of, inner_body, inner_thread, ruled, inner_filter, by_section, step}
use Rattle.std.specs.Prelude.{slice_get}
use Rattle.std.proofs.lemmas.List.Elements.{All-nil, All-push}
use Rattle.com_read_statements.specs.declared.keywords.Program.{Program}
use Rattle.com_read_statements.specs.declared.keywords.Keyword.{Keyword}
use Rattle.com_read_statements.specs.declared.names.Names.{Names}
use Rattle.com_read_statements.specs.Keywords.{keyword_of, takes}
use Rattle.com_read_statements.specs.Statements.{stmt_of}
use Rattle.com_read_lines.specs.Codes.{code_more}
use Rattle.com_read_lines.specs.Programs.{number_index, skip_fault, spot_at, allowed}
use Rattle.std.proofs.Common.{◌<◌, sym, ◌∙◌, arith, length-append}
use Rattle.std.proofs.lemmas.Bool.{leb-false}
use Rattle.com_read_operands.specs.Numbers.{number_of as digits_number}
use Rattle.com_read_operands.specs.Reading.{needed, within}
use Rattle.com_read_operands.specs.Operands.{register_at}
use Rattle.com_read_statements.specs.declared.keywords.LocalWord.TheVariants as locals
use Rattle.com_read_statements.specs.declared.keywords.Keyword.TheVariants as keywords
use Rattle.com_read_statements.specs.Statements.{local_of}
use Rattle.com_read_lines.specs.Codes.{no_code}
use Rattle.com_laws_faults.proofs.At.{opened_gives}
use Rattle.com_laws_faults.proofs.Open.{IsSpot, IsCode, IsKept}

-- What is kept behind a line is so.
pub record Keeps (r : Result State Fault) : Type 0 where
  pub is : (x : State) → r ≡ Ok x → IsKept x.section

done : (x : State) → IsKept x.section → Keeps (Ok x)
done x h = record { is = λ y e. let f : x ≡ y = cc in subst (λ (z : State). IsKept z.section) f h }

fails : (f : Fault) → Keeps (Err f)
fails f = record { is = λ y e. absurd (cc) }

bind : {A : Type 0} (r : Result A Fault) (f : A → Result State Fault) → ((x : A) → Keeps (f x)) → Keeps (r >>= f)
bind (Ok x) f h = h x
bind (Err e) f h = fails e

bind_of : {A : Type 0} (r : Result A Fault) (f : A → Result State Fault) → ((x : A) → r ≡ Ok x → Keeps (f x)) → Keeps (r >>= f)
bind_of (Ok x) f h = h x refl
bind_of (Err e) f h = fails e

either : (b : Bool) (r s : Result State Fault) → Keeps r → Keeps s → Keeps (cond b r s)
either true r s h k = h
either false r s h k = k

-- ---- skips

-- the statements stay so
record Coded (limit : ℕ) (r : Result CodeAt Fault) : Type 0 where
  pub is : (x : CodeAt) → r ≡ Ok x → IsCode limit x

uncoded : (limit : ℕ) (f : Fault) → Coded limit (Err f)
uncoded limit f = record { is = λ x e. absurd (cc) }

no_statements : (limit : ℕ) → IsCode limit no_code
no_statements limit = record { spots = All-nil IsSpot; each = refl; few = omega arith }

one_more : (limit : ℕ) (code : CodeAt) (s : Stmt) (f : Fault) → IsCode limit code → length code.statements < limit → IsSpot f → IsCode limit (code_more code s f)
one_more limit code s f h l k =
    let each : length code.spots ≡ length code.statements = h.each in
    record {
      spots = All-push IsSpot code.spots f h.spots k;
      each = omega (arith, length-append code.spots (f ∷ []), length-append code.statements (s ∷ []));
      few = omega (arith, length-append code.statements (s ∷ []));
    }

more_code : (limit : ℕ) (code : CodeAt) (r : Result Stmt Fault) (f : Fault) → IsCode limit code → length code.statements < limit → ((s : Stmt) → r ≡ Ok s → IsSpot f) → Coded limit (r >>= λ s. Ok (code_more code s f))
more_code limit code (Err e) f h l k = uncoded limit e
more_code limit code (Ok s) f h l k = record { is = λ x e. let q : code_more code s f ≡ x = cc in subst (IsCode limit) q (one_more limit code s f h l (k s refl)) }

code_either : (limit : ℕ) (b : Bool) (r s : Result CodeAt Fault) → (b ≡ true → Coded limit r) → (b ≡ false → Coded limit s) → Coded limit (cond b r s)
code_either limit true r s h k = h refl
code_either limit false r s h k = k refl

number_missing : (low high : ℕ) (line : List WordAt) (i : ℕ) (n : ℕ) → slice_get line i ≡ None → number_at low high line i ≡ Ok n → ⊥
unfolding number_at word_at
number_missing low high line i n e q =
    let none : (needed line i None >>= λ w. within low high w (digits_number w.bytes)) ≡ Ok n = subst (λ (o : Option WordAt). (needed line i o >>= λ w. within low high w (digits_number w.bytes)) ≡ Ok n) e q in
    absurd cc

given_of : {A B : Type 0} (r : Result A Fault) (f : A → Result B Fault) (y : B) → (r >>= f) ≡ Ok y → (x : A) × (r ≡ Ok x) × (f x ≡ Ok y)
given_of (Ok x) f y e = (x, refl, e)
given_of (Err v) f y e = absurd cc

-- a statement whose skip may be too far has the word of its number
numbered : (p : Program) (names : Names) (line : List WordAt) (k : Keyword) (s : Stmt) → (slice_get line 0 ≡ None → ⊥) → stmt_of p names k line ≡ Ok s → slice_get line (number_index k) ≡ None → ⊥
unfolding stmt_of local_of
numbered p names line (keywords.Local locals.Skip) s first e q = let h = given_of (number_at 1 2000 line 1) _ s e in number_missing 1 2000 line 1 h.0 q h.1
numbered p names line (keywords.Local locals.SkipZero) s first e q =
    let h = given_of (register_at line 1) _ s e in
    let k = given_of (number_at 1 2000 line 2) _ s h.2 in
    number_missing 1 2000 line 2 k.0 q k.1
numbered p names line k s first e q = first q

spot_of : (line : List WordAt) (k : Keyword) (o : Option WordAt) → (o ≡ None → ⊥) → IsSpot (skip_fault o)
spot_of line k None h = absurd (h refl)
spot_of line k (Some w) h = refl

program_codes : (p : Program) (limit : ℕ) (names : Names) (code : CodeAt) (w : WordAt) (line : List WordAt) → (slice_get line 0 ≡ None → ⊥) → IsCode limit code → Coded limit (program_line p limit names code w line)
unfolding program_line
program_codes p limit names code w line first h = by (keyword_of w.bytes)
  where
    by : (o : Option Keyword) → Coded limit (allowed p limit names code w line o)
    by None = uncoded limit _
    by (Some k) = code_either limit (takes p k) _ _
        (λ _. code_either limit (nat_le limit (length code.statements)) _ _ (λ _. uncoded limit _)
        (λ few. more_code limit code (stmt_of p names k line) (spot_at k line) h (leb-false limit (length code.statements) few)
        (λ s e. spot_of line k (slice_get line (number_index k)) (numbered p names line k s first e))))
        (λ _. uncoded limit _)

first_there : (line : List WordAt) (w : WordAt) → first_at line ≡ Ok w → slice_get line 0 ≡ None → ⊥
unfolding first_at
first_there line w e q = let some : slice_get line 0 ≡ Some w = opened_gives line (slice_get line 0) w e in let no : None ≡ Some w = sym q ∙ some in absurd cc

module _ (line : List WordAt) where
  top_by_keeps : (st : State) (w : WordAt) (o : Option SectionWord) → IsKept st.section → Keeps (top_by st line w o)
  unfolding pool_line interface_line class_line native_line filter_line thread_line picks_line
  top_by_keeps st w None h = fails _
  top_by_keeps st w (Some begins.Pool) h = either (is_some st.pool) _ _ (fails _) (bind (number_at 1 8 line 1) _ (λ lanes. bind (end_at line 2) _ (λ d. done _ h)))
  top_by_keeps st w (Some begins.Interface) h = either (nat_le 64 (length st.names.interfaces)) _ _ (fails _)
      (bind (interface_name_at st.names.interfaces line) _ (λ name. bind (free_guid_at st.iids line 2) _ (λ iid. bind (end_at line 3) _ (λ d. done _ tt))))
  top_by_keeps st w (Some begins.Class) h = either (nat_le 64 (length st.names.classes)) _ _ (fails _)
      (bind (free_name_at st.names.classes line 1) _ (λ name. bind (free_guid_at st.clsids line 2) _ (λ clsid. bind (model_at line 3) _ (λ model. bind (listed_at st.names.interfaces line) _ (λ interfaces. done _ tt)))))
  top_by_keeps st w (Some begins.Native) h = either (nat_le 64 (length st.names.classes)) _ _ (fails _)
      (bind (free_name_at st.names.classes line 1) _ (λ name. bind (free_guid_at st.clsids line 2) _ (λ clsid. bind (model_at line 3) _ (λ model. bind (native_at model line 4) _ (λ native. bind (end_at line 5) _ (λ d. done _ h))))))
  top_by_keeps st w (Some begins.Filter) h = either (nat_le 16 (length st.names.filters)) _ _ (fails _) (bind (filter_name_at st.names.filters line) _ (λ name. bind (end_at line 2) _ (λ d. done _ tt)))
  top_by_keeps st w (Some begins.Thread) h = either (nat_le 16 (length st.threads)) _ _ (fails _) (bind (end_at line 1) _ (λ d. done _ (no_statements 2000)))
  top_by_keeps st w (Some begins.Picks) h = bind (picks_on [] line 1 (drop 1 line)) _ (λ more. done _ h)

  top_keeps : (st : State) → IsKept st.section → Keeps (top_line st line)
  unfolding top_line
  top_keeps st h = bind (first_at line) _ (λ w. top_by_keeps st w (section_word_of w.bytes) h)

  interface_keeps : (st : State) (i : Interface) → Keeps (inner_interface st i line)
  unfolding inner_interface
  interface_keeps st i = bind (first_at line) _ (λ w. either (bytes_eq w.bytes (codes "method")) _ _ (bind (method_line st.names.interfaces i w line) _ (λ more. done _ tt)) (top_keeps (interface_closed st i) tt))

  class_keeps : (st : State) (c : Class) → Keeps (inner_class st c line)
  unfolding inner_class body_head
  class_keeps st c = bind (first_at line) _ (λ w. either (bytes_eq w.bytes (codes "body")) _ _
      (bind (method_at st.names line 1) _ (λ head. either (has_body c.bodies head) _ _ (bind (word_at line 1) _ (λ v. fails _)) (bind (end_at line 2) _ (λ d. done _ (no_statements 200)))))
      (either (bytes_eq w.bytes (codes "end")) _ _ (bind (end_at line 1) _ (λ d. done _ tt)) (fails _)))

  body_keeps : (st : State) (c : Class) (head : MethodNumber) (code : CodeAt) → IsCode 200 code → Keeps (inner_body st c head code line)
  unfolding inner_body
  body_keeps st c head code h = bind_of (first_at line) _ (λ w there. either (bytes_eq w.bytes (codes "end")) _ _
      (bind (checked code 200) _ (λ body. bind (end_at line 1) _ (λ d. done _ tt)))
      (bind_of (program_line (program_of c.model) 200 st.names code w line) _ (λ more e. done _ ((program_codes (program_of c.model) 200 st.names code w line (first_there line w there) h).is more e))))

  thread_keeps : (st : State) (code : CodeAt) → IsCode 2000 code → Keeps (inner_thread st code line)
  unfolding inner_thread
  thread_keeps st code h = bind_of (first_at line) _ (λ w there. either (bytes_eq w.bytes (codes "end")) _ _
      (bind (checked code 2000) _ (λ body. bind (end_at line 1) _ (λ d. done _ tt)))
      (bind_of (program_line programs.Script 2000 st.names code w line) _ (λ more e. done _ ((program_codes programs.Script 2000 st.names code w line (first_there line w there) h).is more e))))

  filter_keeps : (st : State) (rules : List Rule) → Keeps (inner_filter st rules line)
  unfolding inner_filter
  filter_keeps st rules = bind (first_at line) _ (λ w. either (bytes_eq w.bytes (codes "end")) _ _
      (bind (end_at line 1) _ (λ d. done _ tt))
      (bind (ruled rules w line (rule_word_of w.bytes)) _ (λ more. done _ tt)))

lone_keeps : (st : State) (pending : Option Fault) (w : WordAt) (sort : Sort) → Keeps (lone st pending w sort)
lone_keeps st pending w (sorts.Remark c) = done _ tt
lone_keeps st pending w sorts.Plain = fails _
lone_keeps st pending w sorts.Text = fails _
lone_keeps st pending w sorts.Bytes = fails _
lone_keeps st pending w sorts.Unclosed = fails _
lone_keeps st pending w (sorts.Stray c) = fails _

header_keeps : (st : State) (pending : Option Fault) (line : List WordAt) → Keeps (header_line st pending line)
unfolding header_line
header_keeps st pending [] = done _ tt
header_keeps st pending (w ∷ []) = lone_keeps st pending w w.sort
header_keeps st pending (one ∷ two ∷ ws) = bind (version_at pending (one ∷ two ∷ ws) one two) _ (λ v. done _ tt)

section_keeps : (st : State) (line : List WordAt) (section : Section) → st.section ≡ section → IsKept section → Keeps (by_section st line section)
section_keeps st line (sections.Header pending) e h = header_keeps st pending line
section_keeps st line sections.Top e h = top_keeps line st (subst IsKept (sym e) h)
section_keeps st line (sections.Interface i) e h = interface_keeps line st i
section_keeps st line (sections.Class c) e h = class_keeps line st c
section_keeps st line (sections.Body c head code) e h = body_keeps line st c head code h
section_keeps st line (sections.Filter rules) e h = filter_keeps line st rules
section_keeps st line (sections.Thread code) e h = thread_keeps line st code h

pub line_keeps : (st : State) (line : List WordAt) → IsKept st.section → Keeps (step st line)
unfolding step
line_keeps st [] h = done st h
line_keeps st (w ∷ ws) h = section_keeps st (w ∷ ws) st.section refl h
