-- A line in its section: what its first words say goes on to be said of it.
use Rattle.std.proofs.Common.{◌≡◌, ℕ, ◌⊎◌, inl, inr, Bool, true, false, not, List, [], ◌∷◌, ◌++◌, length, drop, Option, Some, None, Result, Ok, Err, refl, sym, ap, ◌∙◌, nat_le, if◌then◌else◌}
use Rattle.std.specs.Prelude.{is_some, bytes_eq, codes, unwrap_or}
use Rattle.com_classes.specs.declared.interfaces.Interface.{Interface}
use Rattle.com_classes.specs.declared.classes.Class.{Class}
use Rattle.com_filter.specs.declared.Rule.{Rule}
use Rattle.com_text.specs.declared.word.Sort.{Sort}
use Rattle.com_text.specs.declared.word.Sort.TheVariants as sorts
use Rattle.com_text.specs.Words.{WordAt}
use Rattle.com_read_operands.specs.declared.faults.Fault.{Fault}
use Rattle.com_read_operands.specs.Reading.{◌>>=◌, fault_at, word_at, first_at, number_at}
use Rattle.com_read_statements.specs.declared.calls.MethodNumber.{MethodNumber}
use Rattle.com_read_statements.specs.declared.keywords.Program.TheVariants as programs
use Rattle.com_read_statements.specs.Calls.{method_at}
use Rattle.com_read_lines.specs.declared.rules.RuleWord.{RuleWord}
use Rattle.com_read_lines.specs.Codes.{CodeAt, first_position, checked}
use Rattle.com_read_lines.specs.Header.{version_of, lone_fault, ended, compared, version_by, version_at}
use Rattle.com_read_lines.specs.Declaring.{free_guid_at, free_name_at, interface_name_at, filter_name_at, model_at, native_at, listed_at, picks_on}
use Rattle.com_read_lines.specs.Methods.{method_of}
use Rattle.com_read_lines.specs.Rules.{rule_word_of, rule_of}
use Rattle.com_read_lines.specs.Programs.{program_line}
use Rattle.com_read_sections.specs.declared.begin.SectionWord.{SectionWord}
use Rattle.com_read_sections.specs.declared.begin.SectionWord.TheVariants as begins
use Rattle.com_read_sections.specs.declared.state.State.{State}
use Rattle.com_read_sections.specs.declared.state.Section.{Section}
use Rattle.com_read_sections.specs.declared.state.Section.TheVariants as sections
use Rattle.com_read_sections.specs.Header.{lone, header_line}
use Rattle.com_read_sections.specs.Beginning.{section_word_of, pool_line, interface_line, class_line, native_line, filter_line, thread_line, picks_line, top_by, top_line}
use Rattle.com_read_sections.specs.Opened.{interface_closed, method_line, inner_interface, has_body, body_head, inner_class, program_of, body_ended, inner_body, thread_ended, inner_thread, ruled, inner_filter, by_section, step}
use Rattle.com_laws_faults.specs.Prefixes.{is_lone}
use Rattle.com_laws_faults.proofs.Goes.{IsMild, Goes, still, stays, goes, bind, by_word, map, either}
use Rattle.com_laws_faults.proofs.Words.{word_sure, first_sure, ends, number_sure}
use Rattle.com_laws_faults.proofs.Statements.{head_sure}
use Rattle.com_laws_faults.proofs.Lines.{free_guid_sure, free_name_sure, interface_name_sure, filter_name_sure, model_sure, native_sure, list_goes, picks_rest, method_goes, rule_goes, program_goes}

module _ (p a : List WordAt) where
  -- ---- outside of sections

  pool_goes : (st : State) (w : WordAt) → Goes (pool_line st w p) (pool_line st w (p ++ a))
  unfolding pool_line
  pool_goes st w = either (is_some st.pool) _ _ _ _ (λ _. stays _)
      (λ _. bind (number_at 1 8 p 1) (number_at 1 8 (p ++ a) 1) _ _ (number_sure p a 1 8 1) (λ lanes. ends p a 2 _ _))

  interface_goes : (st : State) (w : WordAt) → Goes (interface_line st w p) (interface_line st w (p ++ a))
  unfolding interface_line
  interface_goes st w = either (nat_le 64 (length st.names.interfaces)) _ _ _ _ (λ _. stays _)
      (λ _. bind (interface_name_at st.names.interfaces p) (interface_name_at st.names.interfaces (p ++ a)) _ _ (interface_name_sure p a st.names.interfaces) (λ name.
      bind (free_guid_at st.iids p 2) (free_guid_at st.iids (p ++ a) 2) _ _ (free_guid_sure p a st.iids 2) (λ iid. ends p a 3 _ _)))

  class_goes : (st : State) (w : WordAt) → Goes (class_line st w p) (class_line st w (p ++ a))
  unfolding class_line
  class_goes st w = either (nat_le 64 (length st.names.classes)) _ _ _ _ (λ _. stays _)
      (λ _. bind (free_name_at st.names.classes p 1) (free_name_at st.names.classes (p ++ a) 1) _ _ (free_name_sure p a st.names.classes 1) (λ name.
      bind (free_guid_at st.clsids p 2) (free_guid_at st.clsids (p ++ a) 2) _ _ (free_guid_sure p a st.clsids 2) (λ clsid.
      bind (model_at p 3) (model_at (p ++ a) 3) _ _ (model_sure p a 3) (λ model.
      map (listed_at st.names.interfaces p) (listed_at st.names.interfaces (p ++ a)) _ _ (list_goes p a st.names.interfaces)))))

  native_goes : (st : State) (w : WordAt) → Goes (native_line st w p) (native_line st w (p ++ a))
  unfolding native_line
  native_goes st w = either (nat_le 64 (length st.names.classes)) _ _ _ _ (λ _. stays _)
      (λ _. bind (free_name_at st.names.classes p 1) (free_name_at st.names.classes (p ++ a) 1) _ _ (free_name_sure p a st.names.classes 1) (λ name.
      bind (free_guid_at st.clsids p 2) (free_guid_at st.clsids (p ++ a) 2) _ _ (free_guid_sure p a st.clsids 2) (λ clsid.
      bind (model_at p 3) (model_at (p ++ a) 3) _ _ (model_sure p a 3) (λ model.
      bind (native_at model p 4) (native_at model (p ++ a) 4) _ _ (native_sure p a model 4) (λ native. ends p a 5 _ _)))))

  filter_goes : (st : State) (w : WordAt) → Goes (filter_line st w p) (filter_line st w (p ++ a))
  unfolding filter_line
  filter_goes st w = either (nat_le 16 (length st.names.filters)) _ _ _ _ (λ _. stays _)
      (λ _. bind (filter_name_at st.names.filters p) (filter_name_at st.names.filters (p ++ a)) _ _ (filter_name_sure p a st.names.filters) (λ name. ends p a 2 _ _))

  thread_goes : (st : State) (w : WordAt) → Goes (thread_line st w p) (thread_line st w (p ++ a))
  unfolding thread_line
  thread_goes st w = either (nat_le 16 (length st.threads)) _ _ _ _ (λ _. stays _) (λ _. ends p a 1 _ _)

  picks_line_goes : (st : State) → Goes (picks_line st p) (picks_line st (p ++ a))
  unfolding picks_line
  picks_line_goes st = map (picks_on [] p 1 (drop 1 p)) (picks_on [] (p ++ a) 1 (drop 1 (p ++ a))) _ _ (picks_rest p a 1)

  top_by_goes : (st : State) (w : WordAt) (o : Option SectionWord) → Goes (top_by st p w o) (top_by st (p ++ a) w o)
  top_by_goes st w None = stays _
  top_by_goes st w (Some begins.Pool) = pool_goes st w
  top_by_goes st w (Some begins.Interface) = interface_goes st w
  top_by_goes st w (Some begins.Class) = class_goes st w
  top_by_goes st w (Some begins.Native) = native_goes st w
  top_by_goes st w (Some begins.Filter) = filter_goes st w
  top_by_goes st w (Some begins.Thread) = thread_goes st w
  top_by_goes st w (Some begins.Picks) = picks_line_goes st

  top_goes : (st : State) → Goes (top_line st p) (top_line st (p ++ a))
  unfolding top_line
  top_goes st = bind (first_at p) (first_at (p ++ a)) _ _ (first_sure p a) (λ w. top_by_goes st w (section_word_of w.bytes))

  -- ---- inside of sections

  method_line_goes : (names : List (List ℕ)) (i : Interface) (w : WordAt) → Goes (method_line names i w p) (method_line names i w (p ++ a))
  unfolding method_line
  method_line_goes names i w = either (nat_le 32 (length i.methods)) _ _ _ _ (λ _. stays _)
      (λ _. map (method_of names i.methods p) (method_of names i.methods (p ++ a)) _ _ (method_goes p a names i.methods))

  inner_interface_goes : (st : State) (i : Interface) → Goes (inner_interface st i p) (inner_interface st i (p ++ a))
  unfolding inner_interface
  inner_interface_goes st i = bind (first_at p) (first_at (p ++ a)) _ _ (first_sure p a) (λ w. either (bytes_eq w.bytes (codes "method")) _ _ _ _
      (λ _. map (method_line st.names.interfaces i w p) (method_line st.names.interfaces i w (p ++ a)) _ _ (method_line_goes st.names.interfaces i w))
      (λ _. top_goes (interface_closed st i)))

  body_head_goes : (st : State) (c : Class) → Goes (body_head st c p) (body_head st c (p ++ a))
  unfolding body_head
  body_head_goes st c = bind (method_at st.names p 1) (method_at st.names (p ++ a) 1) _ _ (head_sure p a st.names 1) (λ head. either (has_body c.bodies head) _ _ _ _
      (λ _. goes _ _ (by_word (word_at p 1) (word_at (p ++ a) 1) _ (word_sure p a 1)))
      (λ _. ends p a 2 _ _))

  inner_class_goes : (st : State) (c : Class) → Goes (inner_class st c p) (inner_class st c (p ++ a))
  unfolding inner_class
  inner_class_goes st c = bind (first_at p) (first_at (p ++ a)) _ _ (first_sure p a) (λ w. either (bytes_eq w.bytes (codes "body")) _ _ _ _
      (λ _. body_head_goes st c)
      (λ _. either (bytes_eq w.bytes (codes "end")) _ _ _ _ (λ _. ends p a 1 _ _) (λ _. stays _)))

  body_ended_goes : (st : State) (c : Class) (head : MethodNumber) (code : CodeAt) → Goes (body_ended st c head code p) (body_ended st c head code (p ++ a))
  body_ended_goes st c head code = bind (checked code 200) (checked code 200) _ _ (still _) (λ body. ends p a 1 _ _)

  inner_body_goes : (st : State) (c : Class) (head : MethodNumber) (code : CodeAt) → Goes (inner_body st c head code p) (inner_body st c head code (p ++ a))
  unfolding inner_body
  inner_body_goes st c head code = bind (first_at p) (first_at (p ++ a)) _ _ (first_sure p a) (λ w. either (bytes_eq w.bytes (codes "end")) _ _ _ _
      (λ _. body_ended_goes st c head code)
      (λ _. map (program_line (program_of c.model) 200 st.names code w p) (program_line (program_of c.model) 200 st.names code w (p ++ a)) _ _ (program_goes p a (program_of c.model) 200 st.names code w)))

  thread_ended_goes : (st : State) (code : CodeAt) → Goes (thread_ended st code p) (thread_ended st code (p ++ a))
  thread_ended_goes st code = bind (checked code 2000) (checked code 2000) _ _ (still _) (λ body. ends p a 1 _ _)

  inner_thread_goes : (st : State) (code : CodeAt) → Goes (inner_thread st code p) (inner_thread st code (p ++ a))
  unfolding inner_thread
  inner_thread_goes st code = bind (first_at p) (first_at (p ++ a)) _ _ (first_sure p a) (λ w. either (bytes_eq w.bytes (codes "end")) _ _ _ _
      (λ _. thread_ended_goes st code)
      (λ _. map (program_line programs.Script 2000 st.names code w p) (program_line programs.Script 2000 st.names code w (p ++ a)) _ _ (program_goes p a programs.Script 2000 st.names code w)))

  ruled_goes : (rules : List Rule) (w : WordAt) (o : Option RuleWord) → Goes (ruled rules w p o) (ruled rules w (p ++ a) o)
  ruled_goes rules w None = stays _
  ruled_goes rules w (Some k) = either (nat_le 32 (length rules)) _ _ _ _ (λ _. stays _)
      (λ _. map (rule_of k p) (rule_of k (p ++ a)) _ _ (rule_goes p a k))

  inner_filter_goes : (st : State) (rules : List Rule) → Goes (inner_filter st rules p) (inner_filter st rules (p ++ a))
  unfolding inner_filter
  inner_filter_goes st rules = bind (first_at p) (first_at (p ++ a)) _ _ (first_sure p a) (λ w. either (bytes_eq w.bytes (codes "end")) _ _ _ _
      (λ _. ends p a 1 _ _)
      (λ _. map (ruled rules w p (rule_word_of w.bytes)) (ruled rules w (p ++ a) (rule_word_of w.bytes)) _ _ (ruled_goes rules w (rule_word_of w.bytes))))

-- ---- the header

abbrev pub is_header : Section → Bool
is_header (sections.Header pending) = true
is_header _ = false

-- The first words of a line give what the whole line gives, or no fault but that a word is missing, or they
-- are the word `scenario` alone where the header is awaited.
pub record Steps (section : Section) (p : List WordAt) (short long : Result State Fault) : Type 0 where
  pub is : (long ≡ short) ⊎ (IsMild short ⊎ ((short ≡ Err first_position) × (is_lone p ≡ true) × (is_header section ≡ true)))

whole : (section : Section) (p : List WordAt) (short long : Result State Fault) → Goes short long → Steps section p short long
whole section p short long h = elim h.is [ inl e ↦ record { is = inl e } | inr m ↦ record { is = inr (inl m) } ]

-- another word than `scenario` is at fault, whether it is alone or not
compared_same : (line : List WordAt) (w v : WordAt) (pending : Option Fault) → bytes_eq w.bytes (codes "scenario") ≡ false → compared line w v pending ≡ Err (lone_fault pending w)
compared_same line w v (Some f) e = ap (λ (b : Bool). Err (if b then first_position else f)) (sym e)
compared_same line w v None e =
    ap (λ (b : Bool). if not b then Err (fault_at 1 w) else ended line v (version_of v.bytes)) e
    ∙ ap (λ (b : Bool). Err (if b then first_position else fault_at 1 w)) (sym e)

pub version_same : (line : List WordAt) (w v : WordAt) (pending : Option Fault) (sort : Sort) → bytes_eq w.bytes (codes "scenario") ≡ false → version_by pending line w v sort ≡ Err (lone_fault pending w)
version_same line w v pending (sorts.Remark c) e = refl
version_same line w v pending sorts.Plain e = compared_same line w v pending e
version_same line w v pending sorts.Text e = compared_same line w v pending e
version_same line w v pending sorts.Bytes e = compared_same line w v pending e
version_same line w v pending sorts.Unclosed e = compared_same line w v pending e
version_same line w v pending (sorts.Stray c) e = compared_same line w v pending e

lone_scenario : (pending : Option Fault) (w : WordAt) → bytes_eq w.bytes (codes "scenario") ≡ true → lone_fault pending w ≡ first_position
lone_scenario pending w e = ap (λ (b : Bool). if b then first_position else unwrap_or pending (fault_at 1 w)) e

lone_steps : (st : State) (pending : Option Fault) (w v : WordAt) (vs : List WordAt) (b : Bool) → bytes_eq w.bytes (codes "scenario") ≡ b → Steps (sections.Header pending) (w ∷ []) (Err (lone_fault pending w)) (header_line st pending (w ∷ v ∷ vs))
unfolding header_line version_at
lone_steps st pending w v vs true e = record { is = inr (inr (ap (λ (f : Fault). Err f) (lone_scenario pending w e), e, refl)) }
lone_steps st pending w v vs false e = record { is = inl (ap (λ (r : Result ℕ Fault). r >>= λ n. Ok (record st { version = n; section = sections.Top })) (version_same (w ∷ v ∷ vs) w v pending v.sort e)) }

lone_by : (st : State) (pending : Option Fault) (w v : WordAt) (vs : List WordAt) (sort : Sort) → Steps (sections.Header pending) (w ∷ []) (lone st pending w sort) (header_line st pending (w ∷ v ∷ vs))
lone_by st pending w v vs (sorts.Remark c) = record { is = inr (inl tt) }
lone_by st pending w v vs sorts.Plain = lone_steps st pending w v vs (bytes_eq w.bytes (codes "scenario")) refl
lone_by st pending w v vs sorts.Text = lone_steps st pending w v vs (bytes_eq w.bytes (codes "scenario")) refl
lone_by st pending w v vs sorts.Bytes = lone_steps st pending w v vs (bytes_eq w.bytes (codes "scenario")) refl
lone_by st pending w v vs sorts.Unclosed = lone_steps st pending w v vs (bytes_eq w.bytes (codes "scenario")) refl
lone_by st pending w v vs (sorts.Stray c) = lone_steps st pending w v vs (bytes_eq w.bytes (codes "scenario")) refl

module _ (p a : List WordAt) where
  ended_goes : (two : WordAt) (o : Option ℕ) → Goes (ended p two o) (ended (p ++ a) two o)
  ended_goes two None = stays _
  ended_goes two (Some v) = ends p a 2 _ _

  compared_goes : (one two : WordAt) (pending : Option Fault) → Goes (compared p one two pending) (compared (p ++ a) one two pending)
  compared_goes one two (Some f) = stays _
  compared_goes one two None = either (not (bytes_eq one.bytes (codes "scenario"))) _ _ _ _ (λ _. stays _) (λ _. ended_goes two (version_of two.bytes))

  version_by_goes : (pending : Option Fault) (one two : WordAt) (sort : Sort) → Goes (version_by pending p one two sort) (version_by pending (p ++ a) one two sort)
  version_by_goes pending one two (sorts.Remark c) = stays _
  version_by_goes pending one two sorts.Plain = compared_goes one two pending
  version_by_goes pending one two sorts.Text = compared_goes one two pending
  version_by_goes pending one two sorts.Bytes = compared_goes one two pending
  version_by_goes pending one two sorts.Unclosed = compared_goes one two pending
  version_by_goes pending one two (sorts.Stray c) = compared_goes one two pending

header_steps : (st : State) (pending : Option Fault) (p a : List WordAt) → Steps (sections.Header pending) p (header_line st pending p) (header_line st pending (p ++ a))
unfolding header_line version_at
header_steps st pending [] a = record { is = inr (inl tt) }
header_steps st pending (w ∷ []) [] = record { is = inl refl }
header_steps st pending (w ∷ []) (v ∷ vs) = lone_by st pending w v vs w.sort
header_steps st pending (one ∷ two ∷ ws) a = whole _ _ _ _ (map _ _ _ _ (version_by_goes (one ∷ two ∷ ws) a pending one two two.sort))

-- ---- a line

by_section_steps : (st : State) (p a : List WordAt) (section : Section) → Steps section p (by_section st p section) (by_section st (p ++ a) section)
by_section_steps st p a (sections.Header pending) = header_steps st pending p a
by_section_steps st p a sections.Top = whole _ _ _ _ (top_goes p a st)
by_section_steps st p a (sections.Interface i) = whole _ _ _ _ (inner_interface_goes p a st i)
by_section_steps st p a (sections.Class c) = whole _ _ _ _ (inner_class_goes p a st c)
by_section_steps st p a (sections.Body c head code) = whole _ _ _ _ (inner_body_goes p a st c head code)
by_section_steps st p a (sections.Filter rules) = whole _ _ _ _ (inner_filter_goes p a st rules)
by_section_steps st p a (sections.Thread code) = whole _ _ _ _ (inner_thread_goes p a st code)

pub line_steps : (st : State) (p a : List WordAt) → Steps st.section p (step st p) (step st (p ++ a))
unfolding step
line_steps st [] a = record { is = inr (inl tt) }
line_steps st (w ∷ ws) a = by_section_steps st (w ∷ ws) a st.section
