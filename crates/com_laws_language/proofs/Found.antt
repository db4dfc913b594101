-- What a line says where the reader takes it.
use Rattle.std.proofs.Common.{◌≡◌, ℕ, Bool, true, false, cond, List, [], ◌∷◌, ◌++◌, length, drop, Option, Some, None, is_some, Result, Ok, Err, refl, sym, ap, subst, nat_le, codes, bytes_eq}
use Rattle.com_base.specs.declared.guid.Guid.{Guid}
use Rattle.com_body.specs.declared.frame.Native.{Native}
use Rattle.com_body.specs.declared.frame.Native.TheVariants as natives
use Rattle.com_body.specs.declared.statements.Stmt.{Stmt}
use Rattle.com_body.specs.declared.body.BodyFault.{BodyFault}
use Rattle.com_body.specs.declared.body.BodyFault.TheVariants as faults
use Rattle.com_body.specs.Bodies.{fault_of}
use Rattle.com_classes.specs.declared.interfaces.Interface.{Interface}
use Rattle.com_classes.specs.declared.interfaces.Method.{Method}
use Rattle.com_classes.specs.declared.classes.Class.{Class}
use Rattle.com_classes.specs.declared.classes.ThreadingModel.{ThreadingModel}
use Rattle.com_filter.specs.declared.Rule.{Rule}
use Rattle.com_text.specs.Words.{WordAt}
use Rattle.com_read_operands.specs.declared.faults.Fault.{Fault}
use Rattle.com_read_operands.specs.Reading.{◌>>=◌, fault_at, word_at, first_at, end_at, number_at}
use Rattle.com_read_statements.specs.declared.calls.MethodNumber.{MethodNumber}
use Rattle.com_read_statements.specs.declared.keywords.Program.{Program}
use Rattle.com_read_statements.specs.declared.keywords.Keyword.{Keyword}
use Rattle.com_read_statements.specs.declared.names.Names.{Names}
use Rattle.com_read_statements.specs.Keywords.{keyword_of, takes}
use Rattle.com_read_statements.specs.Calls.{method_at}
use Rattle.com_read_statements.specs.Statements.{stmt_of}
use Rattle.com_read_lines.specs.declared.rules.RuleWord.{RuleWord}
use Rattle.com_read_lines.specs.Codes.{CodeAt, no_code, spotted, checked_by, checked}
use Rattle.com_read_lines.specs.Declaring.{free_guid_at, free_name_at, interface_name_at, filter_name_at, model_at, native_at, natives_of, listed_at, picks_on}
use Rattle.com_read_lines.specs.Methods.{method_of}
use Rattle.com_read_lines.specs.Rules.{rule_word_of, rule_of}
use Rattle.com_read_lines.specs.Programs.{stated, allowed, program_line}
use Rattle.com_read_sections.specs.declared.begin.SectionWord.{SectionWord}
use Rattle.com_read_sections.specs.declared.begin.SectionWord.TheVariants as begins
use Rattle.com_read_sections.specs.declared.state.State.{State}
use Rattle.com_read_sections.specs.declared.state.Section.TheVariants as within
use Rattle.com_read_sections.specs.Beginning.{section_word_of, pool_line, interface_line, class_line, native_line, filter_line, thread_line, picks_line}
use Rattle.com_read_sections.specs.Opened.{method_line, has_body, body_head, ruled}
use Rattle.com_laws_language.specs.Sections.{Line}
use Rattle.com_laws_language.specs.Spelling.{IsStatement, IsRule}
use Rattle.com_laws_language.proofs.Lists.{ok_same, bound, unless, never, same_bytes}
use Rattle.com_laws_language.proofs.States.{pooled, interface_begun, class_begun, class_added, filter_begun, thread_begun, picked}

-- ---- the word that begins a section

abbrev pub spelled_as : SectionWord → List ℕ
spelled_as begins.Pool = codes "pool"
spelled_as begins.Interface = codes "interface"
spelled_as begins.Class = codes "class"
spelled_as begins.Native = codes "native"
spelled_as begins.Filter = codes "filter"
spelled_as begins.Thread = codes "thread"
spelled_as begins.Picks = codes "picks"

abbrev Said : Option SectionWord → List ℕ → Type 0
Said None bytes = Unit {0}
Said (Some k) bytes = bytes ≡ spelled_as k

said : (b : Bool) (bytes : List ℕ) (k : SectionWord) (rest : Option SectionWord) → (b ≡ true → bytes ≡ spelled_as k) → Said rest bytes → Said (cond b (Some k) rest) bytes
said true bytes k rest h m = h refl
said false bytes k rest h m = m

all_said : (bytes : List ℕ) → Said (section_word_of bytes) bytes
all_said bytes =
    said (bytes_eq bytes (codes "pool")) bytes begins.Pool _ (same_bytes bytes (codes "pool"))
    (said (bytes_eq bytes (codes "interface")) bytes begins.Interface _ (same_bytes bytes (codes "interface"))
    (said (bytes_eq bytes (codes "class")) bytes begins.Class _ (same_bytes bytes (codes "class"))
    (said (bytes_eq bytes (codes "native")) bytes begins.Native _ (same_bytes bytes (codes "native"))
    (said (bytes_eq bytes (codes "filter")) bytes begins.Filter _ (same_bytes bytes (codes "filter"))
    (said (bytes_eq bytes (codes "thread")) bytes begins.Thread _ (same_bytes bytes (codes "thread"))
    (said (bytes_eq bytes (codes "picks")) bytes begins.Picks _ (same_bytes bytes (codes "picks")) tt))))))

pub section_word : (bytes : List ℕ) (k : SectionWord) → section_word_of bytes ≡ Some k → bytes ≡ spelled_as k
section_word bytes k e = subst (λ (o : Option SectionWord). Said o bytes) e (all_said bytes)

-- ---- lines outside of sections

abbrev pub new_interface : List ℕ → Guid → Interface
new_interface name iid = record { name = name; iid = iid; methods = [] }

abbrev pub new_class : List ℕ → Guid → ThreadingModel → List ℕ → Class
new_class name clsid model interfaces = record { name = name; clsid = clsid; model = model; native = natives.Bodies; interfaces = interfaces; bodies = [] }

abbrev pub new_native : List ℕ → Guid → ThreadingModel → Native → Class
new_native name clsid model native = record { name = name; clsid = clsid; model = model; native = native; interfaces = natives_of native; bodies = [] }

module _ (st next : State) (w : WordAt) (line : Line) where
  pub pool_found : pool_line st w line ≡ Ok next → (n : ℕ) × (is_some st.pool ≡ false) × (number_at 1 8 line 1 ≡ Ok n) × (end_at line 2 ≡ Ok tt) × (next ≡ pooled st n)
  unfolding pool_line
  pool_found e =
      let a = unless (is_some st.pool) (fault_at 9 w) _ next e in
      let b = bound (number_at 1 8 line 1) _ next a.1 in
      let c = bound (end_at line 2) _ next b.2 in
      (b.0, a.0, b.1, c.1, sym (ok_same _ _ c.2))

  pub interface_found : interface_line st w line ≡ Ok next
      → (word : WordAt) × (iid : Guid) × (nat_le 64 (length st.names.interfaces) ≡ false) × (interface_name_at st.names.interfaces line ≡ Ok word) × (free_guid_at st.iids line 2 ≡ Ok iid)
      × (end_at line 3 ≡ Ok tt) × (next ≡ interface_begun st (new_interface word.bytes iid))
  unfolding interface_line
  interface_found e =
      let a = unless (nat_le 64 (length st.names.interfaces)) (fault_at 12 w) _ next e in
      let b = bound (interface_name_at st.names.interfaces line) _ next a.1 in
      let c = bound (free_guid_at st.iids line 2) _ next b.2 in
      let d = bound (end_at line 3) _ next c.2 in
      (b.0, c.0, a.0, b.1, c.1, d.1, sym (ok_same _ _ d.2))

  pub class_found : class_line st w line ≡ Ok next
      → (word : WordAt) × (clsid : Guid) × (model : ThreadingModel) × (interfaces : List ℕ) × (nat_le 64 (length st.names.classes) ≡ false) × (free_name_at st.names.classes line 1 ≡ Ok word)
      × (free_guid_at st.clsids line 2 ≡ Ok clsid) × (model_at line 3 ≡ Ok model) × (listed_at st.names.interfaces line ≡ Ok interfaces) × (next ≡ class_begun st (new_class word.bytes clsid model interfaces))
  unfolding class_line
  class_found e =
      let a = unless (nat_le 64 (length st.names.classes)) (fault_at 12 w) _ next e in
      let b = bound (free_name_at st.names.classes line 1) _ next a.1 in
      let c = bound (free_guid_at st.clsids line 2) _ next b.2 in
      let d = bound (model_at line 3) _ next c.2 in
      let f = bound (listed_at st.names.interfaces line) _ next d.2 in
      (b.0, c.0, d.0, f.0, a.0, b.1, c.1, d.1, f.1, sym (ok_same _ _ f.2))

  pub native_found : native_line st w line ≡ Ok next
      → (word : WordAt) × (clsid : Guid) × (model : ThreadingModel) × (native : Native) × (nat_le 64 (length st.names.classes) ≡ false) × (free_name_at st.names.classes line 1 ≡ Ok word)
      × (free_guid_at st.clsids line 2 ≡ Ok clsid) × (model_at line 3 ≡ Ok model) × (native_at model line 4 ≡ Ok native) × (end_at line 5 ≡ Ok tt) × (next ≡ class_added st (new_native word.bytes clsid model native))
  unfolding native_line
  native_found e =
      let a = unless (nat_le 64 (length st.names.classes)) (fault_at 12 w) _ next e in
      let b = bound (free_name_at st.names.classes line 1) _ next a.1 in
      let c = bound (free_guid_at st.clsids line 2) _ next b.2 in
      let d = bound (model_at line 3) _ next c.2 in
      let f = bound (native_at d.0 line 4) _ next d.2 in
      let g = bound (end_at line 5) _ next f.2 in
      (b.0, c.0, d.0, f.0, a.0, b.1, c.1, d.1, f.1, g.1, sym (ok_same _ _ g.2))

  pub filter_found : filter_line st w line ≡ Ok next
      → (word : WordAt) × (nat_le 16 (length st.names.filters) ≡ false) × (filter_name_at st.names.filters line ≡ Ok word) × (end_at line 2 ≡ Ok tt) × (next ≡ filter_begun st word.bytes [])
  unfolding filter_line
  filter_found e =
      let a = unless (nat_le 16 (length st.names.filters)) (fault_at 12 w) _ next e in
      let b = bound (filter_name_at st.names.filters line) _ next a.1 in
      let c = bound (end_at line 2) _ next b.2 in
      (b.0, a.0, b.1, c.1, sym (ok_same _ _ c.2))

  pub thread_found : thread_line st w line ≡ Ok next → (nat_le 16 (length st.threads) ≡ false) × (end_at line 1 ≡ Ok tt) × (next ≡ thread_begun st no_code)
  unfolding thread_line
  thread_found e =
      let a = unless (nat_le 16 (length st.threads)) (fault_at 12 w) _ next e in
      let b = bound (end_at line 1) _ next a.1 in
      (a.0, b.1, sym (ok_same _ _ b.2))

  pub picks_found : picks_line st line ≡ Ok next → (lanes : List ℕ) × (picks_on [] line 1 (drop 1 line) ≡ Ok lanes) × (next ≡ picked st lanes)
  unfolding picks_line
  picks_found e =
      let a = bound (picks_on [] line 1 (drop 1 line)) _ next e in
      (a.0, a.1, sym (ok_same _ _ a.2))

-- ---- lines inside of sections

pub method_found : (names : List (List ℕ)) (i next : Interface) (w : WordAt) (line : Line) → method_line names i w line ≡ Ok next
    → (m : Method) × (nat_le 32 (length i.methods) ≡ false) × (method_of names i.methods line ≡ Ok m) × (next ≡ record i { methods = i.methods ++ m ∷ [] })
unfolding method_line
method_found names i next w line e =
    let a = unless (nat_le 32 (length i.methods)) (fault_at 12 w) _ next e in
    let b = bound (method_of names i.methods line) _ next a.1 in
    (b.0, a.0, b.1, sym (ok_same _ _ b.2))

rule_by : (rules next : List Rule) (w : WordAt) (line : Line) (o : Option RuleWord) → first_at line ≡ Ok w → rule_word_of w.bytes ≡ o → ruled rules w line o ≡ Ok next
    → (r : Rule) × (nat_le 32 (length rules) ≡ false) × IsRule rules line r × (next ≡ rules ++ r ∷ [])
rule_by rules next w line None first word e = never _ _ _ e
rule_by rules next w line (Some k) first word e =
    let a = unless (nat_le 32 (length rules)) (fault_at 12 w) _ next e in
    let b = bound (rule_of k line) _ next a.1 in
    (b.0, a.0, record { first = w; stands = first; kind = k; known = word; spells = b.1 }, sym (ok_same _ _ b.2))

pub rule_found : (rules next : List Rule) (w : WordAt) (line : Line) → first_at line ≡ Ok w → ruled rules w line (rule_word_of w.bytes) ≡ Ok next
    → (r : Rule) × (nat_le 32 (length rules) ≡ false) × IsRule rules line r × (next ≡ rules ++ r ∷ [])
rule_found rules next w line first e = rule_by rules next w line (rule_word_of w.bytes) first refl e

-- a statement is added, and one place more for its fault
abbrev pub IsMore : ℕ → Program → Names → Line → CodeAt → CodeAt → Type 0
IsMore limit p names line code next = (s : Stmt) × (nat_le limit (length code.statements) ≡ false) × IsStatement p names code.statements line s × (next.statements ≡ code.statements ++ s ∷ [])

stated_by : (limit : ℕ) (p : Program) (names : Names) (code next : CodeAt) (w : WordAt) (line : Line) (k : Keyword) (t : Bool) → first_at line ≡ Ok w → keyword_of w.bytes ≡ Some k → takes p k ≡ t
    → cond t (stated p limit names code w line k) (Err (fault_at 3 w)) ≡ Ok next → IsMore limit p names line code next
stated_by limit p names code next w line k false first word can e = never _ _ _ e
stated_by limit p names code next w line k true first word can e =
    let a = unless (nat_le limit (length code.statements)) (fault_at 12 w) _ next e in
    let b = bound (stmt_of p names k line) _ next a.1 in
    (b.0, a.0, record { first = w; stands = first; keyword = k; known = word; taken = can; spells = b.1 }, ap (λ (c : CodeAt). c.statements) (sym (ok_same _ _ b.2)))

allowed_by : (limit : ℕ) (p : Program) (names : Names) (code next : CodeAt) (w : WordAt) (line : Line) (o : Option Keyword) → first_at line ≡ Ok w → keyword_of w.bytes ≡ o
    → allowed p limit names code w line o ≡ Ok next → IsMore limit p names line code next
allowed_by limit p names code next w line None first word e = never _ _ _ e
allowed_by limit p names code next w line (Some k) first word e = stated_by limit p names code next w line k (takes p k) first word refl e

pub statement_found : (limit : ℕ) (p : Program) (names : Names) (code next : CodeAt) (w : WordAt) (line : Line) → first_at line ≡ Ok w → program_line p limit names code w line ≡ Ok next → IsMore limit p names line code next
unfolding program_line
statement_found limit p names code next w line first e = allowed_by limit p names code next w line (keyword_of w.bytes) first refl e

no_spot : (o : Option Fault) (body : List Stmt) (P : Type 0) → spotted o ≡ Ok body → P
no_spot None body P e = never P _ body e
no_spot (Some f) body P e = never P _ body e

checked_found_by : (code : CodeAt) (body : List Stmt) (o : Option BodyFault) → checked_by code o ≡ Ok body → (o ≡ None) × (body ≡ code.statements)
checked_found_by code body None e = (refl, sym (ok_same _ _ e))
checked_found_by code body (Some (faults.Jump k)) e = no_spot _ body _ e
checked_found_by code body (Some faults.TooLong) e = never _ _ body e

pub checked_found : (code : CodeAt) (limit : ℕ) (body : List Stmt) → checked code limit ≡ Ok body → (fault_of code.statements limit ≡ None) × (body ≡ code.statements)
checked_found code limit body e = checked_found_by code body (fault_of code.statements limit) e

pub body_head_found : (st next : State) (c : Class) (line : Line) → body_head st c line ≡ Ok next
    → (head : MethodNumber) × (method_at st.names line 1 ≡ Ok head) × (has_body c.bodies head ≡ false) × (end_at line 2 ≡ Ok tt) × (next ≡ record st { section = within.Body c head no_code })
unfolding body_head
body_head_found st next c line e =
    let a = bound (method_at st.names line 1) _ next e in
    let b = once (has_body c.bodies a.0) (word_at line 1) _ next a.2 in
    let d = bound (end_at line 2) _ next b.1 in
    (a.0, a.1, b.0, d.1, sym (ok_same _ _ d.2))
  where
    once : (b : Bool) (r : Result WordAt Fault) (s : Result State Fault) (y : State) → cond b (r >>= λ w. Err (fault_at 9 w)) s ≡ Ok y → (b ≡ false) × (s ≡ Ok y)
    once true (Ok w) s y e = never _ _ _ e
    once true (Err f) s y e = never _ _ _ e
    once false r s y e = (refl, e)
