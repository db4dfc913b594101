-- What the reader makes of a line that says this.
use Rattle.std.proofs.Common.{◌≡◌, ℕ, ◌≤◌, Bool, true, false, cond, List, [], ◌∷◌, ◌++◌, length, flat_map, drop, Option, Some, None, is_some, Result, Ok, Err, refl, sym, ap, ◌∙◌, subst, arith, nat_le, nat_lt, codes, bytes_eq, append_assoc, append-nil, length-append}
use Rattle.std.proofs.lemmas.Bool.{lt-leb, ltb-false}
use Rattle.com_base.specs.declared.guid.Guid.{Guid}
use Rattle.com_body.specs.declared.statements.Stmt.{Stmt}
use Rattle.com_body.specs.declared.body.BodyFault.{BodyFault}
use Rattle.com_body.specs.Bodies.{fault_of}
use Rattle.com_classes.specs.declared.interfaces.Interface.{Interface}
use Rattle.com_classes.specs.declared.interfaces.Method.{Method}
use Rattle.com_classes.specs.declared.classes.Class.{Class}
use Rattle.com_classes.specs.declared.classes.MethodBody.{MethodBody}
use Rattle.com_filter.specs.declared.Rule.{Rule}
use Rattle.com_text.specs.Words.{WordAt}
use Rattle.com_read_operands.specs.declared.faults.Fault.{Fault}
use Rattle.com_read_operands.specs.Reading.{◌>>=◌, fault_at, first_at, end_at}
use Rattle.com_read_statements.specs.declared.calls.MethodNumber.{MethodNumber}
use Rattle.com_read_statements.specs.declared.keywords.Program.{Program}
use Rattle.com_read_statements.specs.declared.keywords.Program.TheVariants as programs
use Rattle.com_read_statements.specs.declared.keywords.Keyword.{Keyword}
use Rattle.com_read_statements.specs.declared.names.Names.{Names}
use Rattle.com_read_statements.specs.Keywords.{keyword_of}
use Rattle.com_read_statements.specs.Calls.{method_at}
use Rattle.com_read_lines.specs.declared.rules.RuleWord.{RuleWord}
use Rattle.com_read_lines.specs.Codes.{CodeAt, code_more, no_code, checked_by, checked}
use Rattle.com_read_lines.specs.Declaring.{free_guid_at, free_name_at, interface_name_at, filter_name_at, model_at, native_at, natives_of, listed_at, picks_on}
use Rattle.com_read_lines.specs.Rules.{rule_word_of, rule_of}
use Rattle.com_read_lines.specs.Programs.{spot_at, program_line}
use Rattle.com_read_sections.specs.declared.begin.SectionWord.{SectionWord}
use Rattle.com_read_sections.specs.declared.state.State.{State}
use Rattle.com_read_sections.specs.declared.state.Section.TheVariants as within
use Rattle.com_read_sections.specs.Beginning.{section_word_of, pool_line, interface_line, class_line, native_line, filter_line, thread_line, picks_line, top_by, top_line}
use Rattle.com_read_sections.specs.Opened.{method_line, inner_interface, has_body, body_head, class_ended, inner_class, program_of, with_body, inner_body, inner_thread, ruled, inner_filter, by_section, step}
use Rattle.com_laws_language.specs.Orders.{InOrder}
use Rattle.com_laws_language.specs.Sections.{Line, BodyLines, body_lines}
use Rattle.com_laws_language.specs.Spelling.{Begins, IsEnd, IsMethod, IsStatement, IsRule, IsBody, number_of_body, IsPool, IsPicks}
use Rattle.com_laws_language.proofs.Lists.{ok_same, bound, binds, bytes_same, same_bytes}
use Rattle.com_laws_language.proofs.States.{pooled, interface_begun, class_begun, class_added, filter_begun, thread_begun, picked}
use Rattle.com_laws_language.proofs.Found.{new_interface, new_class}

-- ---- lines one after another

abbrev pub steps : State → List Line → Result State Fault
steps st [] = Ok st
steps st (l ∷ ls) = step st l >>= λ next. steps next ls

pub joins : (st : State) (xs ys : List Line) (mid : State) (r : Result State Fault) → steps st xs ≡ Ok mid → steps mid ys ≡ r → steps st (xs ++ ys) ≡ r
joins st [] ys mid r e f = subst (λ (s : State). steps s ys ≡ r) (sym (ok_same st mid e)) f
joins st (x ∷ xs) ys mid r e f =
    let a = bound (step st x) _ mid e in
    binds (step st x) _ a.0 r a.1 (joins a.0 xs ys mid r a.2 f)

pub one_line : (st next : State) (l : Line) → step st l ≡ Ok next → steps st (l ∷ []) ≡ Ok next
one_line st next l e = binds (step st l) _ next _ e refl

-- a line is read where it has a first word
pub worded_step : (st : State) (line : Line) (w : WordAt) (r : Result State Fault) → first_at line ≡ Ok w → by_section st line st.section ≡ r → step st line ≡ r
unfolding step first_at
worded_step st [] w r e f = absurd cc
worded_step st (v ∷ vs) w r e f = f

-- ---- outside of sections

pub top_reads : (st : State) (line : Line) (word : List ℕ) (k : SectionWord) (r : Result State Fault) (b : Begins line word) → section_word_of word ≡ Some k → top_by st line b.first (Some k) ≡ r → top_line st line ≡ r
unfolding top_line
top_reads st line word k r b e f = binds (first_at line) _ b.first r b.stands (ap (λ (bs : List ℕ). top_by st line b.first (section_word_of bs)) b.same ∙ ap (λ (o : Option SectionWord). top_by st line b.first o) e ∙ f)

module _ (st : State) (w : WordAt) (line : Line) where
  pub pool_reads : (n : ℕ) → is_some st.pool ≡ false → IsPool line n → pool_line st w line ≡ Ok (pooled st n)
  unfolding pool_line
  pool_reads n none h = rw (none, h.number, h.no_more) refl

  pub interface_reads : (name : List ℕ) (iid : Guid) (word : WordAt) → nat_le 64 (length st.names.interfaces) ≡ false → interface_name_at st.names.interfaces line ≡ Ok word → name ≡ word.bytes → free_guid_at st.iids line 2 ≡ Ok iid
      → end_at line 3 ≡ Ok tt → interface_line st w line ≡ Ok (interface_begun st (new_interface name iid))
  unfolding interface_line
  interface_reads name iid word few named same guid ends = rw (few, named, guid, ends) (ap (λ (n : List ℕ). Ok (interface_begun st (new_interface n iid))) (sym same))

  pub class_reads : (c : Class) (word : WordAt) → nat_le 64 (length st.names.classes) ≡ false → free_name_at st.names.classes line 1 ≡ Ok word → c.name ≡ word.bytes → free_guid_at st.clsids line 2 ≡ Ok c.clsid → model_at line 3 ≡ Ok c.model
      → listed_at st.names.interfaces line ≡ Ok c.interfaces → class_line st w line ≡ Ok (class_begun st (new_class c.name c.clsid c.model c.interfaces))
  unfolding class_line
  class_reads c word few named same guid model listed = rw (few, named, guid, model, listed) (ap (λ (n : List ℕ). Ok (class_begun st (new_class n c.clsid c.model c.interfaces))) (sym same))

  pub native_reads : (c : Class) → nat_le 64 (length st.names.classes) ≡ false → (word : WordAt) → free_name_at st.names.classes line 1 ≡ Ok word → c.name ≡ word.bytes → free_guid_at st.clsids line 2 ≡ Ok c.clsid → model_at line 3 ≡ Ok c.model
      → native_at c.model line 4 ≡ Ok c.native → end_at line 5 ≡ Ok tt → c.interfaces ≡ natives_of c.native → c.bodies ≡ [] → native_line st w line ≡ Ok (class_added st c)
  unfolding native_line
  native_reads c few word named same guid model native ends listed none = rw (few, named, guid, model, native, ends)
      (ap (λ (n : List ℕ). Ok (class_added st (record c { name = n; interfaces = natives_of c.native; bodies = [] }))) (sym same)
      ∙ ap (λ (x : List ℕ). Ok (class_added st (record c { interfaces = x; bodies = [] }))) (sym listed)
      ∙ ap (λ (b : List MethodBody). Ok (class_added st (record c { bodies = b }))) (sym none))

  pub filter_reads : (name : List ℕ) (word : WordAt) → nat_le 16 (length st.names.filters) ≡ false → filter_name_at st.names.filters line ≡ Ok word → name ≡ word.bytes → end_at line 2 ≡ Ok tt → filter_line st w line ≡ Ok (filter_begun st name [])
  unfolding filter_line
  filter_reads name word few named same ends = rw (few, named, ends) (ap (λ (n : List ℕ). Ok (filter_begun st n [])) (sym same))

  pub thread_reads : nat_le 16 (length st.threads) ≡ false → end_at line 1 ≡ Ok tt → thread_line st w line ≡ Ok (thread_begun st no_code)
  unfolding thread_line
  thread_reads few ends = rw (few, ends) refl

  pub picks_reads : (lanes : List ℕ) → IsPicks line lanes → picks_line st line ≡ Ok (picked st lanes)
  unfolding picks_line
  picks_reads lanes h = binds (picks_on [] line 1 (drop 1 line)) _ lanes _ h.numbers refl

-- ---- methods

-- a test on a line's first word
chosen : {A : Type 0} (bytes word : List ℕ) (x y r : A) → bytes ≡ word → x ≡ r → cond (bytes_eq bytes word) x y ≡ r
chosen bytes word x y r e f = ap (λ (b : Bool). cond b x y) (bytes_same bytes word e) ∙ f

pub other : {A : Type 0} (b : Bool) (x y r : A) → b ≡ false → y ≡ r → cond b x y ≡ r
other b x y r e f = ap (λ (c : Bool). cond c x y) e ∙ f

method_step : (st : State) (i : Interface) (line : Line) (m : Method) → IsMethod st.names.interfaces i.methods line m → nat_le 32 (length i.methods) ≡ false
    → step (record st { section = within.Interface i }) line ≡ Ok (record st { section = within.Interface (record i { methods = i.methods ++ m ∷ [] }) })
unfolding inner_interface method_line
method_step st i line m h few =
    worded_step (record st { section = within.Interface i }) line h.begins.first _ h.begins.stands (binds (first_at line) _ h.begins.first _ h.begins.stands
    (chosen h.begins.first.bytes (codes "method") _ _ _ h.begins.same (rw (few, h.spells) refl)))

pub methods_read : (st : State) (i : Interface) (lines : List Line) (ms : List Method) → InOrder (IsMethod st.names.interfaces) i.methods lines ms → length (i.methods ++ ms) ≤ 32
    → steps (record st { section = within.Interface i }) lines ≡ Ok (record st { section = within.Interface (record i { methods = i.methods ++ ms }) })
methods_read st i [] [] h few = ap (λ (ms : List Method). Ok (record st { section = within.Interface (record i { methods = ms }) })) (sym (append-nil i.methods))
methods_read st i [] (m ∷ ms) h few = absurd h
methods_read st i (l ∷ ls) [] h few = absurd h
methods_read st i (l ∷ ls) (m ∷ ms) h few =
    let more = append_assoc i.methods (m ∷ []) ms in
    let j = record i { methods = i.methods ++ m ∷ [] } in
    binds (step (record st { section = within.Interface i }) l) _ (record st { section = within.Interface j }) _ (method_step st i l m h.0 (lt-leb 32 (length i.methods) (omega (arith, few, length-append i.methods (m ∷ ms)))))
    (methods_read st j ls ms h.1 (subst (λ (ks : List Method). length ks ≤ 32) (sym more) few) ∙ ap (λ (ks : List Method). Ok (record st { section = within.Interface (record i { methods = ks }) })) more)

-- ---- ends

end_reads : (line : Line) (r : Result State Fault) (x : Result State Fault) (y : WordAt → Result State Fault) → IsEnd line → x ≡ r → (first_at line >>= λ w. (cond (bytes_eq w.bytes (codes "end")) x (y w))) ≡ r
end_reads line r x y h e = binds (first_at line) _ h.begins.first r h.begins.stands (chosen h.begins.first.bytes (codes "end") x (y h.begins.first) r h.begins.same e)

pub filter_end : (st : State) (rules : List Rule) (line : Line) → IsEnd line → step (record st { section = within.Filter rules }) line ≡ Ok (record st { filters = st.filters ++ rules ∷ []; section = within.Top })
unfolding inner_filter
filter_end st rules line h = worded_step _ line h.begins.first _ h.begins.stands (end_reads line _ _ _ h (binds (end_at line 1) _ tt _ h.alone refl))

pub thread_end : (st : State) (code : CodeAt) (line : Line) → fault_of code.statements 2000 ≡ None → IsEnd line
    → step (record st { section = within.Thread code }) line ≡ Ok (record st { threads = st.threads ++ code.statements ∷ []; section = within.Top })
unfolding inner_thread
thread_end st code line sound h = worded_step _ line h.begins.first _ h.begins.stands (end_reads line _ _ _ h (binds (checked code 2000) _ code.statements _ (ap (checked_by code) sound) (binds (end_at line 1) _ tt _ h.alone refl)))

pub body_end : (st : State) (c : Class) (n : MethodNumber) (code : CodeAt) (line : Line) → fault_of code.statements 200 ≡ None → IsEnd line
    → step (record st { section = within.Body c n code }) line ≡ Ok (record st { section = within.Class (with_body c n code.statements) })
unfolding inner_body
body_end st c n code line sound h = worded_step _ line h.begins.first _ h.begins.stands (end_reads line _ _ _ h (binds (checked code 200) _ code.statements _ (ap (checked_by code) sound) (binds (end_at line 1) _ tt _ h.alone refl)))

pub class_end : (st : State) (c : Class) (line : Line) → IsEnd line → step (record st { section = within.Class c }) line ≡ Ok (record st { classes = st.classes ++ c ∷ []; section = within.Top })
unfolding inner_class
class_end st c line h = worded_step _ line h.begins.first _ h.begins.stands (binds (first_at line) _ h.begins.first _ h.begins.stands
    (ap (λ (bs : List ℕ). cond (bytes_eq bs (codes "body")) (body_head (record st { section = within.Class c }) c line) (cond (bytes_eq bs (codes "end")) (class_ended (record st { section = within.Class c }) c line) (Err (fault_at 3 h.begins.first)))) h.begins.same
    ∙ binds (end_at line 1) _ tt _ h.alone refl))

-- ---- rules

ruled_other : (bytes : List ℕ) (o : Option RuleWord) → rule_word_of bytes ≡ o → is_some o ≡ true → bytes_eq bytes (codes "end") ≡ false
ruled_other bytes o e s = by (bytes_eq bytes (codes "end")) refl
  where
    by : (b : Bool) → bytes_eq bytes (codes "end") ≡ b → b ≡ false
    by true f = let none : is_some (rule_word_of bytes) ≡ false = ap (λ (bs : List ℕ). is_some (rule_word_of bs)) (same_bytes bytes (codes "end") f) in
        let some : is_some (rule_word_of bytes) ≡ true = ap is_some e ∙ s in sym some ∙ none
    by false f = refl

rule_step : (st : State) (done : List Rule) (line : Line) (r : Rule) → IsRule done line r → nat_le 32 (length done) ≡ false → step (record st { section = within.Filter done }) line ≡ Ok (record st { section = within.Filter (done ++ r ∷ []) })
unfolding inner_filter
rule_step st done line r h few = worded_step (record st { section = within.Filter done }) line h.first _ h.stands (binds (first_at line) _ h.first _ h.stands
    (other (bytes_eq h.first.bytes (codes "end")) _ _ _ (ruled_other h.first.bytes (Some h.kind) h.known refl)
    (binds (ruled done h.first line (rule_word_of h.first.bytes)) _ (done ++ r ∷ []) _ (ap (ruled done h.first line) h.known ∙ other (nat_le 32 (length done)) _ _ _ few (binds (rule_of h.kind line) _ r _ h.spells refl)) refl)))

pub rules_read : (st : State) (done : List Rule) (lines : List Line) (rs : List Rule) → InOrder IsRule done lines rs → length (done ++ rs) ≤ 32
    → steps (record st { section = within.Filter done }) lines ≡ Ok (record st { section = within.Filter (done ++ rs) })
rules_read st done [] [] h few = ap (λ (rs : List Rule). Ok (record st { section = within.Filter rs })) (sym (append-nil done))
rules_read st done [] (r ∷ rs) h few = absurd h
rules_read st done (l ∷ ls) [] h few = absurd h
rules_read st done (l ∷ ls) (r ∷ rs) h few =
    let more = append_assoc done (r ∷ []) rs in
    binds (step (record st { section = within.Filter done }) l) _ (record st { section = within.Filter (done ++ r ∷ []) }) _ (rule_step st done l r h.0 (lt-leb 32 (length done) (omega (arith, few, length-append done (r ∷ rs)))))
    (rules_read st (done ++ r ∷ []) ls rs h.1 (subst (λ (ks : List Rule). length ks ≤ 32) (sym more) few) ∙ ap (λ (ks : List Rule). Ok (record st { section = within.Filter ks })) more)

-- ---- statements

no_keyword : is_some (keyword_of (codes "end")) ≡ false
unfolding keyword_of
no_keyword = refl

keyword_other : (bytes : List ℕ) (k : Keyword) → keyword_of bytes ≡ Some k → bytes_eq bytes (codes "end") ≡ false
keyword_other bytes k e = by (bytes_eq bytes (codes "end")) refl
  where
    by : (b : Bool) → bytes_eq bytes (codes "end") ≡ b → b ≡ false
    by true f = sym (ap is_some e) ∙ ap (λ (bs : List ℕ). is_some (keyword_of bs)) (same_bytes bytes (codes "end") f) ∙ no_keyword
    by false f = refl

statement_reads : (limit : ℕ) (p : Program) (names : Names) (code : CodeAt) (line : Line) (s : Stmt) (h : IsStatement p names code.statements line s) → nat_le limit (length code.statements) ≡ false
    → program_line p limit names code h.first line ≡ Ok (code_more code s (spot_at h.keyword line))
unfolding program_line
statement_reads limit p names code line s h few = rw (h.known, h.taken, few, h.spells) refl

short_by : (b : Bool) (x : BodyFault) (o : Option BodyFault) → cond b (Some x) o ≡ None → b ≡ false
short_by true x o e = absurd cc
short_by false x o e = refl

pub short : (ss : List Stmt) (limit : ℕ) → fault_of ss limit ≡ None → length ss ≤ limit
short ss limit e = ltb-false limit (length ss) (short_by (nat_lt limit (length ss)) _ _ e)

-- the statements of a script or a body so far, and what its section is then
module _ (limit : ℕ) (p : Program) (st : State) (opens : CodeAt → State)
    (next : (code more : CodeAt) (line : Line) (w : WordAt) → first_at line ≡ Ok w → bytes_eq w.bytes (codes "end") ≡ false → program_line p limit st.names code w line ≡ Ok more → step (opens code) line ≡ Ok (opens more)) where
  pub statements_read : (code : CodeAt) (lines : List Line) (ss : List Stmt) → InOrder (IsStatement p st.names) code.statements lines ss → length (code.statements ++ ss) ≤ limit
      → (more : CodeAt) × (more.statements ≡ code.statements ++ ss) × (steps (opens code) lines ≡ Ok (opens more))
  statements_read code [] [] h few = (code, sym (append-nil code.statements), refl)
  statements_read code [] (s ∷ ss) h few = absurd h
  statements_read code (l ∷ ls) [] h few = absurd h
  statements_read code (l ∷ ls) (s ∷ ss) h few =
      let more = append_assoc code.statements (s ∷ []) ss in
      let full = lt-leb limit (length code.statements) (omega (arith, few, length-append code.statements (s ∷ ss))) in
      let added = code_more code s (spot_at h.0.keyword l) in
      let rest = statements_read added ls ss h.1 (subst (λ (ks : List Stmt). length ks ≤ limit) (sym more) few) in
      (rest.0, rest.1 ∙ more, binds (step (opens code) l) _ (opens added) _ (next code added l h.0.first h.0.stands (keyword_other h.0.first.bytes h.0.keyword h.0.known) (statement_reads limit p st.names code l s h.0 full)) rest.2)

pub script_next : (st : State) (code more : CodeAt) (line : Line) (w : WordAt) → first_at line ≡ Ok w → bytes_eq w.bytes (codes "end") ≡ false → program_line programs.Script 2000 st.names code w line ≡ Ok more
    → step (record st { section = within.Thread code }) line ≡ Ok (record st { section = within.Thread more })
unfolding inner_thread
script_next st code more line w e unlike f = worded_step (record st { section = within.Thread code }) line w _ e (binds (first_at line) _ w _ e (other (bytes_eq w.bytes (codes "end")) _ _ _ unlike (rw f refl)))

pub body_next : (st : State) (c : Class) (n : MethodNumber) (code more : CodeAt) (line : Line) (w : WordAt) → first_at line ≡ Ok w → bytes_eq w.bytes (codes "end") ≡ false → program_line (program_of c.model) 200 st.names code w line ≡ Ok more
    → step (record st { section = within.Body c n code }) line ≡ Ok (record st { section = within.Body c n more })
unfolding inner_body
body_next st c n code more line w e unlike f = worded_step (record st { section = within.Body c n code }) line w _ e (binds (first_at line) _ w _ e (other (bytes_eq w.bytes (codes "end")) _ _ _ unlike (rw f refl)))

-- ---- bodies

body_begins : (st : State) (c : Class) (line : Line) (n : MethodNumber) → Begins line (codes "body") → method_at st.names line 1 ≡ Ok n → has_body c.bodies n ≡ false → end_at line 2 ≡ Ok tt
    → step (record st { section = within.Class c }) line ≡ Ok (record st { section = within.Body c n no_code })
unfolding inner_class body_head
body_begins st c line n b method once ends = worded_step (record st { section = within.Class c }) line b.first _ b.stands (binds (first_at line) _ b.first _ b.stands
    (chosen b.first.bytes (codes "body") _ _ _ b.same (rw (method, once, ends) refl)))

body_reads : (st : State) (c : Class) (lines : BodyLines) (b : MethodBody) → IsBody st.names c.model c.bodies lines b
    → steps (record st { section = within.Class c }) (body_lines lines) ≡ Ok (record st { section = within.Class (record c { bodies = c.bodies ++ b ∷ [] }) })
body_reads st c lines b h =
    let n = number_of_body b in
    let q = statements_read 200 (program_of c.model) st (λ code. record st { section = within.Body c n code }) (body_next st c n) no_code lines.statements b.body h.statements (short b.body 200 h.whole) in
    let sound = subst (λ (ss : List Stmt). fault_of ss 200 ≡ None) (sym q.1) h.whole in
    joins (record st { section = within.Class c }) (lines.head ∷ lines.statements) (lines.last ∷ []) (record st { section = within.Body c n q.0 }) _
    (binds (step (record st { section = within.Class c }) lines.head) _ (record st { section = within.Body c n no_code }) _ (body_begins st c lines.head n h.begins h.method h.once h.no_more) q.2)
    (one_line _ _ lines.last (body_end st c n q.0 lines.last sound h.closed) ∙ ap (λ (ss : List Stmt). Ok (record st { section = within.Class (with_body c n ss) })) q.1)

pub bodies_read : (st : State) (c : Class) (lines : List BodyLines) (bs : List MethodBody) → InOrder (IsBody st.names c.model) c.bodies lines bs
    → steps (record st { section = within.Class c }) (flat_map body_lines lines) ≡ Ok (record st { section = within.Class (record c { bodies = c.bodies ++ bs }) })
bodies_read st c [] [] h = ap (λ (bs : List MethodBody). Ok (record st { section = within.Class (record c { bodies = bs }) })) (sym (append-nil c.bodies))
bodies_read st c [] (b ∷ bs) h = absurd h
bodies_read st c (l ∷ ls) [] h = absurd h
bodies_read st c (l ∷ ls) (b ∷ bs) h =
    let d = record c { bodies = c.bodies ++ b ∷ [] } in
    joins (record st { section = within.Class c }) (body_lines l) (flat_map body_lines ls) (record st { section = within.Class d }) _ (body_reads st c l b h.0)
    (bodies_read st d ls bs h.1 ∙ ap (λ (ks : List MethodBody). Ok (record st { section = within.Class (record c { bodies = ks }) })) (append_assoc c.bodies (b ∷ []) bs))
