-- Sections that declare parts are read as these parts.
use Rattle.std.proofs.Common.{◌≡◌, ℕ, ◌+◌, ◌≤◌, false, cond, List, [], ◌∷◌, ◌++◌, length, map, flat_map, slice_get, Some, None, is_some, Result, Ok, refl, sym, ap, ◌∙◌, subst, arith, codes, bytes_eq, append_assoc, append-nil}
use Rattle.std.proofs.lemmas.List.{length-map}
use Rattle.std.proofs.lemmas.Bool.{lt-leb}
use Rattle.com_body.specs.declared.frame.Native.{Native}
use Rattle.com_body.specs.declared.statements.Stmt.{Stmt}
use Rattle.com_body.specs.Bodies.{fault_of}
use Rattle.com_classes.specs.declared.interfaces.Interface.{Interface}
use Rattle.com_classes.specs.declared.classes.Class.{Class}
use Rattle.com_classes.specs.BuiltIns.{built_in_interfaces}
use Rattle.com_filter.specs.declared.Rule.{Rule}
use Rattle.com_read_operands.specs.declared.faults.Fault.{Fault}
use Rattle.com_read_operands.specs.Reading.{first_at}
use Rattle.com_read_statements.specs.declared.keywords.Program.TheVariants as programs
use Rattle.com_read_lines.specs.Codes.{no_code}
use Rattle.com_read_sections.specs.declared.begin.SectionWord.{SectionWord}
use Rattle.com_read_sections.specs.declared.begin.SectionWord.TheVariants as begins
use Rattle.com_read_sections.specs.declared.state.State.{State}
use Rattle.com_read_sections.specs.declared.state.Section.{Section as Open}
use Rattle.com_read_sections.specs.declared.state.Section.TheVariants as within
use Rattle.com_read_sections.specs.Beginning.{section_word_of, top_by, top_line}
use Rattle.com_read_sections.specs.Opened.{interface_closed, inner_interface, by_section, step}
use Rattle.com_read_sections.specs.Outlines.{outlined, finished, finish}
use Rattle.com_laws_language.specs.Orders.{InOrder}
use Rattle.com_laws_language.specs.Sections.{Line, BodyLines, body_lines, Section, section_lines, pool, interface, class, native, filter, thread, picks}
use Rattle.com_laws_language.specs.Parts.{Part, of_lanes, of_interface, of_class, of_filter, of_script, of_picks, lanes_in, interface_in, class_in, filter_name_in, script_in, name_of_class, name_of_interface, IsWithinLimits}
use Rattle.com_laws_language.specs.Spelling.{Begins, IsPool, IsInterface, IsClass, IsNative, IsFilter, IsThread, IsPicks, Declares}
use Rattle.com_laws_language.proofs.Lists.{binds, few_before}
use Rattle.com_laws_language.proofs.States.{from, state_at, interface_begun, class_begun, class_added, filter_begun, thread_begun, script_added, with_lanes, with_interface, with_class, with_filter, with_script, with_picks}
use Rattle.com_laws_language.proofs.Found.{new_interface, new_class}
use Rattle.com_laws_language.proofs.Takes.{steps, joins, one_line, worded_step, top_reads, other, pool_reads, interface_reads, class_reads, native_reads, filter_reads, thread_reads, picks_reads, methods_read, filter_end, thread_end, class_end, rules_read, short, statements_read, script_next, bodies_read}

-- outside of sections, or behind an interface, which nothing ends
pub data Ready (v : ℕ) (parts : List Part) (st : State) : Type 0 where
  outside : st ≡ state_at v parts → Ready v parts st
  behind : (i : Interface) → st.section ≡ within.Interface i → interface_closed st i ≡ state_at v parts → Ready v parts st

otherwise : {A : Type 0} (bytes word not_this : List ℕ) (x y r : A) → bytes ≡ word → bytes_eq word not_this ≡ false → y ≡ r → cond (bytes_eq bytes not_this) x y ≡ r
otherwise bytes word not_this x y r e unlike f = other (bytes_eq bytes not_this) x y r (ap (λ (bs : List ℕ). bytes_eq bs not_this) e ∙ unlike) f

ready_step : (v : ℕ) (parts : List Part) (st : State) (line : Line) (word : List ℕ) (k : SectionWord) (r : Result State Fault) → Ready v parts st → (b : Begins line word) → section_word_of word ≡ Some k → bytes_eq word (codes "method") ≡ false
    → top_by (state_at v parts) line b.first (Some k) ≡ r → step st line ≡ r
unfolding inner_interface from
ready_step v parts st line word k r (outside e) b s unlike f =
    ap (λ (x : State). step x line) e ∙ worded_step (state_at v parts) line b.first r b.stands (top_reads (state_at v parts) line word k r b s f)
ready_step v parts st line word k r (behind i s c) b sw unlike f =
    worded_step st line b.first r b.stands (ap (λ (x : Open). by_section st line x) s ∙ binds (first_at line) _ b.first r b.stands
    (otherwise b.first.bytes word (codes "method") _ _ r b.same unlike (ap (λ (x : State). top_line x line) c ∙ top_reads (state_at v parts) line word k r b sw f)))

-- ---- sections

no_lanes : (xs : List ℕ) → length xs + 1 ≤ 1 → xs ≡ []
no_lanes [] h = refl
no_lanes (x ∷ xs) h = absurd (omega arith)

module _ (v : ℕ) (above rest : List Part) (st : State) (r : Ready v above st) where
  abbrev Reads : Section → Part → Type 0
  Reads section part = (next : State) × (steps st (section_lines section) ≡ Ok next) × Ready v (above ++ part ∷ []) next

  pool_down : (head : Line) (n : ℕ) → IsWithinLimits (above ++ of_lanes n ∷ rest) → IsPool head n → Reads (pool head) (of_lanes n)
  unfolding from
  pool_down head n h d =
      let none = no_lanes (flat_map lanes_in above) (few_before lanes_in above (of_lanes n) rest 1 h.pools) in (
        state_at v (above ++ of_lanes n ∷ []),
        one_line st _ head (ready_step v above st head (codes "pool") begins.Pool _ r d.begins refl refl
            (pool_reads (state_at v above) d.begins.first head n (ap (λ (xs : List ℕ). is_some (slice_get xs 0)) none) d ∙ ap Ok (sym (with_lanes v above n none)))),
        outside refl,
      )

  interface_down : (head : Line) (lines : List Line) (i : Interface) → IsWithinLimits (above ++ of_interface i ∷ rest) → IsInterface above head lines i → Reads (interface head lines) (of_interface i)
  unfolding from
  interface_down head lines i h d =
      let S = state_at v above in
      let own = flat_map interface_in above in
      let few = few_before interface_in above (of_interface i) rest 60 h.interfaces in
      let free = lt-leb 64 (length (map name_of_interface (built_in_interfaces ++ own))) (omega (arith, few, length-map own name_of_interface)) in
      let i0 = new_interface i.name i.iid in (
        interface_begun S i,
        binds (step st head) _ (interface_begun S i0) _
            (ready_step v above st head (codes "interface") begins.Interface _ r d.begins refl refl (interface_reads S d.begins.first head i.name i.iid d.word free d.named d.name d.iid d.no_more))
            (methods_read (interface_begun S i0) i0 lines i.methods d.methods d.few),
        behind i refl (sym (with_interface v above i)),
      )

  class_down : (head : Line) (lines : List BodyLines) (last : Line) (c : Class) → IsWithinLimits (above ++ of_class c ∷ rest) → IsClass above head lines last c → Reads (class head lines last) (of_class c)
  unfolding from
  class_down head lines last c h d =
      let S = state_at v above in
      let few = few_before class_in above (of_class c) rest 64 h.classes in
      let free = lt-leb 64 (length (map name_of_class (flat_map class_in above))) (omega (arith, few, length-map (flat_map class_in above) name_of_class)) in
      let c0 = new_class c.name c.clsid c.model c.interfaces in
      let T = class_begun S c0 in (
        state_at v (above ++ of_class c ∷ []),
        joins st (head ∷ flat_map body_lines lines) (last ∷ []) (record T { section = within.Class (record c0 { bodies = c.bodies }) }) _
            (binds (step st head) _ T _
            (ready_step v above st head (codes "class") begins.Class _ r d.begins refl refl (class_reads S d.begins.first head c d.word free d.named d.name d.clsid d.model d.interfaces))
            (bodies_read T c0 lines c.bodies d.bodies))
            (one_line _ _ last (class_end T (record c0 { bodies = c.bodies }) last d.closed)
            ∙ ap (λ (n : Native). Ok (class_added S (record c { native = n }))) (sym d.written) ∙ ap Ok (sym (with_class v above c))),
        outside refl,
      )

  native_down : (head : Line) (c : Class) → IsWithinLimits (above ++ of_class c ∷ rest) → IsNative above head c → Reads (native head) (of_class c)
  unfolding from
  native_down head c h d =
      let S = state_at v above in
      let few = few_before class_in above (of_class c) rest 64 h.classes in
      let free = lt-leb 64 (length (map name_of_class (flat_map class_in above))) (omega (arith, few, length-map (flat_map class_in above) name_of_class)) in (
        state_at v (above ++ of_class c ∷ []),
        one_line st _ head (ready_step v above st head (codes "native") begins.Native _ r d.begins refl refl
            (native_reads S d.begins.first head c free d.word d.named d.name d.clsid d.model d.kind d.no_more d.interfaces d.bodies ∙ ap Ok (sym (with_class v above c)))),
        outside refl,
      )

  filter_down : (head : Line) (lines : List Line) (last : Line) (name : List ℕ) (rules : List Rule) → IsWithinLimits (above ++ of_filter name rules ∷ rest) → IsFilter above head lines last name rules → Reads (filter head lines last) (of_filter name rules)
  unfolding from
  filter_down head lines last name rules h d =
      let S = state_at v above in
      let few = few_before filter_name_in above (of_filter name rules) rest 16 h.filters in
      let free = lt-leb 16 (length (flat_map filter_name_in above)) (omega (arith, few)) in
      let T = filter_begun S name [] in (
        state_at v (above ++ of_filter name rules ∷ []),
        joins st (head ∷ lines) (last ∷ []) (record T { section = within.Filter rules }) _
            (binds (step st head) _ T _
            (ready_step v above st head (codes "filter") begins.Filter _ r d.begins refl refl (filter_reads S d.begins.first head name d.word free d.named d.same d.no_more))
            (rules_read T [] lines rules d.ruled d.few))
            (one_line _ _ last (filter_end T rules last d.closed) ∙ ap Ok (sym (with_filter v above name rules))),
        outside refl,
      )

  thread_down : (head : Line) (lines : List Line) (last : Line) (script : List Stmt) → IsWithinLimits (above ++ of_script script ∷ rest) → IsThread above head lines last script → Reads (thread head lines last) (of_script script)
  unfolding from
  thread_down head lines last script h d =
      let S = state_at v above in
      let few = few_before script_in above (of_script script) rest 16 h.threads in
      let free = lt-leb 16 (length (flat_map script_in above)) (omega (arith, few)) in
      let q = statements_read 2000 programs.Script S (λ code. record S { section = within.Thread code }) (script_next S) no_code lines script d.statements (short script 2000 d.whole) in
      let sound = subst (λ (ss : List Stmt). fault_of ss 2000 ≡ None) (sym q.1) d.whole in (
        state_at v (above ++ of_script script ∷ []),
        joins st (head ∷ lines) (last ∷ []) (thread_begun S q.0) _
            (binds (step st head) _ (thread_begun S no_code) _
            (ready_step v above st head (codes "thread") begins.Thread _ r d.begins refl refl (thread_reads S d.begins.first head free d.no_more))
            q.2)
            (one_line _ _ last (thread_end S q.0 last sound d.closed) ∙ ap (λ (ss : List Stmt). Ok (script_added S ss)) q.1 ∙ ap Ok (sym (with_script v above script))),
        outside refl,
      )

  picks_down : (head : Line) (lanes : List ℕ) → IsPicks head lanes → Reads (picks head) (of_picks lanes)
  unfolding from
  picks_down head lanes d = (
    state_at v (above ++ of_picks lanes ∷ []),
    one_line st _ head (ready_step v above st head (codes "picks") begins.Picks _ r d.begins refl refl
        (picks_reads (state_at v above) d.begins.first head lanes d ∙ ap Ok (sym (with_picks v above lanes)))),
    outside refl,
  )

  section_down : (section : Section) (part : Part) → IsWithinLimits (above ++ part ∷ rest) → Declares above section part → Reads section part
  section_down (pool head) (of_lanes n) h d = pool_down head n h d
  section_down (interface head lines) (of_interface i) h d = interface_down head lines i h d
  section_down (class head lines last) (of_class c) h d = class_down head lines last c h d
  section_down (native head) (of_class c) h d = native_down head c h d
  section_down (filter head lines last) (of_filter name rules) h d = filter_down head lines last name rules h d
  section_down (thread head lines last) (of_script body) h d = thread_down head lines last body h d
  section_down (picks head) (of_picks lanes) h d = picks_down head lanes d
  section_down _ _ h d = absurd d

pub sections_down : (v : ℕ) (sections : List Section) (above parts : List Part) (st : State) → Ready v above st → InOrder Declares above sections parts → IsWithinLimits (above ++ parts)
    → (next : State) × (steps st (flat_map section_lines sections) ≡ Ok next) × Ready v (above ++ parts) next
sections_down v [] above [] st r d h = (st, refl, subst (λ (ps : List Part). Ready v ps st) (sym (append-nil above)) r)
sections_down v [] above (p ∷ ps) st r d h = absurd d
sections_down v (s ∷ ss) above [] st r d h = absurd d
sections_down v (s ∷ ss) above (p ∷ ps) st r d h =
    let more = append_assoc above (p ∷ []) ps in
    let a = section_down v above ps st r s p h d.0 in
    let b = sections_down v ss (above ++ p ∷ []) ps a.0 a.2 d.1 (subst IsWithinLimits (sym more) h) in
    (b.0, joins st (section_lines s) (flat_map section_lines ss) a.0 _ a.1 b.1, subst (λ (qs : List Part). Ready v qs b.0) more b.2)

pub ready_end : (v : ℕ) (parts : List Part) (st : State) (line column : ℕ) → Ready v parts st → finish st line column ≡ Ok (outlined (state_at v parts))
unfolding finish from
ready_end v parts st line column (outside e) = ap (λ (s : State). finish s line column) e
ready_end v parts st line column (behind i s c) = ap (λ (x : Open). finished st line column x) s ∙ ap (λ (x : State). Ok (outlined x)) c
