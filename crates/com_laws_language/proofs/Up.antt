-- Each line keeps what stands: what the reader takes is sections.
use Rattle.std.proofs.Common.{◌≡◌, ℕ, Bool, true, false, cond, List, [], ◌∷◌, ◌++◌, length, flat_map, Option, Some, None, Ok, Err, refl, sym, ap, ◌∙◌, subst, arith, codes, bytes_eq, append_assoc, length-append}
use Rattle.std.proofs.lemmas.Bool.{leb-false}
use Rattle.com_body.specs.declared.statements.Stmt.{Stmt}
use Rattle.com_classes.specs.declared.interfaces.Interface.{Interface}
use Rattle.com_classes.specs.declared.classes.Class.{Class}
use Rattle.com_filter.specs.declared.Rule.{Rule}
use Rattle.com_text.specs.Words.{WordAt}
use Rattle.com_read_operands.specs.Reading.{◌>>=◌, fault_at, first_at, end_at}
use Rattle.com_read_statements.specs.declared.calls.MethodNumber.{MethodNumber}
use Rattle.com_read_statements.specs.declared.keywords.Program.{Program}
use Rattle.com_read_statements.specs.declared.keywords.Program.TheVariants as programs
use Rattle.com_read_statements.specs.declared.names.Names.{Names}
use Rattle.com_read_lines.specs.Codes.{CodeAt, no_code, checked}
use Rattle.com_read_lines.specs.Rules.{rule_word_of}
use Rattle.com_read_lines.specs.Programs.{program_line}
use Rattle.com_read_sections.specs.declared.begin.SectionWord.{SectionWord}
use Rattle.com_read_sections.specs.declared.begin.SectionWord.TheVariants as begins
use Rattle.com_read_sections.specs.declared.state.State.{State}
use Rattle.com_read_sections.specs.declared.state.Section.TheVariants as within
use Rattle.com_read_sections.specs.Beginning.{section_word_of, pool_line, interface_line, class_line, native_line, filter_line, thread_line, picks_line, top_by, top_line}
use Rattle.com_read_sections.specs.Opened.{interface_closed, method_line, inner_interface, body_head, class_ended, inner_class, program_of, with_body, body_ended, inner_body, thread_ended, inner_thread, filter_ended, ruled, inner_filter, step}
use Rattle.com_laws_language.specs.Orders.{InOrder}
use Rattle.com_laws_language.specs.Sections.{Line, BodyLines, body_lines, Section, section_lines, pool, interface, class, native, filter, thread, picks}
use Rattle.com_laws_language.specs.Parts.{Part, of_lanes, of_interface, of_class, of_filter, of_script, of_picks, lanes_in, interface_in, class_in, names_below}
use Rattle.com_laws_language.specs.Spelling.{Begins, IsEnd, IsMethod, IsStatement, IsRule, IsBody, names_inside}
use Rattle.com_laws_language.proofs.Lists.{ok_same, bound, never, same_bytes, order_push, flat_push}
use Rattle.com_laws_language.proofs.States.{from, state_at, interface_begun, class_begun, filter_begun, thread_begun, script_added, with_lanes, with_interface, with_class, with_filter, with_script, with_picks}
use Rattle.com_laws_language.proofs.Found.{section_word, new_interface, new_class, new_native, pool_found, interface_found, class_found, native_found, filter_found, thread_found, picks_found, method_found, rule_found, statement_found, checked_found, body_head_found}
use Rattle.com_laws_language.proofs.Standing.{Whole, AtInterface, IsOpenClass, AtClass, AtBody, AtFilter, AtThread, Standing, at_top, at_interface, at_class, at_body, at_filter, at_thread, more_lanes, more_interfaces, more_classes, more_filters, more_scripts, more_picks, none_yet, room_for_interface, room_for_class, whole_push, closed}

pub begun_by : (line : Line) (w : WordAt) (word : List ℕ) → first_at line ≡ Ok w → w.bytes ≡ word → Begins line word
begun_by line w word e s = record { first = w; stands = e; same = s }

-- ---- outside of sections

module _ (v : ℕ) (sections : List Section) (parts : List Part) (h : Whole sections parts) (line : Line) (w : WordAt) (first : first_at line ≡ Ok w) (next : State) where
  abbrev Next : Type 0
  Next = Standing v (flat_map section_lines sections ++ line ∷ []) next

  pool_up : w.bytes ≡ codes "pool" → pool_line (state_at v parts) w line ≡ Ok next → Next
  unfolding from
  pool_up b e =
      let p = pool_found (state_at v parts) next w line e in
      let none = none_yet (flat_map lanes_in parts) p.1 in
      at_top (closed v sections parts (pool line) (of_lanes p.0) _ next h (record { begins = begun_by line w _ first b; number = p.2; no_more = p.3 }) (more_lanes parts h.limits p.0 none) refl (p.4 ∙ sym (with_lanes v parts p.0 none)))

  interface_up : w.bytes ≡ codes "interface" → interface_line (state_at v parts) w line ≡ Ok next → Next
  unfolding from
  interface_up b e =
      let p = interface_found (state_at v parts) next w line e in
      at_interface (record {
        sections = sections;
        parts = parts;
        head = line;
        more = [];
        i = new_interface p.0.bytes p.1;
        read = refl;
        whole = h;
        room = room_for_interface (flat_map interface_in parts) p.2;
        declares = record { begins = begun_by line w _ first b; word = p.0; named = p.3; name = refl; iid = p.4; no_more = p.5; methods = tt; few = omega arith };
        is = p.6;
      })

  class_up : w.bytes ≡ codes "class" → class_line (state_at v parts) w line ≡ Ok next → Next
  unfolding from
  class_up b e =
      let p = class_found (state_at v parts) next w line e in
      at_class (record {
        sections = sections;
        parts = parts;
        head = line;
        bodies = [];
        c = new_class p.0.bytes p.1 p.2 p.3;
        read = refl;
        whole = h;
        room = room_for_class (flat_map class_in parts) p.4;
        declares = record { begins = begun_by line w _ first b; word = p.0; named = p.5; name = refl; clsid = p.6; model = p.7; written = refl; interfaces = p.8; bodies = tt };
        is = p.9;
      })

  native_up : w.bytes ≡ codes "native" → native_line (state_at v parts) w line ≡ Ok next → Next
  unfolding from
  native_up b e =
      let p = native_found (state_at v parts) next w line e in
      let c = new_native p.0.bytes p.1 p.2 p.3 in
      at_top (closed v sections parts (native line) (of_class c) _ next h
      (record { begins = begun_by line w _ first b; word = p.0; named = p.5; name = refl; clsid = p.6; model = p.7; kind = p.8; no_more = p.9; interfaces = refl; bodies = refl })
      (more_classes parts h.limits c (room_for_class (flat_map class_in parts) p.4)) refl (p.10 ∙ sym (with_class v parts c)))

  filter_up : w.bytes ≡ codes "filter" → filter_line (state_at v parts) w line ≡ Ok next → Next
  unfolding from
  filter_up b e =
      let p = filter_found (state_at v parts) next w line e in
      at_filter (record {
        sections = sections;
        parts = parts;
        head = line;
        more = [];
        name = p.0.bytes;
        rules = [];
        read = refl;
        whole = h;
        room = leb-false 16 _ p.1;
        begins = begun_by line w _ first b;
        word = p.0;
        named = p.2;
        same = refl;
        no_more = p.3;
        ruled = tt;
        few = omega arith;
        is = p.4;
      })

  thread_up : w.bytes ≡ codes "thread" → thread_line (state_at v parts) w line ≡ Ok next → Next
  unfolding from
  thread_up b e =
      let p = thread_found (state_at v parts) next w line e in
      at_thread (record {
        sections = sections;
        parts = parts;
        head = line;
        more = [];
        code = no_code;
        read = refl;
        whole = h;
        room = leb-false 16 _ p.0;
        begins = begun_by line w _ first b;
        no_more = p.1;
        stated = tt;
        is = p.2;
      })

  picks_up : w.bytes ≡ codes "picks" → picks_line (state_at v parts) line ≡ Ok next → Next
  unfolding from
  picks_up b e =
      let p = picks_found (state_at v parts) next w line e in
      at_top (closed v sections parts (picks line) (of_picks p.0) _ next h (record { begins = begun_by line w _ first b; numbers = p.1 }) (more_picks parts h.limits p.0) refl (p.2 ∙ sym (with_picks v parts p.0)))

  by_word : (o : Option SectionWord) → section_word_of w.bytes ≡ o → top_by (state_at v parts) line w o ≡ Ok next → Next
  by_word None s e = never _ _ _ e
  by_word (Some begins.Pool) s e = pool_up (section_word w.bytes begins.Pool s) e
  by_word (Some begins.Interface) s e = interface_up (section_word w.bytes begins.Interface s) e
  by_word (Some begins.Class) s e = class_up (section_word w.bytes begins.Class s) e
  by_word (Some begins.Native) s e = native_up (section_word w.bytes begins.Native s) e
  by_word (Some begins.Filter) s e = filter_up (section_word w.bytes begins.Filter s) e
  by_word (Some begins.Thread) s e = thread_up (section_word w.bytes begins.Thread s) e
  by_word (Some begins.Picks) s e = picks_up (section_word w.bytes begins.Picks s) e

top_up : (v : ℕ) (sections : List Section) (parts : List Part) → Whole sections parts → (line : Line) (next : State) → top_line (state_at v parts) line ≡ Ok next → Standing v (flat_map section_lines sections ++ line ∷ []) next
unfolding top_line
top_up v sections parts h line next e =
    let a = bound (first_at line) _ next e in
    by_word v sections parts h line a.0 a.1 next (section_word_of a.0.bytes) refl a.2

-- what stands, by other lines that are the same
moved : (v : ℕ) (lines others : List Line) (line : Line) (next : State) → lines ≡ others → Standing v (others ++ line ∷ []) next → Standing v (lines ++ line ∷ []) next
moved v lines others line next e s = subst (λ (l : List Line). Standing v (l ++ line ∷ []) next) (sym e) s

-- one line more behind the first lines of a section
longer : (front : List Line) (head : Line) (more : List Line) (lines : List Line) (line : Line) → lines ≡ front ++ head ∷ more → lines ++ line ∷ [] ≡ front ++ (head ∷ (more ++ line ∷ []))
longer front head more lines line e = ap (λ (l : List Line). l ++ line ∷ []) e ∙ append_assoc front (head ∷ more) (line ∷ [])

-- ---- interfaces

interface_more : (v : ℕ) (lines : List Line) (st : State) (line : Line) (w : WordAt) (next : State) (t : AtInterface v lines st) → first_at line ≡ Ok w → (b : Bool) → bytes_eq w.bytes (codes "method") ≡ b
    → cond b (method_line (interface_begun (state_at v t.parts) t.i).names.interfaces t.i w line >>= λ more. Ok (record (interface_begun (state_at v t.parts) t.i) { section = within.Interface more }))
    (top_line (interface_closed (interface_begun (state_at v t.parts) t.i) t.i) line) ≡ Ok next
    → Standing v (lines ++ line ∷ []) next
unfolding from
interface_more v lines st line w next t first true b e =
    let S = state_at v t.parts in
    let p = bound (method_line (interface_begun S t.i).names.interfaces t.i w line) _ next e in
    let q = method_found (interface_begun S t.i).names.interfaces t.i p.0 w line p.1 in
    let d = t.declares in
    let few = leb-false 32 (length t.i.methods) q.1 in
    let i = record (t.i) { methods = t.i.methods ++ q.0 ∷ [] } in
    at_interface (record {
      sections = t.sections;
      parts = t.parts;
      head = t.head;
      more = t.more ++ line ∷ [];
      i = i;
      read = longer (flat_map section_lines t.sections) t.head t.more lines line t.read;
      whole = t.whole;
      room = t.room;
      declares = record {
        begins = d.begins;
        word = d.word;
        named = d.named;
        name = d.name;
        iid = d.iid;
        no_more = d.no_more;
        methods = order_push (IsMethod ((names_below t.parts).interfaces ++ t.i.name ∷ [])) [] t.more t.i.methods line q.0 d.methods (record { begins = begun_by line w _ first (same_bytes w.bytes (codes "method") b); spells = q.2 });
        few = omega (arith, few, length-append t.i.methods (q.0 ∷ []));
      };
      is = sym (ok_same _ _ p.2) ∙ ap (λ (k : Interface). record (interface_begun S t.i) { section = within.Interface k }) q.3;
    })
interface_more v lines st line w next t first false b e =
    let few = more_interfaces t.parts t.whole.limits t.i t.room in
    let section = interface t.head t.more in
    let e' = subst (λ (s : State). top_line s line ≡ Ok next) (sym (with_interface v t.parts t.i)) e in
    moved v lines _ line next (t.read ∙ sym (flat_push section_lines t.sections section))
    (top_up v (t.sections ++ section ∷ []) (t.parts ++ of_interface t.i ∷ []) (whole_push t.sections t.parts section (of_interface t.i) t.whole t.declares few) line next e')

-- ---- filters

filter_more : (v : ℕ) (lines : List Line) (st : State) (line : Line) (w : WordAt) (next : State) (t : AtFilter v lines st) → first_at line ≡ Ok w → (b : Bool) → bytes_eq w.bytes (codes "end") ≡ b
    → cond b (filter_ended (filter_begun (state_at v t.parts) t.name t.rules) t.rules line)
    (ruled t.rules w line (rule_word_of w.bytes) >>= λ more. Ok (record (filter_begun (state_at v t.parts) t.name t.rules) { section = within.Filter more })) ≡ Ok next
    → Standing v (lines ++ line ∷ []) next
unfolding from
filter_more v lines st line w next t first true b e =
    let p = bound (end_at line 1) _ next e in
    let last : IsEnd line = record { begins = begun_by line w _ first (same_bytes w.bytes (codes "end") b); alone = p.1 } in
    at_top (closed v t.sections t.parts (filter t.head t.more line) (of_filter t.name t.rules) _ next t.whole
    (record { begins = t.begins; word = t.word; named = t.named; same = t.same; no_more = t.no_more; ruled = t.ruled; few = t.few; closed = last })
    (more_filters t.parts t.whole.limits t.name t.rules t.room) (longer (flat_map section_lines t.sections) t.head t.more lines line t.read) (sym (ok_same _ _ p.2) ∙ sym (with_filter v t.parts t.name t.rules)))
filter_more v lines st line w next t first false b e =
    let S = state_at v t.parts in
    let p = bound (ruled t.rules w line (rule_word_of w.bytes)) _ next e in
    let q = rule_found t.rules p.0 w line first p.1 in
    let few = leb-false 32 (length t.rules) q.1 in
    at_filter (record {
      sections = t.sections;
      parts = t.parts;
      head = t.head;
      more = t.more ++ line ∷ [];
      name = t.name;
      rules = t.rules ++ q.0 ∷ [];
      read = longer (flat_map section_lines t.sections) t.head t.more lines line t.read;
      whole = t.whole;
      room = t.room;
      begins = t.begins;
      word = t.word;
      named = t.named;
      same = t.same;
      no_more = t.no_more;
      ruled = order_push IsRule [] t.more t.rules line q.0 t.ruled q.2;
      few = omega (arith, few, length-append t.rules (q.0 ∷ []));
      is = sym (ok_same _ _ p.2) ∙ ap (λ (r : List Rule). filter_begun S t.name r) q.3;
    })

-- ---- threads

-- a statement more
stated_more : (limit : ℕ) (p : Program) (names : Names) (lines : List Line) (code next : CodeAt) (w : WordAt) (line : Line) → InOrder (IsStatement p names) [] lines code.statements → first_at line ≡ Ok w → program_line p limit names code w line ≡ Ok next
    → InOrder (IsStatement p names) [] (lines ++ line ∷ []) next.statements
stated_more limit p names lines code next w line h first e =
    let q = statement_found limit p names code next w line first e in
    subst (λ (ss : List Stmt). InOrder (IsStatement p names) [] (lines ++ line ∷ []) ss) (sym q.3) (order_push (IsStatement p names) [] lines code.statements line q.0 h q.2)

thread_more : (v : ℕ) (lines : List Line) (st : State) (line : Line) (w : WordAt) (next : State) (t : AtThread v lines st) → first_at line ≡ Ok w → (b : Bool) → bytes_eq w.bytes (codes "end") ≡ b
    → cond b (thread_ended (thread_begun (state_at v t.parts) t.code) t.code line)
    (program_line programs.Script 2000 (thread_begun (state_at v t.parts) t.code).names t.code w line >>= λ more. Ok (record (thread_begun (state_at v t.parts) t.code) { section = within.Thread more })) ≡ Ok next
    → Standing v (lines ++ line ∷ []) next
unfolding from
thread_more v lines st line w next t first true b e =
    let p = bound (checked t.code 2000) _ next e in
    let q = checked_found t.code 2000 p.0 p.1 in
    let r = bound (end_at line 1) _ next p.2 in
    let last : IsEnd line = record { begins = begun_by line w _ first (same_bytes w.bytes (codes "end") b); alone = r.1 } in
    at_top (closed v t.sections t.parts (thread t.head t.more line) (of_script t.code.statements) _ next t.whole
    (record { begins = t.begins; no_more = t.no_more; statements = t.stated; whole = q.0; closed = last })
    (more_scripts t.parts t.whole.limits t.code.statements t.room) (longer (flat_map section_lines t.sections) t.head t.more lines line t.read)
    (sym (ok_same _ _ r.2) ∙ ap (λ (ss : List Stmt). script_added (state_at v t.parts) ss) q.1 ∙ sym (with_script v t.parts t.code.statements)))
thread_more v lines st line w next t first false b e =
    let S = state_at v t.parts in
    let p = bound (program_line programs.Script 2000 (thread_begun S t.code).names t.code w line) _ next e in
    at_thread (record {
      sections = t.sections;
      parts = t.parts;
      head = t.head;
      more = t.more ++ line ∷ [];
      code = p.0;
      read = longer (flat_map section_lines t.sections) t.head t.more lines line t.read;
      whole = t.whole;
      room = t.room;
      begins = t.begins;
      no_more = t.no_more;
      stated = stated_more 2000 programs.Script (names_below t.parts) t.more t.code p.0 w line t.stated first p.1;
      is = sym (ok_same _ _ p.2);
    })

-- ---- classes and bodies

class_more : (v : ℕ) (lines : List Line) (st : State) (line : Line) (w : WordAt) (next : State) (t : AtClass v lines st) → first_at line ≡ Ok w → (b : Bool) → bytes_eq w.bytes (codes "body") ≡ b → (d : Bool) → bytes_eq w.bytes (codes "end") ≡ d
    → cond b (body_head (class_begun (state_at v t.parts) t.c) t.c line) (cond d (class_ended (class_begun (state_at v t.parts) t.c) t.c line) (Err (fault_at 3 w))) ≡ Ok next
    → Standing v (lines ++ line ∷ []) next
unfolding from
class_more v lines st line w next t first true b d f e =
    let p = body_head_found (class_begun (state_at v t.parts) t.c) next t.c line e in
    at_body (record {
      sections = t.sections;
      parts = t.parts;
      head = t.head;
      bodies = t.bodies;
      c = t.c;
      first = line;
      statements = [];
      number = p.0;
      code = no_code;
      read = longer (flat_map section_lines t.sections) t.head (flat_map body_lines t.bodies) lines line t.read;
      whole = t.whole;
      room = t.room;
      declares = t.declares;
      begins = begun_by line w _ first (same_bytes w.bytes (codes "body") b);
      method = p.1;
      once = p.2;
      no_more = p.3;
      stated = tt;
      is = p.4;
    })
class_more v lines st line w next t first false b true f e =
    let p = bound (end_at line 1) _ next e in
    let d = t.declares in
    let last : IsEnd line = record { begins = begun_by line w _ first (same_bytes w.bytes (codes "end") f); alone = p.1 } in
    at_top (closed v t.sections t.parts (class t.head t.bodies line) (of_class t.c) _ next t.whole
    (record { begins = d.begins; word = d.word; named = d.named; name = d.name; clsid = d.clsid; model = d.model; written = d.written; interfaces = d.interfaces; bodies = d.bodies; closed = last })
    (more_classes t.parts t.whole.limits t.c t.room) (longer (flat_map section_lines t.sections) t.head (flat_map body_lines t.bodies) lines line t.read)
    (sym (ok_same _ _ p.2) ∙ sym (with_class v t.parts t.c)))
class_more v lines st line w next t first false b false f e = never _ _ _ e

-- a body more
body_closed : (above : List Part) (head : Line) (bodies : List BodyLines) (c : Class) (lines : BodyLines) (number : MethodNumber) (body : List Stmt) → IsOpenClass above head bodies c
    → IsBody (names_inside above c.name) c.model c.bodies lines (record { iface = number.iface; method = number.method; body = body }) → IsOpenClass above head (bodies ++ lines ∷ []) (with_body c number body)
body_closed above head bodies c lines number body d b = record {
  begins = d.begins;
  word = d.word;
  named = d.named;
  name = d.name;
  clsid = d.clsid;
  model = d.model;
  written = d.written;
  interfaces = d.interfaces;
  bodies = order_push (IsBody (names_inside above c.name) c.model) [] bodies c.bodies lines (record { iface = number.iface; method = number.method; body = body }) d.bodies b;
}

body_read : (front : List Line) (head : Line) (bodies : List BodyLines) (first : Line) (statements lines : List Line) (line : Line) → lines ≡ front ++ (head ∷ (flat_map body_lines bodies ++ first ∷ statements))
    → lines ++ line ∷ [] ≡ front ++ head ∷ flat_map body_lines (bodies ++ record { head = first; statements = statements; last = line } ∷ [])
body_read front head bodies first statements lines line e =
    let b : BodyLines = record { head = first; statements = statements; last = line } in
    longer front head (flat_map body_lines bodies ++ first ∷ statements) lines line e
    ∙ ap (λ (l : List Line). front ++ head ∷ l) (append_assoc (flat_map body_lines bodies) (first ∷ statements) (line ∷ []) ∙ sym (flat_push body_lines bodies b))

body_more : (v : ℕ) (lines : List Line) (st : State) (line : Line) (w : WordAt) (next : State) (t : AtBody v lines st) → first_at line ≡ Ok w → (b : Bool) → bytes_eq w.bytes (codes "end") ≡ b
    → cond b (body_ended (record (class_begun (state_at v t.parts) t.c) { section = within.Body t.c t.number t.code }) t.c t.number t.code line)
    (program_line (program_of t.c.model) 200 (class_begun (state_at v t.parts) t.c).names t.code w line >>= λ more. Ok (record (class_begun (state_at v t.parts) t.c) { section = within.Body t.c t.number more })) ≡ Ok next
    → Standing v (lines ++ line ∷ []) next
unfolding from
body_more v lines st line w next t first true b e =
    let S = state_at v t.parts in
    let p = bound (checked t.code 200) _ next e in
    let q = checked_found t.code 200 p.0 p.1 in
    let r = bound (end_at line 1) _ next p.2 in
    let last : IsEnd line = record { begins = begun_by line w _ first (same_bytes w.bytes (codes "end") b); alone = r.1 } in
    let text : BodyLines = record { head = t.first; statements = t.statements; last = line } in
    at_class (record {
      sections = t.sections;
      parts = t.parts;
      head = t.head;
      bodies = t.bodies ++ text ∷ [];
      c = with_body t.c t.number t.code.statements;
      read = body_read (flat_map section_lines t.sections) t.head t.bodies t.first t.statements lines line t.read;
      whole = t.whole;
      room = t.room;
      declares = body_closed t.parts t.head t.bodies t.c text t.number t.code.statements t.declares (record { begins = t.begins; method = t.method; once = t.once; no_more = t.no_more; statements = t.stated; whole = q.0; closed = last });
      is = sym (ok_same _ _ r.2) ∙ ap (λ (ss : List Stmt). record (class_begun S t.c) { section = within.Class (with_body t.c t.number ss) }) q.1;
    })
body_more v lines st line w next t first false b e =
    let S = state_at v t.parts in
    let p = bound (program_line (program_of t.c.model) 200 (class_begun S t.c).names t.code w line) _ next e in
    at_body (record {
      sections = t.sections;
      parts = t.parts;
      head = t.head;
      bodies = t.bodies;
      c = t.c;
      first = t.first;
      statements = t.statements ++ line ∷ [];
      number = t.number;
      code = p.0;
      read = longer (flat_map section_lines t.sections) t.head (flat_map body_lines t.bodies ++ t.first ∷ t.statements) lines line t.read
          ∙ ap (λ (l : List Line). flat_map section_lines t.sections ++ t.head ∷ l) (append_assoc (flat_map body_lines t.bodies) (t.first ∷ t.statements) (line ∷ []));
      whole = t.whole;
      room = t.room;
      declares = t.declares;
      begins = t.begins;
      method = t.method;
      once = t.once;
      no_more = t.no_more;
      stated = stated_more 200 (program_of t.c.model) (names_inside t.parts t.c.name) t.statements t.code p.0 w line t.stated first p.1;
      is = sym (ok_same _ _ p.2);
    })

-- ---- a line

pub line_up : (v : ℕ) (lines : List Line) (st next : State) (w : WordAt) (ws : List WordAt) → Standing v lines st → step st (w ∷ ws) ≡ Ok next → Standing v (lines ++ (w ∷ ws) ∷ []) next
unfolding step inner_interface inner_class inner_body inner_filter inner_thread from
line_up v lines st next w ws (at_top t) e =
    moved v lines _ (w ∷ ws) next t.read (top_up v t.sections t.parts t.whole (w ∷ ws) next (subst (λ (s : State). step s (w ∷ ws) ≡ Ok next) t.is e))
line_up v lines st next w ws (at_interface t) e =
    let f = subst (λ (s : State). step s (w ∷ ws) ≡ Ok next) t.is e in
    let a = bound (first_at (w ∷ ws)) _ next f in
    interface_more v lines st (w ∷ ws) a.0 next t a.1 (bytes_eq a.0.bytes (codes "method")) refl a.2
line_up v lines st next w ws (at_class t) e =
    let f = subst (λ (s : State). step s (w ∷ ws) ≡ Ok next) t.is e in
    let a = bound (first_at (w ∷ ws)) _ next f in
    class_more v lines st (w ∷ ws) a.0 next t a.1 (bytes_eq a.0.bytes (codes "body")) refl (bytes_eq a.0.bytes (codes "end")) refl a.2
line_up v lines st next w ws (at_body t) e =
    let f = subst (λ (s : State). step s (w ∷ ws) ≡ Ok next) t.is e in
    let a = bound (first_at (w ∷ ws)) _ next f in
    body_more v lines st (w ∷ ws) a.0 next t a.1 (bytes_eq a.0.bytes (codes "end")) refl a.2
line_up v lines st next w ws (at_filter t) e =
    let f = subst (λ (s : State). step s (w ∷ ws) ≡ Ok next) t.is e in
    let a = bound (first_at (w ∷ ws)) _ next f in
    filter_more v lines st (w ∷ ws) a.0 next t a.1 (bytes_eq a.0.bytes (codes "end")) refl a.2
line_up v lines st next w ws (at_thread t) e =
    let f = subst (λ (s : State). step s (w ∷ ws) ≡ Ok next) t.is e in
    let a = bound (first_at (w ∷ ws)) _ next f in
    thread_more v lines st (w ∷ ws) a.0 next t a.1 (bytes_eq a.0.bytes (codes "end")) refl a.2
