-- Each line keeps what stands.
use Rattle.std.proofs.Common.{◌≡◌, ℕ, zero, suc, ◌+◌, ◌≤◌, ◌<◌, ◌^◌, false, not, nat_le, ◌==◌, ◌&&◌, List, [], ◌∷◌, ◌++◌, length, map, take, drop, Option, Some, None, is_some, All, refl, sym, ap, subst, ◌∙◌, arith, length-append, append_assoc, append-nil}
use Rattle.std.specs.Prelude.{bytes_eq, codes, IfSome}
use Rattle.std.proofs.lemmas.List.{length-map, take-append-drop}
use Rattle.std.proofs.lemmas.List.Elements.{All-nil, All-cons, All-push, All-append}
use Rattle.std.proofs.lemmas.Bool.{cond_both, leb-false, or_from}
use Rattle.com_base.specs.declared.guid.Guid.{Guid}
use Rattle.com_body.specs.declared.frame.Native.{Native}
use Rattle.com_body.specs.declared.frame.Native.TheVariants as natives
use Rattle.com_body.specs.declared.statements.Stmt.{Stmt}
use Rattle.com_classes.specs.declared.interfaces.Interface.{Interface}
use Rattle.com_classes.specs.declared.classes.Class.{Class}
use Rattle.com_classes.specs.declared.classes.MethodBody.{MethodBody}
use Rattle.com_classes.specs.BuiltIns.{built_in_interfaces}
use Rattle.com_filter.specs.declared.Rule.{Rule}
use Rattle.com_text.specs.declared.word.Sort.{Sort}
use Rattle.com_text.specs.declared.word.Sort.TheVariants as sorts
use Rattle.com_text.specs.Words.{WordAt}
use Rattle.com_read_operands.specs.declared.faults.Fault.{Fault}
use Rattle.com_read_operands.specs.Reading.{character_at, word_at, first_at, end_at, number_at}
use Rattle.com_read_operands.specs.Naming.{position_of}
use Rattle.com_read_statements.specs.declared.calls.MethodNumber.{MethodNumber}
use Rattle.com_read_statements.specs.declared.keywords.Program.TheVariants as programs
use Rattle.com_read_statements.specs.Calls.{method_at}
use Rattle.com_read_sections.specs.declared.begin.SectionWord.{SectionWord}
use Rattle.com_read_sections.specs.declared.begin.SectionWord.TheVariants as begins
use Rattle.com_read_lines.specs.declared.rules.RuleWord.{RuleWord}
use Rattle.com_read_sections.specs.declared.state.State.{State}
use Rattle.com_read_sections.specs.declared.state.Section.{Section}
use Rattle.com_read_sections.specs.declared.state.Section.TheVariants as sections
use Rattle.com_read_lines.specs.Tables.{has_guid, guid_eq}
use Rattle.com_read_lines.specs.Codes.{CodeAt, checked}
use Rattle.com_read_lines.specs.Header.{version_of, ended, compared, version_by, version_at, earlier}
use Rattle.com_read_sections.specs.Header.{lone, header_line}
use Rattle.com_read_lines.specs.Declaring.{free_guid_at, free_name_at, interface_name_at, filter_name_at, model_at, native_at, natives_of, native_interface, listed_at, picks_on}
use Rattle.com_read_sections.specs.Beginning.{section_word_of, pool_line, interface_line, class_line, native_line, filter_line, thread_line, picks_line, top_by, top_line}
use Rattle.com_read_lines.specs.Rules.{rule_word_of, rule_of}
use Rattle.com_read_lines.specs.Methods.{method_of, type_word_of}
use Rattle.com_read_lines.specs.Programs.{program_line}
use Rattle.com_read_sections.specs.Opened.{interface_closed, method_line, inner_interface, has_body, body_head, class_ended, inner_class, program_of, body_ended, inner_body, thread_ended, inner_thread, filter_ended, ruled, inner_filter, by_section, step}
use Rattle.com_read_sections.specs.Outlines.{taken_iids, microsoft}
use Rattle.com_model.specs.declared.scenario.Scenario.{Scenario}
use Rattle.com_model.specs.Formed.{Distinct, IsName, IsMethod, same_interface, same_method, same_class, same_body, IsNative, IsBody, IsClass, IsRule, IsFilter, in_class, in_script}
use Rattle.com_laws_scenario.specs.Words.{IsWord}
use Rattle.com_laws_scenario.specs.Holds.{Holds}
use Rattle.com_laws_scenario.specs.Declared.{Fits}
use Rattle.com_laws_scenario.proofs.Holds.{done, fails, anything, bind, either}
use Rattle.com_laws_scenario.proofs.Fields.{number_formed}
use Rattle.com_laws_scenario.proofs.Calls.{head_formed}
use Rattle.com_scenario.proofs.Alike.{unlisted, not_first, unnamed, unmet, untyped, unreserved}
use Rattle.com_scenario.proofs.Growing.{distinct_push}
use Rattle.com_scenario.proofs.Declaring.{free_guid_new, IsNew, free_name_new, interface_name_new, method_new, IsNativeOf, native_new, list_new, picks_new, rule_new}
use Rattle.com_scenario.proofs.Standing.{so_far, Named, IsVersion, OpenInterface, OpenClass, AtHeader, AtTop, AtInterface, AtClass, AtBody, AtFilter, AtThread, StandsAt, Stands, class_closed, at_least_four, interface_closed_all, filter_closed, script_closed, checked_formed, program_fits, body_declares, script_declares}

-- ---- lists

map_push : {X Y : Type 0} (f : X → Y) (xs : List X) (x : X) → map f (xs ++ x ∷ []) ≡ map f xs ++ f x ∷ []
map_push f [] x = refl
map_push f (y ∷ ys) x = ap (λ (v : List _). f y ∷ v) (map_push f ys x)

drop_push : {X : Type 0} (n : ℕ) (xs : List X) (x : X) → n ≤ length xs → drop n (xs ++ x ∷ []) ≡ drop n xs ++ x ∷ []
drop_push zero xs x h = refl
drop_push (suc n) [] x h = absurd (omega arith)
drop_push (suc n) (y ∷ ys) x h = drop_push n ys x (omega arith)

map_last : {X Y : Type 0} (f : X → Y) (xs : List X) (x y : X) → f x ≡ f y → map f (xs ++ x ∷ []) ≡ map f (xs ++ y ∷ [])
map_last f xs x y e = map_push f xs x ∙ ap (λ (v : _). map f xs ++ v ∷ []) e ∙ sym (map_push f xs y)

drop_last : {X Y : Type 0} (f : X → Y) (n : ℕ) (xs : List X) (x y : X) → f x ≡ f y → map f (drop n (xs ++ x ∷ [])) ≡ map f (drop n (xs ++ y ∷ []))
drop_last f zero xs x y e = map_last f xs x y e
drop_last f (suc n) [] x y e = refl
drop_last f (suc n) (z ∷ zs) x y e = drop_last f n zs x y e

-- ---- names

-- one interface more that is open
interface_named : (names : List (List ℕ)) (iids : List Guid) (cs : List (List ℕ)) (clsids : List Guid) (fs : List (List ℕ)) (interfaces : List Interface) (classes : List Class) (filters : ℕ) (i : Interface)
    → Named names iids cs clsids fs interfaces classes filters → 4 ≤ length interfaces → length names < 64
    → Named (names ++ i.name ∷ []) (iids ++ i.iid ∷ []) cs clsids fs (interfaces ++ i ∷ []) classes filters
interface_named names iids cs clsids fs interfaces classes filters i h four few =
    let iid : Interface → Guid = λ (k : Interface). k.iid in
    let front = taken_iids built_in_interfaces in
    record {
      of_interfaces = ap (λ (x : List (List ℕ)). x ++ i.name ∷ []) h.of_interfaces ∙ sym (map_push (λ (k : Interface). k.name) interfaces i);
      iids_of_interfaces =
          ap (λ (x : List Guid). x ++ i.iid ∷ []) h.iids_of_interfaces
          ∙ append_assoc front (map iid (drop 4 interfaces)) (i.iid ∷ [])
          ∙ ap (λ (x : List Guid). front ++ x) (sym (map_push iid (drop 4 interfaces) i) ∙ ap (map iid) (sym (drop_push 4 interfaces i four)));
      few_interfaces = omega (arith, length-append interfaces (i ∷ []), ap length h.of_interfaces, length-map interfaces (λ (k : Interface). k.name));
      of_classes = h.of_classes;
      clsids_of_classes = h.clsids_of_classes;
      few_classes = h.few_classes;
      of_filters = h.of_filters;
      few_filters = h.few_filters;
    }

-- one class more
class_named : (names : List (List ℕ)) (iids : List Guid) (cs : List (List ℕ)) (clsids : List Guid) (fs : List (List ℕ)) (interfaces : List Interface) (classes : List Class) (filters : ℕ) (c : Class)
    → Named names iids cs clsids fs interfaces classes filters → length cs < 64
    → Named names iids (cs ++ c.name ∷ []) (clsids ++ c.clsid ∷ []) fs interfaces (classes ++ c ∷ []) filters
class_named names iids cs clsids fs interfaces classes filters c h few = record {
  of_interfaces = h.of_interfaces;
  iids_of_interfaces = h.iids_of_interfaces;
  few_interfaces = h.few_interfaces;
  of_classes = ap (λ (x : List (List ℕ)). x ++ c.name ∷ []) h.of_classes ∙ sym (map_push (λ (k : Class). k.name) classes c);
  clsids_of_classes = ap (λ (x : List Guid). x ++ c.clsid ∷ []) h.clsids_of_classes ∙ sym (map_push (λ (k : Class). k.clsid) classes c);
  few_classes = omega (arith, length-append classes (c ∷ []), ap length h.of_classes, length-map classes (λ (k : Class). k.name));
  of_filters = h.of_filters;
  few_filters = h.few_filters;
}

-- one filter more that is open
filter_named : (names : List (List ℕ)) (iids : List Guid) (cs : List (List ℕ)) (clsids : List Guid) (fs : List (List ℕ)) (interfaces : List Interface) (classes : List Class) (filters : ℕ) (f : List ℕ)
    → Named names iids cs clsids fs interfaces classes filters → length fs < 16
    → Named names iids cs clsids (fs ++ f ∷ []) interfaces classes (suc filters)
filter_named names iids cs clsids fs interfaces classes filters f h few = record {
  of_interfaces = h.of_interfaces;
  iids_of_interfaces = h.iids_of_interfaces;
  few_interfaces = h.few_interfaces;
  of_classes = h.of_classes;
  clsids_of_classes = h.clsids_of_classes;
  few_classes = h.few_classes;
  of_filters = (let e = h.of_filters in omega (arith, length-append fs (f ∷ []), e));
  few_filters = (let e = h.of_filters in omega arith);
}

-- the filter that is open is closed
filter_renamed : (names : List (List ℕ)) (iids : List Guid) (cs : List (List ℕ)) (clsids : List Guid) (fs : List (List ℕ)) (interfaces : List Interface) (classes : List Class) (m n : ℕ)
    → m ≡ n → Named names iids cs clsids fs interfaces classes m → Named names iids cs clsids fs interfaces classes n
filter_renamed names iids cs clsids fs interfaces classes m n e h = subst (λ (k : ℕ). Named names iids cs clsids fs interfaces classes k) e h

-- the interface that is open gets a method
interface_renamed : (names : List (List ℕ)) (iids : List Guid) (cs : List (List ℕ)) (clsids : List Guid) (fs : List (List ℕ)) (interfaces : List Interface) (classes : List Class) (filters : ℕ) (i k : Interface)
    → i.name ≡ k.name → i.iid ≡ k.iid → Named names iids cs clsids fs (interfaces ++ i ∷ []) classes filters → Named names iids cs clsids fs (interfaces ++ k ∷ []) classes filters
interface_renamed names iids cs clsids fs interfaces classes filters i k e f h = record {
  of_interfaces = h.of_interfaces ∙ map_last (λ (x : Interface). x.name) interfaces i k e;
  iids_of_interfaces = h.iids_of_interfaces ∙ ap (λ (x : List Guid). taken_iids built_in_interfaces ++ x) (drop_last (λ (x : Interface). x.iid) 4 interfaces i k f);
  few_interfaces = (let l = h.few_interfaces in omega (arith, length-append interfaces (i ∷ []), length-append interfaces (k ∷ []), l));
  of_classes = h.of_classes;
  clsids_of_classes = h.clsids_of_classes;
  few_classes = h.few_classes;
  of_filters = h.of_filters;
  few_filters = h.few_filters;
}

-- the class that is open gets a body
class_renamed : (names : List (List ℕ)) (iids : List Guid) (cs : List (List ℕ)) (clsids : List Guid) (fs : List (List ℕ)) (interfaces : List Interface) (classes : List Class) (filters : ℕ) (c k : Class)
    → c.name ≡ k.name → c.clsid ≡ k.clsid → Named names iids cs clsids fs interfaces (classes ++ c ∷ []) filters → Named names iids cs clsids fs interfaces (classes ++ k ∷ []) filters
class_renamed names iids cs clsids fs interfaces classes filters c k e f h = record {
  of_interfaces = h.of_interfaces;
  iids_of_interfaces = h.iids_of_interfaces;
  few_interfaces = h.few_interfaces;
  of_classes = h.of_classes ∙ map_last (λ (x : Class). x.name) classes c k e;
  clsids_of_classes = h.clsids_of_classes ∙ map_last (λ (x : Class). x.clsid) classes c k f;
  few_classes = (let l = h.few_classes in omega (arith, length-append classes (c ∷ []), length-append classes (k ∷ []), l));
  of_filters = h.of_filters;
  few_filters = h.few_filters;
}

-- ---- what is new

-- an IID that is not taken
record IsFreeIid (interfaces : List Interface) (g : Guid) : Type 0 where
  others : All (λ (k : Interface). guid_eq k.iid g ≡ false) interfaces
  first : guid_eq (microsoft 1) g ≡ false
  second : guid_eq (microsoft 0x16) g ≡ false
  third : guid_eq (microsoft 0x146) g ≡ false

free_iid : (interfaces : List Interface) (g : Guid) → take 4 interfaces ≡ built_in_interfaces → has_guid (taken_iids built_in_interfaces ++ map (λ (i : Interface). i.iid) (drop 4 interfaces)) g ≡ false → IsFreeIid interfaces g
free_iid interfaces g built h =
    let iid : Interface → Guid = λ (k : Interface). k.iid in
    let P : Interface → Type 0 = λ (k : Interface). guid_eq k.iid g ≡ false in
    let rest = map iid (drop 4 interfaces) in
    let u = unlisted iid built_in_interfaces (microsoft 1 ∷ microsoft 0x16 ∷ microsoft 0x146 ∷ rest) g h in
    let a = not_first (microsoft 1) (microsoft 0x16 ∷ microsoft 0x146 ∷ rest) g u.1 in
    let b = not_first (microsoft 0x16) (microsoft 0x146 ∷ rest) g a.1 in
    let c = not_first (microsoft 0x146) rest g b.1 in
    let last : has_guid (rest ++ []) g ≡ false = ap (λ (x : List Guid). has_guid x g) (append-nil rest) ∙ c.1 in
    let v = unlisted iid (drop 4 interfaces) [] g last in
    let whole : built_in_interfaces ++ drop 4 interfaces ≡ interfaces = ap (λ (x : List Interface). x ++ drop 4 interfaces) (sym built) ∙ take-append-drop 4 interfaces in
    record {
      others = subst (All P) whole (All-append P built_in_interfaces (drop 4 interfaces) u.0 v.0);
      first = a.0;
      second = b.0;
      third = c.0;
    }

free_interface : (interfaces : List Interface) (i : Interface) → All (λ (k : Interface). bytes_eq k.name i.name ≡ false) interfaces → All (λ (k : Interface). guid_eq k.iid i.iid ≡ false) interfaces
    → All (λ k. same_interface k i ≡ false) interfaces
free_interface interfaces i a b = λ k d l. or_from _ _ (a k d l) (b k d l)

free_class : (classes : List Class) (c : Class) → All (λ (k : Class). bytes_eq k.name c.name ≡ false) classes → All (λ (k : Class). guid_eq k.clsid c.clsid ≡ false) classes
    → All (λ k. same_class k c ≡ false) classes
free_class classes c a b = λ k d l. or_from _ _ (a k d l) (b k d l)

-- a CLSID that no class has
free_clsid : (classes : List Class) (clsids : List Guid) (g : Guid) → clsids ≡ map (λ (c : Class). c.clsid) classes → has_guid clsids g ≡ false → All (λ (k : Class). guid_eq k.clsid g ≡ false) classes
free_clsid classes clsids g e h =
    let clsid : Class → Guid = λ (c : Class). c.clsid in
    let f : has_guid (map clsid classes ++ []) g ≡ false = ap (λ (x : List Guid). has_guid x g) (append-nil (map clsid classes) ∙ sym e) ∙ h in
    (unlisted clsid classes [] g f).0

-- a name that no class has
free_class_name : (classes : List Class) (names : List (List ℕ)) (w : WordAt) → names ≡ map (λ (c : Class). c.name) classes → IsNew names w → All (λ (k : Class). bytes_eq k.name w.bytes ≡ false) classes
free_class_name classes names w e h = unnamed (λ (c : Class). c.name) classes w.bytes (subst (λ (x : List (List ℕ)). is_some (position_of x w.bytes) ≡ false) e h.free)

free_interface_name : (interfaces : List Interface) (names : List (List ℕ)) (w : WordAt) → names ≡ map (λ (i : Interface). i.name) interfaces → IsNew names w → All (λ (k : Interface). bytes_eq k.name w.bytes ≡ false) interfaces
free_interface_name interfaces names w e h = unnamed (λ (i : Interface). i.name) interfaces w.bytes (subst (λ (x : List (List ℕ)). is_some (position_of x w.bytes) ≡ false) e h.free)

-- a method that has no body yet
free_body : (bodies : List MethodBody) (head : MethodNumber) (body : List Stmt) → has_body bodies head ≡ false
    → All (λ (b : MethodBody). same_body b (record { iface = head.iface; method = head.method; body = body }) ≡ false) bodies
free_body [] head body h = All-nil (λ (b : MethodBody). same_body b (record { iface = head.iface; method = head.method; body = body }) ≡ false)
free_body (b ∷ bs) head body h =
    let u = unmet ((b.iface == head.iface) && (b.method == head.method)) (has_body bs head) h in
    All-cons (λ (b : MethodBody). same_body b (record { iface = head.iface; method = head.method; body = body }) ≡ false) b bs u.0 (free_body bs head body u.1)

-- ---- where a section stays open

stay : (st : State) (sec : Section) → st.section ≡ sec → StandsAt st sec → Stands st
stay st sec e h = subst (StandsAt st) (sym e) h

-- ---- the header

version_good : (bytes : List ℕ) → IfSome (version_of bytes) IsVersion
version_good bytes =
    cond_both (bytes_eq bytes (codes "1")) _ _ (λ (o : Option ℕ). IfSome o IsVersion) (λ _. (omega arith, omega arith)) (λ _.
    cond_both (bytes_eq bytes (codes "2")) _ _ (λ (o : Option ℕ). IfSome o IsVersion) (λ _. (omega arith, omega arith)) (λ _. tt))

ended_version : (line : List WordAt) (two : WordAt) (o : Option ℕ) → IfSome o IsVersion → Holds IsVersion (ended line two o)
ended_version line two None h = fails _
ended_version line two (Some v) h = bind (end_at line 2) _ (anything (end_at line 2)) (λ _ _. done v h)

compared_version : (line : List WordAt) (one two : WordAt) (o : Option Fault) → Holds IsVersion (compared line one two o)
compared_version line one two (Some f) = fails _
compared_version line one two None = either (not (bytes_eq one.bytes (codes "scenario"))) _ _ (λ _. fails _) (λ _. ended_version line two (version_of two.bytes) (version_good two.bytes))

version_by_good : (pending : Option Fault) (line : List WordAt) (one two : WordAt) (sort : Sort) → Holds IsVersion (version_by pending line one two sort)
version_by_good pending line one two (sorts.Remark c) = fails _
version_by_good pending line one two sorts.Plain = compared_version line one two pending
version_by_good pending line one two sorts.Text = compared_version line one two pending
version_by_good pending line one two sorts.Bytes = compared_version line one two pending
version_by_good pending line one two sorts.Unclosed = compared_version line one two pending
version_by_good pending line one two (sorts.Stray c) = compared_version line one two pending

version_at_good : (pending : Option Fault) (line : List WordAt) (one two : WordAt) → Holds IsVersion (version_at pending line one two)
unfolding version_at
version_at_good pending line one two = version_by_good pending line one two two.sort

lone_stands : (st : State) (pending : Option Fault) (w : WordAt) (sort : Sort) → AtHeader st → Holds Stands (lone st pending w sort)
lone_stands st pending w (sorts.Remark c) h = done (record st { section = sections.Header (earlier pending (character_at w c)) }) (record { closed = h.closed; named = h.named })
lone_stands st pending w sorts.Plain h = fails _
lone_stands st pending w sorts.Text h = fails _
lone_stands st pending w sorts.Bytes h = fails _
lone_stands st pending w sorts.Unclosed h = fails _
lone_stands st pending w (sorts.Stray c) h = fails _

header_stands : (st : State) (pending : Option Fault) (line : List WordAt) → AtHeader st → Holds Stands (header_line st pending line)
unfolding header_line
header_stands st pending [] h = done (record st { section = sections.Header pending }) (record { closed = h.closed; named = h.named })
header_stands st pending (w ∷ []) h = lone_stands st pending w w.sort h
header_stands st pending (one ∷ two ∷ ws) h = bind (version_at pending (one ∷ two ∷ ws) one two) _ (version_at_good pending (one ∷ two ∷ ws) one two) (λ v is.
    done (record st { version = v; section = sections.Top }) (record { version = is; closed = h.closed; named = h.named }))

-- ---- lines outside of sections

pool_stands : (st : State) (w : WordAt) (line : List WordAt) → st.section ≡ sections.Top → AtTop st → Holds Stands (pool_line st w line)
unfolding pool_line
pool_stands st w line e h = either (is_some st.pool) _ _ (λ _. fails _) (λ _.
    bind (number_at 1 8 line 1) _ (number_formed 1 8 line 1) (λ n is.
    bind (end_at line 2) _ (anything (end_at line 2)) (λ _ _.
    (let c = h.closed in
    done (record st { pool = Some n }) (stay (record st { pool = Some n }) sections.Top e (record {
      version = h.version;
      closed = record { lanes = is; tables = c.tables; each = c.each; distinct = c.distinct; rules = c.rules; scripts = c.scripts; few_scripts = c.few_scripts; lanes_first = c.lanes_first };
      named = h.named;
    }))))))

new_interface : (st : State) (i : Interface) → AtTop st → length st.names.interfaces < 64 → IsName i.name → is_some (type_word_of i.name) ≡ false
    → All (λ (k : Interface). bytes_eq k.name i.name ≡ false) st.names.tables → IsFreeIid st.names.tables i.iid → i.methods ≡ []
    → OpenInterface st.names.tables i
new_interface st i h few name typed names iid empty = record {
  formed = (
    name,
    subst (All (IsMethod (length st.names.tables))) (sym empty) (All-nil (IsMethod (length st.names.tables))),
    (let l : length i.methods ≡ 0 = ap length empty in omega arith),
    subst (Distinct same_method) (sym empty) tt,
  );
  allowed = (unreserved i.iid iid.first iid.second iid.third, untyped i.name typed);
  new = free_interface st.names.tables i names iid.others;
}

interface_stands : (st : State) (w : WordAt) (line : List WordAt) → AtTop st → Holds Stands (interface_line st w line)
unfolding interface_line
interface_stands st w line h = either (nat_le 64 (length st.names.interfaces)) _ _ (λ _. fails _) (λ f.
    bind (interface_name_at st.names.interfaces line) _ (interface_name_new st.names.interfaces line) (λ name a.
    bind (free_guid_at st.iids line 2) _ (free_guid_new st.iids line 2) (λ iid b.
    bind (end_at line 3) _ (anything (end_at line 3)) (λ _ _.
    (let few : length st.names.interfaces < 64 = leb-false 64 (length st.names.interfaces) f in
    let i : Interface = record { name = name.bytes; iid = iid; methods = [] } in
    let free = free_iid st.names.tables iid h.closed.tables.built (subst (λ (x : List Guid). has_guid x iid ≡ false) h.named.iids_of_interfaces b) in
    done _ (record {
      version = h.version;
      closed = h.closed;
      named = interface_named _ _ _ _ _ st.names.tables st.classes (length st.filters) i h.named (at_least_four st.names.tables h.closed.tables.built) few;
      opened = new_interface st i h few a.new.good a.untyped (free_interface_name st.names.tables st.names.interfaces name h.named.of_interfaces a.new) free refl;
    }))))))

class_stands : (st : State) (w : WordAt) (line : List WordAt) → AtTop st → Holds Stands (class_line st w line)
unfolding class_line
class_stands st w line h = either (nat_le 64 (length st.names.classes)) _ _ (λ _. fails _) (λ f.
    bind (free_name_at st.names.classes line 1) _ (free_name_new st.names.classes line 1) (λ name a.
    bind (free_guid_at st.clsids line 2) _ (free_guid_new st.clsids line 2) (λ clsid b.
    bind (model_at line 3) _ (anything (model_at line 3)) (λ model _.
    bind (listed_at st.names.interfaces line) _ (list_new st.names.interfaces line) (λ interfaces is.
    (let few : length st.names.classes < 64 = leb-false 64 (length st.names.classes) f in
    let c : Class = record { name = name.bytes; clsid = clsid; model = model; native = natives.Bodies; interfaces = interfaces; bodies = [] } in
    let s = so_far st.names.tables st.classes st.filters in
    let count : length st.names.interfaces ≡ length st.names.tables = ap length h.named.of_interfaces ∙ length-map st.names.tables (λ (k : Interface). k.name) in
    done _ (record {
      version = h.version;
      closed = h.closed;
      named = class_named _ _ _ _ _ st.names.tables st.classes (length st.filters) c h.named few;
      opened = record {
        formed = (a.good, (is.least, is.few), subst (λ (n : ℕ). All (λ i. i < n) interfaces) count is.declared, All-nil (IsBody s (in_class (suc (length st.classes)) c)), tt);
        new = free_class st.classes c (free_class_name st.classes st.names.classes name h.named.of_classes a) (free_clsid st.classes st.clsids clsid h.named.clsids_of_classes b);
        plain = refl;
      };
    })))))))

native_class : (s : Scenario) (n : ℕ) (k : Native) (c : Class) → 4 ≤ length s.classes.interfaces → IsName c.name → IsNativeOf c.model k → c.native ≡ k → c.interfaces ≡ natives_of k → c.bodies ≡ [] → IsClass s n c
native_class s n k c four name is native list empty = (
  name,
  subst (λ (m : Native). IsNative m c) (sym native) (by k is list),
  subst (All (λ i. i < length s.classes.interfaces)) (sym list) (All-cons (λ i. i < length s.classes.interfaces) (native_interface k) [] (below k) (All-nil (λ i. i < length s.classes.interfaces))),
  subst (All (IsBody s (in_class n c))) (sym empty) (All-nil (IsBody s (in_class n c))),
  subst (Distinct same_body) (sym empty) tt,
)
  where
    by : (m : Native) → IsNativeOf c.model m → c.interfaces ≡ natives_of m → IsNative m c
    by natives.Bodies h e = absurd h
    by natives.Counter h e = (e, empty)
    by natives.Relay h e = (e, empty, h)
    by natives.Latch h e = (e, empty)

    below : (m : Native) → native_interface m < length s.classes.interfaces
    below natives.Bodies = omega arith
    below natives.Counter = omega arith
    below natives.Relay = omega arith
    below natives.Latch = omega arith

native_stands : (st : State) (w : WordAt) (line : List WordAt) → st.section ≡ sections.Top → AtTop st → Holds Stands (native_line st w line)
unfolding native_line
native_stands st w line e h = either (nat_le 64 (length st.names.classes)) _ _ (λ _. fails _) (λ f.
    bind (free_name_at st.names.classes line 1) _ (free_name_new st.names.classes line 1) (λ name a.
    bind (free_guid_at st.clsids line 2) _ (free_guid_new st.clsids line 2) (λ clsid b.
    bind (model_at line 3) _ (anything (model_at line 3)) (λ model _.
    bind (native_at model line 4) _ (native_new model line 4) (λ native is.
    bind (end_at line 5) _ (anything (end_at line 5)) (λ _ _.
    (let few : length st.names.classes < 64 = leb-false 64 (length st.names.classes) f in
    let c : Class = record { name = name.bytes; clsid = clsid; model = model; native = native; interfaces = natives_of native; bodies = [] } in
    let s = so_far st.names.tables st.classes st.filters in
    let formed : IsClass s (suc (length st.classes)) c = native_class s (suc (length st.classes)) native c (at_least_four st.names.tables h.closed.tables.built) a.good is refl refl refl in
    let new : All (λ k. same_class k c ≡ false) st.classes = free_class st.classes c (free_class_name st.classes st.names.classes name h.named.of_classes a) (free_clsid st.classes st.clsids clsid h.named.clsids_of_classes b) in
    done _ (stay _ sections.Top e (record {
      version = h.version;
      closed = class_closed st.pool st.names.tables st.classes st.filters st.threads st.picks c h.closed formed new;
      named = class_named _ _ _ _ _ st.names.tables st.classes (length st.filters) c h.named few;
    })))))))))

filter_stands : (st : State) (w : WordAt) (line : List WordAt) → AtTop st → Holds Stands (filter_line st w line)
unfolding filter_line
filter_stands st w line h = either (nat_le 16 (length st.names.filters)) _ _ (λ _. fails _) (λ f.
    bind (filter_name_at st.names.filters line) _ (anything (filter_name_at st.names.filters line)) (λ name _.
    bind (end_at line 2) _ (anything (end_at line 2)) (λ _ _. done _ (record {
      version = h.version;
      closed = h.closed;
      named = filter_named _ _ _ _ st.names.filters st.names.tables st.classes (length st.filters) name.bytes h.named (leb-false 16 (length st.names.filters) f);
      rules = (All-nil IsRule, omega arith);
    }))))

thread_stands : (st : State) (w : WordAt) (line : List WordAt) → AtTop st → Holds Stands (thread_line st w line)
unfolding thread_line
thread_stands st w line h = either (nat_le 16 (length st.threads)) _ _ (λ _. fails _) (λ f.
    bind (end_at line 1) _ (anything (end_at line 1)) (λ _ _.
    (let s = so_far st.names.tables st.classes st.filters in
    done _ (record {
      top = record { version = h.version; closed = h.closed; named = h.named };
      room = leb-false 16 (length st.threads) f;
      code = All-nil (Fits s (in_script s));
    }))))

picks_stands : (st : State) (line : List WordAt) → st.section ≡ sections.Top → AtTop st → Holds Stands (picks_line st line)
unfolding picks_line
picks_stands st line e h = bind (picks_on [] line 1 (drop 1 line)) _ (picks_new (drop 1 line) [] line 1 (All-nil (λ l. l < 2 ^ 32))) (λ more is.
    (let c = h.closed in
    done _ (stay (record st { picks = st.picks ++ more }) sections.Top e (record {
      version = h.version;
      closed = record { lanes = c.lanes; tables = c.tables; each = c.each; distinct = c.distinct; rules = c.rules; scripts = c.scripts; few_scripts = c.few_scripts; lanes_first = All-append (λ l. l < 2 ^ 32) st.picks more c.lanes_first is };
      named = h.named;
    }))))

top_by_stands : (st : State) (line : List WordAt) (w : WordAt) (o : Option SectionWord) → st.section ≡ sections.Top → AtTop st → Holds Stands (top_by st line w o)
top_by_stands st line w None e h = fails _
top_by_stands st line w (Some begins.Pool) e h = pool_stands st w line e h
top_by_stands st line w (Some begins.Interface) e h = interface_stands st w line h
top_by_stands st line w (Some begins.Class) e h = class_stands st w line h
top_by_stands st line w (Some begins.Native) e h = native_stands st w line e h
top_by_stands st line w (Some begins.Filter) e h = filter_stands st w line h
top_by_stands st line w (Some begins.Thread) e h = thread_stands st w line h
top_by_stands st line w (Some begins.Picks) e h = picks_stands st line e h

top_stands : (st : State) (line : List WordAt) → st.section ≡ sections.Top → AtTop st → Holds Stands (top_line st line)
unfolding top_line
top_stands st line e h = bind (first_at line) _ (anything (first_at line)) (λ w _. top_by_stands st line w (section_word_of w.bytes) e h)

-- ---- lines of an interface

pub closed_stands : (st : State) (i : Interface) → AtInterface st i → AtTop (interface_closed st i)
closed_stands st i h = record {
  version = h.version;
  closed = interface_closed_all st.pool st.names.tables st.classes st.filters st.threads st.picks i h.closed h.opened h.named.few_interfaces;
  named = h.named;
}

method_stands : (st : State) (i : Interface) (w : WordAt) (line : List WordAt) → AtInterface st i → Holds (AtInterface st) (method_line st.names.interfaces i w line)
unfolding method_line
method_stands st i w line h = either (nat_le 32 (length i.methods)) _ _ (λ _. fails _) (λ f.
    (let n = length st.names.tables in
    let count : length st.names.interfaces ≡ n + 1 = ap length h.named.of_interfaces ∙ length-map (st.names.tables ++ i ∷ []) (λ (k : Interface). k.name) ∙ length-append st.names.tables (i ∷ []) in
    bind (method_of st.names.interfaces i.methods line) _ (method_new n st.names.interfaces i.methods line count) (λ m is.
    (let more : Interface = record i { methods = i.methods ++ m ∷ [] } in
    let o = h.opened in
    let room : length i.methods < 32 = leb-false 32 (length i.methods) f in
    done more (record {
      version = h.version;
      closed = h.closed;
      named = interface_renamed _ _ _ _ _ st.names.tables st.classes (length st.filters) i more refl refl h.named;
      opened = record {
        formed = (o.formed.0, All-push (IsMethod n) i.methods m o.formed.1 is.method, omega (arith, length-append i.methods (m ∷ [])), distinct_push same_method i.methods m o.formed.3 is.new);
        allowed = o.allowed;
        new = o.new;
      };
    })))))

in_interface : (st : State) (i : Interface) (line : List WordAt) → AtInterface st i → Holds Stands (inner_interface st i line)
unfolding inner_interface
in_interface st i line h = bind (first_at line) _ (anything (first_at line)) (λ w _. either (bytes_eq w.bytes (codes "method")) _ _
    (λ _. bind (method_line st.names.interfaces i w line) _ (method_stands st i w line h) (λ more k.
    done (record st { section = sections.Interface more }) (record { version = k.version; closed = k.closed; named = k.named; opened = k.opened })))
    (λ _. top_stands (interface_closed st i) line refl (closed_stands st i h)))

-- ---- lines of a class

head_stands : (st : State) (c : Class) (line : List WordAt) → AtClass st c → Holds Stands (body_head st c line)
unfolding body_head
head_stands st c line h = bind (method_at st.names line 1) _ (head_formed st.names line 1) (λ head is. either (has_body c.bodies head) _ _
    (λ _. bind (word_at line 1) _ (anything (word_at line 1)) (λ w _. fails _))
    (λ f. bind (end_at line 2) _ (anything (end_at line 2)) (λ _ _.
    (let s = so_far st.names.tables st.classes st.filters in
    done _ (record {
      outer = record { version = h.version; closed = h.closed; named = h.named; opened = h.opened };
      head = record { method = is.method; new = f };
      code = All-nil (Fits s (in_class (suc (length st.classes)) c));
    })))))

class_end_stands : (st : State) (c : Class) (line : List WordAt) → AtClass st c → Holds Stands (class_ended st c line)
class_end_stands st c line h = bind (end_at line 1) _ (anything (end_at line 1)) (λ _ _. done _ (record {
  version = h.version;
  closed = class_closed st.pool st.names.tables st.classes st.filters st.threads st.picks c h.closed h.opened.formed h.opened.new;
  named = h.named;
}))

in_class_stands : (st : State) (c : Class) (line : List WordAt) → AtClass st c → Holds Stands (inner_class st c line)
unfolding inner_class
in_class_stands st c line h = bind (first_at line) _ (anything (first_at line)) (λ w _. either (bytes_eq w.bytes (codes "body")) _ _
    (λ _. head_stands st c line h)
    (λ _. either (bytes_eq w.bytes (codes "end")) _ _ (λ _. class_end_stands st c line h) (λ _. fails _)))

-- ---- lines of a body

native_kept : (n : Native) (c k : Class) → n ≡ natives.Bodies → k.interfaces ≡ c.interfaces → IsNative n c → IsNative n k
native_kept n c k e f h =
    let plain : IsNative natives.Bodies c = subst (λ (m : Native). IsNative m c) e h in
    subst (λ (m : Native). IsNative m k) (sym e) (subst (λ (is : List ℕ). (1 ≤ length is) × (length is ≤ 16)) (sym f) plain)

-- the class that is open with one body more
more_body : (s : Scenario) (classes : List Class) (c : Class) (b : MethodBody) → OpenClass s classes c → IsBody s (in_class (suc (length classes)) c) b → All (λ k. same_body k b ≡ false) c.bodies
    → OpenClass s classes (record c { bodies = c.bodies ++ b ∷ [] })
more_body s classes c b h is new = record {
  formed = (
    h.formed.0,
    native_kept c.native c (record c { bodies = c.bodies ++ b ∷ [] }) h.plain refl h.formed.1,
    h.formed.2,
    All-push (IsBody s (in_class (suc (length classes)) c)) c.bodies b h.formed.3 is,
    distinct_push same_body c.bodies b h.formed.4 new,
  );
  new = h.new;
  plain = h.plain;
}

body_end_stands : (st : State) (c : Class) (head : MethodNumber) (code : CodeAt) (line : List WordAt) → AtBody st c head code → Holds Stands (body_ended st c head code line)
body_end_stands st c head code line h =
    (let s = so_far st.names.tables st.classes st.filters in
    let x = in_class (suc (length st.classes)) c in
    let o = h.outer in
    bind (checked code 200) _ (checked_formed s x 200 code h.code) (λ body is.
    bind (end_at line 1) _ (anything (end_at line 1)) (λ _ _.
    (let b : MethodBody = record { iface = head.iface; method = head.method; body = body } in
    let more : Class = record c { bodies = c.bodies ++ b ∷ [] } in
    done _ (record {
      version = o.version;
      closed = o.closed;
      named = class_renamed _ _ _ _ _ st.names.tables st.classes (length st.filters) c more refl refl o.named;
      opened = more_body s st.classes c b o.opened (is, h.head.method) (free_body c.bodies head body h.head.new);
    })))))

in_body_stands : (st : State) (c : Class) (head : MethodNumber) (code : CodeAt) (line : List WordAt) → All IsWord line → AtBody st c head code → Holds Stands (inner_body st c head code line)
unfolding inner_body
in_body_stands st c head code line ws h =
    (let s = so_far st.names.tables st.classes st.filters in
    let x = in_class (suc (length st.classes)) c in
    let o = h.outer in
    bind (first_at line) _ (anything (first_at line)) (λ w _. either (bytes_eq w.bytes (codes "end")) _ _
    (λ _. body_end_stands st c head code line h)
    (λ _. bind (program_line (program_of c.model) 200 st.names code w line) _ (program_fits s x (program_of c.model) 200 st.names code w line (body_declares st c o) ws h.code) (λ more is.
    done (record st { section = sections.Body c head more }) (record {
      outer = record { version = o.version; closed = o.closed; named = o.named; opened = o.opened };
      head = h.head;
      code = is;
    })))))

-- ---- lines of a script

thread_end_stands : (st : State) (code : CodeAt) (line : List WordAt) → AtThread st code → Holds Stands (thread_ended st code line)
thread_end_stands st code line h =
    (let s = so_far st.names.tables st.classes st.filters in
    let o = h.top in
    bind (checked code 2000) _ (checked_formed s (in_script s) 2000 code h.code) (λ body is.
    bind (end_at line 1) _ (anything (end_at line 1)) (λ _ _. done _ (record {
      version = o.version;
      closed = script_closed st.pool st.names.tables st.classes st.filters st.threads st.picks body o.closed is h.room;
      named = o.named;
    }))))

in_thread_stands : (st : State) (code : CodeAt) (line : List WordAt) → All IsWord line → AtThread st code → Holds Stands (inner_thread st code line)
unfolding inner_thread
in_thread_stands st code line ws h =
    (let s = so_far st.names.tables st.classes st.filters in
    let o = h.top in
    bind (first_at line) _ (anything (first_at line)) (λ w _. either (bytes_eq w.bytes (codes "end")) _ _
    (λ _. thread_end_stands st code line h)
    (λ _. bind (program_line programs.Script 2000 st.names code w line) _ (program_fits s (in_script s) programs.Script 2000 st.names code w line (script_declares st o) ws h.code) (λ more is.
    done (record st { section = sections.Thread more }) (record {
      top = record { version = o.version; closed = o.closed; named = o.named };
      room = h.room;
      code = is;
    })))))

-- ---- lines of a filter

filter_end_stands : (st : State) (rules : List Rule) (line : List WordAt) → AtFilter st rules → Holds Stands (filter_ended st rules line)
filter_end_stands st rules line h = bind (end_at line 1) _ (anything (end_at line 1)) (λ _ _.
    (let e : suc (length st.filters) ≡ length (st.filters ++ rules ∷ []) = omega (arith, length-append st.filters (rules ∷ [])) in
    done _ (record {
      version = h.version;
      closed = filter_closed st.pool st.names.tables st.classes st.filters st.threads st.picks rules h.closed h.rules;
      named = filter_renamed _ _ _ _ _ st.names.tables st.classes (suc (length st.filters)) (length (st.filters ++ rules ∷ [])) e h.named;
    })))

rule_stands : (rules : List Rule) (w : WordAt) (line : List WordAt) (o : Option RuleWord) → IsFilter rules → Holds IsFilter (ruled rules w line o)
rule_stands rules w line None h = fails _
rule_stands rules w line (Some k) h = either (nat_le 32 (length rules)) _ _ (λ _. fails _) (λ f.
    bind (rule_of k line) _ (rule_new k line) (λ r is.
    (let room : length rules < 32 = leb-false 32 (length rules) f in
    done (rules ++ r ∷ []) (All-push IsRule rules r h.0 is, omega (arith, length-append rules (r ∷ []))))))

in_filter_stands : (st : State) (rules : List Rule) (line : List WordAt) → AtFilter st rules → Holds Stands (inner_filter st rules line)
unfolding inner_filter
in_filter_stands st rules line h = bind (first_at line) _ (anything (first_at line)) (λ w _. either (bytes_eq w.bytes (codes "end")) _ _
    (λ _. filter_end_stands st rules line h)
    (λ _. bind (ruled rules w line (rule_word_of w.bytes)) _ (rule_stands rules w line (rule_word_of w.bytes) h.rules) (λ more is.
    done (record st { section = sections.Filter more }) (record { version = h.version; closed = h.closed; named = h.named; rules = is }))))

-- ---- every line

by_section_stands : (st : State) (line : List WordAt) (sec : Section) → All IsWord line → st.section ≡ sec → StandsAt st sec → Holds Stands (by_section st line sec)
by_section_stands st line (sections.Header pending) ws e h = header_stands st pending line h
by_section_stands st line sections.Top ws e h = top_stands st line e h
by_section_stands st line (sections.Interface i) ws e h = in_interface st i line h
by_section_stands st line (sections.Class c) ws e h = in_class_stands st c line h
by_section_stands st line (sections.Body c head code) ws e h = in_body_stands st c head code line ws h
by_section_stands st line (sections.Filter rules) ws e h = in_filter_stands st rules line h
by_section_stands st line (sections.Thread code) ws e h = in_thread_stands st code line ws h

pub step_stands : (st : State) (line : List WordAt) → All IsWord line → Stands st → Holds Stands (step st line)
unfolding step
step_stands st [] ws h = done st h
step_stands st (w ∷ vs) ws h = by_section_stands st (w ∷ vs) st.section ws refl h
