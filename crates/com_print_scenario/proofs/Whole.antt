-- A whole scenario is read again.
use Rattle.std.proofs.Common.{◌≡◌, ℕ, ◌+◌, ◌≤◌, ◌⊎◌, inl, inr, List, [], ◌∷◌, ◌++◌, map, drop, Option, Some, None, is_some, true, false, not, if◌then◌else◌, refl, sym, ap, ◌∙◌, subst, arith, length, length-append, codes, decimal, Result, Ok, Err, All, bytes_eq, ◌==◌, ◌&&◌}
use Rattle.std.proofs.lemmas.Bool.Decides.{nat_tests}
use Rattle.std.proofs.lemmas.List.{take-append-drop, length-map}
use Rattle.std.proofs.lemmas.List.Elements.{All-tail}
use Rattle.std.proofs.lemmas.Fmt.{decimal_digit}
use Rattle.com_base.specs.declared.guid.Guid.{Guid}
use Rattle.com_body.specs.declared.statements.Stmt.{Stmt}
use Rattle.com_body.specs.declared.frame.Native.{Native}
use Rattle.com_body.specs.declared.frame.Native.TheVariants as natives
use Rattle.com_classes.specs.BuiltIns.{built_in_interfaces, iunknown, icounter, irelay, ilatch}
use Rattle.com_classes.specs.declared.interfaces.Interface.{Interface}
use Rattle.com_classes.specs.declared.interfaces.Method.{Method}
use Rattle.com_classes.specs.declared.classes.Class.{Class}
use Rattle.com_filter.specs.declared.Rule.{Rule}
use Rattle.com_model.specs.declared.scenario.Scenario.{Scenario}
use Rattle.com_classes.specs.Lookups.{same_guid}
use Rattle.com_model.specs.Formed.{Formed, Distinct, EachFrom, IsMethod, same_method, IsInterface, same_interface, IsAllowed, documented_iid, in_script, IsClass, same_class}
use Rattle.com_text.specs.declared.word.Sort.TheVariants as sorts
use Rattle.com_text.specs.Words.{WordAt}
use Rattle.com_read_operands.specs.declared.faults.Fault.{Fault}
use Rattle.com_read_operands.specs.Reading.{◌>>=◌, fault_at}
use Rattle.com_read_operands.specs.Naming.{is_name}
use Rattle.com_read_statements.specs.declared.keywords.Program.TheVariants as programs
use Rattle.com_read_statements.specs.declared.names.Names.{Names}
use Rattle.com_read_sections.specs.declared.state.State.{State}
use Rattle.com_read_sections.specs.declared.state.Section.TheVariants as sections
use Rattle.com_read_lines.specs.Tables.{guid_eq}
use Rattle.com_read_lines.specs.Methods.{type_word_of}
use Rattle.com_read_lines.specs.Header.{version_of, ended, version_by, version_at}
use Rattle.com_read_sections.specs.Header.{header_line}
use Rattle.com_read_sections.specs.Outlines.{begun, taken_iids, finish}
use Rattle.com_print.specs.Spelled.{Spelled, plain, spelled_of}
use Rattle.com_print.specs.Ranges.{AreNames}
use Rattle.com_print.proofs.Places.{end_again}
use Rattle.com_print.specs.Standing.{AreDeclared, names_of}
use Rattle.com_print_scenario.specs.Printed.{header_words, pool_words, number_word, filter_names, names_in, interface_lines, class_lines, classes_lines, filters_lines, threads_lines, picks_lines, sections_lines, scenario_lines, outline_of}
use Rattle.com_print_scenario.specs.Ranges.{FitsTypes}
use Rattle.com_print_scenario.proofs.Added.{add_all, can_read_all}
use Rattle.com_print_scenario.proofs.Apart.{IsNew, either_left, either_right}
use Rattle.com_print_scenario.proofs.ClassesRead.{at_classes, names_of_all, name_of_class, CanAddAll, classes_on}
use Rattle.com_print_scenario.proofs.Defined.{define_all, new_iid, no_type_word}
use Rattle.com_print_scenario.proofs.FiltersRead.{at_filters, filters_on, at_threads, CanRun, threads_on, at_picks, picks_on, filters_named}
use Rattle.com_print_scenario.proofs.Forms.{name_of, apart_map, all_map, all_of}
use Rattle.com_print_scenario.proofs.InterfacesRead.{IsTop, at_interfaces, name_of_interface, CanDefineAll, interfaces_on}
use Rattle.com_print_scenario.proofs.Methods.{AreTypes}
use Rattle.com_print_scenario.proofs.Places.{at_of}
use Rattle.com_print_scenario.proofs.Runs.{Gets, line_then, step_in, ends}
use Rattle.com_print_scenario.proofs.Standings.{Corresponds}
use Rattle.com_print_scenario.proofs.Tops.{pool_again}

-- ---- the header

version_again : (v : ℕ) → (v ≡ 1) ⊎ (v ≡ 2) → version_of (decimal v) ≡ Some v
version_again v (inl e) = ap (λ n. version_of (decimal n)) e ∙ ap version_of (decimal_digit 1 (omega arith)) ∙ ap Some (sym e)
version_again v (inr e) = ap (λ n. version_of (decimal n)) e ∙ ap version_of (decimal_digit 2 (omega arith)) ∙ ap Some (sym e)

one_or_two : (v : ℕ) → 1 ≤ v → v ≤ 2 → (v ≡ 1) ⊎ (v ≡ 2)
one_or_two v ge le = grind arith

-- behind the header
abbrev pub headed : ℕ → State
headed v = record (begun built_in_interfaces) { version = v; section = sections.Top }

abbrev versioned : Result ℕ Fault → Result State Fault
versioned r = r >>= λ v. Ok (headed v)

header_again : (line : List WordAt) (v : ℕ) → map spelled_of line ≡ header_words v → 1 ≤ v → v ≤ 2 → header_line (begun built_in_interfaces) None line ≡ Ok (headed v)
unfolding header_line version_at
header_again [] v e ge le = absurd cc
header_again (w ∷ []) v e ge le = absurd cc
header_again (one ∷ two ∷ ws) v e ge le =
    let line : List WordAt = one ∷ two ∷ ws in
    let first : spelled_of one ≡ plain (codes "scenario") = cc in
    let second : spelled_of two ≡ number_word v = cc in
    let sort : two.sort ≡ sorts.Plain = ap (λ (s : Spelled). s.sort) second in
    let scenario : one.bytes ≡ codes "scenario" = ap (λ (s : Spelled). s.bytes) first in
    let number : two.bytes ≡ decimal v = ap (λ (s : Spelled). s.bytes) second in
    ap (λ s. versioned (version_by None line one two s)) sort
    ∙ ap (λ (bs : List ℕ). versioned (if not (bytes_eq bs (codes "scenario")) then Err (fault_at 1 one) else ended line two (version_of two.bytes))) scenario
    ∙ ap (λ (bs : List ℕ). versioned (ended line two (version_of bs))) number
    ∙ ap (λ (o : Option ℕ). versioned (ended line two o)) (version_again v (one_or_two v ge le))
    ∙ ap (λ (r : Result (Unit {0}) Fault). versioned (r >>= λ done. Ok v)) (end_again line 2 (at_of line _ 2 e))

-- ---- names of the whole

filter_count : (n : ℕ) (fs : List (List Rule)) → length (filter_names n fs) ≡ length fs
filter_count n [] = refl
filter_count n (f ∷ fs) = let e = filter_count (n + 1) fs in omega arith

interface_name_of : (n : ℕ) (i : Interface) → IsInterface n i → is_name i.name ≡ true
interface_name_of n i h = name_of i.name h.0

class_name_of : (s : Scenario) (n : ℕ) (c : Class) → IsClass s n c → is_name c.name ≡ true
class_name_of s n c h = name_of c.name h.0

pub interface_names : (s : Scenario) → Formed s → AreTypes (map name_of_interface s.classes.interfaces)
interface_names s f =
    let xs = s.classes.interfaces in
    let few = f.interfaces.few in
    record {
      good = record {
        each = all_map name_of_interface (λ i. is_name i.name ≡ true) (λ n. is_name n ≡ true) (λ i h. h) xs (all_of IsInterface (λ i. is_name i.name ≡ true) interface_name_of 0 xs f.interfaces.each);
        distinct = apart_map name_of_interface same_interface (λ a b h. either_left (bytes_eq a.name b.name) (same_guid a.iid b.iid) h) xs f.interfaces.distinct;
        few = (let e = length-map xs name_of_interface in omega arith);
      };
      no_type = all_map name_of_interface IsAllowed (λ n. is_some (type_word_of n) ≡ false) (λ i h. no_type_word i.name h.1) xs f.interfaces.allowed;
    }

pub class_names : (s : Scenario) → Formed s → AreNames (map name_of_class s.classes.classes)
class_names s f =
    let cs = s.classes.classes in
    let few = f.classes.few in
    record {
      each = all_map name_of_class (λ c. is_name c.name ≡ true) (λ n. is_name n ≡ true) (λ c h. h) cs (all_of (IsClass s) (λ c. is_name c.name ≡ true) (class_name_of s) 1 cs f.classes.each);
      distinct = apart_map name_of_class same_class (λ a b h. either_left (bytes_eq a.name b.name) (same_guid a.clsid b.clsid) h) cs f.classes.distinct;
      few = (let e = length-map cs name_of_class in omega arith);
    }

names_as_map : (ms : List Method) → names_of ms ≡ map (λ m. m.name) ms
names_as_map [] = refl
names_as_map (m ∷ ms) = ap (λ (x : List (List ℕ)). m.name ∷ x) (names_as_map ms)

method_names : (n : ℕ) (i : Interface) → IsInterface n i → AreNames (names_of i.methods)
method_names n i h =
    let few = h.2 in
    subst AreNames (sym (names_as_map i.methods)) (record {
      each = all_map (λ (m : Method). m.name) (IsMethod n) (λ x. is_name x ≡ true) (λ m g. name_of m.name g.0) i.methods h.1;
      distinct = apart_map (λ (m : Method). m.name) same_method (λ a b g. g) i.methods h.3;
      few = (let e = length-map i.methods (λ (m : Method). m.name) in omega arith);
    })

no_names : AreNames []
no_names = record { each = λ k d lt. absurd (omega arith); distinct = tt; few = omega arith }

-- among these classes and filters statements can stand
declared_with : (s : Scenario) → Formed s → (classes filters : List (List ℕ)) → AreNames classes → AreNames filters → All (λ n. bytes_eq n (codes "none") ≡ false) filters
    → AreDeclared (record { classes = classes; interfaces = map name_of_interface s.classes.interfaces; filters = filters; tables = s.classes.interfaces })
declared_with s f classes filters good_classes good_filters none = record {
  classes = good_classes;
  interfaces = (interface_names s f).good;
  filters = good_filters;
  no_none = none;
  methods = all_of IsInterface (λ (i : Interface). AreNames (names_of i.methods)) method_names 0 s.classes.interfaces f.interfaces.each;
}

pub filter_names_good : (s : Scenario) → Formed s → AreNames (filter_names 1 s.filters)
filter_names_good s f =
    let few = f.filters.1 in
    let t = filters_named 1 s.filters (omega arith) in
    let e = filter_count 1 s.filters in
    record { each = t.0; distinct = t.1; few = omega arith }

pub all_declared : (s : Scenario) → Formed s → AreDeclared (names_in s)
all_declared s f =
    let few = f.filters.1 in
    declared_with s f (map name_of_class s.classes.classes) (filter_names 1 s.filters) (class_names s f) (filter_names_good s f) (filters_named 1 s.filters (omega arith)).2

-- ---- the IIDs that are taken from the start

equal_sym : (a b : ℕ) → (a == b) ≡ (b == a)
equal_sym a b = grind (arith, nat_tests)

bytes_sym : (xs ys : List ℕ) → bytes_eq xs ys ≡ bytes_eq ys xs
bytes_sym [] [] = refl
bytes_sym [] (y ∷ ys) = refl
bytes_sym (x ∷ xs) [] = refl
bytes_sym (x ∷ xs) (y ∷ ys) = ap (λ b. b && bytes_eq xs ys) (equal_sym x y) ∙ ap (λ b. y == x && b) (bytes_sym xs ys)

other_way : (g k : Guid) → same_guid k g ≡ false → guid_eq g k ≡ false
other_way g k h =
    ap (λ b. b && g.data2 == k.data2 && g.data3 == k.data3 && bytes_eq g.data4 k.data4) (equal_sym g.data1 k.data1)
    ∙ ap (λ b. k.data1 == g.data1 && b && g.data3 == k.data3 && bytes_eq g.data4 k.data4) (equal_sym g.data2 k.data2)
    ∙ ap (λ b. k.data1 == g.data1 && k.data2 == g.data2 && b && bytes_eq g.data4 k.data4) (equal_sym g.data3 k.data3)
    ∙ ap (λ b. k.data1 == g.data1 && k.data2 == g.data2 && k.data3 == g.data3 && b) (bytes_sym g.data4 k.data4)
    ∙ h

built_taken : (i : Interface) → IsNew same_interface built_in_interfaces i → IsAllowed i → IsNew guid_eq (taken_iids built_in_interfaces) i.iid
built_taken i new allowed =
    let a = either_left (same_guid i.iid (documented_iid 1)) _ allowed.0 in
    let h = either_right (same_guid i.iid (documented_iid 1)) _ allowed.0 in
    let b = either_left (same_guid i.iid (documented_iid 0x16)) _ h in
    let c = either_right (same_guid i.iid (documented_iid 0x16)) _ h in (
      new_iid iunknown i new.0,
      (
        new_iid icounter i new.1.0,
        (
          new_iid irelay i new.1.1.0,
          (
            new_iid ilatch i new.1.1.1.0,
            (other_way (documented_iid 1) i.iid a, (other_way (documented_iid 0x16) i.iid b, (other_way (documented_iid 0x146) i.iid c, tt))),
          ),
        ),
      ),
    )

-- ---- the whole

pub built_first : (s : Scenario) → Formed s → s.classes.interfaces ≡ built_in_interfaces ++ drop 4 s.classes.interfaces
built_first s f = sym (take-append-drop 4 s.classes.interfaces) ∙ ap (λ (x : List Interface). x ++ drop 4 s.classes.interfaces) f.interfaces.built

-- the parts of the lines, with what follows
abbrev from_picks : Scenario → List (List Spelled)
from_picks s = picks_lines s.picks

abbrev from_threads : Scenario → List (List Spelled)
from_threads s = threads_lines (names_in s) s.threads ++ from_picks s

abbrev from_filters : Scenario → List (List Spelled)
from_filters s = filters_lines 1 s.filters ++ from_threads s

abbrev from_classes : Scenario → List (List Spelled)
from_classes s = classes_lines (names_in s) s.classes.classes ++ from_filters s

picks_top : (ns : List ℕ) → IsTop (picks_lines ns)
picks_top [] = tt
picks_top (n ∷ ns) = (refl, refl)

threads_top : (names : Names) (bs : List (List Stmt)) (ls : List (List Spelled)) → IsTop ls → IsTop (threads_lines names bs ++ ls)
threads_top names [] ls h = h
threads_top names (b ∷ bs) ls h = (refl, refl)

filters_top : (n : ℕ) (fs : List (List Rule)) (ls : List (List Spelled)) → IsTop ls → IsTop (filters_lines n fs ++ ls)
filters_top n [] ls h = h
filters_top n (f ∷ fs) ls h = (refl, refl)

class_top : (names : Names) (c : Class) (native : Native) (more ls : List (List Spelled)) → IsTop ((class_lines names c native ++ more) ++ ls)
class_top names c natives.Bodies more ls = (refl, refl)
class_top names c natives.Counter more ls = (refl, refl)
class_top names c natives.Relay more ls = (refl, refl)
class_top names c natives.Latch more ls = (refl, refl)

classes_top : (names : Names) (cs : List Class) (ls : List (List Spelled)) → IsTop ls → IsTop (classes_lines names cs ++ ls)
classes_top names [] ls h = h
classes_top names (c ∷ cs) ls h = class_top names c c.native (classes_lines names cs) ls

-- behind the pool, behind the interfaces, behind the classes, behind the filters and behind the threads
abbrev pub pooled : Scenario → State
pooled s = record (headed s.version) { pool = Some s.pool }

abbrev pub behind_interfaces : Scenario → List Guid → State
behind_interfaces s ids = at_interfaces (pooled s) (map name_of_interface s.classes.interfaces) ids s.classes.interfaces

abbrev behind_classes : Scenario → List Guid → List Guid → State
behind_classes s ids clsids = at_classes (behind_interfaces s ids) (map name_of_class s.classes.classes) clsids s.classes.classes

abbrev behind_filters : Scenario → List Guid → List Guid → State
behind_filters s ids clsids = at_filters (behind_classes s ids clsids) (filter_names 1 s.filters) s.filters

abbrev behind_threads : Scenario → List Guid → List Guid → State
behind_threads s ids clsids = at_threads (behind_filters s ids clsids) s.threads

end_read : (s : Scenario) (ids clsids : List Guid) → Gets (at_picks (behind_threads s ids clsids) s.picks) [] (outline_of s)
unfolding finish
end_read s ids clsids = ends (at_picks (behind_threads s ids clsids) s.picks) (outline_of s) (λ l c. refl)

picks_read : (s : Scenario) → Formed s → (ids clsids : List Guid) → Gets (behind_threads s ids clsids) (from_picks s) (outline_of s)
picks_read s f ids clsids = picks_on (behind_threads s ids clsids) s.picks (outline_of s) f.picks (end_read s ids clsids)

corresponds : (s : Scenario) → Corresponds s (in_script s) programs.Script (names_in s)
corresponds s = record {
  cells = refl;
  links = refl;
  classes = length-map s.classes.classes name_of_class;
  interfaces = length-map s.classes.interfaces name_of_interface;
  tables = refl;
  filters = λ h. filter_count 1 s.filters;
}

pub scripts_run : (s : Scenario) → Formed s → FitsTypes s → All (CanRun (names_in s)) s.threads
scripts_run s f t = λ k d lt. record {
  statements = can_read_all s (in_script s) 2000 programs.Script (names_in s) _ (corresponds s) (f.threads.0 k d lt) (t.threads k d lt);
  whole = (f.threads.0 k d lt).whole;
}

threads_read : (s : Scenario) → Formed s → FitsTypes s → (ids clsids : List Guid) → Gets (behind_filters s ids clsids) (from_threads s) (outline_of s)
threads_read s f t ids clsids =
    let few = f.threads.1 in
    threads_on (behind_filters s ids clsids) s.threads [] (from_picks s) (outline_of s) (all_declared s f) (scripts_run s f t) (omega arith) (picks_read s f ids clsids)

filters_read : (s : Scenario) → Formed s → FitsTypes s → (ids clsids : List Guid) → Gets (behind_classes s ids clsids) (from_filters s) (outline_of s)
filters_read s f t ids clsids =
    let few = f.filters.1 in
    filters_on (behind_classes s ids clsids) 1 [] s.filters [] (from_threads s) (outline_of s) (λ m ge lt. tt) f.filters.0 (omega arith) (omega arith) (threads_read s f t ids clsids)

pub classes_add : (s : Scenario) → Formed s → FitsTypes s → (ids : List Guid)
    → CanAddAll (behind_interfaces s ids) (names_of_all (behind_interfaces s ids) (map name_of_class s.classes.classes) (filter_names 1 s.filters)) [] [] s.classes.classes
classes_add s f t ids =
    let few = f.classes.few in
    add_all s (behind_interfaces s ids) (map name_of_class s.classes.classes) (filter_names 1 s.filters) [] s.classes.classes [] [] 1
    refl refl refl (omega arith) (length-map s.classes.interfaces name_of_interface) refl
    (λ front good. declared_with s f front [] good no_names (λ k d lt. absurd (omega arith))) (class_names s f)
    f.classes.each f.classes.distinct t.classes (λ c new. tt)

classes_read : (s : Scenario) → Formed s → FitsTypes s → (ids : List Guid) → Gets (behind_interfaces s ids) (from_classes s) (outline_of s)
classes_read s f t ids =
    classes_on (behind_interfaces s ids) (map name_of_class s.classes.classes) (filter_names 1 s.filters) [] [] [] s.classes.classes
    (from_filters s) (outline_of s) (classes_add s f t ids) (λ clsids. filters_read s f t ids clsids)

four_on : {X : Type 0} (P : X → Type 0) (a b c d : X) (xs : List X) → All P (a ∷ b ∷ c ∷ d ∷ xs) → All P xs
four_on P a b c d xs h =
    All-tail P d xs (All-tail P c (d ∷ xs) (All-tail P b (c ∷ d ∷ xs) (All-tail P a (b ∷ c ∷ d ∷ xs) h)))

abbrev declared_own : Scenario → List Interface
declared_own s = drop 4 s.classes.interfaces

pub interfaces_define : (s : Scenario) → Formed s → FitsTypes s → CanDefineAll (map name_of_interface built_in_interfaces) (taken_iids built_in_interfaces) (declared_own s)
interfaces_define s f t =
    let own = declared_own s in
    let e = built_first s f in
    let few = f.interfaces.few in
    let each = subst (EachFrom IsInterface 0) e f.interfaces.each in
    let short : 4 + length own ≤ 64 = (let g = ap length e in omega (arith, length-append built_in_interfaces own)) in
    define_all (map name_of_interface s.classes.interfaces) built_in_interfaces own (taken_iids built_in_interfaces) (map name_of_interface built_in_interfaces) 4
    (ap (map name_of_interface) e) refl refl short (interface_names s f) each.1.1.1.1
    (subst (Distinct same_interface) e f.interfaces.distinct)
    (four_on IsAllowed _ _ _ _ own (subst (All IsAllowed) e f.interfaces.allowed))
    t.interfaces built_taken

interfaces_read : (s : Scenario) → Formed s → FitsTypes s → Gets (pooled s) (interface_lines (map name_of_interface s.classes.interfaces) (declared_own s) ++ from_classes s) (outline_of s)
interfaces_read s f t =
    interfaces_on (pooled s) (map name_of_interface s.classes.interfaces) (map name_of_interface built_in_interfaces) (taken_iids built_in_interfaces) built_in_interfaces (declared_own s)
    (from_classes s) (outline_of s) (ap (map name_of_interface) (built_first s f)) (interfaces_define s f t)
    (classes_top (names_in s) s.classes.classes (from_filters s) (filters_top 1 s.filters (from_threads s) (threads_top (names_in s) s.threads (from_picks s) (picks_top s.picks))))
    (λ ids. subst (λ (x : List Interface). Gets (at_interfaces (pooled s) (map name_of_interface s.classes.interfaces) ids x) (from_classes s) (outline_of s)) (built_first s f) (classes_read s f t ids))

-- The lines of a formed scenario are read as what it declares.
pub scenario_read : (s : Scenario) → Formed s → FitsTypes s → Gets (begun built_in_interfaces) (scenario_lines s) (outline_of s)
unfolding scenario_lines
scenario_read s f t =
    line_then (begun built_in_interfaces) (headed s.version) (header_words s.version) (pool_words s.pool ∷ sections_lines (names_in s) s) (outline_of s)
    (λ line e. step_in (begun built_in_interfaces) line _ _ e ∙ header_again line s.version e f.version.0 f.version.1)
    (line_then (headed s.version) (pooled s) (pool_words s.pool) (sections_lines (names_in s) s) (outline_of s)
    (λ line e. step_in (headed s.version) line _ _ e ∙ pool_again (headed s.version) line s.pool e refl f.pool.0 f.pool.1)
    (interfaces_read s f t))
