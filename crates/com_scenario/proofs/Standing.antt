-- What stands of all that was read so far.
use Rattle.std.proofs.Common.{◌≡◌, ℕ, zero, suc, ◌+◌, ◌≤◌, ◌<◌, ◌^◌, true, false, not, nat_le, List, [], ◌∷◌, ◌++◌, length, map, take, drop, Option, Some, None, All, refl, sym, ap, subst, ◌∙◌, arith, length-append}
use Rattle.std.specs.Prelude.{slice_get}
use Rattle.std.proofs.lemmas.List.{length-map}
use Rattle.std.proofs.lemmas.List.Elements.{All-push, All-weaker}
use Rattle.com_base.specs.declared.guid.Guid.{Guid}
use Rattle.com_body.specs.declared.frame.Native.TheVariants as natives
use Rattle.com_body.specs.declared.statements.Stmt.{Stmt}
use Rattle.com_body.specs.declared.body.BodyFault.{BodyFault}
use Rattle.com_body.specs.declared.body.BodyFault.TheVariants as body_faults
use Rattle.com_body.specs.Bodies.{IsInRange, fault_of}
use Rattle.com_classes.specs.declared.interfaces.Interface.{Interface}
use Rattle.com_classes.specs.declared.classes.Class.{Class}
use Rattle.com_classes.specs.declared.classes.MethodBody.{MethodBody}
use Rattle.com_classes.specs.declared.classes.ThreadingModel.{ThreadingModel}
use Rattle.com_classes.specs.declared.classes.ThreadingModel.TheVariants as models
use Rattle.com_classes.specs.BuiltIns.{built_in_interfaces}
use Rattle.com_filter.specs.declared.Rule.{Rule}
use Rattle.com_text.specs.Words.{WordAt}
use Rattle.com_read_operands.specs.declared.faults.Fault.{Fault}
use Rattle.com_read_statements.specs.declared.calls.MethodNumber.{MethodNumber}
use Rattle.com_read_statements.specs.declared.keywords.Program.{Program}
use Rattle.com_read_statements.specs.declared.keywords.Program.TheVariants as programs
use Rattle.com_read_statements.specs.declared.keywords.Keyword.{Keyword}
use Rattle.com_read_statements.specs.declared.names.Names.{Names}
use Rattle.com_read_statements.specs.Keywords.{has_cells, has_links, keyword_of, takes}
use Rattle.com_read_statements.specs.Statements.{stmt_of}
use Rattle.com_read_sections.specs.declared.state.State.{State}
use Rattle.com_read_sections.specs.declared.state.Section.{Section}
use Rattle.com_read_sections.specs.declared.state.Section.TheVariants as sections
use Rattle.com_read_lines.specs.Codes.{CodeAt, code_more, spotted, checked_by, checked}
use Rattle.com_read_lines.specs.Programs.{spot_at, stated, allowed, program_line}
use Rattle.com_read_sections.specs.Opened.{program_of, has_body}
use Rattle.com_read_sections.specs.Outlines.{taken_iids}
use Rattle.com_model.specs.declared.scenario.Scenario.{Scenario}
use Rattle.com_classes.specs.Activation.{is_agile}
use Rattle.com_model.specs.Formed.{EachFrom, Distinct, FormedInterfaces, FormedBody, IsInterface, IsAllowed, same_interface, same_class, Context, in_script, in_class, IsClass, IsFilter, methods_of}
use Rattle.com_laws_scenario.specs.Words.{IsWord}
use Rattle.com_laws_scenario.specs.Holds.{Holds}
use Rattle.com_laws_scenario.specs.Declared.{Declares, Fits}
use Rattle.com_laws_scenario.proofs.Holds.{done, fails, bind, either}
use Rattle.com_laws_scenario.proofs.Statements.{stmt_formed}
use Rattle.com_scenario.proofs.Growing.{Grows, each_push, distinct_push, get_push, body_grows, class_stays, classes_stay}

-- the scenario of what is closed
abbrev pub so_far : List Interface → List Class → List (List Rule) → Scenario
so_far interfaces classes filters = record { version = 1; pool = 1; classes = record { interfaces = interfaces; classes = classes }; filters = filters; threads = []; picks = [] }

abbrev pub IsPool : Option ℕ → Type 0
IsPool None = Unit {0}
IsPool (Some n) = (1 ≤ n) × (n ≤ 8)

-- what is closed is formed
pub record Closed (pool : Option ℕ) (interfaces : List Interface) (classes : List Class) (filters : List (List Rule)) (threads : List (List Stmt)) (picks : List ℕ) : Type 0 where
  pub lanes : IsPool pool
  pub tables : FormedInterfaces interfaces
  pub each : EachFrom (IsClass (so_far interfaces classes filters)) 1 classes
  pub distinct : Distinct same_class classes
  pub rules : All IsFilter filters
  pub scripts : All (FormedBody (so_far interfaces classes filters) (in_script (so_far interfaces classes filters)) 2000) threads
  pub few_scripts : length threads ≤ 16
  pub lanes_first : All (λ l. l < 2 ^ 32) picks

-- the names and GUIDs that are declared are those of the interfaces and classes, and of so many filters
pub record Named (interface_names : List (List ℕ)) (iids : List Guid) (class_names : List (List ℕ)) (clsids : List Guid) (filter_names : List (List ℕ)) (interfaces : List Interface) (classes : List Class) (filters : ℕ) : Type 0 where
  pub of_interfaces : interface_names ≡ map (λ (i : Interface). i.name) interfaces
  pub iids_of_interfaces : iids ≡ taken_iids built_in_interfaces ++ map (λ (i : Interface). i.iid) (drop 4 interfaces)
  pub few_interfaces : length interfaces ≤ 64
  pub of_classes : class_names ≡ map (λ (c : Class). c.name) classes
  pub clsids_of_classes : clsids ≡ map (λ (c : Class). c.clsid) classes
  pub few_classes : length classes ≤ 64
  pub of_filters : length filter_names ≡ filters
  pub few_filters : filters ≤ 16

abbrev pub IsVersion : ℕ → Type 0
IsVersion n = (1 ≤ n) × (n ≤ 2)

abbrev pub ClosedIn : State → Type 0
ClosedIn st = Closed st.pool st.names.tables st.classes st.filters st.threads st.picks

abbrev pub NamedIn : State → List Interface → List Class → ℕ → Type 0
NamedIn st interfaces classes filters = Named st.names.interfaces st.iids st.names.classes st.clsids st.names.filters interfaces classes filters

-- ---- what is open

-- the interface that is open may stand behind the closed ones
pub record OpenInterface (interfaces : List Interface) (i : Interface) : Type 0 where
  pub formed : IsInterface (length interfaces) i
  pub allowed : IsAllowed i
  pub new : All (λ k. same_interface k i ≡ false) interfaces

-- the class that is open may stand behind the closed ones
pub record OpenClass (s : Scenario) (classes : List Class) (c : Class) : Type 0 where
  pub formed : IsClass s (suc (length classes)) c
  pub new : All (λ k. same_class k c ≡ false) classes
  pub plain : c.native ≡ natives.Bodies

-- the method whose body is open has none yet
pub record OpenBody (interfaces : List Interface) (bodies : List MethodBody) (head : MethodNumber) : Type 0 where
  pub method : head.method < length (methods_of (slice_get interfaces head.iface))
  pub new : has_body bodies head ≡ false

-- each statement of an open body or script may stand there
abbrev pub Scripted : Scenario → Context → CodeAt → Type 0
Scripted s x code = All (Fits s x) code.statements

-- ---- what stands in each section

pub record AtHeader (st : State) : Type 0 where
  pub closed : ClosedIn st
  pub named : NamedIn st st.names.tables st.classes (length st.filters)

pub record AtTop (st : State) : Type 0 where
  pub version : IsVersion st.version
  pub closed : ClosedIn st
  pub named : NamedIn st st.names.tables st.classes (length st.filters)

pub record AtInterface (st : State) (i : Interface) : Type 0 where
  pub version : IsVersion st.version
  pub closed : ClosedIn st
  pub named : NamedIn st (st.names.tables ++ i ∷ []) st.classes (length st.filters)
  pub opened : OpenInterface st.names.tables i

pub record AtClass (st : State) (c : Class) : Type 0 where
  pub version : IsVersion st.version
  pub closed : ClosedIn st
  pub named : NamedIn st st.names.tables (st.classes ++ c ∷ []) (length st.filters)
  pub opened : OpenClass (so_far st.names.tables st.classes st.filters) st.classes c

pub record AtBody (st : State) (c : Class) (number : MethodNumber) (statements : CodeAt) : Type 0 where
  pub outer : AtClass st c
  pub head : OpenBody st.names.tables c.bodies number
  pub code : Scripted (so_far st.names.tables st.classes st.filters) (in_class (suc (length st.classes)) c) statements

pub record AtFilter (st : State) (above : List Rule) : Type 0 where
  pub version : IsVersion st.version
  pub closed : ClosedIn st
  pub named : NamedIn st st.names.tables st.classes (suc (length st.filters))
  pub rules : IsFilter above

pub record AtThread (st : State) (statements : CodeAt) : Type 0 where
  pub top : AtTop st
  pub room : length st.threads < 16
  pub code : Scripted (so_far st.names.tables st.classes st.filters) (in_script (so_far st.names.tables st.classes st.filters)) statements

abbrev pub StandsAt : State → Section → Type 0
StandsAt st (sections.Header pending) = AtHeader st
StandsAt st sections.Top = AtTop st
StandsAt st (sections.Interface i) = AtInterface st i
StandsAt st (sections.Class c) = AtClass st c
StandsAt st (sections.Body c head code) = AtBody st c head code
StandsAt st (sections.Filter rules) = AtFilter st rules
StandsAt st (sections.Thread code) = AtThread st code

abbrev pub Stands : State → Type 0
Stands st = StandsAt st st.section

-- ---- the tables grow

pub more_classes : (interfaces : List Interface) (classes : List Class) (filters : List (List Rule)) (c : Class) → Grows (so_far interfaces classes filters) (so_far interfaces (classes ++ c ∷ []) filters)
more_classes interfaces classes filters c = record { stands = λ i x e. e; interfaces = omega arith; filters = omega arith }

pub more_interfaces : (interfaces : List Interface) (classes : List Class) (filters : List (List Rule)) (k : Interface) → Grows (so_far interfaces classes filters) (so_far (interfaces ++ k ∷ []) classes filters)
more_interfaces interfaces classes filters k = record { stands = λ i x e. get_push interfaces k i x e; interfaces = omega (arith, length-append interfaces (k ∷ [])); filters = omega arith }

pub more_filters : (interfaces : List Interface) (classes : List Class) (filters : List (List Rule)) (f : List Rule) → Grows (so_far interfaces classes filters) (so_far interfaces classes (filters ++ f ∷ []))
more_filters interfaces classes filters f = record { stands = λ i x e. e; interfaces = omega arith; filters = omega (arith, length-append filters (f ∷ [])) }

scripts_grow : (s t : Scenario) (scripts : List (List Stmt)) → Grows s t → length s.classes.classes ≤ length t.classes.classes
    → All (FormedBody s (in_script s) 2000) scripts → All (FormedBody t (in_script t) 2000) scripts
scripts_grow s t scripts g more h = All-weaker (FormedBody s (in_script s) 2000) (FormedBody t (in_script t) 2000)
    (λ b k. body_grows s t (in_script s) (in_script t) 2000 b g (record { body = refl; links = refl; classes = more }) k) scripts h

-- one class more
pub class_closed : (pool : Option ℕ) (interfaces : List Interface) (classes : List Class) (filters : List (List Rule)) (threads : List (List Stmt)) (picks : List ℕ) (c : Class)
    → Closed pool interfaces classes filters threads picks → IsClass (so_far interfaces classes filters) (suc (length classes)) c → All (λ k. same_class k c ≡ false) classes
    → Closed pool interfaces (classes ++ c ∷ []) filters threads picks
class_closed pool interfaces classes filters threads picks c h formed new =
    let s = so_far interfaces classes filters in
    let t = so_far interfaces (classes ++ c ∷ []) filters in
    let g = more_classes interfaces classes filters c in
    let n : 1 + length classes ≡ suc (length classes) = omega arith in
    record {
      lanes = h.lanes;
      tables = h.tables;
      each = each_push (IsClass t) 1 classes c (classes_stay s t 1 classes g h.each) (subst (λ (k : ℕ). IsClass t k c) (sym n) (class_stays s t (suc (length classes)) c g formed));
      distinct = distinct_push same_class classes c h.distinct new;
      rules = h.rules;
      scripts = scripts_grow s t threads g (omega (arith, length-append classes (c ∷ []))) h.scripts;
      few_scripts = h.few_scripts;
      lanes_first = h.lanes_first;
    }

-- one interface more
take_push : {X : Type 0} (n : ℕ) (xs : List X) (x : X) (ys : List X) → take n xs ≡ ys → n ≤ length xs → take n (xs ++ x ∷ []) ≡ ys
take_push zero xs x ys h l = h
take_push (suc n) [] x ys h l = absurd (omega arith)
take_push (suc n) (z ∷ zs) x ys h l = ap (λ (v : List _). z ∷ v) (take_push n zs x (take n zs) refl (omega arith)) ∙ h

pub at_least_four : (interfaces : List Interface) → take 4 interfaces ≡ built_in_interfaces → 4 ≤ length interfaces
at_least_four [] h = absurd cc
at_least_four (a ∷ []) h = absurd cc
at_least_four (a ∷ b ∷ []) h = absurd cc
at_least_four (a ∷ b ∷ c ∷ []) h = absurd cc
at_least_four (a ∷ b ∷ c ∷ d ∷ is) h = omega arith

pub interface_closed_in : (interfaces : List Interface) (i : Interface) → FormedInterfaces interfaces → OpenInterface interfaces i → length (interfaces ++ i ∷ []) ≤ 64 → FormedInterfaces (interfaces ++ i ∷ [])
interface_closed_in interfaces i h o few =
    let n : 0 + length interfaces ≡ length interfaces = omega arith in
    record {
      built = take_push 4 interfaces i _ h.built (at_least_four interfaces h.built);
      few = few;
      each = each_push IsInterface 0 interfaces i h.each (subst (λ (k : ℕ). IsInterface k i) (sym n) o.formed);
      allowed = All-push IsAllowed interfaces i h.allowed o.allowed;
      distinct = distinct_push same_interface interfaces i h.distinct o.new;
    }

pub interface_closed_all : (pool : Option ℕ) (interfaces : List Interface) (classes : List Class) (filters : List (List Rule)) (threads : List (List Stmt)) (picks : List ℕ) (i : Interface)
    → Closed pool interfaces classes filters threads picks → OpenInterface interfaces i → length (interfaces ++ i ∷ []) ≤ 64 → Closed pool (interfaces ++ i ∷ []) classes filters threads picks
interface_closed_all pool interfaces classes filters threads picks i h o few =
    let s = so_far interfaces classes filters in
    let t = so_far (interfaces ++ i ∷ []) classes filters in
    let g = more_interfaces interfaces classes filters i in
    record {
      lanes = h.lanes;
      tables = interface_closed_in interfaces i h.tables o few;
      each = classes_stay s t 1 classes g h.each;
      distinct = h.distinct;
      rules = h.rules;
      scripts = scripts_grow s t threads g (omega arith) h.scripts;
      few_scripts = h.few_scripts;
      lanes_first = h.lanes_first;
    }

-- one filter more
pub filter_closed : (pool : Option ℕ) (interfaces : List Interface) (classes : List Class) (filters : List (List Rule)) (threads : List (List Stmt)) (picks : List ℕ) (f : List Rule)
    → Closed pool interfaces classes filters threads picks → IsFilter f → Closed pool interfaces classes (filters ++ f ∷ []) threads picks
filter_closed pool interfaces classes filters threads picks f h is =
    let s = so_far interfaces classes filters in
    let t = so_far interfaces classes (filters ++ f ∷ []) in
    let g = more_filters interfaces classes filters f in
    record {
      lanes = h.lanes;
      tables = h.tables;
      each = classes_stay s t 1 classes g h.each;
      distinct = h.distinct;
      rules = All-push IsFilter filters f h.rules is;
      scripts = scripts_grow s t threads g (omega arith) h.scripts;
      few_scripts = h.few_scripts;
      lanes_first = h.lanes_first;
    }

-- one script more
pub script_closed : (pool : Option ℕ) (interfaces : List Interface) (classes : List Class) (filters : List (List Rule)) (threads : List (List Stmt)) (picks : List ℕ) (b : List Stmt)
    → Closed pool interfaces classes filters threads picks → FormedBody (so_far interfaces classes filters) (in_script (so_far interfaces classes filters)) 2000 b → length threads < 16
    → Closed pool interfaces classes filters (threads ++ b ∷ []) picks
script_closed pool interfaces classes filters threads picks b h is room =
    let s = so_far interfaces classes filters in
    record {
      lanes = h.lanes;
      tables = h.tables;
      each = h.each;
      distinct = h.distinct;
      rules = h.rules;
      scripts = All-push (FormedBody s (in_script s) 2000) threads b h.scripts is;
      few_scripts = omega (arith, length-append threads (b ∷ []));
      lanes_first = h.lanes_first;
    }

-- ---- statements of bodies and scripts

in_ranges : (s : Scenario) (x : Context) (statements : List Stmt) → All (Fits s x) statements → All IsInRange statements
in_ranges s x statements h = All-weaker (Fits s x) IsInRange (λ a k. k.in_range) statements h

-- what was checked at its end is a body of its statements
pub record IsChecked (s : Scenario) (x : Context) (limit : ℕ) (b : List Stmt) : Type 0 where
  pub body : FormedBody s x limit b

spotted_fails : (P : List Stmt → Type 0) (o : Option Fault) → Holds P (spotted o)
spotted_fails P None = fails _
spotted_fails P (Some f) = fails _

checked_whole : (P : List Stmt → Type 0) (code : CodeAt) (o : Option BodyFault) → (o ≡ None → P code.statements) → Holds P (checked_by code o)
checked_whole P code None h = done code.statements (h refl)
checked_whole P code (Some (body_faults.Jump k)) h = spotted_fails P (slice_get code.spots k)
checked_whole P code (Some body_faults.TooLong) h = fails _

pub checked_formed : (s : Scenario) (x : Context) (limit : ℕ) (code : CodeAt) → Scripted s x code → Holds (FormedBody s x limit) (checked code limit)
checked_formed s x limit code h = checked_whole (FormedBody s x limit) code (fault_of code.statements limit)
    (λ e. record { ranges = in_ranges s x code.statements h; statements = All-weaker (Fits s x) _ (λ a k. k.stated) code.statements h; whole = e })

stated_fits : (s : Scenario) (x : Context) (p : Program) (limit : ℕ) (names : Names) (code : CodeAt) (w : WordAt) (line : List WordAt) (k : Keyword)
    → Declares s x p names → All IsWord line → takes p k ≡ true → Scripted s x code → Holds (Scripted s x) (stated p limit names code w line k)
stated_fits s x p limit names code w line k d h t c = either (nat_le limit (length code.statements)) _ _ (λ _. fails _) (λ _.
    bind (stmt_of p names k line) _ (stmt_formed s x p names k line d h t) (λ a is. done (code_more code a (spot_at k line)) (All-push (Fits s x) code.statements a c is)))

allowed_fits : (s : Scenario) (x : Context) (p : Program) (limit : ℕ) (names : Names) (code : CodeAt) (w : WordAt) (line : List WordAt) (o : Option Keyword)
    → Declares s x p names → All IsWord line → Scripted s x code → Holds (Scripted s x) (allowed p limit names code w line o)
allowed_fits s x p limit names code w line None d h c = fails _
allowed_fits s x p limit names code w line (Some k) d h c = either (takes p k) _ _ (λ t. stated_fits s x p limit names code w line k d h t c) (λ _. fails _)

pub program_fits : (s : Scenario) (x : Context) (p : Program) (limit : ℕ) (names : Names) (code : CodeAt) (w : WordAt) (line : List WordAt)
    → Declares s x p names → All IsWord line → Scripted s x code → Holds (Scripted s x) (program_line p limit names code w line)
unfolding program_line
program_fits s x p limit names code w line d h c = allowed_fits s x p limit names code w line (keyword_of w.bytes) d h c

-- the names where a body stands
pub body_declares : (st : State) (c : Class) → AtClass st c → Declares (so_far st.names.tables st.classes st.filters) (in_class (suc (length st.classes)) c) (program_of c.model) st.names
body_declares st c h = record {
  tables = refl;
  interfaces = ap length h.named.of_interfaces ∙ length-map st.names.tables (λ (i : Interface). i.name);
  classes = ap length h.named.of_classes ∙ length-map (st.classes ++ c ∷ []) (λ (k : Class). k.name) ∙ length-append st.classes (c ∷ []) ∙ (let e : length st.classes + 1 ≡ suc (length st.classes) = omega arith in e);
  filters = h.named.of_filters;
  body = cells c.model;
  links = bonds c.model;
}
  where
    cells : (m : ThreadingModel) → true ≡ has_cells (program_of m)
    cells models.Nothing = refl
    cells models.Apartment = refl
    cells models.Free = refl
    cells models.Both = refl
    cells models.Neutral = refl
    cells models.Agile = refl

    bonds : (m : ThreadingModel) → not (is_agile m) ≡ has_links (program_of m)
    bonds models.Nothing = refl
    bonds models.Apartment = refl
    bonds models.Free = refl
    bonds models.Both = refl
    bonds models.Neutral = refl
    bonds models.Agile = refl

-- the names where a script stands
pub script_declares : (st : State) → AtTop st → Declares (so_far st.names.tables st.classes st.filters) (in_script (so_far st.names.tables st.classes st.filters)) programs.Script st.names
script_declares st h = record {
  tables = refl;
  interfaces = ap length h.named.of_interfaces ∙ length-map st.names.tables (λ (i : Interface). i.name);
  classes = ap length h.named.of_classes ∙ length-map st.classes (λ (c : Class). c.name);
  filters = h.named.of_filters;
  body = refl;
  links = refl;
}
