-- Classes and natives are read again.
use Rattle.std.proofs.Common.{◌≡◌, ℕ, ◌≤◌, ◌<◌, List, [], ◌∷◌, ◌++◌, map, Some, is_some, true, false, refl, sym, ap, ◌∙◌, subst, length, codes, Ok, All, append_assoc}
use Rattle.std.proofs.lemmas.List.{append-nil}
use Rattle.com_base.specs.declared.guid.Guid.{Guid}
use Rattle.com_body.specs.declared.frame.Native.{Native}
use Rattle.com_body.specs.declared.frame.Native.TheVariants as natives
use Rattle.com_classes.specs.declared.classes.Class.{Class}
use Rattle.com_classes.specs.declared.classes.MethodBody.{MethodBody}
use Rattle.com_classes.specs.declared.classes.ThreadingModel.{ThreadingModel}
use Rattle.com_classes.specs.declared.classes.ThreadingModel.TheVariants as models
use Rattle.com_model.specs.Formed.{Distinct, same_body}
use Rattle.com_classes.specs.Activation.{is_agile}
use Rattle.com_text.specs.Words.{WordAt}
use Rattle.com_read_operands.specs.Naming.{is_name, position_of}
use Rattle.com_read_statements.specs.declared.names.Names.{Names}
use Rattle.com_read_sections.specs.declared.outline.Outline.{Outline}
use Rattle.com_read_sections.specs.declared.state.State.{State}
use Rattle.com_read_sections.specs.declared.state.Section.TheVariants as sections
use Rattle.com_read_lines.specs.Tables.{has_guid}
use Rattle.com_read_lines.specs.Declaring.{relay_of, native_at, natives_of}
use Rattle.com_read_sections.specs.Opened.{program_of}
use Rattle.com_print.specs.Spelled.{Spelled, plain}
use Rattle.com_print.specs.Ranges.{IsGuid}
use Rattle.com_print.proofs.Places.{at}
use Rattle.com_print.specs.Standing.{AreDeclared}
use Rattle.com_print_scenario.specs.Printed.{class_head, interface_name, bodies_lines, class_lines, classes_lines}
use Rattle.com_print_scenario.proofs.Places.{at_of, counter_again, relay_again, latch_again}
use Rattle.com_print_scenario.proofs.Bodies.{CanGive, class_read, bodies_on}
use Rattle.com_print_scenario.proofs.Runs.{Gets, line_then, step_in}
use Rattle.com_print_scenario.proofs.Tops.{CanDeclare, class_by, class_again, native_by, native_again}

-- between classes: the names and CLSIDs that are declared, and the classes that are closed
abbrev pub at_classes : State → List (List ℕ) → List Guid → List Class → State
at_classes st names clsids classes = record st {
  names = record (st.names) { classes = names };
  clsids = clsids;
  classes = classes;
  section = sections.Top;
}

-- the names at a class, its own among them
abbrev pub names_at : State → List (List ℕ) → Class → Names
names_at st names c = record (st.names) { classes = names ++ c.name ∷ [] }

-- the names of the whole scenario, in which the lines are written
abbrev pub names_of_all : State → List (List ℕ) → List (List ℕ) → Names
names_of_all st classes filters = record (st.names) { classes = classes; filters = filters }

pub record CanOpen (st : State) (names : Names) (full : Names) (c : Class) : Type 0 where
  pub listed : All (λ i. i < length st.names.interfaces) c.interfaces
  pub some : 1 ≤ length c.interfaces
  pub few : length c.interfaces ≤ 16
  pub bodies : All (CanGive (program_of c.model) names full) c.bodies
  pub apart : Distinct same_body c.bodies

-- what a class's kind needs
abbrev pub CanBe : State → Names → Names → Class → Native → Type 0
CanBe st names full c natives.Bodies = CanOpen st names full c
CanBe st names full c natives.Counter = (c.interfaces ≡ 1 ∷ []) × (c.bodies ≡ [])
CanBe st names full c natives.Relay = (c.interfaces ≡ 2 ∷ []) × (c.bodies ≡ []) × (is_agile c.model ≡ false)
CanBe st names full c natives.Latch = (c.interfaces ≡ 3 ∷ []) × (c.bodies ≡ [])

pub record CanAdd (st : State) (before : List (List ℕ)) (clsids : List Guid) (full : Names) (c : Class) : Type 0 where
  pub room : length before < 64
  pub name : is_name c.name ≡ true
  pub free : is_some (position_of before c.name) ≡ false
  pub fits : IsGuid c.clsid
  pub new : has_guid clsids c.clsid ≡ false
  pub are : AreDeclared (names_at st before c)
  pub kind : CanBe st (names_at st before c) full c c.native

relay_good : (m : ThreadingModel) → is_agile m ≡ false → (w : WordAt) → relay_of w m ≡ Ok natives.Relay
relay_good models.Nothing h w = refl
relay_good models.Apartment h w = refl
relay_good models.Free h w = refl
relay_good models.Both h w = refl
relay_good models.Neutral h w = refl
relay_good models.Agile h w = absurd cc

abbrev native_of : Class → Native → List ℕ → List MethodBody → Class
native_of c native interfaces bodies = record { name = c.name; clsid = c.clsid; model = c.model; native = native; interfaces = interfaces; bodies = bodies }

is_native : (c : Class) (native : Native) (interfaces : List ℕ) → c.native ≡ native → c.interfaces ≡ interfaces → c.bodies ≡ [] → native_of c native interfaces [] ≡ c
is_native c native interfaces e f g =
    ap (λ (n : Native). native_of c n interfaces []) (sym e)
    ∙ ap (λ (x : List ℕ). native_of c c.native x []) (sym f)
    ∙ ap (native_of c c.native c.interfaces) (sym g)

-- one native's line
native_on : (st : State) (before : List (List ℕ)) (clsids : List Guid) (classes : List Class) (full : Names) (c : Class) (native : Native) (bs : List ℕ)
    (ls : List (List Spelled)) (o : Outline) → CanAdd st before clsids full c → native_of c native (natives_of native) [] ≡ c
    → ((line : List WordAt) → at line 4 ≡ Some (plain bs) → native_at c.model line 4 ≡ Ok native)
    → Gets (at_classes st (before ++ c.name ∷ []) (clsids ++ c.clsid ∷ []) (classes ++ c ∷ [])) ls o
    → Gets (at_classes st before clsids classes) (class_head (codes "native") c (plain bs ∷ []) ∷ ls) o
native_on st before clsids classes full c native bs ls o can is kind more =
    let t = at_classes st before clsids classes in
    let declare : CanDeclare t c = record { room = can.room; name = can.name; free = can.free; fits = can.fits; new = can.new } in
    line_then t (native_by t c c.name c.model native) (class_head (codes "native") c (plain bs ∷ [])) ls o
    (λ line e. step_in t line _ _ e ∙ native_again t line c native bs e declare (kind line (at_of line _ 4 e)))
    (subst (λ (x : Class). Gets (at_classes st (before ++ c.name ∷ []) (clsids ++ c.clsid ∷ []) (classes ++ x ∷ [])) ls o) (sym is) more)

class_on : (st : State) (before : List (List ℕ)) (clsids : List Guid) (classes : List Class) (all filters : List (List ℕ)) (c : Class) (native : Native)
    (ls : List (List Spelled)) (o : Outline) → CanAdd st before clsids (names_of_all st all filters) c → c.native ≡ native
    → CanBe st (names_at st before c) (names_of_all st all filters) c native
    → Gets (at_classes st (before ++ c.name ∷ []) (clsids ++ c.clsid ∷ []) (classes ++ c ∷ [])) ls o
    → Gets (at_classes st before clsids classes) (class_lines (names_of_all st all filters) c native ++ ls) o
class_on st before clsids classes all filters c natives.Bodies ls o can e kind more =
    let t = at_classes st before clsids classes in
    let next = at_classes st (before ++ c.name ∷ []) (clsids ++ c.clsid ∷ []) classes in
    let full = names_of_all st all filters in
    let declare : CanDeclare t c = record { room = can.room; name = can.name; free = can.free; fits = can.fits; new = can.new } in
    let same : record c { native = natives.Bodies } ≡ c = ap (λ (n : Native). record c { native = n }) (sym e) in
    let body = bodies_on next full (record c { native = natives.Bodies }) c.bodies [] ls o (λ b. refl) can.are kind.bodies kind.apart
    (subst (λ (x : Class). Gets (class_read next x) ls o) (sym same) more) in
    line_then t (class_by t c c.name c.model c.interfaces) (class_head (codes "class") c (map (interface_name full) c.interfaces)) (bodies_lines full c.bodies ++ ls) o
    (λ line h. step_in t line _ _ h ∙ class_again t line c h declare can.are.interfaces kind.listed kind.some kind.few)
    body
class_on st before clsids classes all filters c natives.Counter ls o can e kind more =
    native_on st before clsids classes (names_of_all st all filters) c natives.Counter (codes "counter") ls o can
    (is_native c natives.Counter (1 ∷ []) e kind.0 kind.1) (λ line h. counter_again c.model line 4 h) more
class_on st before clsids classes all filters c natives.Relay ls o can e kind more =
    native_on st before clsids classes (names_of_all st all filters) c natives.Relay (codes "relay") ls o can
    (is_native c natives.Relay (2 ∷ []) e kind.0 kind.1) (λ line h. relay_again c.model line 4 h (relay_good c.model kind.2)) more
class_on st before clsids classes all filters c natives.Latch ls o can e kind more =
    native_on st before clsids classes (names_of_all st all filters) c natives.Latch (codes "latch") ls o can
    (is_native c natives.Latch (3 ∷ []) e kind.0 kind.1) (λ line h. latch_again c.model line 4 h) more

-- each class of a list can be added behind those before it
abbrev pub CanAddAll : State → Names → List (List ℕ) → List Guid → List Class → Type 0
CanAddAll st full before clsids [] = Unit {0}
CanAddAll st full before clsids (c ∷ cs) = CanAdd st before clsids full c × CanAddAll st full (before ++ c.name ∷ []) (clsids ++ c.clsid ∷ []) cs

abbrev pub name_of_class : Class → List ℕ
name_of_class c = c.name

pub classes_on : (st : State) (all filters before : List (List ℕ)) (clsids : List Guid) (done rest : List Class)
    (ls : List (List Spelled)) (o : Outline) → CanAddAll st (names_of_all st all filters) before clsids rest
    → ((ids : List Guid) → Gets (at_classes st (before ++ map name_of_class rest) ids (done ++ rest)) ls o)
    → Gets (at_classes st before clsids done) (classes_lines (names_of_all st all filters) rest ++ ls) o
classes_on st all filters before clsids done [] ls o can more =
    subst (λ (x : List (List ℕ)). Gets (at_classes st x clsids done) ls o) (append-nil before)
    (subst (λ (x : List Class). Gets (at_classes st (before ++ []) clsids x) ls o) (append-nil done) (more clsids))
classes_on st all filters before clsids done (c ∷ cs) ls o can more =
    let full = names_of_all st all filters in
    let split : (class_lines full c c.native ++ classes_lines full cs) ++ ls ≡ class_lines full c c.native ++ (classes_lines full cs ++ ls)
    = append_assoc (class_lines full c c.native) (classes_lines full cs) ls in
    let e : before ++ c.name ∷ map name_of_class cs ≡ (before ++ c.name ∷ []) ++ map name_of_class cs = sym (append_assoc before (c.name ∷ []) (map name_of_class cs)) in
    let f : done ++ c ∷ cs ≡ (done ++ c ∷ []) ++ cs = sym (append_assoc done (c ∷ []) cs) in
    let behind = classes_on st all filters (before ++ c.name ∷ []) (clsids ++ c.clsid ∷ []) (done ++ c ∷ []) cs ls o can.1
    (λ ids. subst (λ (x : List (List ℕ)). Gets (at_classes st x ids ((done ++ c ∷ []) ++ cs)) ls o) e
    (subst (λ (x : List Class). Gets (at_classes st (before ++ c.name ∷ map name_of_class cs) ids x) ls o) f (more ids))) in
    subst (λ (x : List (List Spelled)). Gets (at_classes st before clsids done) x o) (sym split)
    (class_on st before clsids done all filters c c.native (classes_lines full cs ++ ls) o can.0 refl can.0.kind behind)
