-- The classes of a formed scenario can be declared one after another, and its bodies and scripts stand where they are.
use Rattle.std.proofs.Common.{◌≡◌, ℕ, zero, suc, ◌+◌, ◌≤◌, ◌<◌, List, [], ◌∷◌, ◌++◌, map, Option, Some, None, true, false, not, refl, sym, ap, ◌∙◌, subst, arith, length, length-append, slice_get, All, append_assoc, bytes_eq}
use Rattle.std.proofs.lemmas.List.{map-append, length-map}
use Rattle.std.proofs.lemmas.List.Elements.{All-head, All-tail}
use Rattle.com_base.specs.declared.guid.Guid.{Guid}
use Rattle.com_body.specs.declared.statements.Stmt.{Stmt}
use Rattle.com_body.specs.declared.frame.Native.{Native}
use Rattle.com_body.specs.declared.frame.Native.TheVariants as natives
use Rattle.com_classes.specs.declared.interfaces.Interface.{Interface}
use Rattle.com_classes.specs.declared.interfaces.Method.{Method}
use Rattle.com_classes.specs.declared.classes.Class.{Class}
use Rattle.com_classes.specs.declared.classes.MethodBody.{MethodBody}
use Rattle.com_classes.specs.declared.classes.ThreadingModel.{ThreadingModel}
use Rattle.com_classes.specs.declared.classes.ThreadingModel.TheVariants as models
use Rattle.com_model.specs.declared.scenario.Scenario.{Scenario}
use Rattle.com_classes.specs.Activation.{is_agile}
use Rattle.com_classes.specs.Lookups.{same_guid, interface_at}
use Rattle.com_model.specs.Formed.{Distinct, EachFrom, Context, FormedBody, in_class, methods_of, IsBody, same_body, IsNative, IsClass, same_class}
use Rattle.com_read_statements.specs.declared.keywords.Program.{Program}
use Rattle.com_read_statements.specs.declared.names.Names.{Names}
use Rattle.com_read_statements.specs.Keywords.{has_cells, has_links}
use Rattle.com_read_statements.specs.Calls.{method_of, in_methods}
use Rattle.com_read_sections.specs.declared.state.State.{State}
use Rattle.com_read_lines.specs.Tables.{guid_eq}
use Rattle.com_read_sections.specs.Opened.{program_of}
use Rattle.com_print.specs.Ranges.{AreNames}
use Rattle.com_print.specs.Standing.{AreDeclared}
use Rattle.com_print_scenario.specs.Ranges.{FitsProgram, FitsBodies, FitsAs, FitsClass}
use Rattle.com_print_scenario.proofs.Apart.{IsNew, new_of, new_map, new_append, same_guids, no_position, no_guid, either_left, either_right}
use Rattle.com_print_scenario.proofs.Bodies.{CanGive}
use Rattle.com_print_scenario.proofs.ClassesRead.{CanBe, CanAdd, CanAddAll, names_at, names_of_all, name_of_class}
use Rattle.com_print_scenario.proofs.Defined.{new_front, new_back}
use Rattle.com_print_scenario.proofs.Forms.{name_of, names_front}
use Rattle.com_print_scenario.proofs.Programs.{CanRead}
use Rattle.com_print_scenario.proofs.Standings.{Corresponds, stands_of, words_same}

-- ---- programs

body_cells : (m : ThreadingModel) → has_cells (program_of m) ≡ true
body_cells models.Nothing = refl
body_cells models.Apartment = refl
body_cells models.Free = refl
body_cells models.Both = refl
body_cells models.Neutral = refl
body_cells models.Agile = refl

body_links : (m : ThreadingModel) → has_links (program_of m) ≡ not (is_agile m)
body_links models.Nothing = refl
body_links models.Apartment = refl
body_links models.Free = refl
body_links models.Both = refl
body_links models.Neutral = refl
body_links models.Agile = refl

-- the statements of a body or a script can be read where it stands
pub can_read_all : (s : Scenario) (x : Context) (limit : ℕ) (p : Program) (names : Names) (b : List Stmt) → Corresponds s x p names → FormedBody s x limit b → FitsProgram b
    → All (CanRead p names) b
can_read_all s x limit p names b c f fits = λ k d lt. record {
  range = f.ranges k d lt;
  stands = stands_of s x p names _ c (f.statements k d lt);
  fits = fits k d lt;
}

-- ---- bodies

-- the method of a body that a class gives
record HasMethod (tables : List Interface) (iface method : ℕ) : Type 0 where
  pub m : Method
  pub has : method_of tables iface method ≡ Some m
  pub declared : iface < length tables

some_at : {X : Type 0} (xs : List X) (k : ℕ) → k < length xs → (x : X) × (slice_get xs k ≡ Some x)
some_at [] k lt = absurd (omega arith)
some_at (x ∷ xs) zero lt = (x, refl)
some_at (x ∷ xs) (suc k) lt = some_at xs k (omega arith)

within_list : {X : Type 0} (xs : List X) (k : ℕ) (x : X) → slice_get xs k ≡ Some x → k < length xs
within_list [] k x h = absurd cc
within_list (y ∷ ys) zero x h = omega arith
within_list (y ∷ ys) (suc k) x h = let lt = within_list ys k x h in omega arith

method_in : (tables : List Interface) (iface method : ℕ) (o : Option Interface) → slice_get tables iface ≡ o → method < length (methods_of o) → HasMethod tables iface method
method_in tables iface method None e lt = absurd (omega (arith, lt))
method_in tables iface method (Some i) e lt =
    let t = some_at i.methods method lt in
    record { m = t.0; has = ap (in_methods method) e ∙ t.1; declared = within_list tables iface i e }

body_in : (s : Scenario) (full : Names) (front more filters : List (List ℕ)) (n : ℕ) (c : Class) (b : MethodBody) → full.classes ≡ front ++ more
    → length front ≡ n → length full.interfaces ≡ length s.classes.interfaces → full.tables ≡ s.classes.interfaces
    → IsBody s (in_class n c) b → FitsProgram b.body → CanGive (program_of c.model) (record full { classes = front; filters = filters }) full b
body_in s full front more filters n c b whole long interfaces tables is fits =
    let p = program_of c.model in
    let names : Names = record full { classes = front; filters = filters } in
    let x = in_class n c in
    let corresponds : Corresponds s x p names = record {
      cells = body_cells c.model;
      links = body_links c.model;
      classes = long;
      interfaces = interfaces;
      tables = tables;
      filters = λ h. absurd cc;
    } in
    let can = can_read_all s x 200 p names b.body corresponds is.0 fits in
    let m = method_in s.classes.interfaces b.iface b.method (interface_at s.classes b.iface) refl is.1 in
    let declared = m.declared in
    record {
      method = m.m;
      has = ap (λ (t : List Interface). method_of t b.iface b.method) tables ∙ m.has;
      declared = omega arith;
      statements = λ k d lt. record {
        can = can k d lt;
        same = words_same p full front more filters _ whole (λ h. let cells = body_cells c.model in absurd cc) (can k d lt).stands;
      };
      whole = is.0.whole;
    }

-- ---- classes

new_class_name : (d c : Class) → same_class d c ≡ false → bytes_eq d.name c.name ≡ false
new_class_name d c h = either_left (bytes_eq d.name c.name) (same_guid d.clsid c.clsid) h

new_clsid : (d c : Class) → same_class d c ≡ false → guid_eq d.clsid c.clsid ≡ false
new_clsid d c h = same_guids d.clsid c.clsid ∙ either_right (bytes_eq d.name c.name) (same_guid d.clsid c.clsid) h

abbrev pub HasClsids : List Class → List Guid → Type 0
HasClsids before ids = (c : Class) → IsNew same_class before c → IsNew guid_eq ids c.clsid

clsids_more : (before : List Class) (ids : List Guid) (c : Class) → HasClsids before ids → HasClsids (before ++ c ∷ []) (ids ++ c.clsid ∷ [])
clsids_more before ids c h x new =
    new_append guid_eq ids (c.clsid ∷ []) x.clsid (h x (new_front same_class before (c ∷ []) x new)) (new_clsid c x (new_back same_class before (c ∷ []) x new).0, tt)

kind_in : (st : State) (names full : Names) (c : Class) (native : Native) (width : ℕ) → length st.names.interfaces ≡ width → IsNative native c
    → All (λ i. i < width) c.interfaces → All (CanGive (program_of c.model) names full) c.bodies → Distinct same_body c.bodies → CanBe st names full c native
kind_in st names full c natives.Bodies width e is listed bodies apart =
    record { listed = subst (λ (w : ℕ). All (λ i. i < w) c.interfaces) (sym e) listed; some = is.0; few = is.1; bodies = bodies; apart = apart }
kind_in st names full c natives.Counter width e is listed bodies apart = is
kind_in st names full c natives.Relay width e is listed bodies apart = is
kind_in st names full c natives.Latch width e is listed bodies apart = is

-- a native has no bodies, so each of them fits
no_bodies : (bodies : List MethodBody) → bodies ≡ [] → FitsBodies bodies
no_bodies bodies e = subst FitsBodies (sym e) (λ k d lt. absurd (omega arith))

own_fit : (native : Native) (c : Class) → IsNative native c → FitsAs native c.bodies → FitsBodies c.bodies
own_fit natives.Bodies c is fits = fits
own_fit natives.Counter c is fits = no_bodies c.bodies is.1
own_fit natives.Relay c is fits = no_bodies c.bodies is.1
own_fit natives.Latch c is fits = no_bodies c.bodies is.1

-- names of a class's place: those of all interfaces, and the classes so far
abbrev pub AreAt : State → List (List ℕ) → Type 0
AreAt st classes = AreDeclared (record (st.names) { classes = classes })

pub add_all : (s : Scenario) (st : State) (all filters : List (List ℕ)) (done rest : List Class) (ids : List Guid) (names : List (List ℕ)) (n : ℕ)
    → all ≡ names ++ map name_of_class rest → names ≡ map name_of_class done → length done + 1 ≡ n → n + length rest ≤ 65
    → length st.names.interfaces ≡ length s.classes.interfaces → st.names.tables ≡ s.classes.interfaces
    → ((front : List (List ℕ)) → AreNames front → AreAt st front) → AreNames all
    → EachFrom (IsClass s) n rest → Distinct same_class (done ++ rest) → All FitsClass rest → HasClsids done ids
    → CanAddAll st (names_of_all st all filters) names ids rest
add_all s st all filters done [] ids names n whole are count few long tables declared good each apart fits taken = tt
add_all s st all filters done (c ∷ cs) ids names n whole are count few long tables declared good each apart fits taken =
    let is = each.0 in
    let fit = All-head FitsClass c cs fits in
    let fit_bodies = own_fit c.native c is.1 fit.1 in
    let new = new_of same_class done c cs apart in
    let front = names ++ c.name ∷ [] in
    let split : all ≡ front ++ map name_of_class cs = whole ∙ sym (append_assoc names (c.name ∷ []) (map name_of_class cs)) in
    let wide : length names ≡ length done = ap length are ∙ length-map done name_of_class in
    let longer : length front ≡ n = simp length-append (omega arith) in
    let named : front ≡ map name_of_class (done ++ c ∷ []) =
    ap (λ (x : List (List ℕ)). x ++ c.name ∷ []) are ∙ sym (map-append name_of_class done (c ∷ [])) in
    let counted : length (done ++ c ∷ []) + 1 ≡ n + 1 = simp length-append (omega arith) in
    let new_named : IsNew bytes_eq names c.name = subst (λ (x : List (List ℕ)). IsNew bytes_eq x c.name) (sym are)
    (new_map name_of_class same_class bytes_eq done c (λ d h. new_class_name d c h) new) in
    let full = names_of_all st all filters in
    let bodies : All (CanGive (program_of c.model) (names_at st names c) full) c.bodies =
    λ k d lt. body_in s full front (map name_of_class cs) st.names.filters n c _ split longer long tables (is.3 k d lt) (fit_bodies k d lt) in
    let can : CanAdd st names ids full c = record {
      room = omega arith;
      name = name_of c.name is.0;
      free = no_position names c.name new_named;
      fits = fit.0;
      new = no_guid ids c.clsid (taken c new);
      are = declared front (names_front front (map name_of_class cs) (subst AreNames split good));
      kind = kind_in st (names_at st names c) full c c.native (length s.classes.interfaces) long is.1 is.2 bodies is.4;
    } in (
      can,
      add_all s st all filters (done ++ c ∷ []) cs (ids ++ c.clsid ∷ []) front (n + 1) split named counted (omega arith) long tables declared good each.1
          (subst (Distinct same_class) (sym (append_assoc done (c ∷ []) cs)) apart) (All-tail FitsClass c cs fits) (clsids_more done ids c taken),
    )
