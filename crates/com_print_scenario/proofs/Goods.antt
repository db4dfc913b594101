-- The words of a formed scenario's lines are good words.
use Rattle.std.proofs.Common.{◌≡◌, ℕ, ◌+◌, ◌≤◌, ◌<◌, ◌^◌, List, [], ◌∷◌, ◌++◌, map, drop, Option, Some, None, true, refl, sym, ap, ◌∙◌, subst, arith, length, length-append, codes, All, append_assoc, zero, suc, ◌==◌, ◌||◌}
use Rattle.std.proofs.lemmas.Bool.Decides.{nat_tests}
use Rattle.std.proofs.lemmas.List.Folds.{list_all-append}
use Rattle.std.proofs.lemmas.List.Elements.{All-head, All-tail}
use Rattle.com_base.specs.declared.guid.Guid.{Guid}
use Rattle.com_base.specs.declared.value.Kind.{Kind}
use Rattle.com_base.specs.declared.value.Kind.TheVariants as kinds
use Rattle.com_base.specs.declared.value.Value.TheVariants as values
use Rattle.com_body.specs.declared.operands.Op.TheVariants as ops
use Rattle.com_body.specs.declared.statements.Stmt.{Stmt}
use Rattle.com_body.specs.declared.frame.Native.{Native}
use Rattle.com_body.specs.declared.frame.Native.TheVariants as natives
use Rattle.com_classes.specs.BuiltIns.{built_in_interfaces}
use Rattle.com_classes.specs.declared.interfaces.Interface.{Interface}
use Rattle.com_classes.specs.declared.interfaces.Method.{Method}
use Rattle.com_classes.specs.declared.classes.Class.{Class}
use Rattle.com_classes.specs.declared.classes.MethodBody.{MethodBody}
use Rattle.com_classes.specs.declared.classes.ThreadingModel.{ThreadingModel}
use Rattle.com_classes.specs.declared.classes.ThreadingModel.TheVariants as models
use Rattle.com_filter.specs.declared.Rule.{Rule}
use Rattle.com_filter.specs.declared.Rule.TheVariants as rules
use Rattle.com_filter.specs.declared.Verdict.{Verdict}
use Rattle.com_filter.specs.declared.Verdict.TheVariants as verdicts
use Rattle.com_model.specs.declared.scenario.Scenario.{Scenario}
use Rattle.com_model.specs.Formed.{Formed, IsRule, IsType, IsFilter}
use Rattle.com_read_operands.specs.Naming.{is_name}
use Rattle.com_read_statements.specs.declared.keywords.Program.{Program}
use Rattle.com_read_statements.specs.declared.keywords.Program.TheVariants as programs
use Rattle.com_read_statements.specs.declared.names.Names.{Names}
use Rattle.com_read_sections.specs.declared.state.State.{State}
use Rattle.com_read_sections.specs.Opened.{program_of}
use Rattle.com_read_sections.specs.Outlines.{taken_iids}
use Rattle.com_print.specs.Spelled.{Spelled, plain, is_word_byte, IsPlainWord, IsSpelled, AreSpelled, AreLines}
use Rattle.com_print.specs.Words.{name_at}
use Rattle.com_print.specs.Ranges.{AreNames}
use Rattle.com_print.proofs.Spellings.{decimal_spelled, guid_spelled, op_spelled, name_spelled, name_bytes}
use Rattle.com_print.specs.Standing.{AreDeclared}
use Rattle.com_print.specs.StatementWords.{name_of}
use Rattle.com_print.proofs.Goods.{statement_spelled}
use Rattle.com_print.proofs.Targets.{is_method_name}
use Rattle.com_print_scenario.specs.Printed.{number_word, end_words, filter_name, filter_names, names_in, kind_word, result_words, method_words, interface_lines, model_word, class_head, interface_name, body_words, program_lines, bodies_lines, class_lines, classes_lines, type_word, verdict_word, refusal_word, kept_word, rule_words, rules_lines, filters_lines, threads_lines, picks_lines, scenario_lines}
use Rattle.com_print_scenario.specs.Ranges.{FitsTypes}
use Rattle.com_print_scenario.proofs.Bodies.{CanFollow, CanGive}
use Rattle.com_print_scenario.proofs.ClassesRead.{CanBe, CanAddAll, names_at, names_of_all, name_of_class}
use Rattle.com_print_scenario.proofs.FiltersRead.{good_name, CanRun}
use Rattle.com_print_scenario.proofs.InterfacesRead.{IsSigned, method_same, CanDefineAll, name_of_interface}
use Rattle.com_print_scenario.proofs.Methods.{IsKind, IsResult}
use Rattle.com_print_scenario.proofs.Rules.{whole_answer}
use Rattle.com_print_scenario.proofs.Whole.{all_declared, interfaces_define, classes_add, scripts_run, built_first, behind_interfaces}

lines_append : (xs ys : List (List Spelled)) → AreLines xs → AreLines ys → AreLines (xs ++ ys)
lines_append [] ys h k = k
lines_append (x ∷ xs) ys h k = (h.0, lines_append xs ys h.1 k)

words_append : (xs ys : List Spelled) → AreSpelled xs → AreSpelled ys → AreSpelled (xs ++ ys)
words_append [] ys h k = k
words_append (x ∷ xs) ys h k = (h.0, words_append xs ys h.1 k)

each_word : {X : Type 0} (f : X → Spelled) (P : X → Type 0) → ((x : X) → P x → IsSpelled (f x)) → (xs : List X) → All P xs → AreSpelled (map f xs)
each_word f P t [] h = tt
each_word f P t (x ∷ xs) h = (t x (All-head P x xs h), each_word f P t xs (All-tail P x xs h))

end_good : AreSpelled end_words
end_good = ((omega arith, refl), tt)

-- ---- interfaces

kind_good : (names : List (List ℕ)) (k : Kind) → AreNames names → IsKind names k → IsSpelled (kind_word names k)
kind_good names kinds.Int are is = (omega arith, refl)
kind_good names kinds.Bool are is = (omega arith, refl)
kind_good names kinds.Text are is = (omega arith, refl)
kind_good names kinds.Bytes are is = (omega arith, refl)
kind_good names kinds.Guid are is = (omega arith, refl)
kind_good names (kinds.Ref i) are is = name_spelled names i are is

result_good : (names : List (List ℕ)) (r : Option Kind) → AreNames names → IsResult names r → AreSpelled (result_words names r)
result_good names None are is = tt
result_good names (Some k) are is = ((omega arith, refl), (kind_good names k are is, tt))

method_good : (names : List (List ℕ)) (m : Method) → AreNames names → IsSigned names m → AreSpelled (method_words names m)
method_good names m are is = (
  (omega arith, refl),
  (
    name_bytes m.name is.name,
    words_append (map (kind_word names) m.params) (result_words names m.result)
        (each_word (kind_word names) (IsKind names) (λ k h. kind_good names k are h) m.params is.params) (result_good names m.result are is.result),
  ),
)

methods_good : (front back : List (List ℕ)) (ms : List Method) → AreNames front → All (IsSigned front) ms → AreLines (map (method_words (front ++ back)) ms)
methods_good front back [] are h = tt
methods_good front back (m ∷ ms) are h =
    let is = All-head (IsSigned front) m ms h in
    (subst AreSpelled (sym (method_same front back m is)) (method_good front m are is), methods_good front back ms are (All-tail (IsSigned front) m ms h))

interfaces_good : (all names : List (List ℕ)) (iids : List Guid) (is : List Interface) → all ≡ names ++ map name_of_interface is → CanDefineAll names iids is → AreLines (interface_lines all is)
interfaces_good all names iids [] e can = tt
interfaces_good all names iids (i ∷ is) e can =
    let front = names ++ i.name ∷ [] in
    let split : all ≡ front ++ map name_of_interface is = e ∙ sym (append_assoc names (i.name ∷ []) (map name_of_interface is)) in (
      ((omega arith, refl), (name_bytes i.name can.0.name, (guid_spelled i.iid, tt))),
      lines_append (map (method_words all) i.methods) (interface_lines all is)
          (subst (λ (x : List (List ℕ)). AreLines (map (method_words x) i.methods)) (sym split) (methods_good front (map name_of_interface is) i.methods can.0.types.good can.0.methods))
          (interfaces_good all front (iids ++ i.iid ∷ []) is split can.1),
    )

-- ---- classes

model_good : (m : ThreadingModel) → IsSpelled (model_word m)
model_good models.Nothing = (omega arith, refl)
model_good models.Apartment = (omega arith, refl)
model_good models.Free = (omega arith, refl)
model_good models.Both = (omega arith, refl)
model_good models.Neutral = (omega arith, refl)
model_good models.Agile = (omega arith, refl)

head_good : (word : List ℕ) (c : Class) (more : List Spelled) → IsPlainWord word → is_name c.name ≡ true → AreSpelled more → AreSpelled (class_head word c more)
head_good word c more h name rest = (h, (name_bytes c.name name, (guid_spelled c.clsid, (model_good c.model, rest))))

dotted_good : (front back : List ℕ) → IsPlainWord front → IsPlainWord back → IsSpelled (plain (front ++ 46 ∷ back))
dotted_good front back f b =
    let long = f.0 in
    (omega (arith, length-append front (46 ∷ back)), list_all-append is_word_byte front (46 ∷ back) ∙ rw (f.1, b.1) refl)

body_good : (p : Program) (names full : Names) (b : MethodBody) → AreDeclared names → CanGive p names full b → AreSpelled (body_words names b)
body_good p names full b are can =
    let word : List ℕ → Spelled = λ n. plain (name_at names.interfaces b.iface ++ 46 ∷ n) in
    let good = dotted_good (name_at names.interfaces b.iface) can.method.name (name_spelled names.interfaces b.iface are.interfaces can.declared)
    (name_bytes can.method.name (is_method_name names b.iface b.method can.method are can.has)) in
    ((omega arith, refl), (subst (λ (n : List ℕ). IsSpelled (word n)) (sym (ap name_of can.has)) good, tt))

program_good : (p : Program) (names full : Names) (b : List Stmt) → AreDeclared names → All (CanFollow p names full) b → AreLines (program_lines full b)
program_good p names full [] are h = (end_good, tt)
program_good p names full (s ∷ ss) are h =
    let is = All-head (CanFollow p names full) s ss h in
    (subst AreSpelled (sym is.same) (statement_spelled p names s are is.can.range is.can.stands is.can.fits), program_good p names full ss are (All-tail (CanFollow p names full) s ss h))

bodies_good : (p : Program) (names full : Names) (bs : List MethodBody) → ((b : MethodBody) → body_words full b ≡ body_words names b) → AreDeclared names
    → All (CanGive p names full) bs → AreLines (bodies_lines full bs)
bodies_good p names full [] words are h = (end_good, tt)
bodies_good p names full (b ∷ bs) words are h =
    let can = All-head (CanGive p names full) b bs h in (
      subst AreSpelled (sym (words b)) (body_good p names full b are can),
      lines_append (program_lines full b.body) (bodies_lines full bs) (program_good p names full b.body are can.statements)
          (bodies_good p names full bs words are (All-tail (CanGive p names full) b bs h)),
    )

class_good : (st : State) (before : List (List ℕ)) (all filters : List (List ℕ)) (c : Class) (native : Native) → is_name c.name ≡ true → AreDeclared (names_at st before c)
    → CanBe st (names_at st before c) (names_of_all st all filters) c native → AreLines (class_lines (names_of_all st all filters) c native)
class_good st before all filters c natives.Bodies name are can =
    let full = names_of_all st all filters in (
      head_good (codes "class") c (map (interface_name full) c.interfaces) (omega arith, refl) name
          (each_word (interface_name full) (λ i. i < length st.names.interfaces) (λ i h. name_spelled st.names.interfaces i are.interfaces h) c.interfaces can.listed),
      bodies_good (program_of c.model) (names_at st before c) full c.bodies (λ b. refl) are can.bodies,
    )
class_good st before all filters c natives.Counter name are can = (head_good (codes "native") c (plain (codes "counter") ∷ []) (omega arith, refl) name ((omega arith, refl), tt), tt)
class_good st before all filters c natives.Relay name are can = (head_good (codes "native") c (plain (codes "relay") ∷ []) (omega arith, refl) name ((omega arith, refl), tt), tt)
class_good st before all filters c natives.Latch name are can = (head_good (codes "native") c (plain (codes "latch") ∷ []) (omega arith, refl) name ((omega arith, refl), tt), tt)

classes_good : (st : State) (all filters before : List (List ℕ)) (ids : List Guid) (cs : List Class) → CanAddAll st (names_of_all st all filters) before ids cs
    → AreLines (classes_lines (names_of_all st all filters) cs)
classes_good st all filters before ids [] can = tt
classes_good st all filters before ids (c ∷ cs) can =
    let full = names_of_all st all filters in
    lines_append (class_lines full c c.native) (classes_lines full cs)
    (class_good st before all filters c c.native can.0.name can.0.are can.0.kind)
    (classes_good st all filters (before ++ c.name ∷ []) (ids ++ c.clsid ∷ []) cs can.1)

-- ---- filters

small_good : (n most : ℕ) → n ≤ most → most < 2 ^ 64 → IsSpelled (number_word n)
small_good n most le lt = decimal_spelled n (omega arith)

type_good : (t : Option ℕ) → IsType t → IsSpelled (type_word t)
type_good None h = (omega arith, refl)
type_good (Some n) h = small_good n 4 (four n h) (omega arith)
  where
    four : (n : ℕ) → (n == 1 || (n == 2 || n == 4)) ≡ true → n ≤ 4
    four n h = grind (arith, nat_tests)

verdict_good : (v : Verdict) → IsSpelled (verdict_word v)
verdict_good verdicts.Handled = (omega arith, refl)
verdict_good verdicts.Rejected = (omega arith, refl)
verdict_good verdicts.Later = (omega arith, refl)

refusal_good : (v : Option Verdict) → IsSpelled (refusal_word v)
refusal_good None = (omega arith, refl)
refusal_good (Some v) = verdict_good v

kept_good : (n : ℕ) → IsSpelled (kept_word n)
kept_good zero = (omega arith, refl)
kept_good (suc zero) = (omega arith, refl)
kept_good (suc (suc n)) = (omega arith, refl)

rule_good : (r : Rule) → IsRule r → AreSpelled (rule_words r)
rule_good (rules.Incoming t ms v) h = ((omega arith, refl), (type_good t h.0, (small_good ms 2147483647 h.1 (omega arith), (verdict_good v, tt))))
rule_good (rules.Retry v ms z) h =
    ((omega arith, refl), (refusal_good v, (small_good ms 2147483647 h.1 (omega arith), (op_spelled (ops.Literal (values.Int z)) tt tt (whole_answer z h.2), tt))))
rule_good (rules.Pending ms n) h = ((omega arith, refl), (small_good ms 2147483647 h.0 (omega arith), (kept_good n, tt)))

rules_good : (rs : List Rule) → All IsRule rs → AreLines (rules_lines rs)
rules_good [] h = (end_good, tt)
rules_good (r ∷ rs) h = (rule_good r (All-head IsRule r rs h), rules_good rs (All-tail IsRule r rs h))

filters_good : (n : ℕ) (fs : List (List Rule)) → n + length fs ≤ 17 → All IsFilter fs → AreLines (filters_lines n fs)
filters_good n [] few h = tt
filters_good n (f ∷ fs) few h = (
  ((omega arith, refl), (name_bytes (filter_name n) (good_name n (omega arith)), tt)),
  lines_append (rules_lines f) (filters_lines (n + 1) fs) (rules_good f (All-head IsFilter f fs h).0)
      (filters_good (n + 1) fs (omega arith) (All-tail IsFilter f fs h)),
)

-- ---- threads and picks

threads_good : (names : Names) (bs : List (List Stmt)) → AreDeclared names → All (CanRun names) bs → AreLines (threads_lines names bs)
threads_good names [] are h = tt
threads_good names (b ∷ bs) are h =
    let can = All-head (CanRun names) b bs h in (
      ((omega arith, refl), tt),
      lines_append (program_lines names b) (threads_lines names bs)
          (program_good programs.Script names names b are (λ k d lt. record { can = can.statements k d lt; same = refl }))
          (threads_good names bs are (All-tail (CanRun names) b bs h)),
    )

picks_good : (ns : List ℕ) → All (λ n. n < 2 ^ 32) ns → AreLines (picks_lines ns)
picks_good [] h = tt
picks_good (n ∷ ns) h = (((omega arith, refl), each_word number_word (λ x. x < 2 ^ 32) (λ x lt. decimal_spelled x (omega arith)) (n ∷ ns) h), tt)

-- ---- the whole

pub scenario_good : (s : Scenario) → Formed s → FitsTypes s → AreLines (scenario_lines s)
unfolding scenario_lines
scenario_good s f t =
    let names = names_in s in
    let few = f.filters.1 in
    let version = f.version.1 in
    let pool = f.pool.1 in (
      ((omega arith, refl), (small_good s.version 2 version (omega arith), tt)),
      (
        ((omega arith, refl), (small_good s.pool 8 pool (omega arith), tt)),
        lines_append (interface_lines names.interfaces (drop 4 s.classes.interfaces)) _
            (interfaces_good names.interfaces (map name_of_interface built_in_interfaces) (taken_iids built_in_interfaces) (drop 4 s.classes.interfaces) (ap (map name_of_interface) (built_first s f)) (interfaces_define s f t))
            (lines_append (classes_lines names s.classes.classes) _ (classes_good (behind_interfaces s []) (map name_of_class s.classes.classes) (filter_names 1 s.filters) [] [] s.classes.classes (classes_add s f t []))
            (lines_append (filters_lines 1 s.filters) _ (filters_good 1 s.filters (omega arith) f.filters.0)
            (lines_append (threads_lines names s.threads) (picks_lines s.picks) (threads_good names s.threads (all_declared s f) (scripts_run s f t)) (picks_good s.picks f.picks)))),
      ),
    )
