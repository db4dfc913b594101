-- The rules of QueryInterface follow from what queries are answered, and from the interfaces of the references that they are put to.
use Rattle.std.proofs.Common.{subst, sym, ap, ◌∙◌, arith}
use Rattle.std.specs.Prelude.{◌≡◌, refl, ℕ, ◌≤◌, ◌↔◌, Bool, true, false, ◌==◌, List, [], ◌∷◌, ◌++◌, Option, Some, None}
use Rattle.com_base.specs.declared.hresult.HResult.{HResult}
use Rattle.com_base.specs.declared.value.RefValue.{RefValue}
use Rattle.com_body.specs.declared.operands.Asked.{Asked}
use Rattle.com_body.specs.declared.actions.Action.{Action}
use Rattle.com_body.specs.declared.actions.Action.TheVariants as action
use Rattle.com_classes.specs.declared.classes.Class.{Class}
use Rattle.com_classes.specs.Lookups.{class_at, class_has, has_interface}
use Rattle.com_model.specs.declared.deeds.Deed.{Deed}
use Rattle.com_model.specs.declared.deeds.Deed.TheVariants as deed
use Rattle.com_model.specs.declared.deeds.Entry.{Entry}
use Rattle.com_model.specs.declared.scenario.Scenario.{Scenario}
use Rattle.com_model.specs.Answers.{S_OK, E_NOINTERFACE, is_S_OK}
use Rattle.com_model.specs.Tables.{interface_number}
use Rattle.com_model.specs.Objects.{objects, makes, class_of}
use Rattle.com_model.specs.Frames.{act, reference, taken_in}
use Rattle.com_model.specs.Rules.{legal}
use Rattle.com_model.specs.Formed.{Formed}
use Rattle.com_model.proofs.Kept.{more-objects}
use Rattle.com_laws_values.specs.Held.{IsDeclared}
use Rattle.com_laws_values.proofs.Packets.{ActBy}
use Rattle.com_laws_values.proofs.Laws.{legal-holds, acts-held, same-class}
use Rattle.com_laws_query.specs.Querying.{Lacks, Success, Refusal, uninitialised, null, severed, lacking, Answers, Refuses}
use Rattle.com_laws_query.specs.Rules.{Query, Identity, StaticSet, Reflexive, Symmetric, Transitive}
use Rattle.com_laws_query.proofs.Answers.{next-answers, next-refused, same-query}

-- ---- what stood before a query

legal-rest : (s : Scenario) (xs g : List Entry) → legal s (xs ++ g) → legal s g
legal-rest s [] g q = q
legal-rest s (x ∷ xs) g q = legal-rest s xs g q.0

at-most : (x y z : ℕ) → x ≤ y → y ≤ z → x ≤ z
at-most x y z p q = omega (arith, p, q)

later-made : (o : ℕ) (xs g : List Entry) → o ≤ objects g → o ≤ objects (xs ++ g)
later-made o [] g p = p
later-made o (x ∷ xs) g p = at-most o (objects (xs ++ g)) (objects (x ∷ xs ++ g)) (later-made o xs g p) (more-objects (makes x.deed) (objects (xs ++ g)))

class-later : (s : Scenario) (o : ℕ) (xs g : List Entry) → Formed s → legal s (xs ++ g) → o ≤ objects g → class_of (xs ++ g) o ≡ class_of g o
class-later s o [] g f q p = refl
class-later s o (x ∷ xs) g f q p = same-class s (xs ++ g) x o f q (later-made o xs g p) ∙ class-later s o xs g f q.0 p

-- ---- one query

abbrev entry_of : (s : Scenario) (h : List Entry) → Query s h → Entry
entry_of s h q = record { lane = q.lane; deed = deed.Query (Some q.through.object) q.iface q.answer }

at-query : (s : Scenario) (h : List Entry) (q : Query s h) → legal s h → legal s (entry_of s h q ∷ q.before)
at-query s h q p = legal-rest s q.later (entry_of s h q ∷ q.before) (subst (legal s) q.stands p)

through-declared : (s : Scenario) (h : List Entry) (q : Query s h) → Formed s → legal s h → IsDeclared s q.before q.through
through-declared s h q f p = subst (ActBy (IsDeclared s q.before)) q.acts (acts-held s q.before f (legal-holds s q.before f (at-query s h q p).0) q.lane)

class-now : (s : Scenario) (h : List Entry) (q : Query s h) → Formed s → legal s h → class_of h q.through.object ≡ class_of q.before q.through.object
class-now s h q f p =
    let e : Entry = entry_of s h q in
    let o : ℕ = q.through.object in
    let m : o ≤ objects q.before = (through-declared s h q f p).0 in
    let n : o ≤ objects (e ∷ q.before) = later-made o (e ∷ []) q.before m in
    let l : class_of (q.later ++ e ∷ q.before) o ≡ class_of (e ∷ q.before) o = class-later s o q.later (e ∷ q.before) f (subst (legal s) q.stands p) n in
    ap (λ (x : List Entry). class_of x o) q.stands ∙ l ∙ same-class s q.before e o f (at-query s h q p) m

-- The class of the object has the interface that the query is put through.
through-has : (s : Scenario) (h : List Entry) (q : Query s h) → Formed s → legal s h → has_interface s.classes (class_of h q.through.object) q.through.iface ≡ true
through-has s h q f p = subst (λ (k : ℕ). has_interface s.classes k q.through.iface ≡ true) (sym (class-now s h q f p)) (through-declared s h q f p).1

some-same : {X : Type 0} (x y : X) → Some x ≡ Some y → x ≡ y
some-same x y e = cc

answers-at : (s : Scenario) (h : List Entry) (q : Query s h) → legal s h → Answers s q.before q.lane (Some q.through.object) q.iface q.answer
answers-at s h q p = next-answers s q.before q.lane (entry_of s h q).deed (at-query s h q p).1

-- What a query that succeeds is answered, with its own reference and interface.
success-at : (s : Scenario) (h : List Entry) (q : Query s h) → legal s h → q.answer ≡ S_OK → Success s q.before q.lane (Some q.through) q.wanted (Some q.through.object) q.iface
success-at s h q p e =
    let a : Answers s q.before q.lane (Some q.through.object) q.iface q.answer = answers-at s h q p in
    let z : (a.held ≡ Some q.through) × (a.wanted ≡ q.wanted) = same-query a.slot q.slot a.held (Some q.through) a.wanted q.wanted (sym a.acts ∙ q.acts) in
    subst (λ (x : Option RefValue). Success s q.before q.lane x q.wanted (Some q.through.object) q.iface) z.0
    (subst (λ (x : Asked). Success s q.before q.lane a.held x (Some q.through.object) q.iface) z.1 (a.gives e))

own-number : (s : Scenario) (h : List Entry) (q : Query s h) (n : ℕ) → interface_number s q.wanted ≡ Some n → n ≡ q.number
own-number s h q n e = some-same n q.number (sym e ∙ q.known)

-- It names an interface of the class, and takes its own object by it.
succeeds-has : (s : Scenario) (h : List Entry) (q : Query s h) → Formed s → legal s h → q.answer ≡ S_OK → has_interface s.classes (class_of h q.through.object) q.number ≡ true
succeeds-has s h q f p e =
    let a : Success s q.before q.lane (Some q.through) q.wanted (Some q.through.object) q.iface = success-at s h q p e in
    subst (λ (k : ℕ). has_interface s.classes k q.number ≡ true) (sym (class-now s h q f p))
    (subst (λ (n : ℕ). has_interface s.classes (class_of q.before q.through.object) n ≡ true) (own-number s h q a.number a.known)
    (subst (λ (r : RefValue). has_interface s.classes (class_of q.before r.object) a.number ≡ true) (some-same a.through q.through (sym a.put)) a.declared))

succeeds-takes : (s : Scenario) (h : List Entry) (q : Query s h) → legal s h → q.answer ≡ S_OK → taken_in (deed.Query (Some q.through.object) q.iface q.answer) ≡ Some (reference q.through.object q.number)
succeeds-takes s h q p e =
    let a : Success s q.before q.lane (Some q.through) q.wanted (Some q.through.object) q.iface = success-at s h q p e in
    ap (λ (hr : HResult). taken_in (deed.Query (Some q.through.object) q.iface hr)) e ∙ a.taken
    ∙ ap (λ (r : RefValue). Some (reference r.object a.number)) (some-same a.through q.through (sym a.put))
    ∙ ap (λ (n : ℕ). Some (reference q.through.object n)) (own-number s h q a.number a.known)

-- ---- a query that is refused for want of the interface

false-true : false ≡ true → ⊥
false-true e = cc

true-false : true ≡ false → ⊥
true-false e = cc

abbrev is_wanting : HResult → Bool
is_wanting hr = hr.0 == 0x80004002

lacks-number : (s : Scenario) (k n : ℕ) (j : Option ℕ) → Lacks s k j → j ≡ Some n → has_interface s.classes k n ≡ false
lacks-number s k n j p e = subst (Lacks s k) e p

refusal-lacks : (s : Scenario) (h : List Entry) (l : ℕ) (r : RefValue) (wanted : Asked) (n : ℕ) (hr : HResult) → hr ≡ E_NOINTERFACE → interface_number s wanted ≡ Some n → Refusal s h l (Some r) wanted hr → has_interface s.classes (class_of h r.object) n ≡ false
refusal-lacks s h l r wanted n hr e k (uninitialised p z) = absurd (false-true (ap is_wanting (sym z ∙ e)))
refusal-lacks s h l r wanted n hr e k (null p z) = absurd (false-true (ap is_wanting (sym z ∙ e)))
refusal-lacks s h l r wanted n hr e k (severed t p c z) = absurd (false-true (ap is_wanting (sym z ∙ e)))
refusal-lacks s h l r wanted n hr e k (lacking t p c z) = subst (λ (x : RefValue). has_interface s.classes (class_of h x.object) n ≡ false) (some-same t r (sym p)) (lacks-number s (class_of h t.object) n (interface_number s wanted) c k)

fails-lacks : (s : Scenario) (h : List Entry) (q : Query s h) → Formed s → legal s h → q.answer ≡ E_NOINTERFACE → has_interface s.classes (class_of h q.through.object) q.number ≡ false
fails-lacks s h q f p e =
    let a : Refuses s q.before q.lane (Some q.through.object) q.iface q.answer = next-refused s q.before q.lane (entry_of s h q).deed (at-query s h q p).1 (ap is_S_OK e) in
    subst (λ (k : ℕ). has_interface s.classes k q.number ≡ false) (sym (class-now s h q f p))
    (refusal-lacks s q.before q.lane q.through q.wanted q.number q.answer e q.known (a.reason q.slot (Some q.through) q.wanted q.acts))

-- A class that has one interface has this other too, or lacks it: not both.
clash : (s : Scenario) (h : List Entry) (o p i j : ℕ) → o ≡ p → i ≡ j → has_interface s.classes (class_of h o) i ≡ true → has_interface s.classes (class_of h p) j ≡ false → ⊥
clash s h o p i j e k a b = true-false (sym a ∙ subst (λ (x : ℕ). has_interface s.classes (class_of h x) i ≡ false) (sym e) (subst (λ (x : ℕ). has_interface s.classes (class_of h p) x ≡ false) (sym k) b))

-- ---- the rules

abbrev has_in : Option Class → ℕ → Bool
has_in o i = elim o [ None ↦ false | Some c ↦ class_has c i ]

class-unknown : (o : Option Class) (i : ℕ) → has_in o i ≡ true → has_in o 0 ≡ true
class-unknown None i e = absurd (false-true e)
class-unknown (Some k) i e = refl

abbrev object_or : Option RefValue → ℕ
object_or None = 0
object_or (Some r) = r.object

one-object : (o p : ℕ) → Some (reference o 0) ≡ Some (reference p 0) → o ≡ p
one-object o p e = ap object_or e

taken-one : (x y : Option RefValue) (o p : ℕ) → x ≡ Some (reference o 0) → y ≡ Some (reference p 0) → (x ≡ y) ↔ (o ≡ p)
taken-one x y o p e d = (λ z. one-object o p (sym e ∙ z ∙ d), λ z. e ∙ ap (λ (n : ℕ). Some (reference n 0)) z ∙ sym d)

takes-unknown : (s : Scenario) (h : List Entry) (q : Query s h) → legal s h → q.number ≡ 0 → q.answer ≡ S_OK → taken_in (deed.Query (Some q.through.object) q.iface q.answer) ≡ Some (reference q.through.object 0)
takes-unknown s h q p n e = succeeds-takes s h q p e ∙ ap (λ (i : ℕ). Some (reference q.through.object i)) n

pub identity : (s : Scenario) (h : List Entry) → Formed s → legal s h → Identity s h
identity s h f p = record {
  always = λ q n e. clash s h q.through.object q.through.object 0 q.number refl (sym n) (class-unknown (class_at s.classes (class_of h q.through.object)) q.through.iface (through-has s h q f p)) (fails-lacks s h q f p e);
  one = λ q t n m e d. taken-one _ _ q.through.object t.through.object (takes-unknown s h q p n e) (takes-unknown s h t p m d);
}

pub static-set : (s : Scenario) (h : List Entry) → Formed s → legal s h → StaticSet s h
static-set s h f p = λ q t o n e d. clash s h q.through.object t.through.object q.number t.number o n (succeeds-has s h q f p e) (fails-lacks s h t f p d)

pub reflexive : (s : Scenario) (h : List Entry) → Formed s → legal s h → Reflexive s h
reflexive s h f p = λ q n e. clash s h q.through.object q.through.object q.through.iface q.number refl (sym n) (through-has s h q f p) (fails-lacks s h q f p e)

pub symmetric : (s : Scenario) (h : List Entry) → Formed s → legal s h → Symmetric s h
symmetric s h f p = λ q t o i n e d. clash s h q.through.object t.through.object q.through.iface t.number o (sym n) (through-has s h q f p) (fails-lacks s h t f p d)

pub transitive : (s : Scenario) (h : List Entry) → Formed s → legal s h → Transitive s h
transitive s h f p = λ q t r o x i j n e d z. clash s h t.through.object r.through.object t.number r.number (sym o ∙ x) (sym n) (succeeds-has s h t f p d) (fails-lacks s h r f p z)
