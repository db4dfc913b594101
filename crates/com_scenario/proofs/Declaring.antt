-- What the words of a declaration say.
use Rattle.std.proofs.Common.{◌≡◌, ℕ, zero, suc, ◌+◌, ◌≤◌, ◌<◌, ◌^◌, Bool, true, false, nat_le, List, [], ◌∷◌, ◌++◌, length, drop, Option, Some, None, is_some, Result, Ok, Err, All, refl, sym, subst, ◌∙◌, arith, if◌then◌else◌, true≢false, ℤ, pos, negsuc, length-append}
use Rattle.std.specs.Prelude.{bytes_eq, codes, slice_get}
use Rattle.std.proofs.lemmas.List.Elements.{All-nil, All-push}
use Rattle.std.proofs.lemmas.Bool.{leb-false, leb-true, eqb-true}
use Rattle.com_base.specs.declared.guid.Guid.{Guid}
use Rattle.com_base.specs.declared.value.Kind.{Kind}
use Rattle.com_base.specs.declared.value.Kind.TheVariants as kinds
use Rattle.com_body.specs.declared.frame.Native.{Native}
use Rattle.com_body.specs.declared.frame.Native.TheVariants as natives
use Rattle.com_classes.specs.declared.interfaces.Method.{Method}
use Rattle.com_classes.specs.declared.classes.ThreadingModel.{ThreadingModel}
use Rattle.com_classes.specs.declared.classes.ThreadingModel.TheVariants as models
use Rattle.com_filter.specs.declared.Rule.TheVariants as rules
use Rattle.com_filter.specs.declared.Verdict.TheVariants as verdicts
use Rattle.com_text.specs.Words.{WordAt}
use Rattle.com_read_operands.specs.declared.faults.Fault.{Fault}
use Rattle.com_read_operands.specs.Numbers.{signed_of}
use Rattle.com_read_operands.specs.Reading.{◌>>=◌, fault_at, word_at, needed, stands_at, end_at, number_at}
use Rattle.com_read_operands.specs.Naming.{is_name, position_of, name_at, declared_at}
use Rattle.com_read_operands.specs.Literals.{guid_at}
use Rattle.com_read_statements.specs.Calls.{method_position}
use Rattle.com_read_lines.specs.declared.methods.Signature.{Signature}
use Rattle.com_read_lines.specs.declared.methods.TypeWord.{TypeWord}
use Rattle.com_read_lines.specs.declared.rules.RuleWord.{RuleWord}
use Rattle.com_read_lines.specs.declared.rules.RuleWord.TheVariants as words
use Rattle.com_read_lines.specs.Tables.{has_guid}
use Rattle.com_read_lines.specs.Methods.{type_word_of, type_by, type_at, item_at, signature_on, method_of}
use Rattle.com_read_lines.specs.Declaring.{free_guid_at, free_name_at, interface_name_at, relay_of, native_at, listed_item, listed_on, listed_at, pick_at, picks_on}
use Rattle.com_read_lines.specs.Rules.{call_type_at, verdict_at, refusal_at, in_answers, as_answer, answer_at, kept_at, rule_of}
use Rattle.com_classes.specs.Activation.{is_agile}
use Rattle.com_model.specs.Formed.{IsName, IsKindBy, IsResultBy, IsMethod, same_method, IsType, IsAsked, IsRetryAnswer, IsRule}
use Rattle.com_laws_scenario.specs.Holds.{Holds}
use Rattle.com_laws_scenario.proofs.Holds.{done, fails, anything, bind, weaker, either}
use Rattle.com_laws_scenario.proofs.Fields.{number_formed, name_formed, declared_formed}
use Rattle.com_scenario.proofs.Alike.{name_good, unnamed_method}

-- ---- names and GUIDs that are new

pub free_guid_new : (guids : List Guid) (line : List WordAt) (k : ℕ) → Holds (λ (g : Guid). has_guid guids g ≡ false) (free_guid_at guids line k)
unfolding free_guid_at
free_guid_new guids line k = bind (guid_at line k) _ (anything (guid_at line k)) (λ g _. either (has_guid guids g) _ (Ok g)
    (λ _. bind (word_at line k) _ (anything (word_at line k)) (λ w _. fails _))
    (λ e. done g e))

-- a good name that no other of a list is
pub record IsNew (names : List (List ℕ)) (w : WordAt) : Type 0 where
  pub good : IsName w.bytes
  pub free : is_some (position_of names w.bytes) ≡ false

pub free_name_new : (names : List (List ℕ)) (line : List WordAt) (k : ℕ) → Holds (IsNew names) (free_name_at names line k)
unfolding free_name_at
free_name_new names line k = bind (name_at line k) _ (name_formed line k) (λ w is. either (is_some (position_of names w.bytes)) _ (Ok w)
    (λ _. fails _)
    (λ e. done w (record { good = name_good w.bytes is; free = e })))

-- two readings at one index give one word
pub same_word : (line : List WordAt) (k : ℕ) (P : WordAt → Type 0) (w : WordAt) → word_at line k ≡ Ok w → Holds P (word_at line k) → P w
same_word line k P w e h = h.of w e

-- a new name that is no word of a type
pub record IsNewInterface (names : List (List ℕ)) (w : WordAt) : Type 0 where
  pub new : IsNew names w
  pub untyped : is_some (type_word_of w.bytes) ≡ false

-- a name's reading gives the word at its index
named_word : (line : List WordAt) (k : ℕ) (w : WordAt) → name_at line k ≡ Ok w → word_at line k ≡ Ok w
unfolding name_at
named_word line k w e = by (word_at line k) refl e
  where
    by : (r : Result WordAt Fault) → word_at line k ≡ r → (r >>= λ (v : WordAt). if is_name v.bytes then Ok v else Err (fault_at 3 v)) ≡ Ok w → r ≡ Ok w
    by (Err f) is h = h
    by (Ok v) is h = pick (is_name v.bytes) h
      where
        pick : (b : Bool) → ◌≡◌ {A = Result WordAt Fault} (if b then Ok v else Err (fault_at 3 v)) (Ok w) → ◌≡◌ {A = Result WordAt Fault} (Ok v) (Ok w)
        pick true f = f
        pick false f = absurd cc

-- a free name's reading gives the name that stands there
free_is : (names : List (List ℕ)) (line : List WordAt) (k : ℕ) (w : WordAt) → free_name_at names line k ≡ Ok w → name_at line k ≡ Ok w
unfolding free_name_at
free_is names line k w e = by (name_at line k) refl e
  where
    by : (r : Result WordAt Fault) → name_at line k ≡ r → (r >>= λ (v : WordAt). if is_some (position_of names v.bytes) then Err (fault_at 9 v) else Ok v) ≡ Ok w → r ≡ Ok w
    by (Err f) is h = h
    by (Ok v) is h = pick (is_some (position_of names v.bytes)) h
      where
        pick : (b : Bool) → ◌≡◌ {A = Result WordAt Fault} (if b then Err (fault_at 9 v) else Ok v) (Ok w) → ◌≡◌ {A = Result WordAt Fault} (Ok v) (Ok w)
        pick false f = f
        pick true f = absurd cc

itself : {A : Type 0} (r : Result A Fault) → Holds (λ (x : A). r ≡ Ok x) r
itself r = record { of = λ x e. e }

pub interface_name_new : (names : List (List ℕ)) (line : List WordAt) → Holds (IsNewInterface names) (interface_name_at names line)
unfolding interface_name_at
interface_name_new names line = bind (name_at line 1) _ (itself (name_at line 1)) (λ w first. either (is_some (type_word_of w.bytes)) _ _
    (λ _. fails _)
    (λ e. record {
      of = λ v f.
          let same : w ≡ v = cc (sym first ∙ free_is names line 1 v f) in
          record { new = (free_name_new names line 1).of v f; untyped = subst (λ (x : WordAt). is_some (type_word_of x.bytes) ≡ false) same e };
    }))

-- ---- methods

type_word_kind : (n : ℕ) (p q r s t : Bool) (k : Kind)
    → (if p then Some kinds.Int else (if q then Some kinds.Bool else (if r then Some kinds.Text else (if s then Some kinds.Bytes else (if t then Some kinds.Guid else None))))) ≡ Some k → IsKindBy n k
type_word_kind n true q r s t k e = subst (IsKindBy n) (some_same kinds.Int k e) tt
  where
    some_same : (a b : Kind) → Some a ≡ Some b → a ≡ b
    some_same a b f = cc
type_word_kind n false true r s t k e = subst (IsKindBy n) (some_same kinds.Bool k e) tt
  where
    some_same : (a b : Kind) → Some a ≡ Some b → a ≡ b
    some_same a b f = cc
type_word_kind n false false true s t k e = subst (IsKindBy n) (some_same kinds.Text k e) tt
  where
    some_same : (a b : Kind) → Some a ≡ Some b → a ≡ b
    some_same a b f = cc
type_word_kind n false false false true t k e = subst (IsKindBy n) (some_same kinds.Bytes k e) tt
  where
    some_same : (a b : Kind) → Some a ≡ Some b → a ≡ b
    some_same a b f = cc
type_word_kind n false false false false true k e = subst (IsKindBy n) (some_same kinds.Guid k e) tt
  where
    some_same : (a b : Kind) → Some a ≡ Some b → a ≡ b
    some_same a b f = cc
type_word_kind n false false false false false k e = absurd cc

type_by_kind : (n : ℕ) (names : List (List ℕ)) (line : List WordAt) (i : ℕ) (o : Option Kind) → length names ≡ n + 1 → ((k : Kind) → o ≡ Some k → IsKindBy n k) → Holds (IsKindBy n) (type_by names line i o)
type_by_kind n names line i (Some k) e h = done k (h k refl)
type_by_kind n names line i None e h = bind (declared_at names line i) _ (declared_formed names line i) (λ d l. let m : d ≤ n = omega arith in done (kinds.Ref d) m)

type_kind : (n : ℕ) (names : List (List ℕ)) (line : List WordAt) (i : ℕ) → length names ≡ n + 1 → Holds (IsKindBy n) (type_at names line i)
unfolding type_at
type_kind n names line i e = bind (word_at line i) _ (anything (word_at line i)) (λ w _. type_by_kind n names line i (type_word_of w.bytes) e
    (λ k f. type_word_kind n (bytes_eq w.bytes (codes "int")) (bytes_eq w.bytes (codes "bool")) (bytes_eq w.bytes (codes "text")) (bytes_eq w.bytes (codes "bytes")) (bytes_eq w.bytes (codes "guid")) k f))

record IsItem (n count : ℕ) (t : TypeWord) : Type 0 where
  kind : IsKindBy n t.kind
  room : t.last ≡ false → count < 4

item_kind : (n : ℕ) (names : List (List ℕ)) (count : ℕ) (line : List WordAt) (i : ℕ) → length names ≡ n + 1 → Holds (IsItem n count) (item_at names count line i)
unfolding item_at
item_kind n names count line i e =
    bind (stands_at line i) _ (anything (stands_at line i)) (λ _ _.
    bind (word_at line i) _ (anything (word_at line i)) (λ w _. either (bytes_eq w.bytes (codes "->")) _ _
    (λ _. bind (type_at names line (i + 1)) _ (type_kind n names line (i + 1) e) (λ k h.
    bind (end_at line (i + 2)) _ (anything (end_at line (i + 2))) (λ _ _. done (record { kind = k; last = true }) (record { kind = h; room = λ f. absurd (true≢false f) }))))
    (λ _. bind (type_at names line i) _ (type_kind n names line i e) (λ k h. either (nat_le 4 count) _ _
    (λ _. fails _)
    (λ f. done (record { kind = k; last = false }) (record { kind = h; room = λ _. leb-false 4 count f }))))))

pub record IsSignature (n : ℕ) (s : Signature) : Type 0 where
  pub params : All (IsKindBy n) s.params
  pub few : length s.params ≤ 4
  pub result : IsResultBy n s.result

signature_kinds : (vs : List WordAt) (n : ℕ) (names : List (List ℕ)) (front : List Kind) (line : List WordAt) (i : ℕ) → length names ≡ n + 1 → All (IsKindBy n) front → length front ≤ 4
    → Holds (IsSignature n) (signature_on names front line i vs)
signature_kinds [] n names front line i e h few = done (record { params = front; result = None }) (record { params = h; few = few; result = tt })
signature_kinds (v ∷ vs) n names front line i e h few =
    bind (item_at names (length front) line i) _ (item_kind n names (length front) line i e) (λ item is. either item.last _ _
    (λ _. done (record { params = front; result = Some item.kind }) (record { params = h; few = few; result = is.kind }))
    (λ f. let room = is.room f in
    signature_kinds vs n names (front ++ item.kind ∷ []) line (i + 1) e (All-push (IsKindBy n) front item.kind h is.kind) (omega (arith, length-append front (item.kind ∷ []), room))))

-- a method that may stand behind those of an interface
pub record IsNextMethod (n : ℕ) (ms : List Method) (m : Method) : Type 0 where
  pub method : IsMethod n m
  pub new : All (λ k. same_method k m ≡ false) ms

pub method_new : (n : ℕ) (names : List (List ℕ)) (ms : List Method) (line : List WordAt) → length names ≡ n + 1 → Holds (IsNextMethod n ms) (method_of names ms line)
unfolding method_of
method_new n names ms line e = bind (name_at line 1) _ (name_formed line 1) (λ w good. either (is_some (method_position ms w.bytes)) _ _
    (λ _. fails _)
    (λ free. bind (signature_on names [] line 2 (drop 2 line)) _ (signature_kinds (drop 2 line) n names [] line 2 e (All-nil (IsKindBy n)) (omega arith)) (λ s is.
    done (record { name = w.bytes; params = s.params; result = s.result }) (record {
      method = (name_good w.bytes good, is.params, is.few, is.result);
      new = unnamed_method ms (record { name = w.bytes; params = s.params; result = s.result }) free;
    }))))

-- ---- classes

-- a built-in class, and no agile relay
abbrev pub IsNativeOf : ThreadingModel → Native → Type 0
IsNativeOf model natives.Bodies = ⊥
IsNativeOf model natives.Counter = Unit {0}
IsNativeOf model natives.Relay = is_agile model ≡ false
IsNativeOf model natives.Latch = Unit {0}

relay_native : (w : WordAt) (model : ThreadingModel) → Holds (IsNativeOf model) (relay_of w model)
relay_native w models.Nothing = done natives.Relay refl
relay_native w models.Apartment = done natives.Relay refl
relay_native w models.Free = done natives.Relay refl
relay_native w models.Both = done natives.Relay refl
relay_native w models.Neutral = done natives.Relay refl
relay_native w models.Agile = fails _

pub native_new : (model : ThreadingModel) (line : List WordAt) (k : ℕ) → Holds (IsNativeOf model) (native_at model line k)
unfolding native_at
native_new model line k = bind (word_at line k) _ (anything (word_at line k)) (λ w _.
    either (bytes_eq w.bytes (codes "counter")) _ _ (λ _. done natives.Counter tt) (λ _.
    either (bytes_eq w.bytes (codes "relay")) _ _ (λ _. relay_native w model) (λ _.
    either (bytes_eq w.bytes (codes "latch")) _ _ (λ _. done natives.Latch tt) (λ _. fails _))))

record IsListed (n count i : ℕ) : Type 0 where
  declared : i < n
  room : count < 16

item_listed : (names : List (List ℕ)) (count : ℕ) (line : List WordAt) (k : ℕ) → Holds (IsListed (length names) count) (listed_item names count line k)
unfolding listed_item
item_listed names count line k =
    bind (stands_at line k) _ (anything (stands_at line k)) (λ _ _.
    bind (declared_at names line k) _ (declared_formed names line k) (λ i l. either (nat_le 16 count) _ (Ok i)
    (λ _. bind (word_at line k) _ (anything (word_at line k)) (λ w _. fails _))
    (λ f. done i (record { declared = l; room = leb-false 16 count f }))))

pub record AreListed (n low : ℕ) (is : List ℕ) : Type 0 where
  pub declared : All (λ i. i < n) is
  pub least : low ≤ length is
  pub few : length is ≤ 16

list_on : (vs : List WordAt) (names : List (List ℕ)) (front : List ℕ) (line : List WordAt) (k : ℕ) → All (λ i. i < length names) front → length front ≤ 16
    → Holds (AreListed (length names) (length front + length vs)) (listed_on names front line k vs)
list_on [] names front line k h few = done front (record { declared = h; least = omega arith; few = few })
list_on (v ∷ vs) names front line k h few = bind (listed_item names (length front) line k) _ (item_listed names (length front) line k) (λ i is.
    let room = is.room in
    let more : length (front ++ i ∷ []) ≡ length front + 1 = length-append front (i ∷ []) in
    weaker (listed_on names (front ++ i ∷ []) line (k + 1) vs)
    (list_on vs names (front ++ i ∷ []) line (k + 1) (All-push (λ j. j < length names) front i h is.declared) (omega arith))
    (λ all a. record { declared = a.declared; least = (let l = a.least in omega arith); few = a.few }))

-- a word that stands at an index is one of those from there on
word_within : (line : List WordAt) (k : ℕ) (w : WordAt) → word_at line k ≡ Ok w → 1 ≤ length (drop k line)
unfolding word_at
word_within line k w e = by line k (slice_get line k) refl e
  where
    there : (vs : List WordAt) (i : ℕ) (v : WordAt) → slice_get vs i ≡ Some v → 1 ≤ length (drop i vs)
    there [] i v f = absurd cc
    there (x ∷ xs) zero v f = omega arith
    there (x ∷ xs) (suc i) v f = there xs i v f

    by : (vs : List WordAt) (i : ℕ) (o : Option WordAt) → slice_get vs i ≡ o → needed vs i o ≡ Ok w → 1 ≤ length (drop i vs)
    by vs i None f g = absurd cc
    by vs i (Some v) f g = there vs i v f

pub list_new : (names : List (List ℕ)) (line : List WordAt) → Holds (AreListed (length names) 1) (listed_at names line)
unfolding listed_at
list_new names line = bind (word_at line 4) _ (itself (word_at line 4)) (λ w first.
    weaker (listed_on names [] line 4 (drop 4 line)) (list_on (drop 4 line) names [] line 4 (All-nil (λ i. i < length names)) (omega arith))
    (λ all a. record { declared = a.declared; least = (let l = a.least in let m = word_within line 4 w first in omega arith); few = a.few }))

-- ---- picks

pub picks_new : (vs : List WordAt) (front : List ℕ) (line : List WordAt) (k : ℕ) → All (λ l. l < 2 ^ 32) front → Holds (All (λ l. l < 2 ^ 32)) (picks_on front line k vs)
unfolding pick_at
picks_new [] front line k h = done front h
picks_new (v ∷ vs) front line k h =
    bind (pick_at line k) _ (bind (stands_at line k) _ (anything (stands_at line k)) (λ _ _. number_formed 0 4294967295 line k)) (λ n is.
    picks_new vs (front ++ n ∷ []) line (k + 1) (All-push (λ l. l < 2 ^ 32) front n h (let m = is.1 in omega arith)))

-- ---- rules

call_type_new : (line : List WordAt) (k : ℕ) → Holds IsType (call_type_at line k)
unfolding call_type_at
call_type_new line k = bind (word_at line k) _ (anything (word_at line k)) (λ w _.
    either (bytes_eq w.bytes (codes "1")) _ _ (λ _. done (Some 1) refl) (λ _.
    either (bytes_eq w.bytes (codes "2")) _ _ (λ _. done (Some 2) refl) (λ _.
    either (bytes_eq w.bytes (codes "4")) _ _ (λ _. done (Some 4) refl) (λ _.
    either (bytes_eq w.bytes (codes "*")) _ _ (λ _. done None tt) (λ _. fails _)))))

refusal_new : (line : List WordAt) (k : ℕ) → Holds IsAsked (refusal_at line k)
unfolding refusal_at
refusal_new line k = bind (word_at line k) _ (anything (word_at line k)) (λ w _.
    either (bytes_eq w.bytes (codes "rejected")) _ _ (λ _. done (Some verdicts.Rejected) tt) (λ _.
    either (bytes_eq w.bytes (codes "later")) _ _ (λ _. done (Some verdicts.Later) tt) (λ _.
    either (bytes_eq w.bytes (codes "*")) _ _ (λ _. done None tt) (λ _. fails _))))

answered : (z : ℤ) → in_answers z ≡ true → IsRetryAnswer z
answered (pos n) e = leb-true n 2147483647 e
answered (negsuc n) e = eqb-true n 0 e

answer_by : (w : WordAt) (o : Option ℤ) → Holds IsRetryAnswer (as_answer w o)
answer_by w None = fails _
answer_by w (Some z) = either (in_answers z) (Ok z) _ (λ e. done z (answered z e)) (λ _. fails _)

answer_new : (line : List WordAt) (k : ℕ) → Holds IsRetryAnswer (answer_at line k)
unfolding answer_at
answer_new line k = bind (word_at line k) _ (anything (word_at line k)) (λ w _. answer_by w (signed_of w.bytes))

kept_new : (line : List WordAt) (k : ℕ) → Holds (λ (n : ℕ). n ≤ 2) (kept_at line k)
unfolding kept_at
kept_new line k = bind (word_at line k) _ (anything (word_at line k)) (λ w _.
    either (bytes_eq w.bytes (codes "cancel")) _ _ (λ _. done 0 (omega arith)) (λ _.
    either (bytes_eq w.bytes (codes "wait")) _ _ (λ _. done 1 (omega arith)) (λ _.
    either (bytes_eq w.bytes (codes "discard")) _ _ (λ _. done 2 (omega arith)) (λ _. fails _))))

pub rule_new : (k : RuleWord) (line : List WordAt) → Holds IsRule (rule_of k line)
unfolding rule_of
rule_new words.Incoming line =
    bind (call_type_at line 1) _ (call_type_new line 1) (λ t a.
    bind (number_at 0 2147483647 line 2) _ (number_formed 0 2147483647 line 2) (λ ms b.
    bind (verdict_at line 3) _ (anything (verdict_at line 3)) (λ v _.
    bind (end_at line 4) _ (anything (end_at line 4)) (λ _ _. done (rules.Incoming t ms v) (a, b.1)))))
rule_new words.Retry line =
    bind (refusal_at line 1) _ (refusal_new line 1) (λ v a.
    bind (number_at 0 2147483647 line 2) _ (number_formed 0 2147483647 line 2) (λ ms b.
    bind (answer_at line 3) _ (answer_new line 3) (λ n c.
    bind (end_at line 4) _ (anything (end_at line 4)) (λ _ _. done (rules.Retry v ms n) (a, b.1, c)))))
rule_new words.Pending line =
    bind (number_at 0 2147483647 line 1) _ (number_formed 0 2147483647 line 1) (λ ms a.
    bind (kept_at line 2) _ (kept_new line 2) (λ n b.
    bind (end_at line 3) _ (anything (end_at line 3)) (λ _ _. done (rules.Pending ms n) (a.1, b))))
