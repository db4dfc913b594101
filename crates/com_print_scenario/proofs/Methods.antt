-- A method's line is read as the method.
use Rattle.std.proofs.Common.{◌≡◌, ℕ, ◌+◌, ◌≤◌, ◌<◌, List, [], ◌∷◌, ◌++◌, map, drop, Option, Some, None, is_some, Bool, true, false, nat_le, if◌then◌else◌, refl, sym, ap, ◌∙◌, arith, length, length-append, slice_get, codes, Result, Ok, Err, bytes_eq, All, append_assoc}
use Rattle.std.proofs.lemmas.List.{append-nil}
use Rattle.std.proofs.lemmas.Bool.Decides.{nat_tests}
use Rattle.std.proofs.lemmas.List.Elements.{All-head, All-tail, All-get_or}
use Rattle.com_base.specs.declared.value.Kind.{Kind}
use Rattle.com_base.specs.declared.value.Kind.TheVariants as kinds
use Rattle.com_classes.specs.declared.interfaces.Method.{Method}
use Rattle.com_text.specs.Words.{WordAt}
use Rattle.com_read_operands.specs.declared.faults.Fault.{Fault}
use Rattle.com_read_operands.specs.Reading.{◌>>=◌, fault_at, word_at, end_at}
use Rattle.com_read_operands.specs.Naming.{is_name}
use Rattle.com_read_statements.specs.Calls.{method_position}
use Rattle.com_read_lines.specs.Methods.{type_word_of, type_by, type_at, item_at, signature_on, method_of}
use Rattle.com_print.specs.Spelled.{Spelled, plain, spelled_of}
use Rattle.com_print.specs.Words.{name_at}
use Rattle.com_print.specs.Ranges.{AreNames}
use Rattle.com_print.proofs.Names.{declared_again, name_word, is_name_at}
use Rattle.com_print.proofs.Places.{at, StandsAt, stands, word_bytes, present, end_again}
use Rattle.com_print_scenario.specs.Printed.{kind_word, result_words, method_words}
use Rattle.com_print_scenario.proofs.Following.{differs, Follows, follows, follows_next, here_is, rest_of}
use Rattle.com_print_scenario.proofs.Places.{at_of}

-- what is read of a type, and of a method's types
abbrev result_of : {A : Type 0} → Result A Fault → Type 0
result_of {A} r = A

abbrev TypeWord : Type 0
TypeWord = result_of (item_at [] 0 [] 0)

abbrev Signature : Type 0
Signature = result_of (signature_on [] [] [] 0 [])

-- interfaces' names among which types are read
pub record AreTypes (names : List (List ℕ)) : Type 0 where
  pub good : AreNames names
  pub no_type : All (λ n. is_some (type_word_of n) ≡ false) names

abbrev pub IsKind : List (List ℕ) → Kind → Type 0
IsKind names (kinds.Ref i) = i < length names
IsKind names _ = Unit {0}

none_of : (o : Option Kind) → is_some o ≡ false → o ≡ None
none_of None h = refl
none_of (Some k) h = absurd cc

type_word_at : (names : List (List ℕ)) (line : List WordAt) (k : ℕ) (bs : List ℕ) (h : StandsAt line k (plain bs))
    → type_at names line k ≡ type_by names line k (type_word_of bs)
unfolding type_at
type_word_at names line k bs h = word_bytes (λ w x. type_by names line k (type_word_of x)) line k bs h

pub type_again : (names : List (List ℕ)) (line : List WordAt) (k : ℕ) (kind : Kind) → at line k ≡ Some (kind_word names kind) → AreTypes names → IsKind names kind
    → type_at names line k ≡ Ok kind
type_again names line k kinds.Int h are is = type_word_at names line k (codes "int") (stands line k _ h)
type_again names line k kinds.Bool h are is = type_word_at names line k (codes "bool") (stands line k _ h)
type_again names line k kinds.Text h are is = type_word_at names line k (codes "text") (stands line k _ h)
type_again names line k kinds.Bytes h are is = type_word_at names line k (codes "bytes") (stands line k _ h)
type_again names line k kinds.Guid h are is = type_word_at names line k (codes "guid") (stands line k _ h)
type_again names line k (kinds.Ref i) h are is =
    type_word_at names line k (name_at names i) (stands line k _ h)
    ∙ ap (type_by names line k) (none_of (type_word_of (name_at names i)) (All-get_or (λ n. is_some (type_word_of n) ≡ false) names i [] is are.no_type))
    ∙ ap (λ (r : Result ℕ Fault). r >>= λ n. Ok (kinds.Ref n)) (declared_again names line k i h are.good is)

no_arrow : (names : List (List ℕ)) (kind : Kind) → AreTypes names → IsKind names kind → bytes_eq (kind_word names kind).bytes (codes "->") ≡ false
no_arrow names kinds.Int are is = refl
no_arrow names kinds.Bool are is = refl
no_arrow names kinds.Text are is = refl
no_arrow names kinds.Bytes are is = refl
no_arrow names kinds.Guid are is = refl
no_arrow names (kinds.Ref i) are is = differs is_name (name_at names i) (codes "->") (is_name_at names i are.good is) refl

abbrev item_by : List (List ℕ) → ℕ → List WordAt → ℕ → WordAt → Bool → Result TypeWord Fault
item_by names count line k w arrow =
    if arrow then (do
      kind ← type_at names line (k + 1)
      done ← end_at line (k + 2)
      Ok (record { kind = kind; last = true })) else (do
        kind ← type_at names line k
        if nat_le 4 count then Err (fault_at 12 w) else Ok (record { kind = kind; last = false }))

plain_kind : (names : List (List ℕ)) (kind : Kind) → kind_word names kind ≡ plain (kind_word names kind).bytes
plain_kind names kinds.Int = refl
plain_kind names kinds.Bool = refl
plain_kind names kinds.Text = refl
plain_kind names kinds.Bytes = refl
plain_kind names kinds.Guid = refl
plain_kind names (kinds.Ref i) = refl

item_word : (names : List (List ℕ)) (count : ℕ) (line : List WordAt) (k : ℕ) (bs : List ℕ) (h : StandsAt line k (plain bs))
    → item_at names count line k ≡ item_by names count line k h.word (bytes_eq bs (codes "->"))
unfolding item_at
item_word names count line k bs h =
    ap (λ (r : Result Bool Fault). r >>= λ there. word_at line k >>= λ w. item_by names count line k w (bytes_eq w.bytes (codes "->"))) (present line k _ h tt)
    ∙ word_bytes (λ w x. item_by names count line k w (bytes_eq x (codes "->"))) line k bs h

param_again : (names : List (List ℕ)) (count : ℕ) (line : List WordAt) (k : ℕ) (kind : Kind) → at line k ≡ Some (kind_word names kind) → AreTypes names → IsKind names kind
    → count < 4 → item_at names count line k ≡ Ok (record { kind = kind; last = false })
param_again names count line k kind h are is few =
    let s = stands line k (plain (kind_word names kind).bytes) (h ∙ ap Some (plain_kind names kind)) in
    let room : nat_le 4 count ≡ false = grind (arith, nat_tests) in
    item_word names count line k (kind_word names kind).bytes s
    ∙ ap (item_by names count line k s.word) (no_arrow names kind are is)
    ∙ ap (λ (r : Result Kind Fault). r >>= λ x. if nat_le 4 count then Err (fault_at 12 s.word) else Ok (record { kind = x; last = false })) (type_again names line k kind h are is)
    ∙ ap (λ (b : Bool). if b then Err (fault_at 12 s.word) else Ok (record { kind = kind; last = false })) room

result_again : (names : List (List ℕ)) (count : ℕ) (line : List WordAt) (k : ℕ) (kind : Kind) → at line k ≡ Some (plain (codes "->"))
    → at line (k + 1) ≡ Some (kind_word names kind) → at line (k + 2) ≡ None → AreTypes names → IsKind names kind
    → item_at names count line k ≡ Ok (record { kind = kind; last = true })
result_again names count line k kind h g n are is =
    let s = stands line k (plain (codes "->")) h in
    item_word names count line k (codes "->") s
    ∙ rw (type_again names line (k + 1) kind g are is, end_again line (k + 2) n) refl

abbrev signed : List (List ℕ) → List Kind → List WordAt → ℕ → List WordAt → Result TypeWord Fault → Result Signature Fault
signed names done line k vs r = r >>= λ item.
    (if item.last then Ok (record { params = done; result = Some item.kind }) else signature_on names (done ++ item.kind ∷ []) line (k + 1) vs)

abbrev pub IsResult : List (List ℕ) → Option Kind → Type 0
IsResult names None = Unit {0}
IsResult names (Some k) = IsKind names k

signature_again : (names : List (List ℕ)) (params : List Kind) (result : Option Kind) (done : List Kind) (line : List WordAt) (k : ℕ) (vs : List WordAt)
    → AreTypes names → All (IsKind names) params → IsResult names result → length done + length params ≤ 4 → Follows line k vs
    → map spelled_of vs ≡ map (kind_word names) params ++ result_words names result
    → signature_on names done line k vs ≡ Ok (record { params = done ++ params; result = result })
signature_again names [] None done line k [] are all is few f e = ap (λ (x : List Kind). Ok (record { params = x; result = None })) (sym (append-nil done))
signature_again names [] None done line k (v ∷ vs) are all is few f e = absurd cc
signature_again names [] (Some r) done line k [] are all is few f e = absurd cc
signature_again names [] (Some r) done line k (v ∷ []) are all is few f e = absurd cc
signature_again names [] (Some r) done line k (v ∷ w ∷ x ∷ xs) are all is few f e = absurd cc
signature_again names [] (Some r) done line k (v ∷ w ∷ []) are all is few f e =
    let arrow = here_is line k v (w ∷ []) (plain (codes "->")) (kind_word names r ∷ []) f e in
    let kind = f 1 ∙ ap (λ (l : List Spelled). slice_get l 1) e in
    ap (signed names done line k (w ∷ [])) (result_again names (length done) line k r arrow kind (f 2) are is)
    ∙ ap (λ (x : List Kind). Ok (record { params = x; result = Some r })) (sym (append-nil done))
signature_again names (p ∷ ps) result done line k [] are all is few f e = absurd cc
signature_again names (p ∷ ps) result done line k (v ∷ vs) are all is few f e =
    let one = param_again names (length done) line k p (here_is line k v vs _ _ f e) are (All-head (IsKind names) p ps all) (omega arith) in
    let shorter : length (done ++ p ∷ []) + length ps ≤ 4 = simp length-append (omega arith) in
    let rest : map spelled_of vs ≡ map (kind_word names) ps ++ result_words names result = cc in
    let more = signature_again names ps result (done ++ p ∷ []) line (k + 1) vs are (All-tail (IsKind names) p ps all) is shorter (follows_next line k v vs f) rest in
    ap (signed names done line k vs) one
    ∙ more ∙ ap (λ (x : List Kind). Ok (record { params = x; result = result })) (append_assoc done (p ∷ []) ps)

-- what a method's line needs
pub record CanRead (names : List (List ℕ)) (methods : List Method) (m : Method) : Type 0 where
  pub types : AreTypes names
  pub name : is_name m.name ≡ true
  pub free : is_some (method_position methods m.name) ≡ false
  pub params : All (IsKind names) m.params
  pub few : length m.params ≤ 4
  pub result : IsResult names m.result

pub method_again : (names : List (List ℕ)) (methods : List Method) (line : List WordAt) (m : Method) → map spelled_of line ≡ method_words names m
    → CanRead names methods m → method_of names methods line ≡ Ok m
unfolding method_of
method_again names methods line m e can =
    let s = stands line 1 (plain m.name) (at_of line _ 1 e) in
    let good : Signature → Method = λ x. record { name = s.word.bytes; params = x.params; result = x.result } in
    ap (λ (r : Result WordAt Fault). r >>= λ w. if is_some (method_position methods w.bytes) then Err (fault_at 9 w) else (do
      x ← signature_on names [] line 2 (drop 2 line)
      Ok (record { name = w.bytes; params = x.params; result = x.result }))) (name_word line 1 m.name s can.name)
    ∙ ap (λ (b : Bool). if b then Err (fault_at 9 s.word) else (signature_on names [] line 2 (drop 2 line) >>= λ x. Ok (good x)))
    (ap (λ (x : List ℕ). is_some (method_position methods x)) s.bytes ∙ can.free)
    ∙ ap (λ (r : Result Signature Fault). r >>= λ x. Ok (good x))
    (signature_again names m.params m.result [] line 2 (drop 2 line) can.types can.params can.result (omega (arith, can.few)) (follows 2 line) (rest_of 2 line _ e))
    ∙ ap (λ (x : List ℕ). Ok (record { name = x; params = m.params; result = m.result })) s.bytes
