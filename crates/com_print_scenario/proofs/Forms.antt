-- What a formed scenario declares can be written and read where it stands: names and interfaces.
use Rattle.std.proofs.Common.{◌≡◌, ℕ, zero, suc, ◌+◌, ◌<◌, ◌&&◌, List, [], ◌∷◌, ◌++◌, map, is_some, Bool, true, false, nat_le, nat_lt, if◌then◌else◌, refl, ap, ◌∙◌, arith, length, length-append, All, bytes_eq, slice_index_or}
use Rattle.std.specs.Char.{is_ascii_alphabetic}
use Rattle.std.proofs.lemmas.List.Elements.{All-head, All-tail, All-append}
use Rattle.std.proofs.lemmas.Bool.Decides.{nat_tests}
use Rattle.com_model.specs.Formed.{is_letter, is_name_byte, IsName, Distinct, EachFrom}
use Rattle.com_read_operands.specs.Naming.{is_tail, are_tail, is_name}
use Rattle.com_read_lines.specs.Methods.{type_word_of}
use Rattle.com_print.specs.Ranges.{AreNames, Distinct as Apart}
use Rattle.com_print_scenario.proofs.Methods.{AreTypes}

-- ---- names

letter : (c : ℕ) → is_letter c ≡ true → is_ascii_alphabetic c ≡ true
letter c h = grind (arith, nat_tests)

tail_byte : (c : ℕ) → is_name_byte c ≡ true → is_tail c ≡ true
tail_byte c h = grind (arith, nat_tests)

tail : (cs : List ℕ) → All (λ x. is_name_byte x ≡ true) cs → are_tail cs ≡ true
tail [] h = refl
tail (c ∷ cs) h =
    ap (λ (x : Bool). if x then are_tail cs else false) (tail_byte c (All-head (λ x. is_name_byte x ≡ true) c cs h))
    ∙ tail cs (All-tail (λ x. is_name_byte x ≡ true) c cs h)

pub name_of : (n : List ℕ) → IsName n → is_name n ≡ true
name_of [] h = absurd h
name_of (c ∷ cs) h =
    let le = h.2 in
    let short : nat_lt (length cs) 32 ≡ true = grind (arith, nat_tests) in
    ap (λ (x : Bool). x && nat_lt (length cs) 32 && are_tail cs) (letter c h.0)
    ∙ ap (λ (x : Bool). true && x && are_tail cs) short
    ∙ ap (λ (x : Bool). true && true && x) (tail cs h.1)

-- ---- lists whose elements are apart

pub all_map : {X Y : Type 0} (f : X → Y) (P : X → Type 0) (Q : Y → Type 0) → ((x : X) → P x → Q (f x)) → (xs : List X) → All P xs → All Q (map f xs)
all_map f P Q t [] h = λ k d lt. absurd (omega arith)
all_map f P Q t (x ∷ xs) h =
    All-append Q (f x ∷ []) (map f xs) (λ k d lt. one k d lt) (all_map f P Q t xs (All-tail P x xs h))
  where
    one : (k : ℕ) (d : _) → k < 1 → Q (slice_index_or (f x ∷ []) k d)
    one zero d lt = t x (All-head P x xs h)
    one (suc k) d lt = absurd (omega arith)

-- names that are apart where what they name is
pub apart_map : {X : Type 0} (f : X → List ℕ) (same : X → X → Bool) → ((a b : X) → same a b ≡ false → bytes_eq (f a) (f b) ≡ false) → (xs : List X) → Distinct same xs → Apart (map f xs)
apart_map f same t [] h = tt
apart_map f same t (x ∷ xs) h = (all_map f (λ y. same x y ≡ false) (λ m. bytes_eq (f x) m ≡ false) (λ y e. t x y e) xs h.0, apart_map f same t xs h.1)

all_front : {X : Type 0} (P : X → Type 0) (xs ys : List X) → All P (xs ++ ys) → All P xs
all_front P [] ys h = λ k d lt. absurd (omega arith)
all_front P (x ∷ xs) ys h =
    All-append P (x ∷ []) xs (λ k d lt. one k d lt) (all_front P xs ys (All-tail P x (xs ++ ys) h))
  where
    one : (k : ℕ) (d : _) → k < 1 → P (slice_index_or (x ∷ []) k d)
    one zero d lt = All-head P x (xs ++ ys) h
    one (suc k) d lt = absurd (omega arith)

apart_front : (xs ys : List (List ℕ)) → Apart (xs ++ ys) → Apart xs
apart_front [] ys h = tt
apart_front (x ∷ xs) ys h = (all_front (λ m. bytes_eq x m ≡ false) xs ys h.0, apart_front xs ys h.1)

pub names_front : (xs ys : List (List ℕ)) → AreNames (xs ++ ys) → AreNames xs
names_front xs ys h =
    let few = h.few in
    record {
      each = all_front (λ n. is_name n ≡ true) xs ys h.each;
      distinct = apart_front xs ys h.distinct;
      few = omega (arith, few, length-append xs ys);
    }

pub types_front : (xs ys : List (List ℕ)) → AreTypes (xs ++ ys) → AreTypes xs
types_front xs ys h = record { good = names_front xs ys h.good; no_type = all_front (λ n. is_some (type_word_of n) ≡ false) xs ys h.no_type }

-- each of a list, whatever its number
pub all_of : {X : Type 0} (P : ℕ → X → Type 0) (Q : X → Type 0) → ((n : ℕ) (x : X) → P n x → Q x) → (n : ℕ) (xs : List X) → EachFrom P n xs → All Q xs
all_of P Q t n [] h = λ k d lt. absurd (omega arith)
all_of P Q t n (x ∷ xs) h =
    All-append Q (x ∷ []) xs (λ k d lt. one k d lt) (all_of P Q t (n + 1) xs h.1)
  where
    one : (k : ℕ) (d : _) → k < 1 → Q (slice_index_or (x ∷ []) k d)
    one zero d lt = t n x h.0
    one (suc k) d lt = absurd (omega arith)

pub all_each : {X : Type 0} (P Q : X → Type 0) → ((x : X) → P x → Q x) → (xs : List X) → All P xs → All Q xs
all_each P Q t xs h = λ k d lt. t (slice_index_or xs k d) (h k d lt)
