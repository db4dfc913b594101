-- Declared names, and GUIDs that stand for them, are read again.
use Rattle.std.proofs.Common.{◌≡◌, ℕ, zero, suc, ◌+◌, ◌-◌, ◌&&◌, ◌<◌, List, [], ◌∷◌, Some, Bool, true, false, nat_lt, if◌then◌else◌, refl, ap, ◌∙◌, arith, length, get_or, Result, Ok, Err, bytes_eq}
use Rattle.std.proofs.lemmas.Bool.Decides.{nat_tests}
use Rattle.std.proofs.lemmas.Slice.Eq.{bytes_eq-Decides}
use Rattle.std.proofs.lemmas.List.Elements.{All-get_or}
use Rattle.com_base.specs.Guids.{text_of}
use Rattle.com_body.specs.declared.operands.Asked.{Asked}
use Rattle.com_body.specs.declared.operands.Asked.TheVariants as askeds
use Rattle.com_text.specs.Words.{WordAt}
use Rattle.com_read_operands.specs.declared.faults.Fault.{Fault}
use Rattle.com_read_operands.specs.Reading.{◌>>=◌, fault_at}
use Rattle.com_read_operands.specs.Literals.{guid_of}
use Rattle.com_read_operands.specs.Naming.{is_name, position_of, of_16_bits, number_of_name, name_at as word_of_name, known, declared_at, opens_brace, as_asked, asked_at}
use Rattle.com_print.specs.Spelled.{plain}
use Rattle.com_print.specs.Words.{name_at, asked_word}
use Rattle.com_print.specs.Ranges.{Distinct, AreNames, IsNamed, FitsAsked}
use Rattle.com_print.proofs.Hexes.{guid_again}
use Rattle.com_print.proofs.Places.{at, StandsAt, stands, word_again}

-- what a name's form says of its first byte and of the others
pub name_parts : (a b c : Bool) → (a && b && c) ≡ true → (a ≡ true) × (c ≡ true)
name_parts true true true h = (refl, refl)
name_parts true true false h = absurd cc
name_parts true false c h = absurd cc
name_parts false b c h = absurd cc

pub tail_parts : (a b : Bool) → (if a then b else false) ≡ true → (a ≡ true) × (b ≡ true)
tail_parts true b h = (refl, h)
tail_parts false b h = absurd cc

pub same_bytes : (xs : List ℕ) → bytes_eq xs xs ≡ true
same_bytes xs = (bytes_eq-Decides xs xs).1 refl

position_again : (names : List (List ℕ)) (k : ℕ) → Distinct names → k < length names → position_of names (get_or names k []) ≡ Some k
position_again [] k d lt = absurd (omega arith)
position_again (n ∷ ns) zero d lt = rw (same_bytes n) refl
position_again (n ∷ ns) (suc k) d lt =
    let there : k < length ns = omega arith in
    let other : bytes_eq n (get_or ns k []) ≡ false = All-get_or (λ m. bytes_eq n m ≡ false) ns k [] there d.0 in
    let e : k + 1 ≡ suc k = omega arith in
    rw (other, position_again ns k d.1 there) (ap Some e)

pub number_again : (names : List (List ℕ)) (k : ℕ) → AreNames names → k < length names → number_of_name names (name_at names k) ≡ Some k
unfolding number_of_name
number_again names k are lt =
    let few = are.few in
    let t : nat_lt k 65536 ≡ true = grind (arith, nat_tests) in
    ap of_16_bits (position_again names k are.distinct lt) ∙ rw t refl

pub is_name_at : (names : List (List ℕ)) (k : ℕ) → AreNames names → k < length names → is_name (name_at names k) ≡ true
is_name_at names k are lt = All-get_or (λ n. is_name n ≡ true) names k [] lt are.each

pub name_word : (line : List WordAt) (k : ℕ) (bs : List ℕ) (h : StandsAt line k (plain bs)) → is_name bs ≡ true → word_of_name line k ≡ Ok h.word
unfolding word_of_name
name_word line k bs h is =
    let t : is_name h.word.bytes ≡ true = ap is_name h.bytes ∙ is in
    ap (λ (r : Result WordAt Fault). r >>= λ w. if is_name w.bytes then Ok w else Err (fault_at 3 w)) (word_again line k (plain bs) h tt) ∙ rw t refl

pub declared_again : (names : List (List ℕ)) (line : List WordAt) (k n : ℕ) → at line k ≡ Some (plain (name_at names n)) → AreNames names → n < length names
    → declared_at names line k ≡ Ok n
unfolding declared_at
declared_again names line k n h are lt =
    let s = stands line k (plain (name_at names n)) h in
    ap (λ (r : Result WordAt Fault). r >>= λ w. known w (number_of_name names w.bytes)) (name_word line k _ s (is_name_at names n are lt))
    ∙ ap (λ (bs : List ℕ). known s.word (number_of_name names bs)) s.bytes
    ∙ ap (known s.word) (number_again names n are lt)

no_brace : (bs : List ℕ) → is_name bs ≡ true → opens_brace bs ≡ false
no_brace [] h = absurd cc
no_brace (b ∷ bs) h = grind (arith, nat_tests)

abbrev asked_by : List (List ℕ) → ℕ → List WordAt → ℕ → WordAt → List ℕ → Result Asked Fault
asked_by names low line k w bs =
    if opens_brace bs then as_asked w (guid_of bs) else (do
      n ← declared_at names line k
      Ok (askeds.Number (n + low)))

asked_word_at : (names : List (List ℕ)) (low : ℕ) (line : List WordAt) (k : ℕ) (bs : List ℕ) (h : StandsAt line k (plain bs))
    → asked_at names low line k ≡ asked_by names low line k h.word bs
unfolding asked_at
asked_word_at names low line k bs h =
    ap (λ (r : Result WordAt Fault). r >>= λ w. asked_by names low line k w w.bytes) (word_again line k (plain bs) h tt)
    ∙ ap (asked_by names low line k h.word) h.bytes

guid_asked : (names : List (List ℕ)) (low : ℕ) (line : List WordAt) (k : ℕ) (w : WordAt) (bs : List ℕ) → asked_by names low line k w (123 ∷ bs) ≡ as_asked w (guid_of (123 ∷ bs))
guid_asked names low line k w bs = refl

pub asked_again : (names : List (List ℕ)) (low : ℕ) (line : List WordAt) (k : ℕ) (a : Asked) → at line k ≡ Some (asked_word names low a)
    → AreNames names → IsNamed names low a → FitsAsked a → asked_at names low line k ≡ Ok a
asked_again names low line k (askeds.Number n) h are is fits =
    let m = n - low in
    let lt : n - low < length names = (let a = is.0 in let b = is.1 in omega arith) in
    let s = stands line k (plain (name_at names (n - low))) h in
    let e : n - low + low ≡ n = (let a = is.0 in omega arith) in
    asked_word_at names low line k (name_at names (n - low)) s
    ∙ ap (λ (b : Bool). if b then as_asked s.word (guid_of (name_at names (n - low))) else (declared_at names line k >>= λ j. Ok (askeds.Number (j + low)))) (no_brace (name_at names (n - low)) (is_name_at names (n - low) are lt))
    ∙ ap (λ (r : Result ℕ Fault). r >>= λ j. Ok (askeds.Number (j + low))) (declared_again names line k (n - low) h are lt)
    ∙ ap (λ (j : ℕ). Ok (askeds.Number j)) e
asked_again names low line k (askeds.Guid g) h are is fits =
    let s = stands line k (plain (text_of g)) h in
    asked_word_at names low line k (text_of g) s
    ∙ guid_asked names low line k s.word _
    ∙ ap (as_asked s.word) (guid_again g fits)
