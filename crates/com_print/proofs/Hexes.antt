-- Bytes, HRESULTs and GUIDs in hexadecimal digits are read again.
use Rattle.std.proofs.Common.{◌≡◌, ℕ, zero, suc, ◌+◌, ◌*◌, ◌/◌, ◌%◌, ◌^◌, ◌<◌, List, [], ◌∷◌, ◌++◌, Option, Some, None, Bool, true, false, ◌&&◌, nat_lt, if◌then◌else◌, refl, sym, ap, ◌∙◌, arith, inl, inr, All, length, slice_index, option_and_then, option_map, IsAscii}
use Rattle.std.specs.List.{list_all}
use Rattle.std.specs.Char.{is_ascii, is_ascii_hexdigit}
use Rattle.std.specs.Int.{to_be_bytes, byte_at, bytes_high_first, w16, w32}
use Rattle.std.proofs.lemmas.Bool.{cases_lt}
use Rattle.std.proofs.lemmas.Bool.Decides.{nat_tests}
use Rattle.std.proofs.lemmas.List.Elements.{All-append, All-cons, All-head, All-nil, All-tail}
use Rattle.std.proofs.lemmas.Nat.{from_be_bytes-to_be_bytes_2, from_be_bytes-to_be_bytes_4}
use Rattle.hex.specs.Hex.{IsBytes, encode_lower, encode_with, lower_digits, upper_digits}
use Rattle.hex.proofs.HexLemmas.{IsDigits-upper_digits, decode_of-encode_lower, length-encode_with}
use Rattle.uuid.specs.Text.{upper, braced_text, parsed_braced}
use Rattle.uuid.proofs.TextLemmas.{braced_ascii}
use Rattle.uuid.proofs.RoundTrips.{parses_braced}
use Rattle.com_base.specs.declared.guid.Guid.{Guid}
use Rattle.com_base.specs.Guids.{text_of, guid_of_text, guid_of_reading_order, reading_order_of}
use Rattle.com_base.proofs.Texts.{braced_length, parsed_at_38}
use Rattle.com_read_operands.specs.Literals.{ascii_of, guid_of, are_pairs, unhexed, decoded}
use Rattle.com_read_operands.specs.Operands.{hex_on, hex_more, word32, hex_word_of}
use Rattle.com_base.specs.HResults.{eight_digits}
use Rattle.com_print.specs.Ranges.{AreBytes, IsGuid}

-- ---- lists of bytes

pub all_true : {X : Type 0} (p : X → Bool) (xs : List X) → All (λ x. p x ≡ true) xs → list_all p xs ≡ true
all_true p [] h = refl
all_true p (x ∷ xs) h =
    let one : p x ≡ true = All-head (λ y. p y ≡ true) x xs h in
    rw (one, all_true p xs (All-tail (λ y. p y ≡ true) x xs h)) refl

pub all_ascii : (xs : List ℕ) → IsAscii xs → list_all is_ascii xs ≡ true
all_ascii [] h = refl
all_ascii (x ∷ xs) h =
    let lt : x < 128 = h 0 in
    let one : is_ascii x ≡ true = grind (arith, nat_tests) in
    rw (one, all_ascii xs (λ i. h (suc i))) refl

bytes_by_place : (xs : List ℕ) → AreBytes xs → IsBytes xs
bytes_by_place [] h i = omega arith
bytes_by_place (x ∷ xs) h zero = All-head (λ b. b < 256) x xs h
bytes_by_place (x ∷ xs) h (suc i) = bytes_by_place xs (All-tail (λ b. b < 256) x xs h) i

-- ---- pairs of digits

-- a test holds of each number below a bound, by trying each
unfoldable pub all_below : ℕ → (ℕ → Bool) → Bool
all_below zero f = true
all_below (suc k) f = f k && all_below k f

pub both : (a b : Bool) → (a && b) ≡ true → (a ≡ true) × (b ≡ true)
both true true h = (refl, refl)
both true false h = absurd cc
both false true h = absurd cc
both false false h = absurd cc

pub tried : (k : ℕ) (f : ℕ → Bool) (n : ℕ) → n < k → all_below k f ≡ true → f n ≡ true
unfolding all_below
tried zero f n lt h = absurd (omega arith)
tried (suc k) f n lt h =
    let t = both (f k) (all_below k f) h in
    elim (cases_lt n k) [
      | inl less ↦ tried k f n less t.1
      | inr more ↦ (let e : n ≡ k = omega arith in ap f e ∙ t.0)
    ]

hex_byte : (d : ℕ) → d < 16 → is_ascii_hexdigit (slice_index lower_digits d) ≡ true
unfolding all_below
hex_byte d lt = tried 16 (λ k. is_ascii_hexdigit (slice_index lower_digits k)) d lt refl

pub all_hex : (xs : List ℕ) → AreBytes xs → list_all is_ascii_hexdigit (encode_lower xs) ≡ true
unfolding encode_with
all_hex [] h = refl
all_hex (x ∷ xs) h =
    let lt : x < 256 = All-head (λ b. b < 256) x xs h in
    let a = hex_byte (x / 16) (omega arith) in
    let b = hex_byte (x % 16) (omega arith) in
    rw (a, b, all_hex xs (All-tail (λ b. b < 256) x xs h)) refl

pub long_hex : (xs : List ℕ) → length (encode_lower xs) ≡ 2 * length xs
long_hex xs = length-encode_with lower_digits xs

pub pairs_again : (xs : List ℕ) → AreBytes xs → are_pairs (encode_lower xs) ≡ true
pairs_again xs h =
    let len = long_hex xs in
    let even : length (encode_lower xs) % 2 ≡ 0 = omega (arith, len) in
    rw (even, all_hex xs h) refl

pub unhexed_again : (xs : List ℕ) → AreBytes xs → unhexed (encode_lower xs) ≡ Some xs
unhexed_again xs h = ap decoded (decode_of-encode_lower xs (bytes_by_place xs h))

-- ---- HRESULTs

one_more : (acc d m : ℕ) (ds : List ℕ) → d < 16 → acc * 16 + d ≡ m → m < 2 ^ 32
    → hex_on (Some acc) (slice_index upper_digits d ∷ ds) ≡ hex_on (Some m) ds
one_more acc d m ds lt e fits =
    let small : nat_lt m (2 ^ 32) ≡ true = grind (arith, nat_tests) in
    ap (λ (o : Option ℕ). hex_on (hex_more acc o) ds) (IsDigits-upper_digits d lt)
    ∙ ap (λ (k : ℕ). hex_on (word32 k) ds) e
    ∙ ap (λ (b : Bool). hex_on (if b then Some m else None) ds) small

pub eight_again : (n : ℕ) → n < 2 ^ 32 → hex_word_of (48 ∷ 120 ∷ eight_digits n) ≡ Some n
unfolding hex_word_of
eight_again n fits =
    let ds0 = slice_index upper_digits (n % 16) ∷ [] in
    let ds1 = slice_index upper_digits (n / 2 ^ 4 % 16) ∷ ds0 in
    let ds2 = slice_index upper_digits (n / 2 ^ 8 % 16) ∷ ds1 in
    let ds3 = slice_index upper_digits (n / 2 ^ 12 % 16) ∷ ds2 in
    let ds4 = slice_index upper_digits (n / 2 ^ 16 % 16) ∷ ds3 in
    let ds5 = slice_index upper_digits (n / 2 ^ 20 % 16) ∷ ds4 in
    let ds6 = slice_index upper_digits (n / 2 ^ 24 % 16) ∷ ds5 in
    one_more 0 (n / 2 ^ 28 % 16) (n / 2 ^ 28) ds6 (omega arith) (omega arith) (omega arith)
    ∙ one_more (n / 2 ^ 28) (n / 2 ^ 24 % 16) (n / 2 ^ 24) ds5 (omega arith) (omega arith) (omega arith)
    ∙ one_more (n / 2 ^ 24) (n / 2 ^ 20 % 16) (n / 2 ^ 20) ds4 (omega arith) (omega arith) (omega arith)
    ∙ one_more (n / 2 ^ 20) (n / 2 ^ 16 % 16) (n / 2 ^ 16) ds3 (omega arith) (omega arith) (omega arith)
    ∙ one_more (n / 2 ^ 16) (n / 2 ^ 12 % 16) (n / 2 ^ 12) ds2 (omega arith) (omega arith) (omega arith)
    ∙ one_more (n / 2 ^ 12) (n / 2 ^ 8 % 16) (n / 2 ^ 8) ds1 (omega arith) (omega arith) (omega arith)
    ∙ one_more (n / 2 ^ 8) (n / 2 ^ 4 % 16) (n / 2 ^ 4) ds0 (omega arith) (omega arith) (omega arith)
    ∙ one_more (n / 2 ^ 4) (n % 16) n [] (omega arith) (omega arith) fits

-- ---- GUIDs

byte_fits : (k n : ℕ) → byte_at k n < 256
byte_fits zero n = omega arith
byte_fits (suc k) n = omega arith

high_bytes : (k n : ℕ) → AreBytes (bytes_high_first k n)
high_bytes zero n = All-nil (λ b. b < 256)
high_bytes (suc k) n = All-cons (λ b. b < 256) (byte_at k n) (bytes_high_first k n) (byte_fits k n) (high_bytes k n)

ordered_length : (g : Guid) → IsGuid g → length (reading_order_of g) ≡ 16
ordered_length g is =
    let e : length g.data4 ≡ 8 = is.eight in omega arith

guid_from_order : (g : Guid) → IsGuid g → guid_of_reading_order (reading_order_of g) ≡ g
guid_from_order g is =
    let a = from_be_bytes-to_be_bytes_4 g.data1 is.data1 in
    let b = from_be_bytes-to_be_bytes_2 g.data2 is.data2 in
    let c = from_be_bytes-to_be_bytes_2 g.data3 is.data3 in
    rw (a, b, c) refl

ordered_bytes : (g : Guid) → IsGuid g → AreBytes (reading_order_of g)
ordered_bytes g is =
    All-append (λ b. b < 256) (to_be_bytes w32 g.data1) (to_be_bytes w16 g.data2 ++ (to_be_bytes w16 g.data3 ++ g.data4)) (high_bytes 4 g.data1)
    (All-append (λ b. b < 256) (to_be_bytes w16 g.data2) (to_be_bytes w16 g.data3 ++ g.data4) (high_bytes 2 g.data2)
    (All-append (λ b. b < 256) (to_be_bytes w16 g.data3) g.data4 (high_bytes 2 g.data3) is.data4))

option_of : (o : Option (List ℕ)) (xs : List ℕ) → Some xs ≡ o → option_map guid_of_reading_order o ≡ Some (guid_of_reading_order xs)
option_of o xs h = ap (option_map guid_of_reading_order) (sym h)

-- the GUID of a text in braces
pub text_again : (g : Guid) → IsGuid g → guid_of_text (text_of g) ≡ Some g
text_again g is =
    let xs = reading_order_of g in
    let p = parses_braced upper xs (inr refl) (ordered_length g is) (ordered_bytes g is) in
    let q = parsed_at_38 (braced_text upper xs) (braced_length upper xs) in
    option_of (parsed_braced (braced_text upper xs)) xs (p ∙ q) ∙ ap Some (guid_from_order g is)

pub ascii_guid : (g : Guid) → ascii_of (text_of g) ≡ Some (text_of g)
ascii_guid g =
    let h : list_all is_ascii (text_of g) ≡ true = all_ascii (text_of g) (braced_ascii upper (reading_order_of g) (inr refl)) in
    rw h refl

pub guid_again : (g : Guid) → IsGuid g → guid_of (text_of g) ≡ Some g
unfolding guid_of
guid_again g is = ap (option_and_then guid_of_text) (ascii_guid g) ∙ text_again g is
