-- The words of operands are good words.
use Rattle.std.proofs.Common.{◌≡◌, ℕ, zero, suc, ◌-◌, ◌/◌, ◌%◌, ◌<◌, ◌≤◌, ◌^◌, List, [], ◌∷◌, ◌++◌, Option, Some, None, Bool, true, false, nat_le, nat_lt, if◌then◌else◌, refl, ◌∙◌, arith, length, slice_index, unwrap_or, decimal, pos, negsuc, ℤ}
use Rattle.std.specs.List.{list_all}
use Rattle.std.specs.Char.{is_ascii_alphabetic, is_ascii_hexdigit}
use Rattle.std.specs.Fmt.{signed_decimal}
use Rattle.std.proofs.lemmas.Bool.Decides.{nat_tests}
use Rattle.std.proofs.lemmas.List.Folds.{list_all-append}
use Rattle.hex.specs.Hex.{encode_lower, upper_digits}
use Rattle.com_base.specs.HResults.{eight_digits, name_of}
use Rattle.uuid.specs.Text.{by_index, hex_digit, upper, nibble, hyphenated_text, is_hyphen_place, digit_place}
use Rattle.uuid.proofs.TextLemmas.{nibble_small}
use Rattle.com_base.specs.declared.guid.Guid.{Guid}
use Rattle.com_base.specs.Guids.{text_of, reading_order_of}
use Rattle.com_base.specs.declared.value.Value.{Value}
use Rattle.com_base.specs.declared.value.Value.TheVariants as values
use Rattle.com_base.specs.declared.value.Mode.{Mode}
use Rattle.com_base.specs.declared.value.Mode.TheVariants as modes
use Rattle.com_base.specs.declared.value.MarshalMode.{MarshalMode}
use Rattle.com_base.specs.declared.value.MarshalMode.TheVariants as packets
use Rattle.com_body.specs.declared.operands.Asked.{Asked}
use Rattle.com_body.specs.declared.operands.Asked.TheVariants as askeds
use Rattle.com_body.specs.declared.operands.Op.{Op}
use Rattle.com_body.specs.declared.operands.Op.TheVariants as ops
use Rattle.com_body.specs.declared.operands.Place.{Place}
use Rattle.com_body.specs.declared.operands.Place.TheVariants as places
use Rattle.com_body.specs.declared.operands.Code.{Code}
use Rattle.com_body.specs.declared.operands.Code.TheVariants as answers
use Rattle.com_body.specs.declared.operands.Given.{Given}
use Rattle.com_body.specs.declared.operands.Given.TheVariants as gifts
use Rattle.com_body.specs.declared.operands.Destination.{Destination}
use Rattle.com_body.specs.declared.operands.Destination.TheVariants as destinations
use Rattle.com_body.specs.Bodies.{IsOp, IsPlace, IsCode, IsGiven, IsDestination}
use Rattle.com_read_operands.specs.Numbers.{is_digit}
use Rattle.com_read_operands.specs.Naming.{is_name, is_tail, are_tail}
use Rattle.com_print.specs.Spelled.{plain, IsSpelled, AreSpelled, IsPlainWord, is_word_byte, is_text_byte}
use Rattle.com_print.specs.Words.{register_word, slot_word, cell_word, buffer_word, place_word, value_word, op_word, hresult_bytes, code_word, given_words, destination_words, mode_word, marshal_mode_word, name_at, asked_word}
use Rattle.com_print.specs.Ranges.{IsLiteral, TakesOp, TakesGiven, FitsValue, FitsOp, FitsGiven, AreBytes, IsWhole, AreNames, IsNamed}
use Rattle.com_print.proofs.Decimals.{decimal_digits}
use Rattle.com_print.proofs.Hexes.{all_below, both, tried, all_hex, all_true, long_hex}
use Rattle.com_print.proofs.Names.{is_name_at, name_parts, tail_parts}
use Rattle.com_print.proofs.Named.{name_said}

-- a test that a weaker one follows from
pub all_weaker : (p q : ℕ → Bool) → ((b : ℕ) → p b ≡ true → q b ≡ true) → (xs : List ℕ) → list_all p xs ≡ true → list_all q xs ≡ true
all_weaker p q f [] h = refl
all_weaker p q f (x ∷ xs) h =
    let t = both (p x) (list_all p xs) h in
    rw (f x t.0, all_weaker p q f xs t.1) refl

digit_word : (b : ℕ) → is_digit b ≡ true → is_word_byte b ≡ true
digit_word b h = grind (arith, nat_tests)

hex_word : (b : ℕ) → is_ascii_hexdigit b ≡ true → is_word_byte b ≡ true
hex_word b h = grind (arith, nat_tests)

tail_word : (b : ℕ) → is_tail b ≡ true → is_word_byte b ≡ true
tail_word b h = grind (arith, nat_tests)

letter_word : (b : ℕ) → is_ascii_alphabetic b ≡ true → is_word_byte b ≡ true
letter_word b h = grind (arith, nat_tests)

-- ---- numbers

pub decimal_word : (n : ℕ) → n < 2 ^ 64 → list_all is_word_byte (decimal n) ≡ true
decimal_word n lt = all_weaker is_digit is_word_byte digit_word (decimal n) (decimal_digits n lt).all

pub long_decimal : (n : ℕ) → n < 2 ^ 64 → 1 ≤ length (decimal n)
long_decimal n lt = let d = decimal_digits n lt in rw d.is (omega arith)

pub decimal_spelled : (n : ℕ) → n < 2 ^ 64 → IsSpelled (plain (decimal n))
decimal_spelled n lt = (long_decimal n lt, decimal_word n lt)

behind_letter : (letter n : ℕ) → is_word_byte letter ≡ true → n < 2 ^ 64 → IsSpelled (plain (letter ∷ decimal n))
behind_letter letter n is lt = (omega arith, rw (is, decimal_word n lt) refl)

pub register_spelled : (n : ℕ) → n < 16 → IsSpelled (register_word n)
register_spelled n lt = behind_letter 114 n refl (omega arith)

pub slot_spelled : (n : ℕ) → n < 8 → IsSpelled (slot_word n)
slot_spelled n lt = behind_letter 115 n refl (omega arith)

pub cell_spelled : (n : ℕ) → n < 8 → IsSpelled (cell_word n)
cell_spelled n lt = behind_letter 99 n refl (omega arith)

pub buffer_spelled : (n : ℕ) → n < 64 → IsSpelled (buffer_word n)
buffer_spelled n lt = behind_letter 112 n refl (omega arith)

pub place_spelled : (p : Place) → IsPlace p → IsSpelled (place_word p)
place_spelled (places.Slot n) lt = slot_spelled n lt
place_spelled (places.Link n) lt = behind_letter 107 n refl (omega arith)

number_spelled : (z : ℤ) → IsWhole z → IsSpelled (plain (signed_decimal z))
number_spelled (pos n) lt = decimal_spelled n (omega arith)
number_spelled (negsuc n) lt = behind_letter 45 (suc n) refl (omega arith)

-- ---- GUIDs

indexed_all : (p : ℕ → Bool) (n : ℕ) (f : ℕ → ℕ) → ((k : ℕ) → p (f k) ≡ true) → list_all p (by_index n f) ≡ true
unfolding by_index
indexed_all p zero f h = refl
indexed_all p (suc n) f h =
    list_all-append p (by_index n f) (f n ∷ []) ∙ rw (indexed_all p n f h, h n) refl

hex_digit_word : (d : ℕ) → d < 16 → is_word_byte (hex_digit upper d) ≡ true
unfolding all_below
hex_digit_word d lt = tried 16 (λ k. is_word_byte (hex_digit upper k)) d lt refl

if_word : (b : Bool) (x y : ℕ) → is_word_byte x ≡ true → is_word_byte y ≡ true → is_word_byte (if b then x else y) ≡ true
if_word true x y p q = p
if_word false x y p q = q

hyphenated_word : (xs : List ℕ) → list_all is_word_byte (hyphenated_text upper xs) ≡ true
hyphenated_word xs =
    indexed_all is_word_byte 36 (λ k. if is_hyphen_place k then 45 else hex_digit upper (nibble xs (digit_place k)))
    (λ k. if_word (is_hyphen_place k) 45 (hex_digit upper (nibble xs (digit_place k))) refl (hex_digit_word (nibble xs (digit_place k)) (nibble_small xs (digit_place k))))

pub guid_spelled : (g : Guid) → IsSpelled (plain (text_of g))
guid_spelled g =
    let xs = reading_order_of g in
    let whole : list_all is_word_byte (hyphenated_text upper xs ++ 125 ∷ []) ≡ true = list_all-append is_word_byte (hyphenated_text upper xs) (125 ∷ []) ∙ rw (hyphenated_word xs) refl in
    (omega arith, whole)

-- ---- literals

value_spelled : (v : Value) → IsLiteral v → FitsValue v → IsSpelled (value_word v)
value_spelled (values.Int n) is fits = number_spelled n fits
value_spelled (values.Bool true) is fits = (omega arith, refl)
value_spelled (values.Bool false) is fits = (omega arith, refl)
value_spelled (values.Text t) is fits = (t, refl, all_true is_text_byte t is.0)
value_spelled (values.Bytes b) is fits = let len = long_hex b in (encode_lower b, refl, all_hex b fits, omega arith)
value_spelled (values.Guid g) is fits = guid_spelled g
value_spelled (values.Ref r) is fits = absurd is

pub op_spelled : (o : Op) → IsOp o → TakesOp o → FitsOp o → IsSpelled (op_word o)
op_spelled (ops.Register n) lt takes fits = register_spelled n lt
op_spelled (ops.Literal v) lt takes fits = value_spelled v takes fits

pub raw_spelled : (bytes : List ℕ) → AreBytes bytes → 1 ≤ length bytes → IsSpelled (plain (encode_lower bytes))
raw_spelled bytes are long =
    let len = long_hex bytes in
    (omega arith, all_weaker is_ascii_hexdigit is_word_byte hex_word (encode_lower bytes) (all_hex bytes are))

upper_word : (d : ℕ) → d < 16 → is_word_byte (slice_index upper_digits d) ≡ true
unfolding all_below
upper_word d lt = tried 16 (λ k. is_word_byte (slice_index upper_digits k)) d lt refl

sixteenth : (n : ℕ) → is_word_byte (slice_index upper_digits (n % 16)) ≡ true
sixteenth n = upper_word (n % 16) (omega arith)

eight_words : (n : ℕ) → list_all is_word_byte (eight_digits n) ≡ true
eight_words n =
    rw (sixteenth (n / 2 ^ 28), sixteenth (n / 2 ^ 24), sixteenth (n / 2 ^ 20), sixteenth (n / 2 ^ 16), sixteenth (n / 2 ^ 12), sixteenth (n / 2 ^ 8), sixteenth (n / 2 ^ 4), sixteenth n) refl

by_name : (n : ℕ) (name : Option (List ℕ)) → name_of n ≡ name → IsPlainWord (unwrap_or name (48 ∷ 120 ∷ eight_digits n))
by_name n None e = (omega arith, eight_words n)
by_name n (Some bs) e =
    let s = name_said n bs e in
    (s.long, s.word)

hresult_spelled : (n : ℕ) → IsPlainWord (hresult_bytes n)
unfolding hresult_bytes
hresult_spelled n = by_name n (name_of n) refl

pub code_spelled : (c : Code) → IsCode c → IsSpelled (code_word c)
code_spelled (answers.Literal answer) lt = hresult_spelled answer.0
code_spelled (answers.Register n) lt = register_spelled n lt

pub given_spelled : (g : Given) → IsGiven g → TakesGiven g → FitsGiven g → AreSpelled (given_words g)
given_spelled gifts.Nothing lt takes fits = tt
given_spelled (gifts.Op o) lt takes fits = (op_spelled o lt takes fits, tt)
given_spelled (gifts.Slot n) lt takes fits = (slot_spelled n lt, tt)

pub destination_spelled : (d : Destination) → IsDestination d → AreSpelled (destination_words d)
destination_spelled destinations.Nowhere lt = tt
destination_spelled (destinations.Register n) lt = ((omega arith, refl), (register_spelled n lt, tt))
destination_spelled (destinations.Slot n) lt = ((omega arith, refl), (slot_spelled n lt, tt))

pub mode_spelled : (m : Mode) → IsSpelled (mode_word m)
mode_spelled modes.Sta = (omega arith, refl)
mode_spelled modes.Mta = (omega arith, refl)

pub marshal_mode_spelled : (m : MarshalMode) → IsSpelled (marshal_mode_word m)
marshal_mode_spelled packets.Normal = (omega arith, refl)
marshal_mode_spelled packets.Strong = (omega arith, refl)
marshal_mode_spelled packets.Weak = (omega arith, refl)

-- ---- names

tail_words : (bs : List ℕ) → are_tail bs ≡ true → list_all is_word_byte bs ≡ true
tail_words [] h = refl
tail_words (b ∷ bs) h =
    let t = tail_parts (is_tail b) (are_tail bs) h in
    rw (tail_word b t.0, tail_words bs t.1) refl

pub name_bytes : (bs : List ℕ) → is_name bs ≡ true → IsPlainWord bs
name_bytes [] h = absurd cc
name_bytes (b ∷ bs) h =
    let t = name_parts (is_ascii_alphabetic b) (nat_lt (length bs) 32) (are_tail bs) h in
    (omega arith, rw (letter_word b t.0, tail_words bs t.1) refl)

pub name_spelled : (names : List (List ℕ)) (k : ℕ) → AreNames names → k < length names → IsSpelled (plain (name_at names k))
name_spelled names k are lt = name_bytes (name_at names k) (is_name_at names k are lt)

pub asked_spelled : (names : List (List ℕ)) (low : ℕ) (a : Asked) → AreNames names → IsNamed names low a → IsSpelled (asked_word names low a)
asked_spelled names low (askeds.Number n) are is =
    let a = is.0 in
    let b = is.1 in
    name_spelled names (n - low) are (omega arith)
asked_spelled names low (askeds.Guid g) are is = guid_spelled g
