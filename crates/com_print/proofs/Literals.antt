-- The words of literals are read as their values.
use Rattle.std.proofs.Common.{◌≡◌, ℕ, suc, ◌+◌, ◌-◌, ◌^◌, ◌<◌, ◌≤◌, ◌==◌, List, [], ◌∷◌, ◌++◌, Option, Some, None, Bool, true, false, ◌&&◌, nat_lt, if◌then◌else◌, refl, sym, ap, ◌∙◌, arith, length, length-append, take, slice_range, codes, decimal, option_and_then, unwrap_or, Result, Ok, Err, bytes_eq, ℤ, pos, negsuc}
use Rattle.std.specs.List.{list_all}
use Rattle.std.specs.Char.{is_ascii}
use Rattle.std.specs.Fmt.{signed_decimal}
use Rattle.std.proofs.lemmas.Bool.Decides.{nat_tests}
use Rattle.std.proofs.lemmas.List.{take_at}
use Rattle.hex.specs.Hex.{encode_lower}
use Rattle.com_base.specs.declared.guid.Guid.{Guid}
use Rattle.com_base.specs.declared.value.Value.{Value}
use Rattle.com_base.specs.declared.value.Value.TheVariants as values
use Rattle.com_base.specs.Guids.{text_of}
use Rattle.com_base.specs.HResults.{eight_digits, name_of, hresult_named}
use Rattle.com_base.proofs.Names.{names_inverse}
use Rattle.com_body.specs.declared.operands.Op.{Op}
use Rattle.com_body.specs.declared.operands.Op.TheVariants as ops
use Rattle.com_body.specs.declared.operands.Code.{Code}
use Rattle.com_body.specs.declared.operands.Code.TheVariants as answers
use Rattle.com_body.specs.declared.operands.Given.{Given}
use Rattle.com_body.specs.declared.operands.Given.TheVariants as gifts
use Rattle.com_body.specs.Bodies.{IsOp, IsCode, IsGiven}
use Rattle.com_text.specs.declared.word.Sort.TheVariants as sorts
use Rattle.com_text.specs.Words.{WordAt}
use Rattle.com_read_operands.specs.declared.faults.Fault.{Fault}
use Rattle.com_read_operands.specs.declared.operands.Operand.{Operand}
use Rattle.com_read_operands.specs.declared.operands.Operand.TheVariants as operands
use Rattle.com_read_operands.specs.Numbers.{is_digit}
use Rattle.com_read_operands.specs.Literals.{guid_of, are_pairs, unhexed}
use Rattle.com_read_operands.specs.Reading.{◌>>=◌, word_at, fault_at}
use Rattle.com_read_operands.specs.Operands.{plain_of, begins_number, numeric_of, numbered, braced, inner, operand_by, operand_of, text_literal, bytes_literal, as_bytes, written, literal_of, op_at, hex_word_of, or_named, hresult_of, begins_hex, as_code, as_code_register, code_at, as_given, given_at}
use Rattle.com_print.specs.Spelled.{Spelled}
use Rattle.com_print.specs.Words.{register_word, slot_word, value_word, op_word, hresult_bytes, code_word}
use Rattle.com_print.specs.Ranges.{IsLiteral, TakesOp, TakesGiven, FitsValue, FitsOp, FitsCode, FitsGiven, AreBytes, IsWhole, IsGuid}
use Rattle.com_print.proofs.Decimals.{decimal_digits, signed_again}
use Rattle.com_print.proofs.Hexes.{eight_again, guid_again, pairs_again, unhexed_again, long_hex}
use Rattle.com_print.proofs.Named.{name_said}
use Rattle.com_print.proofs.Places.{at, StandsAt, stands, word_again, operand_again, read_by, present, missing, IsGood, register_operand, slot_operand}

-- ---- numbers in digits

no_word : (b c : ℕ) (bs cs : List ℕ) → (b == c) ≡ false → bytes_eq (b ∷ bs) (c ∷ cs) ≡ false
no_word b c bs cs h = rw h refl

other_byte : (b c : ℕ) → is_digit b ≡ true → 58 ≤ c → (b == c) ≡ false
other_byte b c h ge = grind (arith, nat_tests)

digit_begins : (b : ℕ) (bs : List ℕ) → is_digit b ≡ true → begins_number b bs ≡ true
digit_begins b [] h = h
digit_begins b (c ∷ bs) h = rw h refl

digits_plain : (b : ℕ) (bs : List ℕ) → is_digit b ≡ true → plain_of (b ∷ bs) ≡ numeric_of (b ∷ bs)
unfolding plain_of
digits_plain b bs h =
    let t = no_word b 116 bs (codes "rue") (other_byte b 116 h (omega arith)) in
    let f = no_word b 102 bs (codes "alse") (other_byte b 102 h (omega arith)) in
    let n = no_word b 110 bs (codes "ull") (other_byte b 110 h (omega arith)) in
    let brace = other_byte b 123 h (omega arith) in
    rw (t, f, n, brace, digit_begins b bs h) refl

sign_plain : (b : ℕ) (bs : List ℕ) → is_digit b ≡ true → plain_of (45 ∷ b ∷ bs) ≡ numeric_of (45 ∷ b ∷ bs)
unfolding plain_of
sign_plain b bs h = rw h refl

signed_plain : (z : ℤ) → IsWhole z → plain_of (signed_decimal z) ≡ numeric_of (signed_decimal z)
signed_plain (pos n) lt =
    let d = decimal_digits n (omega arith) in
    ap plain_of d.is ∙ digits_plain d.first d.rest d.digit ∙ ap numeric_of (sym d.is)
signed_plain (negsuc n) lt =
    let d = decimal_digits (suc n) (omega arith) in
    ap (λ (l : List ℕ). plain_of (45 ∷ l)) d.is ∙ sign_plain d.first d.rest d.digit ∙ ap (λ (l : List ℕ). numeric_of (45 ∷ l)) (sym d.is)

number_operand : (z : ℤ) → IsWhole z → plain_of (signed_decimal z) ≡ operands.Number z
unfolding numeric_of
number_operand z whole = signed_plain z whole ∙ ap numbered (signed_again z whole)

-- ---- GUIDs

guid_plain : (bs : List ℕ) → plain_of (123 ∷ bs) ≡ braced (guid_of (123 ∷ bs))
unfolding plain_of
guid_plain bs = refl

guid_operand : (g : Guid) → IsGuid g → plain_of (text_of g) ≡ operands.Guid g
guid_operand g is = guid_plain _ ∙ ap braced (guid_again g is)

-- ---- literals in quotation marks

inside : (front text : List ℕ) → take (length text) (text ++ 34 ∷ []) ≡ text
inside front text = take_at text (34 ∷ []) (length text) refl

text_value : (w : WordAt) (text : List ℕ) → w.bytes ≡ 34 ∷ (text ++ 34 ∷ []) → length text ≤ 256 → text_literal w ≡ Ok (values.Text text)
unfolding text_literal
text_value w text is few =
    let len : length (34 ∷ (text ++ 34 ∷ [])) ≡ length text + 2 = omega (arith, length-append text (34 ∷ [])) in
    let a : nat_lt (length text + 2) 2 ≡ false = grind (arith, nat_tests) in
    let b : nat_lt 258 (length text + 2) ≡ false = grind (arith, nat_tests) in
    let e : length text + 2 - 1 - 1 ≡ length text = omega arith in
    let whole : slice_range (34 ∷ (text ++ 34 ∷ [])) 1 (length text + 2 - 1) ≡ text = ap (λ (k : ℕ). take k (text ++ 34 ∷ [])) e ∙ inside [] text in
    rw (is, len, a, b) (ap (λ (t : List ℕ). Ok (values.Text t)) whole)

marked_inner : (digits : List ℕ) → inner (120 ∷ 34 ∷ (digits ++ 34 ∷ [])) ≡ digits
marked_inner digits =
    let len : length (120 ∷ 34 ∷ (digits ++ 34 ∷ [])) ≡ length digits + 3 = omega (arith, length-append digits (34 ∷ [])) in
    let a : nat_lt (length digits + 3) 3 ≡ false = grind (arith, nat_tests) in
    let e : length digits + 3 - 1 - 2 ≡ length digits = omega arith in
    rw (len, a) (ap (λ (k : ℕ). take k (digits ++ 34 ∷ [])) e ∙ inside [] digits)

bytes_value : (w : WordAt) (bytes : List ℕ) → w.bytes ≡ 120 ∷ 34 ∷ (encode_lower bytes ++ 34 ∷ []) → AreBytes bytes → length bytes ≤ 256
    → bytes_literal w ≡ Ok (values.Bytes bytes)
unfolding bytes_literal
bytes_value w bytes is are few =
    let i : inner w.bytes ≡ encode_lower bytes = ap inner is ∙ marked_inner (encode_lower bytes) in
    let len = long_hex bytes in
    let a : nat_lt 512 (length (encode_lower bytes)) ≡ false = grind (arith, nat_tests) in
    ap (λ (ds : List ℕ). if nat_lt 512 (length ds) then Err (fault_at 12 w) else as_bytes w (unhexed ds)) i
    ∙ ap (λ (t : Bool). if t then Err (fault_at 12 w) else as_bytes w (unhexed (encode_lower bytes))) a
    ∙ ap (as_bytes w) (unhexed_again bytes are)

bytes_operand : (bytes : List ℕ) → AreBytes bytes → operand_by (120 ∷ 34 ∷ (encode_lower bytes ++ 34 ∷ [])) sorts.Bytes ≡ operands.Bytes
bytes_operand bytes are =
    let p : are_pairs (inner (120 ∷ 34 ∷ (encode_lower bytes ++ 34 ∷ []))) ≡ true = ap are_pairs (marked_inner (encode_lower bytes)) ∙ pairs_again bytes are in
    ap (λ (t : Bool). if t then operands.Bytes else operands.Wrong 3) p

-- ---- values

-- the operand that a value's word says
abbrev pub operand_from : Value → Operand
operand_from (values.Int n) = operands.Number n
operand_from (values.Bool b) = operands.Bool b
operand_from (values.Text t) = operands.Text
operand_from (values.Bytes b) = operands.Bytes
operand_from (values.Guid g) = operands.Guid g
operand_from (values.Ref r) = operands.Null

value_good : (v : Value) → IsGood (value_word v).sort
value_good (values.Int n) = tt
value_good (values.Bool true) = tt
value_good (values.Bool false) = tt
value_good (values.Text t) = tt
value_good (values.Bytes b) = tt
value_good (values.Guid g) = tt
value_good (values.Ref r) = tt

value_operand : (v : Value) → IsLiteral v → FitsValue v → operand_by (value_word v).bytes (value_word v).sort ≡ operand_from v
unfolding plain_of
value_operand (values.Int n) is fits = number_operand n fits
value_operand (values.Bool true) is fits = refl
value_operand (values.Bool false) is fits = refl
value_operand (values.Text t) is fits = refl
value_operand (values.Bytes b) is fits = bytes_operand b fits
value_operand (values.Guid g) is fits = guid_operand g fits
value_operand (values.Ref r) is fits = absurd is

value_read : (w : WordAt) (v : Value) → IsLiteral v → FitsValue v → w.bytes ≡ (value_word v).bytes → literal_of w (operand_from v) ≡ Ok (ops.Literal v)
unfolding literal_of
value_read w (values.Int n) is fits e = refl
value_read w (values.Bool b) is fits e = refl
value_read w (values.Text t) is fits e = ap written (text_value w t e is.1)
value_read w (values.Bytes b) is fits e = ap written (bytes_value w b e fits is)
value_read w (values.Guid g) is fits e = refl
value_read w (values.Ref r) is fits e = absurd is

-- the operand that a word of a register or a literal says
abbrev pub operand_at : Op → Operand
operand_at (ops.Register n) = operands.Register n
operand_at (ops.Literal v) = operand_from v

pub op_good : (o : Op) → IsGood (op_word o).sort
op_good (ops.Register n) = tt
op_good (ops.Literal v) = value_good v

pub op_operand : (o : Op) → IsOp o → TakesOp o → FitsOp o → operand_by (op_word o).bytes (op_word o).sort ≡ operand_at o
op_operand (ops.Register n) lt takes fits = register_operand n lt
op_operand (ops.Literal v) lt takes fits = value_operand v takes fits

pub op_read : (w : WordAt) (o : Op) → TakesOp o → FitsOp o → w.bytes ≡ (op_word o).bytes → literal_of w (operand_at o) ≡ Ok o
unfolding literal_of
op_read w (ops.Register n) takes fits e = refl
op_read w (ops.Literal v) takes fits e = value_read w v takes fits e

pub op_again : (line : List WordAt) (k : ℕ) (o : Op) → at line k ≡ Some (op_word o) → IsOp o → TakesOp o → FitsOp o → op_at line k ≡ Ok o
unfolding op_at
op_again line k o h lt takes fits =
    let s = stands line k (op_word o) h in
    read_by literal_of line k (op_word o) (operand_at o) s (op_good o) (op_operand o lt takes fits) ∙ op_read s.word o takes fits s.bytes

-- ---- what a body gives when it leaves

given_by : (w : WordAt) (o : Op) → TakesOp o → FitsOp o → w.bytes ≡ (op_word o).bytes → as_given w (operand_at o) ≡ Ok (gifts.Op o)
unfolding literal_of
given_by w (ops.Register n) takes fits e = refl
given_by w (ops.Literal (values.Int n)) takes fits e = refl
given_by w (ops.Literal (values.Bool b)) takes fits e = refl
given_by w (ops.Literal (values.Text t)) takes fits e = ap (λ (r : Result Op Fault). r >>= λ op. Ok (gifts.Op op)) (op_read w (ops.Literal (values.Text t)) takes fits e)
given_by w (ops.Literal (values.Bytes b)) takes fits e = ap (λ (r : Result Op Fault). r >>= λ op. Ok (gifts.Op op)) (op_read w (ops.Literal (values.Bytes b)) takes fits e)
given_by w (ops.Literal (values.Guid g)) takes fits e = refl
given_by w (ops.Literal (values.Ref r)) takes fits e = absurd takes

-- a result that is given, where the line ends behind it
abbrev pub GivenAt : List WordAt → ℕ → Given → Type 0
GivenAt line k gifts.Nothing = at line k ≡ None
GivenAt line k (gifts.Op o) = at line k ≡ Some (op_word o)
GivenAt line k (gifts.Slot n) = at line k ≡ Some (slot_word n)

if_there : (line : List WordAt) (k : ℕ) (s : Spelled) (h : StandsAt line k s) → IsGood s.sort
    → given_at line k ≡ (word_at line k >>= λ w. as_given w (operand_of w))
unfolding given_at
if_there line k s h g =
    ap (λ (r : Result Bool Fault). r >>= λ there. if there then (word_at line k >>= λ w. as_given w (operand_of w)) else Ok gifts.Nothing) (present line k s h g)

pub given_again : (line : List WordAt) (k : ℕ) (g : Given) → GivenAt line k g → IsGiven g → TakesGiven g → FitsGiven g → given_at line k ≡ Ok g
unfolding given_at
given_again line k gifts.Nothing h lt takes fits =
    ap (λ (r : Result Bool Fault). r >>= λ there. if there then (word_at line k >>= λ w. as_given w (operand_of w)) else Ok gifts.Nothing) (missing line k h)
given_again line k (gifts.Op o) h lt takes fits =
    let s = stands line k (op_word o) h in
    if_there line k (op_word o) s (op_good o)
    ∙ read_by as_given line k (op_word o) (operand_at o) s (op_good o) (op_operand o lt takes fits)
    ∙ given_by s.word o takes fits s.bytes
given_again line k (gifts.Slot n) h lt takes fits =
    let s = stands line k (slot_word n) h in
    if_there line k (slot_word n) s tt
    ∙ read_by as_given line k (slot_word n) (operands.Slot n) s tt (slot_operand n lt)

-- ---- the HRESULT of a body's end

no_hex : (bs : List ℕ) → hex_word_of (114 ∷ bs) ≡ None
unfolding hex_word_of
no_hex [] = refl
no_hex (b ∷ bs) = refl

no_hex_begins : (bs : List ℕ) → begins_hex (114 ∷ bs) ≡ false
no_hex_begins [] = refl
no_hex_begins (b ∷ bs) = refl

no_name : (bs : List ℕ) (b : Bool) → option_and_then hresult_named (if b then Some (114 ∷ bs) else None) ≡ None
no_name bs true = refl
no_name bs false = refl

register_code : (bs : List ℕ) → hresult_of (114 ∷ bs) ≡ None
unfolding hresult_of
register_code bs = ap (or_named (114 ∷ bs)) (no_hex bs) ∙ no_name bs (list_all is_ascii (114 ∷ bs))

digits_code : (n : ℕ) → n < 2 ^ 32 → hresult_of (48 ∷ 120 ∷ eight_digits n) ≡ Some (record { 0 = n })
unfolding hresult_of
digits_code n fits = ap (or_named (48 ∷ 120 ∷ eight_digits n)) (eight_again n fits)

-- a word that does not begin with `0x` has no digits
no_digits : (bs : List ℕ) → begins_hex bs ≡ false → hex_word_of bs ≡ None
unfolding hex_word_of
no_digits [] h = refl
no_digits (a ∷ []) h = refl
no_digits (a ∷ b ∷ bs) h = rw h refl

-- a name of the table is read as what it names
name_code : (n : ℕ) (bs : List ℕ) → name_of n ≡ Some bs → hresult_of bs ≡ Some (record { 0 = n })
unfolding hresult_of
name_code n bs e =
    let s = name_said n bs e in
    ap (or_named bs) (no_digits bs s.no_number)
    ∙ ap (λ (b : Bool). option_and_then hresult_named (if b then Some bs else None)) s.ascii
    ∙ (names_inverse (record { 0 = n }) bs).0 e

by_name : (n : ℕ) → n < 2 ^ 32 → (name : Option (List ℕ)) → name_of n ≡ name
    → hresult_of (unwrap_or name (48 ∷ 120 ∷ eight_digits n)) ≡ Some (record { 0 = n })
by_name n fits None e = digits_code n fits
by_name n fits (Some bs) e = name_code n bs e

hresult_code : (n : ℕ) → n < 2 ^ 32 → hresult_of (hresult_bytes n) ≡ Some (record { 0 = n })
unfolding hresult_bytes
hresult_code n fits = by_name n fits (name_of n) refl

pub code_again : (line : List WordAt) (k : ℕ) (c : Code) → at line k ≡ Some (code_word c) → IsCode c → FitsCode c → code_at line k ≡ Ok c
unfolding code_at
code_again line k (answers.Literal answer) h lt fits =
    let s = stands line k (code_word (answers.Literal answer)) h in
    ap (λ (r : Result WordAt Fault). r >>= λ w. as_code w (hresult_of w.bytes)) (word_again line k _ s tt)
    ∙ ap (λ (bs : List ℕ). as_code s.word (hresult_of bs)) s.bytes
    ∙ ap (as_code s.word) (hresult_code answer.0 fits)
code_again line k (answers.Register n) h lt fits =
    let s = stands line k (register_word n) h in
    ap (λ (r : Result WordAt Fault). r >>= λ w. as_code w (hresult_of w.bytes)) (word_again line k _ s tt)
    ∙ ap (λ (bs : List ℕ). as_code s.word (hresult_of bs)) s.bytes
    ∙ ap (as_code s.word) (register_code (decimal n))
    ∙ ap (λ (bs : List ℕ). if begins_hex bs then Err (fault_at 3 s.word) else as_code_register s.word (operand_of s.word)) s.bytes
    ∙ ap (λ (b : Bool). if b then Err (fault_at 3 s.word) else as_code_register s.word (operand_of s.word)) (no_hex_begins (decimal n))
    ∙ ap (as_code_register s.word) (operand_again line k (register_word n) s ∙ register_operand n lt)
