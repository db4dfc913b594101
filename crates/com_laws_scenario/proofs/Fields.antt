-- What is read at one word.
use Rattle.std.proofs.Common.{◌≡◌, ℕ, zero, suc, ◌+◌, ◌-◌, ◌*◌, ◌≤◌, ◌<◌, Bool, true, false, ◌==◌, ◌&&◌, ◌||◌, nat_le, nat_lt, List, [], ◌∷◌, ◌++◌, length, take, Option, Some, None, Result, Ok, Err, All, refl, sym, ap, subst, ◌∙◌, arith, length-append, if◌then◌else◌, option_map, ℤ}
use Rattle.std.specs.Prelude.{slice_get, slice_range, bytes_eq, codes}
use Rattle.std.proofs.Math.Seq.{take-append_seam}
use Rattle.std.proofs.lemmas.List.Elements.{All-head, All-tail}
use Rattle.std.proofs.lemmas.Bool.{cond_both, and_parts, or_parts, leb-true, ltb-true, ltb-false}
use Rattle.hex.specs.Hex.{decode_of}
use Rattle.hex.specs.declared.error.FromHexError.{FromHexError}
use Rattle.hex.proofs.HexLemmas.{decode_of-ok}
use Rattle.com_base.specs.declared.guid.Guid.{Guid}
use Rattle.com_base.specs.declared.hresult.HResult.{HResult}
use Rattle.com_base.specs.declared.value.Value.{Value}
use Rattle.com_base.specs.declared.value.Value.TheVariants as values
use Rattle.com_body.specs.declared.operands.Asked.{Asked}
use Rattle.com_body.specs.declared.operands.Asked.TheVariants as askeds
use Rattle.com_body.specs.declared.operands.Op.{Op}
use Rattle.com_body.specs.declared.operands.Op.TheVariants as ops
use Rattle.com_body.specs.declared.operands.Place.{Place}
use Rattle.com_body.specs.declared.operands.Place.TheVariants as places
use Rattle.com_body.specs.declared.operands.Code.TheVariants as answers
use Rattle.com_body.specs.declared.operands.Given.{Given}
use Rattle.com_body.specs.declared.operands.Given.TheVariants as gifts
use Rattle.com_body.specs.Bodies.{IsOp, IsPlace, IsCode, IsGiven}
use Rattle.com_text.specs.declared.word.Sort.{Sort}
use Rattle.com_text.specs.declared.word.Sort.TheVariants as sorts
use Rattle.com_text.specs.Words.{WordAt}
use Rattle.com_read_operands.specs.declared.faults.Fault.{Fault}
use Rattle.com_read_operands.specs.declared.operands.Operand.{Operand}
use Rattle.com_read_operands.specs.declared.operands.Operand.TheVariants as operands
use Rattle.com_read_operands.specs.Numbers.{number_of, signed_of}
use Rattle.com_read_operands.specs.Reading.{◌>>=◌, judged, needed, word_at, stands_at, first_at, opened, opening, within, number_at}
use Rattle.com_read_operands.specs.Literals.{guid_of, are_pairs, decoded, unhexed}
use Rattle.com_read_operands.specs.Naming.{is_name, position_of, of_16_bits, number_of_name, name_at, known, declared_at, opens_brace, as_asked, asked_at}
use Rattle.com_read_operands.specs.Operands.{small_of, lettered_by, lettered, numbered, numeric_of, braced, begins_number, by_first, plain_of, inner, operand_by, operand_of, as_register, register_at, as_slot, slot_at, as_cell, cell_at, as_buffer, buffer_at, as_place, place_at, text_literal, as_bytes, bytes_literal, written, literal_of, op_at, as_code_register, begins_hex, as_code, code_at, hresult_of, as_given, given_at}
use Rattle.com_model.specs.Formed.{IsLiteral, IsOperand, IsGivenValue}
use Rattle.com_laws_scenario.specs.Words.{IsQuoted, IsLiteral as IsLiteralWord, IsWord}
use Rattle.com_laws_scenario.specs.Holds.{Holds}
use Rattle.com_laws_scenario.proofs.Holds.{done, fails, anything, bind, either}

-- ---- words

word_there : (line : List WordAt) (k : ℕ) (w : WordAt) → All IsWord line → slice_get line k ≡ Some w → IsWord w
word_there [] k w h e = absurd cc
word_there (v ∷ vs) zero w h e = let f : v ≡ w = cc in subst IsWord f (All-head IsWord v vs h)
word_there (v ∷ vs) (suc k) w h e = word_there vs k w (All-tail IsWord v vs h) e

judged_word : (line : List WordAt) (k : ℕ) (w : WordAt) (sort : Sort) → IsWord w → Holds IsWord (judged line k w sort)
judged_word line k w sorts.Plain h = done w h
judged_word line k w sorts.Text h = done w h
judged_word line k w sorts.Bytes h = done w h
judged_word line k w sorts.Unclosed h = fails _
judged_word line k w (sorts.Stray c) h = fails _
judged_word line k w (sorts.Remark c) h = fails _

needed_word : (line : List WordAt) (k : ℕ) (o : Option WordAt) → ((w : WordAt) → o ≡ Some w → IsWord w) → Holds IsWord (needed line k o)
needed_word line k None h = fails _
needed_word line k (Some w) h = judged_word line k w w.sort (h w refl)

pub word_formed : (line : List WordAt) (k : ℕ) → All IsWord line → Holds IsWord (word_at line k)
unfolding word_at
word_formed line k h = needed_word line k (slice_get line k) (λ w e. word_there line k w h e)

opening_word : (w : WordAt) (sort : Sort) → IsWord w → Holds IsWord (opening w sort)
opening_word w sorts.Plain h = done w h
opening_word w sorts.Text h = done w h
opening_word w sorts.Bytes h = done w h
opening_word w sorts.Unclosed h = fails _
opening_word w (sorts.Stray c) h = fails _
opening_word w (sorts.Remark c) h = fails _

opened_word : (line : List WordAt) (o : Option WordAt) → ((w : WordAt) → o ≡ Some w → IsWord w) → Holds IsWord (opened line o)
opened_word line None h = fails _
opened_word line (Some w) h = opening_word w w.sort (h w refl)

pub first_formed : (line : List WordAt) → All IsWord line → Holds IsWord (first_at line)
unfolding first_at
first_formed line h = opened_word line (slice_get line 0) (λ w e. word_there line 0 w h e)

-- ---- numbers

abbrev pub IsWithin : ℕ → ℕ → ℕ → Type 0
IsWithin low high n = (low ≤ n) × (n ≤ high)

within_holds : (low high : ℕ) (w : WordAt) (o : Option ℕ) → Holds (IsWithin low high) (within low high w o)
within_holds low high w None = fails _
within_holds low high w (Some n) = either (nat_le low n && nat_le n high) (Ok n) _
    (λ e. let p = and_parts (nat_le low n) (nat_le n high) e in done n (leb-true low n p.0, leb-true n high p.1))
    (λ _. fails _)

pub number_formed : (low high : ℕ) (line : List WordAt) (k : ℕ) → Holds (IsWithin low high) (number_at low high line k)
unfolding number_at
number_formed low high line k = bind (word_at line k) _ (anything (word_at line k)) (λ w _. within_holds low high w (number_of w.bytes))

-- ---- names

position_below : (names : List (List ℕ)) (name : List ℕ) (n : ℕ) → position_of names name ≡ Some n → n < length names
position_below [] name n e = absurd cc
position_below (m ∷ ms) name n e = by (bytes_eq m name) refl (λ k is. position_below ms name k is)
  where
    more : (o : Option ℕ) → ((k : ℕ) → o ≡ Some k → k < length ms) → option_map (λ (k : ℕ). k + 1) o ≡ Some n → n < length (m ∷ ms)
    more None lower f = absurd cc
    more (Some k) lower f = let g : k + 1 ≡ n = cc in let h = lower k refl in omega arith

    by : (b : Bool) → bytes_eq m name ≡ b → ((k : ℕ) → position_of ms name ≡ Some k → k < length ms) → n < length (m ∷ ms)
    by true t lower = let f : Some 0 ≡ Some n = sym (ap (λ (b : Bool). if b then Some 0 else option_map (λ (k : ℕ). k + 1) (position_of ms name)) t) ∙ e in let g : 0 ≡ n = cc in omega arith
    by false t lower = more (position_of ms name) lower (sym (ap (λ (b : Bool). if b then Some 0 else option_map (λ (k : ℕ). k + 1) (position_of ms name)) t) ∙ e)

pub kept_16 : (o : Option ℕ) (n : ℕ) → of_16_bits o ≡ Some n → o ≡ Some n
kept_16 None n e = absurd cc
kept_16 (Some m) n e = split (nat_lt m 65536) refl
  where
    split : (b : Bool) → nat_lt m 65536 ≡ b → Some m ≡ Some n
    split true t = sym (ap (λ (b : Bool). if b then Some m else None) t) ∙ e
    split false t = let f : None ≡ Some n = sym (ap (λ (b : Bool). if b then Some m else None) t) ∙ e in absurd cc

pub numbered_below : (names : List (List ℕ)) (name : List ℕ) (n : ℕ) → number_of_name names name ≡ Some n → n < length names
unfolding number_of_name
numbered_below names name n e = position_below names name n (kept_16 (position_of names name) n e)

pub name_formed : (line : List WordAt) (k : ℕ) → Holds (λ (w : WordAt). is_name w.bytes ≡ true) (name_at line k)
unfolding name_at
name_formed line k = bind (word_at line k) _ (anything (word_at line k)) (λ w _. either (is_name w.bytes) (Ok w) _ (λ e. done w e) (λ _. fails _))

known_holds : (P : ℕ → Type 0) (w : WordAt) (o : Option ℕ) → ((n : ℕ) → o ≡ Some n → P n) → Holds P (known w o)
known_holds P w None h = fails _
known_holds P w (Some n) h = done n (h n refl)

pub declared_formed : (names : List (List ℕ)) (line : List WordAt) (k : ℕ) → Holds (λ (n : ℕ). n < length names) (declared_at names line k)
unfolding declared_at
declared_formed names line k = bind (name_at line k) _ (anything (name_at line k)) (λ w _. known_holds (λ n. n < length names) w (number_of_name names w.bytes) (λ n e. numbered_below names w.bytes n e))

-- a declared name's number, counted from the low one, or a GUID
abbrev pub IsAskedIn : (low count : ℕ) → Asked → Type 0
IsAskedIn low count (askeds.Number n) = (low ≤ n) × (n < low + count)
IsAskedIn low count (askeds.Guid g) = Unit {0}

asked_guid : (low count : ℕ) (w : WordAt) (o : Option Guid) → Holds (IsAskedIn low count) (as_asked w o)
asked_guid low count w None = fails _
asked_guid low count w (Some g) = done (askeds.Guid g) tt

pub asked_formed : (names : List (List ℕ)) (low : ℕ) (line : List WordAt) (k : ℕ) → Holds (IsAskedIn low (length names)) (asked_at names low line k)
unfolding asked_at
asked_formed names low line k = bind (word_at line k) _ (anything (word_at line k)) (λ w _.
    either (opens_brace w.bytes) _ _
    (λ _. asked_guid low (length names) w (guid_of w.bytes))
    (λ _. bind (declared_at names line k) _ (declared_formed names line k) (λ n h. done (askeds.Number (n + low)) (omega arith, omega arith))))

-- ---- operands

-- what an operand's word says of its bytes
abbrev pub IsSaid : List ℕ → Operand → Type 0
IsSaid bytes (operands.Register n) = n < 16
IsSaid bytes (operands.Slot n) = n < 8
IsSaid bytes (operands.Cell n) = n < 8
IsSaid bytes (operands.Link n) = n < 4
IsSaid bytes (operands.Buffer n) = n < 64
IsSaid bytes operands.Text = IsQuoted bytes
IsSaid bytes _ = Unit {0}

said_letter : (bytes : List ℕ) (letter n : ℕ) → IsSaid bytes (lettered_by letter n)
said_letter bytes letter n =
    cond_both (letter == 114 && nat_lt n 16) _ _ (IsSaid bytes) (λ e. ltb-true n 16 (and_parts _ _ e).1) (λ _.
    cond_both (letter == 115 && nat_lt n 8) _ _ (IsSaid bytes) (λ e. ltb-true n 8 (and_parts _ _ e).1) (λ _.
    cond_both (letter == 99 && nat_lt n 8) _ _ (IsSaid bytes) (λ e. ltb-true n 8 (and_parts _ _ e).1) (λ _.
    cond_both (letter == 107 && nat_lt n 4) _ _ (IsSaid bytes) (λ e. ltb-true n 4 (and_parts _ _ e).1) (λ _.
    cond_both (letter == 112 && nat_lt n 64) _ _ (IsSaid bytes) (λ e. ltb-true n 64 (and_parts _ _ e).1) (λ _. tt)))))

said_lettered : (bytes : List ℕ) (letter : ℕ) (o : Option ℕ) → IsSaid bytes (lettered letter o)
unfolding lettered
said_lettered bytes letter None = tt
said_lettered bytes letter (Some n) = said_letter bytes letter n

said_number : (bytes : List ℕ) (o : Option ℤ) → IsSaid bytes (numbered o)
said_number bytes None = tt
said_number bytes (Some n) = tt

said_numeric : (bytes word : List ℕ) → IsSaid bytes (numeric_of word)
unfolding numeric_of
said_numeric bytes word = said_number bytes (signed_of word)

said_guid : (bytes : List ℕ) (o : Option Guid) → IsSaid bytes (braced o)
said_guid bytes None = tt
said_guid bytes (Some g) = tt

said_first : (bytes word : List ℕ) → IsSaid bytes (by_first word)
said_first bytes [] = tt
said_first bytes (b ∷ bs) =
    cond_both (b == 123) _ _ (IsSaid bytes) (λ _. said_guid bytes (guid_of (b ∷ bs))) (λ _.
    cond_both (begins_number b bs) _ _ (IsSaid bytes) (λ _. said_numeric bytes (b ∷ bs)) (λ _. said_lettered bytes b (small_of bs)))

said_plain : (bytes word : List ℕ) → IsSaid bytes (plain_of word)
unfolding plain_of
said_plain bytes word =
    cond_both (bytes_eq word (codes "true")) _ _ (IsSaid bytes) (λ _. tt) (λ _.
    cond_both (bytes_eq word (codes "false")) _ _ (IsSaid bytes) (λ _. tt) (λ _.
    cond_both (bytes_eq word (codes "null")) _ _ (IsSaid bytes) (λ _. tt) (λ _. said_first bytes word)))

said_by : (bytes : List ℕ) (sort : Sort) → IsLiteralWord sort bytes → IsSaid bytes (operand_by bytes sort)
said_by bytes sorts.Plain h = said_plain bytes bytes
said_by bytes sorts.Text h = h
said_by bytes sorts.Bytes h = cond_both (are_pairs (inner bytes)) operands.Bytes (operands.Wrong 3) (IsSaid bytes) (λ _. tt) (λ _. tt)
said_by bytes sorts.Unclosed h = tt
said_by bytes (sorts.Stray c) h = tt
said_by bytes (sorts.Remark c) h = tt

pub said : (w : WordAt) → IsWord w → IsSaid w.bytes (operand_of w)
unfolding operand_of
said w h = said_by w.bytes w.sort h.literal

-- ---- places for one sort of operand

register_by : (w : WordAt) (bytes : List ℕ) (o : Operand) → IsSaid bytes o → Holds (λ (n : ℕ). n < 16) (as_register w o)
register_by w bytes (operands.Register n) h = done n h
register_by w bytes (operands.Slot n) h = fails _
register_by w bytes (operands.Cell n) h = fails _
register_by w bytes (operands.Link n) h = fails _
register_by w bytes (operands.Buffer n) h = fails _
register_by w bytes operands.Text h = fails _
register_by w bytes o h = fails _

pub register_formed : (line : List WordAt) (k : ℕ) → All IsWord line → Holds (λ (n : ℕ). n < 16) (register_at line k)
unfolding register_at
register_formed line k h = bind (word_at line k) _ (word_formed line k h) (λ w is. register_by w w.bytes (operand_of w) (said w is))

slot_by : (w : WordAt) (bytes : List ℕ) (o : Operand) → IsSaid bytes o → Holds (λ (n : ℕ). n < 8) (as_slot w o)
slot_by w bytes (operands.Slot n) h = done n h
slot_by w bytes o h = fails _

pub slot_formed : (line : List WordAt) (k : ℕ) → All IsWord line → Holds (λ (n : ℕ). n < 8) (slot_at line k)
unfolding slot_at
slot_formed line k h = bind (word_at line k) _ (word_formed line k h) (λ w is. slot_by w w.bytes (operand_of w) (said w is))

abbrev pub IsCellIn : Bool → ℕ → Type 0
IsCellIn cells n = (n < 8) × (cells ≡ true)

cell_by : (cells : Bool) (w : WordAt) (bytes : List ℕ) (o : Operand) → IsSaid bytes o → Holds (IsCellIn cells) (as_cell cells w o)
cell_by cells w bytes (operands.Cell n) h = either cells (Ok n) _ (λ e. done n (h, e)) (λ _. fails _)
cell_by cells w bytes o h = fails _

pub cell_formed : (cells : Bool) (line : List WordAt) (k : ℕ) → All IsWord line → Holds (IsCellIn cells) (cell_at cells line k)
unfolding cell_at
cell_formed cells line k h = bind (word_at line k) _ (word_formed line k h) (λ w is. cell_by cells w w.bytes (operand_of w) (said w is))

buffer_by : (w : WordAt) (bytes : List ℕ) (o : Operand) → IsSaid bytes o → Holds (λ (n : ℕ). n < 64) (as_buffer w o)
buffer_by w bytes (operands.Buffer n) h = done n h
buffer_by w bytes o h = fails _

pub buffer_formed : (line : List WordAt) (k : ℕ) → All IsWord line → Holds (λ (n : ℕ). n < 64) (buffer_at line k)
unfolding buffer_at
buffer_formed line k h = bind (word_at line k) _ (word_formed line k h) (λ w is. buffer_by w w.bytes (operand_of w) (said w is))

-- links stand where they are allowed
abbrev pub IsLinkIn : Bool → Place → Type 0
IsLinkIn links (places.Slot n) = Unit {0}
IsLinkIn links (places.Link n) = links ≡ true

abbrev pub IsPlaceOf : Bool → Place → Type 0
IsPlaceOf links p = IsPlace p × IsLinkIn links p

place_by : (links : Bool) (w : WordAt) (bytes : List ℕ) (o : Operand) → IsSaid bytes o → Holds (IsPlaceOf links) (as_place links w o)
place_by links w bytes (operands.Slot n) h = done (places.Slot n) (h, tt)
place_by links w bytes (operands.Link n) h = either links (Ok (places.Link n)) _ (λ e. done (places.Link n) (h, e)) (λ _. fails _)
place_by links w bytes o h = fails _

pub place_formed : (links : Bool) (line : List WordAt) (k : ℕ) → All IsWord line → Holds (IsPlaceOf links) (place_at links line k)
unfolding place_at
place_formed links line k h = bind (word_at line k) _ (word_formed line k h) (λ w is. place_by links w w.bytes (operand_of w) (said w is))

-- ---- literals

text_inner : (inner : List ℕ) → slice_range (34 ∷ (inner ++ 34 ∷ [])) 1 (length (34 ∷ (inner ++ 34 ∷ [])) - 1) ≡ inner
text_inner inner =
    let e : (length (34 ∷ (inner ++ 34 ∷ [])) - 1) - 1 ≡ length inner = omega (arith, length-append inner (34 ∷ [])) in
    ap (λ (n : ℕ). take n (inner ++ 34 ∷ [])) e ∙ take-append_seam inner (34 ∷ [])

text_between : (bytes : List ℕ) → IsQuoted bytes → (nat_lt (length bytes) 2 || nat_lt 258 (length bytes)) ≡ false → IsLiteral (values.Text (slice_range bytes 1 (length bytes - 1)))
text_between bytes h e =
    let r = or_parts (nat_lt (length bytes) 2) (nat_lt 258 (length bytes)) e in
    let high : length bytes ≤ 258 = ltb-false 258 (length bytes) r.1 in
    let is : slice_range bytes 1 (length bytes - 1) ≡ h.inner = ap (λ (x : List ℕ). slice_range x 1 (length x - 1)) h.marks ∙ text_inner h.inner in
    let few : length h.inner ≤ 256 = omega (arith, ap length h.marks, length-append h.inner (34 ∷ [])) in
    subst (λ (t : List ℕ). IsLiteral (values.Text t)) (sym is) (h.characters, few)

pub text_formed : (w : WordAt) → IsQuoted w.bytes → Holds IsLiteral (text_literal w)
unfolding text_literal
text_formed w h = either (nat_lt (length w.bytes) 2 || nat_lt 258 (length w.bytes)) _ _ (λ _. fails _) (λ e. done _ (text_between w.bytes h e))

-- bytes in digits are half as many as these
pub unhexed_length : (digits bytes : List ℕ) → unhexed digits ≡ Some bytes → length digits ≡ 2 * length bytes
unhexed_length digits bytes h = by (decode_of digits) refl h
  where
    by : (r : Result (List ℕ) FromHexError) → decode_of digits ≡ r → decoded r ≡ Some bytes → length digits ≡ 2 * length bytes
    by (Ok x) is e = let f : x ≡ bytes = cc in (decode_of-ok digits bytes (is ∙ ap Ok f)).2
    by (Err x) is e = absurd cc

bytes_by : (w : WordAt) (o : Option (List ℕ)) → ((b : List ℕ) → o ≡ Some b → length b ≤ 256) → Holds IsLiteral (as_bytes w o)
bytes_by w None h = fails _
bytes_by w (Some b) h = done (values.Bytes b) (h b refl)

pub bytes_formed : (w : WordAt) → Holds IsLiteral (bytes_literal w)
unfolding bytes_literal
bytes_formed w = either (nat_lt 512 (length (inner w.bytes))) _ _ (λ _. fails _) (λ e.
    let high : length (inner w.bytes) ≤ 512 = ltb-false 512 (length (inner w.bytes)) e in
    bytes_by w (unhexed (inner w.bytes)) (λ b is. let n = unhexed_length (inner w.bytes) b is in omega arith))

-- an operand in its range, and a literal within its limits
abbrev pub IsOpOf : Op → Type 0
IsOpOf o = IsOp o × IsOperand o

written_holds : (r : Result Value Fault) → Holds IsLiteral r → Holds IsOpOf (written r)
written_holds r h = bind r _ h (λ v is. done (ops.Literal v) (tt, is))

pub literal_formed : (w : WordAt) (o : Operand) → IsSaid w.bytes o → Holds IsOpOf (literal_of w o)
unfolding literal_of
literal_formed w (operands.Register n) h = done (ops.Register n) (h, tt)
literal_formed w (operands.Number n) h = done _ (tt, tt)
literal_formed w (operands.Bool b) h = done _ (tt, tt)
literal_formed w (operands.Guid g) h = done _ (tt, tt)
literal_formed w operands.Text h = written_holds (text_literal w) (text_formed w h)
literal_formed w operands.Bytes h = written_holds (bytes_literal w) (bytes_formed w)
literal_formed w o h = fails _

pub op_formed : (line : List WordAt) (k : ℕ) → All IsWord line → Holds IsOpOf (op_at line k)
unfolding op_at
op_formed line k h = bind (word_at line k) _ (word_formed line k h) (λ w is. literal_formed w (operand_of w) (said w is))

-- ---- answers

code_register_by : (w : WordAt) (bytes : List ℕ) (o : Operand) → IsSaid bytes o → Holds IsCode (as_code_register w o)
code_register_by w bytes (operands.Register n) h = done (answers.Register n) h
code_register_by w bytes o h = fails _

code_by : (w : WordAt) (o : Option HResult) → IsWord w → Holds IsCode (as_code w o)
code_by w None is = either (begins_hex w.bytes) _ _ (λ _. fails _) (λ _. code_register_by w w.bytes (operand_of w) (said w is))
code_by w (Some hr) is = done (answers.Literal hr) tt

pub code_formed : (line : List WordAt) (k : ℕ) → All IsWord line → Holds IsCode (code_at line k)
unfolding code_at
code_formed line k h = bind (word_at line k) _ (word_formed line k h) (λ w is. code_by w (hresult_of w.bytes) is)

abbrev pub IsGiftOf : Given → Type 0
IsGiftOf g = IsGiven g × IsGivenValue g

given_op : (r : Result Op Fault) → Holds IsOpOf r → Holds IsGiftOf (r >>= λ op. Ok (gifts.Op op))
given_op r h = bind r _ h (λ op is. done (gifts.Op op) is)

given_by : (w : WordAt) (o : Operand) → IsSaid w.bytes o → Holds IsGiftOf (as_given w o)
given_by w (operands.Slot n) h = done (gifts.Slot n) (h, tt)
given_by w (operands.Register n) h = given_op (literal_of w (operands.Register n)) (literal_formed w (operands.Register n) h)
given_by w (operands.Cell n) h = given_op (literal_of w (operands.Cell n)) (literal_formed w (operands.Cell n) h)
given_by w (operands.Link n) h = given_op (literal_of w (operands.Link n)) (literal_formed w (operands.Link n) h)
given_by w (operands.Buffer n) h = given_op (literal_of w (operands.Buffer n)) (literal_formed w (operands.Buffer n) h)
given_by w (operands.Number n) h = given_op (literal_of w (operands.Number n)) (literal_formed w (operands.Number n) h)
given_by w (operands.Bool b) h = given_op (literal_of w (operands.Bool b)) (literal_formed w (operands.Bool b) h)
given_by w (operands.Guid g) h = given_op (literal_of w (operands.Guid g)) (literal_formed w (operands.Guid g) h)
given_by w operands.Text h = given_op (literal_of w operands.Text) (literal_formed w operands.Text h)
given_by w operands.Bytes h = given_op (literal_of w operands.Bytes) (literal_formed w operands.Bytes h)
given_by w operands.Null h = given_op (literal_of w operands.Null) (literal_formed w operands.Null h)
given_by w (operands.Wrong n) h = given_op (literal_of w (operands.Wrong n)) (literal_formed w (operands.Wrong n) h)

pub given_formed : (line : List WordAt) (k : ℕ) → All IsWord line → Holds IsGiftOf (given_at line k)
unfolding given_at
given_formed line k h = bind (stands_at line k) _ (anything (stands_at line k)) (λ there _. either there _ _
    (λ _. bind (word_at line k) _ (word_formed line k h) (λ w is. given_by w (operand_of w) (said w is)))
    (λ _. done gifts.Nothing (tt, tt)))
