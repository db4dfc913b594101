-- The words that lines are made of hold no byte 10.
use Rattle.std.proofs.Common.{subst, ap, ◌∙◌, eqb-true, arith}
use Rattle.std.proofs.lemmas.Bool.{false_from_ne_true, ltb-false}
use Rattle.std.proofs.lemmas.Grind.{common_steps}
use Rattle.std.specs.Prelude.{◌≡◌, refl, ℕ, ℤ, zero, suc, ◌+◌, ◌-◌, ◌/◌, ◌%◌, ◌^◌, ◌<◌, ◌≤◌, pos, negsuc, Bool, true, false, cond, not, ◌==◌, ◌&&◌, List, [], ◌∷◌, ◌++◌, Option, Some, None, All, nat_lt, slice_index, unwrap_or, codes, decimal}
use Rattle.std.specs.Fmt.{digit_glyph, digits_onto, digits, signed_decimal}
use Rattle.std.specs.List.{flat_map}
use Rattle.hex.specs.Hex.{lower_digits, upper_digits, encode_with, encode_lower}
use Rattle.uuid.specs.Text.{by_index, hex_digit, hyphen, is_hyphen_place, nibble, digit_place, hyphenated_text, upper}
use Rattle.com_base.specs.declared.guid.Guid.{Guid}
use Rattle.com_base.specs.declared.hresult.HResult.{HResult}
use Rattle.com_base.specs.declared.value.RefValue.{RefValue}
use Rattle.com_base.specs.declared.value.Value.{Value}
use Rattle.com_base.specs.declared.value.Value.TheVariants as value
use Rattle.com_base.specs.declared.value.Mode.{Mode}
use Rattle.com_base.specs.declared.value.Mode.TheVariants as mode
use Rattle.com_base.specs.declared.value.MarshalMode.{MarshalMode}
use Rattle.com_base.specs.declared.value.MarshalMode.TheVariants as marshal_mode
use Rattle.com_base.specs.Guids.{reading_order_of, text_of}
use Rattle.com_base.specs.HResults.{eight_digits, name_of}
use Rattle.com_body.specs.declared.operands.Asked.{Asked}
use Rattle.com_body.specs.declared.operands.Asked.TheVariants as asked
use Rattle.com_filter.specs.declared.Verdict.{Verdict}
use Rattle.com_filter.specs.declared.Verdict.TheVariants as verdict
use Rattle.com_model.specs.declared.deeds.Route.{Route}
use Rattle.com_model.specs.declared.deeds.Route.TheVariants as route
use Rattle.com_model.specs.Formed.{is_text_byte}
use Rattle.com_model.specs.Text.{hresult_text, named, held_text, asked_text, bytes_text, mode_text, marshal_mode_text, route_text, verdict_text, filter_text, call_type_text, value_text, one_value_text, later_value_text, values_text}
use Rattle.com_laws_values.specs.Held.{IsCharacters, ValueBy, ResultBy}
use Rattle.com_laws_values.proofs.Walks.{all-head, all-tail}
use Rattle.com_laws_lines.specs.Breaks.{no_break}

-- A text without the byte 10.
pub record Plain (xs : List ℕ) : Type 0 where
  pub is : no_break xs ≡ true

-- ---- texts behind one another

over : (xs ys : List ℕ) → no_break xs ≡ true → no_break ys ≡ true → no_break (xs ++ ys) ≡ true
over [] ys p q = q
over (x ∷ xs) ys p q = by-first (x == 10) p (λ r. over xs ys r q)
  where
    by-first : (b : Bool) → (not b && no_break xs) ≡ true → (no_break xs ≡ true → no_break (xs ++ ys) ≡ true) → (not b && no_break (xs ++ ys)) ≡ true
    by-first true p f = cc
    by-first false p f = f p

pub both : {xs ys : List ℕ} → Plain xs → Plain ys → Plain (xs ++ ys)
both {xs = xs} {ys = ys} p q = record { is = over xs ys p.is q.is }

-- A word.
pub spelled : (xs : List ℕ) → no_break xs ≡ true → Plain xs
spelled xs p = record { is = p }

one-more : (b : ℕ) (bs : List ℕ) → (b == 10) ≡ false → Plain bs → Plain (b ∷ bs)
one-more b bs p q = record { is = ap (λ (t : Bool). not t && no_break bs) p ∙ q.is }

either-plain : (b : Bool) (x y : List ℕ) → Plain x → Plain y → Plain (cond b x y)
either-plain true x y p q = p
either-plain false x y p q = q

-- ---- numbers

not-ten : (n : ℕ) → (n ≡ 10 → ⊥) → (n == 10) ≡ false
not-ten n f = false_from_ne_true (n == 10) (λ t. f (eqb-true n 10 t))

high : (n k : ℕ) → 11 ≤ n → n + k ≡ 10 → ⊥
high n k p e = omega (arith, p, e)

glyph-plain : (t : Bool) (d : ℕ) → (cond t (48 + d) (87 + d) == 10) ≡ false
glyph-plain true d = not-ten (48 + d) (high 48 d (omega arith))
glyph-plain false d = not-ten (87 + d) (high 87 d (omega arith))

digits-plain : (k n : ℕ) (acc : List ℕ) → Plain acc → Plain (digits_onto k 10 false n acc)
digits-plain zero n acc p = p
digits-plain (suc k) n acc p =
    let more : Plain (digit_glyph false (n % 10) ∷ acc) = one-more (digit_glyph false (n % 10)) acc (glyph-plain (nat_lt (n % 10) 10) (n % 10)) p in
    either-plain (n / 10 == 0) (digit_glyph false (n % 10) ∷ acc) (digits_onto k 10 false (n / 10) (digit_glyph false (n % 10) ∷ acc)) more (digits-plain k (n / 10) (digit_glyph false (n % 10) ∷ acc) more)

pub decimal-plain : (n : ℕ) → Plain (decimal n)
unfolding digits
decimal-plain n = digits-plain 64 n [] (spelled [] refl)

pub signed-plain : (z : ℤ) → Plain (signed_decimal z)
signed-plain (pos n) = decimal-plain n
signed-plain (negsuc n) = one-more 45 (decimal (suc n)) refl (decimal-plain (suc n))

-- ---- tables of digits

plain-first : (x : ℕ) (xs : List ℕ) (b : Bool) → (not b && no_break xs) ≡ true → (b ≡ false) × (no_break xs ≡ true)
plain-first x xs true p = cc
plain-first x xs false p = (refl, p)

got-plain : (xs : List ℕ) (k : ℕ) → no_break xs ≡ true → (slice_index xs k == 10) ≡ false
got-plain [] k p = refl
got-plain (x ∷ xs) zero p = (plain-first x xs (x == 10) p).0
got-plain (x ∷ xs) (suc k) p = got-plain xs k (plain-first x xs (x == 10) p).1

hex-plain : (bytes : List ℕ) → Plain (encode_with lower_digits bytes)
unfolding encode_with
hex-plain [] = spelled [] refl
hex-plain (b ∷ bytes) =
    one-more (slice_index lower_digits (b / 16)) (slice_index lower_digits (b % 16) ∷ encode_with lower_digits bytes) (got-plain lower_digits (b / 16) refl)
    (one-more (slice_index lower_digits (b % 16)) (encode_with lower_digits bytes) (got-plain lower_digits (b % 16) refl) (hex-plain bytes))

digit : (k : ℕ) (bs : List ℕ) → Plain bs → Plain (slice_index upper_digits k ∷ bs)
digit k bs p = one-more (slice_index upper_digits k) bs (got-plain upper_digits k refl) p

-- Digits of the numbers of a list.
abbrev digits_of : List ℕ → List ℕ
digits_of [] = []
digits_of (k ∷ ks) = slice_index upper_digits k ∷ digits_of ks

table-plain : (ks : List ℕ) → Plain (digits_of ks)
table-plain [] = spelled [] refl
table-plain (k ∷ ks) = digit k (digits_of ks) (table-plain ks)

eight-plain : (n : ℕ) → Plain (eight_digits n)
eight-plain n = table-plain (n / 2 ^ 28 % 16 ∷ n / 2 ^ 24 % 16 ∷ n / 2 ^ 20 % 16 ∷ n / 2 ^ 16 % 16 ∷ n / 2 ^ 12 % 16 ∷ n / 2 ^ 8 % 16 ∷ n / 2 ^ 4 % 16 ∷ n % 16 ∷ [])

-- ---- GUIDs

letter-high : (d : ℕ) → 10 ≤ d → 65 + d - 10 ≡ 10 → ⊥
letter-high d p e = omega (arith, p, e)

digit-plain : (d : ℕ) (t : Bool) → nat_lt d 10 ≡ t → (cond t (48 + d) (65 + d - 10) == 10) ≡ false
digit-plain d true e = not-ten (48 + d) (high 48 d (omega arith))
digit-plain d false e = not-ten (65 + d - 10) (letter-high d (ltb-false d 10 e))

place-plain : (b : Bool) (d : ℕ) → (cond b hyphen (hex_digit upper d) == 10) ≡ false
place-plain true d = refl
place-plain false d = digit-plain d (nat_lt d 10) refl

index-plain : (n : ℕ) (f : ℕ → ℕ) → ((k : ℕ) → (f k == 10) ≡ false) → Plain (by_index n f)
unfolding by_index
index-plain zero f p = spelled [] refl
index-plain (suc n) f p = both (index-plain n f p) (one-more (f n) [] (p n) (spelled [] refl))

pub guid-plain : (g : Guid) → Plain (text_of g)
guid-plain g =
    let text : List ℕ = hyphenated_text upper (reading_order_of g) in
    let plain : Plain text = index-plain 36 (λ k. cond (is_hyphen_place k) hyphen (hex_digit upper (nibble (reading_order_of g) (digit_place k)))) (λ k. place-plain (is_hyphen_place k) (nibble (reading_order_of g) (digit_place k))) in
    record { is = over text (125 ∷ []) plain.is refl }

-- ---- HRESULTs

abbrev PlainName : Option (List ℕ) → Type 0
PlainName None = Unit {0}
PlainName (Some t) = no_break t ≡ true

one-name : (b : Bool) (t : List ℕ) (o : Option (List ℕ)) → no_break t ≡ true → PlainName o → PlainName (cond b (Some t) o)
one-name true t o p q = p
one-name false t o p q = q

name-plain : (n : ℕ) → PlainName (name_of n)
name-plain n =
    one-name (n == 0x00000000) (codes "S_OK") _ refl
    (one-name (n == 0x00000001) (codes "S_FALSE") _ refl
    (one-name (n == 0x80004001) (codes "E_NOTIMPL") _ refl
    (one-name (n == 0x80004002) (codes "E_NOINTERFACE") _ refl
    (one-name (n == 0x80004003) (codes "E_POINTER") _ refl
    (one-name (n == 0x80004005) (codes "E_FAIL") _ refl
    (one-name (n == 0x8000ffff) (codes "E_UNEXPECTED") _ refl
    (one-name (n == 0x80070057) (codes "E_INVALIDARG") _ refl
    (one-name (n == 0x80040154) (codes "REGDB_E_CLASSNOTREG") _ refl
    (one-name (n == 0x800401f0) (codes "CO_E_NOTINITIALIZED") _ refl
    (one-name (n == 0x800401fd) (codes "CO_E_OBJNOTCONNECTED") _ refl
    (one-name (n == 0x80010001) (codes "RPC_E_CALL_REJECTED") _ refl
    (one-name (n == 0x80010002) (codes "RPC_E_CALL_CANCELED") _ refl
    (one-name (n == 0x8001000c) (codes "RPC_E_CLIENT_CANTUNMARSHAL_DATA") _ refl
    (one-name (n == 0x8001000e) (codes "RPC_E_SERVER_CANTUNMARSHAL_DATA") _ refl
    (one-name (n == 0x80010101) (codes "RPC_E_OUT_OF_RESOURCES") _ refl
    (one-name (n == 0x80010106) (codes "RPC_E_CHANGED_MODE") _ refl
    (one-name (n == 0x80010107) (codes "RPC_E_INVALIDMETHOD") _ refl
    (one-name (n == 0x80010108) (codes "RPC_E_DISCONNECTED") _ refl
    (one-name (n == 0x8001010a) (codes "RPC_E_SERVERCALL_RETRYLATER") _ refl
    (one-name (n == 0x8001011d) (codes "RPC_E_INVALID_OBJREF") _ refl
    (one-name (n == 0x80020003) (codes "DISP_E_MEMBERNOTFOUND") _ refl
    (one-name (n == 0x80020005) (codes "DISP_E_TYPEMISMATCH") _ refl
    (one-name (n == 0x80020006) (codes "DISP_E_UNKNOWNNAME") _ refl
    (one-name (n == 0x8002000e) (codes "DISP_E_BADPARAMCOUNT") _ refl tt))))))))))))))))))))))))

text-or-digits : (b : Bool) (n : ℕ) (o : Option (List ℕ)) → PlainName o → Plain (cond b (eight_digits n) (unwrap_or o (eight_digits n)))
text-or-digits true n o p = eight-plain n
text-or-digits false n None p = eight-plain n
text-or-digits false n (Some t) p = spelled t p

pub hresult-plain : (version : ℕ) (hr : HResult) → Plain (hresult_text version hr)
hresult-plain version hr = text-or-digits (version == 2) hr.0 (name_of hr.0) (name-plain hr.0)

-- ---- words

pub named-plain : (letter : List ℕ) (x : Option ℕ) → no_break letter ≡ true → Plain (named letter x)
named-plain letter None p = spelled (codes "-") refl
named-plain letter (Some n) p = both (spelled letter p) (decimal-plain n)

pub held-plain : (x : Option RefValue) → Plain (held_text x)
held-plain None = spelled (codes "- -") refl
held-plain (Some r) = both (both (both (spelled (codes "o") refl) (decimal-plain r.object)) (spelled (codes " I") refl)) (decimal-plain r.iface)

pub asked-plain : (letter : List ℕ) (x : Asked) → no_break letter ≡ true → Plain (asked_text letter x)
asked-plain letter (asked.Number n) p = both (spelled letter p) (decimal-plain n)
asked-plain letter (asked.Guid g) p = guid-plain g

pub bytes-plain : (x : Option (List ℕ)) → Plain (bytes_text x)
bytes-plain None = spelled (codes "-") refl
bytes-plain (Some bytes) = hex-plain bytes

pub mode-plain : (m : Mode) → Plain (mode_text m)
mode-plain mode.Sta = spelled (codes "sta") refl
mode-plain mode.Mta = spelled (codes "mta") refl

pub marshal-plain : (m : MarshalMode) → Plain (marshal_mode_text m)
marshal-plain marshal_mode.Normal = spelled (codes "normal") refl
marshal-plain marshal_mode.Strong = spelled (codes "strong") refl
marshal-plain marshal_mode.Weak = spelled (codes "weak") refl

pub route-plain : (r : Route) → Plain (route_text r)
route-plain route.Direct = spelled (codes "direct") refl
route-plain route.Switch = spelled (codes "switch") refl
route-plain route.Post = spelled (codes "post") refl
route-plain route.Refused = spelled (codes "none") refl

pub verdict-plain : (v : Verdict) → Plain (verdict_text v)
verdict-plain verdict.Handled = spelled (codes "handled") refl
verdict-plain verdict.Rejected = spelled (codes "rejected") refl
verdict-plain verdict.Later = spelled (codes "later") refl

pub filter-plain : (x : Option ℕ) → Plain (filter_text x)
filter-plain None = spelled (codes "none") refl
filter-plain (Some n) = both (spelled (codes "F") refl) (decimal-plain n)

pub call-type-plain : (x : Option ℕ) → Plain (call_type_text x)
call-type-plain None = spelled (codes "-") refl
call-type-plain (Some n) = decimal-plain n

-- ---- values

byte-plain : (c : ℕ) → is_text_byte c ≡ true → (c == 10) ≡ false
byte-plain c p = not-ten c (λ e. wrong (subst (λ (x : ℕ). is_text_byte x ≡ true) e p))
  where
    wrong : false ≡ true → ⊥
    wrong e = cc

characters-plain : (t : List ℕ) → IsCharacters t → Plain t
characters-plain [] p = spelled [] refl
characters-plain (c ∷ t) p = one-more c t (byte-plain c (all-head (λ c. is_text_byte c ≡ true) c t p)) (characters-plain t (all-tail (λ c. is_text_byte c ≡ true) c t p))

pub value-plain : (R : RefValue → Type 0) (v : Value) → ValueBy R v → Plain (value_text v)
value-plain R (value.Int n) p = signed-plain n
value-plain R (value.Bool true) p = spelled (codes "true") refl
value-plain R (value.Bool false) p = spelled (codes "false") refl
value-plain R (value.Text t) p = both (both (spelled (codes "\"") refl) (characters-plain t p.0)) (spelled (codes "\"") refl)
value-plain R (value.Bytes t) p = both (both (spelled (codes "x\"") refl) (hex-plain t)) (spelled (codes "\"") refl)
value-plain R (value.Guid g) p = guid-plain g
value-plain R (value.Ref None) p = spelled (codes "null") refl
value-plain R (value.Ref (Some r)) p = both (both (both (spelled (codes "o") refl) (decimal-plain r.object)) (spelled (codes ":I") refl)) (decimal-plain r.iface)

pub result-plain : (R : RefValue → Type 0) (v : Option Value) → ResultBy R v → Plain (one_value_text v)
result-plain R None p = spelled [] refl
result-plain R (Some v) p = value-plain R v p

later-plain : (R : RefValue → Type 0) (vs : List Value) → All (ValueBy R) vs → Plain (flat_map later_value_text vs)
later-plain R [] p = spelled [] refl
later-plain R (v ∷ vs) p = both (both (spelled (codes ",") refl) (value-plain R v (all-head (ValueBy R) v vs p))) (later-plain R vs (all-tail (ValueBy R) v vs p))

pub values-plain : (R : RefValue → Type 0) (vs : List Value) → All (ValueBy R) vs → Plain (values_text vs)
values-plain R [] p = spelled [] refl
values-plain R (v ∷ vs) p = both (value-plain R v (all-head (ValueBy R) v vs p)) (later-plain R vs (all-tail (ValueBy R) v vs p))
