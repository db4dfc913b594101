-- What a form of a GUID writes is read again as that GUID, and what it reads is written again.
use Rattle.std.proofs.Common.{◌≡◌, ℕ, ◌+◌, ◌/◌, ◌%◌, ◌<◌, List, [], ◌∷◌, ◌++◌, length, take, drop, Some, refl, sym, ap, ◌∙◌, append_assoc, arith, inl, inr}
use Rattle.std.specs.Option.{option_map}
use Rattle.std.specs.List.{All}
use Rattle.std.specs.Int.{w16, w32, from_le_bytes, to_le_bytes, from_be_bytes, to_be_bytes}
use Rattle.std.proofs.lemmas.List.{take-append-drop, drop-drop, length-take, length-drop, get_or-drop, get_or-take, get_or_past}
use Rattle.std.proofs.lemmas.List.Elements.{All-nil, All-cons, All-append}
use Rattle.std.proofs.lemmas.Bool.{cases_lt}
use Rattle.std.proofs.lemmas.Nat.{le_bytes_2, le_bytes_4, from_le_bytes-to_le_bytes_2, from_le_bytes-to_le_bytes_4, from_be_bytes-to_be_bytes_2, from_be_bytes-to_be_bytes_4}
use Rattle.uuid.specs.Text.{upper, braced_text, parsed_braced}
use Rattle.uuid.proofs.RoundTrips.{parses_braced}
use Rattle.uuid.proofs.TextLemmas.{all_fit}
use Rattle.com_base.specs.declared.guid.Guid.{Guid}
use Rattle.com_base.specs.Guids.{IsBytes, IsGuid, wire_of, guid_of_wire, text_of, guid_of_text, reading_order_of, guid_of_reading_order}
use Rattle.com_base.proofs.Texts.{parsed_at_38, braced_length}

pub IsBytes-drop : (n : ℕ) (bytes : List ℕ) → IsBytes bytes → IsBytes (drop n bytes)
IsBytes-drop n bytes h i = rw get_or-drop (h (n + i))

pub IsBytes-take : (n : ℕ) (bytes : List ℕ) → IsBytes bytes → IsBytes (take n bytes)
IsBytes-take n bytes h i =
    elim (cases_lt i n) [
      | inl lt ↦ rw (get_or-take n bytes i 0 lt) (h i)
      | inr le ↦ rw (get_or_past (take n bytes) i 0 (omega (arith, length-take n bytes))) (omega arith)
    ]

guid_by : ℕ → ℕ → ℕ → List ℕ → Guid
guid_by a b c d = record { data1 = a; data2 = b; data3 = c; data4 = d }

same_guid : (a a' b b' c c' : ℕ) (d : List ℕ) → a ≡ a' → b ≡ b' → c ≡ c' → guid_by a b c d ≡ guid_by a' b' c' d
same_guid a a' b b' c c' d a-is b-is c-is =
    ap (λ (x : ℕ). guid_by x b c d) a-is ∙ ap (λ (x : ℕ). guid_by a' x c d) b-is ∙ ap (λ (x : ℕ). guid_by a' b' x d) c-is

pub wire_again : (g : Guid) → IsGuid g → guid_of_wire (wire_of g) ≡ g
unfolding guid_by
wire_again g fits =
    same_guid (from_le_bytes w32 (to_le_bytes w32 g.data1)) g.data1 (from_le_bytes w16 (to_le_bytes w16 g.data2)) g.data2 (from_le_bytes w16 (to_le_bytes w16 g.data3)) g.data3 g.data4
    (from_le_bytes-to_le_bytes_4 g.data1 fits.data1) (from_le_bytes-to_le_bytes_2 g.data2 fits.data2) (from_le_bytes-to_le_bytes_2 g.data3 fits.data3)

order_again : (g : Guid) → IsGuid g → guid_of_reading_order (reading_order_of g) ≡ g
unfolding guid_by
order_again g fits =
    same_guid (from_be_bytes w32 (to_be_bytes w32 g.data1)) g.data1 (from_be_bytes w16 (to_be_bytes w16 g.data2)) g.data2 (from_be_bytes w16 (to_be_bytes w16 g.data3)) g.data3 g.data4
    (from_be_bytes-to_be_bytes_4 g.data1 fits.data1) (from_be_bytes-to_be_bytes_2 g.data2 fits.data2) (from_be_bytes-to_be_bytes_2 g.data3 fits.data3)

-- each item is a byte
abbrev pub AreBytes : List ℕ → Type 0
AreBytes bytes = All (λ b. b < 256) bytes

a_byte : (n : ℕ) → n % 256 < 256
a_byte n = omega arith

four_bytes : (n : ℕ) → AreBytes (to_be_bytes w32 n)
four_bytes n =
    let P : ℕ → Type 0 = λ b. b < 256 in
    let a = n / 16777216 % 256 in
    let b = n / 65536 % 256 in
    let c = n / 256 % 256 in
    let d = n % 256 in
    All-cons P a (b ∷ c ∷ d ∷ []) (a_byte (n / 16777216)) (All-cons P b (c ∷ d ∷ []) (a_byte (n / 65536)) (All-cons P c (d ∷ []) (a_byte (n / 256)) (All-cons P d [] (a_byte n) (All-nil P))))

two_bytes : (n : ℕ) → AreBytes (to_be_bytes w16 n)
two_bytes n =
    let P : ℕ → Type 0 = λ b. b < 256 in
    All-cons P (n / 256 % 256) (n % 256 ∷ []) (a_byte (n / 256)) (All-cons P (n % 256) [] (a_byte n) (All-nil P))

order_bytes : (g : Guid) → AreBytes g.data4 → AreBytes (reading_order_of g)
order_bytes g fits =
    let P : ℕ → Type 0 = λ b. b < 256 in
    let a = to_be_bytes w32 g.data1 in
    let b = to_be_bytes w16 g.data2 in
    let c = to_be_bytes w16 g.data3 in
    All-append P ((a ++ b) ++ c) g.data4 (All-append P (a ++ b) c (All-append P a b (four_bytes g.data1) (two_bytes g.data2)) (two_bytes g.data3)) fits

pub text_again : (g : Guid) → IsGuid g → guid_of_text (text_of g) ≡ Some g
text_again g fits =
    let order = reading_order_of g in
    let sixteen : length order ≡ 16 = omega (arith, fits.eight) in
    let parsed_is : parsed_braced (braced_text upper order) ≡ Some order =
    sym (parsed_at_38 (braced_text upper order) (braced_length upper order)) ∙ sym (parses_braced upper order (inr refl) sixteen (order_bytes g (all_fit g.data4 (λ k lt. fits.bytes k)))) in
    ap (option_map guid_of_reading_order) parsed_is ∙ ap (λ (x : Guid). Some x) (order_again g fits)

joined : (xs : List ℕ) → ((take 4 xs ++ take 2 (drop 4 xs)) ++ take 2 (drop 6 xs)) ++ drop 8 xs ≡ xs
joined xs =
    let six : drop 2 (drop 4 xs) ≡ drop 6 xs = drop-drop 2 4 xs in
    let eight : drop 2 (drop 6 xs) ≡ drop 8 xs = drop-drop 2 6 xs in
    simp append_assoc (rw (← eight, take-append-drop, ← six, take-append-drop, take-append-drop) refl)

pub wire_back : (xs : List ℕ) → length xs ≡ 16 → IsBytes xs → (wire_of (guid_of_wire xs) ≡ xs) × IsGuid (guid_of_wire xs)
wire_back xs len fits =
    let a = take 4 xs in
    let b = take 2 (drop 4 xs) in
    let c = take 2 (drop 6 xs) in
    let d = drop 8 xs in
    let a-fits = IsBytes-take 4 xs fits in
    let b-fits = IsBytes-take 2 (drop 4 xs) (IsBytes-drop 4 xs fits) in
    let c-fits = IsBytes-take 2 (drop 6 xs) (IsBytes-drop 6 xs fits) in
    let a-is : to_le_bytes w32 (from_le_bytes w32 a) ≡ a = le_bytes_4 a _ (omega (arith, length-take 4 xs)) a-fits refl in
    let b-is : to_le_bytes w16 (from_le_bytes w16 b) ≡ b = le_bytes_2 b _ (omega (arith, length-take 2 (drop 4 xs), length-drop 4 xs)) b-fits refl in
    let c-is : to_le_bytes w16 (from_le_bytes w16 c) ≡ c = le_bytes_2 c _ (omega (arith, length-take 2 (drop 6 xs), length-drop 6 xs)) c-fits refl in
    let whole : wire_of (guid_of_wire xs) ≡ ((a ++ b) ++ c) ++ d =
    ap (λ (p : List ℕ). ((p ++ to_le_bytes w16 (from_le_bytes w16 b)) ++ to_le_bytes w16 (from_le_bytes w16 c)) ++ d) a-is
    ∙ ap (λ (p : List ℕ). ((a ++ p) ++ to_le_bytes w16 (from_le_bytes w16 c)) ++ d) b-is
    ∙ ap (λ (p : List ℕ). ((a ++ b) ++ p) ++ d) c-is in (
      whole ∙ joined xs,
      record {
        data1 = omega (arith, a-fits 0, a-fits 1, a-fits 2, a-fits 3);
        data2 = omega (arith, b-fits 0, b-fits 1);
        data3 = omega (arith, c-fits 0, c-fits 1);
        eight = omega (arith, length-drop 8 xs);
        bytes = IsBytes-drop 8 xs fits;
      },
    )
