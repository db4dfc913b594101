-- What is read at a position stands there, and what stands there is read.
use Rattle.std.proofs.Common.{◌≡◌, ℕ, ◌+◌, ◌^◌, ◌<◌, ◌≤◌, Bool, true, false, cond, ltb, List, ◌++◌, length, take, drop, Some, None, refl, sym, ap, subst, ◌∙◌, append_assoc, arith}
use Rattle.std.specs.Int.{Width, w16, w32, w64, byte_len, from_le_bytes, to_le_bytes}
use Rattle.std.proofs.lemmas.Bool.{ltb-false, le-ltb}
use Rattle.std.proofs.lemmas.List.{take_at, drop_at, take-append-drop, length-append, length-take, length-drop, drop-drop}
use Rattle.std.proofs.lemmas.Nat.{le_bytes_2, le_bytes_4, le_bytes_8, from_le_bytes-to_le_bytes_2, from_le_bytes-to_le_bytes_4, from_le_bytes-to_le_bytes_8}
use Rattle.com_base.specs.declared.guid.Guid.{Guid}
use Rattle.com_base.specs.Guids.{wire_of, guid_of_wire}
use Rattle.com_base.proofs.RoundTrips.{wire_again, wire_back}
pub use Rattle.com_base.proofs.RoundTrips.{IsBytes-drop, IsBytes-take}
use Rattle.com_wire.specs.Fields.{IsBytes, number, guid, IsGuid, number_at, guid_at}

-- the value of a test that did not fail
pub some_is : {A : Type 0} (b : Bool) (x y : A) → cond b None (Some x) ≡ Some y → (b ≡ false) × (x ≡ y)
some_is true x y e = absurd cc
some_is false x y e = (refl, cc)

-- what stands at a position: these bytes, all of them
pub record Stands (bytes : List ℕ) (position : ℕ) (text : List ℕ) (after : ℕ) : Type 0 where
  pub parts : drop position bytes ≡ text ++ drop after bytes
  pub within : after ≤ length bytes

-- one after the other
pub Stands-then : (bytes : List ℕ) (a b c : ℕ) (x y : List ℕ) → Stands bytes a x b → Stands bytes b y c → Stands bytes a (x ++ y) c
Stands-then bytes a b c x y p q =
    record { parts = p.parts ∙ ap (λ (t : List ℕ). x ++ t) q.parts ∙ sym (append_assoc x y (drop c bytes)); within = q.within }

-- so many bytes from a position on
pub part_stands : (bytes : List ℕ) (position count : ℕ) → position + count ≤ length bytes → Stands bytes position (take count (drop position bytes)) (position + count)
part_stands bytes position count le =
    record { parts = sym (take-append-drop count (drop position bytes)) ∙ ap (λ (t : List ℕ). take count (drop position bytes) ++ t) (drop-drop count position bytes); within = le }

-- ---- numbers

pub record IsWide (w : Width) (limit : ℕ) : Type 0 where
  pub len : (n : ℕ) → length (to_le_bytes w n) ≡ byte_len w
  pub back : (bytes : List ℕ) → length bytes ≡ byte_len w → IsBytes bytes → to_le_bytes w (from_le_bytes w bytes) ≡ bytes
  pub again : (n : ℕ) → n < limit → from_le_bytes w (to_le_bytes w n) ≡ n
  pub below : (bytes : List ℕ) → IsBytes bytes → from_le_bytes w bytes < limit

pub wide16 : IsWide w16 (2 ^ 16)
wide16 = record {
  len = λ n. refl;
  back = λ bytes len fits. le_bytes_2 bytes _ len fits refl;
  again = λ n lt. from_le_bytes-to_le_bytes_2 n lt;
  below = λ bytes fits. omega (arith, fits 0, fits 1);
}

pub wide32 : IsWide w32 (2 ^ 32)
wide32 = record {
  len = λ n. refl;
  back = λ bytes len fits. le_bytes_4 bytes _ len fits refl;
  again = λ n lt. from_le_bytes-to_le_bytes_4 n lt;
  below = λ bytes fits. omega (arith, fits 0, fits 1, fits 2, fits 3);
}

pub wide64 : IsWide w64 (2 ^ 64)
wide64 = record {
  len = λ n. refl;
  back = λ bytes len fits. le_bytes_8 bytes _ len fits refl;
  again = λ n lt. from_le_bytes-to_le_bytes_8 n lt;
  below = λ bytes fits. omega (arith, fits 0, fits 1, fits 2, fits 3, fits 4, fits 5, fits 6, fits 7);
}

pub length-number : (w : Width) (limit : ℕ) (wide : IsWide w limit) (n : ℕ) → length (number w n) ≡ byte_len w
unfolding number
length-number w limit wide n = wide.len n

pub number_takes : (w : Width) (limit : ℕ) (wide : IsWide w limit) (bytes : List ℕ) (position n : ℕ) → IsBytes bytes → number_at w bytes position ≡ Some n → Stands bytes position (number w n) (position + byte_len w) × (n < limit)
unfolding number number_at
number_takes w limit wide bytes position n fits e =
    let part = take (byte_len w) (drop position bytes) in
    let g = some_is (ltb (length bytes) (position + byte_len w)) (from_le_bytes w part) n e in
    let long : position + byte_len w ≤ length bytes = ltb-false _ _ g.0 in
    let bound = IsBytes-take (byte_len w) (drop position bytes) (IsBytes-drop position bytes fits) in
    let whole : length part ≡ byte_len w = omega (arith, length-take (byte_len w) (drop position bytes), length-drop position bytes) in
    let text : to_le_bytes w n ≡ part = rw (← g.1) (wide.back part whole bound) in
    (subst (λ (t : List ℕ). Stands bytes position t (position + byte_len w)) (sym text) (part_stands bytes position (byte_len w) long), rw (← g.1) (wide.below part bound))

-- how long a list is whose rest is known
within_by : (bytes text rest : List ℕ) (position : ℕ) → drop position bytes ≡ text ++ rest → 0 < length text → position + length text ≤ length bytes
within_by bytes text rest position e some = omega (arith, length-drop position bytes, length-append text rest, ap length e)

pub number_again : (w : Width) (limit : ℕ) (wide : IsWide w limit) (bytes : List ℕ) (position n : ℕ) (rest : List ℕ) → 0 < byte_len w → n < limit → drop position bytes ≡ number w n ++ rest → number_at w bytes position ≡ Some n
unfolding number number_at
number_again w limit wide bytes position n rest some lt e =
    let len = wide.len n in
    let within : position + byte_len w ≤ length bytes = rw (← len) (within_by bytes (to_le_bytes w n) rest position e (rw len some)) in
    let long : ltb (length bytes) (position + byte_len w) ≡ false = le-ltb _ _ within in
    rw (long, e, take_at (to_le_bytes w n) rest (byte_len w) len, wide.again n lt) refl

pub after : (bytes text rest : List ℕ) (position count : ℕ) → drop position bytes ≡ text ++ rest → length text ≡ count → drop (position + count) bytes ≡ rest
after bytes text rest position count e len =
    sym (drop-drop count position bytes) ∙ ap (drop count) e ∙ drop_at text rest count len

-- ---- GUIDs

pub length-guid : (g : Guid) → IsGuid g → length (guid g) ≡ 16
unfolding guid
length-guid g fits = omega (arith, fits.eight)

pub guid_takes : (bytes : List ℕ) (position : ℕ) (g : Guid) → IsBytes bytes → guid_at bytes position ≡ Some g → Stands bytes position (guid g) (position + 16) × IsGuid g
unfolding guid guid_at
guid_takes bytes position g fits e =
    let part = take 16 (drop position bytes) in
    let t = some_is (ltb (length bytes) (position + 16)) (guid_of_wire part) g e in
    let long : position + 16 ≤ length bytes = ltb-false _ _ t.0 in
    let bound = IsBytes-take 16 (drop position bytes) (IsBytes-drop position bytes fits) in
    let whole : length part ≡ 16 = omega (arith, length-take 16 (drop position bytes), length-drop position bytes) in
    let back = wire_back part whole bound in
    let text : wire_of g ≡ part = subst (λ (x : Guid). wire_of x ≡ part) t.1 back.0 in
    (subst (λ (x : List ℕ). Stands bytes position x (position + 16)) (sym text) (part_stands bytes position 16 long), subst IsGuid t.1 back.1)

pub guid_again : (bytes : List ℕ) (position : ℕ) (g : Guid) (rest : List ℕ) → IsGuid g → drop position bytes ≡ guid g ++ rest → guid_at bytes position ≡ Some g
unfolding guid guid_at
guid_again bytes position g rest fits e =
    let len : length (wire_of g) ≡ 16 = omega (arith, fits.eight) in
    let within : position + 16 ≤ length bytes = rw (← len) (within_by bytes (wire_of g) rest position e (omega (arith, len))) in
    let long : ltb (length bytes) (position + 16) ≡ false = le-ltb _ _ within in
    let front : take 16 (drop position bytes) ≡ wire_of g = ap (take 16) e ∙ take_at (wire_of g) rest 16 len in
    rw long (ap (λ (t : List ℕ). Some (guid_of_wire t)) front ∙ ap (λ (x : Guid). Some x) (wire_again g fits))

-- ---- what is read, and what stands behind it

pub field_again : (w : Width) (limit : ℕ) (wide : IsWide w limit) (bytes : List ℕ) (position n : ℕ) (rest : List ℕ) → 0 < byte_len w → n < limit → drop position bytes ≡ number w n ++ rest
    → (number_at w bytes position ≡ Some n) × (drop (position + byte_len w) bytes ≡ rest)
field_again w limit wide bytes position n rest some lt e =
    (number_again w limit wide bytes position n rest some lt e, after bytes (number w n) rest position (byte_len w) e (length-number w limit wide n))

pub guid_field_again : (bytes : List ℕ) (position : ℕ) (g : Guid) (rest : List ℕ) → IsGuid g → drop position bytes ≡ guid g ++ rest
    → (guid_at bytes position ≡ Some g) × (drop (position + 16) bytes ≡ rest)
guid_field_again bytes position g rest fits e = (guid_again bytes position g rest fits e, after bytes (guid g) rest position 16 e (length-guid g fits))
