-- Each kind of value: what is read is spelled so, and what is spelled so is read.
use Rattle.std.proofs.Common.{◌≡◌, ℕ, zero, suc, ◌+◌, ◌-◌, ◌%◌, ◌^◌, ◌<◌, ◌≤◌, Bool, true, false, cond, eqb, List, ◌++◌, length, drop, Option, Some, None, Result, Ok, Err, refl, sym, ap, subst, ◌∙◌, append_assoc, arith, inl, inr, ℤ}
use Rattle.std.specs.Int.{w32, w64, cast_unsigned, cast_signed}
use Rattle.std.specs.Str.{is_utf8}
use Rattle.std.proofs.lemmas.Bool.{eqb-true, eq-eqb, ne_eqb}
use Rattle.std.proofs.lemmas.List.{length-append, length-replicate}
use Rattle.std.proofs.lemmas.Int.{to_z-of_z, of_z-to_z}
use Rattle.std.proofs.Math.Facts.{sfits_to_z, Fits-of_lt, Fits-of_z}
use Rattle.std.proofs.lemmas.Str.{IsUtf8-from_is_utf8, is_utf8-from_IsUtf8}
use Rattle.com_base.specs.declared.guid.Guid.{Guid}
use Rattle.com_base.specs.declared.standard.StdFields.{StdFields}
use Rattle.com_base.specs.declared.value.Kind.{Kind}
use Rattle.com_base.specs.declared.value.Kind.TheVariants as kind
use Rattle.com_wire.specs.Fields.{IsBytes, number, guid, number_at, guid_at}
use Rattle.com_wire.specs.Steps.{◌>>=◌}
use Rattle.com_wire.proofs.Chosen.{bind_ok, guard_then, chosen, ok_is, err_is_not_ok}
use Rattle.com_wire.proofs.Fields.{Stands, Stands-then, wide32, wide64, number_takes, guid_takes, field_again, guid_field_again, length-number, length-guid, after}
use Rattle.objref.specs.declared.decoding.RefFault.{RefFault}
use Rattle.objref.specs.Grammar.{Reference, Strings, standard, handler, custom, spelling, IsReference}
use Rattle.objref.specs.Reading.{objref_of}
use Rattle.objref.proofs.Spelled.{objref_takes, objref_again}
use Rattle.ndr_args.specs.declared.wire.Wire.{Wire}
use Rattle.ndr_args.specs.declared.wire.Wire.TheVariants as wire
use Rattle.ndr_args.specs.declared.wire.ArgFault.{ArgFault}
use Rattle.ndr_args.specs.Grammar.{gap, align_of, zeros, counted, IsRef, IsArg}
use Rattle.ndr_args.specs.Reading.{fault, field, u32_field, zeros_at, count_at, part_at, counted_at, int_at, bool_at, text_at, bytes_at, guid_arg_at, std_fields, fields_at, held_at, ref_at, value_at}
use Rattle.ndr_args.proofs.Spelled.{zeros_take, zeros_again, field_is, u32_take, u32_again, u32_within, count_take, count_again, part_take, part_again, counted_take, counted_again}

-- a value was found at a position: its bytes, and where they end
abbrev pub Found : List ℕ → ℕ → Kind → Wire × ℕ → Type 0
Found bytes position k x = (text : List ℕ) × IsArg k x.0 text × Stands bytes position text x.1

abbrev some_of : {A : Type 0} → A → Option A
some_of x = Some x

some_same : {A : Type 0} (x y : A) → some_of x ≡ some_of y → x ≡ y
some_same x y e = cc

positive : (n : ℕ) → eqb n 0 ≡ false → 0 < n
positive zero e = absurd cc
positive (suc n) e = omega arith

-- ---- whole numbers

int_take : (bytes : List ℕ) (position : ℕ) (x : Wire × ℕ) → IsBytes bytes → int_at bytes position ≡ Ok x → Found bytes position kind.Int x
unfolding int_at
int_take bytes position x fits e =
    let a = bind_ok (field bytes (number_at w64 bytes position) (position + 8)) (λ n. Ok (wire.Int (cast_signed w64 n.0), n.1)) x e in
    let f = field_is bytes (number_at w64 bytes position) (position + 8) a.0 a.1 in
    let t = number_takes w64 (2 ^ 64) wide64 bytes position a.0.0 fits f.0 in
    let back : cast_unsigned w64 (cast_signed w64 a.0.0) ≡ a.0.0 = of_z-to_z w64 a.0.0 t.1 in
    let stands : Stands bytes position (number w64 a.0.0) a.0.1 = subst (λ (k : ℕ). Stands bytes position (number w64 a.0.0) k) (sym f.1) t.0 in
    subst (Found bytes position kind.Int) (ok_is {F = ArgFault} (wire.Int (cast_signed w64 a.0.0), a.0.1) x a.2)
    (number w64 a.0.0, (sfits_to_z (Fits-of_lt t.1), ap (number w64) (sym back)), stands)

int_again : (bytes : List ℕ) (position : ℕ) (z : ℤ) (text rest : List ℕ) → IsArg kind.Int (wire.Int z) text → drop position bytes ≡ text ++ rest → int_at bytes position ≡ Ok (wire.Int z, position + length text)
unfolding int_at
int_again bytes position z text rest is e =
    let u = cast_unsigned w64 z in
    let here : drop position bytes ≡ number w64 u ++ rest = e ∙ ap (λ (t : List ℕ). t ++ rest) is.1 in
    let f = field_again w64 (2 ^ 64) wide64 bytes position u rest (omega arith) (Fits-of_z is.0).fits here in
    let value : cast_signed w64 u ≡ z = to_z-of_z w64 z is.0 in
    let len : length text ≡ 8 = ap length is.1 ∙ length-number w64 (2 ^ 64) wide64 u in
    rw (f.0, value, len) refl

-- ---- truth values

bool_take : (bytes : List ℕ) (position : ℕ) (x : Wire × ℕ) → IsBytes bytes → bool_at bytes position ≡ Ok x → Found bytes position kind.Bool x
unfolding bool_at
bool_take bytes position x fits e =
    let a = bind_ok (u32_field bytes position) (λ n. cond (eqb n.0 0) (Ok (wire.Bool false, n.1)) (cond (eqb n.0 1) (Ok (wire.Bool true, n.1)) (Err (fault 3 position)))) x e in
    let t = u32_take bytes position a.0 fits a.1 in
    let stands : Stands bytes position (number w32 a.0.0) a.0.1 = subst (λ (k : ℕ). Stands bytes position (number w32 a.0.0) k) (sym t.2) t.0 in
    elim (chosen (eqb a.0.0 0) (Ok (wire.Bool false, a.0.1)) (cond (eqb a.0.0 1) (Ok (wire.Bool true, a.0.1)) (Err (fault 3 position))) (Ok x) a.2) [
      | inl off ↦ subst (Found bytes position kind.Bool) (ok_is {F = ArgFault} (wire.Bool false, a.0.1) x off.1) (number w32 a.0.0, ap (number w32) (eqb-true _ _ off.0), stands)
      | inr other ↦ elim (chosen (eqb a.0.0 1) (Ok (wire.Bool true, a.0.1)) (Err (fault 3 position)) (Ok x) other.1) [
        | inl on ↦ subst (Found bytes position kind.Bool) (ok_is {F = ArgFault} (wire.Bool true, a.0.1) x on.1) (number w32 a.0.0, ap (number w32) (eqb-true _ _ on.0), stands)
        | inr none ↦ absurd (err_is_not_ok (fault 3 position) x none.1)
      ]
    ]

bool_again : (bytes : List ℕ) (position : ℕ) (b : Bool) (text rest : List ℕ) → IsArg kind.Bool (wire.Bool b) text → drop position bytes ≡ text ++ rest → bool_at bytes position ≡ Ok (wire.Bool b, position + length text)
unfolding bool_at
bool_again bytes position true text rest is e =
    let u = u32_again bytes position 1 rest (omega arith) (e ∙ ap (λ (t : List ℕ). t ++ rest) is) in
    let len : length text ≡ 4 = ap length is ∙ length-number w32 (2 ^ 32) wide32 1 in
    rw (u.0, len) refl
bool_again bytes position false text rest is e =
    let u = u32_again bytes position 0 rest (omega arith) (e ∙ ap (λ (t : List ℕ). t ++ rest) is) in
    let len : length text ≡ 4 = ap length is ∙ length-number w32 (2 ^ 32) wide32 0 in
    rw (u.0, len) refl

-- ---- texts and bytes

text_take : (bytes : List ℕ) (position : ℕ) (x : Wire × ℕ) → IsBytes bytes → text_at bytes position ≡ Ok x → Found bytes position kind.Text x
unfolding text_at
text_take bytes position x fits e =
    let a = bind_ok (counted_at bytes position) (λ p. cond (is_utf8 p.0) (Ok (wire.Text p.0, p.1)) (Err (fault 4 (position + 4)))) x e in
    let g = guard_then (is_utf8 a.0.0) (Ok (wire.Text a.0.0, a.0.1)) (fault 4 (position + 4)) x a.2 in
    let t = counted_take bytes position a.0 fits a.1 in
    subst (Found bytes position kind.Text) (ok_is {F = ArgFault} (wire.Text a.0.0, a.0.1) x g.1) (counted a.0.0, (IsUtf8-from_is_utf8 a.0.0 g.0, t.1, refl), t.0)

bytes_take : (bytes : List ℕ) (position : ℕ) (x : Wire × ℕ) → IsBytes bytes → bytes_at bytes position ≡ Ok x → Found bytes position kind.Bytes x
unfolding bytes_at
bytes_take bytes position x fits e =
    let a = bind_ok (counted_at bytes position) (λ p. Ok (wire.Bytes p.0, p.1)) x e in
    let t = counted_take bytes position a.0 fits a.1 in
    subst (Found bytes position kind.Bytes) (ok_is {F = ArgFault} (wire.Bytes a.0.0, a.0.1) x a.2) (counted a.0.0, (t.1, refl), t.0)

pub length-counted : (t : List ℕ) → length (counted t) ≡ 4 + length t
length-counted t = omega (arith, length-append (number w32 (length t)) t, length-number w32 (2 ^ 32) wide32 (length t))

text_again : (bytes : List ℕ) (position : ℕ) (t text rest : List ℕ) → IsArg kind.Text (wire.Text t) text → drop position bytes ≡ text ++ rest → text_at bytes position ≡ Ok (wire.Text t, position + length text)
unfolding text_at
text_again bytes position t text rest is e =
    let c = counted_again bytes position t rest is.1 (e ∙ ap (λ (x : List ℕ). x ++ rest) is.2) in
    let utf8 : is_utf8 t ≡ true = is_utf8-from_IsUtf8 t is.0 in
    let end : position + 4 + length t ≡ position + length text = omega (arith, ap length is.2, length-counted t) in
    rw (c, utf8, end) refl

bytes_again : (bytes : List ℕ) (position : ℕ) (t text rest : List ℕ) → IsArg kind.Bytes (wire.Bytes t) text → drop position bytes ≡ text ++ rest → bytes_at bytes position ≡ Ok (wire.Bytes t, position + length text)
unfolding bytes_at
bytes_again bytes position t text rest is e =
    let c = counted_again bytes position t rest is.0 (e ∙ ap (λ (x : List ℕ). x ++ rest) is.1) in
    let end : position + 4 + length t ≡ position + length text = omega (arith, ap length is.1, length-counted t) in
    rw (c, end) refl

-- ---- GUIDs

guid_take : (bytes : List ℕ) (position : ℕ) (x : Wire × ℕ) → IsBytes bytes → guid_arg_at bytes position ≡ Ok x → Found bytes position kind.Guid x
unfolding guid_arg_at
guid_take bytes position x fits e =
    let a = bind_ok (field bytes (guid_at bytes position) (position + 16)) (λ g. Ok (wire.Guid g.0, g.1)) x e in
    let f = field_is bytes (guid_at bytes position) (position + 16) a.0 a.1 in
    let t = guid_takes bytes position a.0.0 fits f.0 in
    let stands : Stands bytes position (guid a.0.0) a.0.1 = subst (λ (k : ℕ). Stands bytes position (guid a.0.0) k) (sym f.1) t.0 in
    subst (Found bytes position kind.Guid) (ok_is {F = ArgFault} (wire.Guid a.0.0, a.0.1) x a.2) (guid a.0.0, (t.1, refl), stands)

guid_arg_again : (bytes : List ℕ) (position : ℕ) (g : Guid) (text rest : List ℕ) → IsArg kind.Guid (wire.Guid g) text → drop position bytes ≡ text ++ rest → guid_arg_at bytes position ≡ Ok (wire.Guid g, position + length text)
unfolding guid_arg_at
guid_arg_again bytes position g text rest is e =
    let f = guid_field_again bytes position g rest is.0 (e ∙ ap (λ (x : List ℕ). x ++ rest) is.1) in
    let len : length text ≡ 16 = ap length is.1 ∙ length-guid g is.0 in
    rw (f.0, len) refl

-- ---- references

-- the padding behind a part that begins at a multiple of four
gap_behind : (position n : ℕ) → position % 4 ≡ 0 → gap (position + n) 4 ≡ gap n 4
gap_behind position n even =
    let same : (position + n) % 4 ≡ n % 4 = omega (arith, even) in
    ap (λ (r : ℕ). (4 - r) % 4) same

std_fields_is : (r : Result Reference RefFault) (f : StdFields) → std_fields r ≡ Some f → (flags : ℕ) × (s : Strings) × (r ≡ Ok (standard f flags s))
std_fields_is (Ok (standard fields flags strings)) f e = (flags, strings, ap (λ (x : StdFields). Ok (standard x flags strings)) (some_same fields f e))
std_fields_is (Ok (handler fields flags clsid strings)) f e = absurd cc
std_fields_is (Ok (custom iid clsid extension unread payload)) f e = absurd cc
std_fields_is (Err d) f e = absurd cc

fields_are : (o : Option StdFields) (position : ℕ) (f : StdFields) → fields_at o position ≡ Ok f → o ≡ Some f
fields_are None position f e = absurd cc
fields_are (Some g) position f e = ap (λ (x : StdFields). Some x) (ok_is {F = ArgFault} g f e)

-- what stands behind a referent
record IsHeld (f : StdFields) (text : List ℕ) : Type 0 where
  flags : ℕ
  strings : Strings
  says : IsReference (standard f flags strings)
  brief : length (spelling (standard f flags strings)) ≤ 65536
  text_is : text ≡ number w32 (length (spelling (standard f flags strings)))
      ++ (number w32 (length (spelling (standard f flags strings)))
      ++ (spelling (standard f flags strings) ++ zeros (gap (length (spelling (standard f flags strings))) 4)))

abbrev pad_after : List ℕ → StdFields → ℕ → Result (StdFields × ℕ) ArgFault
pad_after bytes f end = zeros_at bytes (gap end 4) end >>= λ last. Ok (f, last)

held_take : (bytes : List ℕ) (position : ℕ) (x : StdFields × ℕ) → IsBytes bytes → position % 4 ≡ 0 → held_at bytes position ≡ Ok x → (text : List ℕ) × IsHeld x.0 text × Stands bytes position text x.1
unfolding held_at
held_take bytes position x fits even e =
    let a = bind_ok (count_at bytes position) (λ m. u32_field bytes m.1 >>= λ c. (cond (eqb c.0 m.0) (part_at bytes c.0 c.1) (Err (fault 5 m.1))) >>= λ p. fields_at (std_fields (objref_of p.0)) c.1 >>= λ f. pad_after bytes f p.1) x e in
    let b = bind_ok (u32_field bytes a.0.1) (λ c. (cond (eqb c.0 a.0.0) (part_at bytes c.0 c.1) (Err (fault 5 a.0.1))) >>= λ p. fields_at (std_fields (objref_of p.0)) c.1 >>= λ f. pad_after bytes f p.1) x a.2 in
    let p = bind_ok (cond (eqb b.0.0 a.0.0) (part_at bytes b.0.0 b.0.1) (Err (fault 5 a.0.1))) (λ p. fields_at (std_fields (objref_of p.0)) b.0.1 >>= λ f. pad_after bytes f p.1) x b.2 in
    let g = guard_then (eqb b.0.0 a.0.0) (part_at bytes b.0.0 b.0.1) (fault 5 a.0.1) p.0 p.1 in
    let f = bind_ok (fields_at (std_fields (objref_of p.0.0)) b.0.1) (λ f. pad_after bytes f p.0.1) x p.2 in
    let z = bind_ok (zeros_at bytes (gap p.0.1 4) p.0.1) (λ last. Ok (f.0, last)) x f.2 in
    let ta = count_take bytes position a.0 fits a.1 in
    let tb = u32_take bytes a.0.1 b.0 fits b.1 in
    let tp = part_take bytes b.0.0 b.0.1 p.0 fits g.1 in
    let tz = zeros_take bytes (gap p.0.1 4) p.0.1 z.0 tp.0.within z.1 in
    let n = length p.0.0 in
    let same : b.0.0 ≡ a.0.0 = eqb-true _ _ g.0 in
    let first : number w32 a.0.0 ≡ number w32 n = ap (number w32) (sym same ∙ sym tp.1) in
    let second : number w32 b.0.0 ≡ number w32 n = ap (number w32) (sym tp.1) in
    let end_is : p.0.1 ≡ position + 8 + n = omega (arith, tp.2, tb.2, ta.2, tp.1) in
    let pad : gap p.0.1 4 ≡ gap n 4 = ap (λ (k : ℕ). gap k 4) end_is ∙ gap_behind (position + 8) n (omega (arith, even)) in
    let said = std_fields_is (objref_of p.0.0) f.0 (fields_are (std_fields (objref_of p.0.0)) b.0.1 f.0 f.1) in
    let is = objref_takes p.0.0 (standard f.0 said.0 said.1) tp.3 said.2 in
    let sa : Stands bytes position (number w32 n) a.0.1 = subst (λ (t : List ℕ). Stands bytes position t a.0.1) first (subst (λ (k : ℕ). Stands bytes position (number w32 a.0.0) k) (sym ta.2) ta.0) in
    let sb : Stands bytes a.0.1 (number w32 n) b.0.1 = subst (λ (t : List ℕ). Stands bytes a.0.1 t b.0.1) second (subst (λ (k : ℕ). Stands bytes a.0.1 (number w32 b.0.0) k) (sym tb.2) tb.0) in
    let sz : Stands bytes p.0.1 (zeros (gap n 4)) z.0 = subst (λ (k : ℕ). Stands bytes p.0.1 (zeros k) z.0) pad tz.0 in
    let all = Stands-then bytes position a.0.1 z.0 _ _ sa (Stands-then bytes a.0.1 b.0.1 z.0 _ _ sb (Stands-then bytes b.0.1 p.0.1 z.0 _ _ tp.0 sz)) in
    let held : IsHeld f.0 (number w32 n ++ (number w32 n ++ (p.0.0 ++ zeros (gap n 4)))) = record {
      flags = said.0;
      strings = said.1;
      says = is.says;
      brief = omega (arith, ap length is.bytes_are, tp.1, same, ta.1);
      text_is = ap (λ (t : List ℕ). number w32 (length t) ++ (number w32 (length t) ++ (t ++ zeros (gap (length t) 4)))) is.bytes_are;
    } in
    subst (λ (y : StdFields × ℕ). (text : List ℕ) × IsHeld y.0 text × Stands bytes position text y.1) (ok_is {F = ArgFault} (f.0, z.0) x z.2)
    (number w32 n ++ (number w32 n ++ (p.0.0 ++ zeros (gap n 4))), held, all)

held_again : (bytes : List ℕ) (position : ℕ) (f : StdFields) (text rest : List ℕ) → position % 4 ≡ 0 → IsHeld f text → drop position bytes ≡ text ++ rest → held_at bytes position ≡ Ok (f, position + length text)
unfolding held_at
held_again bytes position f text rest even held e =
    let o = spelling (standard f held.flags held.strings) in
    let n = length o in
    let pad = zeros (gap n 4) in
    let here : drop position bytes ≡ number w32 n ++ (number w32 n ++ (o ++ (pad ++ rest))) = e ∙ ap (λ (t : List ℕ). t ++ rest) held.text_is ∙ simp append_assoc in
    let a = count_again bytes position n (number w32 n ++ (o ++ (pad ++ rest))) held.brief here in
    let b = u32_again bytes (position + 4) n (o ++ (pad ++ rest)) (omega (arith, held.brief)) a.1 in
    let p = part_again bytes (position + 4 + 4) o (pad ++ rest) (u32_within bytes (position + 4) n (o ++ (pad ++ rest)) a.1) b.1 in
    let behind = after bytes o (pad ++ rest) (position + 4 + 4) n b.1 refl in
    let end_gap : gap (position + 4 + 4 + n) 4 ≡ gap n 4 = gap_behind (position + 4 + 4) n (omega (arith, even)) in
    let z : zeros_at bytes (gap n 4) (position + 4 + 4 + n) ≡ Ok (position + 4 + 4 + n + gap n 4) = zeros_again bytes (gap n 4) (position + 4 + 4 + n) rest behind in
    let same : eqb n n ≡ true = eq-eqb n n refl in
    let read : objref_of o ≡ Ok (standard f held.flags held.strings) = objref_again (standard f held.flags held.strings) held.says in
    let len : position + 4 + 4 + n + gap n 4 ≡ position + length text =
    omega (arith, ap length held.text_is, length-append (number w32 n) (number w32 n ++ (o ++ pad)), length-append (number w32 n) (o ++ pad), length-append o pad, length-replicate {A = ℕ} (gap n 4) 0, length-number w32 (2 ^ 32) wide32 n) in
    rw (a.0, b.0, same, p, read, end_gap, z, len) refl

ref_take : (bytes : List ℕ) (position i : ℕ) (x : Wire × ℕ) → IsBytes bytes → position % 4 ≡ 0 → ref_at bytes position ≡ Ok x → Found bytes position (kind.Ref i) x
unfolding ref_at
ref_take bytes position i x fits even e =
    let a = bind_ok (u32_field bytes position) (λ r. cond (eqb r.0 0) (Ok (wire.Ref None, r.1)) (held_at bytes r.1 >>= λ h. Ok (wire.Ref (Some h.0), h.1))) x e in
    let t = u32_take bytes position a.0 fits a.1 in
    let stands : Stands bytes position (number w32 a.0.0) a.0.1 = subst (λ (k : ℕ). Stands bytes position (number w32 a.0.0) k) (sym t.2) t.0 in
    elim (chosen (eqb a.0.0 0) (Ok (wire.Ref None, a.0.1)) (held_at bytes a.0.1 >>= λ h. Ok (wire.Ref (Some h.0), h.1)) (Ok x) a.2) [
      | inl null ↦ subst (Found bytes position (kind.Ref i)) (ok_is {F = ArgFault} (wire.Ref None, a.0.1) x null.1) (number w32 a.0.0, ap (number w32) (eqb-true _ _ null.0), stands)
      | inr some ↦
          let h = bind_ok (held_at bytes a.0.1) (λ h. Ok (wire.Ref (Some h.0), h.1)) x some.1 in
          let u = held_take bytes a.0.1 h.0 fits (omega (arith, even, t.2)) h.1 in
          let both = Stands-then bytes position a.0.1 h.0.1 (number w32 a.0.0) u.0 stands u.2 in
          let is : IsRef h.0.0 (number w32 a.0.0 ++ u.0) = record {
            referent = a.0.0;
            flags = u.1.flags;
            strings = u.1.strings;
            some = positive a.0.0 some.0;
            fits = t.1;
            says = u.1.says;
            short = u.1.brief;
            text_is = ap (λ (r : List ℕ). number w32 a.0.0 ++ r) u.1.text_is;
          } in
          subst (Found bytes position (kind.Ref i)) (ok_is {F = ArgFault} (wire.Ref (Some h.0.0), h.0.1) x h.2) (number w32 a.0.0 ++ u.0, is, both)
    ]

null_again : (bytes : List ℕ) (position i : ℕ) (text rest : List ℕ) → IsArg (kind.Ref i) (wire.Ref None) text → drop position bytes ≡ text ++ rest → ref_at bytes position ≡ Ok (wire.Ref None, position + length text)
unfolding ref_at
null_again bytes position i text rest is e =
    let u = u32_again bytes position 0 rest (omega arith) (e ∙ ap (λ (t : List ℕ). t ++ rest) is) in
    let len : length text ≡ 4 = ap length is ∙ length-number w32 (2 ^ 32) wide32 0 in
    rw (u.0, len) refl

ref_again : (bytes : List ℕ) (position : ℕ) (f : StdFields) (text rest : List ℕ) → position % 4 ≡ 0 → IsRef f text → drop position bytes ≡ text ++ rest → ref_at bytes position ≡ Ok (wire.Ref (Some f), position + length text)
unfolding ref_at
ref_again bytes position f text rest even is e =
    let o = spelling (standard f is.flags is.strings) in
    let tail = number w32 (length o) ++ (number w32 (length o) ++ (o ++ zeros (gap (length o) 4))) in
    let here : drop position bytes ≡ number w32 is.referent ++ (tail ++ rest) = e ∙ ap (λ (t : List ℕ). t ++ rest) is.text_is ∙ append_assoc (number w32 is.referent) tail rest in
    let u = u32_again bytes position is.referent (tail ++ rest) is.fits here in
    let other : eqb is.referent 0 ≡ false = ne_eqb is.referent 0 (λ none. absurd (omega (arith, none, is.some))) in
    let h = held_again bytes (position + 4) f tail rest (omega (arith, even)) (record { flags = is.flags; strings = is.strings; says = is.says; brief = is.short; text_is = refl }) u.1 in
    let len : position + 4 + length tail ≡ position + length text = omega (arith, ap length is.text_is, length-append (number w32 is.referent) tail, length-number w32 (2 ^ 32) wide32 is.referent) in
    rw (u.0, other, h, len) refl

-- ---- any kind

pub value_take : (k : Kind) (bytes : List ℕ) (position : ℕ) (x : Wire × ℕ) → IsBytes bytes → position % align_of k ≡ 0 → value_at k bytes position ≡ Ok x → Found bytes position k x
value_take kind.Int bytes position x fits even e = int_take bytes position x fits e
value_take kind.Bool bytes position x fits even e = bool_take bytes position x fits e
value_take kind.Text bytes position x fits even e = text_take bytes position x fits e
value_take kind.Bytes bytes position x fits even e = bytes_take bytes position x fits e
value_take kind.Guid bytes position x fits even e = guid_take bytes position x fits e
value_take (kind.Ref i) bytes position x fits even e = ref_take bytes position i x fits even e

pub value_again : (k : Kind) (v : Wire) (bytes : List ℕ) (position : ℕ) (text rest : List ℕ) → position % align_of k ≡ 0 → IsArg k v text → drop position bytes ≡ text ++ rest → value_at k bytes position ≡ Ok (v, position + length text)
value_again kind.Int (wire.Int z) bytes position text rest even is e = int_again bytes position z text rest is e
value_again kind.Bool (wire.Bool b) bytes position text rest even is e = bool_again bytes position b text rest is e
value_again kind.Text (wire.Text t) bytes position text rest even is e = text_again bytes position t text rest is e
value_again kind.Bytes (wire.Bytes t) bytes position text rest even is e = bytes_again bytes position t text rest is e
value_again kind.Guid (wire.Guid g) bytes position text rest even is e = guid_arg_again bytes position g text rest is e
value_again (kind.Ref i) (wire.Ref None) bytes position text rest even is e = null_again bytes position i text rest is e
value_again (kind.Ref i) (wire.Ref (Some f)) bytes position text rest even is e = ref_again bytes position f text rest even is e
value_again k v bytes position text rest even is e = absurd is
