-- What is read is spelled so, and what is spelled so is read.
use Rattle.std.proofs.Common.{◌≡◌, ℕ, ◌+◌, ◌*◌, ◌^◌, ◌<◌, ◌≤◌, true, false, cond, ltb, eqb, List, [], ◌∷◌, ◌++◌, length, drop, Option, Some, None, Result, Ok, Err, refl, sym, ap, subst, ◌∙◌, append_assoc, arith, inl, inr}
use Rattle.std.specs.Prelude.{IfOk}
use Rattle.std.specs.Int.{Width, w16, w32, w64, byte_len}
use Rattle.std.proofs.lemmas.Bool.{ltb-false, le-ltb, lt-ltb, eqb-true}
use Rattle.std.proofs.lemmas.List.{length-drop, length-append, append-nil}
use Rattle.com_base.specs.declared.guid.Guid.{Guid}
use Rattle.com_base.specs.declared.standard.StdFields.{StdFields}
use Rattle.com_wire.specs.Fields.{IsBytes, number, guid, IsGuid, number_at, guid_at}
use Rattle.com_wire.specs.Steps.{◌>>=◌}
use Rattle.com_wire.proofs.Chosen.{bind_ok, guard_ok, guard_then, chosen, ok_is, err_is_not_ok}
use Rattle.com_wire.proofs.Fields.{Stands, Stands-then, IsWide, wide16, wide32, wide64, number_takes, guid_takes, length-number, length-guid, field_again, guid_field_again, some_is}
use Rattle.objref.specs.declared.decoding.RefFault.{RefFault}
use Rattle.objref.specs.declared.decoding.ObjRef.{ObjRef}
use Rattle.objref.specs.Grammar.{reference_of, Strings, Reference, standard, handler, custom, header, standard_body, strings, spelling, IsStdFields, IsStrings, IsReference, IsObjRef, HasEnd, said_of, written_of}
use Rattle.objref.specs.Reading.{Gives, fault, whole, standard_at, strings_at, standard_ref, handler_ref, custom_ref, objref_of}

whole_is : {A : Type 0} (bytes : List ℕ) (o : Option A) (x : A) → whole bytes o ≡ Ok x → o ≡ Some x
whole_is bytes None x e = absurd cc
whole_is bytes (Some y) x e = cc

pub long_enough : (bytes : List ℕ) (position n : ℕ) (o : Option ℕ) → o ≡ number_at w32 bytes position → whole bytes o ≡ Ok n → position + 4 ≤ length bytes
unfolding number_at
long_enough bytes position n o is e =
    let read : number_at w32 bytes position ≡ Some n = sym is ∙ whole_is bytes o n e in
    ltb-false _ _ (some_is (ltb (length bytes) (position + 4)) _ n read).0

field_long : (bytes : List ℕ) (position n : ℕ) → number_at w16 bytes position ≡ Some n → position + 2 ≤ length bytes
unfolding number_at
field_long bytes position n e = ltb-false _ _ (some_is (ltb (length bytes) (position + 2)) _ n e).0

-- ---- fields

field_takes : (w : Width) (limit : ℕ) (wide : IsWide w limit) (bytes : List ℕ) (position n : ℕ) → IsBytes bytes → whole bytes (number_at w bytes position) ≡ Ok n → Stands bytes position (number w n) (position + byte_len w) × (n < limit)
field_takes w limit wide bytes position n fits e = number_takes w limit wide bytes position n fits (whole_is bytes (number_at w bytes position) n e)

guid_field_takes : (bytes : List ℕ) (position : ℕ) (g : Guid) → IsBytes bytes → whole bytes (guid_at bytes position) ≡ Ok g → Stands bytes position (guid g) (position + 16) × IsGuid g
guid_field_takes bytes position g fits e = guid_takes bytes position g fits (whole_is bytes (guid_at bytes position) g e)

-- ---- STDOBJREF

abbrev body : Guid → ℕ → ℕ → ℕ → ℕ → Guid → StdFields × ℕ
body iid flags refs oxid oid ipid = (record { iid = iid; refs = refs; oxid = oxid; oid = oid; ipid = ipid }, flags)

standard_takes : (bytes : List ℕ) (iid : Guid) (x : StdFields × ℕ) → IsBytes bytes → IsGuid iid → standard_at bytes iid ≡ Ok x
    → Stands bytes 24 (standard_body x.1 x.0) 64 × IsStdFields x.0 × (x.1 < 2 ^ 32) × (x.0.iid ≡ iid)
unfolding standard_at standard_body
standard_takes bytes iid x fits iid_fits e =
    let a = bind_ok (whole bytes (number_at w32 bytes 24)) (λ flags. whole bytes (number_at w32 bytes 28) >>= λ refs. whole bytes (number_at w64 bytes 32) >>= λ oxid. whole bytes (number_at w64 bytes 40) >>= λ oid. whole bytes (guid_at bytes 48) >>= λ ipid. Ok (body iid flags refs oxid oid ipid)) x e in
    let b = bind_ok (whole bytes (number_at w32 bytes 28)) (λ refs. whole bytes (number_at w64 bytes 32) >>= λ oxid. whole bytes (number_at w64 bytes 40) >>= λ oid. whole bytes (guid_at bytes 48) >>= λ ipid. Ok (body iid a.0 refs oxid oid ipid)) x a.2 in
    let c = bind_ok (whole bytes (number_at w64 bytes 32)) (λ oxid. whole bytes (number_at w64 bytes 40) >>= λ oid. whole bytes (guid_at bytes 48) >>= λ ipid. Ok (body iid a.0 b.0 oxid oid ipid)) x b.2 in
    let d = bind_ok (whole bytes (number_at w64 bytes 40)) (λ oid. whole bytes (guid_at bytes 48) >>= λ ipid. Ok (body iid a.0 b.0 c.0 oid ipid)) x c.2 in
    let g = bind_ok (whole bytes (guid_at bytes 48)) (λ ipid. Ok (body iid a.0 b.0 c.0 d.0 ipid)) x d.2 in
    let ta = field_takes w32 (2 ^ 32) wide32 bytes 24 a.0 fits a.1 in
    let tb = field_takes w32 (2 ^ 32) wide32 bytes 28 b.0 fits b.1 in
    let tc = field_takes w64 (2 ^ 64) wide64 bytes 32 c.0 fits c.1 in
    let td = field_takes w64 (2 ^ 64) wide64 bytes 40 d.0 fits d.1 in
    let tg = guid_field_takes bytes 48 g.0 fits g.1 in
    let all = Stands-then bytes 24 28 64 _ _ ta.0 (Stands-then bytes 28 32 64 _ _ tb.0 (Stands-then bytes 32 40 64 _ _ tc.0 (Stands-then bytes 40 48 64 _ _ td.0 tg.0))) in
    subst (λ (y : StdFields × ℕ). Stands bytes 24 (standard_body y.1 y.0) 64 × IsStdFields y.0 × (y.1 < 2 ^ 32) × (y.0.iid ≡ iid)) (ok_is (body iid a.0 b.0 c.0 d.0 g.0) x g.2)
    (all, record { iid = iid_fits; refs = tb.1; oxid = tc.1; oid = td.1; ipid = tg.1 }, ta.1, refl)

standard_again : (bytes : List ℕ) (fields : StdFields) (flags : ℕ) (rest : List ℕ) → IsStdFields fields → flags < 2 ^ 32 → drop 24 bytes ≡ standard_body flags fields ++ rest
    → (standard_at bytes fields.iid ≡ Ok (fields, flags)) × (drop 64 bytes ≡ rest)
unfolding standard_at standard_body
standard_again bytes fields flags rest fits lt e =
    let regrouped : drop 24 bytes ≡ number w32 flags ++ (number w32 fields.refs ++ (number w64 fields.oxid ++ (number w64 fields.oid ++ (guid fields.ipid ++ rest)))) = e ∙ simp append_assoc in
    let a = field_again w32 (2 ^ 32) wide32 bytes 24 flags (number w32 fields.refs ++ (number w64 fields.oxid ++ (number w64 fields.oid ++ (guid fields.ipid ++ rest)))) (omega arith) lt regrouped in
    let b = field_again w32 (2 ^ 32) wide32 bytes 28 fields.refs (number w64 fields.oxid ++ (number w64 fields.oid ++ (guid fields.ipid ++ rest))) (omega arith) fits.refs a.1 in
    let c = field_again w64 (2 ^ 64) wide64 bytes 32 fields.oxid (number w64 fields.oid ++ (guid fields.ipid ++ rest)) (omega arith) fits.oxid b.1 in
    let d = field_again w64 (2 ^ 64) wide64 bytes 40 fields.oid (guid fields.ipid ++ rest) (omega arith) fits.oid c.1 in
    let g = guid_field_again bytes 48 fields.ipid rest fits.ipid d.1 in
    (rw (a.0, b.0, c.0, d.0, g.0) refl, g.1)

-- ---- DUALSTRINGARRAY

abbrev array : ℕ → ℕ → List ℕ → Strings
array entries security values = record { entries = entries; security = security; values = values }

abbrev ends_in : List ℕ → ℕ → ℕ → ℕ → Result Strings RefFault
ends_in bytes position entries security =
    cond (ltb entries security) (Err (fault 4 (position + 2))) (cond (ltb (length bytes) (position + 4 + 2 * entries)) (Err (fault 1 (length bytes))) (cond (ltb (position + 4 + 2 * entries) (length bytes)) (Err (fault 5 (position + 4 + 2 * entries))) (Ok (array entries security (drop (position + 4) bytes)))))

strings_take : (bytes : List ℕ) (position : ℕ) (s : Strings) → IsBytes bytes → strings_at bytes position ≡ Ok s → (drop position bytes ≡ strings s) × IsStrings s
unfolding strings_at strings
strings_take bytes position s fits e =
    let a = bind_ok (whole bytes (number_at w16 bytes position)) (λ entries. whole bytes (number_at w16 bytes (position + 2)) >>= λ security. ends_in bytes position entries security) s e in
    let b = bind_ok (whole bytes (number_at w16 bytes (position + 2))) (λ security. ends_in bytes position a.0 security) s a.2 in
    let g1 = guard_ok (ltb a.0 b.0) (fault 4 (position + 2)) _ s b.2 in
    let g2 = guard_ok (ltb (length bytes) (position + 4 + 2 * a.0)) (fault 1 (length bytes)) _ s g1.1 in
    let g3 = guard_ok (ltb (position + 4 + 2 * a.0) (length bytes)) (fault 5 (position + 4 + 2 * a.0)) _ s g2.1 in
    let ta = field_takes w16 (2 ^ 16) wide16 bytes position a.0 fits a.1 in
    let tb = field_takes w16 (2 ^ 16) wide16 bytes (position + 2) b.0 fits b.1 in
    let le1 : b.0 ≤ a.0 = ltb-false _ _ g1.0 in
    let le2 : position + 4 + 2 * a.0 ≤ length bytes = ltb-false _ _ g2.0 in
    let le3 : length bytes ≤ position + 4 + 2 * a.0 = ltb-false _ _ g3.0 in
    let four : position + 2 + 2 ≡ position + 4 = omega arith in
    let both : drop position bytes ≡ number w16 a.0 ++ (number w16 b.0 ++ drop (position + 4) bytes) =
    ta.0.parts ∙ ap (λ (t : List ℕ). number w16 a.0 ++ t) (tb.0.parts ∙ ap (λ (k : ℕ). number w16 b.0 ++ drop k bytes) four) in
    subst (λ (y : Strings). (drop position bytes ≡ strings y) × IsStrings y) (ok_is (array a.0 b.0 (drop (position + 4) bytes)) s g3.1)
    (both, record { entries = ta.1; security = le1; values = omega (arith, length-drop (position + 4) bytes) })

-- what stands behind the array decides: nothing, or a fault
strings_read : (bytes : List ℕ) (position : ℕ) (s : Strings) (more : List ℕ) → IsStrings s → drop position bytes ≡ strings s ++ more
    → (more ≡ [] → strings_at bytes position ≡ Ok s) × (0 < length more → strings_at bytes position ≡ Err (fault 5 (position + 4 + 2 * s.entries)))
unfolding strings_at strings
strings_read bytes position s more fits e =
    let regrouped : drop position bytes ≡ number w16 s.entries ++ (number w16 s.security ++ (s.values ++ more)) = e ∙ simp append_assoc in
    let a = field_again w16 (2 ^ 16) wide16 bytes position s.entries (number w16 s.security ++ (s.values ++ more)) (omega arith) fits.entries regrouped in
    let b = field_again w16 (2 ^ 16) wide16 bytes (position + 2) s.security (s.values ++ more) (omega arith) (omega (arith, fits.security, fits.entries)) a.1 in
    let four : position + 2 + 2 ≡ position + 4 = omega arith in
    let behind : drop (position + 4) bytes ≡ s.values ++ more = ap (λ (k : ℕ). drop k bytes) (sym four) ∙ b.1 in
    let two = field_long bytes (position + 2) s.security b.0 in
    let long : length bytes ≡ position + 4 + 2 * s.entries + length more = omega (arith, two, length-drop (position + 4) bytes, length-append s.values more, ap length behind, fits.values) in
    let t1 : ltb s.entries s.security ≡ false = le-ltb _ _ fits.security in
    let t2 : ltb (length bytes) (position + 4 + 2 * s.entries) ≡ false = le-ltb _ _ (omega (arith, long)) in (
      λ none.
          let t3 : ltb (position + 4 + 2 * s.entries) (length bytes) ≡ false = le-ltb _ _ (omega (arith, long, ap length none)) in
          let values : drop (position + 4) bytes ≡ s.values = behind ∙ ap (λ (t : List ℕ). s.values ++ t) none ∙ append-nil s.values in
          rw (a.0, b.0, t1, t2, t3, values) refl,
      λ some.
          let t3 : ltb (position + 4 + 2 * s.entries) (length bytes) ≡ true = lt-ltb _ _ (omega (arith, long, some)) in
          rw (a.0, b.0, t1, t2, t3) refl,
    )

-- ---- the signature, the flags and the IID

record Heads (bytes : List ℕ) (flags : ℕ) : Type 0 where
  signature : number_at w32 bytes 0 ≡ Some 0x574f454d
  flags_are : number_at w32 bytes 4 ≡ Some flags

heads_take : (bytes : List ℕ) (flags : ℕ) (iid : Guid) → IsBytes bytes → Heads bytes flags → whole bytes (guid_at bytes 8) ≡ Ok iid → Stands bytes 0 (header flags iid) 24 × IsGuid iid
unfolding header
heads_take bytes flags iid fits heads e =
    let a = number_takes w32 (2 ^ 32) wide32 bytes 0 0x574f454d fits heads.signature in
    let b = number_takes w32 (2 ^ 32) wide32 bytes 4 flags fits heads.flags_are in
    let g = guid_field_takes bytes 8 iid fits e in
    (Stands-then bytes 0 4 24 _ _ a.0 (Stands-then bytes 4 8 24 _ _ b.0 g.0), g.1)

heads_again : (bytes : List ℕ) (flags : ℕ) (iid : Guid) (rest : List ℕ) → flags < 2 ^ 32 → IsGuid iid → bytes ≡ header flags iid ++ rest
    → Heads bytes flags × (guid_at bytes 8 ≡ Some iid) × (drop 24 bytes ≡ rest)
unfolding header
heads_again bytes flags iid rest lt fits e =
    let regrouped : bytes ≡ number w32 0x574f454d ++ (number w32 flags ++ (guid iid ++ rest)) = e ∙ simp append_assoc in
    let a = field_again w32 (2 ^ 32) wide32 bytes 0 0x574f454d (number w32 flags ++ (guid iid ++ rest)) (omega arith) (omega arith) regrouped in
    let b = field_again w32 (2 ^ 32) wide32 bytes 4 flags (guid iid ++ rest) (omega arith) lt a.1 in
    let g = guid_field_again bytes 8 iid rest fits b.1 in
    (record { signature = a.0; flags_are = b.0 }, g.0, g.1)

-- ---- the three cases, as they are read

standard_ref_takes : (bytes : List ℕ) (r : Reference) → IsBytes bytes → Heads bytes 1 → standard_ref bytes ≡ Ok r → IsObjRef bytes r
unfolding standard_ref
standard_ref_takes bytes r fits heads e =
    let a = bind_ok (whole bytes (guid_at bytes 8)) (λ iid. standard_at bytes iid >>= λ x. strings_at bytes 64 >>= λ s. Ok (standard x.0 x.1 s)) r e in
    let b = bind_ok (standard_at bytes a.0) (λ x. strings_at bytes 64 >>= λ s. Ok (standard x.0 x.1 s)) r a.2 in
    let c = bind_ok (strings_at bytes 64) (λ s. Ok (standard b.0.0 b.0.1 s)) r b.2 in
    let h = heads_take bytes 1 a.0 fits heads a.1 in
    let t = standard_takes bytes a.0 b.0 fits h.1 b.1 in
    let u = strings_take bytes 64 c.0 fits c.1 in
    let tail : drop 24 bytes ≡ standard_body b.0.1 b.0.0 ++ strings c.0 = t.0.parts ∙ ap (λ (x : List ℕ). standard_body b.0.1 b.0.0 ++ x) u.0 in
    let all : bytes ≡ header 1 a.0 ++ (standard_body b.0.1 b.0.0 ++ strings c.0) = h.0.parts ∙ ap (λ (x : List ℕ). header 1 a.0 ++ x) tail in
    let by_fields : bytes ≡ spelling (standard b.0.0 b.0.1 c.0) = all ∙ ap (λ (g : Guid). header 1 g ++ (standard_body b.0.1 b.0.0 ++ strings c.0)) (sym t.3) in
    subst (IsObjRef bytes) (ok_is (standard b.0.0 b.0.1 c.0) r c.2) (record { says = (t.1, t.2, u.1); bytes_are = by_fields })

handler_ref_takes : (bytes : List ℕ) (r : Reference) → IsBytes bytes → Heads bytes 2 → handler_ref bytes ≡ Ok r → IsObjRef bytes r
unfolding handler_ref
handler_ref_takes bytes r fits heads e =
    let a = bind_ok (whole bytes (guid_at bytes 8)) (λ iid. standard_at bytes iid >>= λ x. whole bytes (guid_at bytes 64) >>= λ clsid. strings_at bytes 80 >>= λ s. Ok (handler x.0 x.1 clsid s)) r e in
    let b = bind_ok (standard_at bytes a.0) (λ x. whole bytes (guid_at bytes 64) >>= λ clsid. strings_at bytes 80 >>= λ s. Ok (handler x.0 x.1 clsid s)) r a.2 in
    let g = bind_ok (whole bytes (guid_at bytes 64)) (λ clsid. strings_at bytes 80 >>= λ s. Ok (handler b.0.0 b.0.1 clsid s)) r b.2 in
    let c = bind_ok (strings_at bytes 80) (λ s. Ok (handler b.0.0 b.0.1 g.0 s)) r g.2 in
    let h = heads_take bytes 2 a.0 fits heads a.1 in
    let t = standard_takes bytes a.0 b.0 fits h.1 b.1 in
    let v = guid_field_takes bytes 64 g.0 fits g.1 in
    let u = strings_take bytes 80 c.0 fits c.1 in
    let last : drop 64 bytes ≡ guid g.0 ++ strings c.0 = v.0.parts ∙ ap (λ (x : List ℕ). guid g.0 ++ x) u.0 in
    let tail : drop 24 bytes ≡ standard_body b.0.1 b.0.0 ++ (guid g.0 ++ strings c.0) = t.0.parts ∙ ap (λ (x : List ℕ). standard_body b.0.1 b.0.0 ++ x) last in
    let all : bytes ≡ header 2 a.0 ++ (standard_body b.0.1 b.0.0 ++ (guid g.0 ++ strings c.0)) = h.0.parts ∙ ap (λ (x : List ℕ). header 2 a.0 ++ x) tail in
    let by_fields : bytes ≡ spelling (handler b.0.0 b.0.1 g.0 c.0) = all ∙ ap (λ (i : Guid). header 2 i ++ (standard_body b.0.1 b.0.0 ++ (guid g.0 ++ strings c.0))) (sym t.3) in
    subst (IsObjRef bytes) (ok_is (handler b.0.0 b.0.1 g.0 c.0) r c.2) (record { says = (t.1, t.2, v.1, u.1); bytes_are = by_fields })

custom_ref_takes : (bytes : List ℕ) (r : Reference) → IsBytes bytes → Heads bytes 4 → custom_ref bytes ≡ Ok r → IsObjRef bytes r
unfolding custom_ref
custom_ref_takes bytes r fits heads e =
    let payload = drop 48 bytes in
    let a = bind_ok (whole bytes (guid_at bytes 8)) (λ iid. whole bytes (guid_at bytes 24) >>= λ clsid. whole bytes (number_at w32 bytes 40) >>= λ extension. whole bytes (number_at w32 bytes 44) >>= λ unread. Ok (custom iid clsid extension unread payload)) r e in
    let b = bind_ok (whole bytes (guid_at bytes 24)) (λ clsid. whole bytes (number_at w32 bytes 40) >>= λ extension. whole bytes (number_at w32 bytes 44) >>= λ unread. Ok (custom a.0 clsid extension unread payload)) r a.2 in
    let c = bind_ok (whole bytes (number_at w32 bytes 40)) (λ extension. whole bytes (number_at w32 bytes 44) >>= λ unread. Ok (custom a.0 b.0 extension unread payload)) r b.2 in
    let d = bind_ok (whole bytes (number_at w32 bytes 44)) (λ unread. Ok (custom a.0 b.0 c.0 unread payload)) r c.2 in
    let h = heads_take bytes 4 a.0 fits heads a.1 in
    let t = guid_field_takes bytes 24 b.0 fits b.1 in
    let u = field_takes w32 (2 ^ 32) wide32 bytes 40 c.0 fits c.1 in
    let v = field_takes w32 (2 ^ 32) wide32 bytes 44 d.0 fits d.1 in
    let last : drop 40 bytes ≡ number w32 c.0 ++ (number w32 d.0 ++ payload) = u.0.parts ∙ ap (λ (x : List ℕ). number w32 c.0 ++ x) v.0.parts in
    let tail : drop 24 bytes ≡ guid b.0 ++ (number w32 c.0 ++ (number w32 d.0 ++ payload)) = t.0.parts ∙ ap (λ (x : List ℕ). guid b.0 ++ x) last in
    let all : bytes ≡ spelling (custom a.0 b.0 c.0 d.0 payload) = h.0.parts ∙ ap (λ (x : List ℕ). header 4 a.0 ++ x) tail in
    subst (IsObjRef bytes) (ok_is (custom a.0 b.0 c.0 d.0 payload) r d.2) (record { says = (h.1, t.1, u.1, v.1); bytes_are = all })

abbrev by_flags : List ℕ → ℕ → Result Reference RefFault
by_flags bytes flags = cond (eqb flags 1) (standard_ref bytes) (cond (eqb flags 2) (handler_ref bytes) (cond (eqb flags 4) (custom_ref bytes) (Err (fault 3 4))))

by_flags_takes : (bytes : List ℕ) (flags : ℕ) (r : Reference) → IsBytes bytes → Heads bytes flags → by_flags bytes flags ≡ Ok r → IsObjRef bytes r
by_flags_takes bytes flags r fits heads e =
    elim (chosen (eqb flags 1) _ _ _ e) [
      | inl one ↦ standard_ref_takes bytes r fits (subst (Heads bytes) (eqb-true _ _ one.0) heads) one.1
      | inr other ↦ elim (chosen (eqb flags 2) _ _ _ other.1) [
        | inl two ↦ handler_ref_takes bytes r fits (subst (Heads bytes) (eqb-true _ _ two.0) heads) two.1
        | inr more ↦ elim (chosen (eqb flags 4) _ _ _ more.1) [
          | inl four ↦ custom_ref_takes bytes r fits (subst (Heads bytes) (eqb-true _ _ four.0) heads) four.1
          | inr none ↦ absurd (err_is_not_ok (fault 3 4) r none.1)
        ]
      ]
    ]

-- what is read is spelled so
pub objref_takes : (bytes : List ℕ) (r : Reference) → IsBytes bytes → objref_of bytes ≡ Ok r → IsObjRef bytes r
unfolding objref_of
objref_takes bytes r fits e =
    let a = bind_ok (whole bytes (number_at w32 bytes 0)) (λ signature. cond (eqb signature 0x574f454d) (whole bytes (number_at w32 bytes 4) >>= λ flags. by_flags bytes flags) (Err (fault 2 0))) r e in
    let g = guard_then (eqb a.0 0x574f454d) (whole bytes (number_at w32 bytes 4) >>= λ flags. by_flags bytes flags) (fault 2 0) r a.2 in
    let b = bind_ok (whole bytes (number_at w32 bytes 4)) (λ flags. by_flags bytes flags) r g.1 in
    let signature : number_at w32 bytes 0 ≡ Some 0x574f454d = whole_is bytes (number_at w32 bytes 0) a.0 a.1 ∙ ap (λ (n : ℕ). Some n) (eqb-true _ _ g.0) in
    by_flags_takes bytes b.0 r fits (record { signature = signature; flags_are = whole_is bytes (number_at w32 bytes 4) b.0 b.1 }) b.2

-- ---- the three cases, as they are spelled

-- what stands behind decides: nothing, or a fault
abbrev Reads : List ℕ → Reference → List ℕ → Type 0
Reads bytes r more = (more ≡ [] → objref_of bytes ≡ Ok r) × (0 < length more → (at : ℕ) × (objref_of bytes ≡ Err (fault 5 at)))

standard_reads : (bytes : List ℕ) (fields : StdFields) (flags : ℕ) (s : Strings) (more : List ℕ) → IsReference (standard fields flags s) → bytes ≡ spelling (standard fields flags s) ++ more
    → Reads bytes (standard fields flags s) more
unfolding objref_of standard_ref
standard_reads bytes fields flags s more fits e =
    let regrouped : bytes ≡ header 1 fields.iid ++ (standard_body flags fields ++ (strings s ++ more)) = e ∙ simp append_assoc in
    let h = heads_again bytes 1 fields.iid (standard_body flags fields ++ (strings s ++ more)) (omega arith) fits.0.iid regrouped in
    let t = standard_again bytes fields flags (strings s ++ more) fits.0 fits.1 h.2 in
    let u = strings_read bytes 64 s more fits.2 t.1 in (
      λ none. let v = u.0 none in rw (h.0.signature, h.0.flags_are, h.1, t.0, v) refl,
      λ some. let v = u.1 some in (64 + 4 + 2 * s.entries, rw (h.0.signature, h.0.flags_are, h.1, t.0, v) refl),
    )

handler_reads : (bytes : List ℕ) (fields : StdFields) (flags : ℕ) (clsid : Guid) (s : Strings) (more : List ℕ) → IsReference (handler fields flags clsid s) → bytes ≡ spelling (handler fields flags clsid s) ++ more
    → Reads bytes (handler fields flags clsid s) more
unfolding objref_of handler_ref
handler_reads bytes fields flags clsid s more fits e =
    let regrouped : bytes ≡ header 2 fields.iid ++ (standard_body flags fields ++ (guid clsid ++ (strings s ++ more))) = e ∙ simp append_assoc in
    let h = heads_again bytes 2 fields.iid (standard_body flags fields ++ (guid clsid ++ (strings s ++ more))) (omega arith) fits.0.iid regrouped in
    let t = standard_again bytes fields flags (guid clsid ++ (strings s ++ more)) fits.0 fits.1 h.2 in
    let g = guid_field_again bytes 64 clsid (strings s ++ more) fits.2 t.1 in
    let u = strings_read bytes 80 s more fits.3 g.1 in (
      λ none. let v = u.0 none in rw (h.0.signature, h.0.flags_are, h.1, t.0, g.0, v) refl,
      λ some. let v = u.1 some in (80 + 4 + 2 * s.entries, rw (h.0.signature, h.0.flags_are, h.1, t.0, g.0, v) refl),
    )

custom_reads : (bytes : List ℕ) (iid clsid : Guid) (extension unread : ℕ) (payload : List ℕ) → IsReference (custom iid clsid extension unread payload) → bytes ≡ spelling (custom iid clsid extension unread payload)
    → objref_of bytes ≡ Ok (custom iid clsid extension unread payload)
unfolding objref_of custom_ref
custom_reads bytes iid clsid extension unread payload fits e =
    let h = heads_again bytes 4 iid (guid clsid ++ (number w32 extension ++ (number w32 unread ++ payload))) (omega arith) fits.0 e in
    let g = guid_field_again bytes 24 clsid (number w32 extension ++ (number w32 unread ++ payload)) fits.1 h.2 in
    let a = field_again w32 (2 ^ 32) wide32 bytes 40 extension (number w32 unread ++ payload) (omega arith) fits.2 g.1 in
    let b = field_again w32 (2 ^ 32) wide32 bytes 44 unread payload (omega arith) fits.3 a.1 in
    rw (h.0.signature, h.0.flags_are, h.1, g.0, a.0, b.0, b.1) refl

-- what is spelled so is read
pub objref_again : (r : Reference) → IsReference r → objref_of (spelling r) ≡ Ok r
objref_again (standard fields flags s) fits =
    (standard_reads (spelling (standard fields flags s)) fields flags s [] fits (sym (append-nil (spelling (standard fields flags s))))).0 refl
objref_again (handler fields flags clsid s) fits =
    (handler_reads (spelling (handler fields flags clsid s)) fields flags clsid s [] fits (sym (append-nil (spelling (handler fields flags clsid s))))).0 refl
objref_again (custom iid clsid extension unread payload) fits = custom_reads (spelling (custom iid clsid extension unread payload)) iid clsid extension unread payload fits refl

reads_on : (r : Reference) (more : List ℕ) → HasEnd r → IsReference r → Reads (spelling r ++ more) r more
reads_on (standard fields flags s) more end fits = standard_reads (spelling (standard fields flags s) ++ more) fields flags s more fits refl
reads_on (handler fields flags clsid s) more end fits = handler_reads (spelling (handler fields flags clsid s) ++ more) fields flags clsid s more fits refl
reads_on (custom iid clsid extension unread payload) more end fits = absurd end

-- no OBJREF begins another one, except by custom marshalling
pub ends_there : (r q : Reference) (more : List ℕ) → IsReference r → IsReference q → HasEnd r → spelling r ++ more ≡ spelling q → (r ≡ q) × (more ≡ [])
ends_there r q [] r_fits q_fits end e =
    let a = (reads_on r [] end r_fits).0 refl in
    let b : objref_of (spelling r ++ []) ≡ Ok q = ap objref_of e ∙ objref_again q q_fits in
    (ok_is r q (sym a ∙ b), refl)
ends_there r q (m ∷ more) r_fits q_fits end e =
    let a = (reads_on r (m ∷ more) end r_fits).1 (omega arith) in
    let b : objref_of (spelling r ++ m ∷ more) ≡ Ok q = ap objref_of e ∙ objref_again q q_fits in
    absurd (err_is_not_ok (fault 5 a.0) q (sym a.1 ∙ b))

pub is_found : (bytes : List ℕ) (r : Result ObjRef RefFault) → IsBytes bytes → Gives reference_of r (objref_of bytes) → IfOk r (λ said. IsObjRef bytes (reference_of said))
is_found bytes (Ok said) fits given = objref_takes bytes (reference_of said) fits given
is_found bytes (Err e) fits given = tt

-- ---- the writer

pub said_fits : (fields : StdFields) → IsStdFields fields → IsReference (said_of fields)
said_fits fields fits = (fits, omega arith, record { entries = omega arith; security = omega arith; values = refl })

pub length-written : (fields : StdFields) → IsStdFields fields → length (written_of fields) ≡ 72
unfolding header standard_body strings
length-written fields fits =
    omega (arith, length-append {A = ℕ}, length-guid fields.iid fits.iid, length-guid fields.ipid fits.ipid, length-number w16 (2 ^ 16) wide16 2, length-number w16 (2 ^ 16) wide16 1, length-number w32 (2 ^ 32) wide32 0x574f454d, length-number w32 (2 ^ 32) wide32 1, length-number w32 (2 ^ 32) wide32 0, length-number w32 (2 ^ 32) wide32 fields.refs, length-number w64 (2 ^ 64) wide64 fields.oxid, length-number w64 (2 ^ 64) wide64 fields.oid)
