-- Where stubs stand, and what they read after a change.
use Rattle.std.proofs.Common.{◌≡◌, ℕ, true, false, ◌+◌, ◌-◌, ◌<◌, ◌≤◌, List, [], ◌∷◌, ◌++◌, length, refl, sym, ◌∙◌, ap, subst, arith, eqb, cond, inl, inr, zero, suc}
use Rattle.std.proofs.lemmas.Bool.{cases_eq, cases_lt}
use Rattle.std.proofs.lemmas.List.{length-map, length-append, map-append, ext_get_or, get_or_append_left, get_or_at, get_or-set_same, get_or-set_other, length-set}
use Rattle.std.proofs.lemmas.Grind.{common_steps}
use Rattle.std.specs.Prelude.{slice_set, slice_index_or, slice_index, Option, None, Some}
use Rattle.com_keyed.specs.Indices.{KeyList, IsLatest, reach}
use Rattle.com_stub.specs.declared.StubRow.{StubRow}
use Rattle.com_stub.specs.StubRows.{no_stub, has_stub, stub_of, is_connected, stub_index, ended_row, ended_rows, stub_objects, stub_at, EachStubFirst}
use Rattle.com_stub.specs.Tables.{IsStubTable}

pub stub_row : (rs : List StubRow) (o : ℕ) → stub_index rs o < length rs → stub_at rs (stub_index rs o) ≡ stub_of rs o
stub_row [] o h = absurd (omega arith)
stub_row (r ∷ rs) o h =
    elim (eqb r.object o) as (λ b. cond b 0 (stub_index rs o + 1) < length (r ∷ rs) → slice_index_or (r ∷ rs) (cond b 0 (stub_index rs o + 1)) (no_stub 0) ≡ cond b r (stub_of rs o)) [
      | true ↦ λ h. refl
      | false ↦ λ h. grind (arith, common_steps, stub_row rs o (grind (arith, common_steps, h)))
    ] h

pub no_stub_index : (rs : List StubRow) (o : ℕ) → length rs ≤ stub_index rs o → stub_of rs o ≡ no_stub o
no_stub_index [] o h = refl
no_stub_index (r ∷ rs) o h =
    elim (eqb r.object o) as (λ b. length (r ∷ rs) ≤ cond b 0 (stub_index rs o + 1) → cond b r (stub_of rs o) ≡ no_stub o) [
      | true ↦ λ h. absurd (grind (arith, common_steps, h))
      | false ↦ λ h. no_stub_index rs o (grind (arith, common_steps, h))
    ] h

pub stub_object_at : (rs : List StubRow) (p : ℕ) → slice_index (stub_objects rs) p ≡ (stub_at rs p).object
stub_object_at [] p = refl
stub_object_at (r ∷ rs) zero = refl
stub_object_at (r ∷ rs) (suc p) = stub_object_at rs p

pub stub_index_none : (rs : List StubRow) (o : ℕ) → ((p : ℕ) → p < length rs → (stub_at rs p).object ≡ o → ⊥) → stub_index rs o ≡ length rs
stub_index_none [] o none = refl
stub_index_none (r ∷ rs) o none =
    let rest : stub_index rs o ≡ length rs = stub_index_none rs o (λ p h. none (suc p) (omega arith)) in
    grind (arith, none 0 (omega arith), rest)

pub stub_index_past : (rs : List StubRow) (o : ℕ) → has_stub rs o ≡ false → stub_index rs o ≡ length rs
stub_index_past [] o h = refl
stub_index_past (r ∷ rs) o h = grind (arith, common_steps, stub_index_past rs o, h)

-- the rows once an object was disconnected, index by index
pub ended_at : (rs : List StubRow) (o p : ℕ) → stub_at (ended_rows o rs) p ≡ ended_row o (stub_at rs p)
ended_at [] o p = grind arith
ended_at (r ∷ rs) o zero = refl
ended_at (r ∷ rs) o (suc p) = ended_at rs o p

-- what the latest index of an object's key says
module _ (rs : List StubRow) (keys : List ℕ) (o : ℕ) (e : keys ≡ stub_objects rs) (each : EachStubFirst rs) where
  key_at : (p : ℕ) → slice_index keys p ≡ (stub_at rs p).object
  key_at p = ap (λ k. slice_index k p) e ∙ stub_object_at rs p

  many : length keys ≡ length rs
  many = ap length e ∙ length-map rs (λ r. r.object)

  absent : IsLatest keys o (length keys) None → stub_index rs o ≡ length rs
  absent l = stub_index_none rs o (λ p h same. absurd (omega (arith, l.covers p (omega (arith, many)) (key_at p ∙ same))))

  pub connected_none : (found : Option ℕ) → IsLatest keys o (length keys) found → found ≡ None → is_connected rs o ≡ false
  connected_none found l is =
      let none : stub_index rs o ≡ length rs = absent (subst (IsLatest keys o (length keys)) is l) in
      ap (λ r. r.is_connected) (no_stub_index rs o (omega arith))

  index_found : (p : ℕ) → IsLatest keys o (length keys) (Some p) → (p < length rs) × ((stub_at rs p).object ≡ o)
  index_found p l =
      let same : reach (Some p) - 1 ≡ p = omega arith in
      (omega (arith, l.within, many), sym (key_at p) ∙ subst (λ q. slice_index keys q ≡ o) same (l.keyed (omega arith)))

  pub connected_at : (found : Option ℕ) (p : ℕ) → IsLatest keys o (length keys) found → found ≡ Some p → is_connected rs o ≡ (stub_at rs p).is_connected
  connected_at found p l is =
      let at = index_found p (subst (IsLatest keys o (length keys)) is l) in
      let index : stub_index rs o ≡ p = rw (← at.1) (each p at.0) in
      ap (λ r. r.is_connected) (sym (stub_row rs o (rw index at.0)) ∙ ap (stub_at rs) index)

  other_row : (p q : ℕ) → (p < length rs) × ((stub_at rs p).object ≡ o) → q < length rs → (q ≡ p → ⊥) → (stub_at rs q).object ≡ o → ⊥
  other_row p q at h apart same =
      let here : stub_index rs o ≡ p = rw (← at.1) (each p at.0) in
      let there : stub_index rs o ≡ q = rw (← same) (each q h) in
      apart (sym there ∙ here)

  pub ended_none : (found : Option ℕ) → IsLatest keys o (length keys) found → found ≡ None → rs ≡ ended_rows o rs
  ended_none found l is =
      let latest : IsLatest keys o (length keys) None = subst (IsLatest keys o (length keys)) is l in
      ext_get_or (no_stub 0) rs (ended_rows o rs) (sym (length-map rs (ended_row o))) (λ p h. elim (cases_eq (stub_at rs p).object o) [
        | inl same ↦ absurd (omega (arith, latest.covers p (omega (arith, many)) (key_at p ∙ same)))
        | inr other ↦ sym (grind (arith, ended_at rs o p, other))
      ])

  pub ended_found : (found : Option ℕ) (p : ℕ) → IsLatest keys o (length keys) found → found ≡ Some p → slice_set rs p (record (stub_at rs p) { is_connected = false }) ≡ ended_rows o rs
  ended_found found p l is =
      let at = index_found p (subst (IsLatest keys o (length keys)) is l) in
      let x : StubRow = record (stub_at rs p) { is_connected = false } in
      ext_get_or (no_stub 0) (slice_set rs p x) (ended_rows o rs) (length-set rs p x ∙ sym (length-map rs (ended_row o))) (λ q h. elim (cases_eq q p) [
        | inl same ↦
            let mine : (stub_at rs q).object ≡ o = rw same at.1 in
            let set : stub_at (slice_set rs p x) q ≡ x = rw same (get_or-set_same rs p x (no_stub 0) at.0) in
            let ended : stub_at (ended_rows o rs) q ≡ record (stub_at rs q) { is_connected = false } = grind (arith, ended_at rs o q, mine) in
            set ∙ ap (λ n. record (stub_at rs n) { is_connected = false }) (sym same) ∙ sym ended
        | inr apart ↦
            let there : q < length rs = rw (← length-set rs p x) h in
            let other = other_row p q at there apart in
            let set : stub_at (slice_set rs p x) q ≡ stub_at rs q = get_or-set_other rs p q x (no_stub 0) apart in
            set ∙ sym (grind (arith, ended_at rs o q, other))
      ])

-- a stub once an object was disconnected
pub ended_not_connected : (rs : List StubRow) (o : ℕ) → is_connected (ended_rows o rs) o ≡ false
ended_not_connected [] o = refl
ended_not_connected (r ∷ rs) o = elim (cases_eq r.object o) [
  | inl same ↦ grind (arith, common_steps, same)
  | inr other ↦ grind (arith, common_steps, ended_not_connected rs o, other)
]

pub table_ended : (rs : List StubRow) (chains : KeyList) (o : ℕ) → IsStubTable rs chains → IsStubTable (ended_rows o rs) chains
table_ended rs chains o t = record {
  keyed = t.keyed ∙ sym (objects_ended rs);
  first = λ q h.
      let there : q < length rs = rw (← length-map rs (ended_row o)) h in
      rw (ended_at rs o q, index_ended rs, object_ended (stub_at rs q)) (t.first q there);
} where
  object_ended : (r : StubRow) → (ended_row o r).object ≡ r.object
  object_ended r = grind arith

  objects_ended : (rs : List StubRow) → stub_objects (ended_rows o rs) ≡ stub_objects rs
  objects_ended [] = refl
  objects_ended (r ∷ rs) = grind (arith, objects_ended rs)

  index_ended : (rs : List StubRow) (p : ℕ) → stub_index (ended_rows o rs) p ≡ stub_index rs p
  index_ended [] p = refl
  index_ended (r ∷ rs) p = grind (arith, index_ended rs p)

-- stubs after one more
pub stub_append : (rs xs : List StubRow) (o : ℕ) → stub_index rs o < length rs → stub_index (rs ++ xs) o ≡ stub_index rs o
stub_append [] xs o h = absurd (omega arith)
stub_append (r ∷ rs) xs o h = grind (arith, common_steps, stub_append rs xs o, h)

pub stub_push : (rs : List StubRow) (x : StubRow) (o : ℕ) → stub_index rs o ≡ length rs → x.object ≡ o → stub_index (rs ++ x ∷ []) o ≡ length rs
stub_push [] x o h e = grind (arith, e)
stub_push (r ∷ rs) x o h e = grind (arith, common_steps, stub_push rs x o, h, e)

pub stub_table_push : (rs : List StubRow) (chains wider : KeyList) (x : StubRow) → IsStubTable rs chains → wider.keys ≡ chains.keys ++ x.object ∷ [] → has_stub rs x.object ≡ false → IsStubTable (rs ++ x ∷ []) wider
stub_table_push rs chains wider x t e new = record {
  keyed = e ∙ ap (λ ks. ks ++ x.object ∷ []) t.keyed ∙ sym (map-append (λ (r : StubRow). r.object) rs (x ∷ []));
  first = λ q h.
      elim (cases_lt q (length rs)) [
        | inl there ↦
            let at : stub_at (rs ++ x ∷ []) q ≡ stub_at rs q = get_or_append_left rs (x ∷ []) (no_stub 0) q there in
            let first : stub_index rs (stub_at rs q).object ≡ q = t.first q there in
            rw (at, stub_append rs (x ∷ []) (stub_at rs q).object (rw first there)) first
        | inr past ↦
            let last : length rs ≡ q = omega (arith, length-append rs (x ∷ [])) in
            let at : stub_at (rs ++ x ∷ []) q ≡ x = get_or_at rs x [] (no_stub 0) q last in
            rw (at, stub_push rs x x.object (stub_index_past rs x.object new) refl) last
      ];
}
