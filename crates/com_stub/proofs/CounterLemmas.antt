-- What the definitions of counters read after a change, and where counters stand.
use Rattle.std.proofs.Common.{◌≡◌, ℕ, true, false, ◌+◌, ◌<◌, ◌≤◌, ◌^◌, List, [], ◌∷◌, ◌++◌, length, refl, sym, ◌∙◌, ap, arith, eqb, cond, ◌&&◌, inl, inr, zero, suc}
use Rattle.std.proofs.lemmas.Bool.{cases_eq, cases_lt}
use Rattle.std.proofs.lemmas.List.{length-map, length-set, length-append, map-append, get_or-set_same, get_or-set_other, get_or_append_left, get_or_at, get_or_read}
use Rattle.std.proofs.lemmas.Grind.{common_steps}
use Rattle.std.specs.Prelude.{slice_set, slice_index_or, slice_index}
use Rattle.com_keyed.specs.Indices.{KeyList}
use Rattle.com_stub.specs.declared.counters.CounterRow.{CounterRow}
use Rattle.com_stub.specs.CounterRows.{is_for, no_counter, has_counter, counter_of, row_at, index_of, changed_counter, objects_of, sum_of}
use Rattle.com_stub.specs.Tables.{IsCounterTable}

-- a counter that is there
pub row_at_index : (rs : List CounterRow) (o i : ℕ) (d : CounterRow) → index_of rs o i < length rs → slice_index_or rs (index_of rs o i) d ≡ counter_of rs o i
row_at_index [] o i d h = absurd (omega arith)
row_at_index (r ∷ rs) o i d h =
    elim (is_for o i r) as (λ b. cond b 0 (index_of rs o i + 1) < length (r ∷ rs) → slice_index_or (r ∷ rs) (cond b 0 (index_of rs o i + 1)) d ≡ cond b r (counter_of rs o i)) [
      | true ↦ λ h. refl
      | false ↦ λ h. grind (arith, common_steps, row_at_index rs o i d (grind (arith, common_steps, h)))
    ] h

-- a counter that is not there
pub no_index : (rs : List CounterRow) (o i : ℕ) → length rs ≤ index_of rs o i → counter_of rs o i ≡ no_counter o i
no_index [] o i h = refl
no_index (r ∷ rs) o i h =
    elim (is_for o i r) as (λ b. length (r ∷ rs) ≤ cond b 0 (index_of rs o i + 1) → cond b r (counter_of rs o i) ≡ no_counter o i) [
      | true ↦ λ h. absurd (grind (arith, common_steps, h))
      | false ↦ λ h. no_index rs o i (grind (arith, common_steps, h))
    ] h

pub has_index : (rs : List CounterRow) (o i : ℕ) → index_of rs o i < length rs → has_counter rs o i ≡ true
has_index [] o i h = absurd (omega arith)
has_index (r ∷ rs) o i h = grind (arith, common_steps, has_index rs o i, h)

pub has_not : (rs : List CounterRow) (o i : ℕ) → length rs ≤ index_of rs o i → has_counter rs o i ≡ false
has_not [] o i h = refl
has_not (r ∷ rs) o i h = grind (arith, common_steps, has_not rs o i, h)

pub index_in_range : (rs : List CounterRow) (o i : ℕ) → has_counter rs o i ≡ true → index_of rs o i < length rs
index_in_range rs o i h = elim (cases_lt (index_of rs o i) (length rs)) [
  | inl there ↦ there
  | inr past ↦ absurd (grind (arith, has_not rs o i past, h))
]

pub changed_at : (rs : List CounterRow) (f : CounterRow → CounterRow) (o i : ℕ) → index_of rs o i < length rs → changed_counter f o i rs ≡ slice_set rs (index_of rs o i) (f (counter_of rs o i))
changed_at [] f o i h = absurd (omega arith)
changed_at (r ∷ rs) f o i h = grind (arith, common_steps, changed_at rs f o i, h)

pub changed_none : (rs : List CounterRow) (f : CounterRow → CounterRow) (o i : ℕ) → length rs ≤ index_of rs o i → changed_counter f o i rs ≡ rs
changed_none [] f o i h = refl
changed_none (r ∷ rs) f o i h = grind (arith, common_steps, changed_none rs f o i, h)

-- what the counters read after a change of one that is there
pub counter_changed : (rs : List CounterRow) (f : CounterRow → CounterRow) (o i p j : ℕ) → ((r : CounterRow) → (f r).object ≡ r.object) → ((r : CounterRow) → (f r).iface ≡ r.iface)
    → has_counter rs o i ≡ true → counter_of (changed_counter f o i rs) p j ≡ cond (eqb p o && eqb j i) (f (counter_of rs p j)) (counter_of rs p j)
counter_changed [] f o i p j ko ki h = absurd (grind (arith, h))
counter_changed (r ∷ rs) f o i p j ko ki h = grind (arith, common_steps, counter_changed rs f o i p j ko ki, ko r, ki r, h)

pub object_at : (rs : List CounterRow) (p : ℕ) → slice_index (objects_of rs) p ≡ (row_at rs p).object
object_at [] p = refl
object_at (r ∷ rs) zero = refl
object_at (r ∷ rs) (suc p) = object_at rs p

-- a counter that no index has is not there
pub index_none : (rs : List CounterRow) (o i : ℕ) → ((p : ℕ) → p < length rs → is_for o i (row_at rs p) ≡ false) → index_of rs o i ≡ length rs
index_none [] o i none = refl
index_none (r ∷ rs) o i none =
    let rest : index_of rs o i ≡ length rs = index_none rs o i (λ p h. none (suc p) (omega arith)) in
    grind (arith, none 0 (omega arith), rest)

-- where a walk over the object's indices found none
pub index_past : (rs : List CounterRow) (keys : List ℕ) (o i : ℕ) → keys ≡ objects_of rs → ((p : ℕ) → p < length keys → slice_index keys p ≡ o → is_for o i (row_at rs p) ≡ false) → length rs ≡ index_of rs o i
index_past rs keys o i e none = sym (index_none rs o i (λ p h. one p h)) where
  inside : (p : ℕ) → p < length rs → p < length keys
  inside p h = rw (e, length-map rs (λ r. r.object)) h

  key_at : (p : ℕ) → slice_index keys p ≡ (row_at rs p).object
  key_at p = ap (λ k. slice_index k p) e ∙ object_at rs p

  one : (p : ℕ) → p < length rs → is_for o i (row_at rs p) ≡ false
  one p h = elim (cases_eq (row_at rs p).object o) [
    | inl same ↦ none p (inside p h) (key_at p ∙ same)
    | inr other ↦ grind (arith, other)
  ]

-- counters after a write that keeps the object and the interface
pub index_set : (rs : List CounterRow) (p : ℕ) (x : CounterRow) (o i : ℕ) → x.object ≡ (row_at rs p).object → x.iface ≡ (row_at rs p).iface → index_of (slice_set rs p x) o i ≡ index_of rs o i
index_set [] p x o i eo ei = refl
index_set (r ∷ rs) zero x o i eo ei = grind (arith, eo, ei)
index_set (r ∷ rs) (suc p) x o i eo ei = grind (arith, index_set rs p x o i eo ei)

pub objects_set : (rs : List CounterRow) (p : ℕ) (x : CounterRow) → x.object ≡ (row_at rs p).object → objects_of (slice_set rs p x) ≡ objects_of rs
objects_set [] p x e = refl
objects_set (r ∷ rs) zero x e = ap (λ o. o ∷ objects_of rs) e
objects_set (r ∷ rs) (suc p) x e = ap (λ os. r.object ∷ os) (objects_set rs p x e)

pub table_write : (rs : List CounterRow) (chains : KeyList) (p : ℕ) (old x : CounterRow) → IsCounterTable rs chains → p < length rs → old ≡ slice_index_or rs p old → x.object ≡ old.object
    → x.iface ≡ old.iface → ((o : ℕ) → sum_of (slice_set rs p x) o < 2 ^ 64) → IsCounterTable (slice_set rs p x) chains
table_write rs chains p old x t inside is eo ei sums =
    let read : old ≡ row_at rs p = get_or_read rs p old inside is (no_counter 0 0) in
    let ko : x.object ≡ (row_at rs p).object = eo ∙ ap (λ r. r.object) read in
    let ki : x.iface ≡ (row_at rs p).iface = ei ∙ ap (λ r. r.iface) read in
    record {
      keyed = t.keyed ∙ sym (objects_set rs p x ko);
      first = λ q h.
          let there : q < length rs = rw (← length-set rs p x) h in
          elim (cases_eq q p) [
            | inl same ↦
                let at : row_at (slice_set rs p x) q ≡ x = rw same (get_or-set_same rs p x (no_counter 0 0) inside) in
                rw (at, index_set rs p x x.object x.iface ko ki, ko, ki, same) (t.first p inside)
            | inr other ↦
                let at : row_at (slice_set rs p x) q ≡ row_at rs q = get_or-set_other rs p q x (no_counter 0 0) other in
                rw (at, index_set rs p x (row_at rs q).object (row_at rs q).iface ko ki) (t.first q there)
          ];
      sums = sums;
    }

-- counters after one more
pub index_append : (rs xs : List CounterRow) (o i : ℕ) → index_of rs o i < length rs → index_of (rs ++ xs) o i ≡ index_of rs o i
index_append [] xs o i h = absurd (omega arith)
index_append (r ∷ rs) xs o i h = grind (arith, common_steps, index_append rs xs o i, h)

pub index_push : (rs : List CounterRow) (x : CounterRow) (o i : ℕ) → length rs ≤ index_of rs o i → is_for o i x ≡ true → index_of (rs ++ x ∷ []) o i ≡ length rs
index_push [] x o i h e = grind (arith, e)
index_push (r ∷ rs) x o i h e = grind (arith, common_steps, index_push rs x o i, h, e)

pub table_push : (rs : List CounterRow) (chains wider : KeyList) (x : CounterRow) → IsCounterTable rs chains → wider.keys ≡ chains.keys ++ x.object ∷ [] → length rs ≤ index_of rs x.object x.iface
    → ((o : ℕ) → sum_of (rs ++ x ∷ []) o < 2 ^ 64) → IsCounterTable (rs ++ x ∷ []) wider
table_push rs chains wider x t e new sums = record {
  keyed = e ∙ ap (λ ks. ks ++ x.object ∷ []) t.keyed ∙ sym (map-append (λ (r : CounterRow). r.object) rs (x ∷ []));
  first = λ q h.
      elim (cases_lt q (length rs)) [
        | inl there ↦
            let at : row_at (rs ++ x ∷ []) q ≡ row_at rs q = get_or_append_left rs (x ∷ []) (no_counter 0 0) q there in
            let first : index_of rs (row_at rs q).object (row_at rs q).iface ≡ q = t.first q there in
            let index = index_append rs (x ∷ []) (row_at rs q).object (row_at rs q).iface (rw first there) in
            rw (at, index) first
        | inr past ↦
            let last : length rs ≡ q = omega (arith, length-append rs (x ∷ [])) in
            let at : row_at (rs ++ x ∷ []) q ≡ x = get_or_at rs x [] (no_counter 0 0) q last in
            rw (at, index_push rs x x.object x.iface new (grind arith)) last
      ];
  sums = sums;
}

-- the counter of an object and an interface has them
pub counter_keys : (rs : List CounterRow) (o i : ℕ) → ((counter_of rs o i).object ≡ o) × ((counter_of rs o i).iface ≡ i)
counter_keys [] o i = (refl, refl)
counter_keys (r ∷ rs) o i = (grind (arith, (counter_keys rs o i).0), grind (arith, (counter_keys rs o i).1))
