-- The sum of an object's counters.
use Rattle.std.proofs.Common.{◌≡◌, ℕ, ◌+◌, ◌-◌, ◌<◌, ◌≤◌, ◌^◌, List, [], ◌∷◌, ◌++◌, length, drop, refl, sym, ◌∙◌, ap, arith, zero, suc, inl, inr}
use Rattle.std.specs.Prelude.{slice_set, slice_index_or, slice_index, sum_by, Option}
use Rattle.std.proofs.lemmas.Bool.{cases_lt, cases_eq}
use Rattle.std.proofs.lemmas.Grind.{common_steps}
use Rattle.std.proofs.lemmas.List.{drop_all, length-map, get_or_read}
use Rattle.std.proofs.lemmas.List.Sums.{sum_by-append, sum_by-set, sum_by-drop_more, sum_by-take-drop}
use Rattle.com_keyed.specs.Indices.{KeyList, IsLatest, reach}
use Rattle.com_stub.specs.declared.counters.CounterRow.{CounterRow}
use Rattle.com_stub.specs.CounterRows.{no_counter, row_at, counter_of, index_of, count_for, sum_of, objects_of, more, less}
use Rattle.com_stub.specs.Tables.{IsCounterTable}
use Rattle.com_stub.proofs.CounterLemmas.{object_at, row_at_index, counter_keys, table_write}

-- the counters from an index on
abbrev pub sum_from : List CounterRow → ℕ → ℕ → ℕ
sum_from rs o index = sum_by (count_for o) (drop index rs)

pub sum_from_le : (rs : List CounterRow) (o index : ℕ) → sum_from rs o index ≤ sum_of rs o
sum_from_le rs o index = omega (arith, sum_by-take-drop (count_for o) rs index)

-- the counter of another object adds nothing
one_skip : (rs : List CounterRow) (o m : ℕ) → (m < length rs → (row_at rs m).object ≡ o → ⊥) → sum_from rs o m ≡ sum_from rs o (m + 1)
one_skip rs o m other = elim (cases_lt m (length rs)) [
  | inl inside ↦
      let nothing : count_for o (row_at rs m) ≡ 0 = grind (arith, other inside) in
      let more : sum_from rs o m ≡ count_for o (row_at rs m) + sum_from rs o (m + 1) = sum_by-drop_more (count_for o) rs m (no_counter 0 0) inside in
      omega arith
  | inr past ↦
      let here : drop m rs ≡ [] = drop_all m rs past in
      let next : drop (m + 1) rs ≡ [] = drop_all (m + 1) rs (omega arith) in
      ap (sum_by (count_for o)) (here ∙ sym next)
]

pub sum_skips : (rs : List CounterRow) (o index k end : ℕ) → index + k ≡ end → ((p : ℕ) → index ≤ p → p < end → p < length rs → (row_at rs p).object ≡ o → ⊥) → sum_from rs o index ≡ sum_from rs o end
sum_skips rs o index zero end e none = let same : index ≡ end = omega arith in ap (sum_from rs o) same
sum_skips rs o index (suc k) end e none =
    let before : sum_from rs o index ≡ sum_from rs o (index + k) = sum_skips rs o index k (index + k) refl (λ p l h i same. none p l (omega arith) i same) in
    let step : sum_from rs o (index + k) ≡ sum_from rs o (index + k + 1) = one_skip rs o (index + k) (none (index + k) (omega arith) (omega arith)) in
    let last : index + k + 1 ≡ end = omega arith in
    before ∙ step ∙ ap (sum_from rs o) last

module _ (rs : List CounterRow) (keys : List ℕ) (o : ℕ) (e : keys ≡ objects_of rs) where
  key_at : (p : ℕ) → slice_index keys p ≡ (row_at rs p).object
  key_at p = ap (λ k. slice_index k p) e ∙ object_at rs p

  many : length keys ≡ length rs
  many = ap length e ∙ length-map rs (λ r. r.object)

  pub sum_begins : (at : Option ℕ) → IsLatest keys o (length keys) at → sum_from rs o (reach at) ≡ 0
  sum_begins at l =
      let end : drop (length rs) rs ≡ [] = drop_all (length rs) rs (omega arith) in
      sum_skips rs o (reach at) (length rs - reach at) (length rs) (omega (arith, l.within, many)) (λ p past h i same.
      absurd (omega (arith, l.covers p (omega (arith, many)) (key_at p ∙ same)))) ∙ ap (sum_by (count_for o)) end

  pub sum_goes_on : (index : ℕ) (next : Option ℕ) → index < length keys → slice_index keys index ≡ o → IsLatest keys (slice_index keys index) index next
      → sum_from rs o (reach next) ≡ sum_from rs o (index + 1) + (row_at rs index).count
  sum_goes_on index next h k l =
      let skips : sum_from rs o (reach next) ≡ sum_from rs o index = sum_skips rs o (reach next) (index - reach next) index (omega (arith, l.within)) (λ p past before i same.
      absurd (omega (arith, l.covers p before (key_at p ∙ same ∙ sym k)))) in
      let mine : (row_at rs index).object ≡ o = sym (key_at index) ∙ k in
      let count : count_for o (row_at rs index) ≡ (row_at rs index).count = grind (arith, mine) in
      let more : sum_from rs o index ≡ count_for o (row_at rs index) + sum_from rs o (index + 1) = sum_by-drop_more (count_for o) rs index (no_counter 0 0) (omega (arith, many)) in
      omega arith

  pub sum_fits : (index : ℕ) → index < length keys → slice_index keys index ≡ o → sum_from rs o (index + 1) + (row_at rs index).count ≤ sum_of rs o
  sum_fits index h k =
      let mine : (row_at rs index).object ≡ o = sym (key_at index) ∙ k in
      let count : count_for o (row_at rs index) ≡ (row_at rs index).count = grind (arith, mine) in
      let more : sum_from rs o index ≡ count_for o (row_at rs index) + sum_from rs o (index + 1) = sum_by-drop_more (count_for o) rs index (no_counter 0 0) (omega (arith, many)) in
      omega (arith, sum_from_le rs o index)

-- the sums after a write of one counter, and after one more
pub sum_write : (rs : List CounterRow) (p o : ℕ) (old x : CounterRow) → p < length rs → old ≡ slice_index_or rs p old → sum_of (slice_set rs p x) o + count_for o old ≡ sum_of rs o + count_for o x
sum_write rs p o old x h is = rw (get_or_read rs p old h is (no_counter 0 0)) (sum_by-set (count_for o) rs p x (no_counter 0 0) h)

pub sum_push : (rs : List CounterRow) (o : ℕ) (x : CounterRow) → x.count ≡ 0 → sum_of (rs ++ x ∷ []) o ≡ sum_of rs o
sum_push rs o x none =
    let more : sum_of (rs ++ x ∷ []) o ≡ sum_of rs o + sum_by (count_for o) (x ∷ []) = sum_by-append (count_for o) rs (x ∷ []) in
    let nothing : sum_by (count_for o) (x ∷ []) ≡ 0 = grind (arith, common_steps, none) in
    omega arith

module _ (rs : List CounterRow) (chains : KeyList) (o i p : ℕ) (old : CounterRow) (t : IsCounterTable rs chains) (at : index_of rs o i ≡ p) (inside : p < length rs) (is : old ≡ slice_index_or rs p old) where
  found : old ≡ counter_of rs o i
  found =
      let there : index_of rs o i < length rs = rw at inside in
      get_or_read rs p old inside is (no_counter 0 0) ∙ ap (λ q. row_at rs q) (sym at) ∙ row_at_index rs o i (no_counter 0 0) there

  object : old.object ≡ o
  object = ap (λ r. r.object) found ∙ (counter_keys rs o i).0

  pub count_le : old.count ≤ sum_of rs o
  count_le =
      let mine : count_for o old ≡ old.count = grind (arith, object) in
      let nothing : count_for o (record old { count = 0 }) ≡ 0 = grind (arith, object) in
      omega (arith, sum_write rs p o old (record old { count = 0 }) inside is)

  pub table_more : (n : ℕ) → sum_of rs o + n < 2 ^ 64 → IsCounterTable (slice_set rs p (more n old)) chains
  table_more n fits = table_write rs chains p old (more n old) t inside is refl refl (λ q. elim (cases_eq old.object q) [
    | inl same ↦
        let before : count_for q old ≡ old.count = grind (arith, same) in
        let after : count_for q (more n old) ≡ old.count + n = grind (arith, same) in
        let this : sum_of rs q ≡ sum_of rs o = ap (sum_of rs) (sym same ∙ object) in
        omega (arith, sum_write rs p q old (more n old) inside is)
    | inr other ↦
        let before : count_for q old ≡ 0 = grind (arith, other) in
        let after : count_for q (more n old) ≡ 0 = grind (arith, other) in
        omega (arith, sum_write rs p q old (more n old) inside is, t.sums q)
  ])

  pub table_less : (n : ℕ) → IsCounterTable (slice_set rs p (less n old)) chains
  table_less n = table_write rs chains p old (less n old) t inside is refl refl (λ q. elim (cases_eq old.object q) [
    | inl same ↦
        let before : count_for q old ≡ old.count = grind (arith, same) in
        let after : count_for q (less n old) ≡ old.count - n = grind (arith, same) in
        omega (arith, sum_write rs p q old (less n old) inside is, t.sums q)
    | inr other ↦
        let before : count_for q old ≡ 0 = grind (arith, other) in
        let after : count_for q (less n old) ≡ 0 = grind (arith, other) in
        omega (arith, sum_write rs p q old (less n old) inside is, t.sums q)
  ])
