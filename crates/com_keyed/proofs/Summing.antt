-- The sum of what the indices of one key add, along a walk from the latest to the earliest. Other indices add nothing.
use Rattle.std.proofs.Common.{◌≡◌, ℕ, ◌+◌, ◌-◌, ◌<◌, ◌≤◌, List, [], length, drop, refl, sym, ◌∙◌, ap, arith, zero, suc, inl, inr}
use Rattle.std.specs.Prelude.{slice_index_or, slice_index, sum_by, Option}
use Rattle.std.proofs.lemmas.Bool.{cases_lt}
use Rattle.std.proofs.lemmas.List.{drop_all}
use Rattle.std.proofs.lemmas.List.Sums.{sum_by-drop_more, sum_by-take-drop}
use Rattle.com_keyed.specs.Indices.{IsLatest, reach}

-- the rows from an index on
abbrev pub sum_from : {X : Type 0} → (X → ℕ) → List X → ℕ → ℕ
sum_from f xs index = sum_by f (drop index xs)

module _ {X : Type 0} (f : X → ℕ) (d : X) (xs : List X) (keys : List ℕ) (key : ℕ) (many : length keys ≡ length xs) (others : (p : ℕ) → p < length xs → (slice_index keys p ≡ key → ⊥) → f (slice_index_or xs p d) ≡ 0) where
  pub sum_within : (index : ℕ) → sum_from f xs index ≤ sum_by f xs
  sum_within index = omega (arith, sum_by-take-drop f xs index)

  one_skip : (m : ℕ) → (m < length xs → slice_index keys m ≡ key → ⊥) → sum_from f xs m ≡ sum_from f xs (m + 1)
  one_skip m other = elim (cases_lt m (length xs)) [
    | inl inside ↦
        let nothing : f (slice_index_or xs m d) ≡ 0 = others m inside (other inside) in
        let more : sum_from f xs m ≡ f (slice_index_or xs m d) + sum_from f xs (m + 1) = sum_by-drop_more f xs m d inside in
        omega (arith, nothing, more)
    | inr past ↦
        let here : drop m xs ≡ [] = drop_all m xs past in
        let next : drop (m + 1) xs ≡ [] = drop_all (m + 1) xs (omega (arith, past)) in
        ap (sum_by f) (here ∙ sym next)
  ]

  sum_skips : (index k end : ℕ) → index + k ≡ end → ((p : ℕ) → index ≤ p → p < end → p < length xs → slice_index keys p ≡ key → ⊥) → sum_from f xs index ≡ sum_from f xs end
  sum_skips index zero end e none = let same : index ≡ end = omega (arith, e) in ap (sum_from f xs) same
  sum_skips index (suc k) end e none =
      let before : sum_from f xs index ≡ sum_from f xs (index + k) = sum_skips index k (index + k) refl (λ p l h i same. none p l (omega (arith, h, e)) i same) in
      let step : sum_from f xs (index + k) ≡ sum_from f xs (index + k + 1) = one_skip (index + k) (none (index + k) (omega arith) (omega (arith, e))) in
      let last : index + k + 1 ≡ end = omega (arith, e) in
      before ∙ step ∙ ap (sum_from f xs) last

  pub sum_begins : (at : Option ℕ) → IsLatest keys key (length keys) at → sum_from f xs (reach at) ≡ 0
  sum_begins at l =
      let end : drop (length xs) xs ≡ [] = drop_all (length xs) xs (omega arith) in
      sum_skips (reach at) (length xs - reach at) (length xs) (omega (arith, l.within, many)) (λ p past h i same.
      absurd (omega (arith, past, l.covers p (omega (arith, many, i)) same))) ∙ ap (sum_by f) end

  pub sum_goes_on : (index : ℕ) (next : Option ℕ) → index < length keys → slice_index keys index ≡ key → IsLatest keys (slice_index keys index) index next
      → sum_from f xs (reach next) ≡ sum_from f xs (index + 1) + f (slice_index_or xs index d)
  sum_goes_on index next h k l =
      let skips : sum_from f xs (reach next) ≡ sum_from f xs index = sum_skips (reach next) (index - reach next) index (omega (arith, l.within)) (λ p past before i same.
      absurd (omega (arith, past, l.covers p before (same ∙ sym k)))) in
      let more : sum_from f xs index ≡ f (slice_index_or xs index d) + sum_from f xs (index + 1) = sum_by-drop_more f xs index d (omega (arith, h, many)) in
      omega (arith, skips, more)

  -- a walk that has ended was everywhere
  pub sum_ends : (at : Option ℕ) → reach at ≡ 0 → sum_from f xs (reach at) ≡ sum_by f xs
  sum_ends at z = ap (sum_from f xs) z
