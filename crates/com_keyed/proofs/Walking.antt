-- A walk over the indices of one key, from the latest to the earliest.
use Rattle.std.proofs.Common.{◌≡◌, ℕ, ◌-◌, ◌<◌, ◌≤◌, List, length, sym, subst, arith, ◌∙◌, inl, inr}
use Rattle.std.proofs.lemmas.Bool.{cases_order}
use Rattle.std.specs.Prelude.{slice_index, Option, None, Some}
use Rattle.com_keyed.specs.Indices.{IsLatest, reach}

-- the walk is at an index of the key or past the earliest, and P holds of each index that it has passed
pub record Walks (keys : List ℕ) (key : ℕ) (P : ℕ → Type 0) (at : Option ℕ) : Type 0 where
  pub within : reach at ≤ length keys
  pub keyed : 0 < reach at → slice_index keys (reach at - 1) ≡ key
  pub passed : (index : ℕ) → index < length keys → slice_index keys index ≡ key → reach at ≤ index → P index

module _ (keys : List ℕ) (key : ℕ) (P : ℕ → Type 0) where
  pub walk_begins : (at : Option ℕ) → IsLatest keys key (length keys) at → Walks keys key P at
  walk_begins at first = record {
    within = first.within;
    keyed = first.keyed;
    passed = λ p h k past. absurd (omega (arith, first.covers p h k));
  }

  pub walk_inside : (at : Option ℕ) (index : ℕ) → Walks keys key P at → at ≡ Some index → index < length keys
  walk_inside at index w is = let bound : reach (Some index) ≤ length keys = subst (λ v. reach v ≤ length keys) is w.within in omega arith

  pub walk_at : (at : Option ℕ) (index : ℕ) → Walks keys key P at → at ≡ Some index → slice_index keys index ≡ key
  walk_at at index w is =
      let here : 0 < reach (Some index) → slice_index keys (reach (Some index) - 1) ≡ key = subst (λ v. 0 < reach v → slice_index keys (reach v - 1) ≡ key) is w.keyed in
      let same : reach (Some index) - 1 ≡ index = omega arith in
      subst (λ n. slice_index keys n ≡ key) same (here (omega arith))

  pub walk_goes_on : (at next : Option ℕ) (index : ℕ) → Walks keys key P at → at ≡ Some index → P index → IsLatest keys (slice_index keys index) index next → Walks keys key P next
  walk_goes_on at next index w is here l =
      let inside = walk_inside at index w is in
      let keyed : slice_index keys index ≡ key = walk_at at index w is in
      record {
        within = omega (arith, l.within);
        keyed = λ h. l.keyed h ∙ keyed;
        passed = λ p h k past.
            let passed : reach (Some index) ≤ p → P p = subst (λ v. reach v ≤ p → P p) is (w.passed p h k) in
            elim (cases_order p index) [
              | inl same ↦ subst P (sym same) here
              | inr other ↦ elim other [
                | inl before ↦ absurd (omega (arith, l.covers p before (k ∙ sym keyed)))
                | inr after ↦ passed (omega arith)
              ]
            ];
      }

  pub walk_ends : (at : Option ℕ) → Walks keys key P at → at ≡ None → (index : ℕ) → index < length keys → slice_index keys index ≡ key → P index
  walk_ends at w is p h k = subst (λ v. reach v ≤ p → P p) is (w.passed p h k) (omega arith)

  pub walk_weaker : (at : Option ℕ) (Q : ℕ → Type 0) → Walks keys key P at → ((index : ℕ) → P index → Q index) → Walks keys key Q at
  walk_weaker at Q w weaker = record { within = w.within; keyed = w.keyed; passed = λ p h k past. weaker p (w.passed p h k past) }
