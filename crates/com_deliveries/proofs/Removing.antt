-- A cookie that is removed by its index.
use Rattle.std.proofs.Common.{refl, ap, sym, subst, ◌∙◌, arith, take, drop}
use Rattle.std.specs.Prelude.{◌≡◌, ℕ, suc, ◌+◌, ◌<◌, ◌≤◌, ℤ, true, false, cond, List, [], ◌∷◌, ◌++◌, length}
use Rattle.com_laws_sources.specs.Sinks.{is_cookie}
use Rattle.com_deliveries.specs.Indices.{index_in}
use Rattle.com_deliveries.specs.Rows.{removed, last_in}

pub last_of_end : (cs rest : List ℕ) (c : ℕ) → cs ≡ rest ++ (c ∷ []) → c ≡ last_in cs
last_of_end cs rest c e = sym (ap last_in e ∙ at-end rest c)
  where
    at-end : (rest : List ℕ) (c : ℕ) → last_in (rest ++ (c ∷ [])) ≡ c
    at-end [] c = refl
    at-end (d ∷ []) c = refl
    at-end (d ∷ k ∷ rest) c = at-end (k ∷ rest) c

pub last_of_none : (cs : List ℕ) → length cs ≡ 0 → 0 ≡ last_in cs
last_of_none [] e = refl
last_of_none (c ∷ cs) e = absurd (omega (arith, e))

removed_at : (n : ℤ) (cs : List ℕ) → index_in n cs < length cs → take (index_in n cs) cs ++ drop (index_in n cs + 1) cs ≡ removed n cs
removed_at n [] h = absurd (omega (arith, h))
removed_at n (c ∷ cs) h =
    elim (is_cookie n c) as (λ t. is_cookie n c ≡ t → cond t 0 (suc (index_in n cs)) < length (c ∷ cs)
    → take (cond t 0 (suc (index_in n cs))) (c ∷ cs) ++ drop (cond t 0 (suc (index_in n cs)) + 1) (c ∷ cs) ≡ cond t cs (c ∷ removed n cs)) [
      | true ↦ λ e k. refl
      | false ↦ λ e k. ap (λ (j : ℕ). take (suc (index_in n cs)) (c ∷ cs) ++ drop j (c ∷ cs)) (shift (index_in n cs)) ∙ ap (λ (xs : List ℕ). c ∷ xs) (removed_at n cs (below k))
    ] refl h
  where
    shift : (p : ℕ) → suc p + 1 ≡ suc (p + 1)
    shift p = omega arith

    below : suc (index_in n cs) < length (c ∷ cs) → index_in n cs < length cs
    below k = omega (arith, k)

removed_none : (n : ℤ) (cs : List ℕ) → length cs ≤ index_in n cs → cs ≡ removed n cs
removed_none n [] h = refl
removed_none n (c ∷ cs) h =
    elim (is_cookie n c) as (λ t. is_cookie n c ≡ t → length (c ∷ cs) ≤ cond t 0 (suc (index_in n cs)) → c ∷ cs ≡ cond t cs (c ∷ removed n cs)) [
      | true ↦ λ e k. absurd (never k)
      | false ↦ λ e k. ap (λ (xs : List ℕ). c ∷ xs) (removed_none n cs (below k))
    ] refl h
  where
    never : length (c ∷ cs) ≤ 0 → ⊥
    never k = omega (arith, k)

    below : length (c ∷ cs) ≤ suc (index_in n cs) → length cs ≤ index_in n cs
    below k = omega (arith, k)

pub removed_by : (n : ℤ) (cs ds : List ℕ) (p : ℕ) → p ≡ index_in n cs → p < length cs → ds ≡ take p cs ++ drop (p + 1) cs → ds ≡ removed n cs
removed_by n cs ds p e h d =
    d ∙ ap (λ (k : ℕ). take k cs ++ drop (k + 1) cs) e ∙ removed_at n cs (subst (λ (k : ℕ). k < length cs) e h)

pub removed_not : (n : ℤ) (cs : List ℕ) (p : ℕ) → p ≡ index_in n cs → length cs ≤ p → cs ≡ removed n cs
removed_not n cs p e h = removed_none n cs (subst (λ (k : ℕ). length cs ≤ k) e h)
