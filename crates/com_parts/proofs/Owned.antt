-- The list of the owners of all objects.
use Rattle.std.proofs.Common.{inl, inr, ◌≡◌, ℕ, zero, suc, ◌+◌, ◌<◌, ◌≤◌, List, [], ◌∷◌, ◌++◌, Option, None, length, length-append, refl, sym, ◌∙◌, ap, subst, ⊎_elim, arith, slice_index_or, option_map}
use Rattle.std.proofs.lemmas.Bool.{cases_eq, cases_lt}
use Rattle.std.proofs.lemmas.List.{get_or_append_left}
use Rattle.com_model.specs.declared.keeps.Making.{Making}
use Rattle.com_model.specs.Lists.{number_or_zero}
use Rattle.com_state.specs.Parts.{ObjectTables, named_at}

abbrev apartment-in : Option Making → ℕ
apartment-in m = number_or_zero (option_map (λ (x : Making). x.apartment) m)

-- The owners of the objects up to a number stand in the list, from 0.
pub record Owned (o : ObjectTables) (n : ℕ) (xs : List ℕ) : Type 0 where
  pub count : length xs ≡ n + 1
  pub each : (k : ℕ) → k ≤ n → slice_index_or xs k 0 ≡ named_at o k

first-each : (o : ObjectTables) (k : ℕ) → k ≤ 0 → slice_index_or (0 ∷ []) k 0 ≡ named_at o k
first-each o zero h = refl
first-each o (suc k) h = absurd (omega (arith, h))

pub owned_first : (o : ObjectTables) → Owned o 0 (0 ∷ [])
owned_first o = record { count = refl; each = first-each o }

last-read : (xs : List ℕ) (x : ℕ) → slice_index_or (xs ++ x ∷ []) (length xs) 0 ≡ x
last-read [] x = refl
last-read (y ∷ ys) x = last-read ys x

more-each : (o : ObjectTables) (n : ℕ) (xs : List ℕ) (x k : ℕ) → Owned o n xs → x ≡ named_at o (n + 1) → k ≤ n + 1 → slice_index_or (xs ++ x ∷ []) k 0 ≡ named_at o k
more-each o n xs x k w e h = ⊎_elim
    (λ last. subst (λ (i : ℕ). slice_index_or (xs ++ x ∷ []) i 0 ≡ named_at o i) (sym last)
    (subst (λ (i : ℕ). slice_index_or (xs ++ x ∷ []) i 0 ≡ named_at o (n + 1)) w.count (last-read xs x ∙ e)))
    (λ other. get_or_append_left xs (x ∷ []) 0 k (omega (arith, h, other, w.count)) ∙ w.each k (omega (arith, h, other)))
    (cases_eq k (n + 1))

pub owned_more : (o : ObjectTables) (n : ℕ) (xs : List ℕ) (x : ℕ) → Owned o n xs → x ≡ named_at o (n + 1) → Owned o (n + 1) (xs ++ x ∷ [])
owned_more o n xs x w e = record { count = omega (arith, length-append xs (x ∷ []), w.count); each = λ k h. more-each o n xs x k w e h }

past-row : {X : Type 0} (xs : List X) (d : X) (k : ℕ) → length xs ≤ k → slice_index_or xs k d ≡ d
past-row [] d k h = refl
past-row (x ∷ xs) d zero h = absurd (omega (arith, h))
past-row (x ∷ xs) d (suc k) h = past-row xs d k (omega (arith, h))

past-name : (o : ObjectTables) (k : ℕ) → length o.makings < k → named_at o k ≡ 0
past-name o zero h = refl
past-name o (suc k) h = ap apartment-in (past-row o.makings None k (omega (arith, h)))

pub owned_all : (o : ObjectTables) (n : ℕ) (xs : List ℕ) → Owned o n xs → n ≡ length o.makings → (k : ℕ) → named_at o k ≡ slice_index_or xs k 0
owned_all o n xs w e k =
    elim (cases_lt n k) [
      | inl high ↦ past-name o k (omega (arith, high, e)) ∙ sym (past-row xs 0 k (omega (arith, high, w.count)))
      | inr low ↦ sym (w.each k (omega (arith, low)))
    ]
