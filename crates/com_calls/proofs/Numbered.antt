-- Rows stay numbered after one row changed, and after one more.
use Rattle.std.proofs.Common.{◌≡◌, ◌∙◌, ◌+◌, ◌-◌, ◌<◌, ◌≤◌, refl, sym, ap, arith, length, ℕ, zero, suc, List, [], ◌∷◌, ◌++◌, slice_index_or}
use Rattle.com_model.specs.declared.keeps.Issue.{Issue}
use Rattle.com_calls.specs.Rows.{RowView, changed_in, changed_row}
use Rattle.com_calls.specs.Fates.{IsNumbered}
use Rattle.com_calls.proofs.Inboxes.{length-changed}

pub numbered_none : IsNumbered []
numbered_none = λ k d h. absurd (omega (arith, h))

issue-in : (f : RowView → RowView) (k : ℕ) (rows : List RowView) (j : ℕ) (d : RowView) → ((r : RowView) → r.issue ≡ (f r).issue) → (slice_index_or (changed_in f k rows) j d).issue ≡ (slice_index_or rows j d).issue
issue-in f k [] j d p = refl
issue-in f zero (r ∷ rs) zero d p = sym (p r)
issue-in f zero (r ∷ rs) (suc j) d p = refl
issue-in f (suc k) (r ∷ rs) zero d p = refl
issue-in f (suc k) (r ∷ rs) (suc j) d p = issue-in f k rs j d p

issue-changed : (f : RowView → RowView) (c : ℕ) (rows : List RowView) (j : ℕ) (d : RowView) → ((r : RowView) → r.issue ≡ (f r).issue) → (slice_index_or (changed_row f c rows) j d).issue ≡ (slice_index_or rows j d).issue
issue-changed f zero rows j d p = refl
issue-changed f (suc k) rows j d p = issue-in f k rows j d p

pub numbered_changed : (f : RowView → RowView) (c : ℕ) (rows : List RowView) → ((r : RowView) → r.issue ≡ (f r).issue) → IsNumbered rows → IsNumbered (changed_row f c rows)
numbered_changed f c rows same p = λ k d h.
    let n : length (changed_row f c rows) ≡ length rows = length-changed f c rows in
    ap (λ (x : Issue). x.call) (issue-changed f c rows k d same) ∙ p k d (omega (arith, h, n))

-- The call of a row, where rows are numbered from one on.
numbers-grown : (r : RowView) (rows : List RowView) (first : ℕ) → r.issue.call ≡ first + length rows
    → ((k : ℕ) (d : RowView) → k < length rows → (slice_index_or rows k d).issue.call ≡ first + k)
    → (k : ℕ) (d : RowView) → k < length (rows ++ r ∷ []) → (slice_index_or (rows ++ r ∷ []) k d).issue.call ≡ first + k
numbers-grown r [] first e p zero d h = e
numbers-grown r [] first e p (suc k) d h = absurd (omega (arith, h))
numbers-grown r (x ∷ xs) first e p zero d h = p zero d (omega arith)
numbers-grown r (x ∷ xs) first e p (suc k) d h =
    let m : first + length (x ∷ xs) ≡ suc first + length xs = omega arith in
    let n : (j : ℕ) → first + suc j ≡ suc first + j = λ j. omega arith in
    numbers-grown r xs (suc first) (e ∙ m) (λ j a b. p (suc j) a (omega (arith, b)) ∙ n j) k d (omega (arith, h)) ∙ sym (n k)

pub numbered_grown : (r : RowView) (rows : List RowView) → r.issue.call ≡ length rows + 1 → IsNumbered rows → IsNumbered (rows ++ r ∷ [])
numbered_grown r rows e p = λ k d h.
    let m : length rows + 1 ≡ 1 + length rows = omega arith in
    let n : (j : ℕ) → suc j ≡ 1 + j = λ j. omega arith in
    numbers-grown r rows 1 (e ∙ m) (λ j a b. p j a b ∙ n j) k d h ∙ sym (n k)

-- The call of a row, from its number.
pub call_of_row : (rows : List RowView) (call : ℕ) (d : RowView) → 1 ≤ call → call ≤ length rows → IsNumbered rows → (slice_index_or rows (call - 1) d).issue.call ≡ call
call_of_row rows zero d low high p = absurd (omega (arith, low))
call_of_row rows (suc k) d low high p =
    let e : suc k - 1 ≡ k = omega arith in
    ap (λ (n : ℕ). (slice_index_or rows n d).issue.call) e ∙ p k d (omega (arith, high))
