-- The Leaves of all calls, and after one more.
use Rattle.std.proofs.Common.{◌≡◌, ◌-◌, ◌<◌, ◌≤◌, ◌∙◌, length, arith, refl, sym, ap, ℕ, zero, suc, List, [], ◌∷◌, ◌++◌, map, replicate, slice_set, slice_get, slice_index_or, Option, Some, None}
use Rattle.com_base.specs.declared.hresult.HResult.{HResult}
use Rattle.com_base.specs.declared.value.Value.{Value}
use Rattle.com_model.specs.declared.keeps.Ending.{Ending}
use Rattle.com_model.specs.declared.keeps.Leaving.{Leaving}
use Rattle.com_model.specs.Lists.{or_else, from_one}
use Rattle.com_model.specs.State.{changed_from_one}
use Rattle.com_calls.specs.Rows.{RowView, changed_in, changed_row, row_at, left_with, late_of, late_row, first_left}
use Rattle.com_calls.specs.Leaves.{joined, alone, with_late, with_late_call}

-- the Leave of a row, where none came later
abbrev pub later_or : Option RowView → Option Leaving → Option Leaving
later_or None y = None
later_or (Some r) y = or_else y r.leaving

-- the column of the Leaves that fixed the answers
abbrev pub fixing : List RowView → List (Option Leaving)
fixing rows = map (λ (r : RowView). r.leaving) rows

first-here : (e : Option Ending) (x : Option Leaving) (l : Leaving) (rest : List (Option Leaving)) (ys : List (Option Leaving))
    → joined (first_left e x l ∷ rest) (with_late ys 0 (late_of e l)) ≡ slice_set (joined (x ∷ rest) ys) 0 (Some l)
first-here None x l rest [] = refl
first-here (Some e) x l rest [] = refl
first-here None x l rest (y ∷ ys) = refl
first-here (Some e) x l rest (y ∷ ys) = refl

alone-later : (x : Option Leaving) (k : ℕ) (w : Option Leaving) (ws : List (Option Leaving)) → joined (w ∷ ws) (alone x (suc k)) ≡ w ∷ joined ws (alone x k)
alone-later None k w ws = refl
alone-later (Some l) k w ws = refl

left-in : (c : ℕ) (hr : HResult) (v : Option Value) (k : ℕ) (rows : List RowView) (ys : List (Option Leaving))
    → slice_set (joined (fixing rows) ys) k (Some (record { call = c; hr = hr; value = v }))
    ≡ joined (fixing (changed_in (left_with c hr v) k rows)) (with_late ys k (late_row (slice_get rows k) (record { call = c; hr = hr; value = v })))
left-in c hr v k [] ys = refl
left-in c hr v zero (r ∷ rs) ys = sym (first-here r.ending r.leaving (record { call = c; hr = hr; value = v }) (fixing rs) ys)
left-in c hr v (suc k) (r ∷ rs) [] =
    ap (λ (zs : List (Option Leaving)). r.leaving ∷ zs) (left-in c hr v k rs [])
    ∙ sym (alone-later (late_row (slice_get rs k) (record { call = c; hr = hr; value = v })) k r.leaving (fixing (changed_in (left_with c hr v) k rs)))
left-in c hr v (suc k) (r ∷ rs) (y ∷ ys) = ap (λ (zs : List (Option Leaving)). or_else y r.leaving ∷ zs) (left-in c hr v k rs ys)

pub leavings_left : (c : ℕ) (hr : HResult) (v : Option Value) (rows : List RowView) (ys : List (Option Leaving))
    → changed_from_one (Some (λ x. Some (record { call = c; hr = hr; value = v }))) c None (joined (fixing rows) ys)
    ≡ joined (fixing (changed_row (left_with c hr v) c rows)) (with_late_call ys c (late_row (row_at rows c) (record { call = c; hr = hr; value = v })))
leavings_left zero hr v rows ys = refl
leavings_left (suc k) hr v rows ys = left-in (suc k) hr v k rows ys

-- one row more

pub joined_grown : (xs ys : List (Option Leaving)) → length ys ≤ length xs → joined (xs ++ None ∷ []) ys ≡ joined xs ys ++ None ∷ []
joined_grown [] [] h = refl
joined_grown [] (y ∷ ys) h = absurd (omega (arith, h))
joined_grown (x ∷ xs) [] h = ap (λ (zs : List (Option Leaving)). x ∷ zs) (joined_grown xs [] (omega arith))
joined_grown (x ∷ xs) (y ∷ ys) h = ap (λ (zs : List (Option Leaving)). or_else y x ∷ zs) (joined_grown xs ys (omega (arith, h)))

-- what is kept

pub late_past : (ys : List (Option Leaving)) (k : ℕ) → length ys ≤ k → with_late ys k None ≡ ys
late_past [] k h = refl
late_past (y ∷ ys) zero h = absurd (omega (arith, h))
late_past (y ∷ ys) (suc k) h = ap (λ (zs : List (Option Leaving)). y ∷ zs) (late_past ys k (omega (arith, h)))

pub late_set : (ys : List (Option Leaving)) (k : ℕ) (x : Option Leaving) → k < length ys → with_late ys k x ≡ slice_set ys k x
late_set [] k x h = absurd (omega (arith, h))
late_set (y ∷ ys) zero x h = refl
late_set (y ∷ ys) (suc k) x h = ap (λ (zs : List (Option Leaving)). y ∷ zs) (late_set ys k x (omega (arith, h)))

pub late_filled : (ys : List (Option Leaving)) (k : ℕ) (l : Leaving) → length ys ≤ k → with_late ys k (Some l) ≡ (ys ++ replicate (k - length ys) None) ++ Some l ∷ []
late_filled [] k l h =
    let e : k - 0 ≡ k = omega arith in
    rw e refl
late_filled (y ∷ ys) zero l h = absurd (omega (arith, h))
late_filled (y ∷ ys) (suc k) l h =
    let e : suc k - suc (length ys) ≡ k - length ys = omega arith in
    rw e (ap (λ (zs : List (Option Leaving)). y ∷ zs) (late_filled ys k l (omega (arith, h))))

-- a Leave came late only where there is such a call
late-in : (k : ℕ) (rows : List RowView) (l m : Leaving) → late_row (slice_get rows k) l ≡ Some m → k < length rows
late-in k [] l m e = cc
late-in zero (r ∷ rs) l m e = omega arith
late-in (suc k) (r ∷ rs) l m e = omega (arith, late-in k rs l m e)

pub late_within : (c : ℕ) (rows : List RowView) (l m : Leaving) → late_row (row_at rows c) l ≡ Some m → c ≤ length rows
late_within zero rows l m e = omega arith
late_within (suc k) rows l m e = omega (arith, late-in k rows l m e)

-- the Leave of a call
late-read : (rows : List RowView) (ys : List (Option Leaving)) (k : ℕ) → slice_index_or (joined (fixing rows) ys) k None ≡ later_or (slice_get rows k) (slice_index_or ys k None)
late-read [] ys k = refl
late-read (r ∷ rs) [] zero = refl
late-read (r ∷ rs) (y ∷ ys) zero = refl
late-read (r ∷ rs) [] (suc k) = late-read rs [] k
late-read (r ∷ rs) (y ∷ ys) (suc k) = late-read rs ys k

pub leaving_read : (rows : List RowView) (ys : List (Option Leaving)) (c : ℕ) → from_one (joined (fixing rows) ys) c None ≡ later_or (row_at rows c) (from_one ys c None)
leaving_read rows ys zero = refl
leaving_read rows ys (suc k) = late-read rows ys k

place-in : (rows : List RowView) (k : ℕ) (d : RowView) → k < length rows → slice_get rows k ≡ Some (slice_index_or rows k d)
place-in [] k d h = absurd (omega (arith, h))
place-in (r ∷ rs) zero d h = refl
place-in (r ∷ rs) (suc k) d h = place-in rs k d (omega (arith, h))

pub row_place : (rows : List RowView) (c : ℕ) (d : RowView) → 1 ≤ c → c ≤ length rows → row_at rows c ≡ Some (slice_index_or rows (c - 1) d)
row_place rows zero d low high = absurd (omega (arith, low))
row_place rows (suc k) d low high =
    let e : suc k - 1 ≡ k = omega arith in
    place-in rows k d (omega (arith, high)) ∙ sym (ap (λ (n : ℕ). Some (slice_index_or rows n d)) e)

pub late_call_none : (ys : List (Option Leaving)) (c : ℕ) (x : Option Leaving) → c ≡ 0 → with_late_call ys c x ≡ ys
late_call_none ys zero x h = refl
late_call_none ys (suc k) x h = absurd (omega (arith, h))

pub late_call_past : (ys : List (Option Leaving)) (c : ℕ) → length ys < c → with_late_call ys c None ≡ ys
late_call_past ys zero h = refl
late_call_past ys (suc k) h = late_past ys k (omega (arith, h))

pub late_call_set : (ys : List (Option Leaving)) (c : ℕ) (x : Option Leaving) → 1 ≤ c → c ≤ length ys → with_late_call ys c x ≡ slice_set ys (c - 1) x
late_call_set ys zero x low high = absurd (omega (arith, low))
late_call_set ys (suc k) x low high =
    let e : suc k - 1 ≡ k = omega arith in
    rw e (late_set ys k x (omega (arith, high)))

pub late_call_filled : (ys : List (Option Leaving)) (c : ℕ) (l : Leaving) → length ys < c → with_late_call ys c (Some l) ≡ (ys ++ replicate (c - 1 - length ys) None) ++ Some l ∷ []
late_call_filled ys zero l h = absurd (omega (arith, h))
late_call_filled ys (suc k) l h =
    let e : suc k - 1 ≡ k = omega arith in
    rw e (late_filled ys k l (omega (arith, h)))
