-- What stands open, kept with the innermost last, and the rows of lanes.
use Rattle.std.proofs.Common.{refl, ap, sym, ◌∙◌, arith}
use Rattle.std.proofs.lemmas.List.{reverse-append}
use Rattle.std.specs.Prelude.{◌≡◌, ℕ, zero, suc, ◌<◌, ◌≤◌, List, [], ◌∷◌, ◌++◌, length, reverse, Option, Some, None, slice_index_or, slice_set}
use Rattle.std.specs.Option.{option_to_list}
use Rattle.com_deliveries.specs.Rows.{top_in, without_top, opened_in, closed_in}

-- ---- one lane

pub reversed_more : (xs : List ℕ) (x : ℕ) → reverse (xs ++ (x ∷ [])) ≡ x ∷ reverse xs
reversed_more xs x = reverse-append xs (x ∷ [])

pub top_of_last : (xs rest : List ℕ) (x : ℕ) → xs ≡ rest ++ (x ∷ []) → x ≡ top_in (reverse xs)
top_of_last xs rest x e = sym (ap (λ (ys : List ℕ). top_in (reverse ys)) e ∙ ap top_in (reversed_more rest x))

pub top_of_none : (xs : List ℕ) → length xs ≡ 0 → 0 ≡ top_in (reverse xs)
top_of_none [] e = refl
top_of_none (x ∷ xs) e = absurd (omega (arith, e))

pub popped : (xs ys : List ℕ) (x : Option ℕ) → xs ≡ ys ++ option_to_list x → (x ≡ None → length xs ≡ 0) → reverse ys ≡ without_top (reverse xs)
popped xs ys (Some x) e n = sym (ap (λ (zs : List ℕ). without_top (reverse zs)) e ∙ ap without_top (reversed_more ys x))
popped [] [] None e n = refl
popped [] (y ∷ ys) None e n = cc
popped (x ∷ xs) ys None e n = absurd (some xs x (n refl))
  where
    some : (xs : List ℕ) (x : ℕ) → length (x ∷ xs) ≡ 0 → ⊥
    some xs x e = omega (arith, e)

-- ---- lanes

opened_at : (l c : ℕ) (lanes : List (List ℕ)) → l < length lanes → slice_set lanes l (c ∷ slice_index_or lanes l []) ≡ opened_in l c lanes
opened_at l c [] h = absurd (omega (arith, h))
opened_at zero c (x ∷ xs) h = refl
opened_at (suc l) c (x ∷ xs) h = ap (λ (ys : List (List ℕ)). x ∷ ys) (opened_at l c xs (omega (arith, h)))

closed_at : (l : ℕ) (lanes : List (List ℕ)) → l < length lanes → slice_set lanes l (without_top (slice_index_or lanes l [])) ≡ closed_in l lanes
closed_at l [] h = absurd (omega (arith, h))
closed_at zero (x ∷ xs) h = refl
closed_at (suc l) (x ∷ xs) h = ap (λ (ys : List (List ℕ)). x ∷ ys) (closed_at l xs (omega (arith, h)))

pub closed_past : (l : ℕ) (lanes : List (List ℕ)) → length lanes ≤ l → lanes ≡ closed_in l lanes
closed_past l [] h = refl
closed_past zero (x ∷ xs) h = absurd (omega (arith, h))
closed_past (suc l) (x ∷ xs) h = ap (λ (ys : List (List ℕ)). x ∷ ys) (closed_past l xs (omega (arith, h)))

-- A lane more, with nothing open, changes nothing of what is opened in a later one.
opened_later : (l c : ℕ) (lanes : List (List ℕ)) → length lanes ≤ l → opened_in l c (lanes ++ ([] ∷ [])) ≡ opened_in l c lanes
opened_later zero c [] h = refl
opened_later zero c (x ∷ xs) h = absurd (omega (arith, h))
opened_later (suc l) c [] h = refl
opened_later (suc l) c (x ∷ xs) h = ap (λ (ys : List (List ℕ)). x ∷ ys) (opened_later l c xs (omega (arith, h)))

-- ---- by equations

pub opened_to : (l c : ℕ) (lanes new : List (List ℕ)) → l < length lanes → new ≡ slice_set lanes l (c ∷ slice_index_or lanes l []) → new ≡ opened_in l c lanes
opened_to l c lanes new h e = e ∙ opened_at l c lanes h

pub closed_to : (l : ℕ) (lanes new : List (List ℕ)) → l < length lanes → new ≡ slice_set lanes l (without_top (slice_index_or lanes l [])) → new ≡ closed_in l lanes
closed_to l lanes new h e = e ∙ closed_at l lanes h

pub opened_further : (l : ℕ) (lanes new first : List (List ℕ)) → length lanes ≤ l → new ≡ lanes ++ ([] ∷ []) → ((c : ℕ) → opened_in l c lanes ≡ opened_in l c first) → (c : ℕ) → opened_in l c new ≡ opened_in l c first
opened_further l lanes new first h e f c = ap (λ (xs : List (List ℕ)). opened_in l c xs) e ∙ opened_later l c lanes h ∙ f c
