-- How many moves a slot or a list of slots makes.
use Rattle.std.proofs.Common.{ap, ◌∙◌, arith}
use Rattle.std.proofs.lemmas.List.Sums.{sum_by-cons, sum_by-append}
use Rattle.std.proofs.lemmas.Grind.{common_steps}
use Rattle.std.specs.Prelude.{◌≡◌, refl, ℕ, zero, suc, ◌+◌, Bool, true, false, cond, ◌==◌, ◌&&◌, List, [], ◌∷◌, ◌++◌, Option, Some, None, slice_index_or, slice_set}
use Rattle.com_base.specs.declared.value.RefValue.{RefValue}
use Rattle.com_refs_books.specs.Counting.{count_if}
use Rattle.com_model.specs.Lists.{is_number}
use Rattle.com_model.specs.Places.{Test, passes, in_slots}
use Rattle.com_laws_places.specs.Moves.{Move, moved, all_moved, counted}
use Rattle.com_laws_places.proofs.Frames.{slots_in, slots_at}

in_move : ℕ → Test → Move → ℕ
in_move a t m = count_if (m.apartment == a && t m.reference)

pub counted-both : (xs ys : List Move) (a : ℕ) (t : Test) → counted (xs ++ ys) a t ≡ counted xs a t + counted ys a t
counted-both xs ys a t = sum_by-append (λ (m : Move). count_if (m.apartment == a && t m.reference)) xs ys

-- The place of one slot.
abbrev pub slot_in : (b a : ℕ) → Test → Option RefValue → ℕ
slot_in b a t held = cond (b == a) (passes t held) 0

pub counted-slot : (b : ℕ) (held : Option RefValue) (a : ℕ) (t : Test) → counted (moved (Some b) held) a t ≡ slot_in b a t held
counted-slot b None a t = elim (b == a) as (λ q. zero ≡ cond q zero zero) [ true ↦ refl | false ↦ refl ]
counted-slot b (Some r) a t = elim (b == a) as (λ q. 0 + count_if (q && t r) ≡ cond q (count_if (t r)) 0) [ true ↦ omega arith | false ↦ refl ]

slots-more : (b a : ℕ) (t : Test) (x : Option RefValue) (xs : List (Option RefValue)) → slots_in b a t (x ∷ xs) ≡ slot_in b a t x + slots_in b a t xs
slots-more b a t x xs = elim (b == a) as (λ q. cond q (in_slots t (x ∷ xs)) 0 ≡ cond q (passes t x) 0 + cond q (in_slots t xs) 0) [ true ↦ sum_by-cons (passes t) x xs | false ↦ refl ]

pub counted-slots : (b : ℕ) (xs : List (Option RefValue)) (a : ℕ) (t : Test) → counted (all_moved (Some b) xs) a t ≡ slots_in b a t xs
counted-slots b [] a t = elim (b == a) as (λ q. zero ≡ cond q zero zero) [ true ↦ refl | false ↦ refl ]
counted-slots b (x ∷ xs) a t =
    let rest : counted (all_moved (Some b) xs) a t ≡ slots_in b a t xs = counted-slots b xs a t in
    let here : counted (moved (Some b) x) a t ≡ slot_in b a t x = counted-slot b x a t in
    omega (arith, rest, here, counted-both (moved (Some b) x) (all_moved (Some b) xs) a t, slots-more b a t x xs)

pub counted-nowhere : (xs : List (Option RefValue)) (a : ℕ) (t : Test) → counted (all_moved None xs) a t ≡ 0
counted-nowhere [] a t = refl
counted-nowhere (x ∷ xs) a t = counted-nowhere xs a t

same-other-way : (a b : ℕ) → (a == b) ≡ (b == a)
same-other-way a b = grind (arith, common_steps)

pub counted-home : (home : Option ℕ) (xs : List (Option RefValue)) (a : ℕ) (t : Test) → counted (all_moved home xs) a t ≡ slots_at home a t xs
counted-home None xs a t = counted-nowhere xs a t
counted-home (Some b) xs a t = counted-slots b xs a t ∙ ap (λ (q : Bool). cond q (in_slots t xs) 0) (same-other-way b a)

-- One slot or link put anew.
pub one-put : (t : Test) (xs : List (Option RefValue)) (k : ℕ) (x : Option RefValue)
    → in_slots t (slice_set xs k x) + passes t (slice_index_or xs k None) ≡ in_slots t xs + passes t (slice_index_or (slice_set xs k x) k None)
one-put t [] k x = refl
one-put t (y ∷ ys) zero x = omega (arith, sum_by-cons (passes t) y ys, sum_by-cons (passes t) x ys)
one-put t (y ∷ ys) (suc k) x =
    let rest : in_slots t (slice_set ys k x) + passes t (slice_index_or ys k None) ≡ in_slots t ys + passes t (slice_index_or (slice_set ys k x) k None) = one-put t ys k x in
    omega (arith, rest, sum_by-cons (passes t) y ys, sum_by-cons (passes t) y (slice_set ys k x))

pub put-in : (b a : ℕ) (t : Test) (xs : List (Option RefValue)) (k : ℕ) (x : Option RefValue)
    → slots_in b a t (slice_set xs k x) + counted (moved (Some b) (slice_index_or xs k None)) a t ≡ slots_in b a t xs + counted (moved (Some b) (slice_index_or (slice_set xs k x) k None)) a t
put-in b a t xs k x =
    let old : counted (moved (Some b) (slice_index_or xs k None)) a t ≡ slot_in b a t (slice_index_or xs k None) = counted-slot b (slice_index_or xs k None) a t in
    let new : counted (moved (Some b) (slice_index_or (slice_set xs k x) k None)) a t ≡ slot_in b a t (slice_index_or (slice_set xs k x) k None) = counted-slot b (slice_index_or (slice_set xs k x) k None) a t in
    let both : slots_in b a t (slice_set xs k x) + slot_in b a t (slice_index_or xs k None) ≡ slots_in b a t xs + slot_in b a t (slice_index_or (slice_set xs k x) k None) =
    elim (b == a) as (λ q. cond q (in_slots t (slice_set xs k x)) 0 + cond q (passes t (slice_index_or xs k None)) 0 ≡ cond q (in_slots t xs) 0 + cond q (passes t (slice_index_or (slice_set xs k x) k None)) 0) [ true ↦ one-put t xs k x | false ↦ refl ] in
    omega (arith, old, new, both)

pub put-at : (home : Option ℕ) (a : ℕ) (t : Test) (xs : List (Option RefValue)) (k : ℕ) (x : Option RefValue)
    → slots_at home a t (slice_set xs k x) + counted (moved home (slice_index_or xs k None)) a t ≡ slots_at home a t xs + counted (moved home (slice_index_or (slice_set xs k x) k None)) a t
put-at None a t xs k x = refl
put-at (Some b) a t xs k x =
    let turned : (b == a) ≡ (a == b) = same-other-way b a in
    let both : slots_in b a t (slice_set xs k x) + counted (moved (Some b) (slice_index_or xs k None)) a t ≡ slots_in b a t xs + counted (moved (Some b) (slice_index_or (slice_set xs k x) k None)) a t = put-in b a t xs k x in
    let new : slots_in b a t (slice_set xs k x) ≡ slots_at (Some b) a t (slice_set xs k x) = ap (λ (q : Bool). cond q (in_slots t (slice_set xs k x)) 0) turned in
    let old : slots_in b a t xs ≡ slots_at (Some b) a t xs = ap (λ (q : Bool). cond q (in_slots t xs) 0) turned in
    omega (arith, both, new, old)

-- Slots that are all null.
pub nulls-at : (home : Option ℕ) (a : ℕ) (t : Test) (xs : List (Option RefValue)) → in_slots t xs ≡ 0 → slots_at home a t xs ≡ 0
nulls-at home a t xs e = elim (is_number a home) as (λ q. cond q (in_slots t xs) 0 ≡ 0) [ true ↦ e | false ↦ refl ]

pub nulls-in : (b a : ℕ) (t : Test) (xs : List (Option RefValue)) → in_slots t xs ≡ 0 → slots_in b a t xs ≡ 0
nulls-in b a t xs e = elim (b == a) as (λ q. cond q (in_slots t xs) 0 ≡ 0) [ true ↦ e | false ↦ refl ]
