-- Lists of moves, and of what places hold.
use Rattle.std.proofs.Common.{ap, ap₂, ◌∙◌, sym, append_assoc, arith, get_or}
use Rattle.std.specs.Prelude.{◌≡◌, refl, ℕ, zero, suc, ◌+◌, ◌≤◌, ◌<◌, List, [], ◌∷◌, ◌++◌, ◌-◌, replicate, take, Option, Some, None, length, slice_index_or, slice_set}
use Rattle.com_base.specs.declared.value.RefValue.{RefValue}
use Rattle.com_base.specs.declared.value.Value.{Value}
use Rattle.com_body.specs.Frames.{references, entered}
use Rattle.com_body.proofs.Entries.{references_more}
use Rattle.std.proofs.lemmas.List.{take_more}
use Rattle.com_laws_places.specs.Moves.{Move as Moving, Moves as Movings, together, moved, all_moved}
use Rattle.com_reference_moves.specs.declared.moves.Move.{Move}
use Rattle.com_reference_moves.specs.Steps.{moving_of, movings_of}

pub movings_more : (xs ys : List Move) → movings_of (xs ++ ys) ≡ movings_of xs ++ movings_of ys
movings_more [] ys = refl
movings_more (x ∷ xs) ys = ap (λ (ms : List Moving). moving_of x ∷ ms) (movings_more xs ys)

pub append_none : (xs : List Moving) → xs ++ [] ≡ xs
append_none [] = refl
append_none (x ∷ xs) = ap (λ (ys : List Moving). x ∷ ys) (append_none xs)

pub all_moved_more : (a : Option ℕ) (xs ys : List (Option RefValue)) → all_moved a (xs ++ ys) ≡ all_moved a xs ++ all_moved a ys
all_moved_more a [] ys = refl
all_moved_more a (x ∷ xs) ys = ap (λ (ms : List Moving). moved a x ++ ms) (all_moved_more a xs ys) ∙ sym (append_assoc (moved a x) (all_moved a xs) (all_moved a ys))

-- One place more, and one value more.
pub lost_more : (before : List Moving) (a : Option ℕ) (xs : List (Option RefValue)) (i : ℕ) → i < length xs → (before ++ all_moved a (take i xs)) ++ moved a (get_or xs i None) ≡ before ++ all_moved a (take (i + 1) xs)
lost_more before a xs i within =
    append_assoc before (all_moved a (take i xs)) (moved a (get_or xs i None))
    ∙ ap (λ (ms : List Moving). before ++ ms)
    (sym (ap (all_moved a) (take_more xs i None within) ∙ all_moved_more a (take i xs) (get_or xs i None ∷ []) ∙ ap (λ (ms : List Moving). all_moved a (take i xs) ++ ms) (append_none (moved a (get_or xs i None)))))

pub gained_more : (before : List Moving) (a : Option ℕ) (vs : List Value) (i : ℕ) (d : Value) → i < length vs → (before ++ all_moved a (references (take i vs))) ++ all_moved a (references (get_or vs i d ∷ [])) ≡ before ++ all_moved a (references (take (i + 1) vs))
gained_more before a vs i d within =
    append_assoc before (all_moved a (references (take i vs))) (all_moved a (references (get_or vs i d ∷ [])))
    ∙ ap (λ (ms : List Moving). before ++ ms)
    (sym (ap (all_moved a) (references_more vs i d within) ∙ all_moved_more a (references (take i vs)) (references (get_or vs i d ∷ []))))

-- A list of 8 is its places one by one, and nulls move nothing.
pub eight : (xs : List (Option RefValue)) → length xs ≡ 8 → slice_index_or xs 0 None ∷ slice_index_or xs 1 None ∷ slice_index_or xs 2 None ∷ slice_index_or xs 3 None ∷ slice_index_or xs 4 None ∷ slice_index_or xs 5 None ∷ slice_index_or xs 6 None ∷ slice_index_or xs 7 None ∷ [] ≡ xs
eight [] p = absurd (omega (arith, p))
eight (a ∷ []) p = absurd (omega (arith, p))
eight (a ∷ b ∷ []) p = absurd (omega (arith, p))
eight (a ∷ b ∷ c ∷ []) p = absurd (omega (arith, p))
eight (a ∷ b ∷ c ∷ d ∷ []) p = absurd (omega (arith, p))
eight (a ∷ b ∷ c ∷ d ∷ e ∷ []) p = absurd (omega (arith, p))
eight (a ∷ b ∷ c ∷ d ∷ e ∷ f ∷ []) p = absurd (omega (arith, p))
eight (a ∷ b ∷ c ∷ d ∷ e ∷ f ∷ g ∷ []) p = absurd (omega (arith, p))
eight (a ∷ b ∷ c ∷ d ∷ e ∷ f ∷ g ∷ h ∷ []) p = refl
eight (a ∷ b ∷ c ∷ d ∷ e ∷ f ∷ g ∷ h ∷ i ∷ xs) p = absurd (omega (arith, p))

nulls-move : (a : Option ℕ) (n : ℕ) → all_moved a (replicate n None) ≡ []
nulls-move a zero = refl
nulls-move None (suc n) = nulls-move None n
nulls-move (Some a) (suc n) = nulls-move (Some a) n

pub entered_moves : (a : Option ℕ) (vs : List Value) → all_moved a (entered vs).slots ≡ all_moved a (references vs)
entered_moves a vs =
    all_moved_more a (references vs) (replicate (8 - length (references vs)) None)
    ∙ ap (λ (ms : List Moving). all_moved a (references vs) ++ ms) (nulls-move a (8 - length (references vs)))
    ∙ append_none (all_moved a (references vs))

pub set_beyond : (xs : List (Option RefValue)) (k : ℕ) (held : Option RefValue) → length xs ≤ k → slice_set xs k held ≡ xs
set_beyond [] k held p = refl
set_beyond (x ∷ xs) zero held p = absurd (omega (arith, p))
set_beyond (x ∷ xs) (suc k) held p = ap (λ (ys : List (Option RefValue)). x ∷ ys) (set_beyond xs k held (omega (arith, p)))

-- What is lost first, and what comes then.
pub lost_then : (m : Movings) (xs : List Moving) (n : Movings) → together (record m { lost = m.lost ++ xs }) n ≡ together m (together (record { lost = xs; gained = [] }) n)
lost_then m xs n = ap (λ (ms : List Moving). record { lost = ms; gained = m.gained ++ n.gained }) (append_assoc m.lost xs n.lost)

pub all_together : (m x y z : Movings) → together (together (together m x) y) z ≡ together m (together x (together y z))
all_together m x y z =
    ap₂ (λ (xs ys : List Moving). record { lost = xs; gained = ys })
    (append_assoc (m.lost ++ x.lost) y.lost z.lost ∙ append_assoc m.lost x.lost (y.lost ++ z.lost))
    (append_assoc (m.gained ++ x.gained) y.gained z.gained ∙ append_assoc m.gained x.gained (y.gained ++ z.gained))
