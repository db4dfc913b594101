-- Who acts in a lane after an entry of it.
use Rattle.std.proofs.Common.{◌≡◌, ℕ, suc, ◌-◌, ◌≤◌, ◌<◌, List, [], ◌∷◌, Some, None, length, reverse, slice_get, slice_index_or, get_or, refl, ap, sym, ◌∙◌, arith}
use Rattle.std.proofs.lemmas.List.{length-reverse, get_or-reverse, get_or-set_same}
use Rattle.std.proofs.lemmas.Option.{slice_get-get_or}
use Rattle.com_model.specs.declared.deeds.Deed.{Deed}
use Rattle.com_model.specs.declared.keeps.Opener.{Opener}
use Rattle.com_model.specs.declared.keeps.Opener.TheVariants.{Pumps, Waits, Enters}
use Rattle.com_model.specs.Frames.{actor}
use Rattle.com_model.specs.Lists.{first, without_first}
use Rattle.com_model.specs.Openers.{Effect, Opens, Closes, Keeps, effect, opened}
use Rattle.com_model.specs.State.{changed_at, opens}
use Rattle.com_model.specs.Tables.{LaneSort, lane_sort}
use Rattle.com_state.specs.Parts.{LaneTables, openers_at, lanes_after}
use Rattle.com_view.specs.Seen.{Seen}
use Rattle.com_turns.specs.Turns.{actor_above, actor_later}

-- The opener below the innermost one.
pub second_of : {X : Type 0} (xs : List X) → 2 ≤ length xs → slice_get (reverse xs) (length xs - 2) ≡ first (without_first xs)
second_of [] h = absurd (omega (arith, h))
second_of (x ∷ []) h = absurd (omega (arith, h))
second_of (x ∷ y ∷ zs) h =
    let xs : List _ = x ∷ y ∷ zs in
    let n : length xs ≡ suc (suc (length zs)) = refl in
    let within : length xs - 2 < length xs = omega (arith, n) in
    let there : length xs - 1 - (length xs - 2) ≡ 1 = omega (arith, n) in
    slice_get-get_or (reverse xs) (length xs - 2) y (omega (arith, within, length-reverse xs))
    ∙ ap (λ (z : _). Some z) (get_or-reverse xs (length xs - 2) y within ∙ ap (λ (k : ℕ). get_or xs k y) there)

pub none_below : {X : Type 0} (xs : List X) → length xs < 2 → first (without_first xs) ≡ None
none_below [] h = refl
none_below (x ∷ []) h = refl
none_below (x ∷ y ∷ zs) h = let n : length (x ∷ y ∷ zs) ≡ suc (suc (length zs)) = refl in absurd (omega (arith, h, n))

pub actor_is : (sort : LaneSort) (l : ℕ) (os : List Opener) → actor_above sort l (first os) ≡ actor sort l os
actor_is sort l [] = refl
actor_is sort l (Enters c o a ∷ os) = refl
actor_is sort l (Waits c ∷ os) = refl
actor_is sort l (Pumps n ∷ os) = refl

-- A lane that has a row.
row_opened : (x : Effect) (l : ℕ) (rows : List (List Opener)) → l < length rows
    → slice_index_or (changed_at (opens x) l [] rows) l [] ≡ opened x (slice_index_or rows l [])
row_opened (Opens o) l rows h = get_or-set_same rows l (o ∷ slice_index_or rows l []) [] h
row_opened (Closes k) l rows h = get_or-set_same rows l (without_first (slice_index_or rows l [])) [] h
row_opened Keeps l rows h = refl

pub openers_later : (t : LaneTables) (l : ℕ) (d : Deed) → l < length t.openers
    → opened (effect d) (openers_at t l) ≡ openers_at (lanes_after t (record { lane = l; deed = d })) l
openers_later t l d h = sym (row_opened (effect d) l t.openers h)

pub later_is : (w : Seen) (l : ℕ) (d : Deed) → l < length w.lanes.openers
    → actor (lane_sort w.scenario l) l (opened (effect d) (openers_at w.lanes l)) ≡ actor_later w l d
later_is w l d h = ap (λ (os : List Opener). actor (lane_sort w.scenario l) l os) (openers_later w.lanes l d h)
