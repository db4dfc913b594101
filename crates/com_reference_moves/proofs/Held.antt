-- What places hold is what their lists have.
use Rattle.std.proofs.Common.{arith, ◌∙◌}
use Rattle.std.proofs.lemmas.List.Sums.{sum_by-cons}
use Rattle.std.specs.Prelude.{◌≡◌, refl, ℕ, zero, suc, ◌+◌, Bool, true, false, cond, not, ◌&&◌, ◌==◌, List, [], ◌∷◌, ◌++◌, Option, Some, None, sum_by}
use Rattle.com_base.specs.declared.value.RefValue.{RefValue}
use Rattle.com_refs_books.specs.Counting.{sum_below}
use Rattle.com_model.specs.declared.keeps.Opener.{Opener}
use Rattle.com_model.specs.declared.keeps.Opener.TheVariants.{Pumps, Waits, Enters}
use Rattle.com_model.specs.declared.scenario.Scenario.{Scenario}
use Rattle.com_model.specs.Tables.{threads, lanes}
use Rattle.com_model.specs.declared.keeps.Admission.{Admission}
use Rattle.com_model.specs.Calls.{is_direct, route_of}
use Rattle.com_model.specs.Frames.{Scene, value_reference}
use Rattle.com_model.specs.Places.{Ground, Test, passes, entered_in, left_value, in_scripts, in_frame, in_bodies, in_links, in_result, in_results}
use Rattle.com_laws_places.specs.Moves.{Move as Moving, moved, all_moved, counted, entered_where, result_moved}
use Rattle.com_laws_places.proofs.Counted.{counted-both, counted-slot, counted-slots, counted-home}
use Rattle.com_reference_moves.specs.Held.{over_below, held_by_opener, held_by_openers, PlacesByLists}

over-counted : (n : ℕ) (f : ℕ → List Moving) (x : ℕ → ℕ) (a : ℕ) (t : Test) → ((k : ℕ) → counted (f k) a t ≡ x k) → counted (over_below n f) a t ≡ sum_below n x
over-counted zero f x a t p = refl
over-counted (suc n) f x a t p =
    let rest : counted (over_below n f) a t ≡ sum_below n x = over-counted n f x a t p in
    let here : counted (f n) a t ≡ x n = p n in
    omega (arith, rest, here, counted-both (over_below n f) (f n) a t)

opener-counted : (w : Scene) (o : Opener) (a : ℕ) (t : Test) → counted (held_by_opener w o) a t ≡ in_frame w a t o
opener-counted w (Enters c o b) a t = counted-slots b (w.bodies c).slots a t
opener-counted w (Pumps n) a t = refl
opener-counted w (Waits c) a t = refl

openers-counted : (w : Scene) (os : List Opener) (a : ℕ) (t : Test) → counted (held_by_openers w os) a t ≡ sum_by (in_frame w a t) os
openers-counted w [] a t = refl
openers-counted w (o ∷ os) a t =
    let rest : counted (held_by_openers w os) a t ≡ sum_by (in_frame w a t) os = openers-counted w os a t in
    let here : counted (held_by_opener w o) a t ≡ in_frame w a t o = opener-counted w o a t in
    omega (arith, rest, here, counted-both (held_by_opener w o) (held_by_openers w os) a t, sum_by-cons (in_frame w a t) o os)

held-counted : (d r : Bool) (x : Option Admission) (held : Option RefValue) (a : ℕ) (t : Test)
    → counted (cond (d && not r) (moved (entered_where x) held) []) a t ≡ cond (d && (entered_in a x && not r)) (passes t held) 0
held-counted false r x held a t = refl
held-counted true true None held a t = refl
held-counted true true (Some y) held a t = elim (y.apartment == a) as (λ q. zero ≡ cond (q && false) (passes t held) zero) [ true ↦ refl | false ↦ refl ]
held-counted true false None held a t = refl
held-counted true false (Some y) held a t = counted-slot y.apartment held a t ∙ elim (y.apartment == a) as (λ q. cond q (passes t held) 0 ≡ cond (q && true) (passes t held) 0) [ true ↦ refl | false ↦ refl ]

result-counted : (g : Ground) (c a : ℕ) (t : Test) → counted (result_moved g c (left_value (g.left c))) a t ≡ in_result g a t c
result-counted g c a t = held-counted (is_direct (route_of (g.issue c))) (g.returned c) (g.admitted c) (value_reference (left_value (g.left c))) a t

four-lists : (x y z u : List Moving) (a : ℕ) (t : Test) (i j k l : ℕ) → counted x a t ≡ i → counted y a t ≡ j → counted z a t ≡ k → counted u a t ≡ l → counted (x ++ (y ++ (z ++ u))) a t ≡ i + j + k + l
four-lists x y z u a t i j k l p q r m =
    omega (arith, p, q, r, m, counted-both x (y ++ (z ++ u)) a t, counted-both y (z ++ u) a t, counted-both z u a t)

pub places-lists : (s : Scenario) (g : Ground) (w : Scene) → PlacesByLists s g w
places-lists s g w = λ a t.
    four-lists
    (over_below (threads s + 1) (λ l. all_moved (g.home l) (w.scripts l).slots))
    (over_below (lanes s + 1) (λ l. held_by_openers w (g.openers l)))
    (over_below (g.objects + 1) (λ o. all_moved (Some (g.named o)) (w.cells o).links))
    (over_below (g.calls + 1) (λ c. result_moved g c (left_value (g.left c))))
    a t (in_scripts s g w a t) (in_bodies s g w a t) (in_links g w a t) (in_results g a t)
    (over-counted (threads s + 1) (λ l. all_moved (g.home l) (w.scripts l).slots) _ a t (λ l. counted-home (g.home l) (w.scripts l).slots a t))
    (over-counted (lanes s + 1) (λ l. held_by_openers w (g.openers l)) _ a t (λ l. openers-counted w (g.openers l) a t))
    (over-counted (g.objects + 1) (λ o. all_moved (Some (g.named o)) (w.cells o).links) _ a t (λ o. counted-slots (g.named o) (w.cells o).links a t))
    (over-counted (g.calls + 1) (λ c. result_moved g c (left_value (g.left c))) (in_result g a t) a t (λ c. result-counted g c a t))
