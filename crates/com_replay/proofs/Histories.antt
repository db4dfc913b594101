-- Lists of picks make legal histories, and each legal history is made by its own lanes.
use Rattle.std.proofs.Common.{ap, ◌∙◌, arith}
use Rattle.std.proofs.lemmas.Grind.{common_steps}
use Rattle.std.specs.Prelude.{◌≡◌, refl, ℕ, ◌<◌, ◌≤◌, Bool, true, false, cond, nat_lt, List, [], ◌∷◌, ◌++◌}
use Rattle.std.specs.Prelude.{Option, Some, None, length}
use Rattle.com_model.specs.declared.deeds.Deed.{Deed}
use Rattle.com_model.specs.declared.deeds.Entry.{Entry}
use Rattle.com_model.specs.declared.scenario.Scenario.{Scenario}
use Rattle.com_model.specs.Ends.{limit}
use Rattle.com_model.specs.Rules.{legal, next}
use Rattle.com_replay.specs.Picked.{lanes_of, picked, with_deed, with_picks}

-- ---- every list makes a legal history

deed-legal : (s : Scenario) (h : List Entry) (l : ℕ) (x : Option Deed) → next s h l ≡ x → legal s h
    → legal s (with_deed s h l x)
deed-legal s h l None e q = q
deed-legal s h l (Some d) e q =
    elim (nat_lt (length h) (limit s)) as (λ b. legal s (cond b (record { lane = l; deed = d } ∷ h) h)) [
      | true ↦ (q, e)
      | false ↦ q
    ]

picks-legal : (s : Scenario) (h : List Entry) (picks : List ℕ) → legal s h → legal s (with_picks s h picks)
picks-legal s h [] q = q
picks-legal s h (l ∷ ls) q =
    picks-legal s (with_deed s h l (next s h l)) ls (deed-legal s h l (next s h l) refl q)

pub picked_legal : (s : Scenario) (picks : List ℕ) → legal s (picked s picks)
unfolding picked
picked_legal s picks = picks-legal s [] picks tt

-- ---- every legal history is made

picks-append : (s : Scenario) (h : List Entry) (xs ys : List ℕ)
    → with_picks s h (xs ++ ys) ≡ with_picks s (with_picks s h xs) ys
picks-append s h [] ys = refl
picks-append s h (x ∷ xs) ys = picks-append s (with_deed s h x (next s h x)) xs ys

lower-true : (m n : ℕ) → m < n → nat_lt m n ≡ true
lower-true m n p = grind (arith, common_steps, p)

-- The next entry of a lane, where there is room for it.
pub one_more : (s : Scenario) (h : List Entry) (e : Entry) → next s h e.lane ≡ Some e.deed
    → length h < limit s → with_deed s h e.lane (next s h e.lane) ≡ e ∷ h
one_more s h e q room =
    ap (with_deed s h e.lane) q ∙ ap (λ (b : Bool). cond b (e ∷ h) h) (lower-true (length h) (limit s) room)

all-picked : (s : Scenario) (h : List Entry) → legal s h → length h ≤ limit s
    → with_picks s [] (lanes_of h) ≡ h
all-picked s [] q few = refl
all-picked s (e ∷ h) q few =
    let room : length h < limit s = omega (arith, few) in
    picks-append s [] (lanes_of h) (e.lane ∷ [])
    ∙ ap (λ (g : List Entry). with_picks s g (e.lane ∷ [])) (all-picked s h q.0 (omega (arith, room)))
    ∙ one_more s h e q.1 room

pub history_picked : (s : Scenario) (h : List Entry) → legal s h → length h ≤ limit s
    → picked s (lanes_of h) ≡ h
unfolding picked
history_picked s h q few = all-picked s h q few
