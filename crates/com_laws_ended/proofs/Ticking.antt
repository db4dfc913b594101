-- Where the clock goes on, a call waits for a time, so something is open in a lane, and not all is done.
use Rattle.std.proofs.Common.{ap, subst, ◌∙◌, inl, inr, arith}
use Rattle.std.proofs.lemmas.Grind.{common_steps}
use Rattle.std.specs.Prelude.{◌≡◌, refl, ℕ, zero, suc, ◌≤◌, Bool, true, false, ◌&&◌, nat_le, List, [], ◌∷◌, ◌++◌, Option, Some, None, is_some, option_map, cond, filter_map}
use Rattle.std.specs.List.{cons_option}
use Rattle.com_model.specs.declared.deeds.Deed.{Deed}
use Rattle.com_model.specs.declared.deeds.Deed.TheVariants as deed
use Rattle.com_model.specs.declared.deeds.Entry.{Entry}
use Rattle.com_model.specs.declared.keeps.Ending.{Ending}
use Rattle.com_model.specs.declared.keeps.Issue.{Issue}
use Rattle.com_model.specs.declared.keeps.Opener.{Opener}
use Rattle.com_model.specs.declared.keeps.Opener.TheVariants.{Waits}
use Rattle.com_model.specs.declared.keeps.Phase.{Phase}
use Rattle.com_model.specs.declared.keeps.Phase.TheVariants.{Unposted, Queued, Judged, Delayed, GivenUp}
use Rattle.com_model.specs.declared.scenario.Scenario.{Scenario}
use Rattle.com_model.specs.Lists.{is_empty, least, one_to}
use Rattle.com_model.specs.Tables.{lanes}
use Rattle.com_model.specs.Openers.{Opens, Keeps, effect, effect_on, openers}
use Rattle.com_model.specs.Calls.{is_post, issue, lane_of, route_of}
use Rattle.com_model.specs.Endings.{ending}
use Rattle.com_model.specs.Waiting.{phase}
use Rattle.com_model.specs.Sight.{Sight, sight}
use Rattle.com_model.specs.Rules.{legal, next, no_lane_can, tick_time, time_of, time_waited}
use Rattle.com_model.specs.Ends.{finished_by}
use Rattle.com_laws_balance.proofs.Answered.{lane-low}
use Rattle.com_laws_balance.proofs.Counts.{Among}
use Rattle.com_laws_balance.proofs.Homes.{among-any}
use Rattle.com_laws_balance.proofs.Steps.{opens-own}
use Rattle.com_laws_release.proofs.Lives.{legal-waits}
use Rattle.com_laws_safety.proofs.Posted.{At, Known, legal-posted}
use Rattle.com_laws_ended.proofs.Resting.{left-of, each-one, empty-is, parts-of}

-- ---- a call that waits for a time

record Timed (v : Sight) : Type 0 where
  call : ℕ
  time : ℕ
  waits : time_of v call ≡ Some time

first-or : (v : Sight) (c : ℕ) (cs : List ℕ) (t : ℕ) (x : Option ℕ) → (least (filter_map (time_of v) cs) ≡ Some t → Timed v) → time_of v c ≡ x
    → least (cons_option x (filter_map (time_of v) cs)) ≡ Some t → Timed v
first-or v c cs t None f q e = f e
first-or v c cs t (Some u) f q e = record { call = c; time = u; waits = q }

timed-in : (v : Sight) (cs : List ℕ) (t : ℕ) → least (filter_map (time_of v) cs) ≡ Some t → Timed v
timed-in v [] t e = cc
timed-in v (c ∷ cs) t e = first-or v c cs t (time_of v c) (timed-in v cs t) refl e

-- It was posted, and has no answer.
record Unanswered (s : Scenario) (h : List Entry) (c : ℕ) : Type 0 where
  known : Known h c
  unanswered : ending s h c ≡ None

timed-waits : (s : Scenario) (h : List Entry) (c t : ℕ) (p : Phase) (x : Option Ending) → ending s h c ≡ x → At (Known h) c p
    → time_waited (sight s h) p (is_some x) ≡ Some t → Unanswered s h c
timed-waits s h c t (Delayed u) None q k e = record { known = k; unanswered = q }
timed-waits s h c t (Delayed u) (Some y) q k e = cc
timed-waits s h c t Unposted x q k e = cc
timed-waits s h c t Queued x q k e = cc
timed-waits s h c t (Judged v) x q k e = cc
timed-waits s h c t GivenUp x q k e = cc

was-issued : (x : Option Issue) → is_post (route_of x) ≡ true → is_some x ≡ true
was-issued None e = cc
was-issued (Some i) e = refl

-- So it stands open in its lane.
timed-open : (s : Scenario) (h : List Entry) → legal s h → (t : Timed (sight s h)) → Among (Waits t.call) (openers h (lane_of (issue h t.call)))
timed-open s h q t =
    let w : Unanswered s h t.call = timed-waits s h t.call t.time (phase h t.call) (ending s h t.call) refl (legal-posted s h q t.call) t.waits in
    legal-waits s h t.call q (was-issued (issue h t.call) w.known.post) w.unanswered

-- ---- nothing is open in the clock's lane

tick-keeps : (o : Opener) (n : Bool) (t : Option ℕ) (d : Deed) → cond n (option_map (λ u. deed.Tick u) t) None ≡ Some d → effect d ≡ Opens o → ⊥
tick-keeps o true (Some u) d e p = keeps (ap effect (one e) ∙ p)
  where
    one : Some (deed.Tick u) ≡ Some d → deed.Tick u ≡ d
    one e = cc

    keeps : Keeps ≡ Opens o → ⊥
    keeps e = cc
tick-keeps o true None d e p = cc
tick-keeps o false t d e p = cc

opens-lane : (s : Scenario) (h : List Entry) (o : Opener) (l : ℕ) (d : Deed) → next s h l ≡ Some d → effect d ≡ Opens o → 1 ≤ l
opens-lane s h o zero d e p = absurd (tick-keeps o (no_lane_can s (sight s h)) (tick_time (sight s h)) d e p)
opens-lane s h o (suc l) d e p = omega arith

open-lane : (s : Scenario) (h : List Entry) (l : ℕ) (o : Opener) → legal s h → Among o (openers h l) → 1 ≤ l
open-lane s [] l o q m = absurd m
open-lane s (e ∷ h) l o q m =
    elim (among-any o (effect_on l e) (openers h l) m) as (λ _. 1 ≤ l) [
      | inl p ↦ open-lane s h l o q.0 p
      | inr p ↦ subst (λ (k : ℕ). 1 ≤ k) (opens-own l e o p).0 (opens-lane s h o e.lane e.deed q.1 (opens-own l e o p).1)
    ]

-- ---- where all is done, nothing is open

nothing-open : (s : Scenario) (h : List Entry) (l : ℕ) → finished_by s (sight s h) ≡ true → 1 ≤ l → l ≤ lanes s → openers h l ≡ []
nothing-open s h l e low high =
    empty-is (openers h l) (left-of (is_empty (openers h l)) (is_empty ((sight s h).dying l))
    (each-one (λ k. is_empty ((sight s h).openers k) && is_empty ((sight s h).dying k)) (lanes s) l (parts-of s (sight s h) e).closed low high))

-- A history whose clock goes on is not finished.
pub ticks-unfinished : (s : Scenario) (h : List Entry) (t : ℕ) → legal s h → tick_time (sight s h) ≡ Some t → finished_by s (sight s h) ≡ true → ⊥
ticks-unfinished s h t q e done =
    let v : Sight = sight s h in
    let c : Timed v = timed-in v (one_to v.calls) t e in
    let l : ℕ = lane_of (issue h c.call) in
    let m : Among (Waits c.call) (openers h l) = timed-open s h q c in
    subst (λ (os : List Opener). Among (Waits c.call) os)
    (nothing-open s h l done (open-lane s h l (Waits c.call) q m) (lane-low s h l (Waits c.call) q m)) m
