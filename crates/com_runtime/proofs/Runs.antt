-- By induction on the turns: each turn is the same by the tables and by the history.
use Rattle.std.proofs.Common.{subst, sym, ◌∙◌, ap, arith, append_assoc}
use Rattle.std.specs.Prelude.{◌≡◌, refl, ℕ, zero, suc, ◌+◌, ◌≤◌, Bool, true, cond, nat_le, List, [], ◌∷◌, Option, Some, None, length}
use Rattle.com_model.specs.declared.counts.Ended.{Ended}
use Rattle.com_model.specs.declared.deeds.Deed.{Deed}
use Rattle.com_model.specs.declared.deeds.Entry.{Entry}
use Rattle.com_model.specs.declared.scenario.Scenario.{Scenario}
use Rattle.com_model.specs.Sight.{Sight, sight}
use Rattle.com_model.specs.Rules.{legal, next}
use Rattle.com_model.specs.Ends.{Turn, turn, ended_by, ended_as, last_after, limit, run_on, with_entry, with_turn, unless_ended}
use Rattle.com_model.specs.Formed.{Formed}
use Rattle.com_model.specs.State.{State, StandsFor, sight_of, after, first_tables}
use Rattle.com_model.proofs.Rowed.{after-rows}
use Rattle.com_model.proofs.Whole.{first-stands, whole-after}
use Rattle.com_model.proofs.Kept.{legal-bounded}
use Rattle.com_model.proofs.Sights.{same-sight, same-next}
use Rattle.com_runtime.specs.Schedule.{Run, behind, ended_in, turn_in, after_deed, after_turn, unless_over, runs, RunsAs}

pub stands-later : (s : Scenario) (st : State) (h : List Entry) (l : ℕ) (d : Deed) → Formed s → legal s (record { lane = l; deed = d } ∷ h) → StandsFor s st h → StandsFor s (after s st l d) (record { lane = l; deed = d } ∷ h)
stands-later s st h l d f q p =
    subst (λ (x : State). StandsFor s x (record { lane = l; deed = d } ∷ h)) (after-rows s st l d)
    (whole-after s st h l d q (legal-bounded s (record { lane = l; deed = d } ∷ h) f q) p)

-- The history has ended by its tables as it has by its definition.
is-low : (k n : ℕ) → k ≤ n → nat_le k n ≡ true
is-low k n q = grind (arith, q)

in-limit : (s : Scenario) (v : Sight) (k : ℕ) → k ≤ limit s → cond (nat_le k (limit s)) (ended_by s v k) None ≡ ended_by s v k
in-limit s v k q = ap (λ (b : Bool). cond b (ended_by s v k) None) (is-low k (limit s) q)

ended-same : (s : Scenario) (st : State) (h : List Entry) → StandsFor s st h → length h ≤ limit s → ended_as s h ≡ ended_in s st
ended-same s st h p q =
    in-limit s (sight s h) (length h) q
    ∙ ap (λ (v : Sight). ended_by s v (length h)) (sym (same-sight s st h p))
    ∙ ap (ended_by s (sight_of s st)) (sym p.entries)

turn-same : (s : Scenario) (st : State) (h : List Entry) (picks : List ℕ) (last : ℕ) → StandsFor s st h → turn s (sight s h) picks last ≡ turn_in s st picks last
turn-same s st h picks last p = ap (λ (v : Sight). turn s v picks last) (sym (same-sight s st h p))

-- What the induction says of so many turns.
abbrev Turns : Scenario → ℕ → Type 0
Turns s n =
    (st : State) (h : List Entry) (picks : List ℕ) (last : ℕ) → StandsFor s st h → n + length h ≡ limit s
    → RunsAs s h (run_on n s h picks last) (runs n s st picks last)

one-more : (s : Scenario) (h later : List Entry) (e : Entry) (r : Run) → RunsAs s (e ∷ h) later r → RunsAs s h later (behind e r)
one-more s h later e r p = record { entries = p.entries ∙ sym (append_assoc r.entries (e ∷ []) h); stands = p.stands }

by-deed : (s : Scenario) (n : ℕ) (st : State) (h : List Entry) (t : Turn) (last : ℕ) → Formed s → StandsFor s st h → suc n + length h ≡ limit s
    → Turns s n → (d : Option Deed) → next s h t.lane ≡ d → RunsAs s h (with_entry (run_on n s) h t last d) (after_deed s (runs n s) st last t d)
by-deed s n st h t last f p e go None q = record { entries = refl; stands = p }
by-deed s n st h t last f p e go (Some d) q =
    one-more s h _ (record { lane = t.lane; deed = d }) _
    (go (after s st t.lane d) (record { lane = t.lane; deed = d } ∷ h) t.picks (last_after t.lane last)
    (stands-later s st h t.lane d f (p.lawful, q) p) (omega (arith, e)))

by-turn : (s : Scenario) (n : ℕ) (st : State) (h : List Entry) (last : ℕ) → Formed s → StandsFor s st h → suc n + length h ≡ limit s → Turns s n
    → (t : Option Turn) → RunsAs s h (with_turn s (run_on n s) h last t) (after_turn s (runs n s) st last t)
by-turn s n st h last f p e go None = record { entries = refl; stands = p }
by-turn s n st h last f p e go (Some t) =
    subst (λ (d : Option Deed). RunsAs s h (with_entry (run_on n s) h t last (next s h t.lane)) (after_deed s (runs n s) st last t d))
    (sym (same-next s st h t.lane p))
    (by-deed s n st h t last f p e go (next s h t.lane) refl)

by-end : (s : Scenario) (n : ℕ) (st : State) (h : List Entry) (picks : List ℕ) (last : ℕ) → Formed s → StandsFor s st h → suc n + length h ≡ limit s
    → Turns s n → (x : Option Ended) → RunsAs s h (unless_ended s (run_on n s) h picks last x) (unless_over s (runs n s) st picks last x)
by-end s n st h picks last f p e go (Some x) = record { entries = refl; stands = p }
by-end s n st h picks last f p e go None =
    subst (λ (t : Option Turn). RunsAs s h (with_turn s (run_on n s) h last (turn s (sight s h) picks last)) (after_turn s (runs n s) st last t))
    (turn-same s st h picks last p)
    (by-turn s n st h last f p e go (turn s (sight s h) picks last))

pub runs-as : (s : Scenario) → Formed s → (n : ℕ) → Turns s n
runs-as s f zero st h picks last p e = record { entries = refl; stands = p }
runs-as s f (suc n) st h picks last p e =
    subst (λ (x : Option Ended). RunsAs s h (unless_ended s (run_on n s) h picks last (ended_as s h)) (unless_over s (runs n s) st picks last x))
    (ended-same s st h p (omega (arith, e)))
    (by-end s n st h picks last f p e (runs-as s f n) (ended_as s h))

pub runs-first : (s : Scenario) (n : ℕ) → Formed s → n ≡ limit s → RunsAs s [] (run_on n s [] s.picks 0) (runs n s (first_tables s) s.picks 0)
runs-first s n f e = runs-as s f n (first_tables s) [] s.picks 0 (first-stands s) (omega (arith, e))
