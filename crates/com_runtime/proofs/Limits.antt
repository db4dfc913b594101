-- What every driver of a runtime takes from how it stands: a history that has not ended is below its limit, and
-- is neither finished nor stuck; an entry is one more.
use Rattle.std.proofs.Common.{ap, arith, map}
use Rattle.std.proofs.lemmas.Grind.{common_steps}
use Rattle.std.specs.Prelude.{◌≡◌, refl, ℕ, ◌+◌, ◌≤◌, ◌<◌, Bool, true, false, cond, ◌==◌, List, Option, Some, None}
use Rattle.com_model.specs.declared.counts.Ended.{Ended}
use Rattle.com_model.specs.declared.counts.Ended.TheVariants as ended
use Rattle.com_model.specs.declared.deeds.Entry.{Entry}
use Rattle.com_model.specs.declared.scenario.Scenario.{Scenario}
use Rattle.com_model.specs.Ends.{limit, finished_by, stuck_by}
use Rattle.com_model.specs.State.{State, sight_of}
use Rattle.com_runtime.specs.declared.runtime.Standing.TheVariants as standing
use Rattle.com_runtime.specs.Standings.{standing_of, ended_now}
use Rattle.com_runtime.specs.Turns.{IsNext}
use Rattle.com_runtime.proofs.Choices.{ended_finished, ended_stuck}

not-yet : (f k n : Bool) → cond f (Some ended.Ok) (cond k (Some ended.Stuck) (cond n (Some ended.Budget) None)) ≡ None → n ≡ false
not-yet true k n e = cc
not-yet false true n e = cc
not-yet false false true e = cc
not-yet false false false e = refl

below : (a b : ℕ) → (a == b) ≡ false → a ≤ b → a < b
below a b e p = grind (arith, common_steps, e, p)

pub below_limit : (s : Scenario) (st : State) → ended_now s st ≡ None → st.entries ≤ limit s → st.entries < limit s
unfolding ended_now
below_limit s st e p = below st.entries (limit s) (not-yet (finished_by s (sight_of s st)) (stuck_by s (sight_of s st)) (st.entries == limit s) e) p

no-end : (x : Option Ended) (y : Ended) → Some y ≡ x → x ≡ None → ⊥
no-end None y p e = cc
no-end (Some z) y p e = cc

pub not_finished : (s : Scenario) (st : State) → standing.Finished ≡ standing_of s st → ended_now s st ≡ None → ⊥
not_finished s st e n = no-end (ended_now s st) ended.Ok (ended_finished s st e) n

pub not_stuck : (s : Scenario) (st : State) → standing.Stuck ≡ standing_of s st → ended_now s st ≡ None → ⊥
not_stuck s st e n = no-end (ended_now s st) ended.Stuck (ended_stuck s st e) n

pub one_entry : (s : Scenario) (st new : State) (l : ℕ) (e : Entry) → IsNext s st l e new → new.entries ≡ st.entries + 1
one_entry s st new l e p = ap (λ (x : State). x.entries) p.becomes

abbrev pub mapped : {A : Type 0} → {B : Type 0} → List A → (A → B) → List B
mapped xs f = map f xs

pub not-some : {A : Type 0} (o : Option A) → ((x : A) → o ≡ Some x → ⊥) → o ≡ None
not-some None p = refl
not-some (Some x) p = absurd (p x refl)
