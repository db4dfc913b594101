-- The lane that a line names.
use Rattle.std.proofs.Common.{sym, subst, ◌∙◌, arith}
use Rattle.std.specs.Prelude.{◌≡◌, ℕ, ◌<◌, ◌≤◌, ◌^◌, List, Option, Some}
use Rattle.com_model.specs.declared.deeds.Entry.{Entry}
use Rattle.com_model.specs.declared.scenario.Scenario.{Scenario}
use Rattle.com_model.specs.State.{State}
use Rattle.com_runtime.specs.Turns.{IsNext}
use Rattle.com_check.specs.Fronts.{IsNoLane, named}
use Rattle.com_replay.specs.Nexts.{HasNext}
use Rattle.com_check.specs.AgreedLines.{IsMadeFor, NamesNext}

same-lane : (x : Option ℕ) (l k : ℕ) → x ≡ Some l → x ≡ Some k → l ≡ k
same-lane x l k a b = one (sym a ∙ b)
  where
    one : Some l ≡ Some k → l ≡ k
    one e = cc

pub has_named : (s : Scenario) (st : State) (line : List ℕ) (l : ℕ) → NamesNext s st line → named line ≡ Some l → HasNext s st l
has_named s st line l p e = subst (HasNext s st) (same-lane (named line) p.lane l p.names e) p.next

pub names_lane : (s : Scenario) (st : State) (line : List ℕ) → NamesNext s st line → IsNoLane (named line) → ⊥
names_lane s st line p none = too-low (subst IsNoLane p.names none)
  where
    too-low : IsNoLane (Some p.lane) → ⊥
    too-low high = let low : p.lane < 2 ^ 32 = p.low in let h : 2 ^ 32 ≤ p.lane = high in omega (arith, low, h)

pub made_for : (s : Scenario) (st new : State) (line : List ℕ) (l : ℕ) (e : Entry) → named line ≡ Some l → IsNext s st l e new → IsMadeFor s st line e new
made_for s st new line l e names p = record {
  names = subst (λ (k : ℕ). named line ≡ Some k) (sym p.by) names;
  next = subst (λ (k : ℕ). IsNext s st k e new) (sym p.by) p;
}
