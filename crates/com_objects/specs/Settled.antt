-- When the list of dying objects is what the definition makes of it.
use Rattle.std.specs.Prelude.{◌≡◌, ℕ, ◌<◌, ◌≤◌, Bool, not, ◌&&◌, List, [], ◌∷◌, filter, Option}
use Rattle.com_model.specs.Lists.{is_member, is_number}

-- Each of these still dies, but for one that was released.
abbrev pub DieBut : (dying : ℕ → Bool) → Option ℕ → List ℕ → Type 0
DieBut dying freed [] = Unit {0}
DieBut dying freed (o ∷ os) = (dying o ≡ not (is_number o freed)) × DieBut dying freed os

-- Each number is above those before it; all are above the one given first, and none is above the last.
abbrev pub Rise : (low : ℕ) → List ℕ → (high : ℕ) → Type 0
Rise n [] m = n ≤ m
Rise n (o ∷ os) m = (n < o) × Rise o os m

-- These are the numbers up to n that die now and did not before, in their order.
pub record Falls (dying : ℕ → Bool) (n : ℕ) (before fresh : List ℕ) : Type 0 where
  pub rise : Rise 0 fresh n
  pub each : (o : ℕ) → 1 ≤ o → o ≤ n → is_member o fresh ≡ (dying o && not (is_member o before))

-- All but the one that was released, if one was.
abbrev pub without : Option ℕ → List ℕ → List ℕ
without freed os = filter (λ o. not (is_number o freed)) os
