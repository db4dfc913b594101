-- What the laws refuse.
use Rattle.std.proofs.Common.{arith}
use Rattle.std.specs.Prelude.{◌≡◌, refl, ℕ, ◌≤◌, true, false, [], ◌∷◌, Option, Some, None}
use Rattle.com_model.specs.Cases.{direct_call}
use Rattle.com_waits.specs.Chains.{cycle_of, next_in}
use Rattle.com_waits.specs.Laws.{IsRing, leads}
use Rattle.com_laws_rings.specs.Rings.{AllDifferent, BeginsLeast, EachNamesLanes, LeadsInto}
use Rattle.com_laws_rings.specs.Examples.{line_of_the_clock, pumping, two_lanes, two_more, waiting}

pub two-cycle : cycle_of two_lanes ≡ 2 ∷ 3 ∷ []
two-cycle = refl

pub third-cycle : cycle_of two_more ≡ 2 ∷ 3 ∷ []
third-cycle = refl

pub no-cycle : cycle_of pumping ≡ []
no-cycle = refl

none-some : (n : ℕ) → ◌≡◌ {A = Option ℕ} None (Some n) → ⊥
none-some n e = cc

some-none : (n : ℕ) → ◌≡◌ {A = Option ℕ} (Some n) None → ⊥
some-none n e = cc

pub ring-bites : IsRing direct_call [] (1 ∷ []) → ⊥
ring-bites p = none-some 1 p

pub least-bites : BeginsLeast (3 ∷ 2 ∷ []) → ⊥
least-bites p = let z : 3 ≤ 2 = p 2 refl in absurd (omega (arith, z))

pub once-bites : AllDifferent (2 ∷ 3 ∷ 2 ∷ 3 ∷ []) → ⊥
once-bites p = let no : true ≡ false = p.0 in cc

pub entered-bites : LeadsInto direct_call [] [] 1 → ⊥
entered-bites p = let no : false ≡ true = p.inside in cc

pub line-bites : EachNamesLanes direct_call [] line_of_the_clock → ⊥
line-bites p = let z : 1 ≤ 0 = p.0.lane.0 in absurd (omega (arith, z))

pub relation-bites : next_in waiting 1 ≡ leads direct_call [] 1 → ⊥
relation-bites p = some-none 2 p
