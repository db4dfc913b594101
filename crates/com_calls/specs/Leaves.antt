-- The Leaves that came after the answers of their calls. No public clause cites this module.
use Rattle.std.specs.Prelude.{ℕ, zero, suc, List, [], ◌∷◌, ◌++◌, replicate, Option, Some, None}
use Rattle.com_model.specs.declared.keeps.Leaving.{Leaving}
use Rattle.com_model.specs.Lists.{or_else}
use Rattle.com_calls.specs.Kept.{Kept}

-- The Leaves of all calls: those that came later, and else those that fixed the answers.
abbrev pub joined : List (Option Leaving) → (later : List (Option Leaving)) → List (Option Leaving)
joined [] ys = []
joined (x ∷ xs) [] = x ∷ joined xs []
joined (x ∷ xs) (y ∷ ys) = or_else y x ∷ joined xs ys

-- Where nothing was written yet, a Leave is written behind places without one.
abbrev pub alone : Option Leaving → (place : ℕ) → List (Option Leaving)
alone None k = []
alone (Some l) k = replicate k None ++ Some l ∷ []

abbrev pub with_late : List (Option Leaving) → (place : ℕ) → Option Leaving → List (Option Leaving)
with_late [] k x = alone x k
with_late (y ∷ ys) zero x = x ∷ ys
with_late (y ∷ ys) (suc k) x = y ∷ with_late ys k x

-- What leaves, by the number of a call, from 1.
abbrev pub with_late_call : List (Option Leaving) → (call : ℕ) → Option Leaving → List (Option Leaving)
with_late_call ys zero x = ys
with_late_call ys (suc k) x = with_late ys k x

abbrev pub with_later : Kept → List (Option Leaving) → Kept
with_later b ys = record b { tables = record b.tables { leavings = joined b.tables.leavings ys } }
