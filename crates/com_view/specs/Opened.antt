-- The call type over calls in either order.
use Rattle.std.specs.Prelude.{ℕ, ◌==◌, if◌then◌else◌, List, [], ◌∷◌}
use Rattle.std.specs.List.{list_any}
use Rattle.com_cause.specs.declared.TheConstants.{TOP_LEVEL, NESTED, TOP_LEVEL_CALL_PENDING}

-- CALLTYPE_TOPLEVEL where no call is open, CALLTYPE_NESTED where one of them has this causality, and else
-- CALLTYPE_TOPLEVEL_CALLPENDING.
abbrev pub type_among : (cause_of : ℕ → ℕ) → List ℕ → (cause : ℕ) → ℕ
type_among f [] k = TOP_LEVEL
type_among f (c ∷ cs) k = if list_any (λ d. f d == k) (c ∷ cs) then NESTED else TOP_LEVEL_CALL_PENDING
