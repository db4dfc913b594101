-- The call type that a waiting apartment gives to a call that was posted to it.
use Rattle.std.specs.Prelude.{ℕ, List, [], ◌∷◌, ◌==◌, if◌then◌else◌}
use Rattle.std.specs.List.{list_any}
use Rattle.com_cause.specs.declared.TheConstants.{TOP_LEVEL, NESTED, TOP_LEVEL_CALL_PENDING}

-- CALLTYPE_TOPLEVEL where no call is open, CALLTYPE_NESTED where an open call has this causality, and
-- else CALLTYPE_TOPLEVEL_CALLPENDING.
abbrev pub call_type : List ℕ → ℕ → ℕ
call_type [] cause = TOP_LEVEL
call_type (out ∷ outs) cause = if list_any (λ c. c == cause) (out ∷ outs) then NESTED else TOP_LEVEL_CALL_PENDING
