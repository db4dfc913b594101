-- The trace of what was read, where it has one, is whole.
use Rattle.std.specs.Prelude.{ℕ, List, Option, Some, None}
use Rattle.com_model.specs.declared.scenario.Scenario.{Scenario}
use Rattle.com_laws_check.specs.Exact.{IsWhole}

abbrev pub IsWholeTrace : Scenario → Option (List ℕ) → Type 0
IsWholeTrace s None = Unit {0}
IsWholeTrace s (Some trace) = IsWhole s trace
