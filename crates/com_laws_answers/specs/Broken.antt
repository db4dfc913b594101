-- States that stand for no history of one scenario, each by one thing that a runtime would answer of it.
use Rattle.std.specs.Prelude.{◌+◌, true, [], ◌∷◌, Some}
use Rattle.com_model.specs.Lists.{tabulated}
use Rattle.com_model.specs.Cases.{direct_call}
use Rattle.com_model.specs.State.{State, first_tables}
use Rattle.com_model.specs.Tables.{lanes}

-- An entry is counted that was not made.
abbrev pub counts_too_many : State
counts_too_many = record (first_tables direct_call) { entries = 1 }

-- The clock has gone on without a Tick.
abbrev pub goes_ahead : State
goes_ahead = record (first_tables direct_call) { clock = 5 }

-- An object was made by no entry.
abbrev pub has_an_object : State
has_an_object =
    record (first_tables direct_call) { makings = Some (record { object = 1; apartment = 3; class = 1 }) ∷ [] }

-- Every lane is over before its script has begun.
abbrev pub is_over_at_once : State
is_over_at_once =
    record (first_tables direct_call) { over = tabulated (lanes direct_call + 1) (λ l. true) }
