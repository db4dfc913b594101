-- Lines of lanes that wait.
use Rattle.std.specs.Prelude.{List, [], ◌∷◌}
use Rattle.com_waits.specs.declared.reasons.Why.TheVariants.{Message, Body, Pool}
use Rattle.com_waits.specs.declared.reasons.Wait.{Wait}
use Rattle.com_waits.specs.Reasons.{wait_of}

-- Lane 1 waits for a message, and lanes 2 and 3 for each other.
abbrev pub two_lanes : List Wait
two_lanes = wait_of 1 Message ∷ wait_of 2 (Body 1 3) ∷ wait_of 3 (Pool 2 2) ∷ []

-- Lane 1 waits for lane 3.
abbrev pub two_more : List Wait
two_more = wait_of 1 (Body 3 3) ∷ wait_of 2 (Body 1 3) ∷ wait_of 3 (Pool 2 2) ∷ []

-- All wait for a message.
abbrev pub pumping : List Wait
pumping = wait_of 1 Message ∷ wait_of 2 Message ∷ []

-- Lane 1 waits for lane 2.
abbrev pub waiting : List Wait
waiting = wait_of 1 (Body 1 2) ∷ []

-- The clock's lane waits for a message.
abbrev pub line_of_the_clock : List Wait
line_of_the_clock = wait_of 0 Message ∷ []
