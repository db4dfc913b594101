-- What the command `waits` answers for an input.
use Rattle.std.specs.Prelude.{◌≡◌, List, ℕ}
use Rattle.com_model.specs.declared.scenario.Scenario.{Scenario}
use Rattle.com_model.specs.Ends.{scheduled}
use Rattle.com_waits.specs.Chains.{explanation_of}
use Rattle.com_waits.specs.Texts.{text_of}
use Rattle.com_commands.specs.declared.statuses.Status.{Status}
use Rattle.com_commands.specs.declared.statuses.Status.TheVariants as status

-- Why the one history of a scenario is stuck: which lane waits for what, and the cycle; or that it is not.
unfoldable pub explanation : Scenario → List ℕ
explanation s = text_of (explanation_of s (scheduled s))

-- The status of a scenario is 0, and what is written is why its history is stuck, or that it is not.
abbrev pub IsExplained : Scenario → Status → List ℕ → Type 0
IsExplained scenario s text = (s ≡ status.Done) × (text ≡ explanation scenario)
