-- The laws of the language.
use Rattle.std.specs.Prelude.{◌≡◌, ℕ, ◌⊎◌, List, Result, Ok, Err}
use Rattle.com_model.specs.declared.scenario.Scenario.{Scenario}
use Rattle.com_read_operands.specs.declared.faults.ScenarioError.{ScenarioError}
use Rattle.com_read_operands.specs.declared.faults.ScenarioError.TheVariants as errors
use Rattle.com_read_operands.specs.Reading.{Gives}
use Rattle.com_scenario.specs.Scenarios.{reading}
use Rattle.com_laws_language.specs.Spelling.{Spells}

-- The reading of a text that spells a scenario is that scenario.
abbrev pub IsReading : Type 0
IsReading = (text : List ℕ) (s : Scenario) → Spells text s → reading text ≡ Ok s

-- A text whose reading is a scenario spells that scenario.
abbrev pub IsSpelled : Type 0
IsSpelled = (text : List ℕ) (s : Scenario) → reading text ≡ Ok s → Spells text s

-- A text spells one scenario at most.
abbrev pub IsOne : Type 0
IsOne = (text : List ℕ) (s t : Scenario) → Spells text s → Spells text t → s ≡ t

-- What an answer says of a text: it spells this scenario; or it spells none; or memory was short.
abbrev pub Answers : List ℕ → Result Scenario ScenarioError → Type 0
Answers text (Ok s) = Spells text s
Answers text (Err errors.Memory) = Unit {0}
Answers text (Err (errors.Fault n line column)) = (s : Scenario) → Spells text s → ⊥

-- Every answer that the contract of `parse` allows says this of its text.
abbrev pub IsAnswered : Type 0
IsAnswered = (text : List ℕ) (answer : Result Scenario ScenarioError) → Gives (λ (s : Scenario). s) answer (reading text) → Answers text answer

-- So where a text spells a scenario, every such answer is that scenario, or that memory was short.
abbrev pub IsTaken : Type 0
IsTaken = (text : List ℕ) (s : Scenario) (answer : Result Scenario ScenarioError) → Spells text s
    → Gives (λ (s : Scenario). s) answer (reading text) → (answer ≡ Ok s) ⊎ (answer ≡ Err errors.Memory)
