-- What the driver cannot find.
use Rattle.std.proofs.Common.{◌≡◌, ◌∙◌, ap, true, None}
use Rattle.com_runtime.specs.declared.runtime.Standing.TheVariants as standing
use Rattle.com_runtime.specs.Standings.{standing_of, ended_now, none_can_in}
use Rattle.com_runtime.proofs.Choices.{not_runs}
use Rattle.com_runtime.proofs.Limits.{not_finished, not_stuck}
use Rattle.com_model.specs.declared.scenario.Scenario.{Scenario}
use Rattle.com_model.specs.State.{State}

pub no_finish : (s running : Scenario) (st : State) → running ≡ s → standing.Finished ≡ standing_of running st → ended_now s st ≡ None → ⊥
no_finish s running st same is goes = not_finished s st (is ∙ ap (λ (x : Scenario). standing_of x st) same) goes

pub no_stuck : (s running : Scenario) (st : State) → running ≡ s → standing.Stuck ≡ standing_of running st → ended_now s st ≡ None → ⊥
no_stuck s running st same is goes = not_stuck s st (is ∙ ap (λ (x : Scenario). standing_of x st) same) goes

pub no_runs : (s : Scenario) (st : State) → standing.Runs ≡ standing_of s st → none_can_in s st ≡ true → ⊥
no_runs s st is none = not_runs s st is none
