-- A page that was begun: what is known behind the last entry of a history.
use Rattle.std.specs.Prelude.{◌≡◌, Some}
use Rattle.com_model.specs.declared.scenario.Scenario.{Scenario}
use Rattle.com_model.specs.Clock.{clock}
use Rattle.com_model.specs.Ends.{all_counts, ended_as, scheduled}
use Rattle.com_draw.specs.Entries.{drawn}
use Rattle.com_draw.specs.Pages.{written}
use Rattle.com_command_draw.specs.declared.beginning.Begun.{Begun}

-- The entries of the one history of a scenario were drawn, and this is its report and how it ended.
pub record IsBegun (s : Scenario) (b : Begun) : Type 0 where
  pub drawing : b.drawing ≡ drawn s (scheduled s)
  pub text : b.text ≡ written s (scheduled s)
  pub counts : b.counts ≡ all_counts s (scheduled s)
  pub clock : b.clock ≡ clock (scheduled s)
  pub ended : ended_as s (scheduled s) ≡ Some b.ended
