use Rattle.std.proofs.Common.{subst}
use Rattle.com_model.specs.declared.scenario.Scenario.{Scenario}
use Rattle.com_command_replay.specs.Replays.{IsReplay}
use Rattle.com_top.proofs.load.replay_load.Goals as goal

pub returns-in-Ok-clause-answer : goal.returns-in-Ok-clause-answer
returns-in-Ok-clause-answer g c = subst (λ (x : Scenario). IsReplay x c.in-Ok.replayed) c.in_ok-share.ensures c.in-Ok.ensures.answer
