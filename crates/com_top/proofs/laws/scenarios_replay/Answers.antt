use Rattle.com_top.proofs.Replayed.{scenarios_replay}
use Rattle.com_top.proofs.laws.scenarios_replay.Goals as goal

pub returns : goal.returns
returns c = scenarios_replay
