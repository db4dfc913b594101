use Rattle.com_commands.proofs.Answering.{responds_whole}
use Rattle.com_command_replay.specs.Histories.{IsHistory}
use Rattle.com_command_replay.specs.Scenarios.{scenario_input}
use Rattle.com_top.proofs.laws.completeness.Goals as goal

pub returns : goal.returns
returns c = responds_whole scenario_input IsHistory
