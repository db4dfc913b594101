use Rattle.com_commands.proofs.Answering.{responds_whole}
use Rattle.com_commands.specs.Inputs.{input_of}
use Rattle.com_command_run.specs.Runs.{IsRun}
use Rattle.com_scenario.specs.Scenarios.{reading}
use Rattle.com_scenario.specs.Sizes.{is_too_long}
use Rattle.com_command_run.proofs.laws.run_is_complete.Goals as goal

pub returns : goal.returns
returns c = responds_whole (input_of is_too_long reading) IsRun
