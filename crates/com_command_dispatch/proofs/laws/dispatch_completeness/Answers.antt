use Rattle.com_scenario.specs.Sizes.{is_too_long}
use Rattle.com_commands.specs.Inputs.{input_of}
use Rattle.com_commands.proofs.Answering.{responds_whole}
use Rattle.com_dispatch.specs.Late.{late}
use Rattle.com_command_dispatch.specs.Dispatching.{IsDispatched}
use Rattle.com_command_dispatch.proofs.laws.dispatch_completeness.Goals as goal

pub returns : goal.returns
returns c = responds_whole (input_of is_too_long late) IsDispatched
