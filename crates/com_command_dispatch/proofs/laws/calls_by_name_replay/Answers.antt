use Rattle.com_command_dispatch.proofs.Answering.{behind_lines}
use Rattle.com_command_dispatch.proofs.laws.calls_by_name_replay.Goals as goal

pub returns : goal.returns
returns c = behind_lines
