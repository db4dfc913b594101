use Rattle.com_commands.proofs.Answering.{responds_whole}
use Rattle.com_command_points.proofs.command.points_completeness.Goals as goal

pub returns : goal.returns
returns c = responds_whole _ _
