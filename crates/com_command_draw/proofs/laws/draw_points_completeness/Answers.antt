use Rattle.com_commands.proofs.Answering.{responds_whole}
use Rattle.com_command_draw.proofs.laws.draw_points_completeness.Goals as goal

pub returns : goal.returns
returns c = responds_whole _ _
