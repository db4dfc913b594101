use Rattle.com_command_migrate.proofs.Moves.{moves_by}
use Rattle.com_command_migrate.proofs.tracing.traces_move.Goals as goal

pub returns : goal.returns
returns c = moves_by
