use Rattle.com_laws_safe.proofs.Schedule.{legal-end}
use Rattle.com_laws_safe.proofs.written.scheduled_ends.Goals as goal

pub returns : goal.returns
returns c = legal-end
