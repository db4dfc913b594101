use Rattle.com_command_draw.proofs.Finished.{ended_page}
use Rattle.com_command_draw.proofs.ending.end_page.Goals as goal

pub returns : goal.returns
returns c = λ s begun explains. ended_page s c.args.begun c.args.waits c.args.events _ c.in_ok-push_end.ensures begun explains
