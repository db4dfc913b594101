use Rattle.com_laws_messages.proofs.Laws.{packets-apart}
use Rattle.com_laws_messages.proofs.packets_are_told_apart.Goals as goal

pub returns : goal.returns
returns c = packets-apart
