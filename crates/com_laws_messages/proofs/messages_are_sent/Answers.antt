use Rattle.com_laws_messages.proofs.Laws.{legal-sends}
use Rattle.com_laws_messages.proofs.messages_are_sent.Goals as goal

pub returns : goal.returns
returns c = legal-sends
