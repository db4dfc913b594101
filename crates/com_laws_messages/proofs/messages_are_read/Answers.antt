use Rattle.com_laws_messages.proofs.Laws.{legal-reads}
use Rattle.com_laws_messages.proofs.messages_are_read.Goals as goal

pub returns : goal.returns
returns c = legal-reads
