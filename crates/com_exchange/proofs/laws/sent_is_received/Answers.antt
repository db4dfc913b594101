use Rattle.com_exchange.proofs.Receivings.{again}
use Rattle.com_exchange.proofs.laws.sent_is_received.Goals as goal

pub returns : goal.returns
returns c = again
