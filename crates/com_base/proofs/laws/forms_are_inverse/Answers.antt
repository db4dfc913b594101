use Rattle.com_base.proofs.laws.forms_are_inverse.Goals as goal
use Rattle.com_base.proofs.RoundTrips.{wire_again, wire_back, text_again}

pub returns-clause-wire : goal.returns-clause-wire
returns-clause-wire c = wire_again

pub returns-clause-bytes : goal.returns-clause-bytes
returns-clause-bytes c = λ bytes sixteen fits. (wire_back bytes sixteen fits).0

pub returns-clause-text : goal.returns-clause-text
returns-clause-text c = text_again
