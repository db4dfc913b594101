use Rattle.std.proofs.Common.{refl}
use Rattle.com_state.proofs.Joined.{joined, calls-joined}
use Rattle.com_state.proofs.laws.after_by_parts.Goals as goal

pub returns-clause-whole : goal.returns-clause-whole
returns-clause-whole c = joined

pub returns-clause-lanes : goal.returns-clause-lanes
returns-clause-lanes c = λ s st l d. refl

pub returns-clause-objects : goal.returns-clause-objects
returns-clause-objects c = λ s st l d. refl

pub returns-clause-calls : goal.returns-clause-calls
returns-clause-calls c = calls-joined
