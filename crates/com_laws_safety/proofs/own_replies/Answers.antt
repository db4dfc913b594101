use Rattle.com_laws_safety.proofs.Caused.{legal-own, legal-replies}
use Rattle.com_laws_safety.proofs.own_replies.Goals as goal

pub returns-clause-own : goal.returns-clause-own
returns-clause-own c = legal-own

pub returns-clause-whole : goal.returns-clause-whole
returns-clause-whole c = legal-replies
