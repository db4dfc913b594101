use Rattle.com_laws_check.proofs.Bites.{worked-whole, text-alone, line-more, nothing}
use Rattle.com_laws_check.proofs.exactness_bites.Goals as goal

pub returns-clause-whole : goal.returns-clause-whole
returns-clause-whole c = worked-whole

pub returns-clause-text : goal.returns-clause-text
returns-clause-text c = text-alone

pub returns-clause-longer : goal.returns-clause-longer
returns-clause-longer c = line-more

pub returns-clause-nothing : goal.returns-clause-nothing
returns-clause-nothing c = nothing
