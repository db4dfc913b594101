use Rattle.com_laws_activation.proofs.Found.{classes-found, interfaces-found}
use Rattle.com_laws_activation.proofs.found_by_guid.Goals as goal

pub returns-clause-classes : goal.returns-clause-classes
returns-clause-classes c = classes-found

pub returns-clause-interfaces : goal.returns-clause-interfaces
returns-clause-interfaces c = interfaces-found
