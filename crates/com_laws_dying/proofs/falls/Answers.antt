use Rattle.com_laws_dying.proofs.Losing.{members, stay, fresh, picked, fallen-after}
use Rattle.com_laws_dying.proofs.falls.Goals as goal

pub returns-clause-members : goal.returns-clause-members
returns-clause-members c = members

pub returns-clause-stay : goal.returns-clause-stay
returns-clause-stay c = stay

pub returns-clause-fresh : goal.returns-clause-fresh
returns-clause-fresh c = fresh

pub returns-clause-picked : goal.returns-clause-picked
returns-clause-picked c = picked

pub returns-clause-fallen : goal.returns-clause-fallen
returns-clause-fallen c = fallen-after
