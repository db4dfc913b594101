use Rattle.objref.specs.Grammar.{said_of}
use Rattle.objref.proofs.Spelled.{objref_again, said_fits, length-written}
use Rattle.objref.proofs.laws.written_is_read.Goals as goal

pub returns-clause-again : goal.returns-clause-again
returns-clause-again c = λ fields fits. objref_again (said_of fields) (said_fits fields fits)

pub returns-clause-size : goal.returns-clause-size
returns-clause-size c = length-written
