use Rattle.com_laws_load.proofs.Reading.{formed, read_again}
use Rattle.com_laws_load.proofs.loads_are_read.Goals as goal

pub returns-clause-read : goal.returns-clause-read
returns-clause-read c = read_again

pub returns-clause-formed : goal.returns-clause-formed
returns-clause-formed c = formed
