use Rattle.com_print.proofs.Whole.{statement_reads}
use Rattle.com_print.proofs.Goods.{statement_spelled}
use Rattle.com_print.proofs.Prefixes.{words_same}
use Rattle.com_print.proofs.statements.laws.written_is_read.Goals as goal

pub returns-clause-good : goal.returns-clause-good
returns-clause-good c = statement_spelled

pub returns-clause-read : goal.returns-clause-read
returns-clause-read c p names s w ws are range stands fits words =
    statement_reads p names s w ws are (record { words = words; range = range; stands = stands; fits = fits })

pub returns-clause-prefix : goal.returns-clause-prefix
returns-clause-prefix c = words_same
