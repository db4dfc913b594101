use Rattle.com_print.proofs.Scanned.{lines_again, words_again}
use Rattle.com_print.proofs.words.laws.written_is_read.Goals as goal

pub returns-clause-words : goal.returns-clause-words
returns-clause-words c = words_again

pub returns-clause-whole : goal.returns-clause-whole
returns-clause-whole c = lines_again
