use Rattle.com_print.proofs.statements.statements.write_words.Goals as goal

pub returns-in-Unmarshal-clause-ok : goal.returns-in-Unmarshal-clause-ok
returns-in-Unmarshal-clause-ok c = rw c.in-Unmarshal.is c.slot_buffer.ensures
