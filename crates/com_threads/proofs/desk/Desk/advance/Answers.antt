use Rattle.std.proofs.lemmas.Result.{on_ok_weaker}
use Rattle.com_threads.proofs.Added.{one_later, written_adds}
use Rattle.com_threads.proofs.desk.Desk.advance.Goals as goal

pub returns-clause-at : goal.returns-clause-at
returns-clause-at g c =
    on_ok_weaker c.write.result (λ is. one_later _ _ _ _ _ _ _ _ _ c.requires.at c.in_ok-entry.ensures.scenario c.requires.room c.in_ok-entry.ensures.entry is) c.write.ensures.ok

pub returns-clause-adds : goal.returns-clause-adds
returns-clause-adds g c = written_adds c.write.result c.args.lane _ _ c.in_ok-entry.entry c.in_ok-entry.ensures.entry.by c.write.ensures.ok c.write.ensures.err
