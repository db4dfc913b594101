use Rattle.std.proofs.lemmas.Result.{on_ok_weaker}
use Rattle.com_threads.proofs.Added.{one_later, written_adds}
use Rattle.com_threads.proofs.desk.Desk.commit.Goals as goal

pub returns-in-Ok-clause-at : goal.returns-in-Ok-clause-at
returns-in-Ok-clause-at g c =
    on_ok_weaker c.write.result (λ is. one_later _ _ _ _ _ _ _ _ _ c.requires.at c.in-Ok.ensures.scenario (c.is_full.ensures c.if-is_full.false) c.in-Ok.ensures.entry is) c.write.ensures.ok

pub returns-in-Ok-clause-adds : goal.returns-in-Ok-clause-adds
returns-in-Ok-clause-adds g c = written_adds c.write.result c.args.lane _ _ c.in-Ok.entry c.in-Ok.ensures.entry.by c.write.ensures.ok c.write.ensures.err
