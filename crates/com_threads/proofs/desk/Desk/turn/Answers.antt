use Rattle.com_threads.proofs.Added.{adds_both, reached_at}
use Rattle.com_threads.proofs.desk.Desk.turn.Goals as goal

pub returns-in_err-turn-clause-adds : goal.returns-in_err-turn-clause-adds
returns-in_err-turn-clause-adds g c = adds_both c.args.lane _ _ _ c.in_ok-bring.ensures.adds c.in_err-turn.ensures.adds

pub returns-then-ne-clause-adds : goal.returns-then-ne-clause-adds
returns-then-ne-clause-adds g c = adds_both c.args.lane _ _ _ c.in_ok-bring.ensures.adds c.in_ok-turn.ensures.adds

pub job-requires-clause-reached : goal.job-requires-clause-reached
job-requires-clause-reached g c = reached_at _ _ _ _ c.in_ok-turn.ensures.at

pub returns-in_err-job-clause-adds : goal.returns-in_err-job-clause-adds
returns-in_err-job-clause-adds g c = adds_both c.args.lane _ _ _ c.in_ok-bring.ensures.adds c.in_ok-turn.ensures.adds

pub returns-clause-adds : goal.returns-clause-adds
returns-clause-adds g c = adds_both c.args.lane _ _ _ c.in_ok-bring.ensures.adds c.in_ok-turn.ensures.adds
