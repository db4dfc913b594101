use Rattle.std.proofs.Common.{◌++◌, ap, ◌∙◌}
use Rattle.std.proofs.lemmas.List.{take_rest}
use Rattle.std.proofs.lemmas.Result.{on_ok_weaker}
use Rattle.com_report.proofs.lines.push_from.Goals as goal

pub returns-clause-ok : goal.returns-clause-ok
returns-clause-ok c =
    on_ok_weaker c.push_all.result (λ e. e ∙ ap (λ x. c.args.out.now ++ x) (take_rest c.args.room.now c.args.start)) c.push_all.ensures.ok
