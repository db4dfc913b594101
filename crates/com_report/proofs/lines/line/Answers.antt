use Rattle.std.proofs.Common.{◌++◌, ap, ◌∙◌}
use Rattle.std.proofs.lemmas.Result.{on_ok_weaker}
use Rattle.com_report.proofs.lines.line.Goals as goal

pub returns-clause-ok : goal.returns-clause-ok
returns-clause-ok c =
    on_ok_weaker c.push_from.result (λ e. e ∙ ap (λ x. c.args.out.now ++ x) c.entry_line-start.ensures.written) c.push_from.ensures.ok
