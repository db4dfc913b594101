use Rattle.std.proofs.lemmas.List.{take_rest}
use Rattle.com_command_check.proofs.Checked.{verdict_at}
use Rattle.com_command_check.proofs.check.judge.Goals as goal

pub returns : goal.returns
returns c =
    verdict_at c.args.question _ c.as_slice.result.now _ c.in_ok-judged.judged c.status_of.result c.in_ok-text.text
    c.in_ok-share.ensures c.as_slice.ensures (take_rest c.as_slice.result.now c.args.question.from) c.in_ok-judged.ensures c.in_ok-text.ensures c.status_of.ensures
