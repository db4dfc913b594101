use Rattle.std.proofs.Common.{◌≡◌, drop}
use Rattle.com_filter.specs.Answers.{retry_answer}
use Rattle.com_filter.proofs.Filter.retry.Given as goal

abbrev pub invariant-loop-rule : goal.invariant-loop-rule
invariant-loop-rule l = retry_answer (drop l.rule-index l.rule-items) l.verdict l.elapsed ≡ retry_answer l.rule-items l.verdict l.elapsed
