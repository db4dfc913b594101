use Rattle.std.proofs.Common.{◌≡◌, drop}
use Rattle.com_filter.specs.Answers.{pending_answer}
use Rattle.com_filter.proofs.Filter.pending.Given as goal

abbrev pub invariant-loop-rule : goal.invariant-loop-rule
invariant-loop-rule l = pending_answer (drop l.rule-index l.rule-items) l.elapsed ≡ pending_answer l.rule-items l.elapsed
