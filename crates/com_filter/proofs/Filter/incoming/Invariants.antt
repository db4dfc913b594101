use Rattle.std.proofs.Common.{◌≡◌, drop}
use Rattle.com_filter.specs.Answers.{incoming_answer}
use Rattle.com_filter.proofs.Filter.incoming.Given as goal

abbrev pub invariant-loop-rule : goal.invariant-loop-rule
invariant-loop-rule l = incoming_answer (drop l.rule-index l.rule-items) l.call_type l.elapsed ≡ incoming_answer l.rule-items l.call_type l.elapsed
