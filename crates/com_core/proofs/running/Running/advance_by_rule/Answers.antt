-- A lane that can step made its entry.
use Rattle.com_core.proofs.ByRules.{turned_if}
use Rattle.com_core.proofs.running.Running.advance_by_rule.Goals as goal

pub returns-then-made-clause-next : goal.returns-then-made-clause-next
returns-then-made-clause-next c =
    turned_if c.in_ok-made.made c.args.scenario.now c.args.lane c.args.self.now c.step_by_rule.new.self c.step_by_rule.new.entry c.in_ok-made.ensures.next c.if-made.true
