use Rattle.std.specs.Arc.{arc_value}
use Rattle.com_check.proofs.Agreeing.{none_agreed}
use Rattle.com_check.proofs.agreement.agreed.Goals as goal

pub returns-clause-differs : goal.returns-clause-differs
returns-clause-differs c =
    none_agreed (arc_value c.args.scenario) c.args.trace.now c.in_ok-read.read c.history_in.result c.requires c.history_in.ensures c.in_ok-read.ensures
