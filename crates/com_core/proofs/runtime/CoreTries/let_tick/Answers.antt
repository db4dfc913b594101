-- Where memory is wanting, the state is as it was.
use Rattle.std.proofs.lemmas.Result.{on_err_weaker}
use Rattle.com_core.proofs.Kept.{same_state}
use Rattle.com_core.proofs.runtime.CoreTries.let_tick.Goals as goal

pub returns-clause-err : goal.returns-clause-err
returns-clause-err c = on_err_weaker c.let_tick.result (same_state c.args.self.now.core c.let_tick.new.self.core) c.let_tick.ensures.err
