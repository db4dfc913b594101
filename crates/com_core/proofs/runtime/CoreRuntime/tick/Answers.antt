-- Where memory is wanting, the state is as it was.
use Rattle.std.proofs.lemmas.Result.{on_err_weaker}
use Rattle.com_core.proofs.Kept.{same_state}
use Rattle.com_core.proofs.runtime.CoreRuntime.tick.Goals as goal

pub returns-clause-err : goal.returns-clause-err
returns-clause-err c = on_err_weaker c.tick.result (same_state c.args.self.now.core c.tick.new.self.core) c.tick.ensures.err
