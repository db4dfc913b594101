-- Where memory is wanting, the state is as it was.
use Rattle.std.proofs.lemmas.Result.{on_err_weaker}
use Rattle.com_core.proofs.Kept.{same_state}
use Rattle.com_core.proofs.runtime.CoreJobs.advance.Goals as goal

pub returns-clause-err : goal.returns-clause-err
returns-clause-err c = on_err_weaker c.advance.result (same_state c.args.self.now.core c.advance.new.self.core) c.advance.ensures.err
