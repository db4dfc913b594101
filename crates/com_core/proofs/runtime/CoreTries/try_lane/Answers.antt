-- Where memory is wanting, the state is as it was.
use Rattle.std.proofs.lemmas.Result.{on_err_weaker}
use Rattle.com_core.proofs.Kept.{same_state}
use Rattle.com_core.proofs.runtime.CoreTries.try_lane.Goals as goal

pub returns-clause-err : goal.returns-clause-err
returns-clause-err g c = on_err_weaker c.try_lane.result (same_state c.args.self.now.core c.try_lane.new.self.core) c.try_lane.ensures.err
