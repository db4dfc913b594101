-- The scenario that is shared is the one that is read.
use Rattle.std.proofs.Common.{IfOk, subst}
use Rattle.com_model.specs.declared.scenario.Scenario.{Scenario}
use Rattle.com_replay.specs.Recorded.{IsRecorded}
use Rattle.com_replay.proofs.recorded.keep.Goals as goal

pub returns-clause-kept : goal.returns-clause-kept
returns-clause-kept g c =
    subst (λ (s : Scenario). IfOk c.keep_by-recorded.result (λ recorded. IsRecorded s recorded.entries.items recorded.ended)) c.deref.ensures c.keep_by-recorded.ensures.kept
