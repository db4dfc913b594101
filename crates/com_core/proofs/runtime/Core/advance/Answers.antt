-- The entry of lane 0 is the clock's.
use Rattle.std.proofs.Common.{ℕ, IfOk, subst, sym}
use Rattle.com_model.specs.declared.deeds.Entry.{Entry}
use Rattle.com_runtime.specs.Turns.{IsNext}
use Rattle.com_core.specs.Seen.{core_state}
use Rattle.com_core.proofs.Kept.{next_taken}
use Rattle.com_core.proofs.runtime.Core.advance.Goals as goal

pub returns-then-lane-eq0-clause-follows : goal.returns-then-lane-eq0-clause-follows
returns-then-lane-eq0-clause-follows c =
    let v = c.args.self.now.core in
    subst (λ (n : ℕ). IfOk c.tick.result (λ (e : Entry). IsNext v.scenario (core_state v) n e (core_state c.tick.new.self.core))) (sym c.if-lane-eq0.true) c.tick.ensures.follows

pub returns-clause-follows : goal.returns-clause-follows
returns-clause-follows c = next_taken _ _ _ _ _ _ _ c.take_last.ensures.entry c.take_last.ensures.core c.in_ok-advance_lane.ensures.follows
