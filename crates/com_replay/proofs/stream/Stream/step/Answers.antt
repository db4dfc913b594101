-- A step of a stream is that of what it keeps.
use Rattle.std.proofs.Common.{List, ap, sym, subst, is_some}
use Rattle.com_core.specs.Seen.{core_state}
use Rattle.com_model.specs.declared.deeds.Entry.{Entry}
use Rattle.com_replay.specs.Streams.{Position, StandsAt}
use Rattle.com_replay.proofs.Positions.{position_seen}
use Rattle.com_replay.proofs.Streaming.{line_taken, next_taken, served_taken, stands_taken, step_broken, step_concludes, step_goes}
use Rattle.com_replay.proofs.stream.Stream.step.Goals as goal

pub returns-in-Ok-None-clause-ended : goal.returns-in-Ok-None-clause-ended
returns-in-Ok-None-clause-ended g c h stands =
    let seen = position_seen _ _ _ _ c.deref.ensures c.deref_mut.ensures.value c.self.view_is in
    let goes = step_goes _ c.args.self _ h c.advance.new.runtime.made _ _ _ _ _ seen c.in-Ok-None.field-0-is c.in-Ok-None.ensures.advances stands in
    sym (ap is_some goes.goes_on)

pub returns-in-Ok-None-clause-next : goal.returns-in-Ok-None-clause-next
returns-in-Ok-None-clause-next g c h stands =
    let seen = position_seen _ _ _ _ c.deref.ensures c.deref_mut.ensures.value c.self.view_is in
    let goes = step_goes _ c.args.self _ h c.advance.new.runtime.made _ _ _ _ _ seen c.in-Ok-None.field-0-is c.in-Ok-None.ensures.advances stands in
    next_taken c.args.self.scenario h _ _ c.take_last-entry.ensures.entry goes.next

pub returns-in-Ok-None-clause-line : goal.returns-in-Ok-None-clause-line
returns-in-Ok-None-clause-line g c h stands =
    let seen = position_seen _ _ _ _ c.deref.ensures c.deref_mut.ensures.value c.self.view_is in
    let goes = step_goes _ c.args.self _ h c.advance.new.runtime.made _ _ _ _ _ seen c.in-Ok-None.field-0-is c.in-Ok-None.ensures.advances stands in
    line_taken c.args.self.scenario h _ _ _ _ c.take_last-entry.ensures.entry goes.line

pub returns-in-Ok-None-clause-stands : goal.returns-in-Ok-None-clause-stands
returns-in-Ok-None-clause-stands g c h stands =
    let seen = position_seen _ _ _ _ c.deref.ensures c.deref_mut.ensures.value c.self.view_is in
    let goes = step_goes _ c.args.self _ h c.advance.new.runtime.made _ _ _ _ _ seen c.in-Ok-None.field-0-is c.in-Ok-None.ensures.advances stands in
    stands_taken _ _ _ _ _ _ _ _ h c.deref.ensures (ap core_state c.take_last-entry.ensures.core) c.take_last-entry.ensures.entry goes.stands

pub returns-in-Ok-None-clause-served : goal.returns-in-Ok-None-clause-served
returns-in-Ok-None-clause-served g c h stands =
    let seen = position_seen _ _ _ _ c.deref.ensures c.deref_mut.ensures.value c.self.view_is in
    let goes = step_goes _ c.args.self _ h c.advance.new.runtime.made _ _ _ _ _ seen c.in-Ok-None.field-0-is c.in-Ok-None.ensures.advances stands in
    served_taken c.args.self.scenario h _ _ _ _ c.take_last-entry.ensures.entry goes.serves

pub returns-in-Ok-Some-clause-ended : goal.returns-in-Ok-Some-clause-ended
returns-in-Ok-Some-clause-ended g c h stands =
    let seen = position_seen _ _ _ _ c.deref.ensures c.deref_mut.ensures.value c.self.view_is in
    let concludes = step_concludes _ c.args.self _ h c.advance.new.runtime.made _ _ _ _ _ c.in-Ok-Some.replayed seen c.in-Ok-Some.field-0-is c.in-Ok-Some.ensures.advances stands in
    sym (ap is_some concludes.end.ends)

pub returns-in-Ok-Some-clause-done : goal.returns-in-Ok-Some-clause-done
returns-in-Ok-Some-clause-done g c h stands =
    let seen = position_seen _ _ _ _ c.deref.ensures c.deref_mut.ensures.value c.self.view_is in
    let concludes = step_concludes _ c.args.self _ h c.advance.new.runtime.made _ _ _ _ _ c.in-Ok-Some.replayed seen c.in-Ok-Some.field-0-is c.in-Ok-Some.ensures.advances stands in
    concludes.end

pub returns-in-Ok-Some-clause-report : goal.returns-in-Ok-Some-clause-report
returns-in-Ok-Some-clause-report g c h stands =
    let seen = position_seen _ _ _ _ c.deref.ensures c.deref_mut.ensures.value c.self.view_is in
    let concludes = step_concludes _ c.args.self _ h c.advance.new.runtime.made _ _ _ _ _ c.in-Ok-Some.replayed seen c.in-Ok-Some.field-0-is c.in-Ok-Some.ensures.advances stands in
    concludes.told

pub returns-in-Ok-Some-clause-unserved : goal.returns-in-Ok-Some-clause-unserved
returns-in-Ok-Some-clause-unserved g c =
    let h : List Entry = c.self.invariant.under_way.history in
    let stands : StandsAt c.args.self h = subst (λ (p : Position). StandsAt p h) c.self.view_is c.self.invariant.under_way.stands in
    let seen = position_seen _ _ _ _ c.deref.ensures c.deref_mut.ensures.value c.self.view_is in
    let concludes = step_concludes _ c.args.self _ h c.advance.new.runtime.made _ _ _ _ _ c.in-Ok-Some.replayed seen c.in-Ok-Some.field-0-is c.in-Ok-Some.ensures.advances stands in
    concludes.same

pub returns-in-Err-clause-prefix : goal.returns-in-Err-clause-prefix
returns-in-Err-clause-prefix g c h stands =
    let seen = position_seen _ _ _ _ c.deref.ensures c.deref_mut.ensures.value c.self.view_is in
    step_broken _ c.args.self h _ _ seen c.in-Err.ensures.prefix stands
