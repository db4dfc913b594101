use Rattle.std.proofs.Common.{arith, subst, sym, ◌∙◌}
use Rattle.std.proofs.lemmas.Result.{on_ok_weaker, IfOk-weaker}
use Rattle.com_replay.specs.Replays.{IsReplay}
use Rattle.com_replay.proofs.Driving.{driving_start_at, driving_on_step, driving_smaller, driving_over_step, driving_stopped, driving_within, reached_over_step, ended_gains, ended_prefix, on-ok}
use Rattle.com_runtime.proofs.Limits.{not-some}
use Rattle.com_runtime.proofs.Resting.{reached_by}
use Rattle.com_replay.proofs.driver.drive.Goals as goal

pub turns-init : goal.turns-init
turns-init g c = record {
  driving = driving_start_at c.args.scenario.now _ _ _ _ _ _ c.requires.first c.new-course.ensures.tried c.new-course.ensures.last c.new-course.ensures.lines;
  same = c.requires.scenario;
  last = omega (arith, c.new-course.ensures.last);
  kinds = c.requires.row;
  faults = omega arith;
}

pub turns-preserved : goal.turns-preserved
turns-preserved g c = record {
  driving = driving_on_step c.args.scenario.now _ _ _ _ (g.C.Tries.made c.step.new.runtime) _ c.requires.formed c.turns.invariant.driving c.in_ok-step.ensures.step (sym c.over.ensures ∙ not-some c.over.result c.in_default.not-Some);
  same = c.in_ok-step.ensures.scenario;
  last = c.in_ok-step.ensures.last;
  kinds = c.in_ok-step.ensures.row;
  faults = omega arith;
}

pub turns-smaller : goal.turns-smaller
turns-smaller g c = driving_smaller c.args.scenario.now _ _ _ _ (g.C.Tries.made c.step.new.runtime) _ c.turns.invariant.driving c.in_ok-step.ensures.step (sym c.over.ensures ∙ not-some c.over.result c.in_default.not-Some)

pub step-requires-clause-entries : goal.step-requires-clause-entries
step-requires-clause-entries g c = driving_within c.args.scenario.now _ _ _ c.turns.invariant.driving

pub step-requires-clause-reached : goal.step-requires-clause-reached
step-requires-clause-reached g c =
    reached_by c.args.scenario.now (g.C.Runtime.state c.turns.runtime) c.turns.invariant.driving.history c.requires.formed c.turns.invariant.driving.stands

pub finish-requires-clause-reached : goal.finish-requires-clause-reached
finish-requires-clause-reached g c =
    reached_over_step c.args.scenario.now _ _ _ _ (g.C.Tries.made c.step.new.runtime) _ _ c.requires.formed c.turns.invariant.driving c.in_ok-step.ensures.step (sym c.over.ensures ∙ c.in-Some.is)

pub returns-in_err-step-clause-prefix : goal.returns-in_err-step-clause-prefix
returns-in_err-step-clause-prefix g c = driving_stopped c.args.scenario.now _ _ _ _ c.requires.formed c.turns.invariant.driving c.in_err-step.ensures.prefix

pub returns-in-Some-clause-ok : goal.returns-in-Some-clause-ok
returns-in-Some-clause-ok g c =
    let ends = driving_over_step c.args.scenario.now _ _ _ _ (g.C.Tries.made c.step.new.runtime) _ _ c.turns.invariant.driving c.in_ok-step.ensures.step (sym c.over.ensures ∙ c.in-Some.is) in
    on_ok_weaker c.finish.result (ended_gains _ _ _ _ _ _ ends) c.finish.ensures.ok

pub returns-in-Some-clause-answer : goal.returns-in-Some-clause-answer
returns-in-Some-clause-answer g c =
    let ends = driving_over_step c.args.scenario.now _ _ _ _ (g.C.Tries.made c.step.new.runtime) _ _ c.turns.invariant.driving c.in_ok-step.ensures.step (sym c.over.ensures ∙ c.in-Some.is) in
    IfOk-weaker c.finish.result _ (IsReplay c.args.scenario.now) (λ r e. subst (IsReplay c.args.scenario.now) (sym e) ends.replay) c.finish.ensures.answer

pub returns-in-Some-clause-prefix : goal.returns-in-Some-clause-prefix
returns-in-Some-clause-prefix g c =
    let ends = driving_over_step c.args.scenario.now _ _ _ _ (g.C.Tries.made c.step.new.runtime) _ _ c.turns.invariant.driving c.in_ok-step.ensures.step (sym c.over.ensures ∙ c.in-Some.is) in
    ended_prefix _ _ _ _ _ _ ends c.finish.ensures.prefix

pub returns-in-Some-clause-served : goal.returns-in-Some-clause-served
returns-in-Some-clause-served g c =
    let ends = driving_over_step c.args.scenario.now _ _ _ _ (g.C.Tries.made c.step.new.runtime) _ _ c.turns.invariant.driving c.in_ok-step.ensures.step (sym c.over.ensures ∙ c.in-Some.is) in
    on-ok c.finish.result _ ends.counts
