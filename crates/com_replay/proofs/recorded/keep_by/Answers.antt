use Rattle.std.proofs.Common.{arith, ap, inl, refl, [], ◌∷◌, ◌++◌, ◌∙◌}
use Rattle.com_model.specs.declared.deeds.Entry.{Entry}
use Rattle.com_replay.specs.Steps.{over_of as end_of}
use Rattle.com_replay.proofs.Driving.{driving_on, driving_over_step, driving_same, driving_start_at, driving_stopped, ended_gains, ended_prefix}
use Rattle.com_replay.proofs.Recording.{made_of, over_of, recording_ends, recording_goes_on, recording_reached, recording_same, recording_smaller_at, recording_starts}
use Rattle.com_replay.proofs.recorded.keep_by.Goals as goal

pub turns-init : goal.turns-init
turns-init g c = record {
  driving = driving_start_at c.args.scenario.now _ _ _ _ _ _ c.requires.first c.new-course.ensures.tried c.new-course.ensures.last c.new-course.ensures.lines;
  recording = recording_starts c.args.scenario.now _ _ _ _ c.requires.first c.new-course.ensures.tried c.new-course.ensures.last c.new-entries.ensures.items;
  same = c.requires.scenario;
  last = omega (arith, c.new-course.ensures.last);
  kinds = c.requires.row;
  faults = omega arith;
}

pub step-requires-clause-reached : goal.step-requires-clause-reached
step-requires-clause-reached g c = recording_reached c.args.scenario.now _ _ _ _ c.requires.formed c.turns.invariant.recording

pub returns-in_err-step-clause-prefix : goal.returns-in_err-step-clause-prefix
returns-in_err-step-clause-prefix g c =
    driving_stopped c.args.scenario.now _ _ _ _ c.requires.formed c.turns.invariant.driving c.in_err-step.ensures.prefix

pub turns-preserved : goal.turns-preserved
turns-preserved g c =
    let made = made_of c.args.scenario.now _ _ _ (g.C.Tries.made c.step.new.runtime) c.in-Made.is c.in_ok-step.ensures.step in
    record {
      driving = driving_same c.args.scenario.now _ _ _ _ _ _ _ _ _ c.take_last.ensures.state
          (driving_on c.args.scenario.now _ _ _ _ (g.C.Tries.made c.step.new.runtime) c.requires.formed c.turns.invariant.driving made);
      recording = recording_same c.args.scenario.now _ _ _ _ _ c.take_last.ensures.state
          (recording_goes_on c.args.scenario.now _ _ (g.C.Tries.made c.step.new.runtime) _ _ c.requires.formed made c.turns.invariant.recording
          (c.in_ok-add-in-Made.ensures ∙ ap (λ (e : Entry). c.turns.entries.items ++ e ∷ []) c.take_last.ensures.entry));
      same = c.take_last.ensures.scenario ∙ c.in_ok-step.ensures.scenario;
      last = c.in_ok-step.ensures.last;
      kinds = c.in_ok-step.ensures.row;
      faults = omega arith;
    }

pub turns-smaller : goal.turns-smaller
turns-smaller g c =
    recording_smaller_at c.args.scenario.now _ _ (g.C.Tries.made c.step.new.runtime) _ _ c.take_last.ensures.state (made_of c.args.scenario.now _ _ _ (g.C.Tries.made c.step.new.runtime) c.in-Made.is c.in_ok-step.ensures.step)
    c.turns.invariant.recording

pub returns-in_err-add-in-Made-clause-prefix : goal.returns-in_err-add-in-Made-clause-prefix
returns-in_err-add-in-Made-clause-prefix g c =
    driving_stopped c.args.scenario.now _ _ _ _ c.requires.formed
    (driving_on c.args.scenario.now _ _ _ _ (g.C.Tries.made c.step.new.runtime) c.requires.formed c.turns.invariant.driving
    (made_of c.args.scenario.now _ _ _ (g.C.Tries.made c.step.new.runtime) c.in-Made.is c.in_ok-step.ensures.step))
    (inl refl)

pub returns-in_err-finish-in-Over-clause-prefix : goal.returns-in_err-finish-in-Over-clause-prefix
returns-in_err-finish-in-Over-clause-prefix g c =
    let ends = driving_over_step c.args.scenario.now _ _ _ _ (g.C.Tries.made c.step.new.runtime) _ _ c.turns.invariant.driving c.in_ok-step.ensures.step (ap end_of c.in-Over.is) in
    ended_prefix _ _ _ _ _ _ ends c.in_err-finish-in-Over.ensures.prefix

pub returns-in-Over-clause-ok : goal.returns-in-Over-clause-ok
returns-in-Over-clause-ok g c =
    let ends = driving_over_step c.args.scenario.now _ _ _ _ (g.C.Tries.made c.step.new.runtime) _ _ c.turns.invariant.driving c.in_ok-step.ensures.step (ap end_of c.in-Over.is) in
    ended_gains _ _ _ _ _ _ ends c.in_ok-finish-in-Over.ensures.ok

pub returns-in-Over-clause-kept : goal.returns-in-Over-clause-kept
returns-in-Over-clause-kept g c =
    recording_ends c.args.scenario.now _ _ _ _ (over_of c.args.scenario.now _ _ _ (g.C.Tries.made c.step.new.runtime) c.in-Over.ended c.in-Over.is c.in_ok-step.ensures.step)
    c.turns.invariant.recording

pub returns-in-Over-clause-prefix : goal.returns-in-Over-clause-prefix
returns-in-Over-clause-prefix g c =
    let ends = driving_over_step c.args.scenario.now _ _ _ _ (g.C.Tries.made c.step.new.runtime) _ _ c.turns.invariant.driving c.in_ok-step.ensures.step (ap end_of c.in-Over.is) in
    ended_prefix _ _ _ _ _ _ ends c.in_ok-finish-in-Over.ensures.prefix

pub returns-in-Over-clause-served : goal.returns-in-Over-clause-served
returns-in-Over-clause-served g c =
    let ends = driving_over_step c.args.scenario.now _ _ _ _ (g.C.Tries.made c.step.new.runtime) _ _ c.turns.invariant.driving c.in_ok-step.ensures.step (ap end_of c.in-Over.is) in
    ends.counts
