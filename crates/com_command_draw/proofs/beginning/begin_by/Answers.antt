use Rattle.std.proofs.Common.{arith, ap, ◌∙◌}
use Rattle.com_replay.specs.Steps.{over_of as end_of}
use Rattle.com_replay.proofs.Driving.{driving_on, driving_over_step, driving_same, driving_start_at}
use Rattle.com_replay.proofs.Recording.{made_of, over_of}
use Rattle.com_command_draw.proofs.Passing.{passing_depth, passing_ends, passing_kept, passing_on_at, passing_reached, passing_room, passing_smaller_at, passing_starts, passing_within}
use Rattle.com_command_draw.proofs.beginning.begin_by.Goals as goal

pub turns-init : goal.turns-init
turns-init g c = record {
  driving = driving_start_at c.args.scenario.now _ _ _ _ _ _ c.requires.first c.new-course.ensures.tried c.new-course.ensures.last c.new-course.ensures.lines;
  passing = passing_starts c.args.scenario.now _ _ _ _ _ _ _ _ c.requires.first c.new-course.ensures.tried c.new-course.ensures.last
      c.in_ok-drawing.ensures.first c.new-text.ensures c.in_ok-drawing.ensures.text c.new-entries.ensures.items;
  same = c.requires.scenario;
  last = omega (arith, c.new-course.ensures.last);
  kinds = c.requires.row;
}

pub step-requires-clause-entries : goal.step-requires-clause-entries
step-requires-clause-entries g c = passing_within c.args.scenario.now _ _ _ _ _ _ _ c.turns.invariant.passing

pub step-requires-clause-reached : goal.step-requires-clause-reached
step-requires-clause-reached g c = passing_reached c.args.scenario.now _ _ _ _ _ _ _ c.requires.formed c.turns.invariant.passing

pub push_entry-requires : goal.push_entry-requires
push_entry-requires g c = record {
  room = passing_room c.args.scenario.now _ _ _ _ _ _ _ c.turns.invariant.passing;
  depth = passing_depth c.args.scenario.now _ _ _ _ _ _ _ c.last.result.now.lane c.turns.invariant.passing;
}

pub turns-preserved : goal.turns-preserved
turns-preserved g c =
    let made = made_of c.args.scenario.now _ _ _ (g.C.Tries.made c.step.new.runtime) c.in-Made.is c.in_ok-step.ensures.step in
    record {
      driving = driving_same c.args.scenario.now _ _ _ _ _ _ _ _ _ c.in_ok-keep-in-Made.ensures.state
          (driving_on c.args.scenario.now _ _ _ _ (g.C.Tries.made c.step.new.runtime) c.requires.formed c.turns.invariant.driving made);
      passing = passing_on_at c.args.scenario.now _ _ (g.C.Tries.made c.step.new.runtime) _ _ _ _ _ _ _ _ _ c.last.ensures c.in_ok-keep-in-Made.ensures.state c.requires.formed
          made c.turns.invariant.passing
          c.in_ok-push_entry-in-Made.ensures.after c.in_ok-push_entry-in-Made.ensures.text c.in_ok-keep-in-Made.ensures.entries;
      same = c.in_ok-keep-in-Made.ensures.scenario ∙ c.in_ok-step.ensures.scenario;
      last = c.in_ok-step.ensures.last;
      kinds = c.in_ok-step.ensures.row;
    }

pub turns-smaller : goal.turns-smaller
turns-smaller g c =
    passing_smaller_at c.args.scenario.now _ _ (g.C.Tries.made c.step.new.runtime) _ _ _ _ _ c.in_ok-keep-in-Made.ensures.state
    (made_of c.args.scenario.now _ _ _ (g.C.Tries.made c.step.new.runtime) c.in-Made.is c.in_ok-step.ensures.step) c.turns.invariant.passing

pub returns-in-Over-clause-begun : goal.returns-in-Over-clause-begun
returns-in-Over-clause-begun g c =
    passing_ends c.args.scenario.now _ _ _ _ _ _ _ c.in_ok-begun-in-Over.begun
    (over_of c.args.scenario.now _ _ _ (g.C.Tries.made c.step.new.runtime) c.in-Over.ended c.in-Over.is c.in_ok-step.ensures.step) c.turns.invariant.passing c.in_ok-begun-in-Over.ensures

pub returns-in-Over-clause-kept : goal.returns-in-Over-clause-kept
returns-in-Over-clause-kept g c = λ k.
    passing_kept c.args.scenario.now _ _ _ _ _ _ _
    (over_of c.args.scenario.now _ _ _ (g.C.Tries.made c.step.new.runtime) c.in-Over.ended c.in-Over.is c.in_ok-step.ensures.step) c.turns.invariant.passing k

pub returns-in-Over-clause-served : goal.returns-in-Over-clause-served
returns-in-Over-clause-served g c =
    let ends = driving_over_step c.args.scenario.now _ _ _ _ (g.C.Tries.made c.step.new.runtime) _ _ c.turns.invariant.driving c.in_ok-step.ensures.step (ap end_of c.in-Over.is) in
    ends.counts
