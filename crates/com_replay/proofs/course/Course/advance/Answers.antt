-- A turn and its line, written at once; or the report.
use Rattle.com_replay.proofs.Recording.{made_of, over_of}
use Rattle.com_replay.proofs.Streaming.{fails_broken, made_goes, made_under_way, over_broken, over_concludes, over_under_way, under_way_reached}
use Rattle.com_replay.proofs.Turning.{on_err}
use Rattle.com_replay.proofs.course.Course.advance.Goals as goal

pub step-requires-clause-reached : goal.step-requires-clause-reached
step-requires-clause-reached g c = under_way_reached _ c.requires.under_way

pub returns-in_err-step-clause-prefix : goal.returns-in_err-step-clause-prefix
returns-in_err-step-clause-prefix g c =
    on_err c.from_residual.result _ (fails_broken c.args.scenario.now _ _ c.in_err-step.ensures.prefix c.requires.under_way c.requires.none)

pub returns-in_err-replayed-in-Over-clause-prefix : goal.returns-in_err-replayed-in-Over-clause-prefix
returns-in_err-replayed-in-Over-clause-prefix g c =
    let over = over_of c.args.scenario.now _ _ _ (g.C.Tries.made c.step.new.runtime) c.in-Over.ended c.in-Over.is c.in_ok-step.ensures.step in
    on_err c.from_residual-in_err-replayed-in-Over.result _
    (over_broken c.args.scenario.now _ _ _ _ over c.in_err-replayed-in-Over.ensures.prefix c.requires.none)

pub returns-in-Made-clause-under_way : goal.returns-in-Made-clause-under_way
returns-in-Made-clause-under_way g c =
    let made = made_of c.args.scenario.now _ _ _ (g.C.Tries.made c.step.new.runtime) c.in-Made.is c.in_ok-step.ensures.step in
    made_under_way c.args.scenario.now _ _ _ made c.requires.under_way

pub returns-in-Made-clause-advances : goal.returns-in-Made-clause-advances
returns-in-Made-clause-advances g c =
    let made = made_of c.args.scenario.now _ _ _ (g.C.Tries.made c.step.new.runtime) c.in-Made.is c.in_ok-step.ensures.step in
    made_goes c.args.scenario.now _ _ _ made (c.in_ok-step.ensures.none c.requires.none) c.requires.under_way c.requires.none

pub returns-in_ok-replayed-in-Over-clause-under_way : goal.returns-in_ok-replayed-in-Over-clause-under_way
returns-in_ok-replayed-in-Over-clause-under_way g c =
    let over = over_of c.args.scenario.now _ _ _ (g.C.Tries.made c.step.new.runtime) c.in-Over.ended c.in-Over.is c.in_ok-step.ensures.step in
    over_under_way c.args.scenario.now _ _ _ over c.requires.under_way

pub returns-in_ok-replayed-in-Over-clause-advances : goal.returns-in_ok-replayed-in-Over-clause-advances
returns-in_ok-replayed-in-Over-clause-advances g c =
    let over = over_of c.args.scenario.now _ _ _ (g.C.Tries.made c.step.new.runtime) c.in-Over.ended c.in-Over.is c.in_ok-step.ensures.step in
    over_concludes c.args.scenario.now _ _ _ _ _ over c.in_ok-replayed-in-Over.ensures.answer c.in_ok-replayed-in-Over.ensures.ok c.requires.none
