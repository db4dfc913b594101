-- A turn is that of the lane that has it, or of the clock.
use Rattle.std.proofs.Common.{sym, ◌∙◌}
use Rattle.com_runtime.proofs.Limits.{not-some}
use Rattle.com_replay.proofs.Turning.{reached_left, tick_due, tick_room, tick_turned, turn_by_lane, turn_by_none, turn_over}
use Rattle.com_replay.proofs.course.Course.turn.Goals as goal

pub returns-then-made-clause-turn : goal.returns-then-made-clause-turn
returns-then-made-clause-turn g c = turn_by_lane _ _ _ _ c.in_ok-made.made c.if-made.true c.in_ok-made.ensures.turn

pub standing-standing-requires : goal.standing-standing-requires
standing-standing-requires g c =
    let no = (turn_by_none c.args.scenario.now _ _ (g.C.Tries.made c.lane_turn.new.runtime) c.in_ok-made.made c.if-made.false c.in_ok-made.ensures.turn) in
    reached_left _ _ c.args.scenario.now _ _ c.requires.scenario c.in_ok-made.ensures.scenario no c.requires.reached

pub returns-in-Some-clause-turn : goal.returns-in-Some-clause-turn
returns-in-Some-clause-turn g c = turn_over c.args.scenario.now _ _ c.in-Some.ended (turn_by_none c.args.scenario.now _ _ (g.C.Tries.made c.lane_turn.new.runtime) c.in_ok-made.made c.if-made.false c.in_ok-made.ensures.turn) (sym c.end_of.ensures ∙ c.in-Some.is)

pub let_tick-requires-clause-reached : goal.let_tick-requires-clause-reached
let_tick-requires-clause-reached g c =
    let no = (turn_by_none c.args.scenario.now _ _ (g.C.Tries.made c.lane_turn.new.runtime) c.in_ok-made.made c.if-made.false c.in_ok-made.ensures.turn) in
    reached_left _ _ c.args.scenario.now _ _ c.requires.scenario c.in_ok-made.ensures.scenario no c.requires.reached

pub let_tick-requires-clause-due : goal.let_tick-requires-clause-due
let_tick-requires-clause-due g c =
    let no = (turn_by_none c.args.scenario.now _ _ (g.C.Tries.made c.lane_turn.new.runtime) c.in_ok-made.made c.if-made.false c.in_ok-made.ensures.turn) in
    tick_due _ c.args.scenario.now _ _ no c.in_ok-made.ensures.scenario (sym c.end_of.ensures ∙ not-some c.end_of.result c.in_default.not-Some) c.requires.entries

pub let_tick-requires-clause-room : goal.let_tick-requires-clause-room
let_tick-requires-clause-room g c =
    let no = (turn_by_none c.args.scenario.now _ _ (g.C.Tries.made c.lane_turn.new.runtime) c.in_ok-made.made c.if-made.false c.in_ok-made.ensures.turn) in
    tick_room _ c.args.scenario.now _ _ no c.in_ok-made.ensures.scenario (sym c.end_of.ensures ∙ not-some c.end_of.result c.in_default.not-Some) c.requires.entries

pub returns-clause-turn : goal.returns-clause-turn
returns-clause-turn g c =
    let no = (turn_by_none c.args.scenario.now _ _ (g.C.Tries.made c.lane_turn.new.runtime) c.in_ok-made.made c.if-made.false c.in_ok-made.ensures.turn) in
    tick_turned _ c.args.scenario.now _ _ (g.C.Runtime.state c.let_tick.new.self) (g.C.Tries.made c.let_tick.new.self) no c.in_ok-made.ensures.scenario
    (sym c.end_of.ensures ∙ not-some c.end_of.result c.in_default.not-Some) c.requires.entries c.in_ok-let_tick.ensures.entry
