-- How a core stands, by whether all is done, no lane can step, and a call waits for a time.
use Rattle.std.proofs.Common.{◌≡◌, true, false, is_some}
use Rattle.com_model.specs.Ends.{finished_by}
use Rattle.com_model.specs.Rules.{no_lane_can, tick_time}
use Rattle.com_view.specs.Seen.{sight_by}
use Rattle.com_view.proofs.Timed.{stands_finished, stands_running, stands_ticking, stands_stuck}
use Rattle.com_view.proofs.going_on.standing_of.Goals as goal

pub returns-then-is_finished : goal.returns-then-is_finished
returns-then-is_finished c = λ b.
    let w = c.args.view.now in
    let done : finished_by w.scenario (sight_by w b) ≡ true = cc (c.is_finished.ensures b, c.if-is_finished.true) in
    stands_finished w.scenario (sight_by w b) done

pub returns-then-not-no_lane_can : goal.returns-then-not-no_lane_can
returns-then-not-no_lane_can c = λ b.
    let w = c.args.view.now in
    let done : finished_by w.scenario (sight_by w b) ≡ false = cc (c.is_finished.ensures b, c.if-is_finished.false) in
    let none : no_lane_can w.scenario (sight_by w b) ≡ false = cc (c.no_lane_can.ensures b, c.if-not-no_lane_can.true) in
    stands_running w.scenario (sight_by w b) done none

pub returns-then-is_due : goal.returns-then-is_due
returns-then-is_due c = λ b.
    let w = c.args.view.now in
    let done : finished_by w.scenario (sight_by w b) ≡ false = cc (c.is_finished.ensures b, c.if-is_finished.false) in
    let none : no_lane_can w.scenario (sight_by w b) ≡ true = cc (c.no_lane_can.ensures b, c.if-not-no_lane_can.false) in
    let time : is_some (tick_time (sight_by w b)) ≡ true = cc (c.is_due.ensures b, c.if-is_due.true) in
    stands_ticking w.scenario (sight_by w b) done none time

pub returns-else-is_due : goal.returns-else-is_due
returns-else-is_due c = λ b.
    let w = c.args.view.now in
    let done : finished_by w.scenario (sight_by w b) ≡ false = cc (c.is_finished.ensures b, c.if-is_finished.false) in
    let none : no_lane_can w.scenario (sight_by w b) ≡ true = cc (c.no_lane_can.ensures b, c.if-not-no_lane_can.false) in
    let time : is_some (tick_time (sight_by w b)) ≡ false = cc (c.is_due.ensures b, c.if-is_due.false) in
    stands_stuck w.scenario (sight_by w b) done none time
