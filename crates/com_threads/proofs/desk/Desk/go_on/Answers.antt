use Rattle.std.proofs.Common.{subst}
use Rattle.com_threads.proofs.Added.{adds_both, adds_clock}
use Rattle.com_threads.specs.Turns.{IsNextOf}
use Rattle.com_threads.proofs.desk.Desk.go_on.Goals as goal

pub returns-in_err-turn-clause-adds : goal.returns-in_err-turn-clause-adds
returns-in_err-turn-clause-adds g c = adds_both c.args.lane _ _ _ c.loop.invariant.adds (adds_clock c.args.lane _ _ c.in_err-turn.ensures.adds)

pub returns-in_err-advance-in-Goes-clause-adds : goal.returns-in_err-advance-in-Goes-clause-adds
returns-in_err-advance-in-Goes-clause-adds g c =
    adds_both c.args.lane _ _ _ (adds_both c.args.lane _ _ _ c.loop.invariant.adds (adds_clock c.args.lane _ _ c.in_ok-turn.ensures.adds)) c.in_err-advance-in-Goes.ensures.adds

pub returns-in_default : goal.returns-in_default
returns-in_default g c = record {
  at = c.in_ok-turn.ensures.at;
  adds = adds_both c.args.lane _ _ _ c.loop.invariant.adds (adds_clock c.args.lane _ _ c.in_ok-turn.ensures.adds);
  works = λ is. subst (IsNextOf c.args.scenario.now _ c.args.lane) is c.in_ok-turn.ensures.next;
}

pub loop-preserved : goal.loop-preserved
loop-preserved g c = record {
  at = c.in_ok-advance-in-Goes.ensures.at;
  adds = adds_both c.args.lane _ _ _ (adds_both c.args.lane _ _ _ c.loop.invariant.adds (adds_clock c.args.lane _ _ c.in_ok-turn.ensures.adds)) c.in_ok-advance-in-Goes.ensures.adds;
}
