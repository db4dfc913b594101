-- The lane that made its entry is the first one that can step.
use Rattle.std.proofs.Common.{◌≤◌, ◌+◌, ◌∙◌, arith, refl}
use Rattle.com_model.specs.Tables.{lanes}
use Rattle.com_schedule.proofs.Trying.{rounding_here, rounding_on, rounding_starts}
use Rattle.com_schedule.proofs.turns.scan.Goals as goal

pub lanes-init : goal.lanes-init
lanes-init g c = record { rounding = rounding_starts _ _ _ _ _; same = refl; kinds = c.requires.row }

pub returns-then-made-clause-tried : goal.returns-then-made-clause-tried
returns-then-made-clause-tried g c =
    let within : c.args.last + c.args.count ≤ lanes (g.C.Runtime.scenario c.args.runtime.now) = omega (arith, c.requires.within, c.requires.most) in
    rounding_here _ _ _ _ (g.C.Runtime.state c.step_if_ready.new.runtime) _ _ _ _ _ _ _ (g.C.Tries.made c.step_if_ready.new.runtime)
    c.lanes.invariant.same within c.lanes.invariant.rounding c.lanes-test.true c.in_ok-made.ensures.can c.in_ok-made.ensures.tried c.if-made.true

pub lanes-preserved : goal.lanes-preserved
lanes-preserved g c = record {
  rounding = rounding_on _ _ _ _ (g.C.Runtime.state c.step_if_ready.new.runtime) _ _ _ _ _ _ _ (g.C.Tries.made c.step_if_ready.new.runtime)
      c.lanes.invariant.same c.lanes.invariant.rounding c.lanes-test.true c.in_ok-made.ensures.can c.in_ok-made.ensures.tried c.if-made.false;
  same = c.in_ok-made.ensures.scenario ∙ c.lanes.invariant.same;
  kinds = c.in_ok-made.ensures.row;
}
