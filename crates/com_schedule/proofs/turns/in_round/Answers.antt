-- The first lane behind the last one that can step, and else the first one from 1 on.
use Rattle.std.proofs.Common.{ℕ, ◌-◌, ap}
use Rattle.com_runtime.proofs.Limits.{not-some}
use Rattle.com_schedule.proofs.Trying.{round_again, round_found}
use Rattle.com_schedule.proofs.turns.in_round.Goals as goal

pub returns-in-Some-clause-tried : goal.returns-in-Some-clause-tried
returns-in-Some-clause-tried g c =
    round_found _ _ _ _ _ _ _ _ _ _ c.in-Some.is (ap (λ (n : ℕ). n - c.args.last) c.lanes-most.ensures) c.in_ok-lane.ensures.tried

pub returns-clause-tried : goal.returns-clause-tried
returns-clause-tried g c =
    round_again _ _ _ _ _ _ _ _ _ _ _ _ _ _ c.in_ok-lane.ensures.scenario (not-some c.in_ok-lane.field-0 c.in_default.not-Some) (ap (λ (n : ℕ). n - c.args.last) c.lanes-most.ensures)
    c.in_ok-lane.ensures.tried c.in_ok-lane-2.ensures.tried
