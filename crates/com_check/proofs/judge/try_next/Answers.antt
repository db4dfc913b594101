-- A lane above the last one has no entry; another one was tried.
use Rattle.std.proofs.Common.{arith, refl, rules}
use Rattle.std.proofs.lemmas.Grind.{common_steps}
use Rattle.com_check.proofs.Entries.{none_above}
use Rattle.com_check.proofs.Judging.{lane_next}
use Rattle.com_check.proofs.judge.try_next.Goals as goal

pub returns-then-lanes-lane-clause-made : goal.returns-then-lanes-lane-clause-made
returns-then-lanes-lane-clause-made g c = (refl, λ goes. none_above _ _ _ c.requires.reached first_of (search rules, grind (arith, common_steps)))

pub returns-clause-made : goal.returns-clause-made
returns-clause-made g c =
    lane_next _ _ _ _ _ _ _ _ c.requires.reached c.requires.room first_of (search rules, grind (arith, common_steps)) first_of (search rules, grind (arith, common_steps))
    c.in_ok-made.ensures.can c.in_ok-made.ensures.tried
