-- The step of a body is one of whoever acts.
use Rattle.com_scene.specs.Actors.{acting_of}
use Rattle.com_turns.proofs.BodyLemmas.{step_is}
use Rattle.com_turns.proofs.acting.step_from.Goals as goal

pub returns-clause-in_range : goal.returns-clause-in_range
returns-clause-in_range c =
    step_is c.step.result (acting_of c.args.actor) c.args.body.now c.args.frame c.args.cells c.statements-statements.ensures.body c.requires c.step.ensures
