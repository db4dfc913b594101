use Rattle.std.specs.Prelude.{[], ◌∷◌, ◌++◌}
use Rattle.com_laws_sources.specs.Bodies.{fire_body, leave_register}
use Rattle.com_points.specs.SourceHeads.{fire_head}
use Rattle.com_points.proofs.Behind.{never, rounds_4, whole}
use Rattle.com_points.proofs.sources.bodies.is_fire.Goals as goal

pub returns-in-None : goal.returns-in-None
returns-in-None c = never c.args.body.now fire_body (c.in-None.ensures.none (leave_register 6 ∷ []))

pub returns-in-Some : goal.returns-in-Some
returns-in-Some c =
    whole (fire_head ++ rounds_4 []) c.in-Some.rest.now (leave_register 6 ∷ []) c.args.body.now c.is_fire_end.result c.in-Some.ensures.some c.is_fire_end.ensures
