use Rattle.std.specs.Prelude.{[], ◌++◌}
use Rattle.com_laws_sources.specs.Bodies.{advise_body}
use Rattle.com_points.specs.SourceHeads.{advise_head}
use Rattle.com_points.proofs.Behind.{never, places_0, whole}
use Rattle.com_points.proofs.sources.bodies.is_advise.Goals as goal

pub returns-in-None : goal.returns-in-None
returns-in-None c = never c.args.body.now advise_body (c.in-None.ensures.none [])

pub returns-in-Some : goal.returns-in-Some
returns-in-Some c = whole (advise_head ++ places_0 []) c.in-Some.rest.now [] c.args.body.now c.is_end.result c.in-Some.ensures.some c.is_end.ensures
