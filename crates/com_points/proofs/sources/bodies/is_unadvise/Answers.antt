use Rattle.std.specs.Prelude.{[], ◌++◌}
use Rattle.com_laws_sources.specs.Bodies.{unadvise_body}
use Rattle.com_points.specs.SourceHeads.{unadvise_head}
use Rattle.com_points.proofs.Behind.{looks_0, moves, never, peel, unadvise_end}
use Rattle.com_points.proofs.sources.bodies.is_unadvise.Goals as goal

pub returns-in-None : goal.returns-in-None
returns-in-None c = never c.args.body.now unadvise_body (c.in-None.ensures.none (moves unadvise_end))

pub returns-in-None-behind_moves : goal.returns-in-None-behind_moves
returns-in-None-behind_moves c = never c.args.body.now unadvise_body (λ e. c.in-None-behind_moves.ensures.none unadvise_end
    (peel (unadvise_head ++ looks_0 []) c.in-Some.rest.now (moves unadvise_end) c.args.body.now c.in-Some.ensures.some e))
