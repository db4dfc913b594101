use Rattle.com_body.specs.declared.statements.Stmt.{Stmt}
use Rattle.std.specs.Prelude.{◌≡◌, List, ◌++◌}
use Rattle.com_laws_sources.specs.Bodies.{look_in}
use Rattle.com_points.specs.SourceHeads.{unadvise_head}
use Rattle.com_points.proofs.Behind.{peel, if_none, looks_0, looks_1, looks_2}
use Rattle.com_points.proofs.sources.bodies.behind_looks.Goals as goal

pub returns-in_err-rest-3-clause-none : goal.returns-in_err-rest-3-clause-none
returns-in_err-rest-3-clause-none c =
    let f : (x : List Stmt) → c.args.body.now ≡ unadvise_head ++ looks_0 x → ⊥ = λ x e. c.in_err-rest-3.ensures.none (looks_2 x)
    (peel (look_in 0) c.in_ok-rest-2.rest.now (looks_1 x) c.in_ok-rest.rest.now c.in_ok-rest-2.ensures.some
    (peel unadvise_head c.in_ok-rest.rest.now (looks_0 x) c.args.body.now c.in_ok-rest.ensures.some e)) in
    if_none _ _ f
