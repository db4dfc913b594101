use Rattle.com_body.specs.declared.statements.Stmt.{Stmt}
use Rattle.com_laws_sources.specs.Bodies.{take_place}
use Rattle.com_points.specs.SourceHeads.{advise_head}
use Rattle.com_points.proofs.Behind.{peel, if_none, places_0, places_1, places_2, places_3}
use Rattle.std.specs.Prelude.{◌≡◌, List, ◌∷◌, ◌++◌}
use Rattle.com_body.specs.declared.operands.Given.TheVariants as given
use Rattle.com_laws_sources.specs.Bodies.{advise_limit, leave_with}
use Rattle.com_points.proofs.sources.bodies.behind_advise.Goals as goal

pub returns-in_err-rest-2-clause-none : goal.returns-in_err-rest-2-clause-none
returns-in_err-rest-2-clause-none c =
    let f : (x : List Stmt) → c.args.body.now ≡ advise_head ++ places_0 x → ⊥ = λ x e. c.in_err-rest-2.ensures.none (places_1 x)
    (peel advise_head c.in_ok-rest.rest.now (places_0 x) c.args.body.now c.in_ok-rest.ensures.some e) in
    if_none _ _ f

pub returns-in_err-rest-4-clause-none : goal.returns-in_err-rest-4-clause-none
returns-in_err-rest-4-clause-none c =
    let f : (x : List Stmt) → c.args.body.now ≡ advise_head ++ places_0 x → ⊥ = λ x e. c.in_err-rest-4.ensures.none (places_3 x)
    (peel (take_place 1) c.in_ok-rest-3.rest.now (places_2 x) c.in_ok-rest-2.rest.now c.in_ok-rest-3.ensures.some
    (peel (take_place 0) c.in_ok-rest-2.rest.now (places_1 x) c.in_ok-rest.rest.now c.in_ok-rest-2.ensures.some
    (peel advise_head c.in_ok-rest.rest.now (places_0 x) c.args.body.now c.in_ok-rest.ensures.some e))) in
    if_none _ _ f

pub returns-in_err-rest-5-clause-none : goal.returns-in_err-rest-5-clause-none
returns-in_err-rest-5-clause-none c =
    let f : (x : List Stmt) → c.args.body.now ≡ advise_head ++ places_0 x → ⊥ = λ x e. c.in_err-rest-5.ensures.none (leave_with advise_limit given.Nothing ∷ x)
    (peel (take_place 2) c.in_ok-rest-4.rest.now (places_3 x) c.in_ok-rest-3.rest.now c.in_ok-rest-4.ensures.some
    (peel (take_place 1) c.in_ok-rest-3.rest.now (places_2 x) c.in_ok-rest-2.rest.now c.in_ok-rest-3.ensures.some
    (peel (take_place 0) c.in_ok-rest-2.rest.now (places_1 x) c.in_ok-rest.rest.now c.in_ok-rest-2.ensures.some
    (peel advise_head c.in_ok-rest.rest.now (places_0 x) c.args.body.now c.in_ok-rest.ensures.some e)))) in
    if_none _ _ f
