use Rattle.com_body.specs.declared.statements.Stmt.{Stmt}
use Rattle.std.specs.Prelude.{◌≡◌, List, ◌++◌}
use Rattle.com_laws_sources.specs.Bodies.{event_round}
use Rattle.com_points.specs.SourceHeads.{fire_head}
use Rattle.com_points.proofs.Behind.{peel, if_none, none_map, rounds_1, rounds_2, rounds_3, rounds_4}
use Rattle.com_points.proofs.sources.bodies.behind_rounds.Goals as goal

pub returns-in_err-rest-2-clause-none : goal.returns-in_err-rest-2-clause-none
returns-in_err-rest-2-clause-none c =
    let f : (x : List Stmt) → c.args.body.now ≡ fire_head ++ rounds_4 x → ⊥ = λ x e. c.in_err-rest-2.ensures.none (rounds_3 x)
    (peel fire_head c.in_ok-rest.rest.now (rounds_4 x) c.args.body.now c.in_ok-rest.ensures.some e) in
    if_none _ _ f

pub returns-in_err-rest-3-clause-none : goal.returns-in_err-rest-3-clause-none
returns-in_err-rest-3-clause-none c =
    let f : (x : List Stmt) → c.args.body.now ≡ fire_head ++ rounds_4 x → ⊥ = λ x e. c.in_err-rest-3.ensures.none (rounds_2 x)
    (peel event_round c.in_ok-rest-2.rest.now (rounds_3 x) c.in_ok-rest.rest.now c.in_ok-rest-2.ensures.some
    (peel fire_head c.in_ok-rest.rest.now (rounds_4 x) c.args.body.now c.in_ok-rest.ensures.some e)) in
    if_none _ _ f

pub returns-in_err-rest-4-clause-none : goal.returns-in_err-rest-4-clause-none
returns-in_err-rest-4-clause-none c =
    let f : (x : List Stmt) → c.args.body.now ≡ fire_head ++ rounds_4 x → ⊥ = λ x e. c.in_err-rest-4.ensures.none (rounds_1 x)
    (peel event_round c.in_ok-rest-3.rest.now (rounds_2 x) c.in_ok-rest-2.rest.now c.in_ok-rest-3.ensures.some
    (peel event_round c.in_ok-rest-2.rest.now (rounds_3 x) c.in_ok-rest.rest.now c.in_ok-rest-2.ensures.some
    (peel fire_head c.in_ok-rest.rest.now (rounds_4 x) c.args.body.now c.in_ok-rest.ensures.some e))) in
    if_none _ _ f

pub returns-clause-none : goal.returns-clause-none
returns-clause-none c =
    let f : ((x : List Stmt) → c.in_ok-rest-4.rest.now ≡ rounds_1 x → ⊥) → (x : List Stmt) → c.args.body.now ≡ fire_head ++ rounds_4 x → ⊥ =
    λ n x e. n x
    (peel event_round c.in_ok-rest-4.rest.now (rounds_1 x) c.in_ok-rest-3.rest.now c.in_ok-rest-4.ensures.some
    (peel event_round c.in_ok-rest-3.rest.now (rounds_2 x) c.in_ok-rest-2.rest.now c.in_ok-rest-3.ensures.some
    (peel event_round c.in_ok-rest-2.rest.now (rounds_3 x) c.in_ok-rest.rest.now c.in_ok-rest-2.ensures.some
    (peel fire_head c.in_ok-rest.rest.now (rounds_4 x) c.args.body.now c.in_ok-rest.ensures.some e)))) in
    none_map _ _ _ f c.behind_round-4.ensures.none
