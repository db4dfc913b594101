use Rattle.com_body.specs.declared.statements.Stmt.{Stmt}
use Rattle.std.specs.Prelude.{◌≡◌, List}
use Rattle.com_laws_sources.specs.Bodies.{look_at}
use Rattle.com_points.proofs.Behind.{peel, if_none, none_map, finds_0, finds_1, finds_2, finds_3, sends}
use Rattle.com_points.proofs.sources.bodies.behind_round.Goals as goal

pub returns-in_err-rest-2-clause-none : goal.returns-in_err-rest-2-clause-none
returns-in_err-rest-2-clause-none c =
    let f : (x : List Stmt) → c.args.body.now ≡ finds_0 x → ⊥ = λ x e. c.in_err-rest-2.ensures.none (finds_2 x)
    (peel (look_at 0) c.in_ok-rest.rest.now (finds_1 x) c.args.body.now c.in_ok-rest.ensures.some e) in
    if_none _ _ f

pub returns-in_err-rest-3-clause-none : goal.returns-in_err-rest-3-clause-none
returns-in_err-rest-3-clause-none c =
    let f : (x : List Stmt) → c.args.body.now ≡ finds_0 x → ⊥ = λ x e. c.in_err-rest-3.ensures.none (finds_3 x)
    (peel (look_at 1) c.in_ok-rest-2.rest.now (finds_2 x) c.in_ok-rest.rest.now c.in_ok-rest-2.ensures.some
    (peel (look_at 0) c.in_ok-rest.rest.now (finds_1 x) c.args.body.now c.in_ok-rest.ensures.some e)) in
    if_none _ _ f

pub returns-clause-none : goal.returns-clause-none
returns-clause-none c =
    let f : ((x : List Stmt) → c.in_ok-rest-4.rest.now ≡ sends x → ⊥) → (x : List Stmt) → c.args.body.now ≡ finds_0 x → ⊥ =
    λ n x e. n x
    (peel (look_at 3) c.in_ok-rest-4.rest.now (sends x) c.in_ok-rest-3.rest.now c.in_ok-rest-4.ensures.some
    (peel (look_at 2) c.in_ok-rest-3.rest.now (finds_3 x) c.in_ok-rest-2.rest.now c.in_ok-rest-3.ensures.some
    (peel (look_at 1) c.in_ok-rest-2.rest.now (finds_2 x) c.in_ok-rest.rest.now c.in_ok-rest-2.ensures.some
    (peel (look_at 0) c.in_ok-rest.rest.now (finds_1 x) c.args.body.now c.in_ok-rest.ensures.some e)))) in
    none_map _ _ _ f c.behind_send_event.ensures.none
