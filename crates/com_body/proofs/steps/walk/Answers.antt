use Rattle.std.proofs.Common.{◌≡◌, ℕ, ◌+◌, ◌≤◌, ◌<◌, ◌^◌, List, Some, length, slice_get, refl, sym, ap, subst, ◌∙◌, arith}
use Rattle.std.proofs.lemmas.Option.{slice_get_read}
use Rattle.com_body.specs.declared.frame.Cells.{Cells}
use Rattle.com_body.specs.declared.statements.Stmt.{Stmt}
use Rattle.com_body.specs.declared.steps.Done.{Done}
use Rattle.com_body.specs.Frames.{FrameView, moved}
use Rattle.com_body.specs.Bodies.{IsBody, skip_of}
use Rattle.com_body.specs.BodySteps.{Goes, effect_of, body_step}
use Rattle.com_body.specs.Done.{DoneIs, passed_over}
use Rattle.com_body.proofs.Walks.{next_place, body_step-goes}
use Rattle.com_body.proofs.steps.walk.Goals as goal

pub overflow_add-next-in-Went : goal.overflow_add-next-in-Went
overflow_add-next-in-Went c =
    let ss : List Stmt = c.statements-statements.result.now in
    let s : Stmt = c.in-Some.statement.now in
    let lookup = c.in-Some.ensures.lookup in
    let there : slice_get ss c.place.result ≡ Some s = slice_get_read ss (length ss) c.place.result s refl lookup.3.0 lookup.1 in
    let body : IsBody ss = subst IsBody (sym c.statements-statements.ensures.list) c.statements-statements.ensures.body in
    let AtMost : Done → Type 0 = λ d. passed_over d ≤ skip_of s in
    let passed : c.in-Went.passed ≤ skip_of s = subst AtMost c.in-Went.is c.in_ok-passed.ensures.passed in
    let bound : c.place.result + 1 + c.in-Went.passed < 2 ^ 32 = next_place ss c.place.result c.in-Went.passed s body there passed in
    omega (arith, bound, c.do_statement.ensures.place, c.place-in-Went.ensures, c.place.ensures)

pub loop-statement-preserved : goal.loop-statement-preserved
loop-statement-preserved c =
    let ss : List Stmt = c.statements-statements.result.now in
    let s : Stmt = c.in-Some.statement.now in
    let f : FrameView = c.loop-statement.outcome.frame in
    let d : Cells = c.loop-statement.outcome.cells in
    let g : FrameView = c.do_statement.new.frame in
    let lookup = c.in-Some.ensures.lookup in
    let at_result : slice_get ss c.place.result ≡ Some s = slice_get_read ss (length ss) c.place.result s refl lookup.3.0 lookup.1 in
    let there : slice_get ss f.place ≡ Some s = ap (λ p. slice_get ss p) (sym c.place.ensures) ∙ at_result in
    let Did : Done → Type 0 = λ x. DoneIs x (effect_of f d s) f g d c.do_statement.new.cells c.loop-statement.outcome.action c.do_statement.new.action in
    let did : (effect_of f d s ≡ Goes g c.do_statement.new.cells c.in-Went.passed) × (c.do_statement.new.action ≡ c.loop-statement.outcome.action) =
    subst Did c.in-Went.is c.in_ok-passed.ensures.done in
    let along = body_step-goes ss f g d c.do_statement.new.cells s c.in-Went.passed there did.0 c.do_statement.ensures.place in
    let place : c.place-in-Went.result + 1 + c.in-Went.passed ≡ g.place + (c.in-Went.passed + 1) = omega (arith, c.place-in-Went.ensures) in
    let at_place : ℕ → FrameView = λ p. record { place = p; registers = g.registers; slots = g.slots } in
    let next : c.set_place.new.self ≡ moved g (c.in-Went.passed + 1) = c.set_place.ensures ∙ ap at_place place in (
      did.1 ∙ c.loop-statement.invariant.0,
      ap (λ h. body_step ss h c.do_statement.new.cells) next ∙ along ∙ c.loop-statement.invariant.1,
    )
