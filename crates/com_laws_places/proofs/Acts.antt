-- What the action of whoever acts does to places.
use Rattle.std.specs.Prelude.{◌≡◌, refl, ℕ, ◌+◌, Option, Some, None, fold}
use Rattle.std.proofs.Common.{arith}
use Rattle.com_base.specs.declared.value.RefValue.{RefValue}
use Rattle.com_body.specs.declared.actions.Action.{Action}
use Rattle.com_body.specs.declared.actions.Action.TheVariants as action
use Rattle.com_body.specs.declared.frame.Outcome.{Outcome}
use Rattle.com_model.specs.declared.deeds.Deed.{Deed}
use Rattle.com_model.specs.declared.deeds.Deed.TheVariants as deed
use Rattle.com_model.specs.declared.scenario.Scenario.{Scenario}
use Rattle.com_model.specs.Frames.{Scene, Actor, Body, Script, Nobody, writes, written, with_frame, wants, acted}
use Rattle.com_model.specs.Places.{Ground, Test, places_that}
use Rattle.com_laws_balance.proofs.Moves.{OutBy}
use Rattle.com_laws_places.specs.Moves.{Moves, no_moves, writes_moves, acted_moves}
use Rattle.com_laws_places.proofs.Ranges.{FitsOut}
use Rattle.com_laws_places.proofs.Wholes.{Whole, writes-fit, framed-whole}
use Rattle.com_laws_places.proofs.Frames.{with_body, with_cells}
use Rattle.com_laws_places.proofs.Writes.{Stands, Moved, second-part, first-part, third-part, body-same, script-same, cells-same, moved-both, writes-move}

framed : (s : Scenario) (g : Ground) (S B : ℕ → RefValue → Type 0) (I L : Type 0) (a : Actor) (r : Outcome) (w : Scene) → Stands s g a → OutBy s S B I L a w (Some r) → Moved s g w (with_frame a r w) no_moves
framed s g S B I L (Body c o) r w p q = moved-both s g w (with_body w c r.frame) (with_cells (with_body w c r.frame) o r.cells) no_moves no_moves
    (λ a t. second-part _ _ _ _ _ _ _ (body-same s g w c o r.frame p q.slots a t))
    (λ a t. third-part _ _ _ _ _ _ _ (cells-same g (with_body w c r.frame) o r.cells p.made q.links a t))
framed s g S B I L (Script l) r w p q = λ a t. first-part _ _ _ _ _ _ _ (script-same s g w l r.frame p q.slots a t)
framed s g S B I L Nobody r w p q = λ a t. refl

wanted : (s : Scenario) (g : Ground) (x : Action) (d : Deed) (w : Scene) (a : ℕ) (t : Test) → places_that s g (wants x d w) a t ≡ places_that s g w a t
wanted s g (action.Call held i m args to) (deed.Out c o j n r k bytes) w a t = refl
wanted s g (action.Call held i m args to) _ w a t = refl
wanted s g _ d w a t = refl

same-then : (x y l m z : ℕ) → x ≡ y → y + l ≡ z + m → x + l ≡ z + m
same-then x y l m z p q = omega (arith, p, q)

pub acted-move : (s : Scenario) (g : Ground) (S B : ℕ → RefValue → Type 0) (I L : Type 0) (a : Actor) (r : Option Outcome) (d : Deed) (w : Scene) → Stands s g a → OutBy s S B I L a w r → FitsOut r → Whole w → Moved s g w (acted a r d w) (acted_moves g w a r d)
acted-move s g S B I L a None d w p q f n = λ b t. refl
acted-move s g S B I L a (Some r) d w p q f n = λ b t.
    let x : Scene = fold (written a) (with_frame a r w) (writes r.action d) in
    let y : Moves = writes_moves g (with_frame a r w) a (writes r.action d) in
    let both : Moved s g w x y = moved-both s g w (with_frame a r w) x no_moves y (framed s g S B I L a r w p q) (writes-move s g (with_frame a r w) a (writes r.action d) p (framed-whole s S B I L a r w q n) (writes-fit r.action d f)) in
    same-then _ _ _ _ _ (wanted s g r.action d x b t) (both b t)
