use Rattle.std.proofs.Common.{◌≡◌, ◌∙◌, ◌++◌, ap, get_or, List, None}
use Rattle.com_laws_places.specs.Moves.{Move as Moving, Moves as Movings, moved}
use Rattle.com_reference_moves.proofs.Lists.{lost_more}
use Rattle.com_reference_moves.proofs.moves.Moves.lose_all.Goals as goal

pub loop-place-preserved : goal.loop-place-preserved
loop-place-preserved c =
    let one : List Moving = moved c.args.apartment (get_or c.args.places.now c.loop-place.place-index None) in
    let e : c.lose.new.self ≡ record c.loop-place.self { lost = c.loop-place.self.lost ++ one } = c.in_ok-lose.ensures in
    e ∙ ap (λ (m : Movings). record m { lost = m.lost ++ one }) c.loop-place.invariant
    ∙ ap (λ (ms : List Moving). record c.args.self.now { lost = ms }) (lost_more c.args.self.now.lost c.args.apartment c.args.places.now c.loop-place.place-index c.loop-place-test.true)
