use Rattle.std.proofs.Common.{◌≡◌, ◌∙◌, ◌++◌, ◌∷◌, [], ap, List, take}
use Rattle.com_base.specs.declared.value.Value.{Value}
use Rattle.com_body.specs.Frames.{references}
use Rattle.com_laws_places.specs.Moves.{Move as Moving, Moves as Movings, all_moved}
use Rattle.com_reference_moves.proofs.Lists.{gained_more}
use Rattle.com_reference_moves.proofs.moves.Moves.gain_values.Goals as goal

pub loop-value-preserved : goal.loop-value-preserved
loop-value-preserved c =
    let v : Value = c.value-item.result in
    let one : Value → List Moving = λ (x : Value). all_moved c.args.apartment (references (x ∷ [])) in
    let e : c.gain_value.new.self ≡ record c.loop-value.self { gained = c.loop-value.self.gained ++ one v } = c.in_ok-gain_value.ensures in
    e ∙ ap (λ (m : Movings). record m { gained = m.gained ++ one v }) c.loop-value.invariant
    ∙ ap (λ (x : Value). record c.args.self.now { gained = (c.args.self.now.gained ++ all_moved c.args.apartment (references (take c.loop-value.value-index c.args.values.now))) ++ one x }) c.value-item.is
    ∙ ap (λ (ms : List Moving). record c.args.self.now { gained = ms }) (gained_more c.args.self.now.gained c.args.apartment c.args.values.now c.loop-value.value-index v c.loop-value-test.true)
