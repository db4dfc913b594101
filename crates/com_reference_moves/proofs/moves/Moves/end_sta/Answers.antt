use Rattle.std.proofs.Common.{◌≡◌, ◌∙◌, ◌++◌, ◌+◌, suc, ap, List, arith}
use Rattle.com_laws_places.specs.Moves.{Move as Moving, Moves as Movings}
use Rattle.com_state.specs.Parts.{named_at}
use Rattle.com_reference_moves.proofs.Arriving.{links_one, links_more}
use Rattle.com_reference_moves.proofs.moves.Moves.end_sta.Goals as goal

pub loop-object-preserved : goal.loop-object-preserved
loop-object-preserved c =
    let one : List Moving = links_one (named_at c.args.setting.now.objects) c.args.setting.now.scene c.args.setting.now.acting c.args.setting.now.outcome c.args.deed.now c.args.apartment (c.loop-object.object + 1) in
    let e : c.end_links.new.self ≡ record c.loop-object.self { lost = c.loop-object.self.lost ++ one } = c.in_ok-end_links.ensures in
    let n : c.loop-object.object + 1 ≡ suc c.loop-object.object = omega arith in
    e ∙ ap (λ (m : Movings). record m { lost = m.lost ++ one }) c.loop-object.invariant
    ∙ ap (λ (ms : List Moving). record c.args.self.now { lost = ms })
    (links_more c.args.self.now.lost (named_at c.args.setting.now.objects) c.args.setting.now.scene c.args.setting.now.acting c.args.setting.now.outcome c.args.deed.now c.args.apartment c.loop-object.object (c.loop-object.object + 1) n)
