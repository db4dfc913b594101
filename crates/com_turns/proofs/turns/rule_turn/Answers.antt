-- What the rules made is the turn of the lane.
use Rattle.std.proofs.Common.{Bool, None}
use Rattle.std.proofs.lemmas.Result.{IfOk-weaker}
use Rattle.com_turns.specs.Turns.{IsNext, turn_made}
use Rattle.com_turns.proofs.Stepping.{ruled_made}
use Rattle.com_turns.proofs.turns.rule_turn.Goals as goal

pub returns : goal.returns
returns g c =
    let w = c.args.view.now in
    let b = g.B.References.books c.args.books.now in
    let d = c.rule_deed.new.deed in
    let l = c.args.lane in
    record {
      turn = IfOk-weaker c.rule_deed.result _ (λ (made : Bool). IsNext w b l None (turn_made made d))
          (λ made h. ruled_made w b l made d c.requires.body c.requires.script h) c.rule_deed.ensures;
    }
