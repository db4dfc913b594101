-- The turn with what the rules made in it.
use Rattle.com_turns.proofs.Stepping.{made_ruled}
use Rattle.com_turns.proofs.turns.ruled_turn.Goals as goal

pub returns : goal.returns
returns g c =
    let w = c.args.view.now in
    let b = g.B.References.books c.args.books.now in
    record {
      turn = made_ruled w b c.args.lane c.in_ok-made.made c.rule_turn.new.deed c.by_rule.result c.in_ok-made.ensures.turn
          c.by_rule.ensures.deed c.by_rule.ensures.acting c.by_rule.ensures.enclosed c.by_rule.ensures.carried;
    }
