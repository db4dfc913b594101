use Rattle.com_ledger.proofs.Closing.{closed_given_up}
use Rattle.com_ledger.proofs.ends.give_up.Goals as goal

pub returns-clause-row : goal.returns-clause-row
returns-clause-row c = λ s x g owned calls call hr v left is.
    closed_given_up s x g owned calls c.args.refs.now c.drop_packet.new.refs c.tells.ensures.tells c.tells.ensures.totals call c.args.number hr v c.if-number-eq0.false left is c.drop_packet.ensures.row
