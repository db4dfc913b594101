use Rattle.com_commands.proofs.Unreading.{fault_unread}
use Rattle.com_commands.proofs.sides.read_input.Goals as goal

pub returns-in-Err-ReadFault-clause-unread : goal.returns-in-Err-ReadFault-clause-unread
returns-in-Err-ReadFault-clause-unread g c =
    fault_unread c.args.limit c.say.result _ (c.in-Err-ReadFault.ensures.fault c.in-Err-ReadFault.field-0-is) c.say.ensures.said
