use Rattle.std.specs.Prelude.{option_copied}
use Rattle.com_exchange.proofs.Answering.{answer_again}
use Rattle.com_exchange.proofs.answer.says_answer.Goals as goal

pub returns : goal.returns
returns c =
    answer_again c.args.hr c.args.kind (option_copied c.args.value) c.args.packets.now c.number_is_in_range.ensures c.requires.travels c.requires.named
    c.result_is_in_range.ensures
