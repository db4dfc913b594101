use Rattle.std.proofs.Common.{◌∙◌, map, codes}
use Rattle.com_print.specs.Spelled.{plain}
use Rattle.com_print.specs.Words.{slot_word, arg_word, destination_words}
use Rattle.com_print.specs.StatementWords.{target_word}
use Rattle.com_print.proofs.StatementPieces.{call_behind, on_ok}
use Rattle.com_print.proofs.statements.calling.call.Goals as goal

pub returns-clause-ok : goal.returns-clause-ok
returns-clause-ok c =
    on_ok c.push_destination.result _ _ c.push_destination.ensures
    (λ e. e ∙ call_behind c.args.out.now _ _ _ (plain (codes "call")) (slot_word c.args.slot)
    (target_word c.args.names.now c.args.iface c.args.method c.args.args.now c.args.destination) (map arg_word c.args.args.now) (destination_words c.args.destination)
    c.in_ok-one_slot.ensures c.in_ok-push_target.ensures c.in_ok-push_args.ensures.ok)
