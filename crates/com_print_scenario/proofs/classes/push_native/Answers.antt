use Rattle.std.proofs.Common.{◌∙◌, [], ◌∷◌, codes}
use Rattle.com_print.specs.Spelled.{plain}
use Rattle.com_print.proofs.StatementPieces.{on_ok}
use Rattle.com_print_scenario.proofs.Pieces.{class_behind}
use Rattle.com_print_scenario.proofs.classes.push_native.Goals as goal

pub returns-clause-ok : goal.returns-clause-ok
returns-clause-ok c =
    on_ok c.push_end.result _ _ c.push_end.ensures
    (λ e. e ∙ class_behind c.args.out.now c.push_class_head.new.out c.push_word.new.out (codes "native") c.args.class.now
    (plain c.args.kind.now ∷ []) c.in_ok-push_class_head.ensures.ok c.in_ok-push_word.ensures)
