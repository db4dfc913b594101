use Rattle.std.proofs.Common.{◌≡◌, ◌++◌, ◌∷◌, [], ◌∙◌, map, codes}
use Rattle.com_print.specs.Spelled.{plain, words_text, more_text}
use Rattle.com_print.proofs.StatementPieces.{on_ok}
use Rattle.com_print_scenario.specs.Printed.{kind_word, result_words}
use Rattle.com_print_scenario.proofs.Pieces.{method_behind}
use Rattle.com_print_scenario.proofs.interfaces.push_method.Goals as goal

pub returns : goal.returns
returns c =
    let first : c.push_named.new.out ≡ c.args.out.now ++ words_text (plain (codes "method") ∷ plain c.args.method.now.name ∷ []) = cc (c.in_ok-push_named.ensures, c.as_slice.ensures) in
    let second : c.push_kinds.new.out ≡ c.push_named.new.out ++ more_text (map (kind_word c.args.names.now) c.args.method.now.params) = cc (c.in_ok-push_kinds.ensures, c.as_slice-2.ensures) in
    on_ok c.push_end.result _ _ c.push_end.ensures
    (λ e. e ∙ method_behind c.args.out.now c.push_named.new.out c.push_kinds.new.out c.push_result.new.out c.args.method.now.name
    (map (kind_word c.args.names.now) c.args.method.now.params) (result_words c.args.names.now c.args.method.now.result)
    first second c.in_ok-push_result.ensures)
