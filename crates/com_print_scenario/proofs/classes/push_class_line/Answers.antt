use Rattle.std.proofs.Common.{◌≡◌, ◌++◌, ◌∙◌, map, codes}
use Rattle.com_print.specs.Spelled.{more_text}
use Rattle.com_print.proofs.StatementPieces.{on_ok}
use Rattle.com_print_scenario.specs.Printed.{interface_name}
use Rattle.com_print_scenario.proofs.Pieces.{class_behind}
use Rattle.com_print_scenario.proofs.classes.push_class_line.Goals as goal

pub returns-clause-ok : goal.returns-clause-ok
returns-clause-ok c =
    let listed : c.push_listed.new.out ≡ c.push_class_head.new.out ++ more_text (map (interface_name c.args.names.now) c.args.class.now.interfaces) = cc (c.in_ok-push_listed.ensures, c.as_slice.ensures) in
    on_ok c.push_end.result _ _ c.push_end.ensures
    (λ e. e ∙ class_behind c.args.out.now c.push_class_head.new.out c.push_listed.new.out (codes "class") c.args.class.now
    (map (interface_name c.args.names.now) c.args.class.now.interfaces) c.in_ok-push_class_head.ensures.ok listed)
