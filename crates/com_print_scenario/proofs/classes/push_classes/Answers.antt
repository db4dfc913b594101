use Rattle.std.proofs.Common.{◌∙◌, arith}
use Rattle.com_print_scenario.proofs.Lists.{class_there}
use Rattle.com_print_scenario.proofs.Pieces.{class_first, classes_fit}
use Rattle.com_print_scenario.proofs.classes.push_classes.Goals as goal

pub classes-preserved : goal.classes-preserved
classes-preserved c =
    let t = c.args.classes.now in
    let n = c.classes.number in
    let class = c.in-Some.class.now in
    record {
      text = class_first c.classes.out c.push_class.new.out c.args.names.now t n class c.in-Some.ensures c.in_ok-push_class.ensures.ok ∙ c.classes.invariant.text;
      fits = classes_fit t n class t.classes c.in-Some.ensures c.classes.invariant.fits c.in_ok-push_class.ensures.fits;
      count = (let lt = class_there t n class c.in-Some.ensures in omega arith);
    }
