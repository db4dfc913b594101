use Rattle.std.proofs.Common.{◌∙◌, ◌+◌, List, ℕ, [], ◌∷◌, ◌++◌, ap, map, drop, arith}
use Rattle.com_print_scenario.proofs.Lists.{named, class_more, class_there, classes_end}
use Rattle.com_print_scenario.proofs.names.class_names.Goals as goal

pub classes-preserved : goal.classes-preserved
classes-preserved c =
    let t = c.args.classes.now in
    let n = c.classes.number in
    let class = c.in-Some.class.now in
    record {
      named =
          ap (λ (x : List (List ℕ)). x ++ map named (drop (n + 1) t.classes)) c.in_ok-push.ensures.items
          ∙ ap (λ (x : List ℕ). (c.classes.names.items ++ x ∷ []) ++ map named (drop (n + 1) t.classes)) c.in_ok-copy.ensures
          ∙ class_more t c.classes.names.items n class c.classes.invariant.named c.in-Some.ensures;
      count = (let lt = class_there t n class c.in-Some.ensures in omega arith);
    }

pub returns : goal.returns
returns c = c.from_vec.ensures ∙ classes_end c.args.classes.now c.classes.names.items c.classes.number c.classes.invariant.named c.in_default.ensures
