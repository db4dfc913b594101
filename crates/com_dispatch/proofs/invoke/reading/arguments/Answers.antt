use Rattle.std.proofs.Common.{◌≡◌, ◌<◌, List, [], ◌∷◌, ◌++◌, length, Option, Some, Ok, All, sym, subst, ◌∙◌, arith}
use Rattle.std.specs.Prelude.{IfSome}
use Rattle.std.proofs.lemmas.List.Elements.{All-push}
use Rattle.com_dispatch.specs.declared.members.DispArg.{DispArg}
use Rattle.com_dispatch.specs.Ranges.{IsDispArg}
use Rattle.com_dispatch.specs.Invoking.{item_at}
use Rattle.com_dispatch.proofs.Lines.{arguments_step}
use Rattle.com_dispatch.proofs.invoke.reading.arguments.Goals as goal

pub loop-index-preserved : goal.loop-index-preserved
loop-index-preserved c =
    let is : item_at c.args.line.now c.loop-index.index ≡ Ok (Some c.in-Some.arg) = cc (c.in_ok-arg.ensures.value, c.in-Some.is) in
    let lt : c.loop-index.index < length c.args.line.now = omega arith in
    let more : c.push.new.self.items ≡ c.loop-index.arguments.items ++ c.in-Some.arg ∷ [] = cc (c.in_ok-push.ensures.items) in
    let one : IsDispArg c.in-Some.arg = subst (λ (o : Option DispArg). IfSome o IsDispArg) c.in-Some.is c.in_ok-arg.ensures.range in
    record {
      value = arguments_step c.loop-index.arguments.items c.push.new.self.items c.args.line.now c.loop-index.index c.in-Some.arg lt is more ∙ c.loop-index.invariant.value;
      range = subst (λ (l : List DispArg). All IsDispArg l) (sym more) (All-push IsDispArg c.loop-index.arguments.items c.in-Some.arg c.loop-index.invariant.range one);
    }
